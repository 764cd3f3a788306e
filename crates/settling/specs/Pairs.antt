-- The comparators: "every pair of registers has its own", each judged once; the winner is the core in line that loses to nobody.
use Rattle.std.specs.Prelude.{ℕ, ◌+◌, Bool, true, false, cond, ◌&&◌, not, ◌||◌, List, [], ◌∷◌, ◌++◌, eqb, get_or, set, replicate}
use Rattle.ticket.specs.Kinds.{ticket}
use Rattle.ticket.specs.Order.{compare}
use Rattle.ticket.specs.declared.order.Comparison.{Comparison}
use Rattle.ticket.specs.declared.order.Comparison.TheVariants.{Older, Younger, Same, Opposite}
use Rattle.parts.specs.Fold.{up_to, one}
use Rattle.parts.specs.Parts.{cores, core_no, register_in}
use Rattle.parts.specs.declared.kinds.LockUnit.{LockUnit}
use Rattle.settling.specs.Line.{in_line, is_older, chosen}
use Rattle.settling.specs.Best.{Best, Nobody, Won}

-- f for each pair of one before j with j, and for each pair below n: one loop around the other
abbrev pub column : {A : Type 0} → (ℕ → ℕ → A → A) → ℕ → A → A
column f j a = up_to (λ (i : ℕ). f i j) j a

abbrev pub over_pairs : {A : Type 0} → (ℕ → ℕ → A → A) → ℕ → A → A
over_pairs f n a = up_to (column f) n a

-- the list of the pairs that it goes through
abbrev pub listed : ℕ → ℕ → List (ℕ × ℕ) → List (ℕ × ℕ)
listed i j ps = ps ++ ((i, j) ∷ [])

abbrev pub pairs : ℕ → List (ℕ × ℕ)
pairs n = over_pairs listed n []

-- f for each of a list of pairs
unfoldable pub through : {A : Type 0} → (ℕ → ℕ → A → A) → List (ℕ × ℕ) → A → A
through f [] a = a
through f (p ∷ ps) a = through f ps (f p.0 p.1 a)

-- how often a pair stands in a list
unfoldable pub times : ℕ → ℕ → List (ℕ × ℕ) → ℕ
times i j [] = 0
times i j (p ∷ ps) = one (eqb i p.0 && eqb j p.1) + times i j ps

-- which cores lost: nobody yet, core k too, and whether it did
abbrev pub unmarked : List Bool
unmarked = replicate cores false

abbrev pub marked : List Bool → ℕ → List Bool
marked l k = set l k true

abbrev pub lost : List Bool → ℕ → Bool
lost l k = get_or l k false

-- who of the pair i, j loses, by what i's ticket is, seen from j's: the one that is not older
abbrev pub loses : Comparison → ℕ → ℕ → List Bool → List Bool
loses c i j l = elim c [ Older ↦ marked l j | Younger ↦ marked l i | Same ↦ marked (marked l i) j | Opposite ↦ marked (marked l i) j ]

abbrev pub is_younger : Comparison → Bool
is_younger c = elim c [ Older ↦ false | Younger ↦ true | Same ↦ false | Opposite ↦ false ]

-- the comparator of a pair: only registers in line take part
abbrev pub judged : LockUnit → ℕ → ℕ → List Bool → List Bool
judged x i j l =
    cond (in_line (register_in x i) && in_line (register_in x j))
    (loses (compare (register_in x i).ticket.0 (register_in x j).ticket.0) i j l)
    l

abbrev pub all_judged : ℕ → LockUnit → List Bool
all_judged n x = over_pairs (judged x) n unmarked

-- core k is in line and did not lose
abbrev pub stays : LockUnit → List Bool → ℕ → Bool
stays x l k = in_line (register_in x k) && not (lost l k)

abbrev pub unbeaten : ℕ → LockUnit → List Bool → Best
unbeaten n x l = up_to (chosen x (stays x l)) n Nobody

-- those who stand in line, by rising core: how many, and by their places who, and with which tickets
pub record Line : Type 0 where
  pub count : ℕ
  pub who : List ℕ
  pub tickets : List ℕ

abbrev pub nobody_lined : Line
nobody_lined = record { count = 0; who = replicate cores 0; tickets = replicate cores 0 }

-- core k stands behind them with the ticket t
abbrev pub joined : Line → ℕ → ℕ → Line
joined w k t = record { count = w.count + 1; who = set w.who w.count k; tickets = set w.tickets w.count t }

-- those of the first n
abbrev pub lined : ℕ → LockUnit → Line
lined n x = up_to (λ (k : ℕ) (w : Line). cond (in_line (register_in x k)) (joined w k (register_in x k).ticket.0) w) n nobody_lined

-- the core at place a loses to one with the ticket t, and the other way round; and its mark
abbrev pub overtaken : List ℕ → ℕ → ℕ → Bool
overtaken tickets t a = not (is_older (compare (get_or tickets a 0) t))

abbrev pub overtakes : List ℕ → ℕ → ℕ → Bool
overtakes tickets t a = not (is_younger (compare (get_or tickets a 0) t))

abbrev pub met : List ℕ → ℕ → ℕ → List Bool → List Bool
met tickets t a m = set m a (get_or m a false || overtaken tickets t a)

-- the core at place a, unless it lost
abbrev pub kept : List ℕ → List ℕ → List Bool → ℕ → Best → Best
kept who tickets m a best = cond (get_or m a false) best (Won (core_no (get_or who a 0)) (ticket (get_or tickets a 0)))
