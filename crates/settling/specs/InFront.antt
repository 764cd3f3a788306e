-- Detail: how those away at the front of a line are found. Whoever is first of those who are not away gets the flag, and all who are away and older are dropped
-- (`in_front`: where the tickets in line have one order, this is `drop_away`).
use Rattle.std.specs.Prelude.{ℕ, ◌<◌, Bool, true, cond, ◌&&◌, List, ◌≢◌, ◌≡◌, get_or, set}
use Rattle.ticket.specs.Order.{compare, Window}
use Rattle.ticket.specs.declared.kinds.Ticket.{Ticket}
use Rattle.ticket.specs.declared.order.Comparison.TheVariants.{Same}
use Rattle.parts.specs.Fold.{up_to}
use Rattle.parts.specs.State.{is_away}
use Rattle.parts.specs.Parts.{blank, idle, dropped, register_in}
use Rattle.parts.specs.declared.kinds.Core.{Core}
use Rattle.parts.specs.declared.kinds.LockUnit.{LockUnit}
use Rattle.parts.specs.declared.kinds.Register.{Register}
use Rattle.settling.specs.Line.{in_line, is_older}
use Rattle.settling.specs.Dropping.{dropping}
use Rattle.settling.specs.Best.{Best, Nobody, Won}
use Rattle.settling.specs.declared.dropping.Dropping.{Dropping}

-- the tickets in line lie in one window behind a counter, and no two compare the same
pub record InOrder (n : ℕ) (x : LockUnit) : Type 0 where
  pub counter : ℕ
  pub recent : (j : ℕ) → j < n → in_line (register_in x j) ≡ true → Window counter (register_in x j).ticket.0
  pub apart :
      (i j : ℕ) → i < n → j < n → i ≢ j → in_line (register_in x i) ≡ true → in_line (register_in x j) ≡ true →
      compare (register_in x i).ticket.0 (register_in x j).ticket.0 ≢ Same

-- the list in which each of the first n of whom p holds became what f says
abbrev pub changed_to : {A : Type 0} → (ℕ → Bool) → (ℕ → A) → ℕ → List A → List A
changed_to p f n l = up_to (λ (k : ℕ) (m : List _). cond (p k) (set m k (f k)) m) n l

abbrev pub with_registers : LockUnit → List Register → LockUnit
with_registers x l = record { registers = l; next = x.next }

-- core k is away
abbrev pub away_at : List Core → ℕ → Bool
away_at cs k = is_away (get_or cs k idle).state

-- the register of core c, unless it is away
abbrev pub unless_away : Core → Register → Register
unless_away c r = cond (is_away c.state) blank r

-- the unit without those who are away
abbrev pub present : ℕ → LockUnit → List Core → LockUnit
present n x cs = with_registers x (changed_to (away_at cs) (λ (k : ℕ). blank) n x.registers)

-- a ticket stands before whoever is first
abbrev pub before : Best → Ticket → Bool
before b t = elim b [ Nobody ↦ true | Won k w ↦ is_older (compare t.0 w.0) ]

-- core c, whose register is r, is dropped
abbrev pub goes : Best → Core → Register → Bool
goes b c r = in_line r && is_away c.state && before b r.ticket

abbrev pub goes_at : Best → LockUnit → List Core → ℕ → Bool
goes_at b x cs k = goes b (get_or cs k idle) (register_in x k)

-- all who are, of the first n
abbrev pub dropped_before : ℕ → Best → LockUnit → List Core → Dropping
dropped_before n b x cs =
    dropping (with_registers x (changed_to (goes_at b x cs) (λ (k : ℕ). blank) n x.registers)) (changed_to (goes_at b x cs) (λ (k : ℕ). dropped (get_or cs k idle)) n cs)
