-- Settling all units is settling those that the step touched. A unit with nothing to settle is passed over; so the fold over all
-- units stands still but at the touched ones, and giving up every register stands still but at the units where the core stood.
use Prim.Native.Nat.{ℕ, zero, suc, ◌≤◌, ◌<◌}
use mathlib.Core.Bool.{Bool, true, false, cond}
use mathlib.Core.List.{List, [], ◌++◌, append-nil}
use mathlib.Core.Logic.{◌≢◌}
use mathlib.Core.Path.{◌≡◌, refl, sym, ◌∙◌, ap, ap₂, subst}
use native.Mathlib.Omega.{arith}
use lib.Dec.{eqb}
use lib.Seq.{set-get_or}
use borrow.Author.Tests.{eqb-true, eqb-false}
use Rattle.ticket.specs.declared.kinds.Ticket.{Ticket}
use Rattle.ticket.specs.declared.kinds.UnitNo.{UnitNo}
use Rattle.parts.specs.Fold.{up_to}
use Rattle.parts.specs.Parts.{cores, units, blank, flagged, absent_unit}
use Rattle.block.specs.Table.{unit_of, register_of, with_unit, with_register}
use Rattle.parts.specs.Answer.{packed}
use Rattle.settling.specs.Line.{flags, in_line, next, won}
use Rattle.settling.specs.Dropping.{dropping, away_as, away_next, drop_away}
use Rattle.block.specs.Settle.{winner, give, show, Settling, with_dropping, drop_at, grant_next, settle_next, settle}
use Rattle.block.specs.Steps.{settled, clear, give_up}
use Rattle.block.proofs.Touched.{Calm, Quiet, QuietTable, Present, AllPresent, settle_at, unsettled, settled_one, settled_two}
use Rattle.parts.specs.declared.kinds.Register.{Register}
use Rattle.parts.specs.declared.kinds.LockUnit.{LockUnit}
use Rattle.parts.specs.declared.kinds.Core.{Core}
use Rattle.block.specs.declared.table.Table.{Table}
use Rattle.settling.specs.Best.{Best, Nobody, Won}
use Rattle.parts.specs.declared.answer.Answer.{Answer}
use Rattle.block.specs.declared.stepped.Stepped.{Stepped}
use Rattle.block.proofs.Access.{unit_other, register_unit}
use Rattle.settling.proofs.Picking.{next_won}
use Rattle.settling.proofs.DroppedAway.{nobody_dropped}
use Rattle.parts.proofs.Along.{along}

-- a fold that stands still from a on is at n what it was at a
pub still :
    {A : Type 0} (f : ℕ → A → A) (x y : A) (a n : ℕ) →
    up_to f a x ≡ y →
    ((v : ℕ) → a ≤ v → v < n → f v y ≡ y) →
    a ≤ n →
    up_to f n x ≡ y
unfolding up_to
still f x y a zero so stands h = ap (λ (m : ℕ). up_to f m x) (let z : 0 ≡ a = omega arith in z) ∙ so
still f x y a (suc n) so stands h = go (eqb a (suc n)) refl (still f x y a n so (λ v l m. stands v l (omega arith)))
  where
    go : (b : Bool) → eqb a (suc n) ≡ b → (a ≤ n → up_to f n x ≡ y) → f n (up_to f n x) ≡ y
    go true e before = ap (λ (m : ℕ). up_to f m x) (sym (eqb-true a (suc n) e)) ∙ so
    go false e before =
        let d = eqb-false a (suc n) e in
        ap (f n) (before (omega arith)) ∙ stands n (omega arith) (omega arith)

-- Settling

-- the unit is calm and the table stays, or one core in line gets its flag; and then the unit shows its next in line
pub by_settling :
    (t : Table) (u : ℕ) (P : Table → Type 0) →
    ((z : Table) → P z → P (show z u)) →
    (Calm (unit_of t u) → P t) →
    ((k : ℕ) → k < cores → in_line (register_of t u k) ≡ true → flags cores (unit_of t u) ≡ 0 → P (with_register t u k (flagged (register_of t u k)))) →
    P (settle_at t u).table
by_settling t u P shows calm given = go (eqb (flags cores (unit_of t u)) 0) refl (next cores (unit_of t u)) refl
  where
    go :
        (b : Bool) → eqb (flags cores (unit_of t u)) 0 ≡ b →
        (w : Best) → next cores (unit_of t u) ≡ w →
        P (show (give t u (cond b w Nobody)) u)
    go true e Nobody q = shows t (calm (λ e'. q))
    go true e (Won k n) q =
        let w = next_won cores (unit_of t u) k n q in
        shows _ (given k.0 w.2 w.0 (eqb-true (flags cores (unit_of t u)) 0 e))
    go false e w q = shows t (calm (λ e'. absurd (eqb-false (flags cores (unit_of t u)) 0 e e')))

pub settle_at_unit : (t : Table) (u v : ℕ) → v ≢ u → unit_of (settle_at t u).table v ≡ unit_of t v
settle_at_unit t u v d = by_settling t u (λ z. unit_of z v ≡ unit_of t v) (λ z e. unit_other z u v _ d ∙ e) (λ calm. refl) (λ k l e none. unit_other t u v _ d)

-- a unit with nothing to settle
pub calm_winner : (x : LockUnit) → Calm x → winner x ≡ Nobody
calm_winner x calm = go (eqb (flags cores x) 0) refl
  where
    go : (b : Bool) → eqb (flags cores x) 0 ≡ b → cond b (next cores x) Nobody ≡ Nobody
    go true e = calm (eqb-true (flags cores x) 0 e)
    go false e = refl

-- one more unit, by who won it
after : Settling → ℕ → Best → Settling
after s u w = record { table = show (give s.table u w) u; grants = s.grants ++ won u w }

-- a unit that is put where it stood
pub same_unit : (t : Table) (u : ℕ) → with_unit t u (unit_of t u) ≡ t
same_unit t u =
    ap (λ (l : List LockUnit). record { units = l; cores = t.cores; counts = t.counts; counter = t.counter }) (set-get_or t.units u absent_unit)

-- a unit whose next is not away drops nobody, and so does a calm one; no other unit is touched
pub drop_present : (t : Table) (u : ℕ) → Present t u → drop_at t u ≡ t
drop_present t u present = go (eqb (flags cores (unit_of t u)) 0) refl
  where
    go : (b : Bool) → eqb (flags cores (unit_of t u)) 0 ≡ b → cond b (with_dropping t u (drop_away cores (unit_of t u) t.cores)) t ≡ t
    go true e =
        ap (with_dropping t u) (nobody_dropped cores (unit_of t u) t.cores (present (eqb-true (flags cores (unit_of t u)) 0 e))) ∙ same_unit t u
    go false e = refl

calm_present : (t : Table) (u : ℕ) → Calm (unit_of t u) → Present t u
calm_present t u calm none = ap (away_as t.cores) (calm none)

drop_unit : (t : Table) (u v : ℕ) → v ≢ u → unit_of (drop_at t u) v ≡ unit_of t v
drop_unit t u v d = go (eqb (flags cores (unit_of t u)) 0)
  where
    go : (b : Bool) → unit_of (cond b (with_dropping t u (drop_away cores (unit_of t u) t.cores)) t) v ≡ unit_of t v
    go true = unit_other t u v _ d
    go false = refl

settled_unit : (s : Settling) (u v : ℕ) → v ≢ u → unit_of (settle_next u s).table v ≡ unit_of s.table v
settled_unit s u v d = settle_at_unit (drop_at s.table u) u v d ∙ drop_unit s.table u v d

-- settling is granting where the next is not away
pub present_grants : (s : Settling) (u : ℕ) → Present s.table u → settle_next u s ≡ grant_next u s
present_grants s u present = ap (λ (t : Table). grant_next u (record { table = t; grants = s.grants })) (drop_present s.table u present)

-- granting changes no core
pub grant_cores : (s : Settling) (u : ℕ) → (grant_next u s).table.cores ≡ s.table.cores
grant_cores s u = by_settling s.table u (λ z. z.cores ≡ s.table.cores) (λ z e. e) (λ calm. refl) (λ k l e none. refl)

-- so every unit settles by granting alone, where it is so everywhere
pub settle_grants : (t : Table) → AllPresent t → settle t ≡ up_to grant_next units (record { table = t; grants = [] })
unfolding up_to
settle_grants t present = alike units (omega arith)
  where
    start : Settling
    start = record { table = t; grants = [] }

    -- units from n on are untouched
    untouched : (n : ℕ) → let z = (up_to grant_next n start).table in ((v : ℕ) → n ≤ v → unit_of z v ≡ unit_of t v) × (z.cores ≡ t.cores)
    untouched n =
        along (λ (m : ℕ) (z : Settling). ((v : ℕ) → m ≤ v → unit_of z.table v ≡ unit_of t v) × (z.table.cores ≡ t.cores)) grant_next start
        (λ v h. refl, refl) n
        (λ m h z q. (λ v l. settle_at_unit z.table m v (λ e. omega arith) ∙ q.0 v (omega arith), grant_cores z m ∙ q.1))

    alike : (n : ℕ) → n ≤ units → up_to settle_next n start ≡ up_to grant_next n start
    alike zero h = refl
    alike (suc n) h =
        let z = up_to grant_next n start in
        let q = untouched n in
        ap (settle_next n) (alike n (omega arith)) ∙
        present_grants z n (λ none.
        ap₂ (λ (x : LockUnit) (cs : List Core). away_next cores (dropping x cs)) (q.0 n (omega arith)) q.1 ∙
        present n (omega arith) (ap (flags cores) (sym (q.0 n (omega arith))) ∙ none))

quiet_still : (s : Settling) (u : ℕ) → Quiet (unit_of s.table u) → settle_next u s ≡ s
unfolding after
quiet_still s u quiet =
    present_grants s u (calm_present s.table u quiet.0) ∙
    ap (after s u) (calm_winner (unit_of s.table u) quiet.0) ∙
    ap (λ (x : LockUnit). record { table = with_unit s.table u x; grants = s.grants ++ [] }) quiet.1 ∙
    ap (λ (z : Table). record { table = z; grants = s.grants ++ [] }) (same_unit s.table u) ∙
    (λ i. record { table = s.table; grants = append-nil s.grants i })

-- where the units from a to n are quiet, settling goes on from a to n without a change
onward :
    (t : Table) (s : Settling) (a n : ℕ) →
    up_to settle_next a (record { table = t; grants = [] }) ≡ s →
    ((v : ℕ) → a ≤ v → v < n → Quiet (unit_of s.table v)) →
    a ≤ n →
    up_to settle_next n (record { table = t; grants = [] }) ≡ s
onward t s a n so quiet h =
    still settle_next (record { table = t; grants = [] }) s a n so (λ v l m. quiet_still s v (quiet v l m)) h

-- no unit, one unit or two units to settle
pub settle_none : (t : Table) → QuietTable t → settle t ≡ record { table = t; grants = [] }
unfolding up_to
settle_none t quiet = onward t (record { table = t; grants = [] }) 0 units refl (λ v l m. quiet v m) (omega arith)

module _ (t : Table) (u : ℕ) (h : u < units) where
  abbrev first_settled : Settling
  first_settled = settle_next u (record { table = t; grants = [] })

  abbrev first_granted : Settling
  first_granted = grant_next u (record { table = t; grants = [] })

  -- after unit u, and up to n, where the units below n but u are quiet
  to_first : (n : ℕ) → u < n → n ≤ units → ((v : ℕ) → v < n → v ≢ u → Quiet (unit_of t v)) → up_to settle_next n (record { table = t; grants = [] }) ≡ first_settled
  unfolding up_to
  to_first n l m quiet =
      onward t first_settled (suc u) n
      (ap (settle_next u) (onward t (record { table = t; grants = [] }) 0 u refl (λ v a b. quiet v (omega arith) (λ e. omega arith)) (omega arith)))
      (λ v a b. subst Quiet (sym (settled_unit (record { table = t; grants = [] }) u v (λ e. omega arith))) (quiet v b (λ e. omega arith)))
      (omega arith)

  -- the one unit, whether it drops or not
  pub settle_only : ((v : ℕ) → v < units → v ≢ u → Quiet (unit_of t v)) → settle t ≡ first_settled
  settle_only quiet = to_first units h (omega arith) quiet

  module _ (present : Present t u) where
    grants_first : first_settled ≡ first_granted
    grants_first = present_grants (record { table = t; grants = [] }) u present

    pub settle_one : ((v : ℕ) → v < units → v ≢ u → Quiet (unit_of t v)) → settle t ≡ first_granted
    settle_one quiet = settle_only quiet ∙ grants_first

    pub settle_two :
        (w : ℕ) → u < w → w < units → Present t w → ((v : ℕ) → v < units → v ≢ u → v ≢ w → Quiet (unit_of t v)) → settle t ≡ grant_next w first_granted
    unfolding up_to
    settle_two w l m there quiet =
        onward t (settle_next w first_granted) (suc w) units
        (ap (settle_next w) (to_first w l (omega arith) (λ v a d. quiet v (omega arith) d (λ e. omega arith)) ∙ grants_first))
        (λ v a b. subst Quiet (sym (settled_unit first_granted w v (λ e. omega arith) ∙ settle_at_unit t u v (λ e. omega arith))) (quiet v b (λ e. omega arith) (λ e. omega arith)))
        (omega arith) ∙
        present_grants first_granted w still_there
      where
        same : unit_of first_granted.table w ≡ unit_of t w
        same = settle_at_unit t u w (λ e. omega arith)

        still_there : Present first_granted.table w
        still_there none =
            ap₂ (λ (x : LockUnit) (cs : List Core). away_next cores (dropping x cs)) same (grant_cores (record { table = t; grants = [] }) u) ∙
            there (ap (flags cores) (sym same) ∙ none)

-- the same of a step's end
finish : Answer → Ticket → Settling → Stepped
finish a n s = record { table = s.table; answer = a; ticket = n; grants = packed s.grants }

pub settled_none : (t : Table) (a : Answer) (n : Ticket) → QuietTable t → unsettled t a n ≡ settled t a n
unfolding finish
settled_none t a n quiet = ap (finish a n) (sym (settle_none t quiet))

pub settled_one_lem :
    (t : Table) (u : UnitNo) (a : Answer) (n : Ticket) →
    u.0 < units →
    Present t u.0 →
    ((v : ℕ) → v < units → v ≢ u.0 → Quiet (unit_of t v)) →
    settled_one t u a n ≡ settled t a n
unfolding finish
settled_one_lem t u a n h present quiet = ap (finish a n) (sym (settle_one t u.0 h present quiet))

pub settled_two_lem :
    (t : Table) (u w : UnitNo) (a : Answer) (n : Ticket) →
    u.0 < w.0 →
    w.0 < units →
    Present t u.0 →
    Present t w.0 →
    ((v : ℕ) → v < units → v ≢ u.0 → v ≢ w.0 → Quiet (unit_of t v)) →
    settled_two t u w a n ≡ settled t a n
unfolding finish
settled_two_lem t u w a n l m here there quiet = ap (finish a n) (sym (settle_two t u.0 (omega arith) here w.0 l m there quiet))

-- Giving up

clear_blank : (t : Table) (k u : ℕ) → register_of t u k ≡ blank → clear k u t ≡ t
clear_blank t k u e =
    ap (λ (r : Register). with_register t u k r) (sym e) ∙
    ap (λ (l : List Register). with_unit t u (record { registers = l; next = (unit_of t u).next })) (set-get_or (unit_of t u).registers k blank) ∙
    ap (λ (l : List LockUnit). record { units = l; cores = t.cores; counts = t.counts; counter = t.counter }) (set-get_or t.units u absent_unit)

module _ (t : Table) (k f : ℕ) where
  abbrev first_cleared : Table
  first_cleared = clear k f t

  up_to_first : (n : ℕ) → f < n → ((v : ℕ) → v < n → v ≢ f → register_of t v k ≡ blank) → up_to (clear k) n t ≡ first_cleared
  unfolding up_to
  up_to_first n h bare =
      still (clear k) t first_cleared (suc f) n
      (ap (clear k f) (still (clear k) t t 0 f refl (λ v a b. clear_blank t k v (bare v (omega arith) (λ e. omega arith))) (omega arith)))
      (λ v a b. clear_blank first_cleared k v (register_unit t f k blank v k (λ e. omega arith) ∙ bare v b (λ e. omega arith)))
      (omega arith)

  -- a core that stood at one unit, or at two
  pub give_up_one : f < units → ((v : ℕ) → v < units → v ≢ f → register_of t v k ≡ blank) → give_up t k ≡ first_cleared
  give_up_one h bare = up_to_first units h bare

  pub give_up_two :
      (g : ℕ) → f < g → g < units → ((v : ℕ) → v < units → v ≢ f → v ≢ g → register_of t v k ≡ blank) → give_up t k ≡ clear k g first_cleared
  unfolding up_to
  give_up_two g l m bare =
      still (clear k) t (clear k g first_cleared) (suc g) units
      (ap (clear k g) (up_to_first g l (λ v a d. bare v (omega arith) d (λ e. omega arith))))
      (λ v a b. clear_blank (clear k g first_cleared) k v
      (register_unit first_cleared g k blank v k (λ e. omega arith) ∙
      register_unit t f k blank v k (λ e. omega arith) ∙
      bare v b (λ e. omega arith) (λ e. omega arith)))
      (omega arith)
