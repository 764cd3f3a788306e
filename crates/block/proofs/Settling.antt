-- Settling a unit by itself and putting it into the table is settling that unit of the table: its registers are all that settling
-- reads, and it is the one place that settling writes. Two units that differ settle without minding each other.
use Prim.Native.Nat.{ℕ, zero, suc, ◌<◌}
use mathlib.Core.List.{List, [], ◌∷◌, ◌++◌}
use mathlib.Core.Logic.{◌≢◌}
use mathlib.Core.Path.{◌≡◌, refl, sym, ◌∙◌, ap, subst}
use native.Mathlib.Omega.{arith}
use lib.ListN.{get_or, set}
use lib.Seq.{set-set, set_comm}
use Rattle.ticket.specs.declared.kinds.Ticket.{Ticket}
use Rattle.ticket.specs.declared.kinds.UnitNo.{UnitNo}
use Rattle.parts.specs.Parts.{cores, blank, flagged, absent_unit, register_in, registered}
use Rattle.block.specs.Table.{unit_of, with_unit, with_register, with_core}
use Rattle.parts.specs.Answer.{packed}
use Rattle.settling.specs.Line.{won}
use Rattle.settling.specs.Shown.{shown}
use Rattle.settling.specs.Settle.{given}
use Rattle.block.specs.Settle.{winner, give, show}
use Rattle.block.proofs.Touched.{SettledAt, settle_at, settled_one, freed_two, Settled, settled_unit}
use Rattle.parts.specs.declared.kinds.Register.{Register}
use Rattle.parts.specs.declared.kinds.LockUnit.{LockUnit}
use Rattle.parts.specs.declared.kinds.Core.{Core}
use Rattle.block.specs.declared.table.Table.{Table}
use Rattle.settling.specs.Best.{Best, Nobody, Won}
use Rattle.parts.specs.declared.answer.Answer.{Answer}
use Rattle.parts.specs.declared.answer.Answer.TheVariants.{Done}
use Rattle.parts.specs.declared.answer.Grants.{Grants}
use Rattle.block.specs.declared.stepped.Stepped.{Stepped}
use Rattle.block.proofs.Access.{unit_other}

-- a unit with a changed register stands where it was put, and where a unit does, so does that one with a changed register
pub there : (l : List LockUnit) (u k : ℕ) (r : Register) → get_or (set l u (registered (get_or l u absent_unit) k r)) u absent_unit ≡ registered (get_or l u absent_unit) k r
there [] u k r = refl
there (x ∷ xs) zero k r = refl
there (x ∷ xs) (suc u) k r = there xs u k r

still_put :
    (l : List LockUnit) (u : ℕ) (x : LockUnit) (k : ℕ) (r : Register) →
    get_or (set l u x) u absent_unit ≡ x →
    get_or (set l u (registered x k r)) u absent_unit ≡ registered x k r
still_put [] u x k r e = subst (λ (z : LockUnit). absent_unit ≡ registered z k r) e refl
still_put (y ∷ l) zero x k r e = refl
still_put (y ∷ l) (suc u) x k r e = still_put l u x k r e

module _ (t : Table) (u : ℕ) (x : LockUnit) (at : unit_of (with_unit t u x) u ≡ x) where
  abbrev before : Table
  before = with_unit t u x

  abbrev put : Settled → SettledAt
  put s = record { table = with_unit t u s.unit; winner = s.winner }

  twice : (y z : LockUnit) → with_unit (with_unit t u y) u z ≡ with_unit t u z
  twice y z i = record { units = set-set t.units u y z i; cores = t.cores; counts = t.counts; counter = t.counter }

  -- a unit that shows its next in line
  put_shown : (y : LockUnit) → unit_of (with_unit t u y) u ≡ y → show (with_unit t u y) u ≡ with_unit t u (shown cores y)
  put_shown y e = ap (λ (z : LockUnit). with_unit (with_unit t u y) u (shown cores z)) e ∙ twice y (shown cores y)

  put_give : (w : Best) → show (give before u w) u ≡ with_unit t u (shown cores (given x w))
  put_give Nobody = put_shown x at
  put_give (Won k n) =
      let y = given x (Won k n) in
      ap (λ (z : LockUnit). show (with_unit before u (registered z k.0 (flagged (register_in z k.0)))) u) at ∙
      ap (λ (z : Table). show z u) (twice x y) ∙
      put_shown y (still_put t.units u x k.0 (flagged (register_in x k.0)) at)

  pub put_settled : settle_at before u ≡ put (settled_unit x)
  put_settled =
      ap (λ (z : LockUnit). record { table = show (give before u (winner z)) u; winner = winner z }) at ∙
      ap (λ (z : Table). record { table = z; winner = winner x }) (put_give (winner x))

-- a step's end, by its table and its grants
done : Table → Answer → Ticket → Grants → Stepped
done t a n g = record { table = t; answer = a; ticket = n; grants = g }

-- one unit, from what the calls give
pub changes :
    (t : Table) (k : ℕ) (c : Core) (u : UnitNo) (r : Register) (a : Answer) (n : Ticket) (s : Settled) →
    s ≡ settled_unit (registered (unit_of t u.0) k r) →
    ◌≡◌ {A = Stepped}
    (record { table = with_core (with_unit t u.0 s.unit) k c; answer = a; ticket = n; grants = packed (won u.0 s.winner) })
    (settled_one (with_core (with_register t u.0 k r) k c) u a n)
unfolding done
changes t k c u r a n s es =
    let y = registered (unit_of t u.0) k r in
    ap (λ (z : Settled). done (with_core (with_unit t u.0 z.unit) k c) a n (packed (won u.0 z.winner))) es ∙
    ap (λ (z : SettledAt). done z.table a n (packed (won u.0 z.winner))) (sym (put_settled (with_core t k c) u.0 y (there t.units u.0 k r)))

module _ (t : Table) (u v k : ℕ) (d : v ≢ u) where
  abbrev x : LockUnit
  x = registered (unit_of t u) k blank

  abbrev y : LockUnit
  y = registered (unit_of t v) k blank

  swapped : (a b : LockUnit) → with_unit (with_unit t u a) v b ≡ with_unit (with_unit t v b) u a
  swapped a b i = record { units = set_comm t.units u v a b (λ e. d (sym e)) i; cores = t.cores; counts = t.counts; counter = t.counter }

  both_changed : with_register (with_register t u k blank) v k blank ≡ with_unit (with_unit t v y) u x
  both_changed =
      ap (λ (z : LockUnit). with_unit (with_unit t u x) v (registered z k blank)) (unit_other t u v x d) ∙ swapped x y

  -- with another unit changed before
  still_there :
      (w j : ℕ) (z : LockUnit) → j ≢ w →
      unit_of (with_unit (with_unit t w z) j (registered (unit_of t j) k blank)) j ≡ registered (unit_of t j) k blank
  still_there w j z e =
      subst
      (λ (m : LockUnit). unit_of (with_unit (with_unit t w z) j (registered m k blank)) j ≡ registered m k blank)
      (unit_other t w j z e)
      (there (with_unit t w z).units j k blank)

  first_settles :
      settle_at (with_register (with_register t u k blank) v k blank) u ≡
      record { table = with_unit (with_unit t v y) u (settled_unit x).unit; winner = (settled_unit x).winner }
  first_settles =
      ap (λ (m : Table). settle_at m u) both_changed ∙
      put_settled (with_unit t v y) u x (still_there v u y (λ e. d (sym e)))

  second_settles :
      (a : LockUnit) →
      settle_at (with_unit (with_unit t v y) u a) v ≡
      record { table = with_unit (with_unit t u a) v (settled_unit y).unit; winner = (settled_unit y).winner }
  second_settles a =
      ap (λ (m : Table). settle_at m v) (sym (swapped a y)) ∙
      put_settled (with_unit t u a) v y (still_there u v a d)

-- two units, from what the calls give
pub frees :
    (t : Table) (k : ℕ) (c : Core) (u v : UnitNo) (n : Ticket) (s z : Settled) →
    u.0 < v.0 →
    s ≡ settled_unit (registered (unit_of t u.0) k blank) →
    z ≡ settled_unit (registered (unit_of t v.0) k blank) →
    ◌≡◌ {A = Stepped}
    (record {
      table = with_core (with_unit (with_unit t u.0 s.unit) v.0 z.unit) k c;
      answer = Done;
      ticket = n;
      grants = packed (won u.0 s.winner ++ won v.0 z.winner);
    })
    (freed_two t k c u v n)
unfolding done
frees t k c u v n s z l es ez =
    let d : v.0 ≢ u.0 = λ e. omega arith in
    let t' = with_core t k c in
    let a = registered (unit_of t u.0) k blank in
    let b = registered (unit_of t v.0) k blank in
    ap (λ (m : Settled). done (with_core (with_unit (with_unit t u.0 m.unit) v.0 z.unit) k c) Done n (packed (won u.0 m.winner ++ won v.0 z.winner))) es ∙
    ap (λ (m : Settled). done (with_core (with_unit (with_unit t u.0 (settled_unit a).unit) v.0 m.unit) k c) Done n (packed (won u.0 (settled_unit a).winner ++ won v.0 m.winner))) ez ∙
    ap (λ (m : SettledAt). done m.table Done n (packed (won u.0 (settled_unit a).winner ++ won v.0 m.winner))) (sym (second_settles t' u.0 v.0 k d (settled_unit a).unit)) ∙
    ap (λ (m : SettledAt). done (settle_at m.table v.0).table Done n (packed (won u.0 m.winner ++ won v.0 (settle_at m.table v.0).winner))) (sym (first_settles t' u.0 v.0 k d))
