-- What settling does to a unit, where it drops nobody: it is settled as it was before the others. Its registers keep their tickets and flags, and the
-- one flag that is set is that of the core which is due.
use Prim.Native.Nat.{ℕ, ◌≤◌, ◌<◌}
use mathlib.Core.Bool.{Bool, true, false, cond}
use mathlib.Core.List.{[]}
use mathlib.Core.Logic.{◌⊎◌, inl, inr, ◌≢◌}
use mathlib.Core.Path.{◌≡◌, refl, sym, ◌∙◌, ap, subst}
use native.Mathlib.Nat.{not-suc-le-zero}
use native.Mathlib.Omega.{arith}
use lib.Dec.{eqb}
use lib.Seq.{get_or-set_same, get_or-set_other}
use borrow.Author.Tests.{eqb-true, eq-eqb}
use Rattle.ticket.specs.declared.kinds.CoreNo.{CoreNo}
use Rattle.parts.specs.Fold.{up_to}
use Rattle.parts.specs.Parts.{cores, units, core_no, blank, flagged, register_in}
use Rattle.block.specs.Table.{unit_of, register_of, with_register, Shaped}
use Rattle.settling.specs.Line.{flags, next}
use Rattle.settling.specs.Shown.{shown}
use Rattle.settling.specs.Settle.{given}
use Rattle.block.specs.Settle.{winner, give, show, Settling, grant_next, settle}
use Rattle.parts.specs.declared.kinds.Register.{Register}
use Rattle.parts.specs.declared.kinds.LockUnit.{LockUnit}
use Rattle.block.specs.declared.table.Table.{Table}
use Rattle.settling.specs.Best.{Best, Nobody, Won}
use Rattle.block.proofs.Access.{unit_same, shaped_register}
use Rattle.parts.proofs.Along.{same_or_not, to_last, along}
use Rattle.settling.proofs.Picking.{next_won}
use Rattle.block.proofs.Touched.{AllPresent, settle_at, settled_unit}
use Rattle.block.proofs.Touching.{settle_at_unit, settle_grants}
use Rattle.laws.specs.Granting.{Due}
use Rattle.laws.proofs.Settling.{Kept, settle_at_shaped, settle_at_keeps}

module _ (t : Table) (u : ℕ) (s : Shaped t) (h : u < units) where
  settled_here : unit_of (settle_at t u).table u ≡ (settled_unit (unit_of t u)).unit
  settled_here = go (winner (unit_of t u))
    where
      go : (w : Best) → unit_of (show (give t u w) u) u ≡ shown cores (given (unit_of t u) w)
      go Nobody = unit_same t u _ s h
      go (Won k n) =
          let r = flagged (register_of t u k.0) in
          unit_same (with_register t u k.0 r) u _ (shaped_register t u k.0 r s h) h ∙ ap (shown cores) (unit_same t u _ s h)

-- after the units below n
record Turned (t : Table) (n : ℕ) (z : Table) : Type 0 where
  shaped : Shaped z
  ahead : (v : ℕ) → n ≤ v → unit_of z v ≡ unit_of t v
  behind : (v : ℕ) → v < n → unit_of z v ≡ (settled_unit (unit_of t v)).unit
  keeps : (v j : ℕ) → Kept (register_of t v j) (register_of z v j)

module _ (t : Table) (s : Shaped t) (present : AllPresent t) where
  turned : Turned t units (settle t).table
  turned =
      subst (λ (x : Settling). Turned t units x.table) (sym (settle_grants t present)) granted
    where
      granted : Turned t units (up_to grant_next units (record { table = t; grants = [] })).table
      granted =
          along (λ n z. Turned t n z.table) grant_next (record { table = t; grants = [] })
          (record {
            shaped = s;
            ahead = λ v h. refl;
            behind = λ v h. absurd (not-suc-le-zero h);
            keeps = λ v j. record { ticket = refl; valid = refl; flag = λ e. e };
          })
          units
          (λ n h z m. record {
            shaped = settle_at_shaped z.table n m.shaped h;
            ahead = λ v l. settle_at_unit z.table n v (λ e. omega arith) ∙ m.ahead v (omega arith);
            behind =
                to_last (λ v. unit_of (settle_at z.table n).table v ≡ (settled_unit (unit_of t v)).unit) n
                (λ v l. settle_at_unit z.table n v (λ e. omega arith) ∙ m.behind v l)
                (settled_here z.table n m.shaped h ∙ ap (λ (x : LockUnit). (settled_unit x).unit) (m.ahead n (omega arith)));
            keeps = λ v j.
                let a = m.keeps v j in
                let b = settle_at_keeps z.table n m.shaped h v j in
                record { ticket = b.ticket ∙ a.ticket; valid = b.valid ∙ a.valid; flag = λ e. b.flag (a.flag e) };
          })

  pub settled_keeps : (u j : ℕ) → Kept (register_of t u j) (register_of (settle t).table u j)
  settled_keeps = turned.keeps

  module _ (u : ℕ) (h : u < units) where
    -- a flag that is set was set before, or its core was due
    pub settled_new :
        (j : ℕ) →
        (register_of (settle t).table u j).flag ≡ true →
        ((register_of t u j).flag ≡ true) ⊎ Due (unit_of t u) (core_no j)
    settled_new j e =
        go (eqb (flags cores x) 0) refl (next cores x) refl (subst (λ (y : LockUnit). (register_in y j).flag ≡ true) (turned.behind u h) e)
      where
        x : LockUnit
        x = unit_of t u

        go :
            (b : Bool) → eqb (flags cores x) 0 ≡ b →
            (w : Best) → next cores x ≡ w →
            (register_in (given x (cond b w Nobody)) j).flag ≡ true →
            ((register_in x j).flag ≡ true) ⊎ Due x (core_no j)
        go true p Nobody q f = inl f
        go true p (Won k n) q f = pick (same_or_not j k.0)
          where
            pick : (j ≡ k.0) ⊎ (j ≢ k.0) → ((register_in x j).flag ≡ true) ⊎ Due x (core_no j)
            pick (inl e) =
                inr (record { free = eqb-true (flags cores x) 0 p; ticket = n; oldest = q ∙ ap (λ (i : ℕ). Won (core_no i) n) (sym e) })
            pick (inr d) =
                let same = get_or-set_other x.registers k.0 j (flagged (register_in x k.0)) blank d in
                inl (ap (λ (r : Register). r.flag) (sym same) ∙ f)
        go false p w q f = inl f

    pub settled_due : (k : CoreNo) → Due (unit_of t u) k → (register_of (settle t).table u k.0).flag ≡ true
    settled_due k d =
        let x = unit_of t u in
        let w : winner x ≡ Won k d.ticket = simp (eq-eqb (flags cores x) 0 d.free, d.oldest) in
        let small = (next_won cores x k d.ticket d.oldest).2 in
        ap (λ (y : LockUnit). (register_in y k.0).flag) (turned.behind u h ∙ ap (λ (b : Best). shown cores (given x b)) w) ∙
        ap (λ (r : Register). r.flag)
        (get_or-set_same x.registers k.0 (flagged (register_in x k.0)) blank (rw (s.registers_long u h) small))
