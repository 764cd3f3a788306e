-- What the effect of a step changes before settling: one core and that core's registers, its column.
use Prim.Native.Nat.{ℕ, ◌<◌}
use mathlib.Core.Bool.{Bool, true, false, cond}
use mathlib.Core.List.{List}
use mathlib.Core.Logic.{◌⊎◌, inl, inr, ◌≢◌}
use mathlib.Core.Path.{◌≡◌, refl, ◌∙◌, ap}
use native.Mathlib.Nat.{not-suc-le-zero}
use native.Mathlib.Omega.{arith}
use lib.Dec.{eqb}
use lib.ListN.{length, get_or, length-set}
use borrow.Author.Tests.{eq-eqb, ne_eqb}
use Rattle.ticket.specs.declared.kinds.Ticket.{Ticket}
use Rattle.parts.specs.Parts.{cores, units, blank, standing, idle}
use Rattle.parts.specs.declared.kinds.Core.{Core}
use Rattle.parts.specs.declared.kinds.LockUnit.{LockUnit}
use Rattle.parts.specs.declared.kinds.Register.{Register}
use Rattle.effects.specs.declared.kinds.Move.{Move}
use Rattle.effects.specs.declared.kinds.Move.TheVariants.{Stay, Enter, Carry, GiveUp}
use Rattle.effects.specs.declared.kinds.Effect.{Effect}
use Rattle.block.specs.Table.{core_of, unit_of, register_of, with_register, Shaped}
use Rattle.block.specs.Steps.{clear, give_up, moved, affected}
use Rattle.block.specs.declared.table.Table.{Table}
use Rattle.parts.proofs.Along.{same_or_not, to_last, along}
use Rattle.block.proofs.Access.{core_same, core_other, unit_other, register_same, register_core, register_unit, shaped_register, shaped_core, shaped_counter}

-- nothing but the column of core k has moved, and the core has become c
pub record Moved (t t' : Table) (k : ℕ) (c : Core) : Type 0 where
  pub counts : t'.counts ≡ t.counts
  pub becomes : core_of t' k ≡ c
  pub others : (j : ℕ) → j ≢ k → core_of t' j ≡ core_of t j
  pub registers : (u : ℕ) → u < units → (j : ℕ) → j ≢ k → register_of t' u j ≡ register_of t u j

-- the registers of core k changed, and no core
record Changed (t t' : Table) (k : ℕ) : Type 0 where
  cores : t'.cores ≡ t.cores
  counts : t'.counts ≡ t.counts
  shaped : Shaped t'
  others : (u : ℕ) → u < units → (j : ℕ) → j ≢ k → register_of t' u j ≡ register_of t u j

unchanged : (t : Table) (k : ℕ) → Shaped t → Changed t t k
unchanged t k shaped = record { cores = refl; counts = refl; shaped = shaped; others = λ u h j d. refl }

-- one register more
register_changed : (t t' : Table) (k v : ℕ) (r : Register) → Changed t t' k → Changed t (with_register t' v k r) k
register_changed t t' k v r c =
    record {
      cores = c.cores;
      counts = c.counts;
      shaped =
          record {
            cores_long = c.shaped.cores_long;
            units_long = length-set t'.units v _ ∙ c.shaped.units_long;
            registers_long = λ u h. long u h (same_or_not u v);
          };
      others = λ u h j d. others u h j d (same_or_not u v) ∙ c.others u h j d;
    }
  where
    long : (u : ℕ) → u < units → (u ≡ v) ⊎ (u ≢ v) → length (unit_of (with_register t' v k r) u).registers ≡ cores
    long u h (inl e) = (shaped_register t' v k r c.shaped (rw e at h)).registers_long u h
    long u h (inr d) = ap (λ (x : LockUnit). length x.registers) (unit_other t' v u _ d) ∙ c.shaped.registers_long u h

    others : (u : ℕ) → u < units → (j : ℕ) → j ≢ k → (u ≡ v) ⊎ (u ≢ v) → register_of (with_register t' v k r) u j ≡ register_of t' u j
    others u h j d (inl e) = rw e (register_core t' v k r j c.shaped (rw e at h) d)
    others u h j d (inr d') = register_unit t' v k r u j d'

module _ (t : Table) (shaped : Shaped t) (k : ℕ) (small : k < cores) where
  given_up : Changed t (give_up t k) k × ((u : ℕ) → u < units → register_of (give_up t k) u k ≡ blank)
  given_up =
      along (λ n b. Changed t b k × ((u : ℕ) → u < n → register_of b u k ≡ blank)) (clear k) t
      (unchanged t k shaped, λ u h. absurd (not-suc-le-zero h))
      units
      (λ n h b m. (
        register_changed t b k n blank m.0,
        to_last (λ u. register_of (clear k n b) u k ≡ blank) n
            (λ u l. register_unit b n k blank u k (λ e. omega arith) ∙ m.1 u l)
            (register_same b n k blank m.0.shaped h small),
      ))

  changed : (d : Move) → Changed t (moved t k (core_of t k) d) k
  changed Stay = unchanged t k shaped
  changed (Enter v n) = register_changed t t k v.0 (standing n) (unchanged t k shaped)
  changed (Carry n) = register_changed t t k (core_of t k).second.0 (standing n) (unchanged t k shaped)
  changed GiveUp = given_up.0

  module _ (e : Effect) where
    pub affected_shaped : Shaped (affected t k e)
    affected_shaped = shaped_counter _ e.counter (shaped_core _ k e.core (changed e.does).shaped)

    pub affected_moved : Moved t (affected t k e) k e.core
    affected_moved =
        let c = changed e.does in
        record {
          counts = c.counts;
          becomes = core_same _ k e.core c.shaped small;
          others = λ j d. core_other (moved t k (core_of t k) e.does) k j e.core d ∙ ap (λ (l : List Core). get_or l j idle) c.cores;
          registers = c.others;
        }

-- what core k shows at unit u when its register at unit v has become r, and after its move
abbrev pub entered : Table → ℕ → ℕ → Register → ℕ → Register
entered t k v r u = cond (eqb u v) r (register_of t u k)

abbrev pub shown : Table → ℕ → Move → ℕ → Register
shown t k Stay u = register_of t u k
shown t k (Enter v n) u = entered t k v.0 (standing n) u
shown t k (Carry n) u = entered t k (core_of t k).second.0 (standing n) u
shown t k GiveUp u = blank

module _ (t : Table) (shaped : Shaped t) (k : ℕ) (small : k < cores) (u : ℕ) (h : u < units) where
  at_entered : (v : ℕ) (r : Register) → register_of (with_register t v k r) u k ≡ entered t k v r u
  at_entered v r = go (same_or_not u v)
    where
      go : (u ≡ v) ⊎ (u ≢ v) → register_of (with_register t v k r) u k ≡ entered t k v r u
      go (inl e) = simp (eq-eqb u v e) (rw e (register_same t v k r shaped (rw e at h) small))
      go (inr d) = simp (ne_eqb u v d) (register_unit t v k r u k d)

  at_shown : (d : Move) → register_of (moved t k (core_of t k) d) u k ≡ shown t k d u
  at_shown Stay = refl
  at_shown (Enter v n) = at_entered v.0 (standing n)
  at_shown (Carry n) = at_entered (core_of t k).second.0 (standing n)
  at_shown GiveUp = (given_up t shaped k small).1 u h

  pub affected_shown : (e : Effect) → register_of (affected t k e) u k ≡ shown t k e.does u
  affected_shown e = at_shown e.does

-- a move sets no flag
pub shown_flag : (t : Table) (k u : ℕ) (d : Move) → ((shown t k d u).flag ≡ false) ⊎ ((shown t k d u).flag ≡ (register_of t u k).flag)
shown_flag t k u = go
  where
    at : (b : Bool) (n : Ticket) → let r = cond b (standing n) (register_of t u k) in (r.flag ≡ false) ⊎ (r.flag ≡ (register_of t u k).flag)
    at true n = inl refl
    at false n = inr refl

    go : (d : Move) → ((shown t k d u).flag ≡ false) ⊎ ((shown t k d u).flag ≡ (register_of t u k).flag)
    go Stay = inr refl
    go (Enter v n) = at (eqb u v.0) n
    go (Carry n) = at (eqb u (core_of t k).second.0) n
    go GiveUp = inl refl
