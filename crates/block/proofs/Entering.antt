-- A unit of a sound table by itself: what `enter`, `leave` and `carry` make of it by what it stores is what settling makes of the changed unit. A
-- unit without a flag has nobody in line, so whoever enters it wins; one with a flag has one alone, so it is free when that core leaves, and only
-- then. What stands past the count of cores is blank, and is not looked at.
use Prim.Native.Nat.{ℕ, ◌+◌, ◌≤◌, ◌<◌}
use mathlib.Core.Bool.{Bool, true, false, cond, ◌&&◌, not}
use mathlib.Core.List.{List}
use mathlib.Core.Logic.{◌⊎◌, inl, inr, ◌≢◌}
use mathlib.Core.Path.{◌≡◌, refl, sym, ◌∙◌, ap, ap₂, subst}
use native.Mathlib.Nat.{add-zero}
use native.Mathlib.Omega.{arith}
use lib.Dec.{eqb}
use lib.ListN.{length, length-set}
use lib.Seq.{set-set}
use borrow.Author.Tests.{eqb-true, eqb-false, eq-eqb, ne_eqb}
use Rattle.ticket.specs.Order.{compare, Window}
use Rattle.ticket.specs.declared.kinds.CoreNo.{CoreNo}
use Rattle.ticket.specs.declared.kinds.Ticket.{Ticket}
use Rattle.ticket.specs.declared.order.Comparison.TheVariants.{Same}
use Rattle.parts.specs.Fold.{one}
use Rattle.parts.specs.Parts.{cores, blank, standing, flagged, register_in, registered, showing}
use Rattle.parts.specs.declared.kinds.Register.{Register}
use Rattle.parts.specs.declared.kinds.LockUnit.{LockUnit}
use Rattle.soundness.specs.Agreement.{any_valid, one_flag}
use Rattle.settling.specs.Line.{flags, in_line, next, stored}
use Rattle.settling.specs.Pairs.{is_younger}
use Rattle.settling.specs.Shown.{shown_as, shown, shows_next_lem}
use Rattle.settling.specs.Settle.{becomes, compared, is_next, enter, passed, leave, carry, given, changed}
use Rattle.settling.specs.Best.{Best, Nobody, Won}
use Rattle.parts.proofs.Along.{same_or_not}
use Rattle.parts.proofs.Bools.{clash}
use Rattle.parts.proofs.Folds.{at_some, some_none, count_some, count_unique, none_count}
use Rattle.settling.proofs.Picking.{next_won, next_counted, next_nobody}
use Rattle.settling.proofs.NextInLine.{stores, held_flags, stored_next, is_next_lem, not_next, changed_here, changed_there, left_aside, left_other, joined_alone, joined_next, joined_own}
use Rattle.block.proofs.Touched.{Settled, settled_unit, settled_by}
use Rattle.block.proofs.Touching.{still}
use Rattle.block.proofs.Standing.{one_none}
use Rattle.block.proofs.Stepping.{flags_kept}

-- a unit that has a flag set, with who is next in line
abbrev lining : LockUnit → Best → LockUnit
lining x b = showing x (shown_as b true)

-- what stands past the first n cores is blank
abbrev pub Past : ℕ → LockUnit → Type 0
Past n x = (j : ℕ) → n ≤ j → j < cores → register_in x j ≡ blank

module _ (n : ℕ) (x : LockUnit) (few : n ≤ cores) (past : Past n x) where
  pub next_here : next cores x ≡ next n x
  next_here = next_counted n cores x few (λ j l m. ap in_line (past j l m))

  pub flags_counted : flags cores x ≡ flags n x
  flags_counted =
      still (λ (k m : ℕ). m + one (register_in x k).flag) 0 (flags n x) n cores refl
      (λ v l m. ap (λ (r : Register). flags n x + one r.flag) (past v l m) ∙ add-zero (flags n x))
      few

-- a unit whose register of core k changed
module _ (x : LockUnit) (k : ℕ) (r : Register) where
  past_changed : (n : ℕ) → k < n → Past n x → Past n (registered x k r)
  past_changed n h past j l m = changed_there x k r j (λ e. omega arith) ∙ past j l m

  changed_twice : (q : Register) → registered (registered x k r) k q ≡ registered x k q
  changed_twice q = ap (λ (l : List Register). record { registers = l; next = x.next }) (set-set x.registers k r q)

  -- its flag counts
  flag_counts : length x.registers ≡ cores → k < cores → r.flag ≡ true → flags cores (registered x k r) ≢ 0
  flag_counts long h set none =
      let some = count_some (λ (j : ℕ). (register_in (registered x k r) j).flag) cores k h (ap (λ (q : Register). q.flag) (changed_here x k r long h) ∙ set) in
      omega arith

-- who settles a unit, by whether it has a flag, and what it shows then
module _ (y : LockUnit) where
  settles : Bool → Settled
  settles b = let w = cond b (next cores y) Nobody in record { unit = shown cores (given y w); winner = w }

  shown_held : (b : Best) → flags cores y ≢ 0 → next cores y ≡ b → shown cores y ≡ lining y b
  shown_held b d is = ap₂ (λ (w : Best) (z : Bool). showing y (shown_as w (not z))) is (ne_eqb (flags cores y) 0 d)

  settled_held : (b : Best) → flags cores y ≢ 0 → next cores y ≡ b → record { unit = lining y b; winner = Nobody } ≡ settled_unit y
  unfolding settles
  settled_held b d is =
      sym
      (ap settles (ne_eqb (flags cores y) 0 d) ∙
      ap (λ (z : LockUnit). record { unit = z; winner = Nobody }) (shown_held b d is))

  settled_free : (w : Best) → flags cores y ≡ 0 → next cores y ≡ w → record { unit = shown cores (given y w); winner = w } ≡ settled_unit y
  unfolding settles
  settled_free w none is =
      sym
      (ap settles (eq-eqb (flags cores y) 0 none) ∙
      ap (λ (b : Best). record { unit = shown cores (given y b); winner = b }) is)

module _
    (n : ℕ)
    (x : LockUnit)
    (k : CoreNo)
    (few : n ≤ cores)
    (past : Past n x)
    (long : length x.registers ≡ cores)
    (within : k.0 < n)
    (one_flag_lem : one_flag x ≡ true)
    (shows : shows_next_lem cores x ≡ true)
    (none : next cores x ≡ Nobody → (j : ℕ) → j < cores → in_line (register_in x j) ≡ false)
  where
    small : k.0 < cores
    small = omega arith

    flags_are : flags cores x ≡ one (any_valid x)
    flags_are = eqb-true (flags cores x) (one (any_valid x)) one_flag_lem

    stored_is : stored x.next ≡ next cores x
    stored_is = stored_next cores x shows (omega arith)

    -- the unit has one flag where a register is valid
    one_only : (register_in x k.0).valid ≡ true → flags cores x ≡ 1
    one_only valid = flags_are ∙ ap one (at_some (λ (j : ℕ). (register_in x j).valid) cores k.0 small valid)

    -- Joining

    module _
        (t : Ticket)
        (c : ℕ)
        (recent :
        (j : ℕ) → j < cores → in_line (register_in (registered x k.0 (standing t)) j) ≡ true →
        Window c (register_in (registered x k.0 (standing t)) j).ticket.0)
        (differ :
        (i j : ℕ) → i < cores → j < cores → i ≢ j →
        in_line (register_in (registered x k.0 (standing t)) i) ≡ true →
        in_line (register_in (registered x k.0 (standing t)) j) ≡ true →
        compare (register_in (registered x k.0 (standing t)) i).ticket.0 (register_in (registered x k.0 (standing t)) j).ticket.0 ≢ Same)
      where
        abbrev stood : LockUnit
        stood = registered x k.0 (standing t)

        -- compared with the one that is next
        joins : ((j : CoreNo) (s : Ticket) → next cores x ≡ Won j s → j.0 ≢ k.0) → next cores stood ≡ compared (stored x.next) k t
        joins other =
            joined_next cores x k t (omega arith) long small c recent differ none other ∙ ap (λ (b : Best). compared b k t) (sym stored_is)

        -- Entering

        module _ (bare : register_in x k.0 ≡ blank) where
          same_flags : flags cores stood ≡ flags cores x
          same_flags = flags_kept x k.0 (standing t) (ap (λ (r : Register). r.flag) bare)

          -- it was not in line
          was_out : (j : CoreNo) (s : Ticket) → next cores x ≡ Won j s → j.0 ≢ k.0
          was_out j s e d = clash (next_won cores x j s e).0 (ap (λ (i : ℕ). in_line (register_in x i)) d ∙ ap in_line bare)

          abbrev taken : LockUnit
          taken = registered x k.0 (flagged (standing t))

          -- nobody else stands in a free unit
          module _ (free : flags cores x ≡ 0) where
            out : (j : ℕ) → j < cores → in_line (register_in x j) ≡ false
            out j h =
                ap (λ (b : Bool). b && not (register_in x j).flag)
                (some_none (λ (j : ℕ). (register_in x j).valid) cores (one_none (any_valid x) (sym free ∙ flags_are)) j h)

            alone : next cores stood ≡ Won k t
            alone = joined_alone cores x k t (omega arith) long small (λ j h d. out j h)

            none_left : next cores taken ≡ Nobody
            none_left = next_nobody cores taken (λ j h. go j h (same_or_not j k.0))
              where
                go : (j : ℕ) → j < cores → (j ≡ k.0) ⊎ (j ≢ k.0) → in_line (register_in taken j) ≡ false
                go j h (inl e) =
                    ap (λ (i : ℕ). in_line (register_in taken i)) e ∙ ap in_line (changed_here x k.0 (flagged (standing t)) long small)
                go j h (inr d) = ap in_line (changed_there x k.0 (flagged (standing t)) j d) ∙ out j h

            takes : record { unit = lining taken Nobody; winner = Won k t } ≡ settled_unit stood
            takes =
                ap (λ (y : LockUnit). record { unit = y; winner = Won k t })
                (sym
                (ap (λ (r : Register). shown cores (registered stood k.0 (flagged r))) (changed_here x k.0 (standing t) long small) ∙
                ap (shown cores) (changed_twice x k.0 (standing t) (flagged (standing t))) ∙
                shown_held taken Nobody (flag_counts x k.0 (flagged (standing t)) long small refl) none_left)) ∙
                settled_free stood (Won k t) (same_flags ∙ free) alone

          pub enter_settles : settled_by n k (enter x.next k t) x ≡ settled_unit stood
          enter_settles = ap by (held_flags cores x shows) ∙ go (eqb (flags cores x) 0) refl
            where
              by : Bool → Settled
              by b =
                  settled_by n k
                  (cond b
                  (becomes (standing t) (shown_as (compared (stored x.next) k t) true) Nobody false)
                  (becomes (flagged (standing t)) (shown_as Nobody true) (Won k t) false))
                  x

              go : (b : Bool) → eqb (flags cores x) 0 ≡ b → by (not b) ≡ settled_unit stood
              go true e = takes (eqb-true (flags cores x) 0 e)
              go false e =
                  settled_held stood (compared (stored x.next) k t) (λ free. eqb-false (flags cores x) 0 e (sym same_flags ∙ free)) (joins was_out)

        -- Carrying

        module _
            (valid : (register_in x k.0).valid ≡ true)
            (clear : (register_in x k.0).flag ≡ false)
            (was : Window c (register_in x k.0).ticket.0)
          where
            pub carry_settles : record { unit = changed n k (carry x.next k t) x; winner = Nobody } ≡ settled_unit stood
            carry_settles = go (is_next x.next k) refl (is_younger (compare t.0 x.next.ticket.0)) refl
              where
                held : flags cores stood ≢ 0
                held free = let e = flags_kept x k.0 (standing t) clear in let o = one_only valid in omega arith

                by : Bool → Bool → Settled
                by b y =
                    let a = becomes (standing t) x.next Nobody true in
                    let d = becomes (standing t) (shown_as (Won k t) true) Nobody false in
                    let f = becomes (standing t) (shown_as (compared (stored x.next) k t) true) Nobody false in
                    record { unit = changed n k (cond b (cond y a d) f) x; winner = Nobody }

                go :
                    (b : Bool) → is_next x.next k ≡ b →
                    (y : Bool) → is_younger (compare t.0 x.next.ticket.0) ≡ y →
                    by b y ≡ settled_unit stood
                go true e true f =
                    settled_held stood (next n stood) held (next_here n stood few (past_changed x k.0 (standing t) n within past))
                go true e false f =
                    let q = is_next_lem cores x shows k e in
                    let w : Window c x.next.ticket.0 = subst (λ (s : Ticket). Window c s.0) (next_won cores x k x.next.ticket q).1 was in
                    settled_held stood (Won k t) held (joined_own cores x k t (omega arith) long small c recent differ x.next.ticket q w f)
                go false e y f = settled_held stood (compared (stored x.next) k t) held (joins (not_next cores x shows k e))

    -- Leaving

    module _ (valid : (register_in x k.0).valid ≡ true) where
      abbrev gone : LockUnit
      gone = registered x k.0 blank

      -- no flag where it was core k's
      freed : (register_in x k.0).flag ≡ true → flags cores gone ≡ 0
      freed mine = none_count (λ (j : ℕ). (register_in gone j).flag) cores (λ j h. clear j h (same_or_not j k.0))
        where
          clear : (j : ℕ) → j < cores → (j ≡ k.0) ⊎ (j ≢ k.0) → (register_in gone j).flag ≡ false
          clear j h (inl q) =
              ap (λ (i : ℕ). (register_in gone i).flag) q ∙ ap (λ (r : Register). r.flag) (changed_here x k.0 blank long small)
          clear j h (inr d) = ap (λ (r : Register). r.flag) (changed_there x k.0 blank j d) ∙ other (register_in x j).flag refl
            where
              other : (b : Bool) → (register_in x j).flag ≡ b → b ≡ false
              other true e =
                  absurd
                  (d
                  (count_unique (λ (i : ℕ). (register_in x i).flag) cores j k.0 (let z = one_only valid in omega arith) h small e mine))
              other false e = refl

      past_gone : Past n gone
      past_gone = past_changed x k.0 blank n within past

      -- its flag goes to the next in line
      passes : (register_in x k.0).flag ≡ true → settled_by n k (passed (stored x.next)) x ≡ settled_unit gone
      passes mine = go (stored x.next) (left_aside cores x k.0 long small out ∙ sym stored_is)
        where
          out : in_line (register_in x k.0) ≡ false
          out = ap₂ (λ (v f : Bool). v && not f) valid mine

          go : (b : Best) → next cores gone ≡ b → settled_by n k (passed b) x ≡ settled_unit gone
          go Nobody e =
              ap (λ (y : LockUnit). record { unit = y; winner = Nobody })
              (sym (ap₂ (λ (w : Best) (z : Bool). showing gone (shown_as w (not z))) e (eq-eqb (flags cores gone) 0 (freed mine)))) ∙
              settled_free gone Nobody (freed mine) e
          go (Won j s) e =
              let y = registered gone j.0 (flagged (register_in gone j.0)) in
              let there : j.0 < n = (next_won n gone j s (sym (next_here n gone few past_gone) ∙ e)).2 in
              let past_y : Past n y = past_changed gone j.0 (flagged (register_in gone j.0)) n there past_gone in
              let held : flags cores y ≢ 0 =
              flag_counts gone j.0 (flagged (register_in gone j.0)) (length-set x.registers k.0 blank ∙ long) (omega arith) refl in
              ap (λ (z : LockUnit). record { unit = z; winner = Won j s }) (sym (shown_held y (next n y) held (next_here n y few past_y))) ∙
              settled_free gone (Won j s) (freed mine) e

      -- or it stood in line
      module _ (waits : (register_in x k.0).flag ≡ false) where
        same_left : flags cores gone ≡ flags cores x
        same_left = flags_kept x k.0 blank waits

        held_left : flags cores gone ≢ 0
        held_left free = let o = one_only valid in let e = same_left in omega arith

        lined : in_line (register_in x k.0) ≡ true
        lined = ap₂ (λ (v f : Bool). v && not f) valid waits

        -- if it was not next, whoever was still is
        stays : is_next x.next k ≡ false → shown cores gone ≡ gone
        stays other =
            ap (showing gone)
            (ap₂ (λ (b : Best) (m : ℕ). shown_as b (not (eqb m 0))) (go (next cores x) refl) same_left ∙ sym (stores cores x shows))
          where
            go : (b : Best) → next cores x ≡ b → next cores gone ≡ next cores x
            go Nobody e = absurd (clash lined (none e k.0 small))
            go (Won j s) e = left_other cores x k.0 long small j s e (not_next cores x shows k other j s e)

        leaves : (b : Bool) → is_next x.next k ≡ b → settled_by n k (becomes blank x.next Nobody b) x ≡ settled_unit gone
        leaves true e = settled_held gone (next n gone) held_left (next_here n gone few past_gone)
        leaves false e =
            ap (λ (y : LockUnit). record { unit = y; winner = Nobody }) (sym (stays e) ∙ shown_held gone (next cores gone) held_left refl) ∙
            settled_held gone (next cores gone) held_left refl

      pub leave_settles : settled_by n k (leave (register_in x k.0) x.next k) x ≡ settled_unit gone
      leave_settles = go (register_in x k.0).flag refl
        where
          go :
              (b : Bool) →
              (register_in x k.0).flag ≡ b →
              settled_by n k (cond b (passed (stored x.next)) (becomes blank x.next Nobody (is_next x.next k))) x ≡ settled_unit gone
          go true e = passes e
          go false e = leaves e (is_next x.next k) refl
