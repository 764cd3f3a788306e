-- What a unit stores as its next in line. A unit that shows its next in line stores the one that its registers ask for, so that who is next after
-- a change of one register is told by it: whoever is next stays so until that core's register changes, or an older one joins.
use Prim.Native.Nat.{ℕ, ◌≤◌, ◌<◌}
use mathlib.Core.Bool.{Bool, true, false, cond, ◌&&◌, ◌||◌, not}
use mathlib.Core.List.{List}
use mathlib.Core.Logic.{◌⊎◌, inl, inr, ◌≢◌}
use mathlib.Core.Path.{◌≡◌, refl, sym, ◌∙◌, ap, ap₂, subst}
use native.Mathlib.Omega.{arith}
use lib.Dec.{eqb, ltb}
use lib.ListN.{length}
use lib.Seq.{get_or-set_same, get_or-set_other, set-get_or}
use borrow.Author.Tests.{eqb-true, eq-eqb, lt-ltb, ltb-true}
use Rattle.ticket.specs.Kinds.{ticket}
use Rattle.ticket.specs.Order.{behind, compare, Window}
use Rattle.ticket.specs.Claims.{turned}
use Rattle.ticket.specs.declared.kinds.CoreNo.{CoreNo}
use Rattle.ticket.specs.declared.kinds.Ticket.{Ticket}
use Rattle.ticket.specs.declared.order.Comparison.{Comparison}
use Rattle.ticket.specs.declared.order.Comparison.TheVariants.{Older, Younger, Same, Opposite}
use Rattle.ticket.proofs.Circle.{behind_by}
use Rattle.ticket.proofs.Laws.{told, swapped, transitive, never_opposite, of_further, further}
use Rattle.parts.specs.Parts.{cores, core_no, blank, standing, register_in, registered, showing}
use Rattle.parts.specs.declared.kinds.Register.{Register}
use Rattle.parts.specs.declared.kinds.Fill.{Fill}
use Rattle.parts.specs.declared.kinds.Fill.TheVariants.{Blank}
use Rattle.parts.specs.declared.kinds.Next.{Next}
use Rattle.parts.specs.declared.kinds.LockUnit.{LockUnit}
use Rattle.parts.proofs.Along.{same_or_not, up_to_cong}
use Rattle.parts.proofs.Bools.{and_left, and_right, and_both, clash}
use Rattle.parts.proofs.Folds.{every_cong, count_cong}
use Rattle.settling.specs.Line.{flags, in_line, is_older, older, oldest, chosen, next, stored, Within}
use Rattle.settling.specs.Pairs.{is_younger}
use Rattle.settling.specs.Shown.{shown_as, next_of, shown, agree, same, shows_next_lem}
use Rattle.settling.specs.Settle.{compared, is_next, passed_to_lem, with_flag, given}
use Rattle.settling.specs.Best.{Best, Nobody, Won}
use Rattle.settling.proofs.Picking.{next_won, next_oldest, next_over, next_within, next_alone, ordered}

-- Units with the same registers

module _ (n : ℕ) (x y : LockUnit) where
  module _ (alike : (j : ℕ) → j < n → register_in x j ≡ register_in y j) where
    oldest_cong : (k : ℕ) → k < n → oldest n x k ≡ oldest n y k
    oldest_cong k h =
        ap₂ ◌&&◌ (ap in_line (alike k h))
        (every_cong (λ (j : ℕ). eqb j k || not (in_line (register_in x j)) || older x k j)
        (λ (j : ℕ). eqb j k || not (in_line (register_in y j)) || older y k j) n
        (λ j l. ap₂ (λ (r q : Register). eqb j k || not (in_line r) || is_older (compare q.ticket.0 r.ticket.0)) (alike j l) (alike k h)))

    pub next_cong : next n x ≡ next n y
    next_cong =
        up_to_cong (chosen x (oldest n x)) (chosen y (oldest n y)) n Nobody
        (λ k h b. ap₂ (λ (o : Bool) (r : Register). cond o (Won (core_no k) r.ticket) b) (oldest_cong k h) (alike k h))

    pub flags_cong : flags n x ≡ flags n y
    flags_cong =
        count_cong (λ (k : ℕ). (register_in x k).flag) (λ (k : ℕ). (register_in y k).flag) n (λ k h. ap (λ (r : Register). r.flag) (alike k h))

  module _ (alike : x.registers ≡ y.registers) where
    pub next_registers : next n x ≡ next n y
    next_registers = ap (λ (l : List Register). next n (record { registers = l; next = x.next })) alike

    pub flags_registers : flags n x ≡ flags n y
    flags_registers = ap (λ (l : List Register). flags n (record { registers = l; next = x.next })) alike

-- whatever a unit shows, its registers are what they were
pub next_showing : (n : ℕ) (x : LockUnit) (v : Next) → next n (showing x v) ≡ next n x
next_showing n x v = refl

pub shown_showing : (n : ℕ) (x : LockUnit) (v : Next) → shown n (showing x v) ≡ shown n x
shown_showing n x v = refl

-- What is the same

agree_is : (a b : Bool) → agree a b ≡ true → a ≡ b
agree_is true b e = sym e
agree_is false true e = absurd (clash e refl)
agree_is false false e = refl

agree_self : (a : Bool) → agree a a ≡ true
agree_self true = refl
agree_self false = refl

one_value : (a b : Fill) → a ≡ b
one_value Blank Blank = refl

pub same_is : (v w : Next) → same v w ≡ true → v ≡ w
same_is v w e =
    let a = eqb v.ticket.0 w.ticket.0 in
    let b = eqb v.core.0 w.core.0 in
    let c = agree v.valid w.valid in
    let d = agree v.held w.held in
    let t = eqb-true v.ticket.0 w.ticket.0 (and_left a b (and_left (a && b) c (and_left (a && b && c) d e))) in
    let k = eqb-true v.core.0 w.core.0 (and_right a b (and_left (a && b) c (and_left (a && b && c) d e))) in
    let z = agree_is v.valid w.valid (and_right (a && b) c (and_left (a && b && c) d e)) in
    let h = agree_is v.held w.held (and_right (a && b && c) d e) in
    λ i.
    record {
      ticket = ticket (t i);
      core = core_no (k i);
      valid = z i;
      held = h i;
      fill = one_value v.fill w.fill i;
      rest = one_value v.rest w.rest i;
    }

same_self : (v : Next) → same v v ≡ true
same_self v =
    and_both
    (and_both (and_both (eq-eqb v.ticket.0 v.ticket.0 refl) (eq-eqb v.core.0 v.core.0 refl)) (agree_self v.valid))
    (agree_self v.held)

pub is_same : (v w : Next) → v ≡ w → same v w ≡ true
is_same v w e = ap (same v) (sym e) ∙ same_self v

-- A unit that shows its next in line

module _ (n : ℕ) (x : LockUnit) where
  pub shown_shows : shows_next_lem n (shown n x) ≡ true
  shown_shows = same_self (next_of n x)

  pub is_shown : shown n x ≡ x → shows_next_lem n x ≡ true
  is_shown e = is_same x.next (next_of n x) (ap (λ (z : LockUnit). z.next) (sym e))

  module _ (shows : shows_next_lem n x ≡ true) where
    pub stores : x.next ≡ next_of n x
    stores = same_is x.next (next_of n x) shows

    pub shows_is : shown n x ≡ x
    shows_is = ap (showing x) (sym stores)

    held_as : (b : Best) (h : Bool) → (shown_as b h).held ≡ h
    held_as Nobody h = refl
    held_as (Won k t) h = refl

    pub held_flags : x.next.held ≡ not (eqb (flags n x) 0)
    held_flags = ap (λ (v : Next). v.held) stores ∙ held_as (next n x) (not (eqb (flags n x) 0))

    pub stored_next : n ≤ cores → stored x.next ≡ next n x
    stored_next few =
        ap stored stores ∙
        go (next n x) (next_within n x few)
      where
        go :
            (b : Best) →
            Within b →
            stored (shown_as b (not (eqb (flags n x) 0))) ≡ b
        go Nobody w = refl
        go (Won k t) w = ap (λ (b : Bool). cond b (Won k t) Nobody) (lt-ltb k.0 cores w)

    -- whether core k is the one that it shows
    pub is_next_lem : (k : CoreNo) → is_next x.next k ≡ true → (next n x ≡ Won k x.next.ticket)
    is_next_lem k e = go (next n x) refl
      where
        go : (b : Best) → next n x ≡ b → next n x ≡ Won k x.next.ticket
        go Nobody q =
            absurd (clash (and_left x.next.valid _ e)
            (ap (λ (v : Next). v.valid) stores ∙ ap (λ (b : Best). (shown_as b (not (eqb (flags n x) 0))).valid) q))
        go (Won j t) q =
            let v : x.next ≡ shown_as (Won j t) (not (eqb (flags n x) 0)) = stores ∙ ap (λ (b : Best). shown_as b (not (eqb (flags n x) 0))) q in
            q ∙
            ap₂ Won
            (sym (ap (λ (w : Next). w.core) v) ∙ ap core_no (eqb-true x.next.core.0 k.0 (and_right x.next.valid _ e)))
            (sym (ap (λ (w : Next). w.ticket) v))

    pub not_next : (k : CoreNo) → is_next x.next k ≡ false → (j : CoreNo) (t : Ticket) → next n x ≡ Won j t → j.0 ≢ k.0
    not_next k e j t q d =
        let v : x.next ≡ shown_as (Won j t) (not (eqb (flags n x) 0)) = stores ∙ ap (λ (b : Best). shown_as b (not (eqb (flags n x) 0))) q in
        clash
        (and_both (ap (λ (w : Next). w.valid) v) (eq-eqb x.next.core.0 k.0 (ap (λ (w : Next). w.core.0) v ∙ d)))
        e

-- whom a unit stores is one of the table's
pub stored_within : (v : Next) → Within (stored v)
stored_within v = go v.valid (ltb v.core.0 cores) refl
  where
    go : (a b : Bool) → ltb v.core.0 cores ≡ b → Within (cond (a && b) (Won v.core v.ticket) Nobody)
    go true true e = ltb-true v.core.0 cores e
    go true false e = tt
    go false b e = tt

-- Passing the flag on: to one of the table's, and to nobody where nobody was next

pub passed_within : (b : Best) (k : CoreNo) → Within b → k.0 < cores → (passed_to_lem b k).0 < cores
passed_within Nobody k w h = h
passed_within (Won j t) k w h = w

pub passed_given :
    (x : LockUnit) (b : Best) (k : CoreNo) →
    registered x (passed_to_lem b k).0 (with_flag (register_in x (passed_to_lem b k).0) b) ≡ given x b
passed_given x Nobody k = ap (λ (l : List Register). record { registers = l; next = x.next }) (set-get_or x.registers k.0 blank)
passed_given x (Won j t) k = refl

-- A unit whose register of core k changed

module _ (x : LockUnit) (k : ℕ) (r : Register) where
  pub changed_here : length x.registers ≡ cores → k < cores → register_in (registered x k r) k ≡ r
  changed_here long h = get_or-set_same x.registers k r blank (rw long h)

  pub changed_there : (j : ℕ) → j ≢ k → register_in (registered x k r) j ≡ register_in x j
  changed_there j d = get_or-set_other x.registers k j r blank d

-- another is next, and core k, if it is in line afterwards, is younger
module _ (n : ℕ) (x y : LockUnit) (k : ℕ) (beside : (j : ℕ) → j ≢ k → register_in y j ≡ register_in x j) where
  pub won_stays :
      (j : CoreNo) (s : Ticket) → next n x ≡ Won j s → j.0 ≢ k →
      (in_line (register_in y k) ≡ true → compare s.0 (register_in y k).ticket.0 ≡ Older) →
      next n y ≡ Won j s
  won_stays j s e d younger =
      let w = next_won n x j s e in
      next_over n y j s w.2 (ap in_line (beside j.0 d) ∙ w.0) (ap (λ (r : Register). r.ticket) (beside j.0 d) ∙ w.1)
      (λ i h a q. go i h a q (same_or_not i k))
    where
      go :
          (i : ℕ) → i < n → i ≢ j.0 → in_line (register_in y i) ≡ true → (i ≡ k) ⊎ (i ≢ k) →
          compare s.0 (register_in y i).ticket.0 ≡ Older
      go i h a q (inl f) =
          ap (λ (m : ℕ). compare s.0 (register_in y m).ticket.0) f ∙ younger (ap (λ (m : ℕ). in_line (register_in y m)) (sym f) ∙ q)
      go i h a q (inr f) =
          ap (λ (r : Register). compare s.0 r.ticket.0) (beside i f) ∙
          next_oldest n x j s e i h a (ap in_line (sym (beside i f)) ∙ q)

  -- core k is not in line afterwards
  pub won_left : (j : CoreNo) (s : Ticket) → next n x ≡ Won j s → j.0 ≢ k → in_line (register_in y k) ≡ false → next n y ≡ Won j s
  won_left j s e d out = won_stays j s e d (λ q. absurd (clash q out))

-- whoever is next is in line
next_lined : (n : ℕ) (x : LockUnit) (k : ℕ) → in_line (register_in x k) ≡ false → (j : CoreNo) (s : Ticket) → next n x ≡ Won j s → j.0 ≢ k
next_lined n x k out j s e d = clash (next_won n x j s e).0 (ap (λ (m : ℕ). in_line (register_in x m)) d ∙ out)

-- core k is in line neither before nor afterwards
pub next_aside :
    (n : ℕ) (x y : LockUnit) (k : ℕ) →
    ((j : ℕ) → j ≢ k → register_in y j ≡ register_in x j) →
    in_line (register_in x k) ≡ false →
    in_line (register_in y k) ≡ false →
    next n y ≡ next n x
next_aside n x y k beside out out' = go (next n x) refl (next n y) refl
  where
    go : (b : Best) → next n x ≡ b → (d : Best) → next n y ≡ d → next n y ≡ next n x
    go (Won j s) e d f = won_left n x y k beside j s e (next_lined n x k out j s e) out' ∙ sym e
    go Nobody e (Won j s) f = f ∙ sym (won_left n y x k (λ i h. sym (beside i h)) j s f (next_lined n y k out' j s f) out)
    go Nobody e Nobody f = f ∙ sym e

-- Leaving

module _ (n : ℕ) (x : LockUnit) (k : ℕ) (long : length x.registers ≡ cores) (small : k < cores) where
  abbrev gone : LockUnit
  gone = registered x k blank

  out_there : in_line (register_in gone k) ≡ false
  out_there = ap in_line (changed_here x k blank long small)

  -- not in line, as where its flag was set
  pub left_aside : in_line (register_in x k) ≡ false → next n gone ≡ next n x
  left_aside out = next_aside n x gone k (changed_there x k blank) out out_there

  -- in line, and not next
  pub left_other : (j : CoreNo) (s : Ticket) → next n x ≡ Won j s → j.0 ≢ k → next n gone ≡ next n x
  left_other j s e d = won_left n x gone k (changed_there x k blank) j s e d out_there ∙ sym e

-- In the window behind c

-- a ticket that is not younger than one is older than all that this one is older than
module _ (c t s : ℕ) (wt : Window c t) (ws : Window c s) where
  as_old : is_younger (compare t s) ≡ false → (v : ℕ) → Window c v → compare s v ≡ Older → compare t v ≡ Older
  as_old e v wv o = go (compare t s) refl
    where
      go : (r : Comparison) → compare t s ≡ r → compare t v ≡ Older
      go Older f = transitive c t s v wt ws wv f o
      go Younger f = absurd (clash (ap is_younger f) e)
      go Same f =
          let zero : behind t s ≡ 0 = told t s Same f in
          let far : behind c v < behind c s = further c s v ws wv o in
          of_further c t v wt wv (omega (arith, behind_by c t s, wt.least, wt.most, ws.least, ws.most))
      go Opposite f = absurd (never_opposite c t s wt ws f)

-- Joining: core k stands with the ticket t; the tickets in line then lie in the window behind c, and no two compare the same

module _
    (n : ℕ)
    (x : LockUnit)
    (k : CoreNo)
    (t : Ticket)
    (few : n ≤ cores)
    (long : length x.registers ≡ cores)
    (within : k.0 < n)
  where
    abbrev stood : LockUnit
    stood = registered x k.0 (standing t)

    here : register_in stood k.0 ≡ standing t
    here = changed_here x k.0 (standing t) long (omega arith)

    there : (j : ℕ) → j ≢ k.0 → register_in stood j ≡ register_in x j
    there = changed_there x k.0 (standing t)

    -- nobody else is in line
    pub joined_alone : ((j : ℕ) → j < n → j ≢ k.0 → in_line (register_in x j) ≡ false) → next n stood ≡ Won k t
    joined_alone none =
        next_alone n stood k.0 within (ap in_line here) (λ j h d. ap in_line (there j d) ∙ none j h d) ∙
        ap (λ (r : Register). Won k r.ticket) here

    module _
        (c : ℕ)
        (recent : (j : ℕ) → j < n → in_line (register_in stood j) ≡ true → Window c (register_in stood j).ticket.0)
        (differ :
        (i j : ℕ) → i < n → j < n → i ≢ j → in_line (register_in stood i) ≡ true → in_line (register_in stood j) ≡ true →
        compare (register_in stood i).ticket.0 (register_in stood j).ticket.0 ≢ Same)
      where
        mine : Window c t.0
        mine = subst (λ (r : Register). Window c r.ticket.0) here (recent k.0 within (ap in_line here))

        -- another core that is in line before and afterwards
        its : (j : ℕ) → j < n → j ≢ k.0 → in_line (register_in x j) ≡ true → Window c (register_in x j).ticket.0
        its j h d q = subst (λ (r : Register). Window c r.ticket.0) (there j d) (recent j h (ap in_line (there j d) ∙ q))

        -- t is older than all others in line
        beats :
            ((j : ℕ) → j < n → j ≢ k.0 → in_line (register_in x j) ≡ true → compare t.0 (register_in x j).ticket.0 ≡ Older) →
            next n stood ≡ Won k t
        beats over =
            next_over n stood k t within (ap in_line here) (ap (λ (r : Register). r.ticket) here)
            (λ j h d q.
            ap (λ (r : Register). compare t.0 r.ticket.0) (there j d) ∙
            over j h d (ap in_line (sym (there j d)) ∙ q))

        -- another is next: it is compared with that one
        pub joined_won : (j : CoreNo) (s : Ticket) → next n x ≡ Won j s → j.0 ≢ k.0 → next n stood ≡ compared (Won j s) k t
        joined_won j s e d = go (ordered c t.0 s.0 mine ws apart)
          where
            w : (in_line (register_in x j.0) ≡ true) × ((register_in x j.0).ticket ≡ s) × (j.0 < n)
            w = next_won n x j s e

            ws : Window c s.0
            ws = subst (λ (v : Ticket). Window c v.0) w.1 (its j.0 w.2 d w.0)

            apart : compare t.0 s.0 ≢ Same
            apart q =
                differ k.0 j.0 within w.2 (λ f. d (sym f)) (ap in_line here) (ap in_line (there j.0 d) ∙ w.0)
                (ap₂ (λ (r : Register) (v : Ticket). compare r.ticket.0 v.0) here
                (ap (λ (r : Register). r.ticket) (there j.0 d) ∙ w.1) ∙
                q)

            over : compare t.0 s.0 ≡ Older → (i : ℕ) → i < n → i ≢ k.0 → in_line (register_in x i) ≡ true → (i ≡ j.0) ⊎ (i ≢ j.0) → compare t.0 (register_in x i).ticket.0 ≡ Older
            over o i h a q (inl f) =
                ap (λ (m : ℕ). compare t.0 (register_in x m).ticket.0) f ∙ ap (λ (v : Ticket). compare t.0 v.0) w.1 ∙ o
            over o i h a q (inr f) =
                transitive c t.0 s.0 (register_in x i).ticket.0 mine ws (its i h a q) o (next_oldest n x j s e i h f q)

            go : (compare t.0 s.0 ≡ Older) ⊎ (compare t.0 s.0 ≡ Younger) → next n stood ≡ compared (Won j s) k t
            go (inl o) =
                beats (λ i h a q. over o i h a q (same_or_not i j.0)) ∙
                sym (ap (λ (r : Comparison). cond (is_older r) (Won k t) (Won j s)) o)
            go (inr y) =
                won_stays n x stood k.0 there j s e d
                (λ q. ap (λ (r : Register). compare s.0 r.ticket.0) here ∙ swapped t.0 s.0 ∙ ap turned y) ∙
                sym (ap (λ (r : Comparison). cond (is_older r) (Won k t) (Won j s)) y)

        -- nobody is next only where nobody else is in line, and core k is not next: it is compared with the one that is
        pub joined_next :
            (next n x ≡ Nobody → (j : ℕ) → j < n → in_line (register_in x j) ≡ false) →
            ((j : CoreNo) (s : Ticket) → next n x ≡ Won j s → j.0 ≢ k.0) →
            next n stood ≡ compared (next n x) k t
        joined_next none other = go (next n x) refl
          where
            go : (b : Best) → next n x ≡ b → next n stood ≡ compared b k t
            go Nobody e = joined_alone (λ j h d. none e j h)
            go (Won j s) e = joined_won j s e (other j s e)

        -- core k is next and shows a ticket that is not younger: it still is
        pub joined_own :
            (s : Ticket) → next n x ≡ Won k s → Window c s.0 → is_younger (compare t.0 s.0) ≡ false → next n stood ≡ Won k t
        joined_own s e ws old =
            beats (λ j h d q. as_old c t.0 s.0 mine ws old (register_in x j).ticket.0 (its j h d q) (next_oldest n x k s e j h d q))
