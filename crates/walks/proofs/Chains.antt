-- The replies to a script, without an output, are one chain. A walk works a stretch of it, which stays a stretch with more bytes after the
-- script. Of two stretches from one place, one is a beginning of the other; and output bytes enough for the whole chain are enough.
use Prim.Native.Nat.{ℕ, zero, suc, ◌+◌, ◌≤◌, ◌<◌}
use mathlib.Core.Bool.{true}
use mathlib.Core.List.{List, [], ◌∷◌, ◌++◌, append_assoc}
use mathlib.Core.Logic.{◌⊎◌, inl, inr, ◌≢◌}
use mathlib.Core.Path.{◌≡◌, refl, sym, ◌∙◌, ap, subst}
use native.Mathlib.Nat.{add-zero, not-suc-le-zero}
use native.Mathlib.Omega.{arith}
use lib.ListN.{length, drop, length-append, length-drop}
use lib.Seq.{drop-drop, drop-append-le}
use borrow.Author.Tests.{le-leb}
use Rattle.parts.proofs.Bools.{and_left, and_right, and_both, clash}
use Rattle.digits.specs.Text.{pasted}
use Rattle.walks.specs.Walk.{Reply, Turn, Steady, Output, has_room, put, Desk, replied, Ended, walked}
use Rattle.walks.proofs.Pasting.{fits_says, pasted_nothing, pasted_twice}
use Rattle.walks.proofs.Along.{asked, Goes, Halts, along}
use Rattle.walks.proofs.Kept.{kept}

-- what replies say in one output
abbrev pub text : {Q : Type 0} → (Reply Q → List ℕ) → List (Reply Q) → List ℕ
text f [] = []
text f (a ∷ vs) = f a ++ text f vs

abbrev pub said : {Q : Type 0} → List (Reply Q) → List ℕ
said vs = text (λ a. a.said) vs

abbrev pub also : {Q : Type 0} → List (Reply Q) → List ℕ
also vs = text (λ a. a.also) vs

pub text_append : {Q : Type 0} (f : Reply Q → List ℕ) (vs bs : List (Reply Q)) → text f (vs ++ bs) ≡ text f vs ++ text f bs
text_append f [] bs = refl
text_append f (a ∷ vs) bs = ap (λ (l : List ℕ). f a ++ l) (text_append f vs bs) ∙ sym (append_assoc (f a) (text f vs) (text f bs))

-- an output after a stretch
pub record Wrote (o m : Output) (xs : List ℕ) : Type 0 where
  pub wrote : m.wrote ≡ o.wrote + length xs
  pub bytes : m.bytes ≡ pasted o.bytes o.wrote xs

wrote_nothing : (o : Output) → Wrote o o []
wrote_nothing o = record { wrote = sym (add-zero o.wrote); bytes = sym (pasted_nothing o.bytes o.wrote) }

wrote_more : (o m : Output) (xs ys : List ℕ) → has_room o xs ≡ true → Wrote (put o xs) m ys → Wrote o m (xs ++ ys)
wrote_more o m xs ys f later =
    let h = fits_says o.bytes o.wrote xs f in
    record {
      wrote = later.wrote ∙ omega (arith, length-append xs ys);
      bytes = later.bytes ∙ pasted_twice o.bytes o.wrote xs (omega arith) ys;
    }

module _ {Q W : Type 0} (T : Turn Q W) where
  -- where q is known and s is left, the turn answers so one line after another, and then p is known and t left
  abbrev pub Chain : Q → List ℕ → List (Reply Q) → Q → List ℕ → Type 0
  Chain q s [] p t = (q ≡ p) × (s ≡ t)
  Chain q s (a ∷ vs) p t = (T.ask q s ≡ inl a) × Chain a.then (drop a.used s) vs p t

  pub chain_append :
      (q : Q) (s : List ℕ) (p : Q) (t : List ℕ) (o : Q) (u : List ℕ) (vs bs : List (Reply Q)) →
      Chain q s vs p t →
      Chain p t bs o u →
      Chain q s (vs ++ bs) o u
  chain_append q s p t o u [] bs (e, f) c =
      subst (λ (z : Q). Chain z s bs o u) (sym e) (subst (λ (l : List ℕ). Chain p l bs o u) (sym f) c)
  chain_append q s p t o u (a ∷ vs) bs (e, c) k = (e, chain_append a.then (drop a.used s) p t o u vs bs c k)

  -- a reply and a stop differ
  abbrev IsReply : Reply Q ⊎ W → Type 0
  IsReply (inl a) = Unit
  IsReply (inr why) = ⊥

  pub never_both : (q : Q) (s : List ℕ) (a : Reply Q) (why : W) → T.ask q s ≡ inl a → T.ask q s ≡ inr why → ⊥
  never_both q s a why e f = subst IsReply (sym e ∙ f) tt

  -- the reply there is
  abbrev or_else : Reply Q → Reply Q ⊎ W → Reply Q
  or_else b (inl a) = a
  or_else b (inr why) = b

  same_reply : (q : Q) (s : List ℕ) (a b : Reply Q) → T.ask q s ≡ inl a → T.ask q s ≡ inl b → a ≡ b
  same_reply q s a b e f = ap (or_else a) (sym e ∙ f)

  -- of two chains from one place, the second up to the end, the first is a beginning: what is left of the second
  pub record Left (q : Q) (s : List ℕ) (p : Q) (t : List ℕ) (vs bs : List (Reply Q)) : Type 0 where
    pub left : List (Reply Q)
    pub chain : Chain q s left p t
    pub whole : bs ≡ vs ++ left

  pub beginning :
      (o : Q) (u : List ℕ) (q : Q) (s : List ℕ) (p : Q) (t : List ℕ) (vs bs : List (Reply Q)) (why : W) →
      Chain o u vs q s →
      Chain o u bs p t →
      T.ask p t ≡ inr why →
      Left q s p t vs bs
  beginning o u q s p t [] bs why (e, f) k h =
      record { left = bs; chain = subst (λ (z : Q). Chain z s bs p t) e (subst (λ (l : List ℕ). Chain o l bs p t) f k); whole = refl }
  beginning o u q s p t (a ∷ vs) [] why (e, c) (k, l) h =
      absurd (never_both o u a why e (subst (λ (z : Q). T.ask z u ≡ inr why) (sym k) (subst (λ (z : List ℕ). T.ask p z ≡ inr why) (sym l) h)))
  beginning o u q s p t (a ∷ vs) (b ∷ bs) why (e, c) (f, k) h =
      let same = same_reply o u b a f e in
      let later =
      beginning a.then (drop a.used u) q s p t vs bs why c
      (subst (λ (z : Reply Q). Chain z.then (drop z.used u) bs p t) same k) h
      in
      record { left = later.left; chain = later.chain; whole = λ i. same i ∷ later.whole i }

  -- nothing is left at the end
  pub at_end : (q : Q) (s : List ℕ) (p : Q) (t : List ℕ) (vs : List (Reply Q)) (why : W) →
      T.ask q s ≡ inr why → Chain q s vs p t → (vs ≡ []) × (q ≡ p) × (s ≡ t)
  at_end q s p t [] why h (e, f) = (refl, e, f)
  at_end q s p t (a ∷ vs) why h (e, c) = absurd (never_both q s a why e h)

  module _ (steady : Steady T) where
    -- more bytes after the script
    pub chain_more :
        (q : Q) (s : List ℕ) (p : Q) (t : List ℕ) (vs : List (Reply Q)) (more : List ℕ) →
        Chain q s vs p t →
        Chain q (s ++ more) vs p (t ++ more)
    chain_more q s p t [] more (e, f) = (e, ap (λ (l : List ℕ). l ++ more) f)
    chain_more q s p t (a ∷ vs) more (e, c) =
        let m = steady.moves q s a e in (
          steady.ahead q s more a e,
          subst (λ (l : List ℕ). Chain a.then l vs p (t ++ more)) (sym (drop-append-le a.used s more m.1))
              (chain_more a.then (drop a.used s) p t vs more c),
        )

    -- the stretch that a walk works
    pub record Stretch (d : Desk Q) (s : List ℕ) (e : Ended Q W) : Type 0 where
      pub replies : List (Reply Q)
      pub chain : Chain d.state (drop d.place s) replies e.desk.state (drop e.desk.place s)
      pub first : Wrote d.first e.desk.first (said replies)
      pub second : Wrote d.second e.desk.second (also replies)
      pub ends : Halts T e.desk s e.why

    pub stretch : (d : Desk Q) (s : List ℕ) → Stretch d s (walked T d s)
    stretch d s =
        along T steady s (λ (d : Desk Q) (e : Ended Q W). Stretch d s e)
        (λ (d : Desk Q) (why : W) (w : Halts T d s why).
        record { replies = []; chain = (refl, refl); first = wrote_nothing d.first; second = wrote_nothing d.second; ends = w })
        (λ (d : Desk Q) (a : Reply Q) (e : Ended Q W) (w : Goes T d s a) (later : Stretch (replied d a) s e).
        let one = and_left (has_room d.first a.said) (has_room d.second a.also) w.fits in
        let two = and_right (has_room d.first a.said) (has_room d.second a.also) w.fits in
        let here : drop a.used (drop d.place s) ≡ drop (d.place + a.used) s = drop-drop a.used d.place s in
        record {
          replies = a ∷ later.replies;
          chain = (
            w.asks,
            subst (λ (l : List ℕ). Chain a.then l later.replies e.desk.state (drop e.desk.place s)) (sym here) later.chain,
          );
          first = wrote_more d.first e.desk.first a.said (said later.replies) one later.first;
          second = wrote_more d.second e.desk.second a.also (also later.replies) two later.second;
          ends = later.ends;
        })
        d

    -- room for a chain up to its end: the walk does not stop for want of it
    module _
        (d : Desk Q) (s : List ℕ) (p : Q) (t : List ℕ) (vs : List (Reply Q)) (why : W)
        (c : Chain d.state (drop d.place s) vs p t) (end : T.ask p t ≡ inr why) where
      abbrev stood : Desk Q
      stood = (walked T d s).desk

      more_to_say :
          (a : Reply Q) →
          asked T stood s ≡ inl a →
          (bs : List (Reply Q)) →
          Chain stood.state (drop stood.place s) bs p t →
          (length a.said ≤ length (said bs)) × (length a.also ≤ length (also bs))
      more_to_say a e [] (f, g) =
          absurd
          (never_both stood.state (drop stood.place s) a why e
          (subst (λ (z : Q). T.ask z (drop stood.place s) ≡ inr why) (sym f) (subst (λ (l : List ℕ). T.ask p l ≡ inr why) (sym g) end)))
      more_to_say a e (b ∷ bs) (f, k) =
          let same = same_reply stood.state (drop stood.place s) a b e f in
          let one = ap (λ (x : Reply Q). length x.said) same in
          let two = ap (λ (x : Reply Q). length x.also) same in
          let l = length-append b.said (said bs) in
          let m = length-append b.also (also bs) in
          (omega arith, omega arith)

      -- the output has room for what comes next
      fits_next :
          (o m : Output) (xs ys all next : List ℕ) →
          Wrote o m xs →
          length m.bytes ≡ length o.bytes →
          all ≡ xs ++ ys →
          length next ≤ length ys →
          o.wrote + length all ≤ length o.bytes →
          has_room m next ≡ true
      fits_next o m xs ys all next w size whole few h =
          let a = w.wrote in
          let b = ap length whole ∙ length-append xs ys in
          le-leb (m.wrote + length next) (length m.bytes) (omega arith)

      pub room_enough :
          d.first.wrote + length (said vs) ≤ length d.first.bytes →
          d.second.wrote + length (also vs) ≤ length d.second.bytes →
          (walked T d s).why ≢ T.full
      room_enough h k is = go (stretch d s).ends
        where
          go : Halts T stood s (walked T d s).why → ⊥
          go (inl e) = steady.other stood.state (drop stood.place s) (walked T d s).why e is
          go (inr (a, w, none)) =
              let x = stretch d s in
              let b = beginning d.state (drop d.place s) stood.state (drop stood.place s) p t x.replies vs why x.chain c end in
              let m = more_to_say a w.asks b.left b.chain in
              let z = kept T steady d s in
              let one = ap said b.whole ∙ text_append (λ (y : Reply Q). y.said) x.replies b.left in
              let two = ap also b.whole ∙ text_append (λ (y : Reply Q). y.also) x.replies b.left in
              clash
              (and_both
              (fits_next d.first stood.first (said x.replies) (said b.left) (said vs) a.said x.first z.0.size one m.0 h)
              (fits_next d.second stood.second (also x.replies) (also b.left) (also vs) a.also x.second z.1.size two m.1 k))
              w.full

    -- every chain comes to an end
    pub record RunsOut (q : Q) (s : List ℕ) : Type 0 where
      pub replies : List (Reply Q)
      pub last : Q
      pub left : List ℕ
      pub why : W
      pub chain : Chain q s replies last left
      pub end : T.ask last left ≡ inr why

    pub runs_out : (f : ℕ) (q : Q) (s : List ℕ) → length s < f → RunsOut q s
    runs_out zero q s h = absurd (not-suc-le-zero h)
    runs_out (suc f) q s h = go (T.ask q s) refl (runs_out f)
      where
        go : (w : Reply Q ⊎ W) → T.ask q s ≡ w → ((p : Q) (t : List ℕ) → length t < f → RunsOut p t) → RunsOut q s
        go (inl a) e later =
            let m = steady.moves q s a e in
            let l = length-drop a.used s in
            let z = later a.then (drop a.used s) (omega (arith, m.0, m.1)) in
            record { replies = a ∷ z.replies; last = z.last; left = z.left; why = z.why; chain = (e, z.chain); end = z.end }
        go (inr why) e later = record { replies = []; last = q; left = s; why = why; chain = (refl, refl); end = e }
