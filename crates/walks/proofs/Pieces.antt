-- For every split of a script into pieces, and of the room into pieces, the walks made one after another leave what one walk with all of it
-- leaves. Each works a stretch of the script's one chain of replies, and the stretches join; a walk that stops for another reason than room has
-- come to the chain's end.
use Prim.Native.Nat.{ℕ, ◌≤◌}
use mathlib.Core.List.{List, [], ◌∷◌, ◌++◌, append_assoc, append-nil}
use mathlib.Core.Logic.{◌⊎◌, inl, inr, ⊎_elim, ◌≢◌}
use mathlib.Core.Path.{◌≡◌, refl, sym, ◌∙◌, ap, subst}
use native.Mathlib.Omega.{arith}
use lib.ListN.{length, take}
use Rattle.walks.specs.Walk.{Reply, Turn, Steady, Output, Desk, walked}
use Rattle.walks.specs.Pieces.{Piece, Going, begun, lent, fresh, written, given, pieces, all_more}
use Rattle.walks.proofs.Pasting.{take_with}
use Rattle.walks.proofs.Along.{asked, Halts}
use Rattle.walks.proofs.Chains.{said, also, text_append, Wrote, Chain, chain_append, chain_more, beginning, at_end, Stretch, stretch, room_enough}

-- the same bytes in one piece
abbrev in_one : List Piece → List ℕ → List ℕ → Piece
in_one ps first second = record { more = all_more ps; first = first; second = second }

-- what a stretch wrote into bytes lent for it
written_said : (room xs : List ℕ) (o : Output) → Wrote (lent room) o xs → written o ≡ xs
written_said room xs o w = (λ i. take (w.wrote i) (w.bytes i)) ∙ take_with room 0 xs (omega arith)

module _ {Q W : Type 0} (T : Turn Q W) (steady : Steady T) where
  -- the stop there is
  abbrev or_stop : W → Reply Q ⊎ W → W
  or_stop y (inl a) = y
  or_stop y (inr why) = why

  -- g is what walks with the script s in all have left, where q was known at first
  record Follows (q : Q) (s : List ℕ) (g : Going Q W) : Type 0 where
    replies : List (Reply Q)
    chain : Chain T q s replies g.state g.rest
    first : g.first ≡ said replies
    second : g.second ≡ also replies

  -- and why they stopped
  record Stops (q : Q) (s : List ℕ) (g : Going Q W) : Type 0 where
    follows : Follows q s g
    ends : (g.why ≡ T.full) ⊎ (T.ask g.state g.rest ≡ inr g.why)

  begun_follows : (q : Q) → Follows q [] (begun T q)
  begun_follows q = record { replies = []; chain = (refl, refl); first = refl; second = refl }

  stopped_at : (d : Desk Q) (s : List ℕ) (why : W) → Halts T d s why → (why ≡ T.full) ⊎ (asked T d s ≡ inr why)
  stopped_at d s why (inl e) = inr e
  stopped_at d s why (inr (a, w, is)) = inl is

  -- one walk more
  module _ (q : Q) (s : List ℕ) (g : Going Q W) (p : Piece) (f : Follows q s g) where
    abbrev had : List ℕ
    had = g.rest ++ p.more

    abbrev desk : Desk Q
    desk = fresh g.state p.first p.second

    worked : Stretch T steady desk had (walked T desk had)
    worked = stretch T steady desk had

    given_follows : Follows q (s ++ p.more) (given T g p)
    given_follows =
        record {
          replies = f.replies ++ worked.replies;
          chain =
              chain_append T q (s ++ p.more) g.state had (given T g p).state (given T g p).rest f.replies worked.replies
              (chain_more T steady q s g.state g.rest f.replies p.more f.chain)
              worked.chain;
          first =
              (λ i. f.first i ++ written_said p.first (said worked.replies) (walked T desk had).desk.first worked.first i) ∙
              sym (text_append (λ (a : Reply Q). a.said) f.replies worked.replies);
          second =
              (λ i. f.second i ++ written_said p.second (also worked.replies) (walked T desk had).desk.second worked.second i) ∙
              sym (text_append (λ (a : Reply Q). a.also) f.replies worked.replies);
        }

    given_stops : Stops q (s ++ p.more) (given T g p)
    given_stops = record { follows = given_follows; ends = stopped_at (walked T desk had).desk had (walked T desk had).why worked.ends }

  pieces_stop : (q : Q) (s : List ℕ) (g : Going Q W) (ps : List Piece) → Stops q s g → Stops q (s ++ all_more ps) (pieces T g ps)
  unfolding pieces all_more
  pieces_stop q s g [] k = subst (λ (l : List ℕ). Stops q l g) (sym (append-nil s)) k
  pieces_stop q s g (p ∷ ps) k =
      subst (λ (l : List ℕ). Stops q l (pieces T (given T g p) ps)) (append_assoc s p.more (all_more ps))
      (pieces_stop q (s ++ p.more) (given T g p) ps (given_stops q s g p k.follows))

  -- some walks, and one walk
  module _ (q : Q) (p : Piece) (ps : List Piece) where
    many_stop : Stops q (all_more (p ∷ ps)) (pieces T (begun T q) (p ∷ ps))
    unfolding pieces all_more
    many_stop = pieces_stop q p.more (given T (begun T q) p) ps (given_stops q [] (begun T q) p (begun_follows q))

    one_stops : (x y : List ℕ) → Stops q (all_more (p ∷ ps)) (given T (begun T q) (in_one (p ∷ ps) x y))
    one_stops x y = given_stops q [] (begun T q) (in_one (p ∷ ps) x y) (begun_follows q)

  ended : (q : Q) (s : List ℕ) (g : Going Q W) → Stops q s g → g.why ≢ T.full → T.ask g.state g.rest ≡ inr g.why
  ended q s g k other = ⊎_elim (λ e. absurd (other e)) (λ e. e) k.ends

  same_end : (q : Q) (s : List ℕ) (g h : Going Q W) → Stops q s g → Stops q s h → g.why ≢ T.full → h.why ≢ T.full → g ≡ h
  same_end q s g h k l other-k other-l =
      let m = k.follows in
      let n = l.follows in
      let end_k = ended q s g k other-k in
      let end_l = ended q s h l other-l in
      let b = beginning T q s g.state g.rest h.state h.rest m.replies n.replies h.why m.chain n.chain end_l in
      let z = at_end T g.state g.rest h.state h.rest b.left g.why end_k b.chain in
      let same : n.replies ≡ m.replies = b.whole ∙ ap (λ (t : List (Reply Q)). m.replies ++ t) z.0 ∙ append-nil m.replies in
      let first : g.first ≡ h.first = m.first ∙ sym (ap said same) ∙ sym n.first in
      let second : g.second ≡ h.second = m.second ∙ sym (ap also same) ∙ sym n.second in
      let state : g.state ≡ h.state = z.1 in
      let rest : g.rest ≡ h.rest = z.2 in
      let why : g.why ≡ h.why = ap (or_stop g.why) (sym end_k ∙ (λ i. T.ask (state i) (rest i)) ∙ end_l) in
      λ i. record { state = state i; rest = rest i; first = first i; second = second i; why = why i }

  -- both stopped for another reason than room: they leave the same
  pub one_walk :
      (q : Q) (p : Piece) (ps : List Piece) (x y : List ℕ) →
      (pieces T (begun T q) (p ∷ ps)).why ≢ T.full →
      (given T (begun T q) (in_one (p ∷ ps) x y)).why ≢ T.full →
      pieces T (begun T q) (p ∷ ps) ≡ given T (begun T q) (in_one (p ∷ ps) x y)
  one_walk q p ps x y = same_end q (all_more (p ∷ ps)) _ _ (many_stop q p ps) (one_stops q p ps x y)

  -- room for what the pieces' walks wrote is enough for the one walk
  pub one_walk_room :
      (q : Q) (p : Piece) (ps : List Piece) (x y : List ℕ) →
      let g = pieces T (begun T q) (p ∷ ps) in
      g.why ≢ T.full →
      length g.first ≤ length x →
      length g.second ≤ length y →
      g ≡ given T (begun T q) (in_one (p ∷ ps) x y)
  one_walk_room q p ps x y other h k =
      let s = all_more (p ∷ ps) in
      let g = pieces T (begun T q) (p ∷ ps) in
      let m = many_stop q p ps in
      let end = ended q s g m other in
      let a = ap length m.follows.first in
      let b = ap length m.follows.second in
      one_walk q p ps x y other
      (room_enough T steady (fresh q x y) s g.state g.rest m.follows.replies _
      m.follows.chain end (omega arith) (omega arith))

  -- whatever the pieces' walks stopped for: they wrote a beginning of what the one walk wrote
  pub no_room_prefix :
      (q : Q) (p : Piece) (ps : List Piece) (x y : List ℕ) →
      let one = given T (begun T q) (in_one (p ∷ ps) x y) in
      let g = pieces T (begun T q) (p ∷ ps) in
      one.why ≢ T.full →
      ((later : List ℕ) × (one.first ≡ g.first ++ later)) × ((later : List ℕ) × (one.second ≡ g.second ++ later))
  no_room_prefix q p ps x y other =
      let s = all_more (p ∷ ps) in
      let one = given T (begun T q) (in_one (p ∷ ps) x y) in
      let g = pieces T (begun T q) (p ∷ ps) in
      let m = (many_stop q p ps).follows in
      let l = one_stops q p ps x y in
      let n = l.follows in
      let b = beginning T q s g.state g.rest one.state one.rest m.replies n.replies one.why m.chain n.chain (ended q s one l other) in (
        (said b.left, n.first ∙ ap said b.whole ∙ text_append (λ (a : Reply Q). a.said) m.replies b.left ∙ ap (λ (t : List ℕ). t ++ said b.left) (sym m.first)),
        (also b.left, n.second ∙ ap also b.whole ∙ text_append (λ (a : Reply Q). a.also) m.replies b.left ∙ ap (λ (t : List ℕ). t ++ also b.left) (sym m.second)),
      )
