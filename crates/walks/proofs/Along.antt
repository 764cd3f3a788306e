-- The next line of a walk: it is answered and fits, or it stops the walk. What holds where the next line stops the walk, and is taken from after a
-- line to before it, holds of every walk: the one induction over `lines`. A walk has a turn more than bytes left, and any more would change nothing.
use Prim.Native.Nat.{ℕ, zero, suc, ◌+◌, ◌-◌, ◌≤◌, ◌<◌}
use mathlib.Core.Bool.{Bool, true, false, cond, ◌&&◌}
use mathlib.Core.List.{List}
use mathlib.Core.Logic.{◌⊎◌, inl, inr, ⊎_elim}
use mathlib.Core.Path.{◌≡◌, refl, sym, ◌∙◌, ap, subst}
use native.Mathlib.Nat.{not-suc-le-zero}
use native.Mathlib.Omega.{arith}
use lib.ListN.{length, drop, length-drop}
use Rattle.walks.specs.Walk.{Reply, Turn, Steady, Desk, has_room, replied, if_room, turned, Ended, halted, lines, walked}

module _ {Q W : Type 0} (T : Turn Q W) where
  -- what the turn answers at a desk
  abbrev pub asked : Desk Q → List ℕ → Reply Q ⊎ W
  asked d s = T.ask d.state (drop d.place s)

  abbrev pub room : Desk Q → Reply Q → Bool
  room d a = has_room d.first a.said && has_room d.second a.also

  -- the next line is answered with a, and that fits
  pub record Goes (d : Desk Q) (s : List ℕ) (a : Reply Q) : Type 0 where
    pub asks : asked d s ≡ inl a
    pub fits : room d a ≡ true

  -- the next line asks for a, which does not fit
  pub record Full (d : Desk Q) (s : List ℕ) (a : Reply Q) : Type 0 where
    pub asks : asked d s ≡ inl a
    pub full : room d a ≡ false

  -- why the next line stops the walk
  abbrev pub Halts : Desk Q → List ℕ → W → Type 0
  Halts d s why = (asked d s ≡ inr why) ⊎ ((a : Reply Q) × Full d s a × (why ≡ T.full))

  by_room : (d : Desk Q) (s : List ℕ) (a : Reply Q) (b : Bool) →
      asked d s ≡ inl a → room d a ≡ b → turned T d s ≡ cond b (inl (replied d a)) (inr T.full)
  by_room d s a b e f =
      ap (⊎_elim (if_room T.full d) inr) e ∙ ap (λ (t : Bool). cond t (inl (replied d a)) (inr T.full)) f

  pub goes_turned : (d : Desk Q) (s : List ℕ) (a : Reply Q) → Goes d s a → turned T d s ≡ inl (replied d a)
  goes_turned d s a w = by_room d s a true w.asks w.fits

  pub halts_turned : (d : Desk Q) (s : List ℕ) (why : W) → Halts d s why → turned T d s ≡ inr why
  halts_turned d s why (inl e) = ap (⊎_elim (if_room T.full d) inr) e
  halts_turned d s why (inr (a, w, is)) = by_room d s a false w.asks w.full ∙ ap inr (sym is)

  -- the next line goes one way or the other
  pub next_line : (d : Desk Q) (s : List ℕ) → ((a : Reply Q) × Goes d s a) ⊎ ((why : W) × Halts d s why)
  next_line d s = go (asked d s) refl
    where
      fitting :
          (a : Reply Q) →
          asked d s ≡ inl a →
          (b : Bool) →
          room d a ≡ b →
          ((a : Reply Q) × Goes d s a) ⊎ ((why : W) × Halts d s why)
      fitting a e true f = inl (a, record { asks = e; fits = f })
      fitting a e false f = inr (T.full, inr (a, record { asks = e; full = f }, refl))

      go : (w : Reply Q ⊎ W) → asked d s ≡ w → ((a : Reply Q) × Goes d s a) ⊎ ((why : W) × Halts d s why)
      go (inl a) e = fitting a e (room d a) refl
      go (inr why) e = inr (why, inl e)

  module _ (steady : Steady T) where
    -- a line that is answered ends past its start and within the script
    pub within : (d : Desk Q) (s : List ℕ) (a : Reply Q) → asked d s ≡ inl a → (0 < a.used) × (d.place + a.used ≤ length s)
    within d s a e =
        let m = steady.moves d.state (drop d.place s) a e in
        let l = length-drop d.place s in
        (m.0, omega (arith, m.0, m.1))

    module _
        (s : List ℕ) (P : Desk Q → Ended Q W → Type 0) (stands : (d : Desk Q) (why : W) → Halts d s why → P d (halted d why))
        (line : (d : Desk Q) (a : Reply Q) (e : Ended Q W) → Goes d s a → P (replied d a) e → P d e) where
      along_lines : (f : ℕ) (d : Desk Q) → length s - d.place < f → P d (lines T f d s)
      unfolding lines
      along_lines zero d h = absurd (not-suc-le-zero h)
      along_lines (suc f) d h = go (next_line d s) (along_lines f)
        where
          go :
              ((a : Reply Q) × Goes d s a) ⊎ ((why : W) × Halts d s why) →
              ((d' : Desk Q) → length s - d'.place < f → P d' (lines T f d' s)) →
              P d (lines T (suc f) d s)
          go (inl (a, w)) later =
              let k = within d s a w.asks in
              subst (λ (t : Desk Q ⊎ W). P d (⊎_elim (λ (next : Desk Q). lines T f next s) (halted d) t)) (sym (goes_turned d s a w))
              (line d a (lines T f (replied d a) s) w (later (replied d a) (omega (arith, k.0, k.1))))
          go (inr (why, w)) later =
              subst (λ (t : Desk Q ⊎ W). P d (⊎_elim (λ (next : Desk Q). lines T f next s) (halted d) t)) (sym (halts_turned d s why w))
              (stands d why w)

      pub along : (d : Desk Q) → P d (walked T d s)
      along d = along_lines (suc (length s - d.place)) d (omega arith)

    pub ends :
        (d : Desk Q) (s : List ℕ) (f g : ℕ) → length s - d.place < f → length s - d.place < g → lines T f d s ≡ lines T g d s
    unfolding lines
    ends d s zero g h k = absurd (not-suc-le-zero h)
    ends d s (suc f) zero h k = absurd (not-suc-le-zero k)
    ends d s (suc f) (suc g) h k = go (next_line d s) (λ d' l m. ends d' s f g l m)
      where
        by : ℕ → Desk Q ⊎ W → Ended Q W
        by n = ⊎_elim (λ (next : Desk Q). lines T n next s) (halted d)

        go :
            ((a : Reply Q) × Goes d s a) ⊎ ((why : W) × Halts d s why) →
            ((d' : Desk Q) → length s - d'.place < f → length s - d'.place < g → lines T f d' s ≡ lines T g d' s) →
            by f (turned T d s) ≡ by g (turned T d s)
        go (inl (a, w)) later =
            let k' = within d s a w.asks in
            ap (by f) (goes_turned d s a w) ∙
            later (replied d a) (omega (arith, k'.0, k'.1)) (omega (arith, k'.0, k'.1)) ∙
            sym (ap (by g) (goes_turned d s a w))
        go (inr (why, w)) later = ap (by f) (halts_turned d s why w) ∙ sym (ap (by g) (halts_turned d s why w))

    -- a walk by its next line
    pub on : (d : Desk Q) (s : List ℕ) (a : Reply Q) → Goes d s a → walked T d s ≡ walked T (replied d a) s
    unfolding lines
    on d s a w =
        let k = within d s a w.asks in
        ap (⊎_elim (λ (next : Desk Q). lines T (length s - d.place) next s) (halted d)) (goes_turned d s a w) ∙
        ends (replied d a) s (length s - d.place) (suc (length s - (d.place + a.used))) (omega (arith, k.0, k.1)) (omega arith)

    pub stop : (d : Desk Q) (s : List ℕ) (why : W) → Halts d s why → walked T d s ≡ halted d why
    unfolding lines
    stop d s why w = ap (⊎_elim (λ (next : Desk Q). lines T (length s - d.place) next s) (halted d)) (halts_turned d s why w)

    -- and by what the turn gives
    turned_either :
        (d : Desk Q) (s : List ℕ) (w : Desk Q ⊎ W) →
        turned T d s ≡ w →
        walked T d s ≡ ⊎_elim (λ (next : Desk Q). walked T next s) (halted d) w
    turned_either d s w e = go (next_line d s)
      where
        by : Desk Q ⊎ W → Ended Q W
        by = ⊎_elim (λ (next : Desk Q). walked T next s) (halted d)

        go : ((a : Reply Q) × Goes d s a) ⊎ ((why : W) × Halts d s why) → walked T d s ≡ by w
        go (inl (a, k)) = on d s a k ∙ ap by (sym (goes_turned d s a k) ∙ e)
        go (inr (why, k)) = stop d s why k ∙ ap by (sym (halts_turned d s why k) ∙ e)

    pub turned_on : (d next : Desk Q) (s : List ℕ) → turned T d s ≡ inl next → walked T d s ≡ walked T next s
    turned_on d next s = turned_either d s (inl next)

    pub turned_stop : (d : Desk Q) (s : List ℕ) (why : W) → turned T d s ≡ inr why → walked T d s ≡ halted d why
    turned_stop d s why = turned_either d s (inr why)
