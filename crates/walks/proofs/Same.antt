-- Two turns that ask the same wherever G holds, which every answer keeps, make the same walk.
use Prim.Native.Nat.{ℕ, zero, suc, ◌-◌}
use mathlib.Core.Bool.{Bool, true, false, cond, ◌&&◌}
use mathlib.Core.List.{List}
use mathlib.Core.Logic.{◌⊎◌, inl, inr, ⊎_elim}
use mathlib.Core.Path.{◌≡◌, refl, ◌∙◌, ap}
use lib.ListN.{length, drop}
use Rattle.walks.specs.Walk.{Reply, Turn, has_room, Desk, replied, Ended, halted, if_room, lines, walked}

module _
    {Q W : Type 0} (full : W) (ask by : Q → List ℕ → Reply Q ⊎ W) (G : Q → Type 0)
    (same : (q : Q) (s : List ℕ) → G q → ask q s ≡ by q s)
    (keeps : (q : Q) (s : List ℕ) (a : Reply Q) → G q → ask q s ≡ inl a → G a.then)
  where
    abbrev turn : (Q → List ℕ → Reply Q ⊎ W) → Turn Q W
    turn f = record { ask = f; full = full }

    -- what follows an answer, by the lines after it
    abbrev next : (Desk Q → Ended Q W) → Desk Q → Reply Q ⊎ W → Ended Q W
    next more d r = ⊎_elim more (halted d) (⊎_elim (if_room full d) inr r)

    next_same :
        (more then : Desk Q → Ended Q W) (d : Desk Q) (s : List ℕ) →
        ((e : Desk Q) → G e.state → more e ≡ then e) →
        G d.state →
        (r : Reply Q ⊎ W) →
        ask d.state s ≡ r →
        next more d r ≡ next then d r
    next_same more then d s alike good (inr why) is = refl
    next_same more then d s alike good (inl a) is = fit (has_room d.first a.said && has_room d.second a.also)
      where
        fit :
            (b : Bool) →
            ⊎_elim more (halted d) (cond b (inl (replied d a)) (inr full)) ≡ ⊎_elim then (halted d) (cond b (inl (replied d a)) (inr full))
        fit true = alike (replied d a) (keeps d.state s a good is)
        fit false = refl

    lines_same : (f : ℕ) (d : Desk Q) (s : List ℕ) → G d.state → lines (turn ask) f d s ≡ lines (turn by) f d s
    unfolding lines
    lines_same zero d s good = refl
    lines_same (suc f) d s good =
        next_same (λ (e : Desk Q). lines (turn ask) f e s) (λ (e : Desk Q). lines (turn by) f e s) d (drop d.place s)
        (λ e g. lines_same f e s g) good (ask d.state (drop d.place s)) refl ∙
        ap (next (λ (e : Desk Q). lines (turn by) f e s) d) (same d.state (drop d.place s) good)

    pub walked_same : (d : Desk Q) (s : List ℕ) → G d.state → walked (turn ask) d s ≡ walked (turn by) d s
    walked_same d s good = lines_same (suc (length s - d.place)) d s good
