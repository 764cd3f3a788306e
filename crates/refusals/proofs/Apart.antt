-- The cores' tickets apart: they are the cores' one by one, and of them 15 asks what it asks of the cores.
use Prim.Native.Nat.{ℕ, zero, suc}
use mathlib.Core.Bool.{Bool, true, false, ◌&&◌}
use mathlib.Core.List.{List}
use mathlib.Core.Path.{◌≡◌, refl, sym, ◌∙◌, ap₂}
use lib.ListN.{length, get_or, length-map, get_or-map}
use Rattle.ticket.specs.Order.{compare}
use Rattle.ticket.specs.declared.kinds.Ticket.{Ticket}
use Rattle.parts.specs.Fold.{some, up_to}
use Rattle.parts.specs.Parts.{cores, idle}
use Rattle.parts.specs.State.{is_dropped}
use Rattle.parts.specs.declared.kinds.Core.{Core}
use Rattle.parts.specs.declared.kinds.Counts.{Counts}
use Rattle.parts.specs.declared.answer.Step.{Step}
use Rattle.parts.specs.declared.answer.Step.TheVariants.{R, N, P, I, C, L}
use Rattle.refusals.specs.Judge.{far, live, old, stretched, judge}
use Rattle.refusals.specs.Tickets.{own_in, lives_of, owns_of, old_at, stretched_by, asks, asked}

pub live_at : (cs : List Core) (k : ℕ) → live (get_or cs k idle) ≡ get_or (lives_of cs) k false
live_at cs k = sym (get_or-map live cs k idle)

pub own_at : (cs : List Core) (k : ℕ) → own_in (get_or cs k idle) ≡ get_or (owns_of cs) k 0
own_at cs k = sym (get_or-map own_in cs k idle)

pub lives_long : (cs : List Core) → length cs ≡ cores → length (lives_of cs) ≡ cores
lives_long cs e = length-map cs live ∙ e

pub owns_long : (cs : List Core) → length cs ≡ cores → length (owns_of cs) ≡ cores
owns_long cs e = length-map cs own_in ∙ e

-- 15
old_apart : (m : Ticket) (cs : List Core) (k : ℕ) → old_at m (lives_of cs) (owns_of cs) k ≡ old m (get_or cs k idle)
old_apart m cs k = sym (ap₂ (λ (b : Bool) (n : ℕ). b && far (compare n m.0)) (live_at cs k) (own_at cs k))

some_alike : (p q : ℕ → Bool) → ((k : ℕ) → p k ≡ q k) → (n : ℕ) → some p n ≡ some q n
unfolding up_to
some_alike p q e zero = refl
some_alike p q e (suc n) = rw (some_alike p q e n, e n)

pub stretched_apart : (m : Ticket) (cs : List Core) (n : ℕ) → stretched_by m (lives_of cs) (owns_of cs) n ≡ stretched m cs n
stretched_apart m cs n = some_alike (old_at m (lives_of cs) (owns_of cs)) (λ (k : ℕ). old m (get_or cs k idle)) (old_apart m cs) n

asked_once : (b late : Bool) → (b && (b && late)) ≡ (b && late)
asked_once true late = refl
asked_once false late = refl

-- a verdict that does not ask whether a live ticket is stretched is the same either way
pub judge_asked : (s : Step) (n : Counts) (late : Bool) (c : Core) → judge s n (asked s c late) c ≡ judge s n late c
judge_asked (R k u) n late c = refl
judge_asked (N k u) n late c = refl
judge_asked (P k) n late c = refl
judge_asked (I k) n late c = refl
judge_asked (C k) n late c = rw (asked_once (is_dropped c.state) late)
judge_asked (L k) n late c = refl

module _ (s : Step) (c : Core) (b late : Bool) (says : b ≡ asks s c) where
  pub asks_none : b ≡ false → false ≡ asked s c late
  asks_none e = rw (sym says ∙ e)

  pub asks_all : (r : Bool) → b ≡ true → r ≡ late → r ≡ asked s c late
  asks_all r e is = rw (sym says ∙ e) is
