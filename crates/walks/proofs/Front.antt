-- A walk from a place is the walk over the bytes from there on, its places moved on: a turn is asked about the bytes that are left, and about
-- nothing before them.
use Prim.Native.Nat.{ℕ, ◌+◌}
use mathlib.Core.List.{List}
use mathlib.Core.Logic.{inl, inr}
use mathlib.Core.Path.{◌≡◌, sym, ◌∙◌, ap}
use native.Mathlib.Omega.{arith}
use lib.ListN.{drop}
use lib.Seq.{drop-drop}
use Rattle.walks.specs.Walk.{Reply, Turn, Steady, Desk, replied, Ended, halted, walked}
use Rattle.walks.proofs.Along.{asked, Goes, Halts, along, on, stop}

-- a desk, and what a walk leaves, with so many bytes before the script
abbrev pub desk_on : {Q : Type 0} → ℕ → Desk Q → Desk Q
desk_on k d = record { state = d.state; place = k + d.place; first = d.first; second = d.second }

abbrev pub ended_on : {Q W : Type 0} → ℕ → Ended Q W → Ended Q W
ended_on k e = halted (desk_on k e.desk) e.why

module _ {Q W : Type 0} (T : Turn Q W) (steady : Steady T) (k : ℕ) (s : List ℕ) where
  same_asked : (d : Desk Q) → asked T (desk_on k d) s ≡ asked T d (drop k s)
  same_asked d = ap (T.ask d.state) (sym (drop-drop d.place k s))

  halts_on : (d : Desk Q) (why : W) → Halts T d (drop k s) why → Halts T (desk_on k d) s why
  halts_on d why (inl e) = inl (same_asked d ∙ e)
  halts_on d why (inr (a, w, is)) = inr (a, record { asks = same_asked d ∙ w.asks; full = w.full }, is)

  goes_on : (d : Desk Q) (a : Reply Q) → Goes T d (drop k s) a → Goes T (desk_on k d) s a
  goes_on d a w = record { asks = same_asked d ∙ w.asks; fits = w.fits }

  replied_on : (d : Desk Q) (a : Reply Q) → replied (desk_on k d) a ≡ desk_on k (replied d a)
  replied_on d a =
      let z : k + d.place + a.used ≡ k + (d.place + a.used) = omega arith in
      ap (λ (n : ℕ). record { state = a.then; place = n; first = (replied d a).first; second = (replied d a).second }) z

  pub walked_on : (d : Desk Q) → walked T (desk_on k d) s ≡ ended_on k (walked T d (drop k s))
  walked_on =
      along T steady (drop k s) (λ (d : Desk Q) (e : Ended Q W). walked T (desk_on k d) s ≡ ended_on k e)
      (λ (d : Desk Q) (why : W) (w : Halts T d (drop k s) why). stop T steady (desk_on k d) s why (halts_on d why w))
      (λ (d : Desk Q) (a : Reply Q) (e : Ended Q W) (w : Goes T d (drop k s) a) later.
      on T steady (desk_on k d) s a (goes_on d a w) ∙ ap (λ (x : Desk Q). walked T x s) (replied_on d a) ∙ later)
