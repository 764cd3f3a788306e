-- A walk that stopped, taken up again with more input and room, leaves what one walk with all of it leaves. Every line that it answered is
-- answered the same with more bytes after the script and more room after the outputs, so the longer walk comes by the same desks.
use Prim.Native.Nat.{ℕ, ◌+◌}
use mathlib.Core.Bool.{true}
use mathlib.Core.List.{List, ◌++◌}
use mathlib.Core.Path.{◌≡◌, refl, sym, ◌∙◌, ap}
use mathlib.Core.Logic.{inl}
use native.Mathlib.Omega.{arith}
use lib.ListN.{length, drop}
use lib.Seq.{drop-append-le}
use Rattle.parts.proofs.Bools.{and_left, and_right, and_both}
use Rattle.walks.specs.Walk.{Reply, Turn, Steady, Output, has_room, put, Desk, replied, Ended, walked}
use Rattle.walks.specs.Claims.{longer, roomier}
use Rattle.walks.proofs.Pasting.{fits_says, fits_more, pasted_more}
use Rattle.walks.proofs.Along.{asked, Goes, Halts, within, along, on}

put_longer : (o : Output) (room xs : List ℕ) → has_room o xs ≡ true → put (longer o room) xs ≡ longer (put o xs) room
put_longer o room xs f =
    ap (λ (l : List ℕ). record { bytes = l; wrote = o.wrote + length xs }) (pasted_more o.bytes room o.wrote xs (fits_says o.bytes o.wrote xs f))

module _ {Q W : Type 0} (T : Turn Q W) (steady : Steady T) where
  module _ (d : Desk Q) (s more r q : List ℕ) (a : Reply Q) (w : Goes T d s a) where
    first_fits : has_room d.first a.said ≡ true
    first_fits = and_left (has_room d.first a.said) (has_room d.second a.also) w.fits

    second_fits : has_room d.second a.also ≡ true
    second_fits = and_right (has_room d.first a.said) (has_room d.second a.also) w.fits

    asked_more : asked T d (s ++ more) ≡ inl a
    asked_more =
        let k = within T steady d s a w.asks in
        ap (T.ask d.state) (drop-append-le d.place s more (omega (arith, k.1))) ∙
        steady.ahead d.state (drop d.place s) more a w.asks

    goes_roomier : Goes T (roomier d r q) (s ++ more) a
    goes_roomier =
        record {
          asks = asked_more;
          fits =
              and_both
              (fits_more d.first.bytes r d.first.wrote a.said first_fits)
              (fits_more d.second.bytes q d.second.wrote a.also second_fits);
        }

    replied_roomier : replied (roomier d r q) a ≡ roomier (replied d a) r q
    replied_roomier =
        let x = put_longer d.first r a.said first_fits in
        let y = put_longer d.second q a.also second_fits in
        λ i. record { state = a.then; place = d.place + a.used; first = x i; second = y i }

  pub goes_on :
      (d : Desk Q) (s more r q : List ℕ) →
      walked T (roomier (walked T d s).desk r q) (s ++ more) ≡ walked T (roomier d r q) (s ++ more)
  goes_on d s more r q =
      along T steady s
      (λ (d : Desk Q) (e : Ended Q W). walked T (roomier e.desk r q) (s ++ more) ≡ walked T (roomier d r q) (s ++ more))
      (λ (d : Desk Q) (why : W) (w : Halts T d s why). refl)
      (λ (d : Desk Q) (a : Reply Q) (e : Ended Q W) (w : Goes T d s a) later.
      later ∙
      sym
      (on T steady (roomier d r q) (s ++ more) a (goes_roomier d s more r q a w) ∙
      ap (λ (x : Desk Q). walked T x (s ++ more)) (replied_roomier d s more r q a w)))
      d
