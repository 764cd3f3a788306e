-- The number that a writer's answer carries, by the tests it comes from: 20 for what is out of range, then 23.
use Prim.Native.Nat.{ℕ, ◌+◌}
use mathlib.Core.Bool.{Bool, true, false, cond}
use mathlib.Core.List.{List}
use mathlib.Core.Path.{◌≡◌, refl, ◌∙◌, ap}
use lib.ListN.{length}
use Rattle.digits.specs.Room.{fits, wrote, left, written_number, write_number}
use Rattle.digits.specs.Written.{Written, Next, OutOfRange, NoRoom}

pub write_number_lem :
    (ranged : Bool) (o : List ℕ) (at : ℕ) (xs : List ℕ) →
    written_number (cond ranged (wrote o at xs) OutOfRange) ≡ write_number ranged o at xs
write_number_lem true o at xs = go (fits o at xs)
  where
    go : (b : Bool) → written_number (cond b (Next (at + length xs)) NoRoom) ≡ cond b 0 23
    go true = refl
    go false = refl
write_number_lem false o at xs = refl

-- an answer with what the output holds then, and with it its number
pub numbered :
    (ranged : Bool) (o : List ℕ) (at : ℕ) (xs : List ℕ) {w : Written} {m : List ℕ} →
    (w ≡ cond ranged (wrote o at xs) OutOfRange) × (m ≡ cond ranged (left o at xs) o) →
    (w ≡ cond ranged (wrote o at xs) OutOfRange) × (m ≡ cond ranged (left o at xs) o) × (written_number w ≡ write_number ranged o at xs)
numbered ranged o at xs h = (h.0, h.1, ap written_number h.0 ∙ write_number_lem ranged o at xs)
