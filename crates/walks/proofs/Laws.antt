-- What holds of every walk whose turn is steady, together.
use Prim.Native.Nat.{ℕ, suc, ◌+◌, ◌≤◌}
use mathlib.Core.List.{List}
use mathlib.Core.Logic.{◌≢◌, ⊎_elim}
use native.Mathlib.Omega.{arith}
use lib.ListN.{length, drop, length-append}
use Rattle.walks.specs.Walk.{Turn, Steady, Desk, walked}
use Rattle.walks.specs.Claims.{roomier, EveryWalk}
use Rattle.walks.proofs.Along.{halts_turned, ends, turned_stop}
use Rattle.walks.proofs.Kept.{kept, halts_there}
use Rattle.walks.proofs.GoesOn.{goes_on}
use Rattle.walks.proofs.Chains.{said, also, room_enough, runs_out}
use Rattle.walks.proofs.Pieces.{one_walk, one_walk_room}

module _ {Q W : Type 0} (T : Turn Q W) (steady : Steady T) where
  -- the room that the lines of a script ask for, from a desk
  enough :
      (d : Desk Q) (s : List ℕ) →
      (n : ℕ) × ((x y : List ℕ) → n ≤ length x → n ≤ length y → (walked T (roomier d x y) s).why ≢ T.full)
  enough d s =
      let c = runs_out T steady (suc (length (drop d.place s))) d.state (drop d.place s) (omega arith) in (
        d.first.wrote + length (said c.replies) + (d.second.wrote + length (also c.replies)),
        λ x y h k.
            let l = length-append d.first.bytes x in
            let m = length-append d.second.bytes y in
            room_enough T steady (roomier d x y) s c.last c.left c.replies c.why c.chain c.end (omega arith) (omega arith),
      )

pub every_walk : EveryWalk
every_walk Q W T steady =
    record {
      ends = ends T steady;
      unchanged = turned_stop T steady;
      stops_there = λ d s. halts_turned T (walked T d s).desk s (walked T d s).why (halts_there T steady d s);
      keeps = kept T steady;
      goes_on_lem = goes_on T steady;
      in_pieces = λ q p ps x y other. ⊎_elim (one_walk T steady q p ps x y other) (λ h. one_walk_room T steady q p ps x y other h.0 h.1);
      enough_room = enough T steady;
    }
