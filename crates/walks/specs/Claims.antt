-- Demands 1 and 2, of every walk: it ends, a line that stops it changes nothing, what it does not answer is kept, it goes on where it
-- stopped, and a script in pieces is answered as in one.
use Rattle.std.specs.Prelude.{ℕ, ◌-◌, ◌≤◌, ◌<◌, List, ◌∷◌, ◌++◌, ◌⊎◌, ◌≢◌, ◌≡◌, length, take, drop}
use Rattle.std.proofs.Common.{inr}
use Rattle.walks.specs.Walk.{Turn, Steady, Output, Desk, turned, halted, lines, walked}
use Rattle.walks.specs.Pieces.{Piece, begun, given, pieces, all_more}

-- o became m: it is as long, the bytes before o's place are as they were, and so are those past m's
pub record Kept (o m : Output) : Type 0 where
  pub onward : o.wrote ≤ m.wrote
  pub size : length m.bytes ≡ length o.bytes
  pub before : take o.wrote m.bytes ≡ take o.wrote o.bytes
  pub further : drop m.wrote m.bytes ≡ drop m.wrote o.bytes

-- more room after an output, and after both of a desk
abbrev pub longer : Output → List ℕ → Output
longer o room = record { bytes = o.bytes ++ room; wrote = o.wrote }

abbrev pub roomier : {Q : Type 0} → Desk Q → List ℕ → List ℕ → Desk Q
roomier d x y = record { state = d.state; place = d.place; first = longer d.first x; second = longer d.second y }

pub record Walks {Q W : Type 0} (T : Turn Q W) : Type 0 where
  -- "every run ends": the bound on the lines of a walk is never met
  pub ends : (d : Desk Q) (s : List ℕ) (f g : ℕ) → length s - d.place < f → length s - d.place < g → lines T f d s ≡ lines T g d s
  -- "a refused line changes neither the table nor any output byte": a walk at such a line leaves the desk as it is
  pub unchanged : (d : Desk Q) (s : List ℕ) (why : W) → turned T d s ≡ inr why → walked T d s ≡ halted d why
  -- a walk stops at the start of a line that stops it, and says why
  pub stops_there : (d : Desk Q) (s : List ℕ) → let e = walked T d s in turned T e.desk s ≡ inr e.why
  -- "complete output lines stand, all further output bytes .. are unchanged"
  pub keeps : (d : Desk Q) (s : List ℕ) → let e = walked T d s in Kept d.first e.desk.first × Kept d.second e.desk.second
  -- "the call may be made again with more input or room": it then leaves what one with all of it leaves
  pub goes_on_lem :
      (d : Desk Q) (s more x y : List ℕ) →
      walked T (roomier (walked T d s).desk x y) (s ++ more) ≡ walked T (roomier d x y) (s ++ more)
  -- a script in pieces is answered as in one, where neither ends for want of room; room for what the pieces' walks wrote is enough for the one
  pub in_pieces :
      (q : Q) (p : Piece) (ps : List Piece) (x y : List ℕ) →
      let g = pieces T (begun T q) (p ∷ ps) in
      let one = given T (begun T q) (record { more = all_more (p ∷ ps); first = x; second = y }) in
      g.why ≢ T.full → (one.why ≢ T.full) ⊎ ((length g.first ≤ length x) × (length g.second ≤ length y)) → g ≡ one
  -- for every script there is room enough
  pub enough_room :
      (d : Desk Q) (s : List ℕ) →
      (n : ℕ) × ((x y : List ℕ) → n ≤ length x → n ≤ length y → (walked T (roomier d x y) s).why ≢ T.full)

-- the hypothesis that all of it needs
abbrev pub EveryWalk : Type 1
EveryWalk = (Q W : Type 0) (T : Turn Q W) → Steady T → Walks T
