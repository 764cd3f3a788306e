-- The program's loop, apart from reading and writing, goes on with a script in pieces as a walk does.
use Rattle.std.specs.Prelude.{ℕ, ◌+◌, ◌≤◌, List, [], ◌++◌, ◌≡◌, length, take, drop}
use Rattle.digits.specs.Text.{pasted}
use Rattle.stops.specs.declared.run.Run.{Run}
use Rattle.stops.specs.declared.run.Stop.{Stop}
use Rattle.walks.specs.Pieces.{Going, gone_on, given}
use Rattle.calls.specs.Call.{Known, translation, known, call}
use Rattle.pieces.specs.Piece.{emptied}

-- one turn: the piece s holds, from the run's place on, what was left and what was read since
abbrev pub TurnGiven : Type 0
TurnGiven =
    (g : Going Known Stop) (more : List ℕ) (r : Run) (s out : List ℕ) →
    known r ≡ g.state →
    drop r.place s ≡ g.rest ++ more →
    gone_on g s (call (emptied r) s out) ≡ given translation g (record { more = more; first = out; second = [] })

-- what is left moved to the front of a piece, and more was read behind it: the piece's first bytes are the two
abbrev pub ReadBehind : Type 0
ReadBehind =
    (piece rest more : List ℕ) →
    length rest + length more ≤ length piece →
    take (length rest + length more) (pasted (pasted piece 0 rest) (length rest) more) ≡ rest ++ more
