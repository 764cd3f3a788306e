-- A script that comes in pieces, with bytes lent for each output: "the call may be made again with more input or room". Between walks the
-- script's worked bytes and the outputs' written ones are taken away.
use Rattle.std.specs.Prelude.{ℕ, List, [], ◌∷◌, ◌++◌, take, drop}
use Rattle.walks.specs.Walk.{Turn, Output, Desk, Ended, walked}

-- for one walk: the script bytes that came in, and the bytes lent for each output
pub record Piece : Type 0 where
  pub more : List ℕ
  pub first : List ℕ
  pub second : List ℕ

-- between walks: what is known, the script bytes read and not yet worked, all that is written so far, and why the last walk stopped
pub record Going (Q W : Type 0) : Type 0 where
  pub state : Q
  pub rest : List ℕ
  pub first : List ℕ
  pub second : List ℕ
  pub why : W

-- before the first walk; why it would have stopped is not looked at
abbrev pub begun : {Q W : Type 0} → Turn Q W → Q → Going Q W
begun T q = record { state = q; rest = []; first = []; second = []; why = T.full }

-- an output from its start, and a desk from the start of its script
abbrev pub lent : List ℕ → Output
lent room = record { bytes = room; wrote = 0 }

abbrev pub fresh : {Q : Type 0} → Q → List ℕ → List ℕ → Desk Q
fresh q x y = record { state = q; place = 0; first = lent x; second = lent y }

abbrev pub written : Output → List ℕ
written o = take o.wrote o.bytes

-- a walk that left e, on the script s
abbrev pub gone_on : {Q W : Type 0} → Going Q W → List ℕ → Ended Q W → Going Q W
gone_on g s e =
    let d = e.desk in
    let first = g.first ++ written d.first in
    let second = g.second ++ written d.second in
    record { state = d.state; rest = drop d.place s; first = first; second = second; why = e.why }

-- one walk more
abbrev pub given : {Q W : Type 0} → Turn Q W → Going Q W → Piece → Going Q W
given T g p = let s = g.rest ++ p.more in gone_on g s (walked T (fresh g.state p.first p.second) s)

-- one walk for each piece
unfoldable pub pieces : {Q W : Type 0} → Turn Q W → Going Q W → List Piece → Going Q W
pieces T g [] = g
pieces T g (p ∷ ps) = pieces T (given T g p) ps

-- all that comes in
unfoldable pub all_more : List Piece → List ℕ
all_more [] = []
all_more (p ∷ ps) = p.more ++ all_more ps
