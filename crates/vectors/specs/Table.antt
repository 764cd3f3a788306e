-- Shown: "Proved, as a single table: older for (65535, 0) yes, (0, 65535) no, (0, 32767) yes, (32767, 0) no, .., (7, 7) no", where no is younger or
-- same; "document 01's pairs 32,768 apart now read opposite"; "words 65,536, 262,143 and 131,072; request with ticket 0 live and counter 32,767 answered 0, with counter 32,768 answered 15; the run above."
use Rattle.std.specs.Prelude.{ℕ, true, false, List, [], ◌∷◌, ◌≡◌, length, replicate}
use Rattle.ticket.specs.Kinds.{ticket}
use Rattle.ticket.specs.Order.{compare}
use Rattle.ticket.specs.declared.order.Comparison.{Comparison}
use Rattle.ticket.specs.declared.order.Comparison.TheVariants.{Older, Younger, Same, Opposite}
use Rattle.parts.specs.Parts.{core_no, unit_no}
use Rattle.block.specs.Table.{with_counter_lem}
use Rattle.building.specs.Build.{fresh}
use Rattle.parts.specs.Answer.{number_of}
use Rattle.block.specs.Steps.{step}
use Rattle.parts.specs.declared.answer.Step.TheVariants.{R}
use Rattle.parts.specs.declared.kinds.Counts.{Counts}
use Rattle.parts.specs.declared.kinds.Fill.TheVariants.{Blank}
use Rattle.parts.specs.declared.kinds.Profile.TheVariants.{T}
use Rattle.stops.specs.Run.{beginning}
use Rattle.calls.specs.Call.{call, output}
use Rattle.stops.specs.declared.run.Stop.TheVariants.{Finished}
use Rattle.words.specs.Word.{Unpacked, Shown, Bad, unpack}

-- "One run whole. The translator program's input, tabs shown as spaces, lines parted by `;`: T 3 1 1 65535; R 0 1; P 0; R 2 0; R 1 0;
-- I 2; P 1; N 1 1; C 2; P 1; I 0; L 0; P 1; L 1"
abbrev pub script : List ℕ
script =
    84 ∷ 9 ∷ 51 ∷ 9 ∷ 49 ∷ 9 ∷ 49 ∷ 9 ∷ 54 ∷ 53 ∷ 53 ∷ 51 ∷ 53 ∷ 10 ∷
    82 ∷ 9 ∷ 48 ∷ 9 ∷ 49 ∷ 10 ∷
    80 ∷ 9 ∷ 48 ∷ 10 ∷
    82 ∷ 9 ∷ 50 ∷ 9 ∷ 48 ∷ 10 ∷
    82 ∷ 9 ∷ 49 ∷ 9 ∷ 48 ∷ 10 ∷
    73 ∷ 9 ∷ 50 ∷ 10 ∷
    80 ∷ 9 ∷ 49 ∷ 10 ∷
    78 ∷ 9 ∷ 49 ∷ 9 ∷ 49 ∷ 10 ∷
    67 ∷ 9 ∷ 50 ∷ 10 ∷
    80 ∷ 9 ∷ 49 ∷ 10 ∷
    73 ∷ 9 ∷ 48 ∷ 10 ∷
    76 ∷ 9 ∷ 48 ∷ 10 ∷
    80 ∷ 9 ∷ 49 ∷ 10 ∷
    76 ∷ 9 ∷ 49 ∷ 10 ∷
    []

-- "Its output: E 3 1 1 65535; 1 0 65535 1 1 0; 2 1 65535 0; 3 0 0 1 0 2; 4 0 1 0; 5 0 0 1 0 1; 6 1 1 0; 7 0 1 0; 8 0 0 0; 9 2 0 0;
-- 10 14 0 0; 11 0 65535 1 1 1; 12 1 0 0; 13 0 1 1 0 2"
abbrev pub columns : List ℕ
columns =
    69 ∷ 9 ∷ 51 ∷ 9 ∷ 49 ∷ 9 ∷ 49 ∷ 9 ∷ 54 ∷ 53 ∷ 53 ∷ 51 ∷ 53 ∷ 10 ∷
    49 ∷ 9 ∷ 48 ∷ 9 ∷ 54 ∷ 53 ∷ 53 ∷ 51 ∷ 53 ∷ 9 ∷ 49 ∷ 9 ∷ 49 ∷ 9 ∷ 48 ∷ 10 ∷
    50 ∷ 9 ∷ 49 ∷ 9 ∷ 54 ∷ 53 ∷ 53 ∷ 51 ∷ 53 ∷ 9 ∷ 48 ∷ 10 ∷
    51 ∷ 9 ∷ 48 ∷ 9 ∷ 48 ∷ 9 ∷ 49 ∷ 9 ∷ 48 ∷ 9 ∷ 50 ∷ 10 ∷
    52 ∷ 9 ∷ 48 ∷ 9 ∷ 49 ∷ 9 ∷ 48 ∷ 10 ∷
    53 ∷ 9 ∷ 48 ∷ 9 ∷ 48 ∷ 9 ∷ 49 ∷ 9 ∷ 48 ∷ 9 ∷ 49 ∷ 10 ∷
    54 ∷ 9 ∷ 49 ∷ 9 ∷ 49 ∷ 9 ∷ 48 ∷ 10 ∷
    55 ∷ 9 ∷ 48 ∷ 9 ∷ 49 ∷ 9 ∷ 48 ∷ 10 ∷
    56 ∷ 9 ∷ 48 ∷ 9 ∷ 48 ∷ 9 ∷ 48 ∷ 10 ∷
    57 ∷ 9 ∷ 50 ∷ 9 ∷ 48 ∷ 9 ∷ 48 ∷ 10 ∷
    49 ∷ 48 ∷ 9 ∷ 49 ∷ 52 ∷ 9 ∷ 48 ∷ 9 ∷ 48 ∷ 10 ∷
    49 ∷ 49 ∷ 9 ∷ 48 ∷ 9 ∷ 54 ∷ 53 ∷ 53 ∷ 51 ∷ 53 ∷ 9 ∷ 49 ∷ 9 ∷ 49 ∷ 9 ∷ 49 ∷ 10 ∷
    49 ∷ 50 ∷ 9 ∷ 49 ∷ 9 ∷ 48 ∷ 9 ∷ 48 ∷ 10 ∷
    49 ∷ 51 ∷ 9 ∷ 48 ∷ 9 ∷ 49 ∷ 9 ∷ 49 ∷ 9 ∷ 48 ∷ 9 ∷ 50 ∷ 10 ∷
    []

-- a row: what is asked, and the document's answer
pub data Row : Type 0 where
  compares : ℕ → ℕ → Comparison → Row
  word : ℕ → Unpacked → Row
  request_at_lem : ℕ → ℕ → Row
  translates : List ℕ → List ℕ → Row

abbrev pub table : List Row
table =
    compares 65535 0 Older ∷
    compares 0 65535 Younger ∷
    compares 0 32767 Older ∷
    compares 32767 0 Younger ∷
    compares 0 32768 Opposite ∷
    compares 32768 0 Opposite ∷
    compares 7 7 Same ∷
    word 65536 (Shown (record { ticket = ticket 0; valid = true; flag = false })) ∷
    word 262143 (Shown (record { ticket = ticket 65535; valid = true; flag = true })) ∷
    word 131072 Bad ∷
    word 5 Bad ∷
    word 262144 Bad ∷
    request_at_lem 32767 0 ∷
    request_at_lem 32768 15 ∷
    translates script columns ∷
    []

-- two cores and one unit
abbrev pub two : Counts
two = record { cores = 2; first = 1; second = 0; profile = T; fill = Blank }

-- the answer to a request with ticket 0 live, core 0's, and this counter
unfoldable pub request_at : ℕ → ℕ
request_at counter =
    let live = (step (fresh two (ticket 0)) (R (core_no 0) (unit_no 0))).table in
    number_of (step (with_counter_lem live (ticket counter)) (R (core_no 1) (unit_no 0))).answer

-- what a call on a whole script leaves in an output of just this room: it is finished, and has filled the output
abbrev pub Filled : List ℕ → List ℕ → Type 0
Filled s out =
    let e = call beginning s (replicate (length out) 0) in
    (e.why ≡ Finished) × (e.desk.first.wrote ≡ length out) × (output e ≡ out)

-- the definitions give the document's answer
abbrev pub Computes : Row → Type 0
Computes (compares a b answer) = compare a b ≡ answer
Computes (word w answer) = unpack w ≡ answer
Computes (request_at_lem counter answer) = request_at counter ≡ answer
Computes (translates s out) = Filled s out

-- and so at every row
abbrev pub Every : List Row → Type 0
Every [] = Unit {0}
Every (row ∷ rows) = Computes row × Every rows
