-- A turn is one walk more: the call from the run's place is the walk over the bytes from there on.
use Prim.Native.Nat.{ℕ}
use mathlib.Core.List.{List, [], ◌++◌}
use mathlib.Core.Path.{◌≡◌, sym, ◌∙◌, ap}
use native.Mathlib.Nat.{add-zero}
use native.Mathlib.Omega.{arith}
use lib.ListN.{length, drop}
use lib.Seq.{drop-drop, take-append_seam}
use Rattle.stops.specs.declared.run.Run.{Run}
use Rattle.stops.specs.declared.run.Stop.{Stop}
use Rattle.walks.specs.Walk.{Ended, walked}
use Rattle.walks.specs.Pieces.{lent, fresh, Going, gone_on}
use Rattle.walks.proofs.Front.{ended_on, walked_on}
use Rattle.walks.proofs.Pasting.{take_with, pasted_length}
use Rattle.calls.specs.Call.{Known, translation, known, call}
use Rattle.calls.proofs.Asked.{translation_steady}
use Rattle.pieces.specs.Piece.{emptied}
use Rattle.pieces.specs.Claims.{TurnGiven, ReadBehind}

-- the call, as a walk over what is left
call_from : (r : Run) (s out : List ℕ) → call (emptied r) s out ≡ ended_on r.place (walked translation (fresh (known r) out []) (drop r.place s))
call_from r s out =
    ap (λ (n : ℕ). walked translation (record { state = known r; place = n; first = lent out; second = lent [] }) s) (sym (add-zero r.place)) ∙
    walked_on translation translation_steady r.place s (fresh (known r) out [])

-- what it leaves to the next turn
gone_on_from : (g : Going Known Stop) (k : ℕ) (s : List ℕ) (e : Ended Known Stop) → gone_on g s (ended_on k e) ≡ gone_on g (drop k s) e
gone_on_from g k s e =
    ap
    (λ (l : List ℕ).
    record { state = (gone_on g s e).state; rest = l; first = (gone_on g s e).first; second = (gone_on g s e).second; why = e.why })
    (sym (drop-drop e.desk.place k s))

pub turn_given : TurnGiven
turn_given g more r s out knows left =
    ap (gone_on g s) (call_from r s out) ∙
    gone_on_from g r.place s (walked translation (fresh (known r) out []) (drop r.place s)) ∙
    (λ i. gone_on g (left i) (walked translation (fresh (knows i) out []) (left i)))

pub read_behind : ReadBehind
read_behind piece rest more h =
    let o = pasted_length piece 0 rest (omega arith) (omega arith) in
    take_with _ (length rest) more (omega arith) ∙
    ap (λ (l : List ℕ). l ++ more) (take-append_seam rest _)
