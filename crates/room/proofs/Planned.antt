-- A call, computed by the plans of its steps (laws: Planned): from a sound table it is the same call.
use Prim.Native.Nat.{ℕ, ◌+◌}
use mathlib.Core.Bool.{Bool, true, cond}
use mathlib.Core.List.{List, []}
use mathlib.Core.Logic.{◌⊎◌, inl, inr, ⊎_elim}
use mathlib.Core.Path.{◌≡◌, refl, sym, ◌∙◌, ap, subst}
use Rattle.block.specs.declared.stepped.Stepped.{Stepped}
use Rattle.laws.proofs.Keeping.{built_sound}
use Rattle.laws.proofs.Claims.{keeps_sound}
use Rattle.laws.proofs.Planned.{Fine, planned, step_planned_lem}
use Rattle.headers.specs.Header.{read_header}
use Rattle.expected.specs.Expected.{expected_bytes}
use Rattle.stops.specs.Due.{due}
use Rattle.stops.specs.declared.run.Run.{Run}
use Rattle.stops.specs.declared.run.Stop.{Stop}
use Rattle.stops.specs.declared.run.Stop.TheVariants.{NoRoom}
use Rattle.stops.specs.Todo.{Todo, Work, Stop as Halt}
use Rattle.walks.specs.Walk.{Reply, Ended, walked}
use Rattle.walks.proofs.Same.{walked_same}
use Rattle.calls.specs.Call.{Known, working, step_asked, header_asked, asked, desk_of, call}
use Rattle.calls.proofs.Asked.{Stepping, Opening, asked_says}

-- a step's line, by what the step gives
abbrev reply_by : Known → ℕ → Stepped → Reply Known
reply_by q used y =
    let n = q.steps + 1 in
    record { used = used; said = expected_bytes n y.answer y.ticket y.grants; also = []; then = working y.table n }

abbrev step_planned : Known → Todo → Reply Known ⊎ Stop
step_planned q w = elim w [ Work x used ↦ inl (reply_by q used (planned q.table x)) | Halt why ↦ inr why ]

abbrev ask_planned : Known → List ℕ → Reply Known ⊎ Stop
ask_planned q s = cond q.headed (step_planned q (due s 0 q.steps true)) (header_asked q (read_header s 0))

abbrev pub call_planned : Run → List ℕ → List ℕ → Ended Known Stop
call_planned r s out = walked (record { ask = ask_planned; full = NoRoom }) (desk_of r out) s

abbrev Good : Known → Type 0
Good q = Fine q.table

asks_same : (q : Known) (s : List ℕ) → Good q → asked q s ≡ ask_planned q s
asks_same q s good = ap (λ (b : Bool). by (due s 0 q.steps b)) good.1 ∙ ap (λ (r : _). cond q.headed r header) (work (due s 0 q.steps true))
  where
    header : Reply Known ⊎ Stop
    header = header_asked q (read_header s 0)

    by : Todo → Reply Known ⊎ Stop
    by w = cond q.headed (step_asked q w) header

    work : (w : Todo) → step_asked q w ≡ step_planned q w
    work (Work x used) = ap (λ (y : Stepped). inl (reply_by q used y)) (step_planned_lem q.table x good.0 good.1)
    work (Halt why) = refl

asks_keep : (q : Known) (s : List ℕ) (a : Reply Known) → Good q → asked q s ≡ inl a → Good a.then
asks_keep q s a good e =
    ⊎_elim
    (λ (w : Stepping q s a).
    let kept = keeps_sound q.table w.x good.0 good.1 in
    subst (λ (b : Reply Known). Good b.then) (sym w.is) (kept.1, kept.0))
    (λ (w : Opening q s a).
    let built = built_sound w.c w.n in
    subst (λ (b : Reply Known). Good b.then) (sym w.is) (built.1, built.0))
    (asked_says q s a e)

pub call_planned_lem : (r : Run) (s out : List ℕ) → Fine r.table → call r s out ≡ call_planned r s out
call_planned_lem r s out fine = walked_same NoRoom asked ask_planned Good asks_same asks_keep (desk_of r out) s fine
