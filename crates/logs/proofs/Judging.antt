-- What a line comes to, for a caller that has its parts: what the numbers behind the step part come to is what the line does.
use Prim.Native.Nat.{ℕ, ◌+◌}
use mathlib.Core.Bool.{Bool, true, false, cond}
use mathlib.Core.List.{List, []}
use mathlib.Core.Logic.{◌⊎◌, inl, inr}
use mathlib.Core.Path.{◌≡◌, refl, sym, ◌∙◌, ap}
use lib.Dec.{eqb}
use lib.ListN.{length}
use Rattle.parts.specs.declared.answer.Step.{Step}
use Rattle.block.specs.Sound.{sound}
use Rattle.block.specs.Steps.{step}
use Rattle.writing.specs.Writing.{numbers_of}
use Rattle.stops.specs.declared.run.Stop.TheVariants.{Unsound, Malformed}
use Rattle.walks.specs.Walk.{Reply}
use Rattle.calls.specs.Call.{Known, working}
use Rattle.loglines.specs.Log.{parse_log, first_off, off_at}
use Rattle.loglines.specs.Parts.{part_in, rest_from, are_numbers, judged_in}
use Rattle.logs.specs.Checking.{given, agreed, line_judged}
use Rattle.logs.specs.declared.call.LogStop.{LogStop}
use Rattle.logs.specs.declared.call.LogStop.TheVariants.{Plain, Disagrees}
use Rattle.std.specs.Prelude.{Option}
use Rattle.loglines.specs.Parts.{Begins, Not}
use Rattle.loglines.specs.Parts.{Judged}
use Rattle.loglines.specs.Parts.{Malformed as NoNumber, Disagrees as IsOff, Agrees}
use Rattle.loglines.proofs.Parts.{parse_not, parse_bad, parse_line, part_numbers}

-- the line's answer, by what its numbers come to
abbrev pub judged_as : Known → Step → ℕ → Judged → Reply Known ⊎ LogStop
judged_as q x used NoNumber = inr (Plain Malformed)
judged_as q x used (IsOff o) = inr (Disagrees o)
judged_as q x used Agrees = inl (record { used = used; said = []; also = []; then = working (step q.table x).table (q.steps + 1) })

module _ (q : Known) (used : ℕ) (s : List ℕ) where
  pub line_not : part_in s ≡ Not → line_judged q used (parse_log s) ≡ inr (Plain Malformed)
  line_not e = ap (line_judged q used) (parse_not s e)

  module _ (x : Step) (n : ℕ) (from : Option ℕ) (e : part_in s ≡ Begins x n from) where
    -- on a sound table
    pub line_fit :
        sound q.table ≡ true → line_judged q used (parse_log s) ≡ judged_as q x used (judged_in s n from (given (step q.table x)))
    line_fit ok = go (rest_from s from) refl
      where
        gs : List ℕ
        gs = given (step q.table x)

        by : (ns : List ℕ) (b : Bool) (m : ℕ) →
            n ≡ m →
            cond b
            (inl (record { used = used; said = []; also = []; then = working (step q.table x).table (q.steps + 1) }))
            (inr (Disagrees (off_at m (first_off ns gs) ns gs)))
            ≡ judged_as q x used (cond b Agrees (IsOff (off_at n (first_off ns gs) ns gs)))
        by ns true m same = refl
        by ns false m same = ap (λ (k : ℕ). inr (Disagrees (off_at k (first_off ns gs) ns gs))) (sym same)

        go :
            (w : List ℕ ⊎ Unit {0}) →
            rest_from s from ≡ w →
            line_judged q used (parse_log s) ≡ judged_as q x used (judged_in s n from gs)
        go (inl ns) rest =
            ap (line_judged q used) (parse_line s x n from e ns rest) ∙
            ap (λ (b : Bool). cond b (agreed q (record { step = x; shown = ns }) used) (inr (Plain Unsound))) ok ∙
            by ns (eqb (first_off ns gs) 0) (length (numbers_of x)) (part_numbers s x n from e) ∙
            simp rest
        go (inr tt) rest = ap (line_judged q used) (parse_bad s x n from e rest) ∙ simp rest

    -- on one that is not
    pub line_unfit :
        sound q.table ≡ false →
        line_judged q used (parse_log s) ≡ inr (Plain (cond (are_numbers (rest_from s from)) Unsound Malformed))
    line_unfit not = go (rest_from s from) refl
      where
        go :
            (w : List ℕ ⊎ Unit {0}) →
            rest_from s from ≡ w →
            line_judged q used (parse_log s) ≡ inr (Plain (cond (are_numbers (rest_from s from)) Unsound Malformed))
        go (inl ns) rest = ap (line_judged q used) (parse_line s x n from e ns rest) ∙ simp (not, rest)
        go (inr tt) rest = ap (line_judged q used) (parse_bad s x n from e rest) ∙ simp rest
