-- A line is read exactly where its bytes stand: what is read is written so, and bytes that stand from a place on have others before and
-- behind them, among which they are read back.
use Prim.Native.Nat.{ℕ, ◌+◌, ◌-◌, ◌<◌}
use mathlib.Core.List.{List, ◌++◌}
use mathlib.Core.Path.{◌≡◌, sym, ◌∙◌, ap, ap₂}
use native.Mathlib.Omega.{arith}
use lib.ListN.{length, take, drop, length-append, length-drop, take-append-drop}
use lib.Seq.{drop-drop, length-take-le}
use Rattle.parts.proofs.Ranging.{none_second}
use Rattle.lines.specs.Reading.{read_step}
use Rattle.lines.specs.StepLine.{Line}
use Rattle.headers.specs.Header.{read_header}
use Rattle.headers.specs.HeaderLine.{Header}
use Rattle.writing.specs.Writing.{step_bytes, script_header}
use Rattle.writing.specs.Claims.{Stands, StepAsWritten, HeaderAsWritten, NoneSecondRead}
use Rattle.writing.proofs.ReadsBack.{read_step_written, read_header_written}
use Rattle.writing.proofs.AsWritten.{step_read_is_written, header_read_is_written}

module _ (s line : List ℕ) (at next : ℕ) (stands : Stands s at next line) (some : 0 < length line) where
  follow : drop at s ≡ line ++ drop next s
  follow =
      let z : length line ≡ next - at = omega (arith, stands.1) in
      let off : take (length line) (drop at s) ≡ line = ap (λ (n : ℕ). take n (drop at s)) z ∙ stands.0 in
      sym (take-append-drop (length line) (drop at s)) ∙
      ap (λ (l : List ℕ). l ++ drop (length line) (drop at s)) off ∙
      ap (λ (l : List ℕ). line ++ l) (drop-drop (length line) at s ∙ ap (λ (n : ℕ). drop n s) (sym stands.1))

  whole : s ≡ take at s ++ (line ++ drop next s)
  whole = sym (take-append-drop at s) ∙ ap (λ (l : List ℕ). take at s ++ l) follow

  before : length (take at s) ≡ at
  before =
      let k = length-drop at s in
      let l = ap length follow in
      let m = length-append line (drop next s) in
      length-take-le at s (omega arith)

  -- what is read in the middle of any other bytes
  pub read_there :
      {A : Type 0} (read : List ℕ → ℕ → A) (found : ℕ → A) →
      ((pre post : List ℕ) → read (pre ++ (line ++ post)) (length pre) ≡ found (length pre + length line)) →
      read s at ≡ found next
  read_there read found back =
      ap₂ read whole (sym before) ∙
      back (take at s) (drop next s) ∙
      ap found (ap (λ (n : ℕ). n + length line) before ∙ sym stands.1)

pub step_as_written : StepAsWritten
step_as_written x s at next = (
  step_read_is_written s at x next,
  λ h. read_there s (step_bytes x) at next h.0 (omega arith) read_step (Line x) (read_step_written x h.1),
)

pub header_as_written : HeaderAsWritten
header_as_written c n s at next = (
  λ e. let k = header_read_is_written s at c n next e in (k.0, (k.1, k.2)),
  λ h. read_there s (script_header c n) at next h.0 (omega arith) read_header (Header c n) (read_header_written c n h.1.0 h.1.1),
)

pub none_second_read : NoneSecondRead
none_second_read s at c n next e d = none_second c (header_read_is_written s at c n next e).1 d
