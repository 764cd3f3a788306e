-- "The header may now need 15 bytes, so the reader's figure of 14 becomes 15 everywhere." The letters that open a line:
-- "Its header letter is `D`, its output letter `F`."
use Rattle.std.specs.Prelude.{ℕ}
use Rattle.parts.specs.declared.kinds.Profile.{Profile}
use Rattle.parts.specs.declared.kinds.Profile.TheVariants.{T, D}
use Rattle.parts.specs.declared.answer.Step.{Step}
use Rattle.parts.specs.declared.answer.Step.TheVariants.{R, N, P, I, C, L}

-- the longest script line, with its end
abbrev pub line_most : ℕ
line_most = 15

-- a header's letter by its profile, in a script and in the output
abbrev pub script_letter : Profile → ℕ
script_letter p = elim p [ T ↦ 84 | D ↦ 68 ]

abbrev pub output_letter : Profile → ℕ
output_letter p = elim p [ T ↦ 69 | D ↦ 70 ]

-- a step's own, R, N, P, I, C or L
abbrev pub letter_of : Step → ℕ
letter_of s = elim s [ R k u ↦ 82 | N k u ↦ 78 | P k ↦ 80 | I k ↦ 73 | C k ↦ 67 | L k ↦ 76 ]
