-- What is wrong with a line that is refused with 20 or 21: what stands first in it that may not, from the left. A line that ends with a
-- carriage return is told for that.
use Rattle.std.specs.Prelude.{ℕ, ◌+◌, ◌-◌, ◌*◌, Bool, true, false, cond, ◌&&◌, ◌||◌, not, List, [], ◌∷◌, eqb, leb, length, get_or, take, drop}
use Rattle.std.specs.Prelude.{Option, Some, None, is_some, unwrap_or, Result, Ok, Err, ⊤}
use Rattle.parts.specs.Parts.{cores}
use Rattle.parts.specs.Range.{per_class, classed}
use Rattle.parts.specs.declared.kinds.Profile.{Profile}
use Rattle.parts.specs.declared.kinds.Profile.TheVariants.{T, D}
use Rattle.numbers.specs.Bytes.{tab}
use Rattle.numbers.specs.Number.{number_most}
use Rattle.lines.specs.Bytes.{line_most, script_letter}
use Rattle.lines.specs.Reading.{ending}
use Rattle.lines.specs.Ending.{At, Long, Short}
use Rattle.loglines.specs.Log.{log_most}
use Rattle.faults.specs.declared.fault.Form.{Form}
use Rattle.faults.specs.declared.fault.Form.TheVariants.{Script, Log, Header}
use Rattle.faults.specs.declared.fault.Kind.{Kind}
use Rattle.faults.specs.declared.fault.Kind.TheVariants.{Step, Logged, Head}
use Rattle.faults.specs.declared.fault.Wrong.{Wrong}
use Rattle.faults.specs.declared.fault.Wrong.TheVariants.{Missing, Sign, LeadingZero, TooGreat, Space, Other}
use Rattle.faults.specs.declared.fault.Fault.{Fault}
use Rattle.faults.specs.declared.fault.Fault.TheVariants.{TooLong, Return, Empty, Letter, TooFew, TooMany}
use Rattle.faults.specs.declared.fault.Fault.TheVariants.{Field, Cores, First, Second}
use Rattle.faults.specs.declared.fault.Upto.{Upto}

-- what is wrong, or nothing
abbrev pub Found : Type 0
Found = Result ⊤ Fault

pattern abbrev pub NoFault : Found
NoFault = Ok tt

abbrev pub wrong : Found → Bool
wrong f = elim f [ Ok x ↦ false | Err g ↦ true ]

-- the first of two
abbrev pub first : Found → Found → Found
first f g = elim f [ Ok x ↦ g | Err h ↦ Err h ]

-- a byte of a number: a tab behind it, a digit with the value so far, or none
abbrev pub Look : Type 0
Look = Result (Option ℕ) Wrong

pattern abbrev pub Tab : Look
Tab = Ok None

pattern abbrev pub Digit : ℕ → Look
Digit v = Ok (Some v)

pattern abbrev pub Fails : Wrong → Look
Fails w = Err w

-- a byte more: on, or what is wrong
abbrev pub Next : Type 0
Next = Result Upto Fault

pattern abbrev pub On : Upto → Next
On a = Ok a

pattern abbrev pub Stop : Fault → Next
Stop f = Err f

-- how many numbers follow the letter of a step, and of a header, if there is one with it
abbrev pub step_numbers : ℕ → Option ℕ
step_numbers b =
    cond (eqb b 82 || eqb b 78) (Some 2) (cond (eqb b 80 || eqb b 73 || eqb b 67 || eqb b 76) (Some 1) None)

abbrev pub numbers : Form → ℕ → Option ℕ
numbers form b = elim form [ Header ↦ cond (eqb b (script_letter T) || eqb b (script_letter D)) (Some 4) None | _ ↦ step_numbers b ]

-- what follows the letter; a header's letter gives its profile
abbrev pub profile_of : ℕ → Profile
profile_of b = cond (eqb b (script_letter T)) T D

abbrev pub kind_of : Form → ℕ → Kind
kind_of form b = elim form [ Script ↦ Step | Log ↦ Logged | Header ↦ Head (profile_of b) ]

-- Byte b of a number, after digits whose value is v, if there are any

-- a digit d
abbrev pub digit : Option ℕ → ℕ → Look
digit v d =
    cond (is_some v && eqb (unwrap_or v 0) 0) (Fails LeadingZero) (let n = 10 * unwrap_or v 0 + d in cond (leb n number_most) (Digit n) (Fails TooGreat))

-- neither a digit nor a tab: a space, a sign in front, or another byte
abbrev pub other : Bool → ℕ → Wrong
other some b = cond (eqb b 32) Space (cond (not some && (eqb b 43 || eqb b 45)) Sign Other)

-- a tab
abbrev pub at_tab : Bool → Look
at_tab some = cond some Tab (Fails Missing)

abbrev pub look : Option ℕ → ℕ → Look
look v b =
    cond (eqb b tab) (at_tab (is_some v)) (cond (leb 48 b && leb b 57) (digit v (b - 48)) (Fails (other (is_some v) b)))

-- The numbers of a line, of which field k, counted from 1 with the letter, has the value v; its letter has n

-- cores from 1 to `cores`, first-class units from 1 to `per_class`, second-class units from 0, and as many as the profile can have
abbrev pub counted : Profile → ℕ → ℕ → Found
counted p k v =
    cond (eqb k 2 && not (leb 1 v && leb v cores)) (Err (Cores v))
    (cond (eqb k 3 && not (leb 1 v && leb v per_class)) (Err (First v))
    (cond (eqb k 4 && not (leb v per_class && classed p v)) (Err (Second v)) NoFault))

abbrev pub count : Kind → ℕ → ℕ → Found
count kind k v = elim kind [ Step ↦ NoFault | Logged ↦ NoFault | Head p ↦ counted p k v ]

-- in a log numbers follow those of the step
abbrev pub too_many : Kind → Found
too_many kind = elim kind [ Step ↦ Err TooMany | Logged ↦ NoFault | Head p ↦ Err TooMany ]

-- a tab ends the field, or the line does
abbrev pub tabbed : Kind → ℕ → ℕ → ℕ → Found
tabbed kind n k v = first (count kind k v) (cond (leb k n) NoFault (too_many kind))

abbrev pub ended : Kind → ℕ → ℕ → Option ℕ → Found
ended kind n k v = elim v [ None ↦ Err (Field k Missing) | Some x ↦ first (count kind k x) (cond (leb k n) (Err TooFew) NoFault) ]

-- up to a byte: the field, and the value of its digits, if it has any
abbrev pub upto : ℕ → Option ℕ → Upto
upto k v = record { field = k; value = v }

abbrev pub next_field : Kind → ℕ → ℕ → ℕ → ℕ → Next
next_field kind n k v then = elim (tabbed kind n k v) [ Ok x ↦ On (upto then None) | Err f ↦ Stop f ]

abbrev pub next_by : Kind → ℕ → Upto → Look → Next
next_by kind n a l =
    elim l [ Tab ↦ next_field kind n a.field (unwrap_or a.value 0) (a.field + 1) | Digit d ↦ On (upto a.field (Some d)) | Fails w ↦ Stop (Field a.field w) ]

abbrev pub next : Kind → ℕ → Upto → ℕ → Next
next kind n a b = next_by kind n a (look a.value b)

unfoldable pub numbers_from_lem : Kind → ℕ → Upto → List ℕ → Found
numbers_from_lem kind n a [] = ended kind n a.field a.value
numbers_from_lem kind n a (b ∷ bs) = elim (next kind n a b) [ On then ↦ numbers_from_lem kind n then bs | Stop f ↦ Err f ]

-- The bytes of a line, without its end

-- a tab follows the letter
abbrev pub after_letter : Kind → ℕ → List ℕ → Found
after_letter kind n s =
    cond (leb (length s) 1) (Err TooFew)
    (cond (eqb (get_or s 1 0) tab) (numbers_from_lem kind n (upto 2 None) (drop 2 s)) (Err (Field 1 (other true (get_or s 1 0)))))

abbrev pub from_left : Form → List ℕ → Found
from_left form s =
    cond (eqb (length s) 0) (Err Empty)
    (elim (numbers form (get_or s 0 0)) [ None ↦ Err Letter | Some n ↦ after_letter (kind_of form (get_or s 0 0)) n s ])

abbrev pub returned : List ℕ → Found → Found
returned s f = cond (wrong f && eqb (get_or s (length s - 1) 0) 13) (Err Return) f

abbrev pub line_fault : Form → List ℕ → Found
line_fault form s = returned s (from_left form s)

-- the longest line, with its end
abbrev pub most : Form → ℕ
most form = elim form [ Script ↦ line_most | Log ↦ log_most | Header ↦ line_most ]

-- no end within the longest line, of m bytes: a carriage return as the last of them is told
abbrev pub too_long : ℕ → List ℕ → ℕ → Fault
too_long m s at = cond (eqb (get_or s (at + (m - 1)) 0) 13) Return TooLong

-- the line at a place; nothing is wrong yet with one that is not finished
abbrev pub fault_at : Form → List ℕ → ℕ → Found
fault_at form s at =
    elim (ending (most form) at (drop at s)) [ At e ↦ line_fault form (take (e - at) (drop at s)) | Long ↦ Err (too_long (most form) s at) | Short ↦ NoFault ]
