-- "A table's image is its units in order, each with its cores in order. Reading one, for given counts, yields the units' registers and
-- nothing of the cores' states. It judges the words and their number only: a bad word .. refuses the whole with 30; counts out of range refuse with
-- 20 before that." "Writing an image takes counts and units and gives 20, then 30, on the same grounds; the room lent must be exactly its words. What
-- stands past the counts isn't read." "A unit's image gains one word after its cores: ticket in bits 0 to 15, bit 16 set if there is a waiter,
-- otherwise 0"; "30 refuses an image without it, or with any word but that of a flagless register older than all other flagless ones (0 if none)"
-- (document 02, wish 7).
use Rattle.std.specs.Prelude.{ℕ, ◌+◌, ◌*◌, ◌/◌, ◌%◌, Bool, false, cond, ◌&&◌, List, eqb, length, get_or, set, replicate, Result, Ok, Err}
use Rattle.parts.specs.Fold.{up_to, every}
use Rattle.parts.specs.Parts.{units, absent_unit, empty_unit_lem, register_in, registered}
use Rattle.parts.specs.Range.{in_range}
use Rattle.parts.specs.declared.kinds.Register.{Register}
use Rattle.parts.specs.declared.kinds.Next.{Next}
use Rattle.parts.specs.declared.kinds.LockUnit.{LockUnit}
use Rattle.parts.specs.declared.kinds.Counts.{Counts}
use Rattle.settling.specs.Shown.{shown, shows_next_lem}
use Rattle.words.specs.Word.{packable, word_of, register_of, is_good}
use Rattle.images.specs.declared.image.ImageRefusal.{ImageRefusal}
use Rattle.images.specs.declared.image.ImageRefusal.TheVariants.{OutOfRange, BadImage}

-- how many words a unit's image has, and that of all units of these counts
abbrev pub per_unit : Counts → ℕ
per_unit c = c.cores + 1

abbrev pub unit_count : Counts → ℕ
unit_count c = c.first + c.second

abbrev pub word_count : Counts → ℕ
word_count c = unit_count c * per_unit c

-- no register valid
abbrev pub empty_units_lem : List LockUnit
empty_units_lem = replicate units empty_unit_lem

abbrev pub unit_in : List LockUnit → ℕ → LockUnit
unit_in xs u = get_or xs u absent_unit

-- what a next in line shows is a register without a flag
abbrev pub waiter : Next → Register
waiter v = record { ticket = v.ticket; valid = v.valid; flag = false }

-- what stands at place k of a unit's image: the register of core k, and behind the cores the next in line
abbrev pub placed : Counts → LockUnit → ℕ → Register
placed c x k = cond (eqb k c.cores) (waiter x.next) (register_in x k)

-- word i is of unit i / (cores + 1), at place i mod (cores + 1)
abbrev pub register_at : Counts → List LockUnit → ℕ → Register
register_at c xs i = placed c (unit_in xs (i / per_unit c)) (i % per_unit c)

-- the answer, by whether what is read or written is good, with what it gives then: 20 before 30
abbrev pub image_answer : {A : Type 0} → Counts → Bool → A → Result A ImageRefusal
image_answer c good x = cond (in_range c) (cond good (Ok x) (Err BadImage)) (Err OutOfRange)

-- Reading

abbrev pub word_at : List ℕ → ℕ → ℕ
word_at ws i = get_or ws i 0

-- as many words as the counts ask for, and each is good
abbrev pub good_words : Counts → List ℕ → Bool
good_words c ws = eqb (length ws) (word_count c) && every (λ (i : ℕ). is_good (word_at ws i)) (word_count c)

-- a unit with the registers of n words, from a place on
abbrev pub entered : List ℕ → ℕ → ℕ → LockUnit
entered ws at n = up_to (λ (k : ℕ) (x : LockUnit). registered x k (register_of (word_at ws (at + k)))) n empty_unit_lem

-- unit u: the registers of its cores' words, and who is next in line by these
abbrev pub unit_of : Counts → List ℕ → ℕ → LockUnit
unit_of c ws u = shown c.cores (entered ws (u * per_unit c) c.cores)

abbrev pub units_of : Counts → List ℕ → List LockUnit
units_of c ws = up_to (λ (u : ℕ) (xs : List LockUnit). set xs u (unit_of c ws u)) (unit_count c) empty_units_lem

-- the word behind the cores' is that of who is next in line
abbrev pub next_agrees : Counts → List ℕ → ℕ → Bool
next_agrees c ws u = eqb (word_at ws (u * per_unit c + c.cores)) (word_of (waiter (unit_of c ws u).next))

abbrev pub good_image : Counts → List ℕ → Bool
good_image c ws = good_words c ws && every (next_agrees c ws) (unit_count c)

-- where an image is refused, no unit is shown
abbrev pub read_image : Counts → List ℕ → Result (List LockUnit) ImageRefusal
read_image c ws = image_answer c (good_image c ws) (units_of c ws)

-- Writing

abbrev pub writable : Counts → List LockUnit → ℕ → Bool
writable c xs room =
    eqb room (word_count c) &&
    every (λ (i : ℕ). packable (register_at c xs i)) (word_count c) &&
    every (λ (u : ℕ). shows_next_lem c.cores (unit_in xs u)) (unit_count c)

abbrev pub write_answer : Counts → List LockUnit → ℕ → Result Unit ImageRefusal
write_answer c xs room = image_answer c (writable c xs room) tt

-- the words that the room holds then, and what it holds in any case
abbrev pub words_into : Counts → List LockUnit → List ℕ → List ℕ
words_into c xs out = up_to (λ (i : ℕ) (o : List ℕ). set o i (word_of (register_at c xs i))) (word_count c) out

abbrev pub write_left : Counts → List LockUnit → List ℕ → List ℕ
write_left c xs out = cond (in_range c && writable c xs (length out)) (words_into c xs out) out

-- Document 01's numbers: of an answer; and which is due, 20 before 30

abbrev pub image_number : {A : Type 0} → Result A ImageRefusal → ℕ
image_number a = elim a [ Ok x ↦ 0 | Err OutOfRange ↦ 20 | Err BadImage ↦ 30 ]

abbrev pub due_number : Counts → Bool → ℕ
due_number c good = cond (in_range c) (cond good 0 30) 20
