-- "A register reads back as 32 bits: bits 0 to 15 ticket, bit 16 valid, bit 17 flag, the rest 0. An invalid register is the word 0.
-- Anything else is 30." "Writing an invalid register that has a ticket other than 0 or a flag is 30 too."
use Rattle.std.specs.Prelude.{ℕ, ◌+◌, ◌*◌, ◌/◌, ◌%◌, Bool, cond, ◌&&◌, ◌||◌, not, eqb, ltb, Option, None, Some}
use Rattle.ticket.specs.Kinds.{ticket}
pub use Rattle.parts.specs.Fold.{one as bit}
use Rattle.parts.specs.declared.kinds.Register.{Register}

-- the word of a register, or 30
abbrev pub Packed : Type 0
Packed = Option ℕ

pattern abbrev pub Word : ℕ → Packed
Word w = Some w

pattern abbrev pub Refused : Packed
Refused = None

-- the register of a word, or 30
abbrev pub Unpacked : Type 0
Unpacked = Option Register

pattern abbrev pub Shown : Register → Unpacked
Shown r = Some r

pattern abbrev pub Bad : Unpacked
Bad = None

-- ticket in bits 0 to 15, valid in bit 16, flag in bit 17
abbrev pub word_of : Register → ℕ
word_of r = r.ticket.0 + 65536 * bit r.valid + 131072 * bit r.flag

-- a register that a word can show: valid, or blank
abbrev pub packable : Register → Bool
packable r = r.valid || (eqb r.ticket.0 0 && not r.flag)

abbrev pub pack : Register → Packed
pack r = cond (packable r) (Word (word_of r)) Refused

-- the bits of a word, read back
abbrev pub register_of : ℕ → Register
register_of w = record { ticket = ticket (w % 65536); valid = eqb (w / 65536 % 2) 1; flag = eqb (w / 131072) 1 }

-- a word that shows a register: the rest of its bits is 0, and an invalid register is the word 0
abbrev pub is_good : ℕ → Bool
is_good w = ltb w 262144 && packable (register_of w)

abbrev pub unpack : ℕ → Unpacked
unpack w = cond (is_good w) (Shown (register_of w)) Bad

-- the numbers that the answers carry: 30 where no word or register is given
abbrev pub packed_number : Packed → ℕ
packed_number p = elim p [ Word w ↦ 0 | Refused ↦ 30 ]

abbrev pub unpacked_number : Unpacked → ℕ
unpacked_number u = elim u [ Shown r ↦ 0 | Bad ↦ 30 ]
