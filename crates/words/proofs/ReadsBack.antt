-- What is written reads back, and what is read is written the same, of a word and a register. A register within reach has a ticket of
-- sixteen bits, as every one that a program holds.
use Prim.Native.Nat.{ℕ, ◌<◌}
use mathlib.Core.Bool.{Bool, true, false}
use mathlib.Core.Path.{◌≡◌, refl, ◌∙◌, ap}
use borrow.Author.Tests.{lt-ltb}
use Rattle.ticket.specs.Kinds.{ticket}
use Rattle.parts.specs.declared.kinds.Register.{Register}
use Rattle.parts.proofs.Bools.{and_both}
use Rattle.words.specs.Word.{Word, Refused, Shown, Bad, packable, word_of, pack, register_of, unpack, is_good}
use Rattle.words.specs.Claims.{WordReadsBack, WordIsWritten}
use Rattle.words.proofs.Good.{narrow, good_packable}
use Rattle.words.proofs.Bits.{word_narrow, word_register, register_word}

-- the two answers of each function, from its tests
pub packs : (r : Register) → packable r ≡ true → pack r ≡ Word (word_of r)
packs r e = rw e

pub pack_refuses : (r : Register) → packable r ≡ false → pack r ≡ Refused
pack_refuses r e = rw e

module _ (w : ℕ) where
  pub unpacks : is_good w ≡ true → unpack w ≡ Shown (register_of w)
  unpacks e = rw e

  pub unpack_refuses : is_good w ≡ false → unpack w ≡ Bad
  unpack_refuses e = rw e

  -- a word that shows a register is good, a refused one is not, and the register that it shows is its own
  pub shown_good : (r : Register) → unpack w ≡ Shown r → is_good w ≡ true
  shown_good r shown = go (is_good w) refl
    where
      go : (b : Bool) → is_good w ≡ b → is_good w ≡ true
      go true e = e
      go false e = let none = unpack_refuses e in cc

  pub refused_bad : unpack w ≡ Bad → is_good w ≡ false
  refused_bad none = go (is_good w) refl
    where
      go : (b : Bool) → is_good w ≡ b → is_good w ≡ false
      go true e = let own = unpacks e in cc
      go false e = e

  pub shown_own : (r : Register) → unpack w ≡ Shown r → r ≡ register_of w
  shown_own r shown = let own = unpacks (shown_good r shown) in cc

-- the word of a packable register shows that register
module _ (r : Register) (low : r.ticket.0 < 65536) (e : packable r ≡ true) where
  pub shows_good : is_good (word_of r) ≡ true
  shows_good = and_both (lt-ltb (word_of r) 262144 (word_narrow r low)) (ap packable (word_register r low) ∙ e)

  pub shows : unpack (word_of r) ≡ Shown r
  shows = unpacks (word_of r) shows_good ∙ ap Shown (word_register r low)

-- each register that is accepted reads back
pub pack_unpack : WordReadsBack
pack_unpack r w low packed = go (packable r) refl
  where
    go : (b : Bool) → packable r ≡ b → unpack w ≡ Shown r
    go true e =
        let own = packs r e in
        let same : w ≡ word_of r = cc in
        ap unpack same ∙ shows r low e
    go false e = let none = pack_refuses r e in cc

-- each word that is accepted is the word of its register
pub unpack_pack : WordIsWritten
unpack_pack w r shown =
    let good = shown_good w r shown in
    ap pack (shown_own w r shown) ∙ packs (register_of w) (good_packable w good) ∙ ap Word (register_word w (narrow w good))

-- the readings that 01 names
pub ticket_zero : unpack 65536 ≡ Shown (record { ticket = ticket 0; valid = true; flag = false })
ticket_zero = refl

pub all_bits : unpack 262143 ≡ Shown (record { ticket = ticket 65535; valid = true; flag = true })
all_bits = refl

pub flag_alone : unpack 131072 ≡ Bad
flag_alone = refl

pub ticket_alone : unpack 5 ≡ Bad
ticket_alone = refl

pub bit_eighteen : unpack 262144 ≡ Bad
bit_eighteen = refl
