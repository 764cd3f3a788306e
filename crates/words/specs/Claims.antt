-- "Register words read back to exactly what was written": a register with a ticket of sixteen bits, as every one that a program holds.
use Rattle.std.specs.Prelude.{ℕ, ◌<◌, ◌≡◌}
use Rattle.ticket.specs.Order.{circle}
use Rattle.parts.specs.declared.kinds.Register.{Register}
use Rattle.words.specs.Word.{Word, Shown, pack, unpack}

abbrev pub WordReadsBack : Type 0
WordReadsBack = (r : Register) (w : ℕ) → r.ticket.0 < circle → pack r ≡ Word w → unpack w ≡ Shown r

abbrev pub WordIsWritten : Type 0
WordIsWritten = (w : ℕ) (r : Register) → unpack w ≡ Shown r → pack r ≡ Word w
