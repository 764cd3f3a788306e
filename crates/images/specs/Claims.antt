-- "Register words read back to exactly what was written", of an image: the registers within the counts, each with a ticket of sixteen bits, as
-- every one that a program holds, and who is next in line at each unit.
use Rattle.std.specs.Prelude.{ℕ, ◌<◌, List, ◌≡◌, length, Ok}
use Rattle.ticket.specs.Order.{circle}
use Rattle.parts.specs.declared.kinds.Counts.{Counts}
use Rattle.parts.specs.declared.kinds.LockUnit.{LockUnit}
use Rattle.images.specs.Image.{unit_count, word_count, unit_in, register_at, read_image, write_answer, write_left}

-- an image that was written is read, as the registers that were written
abbrev pub ImageReadsBack : Type 0
ImageReadsBack =
    (c : Counts) (xs : List LockUnit) (out : List ℕ) →
    ((i : ℕ) → i < word_count c → (register_at c xs i).ticket.0 < circle) →
    write_answer c xs (length out) ≡ Ok tt →
    (ys : List LockUnit) ×
    (read_image c (write_left c xs out) ≡ Ok ys) ×
    ((i : ℕ) → i < word_count c → register_at c ys i ≡ register_at c xs i) ×
    ((u : ℕ) → u < unit_count c → (unit_in ys u).next ≡ (unit_in xs u).next)

-- an image that was read is written, as the same words
abbrev pub ImageIsWritten : Type 0
ImageIsWritten =
    (c : Counts) (ws out : List ℕ) (xs : List LockUnit) →
    length out ≡ length ws →
    read_image c ws ≡ Ok xs →
    (write_answer c xs (length out) ≡ Ok tt) × (write_left c xs out ≡ ws)

-- "What stands past the counts isn't read": units with the same registers within the counts, and the same next in line, are written the same
abbrev pub PastUnread : Type 0
PastUnread =
    (c : Counts) (xs ys : List LockUnit) (out : List ℕ) →
    ((i : ℕ) → i < word_count c → register_at c xs i ≡ register_at c ys i) →
    ((u : ℕ) → u < unit_count c → (unit_in xs u).next ≡ (unit_in ys u).next) →
    (write_answer c xs (length out) ≡ write_answer c ys (length out)) × (write_left c xs out ≡ write_left c ys out)
