-- A header that was written with a letter is the header of that letter, and with it its number.
use Prim.Native.Nat.{ℕ}
use mathlib.Core.List.{List}
use mathlib.Core.Path.{◌≡◌, subst}
use Rattle.ticket.specs.declared.kinds.Ticket.{Ticket}
use Rattle.parts.specs.Range.{in_range}
use Rattle.parts.specs.declared.kinds.Counts.{Counts}
use Rattle.digits.specs.Room.{written_number, write_number}
use Rattle.digits.specs.Written.{Written}
use Rattle.digits.proofs.Numbers.{numbered}
use Rattle.writing.specs.Writing.{header_bytes, wrote_header, left_header}

pub headed :
    (o m : List ℕ) (at letter k : ℕ) (c : Counts) (n : Ticket) (w : Written) →
    k ≡ letter →
    (w ≡ wrote_header o at k c n) × (m ≡ left_header o at k c n) →
    (w ≡ wrote_header o at letter c n) ×
    (m ≡ left_header o at letter c n) ×
    (written_number w ≡ write_number (in_range c) o at (header_bytes letter c n))
headed o m at letter k c n w e h =
    numbered (in_range c) o at (header_bytes letter c n) (subst (λ (l : ℕ). (w ≡ wrote_header o at l c n) × (m ≡ left_header o at l c n)) e h)
