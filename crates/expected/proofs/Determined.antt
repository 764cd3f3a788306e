-- Each contract of this crate determines its answer, and a writer's also what the lent bytes hold afterwards: both are equations with
-- definitions.
use mathlib.Core.Path.{sym, ◌∙◌}
use Rattle.ticket.specs.Determined.{Determines, DeterminesLeft}
use Rattle.expected.proofs.writer.write_expected.Reads as write-expected
use Rattle.expected.proofs.writer.expected_fits.Reads as expected-fits
use Rattle.expected.proofs.writer.put_expected.Reads as put-expected
use Rattle.expected.proofs.writer.put_shown.Reads as put_shown

pub write_expected_determined : Determines write-expected.Post
write_expected_determined κs a x y s t p q = p.0 ∙ sym q.0

pub write_expected_left : DeterminesLeft (λ κs s. s.0.now) write-expected.Post
write_expected_left κs a x y s t p q = p.1 ∙ sym q.1

pub expected_fits_determined : Determines expected-fits.Post
expected_fits_determined κs a x y s t p q = p ∙ sym q

pub put_expected_determined : Determines put-expected.Post
put_expected_determined κs a x y s t p q = p.goes ∙ sym q.goes

pub put_expected_left : DeterminesLeft (λ κs s. s.0.now) put-expected.Post
put_expected_left κs a x y s t p q = p.holds ∙ sym q.holds

pub put_shown_determined : Determines put_shown.Post
put_shown_determined κs a x y s t p q = p.goes ∙ sym q.goes

pub put_shown_left : DeterminesLeft (λ κs s. s.0.now) put_shown.Post
put_shown_left κs a x y s t p q = p.holds ∙ sym q.holds
