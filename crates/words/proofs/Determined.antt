-- Each contract of this crate's entries determines its answer: it has an equation with a definition.
use mathlib.Core.Path.{sym, ◌∙◌}
use Rattle.ticket.specs.Determined.{Determines}
use Rattle.words.proofs.word.pack.Reads as pack
use Rattle.words.proofs.word.unpack.Reads as unpack

pub pack_determined : Determines pack.Post
pack_determined κs a x y s t p q = p.0 ∙ sym q.0

pub unpack_determined : Determines unpack.Post
unpack_determined κs a x y s t p q = p.0 ∙ sym q.0
