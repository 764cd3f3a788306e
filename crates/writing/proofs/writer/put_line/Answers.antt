-- The letter opens the line, each number is put behind what stands, and the end closes it.
use Rattle.std.proofs.Common.{ℕ, List, ◌+◌, ◌≤◌, ◌<◌, length, drop, get_or, set, refl, arith}
use Rattle.std.proofs.lemmas.List.{drop_more, drop_all}
use Rattle.numbers.specs.Bytes.{end}
use Rattle.digits.specs.Text.{tabbed, Puts}
use Rattle.digits.proofs.Pasting.{one, then, rest}
use Rattle.writing.specs.Writing.{fields, letter_line}
use Rattle.writing.proofs.writer.put_line.Goals as goal

-- what is still to come, and that the line is put by whoever puts it
abbrev Lacks : (o m : List ℕ) (at p letter : ℕ) (ns todo : List ℕ) → Type 0
Lacks o m at p letter ns todo =
    (p + length (fields todo) ≤ length m)
    × ((l : List ℕ) (q : ℕ) → Puts m l p q (fields todo) → Puts o l at q (letter_line letter ns))

module _ (o : List ℕ) (at letter : ℕ) (ns : List ℕ) where
  opened : at + length (letter_line letter ns) ≤ length o → Lacks o (set o at letter) at (at + 1) letter ns ns
  opened room =
      let a = one o at letter (at + 1) refl (omega arith) in
      (rest a (fields ns) room, λ l q b. then a b)

  module _ (m : List ℕ) (p i : ℕ) (lacks : Lacks o m at p letter ns (drop i ns)) where
    one_more :
        (l : List ℕ) (q : ℕ) → i < length ns → Puts m l p q (tabbed (get_or ns i 0)) → Lacks o l at q letter ns (drop (i + 1) ns)
    one_more l q more a =
        let now = rw (drop_more ns i 0 more) at lacks in
        (rest a (fields (drop (i + 1) ns)) now.0, λ k r b. now.1 k r (then a b))

    ended : length ns ≤ i → (p < length m) × Puts o (set m p end) at (p + 1) (letter_line letter ns)
    ended none =
        let now = rw (drop_all i ns none) at lacks in
        let fits : p < length m = omega (arith, now.0) in
        (fits, now.1 _ _ (one m p end (p + 1) refl fits))

pub loop-n-init : goal.loop-n-init
loop-n-init c = search opened

pub loop-n-preserved : goal.loop-n-preserved
loop-n-preserved c =
    one_more c.args.out.now c.args.at c.args.letter c.args.numbers.now _ _ c.loop-n.n-index c.loop-n.invariant _ _ (omega arith) c.put_tabbed-end.ensures

pub bounds-out-end : goal.bounds-out-end
bounds-out-end c = (ended c.args.out.now c.args.at c.args.letter c.args.numbers.now _ _ c.loop-n.n-index c.loop-n.invariant (omega arith)).0

pub returns : goal.returns
returns c = (ended c.args.out.now c.args.at c.args.letter c.args.numbers.now _ _ c.loop-n.n-index c.loop-n.invariant (omega arith)).1
