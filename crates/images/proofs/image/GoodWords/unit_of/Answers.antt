use borrow.Author.Rules.{rules}
use Prim.Native.Nat.{ℕ, ◌+◌, ◌*◌, ◌<◌}
use mathlib.Core.Bool.{true}
use mathlib.Core.List.{List}
use mathlib.Core.Path.{◌≡◌, sym, ◌∙◌, ap}
use native.Mathlib.Omega.{arith}
use lib.ListN.{length}
use Rattle.parts.specs.Parts.{empty_unit_lem, registered}
use Rattle.parts.specs.declared.kinds.Counts.{Counts}
use Rattle.parts.specs.declared.kinds.LockUnit.{LockUnit}
use Rattle.parts.specs.declared.kinds.Register.{Register}
use Rattle.parts.proofs.Folds.{none, more}
use Rattle.words.specs.Word.{Unpacked, Shown, register_of, is_good, unpack}
use Rattle.words.proofs.ReadsBack.{shown_own}
use Rattle.images.specs.Image.{per_unit, unit_count, word_count, word_at, good_words, entered}
use Rattle.images.proofs.Ranges.{core_place_lem, word_at_lem}
use Rattle.images.proofs.Good.{word_total, word_good}
use Rattle.images.proofs.Places.{enter}
use Rattle.images.proofs.image.GoodWords.unit_of.Goals as goal

-- where the word of core k stands
module _ (c : Counts) (u m k : ℕ) (is : m ≡ per_unit c) (h : u < unit_count c) (l : k < c.cores) (ws : List ℕ) (good : good_words c ws ≡ true) where
  within : u * m + k < word_count c
  within = word_at_lem c u k (core_place_lem c k l) m is h

  in_words : u * m + k < length ws
  in_words = omega (arith, within, word_total c ws good)

  good_word : is_good (word_at ws (u * m + k)) ≡ true
  good_word = word_good c ws good (u * m + k) within

started : (ws : List ℕ) (at : ℕ) (x : LockUnit) → x ≡ empty_unit_lem → x ≡ entered ws at 0
started ws at x e = e ∙ none (enter ws at) empty_unit_lem

turn :
    (ws : List ℕ) (at k j : ℕ) (x y : LockUnit) (shown : Unpacked) (r : Register) →
    x ≡ entered ws at k →
    j ≡ k →
    shown ≡ unpack (word_at ws (at + j)) →
    shown ≡ Shown r →
    y ≡ registered x k r →
    y ≡ entered ws at (k + 1)
turn ws at k j x y shown r so is reads has says =
    let own = shown_own (word_at ws (at + j)) r (sym reads ∙ has) in
    more (enter ws at) k empty_unit_lem x y so (says ∙ ap (registered x k) (own ∙ ap (λ (i : ℕ). register_of (word_at ws (at + i))) is))

pub loop-k-init : goal.loop-k-init
loop-k-init c = search (started, rules)

pub bounds-self-at : goal.bounds-self-at
bounds-self-at c = search (in_words, rules)

pub unwrap-r-requires : goal.unwrap-r-requires
unwrap-r-requires c = search (good_word, rules)

pub loop-k-preserved : goal.loop-k-preserved
loop-k-preserved c = search (turn, rules)
