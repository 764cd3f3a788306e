use borrow.Author.Rules.{rules}
use Prim.Native.Nat.{ℕ, ◌+◌}
use mathlib.Core.Bool.{Bool, false, ◌||◌, not}
use mathlib.Core.List.{List}
use mathlib.Core.Path.{◌≡◌, ◌∙◌, ap}
use lib.ListN.{length, length-set, get_or, set}
use Rattle.ticket.specs.Order.{compare}
use Rattle.ticket.specs.declared.order.Comparison.{Comparison}
use Rattle.parts.specs.Fold.{up_to, some}
use Rattle.parts.proofs.Folds.{none, more}
use Rattle.settling.specs.Line.{is_older}
use Rattle.settling.specs.Pairs.{is_younger, overtakes, met}
use Rattle.settling.proofs.pairs.column.Goals as goal

module _ (tickets : List ℕ) (t a : ℕ) (y : Comparison) (says : y ≡ compare (get_or tickets a 0) t) where
  marks_on :
      (l m : List Bool) (o : Bool) →
      m ≡ up_to (met tickets t) a l →
      o ≡ is_older y →
      set m a (get_or m a false || not o) ≡ up_to (met tickets t) (a + 1) l
  marks_on l m o so older =
      more (met tickets t) a l m (set m a (get_or m a false || not o)) so
      (ap (λ (b : Bool). set m a (get_or m a false || not b)) (older ∙ ap is_older says))

  last_on : (last d : Bool) → last ≡ some (overtakes tickets t) a → d ≡ is_younger y → (last || not d) ≡ some (overtakes tickets t) (a + 1)
  last_on last d so younger =
      more (λ (k : ℕ) (b : Bool). b || overtakes tickets t k) a false last (last || not d) so
      (ap (λ (b : Bool). last || not b) (younger ∙ ap is_younger says))

long_again : (l : List Bool) (i n : ℕ) (b : Bool) → length l ≡ n → length (set l i b) ≡ n
long_again l i n b e = length-set l i b ∙ e

pub loop-a-init : goal.loop-a-init
loop-a-init c = search (none, rules)

pub loop-a-preserved : goal.loop-a-preserved
loop-a-preserved c = (search rules, search rules, search (long_again, rules), search (last_on, rules), search (marks_on, rules))
