use borrow.Author.Rules.{rules}
use Prim.Native.Nat.{ℕ, ◌<◌, ◌+◌}
use mathlib.Core.Bool.{Bool}
use mathlib.Core.Path.{◌≡◌}
use native.Mathlib.Omega.{arith}
use mir.Syntax.{w64}
use mir.Val.{Fits}
use Rattle.parts.specs.Fold.{count, one}
use Rattle.parts.specs.Parts.{cores, register_in}
use Rattle.parts.proofs.Folds.{none}
use Rattle.parts.proofs.Loops.{count_more, count_most, one_most}
use Rattle.soundness.proofs.units.flags.Goals as goal

fits : (p : ℕ → Bool) (k n m : ℕ) (b : Bool) → n ≡ count p k → m ≡ one b → k < cores → Fits w64 (n + m)
fits p k n m b so last h = let a = count_most p k in let l = one_most b in omega arith

pub loop-r-init : goal.loop-r-init
loop-r-init c = search (none, rules)

pub loop-r-preserved : goal.loop-r-preserved
loop-r-preserved c = search (count_more, rules)

pub overflow_add-n : goal.overflow_add-n
overflow_add-n c =
    let l = c.loop-r in
    fits (λ (i : ℕ). (register_in c.args.x i).flag) l.r-index l.n c.from-n.result (register_in c.args.x l.r-index).flag l.invariant c.from-n.ensures c.loop-r-test.true
