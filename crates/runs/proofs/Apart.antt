-- The cores' tickets apart, after a core has changed; and 15 asked of them.
use Prim.Native.Nat.{ℕ, zero, suc}
use mathlib.Core.Bool.{Bool}
use mathlib.Core.List.{List, [], ◌∷◌, map}
use mathlib.Core.Path.{◌≡◌, refl, ◌∙◌, ap}
use lib.ListN.{set}
use Rattle.parts.specs.declared.answer.Step.{Step}
use Rattle.parts.specs.declared.kinds.Core.{Core}
use Rattle.refusals.specs.Judge.{live}
use Rattle.refusals.specs.Tickets.{own_in, lives_of, owns_of, stretched_by, asked}
use Rattle.refusals.proofs.Apart.{stretched_apart}
use Rattle.block.specs.Steps.{late}
use Rattle.block.specs.declared.table.Table.{Table}

pub map_set : {A B : Type 0} (f : A → B) (xs : List A) (k : ℕ) (a : A) → map f (set xs k a) ≡ set (map f xs) k (f a)
map_set f [] k a = refl
map_set f (x ∷ xs) zero a = refl
map_set f (x ∷ xs) (suc k) a = ap (λ l. f x ∷ l) (map_set f xs k a)

pub lives_set : (cs : List Core) (k : ℕ) (c : Core) → lives_of (set cs k c) ≡ set (lives_of cs) k (live c)
lives_set = map_set live

pub owns_set : (cs : List Core) (k : ℕ) (c : Core) → owns_of (set cs k c) ≡ set (owns_of cs) k (own_in c)
owns_set = map_set own_in

-- what 15 asks, answered of the cores' tickets apart
pub late_in :
    (t : Table) (s : Step) (c : Core) (ls : List Bool) (os : List ℕ) (b : Bool) →
    ls ≡ lives_of t.cores →
    os ≡ owns_of t.cores →
    b ≡ asked s c (stretched_by t.counter ls os t.counts.cores) →
    b ≡ asked s c (late t)
late_in t s c ls os b el eo e = e ∙ ap (asked s c) (rw (el, eo) (stretched_apart t.counter t.cores t.counts.cores))
