-- The number that the answer carries, by the tests it comes from: 20 for counts out of range, then 30.
use mathlib.Core.Bool.{Bool, true, false, cond}
use mathlib.Core.Path.{◌≡◌, refl}
use Rattle.parts.specs.Range.{in_range}
use Rattle.parts.specs.declared.kinds.Counts.{Counts}
use Rattle.words.proofs.Numbers.{one_choice}
use Rattle.images.specs.Image.{image_answer, image_number, due_number}
use Rattle.std.specs.Prelude.{Ok, Err}
use Rattle.images.specs.declared.image.ImageRefusal.TheVariants.{OutOfRange, BadImage}

pub image_number_lem : {A : Type 0} (c : Counts) (good : Bool) (x : A) → image_number (image_answer c good x) ≡ due_number c good
image_number_lem c good x = go (in_range c)
  where
    go : (ranged : Bool) → image_number (cond ranged (cond good (Ok x) (Err BadImage)) (Err OutOfRange)) ≡ cond ranged (cond good 0 30) 20
    go true = one_choice image_number good (Ok x) (Err BadImage)
    go false = refl
