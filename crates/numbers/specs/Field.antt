-- A field of a line: a number, with the place after the tab that ends it, or up to the line's end; or no number.
use Rattle.std.specs.Prelude.{ℕ, Option, None, Some}

abbrev pub Field : Type 0
Field = Option (ℕ × Option ℕ)

pattern abbrev pub Bad : Field
Bad = None

pattern abbrev pub Last : ℕ → Field
Last n = Some (n, None)

pattern abbrev pub Then : ℕ → ℕ → Field
Then n i = Some (n, Some i)
