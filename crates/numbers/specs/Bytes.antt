-- "Lines end with byte 10; fields are parted by one tab (byte 9)."
use Rattle.std.specs.Prelude.{ℕ}

abbrev pub tab : ℕ
tab = 9

abbrev pub end : ℕ
end = 10
