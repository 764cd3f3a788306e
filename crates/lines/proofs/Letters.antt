-- The letters of the steps by name.
use Prim.Native.Nat.{ℕ}

abbrev pub letter_r : ℕ
letter_r = 82

abbrev pub letter_n : ℕ
letter_n = 78

abbrev pub letter_p : ℕ
letter_p = 80

abbrev pub letter_i : ℕ
letter_i = 73

abbrev pub letter_c : ℕ
letter_c = 67

abbrev pub letter_l : ℕ
letter_l = 76
