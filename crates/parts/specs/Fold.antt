-- One fold serves every count over cores or units: f is applied for 0, for 1, and so on below n.
use Rattle.std.specs.Prelude.{ℕ, zero, suc, ◌+◌, Bool, true, false, ◌&&◌, ◌||◌}

unfoldable pub up_to : {A : Type 0} → (ℕ → A → A) → ℕ → A → A
up_to f zero a = a
up_to f (suc n) a = f n (up_to f n a)

-- p holds of each number below n
abbrev pub every : (ℕ → Bool) → ℕ → Bool
every p n = up_to (λ (k : ℕ) (b : Bool). b && p k) n true

-- p holds of some number below n
abbrev pub some : (ℕ → Bool) → ℕ → Bool
some p n = up_to (λ (k : ℕ) (b : Bool). b || p k) n false

abbrev pub one : Bool → ℕ
one b = elim b [ true ↦ 1 | false ↦ 0 ]

-- of how many numbers below n p holds
abbrev pub count : (ℕ → Bool) → ℕ → ℕ
count p n = up_to (λ (k m : ℕ). m + one (p k)) n 0
