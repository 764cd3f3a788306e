-- A number that is no more than a piece's length counts bytes of it.
use Rattle.std.proofs.Common.{ℕ, ◌≤◌, ◌<◌, List, length, sym}
use native.Mathlib.Omega.{arith}
use lib.Seq.{length-take-le}
use Rattle.console.specs.Counts.{IsPrefixLen}

pub counts : (n : ℕ) (xs : List ℕ) → n ≤ length xs → IsPrefixLen n xs
counts n xs h = (h, sym (length-take-le n xs h))

pub less_counts : (n : ℕ) (xs : List ℕ) → n < length xs → IsPrefixLen n xs
less_counts n xs h = counts n xs (omega arith)

pub all_counts : (xs : List ℕ) → IsPrefixLen (length xs) xs
all_counts xs = counts (length xs) xs (omega arith)
