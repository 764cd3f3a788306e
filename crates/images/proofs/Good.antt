-- What the tests of an image say: of the number of words, of each word, of each unit's next in line, and of each register that is written.
use Prim.Native.Nat.{ℕ, ◌+◌, ◌*◌, ◌<◌}
use mathlib.Core.Bool.{Bool, true, false, ◌&&◌, not}
use mathlib.Core.List.{List}
use mathlib.Core.Path.{◌≡◌, refl, ap}
use lib.Dec.{eqb}
use lib.ListN.{length}
use borrow.Author.Tests.{eqb-true}
use Rattle.parts.specs.Fold.{every}
use Rattle.parts.specs.declared.kinds.Counts.{Counts}
use Rattle.parts.specs.declared.kinds.LockUnit.{LockUnit}
use Rattle.parts.proofs.Bools.{and_left, and_right}
use Rattle.parts.proofs.Folds.{every_at}
use Rattle.settling.specs.Line.{flags, next}
use Rattle.settling.specs.Shown.{shown_as, next_of, shows_next_lem}
use Rattle.settling.specs.Best.{Best, Nobody, Won}
use Rattle.words.specs.Word.{packable, word_of, is_good}
use Rattle.images.specs.Image.{per_unit, unit_count, word_count, unit_in, waiter, register_at, word_at, good_words, unit_of, next_agrees, good_image, writable}

-- word i is good
abbrev pub good_word : List ℕ → ℕ → Bool
good_word ws i = is_good (word_at ws i)

module _ (c : Counts) (ws : List ℕ) where
  module _ (good : good_words c ws ≡ true) where
    pub word_total : length ws ≡ word_count c
    word_total = eqb-true (length ws) (word_count c) (and_left (eqb (length ws) (word_count c)) (every (good_word ws) (word_count c)) good)

    pub word_good : (i : ℕ) → i < word_count c → is_good (word_at ws i) ≡ true
    word_good =
        every_at (good_word ws) (word_count c) (and_right (eqb (length ws) (word_count c)) (every (good_word ws) (word_count c)) good)

  module _ (good : good_image c ws ≡ true) where
    pub all_words : good_words c ws ≡ true
    all_words = and_left (good_words c ws) (every (next_agrees c ws) (unit_count c)) good

    pub next_word : (u : ℕ) → u < unit_count c → word_at ws (u * per_unit c + c.cores) ≡ word_of (waiter (unit_of c ws u).next)
    next_word u h =
        eqb-true (word_at ws (u * per_unit c + c.cores)) (word_of (waiter (unit_of c ws u).next))
        (every_at (next_agrees c ws) (unit_count c) (and_right (good_words c ws) (every (next_agrees c ws) (unit_count c)) good) u h)

module _ (c : Counts) (xs : List LockUnit) (room : ℕ) (able : writable c xs room ≡ true) where
  abbrev fit : ℕ → Bool
  fit i = packable (register_at c xs i)

  abbrev show : ℕ → Bool
  show u = shows_next_lem c.cores (unit_in xs u)

  sized : (eqb room (word_count c) && every fit (word_count c)) ≡ true
  sized = and_left (eqb room (word_count c) && every fit (word_count c)) (every show (unit_count c)) able

  pub room_total : room ≡ word_count c
  room_total = eqb-true room (word_count c) (and_left (eqb room (word_count c)) (every fit (word_count c)) sized)

  pub register_packable : (i : ℕ) → i < word_count c → packable (register_at c xs i) ≡ true
  register_packable = every_at fit (word_count c) (and_right (eqb room (word_count c)) (every fit (word_count c)) sized)

  pub unit_shows : (u : ℕ) → u < unit_count c → shows_next_lem c.cores (unit_in xs u) ≡ true
  unit_shows =
      every_at show (unit_count c) (and_right (eqb room (word_count c) && every fit (word_count c)) (every show (unit_count c)) able)

-- whoever is next in line is what a word can show
waiter_packable : (b : Best) (held : Bool) → packable (waiter (shown_as b held)) ≡ true
waiter_packable Nobody held = refl
waiter_packable (Won k t) held = refl

pub next_packable : (n : ℕ) (x : LockUnit) → packable (waiter (next_of n x)) ≡ true
next_packable n x = waiter_packable (next n x) (not (eqb (flags n x) 0))

-- a test of as many as there are, where there are as many as there should be
pub counted : (p : ℕ → Bool) (m n : ℕ) → (eqb m n && every p m) ≡ (eqb m n && every p n)
counted p m n = go (eqb m n) refl
  where
    go : (b : Bool) → eqb m n ≡ b → (b && every p m) ≡ (b && every p n)
    go true e = ap (every p) (eqb-true m n e)
    go false e = refl
