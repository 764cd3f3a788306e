-- Where the words of an image stand: each has a place of its own, so that what was placed there is read back.
use Prim.Native.Nat.{ℕ, suc, ◌*◌, ◌+◌, ◌/◌, ◌%◌, ◌≤◌, ◌<◌}
use mathlib.Core.Bool.{true}
use mathlib.Core.List.{List}
use mathlib.Core.Path.{◌≡◌, refl, ◌∙◌, ap₂, subst}
use native.Mathlib.Nat.{div-add-mod', not-suc-le-zero}
use native.Mathlib.Omega.{arith}
use lib.ListN.{length, get_or, set, length-set}
use lib.Seq.{get_or-set_same, get_or-set_other}
use borrow.Author.Tests.{eq-eqb, ne_eqb}
use Rattle.parts.specs.Fold.{up_to}
use Rattle.parts.specs.Parts.{cores, absent_unit, empty_unit_lem, register_in, registered}
use Rattle.parts.specs.Range.{in_range}
use Rattle.parts.specs.declared.kinds.Counts.{Counts}
use Rattle.parts.specs.declared.kinds.LockUnit.{LockUnit}
use Rattle.parts.proofs.Along.{along, to_last}
use Rattle.parts.proofs.Ranging.{cores_few}
use Rattle.words.specs.Word.{register_of}
use Rattle.images.specs.Image.{per_unit, unit_count, word_count, empty_units_lem, unit_in, waiter, placed, register_at, word_at, entered, unit_of, units_of}
use Rattle.images.proofs.Ranges.{units_few, unit_in_lem, place_in, word_unit, word_place}

-- a list after its first n elements were set, one after another; what stands past it reads as d
module _ {A : Type 0} (f : ℕ → A) (d : A) (out : List A) where
  abbrev put : ℕ → List A → List A
  put i o = set o i (f i)

  pub record Written (n : ℕ) (o : List A) : Type 0 where
    pub long : length o ≡ length out
    pub at : (i : ℕ) → i < n → get_or o i d ≡ f i

  pub written : (n : ℕ) → n ≤ length out → Written n (up_to put n out)
  written n h =
      along Written put out (record { long = refl; at = λ i l. absurd (not-suc-le-zero l) }) n turn
    where
      turn : (k : ℕ) → k < n → (o : List A) → Written k o → Written (suc k) (put k o)
      turn k l o w =
          record {
            long = length-set o k (f k) ∙ w.long;
            at =
                to_last (λ (i : ℕ). get_or (put k o) i d ≡ f i) k
                (λ i b. get_or-set_other o k i (f k) d (λ e. omega arith) ∙ w.at i b)
                (get_or-set_same o k (f k) d (let e = w.long in omega arith));
          }

-- a claim of all words is one of all places of all units, and one of all places is one of the cores' and of the last
module _ (c : Counts) (P : ℕ → Type 0) where
  pub by_unit : ((u k : ℕ) → u < unit_count c → k < per_unit c → P (u * per_unit c + k)) → (i : ℕ) → i < word_count c → P i
  by_unit all i h =
      subst P (div-add-mod' i (per_unit c)) (all (i / per_unit c) (i % per_unit c) (unit_in_lem c i h) (place_in c i))

  pub by_place : ((k : ℕ) → k < c.cores → P k) → P c.cores → (k : ℕ) → k < per_unit c → P k
  by_place before last k l = to_last P c.cores before last k (omega arith)

-- what stands there
module _ (c : Counts) where
  pub at_core : (x : LockUnit) (k : ℕ) → k < c.cores → placed c x k ≡ register_in x k
  at_core x k l = rw (ne_eqb k c.cores (λ e. omega arith))

  pub at_last : (x : LockUnit) → placed c x c.cores ≡ waiter x.next
  at_last x = rw (eq-eqb c.cores c.cores refl)

  pub at_place : (xs : List LockUnit) (u k : ℕ) → k < per_unit c → register_at c xs (u * per_unit c + k) ≡ placed c (unit_in xs u) k
  at_place xs u k l = ap₂ (λ (v j : ℕ). placed c (unit_in xs v) j) (word_unit c u k l) (word_place c u k l)

-- the registers that were entered from a place on
module _ (ws : List ℕ) (at : ℕ) where
  abbrev pub enter : ℕ → LockUnit → LockUnit
  enter k x = registered x k (register_of (word_at ws (at + k)))

  record Entered (n : ℕ) (x : LockUnit) : Type 0 where
    long : length x.registers ≡ cores
    shows : (k : ℕ) → k < n → register_in x k ≡ register_of (word_at ws (at + k))

  pub entered_at : (n : ℕ) → n ≤ cores → (k : ℕ) → k < n → register_in (entered ws at n) k ≡ register_of (word_at ws (at + k))
  entered_at n few = (along Entered enter empty_unit_lem (record { long = refl; shows = λ i l. absurd (not-suc-le-zero l) }) n turn).shows
    where
      turn : (k : ℕ) → k < n → (x : LockUnit) → Entered k x → Entered (suc k) (enter k x)
      turn k l x e =
          let r = register_of (word_at ws (at + k)) in
          record {
            long = length-set x.registers k r ∙ e.long;
            shows =
                to_last (λ (i : ℕ). register_in (enter k x) i ≡ register_of (word_at ws (at + i))) k
                (λ i b. get_or-set_other x.registers k i r _ (λ q. omega arith) ∙ e.shows i b)
                (get_or-set_same x.registers k r _ (let q = e.long in omega arith));
          }

-- the units of an image
module _ (c : Counts) (e : in_range c ≡ true) (ws : List ℕ) where
  pub unit_is : (u : ℕ) → u < unit_count c → unit_in (units_of c ws) u ≡ unit_of c ws u
  unit_is = (written (unit_of c ws) absent_unit empty_units_lem (unit_count c) (units_few c e)).at

  pub register_is : (u k : ℕ) → k < c.cores → register_in (unit_of c ws u) k ≡ register_of (word_at ws (u * per_unit c + k))
  register_is u k l = entered_at ws (u * per_unit c) c.cores (cores_few c e) k l
