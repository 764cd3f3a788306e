-- What is written reads back, and what is read is written the same, of an image, the registers within the counts and who is next in line. A
-- register within reach has a ticket of sixteen bits, as every one that a program holds.
use Prim.Native.Nat.{ℕ, ◌+◌, ◌*◌, ◌<◌}
use mathlib.Core.Bool.{Bool, true, false, cond, ◌&&◌, not}
use mathlib.Core.List.{List}
use mathlib.Core.Path.{◌≡◌, refl, sym, ◌∙◌, ap, ap₂, subst}
use native.Mathlib.Omega.{arith}
use lib.Dec.{eqb}
use lib.ListN.{length, set}
use lib.Seq.{ext_get_or}
use borrow.Author.Tests.{eq-eqb}
use Rattle.parts.specs.Parts.{register_in}
use Rattle.parts.specs.Range.{in_range}
use Rattle.parts.specs.declared.kinds.Counts.{Counts}
use Rattle.parts.specs.declared.kinds.LockUnit.{LockUnit}
use Rattle.parts.specs.declared.kinds.Next.{Next}
use Rattle.parts.specs.declared.kinds.Register.{Register}
use Rattle.parts.proofs.Bools.{and_both}
use Rattle.parts.proofs.Folds.{at_every, every_cong}
use Rattle.parts.proofs.Along.{up_to_cong}
use Rattle.settling.specs.Shown.{shown_as, next_of, same, shows_next_lem}
use Rattle.settling.specs.Best.{Best}
use Rattle.settling.proofs.NextInLine.{next_cong, flags_cong, shown_shows, stores}
use Rattle.words.specs.Word.{packable, word_of, register_of, is_good}
use Rattle.words.proofs.Good.{narrow, good_packable}
use Rattle.words.proofs.Bits.{word_register, register_word}
use Rattle.words.proofs.ReadsBack.{shows_good}
use Rattle.images.specs.Image.{per_unit, unit_count, word_count, unit_in, waiter, placed, register_at, image_answer, write_answer, word_at, good_words, entered, unit_of, units_of, next_agrees, good_image, read_image, writable, words_into, write_left}
use Rattle.images.specs.Claims.{ImageReadsBack, ImageIsWritten, PastUnread}
use Rattle.std.specs.Prelude.{Result, Ok, Err}
use Rattle.images.specs.declared.image.ImageRefusal.{ImageRefusal}
use Rattle.images.specs.declared.image.ImageRefusal.TheVariants.{OutOfRange, BadImage}
use Rattle.images.proofs.Ranges.{core_place_lem, last_place, word_in}
use Rattle.images.proofs.Good.{good_word, word_total, word_good, all_words, next_word, room_total, register_packable, unit_shows, next_packable}
use Rattle.images.proofs.Places.{Written, written, by_unit, by_place, at_core, at_last, at_place, unit_is, register_is}

-- units with the same first n registers have the same one next in line
next_of_cong : (n : ℕ) (x y : LockUnit) → ((k : ℕ) → k < n → register_in x k ≡ register_in y k) → next_of n x ≡ next_of n y
next_of_cong n x y alike = ap₂ (λ (b : Best) (m : ℕ). shown_as b (not (eqb m 0))) (next_cong n x y alike) (flags_cong n x y alike)

module _ (c : Counts) (ranged : in_range c ≡ true) where
  module _
      (xs : List LockUnit)
      (out : List ℕ)
      (able : writable c xs (length out) ≡ true)
      (low : (i : ℕ) → i < word_count c → (register_at c xs i).ticket.0 < 65536)
    where
      abbrev ws : List ℕ
      ws = words_into c xs out

      total : length out ≡ word_count c
      total = room_total c xs (length out) able

      all_written : Written (λ (k : ℕ). word_of (register_at c xs k)) 0 out (word_count c) ws
      all_written = written (λ (k : ℕ). word_of (register_at c xs k)) 0 out (word_count c) (let e = total in omega arith)

      words_good : good_words c ws ≡ true
      words_good =
          and_both (eq-eqb (length ws) (word_count c) (all_written.long ∙ total))
          (at_every (good_word ws) (word_count c)
          (λ i h. ap is_good (all_written.at i h) ∙
          shows_good (register_at c xs i) (low i h) (register_packable c xs (length out) able i h)))

      module _ (u : ℕ) (h : u < unit_count c) where
        word_at_lem : (k : ℕ) → k < per_unit c → word_at ws (u * per_unit c + k) ≡ word_of (placed c (unit_in xs u) k)
        word_at_lem k l = all_written.at (u * per_unit c + k) (word_in c u k l h) ∙ ap word_of (at_place c xs u k l)

        same_core : (k : ℕ) → k < c.cores → register_in (unit_of c ws u) k ≡ register_in (unit_in xs u) k
        same_core k l =
            let b = core_place_lem c k l in
            let is = at_place c xs u k b ∙ at_core c (unit_in xs u) k l in
            register_is c ranged ws u k l ∙
            ap register_of (word_at_lem k b ∙ ap word_of (at_core c (unit_in xs u) k l)) ∙
            word_register (register_in (unit_in xs u) k)
            (subst (λ (r : Register). r.ticket.0 < 65536) is (low (u * per_unit c + k) (word_in c u k b h)))

        same_next : (unit_of c ws u).next ≡ (unit_in xs u).next
        same_next =
            next_of_cong c.cores (unit_of c ws u) (unit_in xs u) same_core ∙
            sym (stores c.cores (unit_in xs u) (unit_shows c xs (length out) able u h))

        same_placed : (k : ℕ) → k < per_unit c → placed c (unit_of c ws u) k ≡ placed c (unit_in xs u) k
        same_placed =
            by_place c (λ (k : ℕ). placed c (unit_of c ws u) k ≡ placed c (unit_in xs u) k)
            (λ k l. at_core c (unit_of c ws u) k l ∙ same_core k l ∙ sym (at_core c (unit_in xs u) k l))
            (at_last c (unit_of c ws u) ∙ ap waiter same_next ∙ sym (at_last c (unit_in xs u)))

        next_good : next_agrees c ws u ≡ true
        next_good =
            eq-eqb (word_at ws (u * per_unit c + c.cores)) (word_of (waiter (unit_of c ws u).next))
            (word_at_lem c.cores (last_place c) ∙
            ap word_of (at_last c (unit_in xs u)) ∙
            ap (λ (v : Next). word_of (waiter v)) (sym same_next))

      -- what is written is a good image
      pub written_good : good_image c ws ≡ true
      written_good = and_both words_good (at_every (next_agrees c ws) (unit_count c) next_good)

      -- and its registers are those that were written, and who is next in line
      pub written_registers : (i : ℕ) → i < word_count c → register_at c (units_of c ws) i ≡ register_at c xs i
      written_registers =
          by_unit c (λ (i : ℕ). register_at c (units_of c ws) i ≡ register_at c xs i)
          (λ u k h l.
          at_place c (units_of c ws) u k l ∙
          ap (λ (x : LockUnit). placed c x k) (unit_is c ranged ws u h) ∙
          same_placed u h k l ∙
          sym (at_place c xs u k l))

      pub written_next : (u : ℕ) → u < unit_count c → (unit_in (units_of c ws) u).next ≡ (unit_in xs u).next
      written_next u h = ap (λ (x : LockUnit). x.next) (unit_is c ranged ws u h) ∙ same_next u h

  module _ (ws out : List ℕ) (good : good_image c ws ≡ true) (same : length out ≡ length ws) where
    abbrev xs : List LockUnit
    xs = units_of c ws

    good_words_lem : good_words c ws ≡ true
    good_words_lem = all_words c ws good

    room : length out ≡ word_count c
    room = same ∙ word_total c ws good_words_lem

    at_unit : (u k : ℕ) → u < unit_count c → k < per_unit c → register_at c xs (u * per_unit c + k) ≡ placed c (unit_of c ws u) k
    at_unit u k h l = at_place c xs u k l ∙ ap (λ (x : LockUnit). placed c x k) (unit_is c ranged ws u h)

    module _ (u : ℕ) (h : u < unit_count c) where
      good_at : (k : ℕ) → k < c.cores → is_good (word_at ws (u * per_unit c + k)) ≡ true
      good_at k l = word_good c ws good_words_lem (u * per_unit c + k) (word_in c u k (core_place_lem c k l) h)

      shown_at : (k : ℕ) → k < c.cores → placed c (unit_of c ws u) k ≡ register_of (word_at ws (u * per_unit c + k))
      shown_at k l = at_core c (unit_of c ws u) k l ∙ register_is c ranged ws u k l

      fits : (k : ℕ) → k < per_unit c → packable (placed c (unit_of c ws u) k) ≡ true
      fits =
          by_place c (λ (k : ℕ). packable (placed c (unit_of c ws u) k) ≡ true)
          (λ k l. ap packable (shown_at k l) ∙ good_packable (word_at ws (u * per_unit c + k)) (good_at k l))
          (ap packable (at_last c (unit_of c ws u)) ∙ next_packable c.cores (entered ws (u * per_unit c) c.cores))

      again : (k : ℕ) → k < per_unit c → word_of (placed c (unit_of c ws u) k) ≡ word_at ws (u * per_unit c + k)
      again =
          by_place c (λ (k : ℕ). word_of (placed c (unit_of c ws u) k) ≡ word_at ws (u * per_unit c + k))
          (λ k l.
          ap word_of (shown_at k l) ∙
          register_word (word_at ws (u * per_unit c + k)) (narrow (word_at ws (u * per_unit c + k)) (good_at k l)))
          (ap word_of (at_last c (unit_of c ws u)) ∙ sym (next_word c ws good u h))

    -- what is read can be written
    pub read_writable : writable c xs (length out) ≡ true
    read_writable =
        and_both
        (and_both (eq-eqb (length out) (word_count c) room)
        (at_every (λ (i : ℕ). packable (register_at c xs i)) (word_count c)
        (by_unit c (λ (i : ℕ). packable (register_at c xs i) ≡ true) (λ u k h l. ap packable (at_unit u k h l) ∙ fits u h k l))))
        (at_every (λ (u : ℕ). shows_next_lem c.cores (unit_in xs u)) (unit_count c)
        (λ u h. ap (shows_next_lem c.cores) (unit_is c ranged ws u h) ∙ shown_shows c.cores (entered ws (u * per_unit c) c.cores)))

    -- and is written as the same words
    pub read_words : words_into c xs out ≡ ws
    read_words = ext_get_or 0 (words_into c xs out) ws (all.long ∙ same) (λ i h. word_at_lem i (let e = all.long ∙ room in omega arith))
      where
        all : Written (λ (k : ℕ). word_of (register_at c xs k)) 0 out (word_count c) (words_into c xs out)
        all = written (λ (k : ℕ). word_of (register_at c xs k)) 0 out (word_count c) (let e = room in omega arith)

        word_at_lem : (i : ℕ) → i < word_count c → word_at (words_into c xs out) i ≡ word_at ws i
        word_at_lem =
            by_unit c (λ (i : ℕ). word_at (words_into c xs out) i ≡ word_at ws i)
            (λ u k h l. all.at (u * per_unit c + k) (word_in c u k l h) ∙ ap word_of (at_unit u k h l) ∙ again u h k l)

-- The two functions, one after the other

-- something is given where both tests were passed
passed :
    {A : Type 0} (a b : Bool) (x y : A) →
    ◌≡◌ {A = Result A ImageRefusal} (cond a (cond b (Ok x) (Err BadImage)) (Err OutOfRange)) (Ok y) →
    (a ≡ true) × (b ≡ true) × (x ≡ y)
passed true true x y e = (refl, refl, cc)
passed true false x y e = cc
passed false b x y e = cc

module _ (c : Counts) where
  reads : (ws : List ℕ) → in_range c ≡ true → good_image c ws ≡ true → read_image c ws ≡ Ok (units_of c ws)
  reads ws e f = rw (e, f)

  module _ (xs : List LockUnit) (out : List ℕ) (e : in_range c ≡ true) (f : writable c xs (length out) ≡ true) where
    writes : write_answer c xs (length out) ≡ Ok tt
    writes = rw (e, f)

    leaves : write_left c xs out ≡ words_into c xs out
    leaves = rw (e, f)

pub write_read : ImageReadsBack
write_read c xs out low done =
    let p = passed (in_range c) (writable c xs (length out)) tt tt done in
    let ws = words_into c xs out in (
      units_of c ws,
      ap (read_image c) (leaves c xs out p.0 p.1) ∙ reads c ws p.0 (written_good c p.0 xs out p.1 low),
      written_registers c p.0 xs out p.1 low,
      written_next c p.0 xs out p.1 low,
    )

pub read_write : ImageIsWritten
read_write c ws out xs same done =
    let p = passed (in_range c) (good_image c ws) (units_of c ws) xs done in
    let able = read_writable c p.0 ws out p.1 same in (
      ap (λ (x : List LockUnit). write_answer c x (length out)) (sym p.2) ∙ writes c (units_of c ws) out p.0 able,
      ap (λ (x : List LockUnit). write_left c x out) (sym p.2) ∙ leaves c (units_of c ws) out p.0 able ∙ read_words c p.0 ws out p.1 same,
    )

-- units with the same registers within the counts, and the same next in line
module _
    (c : Counts)
    (xs ys : List LockUnit)
    (out : List ℕ)
    (alike : (i : ℕ) → i < word_count c → register_at c xs i ≡ register_at c ys i)
    (next-alike : (u : ℕ) → u < unit_count c → (unit_in xs u).next ≡ (unit_in ys u).next)
  where
    same_register : (u : ℕ) → u < unit_count c → (k : ℕ) → k < c.cores → register_in (unit_in xs u) k ≡ register_in (unit_in ys u) k
    same_register u h k l =
        let b = core_place_lem c k l in
        sym (at_place c xs u k b ∙ at_core c (unit_in xs u) k l) ∙
        alike (u * per_unit c + k) (word_in c u k b h) ∙
        at_place c ys u k b ∙
        at_core c (unit_in ys u) k l

    same_writable : writable c xs (length out) ≡ writable c ys (length out)
    same_writable =
        ap₂ (λ (a b : Bool). eqb (length out) (word_count c) && a && b)
        (every_cong (λ (i : ℕ). packable (register_at c xs i)) (λ (i : ℕ). packable (register_at c ys i)) (word_count c) (λ i h. ap packable (alike i h)))
        (every_cong (λ (u : ℕ). shows_next_lem c.cores (unit_in xs u)) (λ (u : ℕ). shows_next_lem c.cores (unit_in ys u)) (unit_count c)
        (λ u h. ap₂ same (next-alike u h) (next_of_cong c.cores (unit_in xs u) (unit_in ys u) (same_register u h))))

    same_words : words_into c xs out ≡ words_into c ys out
    same_words =
        up_to_cong
        (λ (i : ℕ) (o : List ℕ). set o i (word_of (register_at c xs i)))
        (λ (i : ℕ) (o : List ℕ). set o i (word_of (register_at c ys i)))
        (word_count c)
        out
        (λ i h o. ap (λ (r : Register). set o i (word_of r)) (alike i h))

pub past_unread : PastUnread
past_unread c xs ys out alike next-alike = (
  ap (λ (b : Bool). image_answer c b tt) (same_writable c xs ys out alike next-alike),
  ap₂ (λ (b : Bool) (o : List ℕ). cond (in_range c && b) o out) (same_writable c xs ys out alike next-alike)
      (same_words c xs ys out alike next-alike),
)
