-- The computed test and the record of parts say the same.
use mathlib.Core.Bool.{Bool, true, ◌&&◌}
use mathlib.Core.Path.{◌≡◌}
use Prim.Native.Nat.{ℕ}
use Rattle.parts.specs.Fold.{every}
use Rattle.parts.specs.Parts.{cores, units}
use Rattle.settling.specs.Shown.{shows_next_lem}
use Rattle.block.specs.Table.{core_of, unit_of, register_of}
use Rattle.parts.specs.Range.{in_range}
use Rattle.soundness.specs.Agreement.{unit_sound_lem}
use Rattle.soundness.specs.Sound.{core_sound}
use Rattle.block.specs.Sound as S
use Rattle.block.specs.Parts.{CoreSound, UnitSound, Sound}
use Rattle.block.specs.declared.table.Table.{Table}
use Rattle.parts.proofs.Bools.{and_left, and_right, and_both}
use Rattle.parts.proofs.Folds.{every_at, at_every}

module _ (t : Table) where
  core_parts : (k : ℕ) → S.core_sound t k ≡ true → CoreSound t k
  unfolding core_sound
  core_parts k e =
      let c = core_of t k in
      let a = S.within t k in
      let a1 = a && S.suited t c in
      let a2 = a1 && S.idle_blank c in
      let b = a2 && S.dropped_blank c in
      let d = b && S.named t c in
      let f = d && S.recent t c in
      let g = f && every (S.differ t k) cores in
      let e7 = and_left g (S.carries t c) e in
      let e6 = and_left f (every (S.differ t k) cores) e7 in
      let e5 = and_left d (S.recent t c) e6 in
      let e4 = and_left b (S.named t c) e5 in
      let e3 = and_left a2 (S.dropped_blank c) e4 in
      let e2 = and_left a1 (S.idle_blank c) e3 in
      record {
        within = and_left a (S.suited t c) e2;
        suited = and_right a (S.suited t c) e2;
        idle_blank = and_right a1 (S.idle_blank c) e3;
        dropped_blank = and_right a2 (S.dropped_blank c) e4;
        named = and_right b (S.named t c) e5;
        recent = and_right d (S.recent t c) e6;
        differ = every_at (S.differ t k) cores (and_right f (every (S.differ t k) cores) e7);
        carries = and_right g (S.carries t c) e;
      }

  core_whole : (k : ℕ) → CoreSound t k → S.core_sound t k ≡ true
  unfolding core_sound
  core_whole k c =
      and_both
      (and_both
      (and_both (and_both (and_both (and_both (and_both c.within c.suited) c.idle_blank) c.dropped_blank) c.named) c.recent)
      (at_every (S.differ t k) cores c.differ))
      c.carries

  unit_parts : (u : ℕ) → S.unit_sound_lem t u ≡ true → UnitSound t u
  unfolding unit_sound_lem
  unit_parts u e =
      let p : ℕ → Bool = λ (k : ℕ). S.agrees (core_of t k) u (register_of t u k) in
      let both = every p cores && S.one_flag (unit_of t u) in
      let e1 = and_left both (shows_next_lem cores (unit_of t u)) e in
      record {
        agrees = every_at p cores (and_left (every p cores) (S.one_flag (unit_of t u)) e1);
        one_flag = and_right (every p cores) (S.one_flag (unit_of t u)) e1;
        next = and_right both (shows_next_lem cores (unit_of t u)) e;
      }

  unit_whole : (u : ℕ) → UnitSound t u → S.unit_sound_lem t u ≡ true
  unfolding unit_sound_lem
  unit_whole u x =
      and_both (and_both (at_every (λ (k : ℕ). S.agrees (core_of t k) u (register_of t u k)) cores x.agrees) x.one_flag) x.next

  pub parts : S.sound t ≡ true → Sound t
  unfolding S.sound
  parts e =
      let a = in_range t.counts in
      let b = a && every (S.core_sound t) cores in
      let e1 = and_left b (every (S.unit_sound_lem t) units) e in
      record {
        counts = and_left a (every (S.core_sound t) cores) e1;
        core = λ k h. core_parts k (every_at (S.core_sound t) cores (and_right a (every (S.core_sound t) cores) e1) k h);
        unit = λ u h. unit_parts u (every_at (S.unit_sound_lem t) units (and_right b (every (S.unit_sound_lem t) units) e) u h);
      }

  pub whole : Sound t → S.sound t ≡ true
  unfolding S.sound
  whole s =
      and_both
      (and_both s.counts (at_every (S.core_sound t) cores (λ k h. core_whole k (s.core k h))))
      (at_every (S.unit_sound_lem t) units (λ u h. unit_whole u (s.unit u h)))
