-- What proofs by hand about a script reader share. A reader owns what its slice owns, and is had twice: one is kept, and the other's slice is
-- handed on. So a method that takes the reader apart and asks a function of the slice and the place has one walk, whatever is answered.
use mathlib.Core.Path.{◌≡◌, refl}
use Prim.Native.Nat.{ℕ, ◌<◌, ◌^◌}
use mathlib.Core.List.{List, [], ◌∷◌}
use lib.Dec.{T as Holds}
use lib.ListN.{length}
use seplogic.Ra.Ura.{Ura}
use mir.Syntax.{Callee, Ty, Fn, named, erased, imm, w8, w64, ty_int, ty_ref, place, copy, field, rv_opd, seq, assign, return, call, value_local, local}
use mir.Val.{Val, WT, has_ty, vint}
use base.Logic.{SProp, ent, sep, emp, via, fst∗, snd∗, ex_e, id⊢}
use base.Fml.{Lft, Share, Fml, ftrue, flft}
use prog.Memory.{Memory}
use prog.Routine.{Routine}
use prog.Wp.{Calls, Loops, WpFn, Tables}
use types.Logic.{Logic, sem}
use contract.Lifetimes.{Lfts}
use contract.Monad.{Fun, fact}
use types.Kit.{‵, raw, ◌⊛◌, given, ⋆, some, later, ◌$◌, ◌∵◌, !, qed, by, move, keep, drop, use1, use2, split, join, learn, pick, fsplit, fjoin, suffices, frame, await, done}
use types.Part.{whole, sub, look_in}
use types.Run.{look, init, forget, stop, fld, from, load, of_opd, and_then, no_more, assigns, land, returns, enter, alloc1, alloc0, params1, pass1, pass0, free1, free0}
use sound.WpLaws.{FmC, fm_of, WpFn-mono}
use denote.RattleType.{RattleType, owns}
use denote.Laws.{Is, shows}
use denote.Plain.{uint_Makes, uint_row_laws}
use denote.Builtin.{u8, usize, SliceRefOf}
use denote.Ref.{Bor}
use denote.Signature.{plain, named_lft}
use denote.Slice.{slice_ty, slice_val, ShrSlice, shr_slice_copy}
use denote.Steps.{owned, peeks, heard, nothing}
use denote.Struct.Declared.{Declared}
use denote.Struct.Laws as LL
use denote.Struct.Rest.{all_own, field_own, rest, own_open, own_out}
use denote.Triple.Statement.{Contract, Triple}
use denote.Triple.Call.{calls_at}
use denote.Triple.Entry.{Vals, on_entry}
use denote.Triple.Spec.{Meets, triple_of}
use denote.Triple.Walked.{says, Stays, stay_none, walk_of, Goes-none, ends_at, walked, walk_Meets}
use denote.Exit.{yes}
use denote.Triple.Clauses.{Ended, Clauses, ensured, lasts, closing}
use Rattle.script.specs.Script.{opened}
use Rattle.script.specs.declared.reader.ScriptReader.{ScriptReader}
use Rattle.script.specs.contracts.reader.ScriptReader as T
use Rattle.script.proofs.reader.ScriptReader.TheLaws as T'
use Rattle.script.specs.contracts.reader.ScriptReader.open as opens

-- the reader's type, over a signature's one lifetime, and its laws there
abbrev pub B : Lfts 1 → RattleType
B κs = T.the_row (named_lft 1 0 tt κs)

abbrev pub D : Lft → Declared
D κ = T.the_type (named_lft 1 0 tt (κ, tt))

abbrev pub L : (κ : Lft) → LL.Laws (D κ)
L κ = T'.the_laws (named_lft 1 0 tt (κ, tt))

-- a slice's machine value
abbrev pub spelled : Bor (List ℕ) → Val
spelled s = slice_val s.ref_ptr (length s.now)

module _ {M : Type 1} {𝓤 : Ura M} (𝓛 : Logic 𝓤) (κ : Lft) (d : ScriptReader) where
  abbrev pub Own : Fml
  Own = (B (κ, tt)).own_val d (T'.lowered d ∷ [])

  abbrev pub Script : Fml
  Script = (ShrSlice (named 0) κ u8).own_val d.script (spelled d.script ∷ [])

  -- what a reader owns gives what its slice owns, and is kept
  pub apart : ent 𝓤 (sem 𝓛 Own) (sep 𝓤 (sem 𝓛 Script) (sem 𝓛 Own))
  apart =
      qed 𝓛 (‵ Own ∷ []) ∵ use1 𝓛 (‵ Own ⊛ ‵ Own) ((LL.copy (D κ) (T'.the_copy (named_lft 1 0 tt (κ, tt))) 𝓛).twice d (T'.lowered d ∷ [])) $ split ! $
      use1 𝓛 (given (T'.lowered d ∷ [] ≡ T'.lowered d ∷ []) (‵ (all_own (D κ).parts (L κ) (d.script, (d.place, tt))))) (own_open 𝓛 (D κ) (L κ) (d.script, (d.place, tt)) (T'.lowered d)) $ learn ! (λ _.
      use1 𝓛 (‵ (field_own (D κ).parts (L κ) 0 d.script) ⊛ ‵ (rest (D κ).parts (L κ) 0 (d.script, (d.place, tt)))) (own_out 𝓛 (D κ).parts (L κ) 0 (d.script, (d.place, tt))) $ split ! $
      move ! (1 ∷ []) $ drop ! $ frame ! $ done !)

-- A method that asks a function of the slice and the place, whose answer is of the type R, and P is promised of the three.
module _ (R : RattleType) (ρ : Ty) (P : List ℕ → ℕ → R.Denot → Type 0) where
  abbrev pub asked : Ended
  asked = record {
    signature = record { lifetimes = 1; outlives = []; params = SliceRefOf (0 ∷ []) tt (plain (λ κs. u8)) (λ κs. tt) ∷ plain (λ κs. usize) ∷ []; result = plain (λ κs. R) };
    kept = (yes, (yes, tt));
  }

  abbrev pub asks : {M : Type 1} (𝓤 : Ura M) → Clauses 𝓤 asked
  asks 𝓤 κs a = record { ghost = Unit {0}; requires = λ g. emp 𝓤; ensures = λ g r e. fact 𝓤 (P a.0.now a.1.0 r) }

  abbrev pub method : Ended
  method = record { signature = record { lifetimes = 1; outlives = []; params = plain B ∷ []; result = plain (λ κs. R) }; kept = (yes, tt) }

  abbrev pub answers : {M : Type 1} (𝓤 : Ura M) → Clauses 𝓤 method
  answers 𝓤 κs a = record { ghost = Unit {0}; requires = λ g. emp 𝓤; ensures = λ g r e. fact 𝓤 (P a.0.script.now a.0.place r) }

  abbrev pub asking : Callee → Fn
  asking g = record {
    lifetimes = 1;
    outlives = [];
    ty_params = [];
    givens = 0;
    params = 1;
    locals = local ρ value_local ∷ local (T'.mir (named 0)) value_local ∷ local (slice_ty (ty_ref erased imm (ty_int w8))) value_local ∷ local (ty_int w64) value_local ∷ [];
    body = seq (assign (place 2 []) (rv_opd (copy (place 1 (field 0 ∷ [])))))
        (seq (assign (place 3 []) (rv_opd (copy (place 1 (field 1 ∷ [])))))
        (seq (call g (copy (place 2 []) ∷ copy (place 3 []) ∷ []) (place 0 [])) return));
  }

  abbrev stayed : Stays method.signature.params method.kept
  stayed = (stay_none B yes, tt)

  module _ {M : Type 1} {𝓤 : Ura M} (𝓛 : Logic 𝓤) where
    abbrev pub Asked : Contract 𝓤
    Asked = triple_of 𝓛 asked.signature (closing 𝓛 asked (asks 𝓤))

  module _ {M : Type 1} {𝓤 : Ura M} (𝓛 : Logic 𝓤) (κ : Lft) (q : Share) (d : ScriptReader) where
    open 𝓛 use {H}

    abbrev mach : Val
    mach = T'.lowered d

    abbrev Promised : R.Denot → Type 0
    Promised = P d.script.now d.place

    abbrev Post : Val → SProp 𝓤
    Post = (walk_of 𝓛 method stayed (answers 𝓤)).post (((κ, tt), (q, tt), tt, (d, tt), (mach ∷ [], tt)), tt)

    abbrev pub passed : Vals asked.signature (κ, tt)
    passed = (spelled d.script ∷ [], (vint w64 d.place ∷ [], tt))

    abbrev pub to : (Asked 𝓛).Ghost
    to = (((κ, tt), (q, tt), tt, (d.script, (d.place, tt)), passed), tt)

    pub goes : d.place < 2 ^ 64 → ent 𝓤 (on_entry 𝓛 method.signature (κ, tt) (q, tt) (d, tt) (mach ∷ [], tt)) (sep 𝓤 ((Asked 𝓛).pre to) (sem 𝓛 (Own 𝓛 κ d)))
    goes fits =
        qed 𝓛 ((‵ (flft κ q) ⊛ ‵ ftrue) ∷ ‵ (owns (B (κ, tt) ∷ []) (d, tt) (mach ∷ [], tt)) ∷ []) ∵
        move ! (1 ∷ []) $ fsplit ! $ use1 𝓛 (‵ (Script 𝓛 κ d) ⊛ ‵ (Own 𝓛 κ d)) (apart 𝓛 κ d) $ split ! $
        -- [what the slice owns; what the reader owns; …; the token]
        nothing ! $ owned ! usize (Is usize) (uint_Makes 𝓛 w64) d.place _ (refl, fits) $ fjoin ! $ move ! (1 ∷ 0 ∷ []) $ fjoin ! $
        move ! (3 ∷ 0 ∷ []) $ use2 𝓛 (raw ((Asked 𝓛).pre to)) (qed 𝓛 ((‵ (flft κ q) ⊛ ‵ ftrue) ∷ ‵ (owns (ShrSlice (named 0) κ u8 ∷ usize ∷ []) (d.script, (d.place, tt)) passed) ∷ []) ∵ join ! $ frame ! $ done !) $
        frame ! $ keep ! (0 ∷ []) $ done !

    pub said : (r : R.Denot) → ent 𝓤 (ensured 𝓛 asked (asks 𝓤) (κ, tt) (d.script, (d.place, tt)) tt r) (fact 𝓤 (Promised r))
    said r = ex_e 𝓤 _ (λ ws. snd∗ 𝓤 (sem 𝓛 (lasts asked (κ, tt) (d.script, (d.place, tt)) ws)) (fact 𝓤 (Promised r)))

    exits : (r : R.Denot) (u : Val) → Promised r → ent 𝓤 (⋆ 𝓛 (‵ (R.own_val r (u ∷ [])) ∷ (‵ (flft κ q) ⊛ ‵ ftrue) ∷ ‵ (Own 𝓛 κ d) ∷ [])) (Post u)
    exits r u e =
        qed 𝓛 (‵ (R.own_val r (u ∷ [])) ∷ (‵ (flft κ q) ⊛ ‵ ftrue) ∷ ‵ (Own 𝓛 κ d) ∷ []) ∵
        suffices ! _ (ends_at 𝓛 method stayed (answers 𝓤) (((κ, tt), (q, tt), tt, (d, tt), (mach ∷ [], tt)), tt) u r (tt, tt) (tt, tt)) $ says ! e $
        move ! (1 ∷ []) $ frame ! $ nothing ! $ move ! (2 ∷ 0 ∷ []) $ fjoin ! $ frame ! $ done !

    module _ (typed : (r : R.Denot) (u : Val) → Is R r (u ∷ []) → Holds (has_ty ρ u) × WT u) (g : Callee) (C : Calls 𝓤 H) (Λ : Loops 𝓤 H) (fm : FmC 𝓤 H 𝓛.laws C) (known : Triple 𝓤 (C g) (Asked 𝓛)) where
      walk : Holds (has_ty (T'.mir (named 0)) mach) × WT mach → ent 𝓤 (on_entry 𝓛 method.signature (κ, tt) (q, tt) (d, tt) (mach ∷ [], tt)) (WpFn 𝓤 H C Λ (asking g) (mach ∷ []) Post)
      walk wt =
          qed 𝓛 (raw (on_entry 𝓛 method.signature (κ, tt) (q, tt) (d, tt) (mach ∷ [], tt)) ∷ []) ∵ enter ! C Λ (asking g) (mach ∷ []) _ $
          alloc1 ! (λ l₀. alloc1 ! (λ l₁. alloc1 ! (λ l₂. alloc1 ! (λ l₃. alloc0 ! $ params1 ! $ pass1 ! (init ! 4 refl wt) $ pass0 ! $
          assigns ! (of_opd ! (load ! (from ! (fld ! refl (stop !))) (look_in ! 4 (sub ! 0 refl (whole !))))) (from ! (stop !)) (init ! 2 refl (tt, wt.1.0)) $
          assigns ! (of_opd ! (load ! (from ! (fld ! refl (stop !))) (look_in ! 4 (sub ! 1 refl (whole !))))) (from ! (stop !)) (init ! 0 refl (tt, wt.1.1.0)) $
          move ! (8 ∷ []) $ use1 𝓛 (raw ((Asked 𝓛).pre to) ⊛ ‵ (Own 𝓛 κ d)) (goes wt.1.1.0.fits) $ split ! $
          calls_at ! fm (Asked 𝓛) known to (and_then ! (load ! (from ! (stop !)) (look ! 4 refl)) (and_then ! (load ! (from ! (stop !)) (look ! 2 refl)) (no_more !))) (λ u.
          use1 𝓛 (later (some (λ (r : R.Denot). ((‵ (flft κ q) ⊛ ‵ ftrue) ⊛ ‵ (R.own_val r (u ∷ []))) ⊛ raw (ensured 𝓛 asked (asks 𝓤) (κ, tt) (d.script, (d.place, tt)) tt r)))) (id⊢ 𝓤 _) $ await ! tt $ pick ! (λ r.
          split ! $ move ! (1 ∷ []) $ use1 𝓛 (raw (fact 𝓤 (Promised r))) (said r) $ heard ! (Promised r) (λ e. split ! $ move ! (1 ∷ []) $
          -- [the answer; the token; what the reader owns; _3; …; _2; …; _1; …; room for _0; …]
          peeks ! R (Is R) (shows 𝓛 R) r (u ∷ []) (λ is. land ! (from ! (stop !)) (init ! 9 refl (typed r u is)) $
          returns ! (look ! 9 refl) $ forget ! 3 refl $ forget ! 5 refl $ forget ! 7 refl $ forget ! 9 refl $
          move ! (9 ∷ 10 ∷ []) $ free1 ! $ move ! (7 ∷ 8 ∷ []) $ free1 ! $ move ! (5 ∷ 6 ∷ []) $ free1 ! $ move ! (3 ∷ 4 ∷ []) $ free1 ! $ free0 ! $ by ! (exits r u e)))))))))

  pub method_meets : {M : Type 1} {𝓤 : Ura M} (𝓛 : Logic 𝓤) → ((r : R.Denot) (u : Val) → Is R r (u ∷ []) → Holds (has_ty ρ u) × WT u) → (g : Callee) (𝓣 : Tables 𝓤 𝓛.H)
      → Triple 𝓤 (𝓣.C g) (Asked 𝓛) → Meets 𝓛 method.signature (WpFn 𝓤 𝓛.H 𝓣.C 𝓣.Λ (asking g)) (closing 𝓛 method (answers 𝓤))
  method_meets {𝓤 = 𝓤} 𝓛 typed g 𝓣 known =
      walk_Meets 𝓛 method stayed (Goes-none 𝓛 1 B yes (λ κs x e. refl), tt) (answers 𝓤) (WpFn 𝓤 𝓛.H 𝓣.C 𝓣.Λ (asking g)) (WpFn-mono 𝓤 𝓛.H 𝓛.laws 𝓣 (asking g))
      (walked 𝓛 method stayed (answers 𝓤) (WpFn 𝓤 𝓛.H 𝓣.C 𝓣.Λ (asking g)) (λ κs. (LL.vals (D κs.0) (L κs.0), tt)) (λ κs. (LL.tells (D κs.0) (L κs.0), tt))
      (λ κs qs bounds a e are. via 𝓤 _ (fst∗ 𝓤 _ (emp 𝓤))
      (walk 𝓛 κs.0 qs.0 a.0 typed g 𝓣.C 𝓣.Λ (fm_of 𝓤 𝓛.H 𝓛.laws 𝓣) known ((LL.lawful (D κs.0) (L κs.0) 𝓛).typed a.0 _ are.0).0)))

-- A function of a slice and a place that opens a reader: what `open` is passed, what it asks, and what it is known to give.
module _ {M : Type 1} {𝓤 : Ura M} (𝓛 : Logic 𝓤) (mem : Memory → SProp 𝓤) (run : Routine → Fun 𝓤) where
  abbrev pub Open : Contract 𝓤
  Open = triple_of 𝓛 opens.signature (opens.spec 𝓛 mem run)

module _ {M : Type 1} {𝓤 : Ura M} (𝓛 : Logic 𝓤) (mem : Memory → SProp 𝓤) (run : Routine → Fun 𝓤) (κ : Lft) (q : Share) (s : Bor (List ℕ)) (n : ℕ) where
  open 𝓛 use {A}

  abbrev pub plainly : Vals opens.signature (κ, tt)
  plainly = (spelled s ∷ [], (vint w64 n ∷ [], tt))

  abbrev pub to_open : (Open 𝓛 mem run).Ghost
  to_open = (((κ, tt), (q, tt), tt, (s, (n, tt)), plainly), tt)

  abbrev pub Slice : Fml
  Slice = (ShrSlice (named 0) κ u8).own_val s (spelled s ∷ [])

  pub goes_open : ent 𝓤 (on_entry 𝓛 opens.signature (κ, tt) (q, tt) (s, (n, tt)) plainly) (sep 𝓤 ((Open 𝓛 mem run).pre to_open) (sem 𝓛 Slice))
  goes_open =
      qed 𝓛 ((‵ (flft κ q) ⊛ ‵ ftrue) ∷ ‵ (owns (ShrSlice (named 0) κ u8 ∷ usize ∷ []) (s, (n, tt)) plainly) ∷ []) ∵
      move ! (1 ∷ []) $ fsplit ! $ use1 𝓛 (‵ Slice ⊛ ‵ Slice) ((shr_slice_copy 𝓛 (named 0) κ u8 (uint_row_laws w8)).twice s (spelled s ∷ [])) $ split ! $ move ! (0 ∷ 2 ∷ []) $ fjoin ! $
      move ! (2 ∷ 0 ∷ []) $ use2 𝓛 (raw ((Open 𝓛 mem run).pre to_open)) (qed 𝓛 ((‵ (flft κ q) ⊛ ‵ ftrue) ∷ ‵ (owns (ShrSlice (named 0) κ u8 ∷ usize ∷ []) (s, (n, tt)) plainly) ∷ []) ∵ join ! $ frame ! $ done !) $
      frame ! $ done !

  pub said_open : (r : ScriptReader) → ent 𝓤 (ensured 𝓛 opens.ended (opens.clauses 𝓛 mem run) (κ, tt) (s, (n, tt)) tt r) (fact 𝓤 (r ≡ opened s n))
  said_open r = ex_e 𝓤 _ (λ ws. snd∗ 𝓤 (sem 𝓛 (lasts opens.ended (κ, tt) (s, (n, tt)) ws)) (fact 𝓤 (r ≡ opened s n)))

  -- what a method asks, of the reader with the machine value u
  pub goes_on : (r : ScriptReader) (u : Val) → ent 𝓤 (⋆ 𝓛 (‵ ((B (κ, tt)).own_val r (u ∷ [])) ∷ (‵ (flft κ q) ⊛ ‵ ftrue) ∷ [])) (sep 𝓤 (sep 𝓤 (sep 𝓤 (A.lft κ q) (emp 𝓤)) (sem 𝓛 (owns (B (κ, tt) ∷ []) (r, tt) (u ∷ [], tt)))) (emp 𝓤))
  goes_on r u = qed 𝓛 (‵ ((B (κ, tt)).own_val r (u ∷ [])) ∷ (‵ (flft κ q) ⊛ ‵ ftrue) ∷ []) ∵ nothing ! $ move ! (1 ∷ 0 ∷ []) $ fjoin ! $ move ! (1 ∷ 0 ∷ []) $ join ! $ frame ! $ done !
