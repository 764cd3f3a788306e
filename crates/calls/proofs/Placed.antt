-- The walk's turn, asked about the bytes that are left, is the next line by its place in the script: a line is read the same there, its
-- end moved on by the place. So a call is its next line, as the code reads it, and then the call from there.
use Prim.Native.Nat.{ℕ, ◌+◌, ◌≤◌}
use mathlib.Core.Bool.{Bool, true, false, cond, ◌&&◌}
use mathlib.Core.List.{List, [], ◌++◌}
use mathlib.Core.Logic.{◌⊎◌, inl, inr, ⊎_elim}
use mathlib.Core.Path.{◌≡◌, refl, sym, ◌∙◌, ap}
use native.Mathlib.Nat.{add-zero}
use native.Mathlib.Omega.{arith}
use lib.Dec.{leb}
use lib.ListN.{length, take, drop, take-append-drop, length-drop}
use lib.Seq.{length-take-le}
use borrow.Author.Tests.{leb-true, leb-false, le-leb, lt-leb}
use Rattle.block.specs.Sound.{sound}
use Rattle.lines.specs.Reading.{read_step}
use Rattle.headers.specs.Header.{read_header}
use Rattle.lines.specs.StepLine.{StepLine, Line, Finished as Nothing, Malformed as NoStep, Unfinished as Cut}
use Rattle.headers.specs.HeaderLine.{HeaderLine, Header, BadHeader as NoHeader, Unfinished as CutHeader}
use Rattle.digits.specs.Room.{fits}
use Rattle.stops.specs.Run.{steps_most}
use Rattle.stops.specs.Due.{line_due}
use Rattle.stops.specs.Todo.{Stop as Halt}
use Rattle.stops.specs.declared.run.Run.{Run}
use Rattle.stops.specs.declared.run.Stop.{Stop}
use Rattle.stops.specs.declared.run.Stop.TheVariants.{Finished, NoRoom, TooMany}
use Rattle.walks.specs.Walk.{Reply, has_room, Desk, replied, if_room, turned, halted}
use Rattle.walks.specs.Pieces.{lent}
use Rattle.walks.proofs.Along.{turned_on, turned_stop}
use Rattle.calls.specs.Call.{Known, step_reply, header_reply, translation, desk_of, call}
use Rattle.calls.specs.Placed.{worked, opening, placed}
use Rattle.calls.proofs.Script.{step_on, header_on, read_on, header_on_lem}
use Rattle.calls.proofs.Asked.{asked_by, translation_steady}

-- A line at a place, and the same at the front of the bytes that are left

module _ (s : List ℕ) (at : ℕ) where
  -- a place past the end: nothing is left
  module _ (h : length s ≤ at) where
    past : leb (length s) at ≡ true
    past = le-leb (length s) at h

    none : leb (length (drop at s)) 0 ≡ true
    none = let l = length-drop at s in le-leb (length (drop at s)) 0 (omega arith)

    read_past : read_step s at ≡ step_on at (read_step (drop at s) 0)
    read_past = rw (past, none)

    header_past : read_header s at ≡ header_on at (read_header (drop at s) 0)
    header_past = rw (past, none)

  -- a place in the script
  module _ (h : at ≤ length s) where
    abbrev pre : List ℕ
    pre = take at s

    long : length pre ≡ at
    long = length-take-le at s h

    whole : pre ++ drop at s ≡ s
    whole = take-append-drop at s

    -- what holds with bytes put before those that are left, holds at the place
    at_place : {A : Type 0} (f : List ℕ → ℕ → A) (g : ℕ → A) → f (pre ++ drop at s) (length pre + 0) ≡ g (length pre) → f s at ≡ g at
    at_place f g e = sym (λ i. f (whole i) ((add-zero (length pre) ∙ long) i)) ∙ e ∙ ap g long

    read_in : read_step s at ≡ step_on at (read_step (drop at s) 0)
    read_in = at_place read_step (λ k. step_on k (read_step (drop at s) 0)) (read_on pre (drop at s) 0)

    header_in : read_header s at ≡ header_on at (read_header (drop at s) 0)
    header_in = at_place read_header (λ k. header_on k (read_header (drop at s) 0)) (header_on_lem pre (drop at s) 0)

  pub past_placed : leb (length s) at ≡ leb (length (drop at s)) 0
  past_placed = go (leb (length s) at) refl
    where
      go : (t : Bool) → leb (length s) at ≡ t → t ≡ leb (length (drop at s)) 0
      go true e = sym (none (leb-true (length s) at e))
      go false e = let h = leb-false (length s) at e in let l = length-drop at s in sym (lt-leb (length (drop at s)) 0 (omega arith))

  read_placed : read_step s at ≡ step_on at (read_step (drop at s) 0)
  read_placed = go (leb (length s) at) refl
    where
      go : (t : Bool) → leb (length s) at ≡ t → read_step s at ≡ step_on at (read_step (drop at s) 0)
      go true e = read_past (leb-true (length s) at e)
      go false e = let h = leb-false (length s) at e in read_in (omega arith)

  pub header_placed : read_header s at ≡ header_on at (read_header (drop at s) 0)
  header_placed = go (leb (length s) at) refl
    where
      go : (t : Bool) → leb (length s) at ≡ t → read_header s at ≡ header_on at (read_header (drop at s) 0)
      go true e = header_past (leb-true (length s) at e)
      go false e = let h = leb-false (length s) at e in header_in (omega arith)

-- The turn

module _ (r : Run) (out : List ℕ) where
  abbrev desk : Desk Known
  desk = desk_of r out

  -- by each test and each reading by itself
  abbrev placed_by : Bool → Bool → Bool → StepLine → Bool → HeaderLine → Desk Known ⊎ Stop
  placed_by headed past many line fit head =
      cond headed (worked r out (cond past (Halt Finished) (cond many (Halt TooMany) (line_due line fit)))) (opening r out head)

  -- the second output has room for nothing
  with_second : {A : Type 0} (b : Bool) (x y : A) → cond (b && true) x y ≡ cond b x y
  with_second true x y = refl
  with_second false x y = refl

  if_room_lem : (a : Reply Known) → a.also ≡ [] → if_room NoRoom desk a ≡ cond (fits out r.wrote a.said) (inl (replied desk a)) (inr NoRoom)
  if_room_lem a none = ap (λ (l : List ℕ). cond (fits out r.wrote a.said && has_room (lent []) l) (inl (replied desk a)) (inr NoRoom)) none ∙ with_second (fits out r.wrote a.said) _ _

  by_tests :
      (h p m : Bool) (l : StepLine) (fit : Bool) (head : HeaderLine) →
      ⊎_elim (if_room NoRoom desk) inr (asked_by desk.state h p m l fit head) ≡ placed_by h p m (step_on r.place l) fit (header_on r.place head)
  by_tests true true m l fit head = refl
  by_tests true false true l fit head = refl
  by_tests true false false (Line x used) true head = if_room_lem (step_reply desk.state x used) refl
  by_tests true false false (Line x used) false head = refl
  by_tests true false false Nothing fit head = refl
  by_tests true false false NoStep fit head = refl
  by_tests true false false Cut fit head = refl
  by_tests false p m l fit (Header c n used) = if_room_lem (header_reply desk.state c n used) refl
  by_tests false p m l fit NoHeader = refl
  by_tests false p m l fit CutHeader = refl

  pub turned_placed : (s : List ℕ) → turned translation desk s ≡ placed r out s
  turned_placed s =
      let at = r.place in
      by_tests r.headed (leb (length (drop at s)) 0) (leb steps_most r.steps) (read_step (drop at s) 0) (sound r.table) (read_header (drop at s) 0)
      ∙ sym
      (λ i.
      placed_by r.headed (past_placed s at i) (leb steps_most r.steps) (read_placed s at i) (sound r.table) (header_placed s at i))

  -- a call by its next line
  pub on : (q : Run) (s o : List ℕ) → placed r out s ≡ inl (desk_of q o) → call r s out ≡ call q s o
  on q s o e = turned_on translation translation_steady desk (desk_of q o) s (turned_placed s ∙ e)

  pub stop : (s : List ℕ) (why : Stop) → placed r out s ≡ inr why → call r s out ≡ halted desk why
  stop s why e = turned_stop translation translation_steady desk s why (turned_placed s ∙ e)
