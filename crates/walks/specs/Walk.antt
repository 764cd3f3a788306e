-- A walk over the lines of a script, for any turn: the turn is asked about the bytes that are left, answers their first line or stops the
-- walk, and what it says is written whole in two outputs, or the walk stops for want of room. A walk with one output says nothing in the other.
use Rattle.std.specs.Prelude.{ℕ, zero, suc, ◌+◌, ◌-◌, ◌≤◌, ◌<◌, Bool, cond, ◌&&◌, List, ◌++◌, ◌⊎◌, ◌≢◌, ◌≡◌, length, drop}
use Rattle.std.proofs.Common.{inl, inr, ⊎_elim}
use Rattle.digits.specs.Text.{pasted}
use Rattle.digits.specs.Room.{fits}

-- what a turn answers: how many bytes the line has, what is said of it in each output, and what is known from then on
pub record Reply (Q : Type 0) : Type 0 where
  pub used : ℕ
  pub said : List ℕ
  pub also : List ℕ
  pub then : Q

-- a turn: its answer by what is known and the bytes that are left, or why it stops the walk; and the reason that means want of room
pub record Turn (Q W : Type 0) : Type 0 where
  pub ask : Q → List ℕ → Reply Q ⊎ W
  pub full : W

-- what the laws ask of a turn
pub record Steady {Q W : Type 0} (T : Turn Q W) : Type 0 where
  -- it moves on, and not past the bytes that there are
  pub moves : (q : Q) (s : List ℕ) (a : Reply Q) → T.ask q s ≡ inl a → (0 < a.used) × (a.used ≤ length s)
  -- it looks no further than its line
  pub ahead : (q : Q) (s more : List ℕ) (a : Reply Q) → T.ask q s ≡ inl a → T.ask q (s ++ more) ≡ inl a
  -- it does not stop for want of room by itself
  pub other : (q : Q) (s : List ℕ) (why : W) → T.ask q s ≡ inr why → why ≢ T.full

-- an output: its bytes, and the place of the next line
pub record Output : Type 0 where
  pub bytes : List ℕ
  pub wrote : ℕ

abbrev pub has_room : Output → List ℕ → Bool
has_room o xs = fits o.bytes o.wrote xs

abbrev pub put : Output → List ℕ → Output
put o xs = record { bytes = pasted o.bytes o.wrote xs; wrote = o.wrote + length xs }

-- what a walk works on: what is known, the place in the script, and the outputs
pub record Desk (Q : Type 0) : Type 0 where
  pub state : Q
  pub place : ℕ
  pub first : Output
  pub second : Output

abbrev pub replied : {Q : Type 0} → Desk Q → Reply Q → Desk Q
replied d a = record { state = a.then; place = d.place + a.used; first = put d.first a.said; second = put d.second a.also }

-- the next line: the desk after it, or why the walk stops there
abbrev pub if_room : {Q W : Type 0} → W → Desk Q → Reply Q → Desk Q ⊎ W
if_room full d a = cond (has_room d.first a.said && has_room d.second a.also) (inl (replied d a)) (inr full)

abbrev pub turned : {Q W : Type 0} → Turn Q W → Desk Q → List ℕ → Desk Q ⊎ W
turned T d s = ⊎_elim (if_room T.full d) inr (T.ask d.state (drop d.place s))

-- what a walk leaves: the desk as it stands at the line that stopped it
pub record Ended (Q W : Type 0) : Type 0 where
  pub desk : Desk Q
  pub why : W

abbrev pub halted : {Q W : Type 0} → Desk Q → W → Ended Q W
halted d why = record { desk = d; why = why }

-- lines until one stops the walk, at most f of them
unfoldable pub lines : {Q W : Type 0} → Turn Q W → ℕ → Desk Q → List ℕ → Ended Q W
lines T zero d s = halted d T.full
lines T (suc f) d s = ⊎_elim (λ (next : Desk _). lines T f next s) (halted d) (turned T d s)

-- the walk: a line has at least one byte, so there are no more than bytes left
abbrev pub walked : {Q W : Type 0} → Turn Q W → Desk Q → List ℕ → Ended Q W
walked T d s = lines T (suc (length s - d.place)) d s
