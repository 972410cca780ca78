-- What a collection's calls are given beside the memory.
use Rattle.std.specs.Prelude.{◌≡◌, ℕ, ◌+◌, Bool, true, false, List}
use Rattle.cheney.specs.declared.moving.Moving.{Moving}
use Rattle.cheney.specs.Spans.{in_span}
use Rattle.cheney.specs.Ranges.{stays}
use Rattle.cheney.specs.Plan.{Plan, Ready}
use Rattle.cheney.specs.Zones.{Marks, Invariant}

-- The first free place of each room.
abbrev pub top_of : Moving → Bool → ℕ
top_of mv true = mv.aged.top
top_of mv false = mv.young.top

-- The rooms, the places that stay and those that go to the aged room are those of the plan, and nothing stays in the from-space.
pub record RoomsAgree (p : Plan) (mv : Moving) : Type 0 where
  pub stay : (q : ℕ) → stays mv.stay q ≡ p.stay q
  pub moves : (q : ℕ) → in_span mv.from_space q ≡ true → p.stay q ≡ false
  pub mature : (q : ℕ) → in_span mv.mature q ≡ p.mature q
  pub aged_low : mv.aged.start ≡ p.low true
  pub aged_high : mv.aged.end ≡ p.high true
  pub young_low : mv.young.start ≡ p.low false
  pub young_high : mv.young.end ≡ p.high false

-- Nothing that lies in the from-space stays.
abbrev pub FromMoves : Moving → Type 0
FromMoves mv = (q : ℕ) → in_span mv.from_space q ≡ true → stays mv.stay q ≡ false

-- A collection by this plan has come to these marks.
pub record Runs (p : Plan) (mem : List ℕ) (mv : Moving) (k : Marks) : Type 0 where
  pub ready : Ready p
  pub agrees : RoomsAgree p mv
  pub holds : Invariant p mem (top_of mv) k

-- One room has n words more in use; all else is as before.
pub record RoomGrows (old new : Moving) (room : Bool) (n : ℕ) : Type 0 where
  pub stay : new.stay ≡ old.stay
  pub from_space : new.from_space ≡ old.from_space
  pub mature : new.mature ≡ old.mature
  pub aged_low : new.aged.start ≡ old.aged.start
  pub aged_high : new.aged.end ≡ old.aged.end
  pub young_low : new.young.start ≡ old.young.start
  pub young_high : new.young.end ≡ old.young.end
  pub here : top_of new room ≡ top_of old room + n
  pub there : (b : Bool) → (b ≡ room → ⊥) → top_of new b ≡ top_of old b
