-- The map from old places to new ones, read off the forwarding words.
use Rattle.std.specs.Prelude.{◌≡◌, ℕ, ◌+◌, ◌*◌, ◌/◌, ◌%◌, ◌<◌, ◌≤◌, ◌⊎◌, ◌==◌, if◌then◌else◌, Bool, true, List, length, slice_index}
use Rattle.cheney.specs.Plan.{Plan, Leaves}

-- The object shows that it was moved: a cons has 0 for its head, any other object a boxed word for its header.
unfoldable pub moved : List ℕ → ℕ → Bool
moved m w = if w % 4 == 1 then slice_index m (w / 4) == 0 else slice_index m (w / 4) % 4 == 2

-- The word of the new place: a cons has it in its tail, any other object in its first word.
unfoldable pub forward : List ℕ → ℕ → ℕ
forward m w = if w % 4 == 1 then slice_index m (w / 4 + 1) else slice_index m (w / 4)

-- The word x is what the word w has become.
pub record IsImage (p : Plan) (m : List ℕ) (w x : ℕ) : Type 0 where
  pub kept : (Leaves p w → ⊥) → x ≡ w
  pub gone : Leaves p w → (moved m w ≡ true) × (x ≡ forward m w)

-- The place is a word of a moved object that shows where the object went.
abbrev pub Shows : ℕ → ℕ → Type 0
Shows w q = (q ≡ w / 4) ⊎ ((w % 4 ≡ 1) × (q ≡ w / 4 + 1))

-- The object of n words was copied to a place, whose word is x; it shows that; all else is as before.
pub record Copies (old new : List ℕ) (w place n x : ℕ) : Type 0 where
  pub same_len : length new ≡ length old
  pub word : x ≡ place * 4 + w % 4
  pub copied : (j q : ℕ) → j < n → q ≡ place + j → slice_index new q ≡ slice_index old (w / 4 + j)
  pub shown : moved new w ≡ true
  pub found : forward new w ≡ x
  pub rest : (q : ℕ) → (q < place) ⊎ (place + n ≤ q) → (Shows w q → ⊥) → slice_index new q ≡ slice_index old q
