-- A chain in the middle of being turned round.
use Rattle.std.specs.Prelude.{◌≡◌, ℕ, ◌+◌, Bool, List}
use Rattle.term_words.specs.Object.{IsRecord}
use Rattle.term_words.specs.Counted.{In, Distinct}
use Rattle.shared_rec.specs.Record.{count_in}
use Rattle.off_heap_list.specs.Links.{Chain, naming, IsLink}

-- Two chains without a common object: the rest of the old one, and the new one. Each record's count is the number of objects
-- of both, and of further ones, that name it.
pub record Turning (c : ℕ → ℕ → Bool) (mem : List ℕ) (head : ℕ) (os : List ℕ) (first : ℕ) (kept further : List ℕ) : Type 0 where
  pub rest : Chain mem head os
  pub once_left : Distinct os
  pub left : (p : ℕ) → In p os → IsLink c mem p
  pub chain : Chain mem first kept
  pub once : Distinct kept
  pub each : (p : ℕ) → In p kept → IsLink c mem p
  pub apart : (p : ℕ) → In p os → In p kept → ⊥
  pub beside : (p : ℕ) → In p further → IsLink c mem p
  pub counts : (v n : ℕ) → IsRecord c mem v n → count_in mem v ≡ naming mem v os + naming mem v kept + naming mem v further
