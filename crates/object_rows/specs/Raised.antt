-- Rows whose holders and funs are counted once more by their records.
use Rattle.std.specs.Prelude.{◌≡◌, ℕ, ◌+◌, ◌^◌, ◌<◌, ◌≤◌, Bool, true, List, ◌++◌, length, slice_index}
use Rattle.term_words.specs.Role.{COUNT, IsSingle}
use Rattle.term_words.specs.Object.{IsRecord}
use Rattle.term_words.specs.Kept.{Kept, Keeps}
use Rattle.term_words.specs.Counted.{In, Distinct}
use Rattle.shared_rec.specs.Record.{count_in}
use Rattle.off_heap_list.specs.Links.{named, naming, IsLink, Links}
use Rattle.object_rows.specs.Row.{AreObjects, links_in}

-- Whole objects lie from one place up to another; their holders and funs stand by a test that gives no word of the row the
-- role of a count, and each record's count is below 2^23.
pub record CanRaise (mem : List ℕ) (from to : ℕ) : Type 0 where
  pub ws : List ℕ
  pub are : AreObjects mem from ws to
  pub inside : to ≤ length mem
  pub test : ℕ → ℕ → Bool
  pub each : (p : ℕ) → In p (links_in mem ws) → IsLink test mem p
  pub counts : (v n : ℕ) → IsRecord test mem v n → count_in mem v < 2 ^ 23
  pub clear : (q : ℕ) → from ≤ q → q < to → test q COUNT ≡ true → ⊥

-- Each record counts the holders and funs of a row that name it once more; nothing but these counts was written. So every
-- tree stands where they do, and a chain stays one, with these objects beside it.
pub record RaisesRow (old new : List ℕ) (ps : List ℕ) : Type 0 where
  pub same_len : length new ≡ length old
  pub once : Distinct ps
  pub counts : (v : ℕ) → count_in new v ≡ count_in old v + naming old v ps
  pub others : (q : ℕ) → ((p : ℕ) → In p ps → q ≡ named old p + 2 → ⊥) → slice_index new q ≡ slice_index old q
  pub kept : (c : ℕ → ℕ → Bool) → IsSingle c → ((p : ℕ) → In p ps → IsLink c old p) → Kept c c old new
  pub trees : (c : ℕ → ℕ → Bool) → IsSingle c → ((p : ℕ) → In p ps → IsLink c old p) → Keeps c c old new
  pub links : (c : ℕ → ℕ → Bool) (head : ℕ) (os further : List ℕ) → IsSingle c → ((p : ℕ) → In p ps → IsLink c old p)
      → Links c old head os further → Links c new head os (ps ++ further)
