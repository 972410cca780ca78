-- The next holder or fun of a row, and what is left when its record counts it once less.
use Rattle.std.specs.Prelude.{◌≡◌, ℕ, ◌+◌, ◌-◌, ◌/◌, ◌≤◌, Bool, true, List, [], ◌∷◌, ◌++◌, Option, Some, None, length, slice_set}
use Rattle.term_words.specs.Role.{IsSingle, Idle}
use Rattle.term_words.specs.Kept.{Keeps}
use Rattle.shared_rec.specs.Record.{count_in}
use Rattle.off_heap_list.specs.Links.{named, Links}
use Rattle.off_heap_list.specs.Swept.{freed_at}
use Rattle.object_rows.specs.declared.dropping.DroppedNext.{DroppedNext}
use Rattle.object_rows.specs.declared.dropping.LinkAt.{LinkAt}
use Rattle.object_rows.specs.Row.{AreObjects, is_link, links_in}

-- Whole objects lie from one place up to another, and the record of the first holder or fun among them, if there is one, lies
-- in the memory and counts an object.
pub record CanDrop (mem : List ℕ) (at to : ℕ) : Type 0 where
  pub ws : List ℕ
  pub are : AreObjects mem at ws to
  pub inside : to ≤ length mem
  pub first : (p : ℕ) (ps : List ℕ) → links_in mem ws ≡ p ∷ ps → (named mem p + 4 ≤ length mem) × (1 ≤ count_in mem (named mem p))

-- Of these objects those before it name no record, it is a holder or a fun, and behind it the others lie from `next` up to the end.
pub record IsNextLink (mem ws : List ℕ) (to object next : ℕ) : Type 0 where
  pub before : List ℕ
  pub pointer : ℕ
  pub later : List ℕ
  pub is : ws ≡ before ++ (pointer ∷ later)
  pub none : links_in mem before ≡ []
  pub link : is_link mem pointer ≡ true
  pub place : pointer / 4 ≡ object
  pub rest : AreObjects mem next later to
  pub six : object + 6 ≤ next
  pub ends : next ≤ to

-- The first holder or fun of the row is found, or none of its objects names a record.
abbrev pub FindsLink : (mem ws : List ℕ) (to : ℕ) → Option LinkAt → Type 0
FindsLink mem ws to None = links_in mem ws ≡ []
FindsLink mem ws to (Some found) = IsNextLink mem ws to found.object found.next

-- The next holder or fun was found, and its record counts it once less and is told where it counts no object any more; nothing
-- else was written. A chain beside which it stood stays one without it.
pub record DropsOne (old new ws : List ℕ) (to : ℕ) (told : DroppedNext) : Type 0 where
  pub found : IsNextLink old ws to told.object told.next
  pub are : links_in old ws ≡ told.object ∷ links_in old found.later
  pub writes : new ≡ slice_set old (named old told.object + 2) (count_in old (named old told.object) - 1)
  pub freed : told.freed ≡ freed_at (named old told.object) (count_in old (named old told.object) - 1)
  pub trees : (c : ℕ → ℕ → Bool) → Idle c (named old told.object + 2) → Keeps c c old new
  pub links : (c : ℕ → ℕ → Bool) (head : ℕ) (os further : List ℕ) → IsSingle c → Links c old head os (told.object ∷ further) → Links c new head os further

-- The next holder or fun of the row is counted once less, or there is none and nothing was written.
abbrev pub DropsNext : (old new ws : List ℕ) (to : ℕ) → Option DroppedNext → Type 0
DropsNext old new ws to None = (links_in old ws ≡ []) × (new ≡ old)
DropsNext old new ws to (Some told) = DropsOne old new ws to told
