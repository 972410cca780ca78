-- A chain after a collection: its objects were moved or left behind.
use Rattle.std.specs.Prelude.{◌≡◌, ℕ, ◌+◌, ◌-◌, ◌/◌, ◌%◌, ◌<◌, ◌≤◌, ◌⊎◌, ◌==◌, if◌then◌else◌, Bool, true, false, List, [], ◌∷◌, Option, Some, None, length, slice_index, slice_set}
use Rattle.plain_term.specs.Measures.{bin_words}
use Rattle.term_tags.specs.Words.{head_word}
use Rattle.term_tags.specs.declared.layouts.TheConstants.{HOLDER}
use Rattle.term_words.specs.Role.{NEXT, COUNT}
use Rattle.term_words.specs.Object.{IsRecord}
use Rattle.term_words.specs.Kept.{Kept}
use Rattle.term_words.specs.Counted.{In, Distinct}
use Rattle.shared_rec.specs.Record.{count_in}
use Rattle.off_heap_list.specs.Links.{name_place, named, Leads, Chain, naming, IsLink}

-- The object was moved: its first word is a boxed pointer to its new place.
abbrev pub is_moved : List ℕ → ℕ → Bool
is_moved mem p = slice_index mem p % 4 == 2

-- The new place of an object that was moved.
abbrev pub new_place : List ℕ → ℕ → ℕ
new_place mem p = slice_index mem p / 4

-- The words of the bytes that a holder has, 0 for a fun.
abbrev pub bin_words_at : List ℕ → ℕ → ℕ
bin_words_at mem p = if slice_index mem p == head_word HOLDER 5 then bin_words (slice_index mem (p + 1)) else 0

-- The count of its record when the object names it no more.
abbrev pub count_less : List ℕ → (p : ℕ) → ℕ
count_less mem p = count_in mem (named mem p) - 1

-- The record itself where its count has come down to 0.
abbrev pub freed_at : (v count : ℕ) → Option ℕ
freed_at v count = if count == 0 then Some v else None

-- Where an object of the old chain lies now: at its new place, or where it was left behind.
abbrev pub lies_at : List ℕ → ℕ → ℕ
lies_at mem p = if is_moved mem p then new_place mem p else p

-- Where the objects lie now, in order.
abbrev pub lying : List ℕ → List ℕ → List ℕ
lying mem [] = []
lying mem (p ∷ os) = lies_at mem p ∷ lying mem os

-- The records that the objects name, in order.
abbrev pub named_records : List ℕ → List ℕ → List ℕ
named_records mem [] = []
named_records mem (p ∷ os) = named mem p ∷ named_records mem os

-- The words by which an object of a chain is read: its first word, its word `next`, and the one that names its record.
abbrev pub IsReadAt : List ℕ → (p q : ℕ) → Type 0
IsReadAt mem p q = (q ≡ p) ⊎ ((q ≡ p + 2) ⊎ (q ≡ name_place mem p))

-- No words were written but words `next` and counts, and the words `next` that some old objects had.
pub record Relinked (c : ℕ → ℕ → Bool) (os : List ℕ) (old new : List ℕ) : Type 0 where
  pub same_len : length new ≡ length old
  pub same : (q : ℕ) → (c q NEXT ≡ true → ⊥) → (c q COUNT ≡ true → ⊥) → ((p : ℕ) → In p os → q ≡ p + 2 → ⊥) → slice_index new q ≡ slice_index old q

-- An object of the old chain: none of the words by which it is read has a role any more; it was moved and can be
-- chained at its new place, or it was left behind and the record that it named stands.
pub record IsOld (c : ℕ → ℕ → Bool) (mem : List ℕ) (p : ℕ) : Type 0 where
  pub somewhere : 0 < p
  pub within : p + 6 ≤ length mem
  pub none : (q k : ℕ) → IsReadAt mem p q → c q k ≡ true → ⊥
  pub moved : is_moved mem p ≡ true → IsLink c mem (new_place mem p)
  pub words : ℕ
  pub left : is_moved mem p ≡ false → IsRecord c mem (named mem p) words

-- An old object that was left behind and was the last to name its record.
pub record IsLast (c : ℕ → ℕ → Bool) (mem : List ℕ) (p : ℕ) : Type 0 where
  pub old : IsOld c mem p
  pub left : is_moved mem p ≡ false
  pub freed : count_in mem (named mem p) ≡ 0

-- In the middle of a sweep of a chain up to a place: its objects that are left to see, the new chain of those that were moved,
-- and a chain of those that were the last to name their records. No object comes twice, and none is read by another's word `next`;
-- each record's count is the number of objects of the first two, and of further ones, that name it.
pub record FrontSweeping (c : ℕ → ℕ → Bool) (mem : List ℕ) (head : ℕ) (os : List ℕ) (to first : ℕ) (kept : List ℕ) (last : ℕ)
    (ends further : List ℕ) : Type 0 where
  pub rest : Leads mem head os to
  pub old : (p : ℕ) → In p os → IsOld c mem p
  pub chain : Chain mem first kept
  pub once : Distinct kept
  pub fresh : (p : ℕ) → In p os → is_moved mem p ≡ true → In (new_place mem p) kept → ⊥
  pub apart : Distinct (lying mem os)
  pub alone : (p q : ℕ) → In p os → In q os ⊎ In q ends → (q ≡ p → ⊥) → IsReadAt mem q (p + 2) → ⊥
  pub each : (p : ℕ) → In p kept → IsLink c mem p
  pub beside : (p : ℕ) → In p further → IsLink c mem p
  pub counts : (v n : ℕ) → IsRecord c mem v n → count_in mem v ≡ naming mem v (lying mem os) + naming mem v kept + naming mem v further
  pub gone : Chain mem last ends
  pub freed : (p : ℕ) → In p ends → IsLast c mem p
  pub freed_once : Distinct (named_records mem ends)

-- The same of a chain to its end.
abbrev pub Sweeping : (ℕ → ℕ → Bool) → List ℕ → (head : ℕ) → (os : List ℕ) → (first : ℕ) → (kept : List ℕ) → (last : ℕ) → (ends further : List ℕ) → Type 0
Sweeping c mem head os first kept last ends further = FrontSweeping c mem head os 0 first kept last ends further

-- What a sweep has done since it began: content and the old objects that are left are as they were, no count is greater, and
-- the records of its last namers are those that were counted at its beginning and are not any more.
pub record Since (c : ℕ → ℕ → Bool) (start mem : List ℕ) (os ends : List ℕ) : Type 0 where
  pub content : Kept c c start mem
  pub back : Kept c c mem start
  pub same : (p q : ℕ) → In p os → IsReadAt start p q → slice_index mem q ≡ slice_index start q
  pub fewer : (v n : ℕ) → IsRecord c mem v n → count_in mem v ≤ count_in start v
  pub only : (p : ℕ) → In p ends → 0 < count_in start (named mem p)
  pub all : (v n : ℕ) → IsRecord c mem v n → count_in mem v ≡ 0 → 0 < count_in start v → In v (named_records mem ends)

-- The new chain's objects after one more of the old chain was seen.
abbrev pub kept_after : List ℕ → (p : ℕ) → (kept : List ℕ) → List ℕ
kept_after mem p kept = if is_moved mem p then new_place mem p ∷ kept else kept

-- The object was left behind, and is the last to name its record.
abbrev pub ends_record : List ℕ → (p : ℕ) → Bool
ends_record mem p = if is_moved mem p then false else count_less mem p == 0

-- The last namers after one more object of the old chain was seen.
abbrev pub ends_after : List ℕ → (p : ℕ) → (ends : List ℕ) → List ℕ
ends_after mem p ends = if ends_record mem p then p ∷ ends else ends

-- The words when an object was left behind: its record does not count it any more, and where it was the last to name the
-- record it leads to the last namer before it.
abbrev pub left_behind : List ℕ → (p last : ℕ) → List ℕ
left_behind mem p last = if count_less mem p == 0 then slice_set (slice_set mem (named mem p + 2) (count_less mem p)) (p + 2) last
    else slice_set mem (named mem p + 2) (count_less mem p)
