-- A whole chain that is swept, or turned round.
use Rattle.std.specs.Prelude.{◌≡◌, ℕ, ◌+◌, ◌<◌, if◌then◌else◌, Bool, true, List, [], ◌∷◌, Option, Some, None, length, slice_index}
use Rattle.term_words.specs.Role.{NEXT, IsSingle}
use Rattle.term_words.specs.Object.{IsRecord}
use Rattle.term_words.specs.Kept.{Kept, Keeps}
use Rattle.term_words.specs.Counted.{In, Distinct}
use Rattle.shared_rec.specs.Record.{count_in}
use Rattle.off_heap_list.specs.declared.whole.Order.{Order}
use Rattle.off_heap_list.specs.declared.whole.Order.TheVariants.{Same, Turned}
use Rattle.off_heap_list.specs.declared.whole.Survivors.{Survivors}
use Rattle.off_heap_list.specs.declared.whole.FrontLeft.{FrontLeft}
use Rattle.off_heap_list.specs.Links.{named, Chain, Links}
use Rattle.off_heap_list.specs.Turned.{Turning}
use Rattle.off_heap_list.specs.Swept.{is_moved, new_place, bin_words_at, named_records, Relinked, IsLast, FrontSweeping, Sweeping}

-- The new places of those of the objects that were moved, in order.
abbrev pub moved_of : List ℕ → List ℕ → List ℕ
moved_of mem [] = []
moved_of mem (p ∷ os) = if is_moved mem p then new_place mem p ∷ moved_of mem os else moved_of mem os

-- The first list turned round, and then the second.
abbrev pub turned : List ℕ → List ℕ → List ℕ
turned [] ys = ys
turned (x ∷ xs) ys = turned xs (x ∷ ys)

-- The list as it is, or turned round.
abbrev pub ordered : Order → List ℕ → List ℕ
ordered Same xs = xs
ordered Turned xs = turned xs []

-- The words of bytes that the objects hold, together.
abbrev pub bin_words_of_all : List ℕ → List ℕ → ℕ
bin_words_of_all mem [] = 0
bin_words_of_all mem (p ∷ os) = bin_words_at mem p + bin_words_of_all mem os

-- 1 where there is one, else 0.
abbrev pub one_of : Option ℕ → ℕ
one_of None = 0
one_of (Some x) = 1

-- These objects follow one another by their words `next`, and were the last to name their records: exactly the records that
-- some object named at the beginning and none names any more, each once.
pub record EndRecords (c : ℕ → ℕ → Bool) (start mem : List ℕ) (last : ℕ) (ends : List ℕ) : Type 0 where
  pub chain : Chain mem last ends
  pub each : (p : ℕ) → In p ends → IsLast c mem p
  pub once : Distinct (named_records mem ends)
  pub only : (p : ℕ) → In p ends → 0 < count_in start (named mem p)
  pub all : (v n : ℕ) → IsRecord c mem v n → count_in mem v ≡ 0 → 0 < count_in start v → In v (named_records mem ends)

-- A whole chain was swept: the new chain has exactly these objects, and counts are namings by them and by further ones; their
-- number and their words of bytes are told, and so are the records that are freed; no other word `next` was written, and every tree
-- stands.
pub record SweptWhole (c : ℕ → ℕ → Bool) (start mem : List ℕ) (os kept further : List ℕ) (left : Survivors) : Type 0 where
  pub links : Links c mem left.first kept further
  pub len : left.len ≡ length kept
  pub words : left.words ≡ bin_words_of_all mem kept
  pub ends : List ℕ
  pub records : EndRecords c start mem left.last ends
  pub freed : left.freed ≡ length ends
  pub writes : Relinked c os start mem
  pub nexts : (q : ℕ) → c q NEXT ≡ true → ((p : ℕ) → In p kept → q ≡ p + 2 → ⊥) → slice_index mem q ≡ slice_index start q
  pub content : Kept c c start mem
  pub back : Kept c c mem start
  pub trees : Keeps c c start mem

-- The front part of a chain, up to a place, was swept: what was moved is a chain of its own, and the place where the rest begins is
-- told.
pub record SweptFront (c : ℕ → ℕ → Bool) (start mem : List ℕ) (os kept further : List ℕ) (to : ℕ) (result : FrontLeft) : Type 0 where
  pub whole : SweptWhole c start mem os kept further result.left
  pub rest : result.rest ≡ to

-- The first objects of a chain, so many, stand before a sweep.
pub record CanSweepFront (mem : List ℕ) (head len : ℕ) : Type 0 where
  pub test : ℕ → ℕ → Bool
  pub single : IsSingle test
  pub os : List ℕ
  pub to : ℕ
  pub further : List ℕ
  pub number : length os ≡ len
  pub begins : FrontSweeping test mem head os to 0 [] 0 [] further

-- A chain of so many objects stands before a sweep.
pub record CanSweep (mem : List ℕ) (head len : ℕ) : Type 0 where
  pub test : ℕ → ℕ → Bool
  pub single : IsSingle test
  pub os : List ℕ
  pub further : List ℕ
  pub number : length os ≡ len
  pub begins : Sweeping test mem head os 0 [] 0 [] further

-- No words were written but words `next`.
pub record OnlyNext (c : ℕ → ℕ → Bool) (old new : List ℕ) : Type 0 where
  pub same_len : length new ≡ length old
  pub same : (q : ℕ) → (c q NEXT ≡ true → ⊥) → slice_index new q ≡ slice_index old q

-- A chain was put before another one, turned round.
pub record TurnedOnto (c : ℕ → ℕ → Bool) (start mem : List ℕ) (first : ℕ) (os kept further : List ℕ) : Type 0 where
  pub links : Links c mem first (turned os kept) further
  pub writes : OnlyNext c start mem
  pub others : (q : ℕ) → ((p : ℕ) → In p (turned os kept) → q ≡ p + 2 → ⊥) → slice_index mem q ≡ slice_index start q
  pub trees : Keeps c c start mem

-- A chain of so many objects stands beside the one that it is put before.
pub record CanTurnOnto (mem : List ℕ) (head len first : ℕ) : Type 0 where
  pub test : ℕ → ℕ → Bool
  pub single : IsSingle test
  pub os : List ℕ
  pub kept : List ℕ
  pub further : List ℕ
  pub number : length os ≡ len
  pub turning : Turning test mem head os first kept further

-- A whole chain was turned round.
pub record TurnedWhole (c : ℕ → ℕ → Bool) (start mem : List ℕ) (first : ℕ) (os further : List ℕ) : Type 0 where
  pub links : Links c mem first (turned os []) further
  pub writes : OnlyNext c start mem
  pub others : (q : ℕ) → ((p : ℕ) → In p (turned os []) → q ≡ p + 2 → ⊥) → slice_index mem q ≡ slice_index start q
  pub trees : Keeps c c start mem

-- A chain of so many objects stands.
pub record CanTurn (mem : List ℕ) (head len : ℕ) : Type 0 where
  pub test : ℕ → ℕ → Bool
  pub single : IsSingle test
  pub os : List ℕ
  pub further : List ℕ
  pub number : length os ≡ len
  pub links : Links test mem head os further
