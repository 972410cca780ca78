-- Whole objects side by side, the holders and funs among them, and what becomes of these when they are chained.
use Rattle.std.specs.Prelude.{◌≡◌, ℕ, ◌+◌, ◌/◌, ◌%◌, ◌≤◌, ◌==◌, ◌&&◌, ◌||◌, if◌then◌else◌, Bool, true, List, [], ◌∷◌, ◌++◌, length, slice_index}
use Rattle.term_tags.specs.declared.layouts.TheConstants.{FUN, HOLDER}
use Rattle.term_words.specs.Role.{NEXT, IsSingle}
use Rattle.term_words.specs.Object.{IsPointer}
use Rattle.term_words.specs.Kept.{Kept}
use Rattle.term_words.specs.Counted.{In, Distinct}
use Rattle.term_words.specs.Tiled.{Tiled}
use Rattle.off_heap_list.specs.Links.{IsLink, Links}
use Rattle.off_heap_list.specs.Whole.{turned, bin_words_of_all}
use Rattle.object_rows.specs.declared.chaining.Chained.{Chained}

-- These pointers name the objects from one place up to another, in order and without a gap.
pub record AreObjects (mem : List ℕ) (from : ℕ) (ws : List ℕ) (to : ℕ) : Type 0 where
  pub row : Tiled mem from ws to
  pub objects : (w : ℕ) → In w ws → IsPointer w

-- A header that is that of a holder or of a fun.
abbrev pub is_link_header : ℕ → Bool
is_link_header h = (h / 4 % 16 == HOLDER) || (h / 4 % 16 == FUN)

-- The pointer leads to a holder or a fun.
abbrev pub is_link : List ℕ → ℕ → Bool
is_link mem w = (w % 4 == 2) && is_link_header (slice_index mem (w / 4))

-- The places of the holders and funs among these objects, in order.
abbrev pub links_in : List ℕ → List ℕ → List ℕ
links_in mem [] = []
links_in mem (w ∷ ws) = if is_link mem w then w / 4 ∷ links_in mem ws else links_in mem ws

-- Some whole objects lie from one place of the memory up to another.
pub record IsRow (mem : List ℕ) (from to : ℕ) : Type 0 where
  pub ws : List ℕ
  pub are : AreObjects mem from ws to
  pub inside : to ≤ length mem

-- The holders and funs of a row were put before a chain, each before those that had come before it; their words `next`
-- alone were written, and they are counted in the answer. Where they stand, so are the words of bytes that they have.
pub record ChainsRow (old new : List ℕ) (ps : List ℕ) (head : ℕ) (result : Chained) : Type 0 where
  pub same_len : length new ≡ length old
  pub once : Distinct ps
  pub count : result.count ≡ length ps
  pub words : (c : ℕ → ℕ → Bool) → ((p : ℕ) → In p ps → IsLink c old p) → result.words ≡ bin_words_of_all old ps
  pub others : (q : ℕ) → ((p : ℕ) → In p ps → q ≡ p + 2 → ⊥) → slice_index new q ≡ slice_index old q
  pub kept : (c : ℕ → ℕ → Bool) → IsSingle c → ((p : ℕ) → In p ps → c (p + 2) NEXT ≡ true) → Kept c c old new
  pub links : (c : ℕ → ℕ → Bool) (os further : List ℕ) → IsSingle c → Links c old head os (ps ++ further)
      → ((p : ℕ) → In p os → In p ps → ⊥) → Links c new result.head (turned ps os) further
