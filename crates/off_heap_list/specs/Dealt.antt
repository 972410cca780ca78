-- A chain that is dealt: its objects that lie in a span come behind the others.
use Rattle.std.specs.Prelude.{◌≡◌, ℕ, ◌+◌, ◌&&◌, nat_le, nat_lt, if◌then◌else◌, Bool, List, [], ◌∷◌, ◌++◌, length, slice_index}
use Rattle.word_mem.specs.declared.ranges.Span.{Span}
use Rattle.term_words.specs.Role.{IsSingle}
use Rattle.term_words.specs.Kept.{Keeps}
use Rattle.term_words.specs.Counted.{In, Distinct}
use Rattle.off_heap_list.specs.declared.deal.Dealt.{Dealt}
use Rattle.off_heap_list.specs.declared.deal.Deal.{Deal}
use Rattle.off_heap_list.specs.Links.{Chain, Links}
use Rattle.off_heap_list.specs.Turned.{Turning}
use Rattle.off_heap_list.specs.Whole.{turned, bin_words_of_all, OnlyNext}

-- The place lies in the span.
abbrev pub lies_within : Span → ℕ → Bool
lies_within s q = nat_le s.start q && nat_lt q s.end

-- Those of the places that lie in the span, in order.
abbrev pub inside_of : Span → List ℕ → List ℕ
inside_of s [] = []
inside_of s (p ∷ ps) = if lies_within s p then p ∷ inside_of s ps else inside_of s ps

-- Those that do not.
abbrev pub outside_of : Span → List ℕ → List ℕ
outside_of s [] = []
outside_of s (p ∷ ps) = if lies_within s p then outside_of s ps else p ∷ outside_of s ps

-- A chain, and the rest of one that it was the front part of, without a common object: counts are namings by both and by further
-- objects.
pub record FrontLinks (c : ℕ → ℕ → Bool) (mem : List ℕ) (head : ℕ) (os : List ℕ) (to : ℕ) (rest further : List ℕ) : Type 0 where
  pub links : Links c mem head os (rest ++ further)
  pub chain : Chain mem to rest
  pub once : Distinct rest
  pub apart : (p : ℕ) → In p os → In p rest → ⊥

-- A chain of so many objects and the rest behind it stand.
pub record CanDeal (mem : List ℕ) (head len to : ℕ) : Type 0 where
  pub test : ℕ → ℕ → Bool
  pub single : IsSingle test
  pub os : List ℕ
  pub rest : List ℕ
  pub further : List ℕ
  pub number : length os ≡ len
  pub links : FrontLinks test mem head os to rest further

-- One chain has those outside the span, in order, and then those within it and the rest; the number of the first ones and the words
-- of bytes that they hold are told, counts are as they were, and every tree stands.
pub record DealtWhole (c : ℕ → ℕ → Bool) (start mem : List ℕ) (os rest further : List ℕ) (span : Span) (result : Dealt) : Type 0 where
  pub links : Links c mem result.first (outside_of span os ++ turned (inside_of span os) rest) further
  pub young : result.young ≡ length (outside_of span os)
  pub words : result.words ≡ bin_words_of_all mem (outside_of span os)
  pub writes : OnlyNext c start mem
  pub others : (q : ℕ) → ((p : ℕ) → In p (outside_of span os ++ turned (inside_of span os) rest) → q ≡ p + 2 → ⊥) → slice_index mem q ≡ slice_index start q
  pub trees : Keeps c c start mem

-- In the middle of dealing: the objects that are left, a chain of those outside the span, and one of those within it before the rest.
pub record Dealing (c : ℕ → ℕ → Bool) (mem : List ℕ) (head : ℕ) (os : List ℕ) (young : ℕ) (ys : List ℕ) (aged : ℕ) (zs further : List ℕ) : Type 0 where
  pub outer : Turning c mem head os young ys (zs ++ further)
  pub inner : Turning c mem head os aged zs (ys ++ further)
  pub apart : (p : ℕ) → In p ys → In p zs → ⊥

-- All objects were seen: those outside the span are a chain of their own, turned round, and those within it come before the rest.
pub record DealtApart (c : ℕ → ℕ → Bool) (start mem : List ℕ) (os rest further : List ℕ) (span : Span) (deal : Deal) : Type 0 where
  pub turning : Turning c mem deal.young (turned (outside_of span os) []) deal.aged (turned (inside_of span os) rest) further
  pub count : deal.count ≡ length (turned (outside_of span os) [])
  pub words : deal.words ≡ bin_words_of_all mem (turned (outside_of span os) [])
  pub writes : OnlyNext c start mem
  pub others : (q : ℕ) → ((p : ℕ) → In p (turned (outside_of span os) []) → q ≡ p + 2 → ⊥)
      → ((p : ℕ) → In p (turned (inside_of span os) rest) → q ≡ p + 2 → ⊥) → slice_index mem q ≡ slice_index start q
  pub trees : Keeps c c start mem
