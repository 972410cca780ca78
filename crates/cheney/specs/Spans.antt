-- Spans of places, in order of place.
use Rattle.std.specs.Prelude.{◌≡◌, ℕ, ◌+◌, ◌-◌, ◌≤◌, ◌<◌, Bool, true, false, ◌&&◌, ◌||◌, nat_le, nat_lt, List, [], ◌∷◌, length, slice_index_or}
use Rattle.word_mem.specs.declared.ranges.Span.{Span}

-- The place lies in the span.
abbrev pub in_span : Span → ℕ → Bool
in_span s q = nat_le s.start q && nat_lt q s.end

-- The place lies in one of the spans.
abbrev pub in_spans : List Span → ℕ → Bool
in_spans [] q = false
in_spans (s ∷ ss) q = in_span s q || in_spans ss q

-- The lengths of the spans together.
abbrev pub span_places : List Span → ℕ
span_places [] = 0
span_places (s ∷ ss) = (s.end - s.start) + span_places ss

-- No place lies in two of the spans.
abbrev pub AreDisjoint : List Span → Type 0
AreDisjoint [] = Unit {0}
AreDisjoint (s ∷ ss) = ((q : ℕ) → in_span s q ≡ true → in_spans ss q ≡ true → ⊥) × AreDisjoint ss

-- Where span i begins.
abbrev pub start_at : List Span → ℕ → ℕ
start_at ss i = (slice_index_or ss i (record { start = 0; end = 0 })).start

-- Where span i ends.
abbrev pub end_at : List Span → ℕ → ℕ
end_at ss i = (slice_index_or ss i (record { start = 0; end = 0 })).end

-- No span begins before the one before it, and none ends before it.
pub record IsOrdered (ss : List Span) : Type 0 where
  pub starts : (i j : ℕ) → i ≤ j → j < length ss → start_at ss i ≤ start_at ss j
  pub ends : (i j : ℕ) → i ≤ j → j < length ss → end_at ss i ≤ end_at ss j
