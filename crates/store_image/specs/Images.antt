-- Worked images: where each pointer may lead, and images that stand for no state.
use Rattle.std.proofs.Common.{◌≡◌, ℕ, true, false, List, [], ◌∷◌, ◌++◌, length, map, take, drop, replicate, refl, sym, ◌∙◌, ap, subst, inl, inr}
use Prim.Native.Nat.{zero-le, suc-le-suc}
use Rattle.std.proofs.lemmas.Bool.{false≢true}
use Rattle.plain_machine.specs.State.{State}
use Rattle.term_words.specs.Object.{IsPointer}
use Rattle.term_words.specs.Reach.{root}
use Rattle.term_words.specs.Counted.{Distinct}
use Rattle.store_image.specs.Image.{Image, ImageStands, IsAmong, RegionKind, LeadInto, MessagesLead, Region, Rooted, all_pieces, area_of, piece_places}
use Rattle.store_image.specs.Image.{areas_in, heaps_of, in_blocks, in_half, half, young, message, fragment, area, lies_whole, messages_of, region_pieces}

-- A memory of two heaps, a message, a fragment and an area, each behind the words that say what it is. The place of a block's first
-- object is 2, 10, 18, 24 and 29; a list pointer is four times a place and 1, a boxed pointer four times a place and 2.
abbrev pub block_words : List ℕ
block_words =
    129 ∷ 1 ∷ 118 ∷ 59 ∷ 0 ∷ 0 ∷ 0 ∷ 9
    ∷ 97 ∷ 2 ∷ 31 ∷ 59 ∷ 0 ∷ 0
    ∷ 99 ∷ 2 ∷ 0 ∷ 73 ∷ 47 ∷ 59
    ∷ 100 ∷ 1 ∷ 0 ∷ 97 ∷ 118 ∷ 59
    ∷ 101 ∷ 0 ∷ 118 ∷ 128 ∷ 31 ∷ 47 ∷ []

-- So many of its words from a place on, as a region.
abbrev pub block_region : RegionKind → (owner place count : ℕ) → Region
block_region k owner place count = record { kind = k; owner = owner; piece = record { place = place; words = take count (drop place block_words) } }

-- The heap of process 1 has a list whose head is a literal, that of process 2 the list of 1; the message that waits for process 2 is the
-- list of 2, the fragment of process 1 has a list whose head is the literal too, and the area has the tuple of 1 and 2.
abbrev pub block_regions : List Region
block_regions =
    block_region young 1 2 2 ∷ block_region young 2 10 2 ∷ block_region message 2 18 2 ∷ block_region fragment 1 24 2 ∷ block_region area 0 29 3 ∷ []

-- Process 1 holds the fragment's list in register 0 and its heap's list on the stack; process 2 holds its list in register 0.
abbrev pub first_process : Rooted
first_process = record { number = 1; refs = 0; chain = 0; registers = 97 ∷ replicate 15 59; stack = 9 ∷ []; queue = [] }

abbrev pub second_process : Rooted
second_process = record { number = 2; refs = 0; chain = 0; registers = 41 ∷ replicate 15 59; stack = []; queue = 73 ∷ [] }

abbrev pub blocks : Image
blocks = record {
  layout = in_blocks;
  words = 32;
  serials = 0;
  next = 3;
  swept = true;
  regions = block_regions;
  bins = [];
  funs = [];
  processes = first_process ∷ second_process ∷ [];
  areas = record { name = 0; words = 118 ∷ [] } ∷ [];
}

-- Its words are those of the memory.
pub blocks-told : map (λ r. take (length r.words) (drop r.place block_words)) (all_pieces blocks) ≡ map (λ r. r.words) (all_pieces blocks)
blocks-told = refl

-- Which of the lists and of the literal lie whole in a process's own regions and areas, in the message, in the area.
pub whole-in_first : map (lies_whole block_words (heaps_of 1 block_regions ++ areas_in block_regions)) (9 ∷ 97 ∷ 118 ∷ 41 ∷ 73 ∷ [])
    ≡ true ∷ true ∷ true ∷ false ∷ false ∷ []
whole-in_first = refl

pub whole-in_second : map (lies_whole block_words (heaps_of 2 block_regions ++ areas_in block_regions)) (9 ∷ 97 ∷ 118 ∷ 41 ∷ 73 ∷ [])
    ≡ false ∷ false ∷ true ∷ true ∷ false ∷ []
whole-in_second = refl

pub whole-in_message : map (lies_whole block_words (messages_of 2 block_regions)) (9 ∷ 97 ∷ 118 ∷ 41 ∷ 73 ∷ []) ≡ false ∷ false ∷ false ∷ false ∷ true ∷ []
whole-in_message = refl

pub whole-in_area : map (lies_whole block_words (area_of 0 block_regions)) (9 ∷ 97 ∷ 118 ∷ 41 ∷ 73 ∷ []) ≡ false ∷ false ∷ true ∷ false ∷ false ∷ []
whole-in_area = refl

-- The first of the roots leads where they all do.
first-leads : (mem : List ℕ) (w : ℕ) (roots : List ℕ) (rs : List Region) → LeadInto mem (w ∷ roots) rs → IsPointer w → lies_whole mem rs w ≡ true
first-leads mem w roots rs leads p = leads w (root 0 w (suc-le-suc zero-le) refl) p

-- Process 2 has the list of process 1 in its register: this image stands for no state.
abbrev pub blocks_astray : Image
blocks_astray = record blocks { processes = first_process ∷ record second_process { registers = 9 ∷ replicate 15 59 } ∷ [] }

pub astray-stands_for_none : (s : State) → ImageStands blocks_astray s → ⊥
astray-stands_for_none s i =
    false≢true (first-leads i.mem 9 (replicate 15 59) (heaps_of 2 block_regions ++ areas_in block_regions) i.lead.processes.1.0.own (inl refl))

-- Two messages wait for process 2, and the second one's root leads into the region of the first: neither does this one.
abbrev pub shared_regions : List Region
shared_regions = block_region message 2 18 2 ∷ block_region message 2 24 2 ∷ []

abbrev pub blocks_shared : Image
blocks_shared = record blocks {
  regions = shared_regions;
  processes = record second_process { registers = replicate 16 59; queue = 73 ∷ 73 ∷ [] } ∷ [];
  areas = [];
}

-- A list at place 18 lies in none but the first of these regions.
in-first : (mem : List ℕ) (r : Region) → IsAmong r shared_regions → LeadInto mem (73 ∷ []) (r ∷ []) → r.piece.place ≡ 18
in-first mem r (inl e) leads = ap (λ z. z.piece.place) e
in-first mem r (inr (inr none)) leads = absurd none
in-first mem r (inr (inl e)) leads =
    let P : Region → Type 0 = λ z. LeadInto mem (73 ∷ []) (z ∷ []) in
    absurd (false≢true (first-leads mem 73 [] (block_region message 2 24 2 ∷ []) (subst P e leads) (inl refl)))

-- It leads into no area, for there is none.
in-none : (mem : List ℕ) → LeadInto mem (73 ∷ []) [] → ⊥
in-none mem leads = false≢true (first-leads mem 73 [] [] leads (inl refl))

pub shared-stands_for_none : (s : State) → ImageStands blocks_shared s → ⊥
shared-stands_for_none s i = two i.mem i.lead.processes.0.queue.each i.lead.processes.0.queue.lead i.lead.processes.0.queue.apart
  where
    two : (mem : List ℕ) (each : List Region) → MessagesLead mem shared_regions [] each (73 ∷ 73 ∷ []) → Distinct (piece_places (region_pieces each)) → ⊥
    two mem [] (leads, rest) d = in-none mem leads
    two mem (r ∷ each) (inl (leads, rest)) d = in-none mem leads
    two mem (r ∷ []) (inr (a, leads, (none, rest))) d = in-none mem none
    two mem (r ∷ q ∷ each) (inr (a, leads, inl (none, rest))) d = in-none mem none
    two mem (r ∷ q ∷ []) (inr (a, leads, inr (b, more, t))) (once, rest) = once (inl (in-first mem r a leads ∙ sym (in-first mem q b more)))
    two mem (r ∷ q ∷ x ∷ each) (inr (a, leads, inr (b, more, t))) d = absurd t

-- One half in use, from place 2 on: a list whose head is the tuple of 1 and 2, in a memory of two halves of 8 words.
abbrev pub half_words : List ℕ
half_words = 0 ∷ 0 ∷ 18 ∷ 59 ∷ 128 ∷ 31 ∷ 47 ∷ 0 ∷ replicate 8 0

abbrev pub half_region : Region
half_region = record { kind = half; owner = 0; piece = record { place = 2; words = 18 ∷ 59 ∷ 128 ∷ 31 ∷ 47 ∷ [] } }

abbrev pub in_one_half : Image
in_one_half = record {
  layout = in_half;
  words = 16;
  serials = 0;
  next = 2;
  swept = false;
  regions = half_region ∷ [];
  bins = [];
  funs = [];
  processes = record { number = 1; refs = 0; chain = 0; registers = 9 ∷ replicate 15 59; stack = []; queue = [] } ∷ [];
  areas = [];
}

-- A register with a list in the other half, or one whose second word is behind the last of the region, is refused.
abbrev pub half_astray : ℕ → Image
half_astray w = record in_one_half { processes = record { number = 1; refs = 0; chain = 0; registers = w ∷ replicate 15 59; stack = []; queue = [] } ∷ [] }

pub other_half-stands_for_none : (s : State) → ImageStands (half_astray 41) s → ⊥
other_half-stands_for_none s i = false≢true (first-leads i.mem 41 (replicate 15 59) (half_region ∷ []) i.lead.lead (inl refl))

pub not_whole-stands_for_none : (s : State) → ImageStands (half_astray 25) s → ⊥
not_whole-stands_for_none s i = false≢true (first-leads i.mem 25 (replicate 15 59) (half_region ∷ []) i.lead.lead (inl refl))
