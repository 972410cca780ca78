-- Laws of the slots by which names are found.
use Rattle.std.proofs.Common.{◌≡◌, ◌≢◌, ℕ, zero, suc, ◌+◌, ◌-◌, ◌^◌, ◌<◌, ◌≤◌, List, [], ◌∷◌, ◌++◌, length, get_or, set, refl, sym, ap, ◌∙◌, subst, ⊎_elim, arith}
use Rattle.std.proofs.lemmas.List.{get_or_read, length-set, get_or-set_same, get_or-set_other, get_or_push, get_or_append_left}
use Rattle.std.proofs.lemmas.Bool.{cases_eq, cases_lt}
use Rattle.atom_names.specs.Spread.{mixed, mixed_all, first_slot}
use Rattle.atom_names.specs.Slots.{after, steps, empties, LeadsTo, FindsSlot, IsFreeSlot}
use Rattle.atom_names.specs.declared.names.TheConstants.{MOST_NAMES}

pub mixed_all-low : (bs : List ℕ) (h : ℕ) → h < 2 ^ 32 → mixed_all h bs < 2 ^ 32
mixed_all-low [] h low = low
mixed_all-low (b ∷ bs) h low = mixed_all-low bs (mixed h b) (omega arith)

pub first_slot-low : (name : List ℕ) → first_slot name < 65536
unfolding first_slot
first_slot-low name = omega (arith, mixed_all-low name 2166136261 (omega arith))

pub after-low : (s j : ℕ) → after s j < 65536
after-low s j = omega arith

pub after-steps : (s slot : ℕ) → s < 65536 → slot < 65536 → after s (steps s slot) ≡ slot
after-steps s slot h g = omega arith

pub steps-after : (s j : ℕ) → s < 65536 → j < 65536 → steps s (after s j) ≡ j
steps-after s j h g = omega arith

pub steps-low : (s slot : ℕ) → steps s slot < 65536
steps-low s slot = omega arith

-- A free slot that is filled is one less.
pub empties-fill : (xs : List ℕ) (i y : ℕ) → i < length xs → get_or xs i 0 ≡ 0 → empties (set xs i (y + 1)) + 1 ≡ empties xs
unfolding empties
empties-fill [] i y h e = absurd (omega arith)
empties-fill (zero ∷ xs) zero y h e = let up : y + 1 ≡ suc y = omega arith in rw up refl
empties-fill (suc x ∷ xs) zero y h e = absurd (omega arith)
empties-fill (zero ∷ xs) (suc i) y h e = omega (arith, empties-fill xs i y (omega arith) e)
empties-fill (suc x ∷ xs) (suc i) y h e = empties-fill xs i y (omega arith) e

-- A full slot that is freed is one more.
pub empties-free : (xs : List ℕ) (i : ℕ) → i < length xs → 0 < get_or xs i 0 → empties (set xs i 0) ≡ empties xs + 1
unfolding empties
empties-free [] i h e = absurd (omega arith)
empties-free (zero ∷ xs) zero h e = absurd (omega arith)
empties-free (suc x ∷ xs) zero h e = refl
empties-free (zero ∷ xs) (suc i) h e = ap (λ n. n + 1) (empties-free xs i (omega arith) e)
empties-free (suc x ∷ xs) (suc i) h e = empties-free xs i (omega arith) e

-- Where all slots are free, all are counted.
pub empties-all : (xs : List ℕ) → ((i : ℕ) → i < length xs → get_or xs i 0 ≡ 0) → empties xs ≡ length xs
unfolding empties
empties-all [] h = refl
empties-all (zero ∷ xs) h = omega (arith, empties-all xs (λ i low. h (suc i) (omega arith)))
empties-all (suc x ∷ xs) h = absurd (omega (arith, h 0 (omega arith)))

-- Where all slots are full, none is counted.
pub empties-none : (xs : List ℕ) → ((i : ℕ) → i < length xs → 0 < get_or xs i 0) → empties xs ≡ 0
unfolding empties
empties-none [] h = refl
empties-none (zero ∷ xs) h = absurd (omega (arith, h 0 (omega arith)))
empties-none (suc x ∷ xs) h = empties-none xs (λ i low. h (suc i) (omega arith))

-- A full slot stays as it is where a free one is written.
pub full-stays : (slots : List ℕ) (slot v i : ℕ) → get_or slots slot 0 ≡ 0 → 0 < get_or slots i 0 → get_or (set slots slot v) i 0 ≡ get_or slots i 0
full-stays slots slot v i z h = get_or-set_other slots slot i v 0
    (λ e. let P : ℕ → Type 0 = λ m. 0 < get_or slots m 0 in let g : 0 < get_or slots slot 0 = subst P e h in omega arith)

-- A slot stays as it is where one with a greater number is written.
pub lower-stays : (slots : List ℕ) (slot v i : ℕ) → get_or slots i 0 < get_or slots slot 0 → get_or (set slots slot v) i 0 ≡ get_or slots i 0
lower-stays slots slot v i h = get_or-set_other slots slot i v 0
    (λ e. let P : ℕ → Type 0 = λ m. get_or slots m 0 < get_or slots slot 0 in let g : get_or slots slot 0 < get_or slots slot 0 = subst P e h in omega arith)

pub Leads_fill : (slots : List ℕ) (name : List ℕ) (place k slot v : ℕ) → get_or slots slot 0 ≡ 0 → LeadsTo slots name place k →
    LeadsTo (set slots slot v) name place k
Leads_fill slots name place k slot v z l = record {
  full = λ j h. rw (full-stays slots slot v (after (first_slot name) j) z (l.full j h)) (l.full j h);
  older = λ j h. rw (full-stays slots slot v (after (first_slot name) j) z (l.full j h)) (l.older j h);
}

pub Leads_free : (slots : List ℕ) (name : List ℕ) (place k slot v : ℕ) → k < get_or slots slot 0 → LeadsTo slots name place k →
    LeadsTo (set slots slot v) name place k
Leads_free slots name place k slot v z l = record {
  full = λ j h. rw (lower-stays slots slot v (after (first_slot name) j) (omega (arith, z, l.older j h))) (l.full j h);
  older = λ j h. rw (lower-stays slots slot v (after (first_slot name) j) (omega (arith, z, l.older j h))) (l.older j h);
}

-- No slot holds more than the number of names.
pub slot-low : (names : List (List ℕ)) (n : ℕ) (slots places : List ℕ) (i : ℕ) → FindsSlot names n slots places → i < 65536 → get_or slots i 0 ≤ n
slot-low names n slots places i f low = ⊎_elim
    (λ some. omega (arith, f.known i (get_or slots i 0 - 1) low (omega arith)))
    (λ none. omega arith)
    (cases_lt 0 (get_or slots i 0))

-- With no name every slot is free.
pub Finds_none : (names : List (List ℕ)) (slots places : List ℕ) → length slots ≡ 65536 → length places ≡ MOST_NAMES →
    ((i : ℕ) → i < 65536 → get_or slots i 0 ≡ 0) → FindsSlot names 0 slots places
Finds_none names slots places slots_room places_room free = record {
  slots_room = slots_room;
  places_room = places_room;
  placed = λ k h. absurd (omega arith);
  own = λ k h. absurd (omega arith);
  led = λ k h. absurd (omega arith);
  known = λ i k low e. absurd (omega (arith, free i low));
  back = λ i k low e. absurd (omega (arith, free i low));
  rest = omega (arith, empties-all slots (λ i h. free i (omega arith)));
}

-- Only the names themselves matter.
pub Finds_same : (names others : List (List ℕ)) (n : ℕ) (slots places : List ℕ) → ((k : ℕ) → k < n → get_or names k [] ≡ get_or others k []) →
    FindsSlot names n slots places → FindsSlot others n slots places
Finds_same names others n slots places same f = record {
  slots_room = f.slots_room;
  places_room = f.places_room;
  placed = f.placed;
  own = f.own;
  led = λ k h. rw (← (same k h)) (f.led k h);
  known = f.known;
  back = f.back;
  rest = f.rest;
}

-- The slot of the last name is freed.
pub Finds_pop : (names : List (List ℕ)) (n : ℕ) (slots places : List ℕ) → FindsSlot names (n + 1) slots places →
    FindsSlot names n (set slots (get_or places n 0) 0) places
Finds_pop names n slots places f =
    let last : ℕ = get_or places n 0 in
    let own : get_or slots (get_or places n 0) 0 ≡ n + 1 = f.own n (omega arith) in
    let inside : get_or places n 0 < length slots = omega (arith, f.placed n (omega arith), f.slots_room) in
    let old : (i k : ℕ) → get_or (set slots (get_or places n 0) 0) i 0 ≡ k + 1 → (i ≢ get_or places n 0) × (get_or slots i 0 ≡ k + 1) = λ i k e.
    let apart : i ≢ get_or places n 0 = λ same.
    let P : ℕ → Type 0 = λ m. get_or (set slots (get_or places n 0) 0) m 0 ≡ k + 1 in
    let g = subst P same e in let z = get_or-set_same slots (get_or places n 0) 0 0 inside in omega (arith, g, z) in
    (apart, sym (get_or-set_other slots (get_or places n 0) i 0 0 apart) ∙ e) in
    record {
      slots_room = length-set slots (get_or places n 0) 0 ∙ f.slots_room;
      places_room = f.places_room;
      placed = λ k h. f.placed k (omega arith);
      own = λ k h.
          let mine = f.own k (omega arith) in
          lower-stays slots (get_or places n 0) 0 (get_or places k 0) (omega (arith, mine, own)) ∙ mine;
      led = λ k h. Leads_free slots (get_or names k []) (get_or places k 0) k (get_or places n 0) 0 (omega (arith, own)) (f.led k (omega arith));
      known = λ i k low e.
          let was = old i k e in
          let below = f.known i k low was.1 in
          ⊎_elim (λ less. less)
          (λ past. let same : k ≡ n = omega arith in
          let P : ℕ → Type 0 = λ m. get_or places m 0 ≡ i in
          absurd (was.0 (sym (subst P same (f.back i k low was.1)))))
          (cases_lt k n);
      back = λ i k low e. f.back i k low (old i k e).1;
      rest = omega (arith, f.rest, empties-free slots (get_or places n 0) inside (omega (arith, own)));
    }

-- A new name is put into its free slot.
pub Finds_push : (names : List (List ℕ)) (name : List ℕ) (n : ℕ) (slots places : List ℕ) (slot : ℕ) → FindsSlot names n slots places →
    length names ≡ n → n < MOST_NAMES → IsFreeSlot name slots slot → FindsSlot (names ++ name ∷ []) (n + 1) (set slots slot (n + 1)) (set places n slot)
Finds_push names name n slots places slot f len room free =
    let inside : slot < length slots = omega (arith, free.inside, f.slots_room) in
    let mine : get_or (set places n slot) n 0 ≡ slot = get_or-set_same places n slot 0 (omega (arith, f.places_room)) in
    let others : (k : ℕ) → k < n → get_or (set places n slot) k 0 ≡ get_or places k 0 = λ k h.
    get_or-set_other places n k slot 0 (λ e. omega arith) in
    let named : get_or (names ++ name ∷ []) n [] ≡ name = get_or_push names name [] n len in
    let named_others : (k : ℕ) → k < n → get_or (names ++ name ∷ []) k [] ≡ get_or names k [] = λ k h.
    get_or_append_left names (name ∷ []) [] k (omega arith) in
    let written : get_or (set slots slot (n + 1)) slot 0 ≡ n + 1 = get_or-set_same slots slot (n + 1) 0 inside in
    record {
      slots_room = length-set slots slot (n + 1) ∙ f.slots_room;
      places_room = length-set places n slot ∙ f.places_room;
      placed = λ k h. ⊎_elim
          (λ less. rw (others k less) (f.placed k less))
          (λ past. let e : k ≡ n = omega arith in rw (e, mine) free.inside)
          (cases_lt k n);
      own = λ k h. ⊎_elim
          (λ less. rw (others k less) (full-stays slots slot (n + 1) (get_or places k 0) free.empty (omega (arith, f.own k less)) ∙ f.own k less))
          (λ past. let e : k ≡ n = omega arith in rw (e, mine) written)
          (cases_lt k n);
      led = λ k h. ⊎_elim
          (λ less. rw (others k less, named_others k less)
          (Leads_fill slots (get_or names k []) (get_or places k 0) k slot (n + 1) free.empty (f.led k less)))
          (λ past. let e : k ≡ n = omega arith in rw (e, mine, named) (Leads_fill slots name slot n slot (n + 1) free.empty
          (record { full = free.led; older = λ j g. slot-low names n slots places (after (first_slot name) j) f (after-low (first_slot name) j) })))
          (cases_lt k n);
      known = λ i k low e. ⊎_elim
          (λ same. let P : ℕ → Type 0 = λ m. get_or (set slots slot (n + 1)) m 0 ≡ k + 1 in omega (arith, subst P same e, written))
          (λ apart. omega (arith, f.known i k low (sym (get_or-set_other slots slot i (n + 1) 0 apart) ∙ e)))
          (cases_eq i slot);
      back = λ i k low e. ⊎_elim
          (λ same. let P : ℕ → Type 0 = λ m. get_or (set slots slot (n + 1)) m 0 ≡ k + 1 in
          let is : k ≡ n = omega (arith, subst P same e, written) in rw is (mine ∙ sym same))
          (λ apart. let was = sym (get_or-set_other slots slot i (n + 1) 0 apart) ∙ e in
          others k (f.known i k low was) ∙ f.back i k low was)
          (cases_eq i slot);
      rest = omega (arith, f.rest, empties-fill slots slot n inside free.empty);
    }

-- The first free slot on the way of a name is free for it.
pub free-at : (slots : List ℕ) (name : List ℕ) (j : ℕ) → j < 65536 → get_or slots (after (first_slot name) j) 0 ≡ 0 →
    ((i : ℕ) → i < j → 0 < get_or slots (after (first_slot name) i) 0) → IsFreeSlot name slots (after (first_slot name) j)
free-at slots name j low empty full = record {
  inside = after-low (first_slot name) j;
  empty = empty;
  led = λ i h. full i (omega (arith, steps-after (first_slot name) j (first_slot-low name) low));
}

-- A name that is none of those on the way to a free slot is new.
pub new-at : (names : List (List ℕ)) (name : List ℕ) (n : ℕ) (slots places : List ℕ) (j : ℕ) → FindsSlot names n slots places → j < 65536 →
    get_or slots (after (first_slot name) j) 0 ≡ 0 →
    ((i k : ℕ) → i < j → get_or slots (after (first_slot name) i) 0 ≡ k + 1 → get_or names k [] ≢ name) →
    (k : ℕ) → k < n → get_or names k [] ≢ name
new-at names name n slots places j f low empty passed k h e =
    let start : first_slot (get_or names k []) ≡ first_slot name = ap first_slot e in
    let place = f.placed k h in
    let way : after (first_slot name) (steps (first_slot name) (get_or places k 0)) ≡ get_or places k 0 =
    after-steps (first_slot name) (get_or places k 0) (first_slot-low name) place in
    ⊎_elim
    (λ less. passed (steps (first_slot name) (get_or places k 0)) k less (ap (λ m. get_or slots m 0) way ∙ f.own k h) e)
    (λ past. ⊎_elim
    (λ more. let P : List ℕ → Type 0 = λ x. LeadsTo slots x (get_or places k 0) k in
    let l = subst P e (f.led k h) in omega (arith, empty, l.full j more))
    (λ same. let at : steps (first_slot name) (get_or places k 0) ≡ j = omega arith in
    let Q : ℕ → Type 0 = λ m. after (first_slot name) m ≡ get_or places k 0 in
    let here : after (first_slot name) j ≡ get_or places k 0 = subst Q at way in
    let own : get_or slots (after (first_slot name) j) 0 ≡ k + 1 = ap (λ m. get_or slots m 0) here ∙ f.own k h in
    omega (arith, empty, own))
    (cases_lt j (steps (first_slot name) (get_or places k 0))))
    (cases_lt (steps (first_slot name) (get_or places k 0)) j)

-- The way does not lead over full slots for ever.
pub some-free : (names : List (List ℕ)) (name : List ℕ) (n : ℕ) (slots places : List ℕ) → FindsSlot names n slots places → n ≤ MOST_NAMES →
    ((j : ℕ) → j < 65536 → 0 < get_or slots (after (first_slot name) j) 0) → ⊥
some-free names name n slots places f few full =
    let none = empties-none slots (λ i h.
    let low : i < 65536 = omega (arith, f.slots_room) in
    let way = after-steps (first_slot name) i (first_slot-low name) low in
    let P : ℕ → Type 0 = λ m. 0 < get_or slots m 0 in
    subst P way (full (steps (first_slot name) i) (steps-low (first_slot name) i))) in
    omega (arith, none, f.rest)

-- What a read of a list of numbers gives.
pub read-is : (xs : List ℕ) (i x : ℕ) → i < length xs → x ≡ get_or xs i x → get_or xs i 0 ≡ x
read-is xs i x h e = sym (get_or_read xs i x h e 0)

-- A full slot holds the number of a name.
pub read-known : (names : List (List ℕ)) (n : ℕ) (slots places : List ℕ) (slot x : ℕ) → FindsSlot names n slots places → slot < 65536 →
    x ≡ get_or slots slot x → x ≢ 0 → x - 1 < n
read-known names n slots places slot x f low e full =
    let at = read-is slots slot x (omega (arith, f.slots_room)) e in
    f.known slot (x - 1) low (omega (arith, at, full))
