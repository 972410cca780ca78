-- A whole chain is swept, object by object.
use Rattle.std.proofs.Common.{◌≡◌, ℕ, ◌+◌, ◌*◌, ◌/◌, ◌%◌, ◌<◌, ◌≤◌, ◌⊎◌, ◌==◌, if◌then◌else◌, Bool, true, false, List, [], ◌∷◌, ◌++◌, Option, Some, None, length, zero, suc, get_or}
use Rattle.std.proofs.Common.{true≢false, refl, sym, ◌∙◌, ap, subst, arith, inl, inr}
use Rattle.std.proofs.lemmas.Bool.{cases_Bool}
use Rattle.std.proofs.lemmas.Bool.Decides.{nat_tests}
use Rattle.plain_term.specs.Measures.{bin_words}
use Rattle.term_tags.specs.Words.{head_word}
use Rattle.term_tags.specs.declared.layouts.TheConstants.{HOLDER}
use Rattle.term_words.specs.Role.{NEXT, FIRST, FURTHER, IsSingle}
use Rattle.term_words.specs.Object.{IsRecord}
use Rattle.term_words.specs.Kept.{Kept}
use Rattle.term_words.specs.Counted.{In, Distinct, total}
use Rattle.term_words.proofs.Framing.Frames.{frame}
use Rattle.term_words.proofs.Totals.Members.{Less, less}
use Rattle.shared_rec.specs.Record.{count_in, length_in}
use Rattle.off_heap_list.specs.Links.{named, Leads, Chain, IsLink, Links}
use Rattle.off_heap_list.specs.declared.whole.FrontLeft.{FrontLeft}
use Rattle.off_heap_list.proofs.Chaining.Chained.{leads-stays}
use Rattle.off_heap_list.specs.Swept.{is_moved, new_place, bin_words_at, count_less, freed_at, kept_after, ends_record, ends_after, IsOld, Relinked, FrontSweeping, Since}
use Rattle.off_heap_list.specs.Dealt.{FrontLinks}
use Rattle.off_heap_list.specs.Whole.{moved_of, turned, bin_words_of_all, one_of, SweptFront}
use Rattle.off_heap_list.proofs.Walked.Sweeping.{relinked-kept, relinked-then, relinked-wider, next-old, next-moved, next-record, next-counted, sweep-done}

-- A list of distinct places below a limit is no longer than the limit.

abbrev pub one : ℕ → ℕ
one p = 1

pub few : (n : ℕ) (ps : List ℕ) → Distinct ps → ((p : ℕ) → In p ps → p < n) → total one ps ≤ n
few zero [] d below = omega arith
few zero (p ∷ ps) d below = absurd (omega (arith, below p (inl refl)))
few (suc n) ps d below =
    let l : Less one n ps = less one n ps d in
    let rest : total one l.rest ≤ n = few n l.rest l.once (λ p inside. let i = l.inner p inside in
    let under : p < suc n = below p i.0 in
    let which : (p ≡ n) ⊎ (p < n) = grind (arith, under) in
    elim which [ inl e ↦ absurd (i.1 e) | inr under_n ↦ under_n ]) in
    omega (arith, l.words, rest)

pub ones : (ps : List ℕ) → total one ps ≡ length ps
ones [] = refl
ones (p ∷ ps) = omega (arith, ones ps)

pub few-links : (c : ℕ → ℕ → Bool) (mem : List ℕ) (ps : List ℕ) → Distinct ps → ((p : ℕ) → In p ps → IsLink c mem p) → length ps ≤ length mem
few-links c mem ps d each = omega (arith, ones ps, few (length mem) ps d (λ p inside. omega (arith, (each p inside).within)))

-- The words of bytes of a holder lie in the memory, in its record.

no-bytes : bin_words 0 ≡ 0
no-bytes = refl

record-holds : (c : ℕ → ℕ → Bool) (mem : List ℕ) (v n : ℕ) → IsRecord c mem v n → bin_words (length_in mem v) ≤ length mem
record-holds c mem v n (inl (serial, bytes, o, words)) = rw o.size (omega (arith, o.within))
record-holds c mem v n (inr (name, arity, o, words)) = rw o.zero_word (omega (arith, no-bytes))

holds-by : (mem : List ℕ) (p : ℕ) (b : Bool) (h : ℕ) → (get_or mem p 0 == h) ≡ b
    → (if get_or mem p 0 == h then bin_words (get_or mem (p + 1) 0) else 0) ≡ (if b then bin_words (get_or mem (p + 1) 0) else 0)
holds-by mem p b h e = ap (λ x. if x then bin_words (get_or mem (p + 1) 0) else 0) e

pub held-few : (c : ℕ → ℕ → Bool) (mem : List ℕ) (p : ℕ) → IsLink c mem p → bin_words_at mem p ≤ length mem
held-few c mem p l = elim (cases_Bool (get_or mem p 0 == head_word HOLDER 5)) [
  | inl same ↦
      let h : get_or mem p 0 ≡ head_word HOLDER 5 = grind (arith, nat_tests, same) in
      let P : ℕ → Type 0 = λ x. bin_words x ≤ length mem in
      let is : bin_words_at mem p ≡ bin_words (get_or mem (p + 1) 0) = holds-by mem p true (head_word HOLDER 5) same in
      omega (arith, is, subst P (sym (l.size h).1) (record-holds c mem (named mem p) l.words l.record_is))
  | inr other ↦ (let is : bin_words_at mem p ≡ 0 = holds-by mem p false (head_word HOLDER 5) other in omega (arith, is))
]

pub held-stays : (c d : ℕ → ℕ → Bool) (old new : List ℕ) (p : ℕ) → Kept c d old new → IsLink c old p → bin_words_at new p ≡ bin_words_at old p
held-stays c d old new p k l =
    let first : get_or new p 0 ≡ get_or old p 0 = k.same p FIRST (omega arith) l.first in
    ap (λ x. if x == head_word HOLDER 5 then bin_words (get_or new (p + 1) 0) else 0) first
    ∙ elim (cases_Bool (get_or old p 0 == head_word HOLDER 5)) [
      | inl same ↦
          let h : get_or old p 0 ≡ head_word HOLDER 5 = grind (arith, nat_tests, same) in
          ap (λ x. if x then bin_words (get_or new (p + 1) 0) else 0) same
          ∙ (ap (λ x. bin_words x) (k.same (p + 1) FURTHER (omega arith) (l.size h).0) ∙ sym (holds-by old p true (head_word HOLDER 5) same))
      | inr other ↦ ap (λ x. if x then bin_words (get_or new (p + 1) 0) else 0) other ∙ sym (holds-by old p false (head_word HOLDER 5) other)
    ]

pub all-held-stay : (c d : ℕ → ℕ → Bool) (old new : List ℕ) (ps : List ℕ) → Kept c d old new → ((p : ℕ) → In p ps → IsLink c old p) → bin_words_of_all new ps ≡ bin_words_of_all old ps
all-held-stay c d old new [] k each = refl
all-held-stay c d old new (p ∷ ps) k each =
    omega (arith, held-stays c d old new p k (each p (inl refl)), all-held-stay c d old new ps k (λ q inside. each q (inr inside)))

pub all-held-few : (c : ℕ → ℕ → Bool) (mem : List ℕ) (ps : List ℕ) → length mem ≤ 16777216 → ((p : ℕ) → In p ps → IsLink c mem p) → bin_words_of_all mem ps ≤ length ps * 16777216
all-held-few c mem [] most each = omega arith
all-held-few c mem (p ∷ ps) most each =
    omega (arith, held-few c mem p (each p (inl refl)), most, all-held-few c mem ps most (λ q inside. each q (inr inside)))

-- A sweep that has come so far.
pub record Sweeps (c : ℕ → ℕ → Bool) (start mem : List ℕ) (head to first last len words freed i : ℕ) (os further : List ℕ) : Type 0 where
  pub rest : List ℕ
  pub kept : List ℕ
  pub ends : List ℕ
  pub now : FrontSweeping c mem head rest to first kept last ends further
  pub since : Since c start mem rest ends
  pub number : i + length rest ≡ length os
  pub among : (p : ℕ) → In p rest → In p os
  pub whole : turned (moved_of start rest) kept ≡ turned (moved_of start os) []
  pub len_is : len ≡ length kept
  pub words_is : words ≡ bin_words_of_all mem kept
  pub freed_is : freed ≡ length ends
  pub few_freed : freed ≤ i
  pub writes : Relinked c os start mem
  pub nexts : (q : ℕ) → c q NEXT ≡ true → ((p : ℕ) → In p kept → q ≡ p + 2 → ⊥) → get_or mem q 0 ≡ get_or start q 0

pub sweeps-begin : (c : ℕ → ℕ → Bool) (mem : List ℕ) (head to : ℕ) (os further : List ℕ) → FrontSweeping c mem head os to 0 [] 0 [] further → Sweeps c mem mem head to 0 0 0 0 0 0 os further
sweeps-begin c mem head to os further s = record {
  rest = os;
  kept = [];
  ends = [];
  now = s;
  since = record {
    content = record { longer = omega arith; weaker = λ q k h. h; same = λ q k content h. refl };
    back = record { longer = omega arith; weaker = λ q k h. h; same = λ q k content h. refl };
    same = λ p q inside at. refl;
    fewer = λ v n there. omega arith;
    only = λ p inside. absurd inside;
    all = λ v n there zero some. omega (arith, zero, some);
  };
  number = omega arith;
  among = λ p inside. inside;
  whole = refl;
  len_is = refl;
  words_is = refl;
  freed_is = refl;
  few_freed = omega arith;
  writes = record { same_len = refl; same = λ q n k w. refl };
  nexts = λ q h out. refl;
}

-- A list that is not at its end.
pub record Goes (rest : List ℕ) : Type 0 where
  pub p : ℕ
  pub left : List ℕ
  pub is : rest ≡ p ∷ left

pub goes : (rest : List ℕ) → 0 < length rest → Goes rest
goes [] some = absurd (omega (arith, some))
goes (p ∷ left) some = record { p = p; left = left; is = refl }

module _ (c : ℕ → ℕ → Bool) (start mem : List ℕ) (head to first last len words freed i : ℕ) (os further : List ℕ) (s : Sweeps c start mem head to first last len words freed i os further)
    (more : i < length os) where
  next : Goes s.rest
  next = goes s.rest (omega (arith, s.number, more))

  sweeping : FrontSweeping c mem head (next.p ∷ next.left) to first s.kept last s.ends further
  sweeping = let P : List ℕ → Type 0 = λ xs. FrontSweeping c mem head xs to first s.kept last s.ends further in subst P next.is s.now

  since-now : Since c start mem (next.p ∷ next.left) s.ends
  since-now = let P : List ℕ → Type 0 = λ xs. Since c start mem xs s.ends in subst P next.is s.since

  pub sweeps-old : IsOld c mem head
  sweeps-old = next-old c mem head next.p next.left to first s.kept last s.ends further sweeping

  pub sweeps-moved : is_moved mem head ≡ true → new_place mem head + 6 ≤ length mem
  sweeps-moved = next-moved c mem head next.p next.left to first s.kept last s.ends further sweeping

  pub sweeps-record : is_moved mem head ≡ false → named mem head + 4 ≤ length mem
  sweeps-record = next-record c mem head next.p next.left to first s.kept last s.ends further sweeping

  pub sweeps-counted : is_moved mem head ≡ false → 1 ≤ count_in mem (named mem head)
  sweeps-counted = next-counted c mem head next.p next.left to first s.kept last s.ends further sweeping

  head-is : head ≡ next.p
  head-is = sweeping.rest.0

  head-first : get_or mem head 0 ≡ get_or start head 0
  head-first =
      let P : ℕ → Type 0 = λ x. get_or mem x 0 ≡ get_or start x 0 in
      subst P (sym head-is) (since-now.same next.p next.p (inl refl) (inl refl))

moved-step : (b : Bool) (x : ℕ) (rest kept : List ℕ) → turned rest (if b then x ∷ kept else kept) ≡ turned (if b then x ∷ rest else rest) kept
moved-step true x rest kept = refl
moved-step false x rest kept = refl

one-joined : (b : Bool) (x : ℕ) (kept : List ℕ) → (if b then 1 else 0) + length kept ≡ length (if b then x ∷ kept else kept)
one-joined true x kept = omega arith
one-joined false x kept = omega arith

held-joined : (mem : List ℕ) (b : Bool) (x : ℕ) (kept : List ℕ) → (if b then bin_words_at mem x else 0) + bin_words_of_all mem kept ≡ bin_words_of_all mem (if b then x ∷ kept else kept)
held-joined mem true x kept = omega arith
held-joined mem false x kept = omega arith

module _ (c : ℕ → ℕ → Bool) (start mem : List ℕ) (head to first last len words freed i : ℕ) (os further : List ℕ) (s : Sweeps c start mem head to first last len words freed i os further) where
  pub sweeps-len : length mem ≤ 16777216 → len ≤ 16777216
  sweeps-len most = omega (arith, s.len_is, few-links c mem s.kept s.now.once s.now.each, most)

  pub sweeps-words : length mem ≤ 16777216 → words ≤ 281474976710656
  sweeps-words most = omega (arith, s.words_is, all-held-few c mem s.kept most s.now.each, few-links c mem s.kept s.now.once s.now.each, most)

-- What a step tells of the object that was swept.
pub record Tells (mem : List ℕ) (head : ℕ) (moved told : Option ℕ) (more : ℕ) : Type 0 where
  pub if_moved : is_moved mem head ≡ true → (moved ≡ Some (new_place mem head)) × (told ≡ None) × (more ≡ bin_words_at mem (new_place mem head))
  pub if_left : is_moved mem head ≡ false → (moved ≡ None) × (told ≡ freed_at (named mem head) (count_less mem head)) × (more ≡ 0)

module _ (mem : List ℕ) (head : ℕ) (moved told : Option ℕ) (more : ℕ) (t : Tells mem head moved told more) where
  moved-one : one_of moved ≡ (if is_moved mem head then 1 else 0)
  moved-one = elim (cases_Bool (is_moved mem head)) [
    | inl is ↦ ap one_of (t.if_moved is).0 ∙ sym (ap (λ b. if b then 1 else 0) is)
    | inr is ↦ ap one_of (t.if_left is).0 ∙ sym (ap (λ b. if b then 1 else 0) is)
  ]

  told-at : (b : Bool) (v : ℕ) → one_of (if b then Some v else None) ≡ (if b then 1 else 0)
  told-at true v = refl
  told-at false v = refl

  told-one : one_of told ≡ (if ends_record mem head then 1 else 0)
  told-one = elim (cases_Bool (is_moved mem head)) [
    | inl is ↦ ap one_of (t.if_moved is).1 ∙ sym (ap (λ b. if (if b then false else count_less mem head == 0) then 1 else 0) is)
    | inr is ↦
        ap one_of (t.if_left is).1
        ∙ (told-at (count_less mem head == 0) (named mem head) ∙ sym (ap (λ b. if (if b then false else count_less mem head == 0) then 1 else 0) is))
  ]

  more-is : more ≡ (if is_moved mem head then bin_words_at mem (new_place mem head) else 0)
  more-is = elim (cases_Bool (is_moved mem head)) [
    | inl is ↦ (t.if_moved is).2 ∙ sym (ap (λ b. if b then bin_words_at mem (new_place mem head) else 0) is)
    | inr is ↦ (t.if_left is).2 ∙ sym (ap (λ b. if b then bin_words_at mem (new_place mem head) else 0) is)
  ]

  pub more-few : (c : ℕ → ℕ → Bool) → IsOld c mem head → length mem ≤ 16777216 → more ≤ 16777216
  more-few c o most = elim (cases_Bool (is_moved mem head)) [
    | inl is ↦ omega (arith, (t.if_moved is).2, held-few c mem (new_place mem head) (o.moved is), most)
    | inr is ↦ omega (arith, (t.if_left is).2)
  ]

pub one-at-most : (b : Bool) → (if b then 1 else 0) ≤ 1
one-at-most true = omega arith
one-at-most false = omega arith

joined-links : (c : ℕ → ℕ → Bool) (mem : List ℕ) (x : ℕ) (kept : List ℕ) (b : Bool) → (b ≡ true → IsLink c mem x) → ((p : ℕ) → In p kept → IsLink c mem p)
    → (p : ℕ) → In p (if b then x ∷ kept else kept) → IsLink c mem p
joined-links c mem x kept true new each p (inl e) = let P : ℕ → Type 0 = λ y. IsLink c mem y in subst P (sym e) (new refl)
joined-links c mem x kept true new each p (inr deep) = each p deep
joined-links c mem x kept false new each p inside = each p inside

joined-new : (b : Bool) (x : ℕ) (kept : List ℕ) → b ≡ true → In x (if b then x ∷ kept else kept)
joined-new true x kept e = inl refl
joined-new false x kept e = absurd (true≢false (sym e))

joined-old : (b : Bool) (x p : ℕ) (kept : List ℕ) → In p kept → In p (if b then x ∷ kept else kept)
joined-old true x p kept i = inr i
joined-old false x p kept i = i

module _ (c : ℕ → ℕ → Bool) (start mem mem2 : List ℕ) (head head2 to first first2 last last2 len words freed i : ℕ) (os further : List ℕ) (moved told : Option ℕ) (more : ℕ) where
  pub sweeps-more : Sweeps c start mem head to first last len words freed i os further → i < length os → IsSingle c → Tells mem head moved told more
      → ((p : ℕ) (rest kept ends : List ℕ) → FrontSweeping c mem head (p ∷ rest) to first kept last ends further
      → FrontSweeping c mem2 head2 rest to first2 (kept_after mem head kept) last2 (ends_after mem head ends) further)
      → ((p : ℕ) (rest kept ends : List ℕ) → FrontSweeping c mem head (p ∷ rest) to first kept last ends further → Since c start mem (p ∷ rest) ends
      → Since c start mem2 rest (ends_after mem head ends))
      → (IsOld c mem head → Relinked c (head ∷ []) mem mem2)
      → (IsOld c mem head → (q : ℕ) → c q NEXT ≡ true → (is_moved mem head ≡ true → q ≡ new_place mem head + 2 → ⊥) → get_or mem2 q 0 ≡ get_or mem q 0)
      → Sweeps c start mem2 head2 to first2 last2 (len + one_of moved) (words + more) (freed + one_of told) (i + 1) os further
  sweeps-more s less single t goes_on since writes still =
      let n : Goes s.rest = next c start mem head to first last len words freed i os further s less in
      let now : FrontSweeping c mem head (n.p ∷ n.left) to first s.kept last s.ends further = sweeping c start mem head to first last len words freed i os further s less in
      let before : Since c start mem (n.p ∷ n.left) s.ends = since-now c start mem head to first last len words freed i os further s less in
      let o : IsOld c mem head = sweeps-old c start mem head to first last len words freed i os further s less in
      let at : head ≡ n.p = now.rest.0 in
      let word : get_or mem head 0 ≡ get_or start n.p 0 =
      head-first c start mem head to first last len words freed i os further s less ∙ ap (λ x. get_or start x 0) at in
      let k : Kept c c mem mem2 = relinked-kept c (head ∷ []) mem mem2 single (λ x r inside h. elim inside [
        | inl e ↦ (let P : ℕ → Type 0 = λ y. c (y + 2) r ≡ true in o.none (head + 2) r (inr (inl refl)) (subst P e h))
        | inr j ↦ j
      ]) (writes o) in
      let links : (p : ℕ) → In p (kept_after mem head s.kept) → IsLink c mem p = joined-links c mem (new_place mem head) s.kept (is_moved mem head) o.moved now.each in
      let I : List ℕ → Type 0 = λ xs. In n.p xs in
      let J : ℕ → Type 0 = λ x. In x os in
      let inside : In head os = subst J (sym at) (s.among n.p (subst I (sym n.is) (inl refl))) in
      record {
        rest = n.left;
        kept = kept_after mem head s.kept;
        ends = ends_after mem head s.ends;
        now = goes_on n.p n.left s.kept s.ends now;
        since = since n.p n.left s.kept s.ends now before;
        number = omega (arith, s.number, ap length n.is);
        among = λ p deep. let K : List ℕ → Type 0 = λ xs. In p xs in s.among p (subst K (sym n.is) (inr deep));
        whole = ap (λ y. turned (moved_of start n.left) (if y % 4 == 2 then y / 4 ∷ s.kept else s.kept)) word
            ∙ (moved-step (is_moved start n.p) (new_place start n.p) (moved_of start n.left) s.kept ∙ (ap (λ xs. turned (moved_of start xs) s.kept) (sym n.is) ∙ s.whole));
        len_is = omega (arith, s.len_is, moved-one mem head moved told more t, one-joined (is_moved mem head) (new_place mem head) s.kept);
        words_is = omega (
          arith,
          s.words_is,
          more-is mem head moved told more t,
          held-joined mem (is_moved mem head) (new_place mem head) s.kept,
          all-held-stay c c mem mem2 (kept_after mem head s.kept) k links,
        );
        freed_is = omega (arith, s.freed_is, told-one mem head moved told more t, one-joined (ends_record mem head) head s.ends);
        few_freed = omega (arith, s.few_freed, told-one mem head moved told more t, one-at-most (ends_record mem head));
        writes = relinked-then c os start mem mem2 s.writes (relinked-wider c (head ∷ []) os mem mem2 (λ p is. elim is [ inl e ↦ subst J (sym e) inside | inr j ↦ absurd j ]) (writes o));
        nexts = λ q h out. still o q h (λ is e. out (new_place mem head) (joined-new (is_moved mem head) (new_place mem head) s.kept is) e)
            ∙ s.nexts q h (λ p i. out p (joined-old (is_moved mem head) (new_place mem head) p s.kept i));
      }

pub none-left : (rest : List ℕ) → length rest ≡ 0 → rest ≡ []
none-left [] e = refl
none-left (p ∷ rest) e = absurd (omega (arith, e))

pub sweeps-done : (c : ℕ → ℕ → Bool) (start mem : List ℕ) (head to first last len words freed i : ℕ) (os further : List ℕ) → Sweeps c start mem head to first last len words freed i os further
    → length os ≤ i
    → SweptFront c start mem os (turned (moved_of start os) []) further to (record { left = record { first = first; len = len; words = words; last = last; freed = freed }; rest = head })
sweeps-done c start mem head to first last len words freed i os further s end =
    let over : s.rest ≡ [] = none-left s.rest (omega (arith, s.number, end)) in
    let P : List ℕ → Type 0 = λ xs. FrontSweeping c mem head xs to first s.kept last s.ends further in
    let kept : s.kept ≡ turned (moved_of start os) [] = sym (ap (λ xs. turned (moved_of start xs) s.kept) over) ∙ s.whole in
    let Q : List ℕ → Type 0 = λ xs. Links c mem first xs further in
    let R : List ℕ → Type 0 = λ xs. (q : ℕ) → c q NEXT ≡ true → ((p : ℕ) → In p xs → q ≡ p + 2 → ⊥) → get_or mem q 0 ≡ get_or start q 0 in
    record {
      whole = record {
        links = subst Q kept (sweep-done c mem head to first s.kept last s.ends further (subst P over s.now));
        len = s.len_is ∙ ap length kept;
        words = s.words_is ∙ ap (λ xs. bin_words_of_all mem xs) kept;
        ends = s.ends;
        records = record {
          chain = s.now.gone;
          each = s.now.freed;
          once = s.now.freed_once;
          only = s.since.only;
          all = s.since.all;
        };
        freed = s.freed_is;
        writes = s.writes;
        nexts = subst R kept s.nexts;
        content = s.since.content;
        back = s.since.back;
        trees = frame c c start mem s.since.content;
      };
      rest = (subst P over s.now).rest;
    }

-- The rest of a chain whose front part was swept.
pub rest-stays : (c : ℕ → ℕ → Bool) (start mem os kept further : List ℕ) (to : ℕ) (result : FrontLeft) → SweptFront c start mem os kept further to result → (rest : List ℕ) → Chain start to rest
    → ((p : ℕ) → In p rest → IsLink c start p) → ((p : ℕ) → In p rest → In p kept → ⊥) → Chain mem result.rest rest
rest-stays c start mem os kept further to result s rest chain each apart =
    let P : ℕ → Type 0 = λ x. Leads mem x rest 0 in
    subst P (sym s.rest) (leads-stays start mem to rest 0 (λ p i. s.whole.nexts (p + 2) (each p i).next (λ q j e.
    let same : p ≡ q = omega (arith, e) in
    let Q : ℕ → Type 0 = λ x. In x kept in
    apart p i (subst Q (sym same) j))) chain)

pub front-links : (c : ℕ → ℕ → Bool) (start mem os kept rest further : List ℕ) (to : ℕ) (result : FrontLeft) → SweptFront c start mem os kept (rest ++ further) to result → Chain start to rest
    → Distinct rest → ((p : ℕ) → In p rest → IsLink c start p) → ((p : ℕ) → In p rest → In p kept → ⊥) → FrontLinks c mem result.left.first kept result.rest rest further
front-links c start mem os kept rest further to result s chain once each apart = record {
  links = s.whole.links;
  chain = rest-stays c start mem os kept (rest ++ further) to result s rest chain each apart;
  once = once;
  apart = λ p i j. apart p j i;
}
