-- The frame: what keeps the words of a tree keeps the tree.
use Rattle.std.proofs.Common.{◌≡◌, ℕ, ◌+◌, ◌/◌, ◌%◌, ◌<◌, ◌≤◌, Bool, List, [], ◌∷◌, length, get_or, sym, ◌∙◌, ap, subst, arith, inl, inr, ℤ}
use Rattle.plain_term.specs.Measures.{bin_words}
use Rattle.plain_term.specs.Bytes.{bytes_of, shared_bytes}
use Rattle.plain_term.specs.Tree.{Tree, Trees, Pairs, trees_len, pairs_len}
use Rattle.plain_term.specs.Tree.Tree.{Int, Atom, Pid, Ref, Nil, Cons, Tuple, Map, Bin, Shared, Part, Fun}
use Rattle.plain_term.specs.Tree.Trees.{end, ◌▹◌}
use Rattle.plain_term.specs.Tree.Pairs.{stop, pair}
use Rattle.term_words.specs.Object.{byte_of, IsObject, IsCons, IsBoxed, IsInt, IsRef, IsTuple, IsMap, IsHeapBin, IsBinRecord, IsFunRecord, IsHolder, IsFun, IsShared, IsSub, sign_tag}
use Rattle.term_words.specs.Stands.{Stands, RowStands, KeysStand, ValuesStand, AllStand}
use Rattle.term_words.specs.Kept.{Kept, Carried, Keeps}
use Rattle.term_words.proofs.Framing.Records.{bin-stays, fun-stays}

module _ (c d : ℕ → ℕ → Bool) (old new : List ℕ) (k : Carried c d old new) where
  -- Each kind of object is carried.

  object-carried : (p n : ℕ) → IsObject c old p n → IsObject d new p n
  object-carried p n o = record {
    within = omega (arith, k.longer, o.within);
    first = k.firsts p o.first;
    others = λ q above below. k.others q (o.others q above below);
  }

  cons-carried : (w : ℕ) → IsCons c old w → IsCons d new w
  cons-carried w o = record { tag = o.tag; object = object-carried (w / 4) 2 o.object }

  boxed-carried : (w subtag arity : ℕ) → IsBoxed c old w subtag arity → IsBoxed d new w subtag arity
  boxed-carried w subtag arity o = record {
    tag = o.tag;
    header = k.first_same (w / 4) o.object.first ∙ o.header;
    object = object-carried (w / 4) (1 + arity) o.object;
  }

  -- Another word of an object is the same.
  word-carried : (p n q : ℕ) → IsObject c old p n → p < q → q < p + n → get_or new q 0 ≡ get_or old q 0
  word-carried p n q o above below = k.other_same q (o.others q above below)

  int-carried : (w : ℕ) (i : ℤ) → IsInt c old w i → IsInt d new w i
  int-carried w i (inl s) = inl s
  int-carried w i (inr (inl o)) =
      let digit : get_or new (w / 4 + 1) 0 ≡ get_or old (w / 4 + 1) 0 = word-carried (w / 4) 2 (w / 4 + 1) o.boxed.object (omega arith) (omega arith) in
      inr (inl (record { big = o.big; boxed = boxed-carried w (sign_tag i) 1 o.boxed; digit = digit ∙ o.digit; range = o.range }))
  int-carried w i (inr (inr o)) =
      let low : get_or new (w / 4 + 1) 0 ≡ get_or old (w / 4 + 1) 0 = word-carried (w / 4) 3 (w / 4 + 1) o.boxed.object (omega arith) (omega arith) in
      let high : get_or new (w / 4 + 2) 0 ≡ get_or old (w / 4 + 2) 0 = word-carried (w / 4) 3 (w / 4 + 2) o.boxed.object (omega arith) (omega arith) in
      inr (inr (record {
        boxed = boxed-carried w (sign_tag i) 2 o.boxed;
        low = rw low o.low;
        high = rw high o.high;
        digits = rw (low, high) o.digits;
        range = o.range;
      }))

  ref-carried : (w n i : ℕ) → IsRef c old w n i → IsRef d new w n i
  ref-carried w n i o = record {
    boxed = boxed-carried w 4 2 o.boxed;
    number = word-carried (w / 4) 3 (w / 4 + 1) o.boxed.object (omega arith) (omega arith) ∙ o.number;
    count = word-carried (w / 4) 3 (w / 4 + 2) o.boxed.object (omega arith) (omega arith) ∙ o.count;
  }

  tuple-carried : (w n : ℕ) → IsTuple c old w n → IsTuple d new w n
  tuple-carried w n o = record { range = o.range; boxed = boxed-carried w 0 n o.boxed }

  map-carried : (w n : ℕ) → IsMap c old w n → IsMap d new w n
  map-carried w n o =
      let same : get_or old (w / 4 + 2) 0 ≡ get_or new (w / 4 + 2) 0 = sym (word-carried (w / 4) (1 + (n + 2)) (w / 4 + 2) o.boxed.object (omega arith) (omega arith)) in
      let P : ℕ → Type 0 = λ x. IsTuple d new x n in
      record {
        range = o.range;
        boxed = boxed-carried w 15 (n + 2) o.boxed;
        count = word-carried (w / 4) (1 + (n + 2)) (w / 4 + 1) o.boxed.object (omega arith) (omega arith) ∙ o.count;
        keys = subst P same (tuple-carried (get_or old (w / 4 + 2) 0) n o.keys);
      }

  bin-carried : (w : ℕ) (bytes : List ℕ) → IsHeapBin c old w bytes → IsHeapBin d new w bytes
  bin-carried w bytes o = record {
    range = o.range;
    boxed = boxed-carried w 9 (1 + bin_words (length bytes)) o.boxed;
    size = word-carried (w / 4) (1 + (1 + bin_words (length bytes))) (w / 4 + 1) o.boxed.object (omega arith) (omega arith) ∙ o.size;
    content = record {
      each = λ i a below place.
          let same : get_or new a 0 ≡ get_or old a 0 = word-carried (w / 4) (1 + (1 + bin_words (length bytes))) a o.boxed.object (omega arith) (omega arith) in
          ap (λ x. byte_of x (i % 8)) same ∙ o.content.each i a below place;
    };
  }

  holder-carried : (w len : ℕ) → IsHolder c old w len → IsHolder d new w len
  holder-carried w len o = record {
    tag = o.tag;
    within = omega (arith, k.longer, o.within);
    header = k.first_same (w / 4) o.first ∙ o.header;
    size = k.other_same (w / 4 + 1) o.second ∙ o.size;
    bytes_word = k.other_same (w / 4 + 4) o.fifth ∙ o.bytes_word;
    flags_word = k.other_same (w / 4 + 5) o.sixth ∙ o.flags_word;
    first = k.firsts (w / 4) o.first;
    second = k.others (w / 4 + 1) o.second;
    next = k.nexts (w / 4 + 2) o.next;
    names = k.names (w / 4 + 3) o.names;
    fifth = k.others (w / 4 + 4) o.fifth;
    sixth = k.others (w / 4 + 5) o.sixth;
  }

  shared-carried : (shared : List (List ℕ)) (w id : ℕ) → IsShared c shared old w id → IsShared d shared new w id
  shared-carried shared w id o = record {
    from_one = o.from_one;
    known = o.known;
    holder = holder-carried w (length (shared_bytes shared id)) o.holder;
    record_is = k.bins (w / 4 + 3) id (shared_bytes shared id) o.holder.names o.record_is;
  }

  sub-carried : (w offset len whole : ℕ) → IsSub c old w offset len whole → IsSub d new w offset len whole
  sub-carried w offset len whole o = record {
    boxed = boxed-carried w 10 4 o.boxed;
    size = word-carried (w / 4) 5 (w / 4 + 1) o.boxed.object (omega arith) (omega arith) ∙ o.size;
    start = word-carried (w / 4) 5 (w / 4 + 2) o.boxed.object (omega arith) (omega arith) ∙ o.start;
    bits = word-carried (w / 4) 5 (w / 4 + 3) o.boxed.object (omega arith) (omega arith) ∙ o.bits;
    inside = o.inside;
  }

  fun-carried : (w name arity creator n : ℕ) → IsFun c old w name arity creator n → IsFun d new w name arity creator n
  fun-carried w name arity creator n o = record {
    range = o.range;
    creator_range = o.creator_range;
    tag = o.tag;
    within = omega (arith, k.longer, o.within);
    header = k.first_same (w / 4) o.first ∙ o.header;
    arity_word = k.other_same (w / 4 + 3) (o.others (w / 4 + 3) (omega arith) (omega arith)) ∙ o.arity_word;
    size = k.other_same (w / 4 + 4) (o.others (w / 4 + 4) (omega arith) (omega arith)) ∙ o.size;
    creator_word = k.other_same (w / 4 + 5) (o.others (w / 4 + 5) (omega arith) (omega arith)) ∙ o.creator_word;
    record_is = k.funs (w / 4 + 1) name arity o.names o.record_is;
    first = k.firsts (w / 4) o.first;
    names = k.names (w / 4 + 1) o.names;
    next = k.nexts (w / 4 + 2) o.next;
    others = λ q above below. k.others q (o.others q above below);
  }

  mutual
    unfolding Stands RowStands KeysStand ValuesStand

    -- Every tree that stands is carried.
    pub carry : (shared : List (List ℕ)) (w : ℕ) (t : Tree) → Stands c shared old w t → Stands d shared new w t
    carry shared w (Int i) s = int-carried w i s
    carry shared w (Atom n) s = s
    carry shared w (Pid n) s = s
    carry shared w (Ref n i) s = ref-carried w n i s
    carry shared w Nil s = s
    carry shared w (Cons h t) (o, sh, st) =
        let head : get_or old (w / 4) 0 ≡ get_or new (w / 4) 0 = sym (k.first_same (w / 4) o.object.first) in
        let tail : get_or old (w / 4 + 1) 0 ≡ get_or new (w / 4 + 1) 0 = sym (word-carried (w / 4) 2 (w / 4 + 1) o.object (omega arith) (omega arith)) in
        let P : ℕ → Type 0 = λ x. Stands d shared new x h in
        let Q : ℕ → Type 0 = λ x. Stands d shared new x t in
        (cons-carried w o, subst P head (carry shared (get_or old (w / 4) 0) h sh), subst Q tail (carry shared (get_or old (w / 4 + 1) 0) t st))
    carry shared w (Tuple ts) (o, row) =
        (tuple-carried w (trees_len ts) o, carry-row shared (w / 4 + 1) ts row (λ q from below. word-carried (w / 4) (1 + trees_len ts) q o.boxed.object (omega arith) (omega arith)))
    carry shared w (Map ps) (o, ks, vs) =
        let kw : ℕ = get_or old (w / 4 + 2) 0 in
        let same : get_or old (w / 4 + 2) 0 ≡ get_or new (w / 4 + 2) 0 = sym (word-carried (w / 4) (1 + (pairs_len ps + 2)) (w / 4 + 2) o.boxed.object (omega arith) (omega arith)) in
        let P : ℕ → Type 0 = λ x. KeysStand d shared new (x / 4 + 1) ps in (
          map-carried w (pairs_len ps) o,
          subst P same (carry-keys shared (kw / 4 + 1) ps ks (λ q from below. word-carried (kw / 4) (1 + pairs_len ps) q o.keys.boxed.object (omega arith) (omega arith))),
          carry-values shared (w / 4 + 3) ps vs (λ q from below. word-carried (w / 4) (1 + (pairs_len ps + 2)) q o.boxed.object (omega arith) (omega arith)),
        )
    carry shared w (Bin bytes) s = bin-carried w bytes s
    carry shared w (Shared id) s = shared-carried shared w id s
    carry shared w (Part base offset len) (o, is, sb) =
        let same : get_or old (w / 4 + 4) 0 ≡ get_or new (w / 4 + 4) 0 = sym (word-carried (w / 4) 5 (w / 4 + 4) o.boxed.object (omega arith) (omega arith)) in
        let P : ℕ → Type 0 = λ x. Stands d shared new x base in
        (sub-carried w offset len (length (bytes_of shared base)) o, is, subst P same (carry shared (get_or old (w / 4 + 4) 0) base sb))
    carry shared w (Fun name arity creator env) (o, row) =
        (fun-carried w name arity creator (trees_len env) o, carry-row shared (w / 4 + 6) env row (λ q from below. k.other_same q (o.others q (omega arith) (omega arith))))

    pub carry-row : (shared : List (List ℕ)) (p : ℕ) (ts : Trees) → RowStands c shared old p ts
        → ((q : ℕ) → p ≤ q → q < p + trees_len ts → get_or new q 0 ≡ get_or old q 0) → RowStands d shared new p ts
    carry-row shared p end row same = tt
    carry-row shared p (t ▹ ts) (first, rest) same =
        let here : get_or old p 0 ≡ get_or new p 0 = sym (same p (omega arith) (omega arith)) in
        let P : ℕ → Type 0 = λ x. Stands d shared new x t in
        (subst P here (carry shared (get_or old p 0) t first), carry-row shared (p + 1) ts rest (λ q from below. same q (omega arith) (omega arith)))

    pub carry-keys : (shared : List (List ℕ)) (p : ℕ) (ps : Pairs) → KeysStand c shared old p ps
        → ((q : ℕ) → p ≤ q → q < p + pairs_len ps → get_or new q 0 ≡ get_or old q 0) → KeysStand d shared new p ps
    carry-keys shared p stop row same = tt
    carry-keys shared p (pair x y ps) (first, rest) same =
        let here : get_or old p 0 ≡ get_or new p 0 = sym (same p (omega arith) (omega arith)) in
        let P : ℕ → Type 0 = λ z. Stands d shared new z x in
        (subst P here (carry shared (get_or old p 0) x first), carry-keys shared (p + 1) ps rest (λ q from below. same q (omega arith) (omega arith)))

    pub carry-values : (shared : List (List ℕ)) (p : ℕ) (ps : Pairs) → ValuesStand c shared old p ps
        → ((q : ℕ) → p ≤ q → q < p + pairs_len ps → get_or new q 0 ≡ get_or old q 0) → ValuesStand d shared new p ps
    carry-values shared p stop row same = tt
    carry-values shared p (pair x y ps) (first, rest) same =
        let here : get_or old p 0 ≡ get_or new p 0 = sym (same p (omega arith) (omega arith)) in
        let P : ℕ → Type 0 = λ z. Stands d shared new z y in
        (subst P here (carry shared (get_or old p 0) y first), carry-values shared (p + 1) ps rest (λ q from below. same q (omega arith) (omega arith)))

-- Kept content carries every tree.
pub kept-carried : (c d : ℕ → ℕ → Bool) (old new : List ℕ) → Kept c d old new → Carried c d old new
kept-carried c d old new k = record {
  longer = k.longer;
  nexts = λ a t. k.weaker a 1 t;
  firsts = λ a t. k.weaker a 3 t;
  first_same = λ a t. k.same a 3 (omega arith) t;
  others = λ a t. k.weaker a 4 t;
  other_same = λ a t. k.same a 4 (omega arith) t;
  names = λ a t. k.weaker a 5 t;
  bins = λ a serial bytes t o.
      let P : ℕ → Type 0 = λ v. IsBinRecord d new v serial bytes in
      subst P (sym (k.same a 5 (omega arith) t)) (bin-stays c d old new (get_or old a 0) serial bytes k o);
  funs = λ a name arity t o.
      let P : ℕ → Type 0 = λ v. IsFunRecord d new v name arity in
      subst P (sym (k.same a 5 (omega arith) t)) (fun-stays c d old new (get_or old a 0) name arity k o);
}

-- The frame lemma: agreement, a weaker test and a longer memory in one.
pub frame : (c d : ℕ → ℕ → Bool) (old new : List ℕ) → Kept c d old new → Keeps c d old new
frame c d old new k = record { each = λ shared w t s. carry c d old new (kept-carried c d old new k) shared w t s }

-- A list of words keeps standing for its trees.
pub keep-all : (c d : ℕ → ℕ → Bool) (old new : List ℕ) → Keeps c d old new → (shared : List (List ℕ)) (ws : List ℕ) (ts : Trees) → AllStand c shared old ws ts → AllStand d shared new ws ts
unfolding AllStand
keep-all c d old new k shared [] end all = tt
keep-all c d old new k shared [] (t ▹ ts) all = absurd all
keep-all c d old new k shared (w ∷ ws) end all = absurd all
keep-all c d old new k shared (w ∷ ws) (t ▹ ts) (first, rest) = (k.each shared w t first, keep-all c d old new k shared ws ts rest)
