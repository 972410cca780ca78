-- An object whose words are those of another, and whose traced words stand for the parts of a tree, stands for the tree.
use Rattle.std.proofs.Common.{◌≡◌, ℕ, ◌+◌, ◌-◌, ◌*◌, ◌/◌, ◌%◌, ◌<◌, ◌≤◌, Bool, true, List, length, get_or, refl, sym, ◌∙◌, ap, subst, arith, inl, inr, ℤ, pos, negsuc}
use Rattle.plain_term.specs.Measures.{bin_words}
use Rattle.plain_term.specs.Bytes.{shared_bytes}
use Rattle.plain_term.specs.Tree.{Tree, Trees, Pairs, trees_len, pairs_len, keys_of, values_of}
use Rattle.plain_term.specs.Tree.Tree.{Int, Atom, Pid, Ref, Nil, Cons, Tuple, Map, Bin, Shared, Part, Fun}
use Rattle.plain_term.specs.Tree.Trees.{end, ◌▹◌}
use Rattle.term_tags.specs.declared.layouts.TheConstants.{TUPLE, REF, HEAP_BIN, SUB_BIN, MAP}
use Rattle.term_words.specs.Role.{NEXT, FIRST, FURTHER, NAMES, OfObject}
use Rattle.term_words.specs.Object.{byte_of, IsObject, IsBoxed, IsInt, IsTuple, IsBinRecord, IsFunRecord, IsPointer, object_words, sign_tag}
use Rattle.term_words.specs.Reach.{first_traced, parts_of}
use Rattle.term_words.specs.Stands.{Stands, RowStands, KeysStand}
use Rattle.term_words.proofs.Placing.Apart.{words-cons, words-boxed}
use Rattle.term_words.proofs.ByKind.Pairs.{values-len, keys-len}
use Rattle.term_words.proofs.Reaching.Reached.{scanned, cons-traced}
use Rattle.term_build.proofs.Objects.{row-keys, row-values}

-- The words of the object that x leads to are those of the object that w led to, but for its traced words and `next`; and
-- records stay.
pub record IsAlike (c d : ℕ → ℕ → Bool) (old new : List ℕ) (w x : ℕ) : Type 0 where
  pub tag : x % 4 ≡ w % 4
  pub within : x / 4 + object_words old w ≤ length new
  pub roles : (j q k : ℕ) → j < object_words old w → q ≡ x / 4 + j → c (w / 4 + j) k ≡ true → OfObject k → d q k ≡ true
  pub same : (j q k : ℕ) → j < first_traced old w → j < object_words old w → q ≡ x / 4 + j → c (w / 4 + j) k ≡ true → FIRST ≤ k → get_or new q 0 ≡ get_or old (w / 4 + j) 0
  pub bins : (v serial : ℕ) (bytes : List ℕ) → IsBinRecord c old v serial bytes → IsBinRecord d new v serial bytes
  pub funs : (v name arity : ℕ) → IsFunRecord c old v name arity → IsFunRecord d new v name arity

module _ (c d : ℕ → ℕ → Bool) (shared : List (List ℕ)) (old new : List ℕ) (w x : ℕ) (h : IsAlike c d old new w x) where
  role : (j q a k : ℕ) → j < object_words old w → q ≡ x / 4 + j → a ≡ w / 4 + j → OfObject k → c a k ≡ true → d q k ≡ true
  role j q a k below e i of t = let P : ℕ → Type 0 = λ y. c y k ≡ true in h.roles j q k below e (subst P i t) of

  plain : (j q a k : ℕ) → j < first_traced old w → j < object_words old w → q ≡ x / 4 + j → a ≡ w / 4 + j → FIRST ≤ k → c a k ≡ true → get_or new q 0 ≡ get_or old a 0
  plain j q a k less below e i past t =
      let P : ℕ → Type 0 = λ y. c y k ≡ true in
      h.same j q k less below e (subst P i t) past ∙ ap (λ y. get_or old y 0) (sym i)

  object : (n : ℕ) → object_words old w ≡ n → 0 < n → IsObject c old (w / 4) n → IsObject d new (x / 4) n
  object n e some o = record {
    within = omega (arith, h.within, e);
    first = role 0 (x / 4) (w / 4) FIRST (omega (arith, e)) (omega arith) (omega arith) (inr (omega arith, omega arith)) o.first;
    others = λ q above below. role (q - x / 4) q (w / 4 + (q - x / 4)) FURTHER (omega (arith, e)) (omega arith) refl (inr (omega arith, omega arith))
        (o.others (w / 4 + (q - x / 4)) (omega arith) (omega arith));
  }

  boxed : (subtag arity : ℕ) → object_words old w ≡ 1 + arity → 0 < first_traced old w → IsBoxed c old w subtag arity → IsBoxed d new x subtag arity
  boxed subtag arity e some o = record {
    tag = omega (arith, h.tag, o.tag);
    header = plain 0 (x / 4) (w / 4) FIRST some (omega (arith, e)) (omega arith) (omega arith) (omega arith) o.object.first ∙ o.header;
    object = object (1 + arity) e (omega arith) o.object;
  }

  boxed-word : (subtag arity j q a : ℕ) → object_words old w ≡ 1 + arity → IsBoxed c old w subtag arity → j < first_traced old w → 0 < j → j < 1 + arity → q ≡ x / 4 + j → a ≡ w / 4 + j
      → get_or new q 0 ≡ get_or old a 0
  boxed-word subtag arity j q a e o less some below at from = plain j q a FURTHER less (omega (arith, e)) at from (omega arith) (o.object.others a (omega (arith, from)) (omega (arith, from)))

  sign-small : (i : ℤ) → sign_tag i * 4 < 64
  sign-small (pos n) = omega arith
  sign-small (negsuc n) = omega arith

  int-alike : (i : ℤ) → IsPointer w → first_traced old w ≡ object_words old w → IsInt c old w i → IsInt d new x i
  int-alike i y all (inl s) = absurd (omega (arith, s.word, y))
  int-alike i y e (inr (inl o)) =
      let n : object_words old w ≡ 1 + 1 = words-boxed old w 1 (sign_tag i * 4) o.boxed.tag o.boxed.header (sign-small i) in
      inr (inl (record {
        big = o.big;
        boxed = boxed (sign_tag i) 1 n (omega (arith, e, n)) o.boxed;
        digit = boxed-word (sign_tag i) 1 1 (x / 4 + 1) (w / 4 + 1) n o.boxed (omega (arith, e, n)) (omega arith) (omega arith) refl refl ∙ o.digit;
        range = o.range;
      }))
  int-alike i y e (inr (inr o)) =
      let n : object_words old w ≡ 1 + 2 = words-boxed old w 2 (sign_tag i * 4) o.boxed.tag o.boxed.header (sign-small i) in
      let low : get_or new (x / 4 + 1) 0 ≡ get_or old (w / 4 + 1) 0 = boxed-word (sign_tag i) 2 1 (x / 4 + 1) (w / 4 + 1) n o.boxed (omega (arith, e, n)) (omega arith) (omega arith) refl refl in
      let high : get_or new (x / 4 + 2) 0 ≡ get_or old (w / 4 + 2) 0 = boxed-word (sign_tag i) 2 2 (x / 4 + 2) (w / 4 + 2) n o.boxed (omega (arith, e, n)) (omega arith) (omega arith) refl refl in
      inr (inr (record {
        boxed = boxed (sign_tag i) 2 n (omega (arith, e, n)) o.boxed;
        low = rw low o.low;
        high = rw high o.high;
        digits = rw (low, high) o.digits;
        range = o.range;
      }))

  counted : (t : Tree) → Stands c shared old w t → IsPointer w → first_traced old w + trees_len (parts_of t) ≡ object_words old w
  counted t s i = (scanned c shared old w t s i).ends

  row-at : (p q : ℕ) (ts : Trees) → p ≡ q → RowStands d shared new p ts → RowStands d shared new q ts
  row-at p q ts e row = let P : ℕ → Type 0 = λ a. RowStands d shared new a ts in subst P e row

  -- The tuple of a map's keys, as it stands.
  tuple-of : (v : ℕ) (ps : Pairs) → Stands d shared new v (Tuple (keys_of ps)) → IsTuple d new v (pairs_len ps) × KeysStand d shared new (v / 4 + 1) ps
  unfolding Stands
  tuple-of v ps (o, row) = let P : ℕ → Type 0 = λ n. IsTuple d new v n in (subst P (keys-len ps) o, row-keys d shared new (v / 4 + 1) ps row)

  pub alike : (t : Tree) → IsPointer w → Stands c shared old w t → RowStands d shared new (x / 4 + first_traced old w) (parts_of t) → Stands d shared new x t
  unfolding Stands RowStands
  alike (Int i) y s parts = int-alike i y (omega (arith, counted (Int i) s y)) s
  alike (Atom n) y s parts = absurd (omega (arith, s.word, y))
  alike (Pid n) y s parts = absurd (omega (arith, s.word, y))
  alike Nil y s parts = absurd (omega (arith, s, y))
  alike (Ref n i) y s parts =
      let k : object_words old w ≡ 1 + 2 = words-boxed old w 2 16 s.boxed.tag s.boxed.header (omega arith) in
      let e : first_traced old w ≡ 3 = omega (arith, counted (Ref n i) s y) in
      record {
        boxed = boxed REF 2 k (omega arith) s.boxed;
        number = boxed-word REF 2 1 (x / 4 + 1) (w / 4 + 1) k s.boxed (omega arith) (omega arith) (omega arith) refl refl ∙ s.number;
        count = boxed-word REF 2 2 (x / 4 + 2) (w / 4 + 2) k s.boxed (omega arith) (omega arith) (omega arith) refl refl ∙ s.count;
      }
  alike (Cons a b) y (o, sa, sb) parts =
      let k : object_words old w ≡ 2 = words-cons old w o.tag in
      let e : first_traced old w ≡ 0 = cons-traced old w o.tag in
      let (pa, (pb, none)) = row-at (x / 4 + first_traced old w) (x / 4) (a ▹ b ▹ end) (omega arith) parts in
      (record { tag = omega (arith, h.tag, o.tag); object = object 2 k (omega arith) o.object }, pa, pb)
  alike (Tuple ts) y (o, row) parts =
      let k : object_words old w ≡ 1 + trees_len ts = words-boxed old w (trees_len ts) 0 o.boxed.tag o.boxed.header (omega arith) in
      let e : first_traced old w ≡ 1 = omega (arith, counted (Tuple ts) (o, row) y) in
      (record { range = o.range; boxed = boxed TUPLE (trees_len ts) k (omega arith) o.boxed }, row-at (x / 4 + first_traced old w) (x / 4 + 1) ts (omega arith) parts)
  alike (Map ps) y (o, ks, vs) parts =
      let k : object_words old w ≡ 1 + (pairs_len ps + 2) = words-boxed old w (pairs_len ps + 2) 60 o.boxed.tag o.boxed.header (omega arith) in
      let e : first_traced old w ≡ 2 = omega (arith, counted (Map ps) (o, ks, vs) y, values-len ps) in
      let (keys, values) = row-at (x / 4 + first_traced old w) (x / 4 + 2) (Tuple (keys_of ps) ▹ values_of ps) (omega arith) parts in
      let (kt, kr) = tuple-of (get_or new (x / 4 + 2) 0) ps keys in (
        record {
          range = o.range;
          boxed = boxed MAP (pairs_len ps + 2) k (omega arith) o.boxed;
          count = boxed-word MAP (pairs_len ps + 2) 1 (x / 4 + 1) (w / 4 + 1) k o.boxed (omega arith) (omega arith) (omega arith) refl refl ∙ o.count;
          keys = kt;
        },
        kr,
        row-values d shared new (x / 4 + 3) ps (row-at (x / 4 + 2 + 1) (x / 4 + 3) (values_of ps) (omega arith) values),
      )
  alike (Bin bytes) y s parts =
      let k : object_words old w ≡ 1 + (1 + bin_words (length bytes)) = words-boxed old w (1 + bin_words (length bytes)) 36 s.boxed.tag s.boxed.header (omega arith) in
      let e : first_traced old w ≡ object_words old w = omega (arith, counted (Bin bytes) s y) in
      record {
        range = s.range;
        boxed = boxed HEAP_BIN (1 + bin_words (length bytes)) k (omega (arith, e, k)) s.boxed;
        size = boxed-word HEAP_BIN (1 + bin_words (length bytes)) 1 (x / 4 + 1) (w / 4 + 1) k s.boxed (omega (arith, e, k)) (omega arith) (omega arith) refl refl ∙ s.size;
        content = record {
          each = λ i a below place.
              ap (λ b. byte_of b (i % 8)) (boxed-word HEAP_BIN (1 + bin_words (length bytes)) (2 + i / 8) a (w / 4 + 2 + i / 8) k s.boxed (omega (arith, e, k)) (omega arith) (omega arith)
              (omega arith) (omega arith)) ∙ s.content.each i (w / 4 + 2 + i / 8) below refl;
        };
      }
  alike (Shared id) y s parts =
      let k : object_words old w ≡ 1 + 5 = words-boxed old w 5 32 s.holder.tag s.holder.header (omega arith) in
      let e : first_traced old w ≡ 6 = omega (arith, counted (Shared id) s y) in
      let P : ℕ → Type 0 = λ a. IsBinRecord d new a id (shared_bytes shared id) in
      record {
        from_one = s.from_one;
        known = s.known;
        holder = record {
          tag = omega (arith, h.tag, s.holder.tag);
          within = omega (arith, h.within, k);
          header = plain 0 (x / 4) (w / 4) FIRST (omega arith) (omega arith) (omega arith) (omega arith) (omega arith) s.holder.first ∙ s.holder.header;
          size = plain 1 (x / 4 + 1) (w / 4 + 1) FURTHER (omega arith) (omega arith) refl refl (omega arith) s.holder.second ∙ s.holder.size;
          bytes_word = plain 4 (x / 4 + 4) (w / 4 + 4) FURTHER (omega arith) (omega arith) refl refl (omega arith) s.holder.fifth ∙ s.holder.bytes_word;
          flags_word = plain 5 (x / 4 + 5) (w / 4 + 5) FURTHER (omega arith) (omega arith) refl refl (omega arith) s.holder.sixth ∙ s.holder.flags_word;
          first = role 0 (x / 4) (w / 4) FIRST (omega arith) (omega arith) (omega arith) (inr (omega arith, omega arith)) s.holder.first;
          second = role 1 (x / 4 + 1) (w / 4 + 1) FURTHER (omega arith) refl refl (inr (omega arith, omega arith)) s.holder.second;
          next = role 2 (x / 4 + 2) (w / 4 + 2) NEXT (omega arith) refl refl (inl refl) s.holder.next;
          names = role 3 (x / 4 + 3) (w / 4 + 3) NAMES (omega arith) refl refl (inr (omega arith, omega arith)) s.holder.names;
          fifth = role 4 (x / 4 + 4) (w / 4 + 4) FURTHER (omega arith) refl refl (inr (omega arith, omega arith)) s.holder.fifth;
          sixth = role 5 (x / 4 + 5) (w / 4 + 5) FURTHER (omega arith) refl refl (inr (omega arith, omega arith)) s.holder.sixth;
        };
        record_is = subst P (sym (plain 3 (x / 4 + 3) (w / 4 + 3) NAMES (omega arith) (omega arith) refl refl (omega arith) s.holder.names))
            (h.bins (get_or old (w / 4 + 3) 0) id (shared_bytes shared id) s.record_is);
      }
  alike (Part base offset len) y (o, is, sb) parts =
      let k : object_words old w ≡ 1 + 4 = words-boxed old w 4 40 o.boxed.tag o.boxed.header (omega arith) in
      let e : first_traced old w ≡ 4 = omega (arith, counted (Part base offset len) (o, is, sb) y) in
      let (pb, none) = row-at (x / 4 + first_traced old w) (x / 4 + 4) (base ▹ end) (omega arith) parts in (
        record {
          boxed = boxed SUB_BIN 4 k (omega arith) o.boxed;
          size = boxed-word SUB_BIN 4 1 (x / 4 + 1) (w / 4 + 1) k o.boxed (omega arith) (omega arith) (omega arith) refl refl ∙ o.size;
          start = boxed-word SUB_BIN 4 2 (x / 4 + 2) (w / 4 + 2) k o.boxed (omega arith) (omega arith) (omega arith) refl refl ∙ o.start;
          bits = boxed-word SUB_BIN 4 3 (x / 4 + 3) (w / 4 + 3) k o.boxed (omega arith) (omega arith) (omega arith) refl refl ∙ o.bits;
          inside = o.inside;
        },
        is,
        pb,
      )
  alike (Fun name arity creator env) y (o, row) parts =
      let k : object_words old w ≡ 1 + (trees_len env + 5) = words-boxed old w (trees_len env + 5) 20 o.tag o.header (omega arith) in
      let e : first_traced old w ≡ 6 = omega (arith, counted (Fun name arity creator env) (o, row) y) in
      let P : ℕ → Type 0 = λ a. IsFunRecord d new a name arity in (
        record {
          range = o.range;
          creator_range = o.creator_range;
          tag = omega (arith, h.tag, o.tag);
          within = omega (arith, h.within, k);
          header = plain 0 (x / 4) (w / 4) FIRST (omega arith) (omega arith) (omega arith) (omega arith) (omega arith) o.first ∙ o.header;
          arity_word = plain 3 (x / 4 + 3) (w / 4 + 3) FURTHER (omega arith) (omega arith) refl refl (omega arith) (o.others (w / 4 + 3) (omega arith) (omega arith)) ∙ o.arity_word;
          size = plain 4 (x / 4 + 4) (w / 4 + 4) FURTHER (omega arith) (omega arith) refl refl (omega arith) (o.others (w / 4 + 4) (omega arith) (omega arith)) ∙ o.size;
          creator_word = plain 5 (x / 4 + 5) (w / 4 + 5) FURTHER (omega arith) (omega arith) refl refl (omega arith) (o.others (w / 4 + 5) (omega arith) (omega arith)) ∙ o.creator_word;
          record_is = subst P (sym (plain 1 (x / 4 + 1) (w / 4 + 1) NAMES (omega arith) (omega arith) refl refl (omega arith) o.names)) (h.funs (get_or old (w / 4 + 1) 0) name arity o.record_is);
          first = role 0 (x / 4) (w / 4) FIRST (omega arith) (omega arith) (omega arith) (inr (omega arith, omega arith)) o.first;
          names = role 1 (x / 4 + 1) (w / 4 + 1) NAMES (omega arith) refl refl (inr (omega arith, omega arith)) o.names;
          next = role 2 (x / 4 + 2) (w / 4 + 2) NEXT (omega arith) refl refl (inl refl) o.next;
          others = λ q above below. role (q - x / 4) q (w / 4 + (q - x / 4)) FURTHER (omega arith) (omega arith) refl (inr (omega arith, omega arith))
              (o.others (w / 4 + (q - x / 4)) (omega arith) (omega arith));
        },
        row-at (x / 4 + first_traced old w) (x / 4 + 6) env (omega arith) parts,
      )
