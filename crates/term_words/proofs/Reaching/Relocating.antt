-- The trees of what lies at new places, and what roots reach there.
use Rattle.std.proofs.Common.{◌≡◌, ℕ, ◌+◌, ◌-◌, ◌*◌, ◌/◌, ◌%◌, ◌<◌, ◌≤◌, ◌⊎◌, ◌==◌, Bool, true, false, List, [], ◌∷◌, length, get_or, map, suc, refl, sym, ◌∙◌, ap, subst, arith, inl, inr, ℤ, pos, negsuc}
use Rattle.std.proofs.lemmas.Bool.Decides.{nat_tests}
use Rattle.std.proofs.lemmas.List.{length-map, get_or-map}
use Rattle.plain_term.specs.Measures.{bin_words}
use Rattle.plain_term.specs.Bytes.{shared_bytes}
use Rattle.plain_term.specs.Tree.{Tree, Trees, Pairs, trees_len, pairs_len, keys_of}
use Rattle.plain_term.specs.Tree.Tree.{Int, Atom, Pid, Ref, Nil, Cons, Tuple, Map, Bin, Shared, Part, Fun}
use Rattle.plain_term.specs.Tree.Trees.{end, ◌▹◌}
use Rattle.plain_term.specs.Tree.Pairs.{stop, pair}
use Rattle.term_tags.specs.declared.layouts.TheConstants.{TUPLE, REF, HEAP_BIN, SUB_BIN, MAP}
use Rattle.term_words.specs.Role.{NEXT, FIRST, FURTHER, NAMES}
use Rattle.term_words.specs.Object.{byte_of, IsObject, IsBoxed, IsInt, IsTuple, IsBinRecord, IsFunRecord, IsPointer, object_words, sign_tag}
use Rattle.term_words.specs.Reach.{Reach, IsNamed, root, part, first_traced, parts_of}
use Rattle.term_words.specs.Stands.{Stands, RowStands, KeysStand, ValuesStand, AllStand}
use Rattle.term_words.specs.Relocated.{IsMovedTo, IsCopiedTo, Relocated}
use Rattle.term_words.proofs.Placing.Apart.{words-cons, words-boxed, no-header, header-there}
use Rattle.term_words.proofs.Reaching.Carrying.{in-object}
use Rattle.term_words.proofs.ByKind.Pairs.{values-len, keys-len, keys-row}
use Rattle.term_words.proofs.Reaching.Reached.{scanned, reached, cons-traced}
use Rattle.term_words.proofs.Placing.Roles.{first-role, object-some}
use Rattle.term_words.proofs.ByKind.Shapes.{told}
use Rattle.term_words.proofs.Totals.Members.{pointer-or-not}
use Rattle.term_words.proofs.Framing.Records.{bin-copied, fun-copied}

some-or-none : (n : ℕ) → (0 < n) ⊎ (n ≡ 0)
some-or-none n = grind arith

-- The header of an object is not traced.
pub header-first : (c : ℕ → ℕ → Bool) (shared : List (List ℕ)) (mem : List ℕ) (w : ℕ) (t : Tree) → Stands c shared mem w t → w % 4 ≡ 2 → 0 < first_traced mem w
unfolding AllStand
header-first c shared mem w t s tag =
    elim (some-or-none (first_traced mem w)) [
      | inl some ↦ some
      | inr none ↦ (let (u, there) = reached c shared mem (w ∷ []) (t ▹ end) (s, tt) (get_or mem (w / 4 + 0) 0)
          (part w 0 (get_or mem (w / 4 + 0) 0) (root 0 w (omega arith) refl) (inr tag) (omega arith) (object-some mem w) refl) in
          let header : get_or mem (w / 4) 0 % 4 ≡ 0 = header-there t w (get_or mem (w / 4) 0) (told c shared mem w t s) tag in
          let same : w / 4 ≡ w / 4 + 0 = omega arith in
          let P : ℕ → Type 0 = λ q. get_or mem q 0 % 4 ≡ 0 in
          absurd (no-header u (get_or mem (w / 4 + 0) 0) (get_or mem (get_or mem (w / 4 + 0) 0 / 4) 0) (told c shared mem (get_or mem (w / 4 + 0) 0) u there) (subst P same header)))
    ]

-- Boxed words whose headers are the same have as many words, and traced ones.
same-header : (old new : List ℕ) (w x : ℕ) → w % 4 ≡ 2 → x % 4 ≡ 2 → get_or new (x / 4) 0 ≡ get_or old (w / 4) 0 → (object_words new x ≡ object_words old w) × (first_traced new x ≡ first_traced old w)
same-header old new w x tag there e =
    let a : (w % 4 == 1) ≡ false = grind (arith, nat_tests) in
    let b : (x % 4 == 1) ≡ false = grind (arith, nat_tests) in
    (rw (a, b, e) refl, rw (a, b, e) refl)

module _ (c d : ℕ → ℕ → Bool) (shared : List (List ℕ)) (old new roots : List ℕ) (f g : ℕ → ℕ) (z : Relocated c d old new roots f g) where
  -- Words and roles of an object by place.

  role : (w j q a k : ℕ) → IsMovedTo c d old new f g w → j < object_words old w → q ≡ f w / 4 + j → a ≡ w / 4 + j → c a k ≡ true → d q k ≡ true
  role w j q a k h below e i t = let P : ℕ → Type 0 = λ y. c y k ≡ true in h.roles j q k below e (subst P i t)

  plain : (w j q a : ℕ) → IsMovedTo c d old new f g w → j < first_traced old w → j < object_words old w → q ≡ f w / 4 + j → a ≡ w / 4 + j → (c a FIRST ≡ true) ⊎ (c a FURTHER ≡ true)
      → get_or new q 0 ≡ get_or old a 0
  plain w j q a h less below e i t =
      let P : ℕ → Type 0 = λ y. (c y FIRST ≡ true) ⊎ (c y FURTHER ≡ true) in
      h.same j q less below e (subst P i t) ∙ ap (λ y. get_or old y 0) (sym i)

  mapped : (w j q a : ℕ) → IsMovedTo c d old new f g w → first_traced old w ≤ j → j < object_words old w → q ≡ f w / 4 + j → a ≡ w / 4 + j → get_or new q 0 ≡ f (get_or old a 0)
  mapped w j q a h from below e i = h.traced j q from below e ∙ ap (λ y. f (get_or old y 0)) (sym i)

  reach-at : (w j a : ℕ) → Reach old roots w → IsPointer w → first_traced old w ≤ j → j < object_words old w → a ≡ w / 4 + j → Reach old roots (get_or old a 0)
  reach-at w j a r i from below e = part w j (get_or old a 0) r i from below (ap (λ y. get_or old y 0) e)

  -- A word of an object, and the object.

  of-object : (p n a : ℕ) → IsObject c old p n → p ≤ a → a < p + n → (c a FIRST ≡ true) ⊎ (c a FURTHER ≡ true)
  of-object p n a o from below = in-object c old p n a o from below

  object : (w n : ℕ) → IsMovedTo c d old new f g w → object_words old w ≡ n → 0 < n → IsObject c old (w / 4) n → IsObject d new (f w / 4) n
  object w n h e some o = record {
    within = omega (arith, h.within, e);
    first = role w 0 (f w / 4) (w / 4) FIRST h (omega (arith, e)) (omega arith) (omega arith) o.first;
    others = λ q above below. role w (q - f w / 4) q (w / 4 + (q - f w / 4)) FURTHER h (omega (arith, e)) (omega arith) refl (o.others (w / 4 + (q - f w / 4)) (omega arith) (omega arith));
  }

  boxed : (w subtag arity : ℕ) → IsMovedTo c d old new f g w → object_words old w ≡ 1 + arity → 0 < first_traced old w → IsBoxed c old w subtag arity → IsBoxed d new (f w) subtag arity
  boxed w subtag arity h e some o = record {
    tag = omega (arith, h.tag, o.tag);
    header = plain w 0 (f w / 4) (w / 4) h some (omega (arith, e)) (omega arith) (omega arith) (inl o.object.first) ∙ o.header;
    object = object w (1 + arity) h e (omega arith) o.object;
  }

  boxed-word : (w subtag arity j q a : ℕ) → IsMovedTo c d old new f g w → object_words old w ≡ 1 + arity → IsBoxed c old w subtag arity → j < first_traced old w → j < 1 + arity → q ≡ f w / 4 + j
      → a ≡ w / 4 + j
      → get_or new q 0 ≡ get_or old a 0
  boxed-word w subtag arity j q a h e o less below at from = plain w j q a h less (omega (arith, e)) at from (of-object (w / 4) (1 + arity) a o.object (omega arith) (omega arith))

  sign-small : (i : ℤ) → sign_tag i * 4 < 64
  sign-small (pos n) = omega arith
  sign-small (negsuc n) = omega arith

  counted : (w : ℕ) (t : Tree) → Stands c shared old w t → IsPointer w → first_traced old w + trees_len (parts_of t) ≡ object_words old w
  counted w t s i = (scanned c shared old w t s i).ends

  int-moved : (w : ℕ) (i : ℤ) → Reach old roots w → (IsPointer w → first_traced old w ≡ object_words old w) → IsInt c old w i → IsInt d new (f w) i
  int-moved w i r all (inl s) = inl (record { small = s.small; word = z.immediates w r (λ y. omega (arith, s.word, y)) ∙ s.word })
  int-moved w i r all (inr (inl o)) =
      let h : IsMovedTo c d old new f g w = z.objects w r (inr o.boxed.tag) in
      let n : object_words old w ≡ 1 + 1 = words-boxed old w 1 (sign_tag i * 4) o.boxed.tag o.boxed.header (sign-small i) in
      let e : first_traced old w ≡ object_words old w = all (inr o.boxed.tag) in
      inr (inl (record {
        big = o.big;
        boxed = boxed w (sign_tag i) 1 h n (omega (arith, e, n)) o.boxed;
        digit = boxed-word w (sign_tag i) 1 1 (f w / 4 + 1) (w / 4 + 1) h n o.boxed (omega (arith, e, n)) (omega arith) refl refl ∙ o.digit;
        range = o.range;
      }))
  int-moved w i r all (inr (inr o)) =
      let h : IsMovedTo c d old new f g w = z.objects w r (inr o.boxed.tag) in
      let n : object_words old w ≡ 1 + 2 = words-boxed old w 2 (sign_tag i * 4) o.boxed.tag o.boxed.header (sign-small i) in
      let e : first_traced old w ≡ object_words old w = all (inr o.boxed.tag) in
      let low : get_or new (f w / 4 + 1) 0 ≡ get_or old (w / 4 + 1) 0 = boxed-word w (sign_tag i) 2 1 (f w / 4 + 1) (w / 4 + 1) h n o.boxed (omega (arith, e, n)) (omega arith) refl refl in
      let high : get_or new (f w / 4 + 2) 0 ≡ get_or old (w / 4 + 2) 0 = boxed-word w (sign_tag i) 2 2 (f w / 4 + 2) (w / 4 + 2) h n o.boxed (omega (arith, e, n)) (omega arith) refl refl in
      inr (inr (record {
        boxed = boxed w (sign_tag i) 2 h n (omega (arith, e, n)) o.boxed;
        low = rw low o.low;
        high = rw high o.high;
        digits = rw (low, high) o.digits;
        range = o.range;
      }))

  -- Places of a row, one by one.

  reach-zero : (a : ℕ) → Reach old roots (get_or old (a + 0) 0) → Reach old roots (get_or old a 0)
  reach-zero a r = let e : a + 0 ≡ a = omega arith in let P : ℕ → Type 0 = λ y. Reach old roots (get_or old y 0) in subst P e r

  reach-next : (a j : ℕ) → Reach old roots (get_or old (a + (1 + j)) 0) → Reach old roots (get_or old (a + 1 + j) 0)
  reach-next a j r = let e : a + (1 + j) ≡ a + 1 + j = omega arith in let P : ℕ → Type 0 = λ y. Reach old roots (get_or old y 0) in subst P e r

  image-zero : (a b : ℕ) → get_or new (b + 0) 0 ≡ f (get_or old (a + 0) 0) → f (get_or old a 0) ≡ get_or new b 0
  image-zero a b i =
      let e : a ≡ a + 0 = omega arith in
      let h : b + 0 ≡ b = omega arith in
      ap (λ y. f (get_or old y 0)) e ∙ sym i ∙ ap (λ y. get_or new y 0) h

  image-next : (a b j : ℕ) → get_or new (b + (1 + j)) 0 ≡ f (get_or old (a + (1 + j)) 0) → get_or new (b + 1 + j) 0 ≡ f (get_or old (a + 1 + j) 0)
  image-next a b j i =
      let e : a + (1 + j) ≡ a + 1 + j = omega arith in
      let h : b + 1 + j ≡ b + (1 + j) = omega arith in
      ap (λ y. get_or new y 0) h ∙ i ∙ ap (λ y. f (get_or old y 0)) e

  -- A traced word that stands there.
  there : (a b : ℕ) (t : Tree) → get_or new b 0 ≡ f (get_or old a 0) → Stands d shared new (f (get_or old a 0)) t → Stands d shared new (get_or new b 0) t
  there a b t e s = let P : ℕ → Type 0 = λ y. Stands d shared new y t in subst P (sym e) s

  -- The keys of a map are a tuple.
  first-keys : (w : ℕ) (ps : Pairs) → IsTuple c old w (pairs_len ps) → KeysStand c shared old (w / 4 + 1) ps → object_words old w ≡ 1 + pairs_len ps → first_traced old w ≡ 1
  unfolding Stands
  first-keys w ps o ks k =
      let P : ℕ → Type 0 = λ n. IsTuple c old w n in
      omega (arith, counted w (Tuple (keys_of ps)) (subst P (sym (keys-len ps)) o, keys-row c shared old (w / 4 + 1) ps ks) (inr o.boxed.tag), keys-len ps)

  mutual
    unfolding Stands RowStands KeysStand ValuesStand

    -- What a reached word has become stands for its tree.
    pub settled : (w : ℕ) (t : Tree) → Reach old roots w → Stands c shared old w t → Stands d shared new (f w) t
    settled w (Int i) r s = int-moved w i r (λ y. omega (arith, counted w (Int i) s y)) s
    settled w (Atom n) r s = record { range = s.range; word = z.immediates w r (λ y. omega (arith, s.word, y)) ∙ s.word }
    settled w (Pid n) r s = record { range = s.range; word = z.immediates w r (λ y. omega (arith, s.word, y)) ∙ s.word }
    settled w Nil r s = z.immediates w r (λ y. omega (arith, s, y)) ∙ s
    settled w (Ref n i) r s =
        let y : IsPointer w = inr s.boxed.tag in
        let h : IsMovedTo c d old new f g w = z.objects w r y in
        let k : object_words old w ≡ 1 + 2 = words-boxed old w 2 16 s.boxed.tag s.boxed.header (omega arith) in
        let e : first_traced old w ≡ 3 = omega (arith, counted w (Ref n i) s y) in
        record {
          boxed = boxed w REF 2 h k (omega arith) s.boxed;
          number = boxed-word w REF 2 1 (f w / 4 + 1) (w / 4 + 1) h k s.boxed (omega arith) (omega arith) refl refl ∙ s.number;
          count = boxed-word w REF 2 2 (f w / 4 + 2) (w / 4 + 2) h k s.boxed (omega arith) (omega arith) refl refl ∙ s.count;
        }
    settled w (Cons a b) r (o, sa, sb) =
        let y : IsPointer w = inl o.tag in
        let h : IsMovedTo c d old new f g w = z.objects w r y in
        let k : object_words old w ≡ 2 = words-cons old w o.tag in
        let e : first_traced old w ≡ 0 = cons-traced old w o.tag in (
          record { tag = omega (arith, h.tag, o.tag); object = object w 2 h k (omega arith) o.object },
          there (w / 4) (f w / 4) a (mapped w 0 (f w / 4) (w / 4) h (omega arith) (omega arith) (omega arith) (omega arith))
              (settled (get_or old (w / 4) 0) a (reach-at w 0 (w / 4) r y (omega arith) (omega arith) (omega arith)) sa),
          there (w / 4 + 1) (f w / 4 + 1) b (mapped w 1 (f w / 4 + 1) (w / 4 + 1) h (omega arith) (omega arith) refl refl)
              (settled (get_or old (w / 4 + 1) 0) b (reach-at w 1 (w / 4 + 1) r y (omega arith) (omega arith) refl) sb),
        )
    settled w (Tuple ts) r (o, row) =
        let y : IsPointer w = inr o.boxed.tag in
        let h : IsMovedTo c d old new f g w = z.objects w r y in
        let k : object_words old w ≡ 1 + trees_len ts = words-boxed old w (trees_len ts) 0 o.boxed.tag o.boxed.header (omega arith) in
        let e : first_traced old w ≡ 1 = omega (arith, counted w (Tuple ts) (o, row) y) in (
          record { range = o.range; boxed = boxed w TUPLE (trees_len ts) h k (omega arith) o.boxed },
          settled-row (w / 4 + 1) (f w / 4 + 1) ts (λ j below. reach-at w (1 + j) (w / 4 + 1 + j) r y (omega arith) (omega arith) (omega arith))
              (λ j below. mapped w (1 + j) (f w / 4 + 1 + j) (w / 4 + 1 + j) h (omega arith) (omega arith) (omega arith) (omega arith)) row,
        )
    settled w (Map ps) r (o, ks, vs) =
        let y : IsPointer w = inr o.boxed.tag in
        let h : IsMovedTo c d old new f g w = z.objects w r y in
        let k : object_words old w ≡ 1 + (pairs_len ps + 2) = words-boxed old w (pairs_len ps + 2) 60 o.boxed.tag o.boxed.header (omega arith) in
        let e : first_traced old w ≡ 2 = omega (arith, counted w (Map ps) (o, ks, vs) y, values-len ps) in
        let kr : Reach old roots (get_or old (w / 4 + 2) 0) = reach-at w 2 (w / 4 + 2) r y (omega arith) (omega arith) refl in
        let ky : IsPointer (get_or old (w / 4 + 2) 0) = inr o.keys.boxed.tag in
        let kh : IsMovedTo c d old new f g (get_or old (w / 4 + 2) 0) = z.objects (get_or old (w / 4 + 2) 0) kr ky in
        let kk : object_words old (get_or old (w / 4 + 2) 0) ≡ 1 + pairs_len ps = words-boxed old (get_or old (w / 4 + 2) 0) (pairs_len ps) 0 o.keys.boxed.tag o.keys.boxed.header (omega arith) in
        let ke : first_traced old (get_or old (w / 4 + 2) 0) ≡ 1 = first-keys (get_or old (w / 4 + 2) 0) ps o.keys ks kk in
        let ki : get_or new (f w / 4 + 2) 0 ≡ f (get_or old (w / 4 + 2) 0) = mapped w 2 (f w / 4 + 2) (w / 4 + 2) h (omega arith) (omega arith) refl refl in
        let K : ℕ → Type 0 = λ x. IsTuple d new x (pairs_len ps) in
        let Q : ℕ → Type 0 = λ x. KeysStand d shared new (x / 4 + 1) ps in (
          record {
            range = o.range;
            boxed = boxed w MAP (pairs_len ps + 2) h k (omega arith) o.boxed;
            count = boxed-word w MAP (pairs_len ps + 2) 1 (f w / 4 + 1) (w / 4 + 1) h k o.boxed (omega arith) (omega arith) refl refl ∙ o.count;
            keys = subst K (sym ki) (record { range = o.keys.range; boxed = boxed (get_or old (w / 4 + 2) 0) TUPLE (pairs_len ps) kh kk (omega arith) o.keys.boxed });
          },
          subst Q (sym ki) (settled-keys (get_or old (w / 4 + 2) 0 / 4 + 1) (f (get_or old (w / 4 + 2) 0) / 4 + 1) ps
              (λ j below. reach-at (get_or old (w / 4 + 2) 0) (1 + j) (get_or old (w / 4 + 2) 0 / 4 + 1 + j) kr ky (omega arith) (omega arith) (omega arith))
              (λ j below. mapped (get_or old (w / 4 + 2) 0) (1 + j) (f (get_or old (w / 4 + 2) 0) / 4 + 1 + j) (get_or old (w / 4 + 2) 0 / 4 + 1 + j) kh (omega arith) (omega arith) (omega arith)
              (omega arith)) ks),
          settled-values (w / 4 + 3) (f w / 4 + 3) ps (λ j below. reach-at w (3 + j) (w / 4 + 3 + j) r y (omega arith) (omega arith) (omega arith))
              (λ j below. mapped w (3 + j) (f w / 4 + 3 + j) (w / 4 + 3 + j) h (omega arith) (omega arith) (omega arith) (omega arith)) vs,
        )
    settled w (Bin bytes) r s =
        let y : IsPointer w = inr s.boxed.tag in
        let h : IsMovedTo c d old new f g w = z.objects w r y in
        let k : object_words old w ≡ 1 + (1 + bin_words (length bytes)) = words-boxed old w (1 + bin_words (length bytes)) 36 s.boxed.tag s.boxed.header (omega arith) in
        let e : first_traced old w ≡ object_words old w = omega (arith, counted w (Bin bytes) s y) in
        record {
          range = s.range;
          boxed = boxed w HEAP_BIN (1 + bin_words (length bytes)) h k (omega (arith, e, k)) s.boxed;
          size = boxed-word w HEAP_BIN (1 + bin_words (length bytes)) 1 (f w / 4 + 1) (w / 4 + 1) h k s.boxed (omega (arith, e, k)) (omega arith) refl refl ∙ s.size;
          content = record {
            each = λ i a below place.
                ap (λ b. byte_of b (i % 8)) (boxed-word w HEAP_BIN (1 + bin_words (length bytes)) (2 + i / 8) a (w / 4 + 2 + i / 8) h k s.boxed (omega (arith, e, k)) (omega arith) (omega arith)
                (omega arith)) ∙ s.content.each i (w / 4 + 2 + i / 8) below refl;
          };
        }
    settled w (Shared id) r s =
        let y : IsPointer w = inr s.holder.tag in
        let h : IsMovedTo c d old new f g w = z.objects w r y in
        let k : object_words old w ≡ 1 + 5 = words-boxed old w 5 32 s.holder.tag s.holder.header (omega arith) in
        let e : first_traced old w ≡ 6 = omega (arith, counted w (Shared id) s y) in
        let v : ℕ = get_or old (w / 4 + 3) 0 in
        let named : IsNamed c old roots (get_or old (w / 4 + 3) 0) = record { w = w; j = 3; reached = r; pointer = y; below = omega arith; role = s.holder.names; names = refl } in
        let copied : IsCopiedTo c d old new (get_or old (w / 4 + 3) 0) (g (get_or old (w / 4 + 3) 0)) (4 + bin_words (length (shared_bytes shared id))) =
        z.records (get_or old (w / 4 + 3) 0) (4 + bin_words (length (shared_bytes shared id))) named (inl (id, shared_bytes shared id, s.record_is, refl)) in
        let P : ℕ → Type 0 = λ x. IsBinRecord d new x id (shared_bytes shared id) in
        record {
          from_one = s.from_one;
          known = s.known;
          holder = record {
            tag = omega (arith, h.tag, s.holder.tag);
            within = omega (arith, h.within, k);
            header = plain w 0 (f w / 4) (w / 4) h (omega arith) (omega arith) (omega arith) (omega arith) (inl s.holder.first) ∙ s.holder.header;
            size = plain w 1 (f w / 4 + 1) (w / 4 + 1) h (omega arith) (omega arith) refl refl (inr s.holder.second) ∙ s.holder.size;
            bytes_word = plain w 4 (f w / 4 + 4) (w / 4 + 4) h (omega arith) (omega arith) refl refl (inr s.holder.fifth) ∙ s.holder.bytes_word;
            flags_word = plain w 5 (f w / 4 + 5) (w / 4 + 5) h (omega arith) (omega arith) refl refl (inr s.holder.sixth) ∙ s.holder.flags_word;
            first = role w 0 (f w / 4) (w / 4) FIRST h (omega arith) (omega arith) (omega arith) s.holder.first;
            second = role w 1 (f w / 4 + 1) (w / 4 + 1) FURTHER h (omega arith) refl refl s.holder.second;
            next = role w 2 (f w / 4 + 2) (w / 4 + 2) NEXT h (omega arith) refl refl s.holder.next;
            names = role w 3 (f w / 4 + 3) (w / 4 + 3) NAMES h (omega arith) refl refl s.holder.names;
            fifth = role w 4 (f w / 4 + 4) (w / 4 + 4) FURTHER h (omega arith) refl refl s.holder.fifth;
            sixth = role w 5 (f w / 4 + 5) (w / 4 + 5) FURTHER h (omega arith) refl refl s.holder.sixth;
          };
          record_is = subst P (sym (h.names 3 (f w / 4 + 3) (omega arith) refl s.holder.names))
              (bin-copied c d old new (get_or old (w / 4 + 3) 0) (g (get_or old (w / 4 + 3) 0)) id (shared_bytes shared id) copied s.record_is);
        }
    settled w (Part base offset len) r (o, is, sb) =
        let y : IsPointer w = inr o.boxed.tag in
        let h : IsMovedTo c d old new f g w = z.objects w r y in
        let k : object_words old w ≡ 1 + 4 = words-boxed old w 4 40 o.boxed.tag o.boxed.header (omega arith) in
        let e : first_traced old w ≡ 4 = omega (arith, counted w (Part base offset len) (o, is, sb) y) in (
          record {
            boxed = boxed w SUB_BIN 4 h k (omega arith) o.boxed;
            size = boxed-word w SUB_BIN 4 1 (f w / 4 + 1) (w / 4 + 1) h k o.boxed (omega arith) (omega arith) refl refl ∙ o.size;
            start = boxed-word w SUB_BIN 4 2 (f w / 4 + 2) (w / 4 + 2) h k o.boxed (omega arith) (omega arith) refl refl ∙ o.start;
            bits = boxed-word w SUB_BIN 4 3 (f w / 4 + 3) (w / 4 + 3) h k o.boxed (omega arith) (omega arith) refl refl ∙ o.bits;
            inside = o.inside;
          },
          is,
          there (w / 4 + 4) (f w / 4 + 4) base (mapped w 4 (f w / 4 + 4) (w / 4 + 4) h (omega arith) (omega arith) refl refl)
              (settled (get_or old (w / 4 + 4) 0) base (reach-at w 4 (w / 4 + 4) r y (omega arith) (omega arith) refl) sb),
        )
    settled w (Fun name arity creator env) r (o, row) =
        let y : IsPointer w = inr o.tag in
        let h : IsMovedTo c d old new f g w = z.objects w r y in
        let k : object_words old w ≡ 1 + (trees_len env + 5) = words-boxed old w (trees_len env + 5) 20 o.tag o.header (omega arith) in
        let e : first_traced old w ≡ 6 = omega (arith, counted w (Fun name arity creator env) (o, row) y) in
        let named : IsNamed c old roots (get_or old (w / 4 + 1) 0) = record { w = w; j = 1; reached = r; pointer = y; below = omega arith; role = o.names; names = refl } in
        let copied : IsCopiedTo c d old new (get_or old (w / 4 + 1) 0) (g (get_or old (w / 4 + 1) 0)) 4 = z.records (get_or old (w / 4 + 1) 0) 4 named (inr (name, arity, o.record_is, refl)) in
        let P : ℕ → Type 0 = λ x. IsFunRecord d new x name arity in (
          record {
            range = o.range;
            creator_range = o.creator_range;
            tag = omega (arith, h.tag, o.tag);
            within = omega (arith, h.within, k);
            header = plain w 0 (f w / 4) (w / 4) h (omega arith) (omega arith) (omega arith) (omega arith) (inl o.first) ∙ o.header;
            arity_word = plain w 3 (f w / 4 + 3) (w / 4 + 3) h (omega arith) (omega arith) refl refl (inr (o.others (w / 4 + 3) (omega arith) (omega arith))) ∙ o.arity_word;
            size = plain w 4 (f w / 4 + 4) (w / 4 + 4) h (omega arith) (omega arith) refl refl (inr (o.others (w / 4 + 4) (omega arith) (omega arith))) ∙ o.size;
            creator_word = plain w 5 (f w / 4 + 5) (w / 4 + 5) h (omega arith) (omega arith) refl refl (inr (o.others (w / 4 + 5) (omega arith) (omega arith))) ∙ o.creator_word;
            record_is = subst P (sym (h.names 1 (f w / 4 + 1) (omega arith) refl o.names))
                (fun-copied c d old new (get_or old (w / 4 + 1) 0) (g (get_or old (w / 4 + 1) 0)) name arity copied o.record_is);
            first = role w 0 (f w / 4) (w / 4) FIRST h (omega arith) (omega arith) (omega arith) o.first;
            names = role w 1 (f w / 4 + 1) (w / 4 + 1) NAMES h (omega arith) refl refl o.names;
            next = role w 2 (f w / 4 + 2) (w / 4 + 2) NEXT h (omega arith) refl refl o.next;
            others = λ q above below. role w (q - f w / 4) q (w / 4 + (q - f w / 4)) FURTHER h (omega arith) (omega arith) refl (o.others (w / 4 + (q - f w / 4)) (omega arith) (omega arith));
          },
          settled-row (w / 4 + 6) (f w / 4 + 6) env (λ j below. reach-at w (6 + j) (w / 4 + 6 + j) r y (omega arith) (omega arith) (omega arith))
              (λ j below. mapped w (6 + j) (f w / 4 + 6 + j) (w / 4 + 6 + j) h (omega arith) (omega arith) (omega arith) (omega arith)) row,
        )

    settled-row : (a b : ℕ) (ts : Trees) → ((j : ℕ) → j < trees_len ts → Reach old roots (get_or old (a + j) 0)) → ((j : ℕ) → j < trees_len ts → get_or new (b + j) 0 ≡ f (get_or old (a + j) 0))
        → RowStands c shared old a ts → RowStands d shared new b ts
    settled-row a b end reach image row = tt
    settled-row a b (t ▹ ts) reach image (first, rest) = (
      there a b t (sym (image-zero a b (image 0 (omega arith)))) (settled (get_or old a 0) t (reach-zero a (reach 0 (omega arith))) first),
      settled-row (a + 1) (b + 1) ts (λ j below. reach-next a j (reach (1 + j) (omega arith))) (λ j below. image-next a b j (image (1 + j) (omega arith))) rest,
    )

    settled-keys : (a b : ℕ) (ps : Pairs) → ((j : ℕ) → j < pairs_len ps → Reach old roots (get_or old (a + j) 0)) → ((j : ℕ) → j < pairs_len ps → get_or new (b + j) 0 ≡ f (get_or old (a + j) 0))
        → KeysStand c shared old a ps → KeysStand d shared new b ps
    settled-keys a b stop reach image row = tt
    settled-keys a b (pair x y ps) reach image (first, rest) = (
      there a b x (sym (image-zero a b (image 0 (omega arith)))) (settled (get_or old a 0) x (reach-zero a (reach 0 (omega arith))) first),
      settled-keys (a + 1) (b + 1) ps (λ j below. reach-next a j (reach (1 + j) (omega arith))) (λ j below. image-next a b j (image (1 + j) (omega arith))) rest,
    )

    settled-values : (a b : ℕ) (ps : Pairs) → ((j : ℕ) → j < pairs_len ps → Reach old roots (get_or old (a + j) 0)) → ((j : ℕ) → j < pairs_len ps → get_or new (b + j) 0 ≡ f (get_or old (a + j) 0))
        → ValuesStand c shared old a ps → ValuesStand d shared new b ps
    settled-values a b stop reach image row = tt
    settled-values a b (pair x y ps) reach image (first, rest) = (
      there a b y (sym (image-zero a b (image 0 (omega arith)))) (settled (get_or old a 0) y (reach-zero a (reach 0 (omega arith))) first),
      settled-values (a + 1) (b + 1) ps (λ j below. reach-next a j (reach (1 + j) (omega arith))) (λ j below. image-next a b j (image (1 + j) (omega arith))) rest,
    )

  -- What the roots reach has its words and its traced words at its new place.

  module _ (ts : Trees) (all : AllStand c shared old roots ts) where
    tag-of : (w : ℕ) → Reach old roots w → IsPointer w → IsPointer (f w)
    tag-of w r (inl tag) = inl (omega (arith, (z.objects w r (inl tag)).tag))
    tag-of w r (inr tag) = inr (omega (arith, (z.objects w r (inr tag)).tag))

    -- A word whose image is a pointer is one.
    pointer-before : (v : ℕ) → Reach old roots v → IsPointer (f v) → IsPointer v
    pointer-before v r p = elim (pointer-or-not v) [ inl q ↦ q | inr n ↦ (let P : ℕ → Type 0 = λ u. IsPointer u in subst P (z.immediates v r n) p) ]

    header-kept : (w : ℕ) (t : Tree) → Reach old roots w → w % 4 ≡ 2 → Stands c shared old w t → get_or new (f w / 4) 0 ≡ get_or old (w / 4) 0
    header-kept w t r tag s =
        plain w 0 (f w / 4) (w / 4) (z.objects w r (inr tag)) (header-first c shared old w t s tag) (object-some old w) (omega arith) (omega arith) (inl (first-role c shared old w t s (inr tag)))

    pub words-kept : (w : ℕ) → Reach old roots w → IsPointer w → (object_words new (f w) ≡ object_words old w) × (first_traced new (f w) ≡ first_traced old w)
    words-kept w r (inl tag) =
        let there : f w % 4 ≡ 1 = omega (arith, (z.objects w r (inl tag)).tag) in
        (words-cons new (f w) there ∙ sym (words-cons old w tag), cons-traced new (f w) there ∙ sym (cons-traced old w tag))
    words-kept w r (inr tag) =
        let (t, s) = reached c shared old roots ts all w r in
        same-header old new w (f w) tag (omega (arith, (z.objects w r (inr tag)).tag)) (header-kept w t r tag s)

    pub reach-moved : (w : ℕ) → Reach old roots w → Reach new (map f roots) (f w)
    reach-moved w (root i x below e) = root i (f w) (omega (arith, length-map roots f)) (ap f e ∙ sym (get_or-map f roots i 0 0 below))
    reach-moved w (part v j x r p from below e) =
        let (words, first) = words-kept v r p in
        part (f v) j (f w) (reach-moved v r) (tag-of v r p) (omega arith) (omega arith) (ap f e ∙ sym ((z.objects v r p).traced j (f v / 4 + j) from below refl))

    pub moved-reach : (x : ℕ) → Reach new (map f roots) x → (w : ℕ) × (Reach old roots w × (x ≡ f w))
    moved-reach x (root i y below e) =
        let short : i < length roots = omega (arith, length-map roots f) in
        (get_or roots i 0, (root i (get_or roots i 0) short refl, e ∙ get_or-map f roots i 0 0 short))
    moved-reach x (part y j a r p from below e) =
        let (v, (before, same)) = moved-reach y r in
        let q : IsPointer v = pointer-before v before (let P : ℕ → Type 0 = λ u. IsPointer u in subst P same p) in
        let (words, first) = words-kept v before q in
        let P : ℕ → Type 0 = λ u. (first_traced new u ≤ j) × ((j < object_words new u) × (x ≡ get_or new (u / 4 + j) 0)) in
        let (low, (high, word)) = subst P same (from, (below, e)) in
        let low2 : first_traced old v ≤ j = omega arith in
        let high2 : j < object_words old v = omega arith in
        (get_or old (v / 4 + j) 0, (part v j (get_or old (v / 4 + j) 0) before q low2 high2 refl, word ∙ (z.objects v before q).traced j (f v / 4 + j) low2 high2 refl))

  -- A list of reached words.
  pub settled-all : (ws : List ℕ) (ts : Trees) → ((i : ℕ) → i < length ws → Reach old roots (get_or ws i 0)) → AllStand c shared old ws ts → AllStand d shared new (map f ws) ts
  unfolding AllStand
  settled-all [] end reach all = tt
  settled-all [] (t ▹ ts) reach all = absurd all
  settled-all (w ∷ ws) end reach all = absurd all
  settled-all (w ∷ ws) (t ▹ ts) reach (first, rest) = (settled w t (reach 0 (omega arith)) first, settled-all ws ts (λ i below. reach (suc i) (omega arith)) rest)

  pub settled-roots : (ts : Trees) → AllStand c shared old roots ts → AllStand d shared new (map f roots) ts
  settled-roots ts all = settled-all roots ts (λ i below. root i (get_or roots i 0) below refl) all
