-- Which objects have a word `next` and one that names a record: holders and funs.
use Rattle.std.proofs.Common.{◌≡◌, ℕ, ◌+◌, ◌*◌, ◌/◌, ◌%◌, ◌<◌, ◌≤◌, ◌⊎◌, Bool, true, false, List, get_or, refl, sym, ◌∙◌, subst, arith, inl, inr, ℤ, pos, negsuc, ◌==◌}
use Rattle.std.proofs.lemmas.Bool.Decides.{nat_tests}
use Rattle.plain_term.specs.Tree.{Tree, trees_len, pairs_len}
use Rattle.plain_term.specs.Tree.Tree.{Int, Atom, Pid, Ref, Nil, Cons, Tuple, Map, Bin, Shared, Part, Fun}
use Rattle.plain_term.specs.Measures.{bin_words}
use Rattle.term_words.specs.Role.{NEXT, FIRST, FURTHER, NAMES, IsSingle}
use Rattle.term_words.specs.Object.{IsBoxed, IsInt, IsObject, IsPointer, object_words}
use Rattle.term_words.specs.Stands.{Stands}
use Rattle.term_words.proofs.Placing.Apart.{words-cons, words-boxed}
use Rattle.term_words.proofs.Reaching.Carrying.{in-object}
use Rattle.off_heap_list.specs.Links.{name_place}
use Rattle.off_heap_list.proofs.Chaining.Chained.{holder-place}

-- The object at a boxed pointer is a holder or a fun: its words `next` and the one that names its record.
pub record IsCounting (c : ℕ → ℕ → Bool) (mem : List ℕ) (w q : ℕ) : Type 0 where
  pub boxed : w % 4 ≡ 2
  pub next : c (w / 4 + 2) NEXT ≡ true
  pub at_next : c q NEXT ≡ true → q ≡ w / 4 + 2
  pub at_names : c q NAMES ≡ true → q ≡ name_place mem (w / 4)

-- A word that is `next`, or names a record.
abbrev pub Counts : (ℕ → ℕ → Bool) → ℕ → Type 0
Counts c q = (c q NEXT ≡ true) ⊎ (c q NAMES ≡ true)

module _ (c : ℕ → ℕ → Bool) (single : IsSingle c) where
  never : (q j : ℕ) → c q j ≡ true → (j ≡ NEXT → ⊥) → (j ≡ NAMES → ⊥) → Counts c q → ⊥
  never q j e far1 far2 (inl n) = far1 (single.one q j NEXT e n)
  never q j e far1 far2 (inr n) = far2 (single.one q j NAMES e n)

  at : (q a j : ℕ) → q ≡ a → c a j ≡ true → c q j ≡ true
  at q a j e h = let P : ℕ → Type 0 = λ z. c z j ≡ true in subst P (sym e) h

  none-plain : (q a j : ℕ) → q ≡ a → c a j ≡ true → (j ≡ FIRST) ⊎ (j ≡ FURTHER) → Counts c q → ⊥
  none-plain q a j e h of n = never q j (at q a j e h) (λ f. omega (arith, f, of)) (λ f. omega (arith, f, of)) n

  none-object : (mem : List ℕ) (p n q : ℕ) → IsObject c mem p n → p ≤ q → q < p + n → Counts c q → ⊥
  none-object mem p n q o from below k = elim (in-object c mem p n q o from below) [
    | inl e ↦ never q FIRST e (λ f. omega (arith, f)) (λ f. omega (arith, f)) k
    | inr e ↦ never q FURTHER e (λ f. omega (arith, f)) (λ f. omega (arith, f)) k
  ]

  none-boxed : (mem : List ℕ) (w subtag arity q : ℕ) → subtag < 16 → IsBoxed c mem w subtag arity → w / 4 ≤ q → q < w / 4 + object_words mem w → Counts c q → ⊥
  none-boxed mem w subtag arity q small o from below k =
      none-object mem (w / 4) (1 + arity) q o.object from (omega (arith, words-boxed mem w arity (subtag * 4) o.tag o.header (omega arith), below)) k

  none-int : (mem : List ℕ) (w : ℕ) (i : ℤ) (q : ℕ) → IsInt c mem w i → IsPointer w → w / 4 ≤ q → q < w / 4 + object_words mem w → Counts c q → ⊥
  none-int mem w i q (inl s) p from below k = omega (arith, s.word, p)
  none-int mem w (pos n) q (inr (inl o)) p from below k = none-boxed mem w 2 1 q (omega arith) o.boxed from below k
  none-int mem w (negsuc n) q (inr (inl o)) p from below k = none-boxed mem w 3 1 q (omega arith) o.boxed from below k
  none-int mem w (pos n) q (inr (inr o)) p from below k = none-boxed mem w 2 2 q (omega arith) o.boxed from below k
  none-int mem w (negsuc n) q (inr (inr o)) p from below k = none-boxed mem w 3 2 q (omega arith) o.boxed from below k

  -- A word that may be `next`, or one that names.
  next-alone : (q a : ℕ) → q ≡ a → c a NEXT ≡ true → c q NAMES ≡ true → ⊥
  next-alone q a e h n = let f : NEXT ≡ NAMES = single.one q NEXT NAMES (at q a NEXT e h) n in omega (arith, f)

  names-alone : (q a : ℕ) → q ≡ a → c a NAMES ≡ true → c q NEXT ≡ true → ⊥
  names-alone q a e h n = let f : NAMES ≡ NEXT = single.one q NAMES NEXT (at q a NAMES e h) n in omega (arith, f)

  fun-name : (mem : List ℕ) (p k : ℕ) → get_or mem p 0 ≡ (k + 5) * 64 + 20 → name_place mem p ≡ p + 1
  fun-name mem p k e = let f : (get_or mem p 0 == 352) ≡ false = grind (arith, nat_tests, e) in rw f refl

  pub counting : (shared : List (List ℕ)) (mem : List ℕ) (w : ℕ) (t : Tree) (q : ℕ) → Stands c shared mem w t → IsPointer w → w / 4 ≤ q → q < w / 4 + object_words mem w → Counts c q
      → IsCounting c mem w q
  unfolding Stands
  counting shared mem w (Int i) q s p from below k = absurd (none-int mem w i q s p from below k)
  counting shared mem w (Ref n m) q s p from below k = absurd (none-boxed mem w 4 2 q (omega arith) s.boxed from below k)
  counting shared mem w (Cons h t) q (o, sh, st) p from below k = absurd (none-object mem (w / 4) 2 q o.object from (omega (arith, words-cons mem w o.tag, below)) k)
  counting shared mem w (Tuple ts) q (o, row) p from below k = absurd (none-boxed mem w 0 (trees_len ts) q (omega arith) o.boxed from below k)
  counting shared mem w (Map ps) q (o, ks, vs) p from below k = absurd (none-boxed mem w 15 (pairs_len ps + 2) q (omega arith) o.boxed from below k)
  counting shared mem w (Bin bytes) q o p from below k = absurd (none-boxed mem w 9 (1 + bin_words _) q (omega arith) o.boxed from below k)
  counting shared mem w (Shared id) q o p from below k =
      let size6 : object_words mem w ≡ 6 = words-boxed mem w 5 32 o.holder.tag o.holder.header (omega arith) in
      let which : (q ≡ w / 4) ⊎ ((q ≡ w / 4 + 1) ⊎ ((q ≡ w / 4 + 2) ⊎ ((q ≡ w / 4 + 3) ⊎ ((q ≡ w / 4 + 4) ⊎ (q ≡ w / 4 + 5))))) = grind arith in
      elim which [
        | inl e ↦ absurd (none-plain q (w / 4) FIRST e o.holder.first (inl refl) k)
        | inr (inl e) ↦ absurd (none-plain q (w / 4 + 1) FURTHER e o.holder.second (inr refl) k)
        | inr (inr (inl e)) ↦ record { boxed = o.holder.tag; next = o.holder.next; at_next = λ n. e; at_names = λ n. absurd (next-alone q (w / 4 + 2) e o.holder.next n) }
        | inr (inr (inr (inl e))) ↦ record {
          boxed = o.holder.tag;
          next = o.holder.next;
          at_next = λ n. absurd (names-alone q (w / 4 + 3) e o.holder.names n);
          at_names = λ n. e ∙ sym (holder-place mem (w / 4) o.holder.header);
        }
        | inr (inr (inr (inr (inl e)))) ↦ absurd (none-plain q (w / 4 + 4) FURTHER e o.holder.fifth (inr refl) k)
        | inr (inr (inr (inr (inr e)))) ↦ absurd (none-plain q (w / 4 + 5) FURTHER e o.holder.sixth (inr refl) k)
      ]
  counting shared mem w (Part base offset len) q (o, is, sb) p from below k = absurd (none-boxed mem w 10 4 q (omega arith) o.boxed from below k)
  counting shared mem w (Fun name arity creator env) q (o, row) p from below k =
      let words : object_words mem w ≡ 1 + (trees_len env + 5) = words-boxed mem w (trees_len env + 5) 20 o.tag o.header (omega arith) in
      let which : (q ≡ w / 4) ⊎ ((q ≡ w / 4 + 1) ⊎ ((q ≡ w / 4 + 2) ⊎ (w / 4 + 2 < q))) = grind arith in
      elim which [
        | inl e ↦ absurd (none-plain q (w / 4) FIRST e o.first (inl refl) k)
        | inr (inl e) ↦ record {
          boxed = o.tag;
          next = o.next;
          at_next = λ n. absurd (names-alone q (w / 4 + 1) e o.names n);
          at_names = λ n. e ∙ sym (fun-name mem (w / 4) (trees_len env) o.header);
        }
        | inr (inr (inl e)) ↦ record { boxed = o.tag; next = o.next; at_next = λ n. e; at_names = λ n. absurd (next-alone q (w / 4 + 2) e o.next n) }
        | inr (inr (inr far)) ↦ absurd (none-plain q q FURTHER refl (o.others q far (omega (arith, below, words))) (inr refl) k)
      ]
  counting shared mem w (Atom n) q s p from below k = absurd (omega (arith, s.word, p))
  counting shared mem w (Pid n) q s p from below k = absurd (omega (arith, s.word, p))
  counting shared mem w Nil q s p from below k = absurd (omega (arith, s, p))
