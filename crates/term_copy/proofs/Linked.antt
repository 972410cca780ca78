-- What is known of the holders and funs among objects that stand.
use Rattle.std.proofs.Common.{◌≡◌, ℕ, ◌+◌, ◌*◌, ◌/◌, ◌%◌, ◌<◌, ◌≤◌, ◌⊎◌, Bool, true, List, length, get_or, refl, sym, ◌∙◌, subst, arith, inl, inr, ℤ, pos, negsuc}
use Rattle.std.proofs.lemmas.Bool.Decides.{nat_tests}
use Rattle.plain_term.specs.Measures.{bin_words}
use Rattle.plain_term.specs.Bytes.{shared_bytes}
use Rattle.plain_term.specs.Tree.{Tree, trees_len, pairs_len}
use Rattle.plain_term.specs.Tree.Tree.{Int, Atom, Pid, Ref, Nil, Cons, Tuple, Map, Bin, Shared, Part, Fun}
use Rattle.term_tags.specs.Words.{head_word}
use Rattle.term_tags.specs.declared.layouts.TheConstants.{HOLDER}
use Rattle.term_words.specs.Role.{NEXT, FIRST, FURTHER, NAMES, IsSingle}
use Rattle.term_words.specs.Object.{IsBoxed, IsInt, IsObject, IsPointer, IsRecord, object_words}
use Rattle.term_words.specs.Reach.{first_traced}
use Rattle.term_words.specs.Stands.{Stands}
use Rattle.term_words.proofs.Placing.Apart.{words-cons, words-boxed}
use Rattle.term_words.proofs.Reaching.Reached.{scanned}
use Rattle.term_words.proofs.Reaching.Carrying.{in-object}
use Rattle.term_words.proofs.ByKind.Shapes.{told}
use Rattle.shared_rec.specs.Record.{length_in}
use Rattle.off_heap_list.specs.Links.{name_place, named, IsLinkHeader}
use Rattle.off_heap_list.proofs.Chaining.Chained.{holder-place, fun-place}
use Rattle.object_rows.specs.Row.{is_link}

-- What tag and header of a holder or fun tell.
pub link-told : (mem : List ℕ) (w : ℕ) → is_link mem w ≡ true → (w % 4 ≡ 2) × ((get_or mem (w / 4) 0 / 4 % 16 ≡ 8) ⊎ (get_or mem (w / 4) 0 / 4 % 16 ≡ 5))
link-told mem w e = grind (arith, nat_tests, e)

pub link-by : (mem : List ℕ) (w : ℕ) → w % 4 ≡ 2 → (get_or mem (w / 4) 0 / 4 % 16 ≡ 8) ⊎ (get_or mem (w / 4) 0 / 4 % 16 ≡ 5) → is_link mem w ≡ true
link-by mem w tag h = grind (arith, nat_tests, tag, h)

-- Its words: its size, the words that are not traced, the word that names its record, and the record.
pub record LinkFacts (c : ℕ → ℕ → Bool) (mem : List ℕ) (w : ℕ) : Type 0 where
  pub many : 6 ≤ object_words mem w
  pub untraced : 6 ≤ first_traced mem w
  pub spot : (name_place mem (w / 4) ≡ w / 4 + 3) ⊎ (name_place mem (w / 4) ≡ w / 4 + 1)
  pub first : c (w / 4) FIRST ≡ true
  pub next : c (w / 4 + 2) NEXT ≡ true
  pub names : c (name_place mem (w / 4)) NAMES ≡ true
  pub kind : IsLinkHeader (get_or mem (w / 4) 0)
  pub size : get_or mem (w / 4) 0 ≡ head_word HOLDER 5 → (c (w / 4 + 1) FURTHER ≡ true) × (get_or mem (w / 4 + 1) 0 ≡ length_in mem (named mem (w / 4)))
  pub words : ℕ
  pub record_is : IsRecord c mem (named mem (w / 4)) words

pub link-facts : (c : ℕ → ℕ → Bool) (shared : List (List ℕ)) (mem : List ℕ) (w : ℕ) (t : Tree) → Stands c shared mem w t
    → (w % 4 ≡ 2) × ((get_or mem (w / 4) 0 / 4 % 16 ≡ 8) ⊎ (get_or mem (w / 4) 0 / 4 % 16 ≡ 5)) → LinkFacts c mem w
unfolding Stands
link-facts c shared mem w (Shared id) s is =
    let at : w / 4 + 3 ≡ name_place mem (w / 4) = sym (holder-place mem (w / 4) s.holder.header) in
    let P : ℕ → Type 0 = λ q. c q NAMES ≡ true in
    let Q : ℕ → Type 0 = λ q. IsRecord c mem (get_or mem q 0) (4 + bin_words (length (shared_bytes shared id))) in
    let n : object_words mem w ≡ 6 = words-boxed mem w 5 32 s.holder.tag s.holder.header (omega arith) in
    record {
      many = omega (arith, n);
      untraced = omega (arith, n, (scanned c shared mem w (Shared id) s (inr s.holder.tag)).ends);
      spot = inl (sym at);
      first = s.holder.first;
      next = s.holder.next;
      names = subst P at s.holder.names;
      kind = inl s.holder.header;
      size = λ h.
          let R : ℕ → Type 0 = λ q. get_or mem (w / 4 + 1) 0 ≡ get_or mem (get_or mem q 0 + 3) 0 in
          (s.holder.second, subst R at (s.holder.size ∙ sym s.record_is.size));
      words = 4 + bin_words (length (shared_bytes shared id));
      record_is = subst Q at (inl (id, shared_bytes shared id, s.record_is, refl));
    }
link-facts c shared mem w (Fun name arity creator env) (o, row) is =
    let at : w / 4 + 1 ≡ name_place mem (w / 4) = sym (fun-place mem (w / 4) (trees_len env) o.header) in
    let P : ℕ → Type 0 = λ q. c q NAMES ≡ true in
    let Q : ℕ → Type 0 = λ q. IsRecord c mem (get_or mem q 0) 4 in
    let n : object_words mem w ≡ 1 + (trees_len env + 5) = words-boxed mem w (trees_len env + 5) 20 o.tag o.header (omega arith) in
    record {
      many = omega (arith, n);
      untraced = omega (arith, n, (scanned c shared mem w (Fun name arity creator env) (o, row) (inr o.tag)).ends);
      spot = inr (sym at);
      first = o.first;
      next = o.next;
      names = subst P at o.names;
      kind = inr (trees_len env, (o.range, o.header));
      size = λ h. absurd (omega (arith, o.header, h));
      words = 4;
      record_is = subst Q at (inr (name, arity, o.record_is, refl));
    }
link-facts c shared mem w (Int (pos i)) s is = absurd (omega (arith, told c shared mem w (Int (pos i)) s, is))
link-facts c shared mem w (Int (negsuc i)) s is = absurd (omega (arith, told c shared mem w (Int (negsuc i)) s, is))
link-facts c shared mem w t s is = absurd (omega (arith, told c shared mem w t s, is))

pub linked : (c : ℕ → ℕ → Bool) (shared : List (List ℕ)) (mem : List ℕ) (w : ℕ) (t : Tree) → Stands c shared mem w t → is_link mem w ≡ true → LinkFacts c mem w
linked c shared mem w t s e = link-facts c shared mem w t s (link-told mem w e)

-- A word `next` of a standing object is word 2 of a holder or fun.

no-next : (c : ℕ → ℕ → Bool) (mem : List ℕ) (p n q : ℕ) → IsSingle c → IsObject c mem p n → p ≤ q → q < p + n → c q NEXT ≡ true → ⊥
no-next c mem p n q single o from below h = elim (in-object c mem p n q o from below) [
  | inl a ↦ (let e : FIRST ≡ NEXT = single.one q FIRST NEXT a h in omega arith)
  | inr a ↦ (let e : FURTHER ≡ NEXT = single.one q FURTHER NEXT a h in omega arith)
]

boxed-no-next : (c : ℕ → ℕ → Bool) (mem : List ℕ) (w subtag arity q : ℕ) → IsSingle c → subtag < 16 → IsBoxed c mem w subtag arity → w / 4 ≤ q → q < w / 4 + object_words mem w → c q NEXT ≡ true → ⊥
boxed-no-next c mem w subtag arity q single small o from below h =
    no-next c mem (w / 4) (1 + arity) q single o.object from (omega (arith, below, words-boxed mem w arity (subtag * 4) o.tag o.header (omega arith))) h

int-no-next : (c : ℕ → ℕ → Bool) (mem : List ℕ) (w : ℕ) (i : ℤ) (q : ℕ) → IsSingle c → IsInt c mem w i → IsPointer w → w / 4 ≤ q → q < w / 4 + object_words mem w → c q NEXT ≡ true → ⊥
int-no-next c mem w i q single (inl s) p from below h = omega (arith, s.word, p)
int-no-next c mem w (pos n) q single (inr (inl o)) p from below h = boxed-no-next c mem w 2 1 q single (omega arith) o.boxed from below h
int-no-next c mem w (negsuc n) q single (inr (inl o)) p from below h = boxed-no-next c mem w 3 1 q single (omega arith) o.boxed from below h
int-no-next c mem w (pos n) q single (inr (inr o)) p from below h = boxed-no-next c mem w 2 2 q single (omega arith) o.boxed from below h
int-no-next c mem w (negsuc n) q single (inr (inr o)) p from below h = boxed-no-next c mem w 3 2 q single (omega arith) o.boxed from below h

other-role : (c : ℕ → ℕ → Bool) (a k q : ℕ) → IsSingle c → c a k ≡ true → (k ≡ NEXT → ⊥) → q ≡ a → c q NEXT ≡ true → ⊥
other-role c a k q single h other e n = let P : ℕ → Type 0 = λ x. c x NEXT ≡ true in other (single.one a k NEXT h (subst P e n))

pub next-linked : (c : ℕ → ℕ → Bool) (shared : List (List ℕ)) (mem : List ℕ) (w : ℕ) (t : Tree) (q : ℕ) → IsSingle c → Stands c shared mem w t → IsPointer w → w / 4 ≤ q
    → q < w / 4 + object_words mem w → c q NEXT ≡ true → (is_link mem w ≡ true) × (q ≡ w / 4 + 2)
unfolding Stands
next-linked c shared mem w (Shared id) q single o p from below h =
    let n : object_words mem w ≡ 6 = words-boxed mem w 5 32 o.holder.tag o.holder.header (omega arith) in
    let which : (q ≡ w / 4) ⊎ ((q ≡ w / 4 + 1) ⊎ ((q ≡ w / 4 + 2) ⊎ ((q ≡ w / 4 + 3) ⊎ ((q ≡ w / 4 + 4) ⊎ (q ≡ w / 4 + 5))))) = grind arith in (
      link-by mem w o.holder.tag (inl (omega (arith, o.holder.header))),
      elim which [
        | inl e ↦ absurd (other-role c (w / 4) FIRST q single o.holder.first (λ z. omega (arith, z)) e h)
        | inr (inl e) ↦ absurd (other-role c (w / 4 + 1) FURTHER q single o.holder.second (λ z. omega (arith, z)) e h)
        | inr (inr (inl e)) ↦ e
        | inr (inr (inr (inl e))) ↦ absurd (other-role c (w / 4 + 3) NAMES q single o.holder.names (λ z. omega (arith, z)) e h)
        | inr (inr (inr (inr (inl e)))) ↦ absurd (other-role c (w / 4 + 4) FURTHER q single o.holder.fifth (λ z. omega (arith, z)) e h)
        | inr (inr (inr (inr (inr e)))) ↦ absurd (other-role c (w / 4 + 5) FURTHER q single o.holder.sixth (λ z. omega (arith, z)) e h)
      ],
    )
next-linked c shared mem w (Fun name arity creator env) q single (o, row) p from below h =
    let n : object_words mem w ≡ 1 + (trees_len env + 5) = words-boxed mem w (trees_len env + 5) 20 o.tag o.header (omega arith) in
    let which : (q ≡ w / 4) ⊎ ((q ≡ w / 4 + 1) ⊎ ((q ≡ w / 4 + 2) ⊎ (w / 4 + 2 < q))) = grind arith in (
      link-by mem w o.tag (inr (omega (arith, o.header))),
      elim which [
        | inl e ↦ absurd (other-role c (w / 4) FIRST q single o.first (λ z. omega (arith, z)) e h)
        | inr (inl e) ↦ absurd (other-role c (w / 4 + 1) NAMES q single o.names (λ z. omega (arith, z)) e h)
        | inr (inr (inl e)) ↦ e
        | inr (inr (inr far)) ↦ absurd (other-role c q FURTHER q single (o.others q far (omega arith)) (λ z. omega (arith, z)) refl h)
      ],
    )
next-linked c shared mem w (Int i) q single s p from below h = absurd (int-no-next c mem w i q single s p from below h)
next-linked c shared mem w (Ref n k) q single s p from below h = absurd (boxed-no-next c mem w 4 2 q single (omega arith) s.boxed from below h)
next-linked c shared mem w (Cons x y) q single (o, sh, st) p from below h = absurd (no-next c mem (w / 4) 2 q single o.object from (omega (arith, below, words-cons mem w o.tag)) h)
next-linked c shared mem w (Tuple ts) q single (o, row) p from below h = absurd (boxed-no-next c mem w 0 (trees_len ts) q single (omega arith) o.boxed from below h)
next-linked c shared mem w (Map ps) q single (o, ks, vs) p from below h = absurd (boxed-no-next c mem w 15 (pairs_len ps + 2) q single (omega arith) o.boxed from below h)
next-linked c shared mem w (Bin bytes) q single o p from below h = absurd (boxed-no-next c mem w 9 (1 + bin_words (length bytes)) q single (omega arith) o.boxed from below h)
next-linked c shared mem w (Part base offset len) q single (o, is, sb) p from below h = absurd (boxed-no-next c mem w 10 4 q single (omega arith) o.boxed from below h)
next-linked c shared mem w (Atom k) q single s p from below h = absurd (omega (arith, s.word, p))
next-linked c shared mem w (Pid k) q single s p from below h = absurd (omega (arith, s.word, p))
next-linked c shared mem w Nil q single s p from below h = absurd (omega (arith, s, p))
