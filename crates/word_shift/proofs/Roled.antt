-- The words `next` and the names of a standing object, by the roles of its words.
use Rattle.std.proofs.Common.{◌≡◌, ℕ, ◌+◌, ◌*◌, ◌/◌, ◌%◌, ◌<◌, ◌≤◌, ◌⊎◌, ◌==◌, ◌&&◌, Bool, true, false, List, length, get_or, refl, sym, ◌∙◌, subst, arith, inl, inr, ℤ, pos, negsuc}
use Rattle.std.proofs.lemmas.Bool.Decides.{nat_tests}
use Rattle.plain_term.specs.Tree.{Tree, trees_len, pairs_len}
use Rattle.plain_term.specs.Tree.Tree.{Int, Atom, Pid, Ref, Nil, Cons, Tuple, Map, Bin, Shared, Part, Fun}
use Rattle.plain_term.specs.Measures.{bin_words}
use Rattle.term_words.specs.Role.{NEXT, FIRST, FURTHER, NAMES, IsSingle}
use Rattle.term_words.specs.Object.{IsObject, IsBoxed, IsInt, IsPointer, object_words}
use Rattle.term_words.specs.Stands.{Stands}
use Rattle.term_words.proofs.Placing.Apart.{words-cons, words-boxed}
use Rattle.off_heap_list.specs.Links.{name_place}
use Rattle.object_rows.specs.Row.{is_link, is_link_header}

link-kind : (w h : ℕ) → ((w % 4 == 2) && is_link_header h) ≡ true → (w % 4 ≡ 2) × ((h / 4 % 16 ≡ 8) ⊎ (h / 4 % 16 ≡ 5))
link-kind w h e = (grind (arith, nat_tests, e), grind (arith, nat_tests, e))

pub link-is : (w h : ℕ) → w % 4 ≡ 2 → (h / 4 % 16 ≡ 8) ⊎ (h / 4 % 16 ≡ 5) → ((w % 4 == 2) && is_link_header h) ≡ true
link-is w h t k = grind (arith, nat_tests, t, k)

name-three : (mem : List ℕ) (p : ℕ) → get_or mem p 0 ≡ 352 → name_place mem p ≡ p + 3
name-three mem p e = rw e refl

name-one : (mem : List ℕ) (p : ℕ) → (get_or mem p 0 ≡ 352 → ⊥) → name_place mem p ≡ p + 1
name-one mem p n = (let other : (get_or mem p 0 == 352) ≡ false = grind (arith, nat_tests, n) in rw other refl)

-- A holder or fun has a role for `next` and one for names where these words are; no other word names.
pub record Roled (c : ℕ → ℕ → Bool) (mem : List ℕ) (w : ℕ) : Type 0 where
  pub next : is_link mem w ≡ true → c (w / 4 + 2) NEXT ≡ true
  pub names : is_link mem w ≡ true → c (name_place mem (w / 4)) NAMES ≡ true
  pub only : (q : ℕ) → w / 4 ≤ q → q < w / 4 + object_words mem w → c q NAMES ≡ true → (is_link mem w ≡ true) × (q ≡ name_place mem (w / 4))

at-role : (c : ℕ → ℕ → Bool) (q a k : ℕ) → c a k ≡ true → q ≡ a → c q k ≡ true
at-role c q a k h e = (let P : ℕ → Type 0 = λ x. c x k ≡ true in subst P (sym e) h)

clash : (c : ℕ → ℕ → Bool) (q a k : ℕ) → IsSingle c → c q NAMES ≡ true → c a k ≡ true → q ≡ a → (k ≡ 5 → ⊥) → ⊥
clash c q a k single names h e other = other (single.one q k NAMES (at-role c q a k h e) names)

-- An object that leads on to none.
plain : (c : ℕ → ℕ → Bool) (mem : List ℕ) (w n : ℕ) → IsSingle c → object_words mem w ≡ n → IsObject c mem (w / 4) n → (is_link mem w ≡ true → ⊥) → Roled c mem w
plain c mem w n single size o none = record {
  next = λ l. absurd (none l);
  names = λ l. absurd (none l);
  only = λ q low high names.
      let which : (q ≡ w / 4) ⊎ (w / 4 < q) = grind arith in
      elim which [
        | inl e ↦ absurd (clash c q (w / 4) FIRST single names o.first e (λ z. omega (arith, z)))
        | inr far ↦ absurd (clash c q q FURTHER single names (o.others q far (omega (arith, high, size))) refl (λ z. omega (arith, z)))
      ];
}

boxed : (c : ℕ → ℕ → Bool) (mem : List ℕ) (w subtag arity : ℕ) → IsSingle c → subtag < 16 → (subtag ≡ 8 → ⊥) → (subtag ≡ 5 → ⊥) → IsBoxed c mem w subtag arity → Roled c mem w
boxed c mem w subtag arity single small no-holder no-fun o =
    plain c mem w (1 + arity) single (words-boxed mem w arity (subtag * 4) o.tag o.header (omega (arith, small))) o.object (λ l.
    let (tag, kinds) = link-kind w (get_or mem (w / 4) 0) l in
    elim kinds [ inl k ↦ no-holder (omega (arith, k, o.header, small)) | inr k ↦ no-fun (omega (arith, k, o.header, small)) ])

roled-int : (c : ℕ → ℕ → Bool) (mem : List ℕ) (w : ℕ) (i : ℤ) → IsSingle c → IsInt c mem w i → IsPointer w → Roled c mem w
roled-int c mem w i single (inl s) p = absurd (omega (arith, s.word, p))
roled-int c mem w (pos n) single (inr (inl o)) p = boxed c mem w 2 1 single (omega arith) (λ z. omega (arith, z)) (λ z. omega (arith, z)) o.boxed
roled-int c mem w (negsuc n) single (inr (inl o)) p = boxed c mem w 3 1 single (omega arith) (λ z. omega (arith, z)) (λ z. omega (arith, z)) o.boxed
roled-int c mem w (pos n) single (inr (inr o)) p = boxed c mem w 2 2 single (omega arith) (λ z. omega (arith, z)) (λ z. omega (arith, z)) o.boxed
roled-int c mem w (negsuc n) single (inr (inr o)) p = boxed c mem w 3 2 single (omega arith) (λ z. omega (arith, z)) (λ z. omega (arith, z)) o.boxed

pub roled : (c : ℕ → ℕ → Bool) (shared : List (List ℕ)) (mem : List ℕ) (w : ℕ) (t : Tree) → IsSingle c → Stands c shared mem w t → IsPointer w → Roled c mem w
unfolding Stands
roled c shared mem w (Int i) single s p = roled-int c mem w i single s p
roled c shared mem w (Ref n k) single s p = boxed c mem w 4 2 single (omega arith) (λ z. omega (arith, z)) (λ z. omega (arith, z)) s.boxed
roled c shared mem w (Cons h t) single (o, sh, st) p =
    plain c mem w 2 single (words-cons mem w o.tag) o.object (λ l. (let (tag, kinds) = link-kind w (get_or mem (w / 4) 0) l in omega (arith, tag, o.tag)))
roled c shared mem w (Tuple ts) single (o, row) p = boxed c mem w 0 (trees_len ts) single (omega arith) (λ z. omega (arith, z)) (λ z. omega (arith, z)) o.boxed
roled c shared mem w (Map ps) single (o, ks, vs) p = boxed c mem w 15 (pairs_len ps + 2) single (omega arith) (λ z. omega (arith, z)) (λ z. omega (arith, z)) o.boxed
roled c shared mem w (Bin bytes) single o p =
    boxed c mem w 9 (1 + bin_words (length bytes)) single (omega arith) (λ z. omega (arith, z)) (λ z. omega (arith, z)) o.boxed
roled c shared mem w (Part base offset len) single (o, is, sb) p = boxed c mem w 10 4 single (omega arith) (λ z. omega (arith, z)) (λ z. omega (arith, z)) o.boxed
roled c shared mem w (Shared id) single o p =
    let size6 : object_words mem w ≡ 6 = words-boxed mem w 5 32 o.holder.tag o.holder.header (omega arith) in
    let name : name_place mem (w / 4) ≡ w / 4 + 3 = name-three mem (w / 4) o.holder.header in
    record {
      next = λ l. o.holder.next;
      names = λ l. at-role c (name_place mem (w / 4)) (w / 4 + 3) NAMES o.holder.names name;
      only = λ q low high names.
          let which : (q ≡ w / 4) ⊎ ((q ≡ w / 4 + 1) ⊎ ((q ≡ w / 4 + 2) ⊎ ((q ≡ w / 4 + 3) ⊎ ((q ≡ w / 4 + 4) ⊎ (q ≡ w / 4 + 5))))) = grind (arith, high, size6) in
          elim which [
            | inl e ↦ absurd (clash c q (w / 4) FIRST single names o.holder.first e (λ z. omega (arith, z)))
            | inr (inl e) ↦ absurd (clash c q (w / 4 + 1) FURTHER single names o.holder.second e (λ z. omega (arith, z)))
            | inr (inr (inl e)) ↦ absurd (clash c q (w / 4 + 2) NEXT single names o.holder.next e (λ z. omega (arith, z)))
            | inr (inr (inr (inl e))) ↦ (link-is w (get_or mem (w / 4) 0) o.holder.tag (inl (omega (arith, o.holder.header))), e ∙ sym name)
            | inr (inr (inr (inr (inl e)))) ↦ absurd (clash c q (w / 4 + 4) FURTHER single names o.holder.fifth e (λ z. omega (arith, z)))
            | inr (inr (inr (inr (inr e)))) ↦ absurd (clash c q (w / 4 + 5) FURTHER single names o.holder.sixth e (λ z. omega (arith, z)))
          ];
    }
roled c shared mem w (Fun name arity creator env) single (o, row) p =
    let words : object_words mem w ≡ 1 + (trees_len env + 5) = words-boxed mem w (trees_len env + 5) 20 o.tag o.header (omega arith) in
    let name-is : name_place mem (w / 4) ≡ w / 4 + 1 = name-one mem (w / 4) (λ z. omega (arith, z, o.header)) in
    record {
      next = λ l. o.next;
      names = λ l. at-role c (name_place mem (w / 4)) (w / 4 + 1) NAMES o.names name-is;
      only = λ q low high names.
          let which : (q ≡ w / 4) ⊎ ((q ≡ w / 4 + 1) ⊎ ((q ≡ w / 4 + 2) ⊎ (w / 4 + 2 < q))) = grind arith in
          elim which [
            | inl e ↦ absurd (clash c q (w / 4) FIRST single names o.first e (λ z. omega (arith, z)))
            | inr (inl e) ↦ (link-is w (get_or mem (w / 4) 0) o.tag (inr (omega (arith, o.header))), e ∙ sym name-is)
            | inr (inr (inl e)) ↦ absurd (clash c q (w / 4 + 2) NEXT single names o.next e (λ z. omega (arith, z)))
            | inr (inr (inr far)) ↦ absurd (clash c q q FURTHER single names (o.others q far (omega (arith, high, words))) refl (λ z. omega (arith, z)))
          ];
    }
roled c shared mem w (Atom k) single s p = absurd (omega (arith, s.word, p))
roled c shared mem w (Pid n) single s p = absurd (omega (arith, s.word, p))
roled c shared mem w Nil single s p = absurd (omega (arith, s, p))
