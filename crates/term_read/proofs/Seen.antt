-- What a look tells, from the numbers that it reads.
use Rattle.std.proofs.Common.{◌≡◌, ℕ, ◌+◌, ◌*◌, ◌/◌, ◌%◌, ◌^◌, ◌<◌, ◌≤◌, ◌⊎◌, if◌then◌else◌, Bool, true, false, List, [], length, get_or, drop, refl, sym, ◌∙◌, ap, subst, arith, inl, inr, ℤ, pos, negsuc, to_z, of_z, Option, Some, None, length-take, length-drop}
use Rattle.std.proofs.lemmas.Bool.Decides.{nat_tests}
use Rattle.std.proofs.lemmas.Int.{ints, to_z-of_z}
use Rattle.std.specs.Int.{w64}
use Rattle.plain_term.specs.Measures.{is_small, magnitude}
use Rattle.plain_term.specs.Bytes.{bytes_of, shared_bytes}
use Rattle.plain_term.specs.Tree.{Tree, Trees, trees_len, pairs_len, keys_of, values_of}
use Rattle.plain_term.specs.Tree.Trees.{end, ◌▹◌}
use Rattle.plain_term.specs.Tree.Tree.{Int, Atom, Pid, Ref, Nil, Cons, Tuple, Map, Bin, Shared, Part, Fun}
use Rattle.term_tags.specs.declared.kinds.Kind.{Kind}
use Rattle.term_tags.specs.declared.kinds.Kind.TheVariants as kind
use Rattle.term_tags.specs.Kinds.{ReadsAs}
use Rattle.term_tags.specs.Words.{IsSmall, small_value}
use Rattle.term_tags.specs.Table.{subtag_of, object_for}
use Rattle.term_tags.specs.declared.layouts.Object.{Object}
use Rattle.term_tags.specs.declared.layouts.Object.TheVariants as object
use Rattle.term_words.specs.Role.{always}
use Rattle.term_words.specs.Object.{IsInt, sign_tag}
use Rattle.term_words.specs.Stands.{tree_at, Stands, RowStands, IsTerm}
use Rattle.term_words.proofs.ByKind.Inside.{boxed-inside}
use Rattle.term_words.proofs.ByKind.Makes.{stands-small, stands-atom, stands-pid, stands-nil}
use Rattle.term_words.proofs.ByKind.Pairs.{keys-row, values-row, keys-len, values-len}
use Rattle.term_words.proofs.Framing.Rooms.{is-term}
use Rattle.term_words.proofs.ByKind.Shapes.{Told, told, row-at}
use Rattle.term_words.proofs.Placing.Single.{single}
use Rattle.term_read.specs.Data.{BytesFrom, IsData, HasData, HasFirst}
use Rattle.term_read.specs.Parts.{binary_of}
use Rattle.term_read.specs.Look.{is_negative, HasDigits, IsSeen, Sees, data_in, TermsFrom, LiesInMemory}
use Rattle.term_read.specs.declared.looks.Digits.{Digits}
use Rattle.term_read.specs.declared.looks.Bytes.{Bytes}
use Rattle.term_read.specs.declared.looks.PartBytes.{PartBytes}
use Rattle.term_read.specs.declared.looks.Look.{Look}
use Rattle.term_read.specs.declared.looks.Look.TheVariants as look
use Rattle.term_read.proofs.Pointers.{list-near, boxed-near}
use Rattle.term_read.proofs.Binaries.{lies-from, slice-from, base-some, base-none}

-- A word without an object stands for one tree.

module _ (mem : List ℕ) (w : ℕ) where
  alone : (u : Tree) (l : Look) → Stands always [] mem w u → ((c : ℕ → ℕ → Bool) (shared : List (List ℕ)) → IsSeen c shared mem w u l) → Sees mem w l
  alone u l s seen = record { each = λ c shared t r. let P : Tree → Type 0 = λ x. IsSeen c shared mem w x l in subst P (single always c [] shared mem w u t s r) (seen c shared) }

small-is : (i : ℤ) → IsSmall i → is_small i ≡ true
small-is (pos n) h = grind (arith, ints, nat_tests)
small-is (negsuc n) h = grind (arith, ints, nat_tests)

sees-small : (mem : List ℕ) (w : ℕ) (i : ℤ) → ReadsAs w (kind.Small i) → Sees mem w (look.Small i)
sees-small mem w i (range, word) = alone mem w (Int i) (look.Small i) (stands-small always [] mem w i (small-is i range) (sym word)) (λ c shared. inl (small-is i range, refl))

-- In the 64 bits of a word an integer that is small is itself.
small-fits : (i : ℤ) → IsSmall i → to_z w64 (of_z w64 i) ≡ i
small-fits (pos n) h = to_z-of_z w64 (pos n) (omega (arith, ints))
small-fits (negsuc n) h = to_z-of_z w64 (negsuc n) (omega (arith, ints))

pub sees-small-word : (mem : List ℕ) (w : ℕ) (i : ℤ) → ReadsAs w (kind.Small i) → Sees mem w (look.Small (to_z w64 (of_z w64 i)))
sees-small-word mem w i r = let P : ℤ → Type 0 = λ x. Sees mem w (look.Small x) in subst P (sym (small-fits i r.0)) (sees-small mem w i r)

pub sees-atom : (mem : List ℕ) (w k : ℕ) → ReadsAs w (kind.Atom k) → Sees mem w (look.Atom k)
sees-atom mem w k (range, word) = alone mem w (Atom k) (look.Atom k) (stands-atom always [] mem w k range (sym word)) (λ c shared. refl)

pub sees-pid : (mem : List ℕ) (w n : ℕ) → ReadsAs w (kind.Pid n) → Sees mem w (look.Pid n)
sees-pid mem w n (range, word) = alone mem w (Pid n) (look.Pid n) (stands-pid always [] mem w n range (sym word)) (λ c shared. refl)

pub sees-nil : (mem : List ℕ) (w : ℕ) → ReadsAs w kind.Nil → Sees mem w look.Nil
sees-nil mem w word = alone mem w Nil look.Nil (stands-nil always [] mem w (sym word)) (λ c shared. refl)

-- A cons.

cons-seen : (c : ℕ → ℕ → Bool) (shared : List (List ℕ)) (mem : List ℕ) (w : ℕ) (t : Tree) → Stands c shared mem w t → w % 4 ≡ 1 → IsSeen c shared mem w t (look.Cons (w / 4))
unfolding Stands
cons-seen c shared mem w (Cons h t) (o, sh, st) tag = (refl, o.object.within, sh, st)
cons-seen c shared mem w (Int (pos n)) s tag = absurd (omega (arith, told c shared mem w (Int (pos n)) s))
cons-seen c shared mem w (Int (negsuc n)) s tag = absurd (omega (arith, told c shared mem w (Int (negsuc n)) s))
cons-seen c shared mem w t s tag = absurd (omega (arith, told c shared mem w t s))

pub sees-cons : (mem : List ℕ) (w p : ℕ) → w % 4 ≡ 1 → p ≡ w / 4 → Sees mem w (look.Cons p)
sees-cons mem w p tag same =
    let P : ℕ → Type 0 = λ x. Sees mem w (look.Cons x) in
    let here : Sees mem w (look.Cons (w / 4)) = record { each = λ c shared t s. cons-seen c shared mem w t s tag } in
    subst P (sym same) here

-- A tuple.

tuple-seen : (c : ℕ → ℕ → Bool) (shared : List (List ℕ)) (mem : List ℕ) (w : ℕ) (t : Tree) → Stands c shared mem w t → w % 4 ≡ 2 → get_or mem (w / 4) 0 / 4 % 16 ≡ 0
    → IsSeen c shared mem w t (look.Tuple (record { first = w / 4 + 1; len = get_or mem (w / 4) 0 / 64 }))
unfolding Stands
tuple-seen c shared mem w (Tuple ts) (o, row) tag sub =
    let len : get_or mem (w / 4) 0 / 64 ≡ trees_len ts = omega (arith, o.boxed.header) in
    (ap (λ n. look.Tuple (record { first = w / 4 + 1; len = n })) len, omega (arith, o.boxed.object.within), row)
tuple-seen c shared mem w (Int (pos n)) s tag sub = absurd (omega (arith, told c shared mem w (Int (pos n)) s))
tuple-seen c shared mem w (Int (negsuc n)) s tag sub = absurd (omega (arith, told c shared mem w (Int (negsuc n)) s))
tuple-seen c shared mem w t s tag sub = absurd (omega (arith, told c shared mem w t s))

pub sees-tuple : (mem : List ℕ) (w p : ℕ) → w % 4 ≡ 2 → p ≡ w / 4 → get_or mem p 0 / 4 % 16 ≡ 0 → Sees mem w (look.Tuple (record { first = p + 1; len = get_or mem p 0 / 64 }))
sees-tuple mem w p tag same =
    let P : ℕ → Type 0 = λ x. get_or mem x 0 / 4 % 16 ≡ 0 → Sees mem w (look.Tuple (record { first = x + 1; len = get_or mem x 0 / 64 })) in
    subst P (sym same) (λ sub. record { each = λ c shared t s. tuple-seen c shared mem w t s tag sub })

-- A map.

map-seen : (c : ℕ → ℕ → Bool) (shared : List (List ℕ)) (mem : List ℕ) (w : ℕ) (t : Tree) → Stands c shared mem w t → w % 4 ≡ 2 → get_or mem (w / 4) 0 / 4 % 16 ≡ 15
    → IsSeen c shared mem w t (look.Map (record { keys = get_or mem (w / 4 + 2) 0 / 4 + 1; values = w / 4 + 3; len = get_or mem (w / 4 + 1) 0 }))
unfolding Stands
map-seen c shared mem w (Map ps) (o, ks, vs) tag sub = (
  ap (λ n. look.Map (record { keys = get_or mem (w / 4 + 2) 0 / 4 + 1; values = w / 4 + 3; len = n })) o.count,
  omega (arith, o.keys.boxed.object.within),
  omega (arith, o.boxed.object.within),
  ks,
  vs,
)
map-seen c shared mem w (Int (pos n)) s tag sub = absurd (omega (arith, told c shared mem w (Int (pos n)) s))
map-seen c shared mem w (Int (negsuc n)) s tag sub = absurd (omega (arith, told c shared mem w (Int (negsuc n)) s))
map-seen c shared mem w t s tag sub = absurd (omega (arith, told c shared mem w t s))

pub sees-map : (mem : List ℕ) (w p : ℕ) → w % 4 ≡ 2 → p ≡ w / 4 → get_or mem p 0 / 4 % 16 ≡ 15
    → Sees mem w (look.Map (record { keys = get_or mem (p + 2) 0 / 4 + 1; values = p + 3; len = get_or mem (p + 1) 0 }))
sees-map mem w p tag same =
    let P : ℕ → Type 0 = λ x. get_or mem x 0 / 4 % 16 ≡ 15 → Sees mem w (look.Map (record { keys = get_or mem (x + 2) 0 / 4 + 1; values = x + 3; len = get_or mem (x + 1) 0 })) in
    subst P (sym same) (λ sub. record { each = λ c shared t s. map-seen c shared mem w t s tag sub })

-- A fun.

same-parts : (n m a b k l e f first : ℕ) → n ≡ m → a ≡ b → k ≡ l → e ≡ f
    → look.Fun (record { name = n; arity = a; creator = k; env = record { first = first; len = e } }) ≡ look.Fun (record { name = m; arity = b; creator = l; env = record { first = first; len = f } })
same-parts n m a b k l e f first p q r s = rw (p, q, r, s) refl

fun-seen : (c : ℕ → ℕ → Bool) (shared : List (List ℕ)) (mem : List ℕ) (w : ℕ) (t : Tree) → Stands c shared mem w t → w % 4 ≡ 2 → get_or mem (w / 4) 0 / 4 % 16 ≡ 5
    → IsSeen c shared mem w t (look.Fun (record {
      name = get_or mem (get_or mem (w / 4 + 1) 0 + 1) 0 / 256;
      arity = get_or mem (w / 4 + 3) 0;
      creator = get_or mem (w / 4 + 5) 0 / 16;
      env = record { first = w / 4 + 6; len = get_or mem (w / 4 + 4) 0 };
    })) × (get_or mem (w / 4 + 1) 0 + 4 ≤ length mem)
unfolding Stands
fun-seen c shared mem w (Fun name arity creator env) (o, row) tag sub =
    let n : get_or mem (get_or mem (w / 4 + 1) 0 + 1) 0 / 256 ≡ name = omega (arith, o.record_is.owner, o.record_is.arity_range) in
    let k : get_or mem (w / 4 + 5) 0 / 16 ≡ creator = omega (arith, o.creator_word) in
    ((same-parts _ name _ arity _ creator _ (trees_len env) (w / 4 + 6) n o.arity_word k o.size, omega (arith, o.within), row), o.record_is.within)
fun-seen c shared mem w (Int (pos n)) s tag sub = absurd (omega (arith, told c shared mem w (Int (pos n)) s))
fun-seen c shared mem w (Int (negsuc n)) s tag sub = absurd (omega (arith, told c shared mem w (Int (negsuc n)) s))
fun-seen c shared mem w t s tag sub = absurd (omega (arith, told c shared mem w t s))

pub sees-fun : (mem : List ℕ) (w p : ℕ) → w % 4 ≡ 2 → p ≡ w / 4 → get_or mem p 0 / 4 % 16 ≡ 5 → Sees mem w (look.Fun (record {
  name = get_or mem (get_or mem (p + 1) 0 + 1) 0 / 256;
  arity = get_or mem (p + 3) 0;
  creator = get_or mem (p + 5) 0 / 16;
  env = record { first = p + 6; len = get_or mem (p + 4) 0 };
}))
sees-fun mem w p tag same =
    let P : ℕ → Type 0 =
    λ x. get_or mem x 0 / 4 % 16 ≡ 5 → Sees mem w (look.Fun
    (record {
      name = get_or mem (get_or mem (x + 1) 0 + 1) 0 / 256;
      arity = get_or mem (x + 3) 0;
      creator = get_or mem (x + 5) 0 / 16;
      env = record { first = x + 6; len = get_or mem (x + 4) 0 };
    })) in
    subst P (sym same) (λ sub. record { each = λ c shared t s. (fun-seen c shared mem w t s tag sub).0 })

-- The record of a fun lies in the memory.
pub fun-record-inside : (mem : List ℕ) (w p : ℕ) → IsTerm mem w → w % 4 ≡ 2 → p ≡ w / 4 → get_or mem p 0 / 4 % 16 ≡ 5 → get_or mem (p + 1) 0 + 4 ≤ length mem
fun-record-inside mem w p i tag same =
    let P : ℕ → Type 0 = λ x. get_or mem x 0 / 4 % 16 ≡ 5 → get_or mem (x + 1) 0 + 4 ≤ length mem in
    subst P (sym same) (λ sub. (fun-seen always i.shared mem w i.tree i.standing tag sub).1)

-- A reference and a big integer have so many words.

told-ref : (t : Tree) (w h : ℕ) → Told t w h → w % 4 ≡ 2 → h / 4 % 16 ≡ 4 → h / 64 ≡ 2
told-ref (Ref n k) w h s tag sub = omega arith
told-ref (Int (pos i)) w h s tag sub = absurd (omega (arith, s))
told-ref (Int (negsuc i)) w h s tag sub = absurd (omega (arith, s))
told-ref _ w h s tag sub = absurd (omega arith)

pub ref-words : (mem : List ℕ) (w p : ℕ) → IsTerm mem w → w % 4 ≡ 2 → p ≡ w / 4 → get_or mem p 0 / 4 % 16 ≡ 4 → get_or mem p 0 / 64 ≡ 2
ref-words mem w p i tag same =
    let P : ℕ → Type 0 = λ x. get_or mem x 0 / 4 % 16 ≡ 4 → get_or mem x 0 / 64 ≡ 2 in
    subst P (sym same) (λ sub. told-ref i.tree w (get_or mem (w / 4) 0) (told always i.shared mem w i.tree i.standing) tag sub)

told-big : (t : Tree) (w h : ℕ) → Told t w h → w % 4 ≡ 2 → 2 ≤ h / 4 % 16 → h / 4 % 16 ≤ 3 → (1 ≤ h / 64) × (h / 64 ≤ 2)
told-big (Int (pos i)) w h s tag low high = elim s [ inl imm ↦ absurd (omega arith) | inr big ↦ (omega (arith, big), omega (arith, big)) ]
told-big (Int (negsuc i)) w h s tag low high = elim s [ inl imm ↦ absurd (omega arith) | inr big ↦ (omega (arith, big), omega (arith, big)) ]
told-big _ w h s tag low high = absurd (omega arith)

pub big-words : (mem : List ℕ) (w p : ℕ) → IsTerm mem w → w % 4 ≡ 2 → p ≡ w / 4 → 2 ≤ get_or mem p 0 / 4 % 16 → get_or mem p 0 / 4 % 16 ≤ 3 → (1 ≤ get_or mem p 0 / 64) × (get_or mem p 0 / 64 ≤ 2)
big-words mem w p i tag same =
    let P : ℕ → Type 0 = λ x. 2 ≤ get_or mem x 0 / 4 % 16 → get_or mem x 0 / 4 % 16 ≤ 3 → (1 ≤ get_or mem x 0 / 64) × (get_or mem x 0 / 64 ≤ 2) in
    subst P (sym same) (λ low high. told-big i.tree w (get_or mem (w / 4) 0) (told always i.shared mem w i.tree i.standing) tag low high)

-- A reference.

ref-seen : (c : ℕ → ℕ → Bool) (shared : List (List ℕ)) (mem : List ℕ) (w : ℕ) (t : Tree) → Stands c shared mem w t → w % 4 ≡ 2 → get_or mem (w / 4) 0 / 4 % 16 ≡ 4
    → IsSeen c shared mem w t (look.Ref (get_or mem (w / 4 + 1) 0) (get_or mem (w / 4 + 2) 0))
unfolding Stands
ref-seen c shared mem w (Ref n k) o tag sub = rw (o.number, o.count) refl
ref-seen c shared mem w (Int (pos n)) s tag sub = absurd (omega (arith, told c shared mem w (Int (pos n)) s))
ref-seen c shared mem w (Int (negsuc n)) s tag sub = absurd (omega (arith, told c shared mem w (Int (negsuc n)) s))
ref-seen c shared mem w t s tag sub = absurd (omega (arith, told c shared mem w t s))

pub sees-ref : (mem : List ℕ) (w p : ℕ) → w % 4 ≡ 2 → p ≡ w / 4 → get_or mem p 0 / 4 % 16 ≡ 4 → Sees mem w (look.Ref (get_or mem (p + 1) 0) (get_or mem (p + 2) 0))
sees-ref mem w p tag same =
    let P : ℕ → Type 0 = λ x. get_or mem x 0 / 4 % 16 ≡ 4 → Sees mem w (look.Ref (get_or mem (x + 1) 0) (get_or mem (x + 2) 0)) in
    subst P (sym same) (λ sub. record { each = λ c shared t s. ref-seen c shared mem w t s tag sub })

-- A big integer, of one digit or of two.

two-big : (i : ℤ) → 2 ^ 64 ≤ magnitude i → is_small i ≡ false
two-big (pos n) h = grind (arith, nat_tests)
two-big (negsuc n) h = grind (arith, nat_tests)

sign-told : (i : ℤ) (negative : Bool) (h : ℕ) → h % 64 ≡ sign_tag i * 4 → h / 4 % 16 ≡ (if negative then 3 else 2) → negative ≡ is_negative i
sign-told (pos n) true h e sub = absurd (omega arith)
sign-told (pos n) false h e sub = refl
sign-told (negsuc n) true h e sub = refl
sign-told (negsuc n) false h e sub = absurd (omega arith)

head-sign : (i : ℤ) (arity h : ℕ) → h ≡ arity * 64 + sign_tag i * 4 → h % 64 ≡ sign_tag i * 4
head-sign (pos n) arity h e = omega arith
head-sign (negsuc n) arity h e = omega arith

one-digit : (c : ℕ → ℕ → Bool) (mem : List ℕ) (w : ℕ) (i : ℤ) (negative : Bool) → IsInt c mem w i → w % 4 ≡ 2 → get_or mem (w / 4) 0 / 4 % 16 ≡ (if negative then 3 else 2)
    → (get_or mem (w / 4) 0 / 64 ≡ 2 → ⊥) → HasDigits i (record { negative = negative; low = get_or mem (w / 4 + 1) 0; high = 0 })
one-digit c mem w i negative (inl s) tag sub one = absurd (omega arith)
one-digit c mem w i negative (inr (inl o)) tag sub one =
    record { big = o.big; sign = sign-told i negative (get_or mem (w / 4) 0) (head-sign i 1 (get_or mem (w / 4) 0) o.boxed.header) sub; digits = omega (arith, o.digit) }
one-digit c mem w (pos n) negative (inr (inr o)) tag sub one = absurd (one (omega (arith, o.boxed.header)))
one-digit c mem w (negsuc n) negative (inr (inr o)) tag sub one = absurd (one (omega (arith, o.boxed.header)))

two-digits : (c : ℕ → ℕ → Bool) (mem : List ℕ) (w : ℕ) (i : ℤ) (negative : Bool) → IsInt c mem w i → w % 4 ≡ 2 → get_or mem (w / 4) 0 / 4 % 16 ≡ (if negative then 3 else 2)
    → get_or mem (w / 4) 0 / 64 ≡ 2 → HasDigits i (record { negative = negative; low = get_or mem (w / 4 + 1) 0; high = get_or mem (w / 4 + 2) 0 })
two-digits c mem w i negative (inl s) tag sub two = absurd (omega arith)
two-digits c mem w (pos n) negative (inr (inl o)) tag sub two = absurd (omega (arith, o.boxed.header))
two-digits c mem w (negsuc n) negative (inr (inl o)) tag sub two = absurd (omega (arith, o.boxed.header))
two-digits c mem w i negative (inr (inr o)) tag sub two = record {
  big = two-big i (omega (arith, o.high, o.digits));
  sign = sign-told i negative (get_or mem (w / 4) 0) (head-sign i 2 (get_or mem (w / 4) 0) o.boxed.header) sub;
  digits = o.digits;
}

big-seen : (c : ℕ → ℕ → Bool) (shared : List (List ℕ)) (mem : List ℕ) (w : ℕ) (t : Tree) (d : Digits) → Stands c shared mem w t → w % 4 ≡ 2 → 2 ≤ get_or mem (w / 4) 0 / 4 % 16
    → get_or mem (w / 4) 0 / 4 % 16 ≤ 3
    → ((i : ℤ) → IsInt c mem w i → HasDigits i d) → IsSeen c shared mem w t (look.Big d)
unfolding Stands
big-seen c shared mem w (Int i) d s tag low high has = inr (d, has i s, refl)
big-seen c shared mem w t d s tag low high has = absurd (omega (arith, told c shared mem w t s))

pub range-of : (negative : Bool) (n : ℕ) → n ≡ (if negative then 3 else 2) → (2 ≤ n) × (n ≤ 3)
range-of true n e = (omega arith, omega arith)
range-of false n e = (omega arith, omega arith)

pub sees-one-digit : (mem : List ℕ) (w p : ℕ) (negative : Bool) → w % 4 ≡ 2 → p ≡ w / 4 → get_or mem p 0 / 4 % 16 ≡ (if negative then 3 else 2) → (get_or mem p 0 / 64 ≡ 2 → ⊥)
    → Sees mem w (look.Big (record { negative = negative; low = get_or mem (p + 1) 0; high = 0 }))
sees-one-digit mem w p negative tag same =
    let P : ℕ → Type 0 =
    λ x. get_or mem x 0 / 4 % 16 ≡ (if negative then 3 else 2) → (get_or mem x 0 / 64 ≡ 2 → ⊥) → Sees mem w (look.Big (record { negative = negative; low = get_or mem (x + 1) 0; high = 0 })) in
    subst P (sym same) (λ sub one. record {
      each = λ c shared t s.
          let (low, high) = range-of negative (get_or mem (w / 4) 0 / 4 % 16) sub in
          big-seen c shared mem w t _ s tag low high (λ i o. one-digit c mem w i negative o tag sub one);
    })

pub sees-two-digits : (mem : List ℕ) (w p : ℕ) (negative : Bool) → w % 4 ≡ 2 → p ≡ w / 4 → get_or mem p 0 / 4 % 16 ≡ (if negative then 3 else 2) → get_or mem p 0 / 64 ≡ 2
    → Sees mem w (look.Big (record { negative = negative; low = get_or mem (p + 1) 0; high = get_or mem (p + 2) 0 }))
sees-two-digits mem w p negative tag same =
    let P : ℕ → Type 0 =
    λ x. get_or mem x 0 / 4 % 16 ≡ (if negative then 3 else 2) → get_or mem x 0 / 64 ≡ 2 → Sees mem w
    (look.Big (record { negative = negative; low = get_or mem (x + 1) 0; high = get_or mem (x + 2) 0 })) in
    subst P (sym same) (λ sub two. record {
      each = λ c shared t s.
          let (low, high) = range-of negative (get_or mem (w / 4) 0 / 4 % 16) sub in
          big-seen c shared mem w t _ s tag low high (λ i o. two-digits c mem w i negative o tag sub two);
    })

-- The bytes of binaries.

heap-seen : (c : ℕ → ℕ → Bool) (shared : List (List ℕ)) (mem : List ℕ) (w : ℕ) (t : Tree) → Stands c shared mem w t → w % 4 ≡ 2 → get_or mem (w / 4) 0 / 4 % 16 ≡ 9
    → IsSeen c shared mem w t (look.Heap (record { first = w / 4 + 2; start = 0; len = get_or mem (w / 4 + 1) 0 }))
unfolding Stands
heap-seen c shared mem w (Bin bytes) o tag sub =
    (ap (λ n. look.Heap (record { first = w / 4 + 2; start = 0; len = n })) o.size, lies-from mem (w / 4 + 2) bytes o.content (omega (arith, o.boxed.object.within)))
heap-seen c shared mem w (Int (pos n)) s tag sub = absurd (omega (arith, told c shared mem w (Int (pos n)) s))
heap-seen c shared mem w (Int (negsuc n)) s tag sub = absurd (omega (arith, told c shared mem w (Int (negsuc n)) s))
heap-seen c shared mem w t s tag sub = absurd (omega (arith, told c shared mem w t s))

pub sees-heap : (mem : List ℕ) (w p : ℕ) → w % 4 ≡ 2 → p ≡ w / 4 → get_or mem p 0 / 4 % 16 ≡ 9 → Sees mem w (look.Heap (record { first = p + 2; start = 0; len = get_or mem (p + 1) 0 }))
sees-heap mem w p tag same =
    let P : ℕ → Type 0 = λ x. get_or mem x 0 / 4 % 16 ≡ 9 → Sees mem w (look.Heap (record { first = x + 2; start = 0; len = get_or mem (x + 1) 0 })) in
    subst P (sym same) (λ sub. record { each = λ c shared t s. heap-seen c shared mem w t s tag sub })

holder-seen : (c : ℕ → ℕ → Bool) (shared : List (List ℕ)) (mem : List ℕ) (w : ℕ) (t : Tree) → Stands c shared mem w t → w % 4 ≡ 2 → get_or mem (w / 4) 0 / 4 % 16 ≡ 8
    → IsSeen c shared mem w t (look.Holder (record { first = get_or mem (w / 4 + 3) 0 + 4; start = 0; len = get_or mem (w / 4 + 1) 0 }))
unfolding Stands
holder-seen c shared mem w (Shared id) o tag sub = (
  ap (λ n. look.Holder (record { first = get_or mem (w / 4 + 3) 0 + 4; start = 0; len = n })) o.holder.size,
  lies-from mem (get_or mem (w / 4 + 3) 0 + 4) (shared_bytes shared id) o.record_is.content (omega (arith, o.record_is.within)),
)
holder-seen c shared mem w (Int (pos n)) s tag sub = absurd (omega (arith, told c shared mem w (Int (pos n)) s))
holder-seen c shared mem w (Int (negsuc n)) s tag sub = absurd (omega (arith, told c shared mem w (Int (negsuc n)) s))
holder-seen c shared mem w t s tag sub = absurd (omega (arith, told c shared mem w t s))

pub sees-holder : (mem : List ℕ) (w p : ℕ) → w % 4 ≡ 2 → p ≡ w / 4 → get_or mem p 0 / 4 % 16 ≡ 8
    → Sees mem w (look.Holder (record { first = get_or mem (p + 3) 0 + 4; start = 0; len = get_or mem (p + 1) 0 }))
sees-holder mem w p tag same =
    let P : ℕ → Type 0 = λ x. get_or mem x 0 / 4 % 16 ≡ 8 → Sees mem w (look.Holder (record { first = get_or mem (x + 3) 0 + 4; start = 0; len = get_or mem (x + 1) 0 })) in
    subst P (sym same) (λ sub. record { each = λ c shared t s. holder-seen c shared mem w t s tag sub })

same-part : (base first start1 start2 len1 len2 : ℕ) → start1 ≡ start2 → len1 ≡ len2
    → look.Part (record { base = base; bytes = record { first = first; start = start1; len = len1 } }) ≡ look.Part
    (record { base = base; bytes = record { first = first; start = start2; len = len2 } })
same-part base first start1 start2 len1 len2 p q = rw (p, q) refl

part-seen : (c : ℕ → ℕ → Bool) (shared : List (List ℕ)) (mem : List ℕ) (w : ℕ) (t : Tree) (first : ℕ) → Stands c shared mem w t → w % 4 ≡ 2 → get_or mem (w / 4) 0 / 4 % 16 ≡ 10
    → HasFirst mem (get_or mem (w / 4 + 4) 0) (Some first)
    → IsSeen c shared mem w t (look.Part (record { base = get_or mem (w / 4 + 4) 0; bytes = record { first = first; start = get_or mem (w / 4 + 2) 0; len = get_or mem (w / 4 + 1) 0 } }))
unfolding Stands
part-seen c shared mem w (Part base offset len) first (o, is, sb) tag sub h =
    let whole : BytesFrom mem first 0 (bytes_of shared base) = base-some mem shared base first is (h.each c shared base sb) in (
      first,
      same-part (get_or mem (w / 4 + 4) 0) first (get_or mem (w / 4 + 2) 0) offset (get_or mem (w / 4 + 1) 0) len o.start o.size,
      sb,
      omega (arith, o.inside, length-take len (drop offset (bytes_of shared base)), length-drop offset (bytes_of shared base)),
      slice-from mem first offset len (bytes_of shared base) whole o.inside,
    )
part-seen c shared mem w (Int (pos n)) first s tag sub h = absurd (omega (arith, told c shared mem w (Int (pos n)) s))
part-seen c shared mem w (Int (negsuc n)) first s tag sub h = absurd (omega (arith, told c shared mem w (Int (negsuc n)) s))
part-seen c shared mem w t first s tag sub h = absurd (omega (arith, told c shared mem w t s))

pub sees-part : (mem : List ℕ) (w p first : ℕ) → w % 4 ≡ 2 → p ≡ w / 4 → get_or mem p 0 / 4 % 16 ≡ 10 → HasFirst mem (get_or mem (p + 4) 0) (Some first)
    → Sees mem w (look.Part (record { base = get_or mem (p + 4) 0; bytes = record { first = first; start = get_or mem (p + 2) 0; len = get_or mem (p + 1) 0 } }))
sees-part mem w p first tag same =
    let P : ℕ → Type 0 = λ x. get_or mem x 0 / 4 % 16 ≡ 10 → HasFirst mem (get_or mem (x + 4) 0) (Some first)
    → Sees mem w (look.Part (record { base = get_or mem (x + 4) 0; bytes = record { first = first; start = get_or mem (x + 2) 0; len = get_or mem (x + 1) 0 } })) in
    subst P (sym same) (λ sub h. record { each = λ c shared t s. part-seen c shared mem w t first s tag sub h })

-- The original of a part is a binary.

part-whole : (c : ℕ → ℕ → Bool) (shared : List (List ℕ)) (mem : List ℕ) (w : ℕ) (t : Tree) → Stands c shared mem w t → w % 4 ≡ 2 → get_or mem (w / 4) 0 / 4 % 16 ≡ 10
    → HasFirst mem (get_or mem (w / 4 + 4) 0) None → ⊥
unfolding Stands
part-whole c shared mem w (Part base offset len) (o, is, sb) tag sub h = base-none mem shared base is (h.each c shared base sb)
part-whole c shared mem w (Int (pos n)) s tag sub h = absurd (omega (arith, told c shared mem w (Int (pos n)) s))
part-whole c shared mem w (Int (negsuc n)) s tag sub h = absurd (omega (arith, told c shared mem w (Int (negsuc n)) s))
part-whole c shared mem w t s tag sub h = absurd (omega (arith, told c shared mem w t s))

pub whole-there : (mem : List ℕ) (w p : ℕ) → IsTerm mem w → w % 4 ≡ 2 → p ≡ w / 4 → get_or mem p 0 / 4 % 16 ≡ 10 → HasFirst mem (get_or mem (p + 4) 0) None → ⊥
whole-there mem w p i tag same =
    let P : ℕ → Type 0 = λ x. get_or mem x 0 / 4 % 16 ≡ 10 → HasFirst mem (get_or mem (x + 4) 0) None → ⊥ in
    subst P (sym same) (λ sub h. part-whole always i.shared mem w i.tree i.standing tag sub h)

-- A header that stands has one of these subtags.

told-subtag : (t : Tree) (w h : ℕ) → Told t w h → w % 4 ≡ 2
    → (h / 4 % 16 ≡ 0) ⊎ ((h / 4 % 16 ≡ 2) ⊎ ((h / 4 % 16 ≡ 3) ⊎ ((h / 4 % 16 ≡ 4) ⊎ ((h / 4 % 16 ≡ 5) ⊎ ((h / 4 % 16 ≡ 8) ⊎ ((h / 4 % 16 ≡ 9) ⊎ ((h / 4 % 16 ≡ 10) ⊎ (h / 4 % 16 ≡ 15))))))))
told-subtag (Int (pos i)) w h s tag = elim s [ inl imm ↦ absurd (omega arith) | inr big ↦ inr (inl (omega (arith, big))) ]
told-subtag (Int (negsuc i)) w h s tag = elim s [ inl imm ↦ absurd (omega arith) | inr big ↦ inr (inr (inl (omega (arith, big)))) ]
told-subtag (Tuple ts) w h s tag = inl (omega (arith, s))
told-subtag (Ref n k) w h s tag = inr (inr (inr (inl (omega (arith, s)))))
told-subtag (Fun name arity creator env) w h s tag = inr (inr (inr (inr (inl (omega (arith, s))))))
told-subtag (Shared id) w h s tag = inr (inr (inr (inr (inr (inl (omega (arith, s)))))))
told-subtag (Bin bytes) w h s tag = inr (inr (inr (inr (inr (inr (inl (omega (arith, s))))))))
told-subtag (Part base offset len) w h s tag = inr (inr (inr (inr (inr (inr (inr (inl (omega (arith, s)))))))))
told-subtag (Map ps) w h s tag = inr (inr (inr (inr (inr (inr (inr (inr (omega (arith, s)))))))))
told-subtag (Atom k) w h s tag = absurd (omega arith)
told-subtag (Pid n) w h s tag = absurd (omega arith)
told-subtag Nil w h s tag = absurd (omega arith)
told-subtag (Cons x y) w h s tag = absurd (omega arith)

-- The places of parts lie in the memory, and their words stand.

row-terms : (c : ℕ → ℕ → Bool) (shared : List (List ℕ)) (mem : List ℕ) (p n : ℕ) (ts : Trees) → p + n ≤ length mem → n ≡ trees_len ts → RowStands c shared mem p ts → TermsFrom mem p n
row-terms c shared mem p n ts inside count row = record { within = inside; each = λ j below. is-term c shared mem (get_or mem (p + j) 0) (tree_at ts j) (row-at c shared mem p ts j row (omega arith)) }

pub two-terms : (c : ℕ → ℕ → Bool) (shared : List (List ℕ)) (mem : List ℕ) (p : ℕ) (h t : Tree) → p + 2 ≤ length mem → Stands c shared mem (get_or mem p 0) h
    → Stands c shared mem (get_or mem (p + 1) 0) t → TermsFrom mem p 2
unfolding RowStands
two-terms c shared mem p h t inside sh st = row-terms c shared mem p 2 (h ▹ t ▹ end) inside refl (sh, (st, tt))

lies : (c : ℕ → ℕ → Bool) (shared : List (List ℕ)) (mem : List ℕ) (w : ℕ) (t : Tree) (l : Look) → IsSeen c shared mem w t l → LiesInMemory mem l
lies c shared mem w (Int i) l (inl (small, e)) = subst (LiesInMemory mem) (sym e) tt
lies c shared mem w (Int i) l (inr (d, has, e)) = subst (LiesInMemory mem) (sym e) tt
lies c shared mem w (Atom k) l e = subst (LiesInMemory mem) (sym e) tt
lies c shared mem w (Pid n) l e = subst (LiesInMemory mem) (sym e) tt
lies c shared mem w (Ref n k) l e = subst (LiesInMemory mem) (sym e) tt
lies c shared mem w Nil l e = subst (LiesInMemory mem) (sym e) tt
lies c shared mem w (Cons h t) l (e, inside, sh, st) = subst (LiesInMemory mem) (sym e) (two-terms c shared mem (w / 4) h t inside sh st)
lies c shared mem w (Tuple ts) l (e, inside, row) = subst (LiesInMemory mem) (sym e) (row-terms c shared mem (w / 4 + 1) (trees_len ts) ts inside refl row)
lies c shared mem w (Map ps) l (e, keys, values, ks, vs) = subst (LiesInMemory mem) (sym e) (
  row-terms c shared mem (get_or mem (w / 4 + 2) 0 / 4 + 1) (pairs_len ps) (keys_of ps) keys (sym (keys-len ps)) (keys-row c shared mem (get_or mem (w / 4 + 2) 0 / 4 + 1) ps ks),
  row-terms c shared mem (w / 4 + 3) (pairs_len ps) (values_of ps) values (sym (values-len ps)) (values-row c shared mem (w / 4 + 3) ps vs),
)
lies c shared mem w (Fun name arity creator env) l (e, inside, row) = subst (LiesInMemory mem) (sym e) (row-terms c shared mem (w / 4 + 6) (trees_len env) env inside refl row)
lies c shared mem w (Bin bytes) l (e, from) = subst (LiesInMemory mem) (sym e) from.within
lies c shared mem w (Shared id) l (e, from) = subst (LiesInMemory mem) (sym e) from.within
lies c shared mem w (Part base offset len) l (v, e, sb, size, from) = subst (LiesInMemory mem) (sym e) (is-term c shared mem (get_or mem (w / 4 + 4) 0) base sb, λ i below. from.within i (omega arith))

pub lies-in : (mem : List ℕ) (w : ℕ) (l : Look) → IsTerm mem w → Sees mem w l → LiesInMemory mem l
lies-in mem w l i s = lies always i.shared mem w i.tree l (s.each always i.shared i.tree i.standing)

-- A word that stands is read as no header, and as no word of no kind.

abbrev OfTerm : Kind → Type 0
OfTerm (kind.Header s n) = ⊥
OfTerm kind.Other = ⊥
OfTerm _ = Unit {0}

module _ (mem : List ℕ) (w : ℕ) (k : Kind) (i : IsTerm mem w) (most : length mem ≤ 2 ^ 24) (small : w % 16 ≡ 15 → k ≡ kind.Small (small_value w))
    (pid : w % 16 ≡ 3 → w < 2 ^ 45 → k ≡ kind.Pid (w / 16))
    (atom : w % 64 ≡ 11 → w < 2 ^ 20 → k ≡ kind.Atom (w / 64)) (nil : w ≡ 59 → k ≡ kind.Nil) (list : w % 4 ≡ 1 → w < 2 ^ 26 → k ≡ kind.ListAt (w / 4))
    (boxed : w % 4 ≡ 2 → w < 2 ^ 26 → k ≡ kind.BoxedAt (w / 4)) where
  boxed-term : w % 4 ≡ 2 → OfTerm k
  boxed-term tag = subst OfTerm (sym (boxed tag (boxed-near mem w i most tag))) tt

  of-term : (c : ℕ → ℕ → Bool) (shared : List (List ℕ)) (t : Tree) → Stands c shared mem w t → OfTerm k
  unfolding Stands
  of-term c shared (Atom n) s = subst OfTerm (sym (atom (omega arith) (omega arith))) tt
  of-term c shared (Pid n) s = subst OfTerm (sym (pid (omega arith) (omega arith))) tt
  of-term c shared Nil s = subst OfTerm (sym (nil s)) tt
  of-term c shared (Cons x y) (o, sx, sy) = subst OfTerm (sym (list o.tag (list-near mem w i most o.tag))) tt
  of-term c shared (Int n) s = elim (told c shared mem w (Int n) s) [ inl low ↦ subst OfTerm (sym (small low)) tt | inr big ↦ boxed-term big.0 ]
  of-term c shared (Ref n m) s = boxed-term s.boxed.tag
  of-term c shared (Tuple ts) (o, row) = boxed-term o.boxed.tag
  of-term c shared (Map ps) (o, ks, vs) = boxed-term o.boxed.tag
  of-term c shared (Bin bytes) s = boxed-term s.boxed.tag
  of-term c shared (Shared id) s = boxed-term s.holder.tag
  of-term c shared (Part base offset len) (o, is, sb) = boxed-term o.boxed.tag
  of-term c shared (Fun name arity creator env) (o, row) = boxed-term o.tag

  pub no-other : ((s : ℕ) × (n : ℕ) × (k ≡ kind.Header s n)) ⊎ (k ≡ kind.Other) → ⊥
  no-other which =
      let known : OfTerm k = of-term always i.shared i.tree i.standing in
      elim which [ inl (s, n, e) ↦ subst OfTerm e known | inr e ↦ subst OfTerm e known ]

is-subtag : (mem : List ℕ) (w p : ℕ) → IsTerm mem w → w % 4 ≡ 2 → p ≡ w / 4 → let h : ℕ = get_or mem p 0 in
    (h / 4 % 16 ≡ 0) ⊎ ((h / 4 % 16 ≡ 2) ⊎ ((h / 4 % 16 ≡ 3) ⊎ ((h / 4 % 16 ≡ 4) ⊎ ((h / 4 % 16 ≡ 5) ⊎ ((h / 4 % 16 ≡ 8) ⊎ ((h / 4 % 16 ≡ 9) ⊎ ((h / 4 % 16 ≡ 10) ⊎ (h / 4 % 16 ≡ 15))))))))
is-subtag mem w p i tag same =
    let P : ℕ → Type 0 =
    λ x. let h : ℕ = get_or mem x 0 in (h / 4 % 16 ≡ 0) ⊎ ((h / 4 % 16 ≡ 2)
    ⊎ ((h / 4 % 16 ≡ 3) ⊎ ((h / 4 % 16 ≡ 4) ⊎ ((h / 4 % 16 ≡ 5) ⊎ ((h / 4 % 16 ≡ 8) ⊎ ((h / 4 % 16 ≡ 9) ⊎ ((h / 4 % 16 ≡ 10) ⊎ (h / 4 % 16 ≡ 15)))))))) in
    subst P (sym same) (told-subtag i.tree w (get_or mem (w / 4) 0) (told always i.shared mem w i.tree i.standing) tag)

-- The subtag at a place, by the kind of object that it tells, and the words of the object there.

pub subtag-at : (mem : List ℕ) (p h : ℕ) (o k : Object) → h ≡ get_or mem p 0 → h / 4 % 16 ≡ subtag_of o → o ≡ k → get_or mem p 0 / 4 % 16 ≡ subtag_of k
subtag-at mem p h o k e sub same = ap (λ x. x / 4 % 16) (sym e) ∙ sub ∙ ap subtag_of same

pub object-within : (mem : List ℕ) (w p : ℕ) → IsTerm mem w → w % 4 ≡ 2 → p ≡ w / 4 → p + (1 + get_or mem p 0 / 64) ≤ length mem
object-within mem w p i tag same = let P : ℕ → Type 0 = λ x. x + (1 + get_or mem x 0 / 64) ≤ length mem in subst P (sym same) (boxed-inside mem w i tag)

no-object : (o : Object) → None ≡ Some o → ⊥
no-object o e = cc

pub has-object : (mem : List ℕ) (w p h : ℕ) → IsTerm mem w → w % 4 ≡ 2 → p ≡ w / 4 → h ≡ get_or mem p 0 → object_for (h / 4 % 16) ≡ None → ⊥
has-object mem w p h i tag same e none =
    let Q : ℕ → Type 0 = λ x. object_for (x / 4 % 16) ≡ None in
    let there : object_for (get_or mem p 0 / 4 % 16) ≡ None = subst Q e none in
    let at : (s : ℕ) (o : Object) → object_for s ≡ Some o → get_or mem p 0 / 4 % 16 ≡ s → ⊥ = λ s o some sub. no-object o (sym there ∙ ap object_for sub ∙ some) in
    elim (is-subtag mem w p i tag same) [
      | inl a ↦ at 0 object.Tuple refl a
      | inr (inl a) ↦ at 2 object.PosBig refl a
      | inr (inr (inl a)) ↦ at 3 object.NegBig refl a
      | inr (inr (inr (inl a))) ↦ at 4 object.Ref refl a
      | inr (inr (inr (inr (inl a)))) ↦ at 5 object.Fun refl a
      | inr (inr (inr (inr (inr (inl a))))) ↦ at 8 object.Holder refl a
      | inr (inr (inr (inr (inr (inr (inl a)))))) ↦ at 9 object.HeapBin refl a
      | inr (inr (inr (inr (inr (inr (inr (inl a))))))) ↦ at 10 object.SubBin refl a
      | inr (inr (inr (inr (inr (inr (inr (inr a))))))) ↦ at 15 object.Map refl a
    ]

-- Where the bytes of a binary lie.

data-seen : (c : ℕ → ℕ → Bool) (shared : List (List ℕ)) (mem : List ℕ) (w : ℕ) (t : Tree) (l : Look) → IsSeen c shared mem w t l → IsData mem (binary_of shared t) (data_in l)
data-seen c shared mem w (Bin bytes) l (e, from) =
    let P : Look → Type 0 = λ x. IsData mem (Some bytes) (data_in x) in
    subst P (sym e) (record { first = w / 4 + 2; start = 0; len = length bytes }, refl, from, refl)
data-seen c shared mem w (Shared id) l (e, from) =
    let P : Look → Type 0 = λ x. IsData mem (Some (shared_bytes shared id)) (data_in x) in
    subst P (sym e) (record { first = get_or mem (w / 4 + 3) 0 + 4; start = 0; len = length (shared_bytes shared id) }, refl, from, refl)
data-seen c shared mem w (Part base offset len) l (v, e, sb, size, from) =
    let P : Look → Type 0 = λ x. IsData mem (Some (bytes_of shared (Part base offset len))) (data_in x) in
    subst P (sym e) (record { first = v; start = offset; len = len }, refl, from, sym size)
data-seen c shared mem w (Int i) l (inl (small, e)) = ap data_in e
data-seen c shared mem w (Int i) l (inr (d, has, e)) = ap data_in e
data-seen c shared mem w (Atom k) l e = ap data_in e
data-seen c shared mem w (Pid n) l e = ap data_in e
data-seen c shared mem w (Ref n k) l e = ap data_in e
data-seen c shared mem w Nil l e = ap data_in e
data-seen c shared mem w (Cons h t) l (e, inside, sh, st) = ap data_in e
data-seen c shared mem w (Tuple ts) l (e, inside, row) = ap data_in e
data-seen c shared mem w (Map ps) l (e, keys, values, ks, vs) = ap data_in e
data-seen c shared mem w (Fun name arity creator env) l (e, inside, row) = ap data_in e

pub has-data : (mem : List ℕ) (w : ℕ) (l : Look) (o : Option Bytes) → Sees mem w l → data_in l ≡ o → HasData mem w o
has-data mem w l o s e = let P : Option Bytes → Type 0 = λ x. HasData mem w x in subst P e (record { each = λ c shared t r. data-seen c shared mem w t l (s.each c shared t r) })

pub no-data : (l : Look) → ((b : Bytes) → l ≡ look.Heap b → ⊥) → ((b : Bytes) → l ≡ look.Holder b → ⊥) → ((p : PartBytes) → l ≡ look.Part p → ⊥) → data_in l ≡ None
no-data (look.Heap b) n m k = absurd (n b refl)
no-data (look.Holder b) n m k = absurd (m b refl)
no-data (look.Part p) n m k = absurd (k p refl)
no-data _ n m k = refl
