-- A worked image in blocks that stands for a state: two processes, a message, a fragment and an area.
use Rattle.std.proofs.Common.{◌≡◌, ℕ, zero, suc, ◌+◌, ◌<◌, ◌≤◌, ◌⊎◌, ◌==◌, ◌&&◌, ◌||◌, not, nat_le, nat_lt, Bool, true, false, List, [], ◌∷◌, length, replicate, slice_index, pos, refl, sym, ◌∙◌, subst, arith, inl, inr}
use Rattle.std.proofs.lemmas.Bool.{and_parts, or_cases, false≢true}
use Rattle.std.proofs.lemmas.Bool.Decides.{nat_tests}
use Rattle.plain_term.specs.Tree.{Tree}
use Rattle.plain_term.specs.Tree.Tree.{Cons, Int, Nil, Tuple}
use Rattle.plain_term.specs.Tree.Trees.{end, ◌▹◌}
use Rattle.term_words.specs.Role.{FIRST, FURTHER, IsSingle, roles_of}
use Rattle.term_words.specs.Object.{IsObject, IsRecord}
use Rattle.term_words.specs.Stands.{Stands}
use Rattle.shared_rec.proofs.Records.{record-first}
use Rattle.plain_machine.specs.State.{State, first_state}
use Rattle.store_image.specs.Image.{ImageStands, LiesIn, Stretch, WordsStand, all_pieces}
use Rattle.store_image.specs.Images.{block_words, blocks}
use Rattle.store_image.proofs.Pieces.Worked.{blocks-lead}

-- The state: process 1 has a list of the literal in register 0 and on its stack, process 2 the list of 1, and the list of 2 waits for it.
abbrev literal : Tree
literal = Tuple (Int (pos 1) ▹ Int (pos 2) ▹ end)

abbrev block_state : State
block_state = record first_state {
  processes =
      record { number = 1; registers = Cons literal Nil ∷ replicate 15 Nil; stack = Cons literal Nil ∷ []; queue = []; refs = 0 }
      ∷ record { number = 2; registers = Cons (Int (pos 1)) Nil ∷ replicate 15 Nil; stack = []; queue = Cons (Int (pos 2)) Nil ∷ []; refs = 0 } ∷ [];
  areas = record { name = 0; literals = literal ∷ [] } ∷ [];
  next = 3;
  swept = true;
}

-- The roles of the words: the first of each object, and the others.
abbrev block_roles : List ℕ
block_roles =
    0 ∷ 0 ∷ 3 ∷ 4 ∷ 0 ∷ 0 ∷ 0 ∷ 0 ∷ 0 ∷ 0 ∷ 3 ∷ 4 ∷ 0 ∷ 0 ∷ 0 ∷ 0 ∷ 0 ∷ 0 ∷ 3 ∷ 4
    ∷ 0 ∷ 0 ∷ 0 ∷ 0 ∷ 3 ∷ 4 ∷ 0 ∷ 0 ∷ 0 ∷ 3 ∷ 4 ∷ 4 ∷ []

abbrev block_test : ℕ → ℕ → Bool
block_test = roles_of (λ a. slice_index block_roles a)

role-is : (a k : ℕ) → block_test a k ≡ true → (0 < k) × (slice_index block_roles a ≡ k)
unfolding roles_of
role-is a k e =
    let parts = and_parts (nat_lt 0 k) (slice_index block_roles a == k) e in
    (grind (arith, nat_tests, parts.0), grind (arith, nat_tests, parts.1))

block-single : IsSingle block_test
block-single = record { one = λ a j k e f. sym (role-is a j e).1 ∙ (role-is a k f).1 }

-- Words with roles lie in the regions, and none has a record's role.

abbrev lies_in : List Stretch → ℕ → Bool
lies_in [] a = false
lies_in (r ∷ rs) a = (nat_le r.place a && nat_lt a (r.place + length r.words)) || lies_in rs a

lies-in : (rs : List Stretch) (a : ℕ) → lies_in rs a ≡ true → LiesIn rs a
lies-in [] a e = absurd (false≢true e)
lies-in (r ∷ rs) a e = elim (or_cases (nat_le r.place a && nat_lt a (r.place + length r.words)) (lies_in rs a) e) [
  | inl here ↦ inl (grind (arith, nat_tests, here), grind (arith, nat_tests, here))
  | inr more ↦ inr (lies-in rs a more)
]

abbrev all_roled : List Stretch → ℕ → List ℕ → Bool
all_roled rs a [] = true
all_roled rs a (k ∷ ks) = ((k == 0) || (nat_lt k 6 && lies_in rs a)) && all_roled rs (a + 1) ks

all-roled : (rs : List Stretch) (a : ℕ) (ks : List ℕ) (i : ℕ) → all_roled rs a ks ≡ true → 0 < slice_index ks i → (slice_index ks i < 6) × LiesIn rs (a + i)
all-roled rs a [] i e some = absurd (omega (arith, some))
all-roled rs a (k ∷ ks) zero e some = elim (or_cases (k == 0) (nat_lt k 6 && lies_in rs a) (and_parts ((k == 0) || (nat_lt k 6 && lies_in rs a)) (all_roled rs (a + 1) ks) e).0) [
  | inl none ↦ absurd (let is : k ≡ 0 = grind (arith, nat_tests, none) in omega (arith, is, some))
  | inr there ↦
      let parts = and_parts (nat_lt k 6) (lies_in rs a) there in
      let P : ℕ → Type 0 = λ z. LiesIn rs z in
      let same : a ≡ a + 0 = omega arith in
      (grind (arith, nat_tests, parts.0), subst P same (lies-in rs a parts.1))
]
all-roled rs a (k ∷ ks) (suc i) e some =
    let more = all-roled rs (a + 1) ks i (and_parts ((k == 0) || (nat_lt k 6 && lies_in rs a)) (all_roled rs (a + 1) ks) e).1 some in
    let P : ℕ → Type 0 = λ z. LiesIn rs z in
    let same : a + 1 + i ≡ a + suc i = omega arith in
    (more.0, subst P same more.1)

roled : (a k : ℕ) → block_test a k ≡ true → (k < 6) × LiesIn (all_pieces blocks) a
roled a k e =
    let (some, is) = role-is a k e in
    let there = all-roled (all_pieces blocks) 0 block_roles a refl (omega (arith, some, is)) in
    let P : ℕ → Type 0 = λ z. LiesIn (all_pieces blocks) z in
    let same : 0 + a ≡ a = omega arith in
    (omega (arith, is, there.0), subst P same there.1)

-- None of the roles is that of a word `next`.
abbrev none_are : ℕ → List ℕ → Bool
none_are n [] = true
none_are n (k ∷ ks) = not (k == n) && none_are n ks

none-are : (n : ℕ) (ks : List ℕ) (i : ℕ) → 0 < n → none_are n ks ≡ true → slice_index ks i ≡ n → ⊥
none-are n [] i some e is = omega (arith, some, is)
none-are n (k ∷ ks) zero some e is = let here = (and_parts (not (k == n)) (none_are n ks) e).0 in grind (arith, nat_tests, here, is)
none-are n (k ∷ ks) (suc i) some e is = none-are n ks i some (and_parts (not (k == n)) (none_are n ks) e).1 is

no-record : (v n : ℕ) → IsRecord block_test block_words v n → ⊥
no-record v n there = let r = roled v 8 (record-first block_test block_words v n there) in omega (arith, r.0)

-- Words that stand for trees.

two-words : (p : ℕ) → p + 2 ≤ 32 → block_test p FIRST ≡ true → block_test (p + 1) FURTHER ≡ true → IsObject block_test block_words p 2
two-words p fits first second = record {
  within = fits;
  first = first;
  others = λ q from below. let e : p + 1 ≡ q = omega (arith, from, below) in let P : ℕ → Type 0 = λ z. block_test z FURTHER ≡ true in subst P e second;
}

three-words : IsObject block_test block_words 29 3
unfolding roles_of
three-words = record {
  within = omega arith;
  first = refl;
  others = λ q from below.
      let P : ℕ → Type 0 = λ z. block_test z FURTHER ≡ true in
      let which : (30 ≡ q) ⊎ (31 ≡ q) = grind (arith, from, below) in
      elim which [ inl e ↦ subst P e refl | inr e ↦ subst P e refl ];
}

literal-stands : Stands block_test [] block_words 118 literal
unfolding Stands
literal-stands = (
  record { range = omega arith; boxed = record { tag = refl; header = refl; object = three-words } },
  (inl (record { small = refl; word = refl }), (inl (record { small = refl; word = refl }), tt)),
)

first-list : Stands block_test [] block_words 9 (Cons literal Nil)
unfolding Stands roles_of
first-list = (record { tag = refl; object = two-words 2 (omega arith) refl refl }, literal-stands, refl)

fragment-list : Stands block_test [] block_words 97 (Cons literal Nil)
unfolding Stands roles_of
fragment-list = (record { tag = refl; object = two-words 24 (omega arith) refl refl }, literal-stands, refl)

second-list : Stands block_test [] block_words 41 (Cons (Int (pos 1)) Nil)
unfolding Stands roles_of
second-list = (record { tag = refl; object = two-words 10 (omega arith) refl refl }, inl (record { small = refl; word = refl }), refl)

message-list : Stands block_test [] block_words 73 (Cons (Int (pos 2)) Nil)
unfolding Stands roles_of
message-list = (record { tag = refl; object = two-words 18 (omega arith) refl refl }, inl (record { small = refl; word = refl }), refl)

nils : (n : ℕ) → WordsStand block_test [] block_words (replicate n 59) (replicate n Nil)
unfolding Stands
nils zero = tt
nils (suc n) = (refl, nils n)

-- The image stands for the state.
pub blocks-stand : ImageStands blocks block_state
blocks-stand = record {
  serials = refl;
  next = refl;
  swept = refl;
  mem = block_words;
  arena = refl;
  told = ((omega arith), refl, ((omega arith), refl, ((omega arith), refl, ((omega arith), refl, ((omega arith), refl, tt)))));
  regions_follow = ((omega arith), ((omega arith), ((omega arith), ((omega arith), tt))));
  bins_follow = tt;
  funs_follow = tt;
  test = block_test;
  single = block-single;
  inside = λ a k e. (roled a k e).1;
  nexts = λ p e. absurd (none-are 1 block_roles (p + 2) (omega arith) refl (role-is (p + 2) 1 e).1);
  records = record { all = λ v n there. absurd (no-record v n there); each_bin = tt; each_fun = tt; bins_once = tt; funs_once = tt };
  processes = (
    record { number = refl; refs = refl; registers = (fragment-list, nils 15); stack = (first-list, tt); queue = tt },
    (record { number = refl; refs = refl; registers = (second-list, nils 15); stack = tt; queue = (message-list, tt) }, tt),
  );
  areas = (record { name = refl; words = (literal-stands, tt) }, tt);
  lead = blocks-lead;
  counted = λ v n there. absurd (no-record v n there);
  exact = λ e v n there. absurd (no-record v n there);
}
