-- Words of terms: those of a row together, those that are left while more are made, and one more.
use Rattle.std.proofs.Common.{◌≡◌, ℕ, zero, suc, ◌+◌, ◌-◌, ◌*◌, ◌<◌, ◌≤◌, ◌⊎◌, Bool, true, List, [], ◌∷◌, ◌++◌, length, get_or, replicate, take, drop, refl, sym}
use Rattle.std.proofs.Common.{◌∙◌, ap, subst, arith, inl, inr, Option, Some, None, IfSome, min, ℤ, pos, negsuc, unsigned_abs, nat_lt, ◌^◌, if◌then◌else◌, false, length-take, length-append, get_or-take, get_or-drop, ◌&&◌}
use Rattle.std.proofs.lemmas.Bool.{lt-ltb}
use Rattle.std.proofs.lemmas.List.{length-replicate, length-drop, length-take-le, get_or_append_left, get_or_push}
use Rattle.word_mem.specs.declared.ranges.Room.{Room}
use Rattle.plain_term.specs.Tree.{Tree, Trees, Pairs, keys_of, values_of, same_trees}
use Rattle.plain_term.specs.Measures.{int_flat, is_small, magnitude}
use Rattle.plain_term.specs.Tree.Trees.{end, ◌▹◌}
use Rattle.plain_term.specs.Tree.Pairs.{stop, pair}
use Rattle.term_words.specs.Role.{always, outside}
use Rattle.term_words.specs.Kept.{Keeps}
use Rattle.term_words.proofs.Framing.Rooms.{is-term, weaken}
use Rattle.term_order.specs.Compared.{AreNamed}
use Rattle.term_words.specs.Stands.{AllStand, IsTerm}
use Rattle.term_build.specs.Clear.{Clear, AllClear, KeepsClear, IsRoom, Uses}
use Rattle.term_build.proofs.Rooms.{keeps-none, keeps-clear-then, room-after}
use Rattle.term_maps.specs.Given.{PairsStand}
use Rattle.term_print.specs.Printed.{CanPrint}
use Rattle.term_walk.specs.Measured.{Measures}
use Rattle.term_walk.specs.declared.measured.Measure.{Measure}
use Rattle.term_walk.specs.declared.measured.Measured.{Measured}
use Rattle.term_walk.specs.declared.measured.Measured.TheVariants.{Within, Beyond}
use Rattle.term_order.specs.Named.{is_named, are_named, pairs_named}
use Rattle.ladder_tests.specs.Bench.{AreGood, ArePairs, AreTerms, IsBench, IsGood, Makes}

-- The trees of a row.
pub record GoodRow (shared names : List (List ℕ)) (room : Room) (mem ws : List ℕ) : Type 0 where
  pub trees : Trees
  pub clear : AllClear room shared mem ws trees
  pub named : are_named (length names) trees ≡ true

pub row-good : (shared names : List (List ℕ)) (room : Room) (mem ws : List ℕ) → AreGood shared names room mem ws → GoodRow shared names room mem ws
unfolding AllStand
row-good shared names room mem [] g = record { trees = end; clear = tt; named = refl }
row-good shared names room mem (w ∷ ws) g =
    let one : IsGood shared names room mem w = g.each 0 (omega arith) in
    let rest : GoodRow shared names room mem ws = row-good shared names room mem ws (record { each = λ i below. g.each (suc i) (omega arith) }) in
    record { trees = one.tree ▹ rest.trees; clear = (one.clear, rest.clear); named = rw (one.named, rest.named) refl }

-- The trees of pairs.
pub record GoodPairs (shared names : List (List ℕ)) (room : Room) (mem : List ℕ) (words : List (ℕ × ℕ)) : Type 0 where
  pub given : Pairs
  pub clear : PairsStand (outside room.top room.end) shared mem words given
  pub named : pairs_named (length names) given ≡ true

pub pairs-good : (shared names : List (List ℕ)) (room : Room) (mem : List ℕ) (words : List (ℕ × ℕ)) → ArePairs shared names room mem words → GoodPairs shared names room mem words
unfolding PairsStand
pairs-good shared names room mem [] g = record { given = stop; clear = tt; named = refl }
pairs-good shared names room mem (p ∷ words) g =
    let one = g.each 0 (omega arith) in
    let rest = pairs-good shared names room mem words (record { each = λ i below. g.each (suc i) (omega arith) }) in
    record {
      given = pair one.0.tree one.1.tree rest.given;
      clear = ((one.0.clear, one.1.clear), rest.clear);
      named = rw (one.0.named, one.1.named, rest.named) refl;
    }

-- What is good stays so.
pub good-after : (shared names : List (List ℕ)) (old new : Room) (mem mem2 ws : List ℕ) → KeepsClear old new mem mem2 → AreGood shared names old mem ws → AreGood shared names new mem2 ws
good-after shared names old new mem mem2 ws k g = record {
  each = λ i below.
      let one = g.each i below in
      record { tree = one.tree; clear = k.each shared (get_or ws i 0) one.tree one.clear; named = one.named };
}

-- The first words of a row, and the last.
pub good-front : (shared names : List (List ℕ)) (room : Room) (mem ws : List ℕ) (n : ℕ) → AreGood shared names room mem ws → AreGood shared names room mem (take n ws)
good-front shared names room mem ws n g =
    let P : ℕ → Type 0 = λ w. IsGood shared names room mem w in
    record {
      each = λ i below.
          let short : i < min n (length ws) = subst (λ x. i < x) (length-take n ws) below in
          subst P (sym (get_or-take n ws i 0 (omega arith))) (g.each i (omega arith));
    }

pub good-back : (shared names : List (List ℕ)) (room : Room) (mem ws : List ℕ) (n : ℕ) → AreGood shared names room mem ws → AreGood shared names room mem (drop n ws)
good-back shared names room mem ws n g =
    let P : ℕ → Type 0 = λ w. IsGood shared names room mem w in
    record { each = λ i below. subst P (sym (get_or-drop n ws i 0)) (g.each (n + i) (omega (arith, below, length-drop n ws))) }

less-or-last : (i n : ℕ) → i < n + 1 → (i < n) ⊎ (i ≡ n)
less-or-last i n below = grind arith

-- The words of a row from one on.
pub good-rest : (shared names : List (List ℕ)) (room : Room) (mem ws : List ℕ) (n m : ℕ) → AreGood shared names room mem ws → AreGood shared names room mem (take m (drop n ws))
good-rest shared names room mem ws n m g = good-front shared names room mem (drop n ws) m (good-back shared names room mem ws n g)

-- The first words of a row after more was made.
pub bench-left : (shared names : List (List ℕ)) (old new : Room) (mem mem2 ws items : List ℕ) (n : ℕ) → IsRoom new mem2 → KeepsClear old new mem mem2
    → AreGood shared names old mem ws → items ≡ take n ws → IsBench shared names new mem2 items
bench-left shared names old new mem mem2 ws items n place kept g same =
    let P : List ℕ → Type 0 = λ x. IsBench shared names new mem2 x in
    subst P (sym same) (record { place = place; good = good-front shared names new mem2 ws n (good-after shared names old new mem mem2 ws kept g) })

-- A row of keys and values has two halves.
pub halves : (ws : List ℕ) (n : ℕ) → length ws ≡ 2 * n → (length (take n ws) ≡ n) × (length (take (length ws - n) (drop n ws)) ≡ n)
halves ws n many = (length-take-le n ws (omega arith), omega (arith, many, length-take-le (length ws - n) (drop n ws) (omega (arith, length-drop n ws))))

-- One word more.
pub good-more : (shared names : List (List ℕ)) (room : Room) (mem ws : List ℕ) (w : ℕ) → AreGood shared names room mem ws → IsGood shared names room mem w
    → AreGood shared names room mem (ws ++ w ∷ [])
good-more shared names room mem ws w g one =
    let P : ℕ → Type 0 = λ x. IsGood shared names room mem x in
    record {
      each = λ i below. elim (less-or-last i (length ws) (omega (arith, below, length-append ws (w ∷ [])))) [
        | inl less ↦ subst P (sym (get_or_append_left ws (w ∷ []) 0 i less)) (g.each i less)
        | inr last ↦ subst P (sym (get_or_push ws w 0 i (sym last))) one
      ];
    }

-- Nothing was made.
pub none-made : (shared names : List (List ℕ)) (room : Room) (mem : List ℕ) → IsRoom room mem → Makes shared names room room mem mem None
none-made shared names room mem place = record { place = place; kept = keeps-none room mem; good = tt }

-- A word was made in n words of the room.
pub one-made : (n : ℕ) (shared names : List (List ℕ)) (old new : Room) (mem mem2 : List ℕ) (w : ℕ) (t : Tree) → Uses n old new mem mem2 → IsRoom old mem → old.top + n ≤ old.end
    → KeepsClear old new mem mem2 → Clear new shared mem2 w t → is_named (length names) t ≡ true → Makes shared names old new mem mem2 (Some w)
one-made n shared names old new mem mem2 w t u place fits kept clear named = record {
  place = room-after n old new mem mem2 u place fits;
  kept = kept;
  good = record { tree = t; clear = clear; named = named };
}

-- It was made after other words were taken.
pub made-after : (shared names : List (List ℕ)) (old mid new : Room) (mem mem2 mem3 : List ℕ) (made : Option ℕ) → KeepsClear old mid mem mem2 → Makes shared names mid new mem2 mem3 made
    → Makes shared names old new mem mem3 made
made-after shared names old mid new mem mem2 mem3 made kept m = record { place = m.place; kept = keeps-clear-then old mid new mem mem2 mem3 kept m.kept; good = m.good }

-- The same tree many times.
pub same-named : (m n : ℕ) (t : Tree) → is_named m t ≡ true → are_named m (same_trees n t) ≡ true
same-named m zero t h = refl
same-named m (suc n) t h = rw (h, same-named m n t h) refl

-- An integer takes three words at most.
three : (small one : Bool) → (if small then 0 else (if one then 2 else 3)) ≤ 3
three true one = omega arith
three false true = omega arith
three false false = omega arith

pub int-few : (i : ℤ) → int_flat i ≤ 3
int-few i = three (is_small i) (nat_lt (magnitude i) (2 ^ 64))

pub int-magnitude : (i : ℤ) → magnitude i ≡ unsigned_abs i
int-magnitude (pos n) = refl
int-magnitude (negsuc n) = omega arith

pub pairs-none : (shared names : List (List ℕ)) (room : Room) (mem : List ℕ) → ArePairs shared names room mem []
pairs-none shared names room mem = record { each = λ i below. absurd (omega (arith, below)) }

-- A pair more.
pub pairs-more : (shared names : List (List ℕ)) (room : Room) (mem : List ℕ) (ps : List (ℕ × ℕ)) (a b : ℕ) → ArePairs shared names room mem ps → IsGood shared names room mem a
    → IsGood shared names room mem b → ArePairs shared names room mem (ps ++ (a, b) ∷ [])
pairs-more shared names room mem ps a b g x y =
    let P : ℕ × ℕ → Type 0 = λ p. IsGood shared names room mem p.0 × IsGood shared names room mem p.1 in
    record {
      each = λ i below. elim (less-or-last i (length ps) (omega (arith, below, length-append ps ((a, b) ∷ [])))) [
        | inl less ↦ subst P (sym (get_or_append_left ps ((a, b) ∷ []) (0, 0) i less)) (g.each i less)
        | inr last ↦ subst P (sym (get_or_push ps (a, b) (0, 0) i (sym last))) (x, y)
      ];
    }

pub fun-named : (n name : ℕ) (ts : Trees) → name < n → are_named n ts ≡ true → (nat_lt name n && are_named n ts) ≡ true
fun-named n name ts h all = rw (lt-ltb name n h, all) refl

-- The trees of a row of keys and a row of their values.
pub record TwoRows (shared names : List (List ℕ)) (room : Room) (mem ks vs : List ℕ) : Type 0 where
  pub given : Pairs
  pub keys : AllClear room shared mem ks (keys_of given)
  pub values : AllClear room shared mem vs (values_of given)
  pub named : pairs_named (length names) given ≡ true

pub two-rows : (shared names : List (List ℕ)) (room : Room) (mem ks vs : List ℕ) → AreGood shared names room mem ks → AreGood shared names room mem vs → length vs ≡ length ks
    → TwoRows shared names room mem ks vs
unfolding AllStand
two-rows shared names room mem [] [] g h same = record { given = stop; keys = tt; values = tt; named = refl }
two-rows shared names room mem (k ∷ ks) (v ∷ vs) g h same =
    let x : IsGood shared names room mem k = g.each 0 (omega arith) in
    let y : IsGood shared names room mem v = h.each 0 (omega arith) in
    let rest : TwoRows shared names room mem ks vs =
    two-rows shared names room mem ks vs (record { each = λ i below. g.each (suc i) (omega arith) }) (record { each = λ i below. h.each (suc i) (omega arith) }) (omega (arith, same)) in
    record { given = pair x.tree y.tree rest.given; keys = (x.clear, rest.keys); values = (y.clear, rest.values); named = rw (x.named, y.named, rest.named) refl }
two-rows shared names room mem [] (v ∷ vs) g h same = absurd (omega (arith, same))
two-rows shared names room mem (k ∷ ks) [] g h same = absurd (omega (arith, same))

-- The one word that was made.
pub word-good : (shared names : List (List ℕ)) (room : Room) (mem : List ℕ) (made : Option ℕ) (w : ℕ) → made ≡ Some w → IfSome made (λ x. IsGood shared names room mem x)
    → IsGood shared names room mem w
word-good shared names room mem made w is good = let P : Option ℕ → Type 0 = λ o. IfSome o (λ x. IsGood shared names room mem x) in subst P is good

-- So are the words of a slice.
pub terms-of : (shared names : List (List ℕ)) (room : Room) (mem ws items : List ℕ) → ws ≡ items → AreGood shared names room mem items → AreTerms names mem ws
terms-of shared names room mem ws items same g =
    let P : List ℕ → Type 0 = λ x. AreGood shared names room mem x in
    record { shared = shared; room = room; good = subst P (sym same) g }

-- Terms can be measured and compared.
pub term-at : (names : List (List ℕ)) (mem ws : List ℕ) (i : ℕ) → AreTerms names mem ws → i < length ws → IsTerm mem (get_or ws i 0)
term-at names mem ws i a below =
    let one : IsGood a.shared names a.room mem (get_or ws i 0) = a.good.each i below in
    is-term (outside a.room.top a.room.end) a.shared mem (get_or ws i 0) one.tree one.clear

-- Terms that were measured can be written.
not-beyond : (b : Bool) (m n : Measure) → Within m ≡ (if b then Beyond else Within n) → b ≡ false
not-beyond false m n h = refl
not-beyond true m n h = absurd cc

pub can-print : (names : List (List ℕ)) (mem ws : List ℕ) (i : ℕ) (r : Measured) (m : Measure) → AreTerms names mem ws → i < length ws → Measures mem (get_or ws i 0) r
    → r ≡ Within m → CanPrint mem names (get_or ws i 0)
can-print names mem ws i r m a below h is =
    let one : IsGood a.shared names a.room mem (get_or ws i 0) = a.good.each i below in
    let k : Keeps (outside a.room.top a.room.end) always mem mem = weaken (outside a.room.top a.room.end) always mem (λ q r h. refl) in
    let standing = k.each a.shared (get_or ws i 0) one.tree one.clear in
    record {
      shared = a.shared;
      tree = one.tree;
      standing = standing;
      within = not-beyond _ m _ (sym is ∙ h.each always a.shared one.tree standing);
      named = one.named;
    }

pub terms-named : (names : List (List ℕ)) (mem ws : List ℕ) (i j : ℕ) → AreTerms names mem ws → i < length ws → j < length ws → AreNamed mem names (get_or ws i 0) (get_or ws j 0)
terms-named names mem ws i j a hi hj =
    let one : IsGood a.shared names a.room mem (get_or ws i 0) = a.good.each i hi in
    let two : IsGood a.shared names a.room mem (get_or ws j 0) = a.good.each j hj in
    let k : Keeps (outside a.room.top a.room.end) always mem mem = weaken (outside a.room.top a.room.end) always mem (λ q r h. refl) in
    record {
      shared = a.shared;
      first = one.tree;
      second = two.tree;
      first_stands = k.each a.shared (get_or ws i 0) one.tree one.clear;
      second_stands = k.each a.shared (get_or ws j 0) two.tree two.clear;
      first_named = one.named;
      second_named = two.named;
    }

-- Nothing was made yet in a new memory.
pub bench-begins : (n : ℕ) (shared names : List (List ℕ)) (room : Room) (mem ws : List ℕ) → room ≡ record { start = 0; top = 0; end = n } → mem ≡ replicate n 0 → ws ≡ []
    → IsBench shared names room mem ws
bench-begins n shared names room mem ws r m none =
    let P : Room → Type 0 = λ x. IsBench shared names x mem ws in
    let Q : List ℕ → Type 0 = λ x. IsBench shared names (record { start = 0; top = 0; end = n }) mem x in
    let len : length mem ≡ n = ap length m ∙ length-replicate {A = ℕ} n 0 in
    subst P (sym r)
    (subst Q (sym none)
    (record { place = record { start_first = omega arith; top_next = omega arith; inside = omega (arith, len) }; good = record { each = λ i below. absurd (omega (arith, below)) } }))
