-- Words that stand for trees or for wide terms.
use Rattle.std.proofs.Common.{◌≡◌, ℕ, zero, suc, ◌+◌, ◌*◌, ◌/◌, ◌<◌, ◌≤◌, ◌||◌, ◌&&◌, ◌==◌, Bool, true, false, List, [], ◌∷◌, ◌++◌, length, get_or, take, drop, Option, Some, None, refl, sym, ◌∙◌, ap, subst, arith}
use Rattle.std.proofs.lemmas.Bool.{and_parts, false≢true, true≢false}
use Rattle.std.proofs.lemmas.Bool.Decides.{nat_tests}
use Rattle.plain_term.specs.Tree.{Tree, Trees, Pairs, trees_len, pairs_len}
use Rattle.plain_term.specs.Tree.Trees.{end, ◌▹◌}
use Rattle.plain_term.specs.Tree.Pairs.{stop, pair}
use Rattle.plain_term.specs.Beyond.{is_beyond}
use Rattle.term_words.specs.Role.{always}
use Rattle.term_words.specs.Kept.{Keeps}
use Rattle.term_words.specs.Stands.{Stands, AllStand}
use Rattle.term_words.proofs.Placing.Apart.{no-header}
use Rattle.term_words.proofs.Framing.Frames.{frame}
use Rattle.term_words.proofs.ByKind.Shapes.{told}
use Rattle.term_order.specs.Named.{is_named, are_named, pairs_named}
use Rattle.term_maps.specs.Stops.{has_beyond}
use Rattle.term_maps.specs.Given.{PairsStand, word_pairs}
use Rattle.item_build.specs.Reading.{all_of, has_big_key, is_big_key, paired, put_first}
use Rattle.item_build.specs.Building.{AreMarks, IsMark, MarksNamed, holds_wide}

-- Wherever the test allows it, every test does.
pub always-keeps : (c : ℕ → ℕ → Bool) (mem : List ℕ) → Keeps c always mem mem
always-keeps c mem = frame c always mem mem (record { longer = omega arith; weaker = λ a k h. refl; same = λ a k is h. refl })

-- The word 0 stands for no tree.
pub none-stands : (c : ℕ → ℕ → Bool) (shared : List (List ℕ)) (mem : List ℕ) (w : ℕ) (t : Tree) → w ≡ 0 → Stands c shared mem w t → ⊥
none-stands c shared mem w t e s = no-header t w (get_or mem (w / 4) 0) (told c shared mem w t s) (omega (arith, e))

-- Keys and values in turn, each of which is there.
abbrev pub in_turn : Pairs → List (Option Tree)
in_turn stop = []
in_turn (pair k v ps) = Some k ∷ Some v ∷ in_turn ps

module _ (c d : ℕ → ℕ → Bool) (old new : List ℕ) (keeps : Keeps c d old new) (shared : List (List ℕ)) where
  pub keep-mark : (w : ℕ) (m : Option Tree) → IsMark c shared old w m → IsMark d shared new w m
  keep-mark w None s = s
  keep-mark w (Some t) s = keeps.each shared w t s

  pub keep-marks : (ws : List ℕ) (ms : List (Option Tree)) → AreMarks c shared old ws ms → AreMarks d shared new ws ms
  unfolding AreMarks
  keep-marks [] [] all = tt
  keep-marks [] (m ∷ ms) all = absurd all
  keep-marks (w ∷ ws) [] all = absurd all
  keep-marks (w ∷ ws) (m ∷ ms) all = (keep-mark w m all.0, keep-marks ws ms all.1)

module _ (c : ℕ → ℕ → Bool) (shared : List (List ℕ)) (mem : List ℕ) where
  -- As many terms as words.
  pub marks-length : (ws : List ℕ) (ms : List (Option Tree)) → AreMarks c shared mem ws ms → length ws ≡ length ms
  unfolding AreMarks
  marks-length [] [] all = refl
  marks-length [] (m ∷ ms) all = absurd all
  marks-length (w ∷ ws) [] all = absurd all
  marks-length (w ∷ ws) (m ∷ ms) all = ap suc (marks-length ws ms all.1)

  pub marks-none : AreMarks c shared mem [] []
  unfolding AreMarks
  marks-none = tt

  pub marks-more : (w : ℕ) (ws : List ℕ) (m : Option Tree) (ms : List (Option Tree)) → IsMark c shared mem w m → AreMarks c shared mem ws ms → AreMarks c shared mem (w ∷ ws) (m ∷ ms)
  unfolding AreMarks
  marks-more w ws m ms s all = (s, all)

  -- A key by its place, with the value behind it.
  pub record Two (row : List ℕ) (a : ℕ) (ms : List (Option Tree)) : Type 0 where
    pub key : Option Tree
    pub value : Option Tree
    pub left : drop a ms ≡ key ∷ value ∷ drop (suc (suc a)) ms
    pub standing : IsMark c shared mem (get_or row a 0) key

  pub two-at : (row : List ℕ) (ms : List (Option Tree)) (i a : ℕ) → a ≡ 2 * i → a + 1 < length row → AreMarks c shared mem row ms → Two row a ms
  unfolding AreMarks
  two-at [] ms i a e l all = absurd (omega (arith, l))
  two-at (x ∷ []) ms i a e l all = absurd (omega (arith, l))
  two-at (x ∷ y ∷ row) [] i a e l all = absurd all
  two-at (x ∷ y ∷ row) (k ∷ []) i a e l all = absurd all.1
  two-at (x ∷ y ∷ row) (k ∷ v ∷ ms) i zero e l all = record { key = k; value = v; left = refl; standing = all.0 }
  two-at (x ∷ y ∷ row) (k ∷ v ∷ ms) i (suc zero) e l all = absurd (omega (arith, e))
  two-at (x ∷ y ∷ row) (k ∷ v ∷ ms) zero (suc (suc a)) e l all = absurd (omega (arith, e))
  two-at (x ∷ y ∷ row) (k ∷ v ∷ ms) (suc i) (suc (suc a)) e l all =
      let rest = two-at row ms i a (omega (arith, e)) (omega (arith, l)) all.1.1 in
      record { key = rest.key; value = rest.value; left = rest.left; standing = rest.standing }

  -- Two words that stand for trees.
  pub first-two : (ws : List ℕ) (ts : Trees) → length ws ≡ 2 → AllStand c shared mem ws ts
      → (h t : Tree) × ((ts ≡ h ▹ t ▹ end) × (Stands c shared mem (get_or ws 0 0) h × Stands c shared mem (get_or ws 1 0) t))
  unfolding AllStand
  first-two [] ts e all = absurd (omega (arith, e))
  first-two (x ∷ []) ts e all = absurd (omega (arith, e))
  first-two (x ∷ y ∷ []) end e all = absurd all
  first-two (x ∷ y ∷ []) (h ▹ end) e all = absurd all.1
  first-two (x ∷ y ∷ []) (h ▹ t ▹ end) e all = (h, t, (refl, (all.0, all.1.0)))
  first-two (x ∷ y ∷ []) (h ▹ t ▹ u ▹ ts) e all = absurd all.1.1
  first-two (x ∷ y ∷ z ∷ ws) ts e all = absurd (omega (arith, e))

  -- The first words, and the others.
  pub marks-split : (xs ys : List ℕ) (ms : List (Option Tree)) (n : ℕ) → length xs ≡ n → AreMarks c shared mem (xs ++ ys) ms
      → AreMarks c shared mem xs (take n ms) × AreMarks c shared mem ys (drop n ms)
  unfolding AreMarks
  marks-split [] ys ms zero e all = (tt, all)
  marks-split [] ys ms (suc n) e all = absurd (omega (arith, e))
  marks-split (x ∷ xs) ys ms zero e all = absurd (omega (arith, e))
  marks-split (x ∷ xs) ys [] (suc n) e all = absurd all
  marks-split (x ∷ xs) ys (m ∷ ms) (suc n) e all =
      let two = marks-split xs ys ms n (omega (arith, e)) all.1 in
      ((all.0, two.0), two.1)

  -- Where no word is that of a wide term, all trees are there; where one is, not all are.

  past : (w : ℕ) (rest : Bool) → (suc w == 0) || rest ≡ rest
  past w rest = let other : (suc w == 0) ≡ false = grind (arith, nat_tests) in rw other refl

  is-narrow : (w : ℕ) (rest : Bool) → (w == 0) || rest ≡ false → (w ≡ 0 → ⊥) × (rest ≡ false)
  is-narrow zero rest h = absurd (true≢false h)
  is-narrow (suc w) rest h = (λ e. omega (arith, e), sym (past w rest) ∙ h)

  pub narrow-all : (ws : List ℕ) (ms : List (Option Tree)) → AreMarks c shared mem ws ms → holds_wide ws ≡ false → (ts : Trees) × ((all_of ms ≡ Some ts) × AllStand c shared mem ws ts)
  unfolding AreMarks AllStand
  narrow-all [] [] all h = (end, (refl, tt))
  narrow-all [] (m ∷ ms) all h = absurd all
  narrow-all (w ∷ ws) [] all h = absurd all
  narrow-all (w ∷ ws) (None ∷ ms) all h = absurd ((is-narrow w (holds_wide ws) h).0 all.0)
  narrow-all (w ∷ ws) (Some t ∷ ms) all h =
      let rest = narrow-all ws ms all.1 (is-narrow w (holds_wide ws) h).1 in
      (t ▹ rest.0, (ap (put_first (Some t)) rest.1.0, (all.0, rest.1.1)))

  pub wide-none : (ws : List ℕ) (ms : List (Option Tree)) → AreMarks c shared mem ws ms → holds_wide ws ≡ true → all_of ms ≡ None
  unfolding AreMarks
  wide-none [] [] all h = absurd (false≢true h)
  wide-none [] (m ∷ ms) all h = absurd all
  wide-none (w ∷ ws) [] all h = absurd all
  wide-none (w ∷ ws) (None ∷ ms) all h = refl
  wide-none (zero ∷ ws) (Some t ∷ ms) all h = absurd (none-stands c shared mem zero t refl all.0)
  wide-none (suc w ∷ ws) (Some t ∷ ms) all h = ap (put_first (Some t)) (wide-none ws ms all.1 (sym (past w (holds_wide ws)) ∙ h))

  -- Words by twos stand for pairs.
  pub twos-stand : (ws : List ℕ) (ts : Trees) → AllStand c shared mem ws ts → PairsStand c shared mem (word_pairs ws) (paired ts)
  unfolding AllStand PairsStand
  twos-stand [] end all = tt
  twos-stand [] (t ▹ ts) all = absurd all
  twos-stand (w ∷ ws) end all = absurd all
  twos-stand (w ∷ []) (t ▹ end) all = tt
  twos-stand (w ∷ []) (t ▹ u ▹ ts) all = absurd all.1
  twos-stand (w ∷ v ∷ ws) (t ▹ end) all = absurd all.1
  twos-stand (w ∷ v ∷ ws) (t ▹ u ▹ ts) all = ((all.0, all.1.0), twos-stand ws ts all.1.1)

  pub turns-marks : (ws : List ℕ) (ps : Pairs) (n : ℕ) → length ws ≡ 2 * n → PairsStand c shared mem (word_pairs ws) ps → AreMarks c shared mem ws (in_turn ps)
  unfolding AreMarks PairsStand
  turns-marks [] stop n even all = tt
  turns-marks [] (pair k v ps) n even all = absurd all
  turns-marks (w ∷ []) ps n even all = absurd (omega (arith, even))
  turns-marks (w ∷ v ∷ ws) stop n even all = absurd all
  turns-marks (w ∷ v ∷ ws) (pair j u ps) zero even all = absurd (omega (arith, even))
  turns-marks (w ∷ v ∷ ws) (pair j u ps) (suc n) even all = (all.0.0, (all.0.1, turns-marks ws ps n (omega (arith, even)) all.1))

-- A key of them is too big where one of the pairs is beyond the walk limit.
pub turns-big : (shared : List (List ℕ)) (ps : Pairs) → has_big_key shared (in_turn ps) ≡ has_beyond shared ps
turns-big shared stop = refl
turns-big shared (pair k v ps) = ap (λ b. is_beyond shared k || b) (turns-big shared ps)

-- Trees by twos are no more pairs than half of them.
pub paired-few : (ts : Trees) (n : ℕ) → trees_len ts ≡ 2 * n → pairs_len (paired ts) ≤ n
paired-few end n e = omega arith
paired-few (t ▹ end) n e = omega arith
paired-few (t ▹ u ▹ ts) zero e = absurd (omega (arith, e))
paired-few (t ▹ u ▹ ts) (suc n) e = omega (arith, paired-few ts n (omega (arith, e)))

-- Names.

some-is : (x y : Trees) → Some x ≡ Some y → x ≡ y
some-is x y e = cc

pub named-all : (n : ℕ) (ms : List (Option Tree)) (ts : Trees) → MarksNamed n ms → all_of ms ≡ Some ts → are_named n ts ≡ true
named-all n [] ts h e = let P : Trees → Type 0 = λ x. are_named n x ≡ true in subst P (some-is end ts e) refl
named-all n (None ∷ ms) ts h e = absurd cc
named-all n (Some t ∷ ms) ts h e = by (all_of ms) refl e (λ us q. named-all n ms us h.1 q)
  where
    named : (us : Trees) → is_named n t ≡ true → are_named n us ≡ true → are_named n (t ▹ us) ≡ true
    named us a b = rw (a, b) refl

    by : (r : Option Trees) → all_of ms ≡ r → put_first (Some t) r ≡ Some ts → ((us : Trees) → all_of ms ≡ Some us → are_named n us ≡ true) → are_named n ts ≡ true
    by None q e more = absurd cc
    by (Some us) q e more = let P : Trees → Type 0 = λ x. are_named n x ≡ true in subst P (some-is (t ▹ us) ts e) (named us h.0 (more us q))

all-three : (a b c : Bool) → a ≡ true → b ≡ true → c ≡ true → a && b && c ≡ true
all-three a b c x y z = rw (x, y, z) refl

pub named-paired : (n : ℕ) (ts : Trees) → are_named n ts ≡ true → pairs_named n (paired ts) ≡ true
named-paired n end h = refl
named-paired n (t ▹ end) h = refl
named-paired n (t ▹ u ▹ ts) h =
    let others : is_named n u && are_named n ts ≡ true = (and_parts (is_named n t) (is_named n u && are_named n ts) h).1 in
    all-three (is_named n t) (is_named n u) (pairs_named n (paired ts)) (and_parts (is_named n t) (is_named n u && are_named n ts) h).0 (and_parts (is_named n u) (are_named n ts) others).0
    (named-paired n ts (and_parts (is_named n u) (are_named n ts) others).1)

pub named-take : (n k : ℕ) (ms : List (Option Tree)) → MarksNamed n ms → MarksNamed n (take k ms)
named-take n zero ms h = tt
named-take n (suc k) [] h = tt
named-take n (suc k) (None ∷ ms) h = named-take n k ms h
named-take n (suc k) (Some t ∷ ms) h = (h.0, named-take n k ms h.1)

pub named-drop : (n k : ℕ) (ms : List (Option Tree)) → MarksNamed n ms → MarksNamed n (drop k ms)
named-drop n zero ms h = h
named-drop n (suc k) [] h = tt
named-drop n (suc k) (None ∷ ms) h = named-drop n k ms h
named-drop n (suc k) (Some t ∷ ms) h = named-drop n k ms h.1

-- No key is left where fewer than two words are.
pub few-small : (shared : List (List ℕ)) (ms : List (Option Tree)) → length ms ≤ 1 → has_big_key shared ms ≡ false
few-small shared [] few = refl
few-small shared (k ∷ []) few = refl
few-small shared (k ∷ v ∷ ms) few = absurd (omega (arith, few))

pub wide-small : (c : ℕ → ℕ → Bool) (shared : List (List ℕ)) (mem : List ℕ) (w : ℕ) (m : Option Tree) → w ≡ 0 → IsMark c shared mem w m → false ≡ is_big_key shared m
wide-small c shared mem w None e s = refl
wide-small c shared mem w (Some t) e s = absurd (none-stands c shared mem w t e s)
