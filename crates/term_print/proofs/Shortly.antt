-- What gathering the text of a small term asks for, and what its parts add.
use Rattle.std.proofs.Common.{◌≡◌, ℕ, ◌+◌, ◌-◌, ◌/◌, nat_lt, ◌<◌, ◌≤◌, Bool, true, false, List, [], ◌++◌, length, get_or, refl, sym, ap, ◌∙◌, subst, arith, inl, inr, append_assoc, append-nil, codes}
use Rattle.std.proofs.lemmas.Bool.{and_parts, true≢false, or_from}
use Rattle.std.proofs.lemmas.Bool.Decides.{nat_tests}
use Rattle.plain_term.specs.Tree.{Tree, Trees, trees_len}
use Rattle.plain_term.specs.Tree.Tree.{Int, Atom, Pid, Ref, Nil, Cons, Tuple, Map, Bin, Shared, Part, Fun}
use Rattle.plain_term.specs.Tree.Trees.{end, ◌▹◌}
use Rattle.plain_term.specs.Beyond.{depth_limit, is_beyond, node_limit}
use Rattle.plain_term.specs.Measures.{depth, nodes, nodes_of_all}
use Rattle.plain_term.specs.Text.{more_terms, placed, text_as, text_of_all}
use Rattle.plain_term.proofs.LawLemmas.{depth-within}
use Rattle.term_words.specs.Role.{always}
use Rattle.term_words.specs.Stands.{RowStands, Stands}
use Rattle.term_words.proofs.ByKind.Shapes.{row-first}
use Rattle.term_read.specs.Look.{IsSeen, Sees}
use Rattle.term_read.specs.declared.looks.Look.{Look}
use Rattle.term_read.specs.declared.looks.Look.TheVariants as look
use Rattle.term_read.specs.declared.looks.Row.{Row}
use Rattle.term_order.specs.Named.{are_named, is_named}
use Rattle.term_print.specs.Left.{closing_text}
use Rattle.term_print.specs.Own.{leaf_text, list_begun, list_ended, tuple_begun}
use Rattle.term_print.specs.Printed.{CanBegin}
use Rattle.term_print.specs.Short.{CanBeginRow, GathersRow, GathersTerm, comma_text, is_leaf, parts_text}

-- A look at a list place, at a tuple, at the end of a list and at a term without parts: what tree it is of.
module _ (c : ℕ → ℕ → Bool) (shared : List (List ℕ)) (mem : List ℕ) (w : ℕ) where
  pub record HasCons (place : ℕ) (t : Tree) : Type 0 where
    pub head : Tree
    pub tail : Tree
    pub is : t ≡ Cons head tail
    pub within : place + 2 ≤ length mem
    pub head_stands : Stands c shared mem (get_or mem place 0) head
    pub tail_stands : Stands c shared mem (get_or mem (place + 1) 0) tail

  pub has-cons : (place : ℕ) (t : Tree) (l : Look) → IsSeen c shared mem w t l → l ≡ look.Cons place → HasCons place t
  has-cons place (Cons h t) l (e, within, sh, st) is =
      let same : w / 4 ≡ place = cons-place (w / 4) place (sym e ∙ is) in
      record { head = h; tail = t; is = refl; within = rw (sym same) within; head_stands = rw (sym same) sh; tail_stands = rw (sym same) st }
    where
      cons-place : (p q : ℕ) → look.Cons p ≡ look.Cons q → p ≡ q
      cons-place p q e = cc
  has-cons place (Int i) l (inl (small, e)) is = absurd cc
  has-cons place (Int i) l (inr (d, has, e)) is = absurd cc
  has-cons place (Atom k) l e is = absurd cc
  has-cons place (Pid n) l e is = absurd cc
  has-cons place (Ref n k) l e is = absurd cc
  has-cons place Nil l e is = absurd cc
  has-cons place (Tuple ts) l (e, within, row) is = absurd cc
  has-cons place (Map ps) l (e, keys, values, ks, vs) is = absurd cc
  has-cons place (Bin bytes) l (e, from) is = absurd cc
  has-cons place (Shared id) l (e, from) is = absurd cc
  has-cons place (Part base offset len) l (v, e, sb, size, from) is = absurd cc
  has-cons place (Fun name arity creator env) l (e, within, env-stands) is = absurd cc

  pub record HasTuple (row : Row) (t : Tree) : Type 0 where
    pub parts : Trees
    pub is : t ≡ Tuple parts
    pub within : row.first + row.len ≤ length mem
    pub count : trees_len parts ≡ row.len
    pub standing : RowStands c shared mem row.first parts

  pub has-tuple : (row : Row) (t : Tree) (l : Look) → IsSeen c shared mem w t l → l ≡ look.Tuple row → HasTuple row t
  has-tuple row (Tuple ts) l (e, within, stands) is =
      let same : record { first = w / 4 + 1; len = trees_len ts } ≡ row = tuple-row (record { first = w / 4 + 1; len = trees_len ts }) row (sym e ∙ is) in
      subst (λ (r : Row). HasTuple r (Tuple ts)) same (record { parts = ts; is = refl; within = within; count = refl; standing = stands })
    where
      tuple-row : (p q : Row) → look.Tuple p ≡ look.Tuple q → p ≡ q
      tuple-row p q e = cc
  has-tuple row (Cons h t) l (e, within, sh, st) is = absurd cc
  has-tuple row (Int i) l (inl (small, e)) is = absurd cc
  has-tuple row (Int i) l (inr (d, has, e)) is = absurd cc
  has-tuple row (Atom k) l e is = absurd cc
  has-tuple row (Pid n) l e is = absurd cc
  has-tuple row (Ref n k) l e is = absurd cc
  has-tuple row Nil l e is = absurd cc
  has-tuple row (Map ps) l (e, keys, values, ks, vs) is = absurd cc
  has-tuple row (Bin bytes) l (e, from) is = absurd cc
  has-tuple row (Shared id) l (e, from) is = absurd cc
  has-tuple row (Part base offset len) l (v, e, sb, size, from) is = absurd cc
  has-tuple row (Fun name arity creator env) l (e, within, env-stands) is = absurd cc

  pub is-nil : (t : Tree) (l : Look) → IsSeen c shared mem w t l → l ≡ look.Nil → t ≡ Nil
  is-nil Nil l e is = refl
  is-nil (Tuple ts) l (e, within, row-stands) is = absurd cc
  is-nil (Cons h t) l (e, within, sh, st) is = absurd cc
  is-nil (Int i) l (inl (small, e)) is = absurd cc
  is-nil (Int i) l (inr (d, has, e)) is = absurd cc
  is-nil (Atom k) l e is = absurd cc
  is-nil (Pid n) l e is = absurd cc
  is-nil (Ref n k) l e is = absurd cc
  is-nil (Map ps) l (e, keys, values, ks, vs) is = absurd cc
  is-nil (Bin bytes) l (e, from) is = absurd cc
  is-nil (Shared id) l (e, from) is = absurd cc
  is-nil (Part base offset len) l (v, e, sb, size, from) is = absurd cc
  is-nil (Fun name arity creator env) l (e, within, env-stands) is = absurd cc

  -- one node, whose text is the look's
  pub record IsLeafOf (names : List (List ℕ)) (tail : Bool) (t : Tree) (l : Look) : Type 0 where
    pub one : nodes shared t ≡ 1
    pub reads : text_as names shared tail t ≡ placed tail (leaf_text names [] l)

  pub leaf-of : (names : List (List ℕ)) (tail : Bool) (t : Tree) (l : Look) → IsSeen c shared mem w t l → is_leaf l ≡ true → IsLeafOf names tail t l
  leaf-of names tail (Int i) l (inl (small, e)) leaf = rw e (record { one = refl; reads = refl })
  leaf-of names tail (Int i) l (inr (d, has, e)) leaf = absurd (true≢false (sym leaf ∙ ap is_leaf e))
  leaf-of names tail (Atom k) l e leaf = rw e (record { one = refl; reads = refl })
  leaf-of names tail (Pid n) l e leaf = absurd (true≢false (sym leaf ∙ ap is_leaf e))
  leaf-of names tail (Ref n k) l e leaf = absurd (true≢false (sym leaf ∙ ap is_leaf e))
  leaf-of names tail Nil l e leaf = absurd (true≢false (sym leaf ∙ ap is_leaf e))
  leaf-of names tail (Cons h t) l (e, within, sh, st) leaf = absurd (true≢false (sym leaf ∙ ap is_leaf e))
  leaf-of names tail (Tuple ts) l (e, within, row-stands) leaf = absurd (true≢false (sym leaf ∙ ap is_leaf e))
  leaf-of names tail (Map ps) l (e, keys, values, ks, vs) leaf = absurd (true≢false (sym leaf ∙ ap is_leaf e))
  leaf-of names tail (Bin bytes) l (e, from) leaf = absurd (true≢false (sym leaf ∙ ap is_leaf e))
  leaf-of names tail (Shared id) l (e, from) leaf = absurd (true≢false (sym leaf ∙ ap is_leaf e))
  leaf-of names tail (Part base offset len) l (v, e, sb, size, from) leaf = absurd (true≢false (sym leaf ∙ ap is_leaf e))
  leaf-of names tail (Fun name arity creator env) l (e, within, env-stands) leaf = absurd (true≢false (sym leaf ∙ ap is_leaf e))

-- What is asked of the parts.

pub cons-begins : (mem : List ℕ) (names : List (List ℕ)) (w place : ℕ) (l : Look) → CanBegin mem names w → Sees mem w l → l ≡ look.Cons place
    → CanBegin mem names (get_or mem place 0) × CanBegin mem names (get_or mem (place + 1) 0) × (place + 2 ≤ length mem)
cons-begins mem names w place l h sees is =
    let k = has-cons always h.shared mem w place h.now l (sees.each always h.shared h.now h.standing) is in
    let (head, tail) = and_parts (is_named (length names) k.head) (is_named (length names) k.tail) (ap (is_named (length names)) (sym k.is) ∙ h.named) in (
      record { shared = h.shared; now = k.head; standing = k.head_stands; named = head },
      record { shared = h.shared; now = k.tail; standing = k.tail_stands; named = tail },
      k.within,
    )

pub tuple-begins : (mem : List ℕ) (names : List (List ℕ)) (w : ℕ) (row : Row) (l : Look) → CanBegin mem names w → Sees mem w l → l ≡ look.Tuple row
    → CanBeginRow mem names row.first row.len
tuple-begins mem names w row l h sees is =
    let k = has-tuple always h.shared mem w row h.now l (sees.each always h.shared h.now h.standing) is in
    record {
      shared = h.shared;
      trees = k.parts;
      standing = k.standing;
      count = k.count;
      within = k.within;
      named = ap (is_named (length names)) (sym k.is) ∙ h.named;
    }

row-begun : (mem : List ℕ) (names : List (List ℕ)) (first n : ℕ) (shared : List (List ℕ)) (ts : Trees) → 0 < n → RowStands always shared mem first ts → trees_len ts ≡ n
    → first + n ≤ length mem → are_named (length names) ts ≡ true → CanBegin mem names (get_or mem first 0) × CanBeginRow mem names (first + 1) (n - 1)
row-begun mem names first n shared end some s count within named = absurd (omega (arith, count, some))
row-begun mem names first n shared (t ▹ ts) some s count within named =
    let (here, rest) = row-first always shared mem first t ts s in
    let (one, others) = and_parts (is_named (length names) t) (are_named (length names) ts) named in (
      record { shared = shared; now = t; standing = here; named = one },
      record { shared = shared; trees = ts; standing = rest; count = omega (arith, count); within = omega (arith, within, some); named = others },
    )

pub row-begins : (mem : List ℕ) (names : List (List ℕ)) (first n : ℕ) → 0 < n → CanBeginRow mem names first n
    → CanBegin mem names (get_or mem first 0) × CanBeginRow mem names (first + 1) (n - 1)
row-begins mem names first n some k = row-begun mem names first n k.shared k.trees some k.standing k.count k.within k.named

-- What the parts add together.

text-cons : (names shared : List (List ℕ)) (tail : Bool) (h t : Tree) (old put one two : List ℕ) → put ≡ old ++ list_begun tail → one ≡ put ++ text_as names shared false h
    → two ≡ one ++ text_as names shared true t → two ≡ old ++ text_as names shared tail (Cons h t)
text-cons names shared false h t old put one two a b d =
    d ∙ (ap (λ z. z ++ text_as names shared true t) (b ∙ ap (λ z. z ++ text_as names shared false h) a)
    ∙ (ap (λ z. z ++ text_as names shared true t) (append_assoc old (list_begun false) (text_as names shared false h))
    ∙ (append_assoc old (list_begun false ++ text_as names shared false h) (text_as names shared true t)
    ∙ ap (λ z. old ++ z) (append_assoc (list_begun false) (text_as names shared false h) (text_as names shared true t)))))
text-cons names shared true h t old put one two a b d =
    d ∙ (ap (λ z. z ++ text_as names shared true t) (b ∙ ap (λ z. z ++ text_as names shared false h) a)
    ∙ (ap (λ z. z ++ text_as names shared true t) (append_assoc old (list_begun true) (text_as names shared false h))
    ∙ (append_assoc old (list_begun true ++ text_as names shared false h) (text_as names shared true t)
    ∙ ap (λ z. old ++ z) (append_assoc (list_begun true) (text_as names shared false h) (text_as names shared true t)))))

pub cons-gathers : (mem : List ℕ) (names : List (List ℕ)) (w place : ℕ) (l : Look) (tail : Bool) (most left after : ℕ) (old put one two : List ℕ)
    → Sees mem w l → l ≡ look.Cons place → 0 < most → put ≡ old ++ list_begun tail → GathersTerm mem names (get_or mem place 0) false (most - 1) put one left
    → GathersTerm mem names (get_or mem (place + 1) 0) true left one two after → GathersTerm mem names w tail most old two after
cons-gathers mem names w place l tail most left after old put one two sees is some a g k = record {
  few = λ c shared t s.
      let h = has-cons c shared mem w place t l (sees.each c shared t s) is in
      rw h.is (omega (arith, some, g.few c shared h.head h.head_stands, k.few c shared h.tail h.tail_stands));
  added = λ c shared t s.
      let h = has-cons c shared mem w place t l (sees.each c shared t s) is in
      rw h.is (text-cons names shared tail h.head h.tail old put one two a (g.added c shared h.head h.head_stands) (k.added c shared h.tail h.tail_stands));
}

row-whole : (names shared : List (List ℕ)) (ts : Trees) → parts_text names shared false ts ≡ text_of_all names shared ts
row-whole names shared end = refl
row-whole names shared (t ▹ ts) = refl

tuple-whole : (names shared : List (List ℕ)) (tail : Bool) (ts : Trees) → tuple_begun tail ++ (text_of_all names shared ts ++ closing_text tail) ≡ text_as names shared tail (Tuple ts)
tuple-whole names shared false ts = refl
tuple-whole names shared true ts = ap (λ z. codes "|{" ++ z) (sym (append_assoc (text_of_all names shared ts) (codes "}") (codes "]")))

text-tuple : (names shared : List (List ℕ)) (tail : Bool) (ts : Trees) (old put one two : List ℕ) → put ≡ old ++ tuple_begun tail → one ≡ put ++ parts_text names shared false ts
    → two ≡ one ++ closing_text tail → two ≡ old ++ text_as names shared tail (Tuple ts)
text-tuple names shared tail ts old put one two a b d =
    let parts : List ℕ = text_of_all names shared ts in
    d ∙ (ap (λ z. z ++ closing_text tail) (b ∙ (λ i. a i ++ row-whole names shared ts i))
    ∙ (ap (λ z. z ++ closing_text tail) (append_assoc old (tuple_begun tail) parts)
    ∙ (append_assoc old (tuple_begun tail ++ parts) (closing_text tail)
    ∙ ap (λ z. old ++ z) (append_assoc (tuple_begun tail) parts (closing_text tail) ∙ tuple-whole names shared tail ts))))

pub tuple-gathers : (mem : List ℕ) (names : List (List ℕ)) (w : ℕ) (row : Row) (l : Look) (tail : Bool) (most left : ℕ) (old put one two : List ℕ)
    → Sees mem w l → l ≡ look.Tuple row → 0 < most → put ≡ old ++ tuple_begun tail → GathersRow mem names row.first row.len false (most - 1) put one left
    → two ≡ one ++ closing_text tail → GathersTerm mem names w tail most old two left
tuple-gathers mem names w row l tail most left old put one two sees is some a g d = record {
  few = λ c shared t s.
      let h = has-tuple c shared mem w row t l (sees.each c shared t s) is in
      rw h.is (omega (arith, some, g.few c shared h.parts h.standing h.count));
  added = λ c shared t s.
      let h = has-tuple c shared mem w row t l (sees.each c shared t s) is in
      rw h.is (text-tuple names shared tail h.parts old put one two a (g.added c shared h.parts h.standing h.count) d);
}

nil-text : (names shared : List (List ℕ)) (tail : Bool) → list_ended tail ≡ text_as names shared tail Nil
nil-text names shared false = refl
nil-text names shared true = refl

pub nil-gathers : (mem : List ℕ) (names : List (List ℕ)) (w : ℕ) (l : Look) (tail : Bool) (most : ℕ) (old put : List ℕ) → Sees mem w l → l ≡ look.Nil → 0 < most
    → put ≡ old ++ list_ended tail → GathersTerm mem names w tail most old put (most - 1)
nil-gathers mem names w l tail most old put sees is some a = record {
  few = λ c shared t s. rw (is-nil c shared mem w t l (sees.each c shared t s) is) (omega (arith, some));
  added = λ c shared t s. rw (is-nil c shared mem w t l (sees.each c shared t s) is) (a ∙ ap (λ z. old ++ z) (nil-text names shared tail));
}

pub leaf-gathers : (mem : List ℕ) (names : List (List ℕ)) (w : ℕ) (l : Look) (tail : Bool) (most : ℕ) (old put : List ℕ) → Sees mem w l → is_leaf l ≡ true → 0 < most
    → put ≡ old ++ placed tail (leaf_text names [] l) → GathersTerm mem names w tail most old put (most - 1)
leaf-gathers mem names w l tail most old put sees leaf some a = record {
  few = λ c shared t s. omega (arith, some, (leaf-of c shared mem w names tail t l (sees.each c shared t s) leaf).one);
  added = λ c shared t s. a ∙ ap (λ z. old ++ z) (sym (leaf-of c shared mem w names tail t l (sees.each c shared t s) leaf).reads);
}

-- Rows, one word at a time.

none-few : (shared : List (List ℕ)) (ts : Trees) (most : ℕ) → trees_len ts ≡ 0 → nodes_of_all shared ts + most ≤ most
none-few shared end most e = omega arith
none-few shared (t ▹ ts) most e = absurd (omega (arith, e))

none-added : (names shared : List (List ℕ)) (more : Bool) (ts : Trees) (old : List ℕ) → trees_len ts ≡ 0 → old ≡ old ++ parts_text names shared more ts
none-added names shared more end old e = sym (append-nil old)
none-added names shared more (t ▹ ts) old e = absurd (omega (arith, e))

pub row-none : (mem : List ℕ) (names : List (List ℕ)) (first n : ℕ) (more : Bool) (most : ℕ) (old : List ℕ) → n ≡ 0 → GathersRow mem names first n more most old old most
row-none mem names first n more most old none = record {
  few = λ c shared ts s e. none-few shared ts most (e ∙ none);
  added = λ c shared ts s e. none-added names shared more ts old (e ∙ none);
}

more-few : (c : ℕ → ℕ → Bool) (shared : List (List ℕ)) (mem : List ℕ) (names : List (List ℕ)) (first n most left after : ℕ) (old put one two : List ℕ) (more : Bool) (ts : Trees) → 0 < n
    → GathersTerm mem names (get_or mem first 0) false most put one left → GathersRow mem names (first + 1) (n - 1) true left one two after
    → RowStands c shared mem first ts → trees_len ts ≡ n → nodes_of_all shared ts + after ≤ most
more-few c shared mem names first n most left after old put one two more end some g k s e = absurd (omega (arith, e, some))
more-few c shared mem names first n most left after old put one two more (t ▹ ts) some g k s e =
    let (here, rest) = row-first c shared mem first t ts s in
    omega (arith, g.few c shared t here, k.few c shared ts rest (omega (arith, e)))

row-rest : (names shared : List (List ℕ)) (ts : Trees) → parts_text names shared true ts ≡ more_terms names shared ts
row-rest names shared end = refl
row-rest names shared (t ▹ ts) = refl

more-added : (c : ℕ → ℕ → Bool) (shared : List (List ℕ)) (mem : List ℕ) (names : List (List ℕ)) (first n most left after : ℕ) (old put one two : List ℕ) (more : Bool) (ts : Trees) → 0 < n
    → put ≡ old ++ comma_text more → GathersTerm mem names (get_or mem first 0) false most put one left → GathersRow mem names (first + 1) (n - 1) true left one two after
    → RowStands c shared mem first ts → trees_len ts ≡ n → two ≡ old ++ parts_text names shared more ts
more-added c shared mem names first n most left after old put one two more end some a g k s e = absurd (omega (arith, e, some))
more-added c shared mem names first n most left after old put one two more (t ▹ ts) some a g k s e =
    let (here, rest) = row-first c shared mem first t ts s in
    let text : List ℕ = text_as names shared false t in
    let others : List ℕ = more_terms names shared ts in
    k.added c shared ts rest (omega (arith, e))
    ∙ ((λ i. (g.added c shared t here ∙ ap (λ z. z ++ text) a) i ++ row-rest names shared ts i)
    ∙ (ap (λ z. z ++ others) (append_assoc old (comma_text more) text)
    ∙ (append_assoc old (comma_text more ++ text) others ∙ ap (λ z. old ++ z) (append_assoc (comma_text more) text others))))

pub row-more : (mem : List ℕ) (names : List (List ℕ)) (first n most left after : ℕ) (old put one two : List ℕ) (more : Bool) → 0 < n → put ≡ old ++ comma_text more
    → GathersTerm mem names (get_or mem first 0) false most put one left → GathersRow mem names (first + 1) (n - 1) true left one two after
    → GathersRow mem names first n more most old two after
row-more mem names first n most left after old put one two more some a g k = record {
  few = λ c shared ts s e. more-few c shared mem names first n most left after old put one two more ts some g k s e;
  added = λ c shared ts s e. more-added c shared mem names first n most left after old put one two more ts some a g k s e;
}

-- A term of few nodes is within the walk limit.
pub few-within : (shared : List (List ℕ)) (t : Tree) (left : ℕ) → nodes shared t + left ≤ 64 → is_beyond shared t ≡ false
few-within shared t left few =
    or_from (nat_lt node_limit (nodes shared t)) (nat_lt depth_limit (depth t)) (grind (arith, nat_tests, few)) (grind (arith, nat_tests, few, depth-within shared t))
