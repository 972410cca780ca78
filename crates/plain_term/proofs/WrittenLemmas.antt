-- What items spell, and that they spell it alone.
use Rattle.std.proofs.Common.{◌≡◌, ◌<◌, ◌≤◌, ◌+◌, ℕ, nat_le, Option, None, Some, List, [], ◌∷◌, ◌++◌, ◌==◌, true, false, subst, map, length, refl, sym, ◌∙◌, ap, arith, append_assoc, append-nil, length-append}
use Rattle.std.proofs.lemmas.Bool.{and_parts, and_from, false≢true}
use Rattle.std.specs.Prelude.{IfSome, IsSomeAnd, MatchOption}
use Rattle.std.proofs.lemmas.List.{map-append}
use Rattle.std.proofs.lemmas.Bool.Decides.{nat_tests}
use Rattle.plain_term.specs.Tree.{Tree, Trees, trees_len, trees_append}
use Rattle.plain_term.specs.Tree.Tree.{Int, Atom, Pid, Ref, Nil, Cons, Tuple, Map, Bin, Shared, Part, Fun}
use Rattle.plain_term.specs.Tree.Trees.{end, ◌▹◌}
use Rattle.plain_term.specs.Written.{is_spelled, are_spelled, tree_items, trees_items, SpellsTree, Explains, BeginsWith, HasNoTerm, BeginAll, HasNoParts, BeginBytes, HasNoBytes, IsValueOf, AreOf, ReadsTerm, ReadsAll, ReadsBytes}
use Rattle.plain_term.specs.View.{view, trees_of}
use Rattle.plain_term.specs.declared.reading.TheConstants.{HEAP_BINARY}
use Rattle.plain_term.specs.declared.tree.Tree as code
use Rattle.plain_term.specs.declared.tree.Tree.TheViews as made
use Rattle.plain_term.proofs.ViewLemmas.{view-Bin, view-Tuple}
use Rattle.plain_term.specs.declared.item.Item.{Item}
use Rattle.plain_term.specs.declared.item.Item.TheVariants as item
use Rattle.plain_term.specs.declared.tree.TreeFault.TheVariants.{Items}

abbrev spelled_bytes : List ℕ → List Item
spelled_bytes bytes = map (λ b. item.Byte b) bytes

-- the first n bytes are one list alone
unique-bytes : (a b : List ℕ) (x y : List Item) → length a ≡ length b → spelled_bytes a ++ x ≡ spelled_bytes b ++ y → (a ≡ b) × (x ≡ y)
unique-bytes [] [] x y n e = (refl, e)
unique-bytes [] (b ∷ bs) x y n e = absurd (omega (arith, n))
unique-bytes (a ∷ cs) [] x y n e = absurd (omega (arith, n))
unique-bytes (a ∷ cs) (b ∷ bs) x y n e =
    let tails : spelled_bytes cs ++ x ≡ spelled_bytes bs ++ y = cc in
    let lens : length cs ≡ length bs = omega (arith, n) in
    let more = unique-bytes cs bs x y lens tails in
    let heads : a ≡ b = cc in
    ((λ i. heads i ∷ more.0 i), more.1)

-- a number for each kind of tree
kind : Tree → ℕ
kind (Int i) = 1
kind (Atom k) = 2
kind (Pid n) = 3
kind Nil = 4
kind (Cons h t) = 5
kind (Tuple ts) = 6
kind (Bin bytes) = 7
kind (Ref n k) = 8
kind (Map ps) = 9
kind (Shared id) = 10
kind (Part base offset len) = 11
kind (Fun name arity creator env) = 12

-- the kind of tree that begins with an item
kind_of_item : Item → ℕ
kind_of_item (item.Int i) = 1
kind_of_item (item.Atom k) = 2
kind_of_item (item.Pid n) = 3
kind_of_item item.Nil = 4
kind_of_item item.Cons = 5
kind_of_item (item.Tuple n) = 6
kind_of_item (item.Bin n) = 7
kind_of_item _ = 0

kind_of_first : List Item → ℕ
kind_of_first [] = 0
kind_of_first (i ∷ items) = kind_of_item i

first-kind : (t : Tree) (x : List Item) → is_spelled t ≡ true → kind_of_first (tree_items t ++ x) ≡ kind t
unfolding kind kind_of_item kind_of_first
first-kind (Int i) x p = refl
first-kind (Atom k) x p = refl
first-kind (Pid n) x p = refl
first-kind Nil x p = refl
first-kind (Cons h t) x p = refl
first-kind (Tuple ts) x p = refl
first-kind (Bin bytes) x p = refl
first-kind _ x p = absurd (false≢true p)

-- trees whose items begin alike are of one kind
same-kind : (a b : Tree) (x y : List Item) → is_spelled a ≡ true → is_spelled b ≡ true → tree_items a ++ x ≡ tree_items b ++ y → kind a ≡ kind b
same-kind a b x y p q e = sym (first-kind a x p) ∙ ap kind_of_first e ∙ first-kind b y q

apart : {P : Type 0} (m n : ℕ) → (m == n) ≡ false → m ≡ n → P
apart m n differ same = absurd (grind (arith, nat_tests, differ, same))

mutual
  unfolding kind

  unique : (a b : Tree) (x y : List Item) → is_spelled a ≡ true → is_spelled b ≡ true → tree_items a ++ x ≡ tree_items b ++ y → (a ≡ b) × (x ≡ y)
  unique (Int i) (Int j) x y p q e = let same : i ≡ j = cc in (ap Int same, cc)
  unique (Atom i) (Atom j) x y p q e = let same : i ≡ j = cc in (ap Atom same, cc)
  unique (Pid i) (Pid j) x y p q e = let same : i ≡ j = cc in (ap Pid same, cc)
  unique Nil Nil x y p q e = (refl, cc)
  unique (Cons a b) (Cons c d) x y p q e =
      let tails : (tree_items a ++ tree_items b) ++ x ≡ (tree_items c ++ tree_items d) ++ y = cc in
      let apart : tree_items a ++ (tree_items b ++ x) ≡ tree_items c ++ (tree_items d ++ y) =
      sym (append_assoc (tree_items a) (tree_items b) x) ∙ tails ∙ append_assoc (tree_items c) (tree_items d) y in
      let first = unique a c (tree_items b ++ x) (tree_items d ++ y) (and_parts (is_spelled a) (is_spelled b) p).0 (and_parts (is_spelled c) (is_spelled d) q).0 apart in
      let second = unique b d x y (and_parts (is_spelled a) (is_spelled b) p).1 (and_parts (is_spelled c) (is_spelled d) q).1 first.1 in
      ((λ i. Cons (first.0 i) (second.0 i)), second.1)
  unique (Tuple ts) (Tuple us) x y p q e =
      let tails : trees_items ts ++ x ≡ trees_items us ++ y = cc in
      let lens : trees_len ts ≡ trees_len us = cc in
      let parts = unique-all ts us x y lens p q tails in
      (ap Tuple parts.0, parts.1)
  unique (Bin a) (Bin b) x y p q e =
      let tails : spelled_bytes a ++ x ≡ spelled_bytes b ++ y = cc in
      let lens : length a ≡ length b = cc in
      let bytes = unique-bytes a b x y lens tails in
      (ap Bin bytes.0, bytes.1)
  unique (Ref n k) (Ref m j) x y p q e = absurd (false≢true p)
  unique (Map ps) (Map qs) x y p q e = absurd (false≢true p)
  unique (Shared i) (Shared j) x y p q e = absurd (false≢true p)
  unique (Part b o l) (Part c n m) x y p q e = absurd (false≢true p)
  unique (Fun f n c ts) (Fun g m d us) x y p q e = absurd (false≢true p)
  unique a b x y p q e = apart (kind a) (kind b) refl (same-kind a b x y p q e)

  unique-all : (ts us : Trees) (x y : List Item) → trees_len ts ≡ trees_len us → are_spelled ts ≡ true → are_spelled us ≡ true → trees_items ts ++ x ≡ trees_items us ++ y → (ts ≡ us) × (x ≡ y)
  unique-all end end x y n p q e = (refl, e)
  unique-all end (u ▹ us) x y n p q e = absurd (omega (arith, n))
  unique-all (t ▹ ts) end x y n p q e = absurd (omega (arith, n))
  unique-all (t ▹ ts) (u ▹ us) x y n p q e =
      let apart : tree_items t ++ (trees_items ts ++ x) ≡ tree_items u ++ (trees_items us ++ y) = sym (append_assoc (tree_items t) (trees_items ts) x) ∙ e
      ∙ append_assoc (tree_items u) (trees_items us) y in
      let first = unique t u (trees_items ts ++ x) (trees_items us ++ y) (and_parts (is_spelled t) (are_spelled ts) p).0 (and_parts (is_spelled u) (are_spelled us) q).0 apart in
      let lens : trees_len ts ≡ trees_len us = omega (arith, n) in
      let rest = unique-all ts us x y lens (and_parts (is_spelled t) (are_spelled ts) p).1 (and_parts (is_spelled u) (are_spelled us) q).1 first.1 in
      ((λ i. first.0 i ▹ rest.0 i), rest.1)

-- where fewer bytes are read than stand at the front, a byte is next
next-byte : (done bytes : List ℕ) (x y : List Item) → length done < length bytes → spelled_bytes done ++ x ≡ spelled_bytes bytes ++ y
    → (b : ℕ) × (rest : List Item) × (x ≡ item.Byte b ∷ rest)
next-byte [] [] x y lt e = absurd (omega (arith, lt))
next-byte [] (b ∷ bs) x y lt e = (b, spelled_bytes bs ++ y, e)
next-byte (d ∷ ds) [] x y lt e = absurd (omega (arith, lt))
next-byte (d ∷ ds) (b ∷ bs) x y lt e =
    let tails : spelled_bytes ds ++ x ≡ spelled_bytes bs ++ y = cc in
    next-byte ds bs x y (omega (arith, lt)) tails

pub no-byte : (items : List Item) (i n : ℕ) (done : List ℕ) (rest : List Item) → BeginBytes items i done rest → i < n
    → ((b : ℕ) (more : List Item) → rest ≡ item.Byte b ∷ more → ⊥) → HasNoBytes items n
no-byte items i n done rest begins lt none bytes y (len, is) =
    let found = next-byte done bytes rest y (omega (arith, len, begins.0, lt)) (sym begins.1 ∙ is) in
    none found.0 found.1 found.2

-- where fewer terms are read than stand at the front, a term is next
next-term : (ts us : Trees) (x y : List Item) → are_spelled ts ≡ true → are_spelled us ≡ true → trees_len ts < trees_len us
    → trees_items ts ++ x ≡ trees_items us ++ y → (u : Tree) × (rest : List Item) × BeginsWith x u rest
next-term end end x y p q lt e = absurd (omega (arith, lt))
next-term end (u ▹ us) x y p q lt e = (u, trees_items us ++ y, ((and_parts (is_spelled u) (are_spelled us) q).0, e ∙ append_assoc (tree_items u) (trees_items us) y))
next-term (t ▹ ts) end x y p q lt e = absurd (omega (arith, lt))
next-term (t ▹ ts) (u ▹ us) x y p q lt e =
    let apart : tree_items t ++ (trees_items ts ++ x) ≡ tree_items u ++ (trees_items us ++ y) =
    sym (append_assoc (tree_items t) (trees_items ts) x) ∙ e ∙ append_assoc (tree_items u) (trees_items us) y in
    let first = unique t u (trees_items ts ++ x) (trees_items us ++ y) (and_parts (is_spelled t) (are_spelled ts) p).0 (and_parts (is_spelled u) (are_spelled us) q).0 apart in
    next-term ts us x y (and_parts (is_spelled t) (are_spelled ts) p).1 (and_parts (is_spelled u) (are_spelled us) q).1 (omega (arith, lt)) first.1

pub no-part : (items : List Item) (i n : ℕ) (done : Trees) (rest : List Item) → BeginAll items i done rest → i < n → HasNoTerm rest → HasNoParts items n
no-part items i n done rest begin lt none ts y all =
    let found = next-term done ts rest y begin.0 all.0 (omega (arith, all.1, begin.1, lt)) (sym begin.2 ∙ all.2) in
    none found.0 found.1 found.2

-- a list needs a tail after its head
after-head : (rest : List Item) (head : Tree) (after : List Item) → BeginsWith rest head after → (t : Tree) (y : List Item) → BeginsWith (item.Cons ∷ rest) t y
    → (tail : Tree) × BeginsWith after tail y
unfolding kind kind_of_item kind_of_first
after-head rest head after begins (Cons h t) y (spelled, is) =
    let tails : rest ≡ (tree_items h ++ tree_items t) ++ y = cc in
    let apart : tree_items head ++ after ≡ tree_items h ++ (tree_items t ++ y) = sym begins.1 ∙ tails ∙ append_assoc (tree_items h) (tree_items t) y in
    let first = unique head h after (tree_items t ++ y) begins.0 (and_parts (is_spelled h) (is_spelled t) spelled).0 apart in
    (t, ((and_parts (is_spelled h) (is_spelled t) spelled).1, first.1))
after-head rest head after begins t y (spelled, is) = apart 5 (kind t) refl (ap kind_of_first is ∙ first-kind t y spelled)

-- a list needs a head, a tuple its parts, and a binary its bytes
pub no-head : (rest : List Item) → HasNoTerm rest → HasNoTerm (item.Cons ∷ rest)
unfolding kind kind_of_item kind_of_first
no-head rest none (Cons h t) y (spelled, is) =
    let tails : rest ≡ (tree_items h ++ tree_items t) ++ y = cc in
    none h (tree_items t ++ y) ((and_parts (is_spelled h) (is_spelled t) spelled).0, tails ∙ append_assoc (tree_items h) (tree_items t) y)
no-head rest none t y (spelled, is) = apart 5 (kind t) refl (ap kind_of_first is ∙ first-kind t y spelled)

pub no-tuple : (rest : List Item) (n : ℕ) → HasNoParts rest n → HasNoTerm (item.Tuple n ∷ rest)
unfolding kind kind_of_item kind_of_first
no-tuple rest n none (Tuple ts) y (spelled, is) =
    let lens : trees_len ts ≡ n = cc in
    let tails : rest ≡ trees_items ts ++ y = cc in
    none ts y (spelled, lens, tails)
no-tuple rest n none t y (spelled, is) = apart 6 (kind t) refl (ap kind_of_first is ∙ first-kind t y spelled)

pub no-binary : (rest : List Item) (n : ℕ) → HasNoBytes rest n → HasNoTerm (item.Bin n ∷ rest)
unfolding kind kind_of_item kind_of_first
no-binary rest n none (Bin bytes) y (spelled, is) =
    let lens : length bytes ≡ n = cc in
    let tails : rest ≡ spelled_bytes bytes ++ y = cc in
    none bytes y (lens, tails)
no-binary rest n none t y (spelled, is) = apart 7 (kind t) refl (ap kind_of_first is ∙ first-kind t y spelled)

pub no-tail : (rest : List Item) (head : Tree) (after : List Item) → BeginsWith rest head after → HasNoTerm after → HasNoTerm (item.Cons ∷ rest)
no-tail rest head after begins none t y it = let found = after-head rest head after begins t y it in none found.0 y found.1

-- a whole term has no items after it
pub no-more : (items : List Item) (t u : Tree) (rest : List Item) → BeginsWith items t rest → SpellsTree items u → false ≡ (length rest == 0) → ⊥
no-more items t u rest begins spells some =
    let gone = (unique t u rest [] begins.0 spells.0 (sym begins.1 ∙ spells.1 ∙ sym (append-nil (tree_items u)))).1 in
    let Some : List Item → Type 0 = λ xs. false ≡ (length xs == 0) in
    absurd (false≢true (subst Some gone some))

-- items at whose front no term stands are no whole term
pub no-front : (items : List Item) → HasNoTerm items → Explains items Items
no-front items none t spells = none t [] (spells.0, spells.1 ∙ sym (append-nil (tree_items t)))

are_spelled-append : (ts : Trees) (t : Tree) → are_spelled ts ≡ true → is_spelled t ≡ true → are_spelled (trees_append ts (t ▹ end)) ≡ true
are_spelled-append end t p q = and_from (is_spelled t) true q refl
are_spelled-append (u ▹ us) t p q =
    and_from (is_spelled u) (are_spelled (trees_append us (t ▹ end))) (and_parts (is_spelled u) (are_spelled us) p).0 (are_spelled-append us t (and_parts (is_spelled u) (are_spelled us) p).1 q)

trees_len-append : (ts : Trees) (t : Tree) → trees_len (trees_append ts (t ▹ end)) ≡ trees_len ts + 1
trees_len-append end t = refl
trees_len-append (u ▹ us) t = omega (arith, trees_len-append us t)

trees_items-append : (ts : Trees) (t : Tree) (y : List Item) → trees_items (trees_append ts (t ▹ end)) ++ y ≡ trees_items ts ++ (tree_items t ++ y)
trees_items-append end t y = ap (λ xs. xs ++ y) (append-nil (tree_items t))
trees_items-append (u ▹ us) t y =
    append_assoc (tree_items u) (trees_items (trees_append us (t ▹ end))) y
    ∙ ap (λ xs. tree_items u ++ xs) (trees_items-append us t y)
    ∙ sym (append_assoc (tree_items u) (trees_items us) (tree_items t ++ y))

-- one more term is read
pub begin-more : (items : List Item) (i : ℕ) (ts : Trees) (rest : List Item) (t : Tree) (after : List Item)
    → BeginAll items i ts rest → BeginsWith rest t after → BeginAll items (i + 1) (trees_append ts (t ▹ end)) after
begin-more items i ts rest t after begin begins = (
  are_spelled-append ts t begin.0 begins.0,
  omega (arith, trees_len-append ts t, begin.1),
  begin.2 ∙ ap (λ xs. trees_items ts ++ xs) begins.1 ∙ sym (trees_items-append ts t after),
)

-- one more term is read, and kept if all were
pub reads-more : (items : List Item) (i : ℕ) (values new : Option (List code.Tree)) (rest : List Item) (value : Option code.Tree) (after : List Item) → ReadsAll items i values rest
    → ReadsTerm rest value after
    → ((ts : Trees) (t : Tree) → AreOf values ts → IsValueOf value t → AreOf new (trees_append ts (t ▹ end))) → ReadsAll items (i + 1) new after
reads-more items i values new rest value after all one kept = record {
  terms = trees_append all.terms (one.term ▹ end);
  begin = begin-more items i all.terms rest one.term after all.begin one.begins;
  built = kept all.terms one.term all.built one.built;
}

-- one more byte is read, and kept if all were
pub reads-byte : (items : List Item) (i : ℕ) (kept new : Option (List ℕ)) (rest : List Item) (b : ℕ) (after : List Item) → ReadsBytes items i kept rest → rest ≡ item.Byte b ∷ after
    → ((bs : List ℕ) → IfSome kept (λ xs. xs ≡ bs) → IfSome new (λ xs. xs ≡ bs ++ b ∷ [])) → ReadsBytes items (i + 1) new after
reads-byte items i kept new rest b after all is more =
    let begin : length all.bytes ≡ i = all.begin.0 in
    record {
      bytes = all.bytes ++ b ∷ [];
      begin = (
        omega (arith, begin, length-append all.bytes (b ∷ [])),
        all.begin.1 ∙ ap (λ l. spelled_bytes all.bytes ++ l) is ∙ sym (append_assoc (spelled_bytes all.bytes) (item.Byte b ∷ []) after)
            ∙ ap (λ l. l ++ after) (sym (map-append (λ x. item.Byte x) all.bytes (b ∷ []))),
      );
      built = more all.bytes all.built;
    }

-- a list place is read, and built if its parts were
pub reads-cons : (items : List Item) (head : Option code.Tree) (mid : List Item) (tail new : Option code.Tree) (after : List Item) → ReadsTerm items head mid → ReadsTerm mid tail after
    → ((h t : Tree) → IsValueOf head h → IsValueOf tail t → IsValueOf new (Cons h t)) → ReadsTerm (item.Cons ∷ items) new after
reads-cons items head mid tail new after first second made =
    let a = first.term in
    let b = second.term in
    record {
      term = Cons a b;
      begins = (
        and_from (is_spelled a) (is_spelled b) first.begins.0 second.begins.0,
        ap (λ l. item.Cons ∷ l) (first.begins.1 ∙ ap (λ l. tree_items a ++ l) second.begins.1 ∙ sym (append_assoc (tree_items a) (tree_items b) after)),
      );
      built = made a b first.built second.built;
    }

-- a tuple is read, and built if its parts were
pub reads-tuple : (items : List Item) (i n : ℕ) (values : Option (List code.Tree)) (new : Option code.Tree) (after : List Item) → i ≡ n → ReadsAll items i values after
    → ((ts : Trees) → AreOf values ts → IsValueOf new (Tuple ts)) → ReadsTerm (item.Tuple n ∷ items) new after
reads-tuple items i n values new after whole all made = record {
  term = Tuple all.terms;
  begins = (all.begin.0, (λ j. item.Tuple (sym (all.begin.1 ∙ whole) j) ∷ all.begin.2 j));
  built = made all.terms all.built;
}

-- a binary is read, and built if its bytes were kept
pub reads-bin : (items : List Item) (i n : ℕ) (kept : Option (List ℕ)) (new : Option code.Tree) (after : List Item) → i ≡ n → n ≤ HEAP_BINARY → ReadsBytes items i kept after
    → ((bs : List ℕ) → IfSome kept (λ xs. xs ≡ bs) → IsValueOf new (Bin bs)) → ReadsTerm (item.Bin n ∷ items) new after
reads-bin items i n kept new after whole few all made =
    let len : length all.bytes ≡ n = all.begin.0 ∙ whole in
    let short : nat_le (length all.bytes) HEAP_BINARY ≡ true = grind (arith, nat_tests, len, few) in
    record {
      term = Bin all.bytes;
      begins = (short, ap (λ m. item.Bin m ∷ items) (sym len) ∙ ap (λ l. item.Bin (length all.bytes) ∷ l) all.begin.1);
      built = made all.bytes all.built;
    }

-- values of a list and one more
trees_of-push : (xs : List code.Tree) (x : code.Tree) → trees_of (map view (xs ++ x ∷ [])) ≡ trees_append (trees_of (map view xs)) (view x ▹ end)
trees_of-push [] x = refl
trees_of-push (y ∷ ys) x = ap (λ us. view y ▹ us) (trees_of-push ys x)

-- so are these where one more was put on
pub are-more : (values : Option (List code.Tree)) (value : Option code.Tree) (new : Option (List code.Tree)) (ts : Trees) (t : Tree)
    → IfSome new (λ more. IsSomeAnd values (λ xs. IsSomeAnd value (λ x. more ≡ xs ++ x ∷ []))) → AreOf values ts → IsValueOf value t → AreOf new (trees_append ts (t ▹ end))
are-more values value None ts t pushed all it = tt
are-more None value (Some new) ts t pushed all it = absurd pushed
are-more (Some xs) None (Some new) ts t pushed all it = absurd pushed
are-more (Some xs) (Some x) (Some new) ts t pushed all it =
    ap (λ l. trees_of (map view l)) pushed ∙ trees_of-push xs x ∙ (λ i. trees_append (all i) (it i ▹ end))

pub bytes-more : (kept new : Option (List ℕ)) (b : ℕ) (bs : List ℕ) → IfSome new (λ more. IsSomeAnd kept (λ xs. more ≡ xs ++ b ∷ [])) → IfSome kept (λ xs. xs ≡ bs)
    → IfSome new (λ xs. xs ≡ bs ++ b ∷ [])
bytes-more kept None b bs pushed all = tt
bytes-more None (Some new) b bs pushed all = absurd pushed
bytes-more (Some xs) (Some new) b bs pushed all = pushed ∙ ap (λ l. l ++ b ∷ []) all

-- parts and bytes are those of the value that is made of them
pub is-tuple : (values : Option (List code.Tree)) (new : Option code.Tree) → MatchOption values (new ≡ None) (λ xs. IsSomeAnd new (λ v. v ≡ made.Tuple xs))
    → (ts : Trees) → AreOf values ts → IsValueOf new (Tuple ts)
is-tuple None new made ts all = rw made tt
is-tuple (Some xs) None made ts all = absurd made
is-tuple (Some xs) (Some v) made ts all = ap view made ∙ view-Tuple xs ∙ ap Tuple all

pub is-binary : (kept : Option (List ℕ)) (new : Option code.Tree) → MatchOption kept (new ≡ None) (λ xs. IsSomeAnd new (λ v. v ≡ code.Bin xs))
    → (bs : List ℕ) → IfSome kept (λ xs. xs ≡ bs) → IsValueOf new (Bin bs)
is-binary None new made bs all = rw made tt
is-binary (Some xs) None made bs all = absurd made
is-binary (Some xs) (Some v) made bs all = ap view made ∙ view-Bin xs ∙ ap Bin all
