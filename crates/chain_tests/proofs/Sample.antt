-- A memory laid out by hand, with an object of each kind: a collection can begin there.
use Rattle.std.proofs.Common.{◌≡◌, ℕ, zero, suc, ◌+◌, ◌-◌, ◌*◌, ◌/◌, ◌%◌, ◌<◌, ◌≤◌, ◌⊎◌, Bool, true, false, List, [], ◌∷◌, ◌++◌, length, drop, get_or, refl, sym, ◌∙◌, ap, subst, arith, inl, inr, pos, lit≤, lit<, ◌==◌, ◌&&◌, ◌||◌, if◌then◌else◌, nat_lt}
use Rattle.std.proofs.lemmas.Bool.{and_parts, eqb-true}
use Rattle.std.proofs.lemmas.List.{get_or-drop, get_or-take, get_or_past}
use Rattle.std.proofs.lemmas.Bool.Decides.{nat_tests}
use Rattle.std.specs.Prelude.{Result, Ok, IfOk}
use Rattle.plain_term.specs.Tree.{Trees}
use Rattle.plain_term.specs.Tree.Tree.{Int, Atom, Ref, Nil, Cons, Tuple, Map, Bin, Shared, Part, Fun}
use Rattle.plain_term.specs.Tree.Trees.{end, ◌▹◌}
use Rattle.plain_term.specs.Tree.Pairs.{stop, pair}
use Rattle.term_words.specs.Role.{roles_of}
use Rattle.term_words.specs.Object.{IsPointer, object_words}
use Rattle.term_words.specs.Reach.{Reach, root, part, first_traced}
use Rattle.term_words.specs.Stands.{Stands, RowStands, KeysStand, ValuesStand, AllStand}
use Rattle.term_words.proofs.Framing.Rooms.{role-at}
use Rattle.term_words.proofs.Placing.Tried.{all_hold, holds-there, byte_lies, bytes-lie, object-lies, none-there}
use Rattle.word_mem.specs.declared.ranges.Room.{Room}
use Rattle.word_mem.specs.declared.ranges.Span.{Span}
use Rattle.cheney.specs.declared.stay.Stay.{Stay}
use Rattle.cheney.specs.Spans.{in_span, in_spans}
use Rattle.cheney.specs.Ranges.{stays}
use Rattle.term_words.specs.Counted.{In}
use Rattle.cheney.specs.Plan.{Plan, Ready, Reached, Leaves, RoomFits, size, first}
use Rattle.cheney.specs.declared.moving.Moving.{Moving}
use Rattle.cheney.specs.Rooms.{Runs, top_of}
use Rattle.cheney.specs.Collected.{CanStart, CanCollectRow, Collected, used}
use Rattle.cheney.specs.Next.{Ended, CollectionGoesOn, HasRoles, Remains, Succeeds}
use Rattle.cheney.specs.Roots.{AreRoots, CanMovePlaces, PlacesEvacuated, words_at}
use Rattle.cheney.specs.Stacked.{CanCollectWith}
use Rattle.cheney.specs.Calls.{CanScan}
use Rattle.cheney.specs.Zones.{Marks, at_objects}
use Rattle.cheney.proofs.Rooted.Rows.{start-runs, starts}
use Rattle.cheney.proofs.After.Next.{fits-again, has-roles, ready-again}

abbrev pub sample : List ℕ
sample = 0 ∷ 31 ∷ 59 ∷ 128 ∷ 331 ∷ 5 ∷ 164 ∷ 3 ∷ 591879 ∷ 86 ∷ 1 ∷ 1 ∷ 2 ∷ 513 ∷ 352 ∷ 2 ∷ 0 ∷ 9 ∷ 0 ∷ 0 ∷ 296 ∷ 1 ∷ 1 ∷ 0 ∷ 58 ∷ 71 ∷ 770 ∷ 1 ∷ 0 ∷ 404 ∷ 25 ∷ 0 ∷ 2 ∷ 1 ∷ 19 ∷ 79 ∷ 64 ∷
    75 ∷ 252 ∷ 1 ∷ 146 ∷ 159 ∷ 144 ∷ 1 ∷ 7 ∷ 72 ∷ 9223372036854775808 ∷ 0 ∷ 136 ∷ 0 ∷ 1 ∷ 0 ∷ 0 ∷ 0 ∷ 0 ∷ 0 ∷ 0 ∷ 0 ∷ 0 ∷ 0 ∷ 0 ∷ 0 ∷ 0 ∷ 0 ∷ 0 ∷ 0 ∷ 0 ∷ 0 ∷ 0 ∷ 0 ∷ 0 ∷ 0 ∷ 0 ∷ 0 ∷ 0 ∷ 0
    ∷ 0 ∷ 0 ∷ 0 ∷ 0 ∷ 0 ∷ 0 ∷ 0 ∷ 0 ∷ 0 ∷ 0 ∷ 0 ∷ 0 ∷ 0 ∷ 0 ∷ 0 ∷ 5 ∷ 14 ∷ 26 ∷ 58 ∷ 82 ∷ 118 ∷ 154 ∷ 170 ∷ 182 ∷ 190 ∷ 194 ∷ 5 ∷ 79 ∷ 0 ∷ 0 ∷ 0 ∷ 0 ∷ 0 ∷ 0 ∷ 0 ∷ 0 ∷ 0 ∷ 0 ∷ 0 ∷ 0 ∷ 0 ∷ 0
    ∷ 0 ∷ 0 ∷ 0 ∷ 0 ∷ 0 ∷ 0 ∷ 0 ∷ 0 ∷ 0 ∷ 0 ∷ 0 ∷ 0 ∷ 0 ∷ 0 ∷ 0 ∷ 0 ∷ 0 ∷ 0 ∷ 0 ∷ 0 ∷ 0 ∷ 0 ∷ 0 ∷ 0 ∷ 0 ∷ 0 ∷ []

abbrev pub roots : List ℕ
roots = 5 ∷ 14 ∷ 26 ∷ 58 ∷ 82 ∷ 118 ∷ 154 ∷ 170 ∷ 182 ∷ 190 ∷ 194 ∷ 5 ∷ 79 ∷ []

abbrev lists : List (List ℕ)
lists = (1 ∷ 2 ∷ []) ∷ []

-- The role of each place.
abbrev roles : List ℕ
roles = 0 ∷ 3 ∷ 4 ∷ 3 ∷ 4 ∷ 4 ∷ 3 ∷ 4 ∷ 4 ∷ 8 ∷ 6 ∷ 2 ∷ 6 ∷ 6 ∷ 3 ∷ 4 ∷ 1 ∷ 5 ∷ 4 ∷ 4 ∷ 3 ∷ 4 ∷ 4 ∷ 4 ∷ 4 ∷ 8 ∷ 6 ∷ 2 ∷ 6 ∷ 3 ∷ 5 ∷ 1 ∷ 4 ∷ 4 ∷ 4 ∷ 4 ∷ 3 ∷ 4 ∷ 3 ∷ 4 ∷ 4 ∷ 4 ∷ 3 ∷ 4 ∷ 4 ∷
    3 ∷ 4 ∷ 3 ∷ 3 ∷ 4 ∷ 4 ∷ []

abbrev role : ℕ → ℕ
role a = get_or roles a 0

abbrev test : ℕ → ℕ → Bool
test = roles_of role

abbrev kept : Span
kept = record { start = 42; end = 45 }

abbrev old : Span
old = record { start = 1; end = 9 }

abbrev low : Bool → ℕ
low true = 51
low false = 60

abbrev high : Bool → ℕ
high true = 60
high false = 91

abbrev the-trees : Trees
the-trees = Cons (Int (pos 1)) Nil ▹ Tuple (Atom 5 ▹ Cons (Int (pos 1)) Nil ▹ end) ▹ Bin (7 ∷ 8 ∷ 9 ∷ []) ▹ Shared 1 ▹ Part (Shared 1) 1 1 ▹ Fun 3 2 1 (Int (pos 4) ▹ end) ▹ Map
    (pair (Atom 1) (Int (pos 9)) stop)
    ▹ Ref 1 7 ▹ Int (pos 9223372036854775808) ▹ Tuple end ▹ Int (pos 18446744073709551616) ▹ Cons (Int (pos 1)) Nil ▹ Int (pos 4) ▹ end

abbrev pub plan : Plan
plan = record { start = sample; roots = roots; shared = lists; trees = the-trees; test = test; stay = in_span kept; mature = in_span old; low = low; high = high }

either : (a b : Bool) → (a || b) ≡ true → (a ≡ true) ⊎ (b ≡ true)
either true b h = inl refl
either false b h = inr h

the-list : Stands (roles_of role) lists sample 5 (Cons (Int (pos 1)) Nil)
unfolding Stands roles_of all_hold
the-list = (record { tag = refl; object = object-lies sample role 1 1 (lit≤ tt) refl refl }, inl (record { small = refl; word = refl }), refl)

the-tuple : Stands (roles_of role) lists sample 14 (Tuple (Atom 5 ▹ Cons (Int (pos 1)) Nil ▹ end))
unfolding Stands RowStands roles_of all_hold
the-tuple =
    (record { range = lit≤ tt; boxed = record { tag = refl; header = refl; object = object-lies sample role 3 2 (lit≤ tt) refl refl } }, (record { range = lit< tt; word = refl }, (the-list, tt)))

the-empty : Stands (roles_of role) lists sample 190 (Tuple end)
unfolding Stands RowStands roles_of all_hold
the-empty = (record { range = lit≤ tt; boxed = record { tag = refl; header = refl; object = object-lies sample role 47 0 (lit≤ tt) refl refl } }, tt)

the-bytes : Stands (roles_of role) lists sample 26 (Bin (7 ∷ 8 ∷ 9 ∷ []))
unfolding Stands all_hold byte_lies roles_of
the-bytes =
    record { range = lit≤ tt; boxed = record { tag = refl; header = refl; object = object-lies sample role 6 2 (lit≤ tt) refl refl }; size = refl; content = bytes-lie sample 8 (7 ∷ 8 ∷ 9 ∷ []) refl }

the-shared : Stands (roles_of role) lists sample 58 (Shared 1)
unfolding Stands all_hold byte_lies roles_of
the-shared = record {
  from_one = lit< tt;
  known = lit≤ tt;
  holder = record {
    tag = refl;
    within = lit≤ tt;
    header = refl;
    size = refl;
    bytes_word = refl;
    flags_word = refl;
    first = refl;
    second = refl;
    next = refl;
    names = refl;
    fifth = refl;
    sixth = refl;
  };
  record_is = record {
    within = lit≤ tt;
    header = refl;
    owner = refl;
    size = refl;
    content = bytes-lie sample 13 (1 ∷ 2 ∷ []) refl;
    first = refl;
    second = refl;
    counted = refl;
    others = λ q from below. holds-there (λ x. roles_of role x 6) 12 2 q refl from below;
  };
}

the-part : Stands (roles_of role) lists sample 82 (Part (Shared 1) 1 1)
unfolding Stands roles_of all_hold
the-part =
    (record { boxed = record { tag = refl; header = refl; object = object-lies sample role 20 4 (lit≤ tt) refl refl }; size = refl; start = refl; bits = refl; inside = lit≤ tt }, tt, the-shared)

the-fun : Stands (roles_of role) lists sample 118 (Fun 3 2 1 (Int (pos 4) ▹ end))
unfolding Stands RowStands roles_of all_hold
the-fun = (
  record {
    range = lit≤ tt;
    creator_range = lit< tt;
    tag = refl;
    within = lit≤ tt;
    header = refl;
    arity_word = refl;
    size = refl;
    creator_word = refl;
    record_is = record { named = lit< tt; arity_range = lit≤ tt; within = lit≤ tt; header = refl; owner = refl; zero_word = refl; first = refl; second = refl; counted = refl; fourth = refl };
    first = refl;
    names = refl;
    next = refl;
    others = λ q above below. holds-there (λ x. roles_of role x 4) 32 4 q refl (omega arith) below;
  },
  (inl (record { small = refl; word = refl }), tt),
)

the-map : Stands (roles_of role) lists sample 154 (Map (pair (Atom 1) (Int (pos 9)) stop))
unfolding Stands KeysStand ValuesStand roles_of all_hold
the-map = (
  record {
    range = lit≤ tt;
    boxed = record { tag = refl; header = refl; object = object-lies sample role 38 3 (lit≤ tt) refl refl };
    count = refl;
    keys = record { range = lit≤ tt; boxed = record { tag = refl; header = refl; object = object-lies sample role 36 1 (lit≤ tt) refl refl } };
  },
  (record { range = lit< tt; word = refl }, tt),
  (inl (record { small = refl; word = refl }), tt),
)

the-reference : Stands (roles_of role) lists sample 170 (Ref 1 7)
unfolding Stands roles_of all_hold
the-reference = record { boxed = record { tag = refl; header = refl; object = object-lies sample role 42 2 (lit≤ tt) refl refl }; number = refl; count = refl }

the-big : Stands (roles_of role) lists sample 182 (Int (pos 9223372036854775808))
unfolding Stands roles_of all_hold
the-big = inr (inl (record { big = refl; boxed = record { tag = refl; header = refl; object = object-lies sample role 45 1 (lit≤ tt) refl refl }; digit = refl; range = lit< tt }))

the-wide : Stands (roles_of role) lists sample 194 (Int (pos 18446744073709551616))
unfolding Stands roles_of all_hold
the-wide = inr (inr (record { boxed = record { tag = refl; header = refl; object = object-lies sample role 48 2 (lit≤ tt) refl refl }; low = lit< tt; high = lit< tt; digits = refl; range = lit< tt }))

the-small : Stands (roles_of role) lists sample 79 (Int (pos 4))
unfolding Stands
the-small = inl (record { small = refl; word = refl })

all-stand : AllStand (roles_of role) lists sample roots the-trees
unfolding AllStand
all-stand = (the-list, (the-tuple, (the-bytes, (the-shared, (the-part, (the-fun, (the-map, (the-reference, (the-big, (the-empty, (the-wide, (the-list, (the-small, tt)))))))))))))

-- What the roots reach is found by testing the parts of each word.

has : List ℕ → ℕ → Bool
has [] v = false
has (u ∷ us) v = (u == v) || has us v

-- whether the list has the word at a place
listed : List ℕ → ℕ → Bool
listed us q = has us (get_or sample q 0)

parts-in : List ℕ → List ℕ → Bool
parts-in us [] = true
parts-in us (v ∷ vs) = (if (v % 4 == 1) || (v % 4 == 2) then all_hold (listed us) (v / 4 + first_traced sample v) (object_words sample v - first_traced sample v) else true) && parts-in us vs

all-in : List ℕ → List ℕ → Bool
all-in us [] = true
all-in us (v ∷ vs) = has us v && all-in us vs

abbrev known : List ℕ
known = 5 ∷ 14 ∷ 26 ∷ 58 ∷ 82 ∷ 118 ∷ 154 ∷ 170 ∷ 182 ∷ 190 ∷ 194 ∷ 79 ∷ 31 ∷ 59 ∷ 331 ∷ 146 ∷ 159 ∷ 75 ∷ []

parts-has : (us vs : List ℕ) (v k : ℕ) → parts-in us vs ≡ true → has vs v ≡ true → IsPointer v → first_traced sample v ≤ k → k < object_words sample v → has us (get_or sample (v / 4 + k) 0) ≡ true
unfolding parts-in has listed
parts-has us [] v k h i t from below = absurd (cc)
parts-has us (u ∷ vs) v k h i t from below =
    let (this, rest) = and_parts
    (if (u % 4 == 1) || (u % 4 == 2) then all_hold (listed us) (u / 4 + first_traced sample u) (object_words sample u - first_traced sample u) else true) (parts-in us vs) h in
    elim (either (u == v) (has vs v) i) [
      | inr more ↦ parts-has us vs v k rest more t from below
      | inl same ↦ (let e : u ≡ v = eqb-true _ _ same in
          let P : ℕ → Type 0 = λ x. (if (x % 4 == 1) || (x % 4 == 2) then all_hold (listed us) (x / 4 + first_traced sample x) (object_words sample x - first_traced sample x) else true) ≡ true in
          let here : (if (v % 4 == 1) || (v % 4 == 2) then all_hold (listed us) (v / 4 + first_traced sample v) (object_words sample v - first_traced sample v) else true) ≡ true = subst P e this in
          let pointer : ((v % 4 == 1) || (v % 4 == 2)) ≡ true = grind (arith, nat_tests, t) in
          let Q : Bool → Type 0 = λ b. (if b then all_hold (listed us) (v / 4 + first_traced sample v) (object_words sample v - first_traced sample v) else true) ≡ true in
          holds-there (listed us) (v / 4 + first_traced sample v) (object_words sample v - first_traced sample v) (v / 4 + k) (subst Q pointer here) (omega arith) (omega arith))
    ]

all-has : (us vs : List ℕ) (j : ℕ) → all-in us vs ≡ true → j < length vs → has us (get_or vs j 0) ≡ true
unfolding all-in
all-has us [] j h below = absurd (omega arith)
all-has us (v ∷ vs) zero h below = (and_parts (has us v) (all-in us vs) h).0
all-has us (v ∷ vs) (suc j) h below = all-has us vs j (and_parts (has us v) (all-in us vs) h).1 (omega arith)

found : (v : ℕ) → Reach sample roots v → has known v ≡ true
unfolding parts-in has listed all_hold all-in
found v (root j w below e) = let P : ℕ → Type 0 = λ x. has known x ≡ true in subst P (sym e) (all-has known roots j refl below)
found v (part u k w r t from below e) = let P : ℕ → Type 0 = λ x. has known x ≡ true in subst P (sym e) (parts-has known known u k refl (found u r) t from below)

-- No word past the objects has a role.

clear-of : (a k : ℕ) → roles_of role a k ≡ true → (b : Bool) → (a < low b) ⊎ (high b ≤ a)
clear-of a k h b =
    let order3 : (a < 51) ⊎ (51 ≤ a) = grind arith in
    elim order3 [
      | inl near ↦ inl (elim b as (λ c. a < low c) [ true ↦ near | false ↦ omega arith ])
      | inr far ↦ absurd (none-there role a k (get_or_past roles a 0 far) h)
    ]

-- A test that holds of each listed word holds of each word that the roots reach.
every : (ℕ → Bool) → List ℕ → Bool
every f [] = true
every f (v ∷ vs) = f v && every f vs

every-has : (f : ℕ → Bool) (vs : List ℕ) (v : ℕ) → every f vs ≡ true → has vs v ≡ true → f v ≡ true
unfolding every has
every-has f [] v h i = absurd (cc)
every-has f (u ∷ vs) v h i =
    let (this, rest) = and_parts (f u) (every f vs) h in
    elim (either (u == v) (has vs v) i) [
      | inl same ↦ (let P : ℕ → Type 0 = λ x. f x ≡ true in subst P (eqb-true _ _ same) this)
      | inr more ↦ every-has f vs v rest more
    ]

has-in : (vs : List ℕ) (v : ℕ) → has vs v ≡ true → In v vs
unfolding has
has-in [] v h = absurd (cc)
has-in (u ∷ vs) v h = elim (either (u == v) (has vs v) h) [ inl same ↦ inl (sym (eqb-true _ _ same)) | inr more ↦ inr (has-in vs v more) ]

-- What stays has no traced word.
still-test : ℕ → Bool
still-test v = if in_span kept (v / 4) then object_words sample v == first_traced sample v else true

closed-here : (v k : ℕ) → Reach sample roots v → in_span kept (v / 4) ≡ true → first_traced sample v ≤ k → k < object_words sample v → ⊥
unfolding every has still-test
closed-here v k r stay from below =
    let all : still-test v ≡ true = every-has still-test known v refl (found v r) in
    let P : Bool → Type 0 = λ b. (if b then object_words sample v == first_traced sample v else true) ≡ true in
    let same : (object_words sample v == first_traced sample v) ≡ true = subst P stay all in
    let e : object_words sample v ≡ first_traced sample v = eqb-true _ _ same in
    omega (arith, e, from, below)

closed-there : (v k : ℕ) → Reached plan v → IsPointer v → plan.stay (v / 4) ≡ true → first plan v ≤ k → k < size plan v → Leaves plan (get_or sample (v / 4 + k) 0) → ⊥
unfolding first size
closed-there v k r t stay from below l = closed-here v k r stay from below

-- Each object that moves is in the list of its room.
same_bool : Bool → Bool → Bool
same_bool true b = b
same_bool false true = false
same_bool false false = true

same-bool : (a b : Bool) → a ≡ b → same_bool a b ≡ true
unfolding same_bool
same-bool true b e = sym e
same-bool false false e = refl
same-bool false true e = absurd (cc)

room-test : Bool → List ℕ → ℕ → Bool
room-test b us v = if (v % 4 == 1) || (v % 4 == 2) then (if in_span kept (v / 4) then true else (if same_bool (in_span old (v / 4)) b then has us v else true)) else true

room-has : (b : Bool) (us : List ℕ) (v : ℕ) → room-test b us v ≡ true → IsPointer v → in_span kept (v / 4) ≡ false → in_span old (v / 4) ≡ b → has us v ≡ true
unfolding room-test
room-has b us v h t leaves goes =
    let pointer : ((v % 4 == 1) || (v % 4 == 2)) ≡ true = grind (arith, nat_tests, t) in
    let same : same_bool (in_span old (v / 4)) b ≡ true = same-bool (in_span old (v / 4)) b goes in
    let P : Bool → Type 0 = λ x. (if x then (if in_span kept (v / 4) then true else (if same_bool (in_span old (v / 4)) b then has us v else true)) else true) ≡ true in
    let Q : Bool → Type 0 = λ x. (if x then true else (if same_bool (in_span old (v / 4)) b then has us v else true)) ≡ true in
    let R : Bool → Type 0 = λ x. (if x then has us v else true) ≡ true in
    subst R same (subst Q leaves (subst P pointer h))

abbrev to-aged : List ℕ
to-aged = 5 ∷ 14 ∷ 26 ∷ []

abbrev to-young : List ℕ
to-young = 58 ∷ 82 ∷ 118 ∷ 154 ∷ 182 ∷ 190 ∷ 194 ∷ 146 ∷ []

fits-there : (b : Bool) → RoomFits plan b
unfolding every has room-test size same_bool
fits-there true = record {
  each = to-aged;
  all = λ w r l goes. has-in to-aged w (room-has true to-aged w (every-has (room-test true to-aged) known w refl (found w r)) l.pointer l.leaves
      goes);
  words = lit≤ tt;
}
fits-there false = record {
  each = to-young;
  all = λ w r l goes. has-in to-young w
      (room-has false to-young w (every-has (room-test false to-young) known w refl (found w r)) l.pointer l.leaves goes);
  words = lit≤ tt;
}

ready : Ready plan
ready = record {
  standing = all-stand;
  single = record { one = λ a j k h i. sym (role-at role a j h) ∙ role-at role a k i };
  clear = clear-of;
  closed = closed-there;
  rooms = inl (lit≤ tt);
  order = λ b. elim b as (λ c. low c ≤ high c) [ true ↦ lit≤ tt | false ↦ lit≤ tt ];
  inside = λ b. elim b as (λ c. high c ≤ length sample) [ true ↦ lit≤ tt | false ↦ lit≤ tt ];
  fits = fits-there;
}

-- The memory that was laid out is this one, and nothing else stays.

moves-first : (q : ℕ) → in_span (record { start = 1; end = 42 }) q ≡ true → in_span kept q ≡ false
moves-first q h = grind (arith, nat_tests)

abbrev pub first-rooms : Stay → Room → Room → Moving
first-rooms stay aged young = record { stay = stay; from_space = record { start = 1; end = 42 }; mature = record { start = 1; end = 9 }; aged = aged; young = young }

pub begins-there : {E : Type 0} (r : Result (List ℕ) E) (m : List ℕ) (none stay : Stay) (aged young : Room) → r ≡ Ok m → IfOk r (λ x. x ≡ sample) → none.spans.items ≡ [] →
    ((q : ℕ) → stays stay q ≡ (stays none q || in_span kept q))
    → aged ≡ record { start = 51; top = 51; end = 60 } → young ≡ record { start = 60; top = 60; end = 91 } → CanStart plan m (first-rooms stay aged young) roots
begins-there {E} r m none stay aged young e h n s a y =
    let P : Result (List ℕ) E → Type 0 = λ x. IfOk x (λ z. z ≡ sample) in
    let same : m ≡ sample = subst P e h in
    record {
      memory = sym same;
      words = refl;
      ready = ready;
      agrees = record {
        stay = λ q. s q ∙ ap (λ xs. in_spans xs q || in_span kept q) n;
        moves = moves-first;
        mature = λ q. refl;
        aged_low = ap (λ z. z.start) a;
        aged_high = ap (λ z. z.end) a;
        young_low = ap (λ z. z.start) y;
        young_high = ap (λ z. z.end) y;
      };
      aged_empty = ap (λ z. z.top) a ∙ sym (ap (λ z. z.start) a);
      young_empty = ap (λ z. z.top) y ∙ sym (ap (λ z. z.start) y);
    }

pub can-collect : {E : Type 0} (r : Result (List ℕ) E) (m : List ℕ) (none stay : Stay) (aged young : Room) → r ≡ Ok m → IfOk r (λ x. x ≡ sample) → none.spans.items ≡ [] →
    ((q : ℕ) → stays stay q ≡ (stays none q || in_span kept q))
    → aged ≡ record { start = 51; top = 51; end = 60 } → young ≡ record { start = 60; top = 60; end = 91 } → CanCollectRow m (first-rooms stay aged young) roots
can-collect r m none stay aged young e h n s a y = record { plan = plan; begins = begins-there r m none stay aged young e h n s a y }

high-to : (b : Bool) → high b ≤ 91
high-to true = lit≤ tt
high-to false = lit≤ tt

stacked-root : (j : ℕ) → j < 13 → get_or sample (91 + j) 0 ≡ get_or roots j 0
stacked-root j less = sym (get_or-take 13 (drop 91 sample) j 0 less ∙ get_or-drop 91 sample j 0)

-- The roots stand on a stack, too.
stacked : {E : Type 0} (r : Result (List ℕ) E) (m : List ℕ) (none stay : Stay) (aged young : Room) → r ≡ Ok m → IfOk r (λ x. x ≡ sample) → none.spans.items ≡ [] →
    ((q : ℕ) → stays stay q ≡ (stays none q || in_span kept q))
    → aged ≡ record { start = 51; top = 51; end = 60 } → young ≡ record { start = 60; top = 60; end = 91 } → AreRoots plan m 91 1 13
stacked {E} r m none stay aged young e h n s a y =
    let P : Result (List ℕ) E → Type 0 = λ x. IfOk x (λ z. z ≡ sample) in
    let same : m ≡ sample = subst P e h in
    let b : CanStart plan m (first-rooms stay aged young) roots = begins-there r m none stay aged young e h n s a y in
    let there : (j : ℕ) → j < 13 → get_or m (91 + j * 1) 0 ≡ get_or roots j 0 = λ j less.
    let at : 91 + j * 1 ≡ 91 + j = omega arith in
    ap (λ z. get_or z (91 + j * 1) 0) same ∙ ap (λ z. get_or sample z 0) at ∙ stacked-root j less in
    record {
      free = λ j less. record {
        inside = omega arith;
        outside = λ c. inr (omega (arith, high-to c));
        none = λ k role_at. none-there role (91 + j * 1) k
            (get_or_past roles (91 + j * 1) 0 (omega arith)) role_at;
      };
      reached = λ j less. let Q : ℕ → Type 0 = λ z. Reached plan z in subst Q (sym (there j less)) (root j (get_or roots j 0) less refl);
    }

pub stack-there : {E : Type 0} (r : Result (List ℕ) E) (m : List ℕ) (none stay : Stay) (aged young : Room) → r ≡ Ok m → IfOk r (λ x. x ≡ sample) → none.spans.items ≡ [] →
    ((q : ℕ) → stays stay q ≡ (stays none q || in_span kept q))
    → aged ≡ record { start = 51; top = 51; end = 60 } → young ≡ record { start = 60; top = 60; end = 91 } → CanMovePlaces m (first-rooms stay aged young) 91 1 13
stack-there r m none stay aged young e h n s a y = record {
  plan = plan;
  marks = at_objects aged.start young.start;
  runs = start-runs plan m (first-rooms stay aged young) roots (begins-there r m none stay aged young e h n s a y);
  roots = stacked r m none stay aged young e h n s a y;
}

pub stack-scans : {E : Type 0} (r : Result (List ℕ) E) (m m2 : List ℕ) (none stay : Stay) (aged young : Room) (mv2 : Moving) → r ≡ Ok m → IfOk r (λ x. x ≡ sample) → none.spans.items ≡ [] →
    ((q : ℕ) → stays stay q ≡ (stays none q || in_span kept q))
    → aged ≡ record { start = 51; top = 51; end = 60 } → young ≡ record { start = 60; top = 60; end = 91 }
    → ((p : Plan) (k : Marks) → Runs p m (first-rooms stay aged young) k → AreRoots p m 91 1 13 → PlacesEvacuated p m m2 mv2 k 91 1 13) → CanScan m2 mv2
stack-scans r m m2 none stay aged young mv2 e h n s a y moves =
    let c : CanMovePlaces m (first-rooms stay aged young) 91 1 13 = stack-there r m none stay aged young e h n s a y in
    let b : CanStart plan m (first-rooms stay aged young) roots = begins-there r m none stay aged young e h n s a y in
    let run : Runs plan m (first-rooms stay aged young) (at_objects aged.start young.start) = start-runs plan m (first-rooms stay aged young) roots b in
    record {
      plan = plan;
      runs = starts plan m m2 (first-rooms stay aged young) mv2 (at_objects aged.start young.start) run
          (moves plan (at_objects aged.start young.start) run (stacked r m none stay aged young e h n s a y)).runs;
    }

-- The first two roots are registers, and the others stand on the stack behind them.

parted : (m : List ℕ) → m ≡ sample → roots ≡ (5 ∷ 14 ∷ []) ++ words_at m 93 1 11
unfolding words_at
parted m same =
    let here : roots ≡ (5 ∷ 14 ∷ []) ++ words_at sample 93 1 11 = refl in
    here ∙ ap (λ z. (5 ∷ 14 ∷ []) ++ words_at z 93 1 11) (sym same)

pub can-collect-with : {E : Type 0} (r : Result (List ℕ) E) (m : List ℕ) (none stay : Stay) (aged young : Room) → r ≡ Ok m → IfOk r (λ x. x ≡ sample) → none.spans.items ≡ [] →
    ((q : ℕ) → stays stay q ≡ (stays none q || in_span kept q))
    → aged ≡ record { start = 51; top = 51; end = 60 } → young ≡ record { start = 60; top = 60; end = 91 } → CanCollectWith m (first-rooms stay aged young) (5 ∷ 14 ∷ []) 93 11
can-collect-with {E} r m none stay aged young e h n s a y =
    let P : Result (List ℕ) E → Type 0 = λ x. IfOk x (λ z. z ≡ sample) in
    let Q : List ℕ → Type 0 = λ ws. CanStart plan m (first-rooms stay aged young) ws in
    let same : m ≡ sample = subst P e h in
    record {
      plan = plan;
      begins = record {
        begins = subst Q (parted m same) (begins-there r m none stay aged young e h n s a y);
        free = λ j less. record {
          inside = omega arith;
          outside = λ c. inr (omega (arith, high-to c));
          none = λ k role_at. none-there role (93 + j) k (get_or_past roles (93 + j) 0 (omega arith)) role_at;
        };
      };
    }

-- A second collection goes to the free words at the end.

low-again : Bool → ℕ
low-again true = 0
low-again false = 104

high-again : Bool → ℕ
high-again true = 0
high-again false = 144

-- All roles of the first collection's memory are kept.
below : ℕ → ℕ → Bool
below a k = nat_lt a 51

has-role : (a k : ℕ) → roles_of role a k ≡ true → a < 51
has-role a k h =
    let order4 : (a < 51) ⊎ (51 ≤ a) = grind arith in
    elim order4 [ inl near ↦ near | inr far ↦ absurd (none-there role a k (get_or_past roles a 0 far) h) ]

is-below : (a k : ℕ) → a < 51 → below a k ≡ true
unfolding below
is-below a k h = grind (arith, nat_tests)

below-is : (a k : ℕ) → below a k ≡ true → a < 51
unfolding below
below-is a k h = grind (arith, nat_tests)

remains : Remains plan below
remains = record {
  stays = λ v q k r t s i h. is-below q k (has-role q k h);
  counts = λ a h. is-below a 2 (has-role a 2 h);
  records = λ a k big h. is-below a k (has-role a k h);
}

abbrev none : Span
none = record { start = 0; end = 0 }

-- The plan of the second collection.
abbrev plan-again : (m ws : List ℕ) → HasRoles plan m below → Plan
plan-again m ws r = record { start = m; roots = ws; shared = lists; trees = the-trees; test = r.test; stay = in_span kept; mature = in_span none; low = low-again; high = high-again }

low-from : (b : Bool) → 51 ≤ low b
low-from true = lit≤ tt
low-from false = lit≤ tt

not-kept : (a : ℕ) → 51 ≤ a → in_span kept a ≡ false
not-kept a h = grind (arith, nat_tests)

from-next : (q : ℕ) → in_span (record { start = 51; end = 90 }) q ≡ true → 51 ≤ q
from-next q h = grind (arith, nat_tests)

never-old : (a : ℕ) → in_span none a ≡ true → ⊥
never-old a h = grind (arith, nat_tests)

clear-again : (a : ℕ) (b : Bool) → a < 91 → (a < low-again b) ⊎ (high-again b ≤ a)
unfolding low-again high-again
clear-again a true h = inr (omega arith)
clear-again a false h = inl (omega arith)

succeeds : (m ws : List ℕ) (mv : Moving) → Ended plan m mv ws → (r : HasRoles plan m below) → Succeeds plan (plan-again m ws r) m
succeeds m ws mv e r = record { memory = refl; images = e.images; stay = λ a. refl }

room-again : (m : List ℕ) (mv : Moving) → Collected plan m (top_of mv) → (b : Bool) → (low-again b ≤ high-again b) ×
    ((low-again b + used plan (top_of mv) ≤ high-again b) ⊎ ((a : ℕ) → in_span none a ≡ b → ⊥))
unfolding low-again high-again
room-again m mv o true = (lit≤ tt, inr never-old)
room-again m mv o false = (lit≤ tt, inl (omega (arith, o.ends true, o.ends false)))

goes-on : (m ws : List ℕ) (mv : Moving) → Ended plan m mv ws → (r : HasRoles plan m below) → CollectionGoesOn plan (plan-again m ws r) m (top_of mv) below r
unfolding low-again high-again
goes-on m ws mv e r = record {
  succeeds = succeeds m ws mv e r;
  shared = refl;
  trees = refl;
  test = refl;
  moving = λ a b from less. not-kept a (omega (arith, from, low-from b));
  kept_clear = λ a k h b. clear-again a b (omega (arith, below-is a k h));
  used_clear = λ a c from less b. clear-again a b (omega (arith, less, e.collected.ends c, high-to c));
  rooms = inl (lit≤ tt);
  order = λ b. (room-again m mv e.collected b).0;
  inside = λ b. elim b as (λ c. high-again c ≤ length m) [ true ↦ omega (arith, e.collected.same_len) | false ↦ omega (arith, e.collected.same_len) ];
  fits = λ b. fits-again plan (plan-again m ws r) m mv e.runs e.moved e.collected (succeeds m ws mv e r) b (room-again m mv e.collected b).0 (room-again m mv e.collected b).1;
}

abbrev pub second-rooms : Stay → Room → Room → Moving
second-rooms stay aged young = record { stay = stay; from_space = record { start = 51; end = 90 }; mature = record { start = 0; end = 0 }; aged = aged; young = young }

pub can-go-on : (m ws : List ℕ) (mv : Moving) (no_span stay : Stay) (aged young : Room) → Ended plan m mv ws → no_span.spans.items ≡ [] →
    ((q : ℕ) → stays stay q ≡ (stays no_span q || in_span kept q))
    → aged ≡ record { start = 0; top = 0; end = 0 } → young ≡ record { start = 104; top = 104; end = 144 } → CanCollectRow m (second-rooms stay aged young) ws
unfolding low-again high-again
can-go-on m ws mv no_span stay aged young e n s a y =
    let r : HasRoles plan m below = has-roles plan ready m (top_of mv) e.collected below remains in
    let on : CollectionGoesOn plan (plan-again m ws r) m (top_of mv) below r = goes-on m ws mv e r in
    record {
      plan = plan-again m ws r;
      begins = record {
        memory = refl;
        words = refl;
        ready = ready-again plan (plan-again m ws r) m mv e.runs e.moved e.collected on.succeeds below r on;
        agrees = record {
          stay = λ q. s q ∙ ap (λ xs. in_spans xs q || in_span kept q) n;
          moves = λ q h. not-kept q (from-next q h);
          mature = λ q. refl;
          aged_low = ap (λ z. z.start) a;
          aged_high = ap (λ z. z.end) a;
          young_low = ap (λ z. z.start) y;
          young_high = ap (λ z. z.end) y;
        };
        aged_empty = ap (λ z. z.top) a ∙ sym (ap (λ z. z.start) a);
        young_empty = ap (λ z. z.top) y ∙ sym (ap (λ z. z.start) y);
      };
    }
