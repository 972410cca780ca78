-- A memory laid out by hand, with holders and funs that share records: a collection can begin there, and its chain stands.
use Rattle.std.proofs.Common.{◌≡◌, ℕ, ◌+◌, ◌/◌, ◌<◌, ◌≤◌, ◌⊎◌, Bool, true, false, List, [], ◌∷◌, length, get_or, true≢false, refl, sym, ◌∙◌, ap, subst, arith, inl, inr, pos, lit≤, lit<, ◌==◌, ◌&&◌, ◌||◌, if◌then◌else◌, nat_lt, nat_le}
use Rattle.std.proofs.lemmas.Bool.{and_parts}
use Rattle.std.proofs.lemmas.List.{get_or_past}
use Rattle.std.proofs.lemmas.Bool.Decides.{nat_tests}
use Rattle.std.specs.Prelude.{Result, Ok, IfOk}
use Rattle.plain_term.specs.Tree.{Trees}
use Rattle.plain_term.specs.Tree.Tree.{Int, Shared, Fun}
use Rattle.plain_term.specs.Tree.Trees.{end, ◌▹◌}
use Rattle.term_words.specs.Role.{roles_of, COUNT, IsSingle}
use Rattle.term_words.specs.Object.{IsPointer, IsRecord, IsBinRecord, IsFunRecord, object_words}
use Rattle.term_words.specs.Reach.{Reach, root, part, first_traced}
use Rattle.term_words.specs.Stands.{Stands, RowStands, AllStand}
use Rattle.term_words.specs.Counted.{In}
use Rattle.term_words.proofs.Framing.Rooms.{role-at}
use Rattle.term_words.proofs.Placing.Tried.{all_hold, holds-there, byte_lies, bytes-lie, none-there}
use Rattle.word_mem.specs.declared.ranges.Room.{Room}
use Rattle.shared_rec.specs.Record.{count_in}
use Rattle.shared_rec.proofs.Records.{record-first}
use Rattle.off_heap_list.specs.Links.{named, naming, IsLink, Links}
use Rattle.off_heap_list.specs.Dealt.{CanDeal}
use Rattle.off_heap_list.specs.Swept.{FrontSweeping, Sweeping}
use Rattle.off_heap_list.specs.declared.whole.FrontLeft.{FrontLeft}
use Rattle.off_heap_list.specs.Whole.{moved_of, turned, SweptFront, SweptWhole, CanSweep, CanSweepFront}
use Rattle.off_heap_list.specs.declared.whole.Survivors.{Survivors}
use Rattle.off_heap_list.proofs.Chaining.Chained.{holder-link, fun-link}
use Rattle.record_move.specs.Copies.{AllRecordsCanMove}
use Rattle.cheney.specs.declared.stay.Stay.{Stay}
use Rattle.cheney.specs.declared.moving.Moving.{Moving}
use Rattle.cheney.specs.Spans.{in_span, in_spans}
use Rattle.cheney.specs.Plan.{Plan, Ready, RoomFits, size}
use Rattle.cheney.specs.Rooms.{top_of}
use Rattle.cheney.specs.Collected.{CanStart}
use Rattle.cheney.specs.Next.{Ended, HasRoles, Remains}
use Rattle.cheney.proofs.After.Next.{has-roles}
use Rattle.record_move.specs.Follows.{Sweepable, RecordsHaveRoom}
use Rattle.record_move.proofs.Leaving.{leaves-sweep}
use Rattle.record_move.proofs.Room.{can-move}

abbrev pub sample : List ℕ
sample =
    0 ∷ 0 ∷ 352 ∷ 2 ∷ 0 ∷ 40 ∷ 0 ∷ 0 ∷ 352 ∷ 2 ∷ 2 ∷ 40 ∷ 0 ∷ 0 ∷ 352 ∷ 1 ∷ 8 ∷ 45 ∷ 0 ∷ 0 ∷ 404 ∷ 50 ∷ 14 ∷ 2 ∷ 1 ∷ 19 ∷ 79 ∷ 404 ∷ 50 ∷ 20 ∷ 2 ∷ 1 ∷ 19 ∷ 79 ∷ 0 ∷ 0 ∷ 0 ∷ 0 ∷
    0 ∷ 0 ∷ 86 ∷ 1 ∷ 2 ∷ 2 ∷ 513 ∷ 86 ∷ 2 ∷ 1 ∷ 1 ∷ 3 ∷ 71 ∷ 770 ∷ 2 ∷ 0 ∷ 0 ∷ 0 ∷ 0 ∷ 0 ∷ 0 ∷ 0 ∷ 0 ∷ 0 ∷ 0 ∷ 0 ∷ 0 ∷ 0 ∷ 0 ∷ 0 ∷ 0 ∷ 0 ∷ 0 ∷ 0 ∷ 0 ∷ 0 ∷ 0 ∷ 0 ∷ 0 ∷ 0 ∷ 0 ∷ 0 ∷
    0 ∷ 0 ∷ 0 ∷ 0 ∷ 0 ∷ 0 ∷ 0 ∷ 0 ∷ 0 ∷ 0 ∷ 0 ∷ 0 ∷ 0 ∷ 0 ∷ 0 ∷ 0 ∷ 0 ∷ 0 ∷ 0 ∷ 0 ∷ 0 ∷ 0 ∷ 0 ∷ 0 ∷ 0 ∷ 0 ∷ 0 ∷ 0 ∷ 0 ∷ 0 ∷ 0 ∷ 0 ∷ 0 ∷ 0 ∷ 0 ∷ 0 ∷ 0 ∷ 0 ∷ 0 ∷ 0 ∷ 0 ∷ 0 ∷ 0 ∷ 0 ∷
    0 ∷ 0 ∷ 0 ∷ 0 ∷ []

abbrev pub roots : List ℕ
roots = 10 ∷ 82 ∷ 110 ∷ []

abbrev pub chain : List ℕ
chain = 27 ∷ 20 ∷ 14 ∷ 8 ∷ 2 ∷ []

abbrev lists : List (List ℕ)
lists = (1 ∷ 2 ∷ []) ∷ (3 ∷ []) ∷ []

-- The role of each place.
abbrev pub roles : List ℕ
roles =
    0 ∷ 0 ∷ 3 ∷ 4 ∷ 1 ∷ 5 ∷ 4 ∷ 4 ∷ 3 ∷ 4 ∷ 1 ∷ 5 ∷ 4 ∷ 4 ∷ 3 ∷ 4 ∷ 1 ∷ 5 ∷ 4 ∷ 4 ∷ 3 ∷ 5 ∷ 1 ∷ 4 ∷ 4 ∷ 4 ∷ 4 ∷ 3 ∷ 5 ∷ 1 ∷ 4 ∷ 4 ∷ 4 ∷ 4 ∷ 0 ∷ 0 ∷ 0 ∷ 0 ∷ 0 ∷ 0 ∷ 8 ∷ 6 ∷ 2 ∷ 6 ∷
    6 ∷ 8 ∷ 6 ∷ 2 ∷ 6 ∷ 6 ∷ 8 ∷ 6 ∷ 2 ∷ 6 ∷ []

abbrev pub role : ℕ → ℕ
role a = get_or roles a 0

abbrev test : ℕ → ℕ → Bool
test = roles_of role

abbrev low : Bool → ℕ
low true = 64
low false = 66

abbrev high : Bool → ℕ
high true = 64
high false = 100

abbrev the-trees : Trees
the-trees = Shared 1 ▹ Fun 3 2 1 (Int (pos 4) ▹ end) ▹ Fun 3 2 1 (Int (pos 4) ▹ end) ▹ end

abbrev pub plan : Plan
plan = record { start = sample; roots = roots; shared = lists; trees = the-trees; test = test; stay = λ q. false; mature = λ q. false; low = low; high = high }

record-a : IsBinRecord (roles_of role) sample 40 1 (1 ∷ 2 ∷ [])
unfolding all_hold byte_lies roles_of
record-a = record {
  within = lit≤ tt;
  header = refl;
  owner = refl;
  size = refl;
  content = bytes-lie sample 44 (1 ∷ 2 ∷ []) refl;
  first = refl;
  second = refl;
  counted = refl;
  others = λ q from less. holds-there (λ x. roles_of role x 6) 43 2 q refl from less;
}

record-b : IsBinRecord (roles_of role) sample 45 2 (3 ∷ [])
unfolding all_hold byte_lies roles_of
record-b = record {
  within = lit≤ tt;
  header = refl;
  owner = refl;
  size = refl;
  content = bytes-lie sample 49 (3 ∷ []) refl;
  first = refl;
  second = refl;
  counted = refl;
  others = λ q from less. holds-there (λ x. roles_of role x 6) 48 2 q refl from less;
}

record-c : IsFunRecord (roles_of role) sample 50 3 2
unfolding roles_of
record-c = record { named = lit< tt; arity_range = lit≤ tt; within = lit≤ tt; header = refl; owner = refl; zero_word = refl; first = refl; second = refl; counted = refl; fourth = refl }

the-first : Stands (roles_of role) lists sample 10 (Shared 1)
unfolding Stands roles_of
the-first = record {
  from_one = lit< tt;
  known = lit≤ tt;
  holder = record {
    tag = refl;
    within = lit≤ tt;
    header = refl;
    size = refl;
    bytes_word = refl;
    flags_word = refl;
    first = refl;
    second = refl;
    next = refl;
    names = refl;
    fifth = refl;
    sixth = refl;
  };
  record_is = record-a;
}

the-second : Stands (roles_of role) lists sample 34 (Shared 1)
unfolding Stands roles_of
the-second = record {
  from_one = lit< tt;
  known = lit≤ tt;
  holder = record {
    tag = refl;
    within = lit≤ tt;
    header = refl;
    size = refl;
    bytes_word = refl;
    flags_word = refl;
    first = refl;
    second = refl;
    next = refl;
    names = refl;
    fifth = refl;
    sixth = refl;
  };
  record_is = record-a;
}

the-third : Stands (roles_of role) lists sample 58 (Shared 2)
unfolding Stands roles_of
the-third = record {
  from_one = lit< tt;
  known = lit≤ tt;
  holder = record {
    tag = refl;
    within = lit≤ tt;
    header = refl;
    size = refl;
    bytes_word = refl;
    flags_word = refl;
    first = refl;
    second = refl;
    next = refl;
    names = refl;
    fifth = refl;
    sixth = refl;
  };
  record_is = record-b;
}

the-fun : Stands (roles_of role) lists sample 82 (Fun 3 2 1 (Int (pos 4) ▹ end))
unfolding Stands RowStands all_hold roles_of
the-fun = (
  record {
    range = lit≤ tt;
    creator_range = lit< tt;
    tag = refl;
    within = lit≤ tt;
    header = refl;
    arity_word = refl;
    size = refl;
    creator_word = refl;
    record_is = record-c;
    first = refl;
    names = refl;
    next = refl;
    others = λ q from less. holds-there (λ x. roles_of role x 4) 23 4 q refl (omega (arith, from)) (omega (arith, less));
  },
  (inl (record { small = refl; word = refl }), tt),
)

the-other : Stands (roles_of role) lists sample 110 (Fun 3 2 1 (Int (pos 4) ▹ end))
unfolding Stands RowStands all_hold roles_of
the-other = (
  record {
    range = lit≤ tt;
    creator_range = lit< tt;
    tag = refl;
    within = lit≤ tt;
    header = refl;
    arity_word = refl;
    size = refl;
    creator_word = refl;
    record_is = record-c;
    first = refl;
    names = refl;
    next = refl;
    others = λ q from less. holds-there (λ x. roles_of role x 4) 30 4 q refl (omega (arith, from)) (omega (arith, less));
  },
  (inl (record { small = refl; word = refl }), tt),
)

all-stand : AllStand (roles_of role) lists sample roots the-trees
unfolding AllStand
all-stand = (the-first, (the-fun, (the-other, tt)))

-- What the roots reach.

abbrev known : List ℕ
known = 10 ∷ 82 ∷ 110 ∷ 79 ∷ []

root-known : (j : ℕ) → j < 3 → In (get_or roots j 0) known
root-known j less =
    let order : (j ≡ 0) ⊎ ((j ≡ 1) ⊎ (j ≡ 2)) = grind (arith, less) in
    let P : ℕ → Type 0 = λ x. In (get_or roots x 0) known in
    elim order [ inl e ↦ subst P (sym e) (inl refl) | inr (inl e) ↦ subst P (sym e) (inr (inl refl)) | inr (inr e) ↦ subst P (sym e) (inr (inr (inl refl))) ]

place-known : (q a : ℕ) → get_or sample a 0 ≡ 79 → q ≡ a → In (get_or sample q 0) known
place-known q a h e = let P : ℕ → Type 0 = λ x. In (get_or sample x 0) known in let Q : ℕ → Type 0 = λ x. In x known in subst P (sym e) (subst Q (sym h) (inr (inr (inr (inl refl)))))

part-known : (u k : ℕ) → In u known → IsPointer u → first_traced sample u ≤ k → k < object_words sample u → In (get_or sample (u / 4 + k) 0) known
part-known u k (inl e) t from less =
    let P : ℕ → Type 0 = λ x. first_traced sample x ≤ k in
    let Q : ℕ → Type 0 = λ x. k < object_words sample x in
    let f : first_traced sample 10 ≡ 6 = refl in
    let n : object_words sample 10 ≡ 6 = refl in
    absurd (omega (arith, subst P e from, subst Q e less, f, n))
part-known u k (inr (inl e)) t from less =
    let P : ℕ → Type 0 = λ x. first_traced sample x ≤ k in
    let Q : ℕ → Type 0 = λ x. k < object_words sample x in
    let f : first_traced sample 82 ≡ 6 = refl in
    let n : object_words sample 82 ≡ 7 = refl in
    place-known (u / 4 + k) 26 refl (omega (arith, e, subst P e from, subst Q e less, f, n))
part-known u k (inr (inr (inl e))) t from less =
    let P : ℕ → Type 0 = λ x. first_traced sample x ≤ k in
    let Q : ℕ → Type 0 = λ x. k < object_words sample x in
    let f : first_traced sample 110 ≡ 6 = refl in
    let n : object_words sample 110 ≡ 7 = refl in
    place-known (u / 4 + k) 33 refl (omega (arith, e, subst P e from, subst Q e less, f, n))
part-known u k (inr (inr (inr (inl e)))) t from less = absurd (omega (arith, e, t))
part-known u k (inr (inr (inr (inr i)))) t from less = absurd i

found : (v : ℕ) → Reach sample roots v → In v known
found v (root j w less e) = let P : ℕ → Type 0 = λ x. In x known in subst P (sym e) (root-known j less)
found v (part u k w r t from less e) = let P : ℕ → Type 0 = λ x. In x known in subst P (sym e) (part-known u k (found u r) t from less)

-- No word past the records has a role.

has-role : (a k : ℕ) → roles_of role a k ≡ true → a < 54
has-role a k h =
    let order : (a < 54) ⊎ (54 ≤ a) = grind arith in
    elim order [ inl near ↦ near | inr far ↦ absurd (none-there role a k (get_or_past roles a 0 far) h) ]

low-from : (b : Bool) → 64 ≤ low b
low-from true = lit≤ tt
low-from false = lit≤ tt

pointers-known : (v : ℕ) → In v known → IsPointer v → In v (10 ∷ 82 ∷ 110 ∷ [])
pointers-known v (inl e) t = inl e
pointers-known v (inr (inl e)) t = inr (inl e)
pointers-known v (inr (inr (inl e))) t = inr (inr (inl e))
pointers-known v (inr (inr (inr (inl e)))) t = absurd (omega (arith, e, t))
pointers-known v (inr (inr (inr (inr i)))) t = absurd i

fits-there : (b : Bool) → RoomFits plan b
unfolding size
fits-there true = record { each = []; all = λ w r l goes. absurd (true≢false (sym goes)); words = lit≤ tt }
fits-there false = record { each = 10 ∷ 82 ∷ 110 ∷ []; all = λ w r l goes. pointers-known w (found w r) l.pointer; words = lit≤ tt }

ready : Ready plan
ready = record {
  standing = all-stand;
  single = record { one = λ a j k h i. sym (role-at role a j h) ∙ role-at role a k i };
  clear = λ a k h b. inl (omega (arith, has-role a k h, low-from b));
  closed = λ v k r t stay from less l. true≢false (sym stay);
  rooms = inl (lit≤ tt);
  order = λ b. elim b as (λ c. low c ≤ high c) [ true ↦ lit≤ tt | false ↦ lit≤ tt ];
  inside = λ b. elim b as (λ c. high c ≤ length sample) [ true ↦ lit≤ tt | false ↦ lit≤ tt ];
  fits = fits-there;
}

-- The chain stands, and counts are namings.

pub link-of : (p : ℕ) → In p chain → IsLink (roles_of role) sample p
link-of p (inl e) = let P : ℕ → Type 0 = λ x. IsLink (roles_of role) sample x in subst P (sym e) (fun-link (roles_of role) lists sample 110 3 2 1 (Int (pos 4) ▹ end) the-other (lit< tt))
link-of p (inr (inl e)) = let P : ℕ → Type 0 = λ x. IsLink (roles_of role) sample x in subst P (sym e) (fun-link (roles_of role) lists sample 82 3 2 1 (Int (pos 4) ▹ end) the-fun (lit< tt))
link-of p (inr (inr (inl e))) = let P : ℕ → Type 0 = λ x. IsLink (roles_of role) sample x in subst P (sym e) (holder-link (roles_of role) lists sample 58 2 the-third (lit< tt))
link-of p (inr (inr (inr (inl e)))) = let P : ℕ → Type 0 = λ x. IsLink (roles_of role) sample x in subst P (sym e) (holder-link (roles_of role) lists sample 34 1 the-second (lit< tt))
link-of p (inr (inr (inr (inr (inl e))))) = let P : ℕ → Type 0 = λ x. IsLink (roles_of role) sample x in subst P (sym e) (holder-link (roles_of role) lists sample 10 1 the-first (lit< tt))
link-of p (inr (inr (inr (inr (inr i))))) = absurd i

first-test : ℕ → Bool
first-test q = if roles_of role q 8 then (q == 40) || ((q == 45) || (q == 50)) else true

pub record-place : (v n : ℕ) → IsRecord (roles_of role) sample v n → (v ≡ 40) ⊎ ((v ≡ 45) ⊎ (v ≡ 50))
unfolding all_hold first-test roles_of
record-place v n there =
    let f : roles_of role v 8 ≡ true = record-first (roles_of role) sample v n there in
    let t : first-test v ≡ true = holds-there first-test 0 54 v refl (omega arith) (omega (arith, has-role v 8 f)) in
    let P : Bool → Type 0 = λ b. (if b then (v == 40) || ((v == 45) || (v == 50)) else true) ≡ true in
    let here : ((v == 40) || ((v == 45) || (v == 50))) ≡ true = subst P f t in
    grind (arith, nat_tests, here)

counts-are : (v n : ℕ) → IsRecord (roles_of role) sample v n → count_in sample v ≡ naming sample v chain + naming sample v []
counts-are v n there =
    let P : ℕ → Type 0 = λ x. count_in sample x ≡ naming sample x chain + naming sample x [] in
    elim (record-place v n there) [ inl e ↦ subst P (sym e) refl | inr (inl e) ↦ subst P (sym e) refl | inr (inr e) ↦ subst P (sym e) refl ]

below-all : ℕ → List ℕ → Bool
below-all p [] = true
below-all p (o ∷ os) = nat_lt o p && below-all p os

none-in : (p : ℕ) (os : List ℕ) → below-all p os ≡ true → In p os → ⊥
unfolding below-all
none-in p [] h i = i
none-in p (o ∷ os) h (inl e) = let (this, rest) = and_parts (nat_lt o p) (below-all p os) h in grind (arith, nat_tests, this, e)
none-in p (o ∷ os) h (inr i) = let (this, rest) = and_parts (nat_lt o p) (below-all p os) h in none-in p os rest i

links : Links (roles_of role) sample 27 chain []
unfolding below-all
links = record {
  chain = (refl, (refl, (refl, (refl, (refl, refl)))));
  once = (none-in 27 (20 ∷ 14 ∷ 8 ∷ 2 ∷ []) refl, (none-in 20 (14 ∷ 8 ∷ 2 ∷ []) refl, (none-in 14 (8 ∷ 2 ∷ []) refl, (none-in 8 (2 ∷ []) refl, (none-in 2 [] refl, tt)))));
  each = link-of;
  beside = λ p i. absurd i;
  counts = counts-are;
}

-- The roles of the records remain.

remaining : ℕ → ℕ → Bool
remaining a k = nat_le 40 a && roles_of role a k

remaining-is : (a k : ℕ) → remaining a k ≡ true → (40 ≤ a) × (roles_of role a k ≡ true)
unfolding remaining
remaining-is a k h = let (this, rest) = and_parts (nat_le 40 a) (roles_of role a k) h in (grind (arith, nat_tests, this), rest)

is-remaining : (a k : ℕ) → 40 ≤ a → roles_of role a k ≡ true → remaining a k ≡ true
unfolding remaining
is-remaining a k far h = let this : nat_le 40 a ≡ true = grind (arith, nat_tests, far) in rw (this, h) refl

record-test : ℕ → Bool
record-test q = (role q == 0) || ((role q == 1) || ((role q == 3) || ((role q == 4) || (role q == 5))))

pub record-far : (a k : ℕ) → roles_of role a k ≡ true → (k ≡ 2) ⊎ (6 ≤ k) → 40 ≤ a
unfolding all_hold record-test
record-far a k h of =
    let order : (a < 40) ⊎ (40 ≤ a) = grind arith in
    elim order [
      | inr far ↦ far
      | inl near ↦ absurd
          (let t : record-test a ≡ true = holds-there record-test 0 40 a refl (omega arith) (omega (arith, near)) in
          let same : role a ≡ k = role-at role a k h in
          grind (arith, nat_tests, t, same, of))
    ]

remains : Remains plan remaining
remains = record {
  stays = λ v q k r t stay inside h. absurd (true≢false (sym stay));
  counts = λ a h. is-remaining a COUNT (record-far a COUNT h (inl refl)) h;
  records = λ a k past h. is-remaining a k (record-far a k h (inr past)) h;
}

chain-near : (o : ℕ) → In o chain → o ≤ 27
chain-near o (inl e) = omega (arith, e)
chain-near o (inr (inl e)) = omega (arith, e)
chain-near o (inr (inr (inl e))) = omega (arith, e)
chain-near o (inr (inr (inr (inl e)))) = omega (arith, e)
chain-near o (inr (inr (inr (inr (inl e))))) = omega (arith, e)
chain-near o (inr (inr (inr (inr (inr i))))) = absurd i

sweepable : Sweepable plan remaining chain []
sweepable = record {
  left = λ o a k inside from less h. omega (arith, chain-near o inside, less, (remaining-is a k h).0);
  kept = λ o a k inside from less h. absurd inside;
  still = λ o inside r. absurd inside;
  rooms = λ b. omega (arith, low-from b);
}

-- The memory that was laid out is this one, and nothing stays.

abbrev pub rooms-of : Stay → Room → Room → Moving
rooms-of stay aged young = record { stay = stay; from_space = record { start = 2; end = 34 }; mature = record { start = 0; end = 0 }; aged = aged; young = young }

none-mature : (q : ℕ) → in_span (record { start = 0; end = 0 }) q ≡ false
none-mature q = grind (arith, nat_tests)

pub begins-there : {E : Type 0} (r : Result (List ℕ) E) (m : List ℕ) (none : Stay) (aged young : Room) → r ≡ Ok m → IfOk r (λ x. x ≡ sample) → none.spans.items ≡ []
    → aged ≡ record { start = 64; top = 64; end = 64 } → young ≡ record { start = 66; top = 66; end = 100 } → CanStart plan m (rooms-of none aged young) roots
begins-there {E} r m none aged young e h n a y =
    let P : Result (List ℕ) E → Type 0 = λ x. IfOk x (λ z. z ≡ sample) in
    record {
      memory = sym (subst P e h);
      words = refl;
      ready = ready;
      agrees = record {
        stay = λ q. ap (λ xs. in_spans xs q) n;
        moves = λ q h. refl;
        mature = none-mature;
        aged_low = ap (λ z. z.start) a;
        aged_high = ap (λ z. z.end) a;
        young_low = ap (λ z. z.start) y;
        young_high = ap (λ z. z.end) y;
      };
      aged_empty = ap (λ z. z.top) a ∙ sym (ap (λ z. z.start) a);
      young_empty = ap (λ z. z.top) y ∙ sym (ap (λ z. z.start) y);
    }

high-to : (b : Bool) → high b ≤ 100
high-to true = lit≤ tt
high-to false = lit≤ tt

-- The records that the chain's objects name.

abbrev three : List ℕ
three = 40 ∷ 45 ∷ 50 ∷ []

named-known : (o : ℕ) → In o chain → In (named sample o) three
named-known o (inl e) = let P : ℕ → Type 0 = λ x. In (named sample x) three in subst P (sym e) (inr (inr (inl refl)))
named-known o (inr (inl e)) = let P : ℕ → Type 0 = λ x. In (named sample x) three in subst P (sym e) (inr (inr (inl refl)))
named-known o (inr (inr (inl e))) = let P : ℕ → Type 0 = λ x. In (named sample x) three in subst P (sym e) (inr (inl refl))
named-known o (inr (inr (inr (inl e)))) = let P : ℕ → Type 0 = λ x. In (named sample x) three in subst P (sym e) (inl refl)
named-known o (inr (inr (inr (inr (inl e))))) = let P : ℕ → Type 0 = λ x. In (named sample x) three in subst P (sym e) (inl refl)
named-known o (inr (inr (inr (inr (inr i))))) = absurd i

record-known : (v : ℕ) → In v three → (n : ℕ) × IsRecord (roles_of role) sample v n
record-known v (inl e) = let P : ℕ → Type 0 = λ x. (n : ℕ) × IsRecord (roles_of role) sample x n in subst P (sym e) (5, inl (1, (1 ∷ 2 ∷ []), record-a, refl))
record-known v (inr (inl e)) = let P : ℕ → Type 0 = λ x. (n : ℕ) × IsRecord (roles_of role) sample x n in subst P (sym e) (5, inl (2, (3 ∷ []), record-b, refl))
record-known v (inr (inr (inl e))) = let P : ℕ → Type 0 = λ x. (n : ℕ) × IsRecord (roles_of role) sample x n in subst P (sym e) (4, inr (3, 2, record-c, refl))
record-known v (inr (inr (inr i))) = absurd i

-- What follows when the collection has ended.
module _ (m : List ℕ) (mv : Moving) (ws : List ℕ) (done : Ended plan m mv ws) where
  roles-after : HasRoles plan m remaining
  roles-after = has-roles plan ready m (top_of mv) done.collected remaining remains

  sweeps : Sweeping roles-after.test m 27 chain 0 [] 0 [] []
  sweeps = leaves-sweep plan m (top_of mv) remaining roles-after 27 chain [] ready done.collected remains sweepable links

  pub can-sweep : CanSweep m 27 5
  can-sweep = record { test = roles-after.test; single = roles-after.single; os = chain; further = []; number = refl; begins = sweeps }

  pub can-sweep-front : CanSweepFront m 27 5
  can-sweep-front = record { test = roles-after.test; single = roles-after.single; os = chain; to = 0; further = []; number = refl; begins = sweeps }

  pub can-deal : (mem : List ℕ) (front : FrontLeft) → ((c : ℕ → ℕ → Bool) (os : List ℕ) (to : ℕ) (further : List ℕ) → IsSingle c → length os ≡ 5
      → FrontSweeping c m 27 os to 0 [] 0 [] further → SweptFront c m mem os (turned (moved_of m os) []) further to front) → CanDeal mem front.left.first front.left.len front.rest
  can-deal mem front swept =
      let w : SweptFront roles-after.test m mem chain (turned (moved_of m chain) []) [] 0 front = swept roles-after.test chain 0 [] roles-after.single refl sweeps in
      record {
        test = roles-after.test;
        single = roles-after.single;
        os = turned (moved_of m chain) [];
        rest = [];
        further = [];
        number = sym w.whole.len;
        links = record { links = w.whole.links; chain = w.rest; once = tt; apart = λ p i j. j };
      }

  room : RecordsHaveRoom plan remaining (top_of mv) chain 100 128
  room = record {
    rooms = λ b. inl (omega (arith, done.collected.ends b, high-to b));
    clear = λ a k h. inl (omega (arith, has-role a k (remaining-is a k h).1));
    order = lit≤ tt;
    inside = lit≤ tt;
    each = 40 ∷ 45 ∷ 50 ∷ [];
    all = λ o inside r. named-known o inside;
    records = λ v inside. record-known v inside;
    words = lit≤ tt;
  }

  pub can-move-all : (mem : List ℕ) (left : Survivors) → ((c : ℕ → ℕ → Bool) (os further : List ℕ) → IsSingle c → length os ≡ 5 → Sweeping c m 27 os 0 [] 0 [] further
      → SweptWhole c m mem os (moved_of m os) further left) → AllRecordsCanMove mem left.first left.len 128
  can-move-all mem left swept =
      let w : SweptWhole roles-after.test m mem chain (moved_of m chain) [] left = swept roles-after.test chain [] roles-after.single refl sweeps in
      record {
        test = roles-after.test;
        os = moved_of m chain;
        low = 100;
        number = sym w.len;
        can = can-move plan m (top_of mv) remaining roles-after 27 chain ready done.collected sweepable links mem (moved_of m chain) left w (λ q i. i) 100 128 room;
      }
