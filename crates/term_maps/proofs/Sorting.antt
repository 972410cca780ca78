-- The first pairs are sorted, and the others are left.
use Rattle.std.proofs.Common.{◌≡◌, ℕ, zero, suc, ◌+◌, ◌*◌, ◌<◌, ◌≤◌, Bool, true, false, List, [], length, nat_lt, Some, None, refl, sym, ◌∙◌, subst, ap, arith}
use Rattle.std.proofs.lemmas.Bool.{le-ltb, lt-ltb, or_parts}
use Rattle.plain_term.specs.Tree.{Pairs, pairs_len}
use Rattle.word_mem.specs.declared.ranges.Room.{Room}
use Rattle.plain_term.specs.Tree.Tree.{Map}
use Rattle.plain_term.specs.Tree.Trees.{end}
use Rattle.plain_term.specs.Tree.Pairs.{stop, pair}
use Rattle.plain_term.specs.Beyond.{is_beyond}
use Rattle.plain_term.specs.InOrder.{put_pair, put_all, in_order}
use Rattle.plain_term.proofs.Putting.{all-grows}
use Rattle.term_tags.specs.declared.layouts.TheConstants.{MOST_KEYS}
use Rattle.term_tags.specs.Words.{boxed_word}
use Rattle.term_words.specs.Stands.{Stands, AllStand}
use Rattle.term_words.specs.Kept.{Keeps}
use Rattle.term_build.specs.Taken.{Taken, IsFree, of_map}
use Rattle.term_build.specs.Clear.{Uses}
use Rattle.term_build.specs.Grows.{Built}
use Rattle.term_maps.specs.Stops.{has_beyond, why_not}
use Rattle.term_maps.specs.Spots.{SortedStand}
use Rattle.term_maps.specs.Given.{IsSorted, MapIsMade}
use Rattle.term_maps.specs.declared.sorted.Sorted.{Sorted}
use Rattle.term_maps.specs.declared.maps.MapStop.TheVariants as why
use Rattle.term_maps.proofs.Left.{pairs_drop, Next}
use Rattle.term_maps.proofs.Putting.{put-within}
use Rattle.term_maps.proofs.Compares.{keys-many}

-- The words stand for the first i of the given pairs, in order.
pub record Sorting (c : ℕ → ℕ → Bool) (names shared : List (List ℕ)) (mem : List ℕ) (given : Pairs) (i : ℕ) (s : Sorted) : Type 0 where
  pub now : Pairs
  pub stand : SortedStand c shared mem s now
  pub within : has_beyond shared now ≡ false
  pub rest : put_all names shared now (pairs_drop i given) ≡ in_order names shared given

-- None is sorted at first.
pub sorting-begins : (c : ℕ → ℕ → Bool) (names shared : List (List ℕ)) (mem : List ℕ) (given : Pairs) (s : Sorted) → s.keys.items ≡ [] → s.values.items ≡ [] → Sorting c names shared mem given 0 s
unfolding AllStand
sorting-begins c names shared mem given s no_keys no_values =
    let P : List ℕ → Type 0 = λ ws. AllStand c shared mem ws end in record {
      now = stop;
      stand = record { keys = subst P (sym no_keys) tt; values = subst P (sym no_values) tt };
      within = refl;
      rest = refl;
    }

-- Pairs that are left have no key beyond the walk limit where none has one.
left-within : (shared : List (List ℕ)) (given : Pairs) (i : ℕ) → has_beyond shared given ≡ false → has_beyond shared (pairs_drop i given) ≡ false
left-within shared given zero h = h
left-within shared stop (suc i) h = refl
left-within shared (pair k v ps) (suc i) h = left-within shared ps i (or_parts (is_beyond shared k) (has_beyond shared ps) h).1

pub next-within : (c : ℕ → ℕ → Bool) (shared : List (List ℕ)) (mem : List ℕ) (given : Pairs) (i : ℕ) (p : ℕ × ℕ) (n : Next c shared mem p i given) → has_beyond shared given ≡ false
    → is_beyond shared n.key ≡ false
next-within c shared mem given i p n h =
    (or_parts (is_beyond shared n.key) (has_beyond shared (pairs_drop (i + 1) given)) (sym (ap (has_beyond shared) n.left) ∙ left-within shared given i h)).0

-- What is left after the next pair is put.
rest-after : (c : ℕ → ℕ → Bool) (names shared : List (List ℕ)) (mem : List ℕ) (given : Pairs) (i : ℕ) (p : ℕ × ℕ) (s : Sorted) (g : Sorting c names shared mem given i s)
    (n : Next c shared mem p i given)
    → put_all names shared (put_pair names shared n.key n.value g.now) (pairs_drop (i + 1) given) ≡ in_order names shared given
rest-after c names shared mem given i p s g n = sym (ap (put_all names shared g.now) n.left) ∙ g.rest

pub sorting-goes : (c : ℕ → ℕ → Bool) (names shared : List (List ℕ)) (mem : List ℕ) (given : Pairs) (i : ℕ) (p : ℕ × ℕ) (s t : Sorted) (g : Sorting c names shared mem given i s)
    (n : Next c shared mem p i given)
    → has_beyond shared given ≡ false → SortedStand c shared mem t (put_pair names shared n.key n.value g.now) → Sorting c names shared mem given (i + 1) t
sorting-goes c names shared mem given i p s t g n h put = record {
  now = put_pair names shared n.key n.value g.now;
  stand = put;
  within = put-within names shared n.key n.value g.now (next-within c shared mem given i p n h) g.within;
  rest = rest-after c names shared mem given i p s g n;
}

-- A key too many is one of the whole.
pub sorting-stops : (c : ℕ → ℕ → Bool) (names shared : List (List ℕ)) (mem : List ℕ) (given : Pairs) (i : ℕ) (p : ℕ × ℕ) (s : Sorted) (g : Sorting c names shared mem given i s)
    (n : Next c shared mem p i given)
    → has_beyond shared given ≡ false → MOST_KEYS < pairs_len (put_pair names shared n.key n.value g.now) → why_not names shared given ≡ Some why.Size
sorting-stops c names shared mem given i p s g n h many =
    let more : pairs_len (put_pair names shared n.key n.value g.now) ≤ pairs_len (put_all names shared (put_pair names shared n.key n.value g.now) (pairs_drop (i + 1) given)) =
    all-grows names shared (put_pair names shared n.key n.value g.now) (pairs_drop (i + 1) given) in
    let same : pairs_len (put_all names shared (put_pair names shared n.key n.value g.now) (pairs_drop (i + 1) given)) ≡ pairs_len (in_order names shared given) =
    ap pairs_len (rest-after c names shared mem given i p s g n) in
    let large : nat_lt MOST_KEYS (pairs_len (in_order names shared given)) ≡ true = lt-ltb MOST_KEYS (pairs_len (in_order names shared given)) (omega (arith, many, more, same)) in
    rw (h, large) refl

-- All are sorted where none is left.
pub sorting-ends : (c : ℕ → ℕ → Bool) (names shared : List (List ℕ)) (mem : List ℕ) (given : Pairs) (i : ℕ) (s : Sorted) → Sorting c names shared mem given i s → pairs_drop i given ≡ stop
    → has_beyond shared given ≡ false → length s.keys.items ≤ MOST_KEYS → IsSorted c names shared mem given s
sorting-ends c names shared mem given i s g ended h few =
    let all : g.now ≡ in_order names shared given = sym (ap (put_all names shared g.now) ended) ∙ g.rest in
    let P : Pairs → Type 0 = λ ps. SortedStand c shared mem s ps in
    let pairs : SortedStand c shared mem s (in_order names shared given) = subst P all g.stand in
    let fits : nat_lt MOST_KEYS (pairs_len (in_order names shared given)) ≡ false =
    le-ltb MOST_KEYS (pairs_len (in_order names shared given)) (omega (arith, few, keys-many c shared mem s.keys.items (in_order names shared given) pairs.keys)) in
    record { pairs = pairs; none = rw (h, fits) refl }

-- The map is made where it is made of as many keys.
pub is-made : (c : ℕ → ℕ → Bool) (names shared : List (List ℕ)) (given : Pairs) (old new : Room) (mem mem2 : List ℕ) (w n : ℕ) → n ≡ pairs_len (in_order names shared given)
    → why_not names shared given ≡ None
    → Uses (4 + 2 * n) old new mem mem2 → w ≡ boxed_word (old.top + (1 + n))
    → ((d : ℕ → ℕ → Bool) → Taken (of_map n) c d old.top (4 + 2 * n) → Stands d shared mem2 w (Map (in_order names shared given)))
    → ((roles : ℕ → ℕ) (d : ℕ → ℕ → Bool) → Taken roles c d old.top (4 + 2 * n) → Keeps c d mem mem2)
    → (IsFree c old.top (old.top + (4 + 2 * n)) → Built c old.top (4 + 2 * n) mem mem2 shared w (Map (in_order names shared given))) → MapIsMade c names shared given old new mem mem2 w
is-made c names shared given old new mem mem2 w n many none uses place made kept built =
    let P : ℕ → Type 0 = λ x. Uses (4 + 2 * x) old new mem mem2 in
    let Q : ℕ → Type 0 = λ x. w ≡ boxed_word (old.top + (1 + x)) in
    let R : ℕ → Type 0 = λ x. (d : ℕ → ℕ → Bool) → Taken (of_map x) c d old.top (4 + 2 * x) → Stands d shared mem2 w (Map (in_order names shared given)) in
    let S : ℕ → Type 0 = λ x. (roles : ℕ → ℕ) (d : ℕ → ℕ → Bool) → Taken roles c d old.top (4 + 2 * x) → Keeps c d mem mem2 in
    let T : ℕ → Type 0 = λ x. IsFree c old.top (old.top + (4 + 2 * x)) → Built c old.top (4 + 2 * x) mem mem2 shared w (Map (in_order names shared given)) in
    record { none = none; uses = subst P many uses; place = subst Q many place; made = subst R many made; kept = subst S many kept; built = subst T many built }
