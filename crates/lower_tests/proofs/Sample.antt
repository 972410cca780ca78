-- A memory laid out by hand, with an object of each kind: its words stand for trees.
use Rattle.std.proofs.Common.{◌≡◌, ℕ, ◌+◌, ◌≤◌, List, [], ◌∷◌, length, refl, sym, subst, inl, inr, pos, lit≤, lit<}
use Rattle.lower_tests.specs.Sample.{sample}
use Rattle.plain_term.specs.Tree.{Tree}
use Rattle.plain_term.specs.Tree.Tree.{Int, Atom, Ref, Nil, Cons, Tuple, Map, Bin, Shared, Part, Fun}
use Rattle.plain_term.specs.Tree.Trees.{end, ◌▹◌}
use Rattle.plain_term.specs.Tree.Pairs.{stop, pair}
use Rattle.term_words.specs.Role.{always}
use Rattle.term_words.specs.Object.{IsObject}
use Rattle.term_words.specs.Stands.{Stands, RowStands, KeysStand, ValuesStand, IsTerm}
use Rattle.term_words.proofs.Placing.Tried.{all_hold, byte_lies, bytes-lie}

pub lists : List (List ℕ)
lists = (1 ∷ 2 ∷ []) ∷ []

object : (p n : ℕ) → p + n ≤ length sample → IsObject always sample p n
object p n inside = record { within = inside; first = refl; others = λ q above below. refl }

pub the-list : Stands always lists sample 5 (Cons (Int (pos 1)) Nil)
unfolding Stands
the-list = (record { tag = refl; object = object 1 2 (lit≤ tt) }, inl (record { small = refl; word = refl }), refl)

pub the-tuple : Stands always lists sample 14 (Tuple (Atom 5 ▹ Cons (Int (pos 1)) Nil ▹ end))
unfolding Stands RowStands
the-tuple = (record { range = lit≤ tt; boxed = record { tag = refl; header = refl; object = object 3 3 (lit≤ tt) } }, (record { range = lit< tt; word = refl }, (the-list, tt)))

pub the-empty : Stands always lists sample 190 (Tuple end)
unfolding Stands RowStands
the-empty = (record { range = lit≤ tt; boxed = record { tag = refl; header = refl; object = object 47 1 (lit≤ tt) } }, tt)

pub the-bytes : Stands always lists sample 26 (Bin (7 ∷ 8 ∷ 9 ∷ []))
unfolding Stands all_hold byte_lies
the-bytes = record { range = lit≤ tt; boxed = record { tag = refl; header = refl; object = object 6 3 (lit≤ tt) }; size = refl; content = bytes-lie sample 8 (7 ∷ 8 ∷ 9 ∷ []) refl }

pub the-shared : Stands always lists sample 58 (Shared 1)
unfolding Stands all_hold byte_lies lists
the-shared = record {
  from_one = lit< tt;
  known = lit≤ tt;
  holder = record {
    tag = refl;
    within = lit≤ tt;
    header = refl;
    size = refl;
    bytes_word = refl;
    flags_word = refl;
    first = refl;
    second = refl;
    next = refl;
    names = refl;
    fifth = refl;
    sixth = refl;
  };
  record_is = record {
    within = lit≤ tt;
    header = refl;
    owner = refl;
    size = refl;
    content = bytes-lie sample 13 (1 ∷ 2 ∷ []) refl;
    first = refl;
    second = refl;
    counted = refl;
    others = λ q from below. refl;
  };
}

pub the-part : Stands always lists sample 82 (Part (Shared 1) 1 1)
unfolding Stands lists
the-part = (record { boxed = record { tag = refl; header = refl; object = object 20 5 (lit≤ tt) }; size = refl; start = refl; bits = refl; inside = lit≤ tt }, tt, the-shared)

pub the-fun : Stands always lists sample 118 (Fun 3 2 1 (Int (pos 4) ▹ end))
unfolding Stands RowStands
the-fun = (
  record {
    range = lit≤ tt;
    creator_range = lit< tt;
    tag = refl;
    within = lit≤ tt;
    header = refl;
    arity_word = refl;
    size = refl;
    creator_word = refl;
    record_is = record { named = lit< tt; arity_range = lit≤ tt; within = lit≤ tt; header = refl; owner = refl; zero_word = refl; first = refl; second = refl; counted = refl; fourth = refl };
    first = refl;
    names = refl;
    next = refl;
    others = λ q above below. refl;
  },
  (inl (record { small = refl; word = refl }), tt),
)

pub the-map : Stands always lists sample 154 (Map (pair (Atom 1) (Int (pos 9)) stop))
unfolding Stands KeysStand ValuesStand
the-map = (
  record {
    range = lit≤ tt;
    boxed = record { tag = refl; header = refl; object = object 38 4 (lit≤ tt) };
    count = refl;
    keys = record { range = lit≤ tt; boxed = record { tag = refl; header = refl; object = object 36 2 (lit≤ tt) } };
  },
  (record { range = lit< tt; word = refl }, tt),
  (inl (record { small = refl; word = refl }), tt),
)

pub the-reference : Stands always lists sample 170 (Ref 1 7)
unfolding Stands
the-reference = record { boxed = record { tag = refl; header = refl; object = object 42 3 (lit≤ tt) }; number = refl; count = refl }

pub the-big : Stands always lists sample 182 (Int (pos 9223372036854775808))
unfolding Stands
the-big = inr (inl (record { big = refl; boxed = record { tag = refl; header = refl; object = object 45 2 (lit≤ tt) }; digit = refl; range = lit< tt }))

pub the-wide : Stands always lists sample 194 (Int (pos 18446744073709551616))
unfolding Stands
the-wide = inr (inr (record { boxed = record { tag = refl; header = refl; object = object 48 3 (lit≤ tt) }; low = lit< tt; high = lit< tt; digits = refl; range = lit< tt }))

term : (w : ℕ) (t : Tree) → Stands always lists sample w t → IsTerm sample w
term w t s = record { shared = lists; tree = t; standing = s }

-- The words of the memory that stand for trees.

pub list-term : IsTerm sample 5
list-term = term 5 (Cons (Int (pos 1)) Nil) the-list

pub tuple-term : IsTerm sample 14
tuple-term = term 14 (Tuple (Atom 5 ▹ Cons (Int (pos 1)) Nil ▹ end)) the-tuple

pub empty-term : IsTerm sample 190
empty-term = term 190 (Tuple end) the-empty

pub bytes-term : IsTerm sample 26
bytes-term = term 26 (Bin (7 ∷ 8 ∷ 9 ∷ [])) the-bytes

pub shared-term : IsTerm sample 58
shared-term = term 58 (Shared 1) the-shared

pub part-term : IsTerm sample 82
part-term = term 82 (Part (Shared 1) 1 1) the-part

pub fun-term : IsTerm sample 118
fun-term = term 118 (Fun 3 2 1 (Int (pos 4) ▹ end)) the-fun

pub map-term : IsTerm sample 154
map-term = term 154 (Map (pair (Atom 1) (Int (pos 9)) stop)) the-map

pub reference-term : IsTerm sample 170
reference-term = term 170 (Ref 1 7) the-reference

pub big-term : IsTerm sample 182
big-term = term 182 (Int (pos 9223372036854775808)) the-big

pub wide-term : IsTerm sample 194
wide-term = term 194 (Int (pos 18446744073709551616)) the-wide

-- So in each memory of these words.
pub in-sample : (m : List ℕ) (w : ℕ) → m ≡ sample → IsTerm sample w → IsTerm m w
in-sample m w same t = let P : List ℕ → Type 0 = λ x. IsTerm x w in subst P (sym same) t
