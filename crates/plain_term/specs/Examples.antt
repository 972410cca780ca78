-- Worked values of the definitions.
use Rattle.std.specs.Prelude.{◌≡◌, pos, negsuc, true, false, [], ◌∷◌, codes, refl, replicate}
use Rattle.std.specs.Fmt.{digits}
use Rattle.plain_term.specs.Tree.{Tree}
use Rattle.plain_term.specs.Tree.Tree.{Int, Atom, Pid, Ref, Nil, Cons, Tuple, Map, Bin, Shared, Part, Fun}
use Rattle.plain_term.specs.Tree.Trees.{end, ◌▹◌}
use Rattle.plain_term.specs.Tree.Pairs.{stop, pair}
use Rattle.std.specs.declared.cmp.Ordering.TheVariants.{Less, Equal}
use Rattle.plain_term.specs.Measures.{nodes, depth, flat}
use Rattle.plain_term.specs.Order.{order}
use Rattle.plain_term.specs.Proper.{is_proper}
use Rattle.plain_term.specs.Text.{text}

-- {1,[2]}
abbrev pub one_list_of_two : Tree
one_list_of_two = Tuple (Int (pos 1) ▹ Cons (Int (pos 2)) Nil ▹ end)

pub one_list_of_two-nodes : nodes [] one_list_of_two ≡ 5
one_list_of_two-nodes = refl

pub one_list_of_two-depth : depth one_list_of_two ≡ 2
one_list_of_two-depth = refl

pub one_list_of_two-flat : flat one_list_of_two ≡ 5
one_list_of_two-flat = refl

pub one_list_of_two-text : text [] [] one_list_of_two ≡ codes "{1,[2]}"
unfolding digits
one_list_of_two-text = refl

-- {}
pub empty_tuple-depth : depth (Tuple end) ≡ 1
empty_tuple-depth = refl

-- A binary of 64 bytes lies on the heap, one of 65 bytes is shared; a part of it counts its base.
pub heap_binary-flat : flat (Bin (replicate 64 7)) ≡ 10
heap_binary-flat = refl

pub heap_binary-nodes : nodes [] (Bin (replicate 64 7)) ≡ 2
heap_binary-nodes = refl

pub shared_binary-flat : flat (Shared 1) ≡ 6
shared_binary-flat = refl

pub shared_binary-nodes : nodes (replicate 65 7 ∷ []) (Shared 1) ≡ 3
shared_binary-nodes = refl

pub part-flat : flat (Part (Shared 1) 98 2) ≡ 11
part-flat = refl

pub part-text : text [] (replicate 100 9 ∷ []) (Part (Shared 1) 98 2) ≡ codes "<<9,9>>"
unfolding digits
part-text = refl

-- The greatest small integer, the least big one, and the least of two digits, with their negatives.
pub greatest_small-flat : flat (Int (pos 576460752303423487)) ≡ 0
greatest_small-flat = refl

pub least_big-flat : flat (Int (pos 576460752303423488)) ≡ 2
least_big-flat = refl

pub least_small-flat : flat (Int (negsuc 576460752303423487)) ≡ 0
least_small-flat = refl

pub negative_big-flat : flat (Int (negsuc 576460752303423488)) ≡ 2
negative_big-flat = refl

pub two_digits-flat : flat (Int (pos 18446744073709551616)) ≡ 3
two_digits-flat = refl

pub one_digit-flat : flat (Int (negsuc 18446744073709551614)) ≡ 2
one_digit-flat = refl

-- #{1=>2,3=>4}
abbrev pub two_pairs : Tree
two_pairs = Map (pair (Int (pos 1)) (Int (pos 2)) (pair (Int (pos 3)) (Int (pos 4)) stop))

pub two_pairs-flat : flat two_pairs ≡ 8
two_pairs-flat = refl

pub two_pairs-nodes : nodes [] two_pairs ≡ 5
two_pairs-nodes = refl

pub two_pairs-text : text [] [] two_pairs ≡ codes "#{1=>2,3=>4}"
unfolding digits
two_pairs-text = refl

-- #Fun<f/2> with two places
abbrev pub two_places : Tree
two_places = Fun 0 2 1 (Nil ▹ Nil ▹ end)

pub two_places-flat : flat two_places ≡ 8
two_places-flat = refl

pub two_places-text : text (codes "f" ∷ []) [] two_places ≡ codes "#Fun<f/2>"
unfolding digits
two_places-text = refl

-- [1,2|x]
pub improper_list-text : text (codes "x" ∷ []) [] (Cons (Int (pos 1)) (Cons (Int (pos 2)) (Atom 0))) ≡ codes "[1,2|x]"
unfolding digits
improper_list-text = refl

-- A pid and a reference of the first process.
pub pid-text : text [] [] (Pid 1) ≡ codes "<0.1.0>"
unfolding digits
pid-text = refl

pub reference-text : text [] [] (Ref 1 2) ≡ codes "#Ref<0.1.2>"
unfolding digits
reference-text = refl

-- The keys of a map rise.
pub two_pairs-proper : is_proper [] [] two_pairs ≡ true
two_pairs-proper = refl

pub equal_keys-improper : is_proper [] [] (Map (pair Nil Nil (pair Nil Nil stop))) ≡ false
equal_keys-improper = refl

-- Nil stands before lists, and a list before a binary.
pub nil-before_lists : order [] [] Nil (Cons Nil Nil) ≡ Less
nil-before_lists = refl

pub sizes-before_parts : order [] [] (Tuple (Nil ▹ end)) (Tuple (Int (pos 0) ▹ Int (pos 0) ▹ end)) ≡ Less
sizes-before_parts = refl

pub keys-before_values : order [] [] (Map (pair (Int (pos 1)) Nil stop)) (Map (pair (Int (pos 2)) (Int (pos 0)) stop)) ≡ Less
keys-before_values = refl

pub part-equals_bytes : order [] (replicate 100 9 ∷ []) (Part (Shared 1) 98 2) (Bin (9 ∷ 9 ∷ [])) ≡ Equal
part-equals_bytes = refl
