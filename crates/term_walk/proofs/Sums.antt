-- What a walk has counted, and what is left to count.
use Rattle.std.proofs.Common.{◌≡◌, ℕ, ◌+◌, ◌*◌, ◌/◌, ◌^◌, ◌<◌, ◌≤◌, nat_lt, if◌then◌else◌, Bool, false, List, [], length, get_or, refl, sym, ◌∙◌, ap, ap₂, subst, arith, inl, inr, ℤ}
use Rattle.std.proofs.lemmas.Bool.{le-ltb, lt-ltb, or_right, or_left, or_from, cond-true, cond-false}
use Rattle.plain_term.specs.Tree.{Tree, Trees, Pairs, trees_len, pairs_len, trees_append, keys_of, values_of}
use Rattle.plain_term.specs.Tree.Tree.{Int, Atom, Pid, Ref, Nil, Cons, Tuple, Map, Bin, Shared, Part, Fun}
use Rattle.plain_term.specs.Tree.Trees.{end, ◌▹◌}
use Rattle.plain_term.specs.Tree.Pairs.{stop, pair}
use Rattle.plain_term.specs.Measures.{is_small, magnitude, int_flat, nodes, nodes_of_all, nodes_of_pairs, depth, flat, flat_of_all}
use Rattle.plain_term.specs.Bytes.{bytes_of}
use Rattle.plain_term.specs.Beyond.{node_limit, depth_limit, is_beyond}
use Rattle.plain_term.proofs.ListLemmas.{flat_of_all-append}
use Rattle.term_words.specs.Role.{always}
use Rattle.term_words.specs.Stands.{Stands, IsTerm}
use Rattle.term_words.proofs.Reaching.Reached.{pairs-flat}
use Rattle.term_read.specs.Look.{HasDigits, IsSeen, Sees}
use Rattle.term_read.specs.declared.looks.Digits.{Digits}
use Rattle.term_read.specs.declared.looks.Look.{Look}
use Rattle.term_read.specs.declared.looks.Look.TheVariants as look
use Rattle.term_walk.specs.declared.levels.Rest.{Rest}
use Rattle.term_walk.specs.declared.levels.Further.{Further}
use Rattle.term_walk.specs.declared.levels.Further.TheVariants as further
use Rattle.term_walk.specs.declared.measured.Measured.TheVariants.{Within, Beyond}
use Rattle.term_walk.specs.Left.{AreLeft, left_of, walk_parts, CanGo, WalkGoes}
use Rattle.term_walk.specs.Weights.{nodes_in, HasFlat}
use Rattle.term_walk.specs.Measured.{measured, Measures, Counting, Counts}

-- The sums of two lists one after the other, and of pairs as two rows.

pub nodes-append : (shared : List (List ℕ)) (ts us : Trees) → nodes_of_all shared (trees_append ts us) ≡ nodes_of_all shared ts + nodes_of_all shared us
nodes-append shared end us = omega arith
nodes-append shared (t ▹ ts) us = omega (arith, nodes-append shared ts us)

pub nodes-rows : (shared : List (List ℕ)) (ps : Pairs) → nodes_of_pairs shared ps ≡ nodes_of_all shared (keys_of ps) + nodes_of_all shared (values_of ps)
nodes-rows shared stop = refl
nodes-rows shared (pair k v ps) = omega (arith, nodes-rows shared ps)

-- A tree counts what its word counts, and its parts.

pub nodes-own : (c : ℕ → ℕ → Bool) (shared : List (List ℕ)) (mem : List ℕ) (w : ℕ) (now : Tree) (l : Look) → IsSeen c shared mem w now l
    → nodes shared now ≡ nodes_in l + nodes_of_all shared (walk_parts now)
nodes-own c shared mem w (Int i) l (inl (small, e)) = rw e refl
nodes-own c shared mem w (Int i) l (inr (d, has, e)) = rw e refl
nodes-own c shared mem w (Atom k) l e = rw e refl
nodes-own c shared mem w (Pid n) l e = rw e refl
nodes-own c shared mem w (Ref n k) l e = rw e refl
nodes-own c shared mem w Nil l e = rw e refl
nodes-own c shared mem w (Cons h t) l (e, within, sh, st) = rw e (omega arith)
nodes-own c shared mem w (Tuple ts) l (e, within, row) = rw e refl
nodes-own c shared mem w (Map ps) l (e, keys, values, ks, vs) = rw e (omega (arith, nodes-rows shared ps, nodes-append shared (keys_of ps) (values_of ps)))
nodes-own c shared mem w (Fun name arity creator env) l (e, within, row) = rw e refl
nodes-own c shared mem w (Bin bytes) l (e, from) = rw e (omega arith)
nodes-own c shared mem w (Shared id) l (e, from) = rw e (omega arith)
nodes-own c shared mem w (Part base offset len) l (v, e, sb, size, from) = rw e (omega (arith, size))

right-zero : (a n : ℕ) → a ≡ n → a ≡ n + 0
right-zero a n e = omega (arith, e)

big-flat : (i : ℤ) (d : Digits) → HasDigits i d → int_flat i ≡ (if nat_lt (d.low + d.high * 2 ^ 64) (2 ^ 64) then 2 else 3)
big-flat i d has =
    cond-false (is_small i) 0 (if nat_lt (magnitude i) (2 ^ 64) then 2 else 3) has.big ∙ ap (λ z. if nat_lt z (2 ^ 64) then 2 else 3) (sym has.digits)

has-flat : (mem : List ℕ) (l m : Look) (n : ℕ) → l ≡ m → HasFlat mem l n → HasFlat mem m n
has-flat mem l m n e h = let P : Look → Type 0 = λ z. HasFlat mem z n in subst P e h

pub flat-own : (c : ℕ → ℕ → Bool) (shared : List (List ℕ)) (mem : List ℕ) (w : ℕ) (now : Tree) (l : Look) (n : ℕ) → Stands c shared mem w now → IsSeen c shared mem w now l → HasFlat mem l n
    → flat now ≡ n + flat_of_all (walk_parts now)
unfolding Stands
flat-own c shared mem w (Int i) l n s (inl (small, e)) h = right-zero (int_flat i) n (cond-true (is_small i) 0 (if nat_lt (magnitude i) (2 ^ 64) then 2 else 3) small
    ∙ sym (has-flat mem l (look.Small i) n e h))
flat-own c shared mem w (Int i) l n s (inr (d, has, e)) h = right-zero (int_flat i) n (big-flat i d has ∙ sym (has-flat mem l (look.Big d) n e h))
flat-own c shared mem w (Atom k) l n s e h = right-zero 0 n (sym (has-flat mem l (look.Atom k) n e h))
flat-own c shared mem w (Pid k) l n s e h = right-zero 0 n (sym (has-flat mem l (look.Pid k) n e h))
flat-own c shared mem w (Ref i k) l n s e h = right-zero 3 n (sym (has-flat mem l (look.Ref i k) n e h))
flat-own c shared mem w Nil l n s e h = right-zero 0 n (sym (has-flat mem l look.Nil n e h))
flat-own c shared mem w (Cons x y) l n s (e, within, sx, sy) h = let k : n ≡ 2 = has-flat mem l (look.Cons (w / 4)) n e h in omega (arith, k)
flat-own c shared mem w (Tuple ts) l n s (e, within, row) h =
    let k : n ≡ 1 + trees_len ts = has-flat mem l (look.Tuple (record { first = w / 4 + 1; len = trees_len ts })) n e h in
    omega (arith, k)
flat-own c shared mem w (Map ps) l n s (e, keys, values, ks, vs) h =
    let k : n ≡ 4 + 2 * pairs_len ps = has-flat mem l (look.Map (record { keys = get_or mem (w / 4 + 2) 0 / 4 + 1; values = w / 4 + 3; len = pairs_len ps })) n e h in
    omega (arith, k, pairs-flat ps, flat_of_all-append (keys_of ps) (values_of ps))
flat-own c shared mem w (Fun name arity creator env) l n s (e, within, row) h =
    let k : n ≡ 6 + trees_len env = has-flat mem l (look.Fun (record { name = name; arity = arity; creator = creator; env = record { first = w / 4 + 6; len = trees_len env } })) n e h in
    omega (arith, k)
flat-own c shared mem w (Bin bytes) l n s (e, from) h = right-zero (flat (Bin bytes)) n (sym (has-flat mem l (look.Heap (record { first = w / 4 + 2; start = 0; len = length bytes })) n e h))
flat-own c shared mem w (Shared id) l n s (e, from) h =
    right-zero 6 n (sym (has-flat mem l (look.Holder (record { first = get_or mem (w / 4 + 3) 0 + 4; start = 0; len = length (bytes_of shared (Shared id)) })) n e h))
flat-own c shared mem w (Part base offset len) l n (o, is, s) (v, e, sb, size, from) h =
    right-zero (flat (Part base offset len)) n (sym (has-flat mem l (look.Part (record { base = get_or mem (w / 4 + 4) 0; bytes = record { first = v; start = offset; len = len } })) n e h c shared
    base s is))

-- A walk begins with nothing counted.

pub counts-first : (mem : List ℕ) (w : ℕ) (levels : List Rest) → levels ≡ [] → Counts mem w w levels 0 0
counts-first mem w levels e =
    let P : List Rest → Type 0 = λ z. Counts mem w w z 0 0 in
    subst P (sym e) (λ c shared t s. record { now = t; rests = []; standing = s; left = tt; few = omega arith; nodes_are = omega arith; flat_is = omega arith; depth_is = omega arith })

-- A step counts the word.

count-on : (most : ℕ) (c : ℕ → ℕ → Bool) (shared : List (List ℕ)) (mem : List ℕ) (t : Tree) (word next : ℕ) (levels new : List Rest) (l : Look) (seen words n : ℕ)
    → (k : Counting c shared mem t word levels seen words) → IsSeen c shared mem word k.now l → HasFlat mem l n → WalkGoes most c shared mem levels k.now k.rests (further.Word next) new
    → Counting c shared mem t next new (seen + nodes_in l) (words + n)
count-on most c shared mem t word next levels new l seen words n k sees has g = record {
  now = g.now;
  rests = g.rests;
  standing = g.standing;
  left = g.left;
  few = g.few;
  nodes_are = omega (arith, k.nodes_are, nodes-own c shared mem word k.now l sees, nodes-append shared (walk_parts k.now) (left_of k.rests), ap (nodes_of_all shared) g.order);
  flat_is = omega (arith, k.flat_is, flat-own c shared mem word k.now l n k.standing sees has, flat_of_all-append (walk_parts k.now) (left_of k.rests), ap flat_of_all g.order);
  depth_is = k.depth_is ∙ g.depths;
}

abbrev pub Leads : (most : ℕ) → List ℕ → List Rest → Look → Further → List Rest → Type 0
Leads most mem levels l result new = (c : ℕ → ℕ → Bool) (shared : List (List ℕ)) (w : ℕ) (now : Tree) (rests : List Trees)
    → Stands c shared mem w now → IsSeen c shared mem w now l → AreLeft c shared mem levels rests → WalkGoes most c shared mem levels now rests result new

pub counts-on : (most : ℕ) (mem : List ℕ) (first word next : ℕ) (levels new : List Rest) (l : Look) (seen words n total flats : ℕ) → Counts mem first word levels seen words → Sees mem word l
    → HasFlat mem l n
    → Leads most mem levels l (further.Word next) new → total ≡ seen + nodes_in l → flats ≡ words + n → Counts mem first next new total flats
counts-on most mem first word next levels new l seen words n total flats k sees has g e f =
    let P : ℕ → Type 0 = λ z. Counts mem first next new z flats in
    let Q : ℕ → Type 0 = λ z. Counts mem first next new (seen + nodes_in l) z in
    let here : Counts mem first next new (seen + nodes_in l) (words + n) = λ c shared t s.
    count-on most c shared mem t word next levels new l seen words n (k c shared t s) (sees.each c shared (k c shared t s).now (k c shared t s).standing) has
    (g c shared word (k c shared t s).now (k c shared t s).rests (k c shared t s).standing (sees.each c shared (k c shared t s).now (k c shared t s).standing) (k c shared t s).left) in
    subst P (sym e) (subst Q (sym f) here)

-- The answers.

pub is-within : (shared : List (List ℕ)) (t : Tree) (n f : ℕ) → nodes shared t ≡ n → flat t ≡ f → n ≤ node_limit → depth t ≤ depth_limit → Within (record { nodes = n; flat = f }) ≡ measured shared t
is-within shared t n f en ef few shallow =
    let b : is_beyond shared t ≡ false = or_from (nat_lt node_limit (nodes shared t)) (nat_lt depth_limit (depth t)) (le-ltb node_limit (nodes shared t) (omega (arith, en, few)))
    (le-ltb depth_limit (depth t) shallow) in
    ap₂ (λ a b. Within (record { nodes = a; flat = b })) (sym en) (sym ef) ∙ sym (cond-false (is_beyond shared t) Beyond (Within (record { nodes = nodes shared t; flat = flat t })) b)

is-many : (shared : List (List ℕ)) (t : Tree) → node_limit < nodes shared t → Beyond ≡ measured shared t
is-many shared t h = sym (cond-true (is_beyond shared t) Beyond (Within (record { nodes = nodes shared t; flat = flat t }))
    (or_left (nat_lt node_limit (nodes shared t)) (nat_lt depth_limit (depth t)) (lt-ltb node_limit (nodes shared t) h)))

is-deep : (shared : List (List ℕ)) (t : Tree) → depth_limit < depth t → Beyond ≡ measured shared t
is-deep shared t h = sym (cond-true (is_beyond shared t) Beyond (Within (record { nodes = nodes shared t; flat = flat t }))
    (or_right (nat_lt node_limit (nodes shared t)) (nat_lt depth_limit (depth t)) (lt-ltb depth_limit (depth t) h)))

end-within : (most : ℕ) (c : ℕ → ℕ → Bool) (shared : List (List ℕ)) (mem : List ℕ) (t : Tree) (word : ℕ) (levels new : List Rest) (l : Look) (seen words n : ℕ)
    → (k : Counting c shared mem t word levels seen words) → IsSeen c shared mem word k.now l → HasFlat mem l n → WalkGoes most c shared mem levels k.now k.rests further.End new
    → seen + nodes_in l ≤ node_limit
    → Within (record { nodes = seen + nodes_in l; flat = words + n }) ≡ measured shared t
end-within most c shared mem t word levels new l seen words n k sees has g few = is-within shared t (seen + nodes_in l) (words + n)
    (omega (arith, k.nodes_are, nodes-own c shared mem word k.now l sees, nodes-append shared (walk_parts k.now) (left_of k.rests), ap (nodes_of_all shared) g.none))
    (omega (arith, k.flat_is, flat-own c shared mem word k.now l n k.standing sees has, flat_of_all-append (walk_parts k.now) (left_of k.rests), ap flat_of_all g.none))
    few (omega (arith, k.depth_is, g.shallow))

pub measures-within : (most : ℕ) (mem : List ℕ) (first word : ℕ) (levels new : List Rest) (l : Look) (seen words n total flats : ℕ) → Counts mem first word levels seen words → Sees mem word l
    → HasFlat mem l n
    → Leads most mem levels l further.End new → total ≡ seen + nodes_in l → flats ≡ words + n → total ≤ node_limit → Measures mem first (Within (record { nodes = total; flat = flats }))
measures-within most mem first word levels new l seen words n total flats k sees has g e f few = record {
  each = λ c shared t s.
      ap₂ (λ a b. Within (record { nodes = a; flat = b })) e f ∙
      end-within most c shared mem t word levels new l seen words n (k c shared t s) (sees.each c shared (k c shared t s).now (k c shared t s).standing) has
      (g c shared word (k c shared t s).now (k c shared t s).rests (k c shared t s).standing (sees.each c shared (k c shared t s).now (k c shared t s).standing) (k c shared t s).left)
      (omega (arith, e, few));
}

many-nodes : (c : ℕ → ℕ → Bool) (shared : List (List ℕ)) (mem : List ℕ) (t : Tree) (word : ℕ) (levels : List Rest) (l : Look) (seen words : ℕ)
    → (k : Counting c shared mem t word levels seen words) → IsSeen c shared mem word k.now l → node_limit < seen + nodes_in l → node_limit < nodes shared t
many-nodes c shared mem t word levels l seen words k sees many = omega (arith, k.nodes_are, nodes-own c shared mem word k.now l sees, many)

pub measures-many : (mem : List ℕ) (first word : ℕ) (levels : List Rest) (l : Look) (seen words total : ℕ) → Counts mem first word levels seen words → Sees mem word l → total ≡ seen + nodes_in l
    → node_limit < total → Measures mem first Beyond
measures-many mem first word levels l seen words total k sees e many = record {
  each = λ c shared t s.
      is-many shared t (many-nodes c shared mem t word levels l seen words (k c shared t s) (sees.each c shared (k c shared t s).now (k c shared t s).standing) (omega (arith, e, many)));
}

deep-tree : (most : ℕ) (c : ℕ → ℕ → Bool) (shared : List (List ℕ)) (mem : List ℕ) (t : Tree) (word : ℕ) (levels : List Rest) (seen words : ℕ)
    → (k : Counting c shared mem t word levels seen words) → most ≡ depth_limit
    → most < length levels + depth k.now → depth_limit < depth t
deep-tree most c shared mem t word levels seen words k all deep = omega (arith, k.depth_is, all, deep)

pub measures-deep : (most : ℕ) (mem : List ℕ) (first word : ℕ) (levels new : List Rest) (l : Look) (seen words : ℕ) → Counts mem first word levels seen words → Sees mem word l
    → Leads most mem levels l further.TooDeep new
    → most ≡ depth_limit → Measures mem first Beyond
measures-deep most mem first word levels new l seen words k sees g all = record {
  each = λ c shared t s.
      is-deep shared t (deep-tree most c shared mem t word levels seen words (k c shared t s) all
      (g c shared word (k c shared t s).now (k c shared t s).rests (k c shared t s).standing (sees.each c shared (k c shared t s).now (k c shared t s).standing) (k c shared t s).left));
}

-- What the calls of a step ask for.

pub counts-term : (mem : List ℕ) (first word : ℕ) (levels : List Rest) (seen words : ℕ) → IsTerm mem first → Counts mem first word levels seen words → IsTerm mem word
counts-term mem first word levels seen words i k =
    let here : Counting always i.shared mem i.tree word levels seen words = k always i.shared i.tree i.standing in
    record { shared = i.shared; tree = here.now; standing = here.standing }

pub counts-go : (mem : List ℕ) (first word : ℕ) (levels : List Rest) (l : Look) (seen words : ℕ) → IsTerm mem first → Counts mem first word levels seen words → Sees mem word l → CanGo mem levels l
counts-go mem first word levels l seen words i k sees =
    let here : Counting always i.shared mem i.tree word levels seen words = k always i.shared i.tree i.standing in
    record { shared = i.shared; word = word; now = here.now; rests = here.rests; standing = here.standing; seen = sees.each always i.shared here.now here.standing; few = here.few; left = here.left }
