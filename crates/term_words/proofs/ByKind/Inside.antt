-- Where the words of a standing object lie, as the readers find them from tag and header.
use Rattle.std.proofs.Common.{◌≡◌, ℕ, ◌+◌, ◌/◌, ◌%◌, ◌≤◌, Bool, List, length, get_or, sym, subst, arith, inl, inr, ℤ, pos, negsuc}
use Rattle.plain_term.specs.Tree.{Tree}
use Rattle.plain_term.specs.Tree.Tree.{Int, Atom, Pid, Ref, Nil, Cons, Tuple, Map, Bin, Shared, Part, Fun}
use Rattle.term_words.specs.Object.{IsInt, IsPointer, IsRecord, object_words}
use Rattle.term_words.specs.Stands.{Stands, IsTerm}
use Rattle.term_words.specs.Role.{always}
use Rattle.term_words.proofs.Placing.Apart.{words-cons, words-header}
use Rattle.term_words.proofs.ByKind.Shapes.{told}

cons-within : (c : ℕ → ℕ → Bool) (shared : List (List ℕ)) (mem : List ℕ) (w : ℕ) (t : Tree) → Stands c shared mem w t → w % 4 ≡ 1 → w / 4 + 2 ≤ length mem
unfolding Stands
cons-within c shared mem w (Cons h t) (o, sh, st) tag = o.object.within
cons-within c shared mem w t s tag = absurd (omega (arith, told c shared mem w t s))

-- A list pointer leads to two words of the memory.
pub cons-inside : (mem : List ℕ) (w : ℕ) → IsTerm mem w → w % 4 ≡ 1 → w / 4 + 2 ≤ length mem
cons-inside mem w i tag = cons-within always i.shared mem w i.tree i.standing tag

int-within : (c : ℕ → ℕ → Bool) (mem : List ℕ) (w : ℕ) (i : ℤ) → IsInt c mem w i → w % 4 ≡ 2 → w / 4 + (1 + get_or mem (w / 4) 0 / 64) ≤ length mem
int-within c mem w i (inl s) tag = absurd (omega arith)
int-within c mem w (pos n) (inr (inl o)) tag = omega (arith, o.boxed.header, o.boxed.object.within)
int-within c mem w (negsuc n) (inr (inl o)) tag = omega (arith, o.boxed.header, o.boxed.object.within)
int-within c mem w (pos n) (inr (inr o)) tag = omega (arith, o.boxed.header, o.boxed.object.within)
int-within c mem w (negsuc n) (inr (inr o)) tag = omega (arith, o.boxed.header, o.boxed.object.within)

boxed-within : (c : ℕ → ℕ → Bool) (shared : List (List ℕ)) (mem : List ℕ) (w : ℕ) (t : Tree) → Stands c shared mem w t → w % 4 ≡ 2 → w / 4 + (1 + get_or mem (w / 4) 0 / 64) ≤ length mem
unfolding Stands
boxed-within c shared mem w (Int i) s tag = int-within c mem w i s tag
boxed-within c shared mem w (Atom k) s tag = absurd (omega arith)
boxed-within c shared mem w (Pid n) s tag = absurd (omega arith)
boxed-within c shared mem w (Ref n k) s tag = omega (arith, s.boxed.header, s.boxed.object.within)
boxed-within c shared mem w Nil s tag = absurd (omega arith)
boxed-within c shared mem w (Cons h t) (o, sh, st) tag = absurd (omega arith)
boxed-within c shared mem w (Tuple ts) (o, row) tag = omega (arith, o.boxed.header, o.boxed.object.within)
boxed-within c shared mem w (Map ps) (o, ks, vs) tag = omega (arith, o.boxed.header, o.boxed.object.within)
boxed-within c shared mem w (Bin bytes) s tag = omega (arith, s.boxed.header, s.boxed.object.within)
boxed-within c shared mem w (Shared id) s tag = omega (arith, s.holder.header, s.holder.within)
boxed-within c shared mem w (Part base offset len) (o, is, sb) tag = omega (arith, o.boxed.header, o.boxed.object.within)
boxed-within c shared mem w (Fun name arity creator env) (o, row) tag = omega (arith, o.header, o.within)

-- A boxed pointer leads to a header and as many words as its arity says.
pub boxed-inside : (mem : List ℕ) (w : ℕ) → IsTerm mem w → w % 4 ≡ 2 → w / 4 + (1 + get_or mem (w / 4) 0 / 64) ≤ length mem
boxed-inside mem w i tag = boxed-within always i.shared mem w i.tree i.standing tag

-- The words of a map, a fun and the kinds of binaries, from tag and subtag.

map-within : (c : ℕ → ℕ → Bool) (shared : List (List ℕ)) (mem : List ℕ) (w : ℕ) (t : Tree) → Stands c shared mem w t → w % 4 ≡ 2 → get_or mem (w / 4) 0 / 4 % 16 ≡ 15
    → (get_or mem (w / 4) 0 / 64 ≡ get_or mem (w / 4 + 1) 0 + 2) × (get_or mem (w / 4 + 2) 0 / 4 + 1 + get_or mem (w / 4 + 1) 0 ≤ length mem)
unfolding Stands
map-within c shared mem w (Map ps) (o, ks, vs) tag sub = (omega (arith, o.boxed.header, o.count), omega (arith, o.count, o.keys.boxed.object.within))
map-within c shared mem w (Int (pos i)) s tag sub = absurd (omega (arith, told c shared mem w (Int (pos i)) s))
map-within c shared mem w (Int (negsuc i)) s tag sub = absurd (omega (arith, told c shared mem w (Int (negsuc i)) s))
map-within c shared mem w t s tag sub = absurd (omega (arith, told c shared mem w t s))

pub map-inside : (mem : List ℕ) (w p : ℕ) → IsTerm mem w → w % 4 ≡ 2 → p ≡ w / 4 → get_or mem p 0 / 4 % 16 ≡ 15
    → (get_or mem p 0 / 64 ≡ get_or mem (p + 1) 0 + 2) × (get_or mem (p + 2) 0 / 4 + 1 + get_or mem (p + 1) 0 ≤ length mem)
map-inside mem w p i tag same =
    let P : ℕ → Type 0 = λ x. get_or mem x 0 / 4 % 16 ≡ 15 → (get_or mem x 0 / 64 ≡ get_or mem (x + 1) 0 + 2) × (get_or mem (x + 2) 0 / 4 + 1 + get_or mem (x + 1) 0 ≤ length mem) in
    subst P (sym same) (λ sub. map-within always i.shared mem w i.tree i.standing tag sub)

fun-within : (c : ℕ → ℕ → Bool) (shared : List (List ℕ)) (mem : List ℕ) (w : ℕ) (t : Tree) → Stands c shared mem w t → w % 4 ≡ 2 → get_or mem (w / 4) 0 / 4 % 16 ≡ 5
    → get_or mem (w / 4) 0 / 64 ≡ get_or mem (w / 4 + 4) 0 + 5
unfolding Stands
fun-within c shared mem w (Fun name arity creator env) (o, row) tag sub = omega (arith, o.header, o.size)
fun-within c shared mem w (Int (pos i)) s tag sub = absurd (omega (arith, told c shared mem w (Int (pos i)) s))
fun-within c shared mem w (Int (negsuc i)) s tag sub = absurd (omega (arith, told c shared mem w (Int (negsuc i)) s))
fun-within c shared mem w t s tag sub = absurd (omega (arith, told c shared mem w t s))

pub fun-inside : (mem : List ℕ) (w p : ℕ) → IsTerm mem w → w % 4 ≡ 2 → p ≡ w / 4 → get_or mem p 0 / 4 % 16 ≡ 5 → get_or mem p 0 / 64 ≡ get_or mem (p + 4) 0 + 5
fun-inside mem w p i tag same =
    let P : ℕ → Type 0 = λ x. get_or mem x 0 / 4 % 16 ≡ 5 → get_or mem x 0 / 64 ≡ get_or mem (x + 4) 0 + 5 in
    subst P (sym same) (λ sub. fun-within always i.shared mem w i.tree i.standing tag sub)

-- A binary has its size behind its header.
binary-within : (c : ℕ → ℕ → Bool) (shared : List (List ℕ)) (mem : List ℕ) (w : ℕ) (t : Tree) → Stands c shared mem w t → w % 4 ≡ 2 → (s : ℕ) → get_or mem (w / 4) 0 / 4 % 16 ≡ s → 8 ≤ s → s ≤ 10
    → (1 ≤ get_or mem (w / 4) 0 / 64) × (s ≡ 8 → get_or mem (w / 4) 0 / 64 ≡ 5) × (s ≡ 10 → get_or mem (w / 4) 0 / 64 ≡ 4)
unfolding Stands
binary-within c shared mem w (Bin bytes) o tag s sub low high = (omega (arith, o.boxed.header), λ e. absurd (omega (arith, o.boxed.header)), λ e. absurd (omega (arith, o.boxed.header)))
binary-within c shared mem w (Shared id) o tag s sub low high = (omega (arith, o.holder.header), λ e. omega (arith, o.holder.header), λ e. absurd (omega (arith, o.holder.header)))
binary-within c shared mem w (Part base offset len) (o, is, sb) tag s sub low high = (omega (arith, o.boxed.header), λ e. absurd (omega (arith, o.boxed.header)), λ e. omega (arith, o.boxed.header))
binary-within c shared mem w (Int (pos i)) o tag s sub low high = absurd (omega (arith, told c shared mem w (Int (pos i)) o))
binary-within c shared mem w (Int (negsuc i)) o tag s sub low high = absurd (omega (arith, told c shared mem w (Int (negsuc i)) o))
binary-within c shared mem w t o tag s sub low high = absurd (omega (arith, told c shared mem w t o))

pub binary-inside : (mem : List ℕ) (w p s : ℕ) → IsTerm mem w → w % 4 ≡ 2 → p ≡ w / 4 → get_or mem p 0 / 4 % 16 ≡ s → 8 ≤ s → s ≤ 10
    → (1 ≤ get_or mem p 0 / 64) × (s ≡ 8 → get_or mem p 0 / 64 ≡ 5) × (s ≡ 10 → get_or mem p 0 / 64 ≡ 4)
binary-inside mem w p s i tag same =
    let P : ℕ → Type 0 = λ x. get_or mem x 0 / 4 % 16 ≡ s → 8 ≤ s → s ≤ 10 → (1 ≤ get_or mem x 0 / 64) × (s ≡ 8 → get_or mem x 0 / 64 ≡ 5) × (s ≡ 10 → get_or mem x 0 / 64 ≡ 4) in
    subst P (sym same) (λ sub low high. binary-within always i.shared mem w i.tree i.standing tag s sub low high)

-- All words of a standing object lie in the memory, and all words of a record.

pub object-inside : (c : ℕ → ℕ → Bool) (shared : List (List ℕ)) (mem : List ℕ) (w : ℕ) (t : Tree) → Stands c shared mem w t → IsPointer w → w / 4 + object_words mem w ≤ length mem
object-inside c shared mem w t s (inl tag) = omega (arith, cons-within c shared mem w t s tag, words-cons mem w tag)
object-inside c shared mem w t s (inr tag) = let words : object_words mem w ≡ 1 + get_or mem (w / 4) 0 / 64 = words-header mem w tag in omega (arith, boxed-within c shared mem w t s tag)

pub record-inside : (c : ℕ → ℕ → Bool) (mem : List ℕ) (v n : ℕ) → IsRecord c mem v n → v + n ≤ length mem
record-inside c mem v n (inl (serial, bytes, o, words)) = omega (arith, o.within, words)
record-inside c mem v n (inr (name, arity, o, words)) = omega (arith, o.within, words)
