-- A list is built from its end.
use Rattle.std.proofs.Common.{◌≡◌, ℕ, zero, suc, ◌+◌, ◌*◌, ◌<◌, Bool, List, subst, arith, inl, inr}
use Rattle.plain_term.specs.Tree.{Tree, same_trees}
use Rattle.plain_term.specs.Tree.Tree.{Cons, Nil}
use Rattle.word_mem.specs.declared.ranges.Room.{Room}
use Rattle.plain_machine.specs.Made.{list_tree}
use Rattle.term_words.specs.Stands.{Stands}
use Rattle.term_words.proofs.ByKind.Makes.{stands-nil}
use Rattle.term_build.specs.Taken.{IsFree}
use Rattle.term_build.specs.Grows.{Built}
use Rattle.term_build.specs.Clear.{Uses}
use Rattle.term_build.proofs.Growing.{built-then, free-after, grows-none}
use Rattle.term_build.proofs.Rooms.{uses-then}

pub list-begins : (c : ℕ → ℕ → Bool) (shared : List (List ℕ)) (mem : List ℕ) (top n nil : ℕ) (t : Tree) → n ≡ 0 → nil ≡ 59 → Built c top (2 * n) mem mem shared nil (list_tree (same_trees n t) Nil)
list-begins c shared mem top zero nil t none is = record { test = c; grows = grows-none c top mem; made = stands-nil c shared mem nil is }
list-begins c shared mem top (suc n) nil t none is = absurd (omega (arith, none))

pub list-goes : (c : ℕ → ℕ → Bool) (shared : List (List ℕ)) (old mem mem2 : List ℕ) (top n i w list next : ℕ) (x y : Room) (t : Tree) → IsFree c top (top + 2 * n) → i < n → Uses (2 * i) x y old mem
    → x.top ≡ top
    → Stands c shared old w t → Built c top (2 * i) old mem shared list (list_tree (same_trees i t) Nil)
    → ((d : ℕ → ℕ → Bool) (a b : Tree) → IsFree d y.top (y.top + 2) → Stands d shared mem w a → Stands d shared mem list b → Built d y.top 2 mem mem2 shared next (Cons a b))
    → Built c top (2 * (i + 1)) old mem2 shared next (list_tree (same_trees (i + 1) t) Nil)
list-goes c shared old mem mem2 top n i w list next x y t free less uses is s b built =
    let here : y.top ≡ top + 2 * i = omega (arith, uses.moved, is) in
    let F : IsFree b.test (top + 2 * i) (top + 2 * n) = free-after c b.test top (2 * i) (top + 2 * n) old mem b.grows free in
    let more = built b.test t (list_tree (same_trees i t) Nil) (λ a k e. elim (F a k e) [ inl low ↦ inl (omega (arith, low, here)) | inr high ↦ inr (omega (arith, high, here, less)) ])
    (b.grows.kept.each shared w t s) b.made in
    let P : ℕ → Type 0 = λ z. Built b.test z 2 mem mem2 shared next (Cons t (list_tree (same_trees i t) Nil)) in
    let one : suc i ≡ i + 1 = omega arith in
    let two : 2 * i + 2 ≡ 2 * (i + 1) = omega arith in
    let Q : ℕ → Type 0 = λ z. Built c top z old mem2 shared next (Cons t (list_tree (same_trees i t) Nil)) in
    let R : ℕ → Type 0 = λ z. Built c top (2 * (i + 1)) old mem2 shared next (list_tree (same_trees z t) Nil) in
    subst R one (subst Q two (built-then c b.test top (2 * i) 2 old mem mem2 shared next (Cons t (list_tree (same_trees i t) Nil)) b.grows (subst P here more)))

pub uses-more : (i : ℕ) (x y z : Room) (old mem mem2 : List ℕ) → Uses (2 * i) x y old mem → Uses 2 y z mem mem2 → Uses (2 * (i + 1)) x z old mem2
uses-more i x y z old mem mem2 one two =
    let P : ℕ → Type 0 = λ n. Uses n x z old mem2 in
    let more : 2 + 2 * i ≡ 2 * (i + 1) = omega arith in
    subst P more (uses-then (2 * i) 2 x y z old mem mem2 one two)
