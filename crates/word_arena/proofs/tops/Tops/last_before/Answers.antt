use Rattle.std.proofs.Common.{◌≡◌, ℕ, ◌+◌, ◌*◌, ◌/◌, ◌<◌, ◌≤◌, List, get_or, Option, Some, None, IfSome, IfNone, subst}
use Rattle.word_arena.specs.Over.{Over}
use Rattle.word_arena.proofs.Found.Levels.{last-some, last-there}
use Rattle.word_arena.proofs.tops.Tops.last_before.Goals as goal

-- The search under a greatest that is not 0 finds a number.
there : (low high : List ℕ) (at g : ℕ) (r : Option ℕ) → Over low high → 1 ≤ get_or high g 0
    → IfNone r ((i : ℕ) → g * 64 ≤ i → i < g * 64 + 64 → get_or low i 0 ≡ 0) → IfNone r ((i : ℕ) → i < at → get_or low i 0 ≡ 0)
there low high at g None over some none = absurd (last-there low high g over some none)
there low high at g (Some k) over some none = tt

pub returns-clause-none : goal.returns-clause-none
returns-clause-none c =
    let leaves = c.self.inside.leaves.items in
    let groups = c.self.inside.groups.items in
    let group = c.in_ok-group.group in
    let S : List ℕ → Type 0 = λ z. 1 ≤ get_or z group 0 in
    let L : List ℕ → Type 0 = λ z. IfNone c.last_of-2.result ((i : ℕ) → group * 64 ≤ i → i < group * 64 + 64 → get_or z i 0 ≡ 0) in
    let A : List ℕ → Type 0 = λ z. IfNone c.last_of-2.result ((i : ℕ) → i < c.args.at → get_or z i 0 ≡ 0) in
    let some : S groups = subst S c.deref-2.ensures.value c.in_ok-group.ensures.some in
    subst A c.self.view_is (there leaves groups c.args.at group c.last_of-2.result c.self.invariant.lower some
    (subst L c.deref-4.ensures.value c.last_of-2.ensures.none))

pub returns-clause-last : goal.returns-clause-last
returns-clause-last c =
    let leaves = c.self.inside.leaves.items in
    let groups = c.self.inside.groups.items in
    let group = c.in_ok-group.group in
    let B : List ℕ → Type 0 = λ z. (i : ℕ) → c.args.at / 64 * 64 ≤ i → i < c.args.at → get_or z i 0 ≡ 0 in
    let G : List ℕ → Type 0 = λ z. (i : ℕ) → group < i → i < c.args.at / 64 → get_or z i 0 ≡ 0 in
    let L : List ℕ → Type 0 = λ z. IfSome c.last_of-2.result (λ k. (i : ℕ) → k < i → i < group * 64 + 64 → get_or z i 0 ≡ 0) in
    let A : List ℕ → Type 0 = λ z. IfSome c.last_of-2.result (λ k. (i : ℕ) → k < i → i < c.args.at → get_or z i 0 ≡ 0) in
    let beside : B leaves = subst B c.deref.ensures.value c.in_default.ensures.none in
    let between : G groups = subst G c.deref-2.ensures.value c.in_ok-group.ensures.last in
    subst A c.self.view_is (last-some leaves groups c.args.at group c.last_of-2.result c.self.invariant.lower beside between
    (subst L c.deref-4.ensures.value c.last_of-2.ensures.last))
