use Rattle.std.proofs.Common.{ℕ, ◌*◌, ◌<◌, ◌≤◌, List, get_or, Some, IfSome, subst, arith}
use Rattle.word_arena.proofs.Found.Levels.{first-some}
use Rattle.word_arena.proofs.tops.Tops.first.Goals as goal

pub returns-clause-first : goal.returns-clause-first
returns-clause-first c =
    let leaves = c.self.inside.leaves.items in
    let groups = c.self.inside.groups.items in
    let regions = c.self.inside.regions.items in
    let w = c.args.least in
    let region = c.in_ok-region.region in
    let group = c.in_ok-group.group in
    let R : List ℕ → Type 0 = λ z. (i : ℕ) → 0 ≤ i → i < region → get_or z i 0 < w in
    let G : List ℕ → Type 0 = λ z. (i : ℕ) → region * 64 ≤ i → i < group → get_or z i 0 < w in
    let L : List ℕ → Type 0 = λ z. IfSome c.first_of-3.result (λ at. (i : ℕ) → group * 64 ≤ i → i < at → get_or z i 0 < w) in
    let A : List ℕ → Type 0 = λ z. IfSome c.first_of-3.result (λ at. (i : ℕ) → i < at → get_or z i 0 < w) in
    let in_regions : R regions = subst R c.deref.ensures.value c.in_ok-region.ensures.first in
    let in_groups : G groups = subst G c.deref-2.ensures.value c.in_ok-group.ensures.first in
    let in_leaves : L leaves = subst L c.deref-3.ensures.value c.first_of-3.ensures.first in
    let before : (i : ℕ) → i < group → get_or groups i 0 < w =
    first-some groups regions region w (Some group) c.self.invariant.upper (λ i below. in_regions i (omega arith) below) in_groups in
    subst A c.self.view_is (first-some leaves groups group w c.first_of-3.result c.self.invariant.lower before in_leaves)
