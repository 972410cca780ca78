use Rattle.std.proofs.Common.{◌≡◌, ℕ, ◌+◌, ◌*◌, ◌/◌, ◌<◌, ◌≤◌, List, length, get_or, subst, ap, arith}
use Rattle.word_arena.proofs.Found.Levels.{over-set}
use Rattle.word_arena.proofs.tops.Tops.set.Goals as goal

abbrev Above : ℕ → ℕ → List ℕ → Type 0
Above from top z = (i : ℕ) → from ≤ i → i < from + 64 → get_or z i 0 ≤ top

abbrev Met : ℕ → ℕ → List ℕ → Type 0
Met from top z = 0 < top → (i : ℕ) × (from ≤ i) × (i < from + 64) × (get_or z i 0 ≡ top)

pub invariant_of-self : goal.invariant_of-self
invariant_of-self c =
    let at = c.args.at in
    let inside : at < length c.self.inside.leaves.items = omega (arith, c.requires.inside, ap length c.self.view_is) in
    let lower = c.self.invariant.lower in
    record {
      lower = over-set c.self.inside.leaves.items c.self.inside.groups.items at c.args.number c.largest.result lower inside
          (subst (Above (at / 64 * 64) c.largest.result) c.deref.ensures.value c.largest.ensures.above)
          (subst (Met (at / 64 * 64) c.largest.result) c.deref.ensures.value c.largest.ensures.met);
      upper = over-set c.self.inside.groups.items c.self.inside.regions.items (at / 64) c.largest.result c.largest-2.result c.self.invariant.upper
          (omega (arith, lower.lens))
          (subst (Above (at / 64 / 64 * 64) c.largest-2.result) c.deref-2.ensures.value c.largest-2.ensures.above)
          (subst (Met (at / 64 / 64 * 64) c.largest-2.result) c.deref-2.ensures.value c.largest-2.ensures.met);
    }
