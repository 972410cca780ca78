use Rattle.std.proofs.Common.{◌≡◌, ℕ, ◌*◌, ◌+◌, ◌/◌, get_or, refl, sym, subst, arith}
use Rattle.word_arena.specs.Stretches.{IsStart}
use Rattle.word_arena.proofs.Found.Table.{start-first, begins-below}
use Rattle.word_arena.proofs.holes.Holes.settle_at.Goals as goal

pub start-from-requires-clause-inside : goal.start-from-requires-clause-inside
start-from-requires-clause-inside c = omega (arith, begins-below _ _ c.requires.blocked c.requires.block, c.requires.room.stretches, c.stretch_of-stretch.ensures)

pub settle-requires-clause-inside : goal.settle-requires-clause-inside
settle-requires-clause-inside c = omega (arith, begins-below _ _ c.requires.blocked c.requires.block, c.requires.room.stretches, c.stretch_of-stretch.ensures)

pub settle-requires-clause-start : goal.settle-requires-clause-start
settle-requires-clause-start c =
    let firsts = c.args.self.now.firsts.items in
    let i : c.args.at / 64 ≡ c.stretch_of-stretch.result = sym c.stretch_of-stretch.ensures in
    let at : ℕ → ℕ = λ z. z * 64 + get_or firsts z 0 in
    let P : ℕ → Type 0 = λ z. IsStart c.args.mem.now z (at z) in
    let Q : ℕ → Type 0 = λ z. IsStart c.args.mem.now c.stretch_of-stretch.result z in
    subst Q (sym c.start-from.ensures)
    (subst P i (start-first c.args.mem.now (c.args.at / 64) (get_or firsts (c.args.at / 64) 0) c.args.at c.requires.blocked c.requires.first c.requires.block refl))
