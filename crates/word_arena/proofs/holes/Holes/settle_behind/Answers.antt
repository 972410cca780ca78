use Rattle.std.proofs.Common.{◌≡◌, ℕ, ◌+◌, ◌/◌, sym, ◌∙◌, subst}
use Rattle.word_arena.specs.Blocks.{size_at}
use Rattle.word_arena.specs.Stretches.{IsStart}
use Rattle.word_arena.proofs.Found.Table.{start-behind}
use Rattle.word_arena.proofs.holes.Holes.settle_behind.Goals as goal

pub settle-requires-clause-start : goal.settle-requires-clause-start
settle-requires-clause-start c =
    let p = c.requires.place in
    let i : c.args.at / 64 ≡ c.stretch_of-stretch.result = sym c.stretch_of-stretch.ensures in
    let P : ℕ → Type 0 = λ z. IsStart c.args.mem.now z (c.args.block + size_at c.args.mem.now c.args.block) in
    let Q : ℕ → Type 0 = λ z. IsStart c.args.mem.now c.stretch_of-stretch.result z in
    subst Q (sym c.next-from.ensures.value)
    (subst P i (start-behind c.args.mem.now c.args.block c.args.at c.requires.blocked c.requires.block p.0 p.1
    (λ e. c.if-stretch-stretch_of.true (c.stretch_of-stretch.ensures ∙ e ∙ sym c.stretch_of.ensures))))
