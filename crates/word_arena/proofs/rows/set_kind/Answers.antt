use Rattle.std.proofs.Common.{◌≡◌, ℕ, ◌≤◌, List, set, refl, arith, subst, sym}
use Rattle.word_arena.specs.Blocks.{size_at, header}
use Rattle.word_arena.specs.Changes.{Turned}
use Rattle.word_arena.proofs.Side.Facts.{block-within}
use Rattle.word_arena.proofs.Laid.Turning.{turned}
use Rattle.word_arena.proofs.rows.set_kind.Goals as goal

pub overflow_mul-size : goal.overflow_mul-size
overflow_mul-size c =
    let w = block-within _ _ c.requires.blocked c.requires.block.begins in
    omega (arith, w.to, c.size-size.ensures, c.bounded.ensures)

pub overflow_add-size : goal.overflow_add-size
overflow_add-size c =
    let w = block-within _ _ c.requires.blocked c.requires.block.begins in
    omega (arith, w.to, c.size-size.ensures, c.bounded.ensures, c.requires.kind)

pub returns : goal.returns
returns c =
    let k = c.requires.kind in
    let low : c.args.kind ≤ 8 = omega (arith, k) in
    let e : c.set.new.self ≡ set c.args.mem.now c.args.at (header (size_at c.args.mem.now c.args.at) c.args.kind) = rw (c.set.ensures, c.size-size.ensures) refl in
    let P : List ℕ → Type 0 = λ z. Turned c.args.mem.now z c.args.at c.args.kind in
    subst P (sym e) (turned c.args.mem.now c.args.at c.args.kind c.requires.blocked c.requires.block k.0 low)
