use Rattle.std.proofs.Common.{◌≡◌, ℕ, ◌≤◌, List, refl, arith, subst, sym}
use Rattle.word_arena.specs.Calls.{taken}
use Rattle.word_arena.specs.Changes.{TookBlock}
use Rattle.word_arena.proofs.Side.Facts.{block-within}
use Rattle.word_arena.proofs.Laid.Taking.{took}
use Rattle.word_arena.proofs.rows.carve.Goals as goal

pub overflow_mul-words : goal.overflow_mul-words
overflow_mul-words c =
    let w = block-within _ _ c.requires.blocked c.requires.first.begins in
    omega (arith, w.to, c.requires.first.fits, c.bounded.ensures)

pub overflow_add-words : goal.overflow_add-words
overflow_add-words c =
    let w = block-within _ _ c.requires.blocked c.requires.first.begins in
    omega (arith, w.to, c.requires.first.fits, c.bounded.ensures, c.requires.kind)

pub returns : goal.returns
returns c =
    let k = c.requires.kind in
    let low : c.args.kind ≤ 8 = omega (arith, k) in
    let e : c.set-2.new.self ≡ taken c.args.mem.now c.args.at c.args.words c.args.kind c.args.owner =
    rw (c.set-2.ensures, c.set.ensures, c.set_free.ensures, c.next-behind.ensures.value) refl in
    let P : List ℕ → Type 0 = λ z. TookBlock c.args.mem.now z c.args.at c.args.words c.args.kind c.args.owner in
    subst P (sym e) (took c.args.mem.now c.args.at c.args.words c.args.kind c.args.owner c.requires.blocked c.requires.first c.requires.words k.0 low)
