use Rattle.std.proofs.Common.{◌≡◌, ℕ, List, refl, arith, subst, sym}
use Rattle.word_arena.specs.Calls.{shortened}
use Rattle.word_arena.specs.Changes.{Shortened}
use Rattle.word_arena.proofs.Side.Facts.{block-within}
use Rattle.word_arena.proofs.Laid.Taking.{was-cut}
use Rattle.word_arena.proofs.rows.shorten.Goals as goal

pub overflow_mul-words : goal.overflow_mul-words
overflow_mul-words c =
    let w = block-within _ _ c.requires.blocked c.requires.block.begins in
    omega (arith, w.to, c.requires.most, c.bounded.ensures)

pub overflow_add-words : goal.overflow_add-words
overflow_add-words c =
    let w = block-within _ _ c.requires.blocked c.requires.block.begins in
    omega (arith, w.to, c.requires.most, c.bounded.ensures, c.kind-kind.ensures)

pub returns : goal.returns
returns c =
    let e : c.set.new.self ≡ shortened c.args.mem.now c.args.at c.args.words =
    rw (c.set.ensures, c.set_free.ensures, c.kind-kind.ensures, c.free_end-end.ensures.value, c.next-behind.ensures.value) refl in
    let P : List ℕ → Type 0 = λ z. Shortened c.args.mem.now z c.args.at c.args.words in
    subst P (sym e) (was-cut c.args.mem.now c.args.at c.args.words c.requires.blocked c.requires.block c.requires.least c.requires.most)
