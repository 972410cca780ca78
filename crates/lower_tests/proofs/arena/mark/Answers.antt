use Rattle.std.proofs.Common.{◌≡◌, ℕ, ◌+◌, ◌-◌, List, set, refl, sym, subst, arith}
use Rattle.word_arena.specs.Sound.{Sound}
use Rattle.word_arena.proofs.Side.Facts.{block-within}
use Rattle.lower_tests.proofs.arena.mark.Goals as goal

pub overflow_add-at : goal.overflow_add-at
overflow_add-at c =
    let w = block-within c.args.arena.now.mem c.args.at c.requires.sound.blocked c.requires.block in
    omega (arith, w.to, c.requires.words, c.bounded.ensures)

pub set-requires : goal.set-requires
set-requires c =
    let w = block-within c.args.arena.now.mem c.args.at c.requires.sound.blocked c.requires.block in
    omega (arith, w.to, c.requires.words)

pub returns : goal.returns
returns c =
    let a = c.args.arena.now in
    let q = c.args.at + c.args.words - 1 in
    let words = c.requires.words in
    let P : List ℕ → Type 0 = λ z. Sound (record { mem = z; holes = a.holes }) in
    let same = c.words_inside_a_block_are_no_headers.ensures.word a.mem c.args.at q c.args.owner c.requires.sound.blocked c.requires.block
    (omega (arith, words)) (omega (arith, words)) in
    subst P (sym c.set.ensures)
    (c.lent_memories_come_back.ensures a (record { mem = set a.mem q c.args.owner; holes = a.holes }) c.requires.sound same refl)
