use Rattle.std.proofs.Common.{◌≡◌, ℕ, ◌+◌, ◌-◌, List, set, refl, arith, add-zero, subst, sym}
use Rattle.word_arena.specs.Blocks.{size_at, header}
use Rattle.word_arena.specs.Calls.{free_end}
use Rattle.word_arena.specs.Changes.{GaveBlock}
use Rattle.word_arena.proofs.Laid.Taking.{gave}
use Rattle.word_arena.proofs.rows.merge.Goals as goal

pub overflow_mul-end : goal.overflow_mul-end
overflow_mul-end c = omega (arith, c.free_end-end.ensures.inside, c.bounded.ensures)

pub returns : goal.returns
returns c =
    let e : c.set.new.self ≡ set c.args.mem.now c.args.from (header (free_end c.args.mem.now (c.args.at + size_at c.args.mem.now c.args.at) - c.args.from) 0) =
    rw (c.set.ensures, c.free_end-end.ensures.value, c.next-behind.ensures.value, add-zero) refl in
    let P : List ℕ → Type 0 = λ z. GaveBlock c.args.mem.now z c.args.at c.args.from in
    subst P (sym e) (gave c.args.mem.now c.args.at c.args.from c.requires.blocked c.requires.block c.requires.free)
