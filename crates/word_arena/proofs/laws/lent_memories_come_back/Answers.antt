use Rattle.std.proofs.Common.{sym, subst}
use Rattle.word_arena.specs.Sound.{Sound}
use Rattle.word_arena.specs.declared.holes.Holes.{Holes}
use Rattle.word_arena.proofs.Laid.Lent.{lent}
use Rattle.word_arena.proofs.laws.lent_memories_come_back.Goals as goal

pub returns : goal.returns
returns k = λ a b sound same table.
    let P : Holes → Type 0 = λ z. Sound (record { mem = b.mem; holes = z }) in
    subst P (sym table) (lent a b.mem sound same)
