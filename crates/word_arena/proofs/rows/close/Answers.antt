use Rattle.std.proofs.Common.{◌≡◌, ℕ, List, length, refl, subst, sym}
use Rattle.word_arena.specs.Calls.{freed}
use Rattle.word_arena.specs.Changes.{Closed}
use Rattle.word_arena.proofs.Laid.Taking.{closed}
use Rattle.word_arena.proofs.rows.close.Goals as goal

pub returns : goal.returns
returns c =
    let e : c.set_free.new.mem ≡ freed c.args.mem.now c.args.end (length c.args.mem.now) = rw (c.set_free.ensures, c.len-len.ensures.len) refl in
    let P : List ℕ → Type 0 = λ z. Closed c.args.mem.now z c.args.end in
    subst P (sym e) (closed c.args.mem.now c.args.end c.requires.row c.requires.inside)
