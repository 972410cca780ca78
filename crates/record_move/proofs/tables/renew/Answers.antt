use Rattle.std.proofs.Common.{ℕ, List, subst, sym}
use Rattle.record_move.specs.Tables.{AllLieWithin}
use Rattle.record_move.proofs.tables.renew.Goals as goal

pub renew_places-kept-requires : goal.renew_places-kept-requires
renew_places-kept-requires c = let P : List ℕ → Type 0 = λ vs. AllLieWithin c.args.mem.now vs in subst P (sym c.as_mut_slice.ensures.value) c.requires
