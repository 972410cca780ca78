-- The mark of a moved record in figures: a constant that is cited by its name is pinned here.
use Rattle.std.specs.Prelude.{ℕ, ◌≡◌, ◌^◌, refl}
use Rattle.record_move.specs.declared.moves.TheConstants.{MOVED}

-- A moved record has 2^32 and its new place in the word of its count: more than any count.
pub mark-of-moved : MOVED ≡ 2 ^ 32
mark-of-moved = refl
