use Rattle.std.proofs.Common.{◌≡◌, ℕ, ◌≤◌, ◌<◌, length, take, get_or}
use Rattle.record_move.specs.Tables.{renewed}
use Rattle.record_move.proofs.tables.renew_places.Given as goal

abbrev pub invariant-loop-i : goal.invariant-loop-i
invariant-loop-i l = record {
  within : l.kept ≤ l.i;
  same_len : length l.places ≡ length l.fn.places;
  front : take l.kept l.places ≡ renewed l.mem (take l.i l.fn.places);
  rest : (j : ℕ) → l.i ≤ j → j < length l.fn.places → get_or l.places j 0 ≡ get_or l.fn.places j 0;
}
