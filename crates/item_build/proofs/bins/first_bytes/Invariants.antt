use Rattle.std.proofs.Common.{◌≡◌, length, take}
use Rattle.item_build.specs.Reading.{bytes_in}
use Rattle.item_build.proofs.bins.first_bytes.Given as goal

abbrev pub invariant-loop-i : goal.invariant-loop-i
invariant-loop-i l = record { len : length l.row ≡ 64; same : take l.i l.row ≡ bytes_in l.i l.bytes }
