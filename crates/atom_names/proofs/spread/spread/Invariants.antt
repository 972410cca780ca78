use Rattle.std.proofs.Common.{◌≡◌, drop}
use Rattle.atom_names.specs.Spread.{mixed_all}
use Rattle.atom_names.proofs.spread.spread.Given as goal

abbrev pub invariant-loop-byte : goal.invariant-loop-byte
invariant-loop-byte l = mixed_all l.hash (drop l.byte-index l.name) ≡ mixed_all 2166136261 l.name
