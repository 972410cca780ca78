use Rattle.std.proofs.Common.{◌≡◌, ℕ, ◌+◌, ◌<◌, [], get_or, map}
use Rattle.atom_names.specs.Slots.{after}
use Rattle.atom_names.specs.Rows.{row_name}
use Rattle.atom_names.proofs.table.Table.find.Given as goal

abbrev pub invariant-loop-j : goal.invariant-loop-j
invariant-loop-j l = record {
  full : (i : ℕ) → i < l.j → 0 < get_or l.self.slots.items (after l.start i) 0;
  others : (i k : ℕ) → i < l.j → get_or l.self.slots.items (after l.start i) 0 ≡ k + 1 → get_or (map row_name l.rows) k [] ≡ l.name → ⊥;
}
