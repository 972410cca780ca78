use Rattle.std.proofs.Common.{◌≡◌, ℕ, ◌≤◌, List, length}
use Rattle.atom_names.specs.Slots.{FindsSlot}
use Rattle.atom_names.proofs.table.Table.free.Given as goal

abbrev pub invariant-loop-number : goal.invariant-loop-number
invariant-loop-number l = record {
  low : l.first ≤ l.number;
  high : l.number ≤ l.fn.count;
  slots_room : length l.self.slots.items ≡ 65536;
  places : l.self.places.items ≡ l.fn.self.places.items;
  finds : (names : List (List ℕ)) → FindsSlot names l.fn.count l.fn.self.slots.items l.fn.self.places.items → FindsSlot names l.number l.self.slots.items l.self.places.items;
}

abbrev pub decreases-loop-number : goal.decreases-loop-number
decreases-loop-number l = l.number
