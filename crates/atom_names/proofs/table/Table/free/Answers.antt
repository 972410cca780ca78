use Rattle.std.proofs.Common.{◌≡◌, ℕ, ◌+◌, ◌-◌, length, get_or, set, arith, subst, ap, ◌∙◌}
use Rattle.std.proofs.lemmas.Grind.{common_steps}
use Rattle.std.proofs.lemmas.List.{length-set}
use Rattle.atom_names.specs.Slots.{FindsSlot}
use Rattle.atom_names.proofs.Probing.{Finds_pop, read-is}
use Rattle.atom_names.specs.declared.names.TheConstants.{MOST_NAMES}
use Rattle.atom_names.proofs.table.Table.free.Goals as goal

pub loop-number-preserved : goal.loop-number-preserved
loop-number-preserved c =
    let places_room : length c.loop-number.self.places.items ≡ MOST_NAMES = ap length c.loop-number.invariant.places ∙ c.requires.places_room in
    let at : get_or c.loop-number.self.places.items (c.loop-number.number - 1) 0 ≡ c.index.result.now =
    read-is c.loop-number.self.places.items (c.loop-number.number - 1) c.index.result.now
    (omega (arith, places_room, c.loop-number.invariant.high, c.requires.order.1, c.loop-number-test.true)) c.index.ensures in
    record {
      low = omega (arith, c.loop-number-test.true);
      high = omega (arith, c.loop-number.invariant.high);
      slots_room = length-set c.loop-number.self.slots.items c.index.result.now 0 ∙ c.loop-number.invariant.slots_room;
      places = c.loop-number.invariant.places;
      finds = λ names f.
          let up : c.loop-number.number ≡ (c.loop-number.number - 1) + 1 = omega (arith, c.loop-number-test.true) in
          let P : ℕ → Type 0 = λ n. FindsSlot names n c.loop-number.self.slots.items c.loop-number.self.places.items in
          let Q : ℕ → Type 0 = λ p. FindsSlot names (c.loop-number.number - 1) (set c.loop-number.self.slots.items p 0) c.loop-number.self.places.items in
          subst Q at (Finds_pop names (c.loop-number.number - 1) c.loop-number.self.slots.items c.loop-number.self.places.items
          (subst P up (c.loop-number.invariant.finds names f)));
    }

pub returns : goal.returns
returns c = λ names f.
    let same : c.loop-number.number ≡ c.args.first = omega (arith, c.loop-number-test.false, c.loop-number.invariant.low) in
    let P : ℕ → Type 0 = λ n. FindsSlot names n c.loop-number.self.slots.items c.loop-number.self.places.items in
    subst P same (c.loop-number.invariant.finds names f)

pub loop-number-init : goal.loop-number-init
loop-number-init c = grind (arith, common_steps)

pub overflow_sub-number : goal.overflow_sub-number
overflow_sub-number c = grind (arith, common_steps)

pub index-requires : goal.index-requires
index-requires c = grind (arith, common_steps)

pub index_mut-requires : goal.index_mut-requires
index_mut-requires c = grind (arith, common_steps)

pub loop-number-smaller : goal.loop-number-smaller
loop-number-smaller c = grind (arith, common_steps)
