use Rattle.std.proofs.Common.{take, arith, ap, ◌∙◌}
use Rattle.atom_names.specs.Rows.{names_of}
use Rattle.atom_names.proofs.Filled.{Holds_forget, names_of-forget, view-len}
use Rattle.atom_names.proofs.names.AtomNames.forget.Goals as goal

pub invariant_of-self : goal.invariant_of-self
invariant_of-self c =
    let len = view-len c.self.inside.rows.items c.self.inside.table c.self.inside.count c.args.self.now c.self.invariant c.self.view_is in
    Holds_forget c.self.inside.rows.items c.self.inside.table c.free.new.self c.self.inside.count c.args.n c.self.invariant (omega arith)
    (c.free.ensures (names_of c.self.inside.rows.items c.self.inside.count) c.self.invariant.finds)

pub returns : goal.returns
returns c =
    let len = view-len c.self.inside.rows.items c.self.inside.table c.self.inside.count c.args.self.now c.self.invariant c.self.view_is in
    names_of-forget c.self.inside.rows.items c.args.n c.self.inside.count (omega arith) ∙ ap (take c.args.n) c.self.view_is

pub free-requires : goal.free-requires
free-requires c =
    let len = view-len c.self.inside.rows.items c.self.inside.table c.self.inside.count c.args.self.now c.self.invariant c.self.view_is in record {
      order = (omega arith, c.self.invariant.within);
      slots_room = c.self.invariant.finds.slots_room;
      places_room = c.self.invariant.finds.places_room;
      placed = c.self.invariant.finds.placed;
    }
