use Rattle.atom_names.proofs.Filled.{named-size}
use Rattle.atom_names.proofs.names.AtomNames.name.Goals as goal

pub returns-clause-sized : goal.returns-clause-sized
returns-clause-sized c =
    named-size c.self.inside.rows.items c.self.inside.table c.self.inside.count c.args.k c.args.self.now c.index.result.now
    c.name_in.result.now c.self.invariant c.self.view_is c.requires c.index.ensures c.name_in.ensures
