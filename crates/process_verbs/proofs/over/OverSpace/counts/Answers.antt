use Rattle.std.proofs.Common.{◌≤◌, length, sym, ap, arith}
use Rattle.atom_names.specs.Names.{AreNames}
use Rattle.process_verbs.specs.Verbs.{VerbsStand}
use Rattle.process_verbs.proofs.over.OverSpace.counts.Goals as goal

pub returns-clause-allowed : goal.returns-clause-allowed
returns-clause-allowed g c = λ s h same.
    let m = g.H.Heaps.meaning in
    let o : VerbsStand m c.self.inside.verbs s = rw c.self.view_is h.0 in
    let few : c.self.inside.verbs.named ≤ length s.names = omega (arith, c.requires.named, ap length same, ap (λ b. b.named) c.self.view_is) in
    let names : AreNames s.names = rw (sym same) c.sound.ensures in
    rw (sym c.self.view_is, same) (c.images_stand.ensures.counted c.self.inside.verbs.named s (record { processes = o.processes; areas = o.areas; tidy = λ e. o.tidy e }) names few)
