use Rattle.std.proofs.Common.{[], sym, ap}
use Rattle.plain_term.specs.Text.{text}
use Rattle.text_parts.proofs.Writing.{written-as}
use Rattle.trial_space.specs.Items.{alone}
use Rattle.trial_space.proofs.printing.print_item.Goals as goal

pub returns-in-Atom : goal.returns-in-Atom
returns-in-Atom g c = written-as g.K.Sink.wrote g.K.Sink.faults _ _ _ _ c.print_name.result (ap (λ x. text c.args.names.now [] (alone x)) (sym c.in-Atom.is)) c.print_name.ensures

pub returns-in-Pid : goal.returns-in-Pid
returns-in-Pid g c = written-as g.K.Sink.wrote g.K.Sink.faults _ _ _ _ c.print_pid.result (ap (λ x. text c.args.names.now [] (alone x)) (sym c.in-Pid.is)) c.print_pid.ensures
