use Rattle.trial_space.proofs.States.{printed, unprinted}
use Rattle.trial_space.proofs.space.TrialSpaceSpace.print.Goals as goal

pub returns-in-Ok : goal.returns-in-Ok
returns-in-Ok g c =
    let e = c.in-Ok.ensures in record {
      prints = λ s terms h.
          printed c.args.self.now.alive c.args.self.now.registers s c.args.seat h.0 c.requires.sits c.args.s terms c.args.names.now g.K.Sink.wrote _ _ c.item.result c.item.ensures e.all;
      big = λ x. absurd (cc);
      later = e.later;
      rose = λ x. absurd (cc);
      told = e.told;
    }

pub returns-in-Err : goal.returns-in-Err
returns-in-Err g c =
    let e = c.in-Err.ensures in record {
      prints = λ s terms h.
          unprinted c.args.self.now.alive c.args.self.now.registers s c.args.seat h.0 c.requires.sits c.args.s terms c.args.names.now g.K.Sink.wrote _ _ c.item.result c.item.ensures e.part;
      big = λ x. absurd (cc);
      later = e.later;
      rose = λ x. e.rose;
      told = tt;
    }
