use Rattle.process_verbs.proofs.Telling.{is-held}
use Rattle.process_verbs.proofs.verbs.Verbs.word.Goals as goal

pub returns : goal.returns
returns g c = λ s o. is-held g.H.Heaps.meaning c.args.self.now c.requires.holds.counts c.args.seat c.requires.sits c.regs.result.now c.regs.ensures s o c.args.r c.requires.register
