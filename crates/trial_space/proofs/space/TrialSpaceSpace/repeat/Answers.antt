use Rattle.std.proofs.Common.{sym, ◌∙◌, arith}
use Rattle.script_grammar.specs.declared.command.Command.TheVariants.{Process}
use Rattle.script_grammar.specs.declared.command.Verb.TheVariants.{Repeat}
use Rattle.space_api.proofs.Proper.{becomes-proper}
use Rattle.trial_space.proofs.States.{repeat-holds}
use Rattle.trial_space.proofs.space.TrialSpaceSpace.repeat.Goals as goal

pub returns-then-words-eq0-clause-becomes : goal.returns-then-words-eq0-clause-becomes
returns-then-words-eq0-clause-becomes c = λ s terms names h has.
    becomes-proper s (Process c.args.seat.pid (Repeat c.args.r c.args.shape c.args.n c.args.s)) terms names h.1 has tt 0 _ _
    (repeat-holds c.args.self.now.alive c.args.self.now.registers s c.args.seat h.0 c.requires.sits c.args.r c.args.s c.args.shape c.args.n terms names
    (omega (arith, c.if-n-gt-MOST_PLACES.false)) (sym c.many_words-words.ensures ∙ c.if-words-eq0.true))
