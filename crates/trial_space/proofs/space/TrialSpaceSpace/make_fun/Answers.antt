use Rattle.std.proofs.Common.{refl, arith}
use Rattle.script_grammar.specs.declared.command.Command.TheVariants.{Process}
use Rattle.script_grammar.specs.declared.command.Verb.TheVariants.{Fun}
use Rattle.space_api.proofs.Naming.{environs}
use Rattle.space_api.proofs.Proper.{becomes-proper}
use Rattle.trial_space.proofs.States.{fun-lacks}
use Rattle.trial_space.proofs.space.TrialSpaceSpace.make_fun.Goals as goal

pub returns-clause-becomes : goal.returns-clause-becomes
returns-clause-becomes c = λ s terms names h has e.
    becomes-proper s (Process c.args.seat.pid (Fun c.args.r c.args.name c.args.arity)) terms names h.1 has (environs names c.args.name c.args.env.now terms e)
    0 _ _
    (fun-lacks c.args.self.now.alive c.args.self.now.registers s c.args.seat h.0 c.requires.sits c.args.r c.args.name c.args.arity _ c.args.env.now terms names e refl
    (omega (arith, c.if-arity-gt-MOST_ARITY.false)))
