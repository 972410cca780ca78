use Rattle.script_grammar.specs.declared.command.Command.TheVariants.{Process}
use Rattle.script_grammar.specs.declared.command.Verb.TheVariants as verb
use Rattle.space_api.proofs.Naming.{environs}
use Rattle.process_verbs.specs.Verbs.{VerbsStand}
use Rattle.process_verbs.proofs.Spaces.{becomes-so}
use Rattle.process_verbs.proofs.over.OverSpace.make_fun.Goals as goal

pub returns-clause-becomes : goal.returns-clause-becomes
returns-clause-becomes g c = λ s terms names h has env.
    becomes-so c.self.view_is (Process c.args.seat.pid (verb.Fun c.args.r c.args.name c.args.arity)) terms names s h has (environs names c.args.name c.args.env.now terms env)
    c.make_fun.result (VerbsStand g.H.Heaps.meaning c.make_fun.new.self) (λ o. c.make_fun.ensures.becomes s terms names o env)
