use Rattle.script_grammar.specs.declared.command.Command.TheVariants.{Process}
use Rattle.script_grammar.specs.declared.command.Verb.TheVariants as verb
use Rattle.space_api.specs.Calls.{one_term}
use Rattle.space_api.proofs.Naming.{builds}
use Rattle.process_verbs.specs.Verbs.{VerbsStand}
use Rattle.process_verbs.proofs.Spaces.{becomes-so}
use Rattle.process_verbs.proofs.over.OverSpace.build.Goals as goal

pub returns-clause-becomes : goal.returns-clause-becomes
returns-clause-becomes g c = λ s t h has is_term.
    becomes-so c.self.view_is (Process c.args.seat.pid (verb.Set c.args.r)) (one_term t) c.args.names.now s h has (builds c.args.names.now c.args.code.now t is_term c.requires.term.named)
    c.build.result (VerbsStand g.H.Heaps.meaning c.build.new.self) (λ o. c.build.ensures.builds.becomes s t o is_term)
