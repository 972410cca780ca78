use Rattle.std.proofs.Common.{◌+◌, ◌-◌, sym, ◌∙◌, arith}
use Rattle.std.proofs.lemmas.Grind.{common_steps}
use Rattle.script_grammar.specs.declared.limits.TheConstants.{MOST_HELD}
use Rattle.script_parse.specs.Output.{given}
use Rattle.script_parse.proofs.Stepwise.KeepsSteps.{grows-then}
use Rattle.script_parse.proofs.Stepwise.RowSteps.{held-step}
use Rattle.script_parse.proofs.verbs.environment.Goals as goal

pub loop-preserved : goal.loop-preserved
loop-preserved c = record {
  read = sym (held-step (MOST_HELD - (c.loop.counter + 1)) (MOST_HELD - c.loop.counter) c.loop.rest.now c.in-Some.after.now (given c.loop.out) (given c.push.new.self) c.in-Some.r
      (omega (arith, c.loop-test.true)) c.in-Some.ensures.value c.push.ensures.item)
      ∙ c.loop.invariant.read;
  grown = grows-then c.args.out.now c.loop.out c.push.new.self c.loop.invariant.grown c.push.ensures.grown;
  room = grind (arith, common_steps);
}

pub loop-init : goal.loop-init
loop-init c = grind (arith, common_steps)

pub returns-in_default-clause-grown : goal.returns-in_default-clause-grown
returns-in_default-clause-grown c = grind (arith, common_steps)

pub push-requires : goal.push-requires
push-requires c = grind (arith, common_steps)

pub returns-clause-read : goal.returns-clause-read
returns-clause-read c = grind (arith, common_steps)

pub returns-clause-grown : goal.returns-clause-grown
returns-clause-grown c = grind (arith, common_steps)
