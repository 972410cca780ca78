use Rattle.std.proofs.Common.{refl, arith, rules}
use Rattle.std.proofs.lemmas.Grind.{common_steps}
use Rattle.script_parse.specs.Output.{given}
use Rattle.script_parse.proofs.Stepwise.TermSteps.{leaf-atom, leaf-plain}
use Rattle.script_parse.proofs.terms.leaf.Goals as goal

pub returns-in-Some : goal.returns-in-Some
returns-in-Some c = record {
  read = rw c.put_atom.ensures.atom (leaf-atom c.args.line.now c.in-Some.name.now c.in-Some.rest.now (given c.args.out.now) c.in-Some.ensures.value);
  grown = c.put_atom.ensures.grown;
  room = (omega (arith, c.put_atom.ensures.one, c.in-Some.ensures.shorter), c.in-Some.ensures.shorter);
}

pub returns-in-Some-item : goal.returns-in-Some-item
returns-in-Some-item c = record {
  read = rw (leaf-plain c.args.line.now (given c.args.out.now) c.in_default.ensures.value, c.in-Some-item.ensures.value, c.push.ensures.item) refl;
  grown = c.push.ensures.grown;
  room = (grind (arith, common_steps), c.in-Some-item.ensures.shorter);
}

pub returns : goal.returns
returns c = record {
  read = rw (leaf-plain c.args.line.now (given c.args.out.now) c.in_default.ensures.value, c.in_default-item.ensures.value) refl;
  grown = search rules;
  room = tt;
}
