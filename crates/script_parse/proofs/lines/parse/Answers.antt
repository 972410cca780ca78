use Rattle.std.proofs.Common.{arith, false}
use Rattle.std.proofs.lemmas.Grind.{common_steps}
use Rattle.script_parse.specs.Output.{out}
use Rattle.script_parse.proofs.OfLines.Verdict.{said, command-fits, over, refused}
use Rattle.script_parse.proofs.lines.parse.Goals as goal

pub returns-then-not-full-clause-said : goal.returns-then-not-full-clause-said
returns-then-not-full-clause-said c = said c.args.line.now c.args.names.now c.in-Some.command c.read.new.names c.in-Some.full c.read.new.code
    (rw c.clear.ensures at c.in-Some.ensures.read) c.if-not-full.true c.count-before.ensures.names.few

pub returns-then-not-full-clause-built : goal.returns-then-not-full-clause-built
returns-then-not-full-clause-built c = (command-fits c.args.line.now c.args.names.now c.in-Some.command c.read.new.names c.in-Some.full c.read.new.code
    (rw c.clear.ensures at c.in-Some.ensures.read) c.if-not-full.true c.count-before.ensures.names.few).0

pub returns-then-not-full-clause-bounds : goal.returns-then-not-full-clause-bounds
returns-then-not-full-clause-bounds c = (command-fits c.args.line.now c.args.names.now c.in-Some.command c.read.new.names c.in-Some.full c.read.new.code
    (rw c.clear.ensures at c.in-Some.ensures.read) c.if-not-full.true c.count-before.ensures.names.few).1

pub returns-in-Some-clause-atoms : goal.returns-in-Some-clause-atoms
returns-in-Some-clause-atoms c = λ e. over c.args.line.now c.args.names.now c.in-Some.command c.read.new.names c.in-Some.full c.read.new.code
    (rw c.clear.ensures at c.in-Some.ensures.read) c.if-not-full.false

pub returns-clause-syntax : goal.returns-clause-syntax
returns-clause-syntax c = λ e w s b. refused c.args.line.now (out c.args.names.now false c.clear.new.self) c.in_default.ensures.read w s b

pub read-requires : goal.read-requires
read-requires c = grind (arith, common_steps)

pub returns-then-not-full-clause-kept : goal.returns-then-not-full-clause-kept
returns-then-not-full-clause-kept c = grind (arith, common_steps)

pub returns-then-not-full-clause-syntax : goal.returns-then-not-full-clause-syntax
returns-then-not-full-clause-syntax c = grind (arith, common_steps)

pub returns-then-not-full-clause-atoms : goal.returns-then-not-full-clause-atoms
returns-then-not-full-clause-atoms c = grind (arith, common_steps)

pub forget-requires : goal.forget-requires
forget-requires c = grind (arith, common_steps)

pub returns-in-Some-clause-said : goal.returns-in-Some-clause-said
returns-in-Some-clause-said c = grind (arith, common_steps)

pub returns-in-Some-clause-built : goal.returns-in-Some-clause-built
returns-in-Some-clause-built c = grind (arith, common_steps)

pub returns-in-Some-clause-bounds : goal.returns-in-Some-clause-bounds
returns-in-Some-clause-bounds c = grind (arith, common_steps)

pub returns-in-Some-clause-kept : goal.returns-in-Some-clause-kept
returns-in-Some-clause-kept c = grind (arith, common_steps)

pub returns-in-Some-clause-syntax : goal.returns-in-Some-clause-syntax
returns-in-Some-clause-syntax c = grind (arith, common_steps)

pub forget-requires-2 : goal.forget-requires-2
forget-requires-2 c = grind (arith, common_steps)

pub returns-clause-said : goal.returns-clause-said
returns-clause-said c = grind (arith, common_steps)

pub returns-clause-built : goal.returns-clause-built
returns-clause-built c = grind (arith, common_steps)

pub returns-clause-bounds : goal.returns-clause-bounds
returns-clause-bounds c = grind (arith, common_steps)

pub returns-clause-kept : goal.returns-clause-kept
returns-clause-kept c = grind (arith, common_steps)

pub returns-clause-atoms : goal.returns-clause-atoms
returns-clause-atoms c = grind (arith, common_steps)
