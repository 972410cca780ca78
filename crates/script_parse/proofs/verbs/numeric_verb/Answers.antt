use Rattle.std.proofs.Common.{refl, rules}
use Rattle.script_parse.proofs.Stepwise.NumberRows.{numbers-run}
use Rattle.script_parse.proofs.verbs.numeric_verb.Goals.{in_default-via-in-None-1, in_default-via-in-Some+in-None-1}
use Rattle.script_parse.proofs.verbs.numeric_verb.Goals as goal

pub returns : goal.returns
returns c = λ o. rw (numbers-run c.args.word c.in-Some.kinds.now c.args.line.now o (c.in-Some.ensures.0) (c.in-Some.ensures.1), c.in-Some-numbers.ensures, c.made.ensures) refl

pub returns-2 : goal.returns-2
returns-2 c = elim c.in_default.branch [
  | in_default-via-in-None-1 w ↦ λ o. search rules
  | in_default-via-in-Some+in-None-1 w ↦ λ o. rw (numbers-run c.args.word w.in-Some.kinds.now c.args.line.now o (w.in-Some.ensures.0) (w.in-Some.ensures.1)) (search rules)
]
