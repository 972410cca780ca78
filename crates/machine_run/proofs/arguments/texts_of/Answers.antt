-- One word more has its text, and at the end all have.
use Rattle.std.proofs.Common.{◌∙◌, ap, map, string_bytes, arith}
use Rattle.std.proofs.lemmas.Grind.{common_steps}
use Rattle.std.proofs.lemmas.List.{take_all}
use Rattle.machine_run.proofs.arguments.texts_of.Goals as goal

pub loop-word-preserved : goal.loop-word-preserved
loop-word-preserved c = grind (arith, common_steps, c.loop-word.invariant, c.in-Ok.ensures.items, c.as_str.ensures.value)

pub returns : goal.returns
returns c = c.loop-word.invariant ∙ ap (map string_bytes) (take_all c.loop-word.word-index c.args.words.now c.loop-word-test.false)
