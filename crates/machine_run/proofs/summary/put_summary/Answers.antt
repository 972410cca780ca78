-- The line was written whole where the sink took all of it, and else in part, and the fault is counted.
use Rattle.std.proofs.Common.{◌∙◌, ℕ, List, subst}
use Rattle.engine.specs.Rules.{Output}
use Rattle.engine.specs.Steps.{WritesAll, WritesPart}
use Rattle.machine_run.proofs.summary.put_summary.Goals as goal

pub returns-in-Ok : goal.returns-in-Ok
returns-in-Ok g c =
    let out : Output g.row.K.Denot = record { wrote = g.K.Sink.wrote; faults = g.K.Sink.faults; before = c.args.sink.now; after = c.put_all.new.sink } in
    let P : List ℕ → Type 0 = λ x. WritesAll out x in
    subst P (c.as_slice.ensures.value ∙ c.put_numbers.ensures) (c.in-Ok.ensures.all, c.in-Ok.ensures.told)

pub returns-in-Err : goal.returns-in-Err
returns-in-Err g c =
    let out : Output g.row.K.Denot = record { wrote = g.K.Sink.wrote; faults = g.K.Sink.faults; before = c.args.sink.now; after = c.put_all.new.sink } in
    let P : List ℕ → Type 0 = λ x. WritesPart out x in
    subst P (c.as_slice.ensures.value ∙ c.put_numbers.ensures) (c.in-Err.ensures.part, c.in-Err.ensures.rose)
