-- The script was served by a machine that stood for the first state.
use Rattle.std.proofs.Common.{◌∙◌}
use Rattle.plain_machine.specs.State.{first_state}
use Rattle.space_api.specs.Calls.{Properly}
use Rattle.one_space.specs.Space.{OneStands}
use Rattle.process_verbs.specs.Listing.{command_text}
use Rattle.one_space.specs.Heap.{one_meaning}
use Rattle.engine.specs.Acts.{leaving}
use Rattle.engine.specs.Rules.{After, Input, Output}
use Rattle.engine.specs.Serving.{Served}
use Rattle.engine.proofs.Turns.{same-rules}
use Rattle.machine_run.specs.declared.store.Store.TheVariants.{One}
use Rattle.machine_run.specs.Contract.{StoreStands}
use Rattle.machine_run.proofs.Served.{if-served, not-usage, write-told, stands-so}
use Rattle.machine_run.proofs.serving.run_read.Goals as goal

pub returns-in-Some : goal.returns-in-Some
returns-in-Some g c =
    let all = c.serve-status.ensures.served first_state c.in-Some.ensures.stands in
    let before : Input = record { before = g.S.Source.left c.args.source.now; after = g.S.Source.left c.serve-status.new.source } in
    let out : Output g.row.K.Denot = record { wrote = g.K.Sink.wrote; faults = g.K.Sink.faults; before = c.args.sink.now; after = c.serve-status.new.sink } in
    let machine : After = leaving (Properly (OneStands c.serve-status.new.m.space)) (command_text one_meaning c.serve-status.new.m.space) c.serve-status.new.m.names in
    let told = c.images_stand.ensures.counts c.serve-status.new.m.names c.sound.ensures c.serve-status.ensures.named in
    record {
      begins = not-usage _ _ _ _ _ all;
      served = if-served _ before out _ _ _
          (stands-so _ before out machine (StoreStands c.args.arena (One c.serve-status.new.m)) _
          (λ s h. (h, c.images_stand.ensures.stands s h.0, c.serve-status.ensures.words ∙ c.in-Some.ensures.words, told))
          (same-rules (λ r. Served r before out machine c.serve-status.result) _ _ _ _ _ c.in-Some.ensures.words c.in-Ok.ensures.limits all));
      read_told = c.serve-status.ensures.told;
      write_told = write-told _ _ _ _ _ all;
    }
