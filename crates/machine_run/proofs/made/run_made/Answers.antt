-- The script was done by a machine that stood for the first state.
use Rattle.std.proofs.Common.{◌∙◌, ℕ, subst}
use Rattle.plain_machine.specs.State.{State, first_state}
use Rattle.space_api.specs.Calls.{Properly}
use Rattle.one_space.specs.Space.{OneStands}
use Rattle.engine.specs.Acts.{StandsWith}
use Rattle.engine.specs.Rules.{Output}
use Rattle.machine_run.specs.declared.store.Store.TheVariants.{One}
use Rattle.machine_run.specs.Contract.{StoreStands}
use Rattle.machine_run.specs.Made.{IsMade}
use Rattle.machine_run.proofs.Served.{if-made, made-so}
use Rattle.machine_run.proofs.made.run_made.Goals as goal

pub returns-clause-made : goal.returns-clause-made
returns-clause-made g c =
    let m = c.do_made-numbers.new.m in
    let numbers = c.do_made-numbers.result in
    let out : Output g.row.K.Denot = record { wrote = g.K.Sink.wrote; faults = g.K.Sink.faults; before = c.args.sink.now; after = c.put_summary.new.sink } in
    let machine : State → Type 0 = StandsWith (Properly (OneStands m.space)) m.names in
    let P : ℕ → Type 0 = λ words. IsMade words first_state c.args.number machine numbers in
    let done = subst P c.in-Some.ensures.words (c.do_made-numbers.ensures.made first_state c.in-Some.ensures.stands) in
    let told = c.images_stand.ensures.counts m.names c.sound.ensures c.do_made-numbers.ensures.named in
    if-made c.args.arena c.args.number out (StoreStands c.args.arena (One m)) numbers c.put_summary.result _
    (made-so _ first_state c.args.number machine _ numbers (λ s h. (h, c.images_stand.ensures.stands s h.0, c.do_made-numbers.ensures.words ∙ c.in-Some.ensures.words, told)) done)
    c.put_summary.ensures
