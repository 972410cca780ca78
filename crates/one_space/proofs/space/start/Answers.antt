use Rattle.std.proofs.Common.{false, refl}
use Rattle.plain_machine.proofs.Properly.Living.{first-proper}
use Rattle.process_verbs.specs.declared.verbs.Verbs.{Verbs}
use Rattle.one_space.specs.declared.heap.OneHeap.{OneHeap}
use Rattle.one_space.proofs.OfHeap.Opening.{first-holds, first-stands}
use Rattle.one_space.proofs.space.start.Goals as goal

pub over-requires : goal.over-requires
over-requires c =
    let b : Verbs OneHeap = record { heaps = c.in_ok-heaps.heaps; scratch = c.in-Ok.scratch; next = 2; serials = 0; named = 0; calls = 0; swept = false } in
    record { holds = first-holds c.args.words b.heaps c.in_ok-heaps.ensures c.requires.least c.requires.even b refl c.in-Ok.ensures.len refl refl refl refl refl }

pub returns-clause-first : goal.returns-clause-first
returns-clause-first c =
    let b : Verbs OneHeap = record { heaps = c.in_ok-heaps.heaps; scratch = c.in-Ok.scratch; next = 2; serials = 0; named = 0; calls = 0; swept = false } in
    rw c.over.ensures (first-stands c.args.words b.heaps c.in_ok-heaps.ensures c.requires.least c.requires.even b refl c.in-Ok.ensures.len refl refl refl refl refl, first-proper)
