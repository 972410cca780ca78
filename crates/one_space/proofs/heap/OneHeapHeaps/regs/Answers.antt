use Rattle.std.proofs.Common.{length, sym, ◌∙◌, ap}
use Rattle.one_space.proofs.OfHeap.Keeping.{are-registers, row-inside}
use Rattle.one_space.proofs.heap.OneHeapHeaps.regs.Goals as goal

pub returns : goal.returns
returns c =
    let same = c.sixteen.ensures.same in
    rw same (are-registers c.args.self.now c.args.row c.process.result.now (row-inside c.args.self.now c.args.row c.requires) c.process.ensures (ap length (sym same) ∙ c.sixteen.ensures.count))
