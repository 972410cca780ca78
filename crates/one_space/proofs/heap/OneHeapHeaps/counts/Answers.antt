use Rattle.one_space.proofs.OfHeap.Counted.{can-tell}
use Rattle.one_space.proofs.heap.OneHeapHeaps.counts.Goals as goal

pub put_counts-requires : goal.put_counts-requires
put_counts-requires g c =
    let n = c.requires.named in
    rw (c.deref.ensures.value, c.deref-2.ensures.value)
    (can-tell n.named c.args.self.now.halves n.shared n.processes n.stood.is c.args.names.now n.few)
