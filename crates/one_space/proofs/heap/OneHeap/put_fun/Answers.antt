use Rattle.std.proofs.Common.{length, take, arith}
use Rattle.one_space.proofs.OfHeap.Putting.{fun-fits, fun-gains, fun-named}
use Rattle.one_space.proofs.heap.OneHeap.put_fun.Goals as goal

pub add_fun-w-requires-clause-named : goal.add_fun-w-requires-clause-named
add_fun-w-requires-clause-named c = fun-named c.args.self.now c.requires.ready c.args.name

pub add_fun-w-requires-clause-table : goal.add_fun-w-requires-clause-table
add_fun-w-requires-clause-table c =
    let l = c.requires.ready.lives in
    fun-fits l.named c.args.self.now.halves l.shared l.processes l.stood.is l.whole.laid (omega (arith, c.requires.room)) l.whole.funs

pub returns-clause-gains : goal.returns-clause-gains
returns-clause-gains c =
    fun-gains c.args.self.now c.requires.ready c.args.name c.args.row c.requires.row c.args.r c.args.arity c.args.env.now c.requires.env c.process.result.now c.process.ensures
    (take (length c.args.env.now) c.gather.new.row) c.gather.ensures.words c.add_fun-w.new.self c.add_fun-w.ensures.adds c.add_fun-w.ensures.uses
    c.process_mut-process.result.now c.process_mut-process.ensures.value c.add_fun-w.result c.add_fun-w.ensures.gets
