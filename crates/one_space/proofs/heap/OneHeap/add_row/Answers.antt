use Rattle.std.proofs.Common.{Option, length, ap, arith}
use Rattle.std.specs.Option.{option_to_list}
use Rattle.two_halves.specs.declared.table.Proc.{Proc}
use Rattle.one_space.proofs.OfHeap.Growing.{adds, box-there}
use Rattle.one_space.proofs.heap.OneHeap.add_row.Goals as goal

pub returns : goal.returns
returns c =
    adds c.args.self.now c.requires.ready.lives c.requires.few c.args.number c.push_reserved.new.self c.fresh.result c.push_reserved.ensures.items c.push_reserved.ensures.capacity
    c.fresh.ensures.number c.fresh.ensures.regs c.fresh.ensures.depth c.fresh.ensures.waiting c.fresh.ensures.refs c.pop.new.self
    (omega (
      arith,
      c.pop.ensures.len,
      ap (λ (o : Option Proc). length (option_to_list o)) c.in-Some.is,
      box-there c.args.self.now c.requires.ready.lives c.requires.few,
    ))
    c.pop.ensures.capacity
