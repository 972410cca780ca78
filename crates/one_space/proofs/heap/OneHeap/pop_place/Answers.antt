use Rattle.std.proofs.Common.{◌-◌, arith, refl}
use Rattle.one_space.proofs.OfHeap.Acting.{pops-inside, pops-none, pops-some}
use Rattle.one_space.proofs.heap.OneHeap.pop_place.Goals as goal

pub returns-then-process-eq0 : goal.returns-then-process-eq0
returns-then-process-eq0 c = pops-none c.args.self.now c.requires.ready.lives c.args.row c.requires.row c.args.r c.process.result.now c.process.ensures c.if-process-eq0.true

pub get-requires : goal.get-requires
get-requires c =
    omega (arith, pops-inside c.args.self.now c.requires.ready.lives c.args.row c.requires.row c.args.r c.process.result.now c.process.ensures c.if-process-eq0.false)

pub overflow_add-place : goal.overflow_add-place
overflow_add-place c =
    omega (
      arith,
      c.bounded.ensures,
      pops-inside c.args.self.now c.requires.ready.lives c.args.row c.requires.row c.args.r c.process.result.now c.process.ensures c.if-process-eq0.false,
    )

pub get-requires-2 : goal.get-requires-2
get-requires-2 c =
    omega (arith, pops-inside c.args.self.now c.requires.ready.lives c.args.row c.requires.row c.args.r c.process.result.now c.process.ensures c.if-process-eq0.false)

pub returns : goal.returns
returns c =
    pops-some c.args.self.now c.requires.ready.lives c.args.row c.requires.row c.args.r c.process.result.now c.process.ensures c.if-process-eq0.false c.get.result c.get-2.result
    (c.process.result.now.depth - 1) c.get.ensures c.get-2.ensures refl
