use Rattle.std.proofs.Common.{length, ap, arith}
use Rattle.std.proofs.lemmas.List.{length-set}
use Rattle.two_halves.proofs.Moved.Placing.{place-inside, place-moved}
use Rattle.two_halves.proofs.roots.move_place.Goals as goal

pub set-requires : goal.set-requires
set-requires c =
    omega (
      arith,
      place-inside c.args.mem.now c.evacuate-new.new.mem c.args.mv.now c.evacuate-new.new.mv c.args.place c.args.to c.get-w.result
          c.evacuate-new.result c.requires.can c.get-w.ensures c.evacuate-new.ensures c.requires.new,
    )

pub set-requires-2 : goal.set-requires-2
set-requires-2 c =
    omega (
      arith,
      ap length c.set.ensures,
      length-set c.evacuate-new.new.mem c.args.to c.evacuate-new.result,
      place-inside c.args.mem.now c.evacuate-new.new.mem c.args.mv.now c.evacuate-new.new.mv c.args.place c.args.to c.get-w.result
          c.evacuate-new.result c.requires.can c.get-w.ensures c.evacuate-new.ensures c.requires.new,
    )

pub returns : goal.returns
returns c = λ p k s.
    place-moved p c.args.mem.now c.evacuate-new.new.mem c.set.new.self c.set-2.new.self c.args.mv.now c.evacuate-new.new.mv k c.args.place c.args.to c.get-w.result
    c.evacuate-new.result s c.get-w.ensures (c.evacuate-new.ensures p k s.runs) c.set.ensures c.set-2.ensures
    (place-inside c.args.mem.now c.evacuate-new.new.mem c.args.mv.now c.evacuate-new.new.mv c.args.place c.args.to c.get-w.result
    c.evacuate-new.result c.requires.can c.get-w.ensures c.evacuate-new.ensures c.requires.new)
    c.get-below.result c.get-below.ensures
