use Rattle.std.proofs.Common.{true, false}
use Rattle.cheney.proofs.Stepping.Steps.{Spot, cons-spot, cons-to}
use Rattle.cheney.proofs.objects.copy_cons.Goals as goal

pub cons_to-requires : goal.cons_to-requires
cons_to-requires c =
    let place : Spot c.args.mem.now c.args.mv.now c.args.w 2 true = cons-spot c.args.mem.now c.args.mv.now c.args.w c.args.head c.args.tail true c.requires.can c.requires.fresh c.if-is_in.ensures in
    record { tag = c.requires.fresh.tag; head = c.requires.fresh.head_is; tail = c.requires.fresh.tail_is; within = place.within; fits = place.fits; apart = place.apart }

pub cons_to-requires-else-is_in : goal.cons_to-requires-else-is_in
cons_to-requires-else-is_in c =
    let place : Spot c.args.mem.now c.args.mv.now c.args.w 2 false = cons-spot c.args.mem.now c.args.mv.now c.args.w c.args.head c.args.tail false c.requires.can c.requires.fresh c.if-is_in.ensures in
    record { tag = c.requires.fresh.tag; head = c.requires.fresh.head_is; tail = c.requires.fresh.tail_is; within = place.within; fits = place.fits; apart = place.apart }

pub returns-then-is_in : goal.returns-then-is_in
returns-then-is_in c =
    cons-to c.args.mem.now c.cons_to.new.mem c.args.mv.now true c.cons_to.new.room c.args.w c.args.head c.args.tail c.cons_to.result c.requires.fresh c.if-is_in.ensures
    c.cons_to.ensures.copies c.cons_to.ensures.room

pub returns-else-is_in : goal.returns-else-is_in
returns-else-is_in c =
    cons-to c.args.mem.now c.cons_to-else-is_in.new.mem c.args.mv.now false c.cons_to-else-is_in.new.room c.args.w c.args.head c.args.tail c.cons_to-else-is_in.result c.requires.fresh
    c.if-is_in.ensures
    c.cons_to-else-is_in.ensures.copies c.cons_to-else-is_in.ensures.room
