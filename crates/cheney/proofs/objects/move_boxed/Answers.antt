use Rattle.std.proofs.Common.{true, false, ◌+◌, ◌/◌}
use Rattle.cheney.proofs.Stepping.Steps.{Spot, from-moves, boxed-some, boxed-spot, boxed-found, boxed-to}
use Rattle.cheney.proofs.objects.move_boxed.Goals as goal

pub get-header-requires : goal.get-header-requires
get-header-requires c = boxed-some c.args.mem.now c.args.mv.now c.args.w c.requires.can c.requires.tag

pub returns-then-header-eq2 : goal.returns-then-header-eq2
returns-then-header-eq2 c = boxed-found c.args.mem.now c.args.mv.now c.args.w c.get-header.result c.requires.tag c.if-stays_at.ensures c.get-header.ensures c.if-header-eq2.true

pub boxed_to-requires : goal.boxed_to-requires
boxed_to-requires c =
    let place : Spot c.args.mem.now c.args.mv.now c.args.w (1 + c.get-header.result / 64) true =
    boxed-spot c.args.mem.now c.args.mv.now c.args.w c.get-header.result true c.requires.can c.requires.tag c.if-stays_at.ensures c.get-header.ensures
    c.if-header-eq2.false c.if-is_in.ensures in
    record { tag = c.requires.tag; header = c.get-header.ensures; within = place.within; fits = place.fits; apart = place.apart }

pub boxed_to-requires-else-is_in : goal.boxed_to-requires-else-is_in
boxed_to-requires-else-is_in c =
    let place : Spot c.args.mem.now c.args.mv.now c.args.w (1 + c.get-header.result / 64) false =
    boxed-spot c.args.mem.now c.args.mv.now c.args.w c.get-header.result false c.requires.can c.requires.tag c.if-stays_at.ensures c.get-header.ensures
    c.if-header-eq2.false c.if-is_in.ensures in
    record { tag = c.requires.tag; header = c.get-header.ensures; within = place.within; fits = place.fits; apart = place.apart }

pub returns-then-is_in : goal.returns-then-is_in
returns-then-is_in c =
    boxed-to c.args.mem.now c.boxed_to.new.mem c.args.mv.now true c.boxed_to.new.room c.args.w c.get-header.result c.boxed_to.result c.requires.tag c.if-stays_at.ensures c.get-header.ensures
    c.if-header-eq2.false c.if-is_in.ensures c.boxed_to.ensures.copies c.boxed_to.ensures.room

pub returns-else-is_in : goal.returns-else-is_in
returns-else-is_in c =
    boxed-to c.args.mem.now c.boxed_to-else-is_in.new.mem c.args.mv.now false c.boxed_to-else-is_in.new.room c.args.w c.get-header.result c.boxed_to-else-is_in.result c.requires.tag
    c.if-stays_at.ensures c.get-header.ensures c.if-header-eq2.false c.if-is_in.ensures
    c.boxed_to-else-is_in.ensures.copies c.boxed_to-else-is_in.ensures.room

pub stays_at-requires : goal.stays_at-requires
stays_at-requires c = from-moves c.args.mem.now c.args.mv.now c.args.w c.requires.can
