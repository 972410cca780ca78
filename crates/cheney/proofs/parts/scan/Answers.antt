use Rattle.std.proofs.Common.{refl}
use Rattle.cheney.specs.Zones.{at_objects}
use Rattle.cheney.proofs.Stepping.Steps.{aged-on, young-on, can-open-aged, can-open-young, all-scanned}
use Rattle.cheney.proofs.parts.scan.Goals as goal

pub scan_object-aged-requires : goal.scan_object-aged-requires
scan_object-aged-requires c = can-open-aged c.requires.plan c.args.mem.now c.loop-aged.mem c.loop-aged.mv c.loop-aged.aged c.loop-aged.young
    (c.loop-aged.invariant c.requires.plan c.requires.runs) c.if-aged-mv.true

pub scan_object-young-requires : goal.scan_object-young-requires
scan_object-young-requires c = can-open-young c.requires.plan c.args.mem.now c.loop-aged.mem c.loop-aged.mv c.loop-aged.aged c.loop-aged.young
    (c.loop-aged.invariant c.requires.plan c.requires.runs) c.if-young-mv.true

pub loop-aged-preserved-then-aged-mv : goal.loop-aged-preserved-then-aged-mv
loop-aged-preserved-then-aged-mv c = λ p run.
    aged-on p c.args.mem.now c.loop-aged.mem c.scan_object-aged.new.mem c.loop-aged.mv c.scan_object-aged.new.mv c.loop-aged.aged c.loop-aged.young c.scan_object-aged.result
    (c.loop-aged.invariant p run)
    (c.scan_object-aged.ensures.each p (at_objects c.loop-aged.aged c.loop-aged.young) (c.loop-aged.invariant p run).runs refl refl c.if-aged-mv.true)

pub loop-aged-preserved : goal.loop-aged-preserved
loop-aged-preserved c = λ p run.
    young-on p c.args.mem.now c.loop-aged.mem c.scan_object-young.new.mem c.loop-aged.mv c.scan_object-young.new.mv c.loop-aged.aged c.loop-aged.young c.scan_object-young.result
    (c.loop-aged.invariant p run)
    (c.scan_object-young.ensures.each p (at_objects c.loop-aged.aged c.loop-aged.young) (c.loop-aged.invariant p run).runs refl refl c.if-young-mv.true)

pub returns : goal.returns
returns c = λ p run. all-scanned p c.args.mem.now c.loop-aged.mem c.loop-aged.mv c.loop-aged.aged c.loop-aged.young (c.loop-aged.invariant p run) c.if-aged-mv.false c.if-young-mv.false
