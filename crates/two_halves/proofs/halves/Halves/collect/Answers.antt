use Rattle.two_halves.proofs.Collected.Done.{bins-in, collects, funs-in, may-move-all, may-sweep}
use Rattle.two_halves.proofs.Collected.Ended.{all-scanned, can-move-rows, can-scan}
use Rattle.two_halves.proofs.Collected.Planned.{is-target, target_of}
use Rattle.two_halves.proofs.halves.Halves.collect.Goals as goal

pub move_roots-requires : goal.move_roots-requires
move_roots-requires c =
    can-move-rows c.args.self.now c.requires.can (target_of c.args.self.now c.len-half.result c.count_places.result)
    (is-target c.args.self.now c.len-half.result c.count_places.result c.deref.result.now c.requires.can.laid c.len-half.ensures.len c.count_places.ensures c.deref.ensures.value)
    c.moving_between-mv.result c.moving_between-mv.ensures c.deref_mut.result.now c.deref_mut.ensures.value

pub scan-requires : goal.scan-requires
scan-requires c =
    can-scan c.args.self.now c.requires.can (target_of c.args.self.now c.len-half.result c.count_places.result)
    (is-target c.args.self.now c.len-half.result c.count_places.result c.deref.result.now c.requires.can.laid c.len-half.ensures.len c.count_places.ensures c.deref.ensures.value)
    c.moving_between-mv.result c.moving_between-mv.ensures c.deref_mut.result.now c.deref_mut.ensures.value c.move_roots.new.mem c.move_roots.new.mv
    c.move_roots.new.procs c.move_roots.ensures

pub sweep_chain-left-requires : goal.sweep_chain-left-requires
sweep_chain-left-requires c =
    may-sweep c.args.self.now (target_of c.args.self.now c.len-half.result c.count_places.result) c.scan.new.mem c.scan.new.mv c.move_roots.new.procs
    (all-scanned c.args.self.now c.requires.can (target_of c.args.self.now c.len-half.result c.count_places.result)
    (is-target c.args.self.now c.len-half.result c.count_places.result c.deref.result.now c.requires.can.laid c.len-half.ensures.len c.count_places.ensures c.deref.ensures.value)
    c.moving_between-mv.result c.moving_between-mv.ensures c.deref_mut.result.now c.deref_mut.ensures.value c.move_roots.new.mem c.move_roots.new.mv
    c.move_roots.new.procs c.move_roots.ensures c.scan.new.mem c.scan.new.mv c.scan.ensures)
    c.requires.can.standing

pub move_records-low-requires : goal.move_records-low-requires
move_records-low-requires c =
    may-move-all c.args.self.now (target_of c.args.self.now c.len-half.result c.count_places.result) c.scan.new.mem c.scan.new.mv c.move_roots.new.procs
    (all-scanned c.args.self.now c.requires.can (target_of c.args.self.now c.len-half.result c.count_places.result)
    (is-target c.args.self.now c.len-half.result c.count_places.result c.deref.result.now c.requires.can.laid c.len-half.ensures.len c.count_places.ensures c.deref.ensures.value)
    c.moving_between-mv.result c.moving_between-mv.ensures c.deref_mut.result.now c.deref_mut.ensures.value c.move_roots.new.mem c.move_roots.new.mv
    c.move_roots.new.procs c.move_roots.ensures c.scan.new.mem c.scan.new.mv c.scan.ensures)
    c.sweep_chain-left.new.mem c.sweep_chain-left.result c.sweep_chain-left.ensures
    c.requires.can.standing

pub renew-requires : goal.renew-requires
renew-requires c =
    bins-in c.args.self.now (target_of c.args.self.now c.len-half.result c.count_places.result) c.scan.new.mem c.scan.new.mv c.move_roots.new.procs
    (all-scanned c.args.self.now c.requires.can (target_of c.args.self.now c.len-half.result c.count_places.result)
    (is-target c.args.self.now c.len-half.result c.count_places.result c.deref.result.now c.requires.can.laid c.len-half.ensures.len c.count_places.ensures c.deref.ensures.value)
    c.moving_between-mv.result c.moving_between-mv.ensures c.deref_mut.result.now c.deref_mut.ensures.value c.move_roots.new.mem c.move_roots.new.mv
    c.move_roots.new.procs c.move_roots.ensures c.scan.new.mem c.scan.new.mv c.scan.ensures)
    c.sweep_chain-left.new.mem c.sweep_chain-left.result c.sweep_chain-left.ensures c.move_records-low.new.mem c.move_records-low.result c.move_records-low.ensures
    c.requires.can.standing

pub renew-requires-2 : goal.renew-requires-2
renew-requires-2 c =
    funs-in c.args.self.now (target_of c.args.self.now c.len-half.result c.count_places.result) c.scan.new.mem c.scan.new.mv c.move_roots.new.procs
    (all-scanned c.args.self.now c.requires.can (target_of c.args.self.now c.len-half.result c.count_places.result)
    (is-target c.args.self.now c.len-half.result c.count_places.result c.deref.result.now c.requires.can.laid c.len-half.ensures.len c.count_places.ensures c.deref.ensures.value)
    c.moving_between-mv.result c.moving_between-mv.ensures c.deref_mut.result.now c.deref_mut.ensures.value c.move_roots.new.mem c.move_roots.new.mv
    c.move_roots.new.procs c.move_roots.ensures c.scan.new.mem c.scan.new.mv c.scan.ensures)
    c.sweep_chain-left.new.mem c.sweep_chain-left.result c.sweep_chain-left.ensures c.move_records-low.new.mem c.move_records-low.result c.move_records-low.ensures
    c.requires.can.standing

pub returns : goal.returns
returns c =
    collects c.args.self.now (target_of c.args.self.now c.len-half.result c.count_places.result) c.scan.new.mem c.scan.new.mv c.move_roots.new.procs
    (all-scanned c.args.self.now c.requires.can (target_of c.args.self.now c.len-half.result c.count_places.result)
    (is-target c.args.self.now c.len-half.result c.count_places.result c.deref.result.now c.requires.can.laid c.len-half.ensures.len c.count_places.ensures c.deref.ensures.value)
    c.moving_between-mv.result c.moving_between-mv.ensures c.deref_mut.result.now c.deref_mut.ensures.value c.move_roots.new.mem c.move_roots.new.mv
    c.move_roots.new.procs c.move_roots.ensures c.scan.new.mem c.scan.new.mv c.scan.ensures)
    c.sweep_chain-left.new.mem c.sweep_chain-left.result c.sweep_chain-left.ensures c.move_records-low.new.mem c.move_records-low.result c.move_records-low.ensures
    c.renew.new.table c.renew-2.new.table c.renew.ensures.items c.renew-2.ensures.items c.renew.ensures.capacity c.renew-2.ensures.capacity c.requires.can.standing
