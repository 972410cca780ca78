use Rattle.std.proofs.Common.{◌<◌, arith}
use Rattle.word_shift.proofs.Ranges.{relocates-by-map}
use Rattle.word_shift.proofs.Walk.{relocating-alike, relocating-can, relocating-ends, relocating-goes, relocating-step}
use Rattle.word_shift.proofs.rows.relocate_row.Goals as goal

pub relocate_object-at-requires : goal.relocate_object-at-requires
relocate_object-at-requires g c =
    relocating-can (g.P.Places.to c.args.places.now c.args.mem.now) c.args.mem.now c.loop-at.mem c.args.from c.loop-at.at c.args.to c.requires.row.ws
    (c.loop-at.invariant c.requires.row.ws c.requires.row.are) c.loop-at-test.true (g.P.Places.fits c.args.places.now) (g.P.Places.to c.args.places.now) c.requires.fits c.requires.row.inside

pub loop-at-smaller : goal.loop-at-smaller
loop-at-smaller g c =
    let goes : c.loop-at.at < c.relocate_object-at.result =
    relocating-goes (g.P.Places.to c.args.places.now c.args.mem.now) c.args.mem.now c.loop-at.mem c.args.from c.loop-at.at c.args.to c.requires.row.ws
    (c.loop-at.invariant c.requires.row.ws c.requires.row.are) c.loop-at-test.true c.relocate_object-at.new.mem c.relocate_object-at.result
    (λ w y t e.
    relocates-by-map (g.P.Places.to c.args.places.now c.loop-at.mem) (g.P.Places.to c.args.places.now c.args.mem.now)
    (relocating-alike (g.P.Places.to c.args.places.now c.args.mem.now) c.args.mem.now c.loop-at.mem c.args.from c.loop-at.at c.args.to c.requires.row.ws
    (c.loop-at.invariant c.requires.row.ws c.requires.row.are) c.loop-at-test.true (g.P.Places.fits c.args.places.now) (g.P.Places.to c.args.places.now) c.requires.fits)
    c.loop-at.mem c.relocate_object-at.new.mem w c.relocate_object-at.result (c.relocate_object-at.ensures w y t e)) in
    omega (arith, goes, c.loop-at-test.true)

pub loop-at-preserved : goal.loop-at-preserved
loop-at-preserved g c = λ ws are.
    relocating-step (g.P.Places.to c.args.places.now c.args.mem.now) c.args.mem.now c.loop-at.mem c.args.from c.loop-at.at c.args.to ws (c.loop-at.invariant ws are) c.loop-at-test.true
    c.relocate_object-at.new.mem c.relocate_object-at.result
    (λ w y t e.
    relocates-by-map (g.P.Places.to c.args.places.now c.loop-at.mem) (g.P.Places.to c.args.places.now c.args.mem.now)
    (relocating-alike (g.P.Places.to c.args.places.now c.args.mem.now) c.args.mem.now c.loop-at.mem c.args.from c.loop-at.at c.args.to ws
    (c.loop-at.invariant ws are) c.loop-at-test.true (g.P.Places.fits c.args.places.now) (g.P.Places.to c.args.places.now) c.requires.fits)
    c.loop-at.mem c.relocate_object-at.new.mem w c.relocate_object-at.result (c.relocate_object-at.ensures w y t e))

pub returns : goal.returns
returns g c = λ ws are.
    relocating-ends (g.P.Places.to c.args.places.now c.args.mem.now) c.args.mem.now c.loop-at.mem c.args.from c.loop-at.at c.args.to ws (c.loop-at.invariant ws are) c.loop-at-test.false
