use Rattle.std.proofs.Common.{◌≡◌, ℕ, ◌+◌, ◌/◌, subst, arith}
use Rattle.term_words.specs.Object.{object_words}
use Rattle.word_shift.specs.Shifted.{FitsBeside, StaysBeside}
use Rattle.word_shift.proofs.Ranges.{fits-narrower, words-by-map}
use Rattle.word_shift.proofs.Objects.{object-large, object-size, object-small, object-two}
use Rattle.word_shift.proofs.rows.relocate_object.Goals as goal

pub relocate_words-requires-clause-fits : goal.relocate_words-requires-clause-fits
relocate_words-requires-clause-fits g c =
    let two : object_words c.args.mem.now c.requires.w ≡ 2 =
    object-two (g.P.Places.to c.args.places.now c.args.mem.now) c.args.mem.now c.args.mem.now c.requires.w c.args.at c.get-header.result c.requires.pointer c.requires.tile
    c.requires.place c.get-header.ensures c.if-header-ne0.true in
    let P : ℕ → Type 0 = λ n. FitsBeside (g.P.Places.fits c.args.places.now) (g.P.Places.to c.args.places.now) c.args.mem.now c.args.at (c.args.at + n) in
    subst P two c.requires.fit

pub relocate_words-requires-else-header-ne0-clause-fits : goal.relocate_words-requires-else-header-ne0-clause-fits
relocate_words-requires-else-header-ne0-clause-fits g c =
    let size : object_words c.args.mem.now c.requires.w ≡ 1 + c.get-header.result / 64 =
    object-size (g.P.Places.to c.args.places.now c.args.mem.now) c.args.mem.now c.args.mem.now c.requires.w c.args.at c.get-header.result c.requires.pointer c.requires.tile c.requires.place
    c.get-header.ensures c.if-header-ne0.false in
    fits-narrower (g.P.Places.fits c.args.places.now) (g.P.Places.to c.args.places.now) c.args.mem.now c.relocate_names.new.mem c.args.at (c.args.at + object_words c.args.mem.now c.requires.w)
    c.args.at (c.args.at + (1 + c.get-header.result / 64)) (c.args.at + c.traced_from.result) (c.args.at + (1 + c.get-header.result / 64)) c.requires.fit c.relocate_names.ensures.beside
    (omega arith) (omega (arith, size)) (omega arith) (omega (arith, size))

pub returns-then-header-ne0 : goal.returns-then-header-ne0
returns-then-header-ne0 g c = λ w y t e.
    object-small (g.P.Places.to c.args.places.now c.args.mem.now) c.args.mem.now c.relocate_words.new.mem w c.args.at c.get-header.result y t e c.get-header.ensures c.if-header-ne0.true
    c.relocate_words.ensures

pub returns-else-header-ne0 : goal.returns-else-header-ne0
returns-else-header-ne0 g c = λ w y t e.
    let size : object_words c.args.mem.now c.requires.w ≡ 1 + c.get-header.result / 64 =
    object-size (g.P.Places.to c.args.places.now c.args.mem.now) c.args.mem.now c.args.mem.now c.requires.w c.args.at c.get-header.result c.requires.pointer c.requires.tile
    c.requires.place c.get-header.ensures c.if-header-ne0.false in
    let beside : StaysBeside c.args.mem.now c.relocate_names.new.mem c.args.at (c.args.at + (1 + c.get-header.result / 64)) = c.relocate_names.ensures.beside in
    object-large (g.P.Places.to c.args.places.now c.args.mem.now) c.args.mem.now c.relocate_words-else-header-ne0.new.mem w c.args.at c.get-header.result y t e c.get-header.ensures
    c.if-header-ne0.false c.relocate_names.new.mem c.traced_from.result c.traced_from.ensures.first c.relocate_names.ensures.beside c.relocate_names.ensures.shifted
    (words-by-map (g.P.Places.to c.args.places.now c.relocate_names.new.mem) (g.P.Places.to c.args.places.now c.args.mem.now)
    (c.requires.fit.alike c.relocate_names.new.mem beside.same_len (λ q out. beside.same q (grind (arith, out, size)))) c.relocate_names.new.mem
    c.relocate_words-else-header-ne0.new.mem (c.args.at + c.traced_from.result) (c.args.at + (1 + c.get-header.result / 64)) c.relocate_words-else-header-ne0.ensures)
