use Rattle.std.proofs.Common.{arith}
use Rattle.term_words.proofs.ByKind.Inside.{map-inside}
use Rattle.term_read.proofs.Reading.{tells-map, no-map}
use Rattle.term_read.proofs.map.map_len.Goals as goal

pub returns-in_err-place : goal.returns-in_err-place
returns-in_err-place c = rw c.from_residual.ensures (no-map c.args.mem.now c.args.w c.in_err-place.ensures.none)

pub get-requires : goal.get-requires
get-requires c =
    let (tag, place, sub, inside) = c.in_ok-place.ensures.some in
    let (words, keys) = map-inside c.args.mem.now c.args.w c.in_ok-place.place c.requires tag place sub in
    omega (arith, inside, words)

pub returns : goal.returns
returns c =
    let (tag, place, sub, inside) = c.in_ok-place.ensures.some in
    rw c.get.ensures (tells-map c.args.mem.now c.args.w c.in_ok-place.place tag place sub)
