use Rattle.std.proofs.Common.{ℕ, ◌-◌, List, length, sym, subst, arith}
use Rattle.std.proofs.lemmas.Result.{IfOk-weaker}
use Rattle.ladder_tests.specs.Bench.{ArePairs, shared_of}
use Rattle.term_words.specs.Role.{outside}
use Rattle.ladder_tests.proofs.Good.{pairs-good, good-front, good-rest}
use Rattle.ladder_tests.proofs.Maps.{can-map, map-made}
use Rattle.ladder_tests.proofs.objects.map_of.Goals as goal

pub map-requires-clause-pairs : goal.map-requires-clause-pairs
map-requires-clause-pairs c =
    let P : List (ℕ × ℕ) → Type 0 = λ x. ArePairs (shared_of c.args.rolls.now) c.args.names.now c.args.room.now c.args.mem.now x in
    can-map (shared_of c.args.rolls.now) c.args.names.now c.args.room.now c.args.mem.now _ (omega (arith, c.requires.spare))
    (subst P (sym c.as_slice.ensures.value)
    (c.paired-pairs.ensures _ _ _ _ (good-front _ _ _ _ c.args.parts.now c.args.n c.requires.good)
    (good-rest _ _ _ _ c.args.parts.now c.args.n (length c.args.parts.now - c.args.n) c.requires.good)))

pub returns : goal.returns
returns c =
    let P : List (ℕ × ℕ) → Type 0 = λ x. ArePairs (shared_of c.args.rolls.now) c.args.names.now c.args.room.now c.args.mem.now x in
    let g = pairs-good (shared_of c.args.rolls.now) c.args.names.now c.args.room.now c.args.mem.now c.as_slice.result.now
    (subst P (sym c.as_slice.ensures.value)
    (c.paired-pairs.ensures _ _ _ _ (good-front _ _ _ _ c.args.parts.now c.args.n c.requires.good)
    (good-rest _ _ _ _ c.args.parts.now c.args.n (length c.args.parts.now - c.args.n) c.requires.good))) in
    map-made (shared_of c.args.rolls.now) c.args.names.now g.given _ _ _ _ c.map.result c.requires.place (omega (arith, c.requires.spare)) g.named c.map.ensures.stopped
    (IfOk-weaker c.map.result _ _ (λ w made. made (outside c.args.room.now.top c.args.room.now.end) (shared_of c.args.rolls.now) g.given g.clear) c.map.ensures.made)
    (IfOk-weaker c.map.result _ _ (λ w made. made (shared_of c.args.rolls.now) g.given g.clear) c.map.ensures.made_clear) c.map.ensures.kept_clear
