use Rattle.std.proofs.Common.{ℕ, ◌+◌, ◌*◌, sym, ◌∙◌, subst}
use Rattle.plain_term.specs.Tree.Tree.{Map}
use Rattle.term_build.specs.Grows.{Built}
use Rattle.term_build.specs.Taken.{IsFree}
use Rattle.term_verbs.specs.Placed.{put_at_spot}
use Rattle.term_verbs.proofs.Mapping.{keys-there, length-there, values-there}
use Rattle.term_verbs.proofs.pairs.map_with.Goals as goal

pub returns-clause-built : goal.returns-clause-built
returns-clause-built c = λ r shared ps k v free s sk sv.
    let seen = c.in-Map.ensures.tree.each r shared (Map ps) s in
    let keys = keys-there r shared c.args.mem.now c.args.w ps k v c.in-Map.rows c.args.spot c.args.key c.args.value c.as_slice.result.now seen sk c.in-Map.ensures.places.0.within
    (c.as_slice.ensures.value ∙ c.row_with-keys.ensures) in
    let values = values-there r shared c.args.mem.now c.args.w ps k v c.in-Map.rows c.args.spot c.args.key c.args.value c.as_slice-2.result.now seen sv c.in-Map.ensures.places.1.within
    (c.as_slice-2.ensures.value ∙ c.row_with-values.ensures) in
    let count = length-there r shared c.args.mem.now c.args.w ps k v c.in-Map.rows c.args.spot c.args.key c.args.value c.as_slice.result.now seen c.in-Map.ensures.places.0.within
    (c.as_slice.ensures.value ∙ c.row_with-keys.ensures) in
    let P : ℕ → Type 0 = λ n. Built r c.args.room.now.top (4 + 2 * n) c.args.mem.now c.map_in_order.new.mem shared c.map_in_order.result (Map (put_at_spot c.args.spot k v ps)) in
    let F : ℕ → Type 0 = λ n. IsFree r c.args.room.now.top (c.args.room.now.top + (4 + 2 * n)) in
    subst P count (c.map_in_order.ensures.built r shared (put_at_spot c.args.spot k v ps) (subst F (sym count) free) keys values)
