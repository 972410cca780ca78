use Rattle.std.proofs.Common.{ℕ, ◌<◌, length, subst}
use Rattle.off_heap_list.specs.Links.{name_place}
use Rattle.off_heap_list.proofs.Chaining.Chained.{renamed-keeps}
use Rattle.off_heap_list.proofs.links.set_record.Goals as goal

pub returns-clause-kept : goal.returns-clause-kept
returns-clause-kept c = λ k single name like.
    let P : ℕ → Type 0 = λ x. x < length c.args.mem.now in
    rw (c.set.ensures, c.name_of-place.ensures.place) (renamed-keeps k c.args.mem.now (name_place c.args.mem.now c.args.object) c.args.at single
    (subst P c.name_of-place.ensures.place c.name_of-place.ensures.inside) name like)
