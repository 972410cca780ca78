use Rattle.std.proofs.Common.{◌≡◌, ℕ, replicate}
use Rattle.std.proofs.lemmas.List.{get_or-replicate, length-replicate}
use Rattle.atom_names.proofs.Probing.{Finds_none}
use Rattle.atom_names.specs.declared.names.TheConstants.{MOST_NAMES}
use Rattle.atom_names.proofs.table.Table.new.Goals as goal

pub returns : goal.returns
returns c = λ names.
    let filled : c.in_ok-slots.slots.items ≡ replicate 65536 0 = c.in_ok-slots.ensures.items_if_clones_equal (λ y e. e) in
    let placed : c.in_ok-places.places.items ≡ replicate MOST_NAMES 0 = c.in_ok-places.ensures.items_if_clones_equal (λ y e. e) in
    Finds_none names c.in_ok-slots.slots.items c.in_ok-places.places.items (rw filled (length-replicate {A = ℕ} 65536 0))
    (rw placed (length-replicate {A = ℕ} MOST_NAMES 0)) (λ i h. rw filled (get_or-replicate 65536 i 0 0 h))
