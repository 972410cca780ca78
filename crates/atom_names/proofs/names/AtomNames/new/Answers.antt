use Rattle.std.proofs.Common.{◌≡◌, [], length, replicate, arith, rules}
use Rattle.std.proofs.lemmas.List.{get_or-replicate}
use Rattle.atom_names.specs.declared.row.Row.{Row}
use Rattle.atom_names.proofs.Places.{AreNames_none}
use Rattle.atom_names.specs.declared.names.TheConstants.{MOST_NAMES}
use Rattle.atom_names.specs.declared.row.TheConstants.{LONGEST_NAME}
use Rattle.atom_names.proofs.names.AtomNames.new.Goals as goal

pub invariant_of-result : goal.invariant_of-result
invariant_of-result c =
    let room : length c.in-Ok-vec.rows.items ≡ MOST_NAMES = search rules in
    let same = c.in-Ok-vec.ensures.items_if_clones_equal in
    let row : Row = record { len = 0; bytes = replicate LONGEST_NAME 0 } in
    let filled : c.in-Ok-vec.rows.items ≡ replicate MOST_NAMES row = same (λ y e. e) in
    record {
      room = room;
      within = omega arith;
      short = λ k d h. rw filled (rw (get_or-replicate MOST_NAMES k row d (omega arith)) (omega arith));
      names = AreNames_none;
      finds = c.in-Ok.ensures [];
    }
