-- The limits of names in figures: a constant that is cited by its name is pinned here.
use Rattle.std.specs.Prelude.{ℕ, ◌≡◌, List, [], ◌∷◌, refl}
use Rattle.atom_names.specs.declared.names.TheConstants.{MOST_NAMES}
use Rattle.atom_names.specs.declared.row.TheConstants.{LONGEST_NAME}

-- At most 16,384 names, of at most 63 bytes.
pub limits-of-names : (MOST_NAMES ∷ LONGEST_NAME ∷ []) ≡ (16384 ∷ 63 ∷ [])
limits-of-names = refl
