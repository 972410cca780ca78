-- The limits and costs of the machine in figures: a constant that is cited by its name is pinned here.
use Rattle.std.specs.Prelude.{◌≡◌, [], ◌∷◌, refl}
use Rattle.plain_machine.specs.declared.limits.TheConstants.{MOST_PROCESSES, MOST_AREAS, MOST_PLACES, MOST_FILL, MOST_ARITY, MOST_BYTE}
use Rattle.plain_machine.specs.declared.costs.TheConstants.{PROCESS_COST, AREA_COST, PLACE_COST, MESSAGE_COST, RECORD_COST, COUNTED_COST}

-- At most 1,024 processes live.
pub most-processes : MOST_PROCESSES ≡ 1024
most-processes = refl

-- At most 64 literal areas stand.
pub most-areas : MOST_AREAS ≡ 64
most-areas = refl

-- At most 65,536 places are made at a time.
pub most-places : MOST_PLACES ≡ 65536
most-places = refl

-- At most 1,048,576 bytes are filled, with a byte, and a fun takes at most 255 arguments.
pub most-filled : (MOST_FILL ∷ MOST_BYTE ∷ MOST_ARITY ∷ []) ≡ (1048576 ∷ 255 ∷ 255 ∷ [])
most-filled = refl

-- The words of a process, an area, a stack place, a message, a record, and what names a new record.
pub costs-in-figures : (PROCESS_COST ∷ AREA_COST ∷ PLACE_COST ∷ MESSAGE_COST ∷ RECORD_COST ∷ COUNTED_COST ∷ []) ≡ (16 ∷ 16 ∷ 2 ∷ 8 ∷ 4 ∷ 10 ∷ [])
costs-in-figures = refl
