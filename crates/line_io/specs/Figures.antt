-- The longest line, the room for bytes and the word of an error in figures: a constant that is cited by its name is pinned here.
use Rattle.std.specs.Prelude.{ℕ, ◌≡◌, [], ◌∷◌, codes, refl}
use Rattle.line_io.specs.declared.gathered.TheConstants.{ROOM}
use Rattle.line_io.specs.declared.reader.TheConstants.{LONGEST_LINE, SIZE}
use Rattle.line_io.specs.declared.sum_sink.TheConstants.{ERROR_WORD}

-- A line has at most 4,096 bytes before its end.
pub longest-line : LONGEST_LINE ≡ 4096
longest-line = refl

-- A reader holds 8,192 bytes, and 1,024 are gathered before they are handed on.
pub room-for-bytes : (SIZE ∷ ROOM ∷ []) ≡ (8192 ∷ 1024 ∷ [])
room-for-bytes = refl

-- A line counts as an error from its first six bytes on.
pub word-of-errors : ERROR_WORD ≡ codes "error "
word-of-errors = refl
