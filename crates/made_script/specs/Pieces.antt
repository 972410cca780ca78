-- The pieces of a line, as the code's table has them.
use Rattle.std.specs.Prelude.{ℕ, ◌+◌, List, [], ◌∷◌, length, decimal}
use Rattle.made_script.specs.declared.draws.Drawn.{Drawn}
use Rattle.made_script.specs.declared.lines.Piece.{Piece}
use Rattle.made_script.specs.declared.lines.Piece.TheVariants.{Text, Process, First, Second, Value, Receiver}
use Rattle.made_script.specs.Lines.{receiver_of}

-- the text of a piece
abbrev pub piece_text : Drawn → Piece → List ℕ
piece_text d (Text t) = t.now
piece_text d Process = decimal d.process
piece_text d First = decimal d.first
piece_text d Second = decimal d.second
piece_text d Value = decimal d.value
piece_text d Receiver = decimal (receiver_of d)

-- a bound on the bytes of a piece: a number of 32 bits has at most ten
abbrev pub piece_width : Piece → ℕ
piece_width (Text t) = length t.now
piece_width _ = 10

-- and on those of some pieces
abbrev pub width : List Piece → ℕ
width [] = 0
width (piece ∷ pieces) = piece_width piece + width pieces
