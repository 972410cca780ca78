use Rattle.std.proofs.Common.{◌≡◌, ◌+◌, ◌≤◌, ◌++◌, map, drop, length}
use Rattle.std.specs.List.{concat}
use Rattle.made_script.specs.Pieces.{piece_text, width}
use Rattle.made_script.specs.declared.lines.TheConstants.{LINE_ROOM}
use Rattle.made_script.proofs.lines.put_row.Given as goal

-- What the line has, with the pieces that are left, is the whole, and there is room for them.
abbrev pub invariant-loop-piece : goal.invariant-loop-piece
invariant-loop-piece l =
    (l.line.items ++ concat (map (piece_text l.drawn) (drop l.piece-index l.pieces))
    ≡ l.initial.line.items ++ concat (map (piece_text l.drawn) l.pieces))
    × (length l.line.items + width (drop l.piece-index l.pieces) ≤ LINE_ROOM)
