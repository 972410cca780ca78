use Rattle.std.proofs.Common.{◌∙◌, ap, List, map, Bor}
use Rattle.std.specs.List.{concat}
use Rattle.made_script.specs.Pieces.{piece_text, width}
use Rattle.made_script.specs.declared.lines.Piece.{Piece}
use Rattle.made_script.proofs.Tables.{has-room, alone, text-at}
use Rattle.made_script.proofs.lines.put_row_of.Goals as goal

pub put_row-requires : goal.put_row-requires
put_row-requires c =
    has-room (λ (pieces : Bor (List Piece)). width pieces.now) c.args.table.now c.args.row _ c.clear.new.self.items c.clear.ensures
    c.requires.room c.requires.row

pub returns : goal.returns
returns c =
    alone c.clear.new.self.items c.put_row.ensures c.clear.ensures
    ∙ ap concat (text-at (λ (pieces : Bor (List Piece)). map (piece_text c.args.drawn.now) pieces.now) c.args.table.now c.args.row _ c.requires.row)
