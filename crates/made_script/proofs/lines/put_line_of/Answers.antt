use Rattle.std.proofs.Common.{◌∙◌, List, ℕ, Bor, length}
use Rattle.made_script.proofs.Tables.{has-room, alone, text-at}
use Rattle.made_script.proofs.lines.put_line_of.Goals as goal

pub put-requires : goal.put-requires
put-requires c =
    has-room (λ (text : Bor (List ℕ)). length text.now) c.args.table.now c.args.at _ c.clear.new.self.items c.clear.ensures
    c.requires.room c.requires.at

pub returns : goal.returns
returns c =
    alone c.clear.new.self.items c.put.ensures c.clear.ensures
    ∙ text-at (λ (text : Bor (List ℕ)). text.now) c.args.table.now c.args.at _ c.requires.at
