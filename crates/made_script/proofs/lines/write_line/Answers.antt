use Rattle.std.proofs.Common.{◌∙◌, ℕ, ap, [], slice_index_or}
use Rattle.std.specs.List.{concat}
use Rattle.made_script.specs.Lines.{line_of, rows_of}
use Rattle.made_script.proofs.lines.write_line.Goals as goal

pub returns : goal.returns
unfolding line_of
returns c = c.put_row_of.ensures ∙ ap (λ (i : ℕ). concat (slice_index_or (rows_of c.args.drawn.now) i [])) c.row_of.ensures.value
