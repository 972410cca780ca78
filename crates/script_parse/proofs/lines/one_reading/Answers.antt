use Rattle.script_parse.proofs.OfLines.OneLine.{one_line}
use Rattle.script_parse.proofs.lines.one_reading.Goals as goal

pub returns : goal.returns
returns c = one_line
