use Rattle.std.proofs.Common.{◌≡◌, ◌+◌, ◌≤◌, drop, length}
use Rattle.script_parse.specs.Reading.{text_at}
use Rattle.script_parse.proofs.blanks.after_text.Given as goal

-- The bytes of the text before are read.
abbrev pub invariant-loop-b : goal.invariant-loop-b
invariant-loop-b l = (text_at l.text l.line ≡ text_at (drop l.b-index l.text) l.rest) × (length l.rest + l.b-index ≤ length l.line)
