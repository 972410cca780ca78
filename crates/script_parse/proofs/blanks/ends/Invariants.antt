use Rattle.std.proofs.Common.{◌≡◌, drop}
use Rattle.script_parse.specs.Reading.{are_blanks}
use Rattle.script_parse.proofs.blanks.ends.Given as goal

-- The bytes before are blanks.
abbrev pub invariant-loop-b : goal.invariant-loop-b
invariant-loop-b l = are_blanks l.line ≡ are_blanks (drop l.b-index l.line)
