use Rattle.std.proofs.Common.{◌≡◌, ◌≤◌, length}
use Rattle.script_parse.specs.Reading.{after_blanks}
use Rattle.script_parse.proofs.blanks.skip.Given as goal

-- The rest has the same line behind its blanks.
abbrev pub invariant-loop-b : goal.invariant-loop-b
invariant-loop-b l = (after_blanks l.line ≡ after_blanks l.rest) × (length l.rest ≤ length l.line)

abbrev pub decreases-loop-b : goal.decreases-loop-b
decreases-loop-b l = length l.rest
