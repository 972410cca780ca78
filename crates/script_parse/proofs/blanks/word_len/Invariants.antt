use Rattle.std.proofs.Common.{◌≡◌, ◌+◌, drop}
use Rattle.std.specs.List.{prefix_len}
use Rattle.script_parse.specs.Reading.{is_solid}
use Rattle.script_parse.proofs.blanks.word_len.Given as goal

-- The bytes before are of the word.
abbrev pub invariant-loop-n : goal.invariant-loop-n
invariant-loop-n l = prefix_len is_solid l.line ≡ l.n + prefix_len is_solid (drop l.n l.line)
