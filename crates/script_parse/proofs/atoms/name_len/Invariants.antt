use Rattle.std.proofs.Common.{◌≡◌, ◌+◌, drop}
use Rattle.std.specs.List.{prefix_len}
use Rattle.script_grammar.specs.Grammar.{is_name_byte}
use Rattle.script_parse.proofs.atoms.name_len.Given as goal

-- The bytes before are of the name.
abbrev pub invariant-loop-n : goal.invariant-loop-n
invariant-loop-n l = prefix_len is_name_byte l.line ≡ l.n + prefix_len is_name_byte (drop l.n l.line)
