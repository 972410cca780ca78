use Rattle.std.proofs.Common.{◌≡◌, drop}
use Rattle.script_parse.specs.Reading.{named_in}
use Rattle.script_parse.proofs.words.named.Given as goal

-- The word is none of those before.
abbrev pub invariant-loop-word : goal.invariant-loop-word
invariant-loop-word g l = named_in l.table l.bytes ≡ named_in (drop l.word-index l.table) l.bytes
