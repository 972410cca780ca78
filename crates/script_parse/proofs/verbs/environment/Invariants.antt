use Rattle.std.proofs.Common.{◌≡◌, ◌+◌, ◌-◌, ◌≤◌, length}
use Rattle.script_parse.specs.Output.{given, OutputGrows}
use Rattle.script_parse.specs.Reading.{held_run}
use Rattle.script_parse.specs.declared.buffer.TheConstants.{MOST_ITEMS}
use Rattle.script_grammar.specs.declared.limits.TheConstants.{MOST_HELD}
use Rattle.script_parse.proofs.verbs.environment.Given as goal

-- What is left goes on from the registers so far.
abbrev pub invariant-loop : goal.invariant-loop
invariant-loop l = record {
  read : held_run (MOST_HELD - l.counter) l.rest (given l.out) ≡ held_run MOST_HELD l.line (given l.initial.out);
  grown : OutputGrows l.initial.out l.out;
  room : length l.out.code.now + length l.rest ≤ MOST_ITEMS;
}
