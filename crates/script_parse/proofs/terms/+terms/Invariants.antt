use Rattle.std.proofs.Common.{◌≡◌, ◌+◌, ◌-◌, ◌*◌, ◌≤◌, length}
use Rattle.script_parse.specs.Output.{given, OutputGrows}
use Rattle.script_parse.specs.Reading.{parts_run, part_run, term_run}
use Rattle.script_parse.proofs.terms.+terms.Given as goal

abbrev pub decreases-term : goal.decreases-term
decreases-term l = 5 * l.levels

abbrev pub decreases-pair : goal.decreases-pair
decreases-pair l = 5 * l.levels + 1

abbrev pub decreases-part : goal.decreases-part
decreases-part l = 5 * l.levels + 2

abbrev pub decreases-ending : goal.decreases-ending
decreases-ending l = 5 * l.levels + 2

abbrev pub decreases-parts : goal.decreases-parts
decreases-parts l = 5 * l.levels + 3

abbrev pub decreases-bracketed : goal.decreases-bracketed
decreases-bracketed l = 5 * l.levels + 4

-- What is left goes on from the parts so far.
abbrev pub invariant-parts-loop-n : goal.invariant-parts-loop-n
invariant-parts-loop-n l = record {
  read : parts_run (part_run (term_run l.levels) l.form) (l.n-end - l.n) l.at l.n (given l.out)
      ≡ parts_run (part_run (term_run l.levels) l.form) (length l.line + 1) l.line 0 (given l.initial.out);
  grown : OutputGrows l.initial.out l.out;
  room : length l.out.code.now + length l.at ≤ length l.initial.out.code.now + length l.line;
  within : length l.at ≤ length l.line;
}
