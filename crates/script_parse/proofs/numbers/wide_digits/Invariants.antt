use Rattle.std.proofs.Common.{◌≡◌, ◌≤◌, length}
use Rattle.script_parse.specs.declared.numbers.TheConstants.{WIDEST}
use Rattle.script_parse.specs.Reading.{digits_at}
use Rattle.script_parse.proofs.numbers.wide_digits.Given as goal

-- What is left is read from the number so far.
abbrev pub invariant-loop-b : goal.invariant-loop-b
invariant-loop-b l = record {
  value : digits_at WIDEST l.n l.rest ≡ digits_at WIDEST l.start l.line;
  within : l.n ≤ WIDEST;
  shorter : length l.rest ≤ length l.line;
}

abbrev pub decreases-loop-b : goal.decreases-loop-b
decreases-loop-b l = length l.rest
