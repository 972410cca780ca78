use Rattle.std.proofs.Common.{◌≡◌, ◌+◌, ◌*◌, ◌≤◌, length, drop}
use Rattle.line_io.specs.declared.reader.TheConstants.{LONGEST_LINE}
use Rattle.trial_space.specs.Items.{weight}
use Rattle.trial_space.proofs.weight.weigh.Given as goal

abbrev pub invariant-loop-i : goal.invariant-loop-i
invariant-loop-i l = (l.i ≤ length l.code) × (l.sum ≡ weight (drop l.i l.code)) × (l.sum + 523 * l.i ≤ 523 * LONGEST_LINE)

abbrev pub decreases-loop-i : goal.decreases-loop-i
decreases-loop-i l = l.i
