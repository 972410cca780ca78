use Rattle.std.proofs.Common.{◌≤◌, length}
use Rattle.block_slide.proofs.Parting.{PartsGoing}
use Rattle.block_slide.proofs.passes.relocate_parts.Given as goal

abbrev pub invariant-loop-i : goal.invariant-loop-i
invariant-loop-i l = (l.i ≤ length l.parts) × PartsGoing l.initial.mem l.mem l.parts l.i
