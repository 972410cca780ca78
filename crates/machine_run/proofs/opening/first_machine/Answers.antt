-- The machine is made of a space in its first state and of no names.
use Rattle.std.proofs.Common.{arith}
use Rattle.machine_run.proofs.Arena.{arena-bounds}
use Rattle.machine_run.proofs.opening.first_machine.Goals as goal

pub start-requires : goal.start-requires
start-requires c = let bounds = arena-bounds c.args.words c.requires in record { least = bounds.0; most = bounds.1; even = bounds.2 }

pub returns-in-Ok-new-2 : goal.returns-in-Ok-new-2
returns-in-Ok-new-2 c = record {
  stands = (c.in-Ok.ensures.first, c.in-Ok-new.ensures);
  words = c.in-Ok.ensures.words;
  calls = c.in-Ok.ensures.calls;
  named = omega (arith, c.in-Ok.ensures.named);
  empty = c.in-Ok.ensures.empty;
  free = c.in-Ok.ensures.free;
}
