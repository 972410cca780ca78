-- A fault that is not want of memory gives a faulty command line.
use Rattle.std.proofs.Common.{◌∙◌, refl}
use Rattle.machine_run.proofs.arguments.unread.Goals as goal

pub returns-in_default : goal.returns-in_default
returns-in_default c = record {
  usage = λ k. refl;
  memory = (λ e. absurd (cc), λ k. absurd (c.in_default.not-OutOfMemory (c.kind.ensures ∙ k)));
}
