-- References to a row in the table of a memory.
use Rattle.std.specs.Prelude.{ℕ}
use Rattle.std.specs.Borrow.{Lends, MutBor, Fml}
use Rattle.std.specs.Vec.{with_item}
use Rattle.two_halves.specs.declared.table.Proc.{Proc}
use Rattle.two_halves.specs.declared.halves.Halves.{Halves}
use Rattle.two_halves.specs.contracts.table.Proc.{the_row as proc_row}
use Rattle.two_halves.specs.contracts.halves.Halves.{the_row}

-- the memory ends with the last row behind the reference in its place
abbrev pub LendsProcess : MutBor Halves → ℕ → MutBor Proc → Fml
LendsProcess s i r = Lends the_row proc_row s r (λ w. record s.now { procs = with_item s.now.procs i w })
