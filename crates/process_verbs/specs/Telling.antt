-- What is told of the terms of registers.
use Rattle.std.specs.Prelude.{◌≡◌, ℕ, Option, Some, None, Result, Ok, Err}
use Rattle.std.specs.declared.cmp.Ordering.{Ordering}
use Rattle.std.specs.declared.cmp.Ordering.TheVariants as ordering
use Rattle.script_grammar.specs.declared.command.Measure.{Measure}
use Rattle.script_grammar.specs.declared.command.Reg.{Reg}
use Rattle.script_grammar.specs.declared.refusal.Refusal.{Refusal}
use Rattle.script_grammar.specs.declared.refusal.Refusal.TheVariants.{Big}
use Rattle.plain_machine.specs.State.{Process, State, process_of, register}
use Rattle.term_read.specs.declared.looks.Look.{Look}
use Rattle.term_read.specs.declared.looks.Look.TheVariants as look
use Rattle.term_walk.specs.declared.measured.Measured.{Measured}
use Rattle.term_walk.specs.declared.measured.Measured.TheVariants as measured
use Rattle.term_order.specs.declared.compared.Compared.{Compared}
use Rattle.term_order.specs.declared.compared.Compared.TheVariants as compared
use Rattle.space_api.specs.declared.space.Seat.{Seat}
use Rattle.heaps_api.specs.Meaning.{HoldsThere, Meaning}
use Rattle.process_verbs.specs.Verbs.{VerbsStand}
use Rattle.process_verbs.specs.declared.verbs.Verbs.{Verbs}

-- The word holds the tree of the register of the seat's process, as a word of its row.
pub record IsHeld {H : Type 0} (m : Meaning H) (b : Verbs H) (s : State) (o : VerbsStand m b s) (seat : Seat) (r : Reg) (w : ℕ) : Type 0 where
  pub process : Process
  pub found : process_of seat.pid s ≡ Some process
  pub held : HoldsThere m b.named b.heaps s.shared s.processes o.processes seat.row w (register r.0 process)

-- What is told of a measured term: one that is beyond the walk limit is refused.
abbrev pub measure_told : Measured → Result Measure Refusal
measure_told (measured.Within m) = Ok (record { nodes = m.nodes; flat = m.flat })
measure_told measured.Beyond = Err Big

-- What is told of two compared terms.
abbrev pub order_told : Compared → Result Ordering Refusal
order_told compared.Less = Ok ordering.Less
order_told compared.Same = Ok ordering.Equal
order_told compared.More = Ok ordering.Greater
order_told compared.Beyond = Err Big

-- The number of a pid that was seen.
abbrev pub number_seen : Look → Option ℕ
number_seen (look.Pid n) = Some n
number_seen _ = None
