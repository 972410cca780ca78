-- The states that verbs over a memory stand for, and what is true of them at any time.
use Rattle.std.specs.Prelude.{◌≡◌, ℕ, ◌+◌, ◌*◌, ◌<◌, ◌≤◌, true, [], length, slice_index}
use Rattle.std.specs.Vec.{vec_len}
use Rattle.plain_machine.specs.State.{State}
use Rattle.plain_machine.specs.Laws.{AreWithin, queued_trees}
use Rattle.plain_machine.specs.declared.limits.TheConstants.{MOST_PROCESSES}
use Rattle.space_api.specs.Calls.{AreRising}
use Rattle.space_api.specs.declared.space.Seat.{Seat}
use Rattle.numbered_rows.specs.Numbers.{AreBelow}
use Rattle.heaps_api.specs.Meaning.{Meaning, Stood}
use Rattle.process_verbs.specs.declared.verbs.Verbs.{Verbs}
use Rattle.process_verbs.specs.declared.verbs.TheConstants.{ROW}

-- The words of the memory.
abbrev pub memory_words : {H : Type 0} → Meaning H → Verbs H → ℕ
memory_words m b = length (m.mem b.heaps)

-- They stand for the state, whose areas are none and whose queued messages are within the walk limit. Where nothing has changed since
-- the last sweep, the memory is tidy.
pub record VerbsStand {H : Type 0} (m : Meaning H) (b : Verbs H) (s : State) : Type 0 where
  pub processes : Stood m b.named b.heaps s.shared s.processes
  pub next : s.next ≡ b.next
  pub swept : s.swept ≡ b.swept
  pub shared : length s.shared ≡ b.serials
  pub areas : s.areas ≡ []
  pub within : AreWithin s.shared (queued_trees s)
  pub tidy : s.swept ≡ true → m.tidy b.heaps

-- Their numbers: those of the rows rise and stay below the next one, which no more than calls have raised; no call makes more shared
-- binaries than a line has items; and a call raises the counters of the memory by two at most.
pub record IsCounted {H : Type 0} (m : Meaning H) (b : Verbs H) : Type 0 where
  pub enough : vec_len b.scratch ≡ ROW
  pub few : length (m.numbers b.heaps) ≤ MOST_PROCESSES
  pub rising : AreRising 0 (m.numbers b.heaps)
  pub below : AreBelow b.next (m.numbers b.heaps)
  pub second : 2 ≤ b.next
  pub numbered : b.next ≤ b.calls + 2
  pub serials : b.serials ≤ ROW * b.calls
  pub whole : m.whole (2 * b.calls) b.heaps

-- What is true of them at any time: they stand for some state.
pub record Holds {H : Type 0} (m : Meaning H) (b : Verbs H) : Type 0 where
  pub counts : IsCounted m b
  pub state : State
  pub stands : VerbsStand m b state

-- The process with the seat's number has its row there.
pub record Sits {H : Type 0} (m : Meaning H) (b : Verbs H) (seat : Seat) : Type 0 where
  pub within : seat.row < length (m.numbers b.heaps)
  pub number : slice_index (m.numbers b.heaps) seat.row ≡ seat.pid
