-- Sources and sinks over memory: what their numbers mean, and which answer a call gives.
use Rattle.std.specs.Prelude.{◌≡◌, ◌⊎◌, ℕ, ◌-◌, ◌==◌, Bool, true, false, min, List, [], length, take, drop}
use Rattle.std.specs.List.{list_any}
use Rattle.line_io.specs.Faults.{raised}
use Rattle.line_io.specs.declared.source.Got.{Got}
use Rattle.line_io.specs.declared.source.Got.TheVariants.{Got as Bytes, End, Failed as ReadFailed}
use Rattle.line_io.specs.declared.sink.Took.{Took}
use Rattle.line_io.specs.declared.sink.Took.TheVariants.{Took as Taken, Failed as WriteFailed}
use Rattle.line_io.specs.declared.mem_source.MemSource.{MemSource}
use Rattle.line_io.specs.declared.mem_sink.MemSink.{MemSink}

-- a call's number is among those at which the calls fail
abbrev pub fails_at : List ℕ → ℕ → Bool
fails_at failing call = list_any (λ other. other == call) failing

-- the number of a source's next call, counted from 1; it stands still at its type's end
abbrev pub next_read : MemSource → ℕ
next_read s = raised s.calls

-- the bytes that a source has not given yet
abbrev pub bytes_left : MemSource → List ℕ
bytes_left s = drop s.at s.bytes.items

-- the most that a source gives at once
abbrev pub read_piece : MemSource → ℕ
read_piece s = s.piece

-- the numbers of the calls at which a source fails
abbrev pub failing_reads : MemSource → List ℕ
failing_reads s = s.failing.items

-- a source fails at its next call exactly where that call's number stands among the failing ones, and ends exactly where nothing is left
abbrev pub GivesNext : MemSource → ℕ → Got → Type 0
GivesNext s room (Bytes n) = (fails_at (failing_reads s) (next_read s) ≡ false) × (n ≡ min (min (length (bytes_left s)) (read_piece s)) room)
GivesNext s room End = (fails_at (failing_reads s) (next_read s) ≡ false) × (bytes_left s ≡ [])
GivesNext s room ReadFailed = fails_at (failing_reads s) (next_read s) ≡ true

-- the number of a sink's next call, counted from 1; it stands still at its type's end
abbrev pub next_write : MemSink → ℕ
next_write s = raised s.calls

-- the bytes that a sink has taken
abbrev pub bytes_taken : MemSink → List ℕ
bytes_taken s = take s.len s.buf.items

-- how many bytes a sink can take in all
abbrev pub sink_room : MemSink → ℕ
sink_room s = length s.buf.items

-- the most that a sink takes at once
abbrev pub write_piece : MemSink → ℕ
write_piece s = s.piece

-- the numbers of the calls at which a sink fails
abbrev pub failing_writes : MemSink → List ℕ
failing_writes s = s.failing.items

-- a sink fails at its next call exactly where that call's number stands among the failing ones, or its room is used up
abbrev pub TakesNext : MemSink → ℕ → Took → Type 0
TakesNext s given (Taken n) =
    (fails_at (failing_writes s) (next_write s) ≡ false) × (n ≡ min (min (sink_room s - length (bytes_taken s)) (write_piece s)) given)
TakesNext s given WriteFailed = (fails_at (failing_writes s) (next_write s) ≡ true) ⊎ (length (bytes_taken s) ≡ sink_room s)
