-- What a sink holds of the bytes that it took.
use Rattle.std.specs.Prelude.{◌≡◌, ℕ, List}
use Rattle.line_io.specs.Summary.{error_begun, summary_of}
use Rattle.line_io.specs.declared.sum_sink.Summary.{Summary}
use Rattle.line_io.specs.declared.sum_sink.SumSink.{SumSink}

-- the numbers that a sink holds
abbrev pub summed : SumSink → Summary
summed s = record { lines = s.lines; errors = s.errors; bytes = s.bytes; sum = s.sum }

-- the sink holds the numbers of these bytes, and how much of `error ` their line begun has
pub record SumsUp (s : SumSink) (taken : List ℕ) : Type 0 where
  pub numbers : summed s ≡ summary_of taken
  pub begun : s.begun ≡ error_begun taken
