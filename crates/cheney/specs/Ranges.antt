-- Which places stay.
use Rattle.std.specs.Prelude.{ℕ, Bool}
use Rattle.cheney.specs.Spans.{in_spans}
use Rattle.cheney.specs.declared.stay.Stay.{Stay}

-- What lies at the place does not move.
abbrev pub stays : Stay → ℕ → Bool
stays stay q = in_spans stay.spans.items q
