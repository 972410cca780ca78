-- The map of places by which those of one span move elsewhere.
use Rattle.std.specs.Prelude.{ℕ, ◌+◌, ◌-◌, ◌&&◌, nat_le, nat_lt, if◌then◌else◌}

-- The places from `start` up to `finish` move to those from `target` on, in order; all others stay.
abbrev pub span_moved : (start finish target : ℕ) → ℕ → ℕ
span_moved start finish target a = if nat_le start a && nat_lt a finish then target + (a - start) else a
