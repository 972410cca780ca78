-- Counts of faults, which only rise.
use Rattle.std.specs.Prelude.{ℕ, ◌+◌, ◌-◌, ◌^◌, ◌≤◌, min}

-- a count after one more fault; it stands still at its type's end
abbrev pub raised : ℕ → ℕ
raised count = min (count + 1) (2 ^ 64 - 1)

-- the count is greater than before, or stands at its type's end
abbrev pub Rose : ℕ → ℕ → Type 0
Rose before now = raised before ≤ now
