-- What one call of a source gives.
use Rattle.std.specs.Prelude.{◌≡◌, ℕ, ◌<◌, ◌≤◌, List, [], take, Option}
use Rattle.std.specs.Io.KnownBytes.{Consumes, IsAtEnd}
use Rattle.line_io.specs.Faults.{raised}
use Rattle.line_io.specs.declared.source.Got.{Got}
use Rattle.line_io.specs.declared.source.Got.TheVariants.{Got as Bytes, End, Failed}

-- the bytes that a call put at the front of its buffer
abbrev pub came : Got → List ℕ → List ℕ
came (Bytes n) buf = take n buf
came End buf = []
came Failed buf = []

-- a call that gives bytes gives at least one, and no more than the buffer holds
abbrev pub CountsWithin : ℕ → Got → Type 0
CountsWithin len (Bytes n) = (0 < n) × (n ≤ len)
CountsWithin len End = Unit {0}
CountsWithin len Failed = Unit {0}

-- at the answer End nothing is left, where the source tells what is left
abbrev pub EndsAt : Option (List ℕ) → Got → Type 0
EndsAt left (Bytes n) = Unit {0}
EndsAt left End = IsAtEnd left
EndsAt left Failed = Unit {0}

-- where the source tells what is left, the bytes x were its next ones, and they are taken off
pub record Gave (old new : Option (List ℕ)) (x : List ℕ) : Type 0 where
  pub known : Consumes old new x

-- the count of a source's faults rises by one at a fault, and else stays
abbrev pub CountsRead : Got → ℕ → ℕ → Type 0
CountsRead (Bytes n) before now = now ≡ before
CountsRead End before now = now ≡ before
CountsRead Failed before now = now ≡ raised before
