-- What a sink has taken.
use Rattle.std.specs.Prelude.{◌≡◌, ℕ, ◌<◌, ◌≤◌, List, [], ◌++◌, length, take, Result, Ok, Err, OnOk, OnErr}
use Rattle.line_io.specs.Faults.{Rose, raised}
use Rattle.line_io.specs.declared.sink.Took.{Took}
use Rattle.line_io.specs.declared.sink.Took.TheVariants.{Took as Bytes, Failed}

-- the bytes that one call took off the front of what it was given
abbrev pub went : Took → List ℕ → List ℕ
went (Bytes n) bytes = take n bytes
went Failed bytes = []

-- a call that takes bytes takes at least one, and no more than it was given
abbrev pub TakesWithin : ℕ → Took → Type 0
TakesWithin len (Bytes n) = (0 < n) × (n ≤ len)
TakesWithin len Failed = Unit {0}

-- the count of a sink's faults rises by one at a fault, and else stays
abbrev pub CountsWrite : Took → ℕ → ℕ → Type 0
CountsWrite (Bytes n) before now = now ≡ before
CountsWrite Failed before now = now ≡ raised before

-- what was written grew by exactly x: each list that was written before is written now, with x behind it
pub record Grew {K : Type 0} (wrote : K → List ℕ → Type 0) (old new : K) (x : List ℕ) : Type 0 where
  pub each : (before : List ℕ) → wrote old before → wrote new (before ++ x)

-- what was written grew by a part of x from its front on, and not by all of it
pub record GrewInPart {K : Type 0} (wrote : K → List ℕ → Type 0) (old new : K) (x : List ℕ) : Type 0 where
  pub part : List ℕ
  pub missing : List ℕ
  pub whole : x ≡ part ++ missing
  pub some : 0 < length missing
  pub grew : Grew wrote old new part

-- what a call that was to write x did: all of it was written at Ok, a proper front of it at an error
abbrev pub Writes : {A E K : Type 0} → (wrote : K → List ℕ → Type 0) (old new : K) → Result A E → List ℕ → Type 0
Writes wrote old new (Ok a) x = Grew wrote old new x
Writes wrote old new (Err e) x = GrewInPart wrote old new x

-- the same, and the count of faults, which rose at an error, and else is as it was
pub record WritesTold {K E : Type 0} (wrote : K → List ℕ → Type 0) (faults : K → ℕ) (old new : K) (x : List ℕ) (r : Result (Unit {0}) E) : Type 0 where
  pub all : OnOk r (Grew wrote old new x)
  pub part : OnErr r (GrewInPart wrote old new x)
  pub later : faults old ≤ faults new
  pub rose : OnErr r (Rose (faults old) (faults new))
  pub told : OnOk r (faults new ≡ faults old)
