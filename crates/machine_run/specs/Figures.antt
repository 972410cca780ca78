-- The limits of the program in figures: a constant that is cited by its name is pinned here.
use Rattle.std.specs.Prelude.{◌≡◌, ◌^◌, refl}
use Rattle.machine_run.specs.declared.serving.TheConstants.{LIMITS}

-- A script has at most 2^32 lines and 2^48 bytes.
pub limits-of-scripts : LIMITS ≡ record { lines = 2 ^ 32; bytes = 2 ^ 48 }
limits-of-scripts = refl
