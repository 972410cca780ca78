-- A text and its line's end, and calls that stopped in it.
use Rattle.std.proofs.Common.{◌≡◌, ℕ, ◌≤◌, List, refl, Result, Ok, Err, IsErr}
use Rattle.line_io.specs.Faults.{Rose}
use Rattle.line_io.specs.Sink.{GrewInPart, WritesTold}
use Rattle.script_grammar.specs.declared.refusal.Refusal.{Refusal}
use Rattle.script_grammar.specs.declared.refusal.Refusal.TheVariants.{NoSpace}
use Rattle.plain_machine.specs.Run.{refusal_text}
use Rattle.engine.specs.Writing.{end_of_line, refusal_front}

-- the front of a refusal without a number is its line
pub front-whole : (r : Refusal) → ((n : ℕ) → r ≡ NoSpace n → ⊥) → refusal_front r ≡ end_of_line (refusal_text r)
front-whole (NoSpace n) h = absurd (h n refl)
front-whole _ h = refl

-- a proper front of the text was written, and the count of faults rose
pub stopped : {E K : Type 0} (wrote : K → List ℕ → Type 0) (faults : K → ℕ) (old new : K) (x : List ℕ) (r : Result (Unit {0}) E) → IsErr r
    → GrewInPart wrote old new x → faults old ≤ faults new → Rose (faults old) (faults new) → WritesTold wrote faults old new x r
stopped wrote faults old new x (Ok u) failed part later rose = absurd (cc)
stopped wrote faults old new x (Err e) failed part later rose = record { all = tt; part = part; later = later; rose = rose; told = tt }
