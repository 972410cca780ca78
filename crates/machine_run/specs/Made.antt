-- What doing the script of a number leaves.
use Rattle.std.specs.Prelude.{ℕ, ◌≡◌, false, List, map}
use Rattle.line_io.specs.Lines.{text}
use Rattle.line_io.specs.Summary.{summary_of}
use Rattle.line_io.specs.declared.sum_sink.Summary.{Summary}
use Rattle.made_script.specs.Script.{made_script}
use Rattle.plain_machine.specs.State.{State, first_state}
use Rattle.plain_machine.specs.May.{may_of_tight}
use Rattle.plain_machine.specs.Run.{Run, replies_text}
use Rattle.engine.specs.Rules.{Output}
use Rattle.engine.specs.declared.serving.Status.{Status}
use Rattle.machine_run.specs.Summary.{EndsMade, summary_text}

-- The lines of the script of a number, all of them, lead from the first state to the last, which is stood for, with replies
-- whose text has these numbers.
pub record IsMade (words : ℕ) (first : State) (number : ℕ) (Stands : State → Type 0) (numbers : Summary) : Type 0 where
  pub replies : List (List ℕ)
  pub last : State
  pub run : Run may_of_tight words false first (map text (made_script number)) replies last
  pub stands : Stands last
  pub sums : numbers ≡ summary_of (replies_text replies)

-- The script of a number was made and done over an arena of so many words, and the one line that was written sums up its
-- replies.
abbrev pub Made : (words number : ℕ) → {K : Type 0} → Output K → (Stands : State → Type 0) → Status → Type 0
Made words number out Stands status = (numbers : Summary) × IsMade words first_state number Stands numbers × EndsMade status out
    (summary_text numbers)
