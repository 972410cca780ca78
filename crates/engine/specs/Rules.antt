-- What is constant while a script is served, and what lines leave of the machine, the source and the sink.
use Rattle.std.specs.Prelude.{ℕ, Option, List}
use Rattle.line_io.specs.declared.reader.Limits.{Limits}
use Rattle.script_grammar.specs.declared.command.Command.{Command}
use Rattle.plain_machine.specs.State.{State}

-- What a line leaves: the states that are stood for after it, and the text of the store for each map line.
pub record After : Type 1 where
  pub stands : State → Type 0
  pub text : Command → List ℕ

-- What a script is served by: the number of words, the state before its first line, and the limits of its input.
pub record Rules : Type 0 where
  pub words : ℕ
  pub first : State
  pub limits : Limits

-- What a source has to come, before and after.
pub record Input : Type 0 where
  pub before : Option (List ℕ)
  pub after : Option (List ℕ)

-- What may have been written to a sink, and the count of its faults; the sink before and after.
pub record Output (K : Type 0) : Type 1 where
  pub wrote : K → List ℕ → Type 0
  pub faults : K → ℕ
  pub before : K
  pub after : K
