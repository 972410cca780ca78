-- A space may say that all trees of its states are proper: each call keeps it, as the machine does.
use Rattle.std.proofs.Common.{ℕ, inl, inr, Bool, List, Result, Ok, Err}
use Rattle.script_grammar.specs.declared.command.Command.{Command}
use Rattle.script_grammar.specs.declared.refusal.Refusal.{Refusal}
use Rattle.script_grammar.specs.Written.{Terms}
use Rattle.script_grammar.specs.Names.{Parsed}
use Rattle.plain_machine.specs.State.{State, HasNames}
use Rattle.plain_machine.specs.Step.{Outcome, step}
use Rattle.plain_machine.specs.Step.Outcome.{Accepted, Refused, Mapped}
use Rattle.plain_machine.specs.Laws.{HoldsProper}
use Rattle.plain_machine.proofs.ByLine.Commands.{LeavesProper, TermsOf, command-does}
use Rattle.space_api.specs.Calls.{said, Becomes, Follows, Passes, Properly}

follows : {A : Type 0} (o : Outcome) (s : State) (r : Result A Refusal) (Stands : State → Type 0) → HoldsProper s → LeavesProper o → Follows o s r Stands → Follows o s r (Properly Stands)
follows (Accepted next reply) s (Ok a) Stands h k f = (f, k)
follows (Accepted next reply) s (Err e) Stands h k f = f
follows (Refused x) s (Ok a) Stands h k f = f
follows (Refused x) s (Err e) Stands h k f = (f.0, (f.1, h))
follows Mapped s r Stands h k f = f

passes : (o : Outcome) (Stands : State → Type 0) → LeavesProper o → Passes o Stands → Passes o (Properly Stands)
passes (Accepted next reply) Stands k f = (f, k)
passes (Refused x) Stands k f = f
passes Mapped Stands k f = f

module _ (s : State) (c : Command) (terms : Terms) (names : List (List ℕ)) (proper : HoldsProper s) (has : HasNames s names) (made : TermsOf c terms names) where
  leaves : LeavesProper (step s (said c terms names))
  leaves = (command-does s (said c terms names) c).proper proper has made

  pub passes-proper : (Stands : State → Type 0) → Passes (step s (said c terms names)) Stands → Passes (step s (said c terms names)) (Properly Stands)
  passes-proper Stands f = passes (step s (said c terms names)) Stands leaves f

  pub follows-proper : {A : Type 0} (r : Result A Refusal) (Stands : State → Type 0) → Follows (step s (said c terms names)) s r Stands → Follows (step s (said c terms names)) s r (Properly Stands)
  follows-proper r Stands f = follows (step s (said c terms names)) s r Stands proper leaves f

  pub becomes-proper : {A : Type 0} (words : ℕ) (r : Result A Refusal) (Stands : State → Type 0)
      → Becomes words s (said c terms names) r Stands → Becomes words s (said c terms names) r (Properly Stands)
  becomes-proper words r Stands (inl f) = inl (follows-proper r Stands f)
  becomes-proper words (Ok a) Stands (inr f) = inr f
  becomes-proper words (Err e) Stands (inr f) = inr (f.0, f.1, (f.2, proper))
