-- Process numbers along a run.
use Rattle.std.proofs.Common.{◌≡◌, ℕ, ◌⊎◌, inl, inr, Bool, true, false, List, [], ◌∷◌, sym, subst}
use Rattle.std.specs.Prelude.{MatchBool}
use Rattle.line_io.specs.Lines.{Line, text, long}
use Rattle.script_grammar.specs.declared.command.Command.{Command}
use Rattle.script_grammar.specs.Names.{Parsed}
use Rattle.script_grammar.specs.ReadAs.{Reading}
use Rattle.script_grammar.specs.ReadAs.Reading.{Means, NoSyntax, NoAtoms}
use Rattle.plain_machine.specs.State.{State}
use Rattle.plain_machine.specs.Step.{Outcome, step}
use Rattle.plain_machine.specs.Step.Outcome.{Accepted, Refused, Mapped}
use Rattle.plain_machine.specs.Run.{Run, LineStep, ReadingStep, CommandStep, Gives, Skips, LacksSpace, is_nothing}
use Rattle.plain_machine.specs.Laws.{IsNumbered, AreFresh}
use Rattle.plain_machine.proofs.Numbering.Numbers.{Keeps, keeps-same, keeps-then, live-below}
use Rattle.plain_machine.proofs.ByLine.Commands.{OutcomeKeeps, command-does}

gives-keeps : (o : Outcome) (s : State) (c : Command) (quits : Bool) (replies : List (List ℕ)) (new : State) → OutcomeKeeps s o → Gives o s c quits replies new → Keeps s new
gives-keeps (Accepted next reply) s c quits replies new k g = subst (Keeps s) (sym g.is) k
gives-keeps (Refused r) s c quits replies new k g = keeps-same s new g.same
gives-keeps Mapped s c quits replies new k g = keeps-same s new g.same

pub step-keeps : (may : ℕ → State → Parsed → Bool) (words : ℕ) (s : State) (p : Parsed) (quits : Bool) (replies : List (List ℕ)) (new : State) → CommandStep may words s p quits replies new
    → Keeps s new
step-keeps may words s p quits replies new h = at (is_nothing p.command) h
  where
    at : (b : Bool) → MatchBool b (Skips s quits replies new) (Gives (step s p) s p.command quits replies new ⊎ LacksSpace may words s p quits replies new) → Keeps s new
    at true k = keeps-same s new k.same
    at false (inl k) = gives-keeps (step s p) s p.command quits replies new (command-does s p p.command).numbers k
    at false (inr k) = keeps-same s new k.refuses.same

reading-keeps : (may : ℕ → State → Parsed → Bool) (words : ℕ) (s : State) (r : Reading) (quits : Bool) (replies : List (List ℕ)) (new : State) → ReadingStep may words s r quits replies new
    → Keeps s new
reading-keeps may words s (Means p) quits replies new h = step-keeps may words s p quits replies new h
reading-keeps may words s NoSyntax quits replies new h = keeps-same s new h.same
reading-keeps may words s NoAtoms quits replies new h = keeps-same s new h.same

line-keeps : (may : ℕ → State → Parsed → Bool) (words : ℕ) (s : State) (line : Line) (quits : Bool) (replies : List (List ℕ)) (new : State) → LineStep may words s line quits replies new → Keeps s new
line-keeps may words s long quits replies new h = keeps-same s new h.same
line-keeps may words s (text line) quits replies new h = reading-keeps may words s h.reading quits replies new h.follows

pub run-keeps : (may : ℕ → State → Parsed → Bool) (words : ℕ) (quits : Bool) (s new : State) (lines : List Line) (replies : List (List ℕ)) → Run may words quits s lines replies new → Keeps s new
unfolding Run
run-keeps may words quits s new [] replies h = keeps-same s new (h.2)
run-keeps may words quits s new (line ∷ lines) replies h = at (h.0) (h.6) (line-keeps may words s line (h.0) (h.1) (h.3) (h.4)) (λ k. run-keeps may words quits (h.3) new lines (h.2) k)
  where
    at : (ends : Bool) → MatchBool ends ((quits ≡ true) × (lines ≡ []) × (h.2 ≡ []) × (new ≡ h.3)) (Run may words quits (h.3) lines (h.2) new) → Keeps s (h.3)
        → (Run may words quits (h.3) lines (h.2) new → Keeps (h.3) new) → Keeps s new
    at true k one more = subst (Keeps s) (sym (k.3)) one
    at false k one more = keeps-then s (h.3) new one (more k)

pub run-fresh : (may : ℕ → State → Parsed → Bool) (words : ℕ) (quits : Bool) (s new : State) (lines : List Line) (replies : List (List ℕ)) → IsNumbered s → Run may words quits s lines replies new
    → AreFresh s new
run-fresh may words quits s new lines replies h r =
    let k : Keeps s new = run-keeps may words quits s new lines replies r in
    record { numbered = k.numbers h; rises = k.next; fresh = λ n e f. (k.fresh n e f, live-below new n (k.numbers h) e) }
