-- A call of the verbs is one of the space, all of whose trees are proper.
use Rattle.std.proofs.Common.{◌≡◌, ℕ, List, Result}
use Rattle.plain_machine.specs.State.{HasNames, State}
use Rattle.plain_machine.specs.Step.{step}
use Rattle.script_grammar.specs.declared.command.Command.{Command}
use Rattle.script_grammar.specs.declared.refusal.Refusal.{Refusal}
use Rattle.script_grammar.specs.Written.{Terms}
use Rattle.space_api.specs.Calls.{Becomes, Follows, Passes, Properly, said}
use Rattle.plain_machine.proofs.ByLine.Commands.{TermsOf}
use Rattle.space_api.proofs.Proper.{becomes-proper, follows-proper, passes-proper}
use Rattle.heaps_api.specs.Meaning.{Meaning}
use Rattle.process_verbs.specs.Doing.{Does, DoesAlways, DoesAtOnce, DoesBy}
use Rattle.process_verbs.specs.Verbs.{VerbsStand, memory_words}
use Rattle.process_verbs.specs.declared.verbs.Verbs.{Verbs}

module _ {H : Type 0} {m : Meaning H} {a b : Verbs H} (same : a ≡ b) where
  pub becomes-so : (c : Command) (terms : Terms) (names : List (List ℕ)) (s : State) → Properly (VerbsStand m b) s → HasNames s names → TermsOf c terms names
      → {A : Type 0} (r : Result A Refusal) (Stands : State → Type 0) → (VerbsStand m a s → Becomes (memory_words m a) s (said c terms names) r Stands)
      → Becomes (memory_words m b) s (said c terms names) r (Properly Stands)
  becomes-so c terms names s h has made r Stands f =
      becomes-proper s c terms names h.1 has made (memory_words m b) r Stands (rw (← same) (f (rw same h.0)))

  module _ {new : Verbs H} {c : Command} (made : (terms : Terms) (names : List (List ℕ)) → TermsOf c terms names) where
    pub does-so : {A : Type 0} {r : Result A Refusal} → Does m c a new r → (s : State) (terms : Terms) (names : List (List ℕ)) → Properly (VerbsStand m b) s → HasNames s names
        → Becomes (memory_words m b) s (said c terms names) r (Properly (VerbsStand m new))
    does-so {r = r} d s terms names h has = becomes-so c terms names s h has (made terms names) r (VerbsStand m new) (d.becomes s terms names)

    pub does-by-so : {A : Type 0} {r : Result A Refusal} {names : List (List ℕ)} → DoesBy m names c a new r → (s : State) (terms : Terms) → Properly (VerbsStand m b) s → HasNames s names
        → Becomes (memory_words m b) s (said c terms names) r (Properly (VerbsStand m new))
    does-by-so {r = r} {names = names} d s terms h has = becomes-so c terms names s h has (made terms names) r (VerbsStand m new) (λ o. d.becomes s terms (o, h.1) has)

    pub always-so : DoesAlways m c a new → (s : State) (terms : Terms) (names : List (List ℕ)) → Properly (VerbsStand m b) s → HasNames s names
        → Passes (step s (said c terms names)) (Properly (VerbsStand m new))
    always-so d s terms names h has = passes-proper s c terms names h.1 has (made terms names) (VerbsStand m new) (d.passes s terms names (rw same h.0))

    pub at-once-so : {A : Type 0} {r : Result A Refusal} → DoesAtOnce m c a new r → (s : State) (terms : Terms) (names : List (List ℕ)) → Properly (VerbsStand m b) s → HasNames s names
        → Follows (step s (said c terms names)) s r (Properly (VerbsStand m new))
    at-once-so {r = r} d s terms names h has = follows-proper s c terms names h.1 has (made terms names) r (VerbsStand m new) (d.follows s terms names (rw same h.0))
