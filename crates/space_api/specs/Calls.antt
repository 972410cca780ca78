-- What the calls of a space give, in the words of the plain machine.
use Rattle.std.specs.Prelude.{ℕ, ◌≡◌, ◌+◌, ◌^◌, ◌<◌, ◌≤◌, ◌⊎◌, Bool, true, List, [], ◌∷◌, length, map, Result, Ok, Err, All}
use Rattle.line_io.specs.declared.reader.TheConstants.{LONGEST_LINE}
use Rattle.line_io.specs.Sink.{Grew, GrewInPart, Writes}
use Rattle.script_grammar.specs.declared.limits.TheConstants.{REGISTERS, LEVELS, MOST_HELD}
use Rattle.plain_term.specs.declared.item.Item.{Item}
use Rattle.plain_term.specs.declared.item.Item.TheVariants as item
use Rattle.script_grammar.specs.declared.command.Command.{Command}
use Rattle.script_grammar.specs.declared.refusal.Refusal.{Refusal}
use Rattle.script_grammar.specs.declared.refusal.Refusal.TheVariants.{Big as TooBig, NoSpace}
use Rattle.script_grammar.specs.Written.{Term, Terms}
use Rattle.script_grammar.specs.Written.Terms.{end, ◌▹◌}
use Rattle.script_grammar.specs.Grammar.{MayStand, IsBuiltTerm}
use Rattle.script_grammar.specs.Names.{Parsed, held_terms, items_of}
use Rattle.plain_machine.specs.State.{State}
use Rattle.plain_machine.specs.Tightness.{grow}
use Rattle.plain_machine.specs.May.{may_of_tight}
use Rattle.plain_machine.specs.Step.{Outcome, step}
use Rattle.plain_machine.specs.Laws.{HoldsProper}
use Rattle.plain_machine.specs.Step.Outcome.{Accepted, Refused, Mapped}
use Rattle.space_api.specs.declared.space.Stop.{Stop}
use Rattle.space_api.specs.declared.space.Stop.TheVariants.{Big, Fault}

-- A command with its written terms and all names that there are after it.
abbrev pub said : Command → Terms → List (List ℕ) → Parsed
said c terms names = record { command = c; terms = terms; names = names }

-- The most changing calls of a space's life. Numbers of processes and counters of a space rise by at most one in each, so
-- numbers stay below 2 ^ 40, and no counter passes its type.
abbrev pub most_calls : ℕ
most_calls = 2 ^ 36

-- What a changing call leaves of a space's numbers: the words stay, the count of calls rises by one at most, and the
-- bound of its names is at most this.
pub record KeepsBooks {S : Type 0} (words calls named : S → ℕ) (old new : S) (bound : ℕ) : Type 0 where
  pub same_words : words new ≡ words old
  pub one_call : calls new ≤ calls old + 1
  pub few_names : named new ≤ bound

-- The space stands for the state, all of whose trees are proper. Each space says so of its own states.
abbrev pub Properly : (Stands : State → Type 0) → State → Type 0
Properly Stands s = Stands s × HoldsProper s

-- The numbers rise from above a number on.
abbrev pub AreRising : ℕ → List ℕ → Type 0
AreRising above [] = Unit {0}
AreRising above (n ∷ ns) = (above < n) × AreRising n ns

-- A list of one written term.
abbrev pub one_term : Term → Terms
one_term t = t ▹ end

-- The atoms of an item have numbers below this one.
abbrev pub IsNamedBelow : ℕ → Item → Type 0
IsNamedBelow count (item.Atom k) = k < count
IsNamedBelow count _ = Unit {0}

-- The items are the prefix form of a written term of the built forms, in as many levels of brackets as there may be.
pub record IsWrittenTerm (names : List (List ℕ)) (code : List Item) (t : Term) : Type 0 where
  pub items : items_of names t ≡ code
  pub allowed : MayStand LEVELS t
  pub built : IsBuiltTerm t

-- The items are the prefix form of some written term, all atoms have names, and there are no more than a line has bytes.
pub record HasTerm (names : List (List ℕ)) (code : List Item) : Type 0 where
  pub term : Term
  pub is : IsWrittenTerm names code term
  pub named : All (IsNamedBelow (length names)) code
  pub few : length code ≤ LONGEST_LINE

-- The items are registers that a process has, no more than an environment may have.
pub record IsEnv (env : List Item) : Type 0 where
  pub registers : List ℕ
  pub items : env ≡ map item.Held registers
  pub held : All (λ r. r < REGISTERS) registers
  pub few : length registers ≤ MOST_HELD

-- The items are the registers of the written terms, and the number of the fun's name is that of one of the names.
pub record HasEnv (names : List (List ℕ)) (name : ℕ) (env : List Item) (terms : Terms) : Type 0 where
  pub registers : List ℕ
  pub items : env ≡ map item.Held registers
  pub written : terms ≡ held_terms registers
  pub known : name < length names

-- The call does what the machine's step does, or is refused as it is, and then the state is as before.
abbrev pub Follows : {A : Type 0} → Outcome → State → Result A Refusal → (State → Type 0) → Type 0
Follows (Accepted next reply) s (Ok a) Stands = Stands next
Follows (Accepted next reply) s (Err e) Stands = ⊥
Follows (Refused r) s (Ok a) Stands = ⊥
Follows (Refused r) s (Err e) Stands = (e ≡ r) × Stands s
Follows Mapped s r Stands = ⊥

-- The call of a space of so many words answers that there is none for what the line asks, where that may be; the state is as before.
abbrev pub Stays : {A : Type 0} → ℕ → State → Parsed → Result A Refusal → (State → Type 0) → Type 0
Stays words s p (Ok a) Stands = ⊥
Stays words s p (Err e) Stands = (may_of_tight words s p ≡ true) × (e ≡ NoSpace (grow s p)) × Stands s

-- The machine's step, or no space.
abbrev pub Becomes : {A : Type 0} → ℕ → State → Parsed → Result A Refusal → (State → Type 0) → Type 0
Becomes words s p result Stands = Follows (step s p) s result Stands ⊎ Stays words s p result Stands

-- A call that is never refused: the machine accepts, and this is the state after it.
abbrev pub Passes : Outcome → (State → Type 0) → Type 0
Passes (Accepted next reply) Stands = Stands next
Passes (Refused r) Stands = ⊥
Passes Mapped Stands = ⊥

-- The reply of the machine's step was written, or a proper front of it at a fault; or the step is refused by the walk limit.
abbrev pub Prints : {A K : Type 0} → Outcome → (wrote : K → List ℕ → Type 0) (old new : K) → Result A Stop → Type 0
Prints (Accepted next reply) wrote old new (Ok a) = Grew wrote old new reply
Prints (Accepted next reply) wrote old new (Err Big) = ⊥
Prints (Accepted next reply) wrote old new (Err Fault) = GrewInPart wrote old new reply
Prints (Refused r) wrote old new (Ok a) = ⊥
Prints (Refused r) wrote old new (Err Big) = r ≡ TooBig
Prints (Refused r) wrote old new (Err Fault) = ⊥
Prints Mapped wrote old new r = ⊥

-- The reply of the machine's step, which is never refused, was written, or a proper front of it at a fault.
abbrev pub WritesReply : {A E K : Type 0} → Outcome → (wrote : K → List ℕ → Type 0) (old new : K) → Result A E → Type 0
WritesReply (Accepted next reply) wrote old new r = Writes wrote old new r reply
WritesReply (Refused e) wrote old new r = ⊥
WritesReply Mapped wrote old new r = ⊥

-- A value that is told: the reply is its text, or the call is refused as the machine's step is.
abbrev pub Tells : {A : Type 0} → Outcome → (text : A → List ℕ) → Result A Refusal → Type 0
Tells (Accepted next reply) text (Ok a) = reply ≡ text a
Tells (Accepted next reply) text (Err e) = ⊥
Tells (Refused r) text (Ok a) = ⊥
Tells (Refused r) text (Err e) = e ≡ r
Tells Mapped text r = ⊥
