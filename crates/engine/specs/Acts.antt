-- What doing a line leaves, before its reply is written.
use Rattle.std.specs.Prelude.{ℕ, ◌≡◌, ◌<◌, true, if◌then◌else◌, List, [], ◌∷◌, length}
use Rattle.plain_term.specs.declared.item.Item.{Item}
use Rattle.script_grammar.specs.declared.command.Command.{Command}
use Rattle.script_grammar.specs.declared.command.Command.TheVariants.{Process}
use Rattle.script_grammar.specs.declared.command.Verb.TheVariants.{Set, Fun}
use Rattle.script_grammar.specs.Written.{Term, Terms}
use Rattle.script_grammar.specs.Names.{Parsed}
use Rattle.script_grammar.specs.ReadAs.{IsRead}
use Rattle.plain_machine.specs.May.{may_of_tight}
use Rattle.plain_machine.specs.State.{State, HasNames}
use Rattle.plain_machine.specs.Step.{step, is_printing}
use Rattle.plain_machine.specs.Step.Outcome.{Mapped}
use Rattle.plain_machine.specs.Run.{CommandStep, TextStep}
use Rattle.plain_machine.specs.Maps.{is_map}
use Rattle.space_api.specs.Calls.{HasEnv, HasTerm, IsEnv, IsWrittenTerm, one_term}
use Rattle.engine.specs.declared.reply.Reply.{Reply}
use Rattle.engine.specs.declared.reply.Reply.TheVariants.{Refused}
use Rattle.engine.specs.Replies.{AllowsMap, Shown, reply_lines, ends_script}
use Rattle.engine.specs.Rules.{After}

-- The space stands for the state, and these are its names.
abbrev pub StandsWith : (stands : State → Type 0) (names : List (List ℕ)) → State → Type 0
StandsWith stands names s = stands s × (names ≡ s.names)

-- What such a machine leaves: the states that it stands for, and the text of its store.
abbrev pub leaving : (stands : State → Type 0) (text : List (List ℕ) → Command → List ℕ) (names : List (List ℕ)) → After
leaving stands text names = record { stands = StandsWith stands names; text = text names }

-- The code of a command that builds is one written term; that of one that makes a fun is its environment, and its name is known.
abbrev pub HasCode : Command → List (List ℕ) → List Item → Type 0
HasCode (Process number (Set r)) names code = HasTerm names code
HasCode (Process number (Fun r name arity)) names code = IsEnv code × (name < length names)
HasCode _ names code = Unit {0}

-- The terms of a command that builds are the one that its code is the prefix form of, or the registers of its environment.
abbrev pub TermsFit : Command → List (List ℕ) → List Item → Terms → Type 0
TermsFit (Process number (Set r)) names code terms = (t : Term) × (terms ≡ one_term t) × IsWrittenTerm names code t
TermsFit (Process number (Fun r name arity)) names code terms = HasEnv names name code terms
TermsFit _ names code terms = Unit {0}

-- The command's terms fit to its code, and its names are those of the state with more.
pub record Fits (c : Command) (names : List (List ℕ)) (code : List Item) (terms : Terms) (s : State) : Type 0 where
  pub term : TermsFit c names code terms
  pub longer : HasNames s names

-- The names of the state after a command: one that prints or is refused brings none.
abbrev pub names_left : Reply → State → Parsed → List (List ℕ)
names_left (Refused e) s p = s.names
names_left _ s p = if is_printing p.command then s.names else p.names

-- The reply to an accepted map line is the text of the store.
abbrev pub TellsMap : State → Parsed → (text : Command → List ℕ) → (replies : List (List ℕ)) → Type 0
TellsMap s p text replies = is_map p.command ≡ true → step s p ≡ Mapped → replies ≡ text p.command ∷ []

-- What a reply is read from, where this state is stood for.
abbrev pub shown : After → State → List (List ℕ) → Shown
shown after s names = record { state = s; names = names; text = after.text }

-- The command was done: a state is stood for to which, and to the lines of the reply, the machine steps, where a map of the
-- store is an allowed one.
pub record Acts (words : ℕ) (s : State) (p : Parsed) (reply : Reply) (after : After) : Type 0 where
  pub new : State
  pub stands : after.stands new
  pub names : new.names ≡ names_left reply s p
  pub steps : AllowsMap reply (shown after new p.names)
      → CommandStep may_of_tight words s p (ends_script reply) (reply_lines reply (shown after new p.names)) new
  pub maps : TellsMap s p after.text (reply_lines reply (shown after new p.names))

-- The line was done. A map of the store is allowed once it is written.
pub record Takes (words : ℕ) (s : State) (line : List ℕ) (reply : Reply) (after : After) (names : List (List ℕ)) : Type 0 where
  pub new : State
  pub stands : StandsWith after.stands names new
  pub steps : AllowsMap reply (shown after new names)
      → TextStep may_of_tight words s line (ends_script reply) (reply_lines reply (shown after new names)) new
  pub maps : (p : Parsed) → IsRead s.names line p → TellsMap s p after.text (reply_lines reply (shown after new names))

-- What holds where the reply is a refusal.
abbrev pub OnRefused : Reply → Type 0 → Type 0
OnRefused (Refused e) P = P
OnRefused _ P = Unit {0}
