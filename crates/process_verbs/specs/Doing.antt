-- What the calls leave, in the words of the plain machine, and what they asked of the memory.
use Rattle.std.specs.Prelude.{◌≡◌, ℕ, ◌+◌, ◌<◌, ◌≤◌, Bool, true, false, not, List, length, max, slice_index, nat_lt, if◌then◌else◌, Option, Some, None, Result, Err, OnErr, OnOk}
use Rattle.plain_term.specs.Tree.{Tree}
use Rattle.plain_term.specs.Measures.{bin_words, flat}
use Rattle.plain_term.specs.declared.item.Item.{Item}
use Rattle.script_grammar.specs.declared.command.Command.{Command}
use Rattle.script_grammar.specs.declared.command.Command.TheVariants.{Process}
use Rattle.script_grammar.specs.declared.command.Verb.TheVariants as verb
use Rattle.script_grammar.specs.declared.command.Depth.{Depth}
use Rattle.script_grammar.specs.declared.command.Pick.{Pick}
use Rattle.script_grammar.specs.declared.command.Pick.TheVariants as pick
use Rattle.script_grammar.specs.declared.command.Reg.{Reg}
use Rattle.script_grammar.specs.declared.refusal.Refusal.{Refusal}
use Rattle.script_grammar.specs.declared.refusal.Refusal.TheVariants.{BadArg, Big, MapSize, NoSpace}
use Rattle.script_grammar.specs.Written.{Term, Terms}
use Rattle.plain_machine.specs.State.{HasNames, State, is_live}
use Rattle.plain_machine.specs.Step.{step}
use Rattle.space_api.specs.Calls.{Becomes, Follows, IsWrittenTerm, KeepsBooks, Passes, Properly, one_term, said}
use Rattle.term_tags.specs.declared.layouts.TheConstants.{MOST_HEAP_BYTES}
use Rattle.term_verbs.specs.declared.pairs.PutStop.{PutStop}
use Rattle.term_verbs.specs.declared.pairs.PutStop.TheVariants as put
use Rattle.heaps_api.specs.Meaning.{Meaning}
use Rattle.heaps_api.specs.declared.wanted.Want.{Want}
use Rattle.heaps_api.specs.declared.wanted.Want.TheVariants as want
use Rattle.process_verbs.specs.Verbs.{Holds, VerbsStand, memory_words}
use Rattle.process_verbs.specs.declared.verbs.Verbs.{Verbs}

-- A changing call keeps the numbers; the bound of the names is at most this.
abbrev pub Books : {H : Type 0} → Meaning H → (old new : Verbs H) (bound : ℕ) → Type 0
Books m old new bound = KeepsBooks (memory_words m) (λ b. b.calls) (λ b. b.named) old new bound

-- All is whole, and it was done what the machine's step does, or refused as that is, or the line is tight.
pub record Does {H A : Type 0} (m : Meaning H) (c : Command) (old new : Verbs H) (result : Result A Refusal) : Type 0 where
  pub holds : Holds m new
  pub becomes : (s : State) (terms : Terms) (names : List (List ℕ)) → VerbsStand m old s
      → Becomes (memory_words m old) s (said c terms names) result (VerbsStand m new)
  pub books : Books m old new old.named

-- The same of a call that is given the names that there are after its line, in a state all of whose trees are proper.
pub record DoesBy {H A : Type 0} (m : Meaning H) (names : List (List ℕ)) (c : Command) (old new : Verbs H) (result : Result A Refusal) : Type 0 where
  pub holds : Holds m new
  pub becomes : (s : State) (terms : Terms) → Properly (VerbsStand m old) s → HasNames s names
      → Becomes (memory_words m old) s (said c terms names) result (VerbsStand m new)
  pub books : Books m old new old.named

-- The same of a call that is never refused.
pub record DoesAlways {H : Type 0} (m : Meaning H) (c : Command) (old new : Verbs H) : Type 0 where
  pub holds : Holds m new
  pub passes : (s : State) (terms : Terms) (names : List (List ℕ)) → VerbsStand m old s → Passes (step s (said c terms names)) (VerbsStand m new)
  pub books : Books m old new old.named

-- The same of a call that asks for no words.
pub record DoesAtOnce {H A : Type 0} (m : Meaning H) (c : Command) (old new : Verbs H) (result : Result A Refusal) : Type 0 where
  pub holds : Holds m new
  pub follows : (s : State) (terms : Terms) (names : List (List ℕ)) → VerbsStand m old s → Follows (step s (said c terms names)) s result (VerbsStand m new)
  pub books : Books m old new old.named

-- The same of a written term, whose items are these.
pub record Builds {H A : Type 0} (m : Meaning H) (names : List (List ℕ)) (pid : ℕ) (r : Reg) (code : List Item) (old new : Verbs H) (result : Result A Refusal)
    : Type 0 where
  pub holds : Holds m new
  pub becomes : (s : State) (t : Term) → VerbsStand m old s → IsWrittenTerm names code t
      → Becomes (memory_words m old) s (said (Process pid (verb.Set r)) (one_term t) names) result (VerbsStand m new)
  pub books : Books m old new (max old.named (length names))
  pub refused : OnErr result (new.named ≤ old.named)

-- The call answers that there is no space.
abbrev pub is_nospace : {A : Type 0} → Result A Refusal → Bool
is_nospace (Err (NoSpace n)) = true
is_nospace _ = false

-- A call looks for what is wanted, once, and answers that there is no space exactly where the memory says that it is not there: then the
-- memory is as the search left it. Where the call is refused for any cause, it leaves no words that it began; and where it is accepted,
-- it took no more than what is wanted.
pub record Asks {H A : Type 0} (m : Meaning H) (w : Want) (old new : Verbs H) (result : Result A Refusal) : Type 0 where
  pub heaps : H
  pub there : Bool
  pub looked : m.looked w old.heaps heaps there
  pub exact : is_nospace result ≡ not there
  pub lacking : is_nospace result ≡ true → new.heaps ≡ heaps
  pub given_back : OnErr result (m.gave_back heaps new.heaps)
  pub few : OnOk result (m.took w heaps new.heaps)

-- The call is refused by what stands before the want of space.
abbrev pub is_early : {A : Type 0} → Result A Refusal → Bool
is_early (Err BadArg) = true
is_early (Err Big) = true
is_early (Err MapSize) = true
is_early _ = false

-- The same, but where the call is refused before: then nothing at all changes.
pub record AsksUnless {H A : Type 0} (m : Meaning H) (w : Want) (old new : Verbs H) (result : Result A Refusal) : Type 0 where
  pub early : is_early result ≡ true → new ≡ old
  pub asks : is_early result ≡ false → Asks m w old new result

-- A message was sent to the process with this number and row, from the memory in which its words were found.
pub record IsSentApart {H : Type 0} (m : Meaning H) (row pid : ℕ) (heaps : H) (new : Verbs H) : Type 0 where
  pub within : row < length (m.numbers heaps)
  pub number : slice_index (m.numbers heaps) row ≡ pid
  pub sent : m.sent row heaps new.heaps

-- A message of a tree of this flat size is asked for, to the process with this number and row: where the call is accepted, it was sent.
pub record AsksForMessage {H A : Type 0} (m : Meaning H) (size pid : ℕ) (old new : Verbs H) (result : Result A Refusal) : Type 0 where
  pub row : ℕ
  pub number : is_early result ≡ false → (row < length (m.numbers old.heaps)) × (slice_index (m.numbers old.heaps) row ≡ pid)
  pub unless : AsksUnless m (want.Message row size) old new result
  pub sent : (e : is_early result ≡ false) → OnOk result (IsSentApart m row pid (unless.asks e).heaps new)

-- The same where words are asked for at all; where none are, the memory is as before.
abbrev pub AsksWhere : {H A : Type 0} → Meaning H → (asks : Bool) (size pid : ℕ) (old new : Verbs H) (result : Result A Refusal) → Type 0
AsksWhere m true size pid old new result = AsksForMessage m size pid old new result
AsksWhere m false size pid old new result = new.heaps ≡ old.heaps

-- A message to the process with this number asks for words where it lives; where the operand names none, nothing at all changes.
abbrev pub AsksToSend : {H A : Type 0} → Meaning H → Option ℕ → State → Tree → (old new : Verbs H) (result : Result A Refusal) → Type 0
AsksToSend m None s t old new result = new ≡ old
AsksToSend m (Some pid) s t old new result = AsksWhere m (is_live pid s) (flat t) pid old new result

-- The process with this row was collected to this depth, as a line asks.
abbrev pub HasCollected : {H : Type 0} → Meaning H → (row : ℕ) → Depth → (old new : Verbs H) → Type 0
HasCollected m row depth old new = m.collected row depth old.heaps new.heaps

-- What is wanted for a binary of so many equal bytes: a longer one stands in a record.
abbrev pub want_of_fill : (row len : ℕ) → Want
want_of_fill row len = if nat_lt MOST_HEAP_BYTES len then want.Words row 6 (4 + bin_words len) else want.Words row (2 + bin_words len) 0

-- A call that asks for no words.
abbrev pub IsIdle : {H : Type 0} → Meaning H → (old new : Verbs H) → Type 0
IsIdle m old new = m.idle old.heaps new.heaps

-- What is picked are bytes of a binary: they ask for words.
abbrev pub takes_part : Pick → Bool
takes_part (pick.Part offset len) = true
takes_part _ = false

-- The refusal of a pair that is not put.
abbrev pub refusal_of_put : PutStop → Refusal
refusal_of_put put.NoMap = BadArg
refusal_of_put put.Big = Big
refusal_of_put put.Full = MapSize
