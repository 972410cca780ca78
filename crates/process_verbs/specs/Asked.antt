-- The shared steps of verbs: what is wanted is looked for, a term is built or a word put into a register.
use Rattle.std.specs.Prelude.{◌≡◌, ℕ, ◌+◌, Bool, true, false, List, Result, Ok, Err}
use Rattle.plain_term.specs.Tree.{Tree}
use Rattle.plain_machine.specs.State.{Process, State, with_process, with_register}
use Rattle.plain_machine.specs.Step.{by_verb, does, step}
use Rattle.plain_machine.specs.Tightness.{verb_words}
use Rattle.script_grammar.specs.declared.command.Command.TheVariants.{Process as OfProcess}
use Rattle.script_grammar.specs.declared.command.Reg.{Reg}
use Rattle.script_grammar.specs.declared.command.Verb.{Verb}
use Rattle.script_grammar.specs.declared.refusal.Refusal.{Refusal}
use Rattle.script_grammar.specs.declared.refusal.Refusal.TheVariants.{NoSpace}
use Rattle.script_grammar.specs.Written.{Terms}
use Rattle.space_api.specs.Calls.{Becomes, Follows, said}
use Rattle.space_api.specs.declared.space.Seat.{Seat}
use Rattle.heaps_api.specs.Changing.{Looks, process_at}
use Rattle.heaps_api.specs.Making.{IsMadeOf, with_made_in, words_of_make}
use Rattle.heaps_api.specs.Meaning.{HoldsThere, Meaning}
use Rattle.heaps_api.specs.Wanted.{words_of_want}
use Rattle.heaps_api.specs.declared.making.Make.{Make}
use Rattle.heaps_api.specs.declared.wanted.Want.{Want}
use Rattle.heaps_api.specs.declared.wanted.Want.TheVariants as want
use Rattle.process_verbs.specs.Verbs.{Holds, VerbsStand, memory_words}
use Rattle.process_verbs.specs.Doing.{Asks, Books, IsIdle, is_early}
use Rattle.process_verbs.specs.declared.verbs.Verbs.{Verbs}

-- After a search for room, one call later.
abbrev pub roomed : {H : Type 0} → Verbs H → H → Verbs H
roomed b h = record { heaps = h; scratch = b.scratch; next = b.next; serials = b.serials; named = b.named; calls = b.calls + 1; swept = b.swept }

-- After a call that changed something.
abbrev pub changed : {H : Type 0} → Verbs H → H → Verbs H
changed b h = record { heaps = h; scratch = b.scratch; next = b.next; serials = b.serials; named = b.named; calls = b.calls + 1; swept = false }

-- The answer of a search.
abbrev pub answer_of_search : Want → Bool → Result (Unit {0}) Refusal
answer_of_search w true = Ok tt
answer_of_search w false = Err (NoSpace (words_of_want w))

-- What is wanted was looked for, once: it is there, or there is no space.
pub record Searches {H : Type 0} (m : Meaning H) (w : Want) (old new : Verbs H) (result : Result (Unit {0}) Refusal) : Type 0 where
  pub heaps : H
  pub found : Bool
  pub looks : Looks m w old.heaps heaps found
  pub same : new ≡ roomed old heaps
  pub answer : result ≡ answer_of_search w found
  pub holds : Holds m new
  pub stands : (s : State) → VerbsStand m old s → VerbsStand m new s

-- Something of this kind can be made for the process, over these shared binaries.
pub record HasMade (shared : List (List ℕ)) (q : Process) (make : Make) : Type 0 where
  pub tree : Tree
  pub makes : IsMadeOf shared q make tree

-- What is made was built in the register of the seat's process, or there is no space: a verb that asks for its words and does this was done.
pub record MakesTerm {H : Type 0} (m : Meaning H) (seat : Seat) (r : Reg) (make : Make) (old new : Verbs H) (result : Result (Unit {0}) Refusal) : Type 0 where
  pub holds : Holds m new
  pub asks : Asks m (want.Words seat.row (words_of_make make) 0) old new result
  pub late : is_early result ≡ false
  pub books : Books m old new old.named
  pub becomes : (s : State) (v : Verb) (terms : Terms) (names : List (List ℕ)) (t : Tree) → VerbsStand m old s
      → IsMadeOf s.shared (process_at s.processes seat.row) make t
      → verb_words s (said (OfProcess seat.pid v) terms names) (process_at s.processes seat.row) v ≡ words_of_make make
      → by_verb s (said (OfProcess seat.pid v) terms names) (process_at s.processes seat.row) v
      ≡ does (said (OfProcess seat.pid v) terms names) (with_process (with_made_in r.0 make t (process_at s.processes seat.row)) s)
      → Becomes (memory_words m old) s (said (OfProcess seat.pid v) terms names) result (VerbsStand m new)

-- The word holds some tree in a state that the verbs stand for, as a word of the process with this row.
pub record HoldsSome {H : Type 0} (m : Meaning H) (b : Verbs H) (row w : ℕ) (s : State) (o : VerbsStand m b s) : Type 0 where
  pub tree : Tree
  pub held : HoldsThere m b.named b.heaps s.shared s.processes o.processes row w tree

-- The word was put into the register of the seat's process: a verb that does this was done.
pub record PutsInto {H : Type 0} (m : Meaning H) (seat : Seat) (r : Reg) (w : ℕ) (old new : Verbs H) : Type 0 where
  pub holds : Holds m new
  pub idle : IsIdle m old new
  pub books : Books m old new old.named
  pub follows : (s : State) (v : Verb) (terms : Terms) (names : List (List ℕ)) (t : Tree) (o : VerbsStand m old s)
      → HoldsThere m old.named old.heaps s.shared s.processes o.processes seat.row w t
      → by_verb s (said (OfProcess seat.pid v) terms names) (process_at s.processes seat.row) v
      ≡ does (said (OfProcess seat.pid v) terms names) (with_process (with_register r.0 t (process_at s.processes seat.row)) s)
      → Follows {A = Unit {0}} (step s (said (OfProcess seat.pid v) terms names)) s (Ok tt) (VerbsStand m new)
