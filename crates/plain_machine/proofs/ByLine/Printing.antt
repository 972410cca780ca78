-- A line that prints brings no name, asks for no word and leaves the state.
use Rattle.std.proofs.Common.{◌≡◌, ℕ, ◌⊎◌, inl, inr, Bool, true, false, List, [], Option, Some, None, refl, ap, ◌∙◌}
use Rattle.std.specs.Prelude.{MatchBool}
use Rattle.script_grammar.specs.declared.command.Command.{Command}
use Rattle.script_grammar.specs.declared.command.Command.TheVariants.{Nothing, Process, System}
use Rattle.script_grammar.specs.declared.command.Verb.{Verb}
use Rattle.script_grammar.specs.declared.command.Verb.TheVariants.{Set, Choose, MapPut, Fill, Fun, Ref, Repeat, Push, Send}
use Rattle.script_grammar.specs.declared.command.SysVerb.{SysVerb}
use Rattle.script_grammar.specs.declared.command.SysVerb.TheVariants.{Spawn, Load}
use Rattle.script_grammar.specs.Written.{Written}
use Rattle.script_grammar.specs.declared.word.Word.TheVariants as word
use Rattle.script_grammar.specs.declared.word.SysWord.TheVariants as sys
use Rattle.script_grammar.specs.Written.Written.{Nothing as Blank, OfProcess, OfSystem}
use Rattle.script_grammar.specs.Names.{Parsed, parsed_of, names_after, with_names, command_of, all_atoms}
use Rattle.plain_machine.specs.State.{Process as Live, State, process_of}
use Rattle.plain_machine.specs.Tightness.{process_words, system_words, command_words}
use Rattle.plain_machine.specs.Step.{Outcome, step, is_printing, is_printing_verb, is_printing_system}
use Rattle.plain_machine.specs.Step.Outcome.{Accepted, Refused, Mapped}
use Rattle.plain_machine.specs.Run.{CommandStep, Gives, Skips, LacksSpace, is_nothing}
use Rattle.plain_machine.specs.Laws.{OnlyPrints}
use Rattle.plain_machine.proofs.ByLine.Commands.{LeavesState, command-does}

-- a printing line brings no names
pub prints-none : (after : List (List ℕ)) (w : Written) → is_printing (command_of after w) ≡ true → all_atoms w ≡ []
prints-none after (OfProcess n word.Queue ops) e = refl
prints-none after (OfProcess n word.Print ops) e = refl
prints-none after (OfProcess n word.Eq ops) e = refl
prints-none after (OfProcess n word.Cmp ops) e = refl
prints-none after (OfProcess n word.Flat ops) e = refl
prints-none after (OfProcess n word.Info ops) e = refl
prints-none after (OfProcess n word.Heap ops) e = refl
prints-none after (OfProcess n _ ops) e = absurd (cc)
prints-none after (OfSystem sys.Counts ops) e = refl
prints-none after (OfSystem sys.Dump ops) e = refl
prints-none after (OfSystem sys.Procs ops) e = refl
prints-none after (OfSystem sys.Quit ops) e = refl
prints-none after (OfSystem _ ops) e = absurd (cc)
prints-none after Blank e = refl

-- it asks for no word
verb-words : (o : Option Live) (s : State) (p : Parsed) (v : Verb) → is_printing_verb v ≡ true → process_words o s p v ≡ 0
verb-words None s p v e = refl
verb-words (Some q) s p (Set r) e = absurd (cc)
verb-words (Some q) s p (Choose r m k) e = absurd (cc)
verb-words (Some q) s p (MapPut r m k v) e = absurd (cc)
verb-words (Some q) s p (Fill r len byte) e = absurd (cc)
verb-words (Some q) s p (Fun r name arity) e = absurd (cc)
verb-words (Some q) s p (Ref r) e = absurd (cc)
verb-words (Some q) s p (Repeat r shape n t) e = absurd (cc)
verb-words (Some q) s p (Push r) e = absurd (cc)
verb-words (Some q) s p (Send r to) e = absurd (cc)
verb-words (Some q) s p _ e = refl

sys-words : (p : Parsed) (v : SysVerb) → is_printing_system v ≡ true → system_words p v ≡ 0
sys-words p Spawn e = absurd (cc)
sys-words p (Load area count) e = absurd (cc)
sys-words p _ e = refl

prints-words : (s : State) (p : Parsed) (c : Command) → is_printing c ≡ true → command_words s p c ≡ 0
prints-words s p Nothing e = refl
prints-words s p (Process n v) e = verb-words (process_of n s) s p v e
prints-words s p (System v) e = sys-words p v e

-- it leaves the state
gives-state : (o : Outcome) (s : State) (c : Command) (quits : Bool) (replies : List (List ℕ)) (new : State) → LeavesState s o → Gives o s c quits replies new → new ≡ s
gives-state (Accepted next reply) s c quits replies new k g = g.is ∙ k
gives-state (Refused r) s c quits replies new k g = g.same
gives-state Mapped s c quits replies new k g = g.same

prints-state : (may : ℕ → State → Parsed → Bool) (words : ℕ) (s : State) (p : Parsed) (quits : Bool) (replies : List (List ℕ)) (new : State)
    → is_printing p.command ≡ true → CommandStep may words s p quits replies new → new ≡ s
prints-state may words s p quits replies new e h = at (is_nothing p.command) h
  where
    at : (b : Bool) → MatchBool b (Skips s quits replies new) (Gives (step s p) s p.command quits replies new ⊎ LacksSpace may words s p quits replies new) → new ≡ s
    at true k = k.same
    at false (inl k) = gives-state (step s p) s p.command quits replies new ((command-does s p p.command).printing e) k
    at false (inr k) = k.refuses.same

pub only-prints : (s : State) (w : Written) → is_printing (parsed_of s.names w).command ≡ true → OnlyPrints s (parsed_of s.names w)
only-prints s w e = record {
  names = ap (with_names s.names) (prints-none (names_after s.names w) w e);
  words = prints-words s (parsed_of s.names w) (command_of (names_after s.names w) w) e;
  leaves = λ may words quits replies new h. prints-state may words s (parsed_of s.names w) quits replies new e h;
}
