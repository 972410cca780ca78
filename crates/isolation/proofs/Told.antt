-- Each run has events; what an event that is not a process's own brings it; and each process is alone in them.
use Rattle.std.proofs.Common.{◌≡◌, ℕ, ◌≤◌, Bool, true, false, cond, ◌&&◌, ◌⊎◌, inl, inr, List, [], ◌∷◌, ◌++◌, length, codes, decimal, Option, Some, None, refl, sym, ap, subst, ◌∙◌}
use Rattle.std.specs.Prelude.{MatchBool}
use Rattle.std.specs.Str.{bytes_eq}
use Rattle.line_io.specs.Lines.{Line, text, long}
use Rattle.atom_names.specs.Names.{most_names}
use Rattle.script_grammar.specs.declared.command.Command.{Command}
use Rattle.script_grammar.specs.declared.refusal.Refusal.{Refusal}
use Rattle.script_grammar.specs.declared.refusal.Refusal.TheVariants.{NoSpace, Syntax, Atoms, Long}
use Rattle.script_grammar.specs.declared.word.SysWord.TheVariants as sys
use Rattle.script_grammar.specs.Written.{Written}
use Rattle.script_grammar.specs.Written.Written.{OfSystem}
use Rattle.script_grammar.specs.Names.{Parsed, parsed_of}
use Rattle.script_grammar.specs.ReadAs.{IsReadAs, Reading}
use Rattle.script_grammar.specs.ReadAs.Reading.{Means, NoSyntax, NoAtoms}
use Rattle.plain_machine.specs.State.{State, process_of}
use Rattle.plain_machine.specs.Tightness.{grow}
use Rattle.plain_machine.specs.Step.{Outcome}
use Rattle.plain_machine.specs.Step.Outcome.{Accepted, Refused, Mapped}
use Rattle.plain_machine.specs.Run.{Run, LineStep, ReadingStep, CommandStep, Gives, Skips, LacksSpace, is_nothing, refusal_text}
use Rattle.plain_machine.specs.Laws.{HoldsProper}
use Rattle.plain_machine.proofs.ByLine.Told.{refusal-begins}
use Rattle.plain_machine.proofs.ByLine.Runs.{run-one}
use Rattle.plain_machine.proofs.Properly.Living.{run-proper}
use Rattle.plain_machine.proofs.Properly.Making.{Extends, extends-none}
use Rattle.isolation.specs.Events.{Event, IsEvent, IsAnswered, TellsEvents, lines_of, replies_of}
use Rattle.isolation.specs.Views.{is_own, is_area_line, is_accepted, areas}
use Rattle.isolation.specs.Views.Sight.{area}
use Rattle.isolation.specs.Solo.{step_at}
use Rattle.isolation.proofs.Others.{Passes, Comes, ChangesAreas, OtherOutcome, passes-same, other-line}

-- an event is a line of the machine
pub event-line : (may : ℕ → State → Parsed → Bool) (words : ℕ) (quits : Bool) (e : Event) (line : Line) (said : Option Written) → IsAnswered may words quits e line said
    → LineStep may words e.before line quits e.replies e.after
event-line may words quits e (text line) (Some w) h =
    record { reading = Means (parsed_of e.before.names w); reads = record { written = w; says = h.says; built = h.built; is = refl; few = h.few }; follows = h.step }
event-line may words quits e (text line) None (inl h) = record { reading = NoSyntax; reads = h.0; follows = h.1 }
event-line may words quits e (text line) None (inr h) = record { reading = NoAtoms; reads = h.0; follows = h.1 }
event-line may words quits e long (Some w) h = absurd h
event-line may words quits e long None h = h

-- a line of the machine is an event
pub record HasEvent (may : ℕ → State → Parsed → Bool) (words : ℕ) (quits : Bool) (s : State) (line : Line) (replies : List (List ℕ)) (new : State) : Type 0 where
  pub said : Option Written
  pub is : IsEvent may words quits (record { line = line; said = said; before = s; replies = replies; after = new })

reading-event : (may : ℕ → State → Parsed → Bool) (words : ℕ) (quits : Bool) (s : State) (line : List ℕ) (replies : List (List ℕ)) (new : State) (r : Reading)
    → IsReadAs s.names line r → ReadingStep may words s r quits replies new → HasEvent may words quits s (text line) replies new
reading-event may words quits s line replies new (Means p) h k = record {
  said = Some h.written;
  is = record {
    says = h.says;
    built = h.built;
    few = subst (λ (z : Parsed). length z.names ≤ most_names) h.is h.few;
    step = subst (λ (z : Parsed). CommandStep may words s z quits replies new) h.is k;
  };
}
reading-event may words quits s line replies new NoSyntax h k = record { said = None; is = inl (h, k) }
reading-event may words quits s line replies new NoAtoms h k = record { said = None; is = inr (h, k) }

line-event : (may : ℕ → State → Parsed → Bool) (words : ℕ) (quits : Bool) (s : State) (line : Line) (replies : List (List ℕ)) (new : State)
    → LineStep may words s line quits replies new → HasEvent may words quits s line replies new
line-event may words quits s (text line) replies new h = reading-event may words quits s line replies new h.reading h.reads h.follows
line-event may words quits s long replies new h = record { said = None; is = h }

-- so a run has events
pub record HasEvents (may : ℕ → State → Parsed → Bool) (words : ℕ) (quits : Bool) (s : State) (lines : List Line) (replies : List (List ℕ)) (new : State) : Type 0 where
  pub events : List Event
  pub told : TellsEvents may words quits s events new
  pub lines_are : lines_of events ≡ lines
  pub replies_are : replies_of events ≡ replies

pub run-events : (may : ℕ → State → Parsed → Bool) (words : ℕ) (quits : Bool) (s new : State) (lines : List Line) (replies : List (List ℕ))
    → Run may words quits s lines replies new → HasEvents may words quits s lines replies new
unfolding Run TellsEvents
run-events may words quits s new [] replies h = record { events = []; told = (h.0, h.2); lines_are = refl; replies_are = sym (h.1) }
run-events may words quits s new (line ∷ lines) replies h =
    at (h.0) (line-event may words (h.0) s line (h.1) (h.3) (h.4)) (h.6) (λ k. run-events may words quits (h.3) new lines (h.2) k)
  where
    at : (ends : Bool) → HasEvent may words ends s line (h.1) (h.3) → MatchBool ends ((quits ≡ true) × (lines ≡ []) × (h.2 ≡ []) × (new ≡ h.3)) (Run may words quits (h.3) lines (h.2) new)
        → (Run may words quits (h.3) lines (h.2) new → HasEvents may words quits (h.3) lines (h.2) new) → HasEvents may words quits s (line ∷ lines) replies new
    at true e k rest = record {
      events = record { line = line; said = e.said; before = s; replies = h.1; after = h.3 } ∷ [];
      told = (true, refl, e.is, (k.0, refl, k.3));
      lines_are = ap (λ z. line ∷ z) (sym (k.1));
      replies_are = ap (λ z. h.1 ++ z) (sym (k.2)) ∙ sym (h.5);
    }
    at false e k rest = let r = rest k in record {
      events = record { line = line; said = e.said; before = s; replies = h.1; after = h.3 } ∷ r.events;
      told = (false, refl, e.is, r.told);
      lines_are = ap (λ z. line ∷ z) r.lines_are;
      replies_are = ap (λ z. h.1 ++ z) r.replies_are ∙ sym (h.5);
    }

-- trees stay proper over an event
pub event-proper : (may : ℕ → State → Parsed → Bool) (words : ℕ) (quits : Bool) (e : Event) → IsEvent may words quits e → HoldsProper e.before → HoldsProper e.after
event-proper may words quits e h p = run-proper may words quits e.before e.after (e.line ∷ []) e.replies p
    (run-one may words quits e.before e.after e.line e.replies (event-line may words quits e e.line e.said h))

-- what an event that is not its own does to a process
pub record BySpawn (m : ℕ) (e : Event) : Type 0 where
  pub comes : Comes m e.before e.after
  pub said : e.said ≡ Some (OfSystem sys.Spawn tt)
  pub is_next : m ≡ e.before.next
  pub replies : e.replies ≡ (codes "ok " ++ decimal m) ∷ []

-- an accepted line of literal areas
pub record ByArea (m : ℕ) (e : Event) : Type 0 where
  pub written : Written
  pub said : e.said ≡ Some written
  pub line : is_area_line written ≡ true
  pub left : step_at e.before written ≡ Accepted e.after (codes "ok")
  pub replies : e.replies ≡ codes "ok" ∷ []
  pub changes : ChangesAreas m e.before written e.after (codes "ok")

-- nothing is seen of literal areas
abbrev pub IsQuiet : Event → Type 0
IsQuiet e = areas e.said e.replies ≡ []

abbrev pub Brings : ℕ → Event → Type 0
Brings m e = (Passes m e.before e.after × IsQuiet e) ⊎ (BySpawn m e ⊎ ByArea m e)

-- a line of something else, and a line that is not accepted, are
quiet-line : (w : Written) (said : Option Written) (replies : List (List ℕ)) → said ≡ Some w → is_area_line w ≡ false → areas said replies ≡ []
quiet-line w said replies is h = ap (λ z. areas z replies) is ∙ ap (λ b. cond (b && is_accepted replies) (area w ∷ []) []) h

quiet-replies : (said : Option Written) (replies : List (List ℕ)) → is_accepted replies ≡ false → areas said replies ≡ []
quiet-replies None replies h = refl
quiet-replies (Some w) replies h = at (is_area_line w)
  where
    at : (b : Bool) → cond (b && is_accepted replies) (area w ∷ []) [] ≡ []
    at true = ap (λ b. cond b (area w ∷ []) []) h
    at false = refl

refusal-no-ok : (r : Refusal) → is_accepted (refusal_text r ∷ []) ≡ false
refusal-no-ok r = ap (λ z. bytes_eq z (codes "ok")) ((refusal-begins r).1)

quiet-refusal : (said : Option Written) (replies : List (List ℕ)) (r : Refusal) → replies ≡ refusal_text r ∷ [] → areas said replies ≡ []
quiet-refusal said replies r e = quiet-replies said replies (ap is_accepted e ∙ refusal-no-ok r)

stays : (m : ℕ) (e : Event) → e.after ≡ e.before → IsQuiet e → Brings m e
stays m e h quiet = inl (subst (Passes m e.before) (sym h) (passes-same m e.before e.before (extends-none e.before.names) (extends-none e.before.shared) refl refl), quiet)

gives-brings : (m : ℕ) (e : Event) (w : Written) (quits : Bool) (c : Command) (o : Outcome) → e.said ≡ Some w → step_at e.before w ≡ o → OtherOutcome m e.before w o
    → Gives o e.before c quits e.replies e.after → Brings m e
gives-brings m e w quits c (Accepted next reply) is at (inl h) g = inl (subst (Passes m e.before) (sym g.is) (h.0), quiet-line w e.said e.replies is (h.1))
gives-brings m e w quits c (Accepted next reply) is at (inr (inl h)) g = inr (inl (record {
  comes = subst (Comes m e.before) (sym g.is) h.comes;
  said = is ∙ ap Some h.said;
  is_next = h.is_next;
  replies = g.said ∙ ap (λ z. z ∷ []) h.told;
}))
gives-brings m e w quits c (Accepted next reply) is at (inr (inr h)) g = inr (inr (record {
  written = w;
  said = is;
  line = h.said;
  left = at ∙ (λ i. Accepted (sym g.is i) (h.told i));
  replies = g.said ∙ ap (λ z. z ∷ []) h.told;
  changes = record {
    names = subst (λ (z : State). Extends e.before.names z.names) (sym g.is) h.names;
    shared = subst (λ (z : State). Extends e.before.shared z.shared) (sym g.is) h.shared;
    is = ap (process_of m) g.is ∙ h.is;
    said = h.said;
    told = refl;
  };
}))
gives-brings m e w quits c (Refused r) is at h g = stays m e g.same (quiet-refusal e.said e.replies r g.said)
gives-brings m e w quits c Mapped is at h g = stays m e g.same (quiet-line w e.said e.replies is h)

command-brings : (may : ℕ → State → Parsed → Bool) (words : ℕ) (quits : Bool) (m : ℕ) (e : Event) (w : Written) → e.said ≡ Some w → is_own m (Some w) ≡ false
    → CommandStep may words e.before (parsed_of e.before.names w) quits e.replies e.after → Brings m e
command-brings may words quits m e w is apart h = at (is_nothing (parsed_of e.before.names w).command) h
  where
    at : (b : Bool) → MatchBool b (Skips e.before quits e.replies e.after)
        (Gives (step_at e.before w) e.before (parsed_of e.before.names w).command quits e.replies e.after ⊎ LacksSpace may words e.before (parsed_of e.before.names w) quits e.replies e.after)
        → Brings m e
    at true k = stays m e k.same (quiet-replies e.said e.replies (ap is_accepted k.said))
    at false (inl k) = gives-brings m e w quits (parsed_of e.before.names w).command (step_at e.before w) is refl (other-line m e.before w apart) k
    at false (inr k) = stays m e k.refuses.same (quiet-refusal e.said e.replies (NoSpace (grow e.before (parsed_of e.before.names w))) k.refuses.said)

pub event-brings : (may : ℕ → State → Parsed → Bool) (words : ℕ) (quits : Bool) (m : ℕ) (e : Event) (line : Line) (said : Option Written) → e.said ≡ said → is_own m said ≡ false
    → IsAnswered may words quits e line said → Brings m e
event-brings may words quits m e (text line) (Some w) is apart h = command-brings may words quits m e w is apart h.step
event-brings may words quits m e (text line) None is apart (inl h) = stays m e ((h.1).same) (quiet-refusal e.said e.replies Syntax ((h.1).said))
event-brings may words quits m e (text line) None is apart (inr h) = stays m e ((h.1).same) (quiet-refusal e.said e.replies Atoms ((h.1).said))
event-brings may words quits m e long (Some w) is apart h = absurd h
event-brings may words quits m e long None is apart h = stays m e h.same (quiet-refusal e.said e.replies Long h.said)
