-- In each run each process is alone: its own lines are answered as its view alone says.
use Rattle.std.proofs.Common.{◌≡◌, ℕ, Bool, true, false, cond, not, ◌&&◌, inl, inr, List, [], ◌∷◌, ◌++◌, length, drop, map, Option, Some, None, refl, sym, ap, subst, ◌∙◌, append-nil, eqb-true, arith}
use Rattle.std.proofs.lemmas.Bool.{eq-eqb}
use Rattle.std.specs.Prelude.{MatchBool}
use Rattle.line_io.specs.Lines.{Line, text, long}
use Rattle.script_grammar.specs.declared.command.Command.TheVariants.{Process}
use Rattle.script_grammar.specs.declared.command.Verb.{Verb}
use Rattle.script_grammar.specs.declared.word.Word.{Word}
use Rattle.script_grammar.specs.Written.{Written, Operands, kinds_of}
use Rattle.script_grammar.specs.Written.Written.{Nothing, OfProcess, OfSystem}
use Rattle.script_grammar.specs.Names.{Parsed, parsed_of, verb_of}
use Rattle.plain_machine.specs.State.{State, first_state, process_of}
use Rattle.plain_machine.specs.Tightness.{grow}
use Rattle.plain_machine.specs.Step.{Outcome}
use Rattle.plain_machine.specs.Step.Outcome.{Accepted, Refused, Mapped}
use Rattle.plain_machine.specs.Run.{CommandStep, Gives}
use Rattle.plain_machine.specs.Laws.{HoldsProper, IsNumbered}
use Rattle.plain_machine.proofs.Properly.Living.{first-proper}
use Rattle.isolation.specs.Named.NamedTree.{as_named}
use Rattle.isolation.specs.Events.{Event, IsEvent, IsAnswered, TellsEvents, NoneShort, TellsNoRoom}
use Rattle.isolation.specs.Views.{Sight, is_own, own_line, births, queue_in, queue_of, messages, areas, sights, view_of, is_map_line, shows_map, own_answers, own_replies}
use Rattle.isolation.specs.Views.Sight.{own, born, message, area}
use Rattle.isolation.specs.Solo.{solo_first, solo, answers_of, left_by, step_at, solo_from}
use Rattle.isolation.specs.Laws.{AreAlone, RunsIsolate, SameViewsSameReplies}
use Rattle.isolation.proofs.ByName.{IsKnownIn}
use Rattle.isolation.proofs.Areas.{AreasKnown}
use Rattle.isolation.proofs.AreaSteps.{kept}
use Rattle.isolation.proofs.Others.{Comes}
use Rattle.isolation.proofs.Alike.{Alike, known-in, answers-alike, own-alike, own-areas, area-alike, after_all, solo-append, messages-silent, behind, passes-alike, born-alike, first-alike}
use Rattle.isolation.proofs.Births.{passes-births, comes-births, area-births, births-are, born-once}
use Rattle.isolation.proofs.Solitary.{solitary-first}
use Rattle.isolation.proofs.Told.{Brings, ByArea, event-brings, event-proper, run-events}

comes-messages : (m : ℕ) (e : Event) → Comes m e.before e.after → messages m e ≡ []
comes-messages m e h = λ i. map (λ t. message (as_named e.after.names e.after.shared t)) (drop (length (queue_in (h.before i))) (queue_in (h.after i)))

drop-all : {A : Type 0} (xs : List A) → drop (length xs) xs ≡ []
drop-all [] = refl
drop-all (x ∷ xs) = drop-all xs

-- nor does a line of literal areas bring messages
same-queue : (m : ℕ) (e : Event) → process_of m e.after ≡ process_of m e.before → messages m e ≡ []
same-queue m e h = λ i. map (λ t. message (as_named e.after.names e.after.shared t)) ((ap (λ z. drop (length (queue_of m e.before)) (queue_in z)) h ∙ drop-all (queue_of m e.before)) i)

area-messages : (m : ℕ) (e : Event) → ByArea m e → messages m e ≡ []
area-messages m e h = same-queue m e h.changes.is

-- an event and what is seen of it
pub record EventAlone (m : ℕ) (e : Event) (t : State) : Type 0 where
  pub answers : own_answers m e ≡ solo_from m t (sights m e)
  pub alike : Alike m e.after (after_all m t (sights m e))
  pub beside : AreasKnown e.after

-- the same for other sights
alone-by : (m : ℕ) (e : Event) (t : State) (view : List Sight) → sights m e ≡ view → own_answers m e ≡ solo_from m t view → Alike m e.after (after_all m t view) → AreasKnown e.after
    → EventAlone m e t
alone-by m e t view is a h b = record {
  answers = a ∙ ap (solo_from m t) (sym is);
  alike = subst (λ (z : List Sight). Alike m e.after (after_all m t z)) (sym is) h;
  beside = b;
}

-- one that is not its own
other-sights : (m : ℕ) (e : Event) (b mess : List Sight) → is_own m e.said ≡ false → births m e ≡ b → messages m e ≡ mess → areas e.said e.replies ≡ [] → sights m e ≡ b ++ mess
other-sights m e b mess apart is there none =
    (λ i. cond (apart i) (own_line e.said) (is i ++ (there i ++ none i))) ∙ ap (λ z. b ++ z) (append-nil mess)

other-answers : (m : ℕ) (e : Event) → is_own m e.said ≡ false → own_answers m e ≡ []
other-answers m e apart = ap (λ b. cond (b && not (shows_map e.said)) e.replies []) apart

other-alone : (m : ℕ) (e : Event) (t : State) → is_own m e.said ≡ false → Brings m e → IsKnownIn m e.before → AreasKnown e.before → Alike m e.before t → EventAlone m e t
other-alone m e t apart (inl h) known b a = alone-by m e t (messages m e) (other-sights m e [] (messages m e) apart (passes-births m e (h.0)) refl (h.1))
    (other-answers m e apart ∙ sym (messages-silent m t (as_named e.after.names e.after.shared) (behind m e.before e.after)))
    (passes-alike m e.before e.after t (h.0) known b a) ((kept e.before b e.after (h.0).names (h.0).shared (h.0).areas).1)
other-alone m e t apart (inr (inl h)) known b a =
    alone-by m e t (born ∷ []) (other-sights m e (born ∷ []) [] apart (comes-births m e h.comes) (comes-messages m e h.comes) (ap (λ z. areas z e.replies) h.said))
    (other-answers m e apart) (born-alike m e.before e.after t h.comes b a) ((kept e.before b e.after h.comes.names h.comes.shared h.comes.areas).1)
other-alone m e t apart (inr (inr h)) known b a =
    let k = area-alike m e.before e.after t h.written h.line known b a h.left h.changes in
    alone-by m e t (area h.written ∷ [])
    ((λ i. cond (apart i) (own_line e.said) (area-births m e h i ++ (area-messages m e h i ++ areas (h.said i) (h.replies i))))
    ∙ ap (λ c. cond (c && true) (area h.written ∷ []) []) h.line)
    (other-answers m e apart) (k.0) (k.1)

-- one of its own: the reply and the state are those of the outcome
pub record OwnEvent (s : State) (o : Outcome) (replies : List (List ℕ)) (new : State) : Type 0 where
  pub said : replies ≡ answers_of o
  pub left : new ≡ left_by s o

gives-own : (s : State) (n : ℕ) (v : Verb) (o : Outcome) (quits : Bool) (replies : List (List ℕ)) (new : State) → Gives o s (Process n v) quits replies new → OwnEvent s o replies new
gives-own s n v (Accepted next reply) quits replies new g = record { said = g.said; left = g.is }
gives-own s n v (Refused r) quits replies new g = record { said = g.said; left = g.same }
gives-own s n v Mapped quits replies new g = absurd (g.allowed)

module _ (may : ℕ → State → Parsed → Bool) (words : ℕ) (quits : Bool) (m : ℕ) where
  -- its line is done
  done-alone : (e : Event) (t : State) (w : Word) (ops : Operands (kinds_of w)) → e.said ≡ Some (OfProcess m w ops) → (TellsNoRoom e.replies → ⊥)
      → CommandStep may words e.before (parsed_of e.before.names (OfProcess m w ops)) quits e.replies e.after → IsKnownIn m e.before → AreasKnown e.before → Alike m e.before t
      → EventAlone m e t
  done-alone e t w ops is ample (inr k) known b a = absurd (ample (inr (grow e.before (parsed_of e.before.names (OfProcess m w ops)), k.refuses.said)))
  done-alone e t w ops is ample (inl g) known b a =
      let line : Written = OfProcess m w ops in
      let p : Parsed = parsed_of e.before.names line in
      let o : OwnEvent e.before (step_at e.before line) e.replies e.after = gives-own e.before m (verb_of p.names w ops) (step_at e.before line) quits e.replies e.after g in
      let replies : e.replies ≡ answers_of (step_at t line) = o.said ∙ answers-alike m e.before t w ops known b a in
      let mine : is_own m e.said ≡ true = ap (is_own m) is ∙ eq-eqb m m refl in
      alone-by m e t (own line ∷ [])
      (ap (λ b. cond b (own_line e.said) (births m e ++ (messages m e ++ areas e.said e.replies))) mine ∙ ap own_line is)
      ((λ i. cond (mine i && not (shows_map (is i))) (replies i) []) ∙ by-map (is_map_line line) (answers_of (step_at t line)))
      (subst (λ (z : State). Alike m z (left_by t (step_at t line))) (sym o.left) (own-alike m e.before t w ops known b a))
      (subst AreasKnown (sym o.left) (own-areas m e.before t w ops known b a))
    where
      by-map : (b : Bool) (replies : List (List ℕ)) → cond (not b) replies [] ≡ cond b [] replies ++ []
      by-map true replies = refl
      by-map false replies = sym (append-nil replies)

  own-alone : (e : Event) (t : State) (line : Line) (said : Option Written) → e.said ≡ said → is_own m said ≡ true → IsAnswered may words quits e line said → (TellsNoRoom e.replies → ⊥)
      → IsKnownIn m e.before → AreasKnown e.before → Alike m e.before t → EventAlone m e t
  own-alone e t (text line) (Some (OfProcess n w ops)) is mine h ample known b a =
      let same : n ≡ m = eqb-true n m mine in
      at n same ops is h.step
    where
      at : (k : ℕ) → k ≡ m → (ops : Operands (kinds_of w)) → e.said ≡ Some (OfProcess k w ops)
          → CommandStep may words e.before (parsed_of e.before.names (OfProcess k w ops)) quits e.replies e.after → EventAlone m e t
      at k same ops is step = done-alone e t w ops (is ∙ ap (λ z. Some (OfProcess z w ops)) same) ample
          (subst (λ (z : ℕ). CommandStep may words e.before (parsed_of e.before.names (OfProcess z w ops)) quits e.replies e.after) same step) known b a
  own-alone e t (text line) (Some (OfSystem w ops)) is mine h ample known b a = absurd (cc)
  own-alone e t (text line) (Some Nothing) is mine h ample known b a = absurd (cc)
  own-alone e t (text line) None is mine h ample known b a = absurd (cc)
  own-alone e t long (Some w) is mine h ample known b a = absurd h
  own-alone e t long None is mine h ample known b a = absurd (cc)

  -- each event
  event-alone : (e : Event) (t : State) → IsEvent may words quits e → (TellsNoRoom e.replies → ⊥) → IsKnownIn m e.before → AreasKnown e.before → Alike m e.before t → EventAlone m e t
  event-alone e t h ample known b a = at (is_own m e.said) refl
    where
      at : (b : Bool) → is_own m e.said ≡ b → EventAlone m e t
      at true mine = own-alone e t e.line e.said refl mine h ample known b a
      at false apart = other-alone m e t apart (event-brings may words quits m e e.line e.said refl apart h) known b a

-- all events from a state on
pub events-alone : (may : ℕ → State → Parsed → Bool) (words : ℕ) (quits : Bool) (m : ℕ) (s t new : State) (events : List Event) → TellsEvents may words quits s events new → HoldsProper s
    → NoneShort events
    → AreasKnown s → Alike m s t → own_replies m events ≡ solo_from m t (view_of m events)
unfolding TellsEvents
events-alone may words quits m s t new [] told h ample b a = refl
events-alone may words quits m s t new (e ∷ events) told h ample b a =
    let proper : HoldsProper e.before = subst HoldsProper (sym (told.1)) h in
    let like : Alike m e.before t = subst (λ (z : State). Alike m z t) (sym (told.1)) a in
    let one : EventAlone m e t = event-alone may words (told.0) m e t (told.2) (ample.0) (known-in m e.before proper) (subst AreasKnown (sym (told.1)) b) like in
    let after : HoldsProper e.after = event-proper may words (told.0) e (told.2) proper in
    (λ i. one.answers i ++ at (told.0) (told.3) (λ k. events-alone may words quits m e.after (after_all m t (sights m e)) new events k after (ample.1) one.beside one.alike) i)
    ∙ sym (solo-append m t (sights m e) (view_of m events))
  where
    at : (ends : Bool) → MatchBool ends ((quits ≡ true) × (events ≡ []) × (new ≡ e.after)) (TellsEvents may words quits e.after events new)
        → (TellsEvents may words quits e.after events new → own_replies m events ≡ solo_from m (after_all m t (sights m e)) (view_of m events))
        → own_replies m events ≡ solo_from m (after_all m t (sights m e)) (view_of m events)
    at true k rest = let P : List Event → Type 0 = λ z. own_replies m z ≡ solo_from m (after_all m t (sights m e)) (view_of m z) in subst P (sym (k.1)) refl
    at false k rest = rest k

-- from the first state
pub first-alone : (may : ℕ → State → Parsed → Bool) (words : ℕ) (quits : Bool) (new : State) (events : List Event) → TellsEvents may words quits first_state events new → AreAlone events
first-alone may words quits new events told ample p = events-alone may words quits p first_state (solo_first p) new events told first-proper ample tt (first-alike p)

pub isolates : RunsIsolate
isolates may words quits lines replies new run =
    let h = run-events may words quits first_state new lines replies run in
    let numbered : IsNumbered first_state = record { numbered = (omega arith, omega arith) } in
    record {
      events = h.events;
      told = h.told;
      lines_are = h.lines_are;
      replies_are = h.replies_are;
      spawned = births-are may words quits first_state new h.events numbered h.told;
      born_once = record {
        once = λ p. (born-once may words quits p first_state new h.events numbered h.told).once;
        first = ap length ((born-once may words quits 1 first_state new h.events numbered h.told).none (omega arith));
      };
      solitary = λ p. solitary-first p h.events;
      alone = first-alone may words quits new h.events h.told;
    }

pub same-views : SameViewsSameReplies
same-views events others p a b same =
    first-alone a.may a.words a.quits a.last events a.told a.none_short p
    ∙ (ap (solo p) same ∙ sym (first-alone b.may b.words b.quits b.last others b.told b.none_short p))
