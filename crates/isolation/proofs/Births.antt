-- Who comes to live: a process does with the `spawn` that is answered by its number, with no other line, and once.
use Rattle.std.proofs.Common.{◌<◌, ◌≤◌, ◌≡◌, ℕ, Bool, true, false, cond, not, ◌&&◌, ◌⊎◌, inl, inr, List, [], ◌∷◌, ◌++◌, length, Option, Some, None, refl, sym, ap, subst, ◌∙◌, eqb-true, arith}
use Rattle.std.proofs.lemmas.Bool.{eq-eqb}
use Rattle.std.specs.Prelude.{MatchBool, option_map, is_some, flat_map}
use Rattle.line_io.specs.Lines.{Line, text, long}
use Rattle.script_grammar.specs.declared.command.Command.TheVariants.{Process, System}
use Rattle.script_grammar.specs.declared.command.SysVerb.TheVariants.{Spawn as SpawnVerb}
use Rattle.script_grammar.specs.declared.command.Verb.{Verb}
use Rattle.script_grammar.specs.declared.word.Word.{Word}
use Rattle.script_grammar.specs.declared.word.SysWord.TheVariants as sys
use Rattle.script_grammar.specs.Written.{Written, Operands, kinds_of}
use Rattle.script_grammar.specs.Written.Written.{Nothing, OfProcess, OfSystem}
use Rattle.script_grammar.specs.Names.{Parsed, parsed_of, verb_of}
use Rattle.plain_term.specs.Tree.{Tree}
use Rattle.plain_machine.specs.State.{Process as Live, State, process_of, is_live, fresh_process}
use Rattle.plain_machine.specs.Tightness.{grow}
use Rattle.plain_machine.specs.Step.{in_process, spawn_if}
use Rattle.plain_machine.specs.Run.{CommandStep, Gives}
use Rattle.plain_machine.specs.Laws.{IsNumbered, AreFresh}
use Rattle.plain_machine.proofs.ByLine.Runs.{run-one}
use Rattle.plain_machine.proofs.Numbering.Numbers.{live-below}
use Rattle.plain_machine.proofs.Numbering.Numbered.{run-fresh}
use Rattle.isolation.specs.Events.{Event, IsEvent, IsAnswered, TellsEvents}
use Rattle.isolation.specs.Views.{Sight, is_own, births}
use Rattle.isolation.specs.Views.Sight.{born}
use Rattle.isolation.specs.Laws.{IsSpawnOf, AllBirthsAreSpawns, TellsNoProcess}
use Rattle.isolation.proofs.Finding.{live-found, none-come}
use Rattle.isolation.proofs.Others.{Passes, Comes, with_more}
use Rattle.isolation.proofs.Told.{Brings, ByArea, event-brings, event-line}

-- whether it lives is told by whether it is found
pub lives-same : (m : ℕ) (s next : State) (more : List Tree) → process_of m next ≡ option_map (with_more more) (process_of m s) → is_live m next ≡ is_live m s
lives-same m s next more e = live-found m next.processes ∙ (ap is_some e ∙ (as-before (process_of m s) ∙ sym (live-found m s.processes)))
  where
    as-before : (o : Option Live) → is_some (option_map (with_more more) o) ≡ is_some o
    as-before None = refl
    as-before (Some q) = refl

-- a birth where it did not live and does
abbrev birth-by : (b c : Bool) → List Sight
birth-by b c = cond (not b && c) (born ∷ []) []

no-birth : (b c : Bool) → c ≡ b → birth-by b c ≡ []
no-birth true c e = refl
no-birth false c e = ap (birth-by false) e

pub passes-births : (m : ℕ) (e : Event) → Passes m e.before e.after → births m e ≡ []
passes-births m e h = no-birth (is_live m e.before) (is_live m e.after) (lives-same m e.before e.after h.more h.is)

pub area-births : (m : ℕ) (e : Event) → ByArea m e → births m e ≡ []
area-births m e h = no-birth (is_live m e.before) (is_live m e.after)
    (live-found m e.after.processes ∙ (ap is_some h.changes.is ∙ sym (live-found m e.before.processes)))

pub comes-births : (m : ℕ) (e : Event) → Comes m e.before e.after → births m e ≡ born ∷ []
comes-births m e h =
    let was : is_live m e.before ≡ false = live-found m e.before.processes ∙ ap is_some h.before in
    let now : is_live m e.after ≡ true = live-found m e.after.processes ∙ ap is_some h.after in
    λ i. birth-by (was i) (now i)

-- a line of its own brings no process to live
dead-stays : (s : State) (p : Parsed) (n : ℕ) (v : Verb) (o : Option Live) (quits : Bool) (replies : List (List ℕ)) (new : State) → o ≡ None
    → Gives (in_process o s p v) s (Process n v) quits replies new → new ≡ s
dead-stays s p n v None quits replies new e g = g.same
dead-stays s p n v (Some q) quits replies new e g = absurd (cc)

module _ (may : ℕ → State → Parsed → Bool) (words : ℕ) (quits : Bool) (m : ℕ) (e : Event) where
  stays-births : e.after ≡ e.before → births m e ≡ []
  stays-births same = no-birth (is_live m e.before) (is_live m e.after) (ap (is_live m) same)

  done-born : (n : ℕ) (w : Word) (ops : Operands (kinds_of w)) → n ≡ m → CommandStep may words e.before (parsed_of e.before.names (OfProcess n w ops)) quits e.replies e.after → births m e ≡ []
  done-born n w ops same (inr k) = stays-births k.refuses.same
  done-born n w ops same (inl g) = at (process_of m e.before) refl
    where
      at : (o : Option Live) → process_of m e.before ≡ o → births m e ≡ []
      at (Some q) is = ap (λ b. birth-by b (is_live m e.after)) (live-found m e.before.processes ∙ ap is_some is)
      at None is =
          let p : Parsed = parsed_of e.before.names (OfProcess n w ops) in
          stays-births (dead-stays e.before p n (verb_of p.names w ops) (process_of n e.before) quits e.replies e.after (ap (λ (z : ℕ). process_of z e.before) same ∙ is) g)

  own-born : (line : Line) (said : Option Written) → is_own m said ≡ true → IsAnswered may words quits e line said → births m e ≡ []
  own-born (text line) (Some (OfProcess n w ops)) mine h = done-born n w ops (eqb-true n m mine) h.step
  own-born (text line) (Some (OfSystem w ops)) mine h = absurd (cc)
  own-born (text line) (Some Nothing) mine h = absurd (cc)
  own-born (text line) None mine h = absurd (cc)
  own-born long (Some w) mine h = absurd h
  own-born long None mine h = absurd (cc)

-- who comes to live
only-spawns : (may : ℕ → State → Parsed → Bool) (words : ℕ) (quits : Bool) (e : Event) → IsEvent may words quits e → (p : ℕ)
    → (births p e ≡ []) ⊎ ((p ≡ e.before.next) × IsSpawnOf p e)
only-spawns may words quits e h p = at (is_own p e.said) refl
  where
    at-brought : Brings p e → (births p e ≡ []) ⊎ ((p ≡ e.before.next) × IsSpawnOf p e)
    at-brought (inl k) = inl (passes-births p e (k.0))
    at-brought (inr (inl k)) = inr (k.is_next, record { said = k.said; replies = k.replies })
    at-brought (inr (inr k)) = inl (area-births p e k)

    at : (b : Bool) → is_own p e.said ≡ b → (births p e ≡ []) ⊎ ((p ≡ e.before.next) × IsSpawnOf p e)
    at true mine = inl (own-born may words quits p e e.line e.said mine h)
    at false apart = at-brought (event-brings may words quits p e e.line e.said refl apart h)

module _ (may : ℕ → State → Parsed → Bool) (words : ℕ) (quits : Bool) (e : Event) (numbered : IsNumbered e.before) where
  -- none has the next number
  none-next : process_of e.before.next e.before ≡ None
  none-next = at (process_of e.before.next e.before) refl
    where
      at : (o : Option Live) → process_of e.before.next e.before ≡ o → o ≡ None
      at None is = refl
      at (Some q) is = absurd (omega (arith, live-below e.before e.before.next numbered (live-found e.before.next e.before.processes ∙ ap is_some is)))

  abbrev BearsNext : Type 0
  BearsNext = IsSpawnOf e.before.next e × (births e.before.next e ≡ born ∷ [])

  spawn-bears : (many : Bool) (p : Parsed) → e.said ≡ Some (OfSystem sys.Spawn tt) → Gives (spawn_if many e.before p) e.before (System SpawnVerb) quits e.replies e.after
      → TellsNoProcess e.replies ⊎ BearsNext
  spawn-bears true p is g = inl (inl g.said)
  spawn-bears false p is g =
      let n : ℕ = e.before.next in
      let there : process_of n e.after ≡ Some (fresh_process n) = ap (process_of n) g.is
      ∙ (none-come n (fresh_process n) e.before.processes none-next ∙ ap (λ b. cond b (Some (fresh_process n)) None) (eq-eqb n n refl)) in
      let was : is_live n e.before ≡ false = live-found n e.before.processes ∙ ap is_some none-next in
      let now : is_live n e.after ≡ true = live-found n e.after.processes ∙ ap is_some there in
      inr (record { said = is; replies = g.said }, λ i. birth-by (was i) (now i))

  each-spawn : (line : Line) (said : Option Written) → e.said ≡ said → said ≡ Some (OfSystem sys.Spawn tt) → IsAnswered may words quits e line said → TellsNoProcess e.replies ⊎ BearsNext
  each-spawn (text line) (Some (OfSystem sys.Spawn ops)) mine is h = at h.step
    where
      at : CommandStep may words e.before (parsed_of e.before.names (OfSystem sys.Spawn ops)) quits e.replies e.after → TellsNoProcess e.replies ⊎ BearsNext
      at (inl g) = spawn-bears _ (parsed_of e.before.names (OfSystem sys.Spawn ops)) (mine ∙ is) g
      at (inr k) = inl (inr (grow e.before (parsed_of e.before.names (OfSystem sys.Spawn ops)), k.refuses.said))
  each-spawn (text line) (Some (OfSystem w ops)) mine is h = absurd (cc)
  each-spawn (text line) (Some (OfProcess n w ops)) mine is h = absurd (cc)
  each-spawn (text line) (Some Nothing) mine is h = absurd (cc)
  each-spawn (text line) None mine is h = absurd (cc)
  each-spawn long (Some w) mine is h = absurd h
  each-spawn long None mine is h = absurd (cc)

-- numbers stay so over an event, and new ones are fresh
event-fresh : (may : ℕ → State → Parsed → Bool) (words : ℕ) (quits : Bool) (e : Event) → IsEvent may words quits e → IsNumbered e.before → AreFresh e.before e.after
event-fresh may words quits e h k = run-fresh may words quits e.before e.after (e.line ∷ []) e.replies k
    (run-one may words quits e.before e.after e.line e.replies (event-line may words quits e e.line e.said h))

pub births-are : (may : ℕ → State → Parsed → Bool) (words : ℕ) (quits : Bool) (s new : State) (events : List Event) → IsNumbered s → TellsEvents may words quits s events new
    → AllBirthsAreSpawns events
unfolding TellsEvents
births-are may words quits s new [] numbered told = tt
births-are may words quits s new (e ∷ events) numbered told =
    let before : IsNumbered e.before = subst IsNumbered (sym (told.1)) numbered in
    let after : IsNumbered e.after = (event-fresh may words (told.0) e (told.2) before).numbered in (
      record { only = only-spawns may words (told.0) e (told.2); each = λ k. each-spawn may words (told.0) e before e.line e.said refl k (told.2) },
      at (told.0) (told.3) (λ k. births-are may words quits e.after new events after k),
    )
  where
    at : (ends : Bool) → MatchBool ends ((quits ≡ true) × (events ≡ []) × (new ≡ e.after)) (TellsEvents may words quits e.after events new)
        → (TellsEvents may words quits e.after events new → AllBirthsAreSpawns events) → AllBirthsAreSpawns events
    at true k rest = subst AllBirthsAreSpawns (sym (k.1)) tt
    at false k rest = rest k

-- the births of a process from a state on: at most one, and none where its number was given before
pub record OnceFrom (p low : ℕ) (all : List Sight) : Type 0 where
  pub once : length all ≤ 1
  pub none : p < low → all ≡ []

once-later : (p n m : ℕ) (one rest : List Sight) → one ≡ [] → n ≤ m → OnceFrom p m rest → OnceFrom p n (one ++ rest)
once-later p n m one rest e less h = subst (λ (z : List Sight). OnceFrom p n (z ++ rest)) (sym e) (record { once = h.once; none = λ below. h.none (omega (arith, below, less)) })

once-now : (p n m : ℕ) (one rest : List Sight) → one ≡ born ∷ [] → (n ≤ p) × (p < m) → OnceFrom p m rest → OnceFrom p n (one ++ rest)
once-now p n m one rest e k h =
    let P : List Sight → Type 0 = λ z. OnceFrom p n z in
    subst P (ap (λ (z : List Sight). z ++ rest) (sym e)) (record {
      once = subst (λ (z : List Sight). length (born ∷ z) ≤ 1) (sym (h.none (k.1))) (omega arith);
      none = λ below. absurd (omega (arith, below, k.0));
    })

once-event : (p : ℕ) (e : Event) (rest : List Sight) → AreFresh e.before e.after → OnceFrom p e.after.next rest → OnceFrom p e.before.next (births p e ++ rest)
once-event p e rest f h = at (is_live p e.before) (is_live p e.after) refl refl
  where
    at : (b c : Bool) → is_live p e.before ≡ b → is_live p e.after ≡ c → OnceFrom p e.before.next (births p e ++ rest)
    at false true was now = once-now p e.before.next e.after.next (births p e) rest (λ i. birth-by (was i) (now i)) (f.fresh p now was) h
    at false false was now = once-later p e.before.next e.after.next (births p e) rest (λ i. birth-by (was i) (now i)) f.rises h
    at true c was now = once-later p e.before.next e.after.next (births p e) rest (λ i. birth-by (was i) (now i)) f.rises h

pub born-once : (may : ℕ → State → Parsed → Bool) (words : ℕ) (quits : Bool) (p : ℕ) (s new : State) (events : List Event) → IsNumbered s → TellsEvents may words quits s events new
    → OnceFrom p s.next (flat_map (births p) events)
unfolding TellsEvents
born-once may words quits p s new [] numbered told = record { once = omega arith; none = λ below. refl }
born-once may words quits p s new (e ∷ events) numbered told =
    let before : IsNumbered e.before = subst IsNumbered (sym (told.1)) numbered in
    let f : AreFresh e.before e.after = event-fresh may words (told.0) e (told.2) before in
    subst (λ (z : State). OnceFrom p z.next (flat_map (births p) (e ∷ events))) (told.1)
    (once-event p e (flat_map (births p) events) f (at (told.0) (told.3) (λ k. born-once may words quits p e.after new events f.numbered k)))
  where
    at : (ends : Bool) → MatchBool ends ((quits ≡ true) × (events ≡ []) × (new ≡ e.after)) (TellsEvents may words quits e.after events new)
        → (TellsEvents may words quits e.after events new → OnceFrom p e.after.next (flat_map (births p) events)) → OnceFrom p e.after.next (flat_map (births p) events)
    at true k rest = subst (λ (z : List Event). OnceFrom p e.after.next (flat_map (births p) z)) (sym (k.1)) (record { once = omega arith; none = λ below. refl })
    at false k rest = rest k
