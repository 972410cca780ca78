-- From the turns to the whole.
use Rattle.std.proofs.Common.{◌≡◌, ℕ, ◌≤◌, ◌⊎◌, inl, inr, Bool, true, false, Option, List, [], ◌∷◌, ◌++◌, refl, sym, ap, subst, ◌∙◌, arith, append-nil}
use Rattle.std.proofs.lemmas.Bool.{true≢false}
use Rattle.line_io.specs.Faults.{Rose}
use Rattle.line_io.specs.Sink.{Grew}
use Rattle.line_io.specs.Source.{Gave}
use Rattle.line_io.specs.Lines.{Line, lines}
use Rattle.line_io.specs.Reader.{HasRead, IsEndOf, IsFaulted, Reads, came_line, line_in}
use Rattle.line_io.specs.declared.reader.Limits.{Limits}
use Rattle.line_io.specs.declared.reader.LineReader.{LineReader}
use Rattle.line_io.specs.declared.reader.LineGot.{LineGot}
use Rattle.line_io.specs.declared.reader.LineGot.TheVariants.{End, Fault, TooMuch as GotTooMuch}
use Rattle.line_io.proofs.Growth.{Grew-nil, Grew-append}
use Rattle.line_io.proofs.Loop.{Gave-append}
use Rattle.line_io.proofs.Ranges.{Gave-nil}
use Rattle.script_grammar.specs.declared.command.Command.{Command}
use Rattle.plain_machine.specs.May.{may_of_tight}
use Rattle.plain_machine.specs.State.{State}
use Rattle.plain_machine.specs.Run.{Run, LineStep, replies_text}
use Rattle.plain_machine.proofs.ByLine.Runs.{run-append, run-one, run-none, text-append}
use Rattle.isolation.proofs.Alone.{isolates}
use Rattle.engine.specs.Rules.{After, Rules, Input, Output}
use Rattle.engine.specs.Steps.{Steps, StepWrites, TellsQuit, WritesAll}
use Rattle.engine.specs.Last.{SaysNothing, TellsLast}
use Rattle.engine.proofs.Lasting.{tells-more, tells-none}
use Rattle.engine.specs.Serving.{AreIsolated, Course, EndsBy, Going, CourseRuns, Served, TurnTellsRead, Turns, turn_of}
use Rattle.engine.specs.declared.serving.Status.{Status}
use Rattle.engine.specs.declared.serving.Status.TheVariants.{Done, ReadFault, TooMuch}
use Rattle.engine.specs.declared.serving.Turn.{Turn}
use Rattle.engine.specs.declared.machine.Stepped.{Stepped}
use Rattle.engine.specs.declared.machine.Stepped.TheVariants.{Next, Quit, SinkFault}

-- a source before and after
abbrev pub source_from : (before after : Option (List ℕ)) → Input
source_from before after = record { before = before; after = after }

-- each process of a run from the first state was alone
are-isolated : (rules : Rules) (c : Course) → CourseRuns rules c → AreIsolated rules c
are-isolated rules c run first = isolates may_of_tight rules.words c.quits c.given c.replies c.last
    (subst (λ (z : State). Run may_of_tight rules.words c.quits z c.given c.replies c.last) first run)

module _ {K : Type 0} (wrote : K → List ℕ → Type 0) (faults : K → ℕ) where
  -- a sink before and after
  abbrev pub sink_from : (before after : K) → Output K
  sink_from before after = record { wrote = wrote; faults = faults; before = before; after = after }

  -- the text of replies one after the other was written
  pub texts-written : (old mid new : K) (xs ys : List (List ℕ)) → WritesAll (sink_from old mid) (replies_text xs)
      → WritesAll (sink_from mid new) (replies_text ys) → WritesAll (sink_from old new) (replies_text (xs ++ ys))
  texts-written old mid new xs ys g h = (
    subst (Grew wrote old new) (sym (text-append xs ys)) (Grew-append wrote old mid new (replies_text xs) (replies_text ys) g.0 h.0),
    h.1 ∙ g.1,
  )

  -- nothing was read yet
  pub going-none : (rules : Rules) (left : Option (List ℕ)) (sink : K) (reader : LineReader) (after : After) → HasRead reader left [] [] → after.stands rules.first
      → Going rules (source_from left left) (sink_from sink sink) reader after
  going-none rules left sink reader after has st = record {
    bytes = [];
    given = [];
    replies = [];
    state = rules.first;
    took = Gave-nil left;
    has = has;
    run = run-none may_of_tight rules.words rules.first;
    stands = st;
    maps = tells-none rules.words rules.first after.text;
    writes = (Grew-nil wrote sink, refl);
  }

  module _ (rules : Rules) (before now after : Option (List ℕ)) (start mid : K) (reader next : LineReader) (Old : After)
      (g : Going rules (source_from before now) (sink_from start mid) reader Old) where
    -- what is served once one more line was done
    abbrev course : (x : List ℕ) (ended : Bool) (line : Line) (rest : List Line) (replies : List (List ℕ)) (last : State) (quits : Bool) → Course
    course x ended line rest replies last quits = record {
      bytes = g.bytes ++ x;
      ended = ended;
      given = g.given ++ line ∷ [];
      rest = rest;
      replies = g.replies ++ replies;
      last = last;
      quits = quits;
    }

    -- a line was read, done and answered
    pub turn-line : (answer : LineGot) (line : Line) (left : After) (new : K) (stepped : Stepped) (turn : Turn)
        → turn ≡ turn_of stepped → came_line answer (line_in next) ≡ line ∷ []
        → Reads now after rules.limits next g.bytes g.given answer → (p : Steps rules.words g.state line left (sink_from mid new) stepped) → (SaysNothing g.state.names line → left.text ≡ Old.text)
        → (p.quits ≡ true → left.text ≡ Old.text) → Turns turn rules (source_from before after) (sink_from start new) next left
    turn-line answer line left new stepped turn e came r p idle ends =
        let P : Turn → Type 0 = λ t. Turns t rules (source_from before after) (sink_from start new) next left in
        subst P (sym e) (at stepped p.writes p.tells)
      where
        took-it : Gave before after (g.bytes ++ r.x)
        took-it = Gave-append before now after g.bytes r.x g.took r.gave

        has-it : HasRead next after (g.bytes ++ r.x) (g.given ++ line ∷ [])
        has-it = subst (λ z. HasRead next after (g.bytes ++ r.x) (g.given ++ z)) came r.has

        front-it : lines (g.bytes ++ r.x) r.ended rules.limits ≡ (g.given ++ line ∷ []) ++ r.rest
        front-it = subst (λ z. lines (g.bytes ++ r.x) r.ended rules.limits ≡ (g.given ++ z) ++ r.rest) came r.front

        run-it : (quits : Bool) → p.quits ≡ quits → Run may_of_tight rules.words quits rules.first (g.given ++ line ∷ []) (g.replies ++ p.replies) p.new
        run-it quits q = run-append may_of_tight rules.words quits rules.first g.state p.new g.given (line ∷ []) g.replies p.replies g.run
            (run-one may_of_tight rules.words quits g.state p.new line p.replies
            (subst (λ b. LineStep may_of_tight rules.words g.state line b p.replies p.new) q p.follows))

        maps-it : (quits : Bool) → p.quits ≡ quits → TellsLast rules.words rules.first (g.given ++ line ∷ []) (g.replies ++ p.replies) quits left.text
        maps-it quits q = tells-more rules.words rules.first g.given g.replies g.state Old.text g.run g.maps line quits p.replies left.text p.maps idle (λ e. ends (q ∙ e))

        at : (stepped : Stepped) → StepWrites (sink_from mid new) (replies_text p.replies) stepped → TellsQuit stepped p.quits
            → Turns (turn_of stepped) rules (source_from before after) (sink_from start new) next left
        at Next w q = record {
          bytes = g.bytes ++ r.x;
          given = g.given ++ line ∷ [];
          replies = g.replies ++ p.replies;
          state = p.new;
          took = took-it;
          has = has-it;
          run = run-it false q;
          stands = p.stands;
          maps = maps-it false q;
          writes = texts-written start mid new g.replies p.replies g.writes w;
        }
        at Quit w q = record {
          course = course r.x r.ended line r.rest p.replies p.new p.quits;
          took = took-it;
          told = r.told;
          front = front-it;
          run = run-it p.quits refl;
          isolated = are-isolated rules (course r.x r.ended line r.rest p.replies p.new p.quits) (run-it p.quits refl);
          stands = p.stands;
          maps = maps-it p.quits refl;
          ends = (texts-written start mid new g.replies p.replies g.writes w, record { why = inl q });
          later = let h : faults new ≡ faults start = w.1 ∙ g.writes.1 in omega arith;
        }
        at SinkFault w q = record {
          course = course r.x r.ended line r.rest p.replies p.new p.quits;
          took = took-it;
          told = r.told;
          front = front-it;
          run = run-it p.quits refl;
          isolated = are-isolated rules (course r.x r.ended line r.rest p.replies p.new p.quits) (run-it p.quits refl);
          stands = p.stands;
          maps = maps-it p.quits refl;
          ends = (
            record {
              before = g.given;
              line = line;
              earlier = g.replies;
              final = p.replies;
              mid = g.state;
              lines_are = refl;
              replies_are = refl;
              run = g.run;
              step = p.follows;
              part = w.0.part;
              missing = w.0.missing;
              whole = w.0.whole;
              some = w.0.some;
              grew = Grew-append wrote start mid new (replies_text g.replies) w.0.part g.writes.0 w.0.grew;
            },
            let h : faults mid ≡ faults start = g.writes.1 in let k : Rose (faults mid) (faults new) = w.1 in omega arith,
          );
          later = let h : faults mid ≡ faults start = g.writes.1 in let k : faults mid ≤ faults new = p.later in omega arith;
        }

    -- no line came, and this is why
    stopped : (status : Status) (x : List ℕ) (ended : Bool) (rest : List Line) → Gave now after x → IsEndOf ended after → lines (g.bytes ++ x) ended rules.limits ≡ (g.given ++ []) ++ rest
        → EndsBy status rules after (record { bytes = g.bytes ++ x; ended = ended; given = g.given; rest = rest; replies = g.replies; last = g.state; quits = false }) (sink_from start mid)
        → Served rules (source_from before after) (sink_from start mid) Old status
    stopped status x ended rest gave told front ends = record {
      course = record { bytes = g.bytes ++ x; ended = ended; given = g.given; rest = rest; replies = g.replies; last = g.state; quits = false };
      took = Gave-append before now after g.bytes x g.took gave;
      told = told;
      front = front ∙ ap (λ z. z ++ rest) (append-nil g.given);
      run = g.run;
      isolated = are-isolated rules (record { bytes = g.bytes ++ x; ended = ended; given = g.given; rest = rest; replies = g.replies; last = g.state; quits = false }) g.run;
      stands = g.stands;
      maps = g.maps;
      ends = ends;
      later = let h : faults mid ≡ faults start = g.writes.1 in omega arith;
    }

    pub turn-end : Reads now after rules.limits next g.bytes g.given End → Served rules (source_from before after) (sink_from start mid) Old Done
    turn-end r = stopped Done r.x r.ended r.rest r.gave r.told r.front (g.writes, record { why = inr r.ends })

    pub turn-too-much : Reads now after rules.limits next g.bytes g.given GotTooMuch → Served rules (source_from before after) (sink_from start mid) Old TooMuch
    turn-too-much r = stopped TooMuch r.x r.ended r.rest r.gave r.told r.front (g.writes, record { all = r.ends.0; more = r.ends.1; goes_on = refl })

    pub turn-fault : Reads now after rules.limits next g.bytes g.given Fault → Served rules (source_from before after) (sink_from start mid) Old ReadFault
    turn-fault r = stopped ReadFault r.x r.ended r.rest r.gave r.told r.front (g.writes, record { whole_lines = r.ends.0; no_more = r.ends.1; goes_on = refl })

-- the text of a machine that is as it was
pub text-same : {S : Type 0} (text : S → List (List ℕ) → Command → List ℕ) (new old : S) (names before : List (List ℕ)) → (new ≡ old) × (names ≡ before) → text new names ≡ text old before
text-same text new old names before e = ap (λ s. text s names) (e.0) ∙ ap (text old) (e.1)

-- rules of other words and limits that are the same
pub same-rules : (P : Rules → Type 0) (words words' : ℕ) (first : State) (limits limits' : Limits) → words ≡ words' → limits ≡ limits'
    → P (record { words = words; first = first; limits = limits })
    → P (record { words = words'; first = first; limits = limits' })
same-rules P words words' first limits limits' e l h =
    let Q : ℕ → Type 0 = λ w. P (record { words = w; first = first; limits = limits' }) in
    let R : Limits → Type 0 = λ k. P (record { words = words; first = first; limits = k }) in
    subst Q e (subst R l h)

-- what a turn tells of its reading, after a line
pub told-after : (before now : ℕ) (stepped : Stepped) (turn : Turn) → turn ≡ turn_of stepped → now ≡ before → TurnTellsRead turn before now
told-after before now stepped turn e told = subst (λ t. TurnTellsRead t before now) (sym e) (at stepped)
  where
    at : (x : Stepped) → TurnTellsRead (turn_of x) before now
    at Next = told
    at Quit = told
    at SinkFault = told

-- an answer of another kind is no fault
abbrev pub is_fault : LineGot → Bool
is_fault Fault = true
is_fault _ = false

pub is-no-fault : (answer kind : LineGot) → answer ≡ kind → is_fault kind ≡ false → answer ≡ Fault → ⊥
is-no-fault answer kind e other f = true≢false (sym (ap is_fault f) ∙ ap is_fault e ∙ other)

-- where the reader had not met one before, a fault is the source's now
pub rose-now : (before now : ℕ) (reader : LineReader) → Rose before now ⊎ IsFaulted reader → (IsFaulted reader → ⊥) → Rose before now
rose-now before now reader (inl a) never = a
rose-now before now reader (inr b) never = absurd (never b)
