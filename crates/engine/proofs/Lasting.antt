-- The reply to the last command stays the text of the store while no later line says a command.
use Rattle.std.proofs.Common.{◌≡◌, ℕ, ◌⊎◌, inl, inr, Bool, true, false, List, [], ◌∷◌, ◌++◌, refl, sym, ap, subst, ◌∙◌, append-nil, append_assoc}
use Rattle.std.proofs.lemmas.Bool.{true≢false}
use Rattle.std.specs.Prelude.{MatchBool}
use Rattle.line_io.specs.Lines.{Line, text, long}
use Rattle.script_grammar.specs.declared.command.Command.{Command}
use Rattle.script_grammar.specs.declared.command.Command.TheVariants.{Nothing as NoCommand, Process, System}
use Rattle.script_grammar.specs.declared.command.SysVerb.TheVariants.{Quit}
use Rattle.script_grammar.specs.Names.{Parsed, parsed_of}
use Rattle.script_grammar.specs.ReadAs.{IsRead, IsReadAs, Reading}
use Rattle.script_grammar.specs.ReadAs.Reading.{Means, NoSyntax, NoAtoms}
use Rattle.script_parse.proofs.OfLines.OneLine.{one_line}
use Rattle.plain_machine.specs.State.{State}
use Rattle.plain_machine.specs.Maps.{is_map}
use Rattle.plain_machine.specs.May.{may_of_tight}
use Rattle.plain_machine.specs.Step.{Outcome, step, is_printing}
use Rattle.plain_machine.specs.Step.Outcome.{Accepted, Refused, Mapped}
use Rattle.plain_machine.specs.Run.{Run, LineStep, ReadingStep, CommandStep, Gives, Skips, LacksSpace, is_nothing, is_quit}
use Rattle.plain_machine.proofs.ByLine.Runs.{Cut, run-cut}
use Rattle.plain_machine.proofs.ByLine.Determined.{run-fronts, few-many}
use Rattle.engine.specs.Acts.{TellsMap}
use Rattle.engine.specs.Steps.{ComesTo}
use Rattle.engine.specs.Last.{AreEnding, AreIdle, BeginWith, LastCommand, SaysNothing, TellsLast, is_idle}

-- a line that is read as one command is read as no other
read-one : (names : List (List ℕ)) (line : List ℕ) (p q : Parsed) → IsRead names line p → IsRead names line q → q ≡ p
read-one names line p q x y = y.is ∙ (ap (parsed_of names) (one_line line y.written x.written y.says x.says y.built x.built) ∙ sym x.is)

-- where it is read as a command, it is read as nothing else
pub idle-means : (names : List (List ℕ)) (line : List ℕ) (p : Parsed) (r : Reading) → IsRead names line p → IsReadAs names line r → is_idle r ≡ true → is_nothing p.command ≡ true
idle-means names line p (Means q) x y e = ap (λ (z : Parsed). is_nothing z.command) (read-one names line q p y x) ∙ e
idle-means names line p NoSyntax x y e = absurd (y x.written x.says x.built)
idle-means names line p NoAtoms x y e = absurd (few-many names x.written y.written (one_line line x.written y.written x.says y.says x.built y.built) p x.is x.few y.many)

module _ (words : ℕ) where
  -- a line without a command leaves the state
  skips-same : (s new : State) (p : Parsed) (quits : Bool) (rs : List (List ℕ)) → is_nothing p.command ≡ true → CommandStep may_of_tight words s p quits rs new → new ≡ s
  skips-same s new p quits rs e h =
      let P : Bool → Type 0 = λ b. MatchBool b (Skips s quits rs new) (Gives (step s p) s p.command quits rs new ⊎ LacksSpace may_of_tight words s p quits rs new) in
      let k : Skips s quits rs new = subst P e h in
      k.same

  idle-reading : (s new : State) (line : List ℕ) (a r : Reading) (quits : Bool) (rs : List (List ℕ)) → IsReadAs s.names line a → IsReadAs s.names line r → is_idle r ≡ true
      → ReadingStep may_of_tight words s a quits rs new → new ≡ s
  idle-reading s new line (Means p) r quits rs x y e h = skips-same s new p quits rs (idle-means s.names line p r x y e) h
  idle-reading s new line NoSyntax r quits rs x y e h = h.same
  idle-reading s new line NoAtoms r quits rs x y e h = h.same

  pub idle-line : (s new : State) (line : Line) (quits : Bool) (rs : List (List ℕ)) → SaysNothing s.names line → LineStep may_of_tight words s line quits rs new → new ≡ s
  idle-line s new long quits rs i h = h.same
  idle-line s new (text line) quits rs i h = idle-reading s new line h.reading (i.0) quits rs h.reads (i.1) (i.2) h.follows

  -- so do lines without one
  idle-run : (s new : State) (lines : List Line) (rs : List (List ℕ)) → AreIdle s.names lines → Run may_of_tight words false s lines rs new → new ≡ s
  unfolding Run
  idle-run s new [] rs i h = h.2
  idle-run s new (line ∷ lines) rs i h =
      at (h.0) (h.3) (idle-line s (h.3) line (h.0) (h.1) (i.0) (h.4)) (h.6) (λ m k a. idle-run m new lines (h.2) a k)
    where
      at : (ends : Bool) (mid : State) → mid ≡ s → MatchBool ends ((false ≡ true) × (lines ≡ []) × (h.2 ≡ []) × (new ≡ mid)) (Run may_of_tight words false mid lines (h.2) new)
          → ((m : State) → Run may_of_tight words false m lines (h.2) new → AreIdle m.names lines → new ≡ m) → new ≡ s
      at true mid same k f = absurd (cc)
      at false mid same k f =
          let P : State → Type 0 = λ z. AreIdle z.names lines in
          f mid k (subst P (sym same) (i.1)) ∙ same

  -- a map line leaves it
  map-given : (o : Outcome) (s new : State) (c : Command) (quits : Bool) (rs : List (List ℕ)) → o ≡ Mapped → Gives o s c quits rs new → new ≡ s
  map-given Mapped s new c quits rs e h = h.same
  map-given (Accepted next reply) s new c quits rs e h = absurd (cc)
  map-given (Refused r) s new c quits rs e h = absurd (cc)

  map-command : (s new : State) (p : Parsed) (quits : Bool) (rs : List (List ℕ)) → step s p ≡ Mapped → CommandStep may_of_tight words s p quits rs new → new ≡ s
  map-command s new p quits rs o h = at (is_nothing p.command) h
    where
      at : (b : Bool) → MatchBool b (Skips s quits rs new) (Gives (step s p) s p.command quits rs new ⊎ LacksSpace may_of_tight words s p quits rs new) → new ≡ s
      at true k = k.same
      at false (inl k) = map-given (step s p) s new p.command quits rs o k
      at false (inr k) = k.refuses.same

  map-reading : (s new : State) (line : List ℕ) (p : Parsed) (a : Reading) (quits : Bool) (rs : List (List ℕ)) → IsRead s.names line p → step s p ≡ Mapped
      → IsReadAs s.names line a → ReadingStep may_of_tight words s a quits rs new → new ≡ s
  map-reading s new line p (Means q) quits rs x o y h =
      let P : Parsed → Type 0 = λ z. step s z ≡ Mapped in
      map-command s new q quits rs (subst P (read-one s.names line q p y x) o) h
  map-reading s new line p NoSyntax quits rs x o y h = h.same
  map-reading s new line p NoAtoms quits rs x o y h = h.same

  map-line : (s new : State) (line : List ℕ) (p : Parsed) (quits : Bool) (rs : List (List ℕ)) → IsRead s.names line p → step s p ≡ Mapped
      → LineStep may_of_tight words s (text line) quits rs new → new ≡ s
  map-line s new line p quits rs x o h = map-reading s new line p h.reading quits rs x o h.reads h.follows

  -- so do a map line and lines without a command after it
  map-run : (s new : State) (line : List ℕ) (p : Parsed) (lines : List Line) (rs : List (List ℕ)) → IsRead s.names line p → step s p ≡ Mapped → AreIdle s.names lines
      → Run may_of_tight words false s (text line ∷ lines) rs new → new ≡ s
  unfolding Run
  map-run s new line p lines rs x o i h = at (h.0) (h.3) (map-line s (h.3) line p (h.0) (h.1) x o (h.4)) (h.6)
    where
      at : (ends : Bool) (mid : State) → mid ≡ s → MatchBool ends ((false ≡ true) × (lines ≡ []) × (h.2 ≡ []) × (new ≡ mid)) (Run may_of_tight words false mid lines (h.2) new) → new ≡ s
      at true mid same k = absurd (cc)
      at false mid same k =
          let P : State → Type 0 = λ z. AreIdle z.names lines in
          idle-run mid new lines (h.2) (subst P (sym same) i) k ∙ same

  -- a line that ends the script comes to a command that prints
  quit-prints : (c : Command) → is_quit c ≡ true → is_printing c ≡ true
  quit-prints (System Quit) e = refl
  quit-prints (System _) e = absurd (cc)
  quit-prints (Process n v) e = absurd (cc)
  quit-prints NoCommand e = absurd (cc)

  quit-given : (o : Outcome) (s new : State) (c : Command) (rs : List (List ℕ)) → Gives o s c true rs new → is_quit c ≡ true
  quit-given (Accepted next reply) s new c rs h = sym h.ends
  quit-given (Refused r) s new c rs h = absurd (true≢false h.goes_on)
  quit-given Mapped s new c rs h = absurd (true≢false h.goes_on)

  quit-command : (s new : State) (p : Parsed) (rs : List (List ℕ)) → CommandStep may_of_tight words s p true rs new → is_quit p.command ≡ true
  quit-command s new p rs h = at (is_nothing p.command) h
    where
      at : (b : Bool) → MatchBool b (Skips s true rs new) (Gives (step s p) s p.command true rs new ⊎ LacksSpace may_of_tight words s p true rs new) → is_quit p.command ≡ true
      at true k = absurd (true≢false k.goes_on)
      at false (inl k) = quit-given (step s p) s new p.command rs k
      at false (inr k) = absurd (true≢false k.refuses.goes_on)

  quit-reading : (s new : State) (line : List ℕ) (a : Reading) (rs : List (List ℕ)) → IsReadAs s.names line a → ReadingStep may_of_tight words s a true rs new
      → (p : Parsed) × IsRead s.names line p × (is_printing p.command ≡ true)
  quit-reading s new line (Means p) rs x h = (p, x, quit-prints p.command (quit-command s new p rs h))
  quit-reading s new line NoSyntax rs x h = absurd (true≢false h.goes_on)
  quit-reading s new line NoAtoms rs x h = absurd (true≢false h.goes_on)

  pub quits-print : (s new : State) (line : List ℕ) (quits : Bool) (rs : List (List ℕ)) → LineStep may_of_tight words s (text line) quits rs new → quits ≡ true
      → (p : Parsed) × IsRead s.names line p × (is_printing p.command ≡ true)
  quits-print s new line quits rs h e =
      let P : Bool → Type 0 = λ b. LineStep may_of_tight words s (text line) b rs new in
      let k : LineStep may_of_tight words s (text line) true rs new = subst P e h in
      quit-reading s new line k.reading rs k.reads k.follows

-- the end of a list
record Ended {A : Type 0} (xs : List A) : Type 0 where
  pub front : List A
  pub last : A
  pub is : xs ≡ front ++ last ∷ []

ended : {A : Type 0} (x : A) (xs : List A) → Ended (x ∷ xs)
ended x [] = record { front = []; last = x; is = refl }
ended x (y ∷ ys) = let e = ended y ys in record { front = x ∷ e.front; last = e.last; is = ap (λ z. x ∷ z) e.is }

last-same : {A : Type 0} (xs ys : List A) (x y : A) → xs ++ x ∷ [] ≡ ys ++ y ∷ [] → (xs ≡ ys) × (x ≡ y)
last-same [] [] x y e = (refl, cc)
last-same [] (b ∷ []) x y e = absurd (cc)
last-same [] (b ∷ (c ∷ ys)) x y e = absurd (cc)
last-same (a ∷ []) [] x y e = absurd (cc)
last-same (a ∷ (b ∷ xs)) [] x y e = absurd (cc)
last-same (a ∷ xs) (b ∷ ys) x y e =
    let h : a ≡ b = cc in
    let t : xs ++ x ∷ [] ≡ ys ++ y ∷ [] = cc in
    let k = last-same xs ys x y t in
    (ap (λ z. z ∷ xs) h ∙ ap (λ z. b ∷ z) (k.0), k.1)

idle-front : (names : List (List ℕ)) (xs : List Line) (x : Line) → AreIdle names (xs ++ x ∷ []) → AreIdle names xs × SaysNothing names x
idle-front names [] x h = (tt, h.0)
idle-front names (y ∷ ys) x h = let k = idle-front names ys x (h.1) in ((h.0, k.0), k.1)

-- of no line none is the last command
pub tells-none : (words : ℕ) (first : State) (store : Command → List ℕ) → TellsLast words first [] [] false store
tells-none words first store l m o = absurd (at l.before l.lines_are)
  where
    at : (before : List Line) → [] ≡ before ++ text l.line ∷ (l.idle ++ l.ending) → ⊥
    at [] e = absurd (cc)
    at (x ∷ xs) e = absurd (cc)

module _ (words : ℕ) (first : State) (given : List Line) (replies : List (List ℕ)) (state : State) (old : Command → List ℕ)
    (run : Run may_of_tight words false first given replies state) (told : TellsLast words first given replies false old) where
  -- the replies to the lines from the last command on
  record Rest (before : List Line) (line : List ℕ) (ys : List Line) (earlier others : List (List ℕ)) (mid : State) (p : Parsed) (rs : List (List ℕ)) : Type 0 where
    pub whole : List (List ℕ)
    pub replies_are : replies ≡ earlier ++ whole
    pub others_are : others ≡ whole ++ rs
    pub same : state ≡ mid

  rest : (before : List Line) (line : List ℕ) (ys : List Line) (earlier others : List (List ℕ)) (mid : State) (p : Parsed) (rs : List (List ℕ))
      → given ≡ before ++ text line ∷ ys → replies ++ rs ≡ earlier ++ others → Run may_of_tight words false first before earlier mid
      → IsRead mid.names line p → step mid p ≡ Mapped → AreIdle mid.names ys → Rest before line ys earlier others mid p rs
  rest before line ys earlier others mid p rs lines_are replies_are r x o i =
      let P : List Line → Type 0 = λ z. Run may_of_tight words false first z replies state in
      let c : Cut may_of_tight words first state before (text line ∷ ys) replies = run-cut may_of_tight words first state before (text line ∷ ys) replies (subst P lines_are run) in
      let k = run-fronts one_line may_of_tight words first c.mid mid before c.earlier (c.others ++ rs) earlier others c.first r
      (sym (append_assoc c.earlier c.others rs) ∙ (ap (λ z. z ++ rs) (sym c.whole) ∙ replies_are)) in
      let Q : State → Type 0 = λ z. Run may_of_tight words false z (text line ∷ ys) c.others state in
      record {
        whole = c.others;
        replies_are = c.whole ∙ ap (λ z. z ++ c.others) (k.0);
        others_are = sym (k.1);
        same = map-run words mid state line p ys c.others x o i (subst Q (k.2) c.then);
      }

  module _ (line : Line) (quits : Bool) (rs : List (List ℕ)) (new : Command → List ℕ)
      (maps : (p : Parsed) → ComesTo state.names line p → TellsMap state p new rs)
      (idle : SaysNothing state.names line → new ≡ old) (ends : quits ≡ true → new ≡ old) where
    -- the last command came before this line, which left the text
    kept : (l : LastCommand words first (given ++ line ∷ []) (replies ++ rs) quits) (ys : List Line) → is_map l.said.command ≡ true → step l.mid l.said ≡ Mapped
        → given ≡ l.before ++ text l.line ∷ ys → AreIdle l.mid.names ys → (state ≡ l.mid → new ≡ old) → BeginWith (new l.said.command) l.others
    kept l ys m o e i same =
        let r = rest l.before l.line ys l.earlier l.others l.mid l.said rs e l.replies_are l.run l.reads o i in
        let k : BeginWith (old l.said.command) r.whole = told (record {
          before = l.before;
          line = l.line;
          idle = ys;
          ending = [];
          earlier = l.earlier;
          others = r.whole;
          mid = l.mid;
          said = l.said;
          lines_are = e ∙ ap (λ z. l.before ++ text l.line ∷ z) (sym (append-nil ys));
          replies_are = r.replies_are;
          run = l.run;
          reads = l.reads;
          nothing = i;
          ends = refl;
        }) m o in
        (k.0 ++ rs, r.others_are ∙ (ap (λ z. z ++ rs) (k.1) ∙ ap (λ (f : Command → List ℕ). f l.said.command ∷ (k.0 ++ rs)) (sym (same r.same))))

    -- the last command is this line
    fresh : (l : LastCommand words first (given ++ line ∷ []) (replies ++ rs) quits) → is_map l.said.command ≡ true → step l.mid l.said ≡ Mapped
        → given ≡ l.before → line ≡ text l.line → BeginWith (new l.said.command) l.others
    fresh l m o e f =
        let P : List Line → Type 0 = λ z. Run may_of_tight words false first z replies state in
        let k = run-fronts one_line may_of_tight words first state l.mid l.before replies rs l.earlier l.others (subst P e run) l.run l.replies_are in
        let C : Line → Type 0 = λ z. ComesTo l.mid.names z l.said in
        let S : State → Type 0 = λ z. ComesTo z.names line l.said in
        let O : State → Type 0 = λ z. step z l.said ≡ Mapped in
        ([], sym (k.1) ∙ maps l.said (subst S (sym (k.2)) (subst C (sym f) l.reads)) m (subst O (sym (k.2)) o))

    -- one more line was done
    pub tells-more : TellsLast words first (given ++ line ∷ []) (replies ++ rs) quits new
    tells-more l m o = at quits refl l.ends
      where
        idles : (xs : List Line) → l.idle ≡ xs → given ++ line ∷ [] ≡ l.before ++ text l.line ∷ l.idle → BeginWith (new l.said.command) l.others
        idles [] e f = let k = last-same given l.before line (text l.line) (f ∙ ap (λ z. l.before ++ text l.line ∷ z) e) in fresh l m o (k.0) (k.1)
        idles (x ∷ xs) e f =
            let b = ended x xs in
            let whole : l.idle ≡ b.front ++ b.last ∷ [] = e ∙ b.is in
            let k = last-same given (l.before ++ text l.line ∷ b.front) line b.last
            (f ∙ (ap (λ z. l.before ++ text l.line ∷ z) whole ∙ sym (append_assoc l.before (text l.line ∷ b.front) (b.last ∷ [])))) in
            let A : List Line → Type 0 = λ z. AreIdle l.mid.names z in
            let i = idle-front l.mid.names b.front b.last (subst A whole l.nothing) in
            let S : State → Type 0 = λ z. SaysNothing z.names line in
            let L : Line → Type 0 = λ z. SaysNothing l.mid.names z in
            kept l b.front m o (k.0) (i.0) (λ same. idle (subst S (sym same) (subst L (sym (k.1)) (i.1))))

        at : (b : Bool) → quits ≡ b → AreEnding b l.ending → BeginWith (new l.said.command) l.others
        at false q e = idles l.idle refl (l.lines_are ∙ ap (λ z. l.before ++ text l.line ∷ z) (ap (λ z. l.idle ++ z) e ∙ append-nil l.idle))
        at true q e =
            let k = last-same given (l.before ++ text l.line ∷ l.idle) line (e.0)
            (l.lines_are ∙ (ap (λ z. l.before ++ text l.line ∷ (l.idle ++ z)) (e.1) ∙ sym (append_assoc l.before (text l.line ∷ l.idle) (e.0 ∷ [])))) in
            kept l l.idle m o (k.0) l.nothing (λ same. ends q)
