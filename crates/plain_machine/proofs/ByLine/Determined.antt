-- Lines and replies determine a run.
use Rattle.std.proofs.Common.{◌≡◌, ℕ, ◌<◌, ◌≤◌, ◌⊎◌, inl, inr, Bool, true, false, List, [], ◌∷◌, ◌++◌, length, refl, sym, ap, subst, ◌∙◌, append_assoc, arith}
use Rattle.std.specs.Prelude.{MatchBool}
use Rattle.atom_names.specs.Names.{most_names}
use Rattle.line_io.specs.Lines.{Line, text, long}
use Rattle.script_grammar.specs.declared.command.Command.{Command}
use Rattle.script_grammar.specs.declared.refusal.Refusal.{Refusal}
use Rattle.script_grammar.specs.declared.refusal.Refusal.TheVariants.{NoSpace}
use Rattle.script_grammar.specs.Written.{Written}
use Rattle.script_grammar.specs.Grammar.{SaysOne}
use Rattle.script_grammar.specs.Names.{Parsed, parsed_of, names_after}
use Rattle.plain_machine.specs.State.{State}
use Rattle.plain_machine.specs.Tightness.{grow}
use Rattle.plain_machine.specs.Step.{Outcome, step}
use Rattle.plain_machine.specs.Step.Outcome.{Accepted, Refused, Mapped}
use Rattle.script_grammar.specs.ReadAs.{IsReadAs, Reading}
use Rattle.plain_machine.specs.Run.{Run, LineStep, ReadingStep, CommandStep, Gives, Skips, LacksSpace, Refuses, is_nothing}
use Rattle.script_grammar.specs.ReadAs.Reading.{Means, NoSyntax, NoAtoms}
use Rattle.plain_machine.proofs.ByLine.Commands.{IsTold, command-does}
use Rattle.plain_machine.proofs.ByLine.Told.{gives-leaves}

-- two steps of one command with one reply
pub record Agree (quits ends : Bool) (new other : State) : Type 0 where
  pub same : new ≡ other
  pub alike : quits ≡ ends

gives-twice : (o : Outcome) (s : State) (c : Command) (quits ends : Bool) (rs : List (List ℕ)) (new other : State) → Gives o s c quits rs new → Gives o s c ends rs other → Agree quits ends new other
gives-twice (Accepted next reply) s c quits ends rs new other g h = record { same = g.is ∙ sym h.is; alike = g.ends ∙ sym h.ends }
gives-twice (Refused r) s c quits ends rs new other g h = record { same = g.same ∙ sym h.same; alike = g.goes_on ∙ sym h.goes_on }
gives-twice Mapped s c quits ends rs new other g h = record { same = g.same ∙ sym h.same; alike = g.goes_on ∙ sym h.goes_on }

gives-lacks : (o : Outcome) (s : State) (c : Command) (quits ends : Bool) (rs : List (List ℕ)) (new other : State) (n : ℕ) → IsTold s c o → Gives o s c quits rs new
    → Refuses (NoSpace n) s ends rs other → Agree quits ends new other
gives-lacks o s c quits ends rs new other n t g h =
    let P : List (List ℕ) → Type 0 = λ z. Gives o s c quits z new in
    let k : (new ≡ s) × (quits ≡ false) = gives-leaves o s c quits (NoSpace n) new t (subst P h.said g) in
    record { same = k.0 ∙ sym h.same; alike = k.1 ∙ sym h.goes_on }

command-twice : (may : ℕ → State → Parsed → Bool) (words : ℕ) (s : State) (p : Parsed) (quits ends : Bool) (rs : List (List ℕ)) (new other : State)
    → CommandStep may words s p quits rs new → CommandStep may words s p ends rs other → Agree quits ends new other
command-twice may words s p quits ends rs new other g h = at (is_nothing p.command) g h
  where
    told : IsTold s p.command (step s p)
    told = (command-does s p p.command).told

    flip : Agree ends quits other new → Agree quits ends new other
    flip a = record { same = sym a.same; alike = sym a.alike }

    at : (b : Bool) → MatchBool b (Skips s quits rs new) (Gives (step s p) s p.command quits rs new ⊎ LacksSpace may words s p quits rs new)
        → MatchBool b (Skips s ends rs other) (Gives (step s p) s p.command ends rs other ⊎ LacksSpace may words s p ends rs other) → Agree quits ends new other
    at true g h = record { same = g.same ∙ sym h.same; alike = g.goes_on ∙ sym h.goes_on }
    at false (inl g) (inl h) = gives-twice (step s p) s p.command quits ends rs new other g h
    at false (inl g) (inr h) = gives-lacks (step s p) s p.command quits ends rs new other (grow s p) told g h.refuses
    at false (inr g) (inl h) = flip (gives-lacks (step s p) s p.command ends quits rs other new (grow s p) told h g.refuses)
    at false (inr g) (inr h) = record { same = g.refuses.same ∙ sym h.refuses.same; alike = g.refuses.goes_on ∙ sym h.refuses.goes_on }

-- how many replies a line has
abbrev pub HasOne : List (List ℕ) → Type 0
HasOne rs = length rs ≡ 1

gives-one : (o : Outcome) (s : State) (c : Command) (quits : Bool) (rs : List (List ℕ)) (new : State) → Gives o s c quits rs new → HasOne rs
gives-one (Accepted next reply) s c quits rs new g = ap length g.said
gives-one (Refused r) s c quits rs new g = ap length g.said
gives-one Mapped s c quits rs new g = ap length g.said

command-count : (may : ℕ → State → Parsed → Bool) (words : ℕ) (s : State) (p : Parsed) (quits ends : Bool) (rs ts : List (List ℕ)) (new other : State)
    → CommandStep may words s p quits rs new → CommandStep may words s p ends ts other → length rs ≡ length ts
command-count may words s p quits ends rs ts new other g h = at (is_nothing p.command) g h
  where
    one : (quits : Bool) (rs : List (List ℕ)) (new : State) → Gives (step s p) s p.command quits rs new ⊎ LacksSpace may words s p quits rs new → HasOne rs
    one quits rs new (inl g) = gives-one (step s p) s p.command quits rs new g
    one quits rs new (inr g) = ap length g.refuses.said

    at : (b : Bool) → MatchBool b (Skips s quits rs new) (Gives (step s p) s p.command quits rs new ⊎ LacksSpace may words s p quits rs new)
        → MatchBool b (Skips s ends ts other) (Gives (step s p) s p.command ends ts other ⊎ LacksSpace may words s p ends ts other) → length rs ≡ length ts
    at true g h = ap length g.said ∙ sym (ap length h.said)
    at false g h = one quits rs new g ∙ sym (one ends ts other h)

-- what two steps of one line have in common
pub record Pair (quits ends : Bool) (rs ts : List (List ℕ)) (new other : State) : Type 0 where
  pub count : length rs ≡ length ts
  pub agree : rs ≡ ts → Agree quits ends new other

command-pair : (may : ℕ → State → Parsed → Bool) (words : ℕ) (s : State) (p : Parsed) (quits ends : Bool) (rs ts : List (List ℕ)) (new other : State)
    → CommandStep may words s p quits rs new → CommandStep may words s p ends ts other → Pair quits ends rs ts new other
command-pair may words s p quits ends rs ts new other g h = record {
  count = command-count may words s p quits ends rs ts new other g h;
  agree = λ e. command-twice may words s p quits ends rs new other g (let P : List (List ℕ) → Type 0 = λ z. CommandStep may words s p ends z other in subst P (sym e) h);
}

refused-pair : (r t : Refusal) (s : State) (quits ends : Bool) (rs ts : List (List ℕ)) (new other : State) → Refuses r s quits rs new → Refuses t s ends ts other → Pair quits ends rs ts new other
refused-pair r t s quits ends rs ts new other g h = record { count = ap length g.said ∙ sym (ap length h.said); agree = λ e. record { same = g.same ∙ sym h.same; alike = g.goes_on ∙ sym h.goes_on } }

-- a line does not both fit and not fit
pub few-many : (names : List (List ℕ)) (w v : Written) → w ≡ v → (p : Parsed) → p ≡ parsed_of names w → length p.names ≤ most_names → most_names < length (names_after names v) → ⊥
few-many names w v e p f few many =
    let h : length p.names ≡ length (names_after names v) = ap (λ (z : Parsed). length z.names) f ∙ ap (λ z. length (names_after names z)) e in
    omega (arith, h, few, many)

reading-pair : SaysOne → (may : ℕ → State → Parsed → Bool) (words : ℕ) (s : State) (line : List ℕ) (a b : Reading) (quits ends : Bool) (rs ts : List (List ℕ)) (new other : State)
    → IsReadAs s.names line a → IsReadAs s.names line b → ReadingStep may words s a quits rs new → ReadingStep may words s b ends ts other → Pair quits ends rs ts new other
reading-pair one may words s line (Means p) (Means q) quits ends rs ts new other x y g h =
    let w : x.written ≡ y.written = one line x.written y.written x.says y.says x.built y.built in
    let e : q ≡ p = y.is ∙ (ap (parsed_of s.names) (sym w) ∙ sym x.is) in
    command-pair may words s p quits ends rs ts new other g (let P : Parsed → Type 0 = λ z. CommandStep may words s z ends ts other in subst P e h)
reading-pair one may words s line (Means p) NoSyntax quits ends rs ts new other x y g h = absurd (y x.written x.says x.built)
reading-pair one may words s line (Means p) NoAtoms quits ends rs ts new other x y g h =
    absurd (few-many s.names x.written y.written (one line x.written y.written x.says y.says x.built y.built) p x.is x.few y.many)
reading-pair one may words s line NoSyntax (Means p) quits ends rs ts new other x y g h = absurd (x y.written y.says y.built)
reading-pair one may words s line NoSyntax NoSyntax quits ends rs ts new other x y g h = refused-pair _ _ s quits ends rs ts new other g h
reading-pair one may words s line NoSyntax NoAtoms quits ends rs ts new other x y g h = absurd (x y.written y.says y.built)
reading-pair one may words s line NoAtoms (Means p) quits ends rs ts new other x y g h =
    absurd (few-many s.names y.written x.written (one line y.written x.written y.says x.says y.built x.built) p y.is y.few x.many)
reading-pair one may words s line NoAtoms NoSyntax quits ends rs ts new other x y g h = absurd (y x.written x.says x.built)
reading-pair one may words s line NoAtoms NoAtoms quits ends rs ts new other x y g h = refused-pair _ _ s quits ends rs ts new other g h

line-pair : SaysOne → (may : ℕ → State → Parsed → Bool) (words : ℕ) (s : State) (line : Line) (quits ends : Bool) (rs ts : List (List ℕ)) (new other : State)
    → LineStep may words s line quits rs new → LineStep may words s line ends ts other → Pair quits ends rs ts new other
line-pair one may words s long quits ends rs ts new other g h = refused-pair _ _ s quits ends rs ts new other g h
line-pair one may words s (text line) quits ends rs ts new other g h =
    reading-pair one may words s line g.reading h.reading quits ends rs ts new other g.reads h.reads g.follows h.follows

-- lists of one length in front of lists
fronts : (xs ys us vs : List (List ℕ)) → length xs ≡ length us → xs ++ ys ≡ us ++ vs → (xs ≡ us) × (ys ≡ vs)
fronts [] ys [] vs e f = (refl, f)
fronts [] ys (u ∷ us) vs e f = absurd (omega (arith, e))
fronts (x ∷ xs) ys [] vs e f = absurd (omega (arith, e))
fronts (x ∷ xs) ys (u ∷ us) vs e f =
    let h : x ≡ u = cc in
    let t : xs ++ ys ≡ us ++ vs = cc in
    let k : (xs ≡ us) × (ys ≡ vs) = fronts xs ys us vs (omega (arith, e)) t in
    (ap (λ z. z ∷ xs) h ∙ ap (λ z. u ∷ z) (k.0), k.1)

-- so of two runs over the same lines, whose replies stand in front of the same list
pub run-fronts : SaysOne → (may : ℕ → State → Parsed → Bool) (words : ℕ) (s new other : State) (lines : List Line) (rs xs ts ys : List (List ℕ))
    → Run may words false s lines rs new → Run may words false s lines ts other → rs ++ xs ≡ ts ++ ys → (rs ≡ ts) × (xs ≡ ys) × (new ≡ other)
unfolding Run
run-fronts one may words s new other [] rs xs ts ys g h e = (g.1 ∙ sym (h.1), ap (λ z. z ++ xs) (sym (g.1)) ∙ e ∙ ap (λ z. z ++ ys) (h.1), g.2 ∙ sym (h.2))
run-fronts one may words s new other (line ∷ lines) rs xs ts ys g h e =
    at (g.0) (h.0) (g.3) (h.3) (pair.agree (cut.0)).same (g.6) (h.6) (λ m a b. run-fronts one may words m new other lines (g.2) xs (h.2) ys a b (cut.1))
  where
    pair : Pair (g.0) (h.0) (g.1) (h.1) (g.3) (h.3)
    pair = line-pair one may words s line (g.0) (h.0) (g.1) (h.1) (g.3) (h.3) (g.4) (h.4)

    cut : ((g.1) ≡ (h.1)) × ((g.2) ++ xs ≡ (h.2) ++ ys)
    cut = fronts (g.1) ((g.2) ++ xs) (h.1) ((h.2) ++ ys) pair.count
        (sym (append_assoc (g.1) (g.2) xs) ∙ (ap (λ z. z ++ xs) (sym (g.5)) ∙ e ∙ ap (λ z. z ++ ys) (h.5)) ∙ append_assoc (h.1) (h.2) ys)

    at : (q e : Bool) (m n : State) → m ≡ n
        → MatchBool q ((false ≡ true) × (lines ≡ []) × ((g.2) ≡ []) × (new ≡ m)) (Run may words false m lines (g.2) new)
        → MatchBool e ((false ≡ true) × (lines ≡ []) × ((h.2) ≡ []) × (other ≡ n)) (Run may words false n lines (h.2) other)
        → ((m : State) → Run may words false m lines (g.2) new → Run may words false m lines (h.2) other → ((g.2) ≡ (h.2)) × (xs ≡ ys) × (new ≡ other))
        → (rs ≡ ts) × (xs ≡ ys) × (new ≡ other)
    at true e m n same a b k = absurd (cc)
    at false true m n same a b k = absurd (cc)
    at false false m n same a b k =
        let P : State → Type 0 = λ z. Run may words false z lines (h.2) other in
        let l : ((g.2) ≡ (h.2)) × (xs ≡ ys) × (new ≡ other) = k m a (subst P (sym same) b) in
        (g.5 ∙ (ap (λ z. z ++ (g.2)) (cut.0) ∙ ap (λ z. (h.1) ++ z) (l.0)) ∙ sym (h.5), l.1, l.2)

pub run-determined : SaysOne → (may : ℕ → State → Parsed → Bool) (words : ℕ) (quits ends : Bool) (s new other : State) (lines : List Line) (replies : List (List ℕ))
    → Run may words quits s lines replies new → Run may words ends s lines replies other → new ≡ other
unfolding Run
run-determined one may words quits ends s new other [] replies g h = g.2 ∙ sym (h.2)
run-determined one may words quits ends s new other (line ∷ lines) replies g h =
    at (g.0) (h.0) (g.2) (h.2) (g.3) (h.3) (pair.agree (cut.0)).same (pair.agree (cut.0)).alike (cut.1) (g.6) (h.6)
    (λ m left a b. run-determined one may words quits ends m new other lines left a b)
  where
    pair : Pair (g.0) (h.0) (g.1) (h.1) (g.3) (h.3)
    pair = line-pair one may words s line (g.0) (h.0) (g.1) (h.1) (g.3) (h.3) (g.4) (h.4)

    cut : ((g.1) ≡ (h.1)) × ((g.2) ≡ (h.2))
    cut = fronts (g.1) (g.2) (h.1) (h.2) pair.count (sym (g.5) ∙ h.5)

    at : (q e : Bool) (left right : List (List ℕ)) (m n : State) → m ≡ n → q ≡ e → left ≡ right
        → MatchBool q ((quits ≡ true) × (lines ≡ []) × (left ≡ []) × (new ≡ m)) (Run may words quits m lines left new)
        → MatchBool e ((ends ≡ true) × (lines ≡ []) × (right ≡ []) × (other ≡ n)) (Run may words ends n lines right other)
        → ((m : State) (left : List (List ℕ)) → Run may words quits m lines left new → Run may words ends m lines left other → new ≡ other) → new ≡ other
    at true true left right m n same alike cut g h k = g.3 ∙ (same ∙ sym (h.3))
    at true false left right m n same alike cut g h k = absurd (cc)
    at false true left right m n same alike cut g h k = absurd (cc)
    at false false left right m n same alike cut g h k =
        let P : State → Type 0 = λ z. Run may words ends z lines right other in
        let Q : List (List ℕ) → Type 0 = λ z. Run may words ends m lines z other in
        k m left g (subst Q (sym cut) (subst P (sym same) h))
