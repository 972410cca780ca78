-- What the reply of a line tells of it: the text of a refusal stands only where the state stays.
use Rattle.std.proofs.Common.{◌≡◌, ℕ, ◌⊎◌, inl, inr, Bool, true, false, List, [], ◌∷◌, ◌++◌, codes, decimal, refl, sym, ap, ◌∙◌, arith}
use Rattle.std.specs.Prelude.{MatchBool}
use Rattle.line_io.specs.Lines.{Line, text, long}
use Rattle.script_grammar.specs.declared.command.Command.{Command}
use Rattle.script_grammar.specs.declared.refusal.Refusal.{Refusal}
use Rattle.script_grammar.specs.declared.refusal.Refusal.TheVariants.{NoProc, BadArg, Empty, Big, NoSpace, NoArea, AreaThere, MapSize, Procs as TooMany, Atoms, Syntax, Long}
use Rattle.script_grammar.specs.Names.{Parsed}
use Rattle.script_grammar.specs.ReadAs.{IsReadAs, Reading}
use Rattle.script_grammar.specs.ReadAs.Reading.{Means, NoSyntax, NoAtoms}
use Rattle.plain_machine.specs.State.{State}
use Rattle.plain_machine.specs.Step.{Outcome, step}
use Rattle.plain_machine.specs.Step.Outcome.{Accepted, Refused, Mapped}
use Rattle.plain_machine.specs.Run.{LineStep, ReadingStep, CommandStep, Gives, Skips, LacksSpace, refusal_text, is_nothing}
use Rattle.plain_machine.proofs.ByLine.Commands.{IsTold, command-does}

-- the text of a refusal begins with an `e`
pub refusal-begins : (r : Refusal) → (rest : List ℕ) × (refusal_text r ≡ 101 ∷ rest)
refusal-begins NoProc = (codes "rror noproc", refl)
refusal-begins BadArg = (codes "rror badarg", refl)
refusal-begins Empty = (codes "rror empty", refl)
refusal-begins Big = (codes "rror big", refl)
refusal-begins (NoSpace n) = (codes "rror nospace " ++ decimal n, refl)
refusal-begins NoArea = (codes "rror noarea", refl)
refusal-begins AreaThere = (codes "rror areathere", refl)
refusal-begins MapSize = (codes "rror mapsize", refl)
refusal-begins TooMany = (codes "rror procs", refl)
refusal-begins Atoms = (codes "rror atoms", refl)
refusal-begins Syntax = (codes "rror syntax", refl)
refusal-begins Long = (codes "rror long", refl)

-- two lists of one text with first bytes
heads-same : (a b : ℕ) (x y : List ℕ) → (a ∷ x) ∷ [] ≡ (b ∷ y) ∷ [] → a ≡ b
heads-same a b x y e = cc

-- a step that is answered by a refusal's text leaves the state
pub gives-leaves : (o : Outcome) (s : State) (c : Command) (quits : Bool) (r : Refusal) (new : State) → IsTold s c o → Gives o s c quits (refusal_text r ∷ []) new → (new ≡ s) × (quits ≡ false)
gives-leaves (Refused e) s c quits r new t g = (g.same, g.goes_on)
gives-leaves Mapped s c quits r new t g = (g.same, g.goes_on)
gives-leaves (Accepted next reply) s c quits r new (inr t) g = (g.is ∙ t.0, g.ends ∙ t.1)
gives-leaves (Accepted next reply) s c quits r new (inl t) g =
    let b : (rest : List ℕ) × (refusal_text r ≡ 101 ∷ rest) = refusal-begins r in
    let e : (111 ∷ t.0) ∷ [] ≡ (101 ∷ b.0) ∷ [] = ap (λ z. z ∷ []) (sym (t.1)) ∙ (sym g.said ∙ ap (λ z. z ∷ []) b.1) in
    absurd (omega (arith, heads-same 111 101 (t.0) b.0 e))

command-leaves : (may : ℕ → State → Parsed → Bool) (words : ℕ) (s : State) (p : Parsed) (quits : Bool) (r : Refusal) (new : State)
    → CommandStep may words s p quits (refusal_text r ∷ []) new → (new ≡ s) × (quits ≡ false)
command-leaves may words s p quits r new h = at (is_nothing p.command) h
  where
    at : (b : Bool) → MatchBool b (Skips s quits (refusal_text r ∷ []) new) (Gives (step s p) s p.command quits (refusal_text r ∷ []) new ⊎ LacksSpace may words s p quits (refusal_text r ∷ []) new)
        → (new ≡ s) × (quits ≡ false)
    at true h = (h.same, h.goes_on)
    at false (inl h) = gives-leaves (step s p) s p.command quits r new ((command-does s p p.command).told) h
    at false (inr h) = (h.refuses.same, h.refuses.goes_on)

reading-leaves : (may : ℕ → State → Parsed → Bool) (words : ℕ) (s : State) (line : List ℕ) (a : Reading) (quits : Bool) (r : Refusal) (new : State)
    → IsReadAs s.names line a → ReadingStep may words s a quits (refusal_text r ∷ []) new → (new ≡ s) × (quits ≡ false)
reading-leaves may words s line (Means p) quits r new x h = command-leaves may words s p quits r new h
reading-leaves may words s line NoSyntax quits r new x h = (h.same, h.goes_on)
reading-leaves may words s line NoAtoms quits r new x h = (h.same, h.goes_on)

pub line-leaves : (may : ℕ → State → Parsed → Bool) (words : ℕ) (s new : State) (line : Line) (r : Refusal) (quits : Bool)
    → LineStep may words s line quits (refusal_text r ∷ []) new → (new ≡ s) × (quits ≡ false)
line-leaves may words s new long r quits h = (h.same, h.goes_on)
line-leaves may words s new (text line) r quits h = reading-leaves may words s line h.reading quits r new h.reads h.follows
