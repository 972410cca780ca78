-- All trees that live stay proper along a run.
use Rattle.std.proofs.Common.{◌≡◌, ℕ, ◌⊎◌, inl, inr, Bool, true, false, List, [], ◌∷◌, ◌++◌, refl, sym, ap, subst}
use Rattle.std.specs.Prelude.{MatchBool, flat_map}
use Rattle.std.proofs.lemmas.Bool.{true≢false}
use Rattle.line_io.specs.Lines.{Line, text, long}
use Rattle.script_grammar.specs.Written.{Terms, Written, joined}
use Rattle.script_grammar.specs.Written.Terms.{end, ◌▹◌}
use Rattle.script_grammar.specs.declared.word.Word.TheVariants as word
use Rattle.script_grammar.specs.declared.word.SysWord.TheVariants as sys
use Rattle.script_grammar.specs.Written.Written.{Nothing, OfProcess, OfSystem}
use Rattle.script_grammar.specs.Grammar.{IsAllowed, IsBuilt}
use Rattle.script_grammar.specs.Names.{Parsed, parsed_of, names_after, atoms_of, all_atoms, command_of, terms_of, held_terms}
use Rattle.script_grammar.specs.ReadAs.{IsReadAs, Reading}
use Rattle.script_grammar.specs.ReadAs.Reading.{Means, NoSyntax, NoAtoms}
use Rattle.script_grammar.proofs.Naming.{ArePlaced, placed-front, number-below, with-names-more, with-names-placed}
use Rattle.plain_machine.specs.State.{State, HasNames, first_state}
use Rattle.plain_machine.specs.Tightness.{held_trees}
use Rattle.plain_machine.specs.Step.{Outcome, step}
use Rattle.plain_machine.specs.Step.Outcome.{Accepted, Refused, Mapped}
use Rattle.plain_machine.specs.Run.{Run, LineStep, ReadingStep, CommandStep, Gives, Skips, LacksSpace, is_nothing}
use Rattle.plain_machine.specs.Laws.{HoldsProper}
use Rattle.plain_machine.proofs.Properly.Making.{placed-numbers}
use Rattle.plain_machine.proofs.Properly.Holding.{joined-proper, spawned-proper}
use Rattle.plain_machine.proofs.ByLine.Commands.{LeavesProper, TermsOf, command-does}

-- the names after a line are those before it with more
has-names : (s : State) (w : Written) → HasNames s (names_after s.names w)
has-names s w = let m : (more : List (List ℕ)) × (names_after s.names w ≡ s.names ++ more) = with-names-more s.names (all_atoms w) in record { more = m.0; are = m.1 }

pub joined-end : (ts : Terms) → joined ts end ≡ ts
joined-end end = refl
joined-end (t ▹ ts) = ap (λ z. t ▹ z) (joined-end ts)

-- the terms of a built line
terms-are : (names : List (List ℕ)) (w : Written) → IsAllowed w → IsBuilt w → ArePlaced names (all_atoms w) → TermsOf (command_of names w) (terms_of w) names
terms-are names (OfProcess n word.Set ops) a b p = record {
  term = ops.1.0;
  one = refl;
  built = b.1.1.0;
  allowed = a.1.1.0;
  numbers = placed-numbers names (atoms_of (ops.1.0)) (placed-front names (atoms_of (ops.1.0)) [] p);
}
terms-are names (OfProcess n word.Fun ops) a b p = record { registers = ops.1.1.1.0; written = joined-end (held_terms (ops.1.1.1.0)); known = number-below names (ops.1.0) (p.0) }
terms-are names (OfProcess n _ ops) a b p = tt
terms-are names (OfSystem sys.Load ops) a b p = absurd (true≢false (sym b.0))
terms-are names (OfSystem w ops) a b p = tt
terms-are names Nothing a b p = tt

-- the step of a built line
written-leaves : (s : State) (w : Written) → HoldsProper s → IsAllowed w → IsBuilt w → LeavesProper (step s (parsed_of s.names w))
written-leaves s w h a b = (command-does s (parsed_of s.names w) (command_of (names_after s.names w) w)).proper h (has-names s w)
    (terms-are (names_after s.names w) w a b (with-names-placed s.names (all_atoms w)))

gives-proper : (o : Outcome) (s : State) (p : Parsed) (quits : Bool) (replies : List (List ℕ)) (new : State) → LeavesProper o → HoldsProper s → Gives o s p.command quits replies new → HoldsProper new
gives-proper (Accepted next reply) s p quits replies new k h g = subst HoldsProper (sym g.is) k
gives-proper (Refused r) s p quits replies new k h g = subst HoldsProper (sym g.same) h
gives-proper Mapped s p quits replies new k h g = subst HoldsProper (sym g.same) h

command-proper : (may : ℕ → State → Parsed → Bool) (words : ℕ) (s : State) (p : Parsed) (quits : Bool) (replies : List (List ℕ)) (new : State)
    → LeavesProper (step s p) → HoldsProper s → CommandStep may words s p quits replies new → HoldsProper new
command-proper may words s p quits replies new k h g = at (is_nothing p.command) g
  where
    at : (b : Bool) → MatchBool b (Skips s quits replies new) (Gives (step s p) s p.command quits replies new ⊎ LacksSpace may words s p quits replies new) → HoldsProper new
    at true g = subst HoldsProper (sym g.same) h
    at false (inl g) = gives-proper (step s p) s p quits replies new k h g
    at false (inr g) = subst HoldsProper (sym g.refuses.same) h

reading-proper : (may : ℕ → State → Parsed → Bool) (words : ℕ) (s : State) (line : List ℕ) (r : Reading) (quits : Bool) (replies : List (List ℕ)) (new : State)
    → HoldsProper s → IsReadAs s.names line r → ReadingStep may words s r quits replies new → HoldsProper new
reading-proper may words s line (Means p) quits replies new h x g =
    let P : Parsed → Type 0 = λ z. LeavesProper (step s z) in
    command-proper may words s p quits replies new (subst P (sym x.is) (written-leaves s x.written h x.says.allowed x.built)) h g
reading-proper may words s line NoSyntax quits replies new h x g = subst HoldsProper (sym g.same) h
reading-proper may words s line NoAtoms quits replies new h x g = subst HoldsProper (sym g.same) h

line-proper : (may : ℕ → State → Parsed → Bool) (words : ℕ) (s : State) (line : Line) (quits : Bool) (replies : List (List ℕ)) (new : State) → HoldsProper s
    → LineStep may words s line quits replies new → HoldsProper new
line-proper may words s long quits replies new h g = subst HoldsProper (sym g.same) h
line-proper may words s (text line) quits replies new h g = reading-proper may words s line g.reading quits replies new h g.reads g.follows

pub run-proper : (may : ℕ → State → Parsed → Bool) (words : ℕ) (quits : Bool) (s new : State) (lines : List Line) (replies : List (List ℕ)) → HoldsProper s → Run may words quits s lines replies new
    → HoldsProper new
unfolding Run
run-proper may words quits s new [] replies h g = subst HoldsProper (sym (g.2)) h
run-proper may words quits s new (line ∷ lines) replies h g = at (g.0) (g.6) (line-proper may words s line (g.0) (g.1) (g.3) h (g.4)) (λ k l. run-proper may words quits (g.3) new lines (g.2) k l)
  where
    at : (ends : Bool) → MatchBool ends ((quits ≡ true) × (lines ≡ []) × (g.2 ≡ []) × (new ≡ g.3)) (Run may words quits (g.3) lines (g.2) new) → HoldsProper (g.3)
        → (HoldsProper (g.3) → Run may words quits (g.3) lines (g.2) new → HoldsProper new) → HoldsProper new
    at true k one then_ = subst HoldsProper (sym (k.3)) one
    at false k one then_ = then_ one k

pub first-proper : HoldsProper first_state
first-proper = record { proper = joined-proper [] [] (flat_map held_trees first_state.processes) [] (spawned-proper [] [] 1 [] tt) tt; within = tt }
