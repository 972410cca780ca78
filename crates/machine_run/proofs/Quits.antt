-- A line without the byte `q` ends no script.
use Rattle.std.proofs.Common.{◌≡◌, ◌∙◌, ◌++◌, ◌||◌, inl, inr, ℕ, Bool, true, false, refl, ap, List, [], ◌∷◌, codes}
use Rattle.std.specs.Prelude.{◌⊎◌, MatchBool}
use Rattle.std.specs.List.{list_any}
use Rattle.line_io.specs.Lines.{text}
use Rattle.made_script.proofs.Laws.{is_q}
use Rattle.script_grammar.specs.Written.{Written}
use Rattle.script_grammar.specs.Written.Written.{Nothing, OfProcess, OfSystem}
use Rattle.script_grammar.specs.Grammar.{Lies, Spelled}
use Rattle.script_grammar.specs.Grammar.Piece.{Space, Text}
use Rattle.script_grammar.specs.Names.{Parsed, command_of, names_after}
use Rattle.script_grammar.specs.ReadAs.{IsReadAs, Reading}
use Rattle.script_grammar.specs.ReadAs.Reading.{Means, NoSyntax, NoAtoms}
use Rattle.script_grammar.specs.declared.word.SysWord.TheVariants as sys
use Rattle.plain_machine.specs.State.{State}
use Rattle.plain_machine.specs.Step.{Outcome, step}
use Rattle.plain_machine.specs.Step.Outcome.{Accepted, Refused, Mapped}
use Rattle.plain_machine.specs.Run.{Gives, LacksSpace, LineStep, ReadingStep, Skips, is_nothing, is_quit}

-- a byte of the second part is one of the whole
any-behind : (xs ys : List ℕ) → list_any is_q ys ≡ true → list_any is_q (xs ++ ys) ≡ true
any-behind [] ys h = h
any-behind (x ∷ xs) ys h = pick (is_q x) (any-behind xs ys h)
  where
    pick : (t : Bool) → list_any is_q (xs ++ ys) ≡ true → (t || list_any is_q (xs ++ ys)) ≡ true
    pick true e = refl
    pick false e = e

-- a line that says `sys quit` has the byte
quit-has : (line : List ℕ) → Lies (Text (codes "sys") ∷ Space ∷ Text (codes "quit") ∷ []) line → list_any is_q line ≡ true
quit-has line h =
    let after_sys = h.6 in
    let after_blank = after_sys.6 in
    let last : list_any is_q (after_blank.1 ++ after_blank.2) ≡ true = ap (λ t. list_any is_q (t ++ after_blank.2)) after_blank.4 in
    let third : list_any is_q after_sys.2 ≡ true = ap (list_any is_q) after_blank.5 ∙ any-behind after_blank.0 (after_blank.1 ++ after_blank.2) last in
    let second : list_any is_q h.2 ≡ true = ap (list_any is_q) after_sys.5 ∙ any-behind after_sys.0 (after_sys.1 ++ after_sys.2) (any-behind after_sys.1 after_sys.2 third) in
    ap (list_any is_q) h.5 ∙ any-behind h.0 (h.1 ++ h.2) (any-behind h.1 h.2 second)

module _ (line : List ℕ) (lacks : list_any is_q line ≡ false) where
  no-quit : (names : List (List ℕ)) (w : Written) → Spelled w line → is_quit (command_of names w) ≡ false
  no-quit names Nothing says = refl
  no-quit names (OfProcess n w ops) says = refl
  no-quit names (OfSystem sys.Spawn ops) says = refl
  no-quit names (OfSystem sys.Load ops) says = refl
  no-quit names (OfSystem sys.Purge ops) says = refl
  no-quit names (OfSystem sys.Sweep ops) says = refl
  no-quit names (OfSystem sys.Counts ops) says = refl
  no-quit names (OfSystem sys.Dump ops) says = refl
  no-quit names (OfSystem sys.Procs ops) says = refl
  no-quit names (OfSystem sys.Quit ops) says = let has : list_any is_q line ≡ true = quit-has line says in absurd (cc)

  module _ (may : ℕ → State → Parsed → Bool) (words : ℕ) (s new : State) (quits : Bool) (replies : List (List ℕ)) where
    of-outcome : (o : Outcome) (p : Parsed) → is_quit p.command ≡ false → Gives o s p.command quits replies new → quits ≡ false
    of-outcome (Accepted next reply) p none g = g.ends ∙ none
    of-outcome (Refused r) p none g = g.goes_on
    of-outcome Mapped p none g = g.goes_on

    of-command : (nothing : Bool) (p : Parsed) → is_quit p.command ≡ false
        → MatchBool nothing (Skips s quits replies new) (Gives (step s p) s p.command quits replies new ⊎ LacksSpace may words s p quits replies new) → quits ≡ false
    of-command true p none h = h.goes_on
    of-command false p none (inl g) = of-outcome (step s p) p none g
    of-command false p none (inr l) = l.refuses.goes_on

    of-reading : (r : Reading) → IsReadAs s.names line r → ReadingStep may words s r quits replies new → quits ≡ false
    of-reading (Means p) read follows =
        let none : is_quit p.command ≡ false = ap (λ q. is_quit q.command) read.is ∙ no-quit (names_after s.names read.written) read.written read.says.spelled in
        of-command (is_nothing p.command) p none follows
    of-reading NoSyntax read follows = follows.goes_on
    of-reading NoAtoms read follows = follows.goes_on

    -- the script goes on after the line
    pub goes-on : LineStep may words s (text line) quits replies new → quits ≡ false
    goes-on h = of-reading h.reading h.reads h.follows
