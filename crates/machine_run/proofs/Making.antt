-- The lines of a made script, done one after the other.
use Rattle.std.proofs.Common.{◌≡◌, ◌∙◌, ◌++◌, ◌&&◌, ℕ, Bool, true, false, refl, sym, ap, subst, arith, List, [], ◌∷◌, map, append_assoc, append-nil}
use Rattle.std.proofs.lemmas.Bool.{not-true}
use Rattle.std.specs.List.{list_all, list_any}
use Rattle.line_io.specs.Faults.{Rose}
use Rattle.line_io.specs.Lines.{Line, text}
use Rattle.line_io.specs.Sink.{Grew}
use Rattle.line_io.specs.SumSink.{SumsUp}
use Rattle.line_io.specs.declared.sum_sink.SumSink.{SumSink}
use Rattle.line_io.specs.declared.sum_sink.Summary.{Summary}
use Rattle.line_io.specs.Summary.{summary_of}
use Rattle.made_script.specs.Script.{made_script}
use Rattle.made_script.proofs.Laws.{is_q, lacks_q, lines-lack_q}
use Rattle.plain_machine.specs.May.{may_of_tight}
use Rattle.plain_machine.specs.State.{State}
use Rattle.plain_machine.specs.Run.{LineStep, Run, replies_text}
use Rattle.plain_machine.proofs.ByLine.Runs.{run-append, run-none, run-one, text-append}
use Rattle.engine.specs.Rules.{After, Output}
use Rattle.engine.specs.Steps.{Steps, StepWrites}
use Rattle.engine.specs.declared.machine.Stepped.{Stepped}
use Rattle.engine.specs.declared.machine.Stepped.TheVariants.{Next, Quit, SinkFault}
use Rattle.machine_run.specs.Made.{IsMade}
use Rattle.machine_run.proofs.Quits.{goes-on}

-- Of the script of a number these lines are left; the others are done, and the sink holds the numbers of their replies.
pub record Making (words : ℕ) (first : State) (number : ℕ) (left : List (List ℕ)) (Stands : State → Type 0) (sums : SumSink) : Type 0 where
  pub given : List (List ℕ)
  pub replies : List (List ℕ)
  pub state : State
  pub whole : given ++ left ≡ made_script number
  pub lack : list_all lacks_q left ≡ true
  pub run : Run may_of_tight words false first (map text given) replies state
  pub stands : Stands state
  pub sums_up : SumsUp sums (replies_text replies)

-- a sink of numbers before and after
abbrev pub sums_from : (before after : SumSink) → Output SumSink
sums_from before after = record { wrote = SumsUp; faults = λ _. 0; before = before; after = after }

-- a text lacks the byte where the test says so
lacks : (line : List ℕ) → lacks_q line ≡ true → list_any is_q line ≡ false
lacks line e = not-true (list_any is_q line) e

map-append : (xs ys : List (List ℕ)) → map text (xs ++ ys) ≡ map text xs ++ map text ys
map-append [] ys = refl
map-append (x ∷ xs) ys = ap (λ (l : List Line). text x ∷ l) (map-append xs ys)

-- what a step wrote to a sink of numbers is all of its text, for such a sink never fails
all-written : (before after : SumSink) (x : List ℕ) (stepped : Stepped) → StepWrites (sums_from before after) x stepped → Grew SumsUp before after x
all-written before after x Next w = w.0
all-written before after x Quit w = w.0
all-written before after x SinkFault w = let rose : Rose 0 0 = w.1 in absurd (omega arith)

module _ (words : ℕ) (first : State) (number : ℕ) where
  -- no line is done yet
  pub making-none : (left : List (List ℕ)) (Stands : State → Type 0) (sums : SumSink) → left ≡ made_script number → Stands first → SumsUp sums []
      → Making words first number left Stands sums
  making-none left Stands sums is st none = record {
    given = [];
    replies = [];
    state = first;
    whole = is;
    lack = ap (list_all lacks_q) is ∙ lines-lack_q number;
    run = run-none may_of_tight words first;
    stands = st;
    sums_up = none;
  }

  -- one line more is done
  pub making-more : (left : List (List ℕ)) (line : List ℕ) (rest : List (List ℕ)) (Old : State → Type 0) (old new : SumSink) (after : After) (stepped : Stepped)
      (m : Making words first number left Old old) → left ≡ line ∷ rest → Steps words m.state (text line) after (sums_from old new) stepped
      → Making words first number rest after.stands new
  making-more left line rest Old old new after stepped m is p =
      let lack : (lacks_q line && list_all lacks_q rest) ≡ true = ap (list_all lacks_q) (sym is) ∙ m.lack in
      let parts = both (lacks_q line) lack in
      let on : p.quits ≡ false = goes-on line (lacks line parts.0) may_of_tight words m.state p.new p.quits p.replies p.follows in
      let step : LineStep may_of_tight words m.state (text line) false p.replies p.new = subst (λ b. LineStep may_of_tight words m.state (text line) b p.replies p.new) on p.follows in
      let run : Run may_of_tight words false first (map text m.given ++ text line ∷ []) (m.replies ++ p.replies) p.new =
      run-append may_of_tight words false first m.state p.new (map text m.given) (text line ∷ []) m.replies p.replies m.run
      (run-one may_of_tight words false m.state p.new (text line) p.replies step) in
      let grew : Grew SumsUp old new (replies_text p.replies) = all-written old new (replies_text p.replies) stepped p.writes in
      record {
        given = m.given ++ line ∷ [];
        replies = m.replies ++ p.replies;
        state = p.new;
        whole = append_assoc m.given (line ∷ []) rest ∙ ap (λ l. m.given ++ l) (sym is) ∙ m.whole;
        lack = parts.1;
        run = subst (λ ls. Run may_of_tight words false first ls (m.replies ++ p.replies) p.new) (sym (map-append m.given (line ∷ []))) run;
        stands = p.stands;
        sums_up = subst (SumsUp new) (sym (text-append m.replies p.replies)) (grew.each (replies_text m.replies) m.sums_up);
      }
    where
      both : {rest : Bool} (t : Bool) → (t && rest) ≡ true → (t ≡ true) × (rest ≡ true)
      both true e = (refl, e)
      both false e = absurd (cc)

  -- all lines are done
  pub making-all : (left : List (List ℕ)) (Stands : State → Type 0) (sums : SumSink) (numbers : Summary) → Making words first number left Stands sums → left ≡ []
      → ((taken : List ℕ) → SumsUp sums taken → numbers ≡ summary_of taken) → IsMade words first number Stands numbers
  making-all left Stands sums numbers m none sum = record {
    replies = m.replies;
    last = m.state;
    run = subst (λ ls. Run may_of_tight words false first (map text ls) m.replies m.state) (sym (append-nil m.given) ∙ ap (λ l. m.given ++ l) (sym none) ∙ m.whole) m.run;
    stands = m.stands;
    sums = sum (replies_text m.replies) m.sums_up;
  }
