-- Each line is done by the machine's step, and its reply is summed up.
use Rattle.std.proofs.Common.{◌≡◌, ◌∙◌, ◌∷◌, ℕ, List, refl, sym, ap, subst, arith, length}
use Rattle.line_io.specs.Lines.{text}
use Rattle.made_script.specs.Script.{lines_to_come}
use Rattle.made_script.proofs.Laws.{lines-made}
use Rattle.engine.specs.Acts.{StandsWith}
use Rattle.engine.specs.Rules.{After}
use Rattle.engine.specs.Steps.{Steps}
use Rattle.machine_run.proofs.Making.{making-none, making-more, making-all, sums_from}
use Rattle.machine_run.proofs.made.do_made.Goals as goal

pub loop-script-init : goal.loop-script-init
loop-script-init g c = record {
  making = λ first h. making-none _ first c.args.number _ _ _ c.new-script.ensures h c.new-sums.ensures;
  words = refl;
  calls = omega (arith, ap length c.new-script.ensures, lines-made c.args.number, c.requires.calls);
  named = c.requires.named;
}

pub loop-script-preserved : goal.loop-script-preserved
loop-script-preserved g c =
    let kept = c.loop-script.invariant in
    let line : List ℕ = c.as_slice.result.now in
    let rest : List (List ℕ) = lines_to_come c.next_line.new.self in
    let left : lines_to_come c.loop-script.script ≡ line ∷ rest =
    subst (λ l. lines_to_come c.loop-script.script ≡ l ∷ rest) (sym c.as_slice.ensures.value) c.loop-script-test.ensures in
    let after : After = record {
      stands = StandsWith (g.P.Space.stands c.step.new.m.space) c.step.new.m.names;
      text = g.P.Space.text c.step.new.m.space c.step.new.m.names;
    } in
    record {
      making = λ first h.
          let m = kept.making first h in
          let P : ℕ → Type 0 = λ w. Steps w m.state (text line) after (sums_from c.loop-script.sums c.step.new.sink) c.step.result in
          making-more _ first c.args.number _ line rest _ _ _ after c.step.result m left (subst P kept.words (c.step.ensures.steps m.state m.stands));
      words = c.step.ensures.books.same_words ∙ kept.words;
      calls = omega (arith, kept.calls, c.step.ensures.books.one_call, ap length left);
      named = c.step.ensures.books.few_names;
    }

pub returns-clause-made : goal.returns-clause-made
returns-clause-made g c = λ first h.
    making-all _ first c.args.number _ _ c.loop-script.sums c.summary.result (c.loop-script.invariant.making first h) c.loop-script-test.ensures.0 c.summary.ensures
