use Rattle.std.proofs.Common.{◌≡◌, ◌+◌, ◌-◌, ◌≤◌, Some, None, length, arith, rules, sym, ◌∙◌, ap}
use Rattle.script_parse.specs.Forms.{all_forms}
use Rattle.script_parse.specs.Output.{given, led_items}
use Rattle.script_parse.specs.Reading.{after_blanks, byte_at, form_in, part_run, term_run}
use Rattle.script_parse.proofs.Stepwise.KeepsSteps.{grows-then}
use Rattle.script_parse.proofs.Stepwise.PartSteps.{parts-more}
use Rattle.script_parse.proofs.Stepwise.TermSteps.{term-form, term-leaf, led-len, led-few}
use Rattle.script_parse.proofs.terms.+terms.Goals.{term-else-levels-gt0-via-else-levels-gt0, term-else-levels-gt0-via-then-levels-gt0+in-None-1}
use Rattle.script_parse.proofs.terms.+terms.Goals as goal

pub parts-loop-n-preserved : goal.parts-loop-n-preserved
parts-loop-n-preserved t c =
    let left : length c.args.line.now + 1 - c.loop-n.n ≡ (length c.args.line.now + 1 - (c.loop-n.n + 1)) + 1 = omega (arith, c.loop-n-test.true) in
    let comma : byte_at 44 (after_blanks c.in_ok-rest.rest.now) ≡ Some c.in-Some.after.now = sym (ap (byte_at 44) c.skip.ensures.value) ∙ c.in-Some.ensures.value in
    let one : length (led_items c.args.form c.loop-n.out.code.now) ≤ length c.loop-n.out.code.now + 1 = omega (arith, led-len c.args.form c.loop-n.out.code.now, led-few c.args.form) in
    record {
      read = sym (parts-more (part_run (term_run c.args.levels) c.args.form) (length c.args.line.now + 1 - (c.loop-n.n + 1)) (length c.args.line.now + 1 - c.loop-n.n)
          c.loop-n.at.now c.loop-n.n (given c.loop-n.out) left c.in_ok-rest.rest.now c.in-Some.after.now (given c.part.new.out) c.in_ok-rest.ensures.read comma)
          ∙ c.loop-n.invariant.read;
      grown = grows-then c.args.out.now c.loop-n.out c.part.new.out c.loop-n.invariant.grown c.part.ensures.grown;
      room = omega (arith, c.loop-n.invariant.room, c.in_ok-rest.ensures.room, one, c.skip.ensures.shorter, c.in-Some.ensures.shorter);
      within = omega (arith, c.loop-n.invariant.within, c.in_ok-rest.ensures.room, c.skip.ensures.shorter, c.in-Some.ensures.shorter);
    }

pub bracketed-returns-in-Some-clause-grown : goal.bracketed-returns-in-Some-clause-grown
bracketed-returns-in-Some-clause-grown t c = grows-then c.args.out.now c.begin.new.self c.end.new.self c.begin.ensures.grown c.end.ensures.grown

pub part-returns-in-List-clause-grown : goal.part-returns-in-List-clause-grown
part-returns-in-List-clause-grown t c = grows-then c.args.out.now c.lead.new.self c.term.new.out c.lead.ensures.grown c.term.ensures.grown

pub term-returns-clause-read : goal.term-returns-clause-read
term-returns-clause-read t c = let e : form_in all_forms (after_blanks c.args.line.now) ≡ Some (c.in-Some.form, c.in-Some.rest.now)
    = sym (ap (form_in all_forms) c.skip-line.ensures.value) ∙ c.in-Some.ensures.value in
    rw (term-form c.args.levels c.args.line.now c.in-Some.rest.now c.in-Some.form (given c.args.out.now) e c.if-levels-gt0.true) c.bracketed.ensures.read

pub term-returns-2-clause-read : goal.term-returns-2-clause-read
term-returns-2-clause-read t c = elim c.else-levels-gt0.branch [
  | term-else-levels-gt0-via-else-levels-gt0 w ↦ search rules
  | term-else-levels-gt0-via-then-levels-gt0+in-None-1 w ↦ let e : form_in all_forms c.skip-line.result.now ≡ None = search rules in
      rw (term-leaf c.args.levels c.args.line.now (given c.args.out.now) (sym (ap (form_in all_forms) c.skip-line.ensures.value) ∙ e), ← c.skip-line.ensures.value) c.leaf.ensures.read
]
