use Rattle.std.proofs.Common.{◌==◌, ◌++◌, codes, decimal, append_assoc, ap, sym, ◌∙◌, arith}
use Rattle.line_io.proofs.Growth.{Grew-append}
use Rattle.plain_machine.specs.State.{live_numbers}
use Rattle.text_parts.proofs.Writing.{written-short, written-stops, written-after, written-as}
use Rattle.reply_text.specs.Texts.{divider}
use Rattle.engine.specs.Writing.{above}
use Rattle.engine.proofs.Rising.{left, numbers-begin, numbers-next, numbers-end}
use Rattle.engine.proofs.numbers.put_numbers.Goals as goal

pub returns-in_err-put : goal.returns-in_err-put
returns-in_err-put g c = λ s h. written-short g.K.Sink.wrote g.K.Sink.faults c.args.sink.now c.put.new.sink (codes "[") _ _ c.from_residual.result c.from_residual.ensures.0 c.in_err-put.ensures

pub loop-n-init : goal.loop-n-init
loop-n-init g c = record {
  fits = omega arith;
  told = c.in_ok-put.ensures.told;
  wrote = λ s h r. (codes "[", c.in_ok-put.ensures.all, numbers-begin (live_numbers s) r);
}

pub returns-in_err-put_number : goal.returns-in_err-put_number
returns-in_err-put_number g c = λ s h.
    let last = c.loop-n.last in
    let n = c.in-Some.n in
    let rising = c.live_after.ensures.rising s h in
    let so = c.loop-n.invariant.wrote s h rising in
    let next = numbers-next (last == 0) last n (live_numbers s) rising c.in-Some.ensures.above (sym (c.live_after.ensures.means s h) ∙ c.in-Some.is) in
    written-stops g.K.Sink.wrote g.K.Sink.faults c.args.sink.now c.loop-n.sink c.put_number.new.sink _ so.0 (divider (last == 0) ++ decimal n) (left (n == 0) (above n (live_numbers s))) _
    c.from_residual-in_err-put_number.result c.from_residual-in_err-put_number.ensures.0 so.1 c.loop-n.invariant.told (so.2 ∙ ap (λ l. so.0 ++ l) next) c.in_err-put_number.ensures

pub loop-n-preserved : goal.loop-n-preserved
loop-n-preserved g c = record {
  fits = omega arith;
  told = c.in_ok-put_number.ensures.told ∙ c.loop-n.invariant.told;
  wrote = λ s h rising.
      let last = c.loop-n.last in
      let n = c.in-Some.n in
      let so = c.loop-n.invariant.wrote s h rising in
      let next = numbers-next (last == 0) last n (live_numbers s) rising c.in-Some.ensures.above (sym (c.live_after.ensures.means s h) ∙ c.in-Some.is) in (
        so.0 ++ (divider (last == 0) ++ decimal n),
        Grew-append g.K.Sink.wrote c.args.sink.now c.loop-n.sink c.put_number.new.sink so.0 (divider (last == 0) ++ decimal n) so.1 c.in_ok-put_number.ensures.all,
        so.2 ∙ ap (λ l. so.0 ++ l) next ∙ sym (append_assoc so.0 (divider (last == 0) ++ decimal n) (left (n == 0) (above n (live_numbers s)))),
      );
}

pub returns : goal.returns
returns g c = λ s h.
    let so = c.loop-n.invariant.wrote s h (c.live_after.ensures.rising s h) in
    let none = numbers-end (c.loop-n.last == 0) c.loop-n.last (live_numbers s) (sym (c.live_after.ensures.means s h) ∙ c.in_default.is) in
    written-as g.K.Sink.wrote g.K.Sink.faults c.args.sink.now c.put-2.new.sink (so.0 ++ codes "]\n") _ c.put-2.result (sym (so.2 ∙ ap (λ l. so.0 ++ l) none))
    (written-after g.K.Sink.wrote g.K.Sink.faults c.args.sink.now c.loop-n.sink c.put-2.new.sink so.0 (codes "]\n") c.put-2.result so.1 c.loop-n.invariant.told c.put-2.ensures)
