use Rattle.std.proofs.Common.{◌≡◌, ℕ, Some, cond, sym, ap, ◌∙◌}
use Rattle.line_io.specs.Lines.{is_end}
use Rattle.line_io.specs.Summary.{completes, further}
use Rattle.line_io.specs.declared.sum_sink.TheConstants.{ERROR_WORD}
use Rattle.line_io.proofs.Summing.{error_begun-more, summary-more}
use Rattle.line_io.proofs.sum_sink.SumSink.add.Goals as goal

pub returns : goal.returns
returns c = λ taken h.
    let w = c.args.self.now in
    let b = c.args.byte in
    let wrong : c.one_if-2.result ≡ cond (completes ERROR_WORD w.begun b) 1 0 = c.one_if-2.ensures ∙ ap (λ t. cond {A = ℕ} t 1 0) c.completes-completed.ensures in
    let wrong_now = wrong ∙ ap (λ s. cond {A = ℕ} (completes ERROR_WORD s b) 1 0) h.begun in
    record {
      numbers = rw (c.one_if.ensures, wrong_now, c.from.ensures) (summary-more w.lines w.errors w.bytes w.sum b taken h.numbers);
      begun = c.begun_after-self.ensures.value ∙ ap (λ s. cond (is_end b) (Some 0) (further ERROR_WORD s b)) h.begun ∙ sym (error_begun-more taken b);
    }
