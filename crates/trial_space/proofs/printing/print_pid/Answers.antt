use Rattle.std.proofs.Common.{◌++◌, codes, ap, ◌∙◌}
use Rattle.text_parts.proofs.Writing.{written-as}
use Rattle.trial_space.proofs.printing.print_pid.Goals as goal

pub returns : goal.returns
returns g c =
    written-as g.K.Sink.wrote g.K.Sink.faults _ _ _ _ c.put_three.result (ap (λ z. codes "<0." ++ (z ++ codes ".0>")) (c.as_bytes.ensures.value ∙ c.format.ensures.text)) c.put_three.ensures
