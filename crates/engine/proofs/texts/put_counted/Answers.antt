use Rattle.std.proofs.Common.{◌++◌, codes, decimal, sym, ap, ◌∙◌, append_assoc}
use Rattle.text_parts.proofs.Writing.{written-as}
use Rattle.engine.proofs.texts.put_counted.Goals as goal

pub returns : goal.returns
returns g c =
    written-as g.K.Sink.wrote g.K.Sink.faults _ _ _ _ c.put_three.result
    (ap (λ z. c.args.text.now ++ (z ++ codes "\n")) (c.as_bytes.ensures.value ∙ c.format.ensures.text) ∙ sym (append_assoc c.args.text.now (decimal c.args.n) (codes "\n")))
    c.put_three.ensures
