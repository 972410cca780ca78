use Rattle.std.proofs.Common.{◌++◌, decimal, sym, ap, ◌∙◌}
use Rattle.plain_machine.specs.Run.{refusal_text}
use Rattle.text_parts.proofs.Writing.{written-as}
use Rattle.engine.specs.Writing.{end_of_line, refusal_front}
use Rattle.engine.proofs.Writing.{front-whole}
use Rattle.engine.proofs.texts.put_refusal.Goals as goal

pub returns-in-NoSpace : goal.returns-in-NoSpace
returns-in-NoSpace g c =
    written-as g.K.Sink.wrote g.K.Sink.faults _ _ _ _ c.put_counted.result
    (ap (λ z. end_of_line (z ++ decimal c.in-NoSpace.n)) (c.front_of-front.ensures ∙ ap refusal_front c.in-NoSpace.is) ∙ ap (λ r. end_of_line (refusal_text r)) (sym c.in-NoSpace.is))
    c.put_counted.ensures

pub returns : goal.returns
returns g c =
    written-as g.K.Sink.wrote g.K.Sink.faults _ _ _ _ c.put.result (c.front_of-front.ensures ∙ front-whole c.args.refusal c.in_default.not-NoSpace) c.put.ensures
