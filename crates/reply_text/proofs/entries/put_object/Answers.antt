use Rattle.std.proofs.Common.{◌++◌, ◌≡◌, codes, decimal, ap, ◌∙◌}
use Rattle.reply_text.specs.Texts.{object_entry}
use Rattle.reply_text.proofs.Dividing.{entry-written}
use Rattle.reply_text.proofs.entries.put_object.Goals as goal

pub returns : goal.returns
returns g c =
    let place : c.as_bytes.result.now ≡ decimal c.args.place = c.as_bytes.ensures.value ∙ c.format.ensures.text in
    let size : c.as_bytes-3.result.now ≡ decimal c.args.size = c.as_bytes-3.ensures.value ∙ c.format-2.ensures.text in
    entry-written g.K.Sink.wrote g.K.Sink.faults c.args.sink.now c.put.new.sink c.put_five.new.sink c.args.first c.divider_bytes.result.now
    (c.as_bytes.result.now ++ (codes ":" ++ (c.as_bytes-2.result.now ++ (codes ":" ++ c.as_bytes-3.result.now)))) (object_entry c.args.place c.args.kind.now c.args.size) c.put_five.result
    c.divider_bytes.ensures
    (ap (λ z. z ++ (codes ":" ++ (c.as_bytes-2.result.now ++ (codes ":" ++ c.as_bytes-3.result.now)))) place
    ∙ (ap (λ z. decimal c.args.place ++ (codes ":" ++ (z ++ (codes ":" ++ c.as_bytes-3.result.now)))) c.as_bytes-2.ensures.value
    ∙ ap (λ z. decimal c.args.place ++ (codes ":" ++ (c.args.kind.now ++ (codes ":" ++ z)))) size))
    c.in_ok-put.ensures.all c.in_ok-put.ensures.told c.put_five.ensures
