use Rattle.std.proofs.Common.{◌++◌, ◌≡◌, codes, decimal, ap, ◌∙◌}
use Rattle.reply_text.specs.Texts.{fun_entry}
use Rattle.reply_text.proofs.Dividing.{entry-written}
use Rattle.reply_text.proofs.entries.put_fun.Goals as goal

pub returns : goal.returns
returns g c =
    let arity : c.as_bytes.result.now ≡ decimal c.args.arity = c.as_bytes.ensures.value ∙ c.format.ensures.text in
    let count : c.as_bytes-2.result.now ≡ decimal c.args.count = c.as_bytes-2.ensures.value ∙ c.format-2.ensures.text in
    entry-written g.K.Sink.wrote g.K.Sink.faults c.args.sink.now c.put.new.sink c.put_five.new.sink c.args.first c.divider_bytes.result.now
    (c.args.name.now ++ (codes "/" ++ (c.as_bytes.result.now ++ (codes ":" ++ c.as_bytes-2.result.now)))) (fun_entry c.args.name.now c.args.arity c.args.count) c.put_five.result
    c.divider_bytes.ensures
    (ap (λ z. c.args.name.now ++ (codes "/" ++ (z ++ (codes ":" ++ c.as_bytes-2.result.now)))) arity
    ∙ ap (λ z. c.args.name.now ++ (codes "/" ++ (decimal c.args.arity ++ (codes ":" ++ z)))) count)
    c.in_ok-put.ensures.all c.in_ok-put.ensures.told c.put_five.ensures
