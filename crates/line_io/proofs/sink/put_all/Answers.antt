use Rattle.std.proofs.Common.{subst, take_all}
use Rattle.line_io.specs.Sink.{Grew}
use Rattle.line_io.proofs.Growth.{part-of-front}
use Rattle.line_io.proofs.sink.put_all.Goals as goal

pub returns-then-put_most-bytes : goal.returns-then-put_most-bytes
returns-then-put_most-bytes g c =
    let e = c.put_most.ensures in
    let short = c.if-put_most-bytes.true in
    record { all = tt; part = part-of-front g.K.Sink.wrote _ _ c.args.bytes.now c.put_most.result short e.grew; later = e.later; rose = e.rose short; told = tt }

pub returns : goal.returns
returns g c =
    let e = c.put_most.ensures in
    let whole = c.if-put_most-bytes.false in
    record { all = subst (Grew g.K.Sink.wrote _ _) (take_all c.put_most.result c.args.bytes.now whole) e.grew; part = tt; later = e.later; rose = tt; told = e.told whole }
