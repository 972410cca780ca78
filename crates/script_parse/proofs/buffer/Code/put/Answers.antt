use Rattle.std.proofs.Common.{◌<◌, length, arith, ap}
use Rattle.std.proofs.lemmas.List.{length-take}
use Rattle.std.proofs.Math.Seq.{take-set-lt}
use Rattle.script_parse.proofs.buffer.Code.put.Goals as goal

pub returns : goal.returns
returns c = let within : c.args.at < c.self.inside.len = omega (arith, length-take c.self.inside.len c.self.inside.places.items, ap length c.self.view_is) in
    rw (← c.self.view_is) (take-set-lt c.self.inside.len c.self.inside.places.items c.args.at c.args.item within)
