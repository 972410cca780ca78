use Rattle.std.proofs.Common.{arith}
use Rattle.process_verbs.proofs.Bringing.Gaining.{own-does, own-some, pid-below}
use Rattle.process_verbs.proofs.verbs.Verbs.own_pid.Goals as goal

pub pid-requires : goal.pid-requires
pid-requires g c = omega (arith, pid-below _ _ c.requires.holds _ c.requires.sits c.args.r, c.requires.calls)

pub put-requires-clause-held : goal.put-requires-clause-held
put-requires-clause-held g c = own-some _ _ c.requires.holds _ c.requires.sits c.args.r _ c.pid.ensures (omega (arith, pid-below _ _ c.requires.holds _ c.requires.sits c.args.r, c.requires.calls))

pub returns-clause-does : goal.returns-clause-does
returns-clause-does g c =
    own-does _ _ c.requires.holds _ c.requires.sits c.args.r _ c.pid.ensures (omega (arith, pid-below _ _ c.requires.holds _ c.requires.sits c.args.r, c.requires.calls)) c.put.new.self c.put.ensures
