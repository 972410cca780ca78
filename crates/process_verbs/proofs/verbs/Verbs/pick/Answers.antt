use Rattle.process_verbs.proofs.Bringing.Pairing.{can-pick, choose-does, choose-refused, part-held}
use Rattle.process_verbs.proofs.verbs.Verbs.pick.Goals as goal

pub part-requires : goal.part-requires
part-requires g c = can-pick _ _ c.requires.holds _ c.requires.sits c.args.r _ _ c.requires.other c.requires.key c.requires.whole _ c.regs.ensures _ c.mem.ensures _ c.requires.named

pub returns-in_default-clause-does : goal.returns-in_default-clause-does
returns-in_default-clause-does g c =
    choose-refused _ _ c.requires.holds _ c.requires.sits c.args.r _ _ c.requires.other c.requires.key c.requires.whole _ c.regs.ensures _ c.mem.ensures _ c.requires.named
    _ c.part.ensures.picks c.in_default.is

pub put-requires-clause-held : goal.put-requires-clause-held
put-requires-clause-held g c = part-held _ _ c.requires.holds _ c.requires.sits c.args.r _ _ c.requires.other c.requires.key c.requires.whole _ c.regs.ensures _ c.mem.ensures _ c.requires.named
    _ c.part.ensures.picks c.in-Some.w c.in-Some.is c.in-Some.ensures.is_part

pub returns-clause-does : goal.returns-clause-does
returns-clause-does g c = choose-does _ _ c.requires.holds _ c.requires.sits c.args.r _ _ c.requires.other c.requires.key c.requires.whole _ c.regs.ensures _ c.mem.ensures _ c.requires.named
    _ c.part.ensures.picks c.in-Some.w c.in-Some.is c.in-Some.ensures.is_part c.put.new.self c.put.ensures
