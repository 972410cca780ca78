use Rattle.cheney.proofs.parts.scan_object.Goals as goal

pub scan_boxed-requires : goal.scan_boxed-requires
scan_boxed-requires c = record { can = (c.args.aged, c.requires); header = c.get-word.ensures; boxed = c.if-word-eq0.true }

pub scan_spine-requires : goal.scan_spine-requires
scan_spine-requires c = record { can = c.requires; head = c.get-word.ensures; cons = c.if-word-eq0.false }

pub returns-then-word-eq0 : goal.returns-then-word-eq0
returns-then-word-eq0 c = record { each = c.scan_boxed.ensures.each c.args.aged; further = c.scan_boxed.ensures.further; ends = c.scan_boxed.ensures.ends }

pub returns-else-word-eq0 : goal.returns-else-word-eq0
returns-else-word-eq0 c = c.scan_spine.ensures
