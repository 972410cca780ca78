use Rattle.std.proofs.Common.{◌∙◌, sym}
use Rattle.std.specs.Cmp.{booleans_Decides}
use Rattle.cheney.proofs.Stepping.Scanning.{is-next, tail-moved}
use Rattle.cheney.proofs.Stepping.Steps.{step-moves}
use Rattle.cheney.proofs.spine.scan_tail.Goals as goal

pub fresh_cons-requires : goal.fresh_cons-requires
fresh_cons-requires c = step-moves c.args.mem.now c.args.mv.now c.args.aged c.args.at c.args.w c.requires.can c.requires.word

pub copy_cons-new-requires : goal.copy_cons-new-requires
copy_cons-new-requires c = record {
  can = step-moves c.args.mem.now c.args.mv.now c.args.aged c.args.at c.args.w c.requires.can c.requires.word;
  fresh = c.in-Some.ensures;
}

pub returns-then-here : goal.returns-then-here
returns-then-here c = record {
  each = λ p k b run s o. tail-moved p c.args.mem.now c.copy_cons-new.new.mem c.set.new.self c.args.mv.now c.copy_cons-new.new.mv k b c.args.at c.args.w
      c.copy_cons-new.result run s o c.requires.word c.copy_cons-new.ensures c.set.ensures;
  next =
      is-next c.args.mem.now c.copy_cons-new.new.mem c.set.new.self c.args.mv.now c.copy_cons-new.new.mv c.args.aged c.args.at c.args.w c.in-Some.head c.in-Some.tail c.copy_cons-new.result
      c.requires.can c.requires.word
      c.in-Some.ensures c.copy_cons-new.ensures (sym c.is_in.ensures ∙ (booleans_Decides c.is_in.result c.args.aged).0 c.if-here.true) c.set.ensures;
}

pub returns-else-here-clause-each : goal.returns-else-here-clause-each
returns-else-here-clause-each c = λ p k b run s o. tail-moved p c.args.mem.now c.copy_cons-new.new.mem c.set.new.self c.args.mv.now c.copy_cons-new.new.mv k b c.args.at c.args.w
    c.copy_cons-new.result run s o c.requires.word c.copy_cons-new.ensures c.set.ensures
