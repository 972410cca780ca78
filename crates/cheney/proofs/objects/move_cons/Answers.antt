use Rattle.std.proofs.Common.{arith, inr}
use Rattle.cheney.proofs.Stepping.Steps.{cons-found, cons-within, from-moves, is-fresh}
use Rattle.cheney.proofs.objects.move_cons.Goals as goal

pub stays_at-requires : goal.stays_at-requires
stays_at-requires c = from-moves c.args.mem.now c.args.mv.now c.args.w c.requires.can

pub get-head-requires : goal.get-head-requires
get-head-requires c = omega (arith, cons-within c.args.mem.now c.args.mv.now c.args.w c.requires.can c.requires.tag)

pub get-tail-requires : goal.get-tail-requires
get-tail-requires c = omega (arith, cons-within c.args.mem.now c.args.mv.now c.args.w c.requires.can c.requires.tag)

pub returns-then-head-eq0 : goal.returns-then-head-eq0
returns-then-head-eq0 c = cons-found c.args.mem.now c.args.mv.now c.args.w c.get-head.result c.get-tail.result c.requires.tag c.if-stays_at.ensures c.get-head.ensures c.if-head-eq0.true
    c.get-tail.ensures

pub copy_cons-requires : goal.copy_cons-requires
copy_cons-requires c = record {
  fresh = is-fresh c.args.mem.now c.args.mv.now c.args.w c.get-head.result c.get-tail.result c.requires.tag c.if-stays_at.ensures c.get-head.ensures
      c.if-head-eq0.false c.get-tail.ensures;
  can = c.requires.can;
}

pub returns : goal.returns
returns c = inr (inr c.copy_cons.ensures)
