use Rattle.std.proofs.Common.{◌≡◌, ℕ, suc, ◌+◌, get_or, refl, subst, arith}
use Rattle.item_build.specs.Building.{OverBins}
use Rattle.item_build.proofs.Laid.Holding.{LaidUpTo, free-now, next-waits, up-begins, up-leaves, up-next}
use Rattle.item_build.proofs.bins.lay_holders.Goals as goal

pub loop-i-init : goal.loop-i-init
loop-i-init c = up-begins c.args.n c.args.row.now c.args.room.now c.args.mem.now c.args.making.now

pub lay_holder-requires-clause-records : goal.lay_holder-requires-clause-records
lay_holder-requires-clause-records c =
    let r = c.requires.records in
    record {
      test = (c.loop-i.invariant.laid r.test r.shared r.free r.waiting).test;
      shared = r.shared;
      free = free-now c.loop-i.i c.args.n c.args.row.now c.args.room.now c.loop-i.room c.args.mem.now c.loop-i.mem c.args.making.now c.loop-i.making c.loop-i.invariant c.requires.words
          (omega (arith, c.loop-i-test.true)) r.test r.shared r.free r.waiting;
      waiting = next-waits c.loop-i.i c.args.n c.args.row.now c.args.room.now c.loop-i.room c.args.mem.now c.loop-i.mem c.args.making.now c.loop-i.making c.loop-i.invariant c.requires.words
          (omega (arith, c.loop-i-test.true)) r.test r.shared r.free r.waiting (get_or c.args.row.now c.loop-i.i 0) refl c.loop-i-test.true;
    }

pub loop-i-preserved : goal.loop-i-preserved
loop-i-preserved c =
    let next : suc c.loop-i.i ≡ c.loop-i.i + 1 = omega arith in
    let P : ℕ → Type 0 = λ k. LaidUpTo k c.args.n c.args.row.now c.args.room.now c.lay_holder.new.room c.args.mem.now c.lay_holder.new.mem c.args.making.now c.lay_holder.new.making in
    subst P next
    (up-next c.loop-i.i c.args.n c.args.row.now c.args.room.now c.loop-i.room c.lay_holder.new.room c.args.mem.now c.loop-i.mem c.lay_holder.new.mem c.args.making.now c.loop-i.making
    c.lay_holder.new.making (get_or c.args.row.now c.loop-i.i 0) c.loop-i.invariant c.requires.words c.loop-i-test.true refl c.lay_holder.ensures.room c.lay_holder.ensures.serial
    c.lay_holder.ensures.same_len c.lay_holder.ensures.others c.lay_holder.ensures.laid)

pub returns-clause-laid : goal.returns-clause-laid
returns-clause-laid c = λ k shared free waiting.
    let all : c.loop-i.i ≡ c.args.n = omega (arith, c.loop-i-test.false, c.loop-i.auto.i-end) in
    let P : ℕ → Type 0 = λ i. OverBins k shared c.args.room.now.top c.loop-i.room.top c.args.mem.now c.loop-i.mem c.args.row.now c.args.making.now c.loop-i.making i in
    subst P all (c.loop-i.invariant.laid k shared free waiting)

pub returns-clause-leaves : goal.returns-clause-leaves
returns-clause-leaves c =
    let all : c.loop-i.i ≡ c.args.n = omega (arith, c.loop-i-test.false, c.loop-i.auto.i-end) in
    let P : ℕ → Type 0 = λ i. LaidUpTo i c.args.n c.args.row.now c.args.room.now c.loop-i.room c.args.mem.now c.loop-i.mem c.args.making.now c.loop-i.making in
    up-leaves c.args.n c.args.row.now c.args.room.now c.loop-i.room c.args.mem.now c.loop-i.mem c.args.making.now c.loop-i.making (subst P all c.loop-i.invariant) c.requires.words
