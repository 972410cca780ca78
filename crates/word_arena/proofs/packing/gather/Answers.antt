use Rattle.std.proofs.Common.{◌≡◌, ℕ, ◌/◌, length, ap, refl, subst, ◌∙◌, get_or, arith}
use Rattle.word_arena.specs.Fronts.{BroughtTo, Firsts}
use Rattle.word_arena.proofs.Slid.Fronted.{begun-room, firsts-free, firsts-used}
use Rattle.word_arena.specs.Blocks.{size_at, BlockBegins}
use Rattle.word_arena.proofs.Side.Facts.{block-within, stop-zero, stop-next}
use Rattle.word_arena.proofs.Slid.Gathering.{gathered-none, gathered-free, gathered-used}
use Rattle.word_arena.proofs.packing.gather.Goals as goal
use Rattle.word_arena.proofs.packing.gather.Goals.{then-header-ne0, else-header-ne0}

pub loop-at-init : goal.loop-at-init
loop-at-init c =
    record {
      stop = stop-zero _ c.requires.blocked;
      gathered = gathered-none _ c.requires.blocked;
      firsts = c.requires.none;
      room = c.requires.room;
      tops = refl;
      free = refl;
    }

pub begin-next-requires : goal.begin-next-requires
begin-next-requires c = omega (arith, c.loop-at.invariant.gathered.order, c.loop-at.invariant.room.stretches, c.loop-at-test.true, c.len-len.ensures.len)

pub bring-requires-clause-inside : goal.bring-requires-clause-inside
bring-requires-clause-inside c =
    let g = c.loop-at.invariant.gathered in
    let here : BlockBegins c.args.mem.now c.loop-at.at = c.loop-at.invariant.stop.begins (omega (arith, c.loop-at-test.true, c.len-len.ensures.len)) in
    let word : c.get-header.result ≡ get_or c.args.mem.now c.loop-at.at 0 = c.get-header.ensures ∙ g.ahead c.loop-at.at (omega arith) in
    omega (arith, word, g.same_len, (block-within c.args.mem.now c.loop-at.at c.requires.blocked here).to)

pub loop-at-smaller : goal.loop-at-smaller
loop-at-smaller c =
    let g = c.loop-at.invariant.gathered in
    let here : BlockBegins c.args.mem.now c.loop-at.at = c.loop-at.invariant.stop.begins (omega (arith, c.loop-at-test.true, c.len-len.ensures.len)) in
    let word : c.get-header.result ≡ get_or c.args.mem.now c.loop-at.at 0 = c.get-header.ensures ∙ g.ahead c.loop-at.at (omega arith) in
    omega (arith, word, c.loop-at-test.true, (block-within c.args.mem.now c.loop-at.at c.requires.blocked here).header.sized)

pub loop-at-preserved : goal.loop-at-preserved
loop-at-preserved c =
    let old = c.args.mem.now in
    let at = c.loop-at.at in
    let g = c.loop-at.invariant.gathered in
    let here : BlockBegins old at = c.loop-at.invariant.stop.begins (omega (arith, c.loop-at-test.true, c.len-len.ensures.len)) in
    let word : c.get-header.result ≡ get_or old at 0 = c.get-header.ensures ∙ g.ahead at (omega arith) in
    let size : c.get-header.result / 16 ≡ size_at old at = ap (λ (z : ℕ). z / 16) word in
    record {
      stop = rw size (stop-next old at c.requires.blocked here);
      gathered = elim c.if-header-ne0.branch [
        | then-header-ne0 w ↦ rw (w.mem-is, w.to-is, size) (gathered-used old c.loop-at.mem w.bring.new.mem at c.loop-at.to c.requires.blocked
            (record { begins = here; kind = omega (arith, w.if-header-ne0.true, word) }) g w.bring.ensures.same_len
            (λ r s low high tie. w.bring.ensures.moved r s low (omega (arith, high, size)) tie)
            (λ s out. w.bring.ensures.kept s (rw size out)))
        | else-header-ne0 w ↦ rw (w.mem-is, w.to-is, size) (gathered-free old c.loop-at.mem at c.loop-at.to c.requires.blocked here (omega (arith, w.if-header-ne0.false, word)) g)
      ];
      firsts = elim c.if-header-ne0.branch [
        | then-header-ne0 w ↦ rw (w.holes-is, w.next-is, size) (firsts-used old c.loop-at.mem c.loop-at.holes.firsts.items w.begin-next.new.self.firsts.items at c.loop-at.to
            c.loop-at.next w.begin-next.result c.requires.blocked (record { begins = here; kind = omega (arith, w.if-header-ne0.true, word) }) g c.loop-at.invariant.firsts
            (omega (arith, g.order, c.loop-at.invariant.room.stretches, c.loop-at-test.true, c.len-len.ensures.len)) w.begin-next.ensures.met w.begin-next.ensures.written)
        | else-header-ne0 w ↦ rw (w.holes-is, w.next-is, size) (firsts-free old c.loop-at.holes.firsts.items at c.loop-at.next c.requires.blocked here
            (omega (arith, w.if-header-ne0.false, word)) c.loop-at.invariant.firsts)
      ];
      room = elim c.if-header-ne0.branch [
        | then-header-ne0 w ↦ rw w.holes-is (begun-room old c.loop-at.holes w.begin-next.new.self c.loop-at.next w.begin-next.result c.loop-at.to w.begin-next.ensures c.loop-at.invariant.room)
        | else-header-ne0 w ↦ rw w.holes-is c.loop-at.invariant.room
      ];
      tops = elim c.if-header-ne0.branch [
        | then-header-ne0 w ↦ rw w.holes-is (w.begin-next.ensures.tops ∙ c.loop-at.invariant.tops)
        | else-header-ne0 w ↦ rw w.holes-is c.loop-at.invariant.tops
      ];
      free = elim c.if-header-ne0.branch [
        | then-header-ne0 w ↦ rw w.holes-is (w.begin-next.ensures.free ∙ c.loop-at.invariant.free)
        | else-header-ne0 w ↦ rw w.holes-is c.loop-at.invariant.free
      ];
    }

pub returns-clause-room : goal.returns-clause-room
returns-clause-room c = c.loop-at.invariant.room

pub returns-clause-tops : goal.returns-clause-tops
returns-clause-tops c = c.loop-at.invariant.tops

pub returns-clause-free : goal.returns-clause-free
returns-clause-free c = c.loop-at.invariant.free

pub returns-clause-firsts : goal.returns-clause-firsts
returns-clause-firsts c =
    let P : ℕ → Type 0 = λ z. Firsts (BroughtTo c.args.mem.now z) c.loop-at.holes.firsts.items c.loop-at.next in
    let ends : c.loop-at.at ≡ length c.args.mem.now = omega (arith, c.loop-at.invariant.stop.inside, c.loop-at-test.false, c.len-len.ensures.len) in
    subst P ends c.loop-at.invariant.firsts
