use Rattle.std.proofs.Common.{◌≡◌, ◌*◌, ◌-◌, ◌<◌, ◌≤◌, rules, length, set, sym, ◌∙◌, arith}
use Rattle.std.proofs.lemmas.List.{length-set}
use Rattle.word_arena.proofs.Side.Before.{before-zero, boundary-most}
use Rattle.word_arena.proofs.Slid.Summed.{behind-zero, entry-written, walked-entry, walked-next, walked-sum}
use Rattle.word_arena.proofs.shifts.Shifts.sum_up.Goals as goal
use Rattle.word_arena.proofs.shifts.Shifts.sum_up.Goals.{then-first-end, else-first-end}

pub loop-short-init : goal.loop-short-init
loop-short-init c =
    record {
      room = c.requires.room;
      same_len = search rules;
      start = behind-zero _ c.requires.sound.blocked;
      sum = sym (before-zero _ c.requires.sound.blocked);
      few = omega arith;
      right = λ i below. absurd (omega (arith, below));
    }

inner : (c : goal.After-count_before-walk) → c.first_free-first.result < c.short_end-end.result → c.if-first-end.share ≡ c.first_free-first.result - c.loop-short.short * 8
inner c below = elim c.if-first-end.branch [ then-first-end w ↦ w.share-is | else-first-end w ↦ absurd (omega (arith, w.if-first-end.false, below)) ]

outer : (c : goal.After-count_before-walk) → c.short_end-end.result ≤ c.first_free-first.result → c.if-first-end.share ≡ 8
outer c above = elim c.if-first-end.branch [ then-first-end w ↦ absurd (omega (arith, w.if-first-end.true, above)) | else-first-end w ↦ w.share-is ]

pub count_before-walk-requires-clause-sum : goal.count_before-walk-requires-clause-sum
count_before-walk-requires-clause-sum c =
    let mem = c.args.arena.now.mem in
    let first = c.first_free-first in
    let inv = c.loop-short.invariant in
    inv.sum ∙ sym (walked-sum mem c.loop-short.short c.loop-short.at c.short_end-end.result first.result c.requires.sound.blocked inv.start c.short_end-end.ensures
    first.ensures.after first.ensures.stop first.ensures.passed)

pub loop-short-preserved : goal.loop-short-preserved
loop-short-preserved c =
    let mem = c.args.arena.now.mem in
    let i = c.loop-short.short in
    let at = c.loop-short.at in
    let share = c.if-first-end.share in
    let sums = c.loop-short.self.sums.items in
    let firsts = c.loop-short.self.firsts.items in
    let inv = c.loop-short.invariant in
    let room = inv.room in
    let first = c.first_free-first in
    let walk = c.count_before-walk in
    let blocked = c.requires.sound.blocked in
    let sums_len : length (set sums i c.loop-short.sum) ≡ length sums = length-set sums i c.loop-short.sum in
    let firsts_len : length (set firsts i share) ≡ length firsts = length-set firsts i share in
    let inside : i < length firsts = omega (arith, inv.same_len) in
    record {
      room = record {
        stretches = omega (arith, room.stretches, firsts_len);
        sums = omega (arith, room.sums, sums_len, firsts_len);
        few = omega (arith, room.few, firsts_len);
      };
      same_len = firsts_len ∙ inv.same_len;
      start = walked-next mem i at c.short_end-end.result first.result blocked inv.start c.short_end-end.ensures first.ensures.after first.ensures.stop first.ensures.passed
          walk.result.at walk.ensures.stop walk.ensures.past walk.ensures.next;
      sum = walk.ensures.sum;
      few = omega (arith, walk.ensures.sum, boundary-most mem walk.result.at blocked walk.ensures.stop, walk.ensures.stop.inside, room.stretches, room.few);
      right = entry-written mem sums firsts i c.loop-short.sum share (omega (arith, inside, room.sums)) inside
          (walked-entry mem i at c.short_end-end.result first.result blocked inv.start c.short_end-end.ensures first.ensures.after first.ensures.stop first.ensures.passed
          c.loop-short.sum share inv.sum (inner c) (outer c)) inv.right;
    }
