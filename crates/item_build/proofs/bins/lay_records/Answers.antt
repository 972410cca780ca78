use Rattle.std.proofs.Common.{◌≡◌, ℕ, suc, ◌+◌, ◌-◌, ◌/◌, ◌<◌, ◌≤◌, true, length, drop, take, get_or, sym, ◌∙◌, ap, subst, arith, refl, pos}
use Rattle.plain_term.specs.declared.item.Item.TheVariants.{Int}
use Rattle.word_mem.specs.declared.ranges.Room.{Room}
use Rattle.item_build.specs.Reading.{bytes_after, is_long}
use Rattle.item_build.proofs.Laid.Chaining.{led-open, rest-now}
use Rattle.item_build.proofs.Laid.Recording.{RecordedTo, all-back, all-counted, all-recorded, count-fits, record-fits, recorded-as, recorded-begins, recorded-next, recorded-past}
use Rattle.item_build.proofs.bins.lay_records.Goals as goal
use Rattle.item_build.proofs.bins.lay_records.Goals.{then-is_long, else-is_long}

pub loop-i-init : goal.loop-i-init
loop-i-init c = recorded-begins c.args.code.now c.args.serial c.args.room.now c.args.mem.now c.args.row.now c.requires.places

pub lay_record-requires-clause-inside : goal.lay_record-requires-clause-inside
lay_record-requires-clause-inside c =
    let led : bytes_after (get_or c.args.code.now c.loop-i.i (Int (pos 0))) ≤ length (drop (suc c.loop-i.i) c.args.code.now) =
    led-open c.args.code.now c.loop-i.i (Int (pos 0)) c.loop-i-test.true c.requires.whole in
    omega (arith, led, c.len_of.ensures, ap length (rest-now c.args.code.now c.loop-i.i))

pub lay_record-requires-clause-serials : goal.lay_record-requires-clause-serials
lay_record-requires-clause-serials c =
    let long : is_long (get_or c.args.code.now c.loop-i.i (Int (pos 0))) ≡ true = sym c.is_long.ensures ∙ c.if-is_long.true in
    let few = count-fits c.loop-i.i c.loop-i.count (Int (pos 0)) c.args.code.now c.args.serial c.args.room.now c.loop-i.room c.args.mem.now c.loop-i.mem c.args.row.now c.loop-i.row
    c.loop-i-test.true long
    c.loop-i.invariant c.requires.enough in
    omega (arith, few.1, c.requires.serials)

pub overflow_add-serial : goal.overflow_add-serial
overflow_add-serial c =
    let long : is_long (get_or c.args.code.now c.loop-i.i (Int (pos 0))) ≡ true = sym c.is_long.ensures ∙ c.if-is_long.true in
    let few = count-fits c.loop-i.i c.loop-i.count (Int (pos 0)) c.args.code.now c.args.serial c.args.room.now c.loop-i.room c.args.mem.now c.loop-i.mem c.args.row.now c.loop-i.row
    c.loop-i-test.true long
    c.loop-i.invariant c.requires.enough in
    omega (arith, few.1, c.requires.serials)

pub offset_bounds-row-count : goal.offset_bounds-row-count
offset_bounds-row-count c =
    let long : is_long (get_or c.args.code.now c.loop-i.i (Int (pos 0))) ≡ true = sym c.is_long.ensures ∙ c.if-is_long.true in
    let few = count-fits c.loop-i.i c.loop-i.count (Int (pos 0)) c.args.code.now c.args.serial c.args.room.now c.loop-i.room c.args.mem.now c.loop-i.mem c.args.row.now c.loop-i.row
    c.loop-i-test.true long
    c.loop-i.invariant c.requires.enough in
    omega (arith, few.1, c.requires.serials)

pub bounds-row-count : goal.bounds-row-count
bounds-row-count c =
    let long : is_long (get_or c.args.code.now c.loop-i.i (Int (pos 0))) ≡ true = sym c.is_long.ensures ∙ c.if-is_long.true in
    let few = count-fits c.loop-i.i c.loop-i.count (Int (pos 0)) c.args.code.now c.args.serial c.args.room.now c.loop-i.room c.args.mem.now c.loop-i.mem c.args.row.now c.loop-i.row
    c.loop-i-test.true long
    c.loop-i.invariant c.requires.enough in
    few.0

pub lay_record-requires-clause-words : goal.lay_record-requires-clause-words
lay_record-requires-clause-words c =
    let long : is_long (get_or c.args.code.now c.loop-i.i (Int (pos 0))) ≡ true = sym c.is_long.ensures ∙ c.if-is_long.true in
    omega (
      arith,
      record-fits c.loop-i.i c.loop-i.count (Int (pos 0)) c.args.code.now c.args.serial c.args.room.now c.loop-i.room c.args.mem.now c.loop-i.mem c.args.row.now c.loop-i.row c.loop-i-test.true long
          c.loop-i.invariant c.requires.words,
      c.len_of.ensures,
    )

pub loop-i-preserved : goal.loop-i-preserved
loop-i-preserved c =
    let next : suc c.loop-i.i ≡ c.loop-i.i + 1 = omega arith in
    let N : ℕ → Type 0 = λ k. RecordedTo k c.if-is_long.count c.args.code.now c.args.serial c.args.room.now c.if-is_long.room c.args.mem.now c.if-is_long.mem c.args.row.now c.if-is_long.row in
    subst N next (elim c.if-is_long.branch [
      | then-is_long w ↦
          let size : c.loop-i.room.top + (4 + (bytes_after (get_or c.args.code.now c.loop-i.i (Int (pos 0))) + 7) / 8) < c.loop-i.room.end =
          record-fits c.loop-i.i c.loop-i.count (Int (pos 0)) c.args.code.now c.args.serial c.args.room.now c.loop-i.room c.args.mem.now c.loop-i.mem c.args.row.now c.loop-i.row c.loop-i-test.true
          (sym c.is_long.ensures ∙ w.if-is_long.true) c.loop-i.invariant c.requires.words in
          let room : (w.lay_record.new.room.top ≡ c.loop-i.room.top) × (w.lay_record.new.room.end ≡ c.loop-i.room.end - (4 + (w.len_of.result + 7) / 8)) =
          (ap (λ (r : Room). r.top) w.lay_record.ensures.room, ap (λ (r : Room). r.end) w.lay_record.ensures.room) in
          recorded-as (suc c.loop-i.i) (suc c.loop-i.count) c.if-is_long.count c.args.code.now c.args.serial c.args.room.now w.lay_record.new.room c.if-is_long.room c.args.mem.now
          w.lay_record.new.mem c.if-is_long.mem c.args.row.now c.if-is_long.row c.if-is_long.row w.room-is w.mem-is refl (omega (arith, w.count-is))
          (recorded-next c.loop-i.i c.loop-i.count (Int (pos 0)) c.args.code.now c.args.serial c.args.room.now c.loop-i.room c.args.mem.now c.loop-i.mem c.args.row.now c.loop-i.row
          c.loop-i-test.true (sym c.is_long.ensures ∙ w.if-is_long.true) c.loop-i.invariant w.lay_record.new.room w.lay_record.new.mem c.if-is_long.row w.lay_record.new.room.end w.len_of.result
          (c.args.serial + c.loop-i.count + 1) (take (length c.args.code.now - (c.loop-i.i + 1)) (drop (c.loop-i.i + 1) c.args.code.now)) w.len_of.ensures (rest-now c.args.code.now c.loop-i.i) refl
          room.0 (omega (arith, room.1, size, w.len_of.ensures)) w.lay_record.ensures.leaves w.row-is c.requires.enough w.lay_record.ensures.laid)
      | else-is_long w ↦
          recorded-as (suc c.loop-i.i) c.loop-i.count c.if-is_long.count c.args.code.now c.args.serial c.args.room.now c.loop-i.room c.if-is_long.room c.args.mem.now c.loop-i.mem c.if-is_long.mem
          c.args.row.now c.loop-i.row c.if-is_long.row w.room-is w.mem-is w.row-is w.count-is
          (recorded-past c.loop-i.i c.loop-i.count (Int (pos 0)) c.args.code.now c.args.serial c.args.room.now c.loop-i.room c.args.mem.now c.loop-i.mem c.args.row.now c.loop-i.row
          c.loop-i-test.true (sym c.is_long.ensures ∙ w.if-is_long.false) c.loop-i.invariant)
    ])

pub returns-clause-laid : goal.returns-clause-laid
returns-clause-laid c = λ k shared free len.
    all-recorded c.loop-i.i c.loop-i.count c.args.code.now c.args.serial c.args.room.now c.loop-i.room c.args.mem.now c.loop-i.mem c.args.row.now c.loop-i.row c.loop-i-test.false
    c.loop-i.invariant k
    shared free len

pub returns-clause-count : goal.returns-clause-count
returns-clause-count c =
    all-counted c.loop-i.i c.loop-i.count c.args.code.now c.args.serial c.args.room.now c.loop-i.room c.args.mem.now c.loop-i.mem c.args.row.now c.loop-i.row c.loop-i-test.false c.loop-i.invariant

pub returns-clause-back : goal.returns-clause-back
returns-clause-back c =
    all-back c.loop-i.i c.loop-i.count c.args.code.now c.args.serial c.args.room.now c.loop-i.room c.args.mem.now c.loop-i.mem c.args.row.now c.loop-i.row c.loop-i-test.false c.loop-i.invariant
