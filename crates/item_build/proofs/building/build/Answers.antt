use Rattle.std.proofs.Common.{ℕ, ◌+◌, ◌≤◌, List, ◌++◌, arith}
use Rattle.item_build.specs.Reading.{bins_of, has_big_item, own_words_of, read}
use Rattle.item_build.proofs.Laid.Chaining.{longs-few}
use Rattle.item_build.proofs.Turned.Ending.{big-makes, leaves-back, leaves-more, ok-makes, ready, wide-makes}
use Rattle.item_build.proofs.building.build.Goals as goal

pub lay_holders-requires-clause-few : goal.lay_holders-requires-clause-few
lay_holders-requires-clause-few c = omega (arith, c.requires.count, c.requires.enough, longs-few c.args.code.now)

pub lay_holders-requires-clause-serials : goal.lay_holders-requires-clause-serials
lay_holders-requires-clause-serials c = omega (arith, c.requires.count, c.requires.serials, longs-few c.args.code.now)

pub lay_holders-requires-clause-words : goal.lay_holders-requires-clause-words
lay_holders-requires-clause-words c = omega (arith, c.requires.words, c.requires.count)

pub lay_holders-requires-clause-records : goal.lay_holders-requires-clause-records
lay_holders-requires-clause-records c =
    let h = c.requires.finds.parts in
    record { test = h.test; shared = h.shared ++ bins_of c.args.code.now; free = h.free; waiting = c.requires.finds.waiting }

pub put_items-requires-clause-words : goal.put_items-requires-clause-words
put_items-requires-clause-words c = omega (arith, c.requires.words, c.requires.count, c.lay_holders.ensures.front, c.lay_holders.ensures.leaves.same_end)

pub put_items-requires-clause-held : goal.put_items-requires-clause-held
put_items-requires-clause-held c =
    let fits : c.lay_holders.new.room.top + own_words_of c.args.code.now ≤ c.lay_holders.new.room.end =
    omega (arith, c.requires.words, c.requires.count, c.lay_holders.ensures.front, c.lay_holders.ensures.leaves.same_end) in
    let h = c.requires.finds.parts in
    let r = ready h.test h.shared c.args.code.now c.args.room.now c.lay_holders.new.room c.args.mem.now c.lay_holders.new.mem c.args.scratch.now c.args.held.now h.trees c.args.making.now
    c.lay_holders.new.making c.args.n (own_words_of c.args.code.now) c.requires.count
    (c.lay_holders.ensures.laid h.test (h.shared ++ bins_of c.args.code.now) h.free c.requires.finds.waiting) c.lay_holders.ensures.leaves h.free c.lay_holders.ensures.front h.serials fits
    h.standing in
    record { test = r.test; shared = h.shared ++ bins_of c.args.code.now; trees = h.trees; free = r.free; standing = r.standing; holders = r.holders; named = h.named }

pub returns-then-w-ne-WIDE-clause-builds : goal.returns-then-w-ne-WIDE-clause-builds
returns-then-w-ne-WIDE-clause-builds c = λ k shared trees free len held waiting.
    let fits : c.lay_holders.new.room.top + own_words_of c.args.code.now ≤ c.lay_holders.new.room.end =
    omega (arith, c.requires.words, c.requires.count, c.lay_holders.ensures.front, c.lay_holders.ensures.leaves.same_end) in
    let r = ready k shared c.args.code.now c.args.room.now c.lay_holders.new.room c.args.mem.now c.lay_holders.new.mem c.args.scratch.now c.args.held.now trees c.args.making.now
    c.lay_holders.new.making c.args.n (own_words_of c.args.code.now) c.requires.count (c.lay_holders.ensures.laid k (shared ++ bins_of c.args.code.now) free waiting)
    c.lay_holders.ensures.leaves free c.lay_holders.ensures.front len fits held in
    let S : List (List ℕ) = shared ++ bins_of c.args.code.now in
    let b = c.in-Some.ensures.reads r.test S trees r.free r.standing r.holders in
    ok-makes k r.test S c.args.room.now c.lay_holders.new.room c.put_items.new.room c.args.mem.now c.lay_holders.new.mem c.put_items.new.mem c.args.scratch.now c.args.making.now
    c.lay_holders.new.making c.args.n (own_words_of c.args.code.now) c.in-Some.w r.laid c.lay_holders.ensures.leaves free fits (has_big_item c.args.names.now S trees c.args.code.now)
    (read c.args.names.now S trees c.args.code.now) b.0 (λ none. c.if-w-ne-WIDE.true none) c.in-Some.ensures.uses b.1

pub returns-else-w-ne-WIDE-clause-builds : goal.returns-else-w-ne-WIDE-clause-builds
returns-else-w-ne-WIDE-clause-builds c = λ k shared trees free len held waiting.
    let fits : c.lay_holders.new.room.top + own_words_of c.args.code.now ≤ c.lay_holders.new.room.end =
    omega (arith, c.requires.words, c.requires.count, c.lay_holders.ensures.front, c.lay_holders.ensures.leaves.same_end) in
    let r = ready k shared c.args.code.now c.args.room.now c.lay_holders.new.room c.args.mem.now c.lay_holders.new.mem c.args.scratch.now c.args.held.now trees c.args.making.now
    c.lay_holders.new.making c.args.n (own_words_of c.args.code.now) c.requires.count (c.lay_holders.ensures.laid k (shared ++ bins_of c.args.code.now) free waiting)
    c.lay_holders.ensures.leaves free c.lay_holders.ensures.front len fits held in
    let S : List (List ℕ) = shared ++ bins_of c.args.code.now in
    let b = c.in-Some.ensures.reads r.test S trees r.free r.standing r.holders in
    wide-makes k r.test S c.args.room.now c.lay_holders.new.room c.put_items.new.room c.args.room.now c.args.mem.now c.lay_holders.new.mem c.put_items.new.mem c.args.scratch.now c.args.making.now
    c.args.making.now c.args.n c.in-Some.w (has_big_item c.args.names.now S trees c.args.code.now) (read c.args.names.now S trees c.args.code.now) b.0 c.if-w-ne-WIDE.false b.1

pub returns-in-None-clause-builds : goal.returns-in-None-clause-builds
returns-in-None-clause-builds c = λ k shared trees free len held waiting.
    let fits : c.lay_holders.new.room.top + own_words_of c.args.code.now ≤ c.lay_holders.new.room.end =
    omega (arith, c.requires.words, c.requires.count, c.lay_holders.ensures.front, c.lay_holders.ensures.leaves.same_end) in
    let r = ready k shared c.args.code.now c.args.room.now c.lay_holders.new.room c.args.mem.now c.lay_holders.new.mem c.args.scratch.now c.args.held.now trees c.args.making.now
    c.lay_holders.new.making c.args.n (own_words_of c.args.code.now) c.requires.count (c.lay_holders.ensures.laid k (shared ++ bins_of c.args.code.now) free waiting)
    c.lay_holders.ensures.leaves free c.lay_holders.ensures.front len fits held in
    let S : List (List ℕ) = shared ++ bins_of c.args.code.now in
    big-makes k S c.args.room.now c.args.room.now c.args.mem.now c.put_items.new.mem c.args.scratch.now c.args.making.now c.args.making.now c.args.n
    (has_big_item c.args.names.now S trees c.args.code.now) (read c.args.names.now S trees c.args.code.now) (c.in-None.ensures.reads r.test S trees r.free r.standing r.holders)

pub returns-then-w-ne-WIDE-clause-leaves : goal.returns-then-w-ne-WIDE-clause-leaves
returns-then-w-ne-WIDE-clause-leaves c =
    let fits : c.lay_holders.new.room.top + own_words_of c.args.code.now ≤ c.lay_holders.new.room.end =
    omega (arith, c.requires.words, c.requires.count, c.lay_holders.ensures.front, c.lay_holders.ensures.leaves.same_end) in
    leaves-more c.args.room.now c.lay_holders.new.room c.put_items.new.room c.args.mem.now c.lay_holders.new.mem c.put_items.new.mem c.args.scratch.now c.args.n (own_words_of c.args.code.now)
    c.lay_holders.ensures.leaves c.in-Some.ensures.uses fits

pub returns-else-w-ne-WIDE-clause-leaves : goal.returns-else-w-ne-WIDE-clause-leaves
returns-else-w-ne-WIDE-clause-leaves c =
    let fits : c.lay_holders.new.room.top + own_words_of c.args.code.now ≤ c.lay_holders.new.room.end =
    omega (arith, c.requires.words, c.requires.count, c.lay_holders.ensures.front, c.lay_holders.ensures.leaves.same_end) in
    leaves-back c.args.room.now c.lay_holders.new.room c.args.mem.now c.lay_holders.new.mem c.put_items.new.mem c.args.scratch.now c.args.n (own_words_of c.args.code.now) c.requires.places
    c.lay_holders.ensures.leaves
    c.in-Some.ensures.spares fits

pub returns-in-None-clause-leaves : goal.returns-in-None-clause-leaves
returns-in-None-clause-leaves c =
    let fits : c.lay_holders.new.room.top + own_words_of c.args.code.now ≤ c.lay_holders.new.room.end =
    omega (arith, c.requires.words, c.requires.count, c.lay_holders.ensures.front, c.lay_holders.ensures.leaves.same_end) in
    leaves-back c.args.room.now c.lay_holders.new.room c.args.mem.now c.lay_holders.new.mem c.put_items.new.mem c.args.scratch.now c.args.n (own_words_of c.args.code.now) c.requires.places
    c.lay_holders.ensures.leaves
    c.in-None.ensures.spares fits

pub returns-then-w-ne-WIDE-clause-few : goal.returns-then-w-ne-WIDE-clause-few
returns-then-w-ne-WIDE-clause-few c =
    omega (arith, c.requires.count, c.lay_holders.ensures.front, c.in-Some.ensures.uses.few, c.in-Some.ensures.uses.uses.moved)
