use Rattle.std.proofs.Common.{◌≡◌, ℕ, ◌+◌, ◌-◌, ◌*◌, ◌≤◌, Bool, false, List, length, drop, take, get_or, Option, pos, refl, sym, ◌∙◌, ap, if◌then◌else◌, subst, arith}
use Rattle.std.proofs.lemmas.List.{length-drop}
use Rattle.plain_term.specs.declared.item.Item.{Item}
use Rattle.plain_term.specs.declared.item.Item.TheVariants.{Int}
use Rattle.plain_term.specs.Tree.{Tree}
use Rattle.item_build.specs.Reading.{bytes_after, bytes_led, has_big_item, long_bins, own_words, own_words_of, read, terms_in}
use Rattle.term_build.specs.Taken.{IsFree}
use Rattle.item_build.specs.Building.{BinsStand, HeldStand, MarksBuilt, PutsAll, UsesSome}
use Rattle.item_build.proofs.Turned.Makes.{uses-nothing}
use Rattle.item_build.proofs.Meaning.Whole.{own-at, own-rest, rest-at, terms-few, whole-at}
use Rattle.item_build.proofs.Turned.Steps.{all-read, begun, bin-after, bin-fits, can-put, free-at, held-at, holder-at, no-items, one-left, put-big, put-more, row-count, some-then, spares-some}
use Rattle.item_build.proofs.building.put_items.Goals as goal

pub loop-i-init : goal.loop-i-init
loop-i-init c = record {
  from = omega arith;
  within = omega arith;
  same_row = refl;
  count = no-items c.args.code.now (λ z. length c.args.scratch.now + terms_in z ≡ length c.args.scratch.now) (omega arith);
  bin = no-items c.args.code.now (λ z. c.args.bins + 6 * long_bins z ≡ c.args.bins) (omega arith);
  uses = uses-nothing (own_words_of (drop (length c.args.code.now) c.args.code.now)) c.args.room.now c.args.mem.now;
  built = λ k shared trees free held holders.
      no-items c.args.code.now
      (λ z. (has_big_item c.args.names.now shared trees z ≡ false)
      × MarksBuilt k c.args.room.now.top (c.args.room.now.top - c.args.room.now.top) c.args.mem.now c.args.mem.now shared (drop (length c.args.scratch.now) c.args.scratch.now)
      (read c.args.names.now shared trees z))
      (refl, begun k c.args.room.now c.args.mem.now shared c.args.scratch.now);
}

pub put_item-requires-clause-some : goal.put_item-requires-clause-some
put_item-requires-clause-some c =
    omega (
      arith,
      c.loop-i.invariant.count,
      c.loop-i.invariant.same_row,
      c.requires.enough,
      terms-few (drop c.loop-i.i c.args.code.now),
      length-drop c.loop-i.i c.args.code.now,
      c.loop-i-test.true,
      c.loop-i.invariant.from,
    )

pub put_item-requires-clause-can : goal.put_item-requires-clause-can
put_item-requires-clause-can c =
    can-put c.args.names.now c.args.held.now c.args.code.now c.loop-i.i (Int (pos 0)) c.loop-i-test.true c.loop-i.invariant.from c.args.room.now c.loop-i.room c.args.mem.now c.loop-i.mem
    c.loop-i.invariant.uses (drop c.loop-i.sp c.loop-i.scratch) c.requires.term.whole c.requires.few c.requires.places c.requires.words c.args.bins (long_bins c.args.code.now) c.requires.held
    (c.loop-i.invariant.built c.requires.held.test c.requires.held.shared c.requires.held.trees c.requires.held.free c.requires.held.standing c.requires.held.holders).1

pub returns-in_err-sp-clause-spares : goal.returns-in_err-sp-clause-spares
returns-in_err-sp-clause-spares c =
    let P : List ℕ → Type 0 = λ z. UsesSome (own_words_of (drop c.loop-i.i c.args.code.now)) c.args.room.now c.loop-i.room c.args.mem.now z in
    spares-some (own_words_of (drop c.loop-i.i c.args.code.now)) (own_words_of c.args.code.now) c.args.room.now c.loop-i.room c.args.mem.now c.put_item.new.mem
    (subst P (sym c.in_err-sp.ensures.stopped.1) c.loop-i.invariant.uses) (own-rest c.loop-i.i c.args.code.now)

pub returns-clause-reads : goal.returns-clause-reads
returns-clause-reads c = λ k shared trees free held holders.
    let b = c.loop-i.invariant.built k shared trees free held holders in
    let rest : c.loop-i.sp + terms_in c.args.code.now ≡ length c.loop-i.scratch =
    all-read c.loop-i.i c.args.code.now (λ z. c.loop-i.sp + terms_in z ≡ length c.loop-i.scratch) c.loop-i-test.false c.loop-i.invariant.count in
    let last : c.loop-i.sp + 1 ≡ length c.loop-i.scratch = omega (arith, rest, c.requires.term.one) in
    let P : List ℕ → Type 0 = λ z. MarksBuilt k c.args.room.now.top (c.loop-i.room.top - c.args.room.now.top) c.args.mem.now c.loop-i.mem shared z
    (read c.args.names.now shared trees c.args.code.now) in
    let all = all-read c.loop-i.i c.args.code.now
    (λ z. (has_big_item c.args.names.now shared trees z ≡ false)
    × MarksBuilt k c.args.room.now.top (c.loop-i.room.top - c.args.room.now.top) c.args.mem.now c.loop-i.mem shared (drop c.loop-i.sp c.loop-i.scratch) (read c.args.names.now shared trees z))
    c.loop-i-test.false b in
    (all.0, subst P (one-left c.loop-i.scratch c.loop-i.sp last) all.1)

pub returns-in_err-sp-clause-reads : goal.returns-in_err-sp-clause-reads
returns-in_err-sp-clause-reads c = λ k shared trees free held holders.
    let P : Option ℕ → Type 0 = λ z. PutsAll k shared c.args.room.now c.put_item.new.room c.args.mem.now c.put_item.new.mem z (has_big_item c.args.names.now shared trees c.args.code.now)
    (read c.args.names.now shared trees c.args.code.now) in
    let b = c.loop-i.invariant.built k shared trees free held holders in
    let big = c.in_err-sp.ensures.puts b.1.test shared trees (read c.args.names.now shared trees (drop c.loop-i.i c.args.code.now))
    (free-at c.args.names.now c.args.held.now c.args.code.now c.loop-i.i (Int (pos 0)) c.loop-i-test.true c.loop-i.invariant.from c.args.room.now c.loop-i.room c.args.mem.now c.loop-i.mem
    c.loop-i.invariant.uses k shared trees free held (drop c.loop-i.sp c.loop-i.scratch) b.1)
    (held-at c.args.names.now c.args.held.now c.args.code.now c.loop-i.i (Int (pos 0)) c.loop-i-test.true c.loop-i.invariant.from c.args.room.now c.loop-i.room c.args.mem.now c.loop-i.mem
    c.loop-i.invariant.uses k shared trees free held (drop c.loop-i.sp c.loop-i.scratch) b.1)
    (holder-at c.args.names.now c.args.held.now c.args.code.now c.loop-i.i (Int (pos 0)) c.loop-i-test.true c.loop-i.invariant.from c.args.room.now c.loop-i.room c.args.mem.now c.loop-i.mem
    c.loop-i.invariant.uses k shared trees free held (drop c.loop-i.sp c.loop-i.scratch) b.1 (take (length c.args.code.now - (c.loop-i.i - 1 + 1)) (drop (c.loop-i.i - 1 + 1) c.args.code.now))
    (rest-at c.args.code.now c.loop-i.i c.loop-i-test.true) c.args.bins c.loop-i.bin c.holder_words-bin.result holders c.holder_words-bin.ensures c.loop-i.invariant.bin) b.1.made in
    subst P (sym c.from_residual.ensures)
    (put-big c.args.names.now c.args.held.now c.args.code.now c.loop-i.i (Int (pos 0)) c.loop-i-test.true c.loop-i.invariant.from c.args.room.now c.loop-i.room c.args.mem.now c.loop-i.mem
    c.loop-i.invariant.uses k shared trees free held (drop c.loop-i.sp c.loop-i.scratch) b.1 big)

pub loop-i-preserved : goal.loop-i-preserved
loop-i-preserved c =
    let built : (k : ℕ → ℕ → Bool) (shared : List (List ℕ)) (trees : List Tree) → IsFree k c.args.room.now.top (c.args.room.now.top + own_words_of c.args.code.now)
    → HeldStand k shared c.args.mem.now c.args.held.now trees → BinsStand k shared c.args.mem.now c.args.bins (long_bins c.args.code.now)
    → (has_big_item c.args.names.now shared trees (drop (c.loop-i.i - 1) c.args.code.now) ≡ false)
    × MarksBuilt k c.args.room.now.top (c.put_item.new.room.top - c.args.room.now.top) c.args.mem.now c.put_item.new.mem shared (drop c.in_ok-sp.sp c.put_item.new.scratch)
    (read c.args.names.now shared trees (drop (c.loop-i.i - 1) c.args.code.now)) =
    (λ k shared trees free held holders.
    let b = c.loop-i.invariant.built k shared trees free held holders in
    let p = c.in_ok-sp.ensures.puts b.1.test shared trees (read c.args.names.now shared trees (drop c.loop-i.i c.args.code.now))
    (free-at c.args.names.now c.args.held.now c.args.code.now c.loop-i.i (Int (pos 0)) c.loop-i-test.true c.loop-i.invariant.from c.args.room.now c.loop-i.room c.args.mem.now c.loop-i.mem
    c.loop-i.invariant.uses k shared trees free held (drop c.loop-i.sp c.loop-i.scratch) b.1)
    (held-at c.args.names.now c.args.held.now c.args.code.now c.loop-i.i (Int (pos 0)) c.loop-i-test.true c.loop-i.invariant.from c.args.room.now c.loop-i.room c.args.mem.now c.loop-i.mem
    c.loop-i.invariant.uses k shared trees free held (drop c.loop-i.sp c.loop-i.scratch) b.1)
    (holder-at c.args.names.now c.args.held.now c.args.code.now c.loop-i.i (Int (pos 0)) c.loop-i-test.true c.loop-i.invariant.from c.args.room.now c.loop-i.room c.args.mem.now c.loop-i.mem
    c.loop-i.invariant.uses k shared trees free held (drop c.loop-i.sp c.loop-i.scratch) b.1 (take (length c.args.code.now - (c.loop-i.i - 1 + 1)) (drop (c.loop-i.i - 1 + 1) c.args.code.now))
    (rest-at c.args.code.now c.loop-i.i c.loop-i-test.true) c.args.bins c.loop-i.bin c.holder_words-bin.result holders c.holder_words-bin.ensures c.loop-i.invariant.bin) b.1.made in
    put-more c.args.names.now c.args.held.now c.args.code.now c.loop-i.i (Int (pos 0)) c.loop-i-test.true c.loop-i.invariant.from c.args.room.now c.loop-i.room c.args.mem.now c.loop-i.mem
    c.loop-i.invariant.uses k shared trees free held (drop c.loop-i.sp c.loop-i.scratch) b.1 (take (length c.args.code.now - (c.loop-i.i - 1 + 1)) (drop (c.loop-i.i - 1 + 1) c.args.code.now))
    (rest-at c.args.code.now c.loop-i.i c.loop-i-test.true) c.put_item.new.room c.put_item.new.mem (drop c.in_ok-sp.sp c.put_item.new.scratch) b.0 c.in_ok-sp.ensures.uses p.0 p.1) in
    let P : ℕ → Type 0 = λ z. UsesSome z c.args.room.now c.put_item.new.room c.args.mem.now c.put_item.new.mem in
    record {
      from = omega (arith, c.loop-i.invariant.from);
      within = omega (arith, c.in_ok-sp.ensures.place);
      same_row = c.in_ok-sp.ensures.row ∙ c.loop-i.invariant.same_row;
      count = row-count c.requires.held.test c.args.names.now c.requires.held.shared c.requires.held.trees c.args.room.now c.put_item.new.room c.args.mem.now c.put_item.new.mem
          c.put_item.new.scratch c.in_ok-sp.sp (drop (c.loop-i.i - 1) c.args.code.now) (omega (arith, c.in_ok-sp.ensures.place))
          (built c.requires.held.test c.requires.held.shared c.requires.held.trees c.requires.held.free c.requires.held.standing c.requires.held.holders).1;
      bin = bin-after c.args.code.now c.loop-i.i (Int (pos 0)) c.args.bins c.loop-i.bin c.holder_words-bin.result c.loop-i-test.true c.loop-i.invariant.from c.holder_words-bin.ensures
          c.loop-i.invariant.bin c.requires.held.holders.low;
      uses = subst P (sym (own-at c.args.code.now c.loop-i.i (Int (pos 0)) c.loop-i-test.true c.loop-i.invariant.from))
          (some-then (own_words_of (drop c.loop-i.i c.args.code.now)) (own_words (get_or c.args.code.now (c.loop-i.i - 1) (Int (pos 0)))) c.args.room.now c.loop-i.room c.put_item.new.room
          c.args.mem.now c.loop-i.mem c.put_item.new.mem c.loop-i.invariant.uses c.in_ok-sp.ensures.uses);
      built = built;
    }

pub overflow_sub-bin : goal.overflow_sub-bin
overflow_sub-bin c = bin-fits c.args.code.now c.loop-i.i (Int (pos 0)) c.args.bins c.loop-i.bin c.holder_words-bin.result c.loop-i-test.true c.loop-i.invariant.from c.holder_words-bin.ensures
    c.loop-i.invariant.bin c.requires.held.holders.low

pub put_item-requires-clause-bytes : goal.put_item-requires-clause-bytes
put_item-requires-clause-bytes c =
    let at = whole-at (length c.args.names.now) (length c.args.held.now) c.args.code.now c.loop-i.i (Int (pos 0)) c.loop-i-test.true c.loop-i.invariant.from c.requires.term.whole in
    let P : List Item → Type 0 = λ z. bytes_after (get_or c.args.code.now (c.loop-i.i - 1) (Int (pos 0))) ≤ bytes_led z in
    subst P (sym (rest-at c.args.code.now c.loop-i.i c.loop-i-test.true)) at.1.1

pub put_item-requires-clause-holder : goal.put_item-requires-clause-holder
put_item-requires-clause-holder c = λ long.
    let six : c.holder_words-bin.result ≡ 6 = c.holder_words-bin.ensures ∙ ap (λ b. if b then 6 else 0) long in
    let fits = bin-fits c.args.code.now c.loop-i.i (Int (pos 0)) c.args.bins c.loop-i.bin c.holder_words-bin.result c.loop-i-test.true c.loop-i.invariant.from c.holder_words-bin.ensures
    c.loop-i.invariant.bin c.requires.held.holders.low in
    omega (arith, six, fits, c.loop-i.invariant.bin, c.requires.below, c.requires.places.top_next, c.requires.places.inside, c.bounded.ensures)
