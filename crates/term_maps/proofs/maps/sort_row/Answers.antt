use Rattle.std.proofs.Common.{ℕ, ◌+◌, ◌*◌, List, Bool, length, inl, inr, sym, ◌∙◌, refl, subst, ap, arith}
use Rattle.term_words.specs.Counted.{In}
use Rattle.term_maps.specs.Spots.{PutsSpot}
use Rattle.term_maps.specs.Given.{keys_in, word_pairs}
use Rattle.term_maps.proofs.Turns.{next-in-turn, pairs-many, turn-key}
use Rattle.term_maps.proofs.Left.{none-left}
use Rattle.term_maps.proofs.Sorting.{sorting-begins, sorting-goes, sorting-stops, sorting-ends, next-within}
use Rattle.term_maps.proofs.maps.sort_row.Goals as goal

pub loop-i-init : goal.loop-i-init
loop-i-init c = record {
  keys = λ w h. let P : List ℕ → Type 0 = λ ws. In w ws in absurd (subst P c.new-sorted.ensures.keys h);
  few = omega (arith, ap length c.new-sorted.ensures.keys);
  same_len = ap length c.new-sorted.ensures.values ∙ sym (ap length c.new-sorted.ensures.keys);
  sorting = λ k shared given stand. sorting-begins k _ shared c.args.mem.now given _ c.new-sorted.ensures.keys c.new-sorted.ensures.values;
}

pub put-requires-clause-can : goal.put-requires-clause-can
put-requires-clause-can c = λ w h.
    c.requires.named.each _ w (turn-key c.args.row.now c.loop-i.i (2 * c.loop-i.i) (2 * c.loop-i.i + 1) (omega (arith, c.loop-i-test.true)) refl refl) (c.loop-i.invariant.keys w h)

pub returns-then-not-put-clause-none : goal.returns-then-not-put-clause-none
returns-then-not-put-clause-none c = λ k shared given stand.
    let within = c.requires.within.each k shared given stand in
    let now = c.loop-i.invariant.sorting k shared given stand in
    let next = next-in-turn c.args.row.now c.loop-i.i (2 * c.loop-i.i) (2 * c.loop-i.i + 1) (omega (arith, c.loop-i-test.true)) refl refl k shared c.args.mem.now given stand in
    let small = next-within k shared c.args.mem.now given c.loop-i.i _ next within in
    let P : Bool → Type 0 = λ b. PutsSpot k c.args.names.now shared c.args.mem.now c.put.new.self now.now next.key next.value b in
    sorting-stops k _ shared c.args.mem.now given c.loop-i.i _ c.loop-i.sorted now next within
    (subst P c.if-not-put.true (c.put.ensures.puts k shared now.now next.key next.value now.stand next.key_stands next.value_stands now.within small))

pub loop-i-preserved : goal.loop-i-preserved
loop-i-preserved c = record {
  keys = λ w h. elim (c.put.ensures.keys w h) [
    | inl is ↦
        let P : ℕ → Type 0 = λ x. In x (keys_in (word_pairs c.args.row.now)) in
        subst P (sym is) (turn-key c.args.row.now c.loop-i.i (2 * c.loop-i.i) (2 * c.loop-i.i + 1) (omega (arith, c.loop-i-test.true)) refl refl)
    | inr old ↦ c.loop-i.invariant.keys w old
  ];
  few = c.put.ensures.few;
  same_len = c.put.ensures.same_len;
  sorting = λ k shared given stand.
      let within = c.requires.within.each k shared given stand in
      let now = c.loop-i.invariant.sorting k shared given stand in
      let next = next-in-turn c.args.row.now c.loop-i.i (2 * c.loop-i.i) (2 * c.loop-i.i + 1) (omega (arith, c.loop-i-test.true)) refl refl k shared c.args.mem.now given stand in
      let small = next-within k shared c.args.mem.now given c.loop-i.i _ next within in
      let P : Bool → Type 0 = λ b. PutsSpot k c.args.names.now shared c.args.mem.now c.put.new.self now.now next.key next.value b in
      sorting-goes k _ shared c.args.mem.now given c.loop-i.i _ c.loop-i.sorted c.put.new.self now next within
      (subst P c.if-not-put.false (c.put.ensures.puts k shared now.now next.key next.value now.stand next.key_stands next.value_stands now.within small));
}

pub returns-clause-sorted : goal.returns-clause-sorted
returns-clause-sorted c = λ k shared given stand.
    sorting-ends k _ shared c.args.mem.now given c.loop-i.i c.loop-i.sorted (c.loop-i.invariant.sorting k shared given stand)
    (none-left k shared c.args.mem.now (word_pairs c.args.row.now) given c.loop-i.i stand (omega (arith, pairs-many c.args.row.now, c.loop-i-test.false)))
    (c.requires.within.each k shared given stand) c.loop-i.invariant.few
