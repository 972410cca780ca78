use Rattle.std.proofs.Common.{ℕ, List, Bool, length, inl, inr, sym, ◌∙◌, subst, ap, arith}
use Rattle.term_words.specs.Counted.{In}
use Rattle.term_maps.specs.Spots.{PutsSpot}
use Rattle.term_maps.specs.Given.{keys_in}
use Rattle.term_maps.proofs.Members.{key-in}
use Rattle.term_maps.proofs.Left.{next-pair, none-left}
use Rattle.term_maps.proofs.Sorting.{sorting-begins, sorting-goes, sorting-stops, sorting-ends, next-within}
use Rattle.term_maps.proofs.maps.sort.Goals as goal

pub loop-i-init : goal.loop-i-init
loop-i-init c = record {
  keys = λ w h. let P : List ℕ → Type 0 = λ ws. In w ws in absurd (subst P c.new-sorted.ensures.keys h);
  few = omega (arith, ap length c.new-sorted.ensures.keys);
  same_len = ap length c.new-sorted.ensures.values ∙ sym (ap length c.new-sorted.ensures.keys);
  sorting = λ k shared given stand within. sorting-begins k _ shared c.args.mem.now given _ c.new-sorted.ensures.keys c.new-sorted.ensures.values;
}

pub has_big_key-requires : goal.has_big_key-requires
has_big_key-requires c = record {
  each = λ w h.
      let both = c.requires.each w w h h in
      record { shared = both.shared; tree = both.first; standing = both.first_stands };
}

pub put-requires-clause-can : goal.put-requires-clause-can
put-requires-clause-can c = λ w h. c.requires.each _ w (key-in c.args.pairs.now c.loop-i.i _ (omega (arith, c.loop-i-test.true))) (c.loop-i.invariant.keys w h)

pub returns-then-not-put-clause-stop : goal.returns-then-not-put-clause-stop
returns-then-not-put-clause-stop c = λ k shared given stand.
    let within = sym (c.has_big_key.ensures k shared given stand) ∙ c.if-has_big_key.false in
    let now = c.loop-i.invariant.sorting k shared given stand within in
    let next = next-pair k shared c.args.mem.now c.args.pairs.now given c.loop-i.i (0, 0) stand (omega (arith, c.loop-i-test.true)) in
    let small = next-within k shared c.args.mem.now given c.loop-i.i _ next within in
    let P : Bool → Type 0 = λ b. PutsSpot k c.args.names.now shared c.args.mem.now c.put.new.self now.now next.key next.value b in
    sorting-stops k _ shared c.args.mem.now given c.loop-i.i _ c.loop-i.sorted now next within
    (subst P c.if-not-put.true (c.put.ensures.puts k shared now.now next.key next.value now.stand next.key_stands next.value_stands now.within small))

pub loop-i-preserved : goal.loop-i-preserved
loop-i-preserved c = record {
  keys = λ w h. elim (c.put.ensures.keys w h) [
    | inl is ↦ let P : ℕ → Type 0 = λ x. In x (keys_in c.args.pairs.now) in subst P (sym is) (key-in c.args.pairs.now c.loop-i.i _ (omega (arith, c.loop-i-test.true)))
    | inr old ↦ c.loop-i.invariant.keys w old
  ];
  few = c.put.ensures.few;
  same_len = c.put.ensures.same_len;
  sorting = λ k shared given stand within.
      let now = c.loop-i.invariant.sorting k shared given stand within in
      let next = next-pair k shared c.args.mem.now c.args.pairs.now given c.loop-i.i (0, 0) stand (omega (arith, c.loop-i-test.true)) in
      let small = next-within k shared c.args.mem.now given c.loop-i.i _ next within in
      let P : Bool → Type 0 = λ b. PutsSpot k c.args.names.now shared c.args.mem.now c.put.new.self now.now next.key next.value b in
      sorting-goes k _ shared c.args.mem.now given c.loop-i.i _ c.loop-i.sorted c.put.new.self now next within
      (subst P c.if-not-put.false (c.put.ensures.puts k shared now.now next.key next.value now.stand next.key_stands next.value_stands now.within small));
}

pub returns-clause-sorted : goal.returns-clause-sorted
returns-clause-sorted c = λ k shared given stand.
    let within = sym (c.has_big_key.ensures k shared given stand) ∙ c.if-has_big_key.false in
    sorting-ends k _ shared c.args.mem.now given c.loop-i.i c.loop-i.sorted (c.loop-i.invariant.sorting k shared given stand within)
    (none-left k shared c.args.mem.now c.args.pairs.now given c.loop-i.i stand (omega (arith, c.loop-i-test.false))) within c.loop-i.invariant.few
