use Rattle.std.proofs.Common.{ℕ, List, ◌+◌, ◌/◌, sym, subst, ◌∙◌, arith}
use Rattle.object_rows.proofs.Raised.{Raising, raising-begins, raising-count, raising-ends, raising-large, raising-link, raising-object, raising-record, raising-small}
use Rattle.object_rows.proofs.raising.raise_row.Goals.{then-is_link_word, else-is_link_word}
use Rattle.object_rows.proofs.raising.raise_row.Goals as goal

pub loop-at-init : goal.loop-at-init
loop-at-init c = λ x. raising-begins c.args.mem.now c.args.from c.args.to x.ws x.are

pub get-word-requires : goal.get-word-requires
get-word-requires c =
    let g = c.loop-at.invariant c.requires in
    omega (arith, c.loop-at-test.true, c.requires.inside, g.same_len)

pub loop-at-preserved-then-word-ne0 : goal.loop-at-preserved-then-word-ne0
loop-at-preserved-then-word-ne0 c = λ x.
    raising-small c.args.mem.now c.loop-at.mem c.args.from c.loop-at.at c.args.to x (c.loop-at.invariant x) c.loop-at-test.true c.get-word.result c.get-word.ensures c.if-word-ne0.true

pub record_of-record-requires : goal.record_of-record-requires
record_of-record-requires c =
    raising-object c.args.mem.now c.loop-at.mem c.args.from c.loop-at.at c.args.to c.requires (c.loop-at.invariant c.requires) c.loop-at-test.true c.get-word.result c.get-word.ensures
    c.if-word-ne0.false (sym c.is_link_word.ensures ∙ c.if-is_link_word.true)

pub add-requires-clause-places : goal.add-requires-clause-places
add-requires-clause-places c =
    raising-record c.args.mem.now c.loop-at.mem c.args.from c.loop-at.at c.args.to c.requires (c.loop-at.invariant c.requires) c.loop-at-test.true c.get-word.result c.get-word.ensures
    c.if-word-ne0.false (sym c.is_link_word.ensures ∙ c.if-is_link_word.true) c.record_of-record.result c.record_of-record.ensures

pub add-requires-clause-count : goal.add-requires-clause-count
add-requires-clause-count c =
    raising-count c.args.mem.now c.loop-at.mem c.args.from c.loop-at.at c.args.to c.requires (c.loop-at.invariant c.requires) c.loop-at-test.true c.get-word.result c.get-word.ensures
    c.if-word-ne0.false (sym c.is_link_word.ensures ∙ c.if-is_link_word.true) c.record_of-record.result c.record_of-record.ensures c.bounded.ensures

pub loop-at-preserved : goal.loop-at-preserved
loop-at-preserved c = λ x.
    elim c.if-is_link_word.branch [
      | then-is_link_word w ↦
          raising-link c.args.mem.now c.loop-at.mem c.args.from c.loop-at.at c.args.to x (c.loop-at.invariant x) c.loop-at-test.true c.get-word.result c.get-word.ensures
          c.if-word-ne0.false (sym c.is_link_word.ensures ∙ w.if-is_link_word.true) w.record_of-record.result w.record_of-record.ensures c.if-is_link_word.mem
          (w.mem-is ∙ w.add.ensures.writes)
      | else-is_link_word w ↦
          let P : List ℕ → Type 0 = λ m. Raising c.args.mem.now m c.args.from (c.loop-at.at + (1 + c.get-word.result / 64)) c.args.to x.ws in
          subst P (sym w.mem-is)
          (raising-large c.args.mem.now c.loop-at.mem c.args.from c.loop-at.at c.args.to x (c.loop-at.invariant x) c.loop-at-test.true c.get-word.result c.get-word.ensures
          c.if-word-ne0.false (sym c.is_link_word.ensures ∙ w.if-is_link_word.false))
    ]

pub returns : goal.returns
returns c = λ ws are. raising-ends c.args.mem.now c.loop-at.mem c.args.from c.loop-at.at c.args.to c.requires ws (c.loop-at.invariant c.requires) c.loop-at-test.false are
