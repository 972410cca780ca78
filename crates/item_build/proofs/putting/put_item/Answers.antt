use Rattle.std.proofs.Common.{◌≡◌, ◌+◌, ◌-◌, Bool, false, ◌∷◌, if◌then◌else◌, length, take, drop, sym, ◌∙◌, subst, arith}
use Rattle.std.proofs.lemmas.List.{length-take}
use Rattle.term_words.specs.Role.{always}
use Rattle.item_build.specs.Reading.{all_of, is_byte, parts_after, tree_where}
use Rattle.item_build.specs.Building.{MarksBuilt}
use Rattle.item_build.proofs.Turned.Marks.{named-take}
use Rattle.item_build.proofs.Turned.Makes.{item-fits, leaf-marks, marks-put, object-is, parts-split}
use Rattle.item_build.proofs.putting.put_item.Goals as goal

pub is_big_item-requires : goal.is_big_item-requires
is_big_item-requires c = record {
  shared = c.requires.can.shared;
  marks = take (parts_after c.args.item) c.requires.can.marks;
  standing =
      (parts-split always c.requires.can.shared c.args.mem.now c.args.scratch.now c.args.sp (parts_after c.args.item) c.parts_of.result c.requires.can.marks c.parts_of.ensures c.requires.can.parts
      c.requires.can.standing).0;
}

pub returns-then-is_big_item-clause-puts : goal.returns-then-is_big_item-clause-puts
returns-then-is_big_item-clause-puts c = λ k shared trees ms free held holder all.
    let two = parts-split k shared c.args.mem.now c.args.scratch.now c.args.sp (parts_after c.args.item) c.parts_of.result ms c.parts_of.ensures c.requires.can.parts all in
    sym (c.is_big_item.ensures k shared (take (parts_after c.args.item) ms) two.0) ∙ c.if-is_big_item.true

pub mark_of-w-requires-clause-can : goal.mark_of-w-requires-clause-can
mark_of-w-requires-clause-can c = record {
  item = c.requires.can.item;
  parts = omega (arith, length-take (c.args.sp + c.parts_of.result - c.args.sp) (drop c.args.sp c.args.scratch.now), c.parts_of.ensures, c.requires.can.parts);
  few = c.requires.can.few;
  places = c.requires.can.places;
  words = c.requires.can.words;
  shared = c.requires.can.shared;
  marks = take (parts_after c.args.item) c.requires.can.marks;
  standing =
      (parts-split always c.requires.can.shared c.args.mem.now c.args.scratch.now c.args.sp (parts_after c.args.item) c.parts_of.result c.requires.can.marks c.parts_of.ensures c.requires.can.parts
      c.requires.can.standing).0;
  named = named-take (length c.args.names.now) (parts_after c.args.item) c.requires.can.marks c.requires.can.named;
}

pub returns-clause-puts : goal.returns-clause-puts
returns-clause-puts c = λ k shared trees ms free held holder all.
    let two = parts-split k shared c.args.mem.now c.args.scratch.now c.args.sp (parts_after c.args.item) c.parts_of.result ms c.parts_of.ensures c.requires.can.parts all in
    let term : false ≡ is_byte c.args.item = sym c.if-is_byte.false ∙ c.is_byte.ensures in
    let P : Bool → Type 0 = λ b. MarksBuilt k c.args.room.now.top (c.mark_of-w.new.room.top - c.args.room.now.top) c.args.mem.now c.mark_of-w.new.mem shared
    (drop c.put_word-2.result c.put_word-2.new.scratch)
    (if b then ms else tree_where c.args.names.now shared trees c.args.item c.args.rest.now (all_of (take (parts_after c.args.item) ms)) ∷ drop (parts_after c.args.item) ms) in (
      sym (c.is_big_item.ensures k shared (take (parts_after c.args.item) ms) two.0) ∙ c.if-is_big_item.false,
      subst P term (marks-put k c.args.room.now.top (c.mark_of-w.new.room.top - c.args.room.now.top) c.args.mem.now c.mark_of-w.new.mem shared c.mark_of-w.result
          (drop (c.args.sp + c.parts_of.result) c.args.scratch.now) (drop c.put_word-2.result c.put_word-2.new.scratch)
          (tree_where c.args.names.now shared trees c.args.item c.args.rest.now (all_of (take (parts_after c.args.item) ms))) (drop (parts_after c.args.item) ms) c.put_word-2.ensures.row
          (c.mark_of-w.ensures.built k shared trees (take (parts_after c.args.item) ms) free held holder two.0) two.1),
    )

pub leaf-requires : goal.leaf-requires
leaf-requires c = item-fits (length c.args.names.now) (length c.args.held.now) c.args.item c.requires.can.item

pub returns-in-Some-clause-puts : goal.returns-in-Some-clause-puts
returns-in-Some-clause-puts c = λ k shared trees ms free held holder all.
    leaf-marks k c.args.names.now shared trees c.args.item c.args.rest.now c.args.room.now c.args.mem.now c.args.held.now c.in-Some.w (drop c.args.sp c.args.scratch.now)
    (drop c.put_word.result c.put_word.new.scratch) ms c.in-Some.ensures.word held c.put_word.ensures.row all

pub mark_of-w-requires-clause-object : goal.mark_of-w-requires-clause-object
mark_of-w-requires-clause-object c = object-is c.args.item (sym c.is_byte.ensures ∙ c.if-is_byte.false) c.in_default.ensures.none
