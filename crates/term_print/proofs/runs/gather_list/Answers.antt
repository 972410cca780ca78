use Rattle.std.proofs.Common.{◌+◌, ◌++◌, codes, ap, ◌∙◌, append_assoc, subst, to_z, of_z, arith}
use Rattle.std.specs.Int.{w64}
use Rattle.std.specs.Fmt.{signed_decimal}
use Rattle.term_tags.specs.Kinds.{ReadsAs}
use Rattle.term_tags.specs.declared.kinds.Kind.{Kind}
use Rattle.term_read.proofs.Pointers.{list-kind}
use Rattle.term_read.proofs.Seen.{sees-small-word, sees-cons}
use Rattle.term_print.specs.declared.levels.Level.TheVariants as level
use Rattle.term_print.proofs.Running.{cell-gathered, gather-within, gathers-can, gathers-more, last-gathered}
use Rattle.term_print.proofs.runs.gather_list.Goals as goal

pub get-requires : goal.get-requires
get-requires c =
    let within = gather-within c.args.mem.now c.loop-buffer.at (gathers-can c.args.mem.now (level.List c.args.place) (level.List c.loop-buffer.at) c.loop-buffer.text.items c.requires.list
    c.loop-buffer.invariant.gathers) in
    omega (arith, within)

pub get-requires-in-loop-buffer : goal.get-requires-in-loop-buffer
get-requires-in-loop-buffer c =
    let within = gather-within c.args.mem.now c.loop-buffer.at (gathers-can c.args.mem.now (level.List c.args.place) (level.List c.loop-buffer.at) c.loop-buffer.text.items c.requires.list
    c.loop-buffer.invariant.gathers) in
    omega (arith, within)

pub loop-buffer-preserved : goal.loop-buffer-preserved
loop-buffer-preserved c =
    let P : Kind → Type 0 = λ k. ReadsAs c.get.result k in
    let i = to_z w64 (of_z w64 c.in-Small.i) in
    let small = sees-small-word c.args.mem.now c.get.result c.in-Small.i (subst P c.in-Small.is c.kind_of.ensures.exact) in
    let (tag, place) = list-kind c.get-in-loop-buffer.result c.in-ListAt.next c.kind_of-in-loop-buffer.result c.kind_of-in-loop-buffer.ensures.exact c.in-ListAt.is in
    let cons = sees-cons c.args.mem.now c.get-in-loop-buffer.result c.in-ListAt.next tag place in
    record {
      gathers = λ r shared names ts two.
          let before = c.loop-buffer.invariant.gathers r shared names ts two in
          gathers-more r shared c.args.mem.now names (level.List c.args.place) (level.List c.loop-buffer.at) (level.List c.in-ListAt.next) c.loop-buffer.text.items
          (signed_decimal i ++ codes ",") c.push.new.self.items ts
          (c.push.ensures.items ∙ ap (λ z. z ++ codes ",") (c.in-Ok.ensures.ok ∙ ap (λ z. c.loop-buffer.text.items ++ z) (c.as_bytes.ensures.value ∙ c.format-digits.ensures.text))
          ∙ append_assoc c.loop-buffer.text.items (signed_decimal i) (codes ","))
          before
          (cell-gathered r shared c.args.mem.now names c.loop-buffer.at c.in-ListAt.next c.get.result c.get-in-loop-buffer.result i before.rest c.get.ensures c.get-in-loop-buffer.ensures small
          cons before.left);
      few = omega (arith, c.push.ensures.len, c.in-Ok.ensures.len, c.loop-buffer-test.true, c.as_bytes.ensures.len, c.format-digits.ensures.short);
    }

pub returns-in_default-kind_of : goal.returns-in_default-kind_of
returns-in_default-kind_of c = λ r shared names ts two.
    let P : Kind → Type 0 = λ k. ReadsAs c.get.result k in
    let i = to_z w64 (of_z w64 c.in-Small.i) in
    let small = sees-small-word c.args.mem.now c.get.result c.in-Small.i (subst P c.in-Small.is c.kind_of.ensures.exact) in
    let before = c.loop-buffer.invariant.gathers r shared names ts two in
    gathers-more r shared c.args.mem.now names (level.List c.args.place) (level.List c.loop-buffer.at) (level.Tail (c.loop-buffer.at + 1)) c.loop-buffer.text.items
    (signed_decimal i) c.try_extend_from_slice.new.self.items ts
    (c.in-Ok.ensures.ok ∙ ap (λ z. c.loop-buffer.text.items ++ z) (c.as_bytes.ensures.value ∙ c.format-digits.ensures.text))
    before
    (last-gathered r shared c.args.mem.now names c.loop-buffer.at c.get.result i before.rest c.get.ensures small before.left)
