use Rattle.std.proofs.Common.{ℕ, ◌++◌, List, ap, ◌∙◌, append_assoc, subst, to_z, of_z, arith}
use Rattle.std.specs.Int.{w64}
use Rattle.std.specs.Fmt.{signed_decimal}
use Rattle.term_tags.specs.Kinds.{ReadsAs}
use Rattle.term_tags.specs.declared.kinds.Kind.{Kind}
use Rattle.term_read.proofs.Seen.{sees-small-word}
use Rattle.term_walk.specs.Left.{row_after}
use Rattle.term_print.specs.declared.levels.Level.TheVariants as level
use Rattle.term_print.specs.declared.levels.Mark.TheVariants.{Comma}
use Rattle.term_print.specs.Left.{mark_text}
use Rattle.term_print.proofs.Running.{gathers-can, gathers-more, part-gathered, parts-within}
use Rattle.term_print.proofs.runs.gather_parts.Goals as goal

pub get-requires : goal.get-requires
get-requires c =
    let within = parts-within c.args.mem.now c.loop-left.left c.loop-left.before c.args.last
    (gathers-can c.args.mem.now (level.Parts c.args.row c.args.mark c.args.last) (level.Parts c.loop-left.left c.loop-left.before c.args.last) c.loop-left.text.items c.requires.parts
    c.loop-left.invariant.gathers) in
    omega (arith, within, c.loop-left-test.true)

pub loop-left-preserved : goal.loop-left-preserved
loop-left-preserved c =
    let P : Kind → Type 0 = λ k. ReadsAs c.get.result k in
    let i = to_z w64 (of_z w64 c.in-Small.i) in
    let small = sees-small-word c.args.mem.now c.get.result c.in-Small.i (subst P c.in-Small.is c.kind_of.ensures.exact) in
    let came : List ℕ = c.loop-left.text.items in
    let mark : List ℕ = mark_text c.loop-left.before in
    let digits : List ℕ = c.as_bytes.result.now in
    record {
      gathers = λ r shared names ts row.
          let before = c.loop-left.invariant.gathers r shared names ts row in
          gathers-more r shared c.args.mem.now names (level.Parts c.args.row c.args.mark c.args.last) (level.Parts c.loop-left.left c.loop-left.before c.args.last)
          (level.Parts (row_after c.loop-left.left) Comma c.args.last) came (mark ++ signed_decimal i) c.try_extend_from_slice-in-loop-left.new.self.items ts
          (c.in-Ok-try_extend_from_slice.ensures.ok ∙ ap (λ z. z ++ digits) (c.in-Ok.ensures.ok ∙ ap (λ z. came ++ z) c.mark_bytes.ensures)
          ∙ ap (λ z. (came ++ mark) ++ z) (c.as_bytes.ensures.value ∙ c.format-digits.ensures.text) ∙ append_assoc came mark (signed_decimal i))
          before
          (part-gathered r shared c.args.mem.now names c.loop-left.left c.loop-left.before c.args.last c.get.result i before.rest c.get.ensures small
          (omega (arith, c.loop-left-test.true)) before.left);
    }
