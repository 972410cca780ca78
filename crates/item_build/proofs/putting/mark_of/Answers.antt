use Rattle.std.proofs.Common.{◌≡◌, ◌-◌, Option, refl, sym, ◌∙◌, ap, subst}
use Rattle.plain_term.specs.Tree.{Tree}
use Rattle.item_build.specs.Reading.{tree_where}
use Rattle.item_build.specs.Building.{MarkBuilt, holds_wide}
use Rattle.item_build.proofs.Turned.Marks.{narrow-all}
use Rattle.item_build.proofs.Turned.Makes.{whole-wide, wide-mark}
use Rattle.item_build.proofs.putting.mark_of.Goals as goal

pub returns-then-contains-clause-built : goal.returns-then-contains-clause-built
returns-then-contains-clause-built c = λ k shared trees ms free held holder all.
    let wide : c.contains.result ≡ holds_wide c.args.parts.now = c.contains.ensures.value in
    wide-mark k c.args.room.now c.args.mem.now shared 0 _ refl
    (whole-wide k c.args.names.now shared trees c.args.mem.now c.args.parts.now ms c.args.item c.args.rest.now all (sym wide ∙ c.if-contains.true))

pub returns-clause-built : goal.returns-clause-built
returns-clause-built c = λ k shared trees ms free held holder all.
    let wide : c.contains.result ≡ holds_wide c.args.parts.now = c.contains.ensures.value in
    let there = narrow-all k shared c.args.mem.now c.args.parts.now ms all (sym wide ∙ c.if-contains.false) in
    let P : Option Tree → Type 0 = λ z. MarkBuilt k c.args.room.now.top (c.word_of.new.room.top - c.args.room.now.top) c.args.mem.now c.word_of.new.mem shared c.word_of.result z in
    subst P (ap (tree_where c.args.names.now shared trees c.args.item c.args.rest.now) (sym there.1.0)) (c.word_of.ensures.built k shared trees there.0 free held holder there.1.1)
