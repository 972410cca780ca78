use Rattle.std.proofs.Common.{◌≡◌, true, ◌<◌, ◌+◌, ◌-◌, ◌*◌, ◌≤◌, length, sym, ◌∙◌, ap, subst, arith}
use Rattle.plain_term.specs.declared.item.Item.{Item}
use Rattle.plain_term.specs.Tree.{Trees}
use Rattle.plain_term.specs.Tree.{Tree as tree}
use Rattle.term_words.proofs.ByKind.Makes.{all-length}
use Rattle.term_tags.specs.declared.kinds.TheConstants.{PLACES}
use Rattle.term_build.specs.Taken.{IsFree}
use Rattle.item_build.specs.Reading.{IsItem, bytes_after, bytes_led, cons_of, is_long, long_bins, own_words, paired, parts_after, tree_with}
use Rattle.item_build.specs.Building.{CanPut, HasNoBigKey, HolderStands, MarkBuilt, UsesSome}
use Rattle.item_build.proofs.Turned.Marks.{first-two, paired-few, twos-stand}
use Rattle.item_build.proofs.Turned.Makes.{built-mark, can-map, fewer-free, int-kept, int-mark, keys-within}
use Rattle.item_build.proofs.Meaning.Whole.{led-within}
use Rattle.item_build.proofs.putting.word_of.Goals as goal

pub map_word-requires-clause-pairs : goal.map_word-requires-clause-pairs
map_word-requires-clause-pairs c =
    let P : Item → Type 0 = λ x. CanPut (length c.args.names.now) (length c.args.held.now) c.args.room.now c.args.mem.now c.args.parts.now x in
    can-map c.args.names.now (length c.args.held.now) c.in-Map.field-0 c.args.room.now c.args.mem.now c.args.parts.now (subst P c.in-Map.is c.requires.can)
    (c.requires.exact ∙ ap parts_after c.in-Map.is) c.requires.narrow

pub map_word-requires-clause-within : goal.map_word-requires-clause-within
map_word-requires-clause-within c =
    let P : Item → Type 0 = λ x. CanPut (length c.args.names.now) (length c.args.held.now) c.args.room.now c.args.mem.now c.args.parts.now x in
    let Q : Item → Type 0 = λ x. HasNoBigKey c.args.mem.now c.args.parts.now x in
    keys-within c.args.names.now (length c.args.held.now) c.in-Map.field-0 c.args.room.now c.args.mem.now c.args.parts.now (subst P c.in-Map.is c.requires.can)
    (c.requires.exact ∙ ap parts_after c.in-Map.is) (subst Q c.in-Map.is c.requires.keys)

pub returns-in-Int-clause-built : goal.returns-in-Int-clause-built
returns-in-Int-clause-built c = λ k shared trees ts free held holder all.
    let P : Item → Type 0 = λ x. MarkBuilt k c.args.room.now.top (c.integer.new.room.top - c.args.room.now.top) c.args.mem.now c.integer.new.mem shared c.integer.result
    (tree_with c.args.names.now shared trees x c.args.rest.now ts) in
    let F : Item → Type 0 = λ x. IsFree k c.args.room.now.top (c.args.room.now.top + own_words x) in
    let I : Item → Type 0 = λ x. IsItem (length c.args.names.now) (length c.args.held.now) x in
    subst P (sym c.in-Int.is)
    (int-mark k _ c.in-Int.i c.args.room.now c.integer.new.room c.args.mem.now c.integer.new.mem shared c.integer.result (int-kept c.in-Int.i (subst I c.in-Int.is c.requires.can.item))
    c.integer.ensures.uses (λ f. c.integer.ensures.built k shared f) (subst F c.in-Int.is free))

pub returns-in-Cons-clause-built : goal.returns-in-Cons-clause-built
returns-in-Cons-clause-built c = λ k shared trees ts free held holder all.
    let P : Item → Type 0 = λ x. MarkBuilt k c.args.room.now.top (c.cons.new.room.top - c.args.room.now.top) c.args.mem.now c.cons.new.mem shared c.cons.result
    (tree_with c.args.names.now shared trees x c.args.rest.now ts) in
    let F : Item → Type 0 = λ x. IsFree k c.args.room.now.top (c.args.room.now.top + own_words x) in
    let two = first-two k shared c.args.mem.now c.args.parts.now ts (c.requires.exact ∙ ap parts_after c.in-Cons.is) all in
    let Q : Trees → Type 0 = λ z. MarkBuilt k c.args.room.now.top (c.cons.new.room.top - c.args.room.now.top) c.args.mem.now c.cons.new.mem shared c.cons.result (cons_of z) in
    subst P (sym c.in-Cons.is) (subst Q (sym two.2.0)
    (built-mark k 2 c.args.room.now c.cons.new.room c.args.mem.now c.cons.new.mem shared c.cons.result (tree.Cons two.0 two.1) c.cons.ensures.uses
    (c.cons.ensures.built k shared two.0 two.1 (subst F c.in-Cons.is free) two.2.1.0 two.2.1.1)))

pub returns-in-Map-clause-built : goal.returns-in-Map-clause-built
returns-in-Map-clause-built c = λ k shared trees ts free held holder all.
    let P : Item → Type 0 = λ x. MarkBuilt k c.args.room.now.top (c.map_word.new.room.top - c.args.room.now.top) c.args.mem.now c.map_word.new.mem shared c.map_word.result
    (tree_with c.args.names.now shared trees x c.args.rest.now ts) in
    let F : Item → Type 0 = λ x. IsFree k c.args.room.now.top (c.args.room.now.top + own_words x) in
    let few = paired-few ts c.in-Map.field-0 (sym (all-length k shared c.args.mem.now c.args.parts.now ts all) ∙ c.requires.exact ∙ ap parts_after c.in-Map.is) in
    subst P (sym c.in-Map.is)
    (c.map_word.ensures.built k shared (paired ts) (fewer-free k c.args.room.now.top (4 + 2 * c.in-Map.field-0) _ (omega (arith, few)) (subst F c.in-Map.is free))
    (twos-stand k shared c.args.mem.now c.args.parts.now ts all))

pub bin_word-requires-clause-words : goal.bin_word-requires-clause-words
bin_word-requires-clause-words c =
    let P : Item → Type 0 = λ x. c.args.room.now.top + own_words x ≤ c.args.room.now.end in
    subst P c.in-Bin.is c.requires.can.words

pub bin_word-requires-clause-bytes : goal.bin_word-requires-clause-bytes
bin_word-requires-clause-bytes c =
    let P : Item → Type 0 = λ x. bytes_after x ≤ bytes_led c.args.rest.now in
    omega (arith, subst P c.in-Bin.is c.requires.bytes, led-within c.args.rest.now)

pub returns-in-Bin-clause-built : goal.returns-in-Bin-clause-built
returns-in-Bin-clause-built c = λ k shared trees ts free held holder all.
    let P : Item → Type 0 = λ x. MarkBuilt k c.args.room.now.top (c.bin_word.new.room.top - c.args.room.now.top) c.args.mem.now c.bin_word.new.mem shared c.bin_word.result
    (tree_with c.args.names.now shared trees x c.args.rest.now ts) in
    let F : Item → Type 0 = λ x. IsFree k c.args.room.now.top (c.args.room.now.top + own_words x) in
    let H : Item → Type 0 = λ x. HolderStands k shared c.args.mem.now c.args.bin x (long_bins c.args.rest.now) in
    subst P (sym c.in-Bin.is) (c.bin_word.ensures.built k shared (subst F c.in-Bin.is free) (subst H c.in-Bin.is holder))

pub returns-in-Bin-clause-uses : goal.returns-in-Bin-clause-uses
returns-in-Bin-clause-uses c =
    let P : Item → Type 0 = λ x. UsesSome (own_words x) c.args.room.now c.bin_word.new.room c.args.mem.now c.bin_word.new.mem in
    subst P (sym c.in-Bin.is) c.bin_word.ensures.uses

pub bin_word-requires-clause-holder : goal.bin_word-requires-clause-holder
bin_word-requires-clause-holder c =
    let P : Item → Type 0 = λ x. is_long x ≡ true → c.args.bin < PLACES in
    subst P c.in-Bin.is c.requires.holder
