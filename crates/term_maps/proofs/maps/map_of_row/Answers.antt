use Rattle.std.proofs.Common.{◌≡◌, ℕ, List, length, sym, ◌∙◌, ap, subst, arith}
use Rattle.plain_term.specs.Tree.{pairs_len, keys_of, values_of}
use Rattle.plain_term.specs.InOrder.{in_order}
use Rattle.term_words.specs.Role.{always}
use Rattle.term_words.specs.Stands.{AllStand}
use Rattle.term_maps.specs.Given.{word_pairs}
use Rattle.term_maps.proofs.Compares.{keys-many, values-many}
use Rattle.term_maps.proofs.Named.{keys-named}
use Rattle.term_maps.proofs.Sorting.{is-made}
use Rattle.term_maps.proofs.maps.map_of_row.Goals as goal

pub sort_row-requires-clause-named : goal.sort_row-requires-clause-named
sort_row-requires-clause-named c =
    keys-named c.args.mem.now c.args.names.now c.requires.pairs.shared (word_pairs c.args.row.now) c.requires.pairs.given c.requires.pairs.standing c.requires.pairs.named

pub map_in_order-requires-clause-pairs : goal.map_in_order-requires-clause-pairs
map_in_order-requires-clause-pairs c =
    let sorted = c.in_ok-sorted.ensures.sorted always c.requires.pairs.shared c.requires.pairs.given c.requires.pairs.standing in
    ap length c.as_slice-2.ensures.value ∙ values-many _ _ _ _ _ sorted.pairs.values ∙ sym (ap length c.as_slice.ensures.value ∙ keys-many _ _ _ _ _ sorted.pairs.keys)

pub map_in_order-requires-clause-words : goal.map_in_order-requires-clause-words
map_in_order-requires-clause-words c =
    let sorted = c.in_ok-sorted.ensures.sorted always c.requires.pairs.shared c.requires.pairs.given c.requires.pairs.standing in
    let many : length c.as_slice.result.now ≡ pairs_len (in_order c.args.names.now c.requires.pairs.shared c.requires.pairs.given) =
    ap length c.as_slice.ensures.value ∙ keys-many _ _ _ _ _ sorted.pairs.keys in
    omega (arith, many, c.requires.pairs.fits (omega (arith, many, c.as_slice.ensures.fits)))

pub returns-clause-made : goal.returns-clause-made
returns-clause-made c = λ k shared given stand.
    let sorted = c.in_ok-sorted.ensures.sorted k shared given stand in
    let P : List ℕ → Type 0 = λ ws. AllStand k shared c.args.mem.now ws (keys_of (in_order c.args.names.now shared given)) in
    let Q : List ℕ → Type 0 = λ ws. AllStand k shared c.args.mem.now ws (values_of (in_order c.args.names.now shared given)) in
    let keys = subst P (sym c.as_slice.ensures.value) sorted.pairs.keys in
    let values = subst Q (sym c.as_slice-2.ensures.value) sorted.pairs.values in
    is-made k _ shared given _ _ _ _ _ (length c.as_slice.result.now) (ap length c.as_slice.ensures.value ∙ keys-many _ _ _ _ _ sorted.pairs.keys) sorted.none
    c.map_in_order.ensures.uses c.map_in_order.ensures.place (λ d taken. c.map_in_order.ensures.made k d shared _ taken keys values)
    (λ roles d taken. c.map_in_order.ensures.kept roles k d taken) (λ free. c.map_in_order.ensures.built k shared _ free keys values)
