use Rattle.std.proofs.Common.{ℕ, sym, subst, refl}
use Rattle.plain_term.specs.Tree.{keys_of}
use Rattle.term_read.specs.Parts.{AnswersPart}
use Rattle.term_maps.specs.Spots.{Finds, IsWithin}
use Rattle.term_maps.specs.declared.sorted.Spot.{Spot}
use Rattle.plain_machine.specs.Parts.{value_in}
use Rattle.std.proofs.Common.{Some}
use Rattle.term_verbs.specs.Picked.{IsPart}
use Rattle.term_verbs.proofs.Mapping.{is-within}
use Rattle.term_verbs.proofs.Picking.{value-found, value-lacks, value-part}
use Rattle.term_verbs.proofs.parts.value_at.Goals as goal

pub returns-in-Same-clause-value : goal.returns-in-Same-clause-value
returns-in-Same-clause-value c = λ r shared t k s sk sorted.
    let P : ℕ → Type 0 = λ z. AnswersPart r shared c.args.mem.now (value_in c.args.names.now shared k t) (Some z) in
    subst P (sym c.get.ensures)
    (value-found r c.args.names.now shared c.args.mem.now c.args.w t k c.in-Map.rows (c.in-Map.ensures.tree.each r shared t s) c.in-Same.at _ refl
    (is-within _ (c.in_ok-at.ensures.beyond r shared k sk)) sorted
    (λ ps a order. let Q : Spot → Type 0 = λ z. Finds c.args.names.now shared (keys_of ps) k z in subst Q c.in-Same.is (c.in_ok-at.ensures.finds r shared ps k a order sk)))

pub returns-in-Same-clause-is_part : goal.returns-in-Same-clause-is_part
returns-in-Same-clause-is_part c = λ r shared t s.
    let P : ℕ → Type 0 = λ z. IsPart r shared c.args.mem.now t z in
    let W : Spot → Type 0 = λ z. IsWithin c.in-Map.rows.len z in
    subst P (sym c.get.ensures)
    (value-part r c.args.names.now shared c.args.mem.now c.args.w t t c.in-Map.rows (c.in-Map.ensures.tree.each r shared t s) c.in-Same.at _ refl (subst W c.in-Same.is c.in_ok-at.ensures.within))

pub returns-in-New-clause-value : goal.returns-in-New-clause-value
returns-in-New-clause-value c = λ r shared t k s sk sorted.
    value-lacks r c.args.names.now shared c.args.mem.now c.args.w t k c.in-Map.rows (c.in-Map.ensures.tree.each r shared t s) c.in-New.field-0
    (is-within _ (c.in_ok-at.ensures.beyond r shared k sk)) sorted
    (λ ps a order. let Q : Spot → Type 0 = λ z. Finds c.args.names.now shared (keys_of ps) k z in subst Q c.in-New.is (c.in_ok-at.ensures.finds r shared ps k a order sk))
