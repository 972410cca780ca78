use Rattle.std.proofs.Common.{inl, inr}
use Rattle.term_words.proofs.Totals.Members.{in-both, in-left, in-right, both-distinct, both-total, in-filter, filter-in, filter-distinct}
use Rattle.term_words.proofs.counted.lists_without_repetition.Goals as goal

pub returns-clause-joined : goal.returns-clause-joined
returns-clause-joined c = λ v xs ys. (in-both v xs ys, λ i. elim i [ inl a ↦ in-left v xs ys a | inr b ↦ in-right v xs ys b ])

pub returns-clause-once : goal.returns-clause-once
returns-clause-once c = both-distinct

pub returns-clause-words : goal.returns-clause-words
returns-clause-words c = both-total

pub returns-clause-chosen : goal.returns-clause-chosen
returns-clause-chosen c = λ f v vs. (in-filter f v vs, λ i. filter-in f v vs i.0 i.1)

pub returns-clause-left : goal.returns-clause-left
returns-clause-left c = filter-distinct
