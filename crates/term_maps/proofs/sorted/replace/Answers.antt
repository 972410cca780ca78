use Rattle.std.proofs.Common.{ℕ, List, length, set, ap, ◌∙◌}
use Rattle.std.specs.List.{refill}
use Rattle.std.proofs.lemmas.List.{length-set}
use Rattle.term_maps.proofs.Members.{refill-whole}
use Rattle.term_maps.proofs.sorted.replace.Goals as goal

pub returns : goal.returns
returns c =
    let xs : List ℕ = c.args.words.now.items in
    ap (λ ws. refill (length xs) xs (set ws c.args.at c.args.word)) c.deref_mut.ensures.value
    ∙ refill-whole c.args.words.now.items (set c.args.words.now.items c.args.at c.args.word) (length-set c.args.words.now.items c.args.at c.args.word)
