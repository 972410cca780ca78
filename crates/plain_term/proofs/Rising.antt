-- Pairs whose keys rise: the first key is below the others', and pairs go on in front of it.
use Rattle.std.proofs.Common.{◌≡◌, ℕ, true, List, refl, ◌∙◌}
use Rattle.std.proofs.lemmas.Bool.{and_parts}
use Rattle.std.specs.Ordering.{is_lt}
use Rattle.std.specs.declared.cmp.Ordering.{Ordering}
use Rattle.std.specs.declared.cmp.Ordering.TheVariants.{Less, Equal, Greater}
use Rattle.plain_term.specs.Tree.{Tree, Pairs}
use Rattle.plain_term.specs.Tree.Pairs.{stop, pair}
use Rattle.plain_term.specs.Order.{order}
use Rattle.plain_term.specs.Proper.{keys_rise}
use Rattle.plain_term.proofs.TokenLemmas.{order-total}

pub is-less : (o : Ordering) → is_lt o ≡ true → o ≡ Less
is-less Less h = refl
is-less Equal h = absurd cc
is-less Greater h = absurd cc

module _ (names shared : List (List ℕ)) where
  -- The key is less than the first of the others.
  abbrev pub Below : Tree → Pairs → Type 0
  Below j stop = Unit {0}
  Below j (pair k v ps) = order names shared j k ≡ Less

  pub rise-parts : (k v : Tree) (ps : Pairs) → keys_rise names shared (pair k v ps) ≡ true → Below k ps × (keys_rise names shared ps ≡ true)
  rise-parts k v stop h = (tt, refl)
  rise-parts k v (pair j w ps) h = let p = and_parts (is_lt (order names shared k j)) (keys_rise names shared (pair j w ps)) h in (is-less (order names shared k j) p.0, p.1)

  pub rise-join : (k v : Tree) (ps : Pairs) → Below k ps → keys_rise names shared ps ≡ true → keys_rise names shared (pair k v ps) ≡ true
  rise-join k v stop b h = refl
  rise-join k v (pair j w ps) b h = rw (b, h) refl

  -- Equal keys are below the same.
  pub below-alike : (k j : Tree) (ps : Pairs) → order names shared k j ≡ Equal → Below j ps → Below k ps
  below-alike k j stop e b = tt
  below-alike k j (pair i w ps) e b = (order-total names shared).congr k j i e ∙ b
