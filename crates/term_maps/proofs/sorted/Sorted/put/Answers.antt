use Rattle.std.proofs.Common.{ℕ, List, sym, subst, arith}
use Rattle.plain_term.specs.Tree.{keys_of, values_of}
use Rattle.plain_term.specs.InOrder.{put_pair}
use Rattle.term_words.specs.Counted.{In}
use Rattle.term_words.specs.Stands.{AllStand}
use Rattle.term_words.proofs.ByKind.Pairs.{keys-len}
use Rattle.term_maps.proofs.Members.{in-set, in-insert}
use Rattle.term_maps.proofs.Putting.{new-stands, same-stands, new-count, full-len}
use Rattle.term_maps.proofs.Compares.{keys-many}
use Rattle.term_maps.proofs.sorted.Sorted.put.Goals as goal

pub returns-then-is_full-clause-puts : goal.returns-then-is_full-clause-puts
returns-then-is_full-clause-puts c = λ k shared ps t v stand sk sv within small.
    let P : List ℕ → Type 0 = λ ws. AllStand k shared c.args.mem.now ws (keys_of ps) in
    let found = c.in-New.ensures.finds k shared ps t (subst P (sym c.as_slice.ensures.value) stand.keys) sk within small in
    omega (
      arith,
      new-count _ shared t v ps c.in-New.at (omega (arith, found.0, keys-len ps)) found.1.0 (λ below. found.1.1 (omega (arith, below, keys-len ps))),
      keys-many k shared c.args.mem.now c.args.self.now.keys.items ps stand.keys,
      full-len _ _ c.is_full.result c.is_full.ensures.value c.if-is_full.true,
    )

pub returns-in-Same-clause-keys : goal.returns-in-Same-clause-keys
returns-in-Same-clause-keys c = λ w h.
    let P : List ℕ → Type 0 = λ ws. In w ws in
    in-set c.args.self.now.keys.items c.in-Same.at c.args.key w (subst P c.replace.ensures h)

pub returns-in-Same-clause-puts : goal.returns-in-Same-clause-puts
returns-in-Same-clause-puts c = λ k shared ps t v stand sk sv within small.
    let P : List ℕ → Type 0 = λ ws. AllStand k shared c.args.mem.now ws (keys_of ps) in
    let found = c.in-Same.ensures.finds k shared ps t (subst P (sym c.as_slice.ensures.value) stand.keys) sk within small in
    let both = same-stands k c.args.names.now shared c.args.mem.now c.args.key c.args.value t v sk sv c.args.self.now.keys.items c.args.self.now.values.items ps c.in-Same.at
    stand.keys stand.values (omega (arith, found.0, keys-len ps)) found.1.0 found.1.1 in
    let Q : List ℕ → Type 0 = λ ws. AllStand k shared c.args.mem.now ws (keys_of (put_pair c.args.names.now shared t v ps)) in
    let R : List ℕ → Type 0 = λ ws. AllStand k shared c.args.mem.now ws (values_of (put_pair c.args.names.now shared t v ps)) in
    record { keys = subst Q (sym c.replace.ensures) both.0; values = subst R (sym c.replace-in-Same.ensures) both.1 }

pub returns-else-is_full-clause-keys : goal.returns-else-is_full-clause-keys
returns-else-is_full-clause-keys c = λ w h.
    let P : List ℕ → Type 0 = λ ws. In w ws in
    in-insert c.args.self.now.keys.items c.in-New.at c.args.key w (subst P c.insert.ensures.items h)

pub returns-else-is_full-clause-puts : goal.returns-else-is_full-clause-puts
returns-else-is_full-clause-puts c = λ k shared ps t v stand sk sv within small.
    let P : List ℕ → Type 0 = λ ws. AllStand k shared c.args.mem.now ws (keys_of ps) in
    let found = c.in-New.ensures.finds k shared ps t (subst P (sym c.as_slice.ensures.value) stand.keys) sk within small in
    let both = new-stands k c.args.names.now shared c.args.mem.now c.args.key c.args.value t v sk sv c.args.self.now.keys.items c.args.self.now.values.items ps c.in-New.at
    stand.keys stand.values (omega (arith, found.0, keys-len ps)) found.1.0 (λ below. found.1.1 (omega (arith, below, keys-len ps))) in
    let Q : List ℕ → Type 0 = λ ws. AllStand k shared c.args.mem.now ws (keys_of (put_pair c.args.names.now shared t v ps)) in
    let R : List ℕ → Type 0 = λ ws. AllStand k shared c.args.mem.now ws (values_of (put_pair c.args.names.now shared t v ps)) in
    record { keys = subst Q (sym c.insert.ensures.items) both.0; values = subst R (sym c.insert-in-New.ensures.items) both.1 }
