use Rattle.std.proofs.Common.{rules, ◌≡◌, refl}
use Rattle.std.specs.Ordering.{int_cmp, nat_cmp}
use Rattle.plain_term.specs.Order.{bytes_order}
use Rattle.trial_space.specs.Items.{item_rank, item_value, item_number, item_name}
use Rattle.trial_space.proofs.Alone.{order-built}
use Rattle.trial_space.proofs.comparing.item_order.Goals as goal

pub returns : goal.returns
returns c =
    let a = c.args.a in
    let b = c.args.b in
    let kinds : c.cmp-kinds.result ≡ nat_cmp (item_rank a) (item_rank b) = rw (c.cmp-kinds.ensures, c.rank.ensures, c.rank-2.ensures) refl in
    let values : c.cmp-values.result ≡ int_cmp (item_value a) (item_value b) = search rules in
    let numbers : c.cmp-numbers.result ≡ nat_cmp (item_number a) (item_number b) = rw (c.cmp-numbers.ensures, c.number.ensures, c.number-2.ensures) refl in
    let named : c.cmp-named.result ≡ bytes_order (item_name c.args.names.now a) (item_name c.args.names.now b) = rw (c.cmp-named.ensures, c.name.ensures, c.name-2.ensures) refl in
    order-built c.args.names.now a b _ _ _ _ _ _ _ kinds values numbers named c.then.ensures c.then-2.ensures c.then-3.ensures
