-- The orders of terms by kinds, and of lists at their ends.
use Rattle.std.proofs.Common.{rules, ◌≡◌, ℕ, List, [], map, ◌∙◌, sym, ap}
use Rattle.std.specs.Ordering.{nat_cmp, ordering_then}
use Rattle.plain_term.specs.View.{view}
use Rattle.plain_term.specs.Order.{order as order_of}
use Rattle.plain_term.specs.Order.{bytes_order, name_of}
use Rattle.plain_term.proofs.ApartLemmas.{by_kind, apart-Int, apart-Atom, apart-Ref, apart-Fun, apart-Pid, apart-Tuple, apart-Map, apart-Nil, apart-Cons, apart-others}
use Rattle.plain_term.proofs.ViewLemmas.{as-Map, as-Tuple, as-Fun}
use Rattle.plain_term.proofs.OrderLemmas.{numbers-differ, part-differs, part-same, parts-same, pair-numbers-differ, key-differs, key-same, value-next, pairs-same}
use Rattle.plain_term.proofs.comparison.+order.Goals as goal
use Rattle.plain_term.proofs.comparison.+order.Goals.{compare-in_default-via-in-Int+in_default, compare-in_default-via-in-Atom+in_default, compare-in_default-via-in-Ref+in_default, compare-in_default-via-in-Fun+in_default, compare-in_default-via-in-Pid+in_default, compare-in_default-via-in-Tuple+in_default, compare-in_default-via-in-Map+in_default, compare-in_default-via-in-Nil+in_default, compare-in_default-via-in-Cons+in_default, compare-in_default-via-in_default}

pub compare-returns-in-Fun-Fun : goal.compare-returns-in-Fun-Fun
compare-returns-in-Fun-Fun t c =
    let names : List (List ℕ) = map (λ v. v.items) c.args.names.now in
    let of = c.in-Fun-Fun in
    let known : c.then-in-Fun-Fun-3.result ≡ ordering_then (bytes_order (name_of names of.f) (name_of names of.g))
    (ordering_then (nat_cmp of.n of.m) (ordering_then (nat_cmp of.c of.d) c.compare_all.result)) = search rules in
    known
    ∙ (λ i. ordering_then (bytes_order (name_of names of.f) (name_of names of.g)) (ordering_then (nat_cmp of.n of.m) (ordering_then (nat_cmp of.c of.d) (c.compare_all.ensures i))))
    ∙ (λ i. order_of names [] (as-Fun c.args.a.now of.f of.n of.c of.env c.as_slice.result.now of.is-0 c.as_slice.ensures i)
    (as-Fun c.args.b.now of.g of.m of.d of.others c.as_slice-in-Fun-Fun.result.now of.is-1 c.as_slice-in-Fun-Fun.ensures i))

pub compare-returns-in-Tuple-Tuple : goal.compare-returns-in-Tuple-Tuple
compare-returns-in-Tuple-Tuple t c =
    let names : List (List ℕ) = map (λ v. v.items) c.args.names.now in
    let of = c.in-Tuple-Tuple in
    c.compare_all-in-Tuple-Tuple.ensures
    ∙ (λ i. order_of names [] (as-Tuple c.args.a.now of.xs c.as_slice-in-Tuple-Tuple.result.now of.is-0 c.as_slice-in-Tuple-Tuple.ensures i)
    (as-Tuple c.args.b.now of.ys c.as_slice-in-Tuple-Tuple-2.result.now of.is-1 c.as_slice-in-Tuple-Tuple-2.ensures i))

pub compare-returns-in-Map-Map : goal.compare-returns-in-Map-Map
compare-returns-in-Map-Map t c =
    let names : List (List ℕ) = map (λ v. v.items) c.args.names.now in
    let of = c.in-Map-Map in
    c.compare_pairs.ensures
    ∙ (λ i. order_of names [] (as-Map c.args.a.now of.ps c.as_slice-in-Map-Map.result.now of.is-0 c.as_slice-in-Map-Map.ensures i)
    (as-Map c.args.b.now of.qs c.as_slice-in-Map-Map-2.result.now of.is-1 c.as_slice-in-Map-Map-2.ensures i))

pub compare-returns-in_default : goal.compare-returns-in_default
compare-returns-in_default t c =
    let names : List (List ℕ) = map (λ v. v.items) c.args.names.now in
    let known : c.then-in_default.result ≡ by_kind (view c.args.a.now) (view c.args.b.now) = search rules in
    let apart : order_of names [] (view c.args.a.now) (view c.args.b.now) ≡ by_kind (view c.args.a.now) (view c.args.b.now) = elim c.in_default.branch [
      | compare-in_default-via-in-Int+in_default w ↦ apart-Int names c.args.a.now c.args.b.now _ w.in_default.is-0 w.in_default.not-Int-1
      | compare-in_default-via-in-Atom+in_default w ↦ apart-Atom names c.args.a.now c.args.b.now _ w.in_default.is-0 w.in_default.not-Atom-1
      | compare-in_default-via-in-Ref+in_default w ↦ apart-Ref names c.args.a.now c.args.b.now _ _ w.in_default.is-0 w.in_default.not-Ref-1
      | compare-in_default-via-in-Fun+in_default w ↦ apart-Fun names c.args.a.now c.args.b.now _ _ _ _ w.in_default.is-0 w.in_default.not-Fun-1
      | compare-in_default-via-in-Pid+in_default w ↦ apart-Pid names c.args.a.now c.args.b.now _ w.in_default.is-0 w.in_default.not-Pid-1
      | compare-in_default-via-in-Tuple+in_default w ↦ apart-Tuple names c.args.a.now c.args.b.now _ w.in_default.is-0 w.in_default.not-Tuple-1
      | compare-in_default-via-in-Map+in_default w ↦ apart-Map names c.args.a.now c.args.b.now _ w.in_default.is-0 w.in_default.not-Map-1
      | compare-in_default-via-in-Nil+in_default w ↦ apart-Nil names c.args.a.now c.args.b.now w.in_default.is-0 w.in_default.not-Nil-1
      | compare-in_default-via-in-Cons+in_default w ↦ apart-Cons names c.args.a.now c.args.b.now _ _ w.in_default.is-0 w.in_default.not-Cons-1
      | compare-in_default-via-in_default w ↦ apart-others names c.args.a.now c.args.b.now w.in_default.not-Int-0 w.in_default.not-Atom-0 w.in_default.not-Ref-0 w.in_default.not-Fun-0
          w.in_default.not-Pid-0 w.in_default.not-Tuple-0 w.in_default.not-Map-0 w.in_default.not-Nil-0 w.in_default.not-Cons-0
    ] in known ∙ sym apart

pub compare_all-returns-then-xs-ys : goal.compare_all-returns-then-xs-ys
compare_all-returns-then-xs-ys t c = numbers-differ _ c.args.xs.now c.args.ys.now c.cmp.result c.if-xs-ys.true (search rules)

pub compare_all-loop-i-preserved : goal.compare_all-loop-i-preserved
compare_all-loop-i-preserved t c =
    part-same _ c.args.xs.now c.args.ys.now c.loop-i.i c.index-xs-i.result c.index-ys-i.result c.if-xs-ys.false c.loop-i-test.true c.index-xs-i.is c.index-ys-i.is
    c.loop-i.invariant c.in-Equal.ensures

pub compare_all-returns-in_default : goal.compare_all-returns-in_default
compare_all-returns-in_default t c =
    part-differs _ c.args.xs.now c.args.ys.now c.loop-i.i c.index-xs-i.result c.index-ys-i.result c.compare.result c.if-xs-ys.false c.loop-i-test.true c.index-xs-i.is c.index-ys-i.is
    c.loop-i.invariant c.compare.ensures c.in_default.not-Equal

pub compare_all-returns : goal.compare_all-returns
compare_all-returns t c = parts-same _ c.args.xs.now c.args.ys.now c.loop-i.i c.if-xs-ys.false c.loop-i-test.false c.loop-i.invariant

pub compare_pairs-returns-then-ps-qs : goal.compare_pairs-returns-then-ps-qs
compare_pairs-returns-then-ps-qs t c = pair-numbers-differ _ c.args.ps.now c.args.qs.now c.cmp.result c.if-ps-qs.true (search rules)

pub compare_pairs-loop-i-preserved : goal.compare_pairs-loop-i-preserved
compare_pairs-loop-i-preserved t c = (
  key-same _ c.args.ps.now c.args.qs.now c.loop-i.i c.index-ps-i.result c.index-qs-i.result c.if-ps-qs.false c.loop-i-test.true c.loop-i.invariant.0 c.in-Equal.ensures,
  value-next _ c.args.ps.now c.args.qs.now c.loop-i.i c.index-ps-i-in-Equal.result c.index-qs-i-in-Equal.result c.loop-i.values c.then-values.result c.if-ps-qs.false c.loop-i-test.true
      c.loop-i.invariant.1 (c.then-values.ensures ∙ ap (λ a. ordering_then c.loop-i.values a) c.compare-in-Equal.ensures),
)

pub compare_pairs-returns-in_default : goal.compare_pairs-returns-in_default
compare_pairs-returns-in_default t c =
    key-differs _ c.args.ps.now c.args.qs.now c.loop-i.i c.index-ps-i.result c.index-qs-i.result c.compare.result c.if-ps-qs.false c.loop-i-test.true c.loop-i.invariant.0
    c.compare.ensures c.in_default.not-Equal

pub compare_pairs-returns : goal.compare_pairs-returns
compare_pairs-returns t c = pairs-same _ c.args.ps.now c.args.qs.now c.loop-i.i c.loop-i.values c.if-ps-qs.false c.loop-i-test.false c.loop-i.invariant.0 c.loop-i.invariant.1
