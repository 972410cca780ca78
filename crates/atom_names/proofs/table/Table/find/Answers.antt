use Rattle.std.proofs.Common.{◌≡◌, ℕ, ◌+◌, ◌-◌, ◌<◌, [], length, map, get_or, arith, below_more, subst, sym, ◌∙◌, true}
use Rattle.std.proofs.lemmas.List.{get_or-map}
use Rattle.std.proofs.lemmas.Bool.{false≢true}
use Rattle.std.proofs.lemmas.Slice.Eq.{bytes_eq-Decides}
use Rattle.std.specs.Str.{bytes_eq}
use Rattle.atom_names.specs.Rows.{row_name}
use Rattle.atom_names.specs.Slots.{after}
use Rattle.atom_names.proofs.Probing.{free-at, new-at, some-free, read-is, read-known}
use Rattle.atom_names.proofs.table.Table.find.Goals as goal

pub returns-then-number-eq0 : goal.returns-then-number-eq0
returns-then-number-eq0 c =
    let start = c.spread-start.ensures.value in
    let at = read-is c.args.self.now.slots.items (after c.spread-start.result c.loop-j.j) c.index.result.now
    (omega (arith, c.requires.finds.slots_room)) c.index.ensures ∙ c.if-number-eq0.true in record {
      inside = tt;
      there = tt;
      free = rw start (free-at c.args.self.now.slots.items c.args.name.now c.loop-j.j c.loop-j-test.true (rw (← start) at)
          (rw (← start) c.loop-j.invariant.full));
      new = new-at (map row_name c.args.rows.now) c.args.name.now (length c.args.rows.now) c.args.self.now.slots.items
          c.args.self.now.places.items c.loop-j.j c.requires.finds c.loop-j-test.true (rw (← start) at) (rw (← start) c.loop-j.invariant.others);
    }

pub bounds-rows-number : goal.bounds-rows-number
bounds-rows-number c =
    read-known (map row_name c.args.rows.now) (length c.args.rows.now) c.args.self.now.slots.items c.args.self.now.places.items
    (after c.spread-start.result c.loop-j.j) c.index.result.now c.requires.finds (omega arith) c.index.ensures c.if-number-eq0.false

pub returns-then-eq : goal.returns-then-eq
returns-then-eq c =
    let inside = read-known (map row_name c.args.rows.now) (length c.args.rows.now) c.args.self.now.slots.items c.args.self.now.places.items
    (after c.spread-start.result c.loop-j.j) c.index.result.now c.requires.finds (omega arith) c.index.ensures c.if-number-eq0.false in record {
      inside = inside;
      there = get_or-map row_name c.args.rows.now (c.index.result.now - 1) _ [] inside
          ∙ (sym c.name_in.ensures ∙ (bytes_eq-Decides c.name_in.result.now c.args.name.now).0 (sym c.eq.ensures ∙ c.if-eq.true));
      free = tt;
      new = tt;
    }

pub loop-j-preserved : goal.loop-j-preserved
loop-j-preserved c =
    let at = read-is c.args.self.now.slots.items (after c.spread-start.result c.loop-j.j) c.index.result.now
    (omega (arith, c.requires.finds.slots_room)) c.index.ensures in
    let inside = read-known (map row_name c.args.rows.now) (length c.args.rows.now) c.args.self.now.slots.items c.args.self.now.places.items
    (after c.spread-start.result c.loop-j.j) c.index.result.now c.requires.finds (omega arith) c.index.ensures c.if-number-eq0.false in
    let named = get_or-map row_name c.args.rows.now (c.index.result.now - 1) _ [] inside ∙ sym c.name_in.ensures in
    let P : ℕ → Type 0 = λ i. (k : ℕ) → get_or c.args.self.now.slots.items (after c.spread-start.result i) 0 ≡ k + 1 →
    get_or (map row_name c.args.rows.now) k [] ≡ c.args.name.now → ⊥ in
    let here : P c.loop-j.j = λ k e same.
    let is : k ≡ c.index.result.now - 1 = omega (arith, at, e) in
    let Q : ℕ → Type 0 = λ m. get_or (map row_name c.args.rows.now) m [] ≡ c.args.name.now in
    let yes : bytes_eq c.name_in.result.now c.args.name.now ≡ true =
    (bytes_eq-Decides c.name_in.result.now c.args.name.now).1 (sym named ∙ subst Q is same) in
    false≢true (sym c.if-eq.false ∙ (c.eq.ensures ∙ yes)) in
    record {
      full = below_more (λ i. 0 < get_or c.args.self.now.slots.items (after c.spread-start.result i) 0) c.loop-j.j c.loop-j.invariant.full
          (omega (arith, at, c.if-number-eq0.false));
      others = λ i k h. below_more P c.loop-j.j (λ m g n. c.loop-j.invariant.others m n g) here i h k;
    }

pub unreachable-requires : goal.unreachable-requires
unreachable-requires c =
    some-free (map row_name c.args.rows.now) c.args.name.now (length c.args.rows.now) c.args.self.now.slots.items c.args.self.now.places.items
    c.requires.finds c.requires.few
    (rw (← c.spread-start.ensures.value) (λ j h. c.loop-j.invariant.full j (omega (arith, c.loop-j-test.false))))
