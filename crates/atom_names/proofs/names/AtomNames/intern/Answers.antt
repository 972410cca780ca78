use Rattle.std.proofs.Common.{arith, ◌∙◌, sym, refl}
use Rattle.std.proofs.lemmas.List.{length-take-le}
use Rattle.atom_names.specs.Rows.{names_of}
use Rattle.atom_names.proofs.Places.{with_name-there}
use Rattle.atom_names.proofs.Filled.{short-take, number-found, number-new, view-len, Holds_push, list-of-push, number-of-push, room-of-push}
use Rattle.atom_names.proofs.names.AtomNames.intern.Goals as goal

pub find-requires : goal.find-requires
find-requires c =
    let all = c.self.invariant in
    let len = length-take-le c.self.inside.count c.self.inside.rows.items (omega (arith, all.room, all.within)) in
    rw c.deref.ensures.value (record {
      few = omega (arith, len, all.within);
      short = short-take c.self.inside.rows.items c.self.inside.count (omega (arith, all.room, all.within)) all.short;
      finds = rw len all.finds;
    })

pub returns-in-Ok : goal.returns-in-Ok
returns-in-Ok c =
    let found = number-found c.self.inside.rows.items c.deref.result.now c.self.inside.table c.self.inside.count c.in-Ok.k c.args.name.now
    c.args.self.now c.self.invariant c.deref.ensures.value c.self.view_is c.in-Ok.ensures.inside c.in-Ok.ensures.there in
    let len = view-len c.self.inside.rows.items c.self.inside.table c.self.inside.count c.args.self.now c.self.invariant c.self.view_is in record {
      names = sym (with_name-there c.args.self.now c.args.name.now c.in-Ok.k found);
      number = found;
      room = omega (arith, len, c.self.invariant.within);
      full = tt;
    }

pub returns-then-self-eq-MOST_NAMES : goal.returns-then-self-eq-MOST_NAMES
returns-then-self-eq-MOST_NAMES c = record {
  names = tt;
  number = tt;
  room = tt;
  full = (
    refl,
    number-new c.self.inside.rows.items c.deref.result.now c.self.inside.count c.args.name.now c.args.self.now c.deref.ensures.value
        c.self.view_is c.in-Err.ensures.new,
    view-len c.self.inside.rows.items c.self.inside.table c.self.inside.count c.args.self.now c.self.invariant c.self.view_is
        ∙ c.if-self-eq-MOST_NAMES.true,
  );
}

pub invariant_of-self : goal.invariant_of-self
invariant_of-self c =
    let none = number-new c.self.inside.rows.items c.deref.result.now c.self.inside.count c.args.name.now
    (names_of c.self.inside.rows.items c.self.inside.count) c.deref.ensures.value refl c.in-Err.ensures.new in
    Holds_push c.self.inside.rows.items c.self.inside.table c.add.new.self c.self.inside.count c.in-Err.slot c.row_of.result c.args.name.now
    c.self.invariant (omega (arith, c.self.invariant.within, c.if-self-eq-MOST_NAMES.false)) c.row_of.ensures.short c.row_of.ensures.value
    c.requires.0 c.requires.1 none c.in-Err.ensures.free c.add.ensures.slots c.add.ensures.places

pub add-requires : goal.add-requires
add-requires c = record {
  number = omega (arith, c.self.invariant.within, c.if-self-eq-MOST_NAMES.false);
  slot = c.in-Err.ensures.free.inside;
  slots_room = c.self.invariant.finds.slots_room;
  places_room = c.self.invariant.finds.places_room;
}

pub returns : goal.returns
returns c =
    let all = c.self.invariant in
    let none = number-new c.self.inside.rows.items c.deref.result.now c.self.inside.count c.args.name.now c.args.self.now
    c.deref.ensures.value c.self.view_is c.in-Err.ensures.new in record {
      names = list-of-push c.self.inside.rows.items c.self.inside.table c.self.inside.count c.row_of.result c.args.name.now c.args.self.now
          all (omega (arith, all.within, c.if-self-eq-MOST_NAMES.false)) c.row_of.ensures.value c.self.view_is none;
      number = number-of-push c.self.inside.rows.items c.self.inside.table c.self.inside.count c.row_of.result c.args.name.now all
          (omega (arith, all.within, c.if-self-eq-MOST_NAMES.false)) c.row_of.ensures.value (rw c.self.view_is none);
      room = room-of-push c.self.inside.rows.items c.self.inside.table c.self.inside.count c.row_of.result all
          (omega (arith, all.within, c.if-self-eq-MOST_NAMES.false));
      full = tt;
    }
