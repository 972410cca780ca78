use Rattle.std.proofs.Common.{◌≡◌, ◌/◌, ◌%◌, get_or, arith, sym, ◌∙◌}
use Rattle.term_tags.specs.declared.layouts.Object.TheVariants as object
use Rattle.term_words.proofs.ByKind.Inside.{map-inside, binary-inside}
use Rattle.term_read.proofs.Binaries.{record-inside}
use Rattle.term_read.proofs.Seen.{subtag-at, object-within, has-object, ref-words, sees-tuple, sees-ref, sees-holder, sees-heap, sees-map}
use Rattle.term_read.proofs.looks.object_look.Goals as goal

pub get-header-requires : goal.get-header-requires
get-header-requires c = omega (arith, object-within c.args.mem.now c.args.w c.args.place c.requires.term c.requires.pointer.0 c.requires.pointer.1)

pub unreachable-requires : goal.unreachable-requires
unreachable-requires c =
    has-object c.args.mem.now c.args.w c.args.place c.get-header.result c.requires.term c.requires.pointer.0 c.requires.pointer.1 c.get-header.ensures (sym c.object_of.ensures.table ∙ c.in_default.is)

pub get-requires : goal.get-requires
get-requires c =
    let sub : get_or c.args.mem.now c.args.place 0 / 4 % 16 ≡ 4 =
    subtag-at c.args.mem.now c.args.place c.get-header.result c.in-Some.object object.Ref c.get-header.ensures c.in-Some.ensures.subtag c.in-Ref.is in
    omega (
      arith,
      object-within c.args.mem.now c.args.w c.args.place c.requires.term c.requires.pointer.0 c.requires.pointer.1,
      ref-words c.args.mem.now c.args.w c.args.place c.requires.term c.requires.pointer.0 c.requires.pointer.1 sub,
    )

pub get-requires-in-Ref : goal.get-requires-in-Ref
get-requires-in-Ref c =
    let sub : get_or c.args.mem.now c.args.place 0 / 4 % 16 ≡ 4 =
    subtag-at c.args.mem.now c.args.place c.get-header.result c.in-Some.object object.Ref c.get-header.ensures c.in-Some.ensures.subtag c.in-Ref.is in
    omega (
      arith,
      object-within c.args.mem.now c.args.w c.args.place c.requires.term c.requires.pointer.0 c.requires.pointer.1,
      ref-words c.args.mem.now c.args.w c.args.place c.requires.term c.requires.pointer.0 c.requires.pointer.1 sub,
    )

pub get-requires-in-Holder : goal.get-requires-in-Holder
get-requires-in-Holder c =
    let sub : get_or c.args.mem.now c.args.place 0 / 4 % 16 ≡ 8 =
    subtag-at c.args.mem.now c.args.place c.get-header.result c.in-Some.object object.Holder c.get-header.ensures c.in-Some.ensures.subtag c.in-Holder.is in
    let (some, holder, part) = binary-inside c.args.mem.now c.args.w c.args.place 8 c.requires.term c.requires.pointer.0 c.requires.pointer.1 sub (omega arith) (omega arith) in
    let words : get_or c.args.mem.now c.args.place 0 / 64 ≡ 5 = holder (omega arith) in
    omega (arith, object-within c.args.mem.now c.args.w c.args.place c.requires.term c.requires.pointer.0 c.requires.pointer.1, words)

pub overflow_add-result-in-Holder : goal.overflow_add-result-in-Holder
overflow_add-result-in-Holder c =
    let sub : get_or c.args.mem.now c.args.place 0 / 4 % 16 ≡ 8 =
    subtag-at c.args.mem.now c.args.place c.get-header.result c.in-Some.object object.Holder c.get-header.ensures c.in-Some.ensures.subtag c.in-Holder.is in
    omega (arith, record-inside c.args.mem.now c.args.w c.args.place c.requires.term c.requires.pointer.0 c.requires.pointer.1 sub, c.get-in-Holder.ensures, c.bounded.ensures)

pub get-requires-in-Holder-2 : goal.get-requires-in-Holder-2
get-requires-in-Holder-2 c =
    let sub : get_or c.args.mem.now c.args.place 0 / 4 % 16 ≡ 8 =
    subtag-at c.args.mem.now c.args.place c.get-header.result c.in-Some.object object.Holder c.get-header.ensures c.in-Some.ensures.subtag c.in-Holder.is in
    let (some, holder, part) = binary-inside c.args.mem.now c.args.w c.args.place 8 c.requires.term c.requires.pointer.0 c.requires.pointer.1 sub (omega arith) (omega arith) in
    omega (arith, object-within c.args.mem.now c.args.w c.args.place c.requires.term c.requires.pointer.0 c.requires.pointer.1, some)

pub get-requires-in-HeapBin : goal.get-requires-in-HeapBin
get-requires-in-HeapBin c =
    let sub : get_or c.args.mem.now c.args.place 0 / 4 % 16 ≡ 9 =
    subtag-at c.args.mem.now c.args.place c.get-header.result c.in-Some.object object.HeapBin c.get-header.ensures c.in-Some.ensures.subtag c.in-HeapBin.is in
    let (some, holder, part) = binary-inside c.args.mem.now c.args.w c.args.place 9 c.requires.term c.requires.pointer.0 c.requires.pointer.1 sub (omega arith) (omega arith) in
    omega (arith, object-within c.args.mem.now c.args.w c.args.place c.requires.term c.requires.pointer.0 c.requires.pointer.1, some)

pub get-requires-in-Map : goal.get-requires-in-Map
get-requires-in-Map c =
    let sub : get_or c.args.mem.now c.args.place 0 / 4 % 16 ≡ 15 =
    subtag-at c.args.mem.now c.args.place c.get-header.result c.in-Some.object object.Map c.get-header.ensures c.in-Some.ensures.subtag c.in-Map.is in
    omega (
      arith,
      object-within c.args.mem.now c.args.w c.args.place c.requires.term c.requires.pointer.0 c.requires.pointer.1,
      (map-inside c.args.mem.now c.args.w c.args.place c.requires.term c.requires.pointer.0 c.requires.pointer.1 sub).0,
    )

pub get-requires-in-Map-2 : goal.get-requires-in-Map-2
get-requires-in-Map-2 c =
    let sub : get_or c.args.mem.now c.args.place 0 / 4 % 16 ≡ 15 =
    subtag-at c.args.mem.now c.args.place c.get-header.result c.in-Some.object object.Map c.get-header.ensures c.in-Some.ensures.subtag c.in-Map.is in
    omega (
      arith,
      object-within c.args.mem.now c.args.w c.args.place c.requires.term c.requires.pointer.0 c.requires.pointer.1,
      (map-inside c.args.mem.now c.args.w c.args.place c.requires.term c.requires.pointer.0 c.requires.pointer.1 sub).0,
    )

pub returns-in-Tuple : goal.returns-in-Tuple
returns-in-Tuple c =
    let sub : get_or c.args.mem.now c.args.place 0 / 4 % 16 ≡ 0 =
    subtag-at c.args.mem.now c.args.place c.get-header.result c.in-Some.object object.Tuple c.get-header.ensures c.in-Some.ensures.subtag c.in-Tuple.is in
    rw (c.arity_of.ensures, c.get-header.ensures) (sees-tuple c.args.mem.now c.args.w c.args.place c.requires.pointer.0 c.requires.pointer.1 sub)

pub returns-in-Ref : goal.returns-in-Ref
returns-in-Ref c =
    let sub : get_or c.args.mem.now c.args.place 0 / 4 % 16 ≡ 4 =
    subtag-at c.args.mem.now c.args.place c.get-header.result c.in-Some.object object.Ref c.get-header.ensures c.in-Some.ensures.subtag c.in-Ref.is in
    rw (c.get.ensures, c.get-in-Ref.ensures) (sees-ref c.args.mem.now c.args.w c.args.place c.requires.pointer.0 c.requires.pointer.1 sub)

pub returns-in-Holder : goal.returns-in-Holder
returns-in-Holder c =
    let sub : get_or c.args.mem.now c.args.place 0 / 4 % 16 ≡ 8 =
    subtag-at c.args.mem.now c.args.place c.get-header.result c.in-Some.object object.Holder c.get-header.ensures c.in-Some.ensures.subtag c.in-Holder.is in
    rw (c.get-in-Holder.ensures, c.get-in-Holder-2.ensures) (sees-holder c.args.mem.now c.args.w c.args.place c.requires.pointer.0 c.requires.pointer.1 sub)

pub returns-in-HeapBin : goal.returns-in-HeapBin
returns-in-HeapBin c =
    let sub : get_or c.args.mem.now c.args.place 0 / 4 % 16 ≡ 9 =
    subtag-at c.args.mem.now c.args.place c.get-header.result c.in-Some.object object.HeapBin c.get-header.ensures c.in-Some.ensures.subtag c.in-HeapBin.is in
    rw c.get-in-HeapBin.ensures (sees-heap c.args.mem.now c.args.w c.args.place c.requires.pointer.0 c.requires.pointer.1 sub)

pub returns-in-Map : goal.returns-in-Map
returns-in-Map c =
    let sub : get_or c.args.mem.now c.args.place 0 / 4 % 16 ≡ 15 =
    subtag-at c.args.mem.now c.args.place c.get-header.result c.in-Some.object object.Map c.get-header.ensures c.in-Some.ensures.subtag c.in-Map.is in
    rw (c.place_of.ensures, c.get-in-Map.ensures, c.get-in-Map-2.ensures) (sees-map c.args.mem.now c.args.w c.args.place c.requires.pointer.0 c.requires.pointer.1 sub)
