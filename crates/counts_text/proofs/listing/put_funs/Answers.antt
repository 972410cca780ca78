use Rattle.std.proofs.Common.{◌≡◌, ℕ, ◌++◌, ◌==◌, ◌<◌, List, length, map, get_or, Err, refl, ◌∙◌, subst, arith}
use Rattle.line_io.specs.Sink.{Grew}
use Rattle.plain_machine.specs.Maps.{fun_text}
use Rattle.text_parts.proofs.Writing.{written-as}
use Rattle.reply_text.specs.Texts.{divider}
use Rattle.counts_text.specs.Told.{by_name, fun_of}
use Rattle.counts_text.proofs.Ordered.{Rising, named-rises, named-length, next-is, next-there, last-more}
use Rattle.counts_text.proofs.Listed.{fun-entry, entry_at, entries-begin, entries-more, entries-stop, entries-done, entries-length}
use Rattle.counts_text.proofs.listing.put_funs.Goals as goal

pub loop-i-init : goal.loop-i-init
loop-i-init g c = record {
  grew = entries-begin g.K.Sink.wrote c.args.sink.now (map (fun_text c.args.names.now) (map (fun_of c.args.mem.now) (by_name c.args.mem.now c.args.names.now c.args.funs.now)));
  told = refl;
  last = refl;
  read = tt;
}

pub returns-in_default : goal.returns-in_default
returns-in_default g c =
    absurd
    (next-there c.args.mem.now c.args.names.now c.args.funs.now c.loop-i.i c.loop-i.last
    (named-rises c.args.mem.now c.args.names.now c.args.funs.now c.count-known.ensures.names c.requires.each c.requires.apart) (omega (arith, c.loop-i-test.true, c.loop-i.auto.i-end))
    c.loop-i.invariant.last c.in_default.ensures)

pub returns-in_err-put_entry : goal.returns-in_err-put_entry
returns-in_err-put_entry g c =
    let below : c.loop-i.i < length c.args.funs.now = omega (arith, c.loop-i-test.true, c.loop-i.auto.i-end) in
    let vs : List ℕ = by_name c.args.mem.now c.args.names.now c.args.funs.now in
    let r : Rising c.args.mem.now c.args.names.now (by_name c.args.mem.now c.args.names.now c.args.funs.now) =
    named-rises c.args.mem.now c.args.names.now c.args.funs.now c.count-known.ensures.names c.requires.each c.requires.apart in
    let is : c.in-Some.v ≡ get_or (by_name c.args.mem.now c.args.names.now c.args.funs.now) c.loop-i.i 0 =
    next-is c.args.mem.now c.args.names.now c.args.funs.now c.loop-i.i c.in-Some.v c.loop-i.last r below c.loop-i.invariant.last c.in-Some.ensures in
    let under : c.loop-i.i < length vs = omega (arith, below, named-length c.args.mem.now c.args.names.now c.args.funs.now) in
    entries-stop g.K.Sink.wrote g.K.Sink.faults c.args.sink.now c.loop-i.sink c.put_entry.new.sink (map (fun_text c.args.names.now) (map (fun_of c.args.mem.now) vs)) c.loop-i.i
    c.in_err-put_entry.field-0.0 c.from_residual.result c.from_residual.ensures.0 (omega (arith, under, entries-length (fun_text c.args.names.now) (fun_of c.args.mem.now) vs)) c.loop-i.invariant.grew
    c.loop-i.invariant.told
    (written-as g.K.Sink.wrote g.K.Sink.faults c.loop-i.sink c.put_entry.new.sink (divider (c.loop-i.i == 0) ++ fun_text c.args.names.now (fun_of c.args.mem.now c.in-Some.v))
    (entry_at (map (fun_text c.args.names.now) (map (fun_of c.args.mem.now) vs)) c.loop-i.i) (Err c.in_err-put_entry.field-0.0)
    (fun-entry c.args.mem.now c.args.names.now vs c.loop-i.i c.in-Some.v under is) c.in_err-put_entry.ensures)

pub loop-i-preserved : goal.loop-i-preserved
loop-i-preserved g c =
    let below : c.loop-i.i < length c.args.funs.now = omega (arith, c.loop-i-test.true, c.loop-i.auto.i-end) in
    let vs : List ℕ = by_name c.args.mem.now c.args.names.now c.args.funs.now in
    let r : Rising c.args.mem.now c.args.names.now (by_name c.args.mem.now c.args.names.now c.args.funs.now) =
    named-rises c.args.mem.now c.args.names.now c.args.funs.now c.count-known.ensures.names c.requires.each c.requires.apart in
    let is : c.in-Some.v ≡ get_or (by_name c.args.mem.now c.args.names.now c.args.funs.now) c.loop-i.i 0 =
    next-is c.args.mem.now c.args.names.now c.args.funs.now c.loop-i.i c.in-Some.v c.loop-i.last r below c.loop-i.invariant.last c.in-Some.ensures in
    let under : c.loop-i.i < length vs = omega (arith, below, named-length c.args.mem.now c.args.names.now c.args.funs.now) in
    record {
      grew = entries-more g.K.Sink.wrote c.args.sink.now c.loop-i.sink c.put_entry.new.sink (map (fun_text c.args.names.now) (map (fun_of c.args.mem.now) vs)) c.loop-i.i
          (omega (arith, under, entries-length (fun_text c.args.names.now) (fun_of c.args.mem.now) vs)) c.loop-i.invariant.grew
          (subst (Grew g.K.Sink.wrote c.loop-i.sink c.put_entry.new.sink) (fun-entry c.args.mem.now c.args.names.now vs c.loop-i.i c.in-Some.v under is) c.in_ok-put_entry.ensures.all);
      told = c.in_ok-put_entry.ensures.told ∙ c.loop-i.invariant.told;
      last = last-more c.args.mem.now c.args.names.now vs c.loop-i.i c.in-Some.v is;
      read = c.requires.each c.in-Some.v c.in-Some.ensures.inside;
    }

pub returns : goal.returns
returns g c =
    let vs : List ℕ = by_name c.args.mem.now c.args.names.now c.args.funs.now in
    entries-done g.K.Sink.wrote g.K.Sink.faults c.args.sink.now c.loop-i.sink (map (fun_text c.args.names.now) (map (fun_of c.args.mem.now) vs)) c.loop-i.i
    (omega (
      arith,
      c.loop-i-test.false,
      entries-length (fun_text c.args.names.now) (fun_of c.args.mem.now) vs,
      named-length c.args.mem.now c.args.names.now c.args.funs.now,
    ))
    c.loop-i.invariant.grew c.loop-i.invariant.told
