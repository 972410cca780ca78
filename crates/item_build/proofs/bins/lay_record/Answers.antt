use Rattle.std.proofs.Common.{◌≡◌, ℕ, ◌+◌, ◌-◌, refl, subst, arith, inl, inr}
use Rattle.plain_term.specs.Measures.{bin_words}
use Rattle.shared_rec.specs.Record.{WritesRecord}
use Rattle.item_build.specs.Reading.{bytes_in}
use Rattle.item_build.proofs.Laid.Laying.{recorded-one}
use Rattle.item_build.proofs.bins.lay_record.Goals as goal

pub put_record-requires-clause-places : goal.put_record-requires-clause-places
put_record-requires-clause-places c = omega (arith, c.requires.words, c.requires.places.inside)

pub returns-clause-laid : goal.returns-clause-laid
returns-clause-laid c = λ k shared free is.
    let ends : c.args.room.now.end - (4 + bin_words c.args.n) + (4 + bin_words c.args.n) ≡ c.args.room.now.end = omega (arith, c.requires.words) in
    let P : ℕ → Type 0 = λ z. WritesRecord (c.args.room.now.end - (4 + bin_words c.args.n)) z c.args.mem.now c.put_record.new.mem in
    recorded-one k shared c.args.room.now.top (4 + bin_words c.args.n) (c.args.room.now.end - (4 + bin_words c.args.n)) c.args.room.now.end c.args.serial (bytes_in c.args.n c.args.bytes.now)
    c.args.mem.now c.put_record.new.mem free (omega (arith, c.requires.words)) ends (omega arith) (subst P ends c.put_record.ensures.writes) c.put_record.ensures.made c.put_record.ensures.count is
    c.args.room.now _ _ refl refl refl refl

pub returns-clause-leaves : goal.returns-clause-leaves
returns-clause-leaves c = record {
  same_start = refl;
  front = omega arith;
  order = omega (arith, c.requires.words);
  back = omega arith;
  same_len = c.put_record.ensures.writes.same_len;
  others = λ q apart.
      c.put_record.ensures.writes.others q (elim apart [ inl low ↦ inl (omega (arith, low, c.requires.words)) | inr high ↦ inr (omega (arith, high, c.requires.words)) ]);
}
