use Rattle.std.proofs.Common.{◌+◌, ◌∙◌, refl, arith, inl}
use Rattle.item_build.proofs.Meaning.Bytes.{record-made}
use Rattle.item_build.proofs.bins.put_record.Goals as goal

pub returns-clause-made : goal.returns-clause-made
returns-clause-made c = λ k d t.
    record-made d c.write_bin.new.mem c.put_bytes.new.mem c.args.at c.args.serial c.args.n c.args.bytes.now c.requires.inside (c.write_bin.ensures.made k d t) c.put_bytes.ensures.writes
    c.put_bytes.ensures.bytes

pub returns-clause-count : goal.returns-clause-count
returns-clause-count c = c.put_bytes.ensures.writes.others (c.args.at + 2) (inl (omega arith)) ∙ c.write_bin.ensures.words.each 2 (c.args.at + 2) (omega arith) refl
