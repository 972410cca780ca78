use Rattle.std.proofs.Common.{◌+◌, arith}
use Rattle.plain_term.specs.Measures.{bin_words}
use Rattle.term_tags.specs.Words.{record_word}
use Rattle.term_tags.specs.declared.records.TheConstants.{BIN_RECORD}
use Rattle.shared_rec.specs.Record.{record_roles}
use Rattle.shared_rec.proofs.Rows.{bin-made, words-behind, writes-keep, writes-then}
use Rattle.shared_rec.proofs.heads.write_bin.Goals as goal

pub returns-clause-writes : goal.returns-clause-writes
returns-clause-writes c =
    writes-then c.args.at (c.args.at + 4) (c.args.at + (4 + bin_words c.args.len)) c.args.mem.now c.write_head.new.mem c.put_same.new.mem (omega arith) (omega arith)
    c.write_head.ensures.writes c.put_same.ensures.writes

pub returns-clause-words : goal.returns-clause-words
returns-clause-words c =
    words-behind c.write_head.new.mem c.put_same.new.mem c.args.at (record_word BIN_RECORD (4 + bin_words c.args.len)) c.args.serial c.args.len (bin_words c.args.len)
    c.write_head.ensures.words c.put_same.ensures.writes c.put_same.ensures.same

pub returns-clause-made : goal.returns-clause-made
returns-clause-made c = λ k d t.
    bin-made k d c.put_same.new.mem c.args.at c.args.serial c.args.len (omega (arith, c.requires, (returns-clause-writes c).same_len)) (returns-clause-words c) t

pub returns-clause-kept : goal.returns-clause-kept
returns-clause-kept c = λ k d t.
    writes-keep record_roles k d c.args.at (4 + bin_words c.args.len) c.args.mem.now c.put_same.new.mem (returns-clause-writes c) t
