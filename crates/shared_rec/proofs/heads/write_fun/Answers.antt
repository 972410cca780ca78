use Rattle.std.proofs.Common.{arith}
use Rattle.shared_rec.specs.Record.{record_roles}
use Rattle.shared_rec.proofs.Rows.{fun-made, writes-keep}
use Rattle.shared_rec.proofs.heads.write_fun.Goals as goal

pub returns-clause-made : goal.returns-clause-made
returns-clause-made c = λ k d t.
    fun-made k d c.write_head.new.mem c.args.at c.args.name c.args.arity c.requires.name c.requires.arity
    (omega (arith, c.requires.places, c.write_head.ensures.writes.same_len)) c.write_head.ensures.words t

pub returns-clause-kept : goal.returns-clause-kept
returns-clause-kept c = λ k d t. writes-keep record_roles k d c.args.at 4 c.args.mem.now c.write_head.new.mem c.write_head.ensures.writes t
