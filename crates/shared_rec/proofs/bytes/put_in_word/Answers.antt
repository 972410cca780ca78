use Rattle.std.proofs.Common.{◌≡◌, ◌*◌, ◌%◌, ◌^◌}
use Rattle.shared_rec.proofs.InWord.{scale-is, put-fits, put-high-fits}
use Rattle.shared_rec.proofs.bytes.put_in_word.Goals as goal

pub overflow_mul-result-2 : goal.overflow_mul-result-2
overflow_mul-result-2 c =
    let e : 1 * 2 ^ (c.args.k * 8) % 18446744073709551616 ≡ 2 ^ (c.args.k * 8) = scale-is c.args.k c.requires in
    rw e (put-high-fits c.args.word c.args.b c.args.k (put-fits c.args.word c.args.b c.ranges.word c.ranges.b c.args.k c.requires))

pub overflow_add-result-2 : goal.overflow_add-result-2
overflow_add-result-2 c =
    let e : 1 * 2 ^ (c.args.k * 8) % 18446744073709551616 ≡ 2 ^ (c.args.k * 8) = scale-is c.args.k c.requires in
    rw e (put-fits c.args.word c.args.b c.ranges.word c.ranges.b c.args.k c.requires)
