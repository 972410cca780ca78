use Rattle.lower_tests.proofs.Sample.{in-sample, bytes-term, part-term, reference-term, shared-term}
use Rattle.lower_tests.proofs.term_parts.bytes_of_binaries.Goals as goal

pub byte_len-requires : goal.byte_len-requires
byte_len-requires c = in-sample c.args.mem.now 26 c.requires bytes-term

pub byte_at-requires : goal.byte_at-requires
byte_at-requires c = in-sample c.args.mem.now 26 c.requires bytes-term

pub byte_at-requires-then-eq-2 : goal.byte_at-requires-then-eq-2
byte_at-requires-then-eq-2 c = in-sample c.args.mem.now 58 c.requires shared-term

pub byte_at-requires-then-eq-3 : goal.byte_at-requires-then-eq-3
byte_at-requires-then-eq-3 c = in-sample c.args.mem.now 82 c.requires part-term

pub byte_len-requires-then-eq-4 : goal.byte_len-requires-then-eq-4
byte_len-requires-then-eq-4 c = in-sample c.args.mem.now 170 c.requires reference-term
