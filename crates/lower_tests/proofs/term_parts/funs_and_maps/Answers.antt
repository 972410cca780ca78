use Rattle.lower_tests.proofs.Sample.{in-sample, big-term, fun-term, map-term, wide-term}
use Rattle.lower_tests.proofs.term_parts.funs_and_maps.Goals as goal

pub fun_env-requires : goal.fun_env-requires
fun_env-requires c = in-sample c.args.mem.now 118 c.requires fun-term

pub map_len-requires : goal.map_len-requires
map_len-requires c = in-sample c.args.mem.now 154 c.requires map-term

pub map_key-requires : goal.map_key-requires
map_key-requires c = in-sample c.args.mem.now 154 c.requires map-term

pub map_value-requires : goal.map_value-requires
map_value-requires c = in-sample c.args.mem.now 154 c.requires map-term

pub map_len-requires-then-eq-4 : goal.map_len-requires-then-eq-4
map_len-requires-then-eq-4 c = in-sample c.args.mem.now 182 c.requires big-term

pub map_len-requires-then-is_none : goal.map_len-requires-then-is_none
map_len-requires-then-is_none c = in-sample c.args.mem.now 194 c.requires wide-term
