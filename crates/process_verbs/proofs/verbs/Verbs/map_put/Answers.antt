use Rattle.process_verbs.proofs.Bringing.Pairing.{can-seek, put-asks, put-does, put-refused, put-some}
use Rattle.process_verbs.proofs.verbs.Verbs.map_put.Goals as goal

pub place_in-requires : goal.place_in-requires
place_in-requires g c = can-seek _ _ c.requires.holds _ c.requires.sits _ c.mem.ensures c.args.r c.args.s c.args.k c.args.v _ c.word-map.ensures _ c.word-key.ensures c.args.names.now c.requires.named

pub make-requires-clause-can : goal.make-requires-clause-can
make-requires-clause-can g c =
    put-some _ _ c.requires.holds _ c.requires.sits _ c.mem.ensures c.args.r c.args.s c.args.k c.args.v _ c.word-map.ensures _ c.word-key.ensures c.args.names.now _ c.place_in.ensures
    c.in-Ok.place c.in-Ok.is (c.requires.map, (c.requires.key, c.requires.value))

pub returns-in-Ok-clause-does : goal.returns-in-Ok-clause-does
returns-in-Ok-clause-does g c =
    put-does _ _ c.requires.holds _ c.requires.sits _ c.mem.ensures c.args.r c.args.s c.args.k c.args.v _ c.word-map.ensures _ c.word-key.ensures c.args.names.now _ c.place_in.ensures
    c.in-Ok.place c.in-Ok.is (c.requires.map, (c.requires.key, c.requires.value)) _ _ c.make.ensures

pub returns-in-Ok-clause-asks : goal.returns-in-Ok-clause-asks
returns-in-Ok-clause-asks g c =
    put-asks _ _ c.requires.holds _ c.requires.sits _ c.mem.ensures c.args.r c.args.s c.args.k c.args.v _ c.word-map.ensures _ c.word-key.ensures c.args.names.now _ c.place_in.ensures
    c.in-Ok.place c.in-Ok.is (c.requires.map, (c.requires.key, c.requires.value)) _ _ c.make.ensures

pub returns-in-Err-clause-does : goal.returns-in-Err-clause-does
returns-in-Err-clause-does g c =
    put-refused _ _ c.requires.holds _ c.requires.sits _ c.mem.ensures c.args.r c.args.s c.args.k c.args.v _ c.word-map.ensures _ c.word-key.ensures c.args.names.now _ c.place_in.ensures
    c.in-Err.stop c.in-Err.is c.refusal_of_put.result c.refusal_of_put.ensures
