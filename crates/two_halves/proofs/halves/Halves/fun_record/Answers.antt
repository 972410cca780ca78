use Rattle.std.proofs.Common.{ℕ, ◌+◌, ◌-◌, ◌*◌, Some, None, arith}
use Rattle.record_tables.specs.Spots.{IsFunAt, IsSpot}
use Rattle.record_tables.proofs.Coming.{inserted}
use Rattle.two_halves.specs.declared.halves.Halves.{Halves}
use Rattle.two_halves.proofs.Coming.Adding.{fun-adds, fun-found, funs-inside, has-fun}
use Rattle.two_halves.proofs.halves.Halves.fun_record.Goals as goal

pub spot_of-i-requires-clause-within : goal.spot_of-i-requires-clause-within
spot_of-i-requires-clause-within c =
    let n = c.requires.named in
    rw c.as_slice-funs.ensures.value (funs-inside n.named c.args.self.now n.shared n.processes n.stands)

pub fun_at-requires : goal.fun_at-requires
fun_at-requires c =
    let n = c.requires.named in
    rw c.as_slice-funs.ensures.value (funs-inside n.named c.args.self.now n.shared n.processes n.stands)

pub returns-in-Some-clause-has : goal.returns-in-Some-clause-has
returns-in-Some-clause-has c = λ named shared qs x small.
    let h : Halves = c.args.self.now in
    let found : IsFunAt h.mem h.funs.items c.spot_of-i.result (c.args.name * 256 + c.args.arity) (Some c.in-Some.at) = rw c.as_slice-funs.ensures.value at c.in-Some.ensures in
    fun-found named h shared qs x c.args.name c.args.arity c.in-Some.at c.spot_of-i.result found.1.0 found.0 found.1.1 c.requires.arity

pub returns-clause-adds : goal.returns-clause-adds
returns-clause-adds c =
    let h : Halves = c.args.self.now in
    let n = c.requires.named in
    let code : ℕ = c.args.name * 256 + c.args.arity in
    let spot : IsSpot h.mem h.funs.items code c.spot_of-i.result = rw c.as_slice-funs.ensures.value at c.spot_of-i.ensures in
    let none : IsFunAt h.mem h.funs.items c.spot_of-i.result code None = rw (c.in_default.is, c.as_slice-funs.ensures.value) at c.fun_at.ensures in
    let items = inserted c.insert.result h.funs.items c.insert.new.self.items c.spot_of-i.result (h.room.end - 4) (c.insert.ensures.succeeds c.requires.table) c.insert.ensures.items in
    fun-adds n.named h n.shared n.processes n.stands c.requires.laid c.args.name c.args.arity (h.room.end - 4) (omega (arith, c.requires.words)) (omega (arith, c.requires.words))
    c.write_fun.new.mem c.write_fun.ensures.writes c.write_fun.ensures.words c.write_fun.ensures.made c.spot_of-i.result spot none c.insert.new.self items
    ((c.insert.ensures.in_place c.requires.table).1.0)

pub returns-clause-has : goal.returns-clause-has
returns-clause-has c = λ named shared qs x small.
    let h : Halves = c.args.self.now in
    let code : ℕ = c.args.name * 256 + c.args.arity in
    let spot : IsSpot h.mem h.funs.items code c.spot_of-i.result = rw c.as_slice-funs.ensures.value at c.spot_of-i.ensures in
    let none : IsFunAt h.mem h.funs.items c.spot_of-i.result code None = rw (c.in_default.is, c.as_slice-funs.ensures.value) at c.fun_at.ensures in
    let items = inserted c.insert.result h.funs.items c.insert.new.self.items c.spot_of-i.result (h.room.end - 4) (c.insert.ensures.succeeds c.requires.table) c.insert.ensures.items in
    has-fun named h shared qs x c.requires.laid c.args.name c.args.arity (h.room.end - 4) (omega (arith, c.requires.words)) (omega (arith, c.requires.words))
    c.write_fun.new.mem c.write_fun.ensures.writes c.write_fun.ensures.words c.write_fun.ensures.made c.spot_of-i.result spot none c.insert.new.self items small c.requires.arity
