use Rattle.std.proofs.Common.{arith, refl}
use Rattle.std.proofs.lemmas.Grind.{common_steps}
use Rattle.script_parse.proofs.verbs.made.Goals as goal

pub returns-in-Hd : goal.returns-in-Hd
returns-in-Hd c = rw c.in-Hd.is refl

pub returns-in-Tl : goal.returns-in-Tl
returns-in-Tl c = rw c.in-Tl.is refl

pub returns-in-Elem : goal.returns-in-Elem
returns-in-Elem c = rw c.in-Elem.is refl

pub returns-in-MapGet : goal.returns-in-MapGet
returns-in-MapGet c = rw c.in-MapGet.is refl

pub returns-in-MapPut : goal.returns-in-MapPut
returns-in-MapPut c = rw c.in-MapPut.is refl

pub returns-in-Part : goal.returns-in-Part
returns-in-Part c = rw c.in-Part.is refl

pub returns-in-Fill : goal.returns-in-Fill
returns-in-Fill c = rw c.in-Fill.is refl

pub returns-in-Env : goal.returns-in-Env
returns-in-Env c = rw c.in-Env.is refl

pub returns-in-Ref : goal.returns-in-Ref
returns-in-Ref c = rw c.in-Ref.is refl

pub returns-in-Own : goal.returns-in-Own
returns-in-Own c = rw c.in-Own.is refl

pub returns-in-MkTuple : goal.returns-in-MkTuple
returns-in-MkTuple c = rw c.in-MkTuple.is refl

pub returns-in-MkList : goal.returns-in-MkList
returns-in-MkList c = rw c.in-MkList.is refl

pub returns-in-Push : goal.returns-in-Push
returns-in-Push c = rw c.in-Push.is refl

pub returns-in-Pop : goal.returns-in-Pop
returns-in-Pop c = rw c.in-Pop.is refl

pub returns-in-Recv : goal.returns-in-Recv
returns-in-Recv c = rw c.in-Recv.is refl

pub returns-in-Print : goal.returns-in-Print
returns-in-Print c = rw c.in-Print.is refl

pub returns-in-Eq : goal.returns-in-Eq
returns-in-Eq c = rw c.in-Eq.is refl

pub returns-in-Cmp : goal.returns-in-Cmp
returns-in-Cmp c = rw c.in-Cmp.is refl

pub returns-in-Flat : goal.returns-in-Flat
returns-in-Flat c = rw c.in-Flat.is refl

pub overflow_cast-r : goal.overflow_cast-r
overflow_cast-r c = grind (arith, common_steps)

pub overflow_cast-s : goal.overflow_cast-s
overflow_cast-s c = grind (arith, common_steps)

pub overflow_cast-t : goal.overflow_cast-t
overflow_cast-t c = grind (arith, common_steps)

pub overflow_cast-result : goal.overflow_cast-result
overflow_cast-result c = grind (arith, common_steps)

pub unreachable-requires : goal.unreachable-requires
unreachable-requires c = grind (arith, common_steps)

pub returns-in-Queue : goal.returns-in-Queue
returns-in-Queue c = rw c.in-Queue.is refl

pub returns-in-Exit : goal.returns-in-Exit
returns-in-Exit c = rw c.in-Exit.is refl
