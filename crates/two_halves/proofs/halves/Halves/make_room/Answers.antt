use Rattle.std.proofs.Common.{nat_le, sym, subst, arith}
use Rattle.std.proofs.Common.{ℕ}
use Rattle.two_halves.specs.Collecting.{MakesRoom}
use Rattle.two_halves.proofs.Collected.Tight.{room-after, room-before}
use Rattle.two_halves.proofs.halves.Halves.make_room.Goals as goal

pub returns-then-n-free : goal.returns-then-n-free
returns-then-n-free c = room-before c.args.n c.args.self.now c.requires.can (omega (arith, c.free.ensures, c.if-n-free.true))

pub returns : goal.returns
returns c =
    let P : ℕ → Type 0 = λ z. MakesRoom c.args.n c.args.self.now c.collect.new.self (nat_le c.args.n z) in
    subst P (sym c.free-2.ensures) (room-after c.args.n c.args.self.now c.requires.can c.collect.new.self (omega (arith, c.free.ensures, c.if-n-free.false)) c.collect.ensures)
