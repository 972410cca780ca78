use Rattle.std.proofs.Common.{ℕ, ◌+◌, ◌-◌, ◌/◌, ◌≤◌, length, sym, subst, arith}
use Rattle.plain_term.specs.Measures.{bin_words}
use Rattle.record_tables.proofs.Coming.{bin-written, size-there}
use Rattle.two_halves.proofs.Coming.Adding.{bin-adds, has-bin}
use Rattle.two_halves.proofs.halves.Halves.put_bin.Goals as goal

pub fill-requires-clause-bytes : goal.fill-requires-clause-bytes
fill-requires-clause-bytes c =
    let at : ℕ = c.args.self.now.room.end - (4 + (c.args.len + 7) / 8) in
    let P : ℕ → Type 0 = λ z. at + 4 + bin_words z ≤ length c.write_bin.new.mem in
    subst P (sym (size-there c.write_bin.new.mem at c.args.serial c.args.len _ c.write_bin.ensures.words))
    (omega (arith, c.requires.words, c.write_bin.ensures.writes.same_len, c.requires.laid.fits, c.requires.laid.order, c.requires.laid.even, c.requires.laid.side))

pub returns-clause-zero : goal.returns-clause-zero
returns-clause-zero c =
    let at : ℕ = c.args.self.now.room.end - (4 + (c.args.len + 7) / 8) in
    let w = bin-written c.args.self.now.mem c.write_bin.new.mem c.fill.new.mem at c.args.serial c.args.len c.args.byte _ c.write_bin.ensures.writes c.write_bin.ensures.words c.write_bin.ensures.made
    c.fill.ensures.writes c.fill.ensures.made in
    w.zero

pub returns-clause-adds : goal.returns-clause-adds
returns-clause-adds c =
    let at : ℕ = c.args.self.now.room.end - (4 + (c.args.len + 7) / 8) in
    let w = bin-written c.args.self.now.mem c.write_bin.new.mem c.fill.new.mem at c.args.serial c.args.len c.args.byte _ c.write_bin.ensures.writes c.write_bin.ensures.words c.write_bin.ensures.made
    c.fill.ensures.writes c.fill.ensures.made in
    bin-adds c.requires.next.named c.args.self.now c.requires.next.shared c.requires.next.processes c.requires.next.stands c.requires.laid c.args.len c.args.byte at c.args.serial
    (omega (arith, c.requires.words)) (omega (arith, c.requires.words)) c.fill.new.mem w c.push_reserved.new.self c.push_reserved.ensures.items c.push_reserved.ensures.capacity

pub returns-clause-has : goal.returns-clause-has
returns-clause-has c = λ named shared qs x last.
    let at : ℕ = c.args.self.now.room.end - (4 + (c.args.len + 7) / 8) in
    let w = bin-written c.args.self.now.mem c.write_bin.new.mem c.fill.new.mem at c.args.serial c.args.len c.args.byte _ c.write_bin.ensures.writes c.write_bin.ensures.words c.write_bin.ensures.made
    c.fill.ensures.writes c.fill.ensures.made in
    has-bin named c.args.self.now shared qs x c.requires.laid c.args.len c.args.byte at c.args.serial (omega (arith, c.requires.words)) (omega (arith, c.requires.words)) c.fill.new.mem w
    c.push_reserved.new.self c.push_reserved.ensures.items last
