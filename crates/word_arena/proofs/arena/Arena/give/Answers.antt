use Rattle.std.proofs.Common.{◌≡◌, ◌≢◌, ℕ, ◌+◌, ◌/◌, ap, subst, arith}
use Rattle.word_arena.specs.Blocks.{size_at}
use Rattle.word_arena.specs.Stretches.{Settled, Right}
use Rattle.word_arena.proofs.Side.Facts.{block-within}
use Rattle.word_arena.proofs.Side.Summing.{free_of-most}
use Rattle.word_arena.proofs.Found.Table.{frame-first, settled-then, agrees-again}
use Rattle.word_arena.proofs.Laid.Taking.{from-begins}
use Rattle.word_arena.proofs.Found.Searching.{right-at}
use Rattle.word_arena.proofs.arena.Arena.give.Goals as goal

abbrev at_end : ℕ → ℕ → ℕ
at_end at size = at + size

pub settle_at-requires-clause-first : goal.settle_at-requires-clause-first
settle_at-requires-clause-first c =
    let from = c.free_start-from.result in
    let was = from-begins c.args.self.now.mem c.args.at from c.requires.block.begins c.free_start-from.ensures in
    let t = c.merge.ensures in
    let low = t.order.0 in
    frame-first c.args.self.now.mem c.merge.new.mem from c.args.at _ _ t.frame low (omega arith) was t.begins
    (right-at c.args.self.now.mem c.args.self.now.holes from c.requires.sound.blocked c.requires.sound.agrees was).first

pub overflow_add-at : goal.overflow_add-at
overflow_add-at c =
    let w = block-within c.args.self.now.mem c.args.at c.requires.sound.blocked c.requires.block.begins in
    omega (arith, w.to, c.size-size.ensures, c.requires.sound.agrees.room.stretches, c.requires.sound.agrees.room.few)

pub overflow_add-self : goal.overflow_add-self
overflow_add-self c =
    let t = c.merge.ensures in
    omega (
      arith,
      free_of-most c.merge.new.mem t.blocked,
      t.free,
      t.others.same_len,
      c.size-size.ensures,
      c.requires.sound.agrees.free,
      c.settle_at.ensures.settled.free,
      c.settle_behind.ensures.settled.free,
      c.settle_behind-2.ensures.settled.free,
      c.requires.sound.agrees.room.stretches,
      c.requires.sound.agrees.room.few,
    )

pub returns-clause-sound : goal.returns-clause-sound
returns-clause-sound c =
    let from = c.free_start-from.result in
    let new = c.merge.new.mem in
    let h = c.args.self.now.holes in
    let h3 = c.settle_behind-2.new.self in
    let t = c.merge.ensures in
    let s1 = c.settle_at.ensures in
    let s2 = c.settle_behind.ensures in
    let s3 = c.settle_behind-2.ensures in
    let settled : Settled new h h3 =
    settled-then new h c.settle_at.new.self h3 s1.settled (settled-then new c.settle_at.new.self c.settle_behind.new.self h3 s2.settled s3.settled) in
    let size : at_end c.args.at c.size-size.result ≡ at_end c.args.at (size_at c.args.self.now.mem c.args.at) = ap (at_end c.args.at) c.size-size.ensures in
    let P : ℕ → Type 0 = λ z. z / 64 ≢ from / 64 → Right new h3.firsts.items h3.tops (z / 64) in
    record {
      blocked = t.blocked;
      agrees = agrees-again c.args.self.now.mem new h h3 from c.args.at (at_end c.args.at (size_at c.args.self.now.mem c.args.at)) (h3.free + c.size-size.result)
          c.requires.sound.agrees settled t.frame (s3.settled.keeps (from / 64) (s2.settled.keeps (from / 64) s1.right))
          (λ other. s3.settled.keeps (c.args.at / 64) (s2.right other)) (subst P size s3.right)
          (omega (arith, settled.free, c.requires.sound.agrees.free, t.free, c.size-size.ensures));
    }
