use Rattle.std.proofs.Common.{◌+◌, ◌-◌, ◌/◌, ◌≤◌, ◌⊎◌, arith, refl, inl, inr}
use Rattle.word_arena.specs.Blocks.{size_at}
use Rattle.word_arena.specs.Stretches.{Settled}
use Rattle.word_arena.proofs.Side.Facts.{block-within, free-beside}
use Rattle.word_arena.proofs.Found.Table.{frame-first, settled-then, agrees-again}
use Rattle.word_arena.proofs.Found.Searching.{right-at}
use Rattle.word_arena.proofs.arena.Arena.take.Goals as goal

pub settle_at-requires-clause-first : goal.settle_at-requires-clause-first
settle_at-requires-clause-first c =
    let at = c.in_ok-at.at in
    let was = c.in_ok-at.ensures.first.begins in
    let t = c.carve.ensures in
    frame-first c.args.self.now.mem c.carve.new.mem at at (at + c.args.words) _ t.frame (omega arith) (omega arith) was t.block.begins
    (right-at c.args.self.now.mem c.args.self.now.holes at c.requires.sound.blocked c.requires.sound.agrees was).first

pub overflow_add-at : goal.overflow_add-at
overflow_add-at c =
    let f = c.in_ok-at.ensures.first in
    let w = block-within c.args.self.now.mem c.in_ok-at.at c.requires.sound.blocked f.begins in
    omega (arith, f.fits, w.to, c.requires.sound.agrees.room.stretches, c.requires.sound.agrees.room.few)

pub returns-clause-sound : goal.returns-clause-sound
returns-clause-sound c =
    let at = c.in_ok-at.at in
    let new = c.carve.new.mem in
    let h = c.args.self.now.holes in
    let t = c.carve.ensures in
    let s = c.settle_behind.ensures in
    let settled : Settled new h c.settle_behind.new.self = settled-then new h c.settle_at.new.self c.settle_behind.new.self c.settle_at.ensures.settled s.settled in
    record {
      blocked = t.blocked;
      agrees = agrees-again c.args.self.now.mem new h c.settle_behind.new.self at at (at + c.args.words) (c.settle_behind.new.self.free - c.args.words)
          c.requires.sound.agrees settled t.frame (s.settled.keeps (at / 64) c.settle_at.ensures.right) (λ other. absurd (other refl)) s.right
          (omega (arith, settled.free, c.requires.sound.agrees.free, t.free));
    }

pub returns-clause-beside : goal.returns-clause-beside
returns-clause-beside c = λ p used.
    let f = c.in_ok-at.ensures.first in
    let o = free-beside c.args.self.now.mem c.in_ok-at.at p c.requires.sound.blocked f.begins used.begins f.free used.kind in
    elim o as (λ _. (p + size_at c.args.self.now.mem p ≤ c.in_ok-at.at) ⊎ (c.in_ok-at.at + c.args.words ≤ p)) [ inl x ↦ inl x | inr y ↦ inr (omega (arith, y, f.fits)) ]
