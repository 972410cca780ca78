use Rattle.std.proofs.Common.{◌≡◌, ◌≢◌, ℕ, ◌+◌, ◌-◌, ◌/◌, ◌<◌, ◌≤◌, ◌⊎◌, List, ap, refl, sym, ◌∙◌, subst, inl, inr, arith}
use Rattle.std.proofs.lemmas.Bool.{cases_eq}
use Rattle.word_arena.specs.Blocks.{size_at, BlockBegins}
use Rattle.word_arena.specs.Changes.{Shortened}
use Rattle.word_arena.specs.Stretches.{Settled, Right}
use Rattle.word_arena.proofs.Side.Facts.{block-within}
use Rattle.word_arena.proofs.Side.Summing.{free_of-most}
use Rattle.word_arena.proofs.Found.Table.{frame-first, settled-then, agrees-again}
use Rattle.word_arena.proofs.Found.Searching.{right-at}
use Rattle.word_arena.proofs.arena.Arena.cut.Goals as goal
use Rattle.word_arena.proofs.arena.Arena.cut.Goals.{then-words-size, else-words-size}

pub settle_at-requires-clause-first : goal.settle_at-requires-clause-first
settle_at-requires-clause-first c =
    let at = c.args.at in
    let was = c.requires.block.begins in
    let t = c.shorten.ensures in
    frame-first c.args.self.now.mem c.shorten.new.mem at (at + c.args.words) (at + size_at c.args.self.now.mem at) _ t.frame (omega arith) (omega arith) was t.block.begins
    (right-at c.args.self.now.mem c.args.self.now.holes at c.requires.sound.blocked c.requires.sound.agrees was).first

pub overflow_add-at : goal.overflow_add-at
overflow_add-at c =
    let w = block-within c.args.self.now.mem c.args.at c.requires.sound.blocked c.requires.block.begins in
    omega (arith, w.to, c.requires.most, c.requires.sound.agrees.room.stretches, c.requires.sound.agrees.room.few)

pub overflow_add-last : goal.overflow_add-last
overflow_add-last c =
    let w = block-within c.args.self.now.mem c.args.at c.requires.sound.blocked c.requires.block.begins in
    omega (arith, w.to, c.requires.most, c.requires.sound.agrees.room.stretches, c.requires.sound.agrees.room.few)

pub overflow_add-at-2 : goal.overflow_add-at-2
overflow_add-at-2 c =
    let w = block-within c.args.self.now.mem c.args.at c.requires.sound.blocked c.requires.block.begins in
    omega (arith, w.to, c.size-size.ensures, c.requires.sound.agrees.room.stretches, c.requires.sound.agrees.room.few)

-- The last block that was written: the rest, where there is one, else the block itself.
record IsLast (old new : List ℕ) (at words last : ℕ) : Type 0 where
  pub begins : BlockBegins new last
  pub place : (last ≡ at) ⊎ (last ≡ at + words)
  pub low : last ≤ at + size_at old at
  pub high : at + size_at old at ≤ last + size_at new last

rest-last : (old new : List ℕ) (at words last : ℕ) → Shortened old new at words → last ≡ at + words → words < size_at old at → IsLast old new at words last
rest-last old new at words last t is below =
    let P : ℕ → Type 0 = λ z. IsLast old new at words z in
    let r = t.rest below in
    subst P (sym is) (record { begins = r.0; place = inr refl; low = omega arith; high = r.1 })

whole-last : (old new : List ℕ) (at words last : ℕ) → Shortened old new at words → last ≡ at → words ≡ size_at old at → IsLast old new at words last
whole-last old new at words last t is all =
    let P : ℕ → Type 0 = λ z. IsLast old new at words z in
    subst P (sym is) (record { begins = t.block.begins; place = inl refl; low = omega arith; high = omega (arith, t.block.has_words) })

last-is : (old new : List ℕ) (at words size last : ℕ) → Shortened old new at words → size ≡ size_at old at → words ≤ size_at old at
    → ((last ≡ at + words) × (words < size)) ⊎ ((last ≡ at) × (size ≤ words)) → IsLast old new at words last
last-is old new at words size last t same most (inl (is, below)) = rest-last old new at words last t is (omega arith)
last-is old new at words size last t same most (inr (is, all)) = whole-last old new at words last t is (omega arith)

last-right : (old new f t : List ℕ) (at words last c : ℕ) → IsLast old new at words last → ((at + words) / 64 ≢ at / 64 → Right new f t ((at + words) / 64))
    → (c / 64 ≢ last / 64 → Right new f t (c / 64)) → c / 64 ≢ at / 64 → Right new f t (c / 64)
last-right old new f t at words last c is second third other =
    elim is.place as (λ _. Right new f t (c / 64)) [
      | inl same ↦ third (λ e. other (e ∙ ap (λ (z : ℕ). z / 64) same))
      | inr rest ↦ elim (cases_eq (c / 64) (last / 64)) as (λ _. Right new f t (c / 64)) [
        | inl one ↦ (
            let place : c / 64 ≡ (at + words) / 64 = one ∙ ap (λ (z : ℕ). z / 64) rest in
            let P : ℕ → Type 0 = λ z. Right new f t z in
            subst P (sym place) (second (λ e. other (place ∙ e))))
        | inr two ↦ third two
      ]
    ]

pub settle_behind-requires-2-clause-block : goal.settle_behind-requires-2-clause-block
settle_behind-requires-2-clause-block c = (last-is c.args.self.now.mem c.shorten.new.mem c.args.at c.args.words c.size-size.result c.if-words-size.last c.shorten.ensures c.size-size.ensures
    c.requires.most (elim c.if-words-size.branch [ then-words-size w ↦ inl (w.last-is, w.if-words-size.true) | else-words-size w ↦ inr (w.last-is, w.if-words-size.false) ])).begins

pub settle_behind-requires-2-clause-place : goal.settle_behind-requires-2-clause-place
settle_behind-requires-2-clause-place c =
    let is = last-is c.args.self.now.mem c.shorten.new.mem c.args.at c.args.words c.size-size.result c.if-words-size.last c.shorten.ensures c.size-size.ensures c.requires.most
    (elim c.if-words-size.branch [ then-words-size w ↦ inl (w.last-is, w.if-words-size.true) | else-words-size w ↦ inr (w.last-is, w.if-words-size.false) ]) in
    (omega (arith, is.low, c.size-size.ensures), omega (arith, is.high, c.size-size.ensures))

pub overflow_add-self : goal.overflow_add-self
overflow_add-self c =
    let t = c.shorten.ensures in
    omega (
      arith,
      free_of-most c.shorten.new.mem t.blocked,
      t.free,
      t.others.same_len,
      c.size-size.ensures,
      c.requires.most,
      c.requires.sound.agrees.free,
      c.settle_at.ensures.settled.free,
      c.settle_behind.ensures.settled.free,
      c.settle_behind-2.ensures.settled.free,
      c.requires.sound.agrees.room.stretches,
      c.requires.sound.agrees.room.few,
    )

pub returns-clause-sound : goal.returns-clause-sound
returns-clause-sound c =
    let at = c.args.at in
    let new = c.shorten.new.mem in
    let h = c.args.self.now.holes in
    let h3 = c.settle_behind-2.new.self in
    let t = c.shorten.ensures in
    let s1 = c.settle_at.ensures in
    let s2 = c.settle_behind.ensures in
    let s3 = c.settle_behind-2.ensures in
    let end_of_block = at + size_at c.args.self.now.mem at in
    let is = last-is c.args.self.now.mem new at c.args.words c.size-size.result c.if-words-size.last t c.size-size.ensures c.requires.most
    (elim c.if-words-size.branch [ then-words-size w ↦ inl (w.last-is, w.if-words-size.true) | else-words-size w ↦ inr (w.last-is, w.if-words-size.false) ]) in
    let settled : Settled new h h3 =
    settled-then new h c.settle_at.new.self h3 s1.settled (settled-then new c.settle_at.new.self c.settle_behind.new.self h3 s2.settled s3.settled) in
    let second : (at + c.args.words) / 64 ≢ at / 64 → Right new h3.firsts.items h3.tops ((at + c.args.words) / 64) =
    λ other. s3.settled.keeps ((at + c.args.words) / 64) (s2.right other) in
    let P : ℕ → Type 0 = λ z. (at + z) / 64 ≢ c.if-words-size.last / 64 → Right new h3.firsts.items h3.tops ((at + z) / 64) in
    record {
      blocked = t.blocked;
      agrees = agrees-again c.args.self.now.mem new h h3 at (at + c.args.words) end_of_block (h3.free + (c.size-size.result - c.args.words))
          c.requires.sound.agrees settled t.frame (s3.settled.keeps (at / 64) (s2.settled.keeps (at / 64) s1.right)) second
          (last-right c.args.self.now.mem new h3.firsts.items h3.tops at c.args.words c.if-words-size.last end_of_block is second (subst P c.size-size.ensures s3.right))
          (omega (arith, settled.free, c.requires.sound.agrees.free, t.free, c.size-size.ensures, c.requires.most));
    }
