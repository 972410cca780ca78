use Rattle.std.proofs.Common.{◌≡◌, ℕ, ◌-◌, ◌*◌, ◌<◌, ◌≤◌, List, length, set, refl, sym, subst, arith, inl, inr}
use Rattle.std.proofs.lemmas.Bool.{cases_lt}
use Rattle.std.proofs.lemmas.List.{length-set}
use Rattle.word_arena.specs.Stretches.{Right}
use Rattle.word_arena.proofs.Side.Facts.{free-most, block-within}
use Rattle.word_arena.proofs.Found.Table.{first-right, top-right, start-next, written-right, written-keeps}
use Rattle.word_arena.proofs.holes.Holes.settle.Goals as goal
use Rattle.word_arena.proofs.holes.Holes.settle.Goals.{then-from-end, else-from-end}

pub set-requires-clause-fits : goal.set-requires-clause-fits
set-requires-clause-fits c =
    elim (cases_lt 0 c.greatest-walk.result.most) as (λ _. c.greatest-walk.result.most < 4294967296) [
      | inl some ↦ (let m = c.greatest-walk.ensures.met some in
          omega (arith, free-most c.args.mem.now m.0, m.4, (block-within _ _ c.requires.blocked m.1).to, c.requires.room.stretches, c.requires.room.few))
      | inr none ↦ omega arith
    ]

inner : (c : goal.After-self-1) → c.args.from < c.stretch_end-end.result → c.if-from-end.first ≡ c.args.from - c.args.stretch * 64
inner c below = elim c.if-from-end.branch [ then-from-end w ↦ w.first-is | else-from-end w ↦ absurd (omega (arith, w.if-from-end.false)) ]

outer : (c : goal.After-self-1) → c.stretch_end-end.result ≤ c.args.from → c.if-from-end.first ≡ 64
outer c above = elim c.if-from-end.branch [ then-from-end w ↦ absurd (omega (arith, w.if-from-end.true)) | else-from-end w ↦ w.first-is ]

here : (c : goal.After-self-1) → Right c.args.mem.now (set c.args.self.now.firsts.items c.args.stretch c.if-from-end.first) c.set.new.self c.args.stretch
here c =
    let P : List ℕ → Type 0 = λ z. Right c.args.mem.now (set c.args.self.now.firsts.items c.args.stretch c.if-from-end.first) z c.args.stretch in
    let w = c.greatest-walk in
    subst P (sym c.set.ensures)
    (written-right c.args.mem.now c.args.self.now.firsts.items c.args.self.now.tops c.args.stretch c.if-from-end.first w.result.most
    c.requires.inside (omega (arith, c.requires.room.tops))
    (first-right c.args.mem.now c.args.stretch c.args.from c.stretch_end-end.result c.if-from-end.first c.requires.blocked c.requires.start c.stretch_end-end.ensures (inner c) (outer c))
    (top-right c.args.mem.now c.args.stretch c.args.from c.stretch_end-end.result w.result.most c.requires.blocked c.requires.start c.stretch_end-end.ensures w.ensures.above w.ensures.met))

pub returns-clause-right : goal.returns-clause-right
returns-clause-right c = here c

pub returns-clause-settled : goal.returns-clause-settled
returns-clause-settled c =
    let mem = c.args.mem.now in
    let firsts = c.args.self.now.firsts.items in
    let tops = c.args.self.now.tops in
    let t = c.greatest-walk.result.most in
    let f = c.if-from-end.first in
    let i = c.args.stretch in
    let Q : List ℕ → Type 0 = λ z. Right mem (set firsts i f) z i in
    let P : List ℕ → Type 0 = λ z. (j : ℕ) → Right mem firsts tops j → Right mem (set firsts i f) z j in
    let lens : length c.set.new.self ≡ length tops = rw c.set.ensures (length-set tops i t) in
    let firsts_len : length (set firsts i f) ≡ length firsts = length-set firsts i f in
    record {
      room = record {
        stretches = omega (arith, c.requires.room.stretches, firsts_len);
        tops = omega (arith, c.requires.room.tops, lens, firsts_len);
        few = omega (arith, c.requires.room.few, firsts_len);
      };
      same_len = firsts_len;
      keeps = subst P (sym c.set.ensures) (written-keeps mem firsts tops i f t (subst Q c.set.ensures (here c)));
      free = refl;
    }

pub returns-clause-next : goal.returns-clause-next
returns-clause-next c = start-next c.args.mem.now c.args.stretch c.args.from c.stretch_end-end.result c.greatest-walk.result.at c.requires.start c.stretch_end-end.ensures
    c.greatest-walk.ensures.stop c.greatest-walk.ensures.past c.greatest-walk.ensures.next
