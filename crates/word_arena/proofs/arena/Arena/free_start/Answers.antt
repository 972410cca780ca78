use Rattle.std.proofs.Common.{◌≡◌, ◌≢◌, ℕ, ◌+◌, ◌*◌, ◌/◌, ◌<◌, ◌≤◌, get_or, sym, ap, ◌∙◌, subst, arith, inl, refl}
use Rattle.word_arena.specs.Blocks.{size_at, kind_at, BlockBegins, IsBoundary}
use Rattle.word_arena.proofs.Found.Table.{begins-below}
use Rattle.word_arena.proofs.Found.Searching.{own-stop, free-from, own-none, earlier-none, earlier-last}
use Rattle.word_arena.proofs.arena.Arena.free_start.Goals as goal

pub start-own-requires-clause-inside : goal.start-own-requires-clause-inside
start-own-requires-clause-inside c =
    omega (arith, begins-below _ _ c.requires.sound.blocked c.requires.block, c.requires.sound.agrees.room.stretches, c.stretch_of-stretch.ensures)

pub free_before-requires-clause-from : goal.free_before-requires-clause-from
free_before-requires-clause-from c =
    let P : ℕ → Type 0 = λ z. IsBoundary c.args.self.now.mem z in
    let h = c.args.self.now.holes in
    let is : c.start-own.result ≡ c.args.at / 64 * 64 + get_or h.firsts.items (c.args.at / 64) 0 =
    c.start-own.ensures ∙ ap (λ (z : ℕ). z * 64 + get_or h.firsts.items z 0) c.stretch_of-stretch.ensures in
    subst P (sym is) (own-stop c.args.self.now.mem c.args.self.now.holes c.args.at c.requires.sound.blocked c.requires.sound.agrees c.requires.block)

pub free_before-requires-clause-at : goal.free_before-requires-clause-at
free_before-requires-clause-at c = omega (arith, begins-below _ _ c.requires.sound.blocked c.requires.block)

pub returns-then-own-at : goal.returns-then-own-at
returns-then-own-at c =
    let mem = c.args.self.now.mem in
    let h = c.args.self.now.holes in
    let at = c.args.at in
    let own = at / 64 * 64 + get_or h.firsts.items (at / 64) 0 in
    let is : c.start-own.result ≡ own = c.start-own.ensures ∙ ap (λ (z : ℕ). z * 64 + get_or h.firsts.items z 0) c.stretch_of-stretch.ensures in
    let N : ℕ → Type 0 = λ z. (p : ℕ) → BlockBegins mem p → z ≤ p → p < at → kind_at mem p ≡ 0 → p + size_at mem p ≢ at in
    free-from mem at c.free_before.result c.requires.sound.blocked c.free_before.ensures.place
    (λ same. own-none mem h at c.requires.sound.blocked c.requires.sound.agrees c.requires.block (omega (arith, is, c.if-own-at.true))
    (subst N is (c.free_before.ensures.none same)))

pub last_before-requires : goal.last_before-requires
last_before-requires c =
    omega (arith, begins-below _ _ c.requires.sound.blocked c.requires.block, c.requires.sound.agrees.room.stretches, c.requires.sound.agrees.room.tops, c.stretch_of-stretch.ensures)

pub returns-in_default : goal.returns-in_default
returns-in_default c =
    let mem = c.args.self.now.mem in
    let h = c.args.self.now.holes in
    let at = c.args.at in
    let is : c.start-own.result ≡ at / 64 * 64 + get_or h.firsts.items (at / 64) 0 =
    c.start-own.ensures ∙ ap (λ (z : ℕ). z * 64 + get_or h.firsts.items z 0) c.stretch_of-stretch.ensures in
    free-from mem at at c.requires.sound.blocked (inl refl)
    (λ same. earlier-none mem h at c.requires.sound.blocked c.requires.sound.agrees c.requires.block (omega (arith, is, c.if-own-at.false))
    (λ j below. c.in_default.ensures.none j (omega (arith, c.stretch_of-stretch.ensures))))

pub free_before-requires-2-clause-at : goal.free_before-requires-2-clause-at
free_before-requires-2-clause-at c = omega (arith, begins-below _ _ c.requires.sound.blocked c.requires.block)

pub returns : goal.returns
returns c =
    let mem = c.args.self.now.mem in
    let h = c.args.self.now.holes in
    let at = c.args.at in
    let k = c.in-Some.stretch in
    let s = c.in-Some.ensures in
    let is : c.start-own.result ≡ at / 64 * 64 + get_or h.firsts.items (at / 64) 0 =
    c.start-own.ensures ∙ ap (λ (z : ℕ). z * 64 + get_or h.firsts.items z 0) c.stretch_of-stretch.ensures in
    let N : ℕ → Type 0 = λ z. (p : ℕ) → BlockBegins mem p → z ≤ p → p < c.stretch_end-end.result → kind_at mem p ≡ 0 → p + size_at mem p ≢ at in
    free-from mem at c.free_before-2.result c.requires.sound.blocked c.free_before-2.ensures.place
    (λ same. earlier-last mem h at k c.stretch_end-end.result c.requires.sound.blocked c.requires.sound.agrees c.requires.block (omega (arith, is, c.if-own-at.false))
    s.some (λ j above below. s.last j above (omega (arith, c.stretch_of-stretch.ensures))) c.stretch_end-end.ensures (omega (arith, s.before, c.stretch_of-stretch.ensures))
    (subst N c.start.ensures (c.free_before-2.ensures.none same)))
