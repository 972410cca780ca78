use Rattle.std.proofs.Common.{ℕ, ◌<◌, ◌≤◌, List, Option, Some, None, IfSome, IfNone, subst}
use Rattle.word_arena.specs.Blocks.{free_at, BlockBegins}
use Rattle.word_arena.specs.Calls.{NoneFits}
use Rattle.word_arena.proofs.Found.Searching.{fits-none, fits-some, fits-end}
use Rattle.word_arena.proofs.arena.Arena.first_fit.Goals as goal

any-none : (r : Option ℕ) (mem : List ℕ) (words : ℕ) → NoneFits mem words → IfNone r (NoneFits mem words)
any-none None mem words none = none
any-none (Some at) mem words none = tt

pub returns-in_err-stretch-clause-none : goal.returns-in_err-stretch-clause-none
returns-in_err-stretch-clause-none c =
    any-none c.from_residual.result c.args.self.now.mem c.args.words
    (fits-none c.args.self.now.mem c.args.self.now.holes c.args.words c.requires.sound.blocked c.requires.sound.agrees c.in_err-stretch.ensures.none)

pub returns-clause-first : goal.returns-clause-first
returns-clause-first c =
    let mem = c.args.self.now.mem in
    let h = c.args.self.now.holes in
    let i = c.in_ok-stretch.stretch in
    let e = c.start.ensures in
    let I : ℕ → Type 0 = λ z. IfSome c.first_fit.result (λ at. (z ≤ at) × (at < c.stretch_end-end.result)) in
    let F : ℕ → Type 0 = λ z. IfSome c.first_fit.result (λ at. (p : ℕ) → BlockBegins mem p → z ≤ p → p < at → free_at mem p < c.args.words) in
    fits-some mem h i c.stretch_end-end.result c.args.words c.first_fit.result c.requires.sound.blocked c.requires.sound.agrees c.requires.words
    c.in_ok-stretch.ensures.first c.stretch_end-end.ensures c.first_fit.ensures.begins (subst I e c.first_fit.ensures.inside) c.first_fit.ensures.fits
    (subst F e c.first_fit.ensures.first)

pub returns-clause-none : goal.returns-clause-none
returns-clause-none c =
    let mem = c.args.self.now.mem in
    let h = c.args.self.now.holes in
    let N : ℕ → Type 0 = λ z. IfNone c.first_fit.result ((p : ℕ) → BlockBegins mem p → z ≤ p → p < c.stretch_end-end.result → free_at mem p < c.args.words) in
    fits-end mem h c.in_ok-stretch.stretch c.stretch_end-end.result c.args.words c.first_fit.result c.requires.sound.blocked c.requires.sound.agrees c.requires.words
    c.in_ok-stretch.ensures.fits c.stretch_end-end.ensures (subst N c.start.ensures c.first_fit.ensures.none)
