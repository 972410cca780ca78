use Rattle.std.proofs.Common.{◌≡◌, ℕ, ◌<◌, ◌≤◌, List, arith, inl, inr}
use Rattle.std.proofs.lemmas.Bool.{cases_lt}
use Rattle.std.proofs.lemmas.Bool.Decides.{nat_tests}
use Rattle.word_arena.specs.Blocks.{free_at, BlockBegins}
use Rattle.word_arena.proofs.Side.Facts.{walked}
use Rattle.word_arena.proofs.blocks.greatest.Goals as goal

abbrev Met : List ℕ → ℕ → ℕ → ℕ → Type 0
Met mem from end most = (p : ℕ) × BlockBegins mem p × (from ≤ p) × (p < end) × (free_at mem p ≡ most)

pub loop-at-preserved : goal.loop-at-preserved
loop-at-preserved c =
    let here : BlockBegins c.args.mem.now c.loop-at.at = c.loop-at.invariant.stop.begins (omega arith) in
    let upper : c.loop-at.most ≤ c.max-most.result = grind (arith, nat_tests, c.max-most.ensures) in
    let also : c.free.result ≤ c.max-most.result = grind (arith, nat_tests, c.max-most.ensures) in
    record {
      stop = c.next-at.ensures.stop;
      from = omega (arith, c.loop-at.invariant.from, c.next-at.ensures.after);
      above = λ p begins low high.
          walked (λ z. free_at c.args.mem.now z ≤ c.max-most.result) c.args.mem.now c.args.from c.loop-at.at c.requires.blocked here
          (λ q is from to. omega (arith, c.loop-at.invariant.above q is from to, upper)) (omega (arith, also, c.free.ensures))
          p begins low (omega (arith, high, c.next-at.ensures.value));
      inner = λ p begins low high.
          walked (λ z. z < c.args.end) c.args.mem.now c.args.from c.loop-at.at c.requires.blocked here
          c.loop-at.invariant.inner c.loop-at-test.true p begins low (omega (arith, high, c.next-at.ensures.value));
      met = λ some. elim (cases_lt c.loop-at.most c.free.result) as (λ _. Met c.args.mem.now c.args.from c.args.end c.max-most.result) [
        | inl more ↦ (let e : free_at c.args.mem.now c.loop-at.at ≡ c.max-most.result = grind (arith, nat_tests, c.max-most.ensures, c.free.ensures, more) in
            (c.loop-at.at, here, c.loop-at.invariant.from, c.loop-at-test.true, e))
        | inr less ↦ (let e : c.loop-at.most ≡ c.max-most.result = grind (arith, nat_tests, c.max-most.ensures, less) in
            let m = c.loop-at.invariant.met (omega (arith, e, some)) in
            (m.0, m.1, m.2, m.3, omega (arith, m.4, e)))
      ];
    }

pub returns-clause-next : goal.returns-clause-next
returns-clause-next c = λ p begins from past.
    elim (cases_lt p c.loop-at.at) as (λ _. c.loop-at.at ≤ p) [
      | inl below ↦ absurd (omega (arith, c.loop-at.invariant.inner p begins from below, past))
      | inr above ↦ above
    ]
