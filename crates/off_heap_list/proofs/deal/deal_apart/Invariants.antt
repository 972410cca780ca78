use Rattle.std.proofs.Common.{◌≡◌, ℕ, Bool, List, length}
use Rattle.term_words.specs.Role.{IsSingle}
use Rattle.off_heap_list.specs.Dealt.{FrontLinks}
use Rattle.off_heap_list.proofs.Walked.Parted.{Deals}
use Rattle.off_heap_list.proofs.deal.deal_apart.Given as goal

abbrev pub invariant-loop-i : goal.invariant-loop-i
invariant-loop-i l = record {
  each : (c : ℕ → ℕ → Bool) (os rest further : List ℕ) → IsSingle c → length os ≡ l.len → FrontLinks c l.initial.mem l.head os l.to rest further
      → Deals c l.initial.mem l.mem l.deal l.i os rest further l.span;
}
