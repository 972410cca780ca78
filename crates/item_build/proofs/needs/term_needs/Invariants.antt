use Rattle.std.proofs.Common.{◌≡◌, ◌-◌, ◌≤◌, ◌^◌, length, drop, min}
use Rattle.item_build.specs.Reading.{far_words_of, heap_words_of}
use Rattle.item_build.proofs.needs.term_needs.Given as goal

abbrev pub invariant-loop-i : goal.invariant-loop-i
invariant-loop-i l = (l.i ≤ length l.code) × ((l.heap ≡ min (heap_words_of (drop l.i l.code)) (2 ^ 64 - 1)) × (l.far ≡ min (far_words_of (drop l.i l.code)) (2 ^ 64 - 1)))

abbrev pub decreases-loop-i : goal.decreases-loop-i
decreases-loop-i l = l.i
