use Rattle.std.proofs.Common.{◌≡◌, ◌+◌, ◌-◌, ◌*◌, ◌≤◌, ℕ, Bool, false, List, length, drop}
use Rattle.plain_term.specs.Tree.{Tree}
use Rattle.term_build.specs.Taken.{IsFree}
use Rattle.item_build.specs.Reading.{has_big_item, long_bins, own_words_of, read, terms_in}
use Rattle.item_build.specs.Building.{BinsStand, HeldStand, MarksBuilt, UsesSome}
use Rattle.item_build.proofs.building.put_items.Given as goal

abbrev pub invariant-loop-i : goal.invariant-loop-i
invariant-loop-i l = record {
  from : l.i ≤ length l.code;
  within : l.sp ≤ length l.scratch;
  same_row : length l.scratch ≡ length l.initial.scratch;
  count : l.sp + terms_in (drop l.i l.code) ≡ length l.scratch;
  uses : UsesSome (own_words_of (drop l.i l.code)) l.initial.room l.room l.initial.mem l.mem;
  bin : l.bin + 6 * long_bins (drop l.i l.code) ≡ l.bins;
  built : (c : ℕ → ℕ → Bool) (shared : List (List ℕ)) (trees : List Tree) → IsFree c l.initial.room.top (l.initial.room.top + own_words_of l.code)
      → HeldStand c shared l.initial.mem l.held trees → BinsStand c shared l.initial.mem l.bins (long_bins l.code)
      → (has_big_item l.names shared trees (drop l.i l.code) ≡ false)
      × MarksBuilt c l.initial.room.top (l.room.top - l.initial.room.top) l.initial.mem l.mem shared (drop l.sp l.scratch) (read l.names shared trees (drop l.i l.code));
}

abbrev pub decreases-loop-i : goal.decreases-loop-i
decreases-loop-i l = l.i
