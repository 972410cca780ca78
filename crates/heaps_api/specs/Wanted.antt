-- How many words are wanted.
use Rattle.std.specs.Prelude.{◌≡◌, ℕ, ◌+◌, ◌<◌, List, length}
use Rattle.plain_machine.specs.declared.costs.TheConstants.{MESSAGE_COST, PROCESS_COST}
use Rattle.heaps_api.specs.declared.wanted.Want.{Want}
use Rattle.heaps_api.specs.declared.wanted.Want.TheVariants as want

-- The words that a line asks for.
abbrev pub words_of_want : Want → ℕ
words_of_want (want.Words row n records) = n + records
words_of_want (want.Message row size) = MESSAGE_COST + size
words_of_want want.Process = PROCESS_COST

-- The row for which they are wanted is one of these.
abbrev pub HasWantedRow : Want → List ℕ → Type 0
HasWantedRow (want.Words row n records) numbers = row < length numbers
HasWantedRow (want.Message row size) numbers = row < length numbers
HasWantedRow want.Process numbers = Unit {0}
