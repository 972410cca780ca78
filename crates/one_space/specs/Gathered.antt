-- The words of registers that are written as an environment.
use Rattle.std.specs.Prelude.{ℕ, List, slice_index}
use Rattle.plain_term.specs.declared.item.Item.{Item}
use Rattle.plain_term.specs.declared.item.Item.TheVariants.{Held}

-- The word of the register that an item names; of another item none is asked.
abbrev pub held_word : List ℕ → Item → ℕ
held_word regs (Held r) = slice_index regs r
held_word regs _ = 0
