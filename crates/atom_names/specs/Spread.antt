-- The slot at which the search for a name begins.
use Rattle.std.specs.Prelude.{ℕ, ◌*◌, ◌/◌, ◌%◌, ◌^◌, bit_xor, List, [], ◌∷◌}

-- One byte more: it is put into the lowest byte, then the whole is multiplied.
abbrev pub mixed : ℕ → ℕ → ℕ
mixed h b = bit_xor h b * 16777619 % 2 ^ 32

-- All bytes of a text, one after another.
abbrev pub mixed_all : ℕ → List ℕ → ℕ
mixed_all h [] = h
mixed_all h (b ∷ bs) = mixed_all (mixed h b) bs

-- The upper 16 of the 32 bits say the slot.
unfoldable pub first_slot : List ℕ → ℕ
first_slot name = mixed_all 2166136261 name / 2 ^ 16
