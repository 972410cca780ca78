-- What the tree of a word counts without its parts.
use Rattle.std.specs.Prelude.{◌≡◌, ℕ, ◌+◌, ◌*◌, ◌^◌, nat_lt, if◌then◌else◌, Bool, List}
use Rattle.plain_term.specs.Tree.{Tree}
use Rattle.plain_term.specs.Measures.{bin_nodes, bin_words, flat}
use Rattle.term_words.specs.Stands.{Stands, IsBase}
use Rattle.term_read.specs.declared.looks.Look.{Look}
use Rattle.term_read.specs.declared.looks.Look.TheVariants as look

-- One node, and of a binary one more for each 64 bytes.
abbrev pub nodes_in : Look → ℕ
nodes_in (look.Heap bytes) = bin_nodes bytes.len
nodes_in (look.Holder bytes) = bin_nodes bytes.len
nodes_in (look.Part part) = bin_nodes part.bytes.len
nodes_in _ = 1

-- The words of the object, and of a part of a binary also those of its original.
abbrev pub HasFlat : List ℕ → Look → ℕ → Type 0
HasFlat mem (look.Big digits) n = n ≡ (if nat_lt (digits.low + digits.high * 2 ^ 64) (2 ^ 64) then 2 else 3)
HasFlat mem (look.Ref number k) n = n ≡ 3
HasFlat mem (look.Cons place) n = n ≡ 2
HasFlat mem (look.Tuple row) n = n ≡ 1 + row.len
HasFlat mem (look.Map rows) n = n ≡ 4 + 2 * rows.len
HasFlat mem (look.Fun parts) n = n ≡ 6 + parts.env.len
HasFlat mem (look.Heap bytes) n = n ≡ 2 + bin_words bytes.len
HasFlat mem (look.Holder bytes) n = n ≡ 6
HasFlat mem (look.Part part) n = (c : ℕ → ℕ → Bool) (shared : List (List ℕ)) (base : Tree) → Stands c shared mem part.base base → IsBase base
    → n ≡ 5 + flat base
HasFlat mem _ n = n ≡ 0
