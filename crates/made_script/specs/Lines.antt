-- The line of what was drawn.
use Rattle.std.specs.Prelude.{ℕ, ◌+◌, ◌%◌, ◌==◌, if◌then◌else◌, List, [], ◌∷◌, codes, decimal}
use Rattle.std.specs.List.{concat, slice_index_or}
use Rattle.made_script.specs.declared.draws.Drawn.{Drawn}

-- the lines of process p with the registers a and b, the value x and the receiver q, one for each row that is drawn, and
-- four for the last of them
abbrev pub rows : (p a b x q : List ℕ) → List (List (List ℕ))
rows p a b x q =
    (p ∷ codes " set " ∷ a ∷ codes " " ∷ x ∷ [])
    ∷ (p ∷ codes " set " ∷ a ∷ codes " [" ∷ x ∷ codes ",a,b]" ∷ [])
    ∷ (p ∷ codes " set " ∷ a ∷ codes " {pair,$" ∷ b ∷ codes "}" ∷ [])
    ∷ (p ∷ codes " set " ∷ a ∷ codes " #{k=>" ∷ x ∷ codes ",n=>$" ∷ b ∷ codes "}" ∷ [])
    ∷ (p ∷ codes " fill " ∷ a ∷ codes " " ∷ x ∷ codes " 7" ∷ [])
    ∷ (p ∷ codes " part " ∷ a ∷ codes " " ∷ b ∷ codes " 0 1" ∷ [])
    ∷ (p ∷ codes " hd " ∷ a ∷ codes " " ∷ b ∷ [])
    ∷ (p ∷ codes " elem " ∷ a ∷ codes " 2 " ∷ b ∷ [])
    ∷ (p ∷ codes " send " ∷ a ∷ codes " " ∷ q ∷ [])
    ∷ (p ∷ codes " recv " ∷ a ∷ [])
    ∷ (p ∷ codes " recv " ∷ a ∷ [])
    ∷ (p ∷ codes " print " ∷ a ∷ [])
    ∷ (p ∷ codes " push " ∷ a ∷ [])
    ∷ (p ∷ codes " pop " ∷ a ∷ [])
    ∷ (p ∷ codes " lit " ∷ a ∷ codes " base 1" ∷ [])
    ∷ (p ∷ codes " gc minor" ∷ [])
    ∷ (p ∷ codes " gc major" ∷ [])
    ∷ (p ∷ codes " cmp " ∷ a ∷ codes " " ∷ b ∷ [])
    ∷ (p ∷ codes " flat " ∷ a ∷ [])
    ∷ []

-- the row of what was drawn: the last row drawn is four, by the value modulo 4
abbrev pub drawn_row : Drawn → ℕ
drawn_row d = if d.row == 15 then 15 + d.value % 4 else d.row

-- the receiver of a message, from 1 to 8, by the value
abbrev pub receiver_of : Drawn → ℕ
receiver_of d = 1 + d.value % 8

-- the rows with the numbers drawn, in decimal
abbrev pub rows_of : Drawn → List (List (List ℕ))
rows_of d = rows (decimal d.process) (decimal d.first) (decimal d.second) (decimal d.value) (decimal (receiver_of d))

-- the line of what was drawn
unfoldable pub line_of : Drawn → List ℕ
line_of d = concat (slice_index_or (rows_of d) (drawn_row d) [])
