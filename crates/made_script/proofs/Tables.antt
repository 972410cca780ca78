-- The tables of the code, and the lines that are left.
use Rattle.std.proofs.Common.{◌≡◌, ◌∙◌, ◌<◌, ◌≤◌, ◌+◌, ◌-◌, ◌++◌, ℕ, zero, suc, true, sym, ap, arith, List, [], ◌∷◌, drop, length, map, nat_le, leb-true, slice_index_or, drop-cons, drop_of_length-le}
use Rattle.std.specs.List.{list_all}
use Rattle.std.proofs.lemmas.List.{get_or-map}
use Rattle.std.proofs.lemmas.List.Sums.{AllPass-from_list_all}
use Rattle.rand_pcg.specs.Lcg.{Lcg}
use Rattle.made_script.specs.Draws.{drawn, after_draws}
use Rattle.made_script.specs.Lines.{line_of}
use Rattle.made_script.specs.Script.{opening_lines, lines_from}
use Rattle.made_script.specs.declared.lines.TheConstants.{LINE_ROOM}

-- an entry of a table has room on an empty line, where all of them have
pub has-room : {X : Type 0} (size : X → ℕ) (table : List X) (i : ℕ) (other : X) (line : List ℕ) → line ≡ []
    → list_all (λ x. nat_le (size x) LINE_ROOM) table ≡ true → i < length table → length line + size (slice_index_or table i other) ≤ LINE_ROOM
has-room size table i other line empty fit lt =
    let fits = leb-true _ LINE_ROOM (AllPass-from_list_all (λ x. nat_le (size x) LINE_ROOM) table fit i other lt) in
    omega (arith, fits, ap length empty)

-- what is put on an empty line is the line
pub alone : {line text : List ℕ} (empty : List ℕ) → line ≡ empty ++ text → empty ≡ [] → line ≡ text
alone {line} {text} empty put none = put ∙ ap (λ (front : List ℕ). front ++ text) none

-- the texts of an entry of a table
pub text-at : {X Y : Type 0} (text : X → List Y) (table : List X) (i : ℕ) (other : X) → i < length table
    → text (slice_index_or table i other) ≡ slice_index_or (map text table) i []
text-at text table i other lt = sym (get_or-map text table i other [] lt)

-- the next line of the opening
pub next-opening : (i : ℕ) (rest : List (List ℕ)) → i < 8
    → drop i opening_lines ++ rest ≡ slice_index_or opening_lines i [] ∷ (drop (i + 1) opening_lines ++ rest)
next-opening i rest low =
    let step : suc i ≡ i + 1 = omega arith in
    ap (λ (ls : List (List ℕ)). ls ++ rest) (drop-cons opening_lines i [] low ∙ ap (λ (k : ℕ). slice_index_or opening_lines i [] ∷ drop k opening_lines) step)

-- the opening is over
pub opening-over : (i : ℕ) (rest : List (List ℕ)) → 8 ≤ i → drop i opening_lines ++ rest ≡ rest
opening-over i rest le = ap (λ (ls : List (List ℕ)). ls ++ rest) (drop_of_length-le opening_lines le)

-- the next line that is drawn
pub next-drawn : (n : ℕ) (g : Lcg) → 0 < n → lines_from n g ≡ line_of (drawn g) ∷ lines_from (n - 1) (after_draws g)
unfolding lines_from
next-drawn zero g lt = absurd (omega arith)
next-drawn (suc n) g lt =
    let less : suc n - 1 ≡ n = omega arith in
    ap (λ (m : ℕ). line_of (drawn g) ∷ lines_from m (after_draws g)) (sym less)
