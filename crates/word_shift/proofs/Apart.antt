-- A row that was relocated, while other words are written before it or after it.
use Rattle.std.proofs.Common.{◌≡◌, ℕ, ◌+◌, ◌/◌, ◌<◌, ◌≤◌, true, List, [], ◌∷◌, get_or, refl, sym, ◌∙◌, subst, arith, inl, inr}
use Rattle.term_words.specs.Object.{IsPointer, object_words}
use Rattle.term_words.specs.Reach.{first_traced}
use Rattle.term_words.specs.Counted.{In}
use Rattle.term_words.specs.Tiled.{Tiled, tile_words}
use Rattle.term_words.proofs.Placing.Roles.{object-some}
use Rattle.term_words.proofs.Placing.Tiles.{tiled-order}
use Rattle.off_heap_list.specs.Links.{name_place}
use Rattle.object_rows.specs.Row.{AreObjects, is_link}
use Rattle.object_rows.proofs.Rows.{Next, tile-object}
use Rattle.word_shift.specs.Shifted.{ObjectShifted, RowShifted}
use Rattle.word_shift.proofs.Objects.{name-near}
use Rattle.word_shift.proofs.Walk.{first-by, link-by, link-long, name-by, shift-stays, shift-within, tile-by, words-by}

-- An object of a row lies within it, and one that leads on has six words.
pub record Within (mem : List ℕ) (from to w : ℕ) : Type 0 where
  pub low : from ≤ w / 4
  pub high : w / 4 + object_words mem w ≤ to
  pub long : is_link mem w ≡ true → 6 ≤ object_words mem w

pub within-row : (mem : List ℕ) (from to : ℕ) (ws : List ℕ) → AreObjects mem from ws to → (w : ℕ) → In w ws → Within mem from to w
within-row mem from to [] are w i = absurd i
within-row mem from to (v ∷ vs) are w i =
    let y : IsPointer v = are.objects v (inl refl) in
    let (place, tile, rest) = are.row in
    let P : ℕ → Type 0 = λ n. Tiled mem (from + n) vs to in
    let later : AreObjects mem (from + object_words mem v) vs to = record { row = subst P (tile-object mem v y) rest; objects = λ u j. are.objects u (inr j) } in
    let x : Next mem from (v ∷ vs) to = record { w = v; later = vs; is = refl; place = place; pointer = y; tile = tile; are = later } in
    let Q : ℕ → Type 0 = λ u. Within mem from to u in
    elim i [
      | inl e ↦ subst Q (sym e) (record {
        low = omega (arith, place);
        high = omega (arith, place, tiled-order mem (from + object_words mem v) to vs later.row);
        long = link-long mem from (v ∷ vs) to x;
      })
      | inr j ↦
          let z : Within mem (from + object_words mem v) to w = within-row mem (from + object_words mem v) to vs later w j in
          record { low = omega (arith, z.low); high = z.high; long = z.long }
    ]

-- It is a row in a memory that has the same words there.
pub row-same : (old now : List ℕ) (from to : ℕ) (ws : List ℕ) → AreObjects old from ws to → ((q : ℕ) → from ≤ q → q < to → get_or now q 0 ≡ get_or old q 0) → AreObjects now from ws to
row-same old now from to [] are same = record { row = are.row; objects = are.objects }
row-same old now from to (v ∷ vs) are same =
    let y : IsPointer v = are.objects v (inl refl) in
    let (place, tile, rest) = are.row in
    let P : ℕ → Type 0 = λ n. Tiled old (from + n) vs to in
    let later : AreObjects old (from + object_words old v) vs to = record { row = subst P (tile-object old v y) rest; objects = λ u j. are.objects u (inr j) } in
    let order : from + object_words old v ≤ to = tiled-order old (from + object_words old v) to vs later.row in
    let header : get_or now (v / 4) 0 ≡ get_or old (v / 4) 0 = same (v / 4) (omega (arith, place)) (omega (arith, place, order, object-some old v)) in
    let size : object_words old v ≡ tile_words now v = sym (tile-object now v y ∙ words-by old now v header) in
    let z : AreObjects now (from + object_words old v) vs to = row-same old now (from + object_words old v) to vs later (λ q low high. same q (omega (arith, low)) high) in
    let R : ℕ → Type 0 = λ n. Tiled now (from + n) vs to in
    record { row = (place, tile-by old now v header tile, subst R size z.row); objects = are.objects }

-- What was relocated there stays so while its words stay.
pub row-stays : (g : ℕ → ℕ) (old now new : List ℕ) (from to : ℕ) (ws : List ℕ) → AreObjects old from ws to → RowShifted g old now from to ws
    → ((q : ℕ) → from ≤ q → q < to → get_or new q 0 ≡ get_or now q 0) → (w : ℕ) → In w ws → ObjectShifted g old new w
row-stays g old now new from to ws are s same w i =
    let z : Within old from to w = within-row old from to ws are w i in
    shift-stays g old now new (w / 4) (first_traced old w) (object_words old w) (name_place old (w / 4)) (is_link old w) z.long (name-near old (w / 4))
    (λ q low high. same q (omega (arith, low, z.low)) (omega (arith, high, z.high))) (s.each w i)

-- What was relocated over a memory that had the same words there was relocated over the first one.
pub row-from : (g : ℕ → ℕ) (old now new : List ℕ) (from to : ℕ) (ws : List ℕ) → AreObjects old from ws to → RowShifted g now new from to ws
    → ((q : ℕ) → from ≤ q → q < to → get_or now q 0 ≡ get_or old q 0) → (w : ℕ) → In w ws → ObjectShifted g old new w
row-from g old now new from to ws are s same w i =
    let z : Within old from to w = within-row old from to ws are w i in
    let header : get_or now (w / 4) 0 ≡ get_or old (w / 4) 0 = same (w / 4) z.low (omega (arith, z.high, object-some old w)) in
    shift-within g old now new (w / 4) (first_traced now w) (first_traced old w) (object_words now w) (object_words old w) (name_place now (w / 4)) (name_place old (w / 4))
    (is_link now w) (is_link old w) (first-by old now w header) (words-by old now w header) (name-by old now (w / 4) header) (link-by old now w header) z.long (name-near old (w / 4))
    (λ q low high. same q (omega (arith, low, z.low)) (omega (arith, high, z.high))) (s.each w i)
