-- What a copy of a range within a list leaves, as one list.
use Rattle.std.proofs.Common.{◌≡◌, ℕ, ◌+◌, ◌-◌, ◌<◌, ◌≤◌, ◌⊎◌, inl, inr, List, ◌++◌, length, get_or, take, drop, sym, ◌∙◌, ap, arith, length-append, length-take, length-drop}
use Rattle.std.specs.Prelude.{slice_range}
use Rattle.std.proofs.lemmas.List.{ext_get_or, get_or_append_left, get_or-take, get_or-drop}
use Rattle.std.proofs.Math.Seq.{get_or-append_right}
use Rattle.std.proofs.lemmas.Bool.{cases_lt}

-- the read of three lists joined, where the first two have a and b elements
joined-first : (xs ys zs : List ℕ) (i : ℕ) → i < length xs → get_or (xs ++ ys ++ zs) i 0 ≡ get_or xs i 0
joined-first xs ys zs i h =
    let h2 : i < length (xs ++ ys) = omega (arith, length-append xs ys) in
    get_or_append_left (xs ++ ys) zs 0 i h2 ∙ get_or_append_left xs ys 0 i h

joined-second : (xs ys zs : List ℕ) (i k : ℕ) → k < length ys → i ≡ length xs + k → get_or (xs ++ ys ++ zs) i 0 ≡ get_or ys k 0
joined-second xs ys zs i k h e =
    let h2 : i < length (xs ++ ys) = omega (arith, length-append xs ys) in
    let low : length xs ≤ i = omega arith in
    let at : i - length xs ≡ k = omega arith in
    get_or_append_left (xs ++ ys) zs 0 i h2 ∙ get_or-append_right xs ys i 0 low ∙ ap (λ j. get_or ys j 0) at

joined-third : (xs ys zs : List ℕ) (i k : ℕ) → i ≡ length xs + length ys + k → get_or (xs ++ ys ++ zs) i 0 ≡ get_or zs k 0
joined-third xs ys zs i k e =
    let low : length (xs ++ ys) ≤ i = omega (arith, length-append xs ys) in
    let at : i - length (xs ++ ys) ≡ k = omega (arith, length-append xs ys) in
    get_or-append_right (xs ++ ys) zs i 0 low ∙ ap (λ j. get_or zs j 0) at

-- a list that has the source's words at the target and its own elsewhere
pub copied : (xs ys : List ℕ) (src dst n : ℕ) → src + n ≤ length xs → dst + n ≤ length xs → length ys ≡ length xs
    → ((p q : ℕ) → dst ≤ q → q < dst + n → p + dst ≡ q + src → get_or ys q 0 ≡ get_or xs p 0)
    → ((q : ℕ) → (q < dst) ⊎ (dst + n ≤ q) → get_or ys q 0 ≡ get_or xs q 0)
    → ys ≡ take dst xs ++ slice_range xs src (src + n) ++ drop (dst + n) xs
copied xs ys src dst n source target same moved kept =
    let a : List ℕ = take dst xs in
    let b : List ℕ = take (src + n - src) (drop src xs) in
    let z : List ℕ = drop (dst + n) xs in
    let la : length a ≡ dst = omega (arith, length-take dst xs) in
    let lb : length b ≡ n = omega (arith, length-take (src + n - src) (drop src xs), length-drop src xs) in
    let lz : length z ≡ length xs - (dst + n) = length-drop (dst + n) xs in
    let all : length ys ≡ length (a ++ b ++ z) = omega (arith, length-append (a ++ b) z, length-append a b) in
    let at : (i : ℕ) → i < length ys → get_or ys i 0 ≡ get_or (a ++ b ++ z) i 0 = λ i h.
    elim (cases_lt i dst) [
      | inl low ↦ let e : i < length a = omega arith in kept i (inl low) ∙ sym (joined-first a b z i e ∙ get_or-take dst xs i 0 low)
      | inr high ↦ elim (cases_lt i (dst + n)) [
        | inl inside ↦
            let k : ℕ = i - dst in
            let e1 : k < length b = omega arith in
            let e2 : i ≡ length a + k = omega arith in
            let e3 : k < src + n - src = omega arith in
            let e4 : src + k + dst ≡ i + src = omega arith in
            moved (src + k) i high inside e4 ∙ sym (joined-second a b z i k e1 e2 ∙ get_or-take (src + n - src) (drop src xs) k 0 e3 ∙ get_or-drop src xs k 0)
        | inr past ↦
            let k : ℕ = i - (dst + n) in
            let e1 : i ≡ length a + length b + k = omega arith in
            let e2 : dst + n + k ≡ i = omega arith in
            kept i (inr past) ∙ sym (joined-third a b z i k e1 ∙ get_or-drop (dst + n) xs k 0 ∙ ap (λ j. get_or xs j 0) e2)
      ]
    ] in
    ext_get_or 0 ys (a ++ b ++ z) all at
