-- The bytes of one word.
use Rattle.std.proofs.Common.{◌≡◌, ℕ, zero, suc, ◌+◌, ◌-◌, ◌*◌, ◌/◌, ◌%◌, ◌^◌, ◌<◌, ◌≤◌, ◌⊎◌, refl, sym, ◌∙◌, ap, subst, arith, inl, inr, Fits, w8, w64}
use Rattle.std.proofs.Math.Nat.{mul_assoc, mod-lt, mul-add-div_right, mul-add-mod_self_right, div-div-eq-div-mul, zero-div}
use Rattle.std.proofs.lemmas.Nat.{pow-add, pow_pos, div-mul-add, div-add-mod'}
use Rattle.term_words.specs.Object.{byte_of}
use Rattle.shared_rec.specs.Bytes.{with_byte, equal_bytes}

-- What holds of each number below 8.
each-of-eight : (P : ℕ → Type 0) → P 0 → P 1 → P 2 → P 3 → P 4 → P 5 → P 6 → P 7 → (k : ℕ) → k < 8 → P k
each-of-eight P a b c d e f g h zero below = a
each-of-eight P a b c d e f g h (suc zero) below = b
each-of-eight P a b c d e f g h (suc (suc zero)) below = c
each-of-eight P a b c d e f g h (suc (suc (suc zero))) below = d
each-of-eight P a b c d e f g h (suc (suc (suc (suc zero)))) below = e
each-of-eight P a b c d e f g h (suc (suc (suc (suc (suc zero))))) below = f
each-of-eight P a b c d e f g h (suc (suc (suc (suc (suc (suc zero)))))) below = g
each-of-eight P a b c d e f g h (suc (suc (suc (suc (suc (suc (suc zero))))))) below = h
each-of-eight P a b c d e f g h (suc (suc (suc (suc (suc (suc (suc (suc k)))))))) below = absurd (omega (arith, below))

-- A shift by whole bytes.
pub scale-is : (k : ℕ) → k < 8 → 1 * 2 ^ (k * 8) % 18446744073709551616 ≡ 2 ^ (k * 8)
scale-is = each-of-eight (λ k. 1 * 2 ^ (k * 8) % 18446744073709551616 ≡ 2 ^ (k * 8)) refl refl refl refl refl refl refl refl

-- A word with another byte is a word.
pub put-fits : (w b : ℕ) → Fits w64 w → Fits w8 b → (k : ℕ) → k < 8 → Fits w64 (with_byte w k b)
put-fits w b wide small =
    each-of-eight (λ k. Fits w64 (with_byte w k b)) (omega arith) (omega arith) (omega arith) (omega arith) (omega arith) (omega arith) (omega arith) (omega arith)

pub put-high-fits : (w b k : ℕ) → Fits w64 (with_byte w k b) → Fits w64 ((w / 2 ^ (k * 8) / 256 * 256 + b) * 2 ^ (k * 8))
put-high-fits w b k fits = omega (arith, fits)

-- The byte that was put.
pub put-there : (w k b : ℕ) → b < 256 → byte_of (with_byte w k b) k ≡ b
put-there w k b small =
    let s : ℕ = 2 ^ (k * 8) in
    let high : ((w / 2 ^ (k * 8) / 256 * 256 + b) * 2 ^ (k * 8) + w % 2 ^ (k * 8)) / 2 ^ (k * 8) ≡ w / 2 ^ (k * 8) / 256 * 256 + b =
    div-mul-add (w / 2 ^ (k * 8) / 256 * 256 + b) (2 ^ (k * 8)) (w % 2 ^ (k * 8)) (mod-lt w (pow_pos (k * 8))) in
    ap (λ x. x % 256) high ∙ omega arith

-- Bytes below one are those of what stands below it.
below-same : (a l p q m : ℕ) → p ≡ m * 256 * q → 0 < q → (a * p + l) / q % 256 ≡ l / q % 256
below-same a l p q m is some =
    let regroup : a * p ≡ a * m * 256 * q = ap (λ x. a * x) is ∙ (sym (mul_assoc a (m * 256) q) ∙ ap (λ x. x * q) (sym (mul_assoc a m 256))) in
    let divided : (a * m * 256 * q + l) / q ≡ a * m * 256 + l / q = mul-add-div_right some (a * m * 256) l in
    ap (λ x. (x + l) / q % 256) regroup ∙ (ap (λ x. x % 256) divided ∙ mul-add-mod_self_right (a * m) 256 (l / q))

-- Bytes above one are those of what stands above it.
above-at : (x k m : ℕ) → x / 2 ^ ((k + 1 + m) * 8) ≡ x / 2 ^ (k * 8) / 256 / 2 ^ (m * 8)
above-at x k m =
    let split : (k + 1 + m) * 8 ≡ k * 8 + (8 + m * 8) = omega arith in
    let power : 2 ^ ((k + 1 + m) * 8) ≡ 2 ^ (k * 8) * (256 * 2 ^ (m * 8)) =
    ap (λ e. 2 ^ e) split ∙ (pow-add 2 (k * 8) (8 + m * 8) ∙ ap (λ y. 2 ^ (k * 8) * y) (pow-add 2 8 (m * 8))) in
    ap (λ y. x / y) power ∙ (sym (div-div-eq-div-mul x (2 ^ (k * 8)) (256 * 2 ^ (m * 8))) ∙ sym (div-div-eq-div-mul (x / 2 ^ (k * 8)) 256 (2 ^ (m * 8))))

power-below : (j m : ℕ) → 2 ^ ((j + 1 + m) * 8) ≡ 2 ^ (m * 8) * 256 * 2 ^ (j * 8)
power-below j m =
    let split : (j + 1 + m) * 8 ≡ m * 8 + 8 + j * 8 = omega arith in
    ap (λ e. 2 ^ e) split ∙ (pow-add 2 (m * 8 + 8) (j * 8) ∙ ap (λ y. y * 2 ^ (j * 8)) (pow-add 2 (m * 8) 8))

put-above : (w k b m : ℕ) → b < 256 → byte_of (with_byte w k b) (k + 1 + m) ≡ byte_of w (k + 1 + m)
put-above w k b m small =
    let high : ((w / 2 ^ (k * 8) / 256 * 256 + b) * 2 ^ (k * 8) + w % 2 ^ (k * 8)) / 2 ^ (k * 8) ≡ w / 2 ^ (k * 8) / 256 * 256 + b =
    div-mul-add (w / 2 ^ (k * 8) / 256 * 256 + b) (2 ^ (k * 8)) (w % 2 ^ (k * 8)) (mod-lt w (pow_pos (k * 8))) in
    let same : ((w / 2 ^ (k * 8) / 256 * 256 + b) * 2 ^ (k * 8) + w % 2 ^ (k * 8)) / 2 ^ (k * 8) / 256 ≡ w / 2 ^ (k * 8) / 256 = ap (λ x. x / 256) high ∙ omega arith in
    ap (λ x. x % 256) (above-at (with_byte w k b) k m) ∙ (ap (λ x. x / 2 ^ (m * 8) % 256) same ∙ ap (λ x. x % 256) (sym (above-at w k m)))

put-below : (w j b m : ℕ) → byte_of (with_byte w (j + 1 + m) b) j ≡ byte_of w j
put-below w j b m =
    let s : ℕ = 2 ^ ((j + 1 + m) * 8) in
    let whole : w / 2 ^ ((j + 1 + m) * 8) * 2 ^ ((j + 1 + m) * 8) + w % 2 ^ ((j + 1 + m) * 8) ≡ w = div-add-mod' w (2 ^ ((j + 1 + m) * 8)) in
    below-same (w / 2 ^ ((j + 1 + m) * 8) / 256 * 256 + b) (w % 2 ^ ((j + 1 + m) * 8)) (2 ^ ((j + 1 + m) * 8)) (2 ^ (j * 8)) (2 ^ (m * 8)) (power-below j m) (pow_pos (j * 8))
    ∙ (sym (below-same (w / 2 ^ ((j + 1 + m) * 8)) (w % 2 ^ ((j + 1 + m) * 8)) (2 ^ ((j + 1 + m) * 8)) (2 ^ (j * 8)) (2 ^ (m * 8)) (power-below j m) (pow_pos (j * 8)))
    ∙ ap (λ x. x / 2 ^ (j * 8) % 256) whole)

-- All other bytes stay.
pub put-elsewhere : (w k b j : ℕ) → b < 256 → (j < k) ⊎ (k < j) → byte_of (with_byte w k b) j ≡ byte_of w j
put-elsewhere w k b j small (inl low) =
    let is : j + 1 + (k - (j + 1)) ≡ k = omega (arith, low) in
    rw is at (put-below w j b (k - (j + 1)))
put-elsewhere w k b j small (inr high) =
    let is : k + 1 + (j - (k + 1)) ≡ j = omega (arith, high) in
    rw is at (put-above w k b (j - (k + 1)) small)

-- n bytes b.
abbrev row_of : (b n : ℕ) → ℕ
row_of b zero = 0
row_of b (suc n) = row_of b n * 256 + b

row-next : (y b j : ℕ) → b < 256 → byte_of (y * 256 + b) (suc j) ≡ byte_of y j
row-next y b j small =
    let e : 0 + 1 + j ≡ suc j = omega arith in
    let there : (y * 256 + b) / 2 ^ (suc j * 8) ≡ (y * 256 + b) / 2 ^ (0 * 8) / 256 / 2 ^ (j * 8) = rw e at (above-at (y * 256 + b) 0 j) in
    let first : (y * 256 + b) / 2 ^ (0 * 8) / 256 ≡ y = omega arith in
    ap (λ x. x % 256) there ∙ ap (λ x. x / 2 ^ (j * 8) % 256) first

row-byte : (b n j : ℕ) → b < 256 → j < n → byte_of (row_of b n) j ≡ b
row-byte b zero j small below = absurd (omega (arith, below))
row-byte b (suc n) zero small below = omega arith
row-byte b (suc n) (suc j) small below = row-next (row_of b n) b j small ∙ row-byte b n j small (omega (arith, below))

row-past : (b n j : ℕ) → b < 256 → n ≤ j → byte_of (row_of b n) j ≡ 0
row-past b zero j small past = ap (λ x. x % 256) (zero-div (2 ^ (j * 8)))
row-past b (suc n) zero small past = absurd (omega (arith, past))
row-past b (suc n) (suc j) small past = row-next (row_of b n) b j small ∙ row-past b n j small (omega (arith, past))

equal-is : (b : ℕ) → equal_bytes b ≡ row_of b 8
equal-is b = omega arith

-- Each byte of a word of equal bytes.
pub equal-byte : (b j : ℕ) → b < 256 → j < 8 → byte_of (equal_bytes b) j ≡ b
equal-byte b j small below = ap (λ x. byte_of x j) (equal-is b) ∙ row-byte b 8 j small below

equal-past : (b j : ℕ) → b < 256 → 8 ≤ j → byte_of (equal_bytes b) j ≡ 0
equal-past b j small past = ap (λ x. byte_of x j) (equal-is b) ∙ row-past b 8 j small past

shifted : (w n k j : ℕ) → n + k * 8 ≡ j * 8 → byte_of (w / 2 ^ n) k ≡ byte_of w j
shifted w n k j e =
    ap (λ x. x % 256) (div-div-eq-div-mul w (2 ^ n) (2 ^ (k * 8)) ∙ (ap (λ y. w / y) (sym (pow-add 2 n (k * 8))) ∙ ap (λ y. w / 2 ^ y) e))

-- The word whose lowest bytes are b, and all others 0.
pub rest-byte : (b r k : ℕ) → b < 256 → r ≤ 8 → k < r → byte_of (equal_bytes b / 2 ^ (64 - r * 8)) k ≡ b
rest-byte b r k small few below = shifted (equal_bytes b) (64 - r * 8) k (8 - r + k) (omega (arith, few)) ∙ equal-byte b (8 - r + k) small (omega (arith, few, below))

pub rest-past : (b r k : ℕ) → b < 256 → r ≤ 8 → r ≤ k → byte_of (equal_bytes b / 2 ^ (64 - r * 8)) k ≡ 0
rest-past b r k small few past = shifted (equal_bytes b) (64 - r * 8) k (8 - r + k) (omega (arith, few)) ∙ equal-past b (8 - r + k) small (omega (arith, few, past))
