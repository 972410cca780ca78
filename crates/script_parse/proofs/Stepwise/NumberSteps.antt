-- Numbers as they are read, and as the grammar has them.
use Rattle.std.proofs.Common.{◌≡◌, ℕ, ◌+◌, ◌-◌, ◌*◌, ◌<◌, ◌≤◌, ◌≢◌, Bool, true, false, nat_eq, nat_le, ◌&&◌, ◌||◌, ℤ, pos, negsuc, List, [], ◌∷◌, ◌++◌, length, Some, None, codes, refl, sym, ◌∙◌, ap, subst, inl, inr, arith, eq-eqb, eqb-true, append_assoc}
use Rattle.script_grammar.specs.declared.limits.TheConstants.{NUMBERS}
use Rattle.script_parse.specs.declared.numbers.TheConstants.{GREATEST, WIDEST}
use Rattle.std.proofs.lemmas.Bool.{leb-true, le-leb}
use Rattle.plain_term.specs.Measures.{magnitude}
use Rattle.script_grammar.specs.Grammar.{is_name_byte, is_digit, is_small_letter, AreAll, value_after, HasNoLeadingZero, IsNumber, IsInteger, Piece, Lies}
use Rattle.script_grammar.specs.Grammar.Piece.{Number}
use Rattle.script_parse.specs.Reading.{then_read, after_blanks, is_silent, byte_at, text_at, digits_at, number_at, with_sign, integer_at, pid_end, pid_at}
use Rattle.script_parse.proofs.Stepwise.Tools.{chosen, read-some, inside, both, both-true, either-false, apart, not-blank}
use Rattle.script_parse.proofs.Stepwise.Tools.{unequal}
use Rattle.script_parse.proofs.Stepwise.GapSteps.{Stops, Divides, stops, Token, token}

-- A first digit counts by itself.
first-digit : (b : ℕ) (text : List ℕ) → value_after 0 (b ∷ text) ≡ value_after (b - 48) text
first-digit b text = let e : 0 * 10 + (b - 48) ≡ b - 48 = omega arith in ap (λ (v : ℕ). value_after v text) e

-- A number and the digits that were read for it.
pub record Digits (limit n m : ℕ) (line rest : List ℕ) : Type 0 where
  pub text : List ℕ
  pub digits : AreAll is_digit text
  pub whole : line ≡ text ++ rest
  pub value : value_after n text ≡ m
  pub within : n ≤ limit → m ≤ limit

digits-step : (limit n m b : ℕ) (bytes rest : List ℕ) (t s : Bool) → is_digit b ≡ t → nat_le (n * 10 + (b - 48)) limit ≡ s
    → (digits_at limit (n * 10 + (b - 48)) bytes ≡ Some (m, rest) → Digits limit (n * 10 + (b - 48)) m bytes rest)
    → digits_at limit n (b ∷ bytes) ≡ Some (m, rest) → Digits limit n m (b ∷ bytes) rest
digits-step limit n m b bytes rest true true e f ih h = let d : Digits limit (n * 10 + (b - 48)) m bytes rest = ih (rw (e, f) at h) in
    record { text = b ∷ d.text; digits = (e, d.digits); whole = ap (λ (r : List ℕ). b ∷ r) d.whole; value = d.value; within = λ k. d.within (leb-true (n * 10 + (b - 48)) limit f) }
digits-step limit n m b bytes rest true false e f ih h = let k : None ≡ Some (m, rest) = rw (e, f) at h in cc
digits-step limit n m b bytes rest false s e f ih h = let k : Some (n, b ∷ bytes) ≡ Some (m, rest) = rw e at h in
    let j : (n ≡ m) × ((b ∷ bytes) ≡ rest) = both k in
    record { text = []; digits = tt; whole = j.1; value = j.0; within = λ k. omega (arith, j.0) }

pub digits-read : (limit : ℕ) (line : List ℕ) (n m : ℕ) (rest : List ℕ) → digits_at limit n line ≡ Some (m, rest) → Digits limit n m line rest
digits-read limit [] n m rest h = let j : (n ≡ m) × ([] ≡ rest) = both h in
    record { text = []; digits = tt; whole = j.1; value = j.0; within = λ k. omega (arith, j.0) }
digits-read limit (b ∷ bytes) n m rest h = digits-step limit n m b bytes rest (is_digit b) (nat_le (n * 10 + (b - 48)) limit) refl refl
    (digits-read limit bytes (n * 10 + (b - 48)) m rest) h

-- A number that was read.
pub record Counted (limit n : ℕ) (line rest : List ℕ) : Type 0 where
  pub text : List ℕ
  pub number : IsNumber n text
  pub whole : line ≡ text ++ rest
  pub within : n ≤ limit

no-zero : (b : ℕ) (text : List ℕ) → b ≢ 48 → HasNoLeadingZero (b ∷ text)
no-zero b [] h = tt
no-zero b (c ∷ text) h = h

digit-small : (b : ℕ) → is_digit b ≡ true → b - 48 ≤ 9
digit-small b h = let k : (nat_le 48 b ≡ true) × (nat_le b 57 ≡ true) = both-true (nat_le 48 b) (nat_le b 57) h in
    let m : b ≤ 57 = leb-true b 57 (k.1) in omega arith

number-step : (limit n b : ℕ) (bytes rest : List ℕ) (t s : Bool) → 9 ≤ limit → nat_eq b 48 ≡ t → is_digit b ≡ s
    → number_at limit (b ∷ bytes) ≡ Some (n, rest) → Counted limit n (b ∷ bytes) rest
number-step limit n b bytes rest true s l e f h = let k : Some (0, bytes) ≡ Some (n, rest) = rw e at h in
    let j : (0 ≡ n) × (bytes ≡ rest) = both k in
    let same : b ≡ 48 = eqb-true b 48 e in
    record {
      text = 48 ∷ [];
      number = record { digits = (refl, tt); first = tt; value = j.0 };
      whole = rw same (ap (λ (r : List ℕ). 48 ∷ r) (j.1));
      within = omega (arith, j.0);
    }
number-step limit n b bytes rest false true l e f h = let k : digits_at limit (b - 48) bytes ≡ Some (n, rest) = rw (e, f) at h in
    let d : Digits limit (b - 48) n bytes rest = digits-read limit bytes (b - 48) n rest k in
    let small : b - 48 ≤ 9 = digit-small b f in
    record {
      text = b ∷ d.text;
      number = record { digits = (f, d.digits); first = no-zero b d.text (λ q. let p : nat_eq b 48 ≡ true = eq-eqb b 48 q in cc); value = first-digit b d.text ∙ d.value };
      whole = ap (λ (r : List ℕ). b ∷ r) d.whole;
      within = d.within (omega arith);
    }
number-step limit n b bytes rest false false l e f h = let k : None ≡ Some (n, rest) = rw (e, f) at h in cc

pub number-read : (limit n : ℕ) (line rest : List ℕ) → 9 ≤ limit → number_at limit line ≡ Some (n, rest) → Counted limit n line rest
number-read limit n [] rest l h = cc
number-read limit n (b ∷ bytes) rest l h = number-step limit n b bytes rest (nat_eq b 48) (is_digit b) l refl refl h

-- A number only grows by further digits.
pub value-grows : (text : List ℕ) (n : ℕ) → n ≤ value_after n text
value-grows [] n = omega arith
value-grows (b ∷ text) n = omega (arith, value-grows text (n * 10 + (b - 48)))

-- Digits are read to their end.
pub digits-found : (limit : ℕ) (text rest : List ℕ) (n : ℕ) → AreAll is_digit text → Stops is_digit rest → value_after n text ≤ limit
    → digits_at limit n (text ++ rest) ≡ Some (value_after n text, rest)
digits-found limit [] [] n d s h = refl
digits-found limit [] (b ∷ rest) n d s h = rw s refl
digits-found limit (b ∷ text) rest n d s h = let within : n * 10 + (b - 48) ≤ limit = omega (arith, value-grows text (n * 10 + (b - 48))) in
    rw (d.0, le-leb (n * 10 + (b - 48)) limit within) (digits-found limit text rest (n * 10 + (b - 48)) (d.1) s h)

found-step : (limit b : ℕ) (text rest : List ℕ) (t : Bool) → nat_eq b 48 ≡ t → AreAll is_digit (b ∷ text) → HasNoLeadingZero (b ∷ text) → Stops is_digit rest
    → value_after 0 (b ∷ text) ≤ limit → number_at limit ((b ∷ text) ++ rest) ≡ Some (value_after 0 (b ∷ text), rest)
found-step limit b [] rest true e d f s h = let same : b ≡ 48 = eqb-true b 48 e in rw same refl
found-step limit b (c ∷ text) rest true e d f s h = absurd (f (eqb-true b 48 e))
found-step limit b text rest false e d f s h = rw (e, d.0, first-digit b text) (digits-found limit text rest (b - 48) (d.1) s (rw (first-digit b text) at h))

-- A number that the grammar has is read.
pub number-found : (limit n : ℕ) (text rest : List ℕ) → IsNumber n text → n ≤ limit → Stops is_digit rest → number_at limit (text ++ rest) ≡ Some (n, rest)
number-found limit n [] rest i h s = absurd i.first
number-found limit n (b ∷ text) rest i h s = let v : value_after 0 (b ∷ text) ≡ n = i.value in
    rw (← v) (found-step limit b text rest (nat_eq b 48) refl i.digits i.first s (rw (← v) at h))

-- A number begins with a digit.
pub record Begun (text : List ℕ) : Type 0 where
  pub first : ℕ
  pub more : List ℕ
  pub whole : text ≡ first ∷ more
  pub digit : is_digit first ≡ true

pub begun : (n : ℕ) (text : List ℕ) → IsNumber n text → Begun text
begun n [] i = absurd i.first
begun n (b ∷ text) i = record { first = b; more = text; whole = refl; digit = (i.digits).0 }

-- No digit goes on where no name does.
pub stops-digits : (rest : List ℕ) → Stops is_name_byte rest → Stops is_digit rest
stops-digits [] s = tt
stops-digits (b ∷ rest) s = let small : (is_small_letter b ≡ false) × (((nat_le 65 b && nat_le b 90) || (is_digit b || (nat_eq b 95 || nat_eq b 64))) ≡ false)
    = either-false (is_small_letter b) ((nat_le 65 b && nat_le b 90) || (is_digit b || (nat_eq b 95 || nat_eq b 64))) s in
    let large : ((nat_le 65 b && nat_le b 90) ≡ false) × ((is_digit b || (nat_eq b 95 || nat_eq b 64)) ≡ false)
    = either-false (nat_le 65 b && nat_le b 90) (is_digit b || (nat_eq b 95 || nat_eq b 64)) (small.1) in
    (either-false (is_digit b) (nat_eq b 95 || nat_eq b 64) (large.1)).0

-- An integer that was read.
pub record Integral (i : ℤ) (line rest : List ℕ) : Type 0 where
  pub text : List ℕ
  pub integer : IsInteger i text
  pub whole : line ≡ text ++ rest
  pub within : magnitude i ≤ WIDEST

negative : (n : ℕ) (i : ℤ) (line bytes rest : List ℕ) (t : Bool) → nat_eq n 0 ≡ t → Counted WIDEST n line bytes → with_sign true (n, bytes) ≡ Some (i, rest)
    → Integral i (45 ∷ line) rest
negative n i line bytes rest true e c h = let k : None ≡ Some (i, rest) = rw e at h in cc
negative n i line bytes rest false e c h = let k : Some (negsuc (n - 1), bytes) ≡ Some (i, rest) = rw e at h in
    let j : (negsuc (n - 1) ≡ i) × (bytes ≡ rest) = both k in
    let some : n ≢ 0 = λ (q : n ≡ 0). let w : nat_eq n 0 ≡ true = eq-eqb n 0 q in cc in
    let whole : n ≡ n - 1 + 1 = omega (arith, some) in
    let P : ℕ → Type 0 = λ z. IsNumber z c.text in
    let Q : ℤ → Type 0 = λ z. Integral z (45 ∷ line) rest in
    let R : ℕ → Type 0 = λ z. z ≤ WIDEST in
    subst Q (j.0) (record {
      text = 45 ∷ c.text;
      integer = (c.text, subst P whole c.number, refl);
      whole = ap (λ (r : List ℕ). 45 ∷ r) (c.whole ∙ ap (λ (r : List ℕ). c.text ++ r) (j.1));
      within = subst R whole c.within;
    })

positive : (n : ℕ) (i : ℤ) (line bytes rest : List ℕ) → Counted WIDEST n line bytes → with_sign false (n, bytes) ≡ Some (i, rest) → Integral i line rest
positive n i line bytes rest c h = let j : (pos n ≡ i) × (bytes ≡ rest) = both h in
    let Q : ℤ → Type 0 = λ z. Integral z line rest in
    subst Q (j.0) (record { text = c.text; integer = c.number; whole = c.whole ∙ ap (λ (r : List ℕ). c.text ++ r) (j.1); within = c.within })

integer-step : (i : ℤ) (b : ℕ) (bytes rest : List ℕ) (t : Bool) → nat_eq b 45 ≡ t → integer_at (b ∷ bytes) ≡ Some (i, rest) → Integral i (b ∷ bytes) rest
integer-step i b bytes rest true e h = let k : then_read (number_at WIDEST bytes) (with_sign true) ≡ Some (i, rest) = rw e at h in
    let r : (x : ℕ × List ℕ) × (number_at WIDEST bytes ≡ Some x) × (with_sign true x ≡ Some (i, rest)) = read-some (number_at WIDEST bytes) (with_sign true) k in
    let Q : ℕ → Type 0 = λ z. Integral i (z ∷ bytes) rest in
    subst Q (sym (eqb-true b 45 e)) (negative (r.0.0) i bytes (r.0.1) rest (nat_eq (r.0.0) 0) refl (number-read WIDEST (r.0.0) bytes (r.0.1) (omega arith) (r.1)) (r.2))
integer-step i b bytes rest false e h = let k : then_read (number_at WIDEST (b ∷ bytes)) (with_sign false) ≡ Some (i, rest) = rw e at h in
    let r : (x : ℕ × List ℕ) × (number_at WIDEST (b ∷ bytes) ≡ Some x) × (with_sign false x ≡ Some (i, rest)) = read-some (number_at WIDEST (b ∷ bytes)) (with_sign false) k in
    positive (r.0.0) i (b ∷ bytes) (r.0.1) rest (number-read WIDEST (r.0.0) (b ∷ bytes) (r.0.1) (omega arith) (r.1)) (r.2)

pub integer-read : (i : ℤ) (line rest : List ℕ) → integer_at line ≡ Some (i, rest) → Integral i line rest
integer-read i [] rest h = cc
integer-read i (b ∷ bytes) rest h = integer-step i b bytes rest (nat_eq b 45) refl h

-- An integer that the grammar has is read.
pub integer-found : (i : ℤ) (text rest : List ℕ) → IsInteger i text → magnitude i ≤ WIDEST → Stops is_digit rest → integer_at (text ++ rest) ≡ Some (i, rest)
integer-found (pos n) [] rest h within s = absurd h.first
integer-found (pos n) (b ∷ text) rest h within s = let not_sign : b ≢ 45 = apart is_digit b 45 refl ((h.digits).0) in
    rw (unequal b 45 not_sign, number-found WIDEST n (b ∷ text) rest h within s) refl
integer-found (negsuc m) text rest (digits, number, e) within s =
    let P : List ℕ → Type 0 = λ z. integer_at (z ++ rest) ≡ Some (negsuc m, rest) in
    let f : number_at WIDEST (digits ++ rest) ≡ Some (m + 1, rest) = number-found WIDEST (m + 1) digits rest number within s in
    let nonzero : nat_eq (m + 1) 0 ≡ false = unequal (m + 1) 0 (λ q. omega arith) in
    let back : m + 1 - 1 ≡ m = omega arith in
    subst P (sym e) (rw (f, nonzero, back) refl)

-- The line after a text.
pub byte-read : (c : ℕ) (line rest : List ℕ) → byte_at c line ≡ Some rest → line ≡ c ∷ rest
byte-read c [] rest h = cc
byte-read c (b ∷ bytes) rest h = elim (chosen (nat_eq b c) h) [
  | inl e ↦ let same : b ≡ c = eqb-true b c (e.0) in let after : bytes ≡ rest = inside (e.1) in cc
  | inr e ↦ cc
]

pub text-read : (text line rest : List ℕ) → text_at text line ≡ Some rest → line ≡ text ++ rest
text-read [] line rest h = inside h
text-read (c ∷ text) line rest h = let r : (x : List ℕ) × (byte_at c line ≡ Some x) × (text_at text x ≡ Some rest) = read-some (byte_at c line) (text_at text) h in
    byte-read c line (r.0) (r.1) ∙ ap (λ (z : List ℕ). c ∷ z) (text-read text (r.0) rest (r.2))

pub text-found : (text rest : List ℕ) → text_at text (text ++ rest) ≡ Some rest
text-found [] rest = refl
text-found (c ∷ text) rest = rw (eq-eqb c c refl) (text-found text rest)

-- A pid that was read, after its first byte.
pub record Numbered (n : ℕ) (line rest : List ℕ) : Type 0 where
  pub text : List ℕ
  pub number : IsNumber n text
  pub whole : 60 ∷ line ≡ (codes "<0." ++ (text ++ codes ".0>")) ++ rest
  pub some : 1 ≤ n
  pub within : n < NUMBERS

pub pid-text : (text rest : List ℕ) → 60 ∷ (codes "0." ++ (text ++ (codes ".0>" ++ rest))) ≡ (codes "<0." ++ (text ++ codes ".0>")) ++ rest
pid-text text rest = simp append_assoc

numbered : (n m : ℕ) (line front bytes rest : List ℕ) (t : Bool) → nat_eq m 0 ≡ t → line ≡ codes "0." ++ front → Counted GREATEST m front bytes
    → pid_end (m, bytes) ≡ Some (n, rest) → Numbered n line rest
numbered n m line front bytes rest true e l c h = let k : None ≡ Some (n, rest) = rw e at h in cc
numbered n m line front bytes rest false e l c h = let k : then_read (text_at (codes ".0>") bytes) (λ z. Some (m, z)) ≡ Some (n, rest) = rw e at h in
    let r : (x : List ℕ) × (text_at (codes ".0>") bytes ≡ Some x) × (Some (m, x) ≡ Some (n, rest)) = read-some (text_at (codes ".0>") bytes) (λ z. Some (m, z)) k in
    let j : (m ≡ n) × (r.0 ≡ rest) = both (r.2) in
    let value : m ≡ n = j.0 in
    let after : bytes ≡ codes ".0>" ++ rest = text-read (codes ".0>") bytes (r.0) (r.1) ∙ ap (λ (z : List ℕ). codes ".0>" ++ z) (j.1) in
    let some : m ≢ 0 = λ (q : m ≡ 0). let w : nat_eq m 0 ≡ true = eq-eqb m 0 q in cc in
    let P : ℕ → Type 0 = λ z. IsNumber z c.text in
    record {
      text = c.text;
      number = subst P value c.number;
      whole = rw (l, c.whole, after) (pid-text c.text rest);
      some = omega (arith, some, value);
      within = omega (arith, c.within, value);
    }

pub pid-read : (n : ℕ) (line rest : List ℕ) → pid_at line ≡ Some (n, rest) → Numbered n line rest
pid-read n line rest h =
    let r : (x : List ℕ) × (text_at (codes "0.") line ≡ Some x) × (then_read (number_at GREATEST x) pid_end ≡ Some (n, rest))
    = read-some (text_at (codes "0.") line) (λ z. then_read (number_at GREATEST z) pid_end) h in
    let q : (x : ℕ × List ℕ) × (number_at GREATEST (r.0) ≡ Some x) × (pid_end x ≡ Some (n, rest)) = read-some (number_at GREATEST (r.0)) pid_end (r.2) in
    numbered n (q.0.0) line (r.0) (q.0.1) rest (nat_eq (q.0.0) 0) refl (text-read (codes "0.") line (r.0) (r.1))
    (number-read GREATEST (q.0.0) (r.0) (q.0.1) (omega arith) (q.1)) (q.2)

-- A pid that the grammar has is read, after its first byte.
pub pid-found : (n : ℕ) (digits rest : List ℕ) → IsNumber n digits → 1 ≤ n → n < NUMBERS
    → pid_at (codes "0." ++ (digits ++ (codes ".0>" ++ rest))) ≡ Some (n, rest)
pid-found n digits rest i some within = let nonzero : nat_eq n 0 ≡ false = unequal n 0 (λ q. omega arith) in
    rw (number-found GREATEST n digits (codes ".0>" ++ rest) i (omega arith) refl, nonzero) refl

-- A number before pieces that divide is read, and the line begins with a digit.
pub record Numbers (limit n : ℕ) (ps : List Piece) (line : List ℕ) : Type 0 where
  pub rest : List ℕ
  pub read : number_at limit (after_blanks line) ≡ Some (n, rest)
  pub lies : Lies ps rest
  pub shorter : length rest < length line
  pub first : ℕ
  pub more : List ℕ
  pub front : after_blanks line ≡ first ∷ more
  pub digit : is_digit first ≡ true

pub number-stands : (limit n : ℕ) (ps : List Piece) (line : List ℕ) → n ≤ limit → Divides ps → Lies (Number n ∷ ps) line → Numbers limit n ps line
number-stands limit n ps line h d (gap, text, rest, g, i, e, l) =
    let b : Begun text = begun n text i in
    let whole : line ≡ gap ++ ((b.first ∷ b.more) ++ rest) = rw b.whole at e in
    let number : IsNumber n (b.first ∷ b.more) = rw b.whole at i in
    let k : Token (Number n) ps line b.first b.more = token (Number n) ps line gap b.more rest b.first g (not-blank is_digit b.first refl refl b.digit) whole l in
    record {
      rest = k.rest;
      read = rw k.front (number-found limit n (b.first ∷ b.more) k.rest number h (stops-digits k.rest (stops ps k.rest d k.lies)));
      lies = k.lies;
      shorter = k.shorter;
      first = b.first;
      more = b.more ++ k.rest;
      front = k.front;
      digit = b.digit;
    }

-- So it is no line without a command.
pub number-loud : (limit n : ℕ) (ps : List Piece) (line : List ℕ) → Numbers limit n ps line → is_silent (after_blanks line) ≡ false
number-loud limit n ps line k = rw k.front (unequal k.first 37 (apart is_digit k.first 37 refl k.digit))

-- A number that begins with 0 is 0.
pub zero-read : (limit b : ℕ) (line rest : List ℕ) → line ≡ b ∷ rest → b ≡ 48 → number_at limit line ≡ Some (0, rest)
zero-read limit b line rest e f = rw (e, f) refl

-- What is read up to a limit is read up to a greater one.

wider-step : (a b n m x : ℕ) (line rest : List ℕ) (t s : Bool) → is_digit x ≡ t → nat_le (n * 10 + (x - 48)) a ≡ s → a ≤ b
    → (digits_at a (n * 10 + (x - 48)) line ≡ Some (m, rest) → digits_at b (n * 10 + (x - 48)) line ≡ Some (m, rest))
    → digits_at a n (x ∷ line) ≡ Some (m, rest) → digits_at b n (x ∷ line) ≡ Some (m, rest)
wider-step a b n m x line rest true true e f h ih k =
    let some : n * 10 + (x - 48) ≤ a = leb-true (n * 10 + (x - 48)) a f in
    let within : nat_le (n * 10 + (x - 48)) b ≡ true = le-leb (n * 10 + (x - 48)) b (omega (arith, some, h)) in
    rw (e, within) (ih (rw (e, f) at k))
wider-step a b n m x line rest true false e f h ih k = let j : None ≡ Some (m, rest) = rw (e, f) at k in cc
wider-step a b n m x line rest false s e f h ih k = let j : Some (n, x ∷ line) ≡ Some (m, rest) = rw e at k in rw e j

pub digits-wider : (a b n m : ℕ) (line rest : List ℕ) → a ≤ b → digits_at a n line ≡ Some (m, rest) → digits_at b n line ≡ Some (m, rest)
digits-wider a b n m [] rest h k = k
digits-wider a b n m (x ∷ line) rest h k =
    wider-step a b n m x line rest (is_digit x) (nat_le (n * 10 + (x - 48)) a) refl refl h (digits-wider a b (n * 10 + (x - 48)) m line rest h) k
