-- The bytes of a binary that are written one after the other.
use Rattle.std.proofs.Common.{◌≡◌, ℕ, suc, ◌+◌, ◌<◌, ◌≤◌, List, [], ◌∷◌, ◌++◌, codes, decimal, drop, get_or, refl, sym, ap, ◌∙◌, arith, append_assoc, Result, Err}
use Rattle.std.specs.Prelude.{IsErr}
use Rattle.std.proofs.lemmas.List.{drop_more, drop_all}
use Rattle.line_io.specs.Sink.{Grew, WritesTold}
use Rattle.line_io.proofs.Growth.{Grew-append}
use Rattle.plain_term.specs.Text.{binary_text, numbers_text, more_numbers}
use Rattle.term_read.specs.declared.looks.Bytes.{Bytes}
use Rattle.term_order.specs.Own.{IsBytes, byte_in}
use Rattle.term_order.proofs.Strings.{byte-is}
use Rattle.term_print.specs.Own.{comma_before}
use Rattle.text_parts.proofs.Writing.{written-as, written-after, written-short, written-stops}

-- The numbers from number i on, each after what stands before it.
abbrev pub numbers_from : (i : ℕ) → List ℕ → List ℕ
numbers_from i [] = []
numbers_from i (n ∷ ns) = comma_before i ++ (decimal n ++ numbers_from (suc i) ns)

from-more : (i : ℕ) (ns : List ℕ) → more_numbers ns ≡ numbers_from (suc i) ns
from-more i [] = refl
from-more i (n ∷ ns) = ap (λ z. codes "," ++ (decimal n ++ z)) (from-more (suc i) ns)

from-first : (ns : List ℕ) → numbers_text ns ≡ numbers_from 0 ns
from-first [] = refl
from-first (n ∷ ns) = ap (λ z. decimal n ++ z) (from-more 0 ns)

-- What came of a binary up to byte i, and what is left.
pub record BytesCome {K : Type 0} (xs : List ℕ) (i : ℕ) (wrote : K → List ℕ → Type 0) (start now : K) : Type 0 where
  pub came : List ℕ
  pub whole : binary_text xs ≡ came ++ (numbers_from i (drop i xs) ++ codes ">>")
  pub grew : Grew wrote start now came

pub bytes-first : {K : Type 0} (xs : List ℕ) (wrote : K → List ℕ → Type 0) (start now : K) → Grew wrote start now (codes "<<") → BytesCome xs 0 wrote start now
bytes-first xs wrote start now g = record { came = codes "<<"; whole = ap (λ z. codes "<<" ++ (z ++ codes ">>")) (from-first xs); grew = g }

-- The text from byte i on begins with that byte.
from-byte : (mem : List ℕ) (b : Bytes) (xs : List ℕ) (i n : ℕ) → IsBytes mem b xs → i < b.len → n ≡ byte_in mem b i
    → numbers_from i (drop i xs) ++ codes ">>" ≡ (comma_before i ++ decimal n) ++ (numbers_from (i + 1) (drop (i + 1) xs) ++ codes ">>")
from-byte mem b xs i n h below e =
    let next : suc i ≡ i + 1 = omega arith in
    let is : get_or xs i 0 ≡ n = sym (e ∙ byte-is mem b xs i h below) in
    ap (λ z. numbers_from i z ++ codes ">>") (drop_more xs i 0 (omega (arith, h.count, below)))
    ∙ ap (λ z. (comma_before i ++ (decimal z ++ numbers_from (suc i) (drop (i + 1) xs))) ++ codes ">>") is
    ∙ append_assoc (comma_before i) (decimal n ++ numbers_from (suc i) (drop (i + 1) xs)) (codes ">>")
    ∙ ap (λ z. comma_before i ++ z) (append_assoc (decimal n) (numbers_from (suc i) (drop (i + 1) xs)) (codes ">>"))
    ∙ sym (append_assoc (comma_before i) (decimal n) (numbers_from (suc i) (drop (i + 1) xs) ++ codes ">>"))
    ∙ ap (λ z. (comma_before i ++ decimal n) ++ (numbers_from z (drop (i + 1) xs) ++ codes ">>")) next

pub bytes-more : {K : Type 0} (mem : List ℕ) (b : Bytes) (xs : List ℕ) (i n : ℕ) (wrote : K → List ℕ → Type 0) (start before after : K) → IsBytes mem b xs → i < b.len → n ≡ byte_in mem b i
    → BytesCome xs i wrote start before → Grew wrote before after (comma_before i ++ decimal n) → BytesCome xs (i + 1) wrote start after
bytes-more mem b xs i n wrote start before after h below e c g = record {
  came = c.came ++ (comma_before i ++ decimal n);
  whole = c.whole ∙ ap (λ z. c.came ++ z) (from-byte mem b xs i n h below e)
      ∙ sym (append_assoc c.came (comma_before i ++ decimal n) (numbers_from (i + 1) (drop (i + 1) xs) ++ codes ">>"));
  grew = Grew-append wrote start before after c.came (comma_before i ++ decimal n) c.grew g;
}

pub bytes-stop : {K E F : Type 0} (mem : List ℕ) (b : Bytes) (xs : List ℕ) (i n : ℕ) (wrote : K → List ℕ → Type 0) (faults : K → ℕ) (start before after : K) (x : E) (r : Result (Unit {0}) F) → IsErr r
    → faults before ≡ faults start → IsBytes mem b xs → i < b.len → n ≡ byte_in mem b i → BytesCome xs i wrote start before
    → WritesTold wrote faults before after (comma_before i ++ decimal n) (Err x)
    → WritesTold wrote faults start after (binary_text xs) r
bytes-stop mem b xs i n wrote faults start before after x r failed same h below e c w =
    written-stops wrote faults start before after (binary_text xs) c.came (comma_before i ++ decimal n) (numbers_from (i + 1) (drop (i + 1) xs) ++ codes ">>") x r failed c.grew same
    (c.whole ∙ ap (λ z. c.came ++ z) (from-byte mem b xs i n h below e)) w

pub bytes-end : {K E : Type 0} (mem : List ℕ) (b : Bytes) (xs : List ℕ) (i : ℕ) (wrote : K → List ℕ → Type 0) (faults : K → ℕ) (start before after : K) (r : Result (Unit {0}) E)
    → faults before ≡ faults start → IsBytes mem b xs → b.len ≤ i → BytesCome xs i wrote start before → WritesTold wrote faults before after (codes ">>") r
    → WritesTold wrote faults start after (binary_text xs) r
bytes-end mem b xs i wrote faults start before after r same h all c w =
    written-as wrote faults start after (c.came ++ codes ">>") (binary_text xs) r
    (sym (c.whole ∙ ap (λ z. c.came ++ (numbers_from i z ++ codes ">>")) (drop_all i xs (omega (arith, h.count, all)))))
    (written-after wrote faults start before after c.came (codes ">>") r c.grew same w)

pub bytes-begin-badly : {K E F : Type 0} (xs : List ℕ) (wrote : K → List ℕ → Type 0) (faults : K → ℕ) (start after : K) (x : E) (r : Result (Unit {0}) F) → IsErr r
    → WritesTold wrote faults start after (codes "<<") (Err x) → WritesTold wrote faults start after (binary_text xs) r
bytes-begin-badly xs wrote faults start after x r failed w = written-short wrote faults start after (codes "<<") (numbers_text xs ++ codes ">>") x r failed w
