-- Fields that are written one after the other.
use Rattle.std.proofs.Common.{◌≡◌, ℕ, ◌+◌, ◌<◌, ◌≤◌, List, ◌++◌, length, take, drop, get_or, flat_map, sym, ap, ◌∙◌, subst, arith, append_assoc, Result, Ok, Err}
use Rattle.std.specs.Prelude.{IsErr}
use Rattle.std.proofs.lemmas.List.{append-nil, drop_more, flat_map_more, take_all, take_more, take-append-drop}
use Rattle.std.proofs.lemmas.Grind.{flat_map-append}
use Rattle.line_io.specs.Sink.{Grew, WritesTold}
use Rattle.line_io.proofs.Growth.{Grew-append}
use Rattle.text_parts.proofs.Writing.{written-stops}
use Rattle.reply_text.specs.Texts.{field_text, fields_text}

-- The text and the first fields.
pub came : (text numbers : List ℕ) (i : ℕ) → List ℕ
came text numbers i = text ++ flat_map field_text (take i numbers)

pub fields-begin : {K : Type 0} (wrote : K → List ℕ → Type 0) (old new : K) (text numbers : List ℕ) → Grew wrote old new text → Grew wrote old new (came text numbers 0)
unfolding came
fields-begin wrote old new text numbers g = subst (Grew wrote old new) (sym (append-nil text)) g

pub fields-more : {K : Type 0} (wrote : K → List ℕ → Type 0) (old mid new : K) (text numbers : List ℕ) (i : ℕ) → i < length numbers → Grew wrote old mid (came text numbers i)
    → Grew wrote mid new (field_text (get_or numbers i 0)) → Grew wrote old new (came text numbers (i + 1))
unfolding came
fields-more wrote old mid new text numbers i below first next =
    subst (Grew wrote old new)
    (flat_map_more field_text text (take i numbers) (get_or numbers i 0) ∙ ap (λ z. text ++ flat_map field_text z) (sym (take_more numbers i 0 below)))
    (Grew-append wrote old mid new (text ++ flat_map field_text (take i numbers)) (field_text (get_or numbers i 0)) first next)

whole-text : (text numbers : List ℕ) (i : ℕ) → i < length numbers
    → fields_text text numbers ≡ came text numbers i ++ (field_text (get_or numbers i 0) ++ flat_map field_text (drop (i + 1) numbers))
unfolding came
whole-text text numbers i below =
    ap (λ z. text ++ flat_map field_text z) (sym (take-append-drop i numbers))
    ∙ (ap (λ z. text ++ z) (flat_map-append field_text (take i numbers) (drop i numbers))
    ∙ (ap (λ z. text ++ (flat_map field_text (take i numbers) ++ flat_map field_text z)) (drop_more numbers i 0 below)
    ∙ sym (append_assoc text (flat_map field_text (take i numbers)) (field_text (get_or numbers i 0) ++ flat_map field_text (drop (i + 1) numbers)))))

pub fields-stop : {K E F : Type 0} (wrote : K → List ℕ → Type 0) (faults : K → ℕ) (old mid new : K) (text numbers : List ℕ) (i : ℕ) (e : E) (r : Result (Unit {0}) F) → IsErr r
    → i < length numbers → Grew wrote old mid (came text numbers i) → faults mid ≡ faults old → WritesTold wrote faults mid new (field_text (get_or numbers i 0)) (Err e)
    → WritesTold wrote faults old new (fields_text text numbers) r
fields-stop wrote faults old mid new text numbers i e r failed below g same w =
    written-stops wrote faults old mid new (fields_text text numbers) (came text numbers i) (field_text (get_or numbers i 0)) (flat_map field_text (drop (i + 1) numbers)) e r failed g same
    (whole-text text numbers i below) w

pub fields-done : {K E : Type 0} (wrote : K → List ℕ → Type 0) (faults : K → ℕ) (old new : K) (text numbers : List ℕ) (i : ℕ) → length numbers ≤ i
    → Grew wrote old new (came text numbers i) → faults new ≡ faults old → WritesTold {E = E} wrote faults old new (fields_text text numbers) (Ok tt)
unfolding came
fields-done wrote faults old new text numbers i over g same = record {
  all = subst (Grew wrote old new) (ap (λ z. text ++ flat_map field_text z) (take_all i numbers over)) g;
  part = tt;
  later = omega (arith, same);
  rose = tt;
  told = same;
}
