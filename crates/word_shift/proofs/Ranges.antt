-- Ranges that are written, and a list of which the first words are images.
use Rattle.std.proofs.Common.{◌≡◌, ℕ, ◌+◌, ◌*◌, ◌/◌, ◌%◌, ◌<◌, ◌≤◌, ◌==◌, ◌||◌, if◌then◌else◌, Bool, List, length, get_or, sym, ◌∙◌, ap, arith}
use Rattle.term_words.specs.Object.{object_words}
use Rattle.term_words.specs.Reach.{first_traced}
use Rattle.off_heap_list.specs.Links.{name_place}
use Rattle.object_rows.specs.Row.{is_link}
use Rattle.word_shift.specs.Shifted.{word_image, FitsBeside, IsShifted, RelocatesObject, StaysBeside, WordsShifted}

-- A map that can be asked beside a range can be asked beside a narrower one, when words of the range were written.
pub fits-narrower : (fits : List ℕ → Type 0) (to-of : List ℕ → ℕ → ℕ) (mem now : List ℕ) (from to at up low high : ℕ) → FitsBeside fits to-of mem from to
    → StaysBeside mem now at up → from ≤ at → up ≤ to → from ≤ low → high ≤ to → FitsBeside fits to-of now low high
fits-narrower fits to-of mem now from to at up low high f s a b c d = record {
  fit = λ new len same. f.fit new (len ∙ s.same_len) (λ q out. same q (grind (arith, out, c, d)) ∙ s.same q (grind (arith, out, a, b)));
  alike = λ new len same p.
      f.alike new (len ∙ s.same_len) (λ q out. same q (grind (arith, out, c, d)) ∙ s.same q (grind (arith, out, a, b))) p
      ∙ sym (f.alike now s.same_len (λ q out. s.same q (grind (arith, out, a, b))) p);
}

-- Two maps that answer alike make the same images.
pub image-by : (g h : ℕ → ℕ) → ((a : ℕ) → g a ≡ h a) → (w : ℕ) → word_image g w ≡ word_image h w
image-by g h e w = ap (λ a. if (w % 4 == 1) || (w % 4 == 2) then a * 4 + w % 4 else w) (e (w / 4))

module _ (g h : ℕ → ℕ) (e : (a : ℕ) → g a ≡ h a) (old new : List ℕ) where
  pub words-by-map : (from to : ℕ) → WordsShifted g old new from to → WordsShifted h old new from to
  words-by-map from to s = record { beside = s.beside; images = λ q low high. s.images q low high ∙ image-by g h e (get_or old q 0) }

  pub object-by-map : (p first size name : ℕ) (leads : Bool) → IsShifted g old new p first size leads name → IsShifted h old new p first size leads name
  object-by-map p first size name leads s = record {
    traced = λ q low high. s.traced q low high ∙ image-by g h e (get_or old q 0);
    next = λ l. s.next l ∙ e (get_or old (p + 2) 0);
    names = λ l. s.names l ∙ e (get_or old name 0);
    others = s.others;
  }

  pub relocates-by-map : (w next : ℕ) → RelocatesObject g old new w next → RelocatesObject h old new w next
  relocates-by-map w next r = record {
    ends = r.ends;
    beside = r.beside;
    shifted = object-by-map (w / 4) (first_traced old w) (object_words old w) (name_place old (w / 4)) (is_link old w) r.shifted;
  }

-- A list beside the memory: the words before a number are images.
pub record ListGoing (g : ℕ → ℕ) (old now : List ℕ) (at : ℕ) : Type 0 where
  pub same_len : length now ≡ length old
  pub images : (i : ℕ) → i < at → i < length old → get_or now i 0 ≡ word_image g (get_or old i 0)
  pub ahead : (i : ℕ) → at ≤ i → get_or now i 0 ≡ get_or old i 0
