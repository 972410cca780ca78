-- Runs one after the other.
use Rattle.std.proofs.Common.{◌≡◌, ℕ, Bool, true, false, List, [], ◌∷◌, ◌++◌, refl, sym, ap, subst, ◌∙◌, append_assoc, append-nil}
use Rattle.std.specs.Prelude.{MatchBool}
use Rattle.line_io.specs.Lines.{Line}
use Rattle.script_grammar.specs.Names.{Parsed}
use Rattle.plain_machine.specs.State.{State}
use Rattle.plain_machine.specs.Run.{Run, LineStep, replies_text}

-- a run that goes on after the lines is followed by a run from the state that it leaves
pub run-append : (may : ℕ → State → Parsed → Bool) (words : ℕ) (quits : Bool) (s mid new : State) (lines more : List Line) (replies others : List (List ℕ))
    → Run may words false s lines replies mid → Run may words quits mid more others new → Run may words quits s (lines ++ more) (replies ++ others) new
unfolding Run
run-append may words quits s mid new [] more replies others first then_ =
    let P : List (List ℕ) → Type 0 = λ z. Run may words quits s more (z ++ others) new in
    let Q : State → Type 0 = λ z. Run may words quits z more others new in
    subst P (sym (first.1)) (subst Q (first.2) then_)
run-append may words quits s mid new (line ∷ lines) more replies others first then_ =
    at (first.0) (first.1) (first.2) (first.3) (first.4) (first.5) (first.6) (λ m rest h. run-append may words quits m mid new lines more rest others h then_)
  where
    at : (ends : Bool) (one rest : List (List ℕ)) (m : State) → LineStep may words s line ends one m → replies ≡ one ++ rest
        → MatchBool ends ((false ≡ true) × (lines ≡ []) × (rest ≡ []) × (mid ≡ m)) (Run may words false m lines rest mid)
        → ((n : State) (left : List (List ℕ)) → Run may words false n lines left mid → Run may words quits n (lines ++ more) (left ++ others) new)
        → Run may words quits s (line ∷ (lines ++ more)) (replies ++ others) new
    at true one rest m step e h k = absurd (cc)
    at false one rest m step e h k = (false, one, rest ++ others, m, step, ap (λ z. z ++ others) e ∙ append_assoc one rest others, k m rest h)

-- a run that goes on after all of its lines is one over the first of them, and then one over the others
pub record Cut (may : ℕ → State → Parsed → Bool) (words : ℕ) (s new : State) (lines more : List Line) (replies : List (List ℕ)) : Type 0 where
  pub mid : State
  pub earlier : List (List ℕ)
  pub others : List (List ℕ)
  pub first : Run may words false s lines earlier mid
  pub then : Run may words false mid more others new
  pub whole : replies ≡ earlier ++ others

pub run-cut : (may : ℕ → State → Parsed → Bool) (words : ℕ) (s new : State) (lines more : List Line) (replies : List (List ℕ))
    → Run may words false s (lines ++ more) replies new → Cut may words s new lines more replies
unfolding Run
run-cut may words s new [] more replies h = record { mid = s; earlier = []; others = replies; first = (refl, refl, refl); then = h; whole = refl }
run-cut may words s new (line ∷ lines) more replies h = at (h.0) (h.4) (h.6) (λ k. run-cut may words (h.3) new lines more (h.2) k)
  where
    at : (ends : Bool) → LineStep may words s line ends (h.1) (h.3)
        → MatchBool ends ((false ≡ true) × (lines ++ more ≡ []) × (h.2 ≡ []) × (new ≡ h.3)) (Run may words false (h.3) (lines ++ more) (h.2) new)
        → (Run may words false (h.3) (lines ++ more) (h.2) new → Cut may words (h.3) new lines more (h.2)) → Cut may words s new (line ∷ lines) more replies
    at true step k rest = absurd (cc)
    at false step k rest = let c = rest k in record {
      mid = c.mid;
      earlier = h.1 ++ c.earlier;
      others = c.others;
      first = (false, h.1, c.earlier, h.3, step, refl, c.first);
      then = c.then;
      whole = h.5 ∙ (ap (λ z. h.1 ++ z) c.whole ∙ sym (append_assoc (h.1) c.earlier c.others));
    }

-- a run of one line
pub run-one : (may : ℕ → State → Parsed → Bool) (words : ℕ) (quits : Bool) (s new : State) (line : Line) (replies : List (List ℕ))
    → LineStep may words s line quits replies new → Run may words quits s (line ∷ []) replies new
unfolding Run
run-one may words true s new line replies h = (true, replies, [], new, h, sym (append-nil replies), (refl, refl, refl, refl))
run-one may words false s new line replies h = (false, replies, [], new, h, sym (append-nil replies), (refl, refl, refl))

-- a run of no line
pub run-none : (may : ℕ → State → Parsed → Bool) (words : ℕ) (s : State) → Run may words false s [] [] s
unfolding Run
run-none may words s = (refl, refl, refl)

-- the text of replies one after the other
pub text-append : (xs ys : List (List ℕ)) → replies_text (xs ++ ys) ≡ replies_text xs ++ replies_text ys
text-append [] ys = refl
text-append (x ∷ xs) ys = ap (λ l. x ++ (10 ∷ l)) (text-append xs ys) ∙ sym (append_assoc x (10 ∷ replies_text xs) (replies_text ys))
