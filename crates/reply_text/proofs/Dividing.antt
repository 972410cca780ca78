-- An entry that is written after what divides it from the one before.
use Rattle.std.proofs.Common.{◌≡◌, ℕ, Bool, List, ◌++◌, ap, ◌∙◌, Result}
use Rattle.line_io.specs.Sink.{Grew, WritesTold}
use Rattle.text_parts.proofs.Writing.{written-after, written-as}
use Rattle.reply_text.specs.Texts.{divider}

pub entry-written : {K E : Type 0} (wrote : K → List ℕ → Type 0) (faults : K → ℕ) (old mid new : K) (first : Bool) (before text entry : List ℕ) (r : Result (Unit {0}) E) → before ≡ divider first
    → text ≡ entry → Grew wrote old mid before → faults mid ≡ faults old → WritesTold wrote faults mid new text r → WritesTold wrote faults old new (divider first ++ entry) r
entry-written wrote faults old mid new first before text entry r is same g told w =
    written-as wrote faults old new (before ++ text) (divider first ++ entry) r (ap (λ z. z ++ text) is ∙ ap (λ z. divider first ++ z) same)
    (written-after wrote faults old mid new before text r g told w)
