-- The text of `counts` in its five parts.
use Rattle.std.proofs.Common.{◌≡◌, ℕ, List, ◌++◌, refl, sym, ◌∙◌, append_assoc, Result, Err}
use Rattle.std.specs.Prelude.{IsErr}
use Rattle.line_io.specs.Sink.{Grew, WritesTold}
use Rattle.line_io.proofs.Growth.{Grew-append}
use Rattle.text_parts.proofs.Writing.{written-stops}

-- Of two parts and what follows, the first was written and then a fault came in the second; or the second was written too.

module _ {K : Type 0} (wrote : K → List ℕ → Type 0) (faults : K → ℕ) (old : K) where
  -- What was written is a front of the text, and no fault came.
  pub record Come (new : K) (whole came rest : List ℕ) : Type 0 where
    pub grew : Grew wrote old new came
    pub told : faults new ≡ faults old
    pub parts : whole ≡ came ++ rest

  pub come-first : (new : K) (x rest : List ℕ) → Grew wrote old new x → faults new ≡ faults old → Come new (x ++ rest) x rest
  come-first new x rest g t = record { grew = g; told = t; parts = refl }

  pub come-more : (mid new : K) (whole came x rest : List ℕ) → Come mid whole came (x ++ rest) → Grew wrote mid new x → faults new ≡ faults mid → Come new whole (came ++ x) rest
  come-more mid new whole came x rest c g t = record {
    grew = Grew-append wrote old mid new came x c.grew g;
    told = t ∙ c.told;
    parts = c.parts ∙ sym (append_assoc came x rest);
  }

  pub come-short : {E F : Type 0} (mid new : K) (whole came x rest : List ℕ) (e : E) (r : Result (Unit {0}) F) → IsErr r → Come mid whole came (x ++ rest)
      → WritesTold wrote faults mid new x (Err e)
      → WritesTold wrote faults old new whole r
  come-short mid new whole came x rest e r failed c w = written-stops wrote faults old mid new whole came x rest e r failed c.grew c.told c.parts w
