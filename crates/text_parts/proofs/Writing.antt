-- Texts that are written one after the other.
use Rattle.std.proofs.Common.{◌≡◌, ℕ, List, ◌++◌, Result, Ok, Err, subst, sym, ◌∙◌, arith}
use Rattle.std.specs.Prelude.{IsErr}
use Rattle.line_io.specs.Sink.{Grew, WritesTold}
use Rattle.line_io.proofs.Growth.{Grew-append, part-front, part-after}

-- The first text was written, and then what a call left of the second.
pub written-after : {K E : Type 0} (wrote : K → List ℕ → Type 0) (faults : K → ℕ) (old mid new : K) (x y : List ℕ) (r : Result (Unit {0}) E) → Grew wrote old mid x → faults mid ≡ faults old
    → WritesTold wrote faults mid new y r → WritesTold wrote faults old new (x ++ y) r
written-after wrote faults old mid new x y (Ok u) g same w =
    record { all = Grew-append wrote old mid new x y g w.all; part = tt; later = omega (arith, same, w.later); rose = tt; told = w.told ∙ same }
written-after wrote faults old mid new x y (Err e) g same w =
    record { all = tt; part = part-after wrote old mid new x y g w.part; later = omega (arith, same, w.later); rose = omega (arith, same, w.rose); told = tt }

-- What was written is the text, however that is said.
pub written-as : {K E : Type 0} (wrote : K → List ℕ → Type 0) (faults : K → ℕ) (old new : K) (x y : List ℕ) (r : Result (Unit {0}) E) → x ≡ y → WritesTold wrote faults old new x r
    → WritesTold wrote faults old new y r
written-as {K} {E} wrote faults old new x y r e w = let P : List ℕ → Type 0 = λ z. WritesTold {K = K} {E = E} wrote faults old new z r in subst P e w

-- A fault in the first text is one in both.
pub written-short : {K E F : Type 0} (wrote : K → List ℕ → Type 0) (faults : K → ℕ) (old new : K) (x y : List ℕ) (e : E) (r : Result (Unit {0}) F) → IsErr r
    → WritesTold wrote faults old new x (Err e) → WritesTold wrote faults old new (x ++ y) r
written-short wrote faults old new x y e (Ok u) failed w = absurd (cc)
written-short wrote faults old new x y e (Err f) failed w = record { all = tt; part = part-front wrote old new x y w.part; later = w.later; rose = w.rose; told = tt }

-- A text of which the first part was written, and then a fault came in the second.
pub written-stops : {K E F : Type 0} (wrote : K → List ℕ → Type 0) (faults : K → ℕ) (old mid new : K) (whole came x more : List ℕ) (e : E) (r : Result (Unit {0}) F) → IsErr r
    → Grew wrote old mid came → faults mid ≡ faults old → whole ≡ came ++ (x ++ more) → WritesTold wrote faults mid new x (Err e) → WritesTold wrote faults old new whole r
written-stops {K} {E} {F} wrote faults old mid new whole came x more e r failed g same is w =
    written-as wrote faults old new (came ++ (x ++ more)) whole r (sym is)
    (written-after wrote faults old mid new came (x ++ more) r g same (written-short wrote faults mid new x more e r failed w))
