-- How what was written grows over several calls.
use Rattle.std.proofs.Common.{ℕ, ◌+◌, ◌-◌, ◌<◌, ◌≤◌, List, [], ◌++◌, length, take, drop, sym, ap, subst, ◌∙◌, arith, append_assoc, append-nil, take-append-drop, length-append, length-drop}
use lib.Seq.{take-add, take-take}
use Rattle.line_io.specs.Sink.{Grew, GrewInPart}

pub Grew-nil : {K : Type 0} (wrote : K → List ℕ → Type 0) (old : K) → Grew wrote old old []
Grew-nil wrote old = record { each = λ before h. subst (wrote old) (sym (append-nil before)) h }

pub Grew-append : {K : Type 0} (wrote : K → List ℕ → Type 0) (old mid new : K) (x y : List ℕ) → Grew wrote old mid x → Grew wrote mid new y → Grew wrote old new (x ++ y)
Grew-append wrote old mid new x y first second =
    record { each = λ before h. subst (wrote new) (append_assoc before x y) (second.each (before ++ x) (first.each before h)) }

-- the bytes from `done` on, of which a call took n
pub Grew-more : {K : Type 0} (wrote : K → List ℕ → Type 0) (old mid new : K) (xs : List ℕ) (done n : ℕ) → done + n ≤ length xs
    → Grew wrote old mid (take done xs) → Grew wrote mid new (take n (take (length xs - done) (drop done xs))) → Grew wrote old new (take (done + n) xs)
Grew-more wrote old mid new xs done n fits first second =
    let joined = ap (λ l. take done xs ++ l) (take-take n (length xs - done) (drop done xs) (omega arith)) ∙ sym (take-add done n xs) in
    subst (Grew wrote old new) joined (Grew-append wrote old mid new _ _ first second)

-- a part that stopped short of the end
pub part-of-front : {K : Type 0} (wrote : K → List ℕ → Type 0) (old new : K) (xs : List ℕ) (n : ℕ) → n < length xs → Grew wrote old new (take n xs) → GrewInPart wrote old new xs
part-of-front wrote old new xs n short grew = record {
  part = take n xs;
  missing = drop n xs;
  whole = sym (take-append-drop n xs);
  some = omega (arith, length-drop n xs);
  grew = grew;
}

-- a front of the first part is one of both
pub part-front : {K : Type 0} (wrote : K → List ℕ → Type 0) (old new : K) (x y : List ℕ) → GrewInPart wrote old new x → GrewInPart wrote old new (x ++ y)
part-front wrote old new x y p = record {
  part = p.part;
  missing = p.missing ++ y;
  whole = ap (λ l. l ++ y) p.whole ∙ append_assoc p.part p.missing y;
  some = let h : 0 < length p.missing = p.some in omega (arith, h, length-append p.missing y);
  grew = p.grew;
}

-- the first part and a front of the second
pub part-after : {K : Type 0} (wrote : K → List ℕ → Type 0) (old mid new : K) (x y : List ℕ) → Grew wrote old mid x → GrewInPart wrote mid new y → GrewInPart wrote old new (x ++ y)
part-after wrote old mid new x y g p = record {
  part = x ++ p.part;
  missing = p.missing;
  whole = ap (λ l. x ++ l) p.whole ∙ sym (append_assoc x p.part p.missing);
  some = p.some;
  grew = Grew-append wrote old mid new x p.part g p.grew;
}
