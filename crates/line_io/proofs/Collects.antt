-- What the inner sink has, after bytes were written to the adapter in front of it.
use Rattle.std.proofs.Common.{◌≡◌, ℕ, zero, suc, List, [], ◌∷◌, ◌++◌, ◌-◌, ◌≤◌, drop, arith, length-take, length-append, refl, sym, ap, subst, ◌∙◌, append_assoc, append-nil, Result, Ok, Err}
use Rattle.std.specs.Prelude.{IsErr}
use Rattle.std.proofs.lemmas.List.{append_cancel_right}
use Rattle.line_io.specs.Faults.{Rose}
use Rattle.line_io.specs.Sink.{Grew, GrewInPart, WritesTold}
use Rattle.line_io.specs.Gathered.{gathered_wrote, pending, HandsOn, Sent}
use Rattle.line_io.specs.declared.gathered.Gathered.{Gathered}
use Rattle.line_io.proofs.Growth.{Grew-append, Grew-nil}
use Rattle.line_io.proofs.Ranges.{nothing-held}

-- nothing is gathered where the end of what is gathered is the buffer's front
pub none-pending : {K : Type 0} (g : Gathered K) → g.to ≡ 0 → pending g ≡ []
none-pending g emptied = nothing-held (pending g) (omega (arith, emptied, length-take (g.to - g.from) (drop g.from g.buf)))

-- nothing was handed on
pub hands-none : {K : Type 0} (wrote : K → List ℕ → Type 0) (g : Gathered K) → HandsOn wrote g g
hands-none wrote g = record { out = []; parts = refl; grew = Grew-nil wrote g.sink.now }

module _ {K : Type 0} (wrote : K → List ℕ → Type 0) (old new : Gathered K) where
  joined : (taken before x out : List ℕ) → taken ≡ before ++ pending old → pending old ++ x ≡ out ++ pending new → taken ++ x ≡ (before ++ out) ++ pending new
  joined taken before x out whole parts =
      ap (λ l. l ++ x) whole ∙ append_assoc before (pending old) x ∙ ap (λ l. before ++ l) parts ∙ sym (append_assoc before out (pending new))

  -- of what was gathered and of the bytes x, the first were handed on, and the others are gathered
  moved : (x out : List ℕ) → old.sink.ghost_name ≡ new.sink.ghost_name → pending old ++ x ≡ out ++ pending new → Grew wrote old.sink.now new.sink.now out
      → (marked : List ℕ) → gathered_wrote wrote old marked → gathered_wrote wrote new (marked ++ x)
  moved x out same parts grew [] h = absurd h
  moved x out same parts grew (name ∷ []) h = absurd h
  moved x out same parts grew (name ∷ zero ∷ taken) h = (h.0 ∙ same, (h.1.0 ++ out, joined taken h.1.0 x out h.1.1 parts))
  moved x out same parts grew (name ∷ suc n ∷ taken) h = (h.0 ++ out, grew.each h.0 h.1, joined taken h.0 x out h.2 parts)

  pub gathered-grew : (x out : List ℕ) → old.sink.ghost_name ≡ new.sink.ghost_name → pending old ++ x ≡ out ++ pending new → Grew wrote old.sink.now new.sink.now out
      → Grew (gathered_wrote wrote) old new x
  gathered-grew x out same parts grew = record { each = moved x out same parts grew }

  -- bytes were gathered, after some of those that were gathered before were handed on
  pub gathers : (mid : Gathered K) (x : List ℕ) → mid.sink.ghost_name ≡ old.sink.ghost_name → HandsOn wrote old mid → new.sink ≡ mid.sink → pending new ≡ pending mid ++ x
      → Grew (gathered_wrote wrote) old new x
  gathers mid x names on same gathered =
      let parts = ap (λ l. l ++ x) on.parts ∙ append_assoc on.out (pending mid) x ∙ ap (λ l. on.out ++ l) (sym gathered) in
      gathered-grew x on.out (sym (ap (λ s. s.ghost_name) same ∙ names)) parts (subst (λ s. Grew wrote old.sink.now s.now on.out) (sym same) on.grew)

  -- all that was gathered was handed on
  pub handed-all : HandsOn wrote old new → new.to ≡ 0 → Grew wrote old.sink.now new.sink.now (pending old)
  handed-all on emptied =
      let whole = on.parts ∙ ap (λ l. on.out ++ l) (none-pending new emptied) ∙ append-nil on.out in
      subst (Grew wrote old.sink.now new.sink.now) (sym whole) on.grew

  -- bytes that were written to a new adapter were handed on, up to those that are gathered
  pub sent : (x : List ℕ) → pending old ≡ [] → Grew (gathered_wrote wrote) old new x → Sent wrote old new x
  sent x empty grew =
      let put = grew.each (old.sink.ghost_name ∷ zero ∷ []) (refl, ([], sym empty)) in
      let out = put.1.0 in
      record {
        same_reference = put.0;
        out = out;
        parts = put.1.1;
        grew = record {
          each = λ before h.
              let has = grew.each (0 ∷ suc zero ∷ before) (before, h, sym (append-nil before) ∙ ap (λ l. before ++ l) (sym empty)) in
              let same : (before ++ out) ++ pending new ≡ has.0 ++ pending new =
              append_assoc before out (pending new) ∙ ap (λ l. before ++ l) (sym put.1.1) ∙ has.2 in
              subst (wrote new.sink.now) (sym (append_cancel_right (before ++ out) has.0 (pending new) same)) has.1;
        };
      }

  -- the adapter stands in front of the same sink still
  pub same-sink : (x : List ℕ) → pending old ≡ [] → Grew (gathered_wrote wrote) old new x → old.sink.ghost_name ≡ new.sink.ghost_name
  same-sink x empty grew = (sent x empty grew).same_reference

  -- all that was written was handed on
  pub sent-all : (last : K) (x : List ℕ) → Sent wrote old new x → Grew wrote new.sink.now last (pending new) → Grew wrote old.sink.now last x
  sent-all last x first rest = subst (Grew wrote old.sink.now last) (sym first.parts) (Grew-append wrote _ _ _ _ _ first.grew rest)

  -- not all that is gathered was handed on
  pub sent-short : (last : K) (x : List ℕ) → Sent wrote old new x → GrewInPart wrote new.sink.now last (pending new) → GrewInPart wrote old.sink.now last x
  sent-short last x first rest = record {
    part = first.out ++ rest.part;
    missing = rest.missing;
    whole = first.parts ∙ ap (λ l. first.out ++ l) rest.whole ∙ sym (append_assoc first.out rest.part rest.missing);
    some = rest.some;
    grew = Grew-append wrote _ _ _ _ _ first.grew rest.grew;
  }

  -- not all was written to the adapter that was to be written
  pub sent-part : (x : List ℕ) → pending old ≡ [] → GrewInPart (gathered_wrote wrote) old new x → GrewInPart wrote old.sink.now new.sink.now x
  sent-part x empty grew =
      let first = sent grew.part empty grew.grew in
      record {
        part = first.out;
        missing = pending new ++ grew.missing;
        whole = grew.whole ∙ ap (λ l. l ++ grew.missing) first.parts ∙ append_assoc first.out (pending new) grew.missing;
        some = omega (arith, grew.some, length-append (pending new) grew.missing);
        grew = first.grew;
      }

  -- the adapter wrote x, and finished: last is what the sink is then
  pub finished : {E : Type 0} (faults : K → ℕ) (start last final : K) (x : List ℕ) (r : Result (Unit {0}) E) → old.sink.now ≡ start → pending old ≡ [] → Grew (gathered_wrote wrote) old new x
      → faults old.sink.now ≤ faults new.sink.now → faults new.sink.now ≡ faults old.sink.now → WritesTold wrote faults new.sink.now last (pending new) r → final ≡ last
      → WritesTold wrote faults start final x r
  finished {E} faults start last final x (Ok u) starts empty grew later told rest ends =
      let whole : Grew wrote old.sink.now last x = sent-all last x (sent x empty grew) rest.all in
      let P : K → Type 0 = λ k. WritesTold {E = E} wrote faults k last x (Ok u) in
      let Q : K → Type 0 = λ k. WritesTold {E = E} wrote faults start k x (Ok u) in
      subst Q (sym ends) (subst P starts (record { all = whole; part = tt; later = omega (arith, later, rest.later); rose = tt; told = rest.told ∙ told }))
  finished {E} faults start last final x (Err e) starts empty grew later told rest ends =
      let short : GrewInPart wrote old.sink.now last x = sent-short last x (sent x empty grew) rest.part in
      let P : K → Type 0 = λ k. WritesTold {E = E} wrote faults k last x (Err e) in
      let Q : K → Type 0 = λ k. WritesTold {E = E} wrote faults start k x (Err e) in
      subst Q (sym ends) (subst P starts (record { all = tt; part = short; later = omega (arith, later, rest.later); rose = omega (arith, later, rest.later, rest.rose); told = tt }))

  -- writing x to the adapter failed, and it was given up
  pub given-up : {E : Type 0} (faults : K → ℕ) (start final : K) (x : List ℕ) (r : Result (Unit {0}) E) → IsErr r → old.sink.now ≡ start → pending old ≡ []
      → GrewInPart (gathered_wrote wrote) old new x
      → faults old.sink.now ≤ faults new.sink.now → Rose (faults old.sink.now) (faults new.sink.now) → final ≡ new.sink.now → WritesTold wrote faults start final x r
  given-up faults start final x (Ok u) failed starts empty grew later rose ends = cc
  given-up {E} faults start final x (Err e) failed starts empty grew later rose ends =
      let P : K → Type 0 = λ k. WritesTold {E = E} wrote faults k new.sink.now x (Err e) in
      let Q : K → Type 0 = λ k. WritesTold {E = E} wrote faults start k x (Err e) in
      subst Q (sym ends) (subst P starts (record { all = tt; part = sent-part x empty grew; later = later; rose = rose; told = tt }))
