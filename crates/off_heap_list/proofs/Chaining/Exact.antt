-- A chain that lists what is reached makes counts exact.
use Rattle.std.proofs.Common.{◌≡◌, ℕ, ◌+◌, ◌≤◌, ◌⊎◌, ◌==◌, if◌then◌else◌, cond, Bool, true, false, List, [], ◌∷◌, ◌++◌, length, filter, refl, sym, ◌∙◌, ap, arith, inl, inr}
use Rattle.term_words.proofs.Totals.Members.{in-filter, filter-in, filter-distinct, in-left}
use Rattle.term_words.specs.Object.{IsRecord}
use Rattle.term_words.specs.Counted.{In, Distinct}
use Rattle.shared_rec.proofs.Records.{record-stays}
use Rattle.std.proofs.lemmas.Bool.{eq-eqb, eqb-true}
use Rattle.shared_rec.specs.Record.{count_in}
use Rattle.off_heap_list.specs.Links.{names_it, named, naming, Links}
use Rattle.off_heap_list.specs.Exact.{ListsHeld, AllCounted, Exact, OwnChain, objects_of, Chained}
use Rattle.off_heap_list.specs.Swept.{named_records}
use Rattle.off_heap_list.specs.Whole.{SweptWhole}
use Rattle.off_heap_list.specs.declared.whole.Survivors.{Survivors}

one-more : (b : Bool) (p : ℕ) (os : List ℕ) → length (cond b (p ∷ os) os) ≡ (if b then 1 else 0) + length os
one-more true p os = omega arith
one-more false p os = omega arith

-- Those of a list that name a record are as many as its namings.
namers : (mem : List ℕ) (v : ℕ) (os : List ℕ) → length (filter (λ p. named mem p == v) os) ≡ naming mem v os
namers mem v [] = refl
namers mem v (p ∷ os) =
    one-more (named mem p == v) p (filter (λ q. named mem q == v) os) ∙ ap (λ n. names_it (named mem p) v + n) (namers mem v os)

-- Where counts are namings by a list that has exactly what is reached, they are exact.
listed-exact : (c : ℕ → ℕ → Bool) (mem roots os : List ℕ) → ((v n : ℕ) → IsRecord c mem v n → count_in mem v ≡ naming mem v os) → AllCounted c mem → ListsHeld c mem roots os
    → Exact c mem roots
listed-exact c mem roots os counts some held = λ v n there. (
  record {
    each = filter (λ p. named mem p == v) os;
    once = filter-distinct (λ p. named mem p == v) os held.once;
    all = λ p reached name. filter-in (λ p. named mem p == v) p os (held.all p reached) (eq-eqb (named mem p) v name);
    only = λ p inside. let both = in-filter (λ p. named mem p == v) p os inside in (held.only p both.0, eqb-true (named mem p) v both.1);
    number = namers mem v os ∙ sym (counts v n there);
  },
  some v n there,
)

pub counts-exact : (c : ℕ → ℕ → Bool) (mem roots : List ℕ) (head : ℕ) (os : List ℕ) → Links c mem head os [] → ListsHeld c mem roots os → AllCounted c mem → Exact c mem roots
counts-exact c mem roots head os l held some = listed-exact c mem roots os (λ v n there. l.counts v n there ∙ omega arith) some held

pub naming-both : (mem : List ℕ) (v : ℕ) (xs ys : List ℕ) → naming mem v (xs ++ ys) ≡ naming mem v xs + naming mem v ys
naming-both mem v [] ys = omega arith
naming-both mem v (x ∷ xs) ys = omega (arith, naming-both mem v xs ys)

pub several-exact : (c : ℕ → ℕ → Bool) (mem roots : List ℕ) (xs : List OwnChain) (further : List ℕ) → Chained c mem roots xs further → ListsHeld c mem roots (objects_of xs ++ further)
    → Exact c mem roots
several-exact c mem roots xs further k held =
    listed-exact c mem roots (objects_of xs ++ further) (λ v n there. k.counts v n there ∙ sym (naming-both mem v (objects_of xs) further)) k.some held

-- After a sweep each record is counted still, or is told.
pub counted-or-told : (c : ℕ → ℕ → Bool) (start mem os kept further : List ℕ) (left : Survivors) (s : SweptWhole c start mem os kept further left) → AllCounted c start
    → (v n : ℕ) → IsRecord c mem v n → (1 ≤ count_in mem v) ⊎ In v (named_records mem s.ends)
counted-or-told c start mem os kept further left s some v n there =
    let which : (1 ≤ count_in mem v) ⊎ (count_in mem v ≡ 0) = grind arith in
    elim which [
      | inl more ↦ inl more
      | inr zero ↦ inr (s.records.all v n there zero (omega (arith, some v n (record-stays c c mem start v n s.back there))))
    ]

-- The parts of a list without repetition.

pub distinct-left : (xs ys : List ℕ) → Distinct (xs ++ ys) → Distinct xs
distinct-left [] ys d = tt
distinct-left (x ∷ xs) ys (n, d) = ((λ i. n (in-left x xs ys i)), distinct-left xs ys d)

pub distinct-right : (xs ys : List ℕ) → Distinct (xs ++ ys) → Distinct ys
distinct-right [] ys d = d
distinct-right (x ∷ xs) ys (n, d) = distinct-right xs ys d
