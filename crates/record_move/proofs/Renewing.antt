-- Tables of records that moved.
use Rattle.std.proofs.Common.{◌≡◌, ℕ, ◌+◌, ◌-◌, ◌<◌, ◌≤◌, ◌⊎◌, Bool, true, false, nat_le, List, [], ◌∷◌, ◌++◌, length, get_or}
use Rattle.std.proofs.Common.{take, set, refl, sym, ◌∙◌, ap, subst, arith, inl, inr}
use Rattle.std.proofs.lemmas.Bool.Decides.{nat_tests}
use Rattle.std.proofs.lemmas.List.{append-nil, take_more, take_more_set}
use Rattle.term_words.specs.Object.{IsRecord}
use Rattle.term_words.specs.Counted.{In, Distinct, total, count, ArePacked}
pub use Rattle.term_words.proofs.Totals.Members.{in-at as member-at}
use Rattle.term_words.proofs.Totals.Packing.{packed}
use Rattle.term_words.proofs.Totals.Counts.{count-most}
use Rattle.term_words.proofs.Placing.Roles.{records-apart}
use Rattle.shared_rec.specs.Record.{owner_in, count_in}
use Rattle.shared_rec.proofs.Records.{record-size, record-within}
use Rattle.off_heap_list.specs.Links.{named}
use Rattle.record_move.specs.Copies.{record_words, RecordsMoved}
use Rattle.record_move.specs.Tables.{renewed, AreRecords, OwnersRise, IsRenewed}
use Rattle.record_move.specs.declared.moves.TheConstants.{MOVED}

-- A table, record by record.

pub renewed-moved : (mem : List ℕ) (v : ℕ) (vs : List ℕ) → MOVED ≤ count_in mem v → renewed mem (v ∷ vs) ≡ (count_in mem v - MOVED) ∷ renewed mem vs
renewed-moved mem v vs h = let b : nat_le MOVED (count_in mem v) ≡ true = grind (arith, nat_tests, h) in rw b refl

pub renewed-stayed : (mem : List ℕ) (v : ℕ) (vs : List ℕ) → count_in mem v < MOVED → renewed mem (v ∷ vs) ≡ renewed mem vs
renewed-stayed mem v vs h = let b : nat_le MOVED (count_in mem v) ≡ false = grind (arith, nat_tests, h) in rw b refl

pub renewed-both : (mem vs ws : List ℕ) → renewed mem (vs ++ ws) ≡ renewed mem vs ++ renewed mem ws
renewed-both mem [] ws = refl
renewed-both mem (v ∷ vs) ws =
    let which : (MOVED ≤ count_in mem v) ⊎ (count_in mem v < MOVED) = grind arith in
    elim which [
      | inl h ↦
          let tail : renewed mem (vs ++ ws) ≡ renewed mem vs ++ renewed mem ws = renewed-both mem vs ws in
          renewed-moved mem v (vs ++ ws) h ∙ (ap (λ x. (count_in mem v - MOVED) ∷ x) tail ∙ ap (λ x. x ++ renewed mem ws) (sym (renewed-moved mem v vs h)))
      | inr h ↦ renewed-stayed mem v (vs ++ ws) h ∙ (renewed-both mem vs ws ∙ ap (λ x. x ++ renewed mem ws) (sym (renewed-stayed mem v vs h)))
    ]

module _ (c : ℕ → ℕ → Bool) (start mem : List ℕ) (head : ℕ) (os : List ℕ) (low top : ℕ) (r : RecordsMoved c start mem head os low top) where
  -- A record shows the copy that an object names, or no object names it and its count is no mark.
  follows : (v n : ℕ) → IsRecord c start v n → ((o : ℕ) × (In o os × ((named start o ≡ v) × (count_in mem v ≡ MOVED + named mem o)))) ⊎ (count_in mem v < MOVED)
  follows v n there = elim (r.unshown v n there) [
    | inl still ↦ inr (omega (arith, still, r.few v n there))
    | inr (o, (inside, e)) ↦ inl (o, (inside, (e, ap (λ x. count_in mem x) (sym e) ∙ r.shown o inside)))
  ]

  record-at : (o : ℕ) (inside : In o os) → IsRecord r.test mem (named mem o) (r.objects o inside).words
  record-at o inside = (r.objects o inside).record_is

  later : (v : ℕ) (vs : List ℕ) (u : ℕ) → IsRenewed start mem os vs u → IsRenewed start mem os (v ∷ vs) u
  later v vs u x = record { o = x.o; inside = x.inside; was = inr x.was; is = x.is }

  fewer : (v : ℕ) (vs : List ℕ) → AreRecords c start (v ∷ vs) → AreRecords c start vs
  fewer v vs are = λ w i. are w (inr i)

  pub renewed-made : (vs : List ℕ) → AreRecords c start vs → (u : ℕ) → In u (renewed mem vs) → IsRenewed start mem os vs u
  renewed-made [] are u i = absurd i
  renewed-made (v ∷ vs) are u i =
      let (n, there) = are v (inl refl) in
      let P : List ℕ → Type 0 = λ xs. In u xs in
      elim (follows v n there) [
        | inl (o, (inside, (e, s))) ↦
            let here : In u ((count_in mem v - MOVED) ∷ renewed mem vs) = subst P (renewed-moved mem v vs (omega (arith, s))) i in
            elim here [
              | inl same ↦ record { o = o; inside = inside; was = inl e; is = omega (arith, same, s) }
              | inr deep ↦ later v vs u (renewed-made vs (fewer v vs are) u deep)
            ]
        | inr small ↦ later v vs u (renewed-made vs (fewer v vs are) u (subst P (renewed-stayed mem v vs small) i))
      ]

  pub renewed-all : (vs : List ℕ) (o : ℕ) → In o os → In (named start o) vs → In (named mem o) (renewed mem vs)
  renewed-all [] o inside i = absurd i
  renewed-all (v ∷ vs) o inside (inl e) =
      let s : count_in mem v ≡ MOVED + named mem o = ap (λ x. count_in mem x) (sym e) ∙ r.shown o inside in
      let P : List ℕ → Type 0 = λ xs. In (named mem o) xs in
      subst P (sym (renewed-moved mem v vs (omega (arith, s)))) (inl (omega (arith, s)))
  renewed-all (v ∷ vs) o inside (inr deep) =
      let which : (MOVED ≤ count_in mem v) ⊎ (count_in mem v < MOVED) = grind arith in
      let P : List ℕ → Type 0 = λ xs. In (named mem o) xs in
      elim which [
        | inl h ↦ subst P (sym (renewed-moved mem v vs h)) (inr (renewed-all vs o inside deep))
        | inr h ↦ subst P (sym (renewed-stayed mem v vs h)) (renewed-all vs o inside deep)
      ]

  pub renewed-once : (vs : List ℕ) → AreRecords c start vs → Distinct vs → Distinct (renewed mem vs)
  renewed-once [] are d = tt
  renewed-once (v ∷ vs) are (fresh, d) =
      let (n, there) = are v (inl refl) in
      elim (follows v n there) [
        | inl (o, (inside, (e, s))) ↦
            let none : In (count_in mem v - MOVED) (renewed mem vs) → ⊥ = λ i.
            (let x : IsRenewed start mem os vs (count_in mem v - MOVED) = renewed-made vs (fewer v vs are) (count_in mem v - MOVED) i in
            let copy : named mem o ≡ named mem x.o = omega (arith, s, x.is) in
            let same : named start o ≡ named start x.o = (r.same_one o x.o inside x.inside).0 copy in
            let P : ℕ → Type 0 = λ y. In y vs in
            fresh (subst P (sym same ∙ e) x.was)) in
            subst Distinct (sym (renewed-moved mem v vs (omega (arith, s)))) (none, renewed-once vs (fewer v vs are) d)
        | inr small ↦ subst Distinct (sym (renewed-stayed mem v vs small)) (renewed-once vs (fewer v vs are) d)
      ]

  -- A copy has its record's owner.
  owner-same : (o : ℕ) → In o os → (n : ℕ) → IsRecord c start (named start o) n → owner_in mem (named mem o) ≡ owner_in start (named start o)
  owner-same o inside n there = r.copied o n 1 inside there (let size : 4 ≤ n = (record-within c start (named start o) n there).1 in omega (arith, size))

  pub renewed-owners : (vs : List ℕ) → AreRecords c start vs → OwnersRise start vs → OwnersRise mem (renewed mem vs)
  renewed-owners [] are rise = tt
  renewed-owners (v ∷ vs) are (first, rise) =
      let (n, there) = are v (inl refl) in
      elim (follows v n there) [
        | inl (o, (inside, (e, s))) ↦
            let R : ℕ → Type 0 = λ y. IsRecord c start y n in
            let own : owner_in mem (named mem o) ≡ owner_in start (named start o) = owner-same o inside n (subst R (sym e) there) in
            let place : count_in mem v - MOVED ≡ named mem o = omega (arith, s) in
            let less : (w : ℕ) → In w (renewed mem vs) → owner_in mem (count_in mem v - MOVED) < owner_in mem w = λ w i.
            (let x : IsRenewed start mem os vs w = renewed-made vs (fewer v vs are) w i in
            let (m, here) = fewer v vs are (named start x.o) x.was in
            let other : owner_in mem (named mem x.o) ≡ owner_in start (named start x.o) = owner-same x.o x.inside m here in
            let was : owner_in start v < owner_in start (named start x.o) = first (named start x.o) x.was in
            omega (arith, was, own, other, ap (λ y. owner_in mem y) place, ap (λ y. owner_in start y) e, ap (λ y. owner_in mem y) x.is)) in
            let P : List ℕ → Type 0 = λ xs. OwnersRise mem xs in
            subst P (sym (renewed-moved mem v vs (omega (arith, s)))) (less, renewed-owners vs (fewer v vs are) rise)
        | inr small ↦
            let P : List ℕ → Type 0 = λ xs. OwnersRise mem xs in
            subst P (sym (renewed-stayed mem v vs small)) (renewed-owners vs (fewer v vs are) rise)
      ]

  -- The copies lie side by side, in the words that they moved to.

  record-here : (vs : List ℕ) → AreRecords c start vs → (u : ℕ) → In u (renewed mem vs)
      → (n : ℕ) × (IsRecord r.test mem u n × ((record_words mem u ≡ n) × ((low ≤ u) × (u + n ≤ top))))
  record-here vs are u i =
      let x : IsRenewed start mem os vs u = renewed-made vs are u i in
      let n : ℕ = (r.objects x.o x.inside).words in
      let P : ℕ → Type 0 = λ y. IsRecord r.test mem y n in
      let there : IsRecord r.test mem u n = subst P x.is (record-at x.o x.inside) in
      let lies = r.lies x.o n x.inside (record-at x.o x.inside) in
      (n, (there, (record-size r.test mem u n there, (omega (arith, lies.0, x.is), omega (arith, lies.1, x.is)))))

  are-packed : (vs : List ℕ) → AreRecords c start vs → Distinct vs → low ≤ top → ArePacked (λ u. u) (record_words mem) (λ q. true) low (top - low) (renewed mem vs)
  are-packed vs are d order = record {
    once = renewed-once vs are d;
    apart = λ u w i j.
        let (n, (there, (size, (from, below)))) = record-here vs are u i in
        let (m, (here, (size2, (from2, below2)))) = record-here vs are w j in
        elim (records-apart r.test mem u n w m r.single there here) [
          | inl same ↦ inl same
          | inr (inl a) ↦ inr (inl (omega (arith, a, size)))
          | inr (inr a) ↦ inr (inr (omega (arith, a, size2)))
        ];
    some = λ u i.
        let (n, (there, (size, (from, below)))) = record-here vs are u i in
        omega (arith, size, (record-within r.test mem u n there).1);
    inside = λ u i. let (n, (there, (size, (from, below)))) = record-here vs are u i in (from, omega (arith, size, below, order));
    passes = λ u q i from below. refl;
  }

  pub renewed-fits : (vs : List ℕ) → AreRecords c start vs → Distinct vs → low ≤ top → low + total (record_words mem) (renewed mem vs) ≤ top
  renewed-fits vs are d order =
      let fit : total (record_words mem) (renewed mem vs) ≤ count (λ q. true) low (top - low) =
      packed (λ u. u) (record_words mem) (λ q. true) low (top - low) (renewed mem vs) (are-packed vs are d order) in
      omega (arith, fit, count-most (λ q. true) low (top - low), order)

-- A table that is renewed place by place.

renewed-more : (mem xs : List ℕ) (i : ℕ) → i < length xs → renewed mem (take (i + 1) xs) ≡ renewed mem (take i xs) ++ renewed mem (get_or xs i 0 ∷ [])
renewed-more mem xs i below = ap (λ z. renewed mem z) (take_more xs i 0 below) ∙ renewed-both mem (take i xs) (get_or xs i 0 ∷ [])

pub front-moved : (mem xs ys : List ℕ) (i kept count : ℕ) → i < length xs → kept < length ys → take kept ys ≡ renewed mem (take i xs) → count ≡ count_in mem (get_or xs i 0) → MOVED ≤ count
    → take (kept + 1) (set ys kept (count - MOVED)) ≡ renewed mem (take (i + 1) xs)
front-moved mem xs ys i kept n below room front is marked =
    take_more_set ys kept (n - MOVED) room
    ∙ (ap (λ z. z ++ (n - MOVED) ∷ []) front
    ∙ (ap (λ z. renewed mem (take i xs) ++ (z - MOVED) ∷ []) is
    ∙ (ap (λ z. renewed mem (take i xs) ++ z) (sym (renewed-moved mem (get_or xs i 0) [] (omega (arith, is, marked)))) ∙ sym (renewed-more mem xs i below))))

pub front-stayed : (mem xs ys : List ℕ) (i kept count : ℕ) → i < length xs → take kept ys ≡ renewed mem (take i xs) → count ≡ count_in mem (get_or xs i 0) → count < MOVED
    → take kept ys ≡ renewed mem (take (i + 1) xs)
front-stayed mem xs ys i kept n below front is less =
    front ∙ (sym (append-nil (renewed mem (take i xs)))
    ∙ (ap (λ z. renewed mem (take i xs) ++ z) (sym (renewed-stayed mem (get_or xs i 0) [] (omega (arith, is, less)))) ∙ sym (renewed-more mem xs i below)))
