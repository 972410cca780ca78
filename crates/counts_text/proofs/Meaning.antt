-- The text of the tables is one that `counts` may be answered by.
use Rattle.std.proofs.Common.{◌≡◌, ℕ, ◌+◌, ◌*◌, ◌<◌, ◌≤◌, Bool, true, List, [], ◌∷◌, ◌++◌, length, map, refl, sym, ◌∙◌, ap, subst, arith, inl, inr}
use Rattle.plain_term.specs.Bytes.{shared_bytes}
use Rattle.plain_term.specs.Measures.{bin_words}
use Rattle.plain_term.specs.Tree.{Trees}
use Rattle.plain_term.proofs.Rising.{is-less}
use Rattle.plain_machine.specs.State.{State}
use Rattle.plain_machine.specs.Tightness.{ids_in_all, funs_in_all}
use Rattle.plain_machine.specs.Maps.{CountedBin, CountedFun, AreIds, AreFuns, IsBelow, AreCounted, CountSome, AllIn, CountsOf, id_of, code_of, living_ids, living_funs, occurrences}
use Rattle.term_words.specs.Object.{IsBinRecord, IsFunRecord, IsRecord}
use Rattle.term_words.specs.Stands.{AllStand}
use Rattle.term_words.specs.Counted.{In, Distinct}
use Rattle.term_words.proofs.Totals.Members.{in-both}
use Rattle.shared_rec.specs.Record.{owner_in, count_in}
use Rattle.off_heap_list.specs.Links.{naming}
use Rattle.record_move.specs.Tables.{OwnersRise}
use Rattle.counted_records.specs.Occurs.{AreHeld, BinOccurs, FunOccurs}
use Rattle.counted_records.proofs.Occurring.{bin-namings, fun-namings, ids-all-stand, funs-all-stand}
use Rattle.atom_names.specs.Names.{AreNames}
use Rattle.counts_text.specs.Told.{bin_of, fun_of, is_before, by_name, CanReadTables, CanTellCounts, counts_told}
use Rattle.counts_text.proofs.Ordered.{Rising, in-named, named-in, named-rises}

-- Each record that stands is counted by the chain's objects, which the roots reach.
pub record CountsExactly (c : ℕ → ℕ → Bool) (mem roots os : List ℕ) : Type 0 where
  pub held : AreHeld c mem roots os
  pub once : Distinct os
  pub counts : (v n : ℕ) → IsRecord c mem v n → count_in mem v ≡ naming mem v os

-- Tables of all records: those of binaries by rising serials of the state, with their bytes, and those of funs. None has count 0.
pub record AllListed (c : ℕ → ℕ → Bool) (shared : List (List ℕ)) (mem : List ℕ) (bins funs : List ℕ) : Type 0 where
  pub each_bin : (v : ℕ) → In v bins → (1 ≤ owner_in mem v) × ((owner_in mem v ≤ length shared) × IsBinRecord c mem v (owner_in mem v) (shared_bytes shared (owner_in mem v)))
  pub each_fun : (v : ℕ) → In v funs → (name arity : ℕ) × IsFunRecord c mem v name arity
  pub every : (v n : ℕ) → IsRecord c mem v n → In v (bins ++ funs)
  pub serials : OwnersRise mem bins
  pub some : (v n : ℕ) → IsRecord c mem v n → 1 ≤ count_in mem v

differ : (c : ℕ → ℕ → Bool) (mem : List ℕ) (v serial : ℕ) (bytes : List ℕ) (name arity : ℕ) → IsBinRecord c mem v serial bytes → IsFunRecord c mem v name arity → ⊥
differ c mem v serial bytes name arity b f = omega (arith, b.header, f.header)

in-ids : (mem : List ℕ) (v : ℕ) (vs : List ℕ) → In v vs → In (owner_in mem v) (map id_of (map (bin_of mem) vs))
in-ids mem v [] i = absurd i
in-ids mem v (w ∷ vs) (inl e) = inl (ap (λ x. owner_in mem x) e)
in-ids mem v (w ∷ vs) (inr i) = inr (in-ids mem v vs i)

code-is : (mem : List ℕ) (v : ℕ) → code_of (fun_of mem v) ≡ owner_in mem v
code-is mem v = omega arith

in-codes : (mem : List ℕ) (v : ℕ) (vs : List ℕ) → In v vs → In (owner_in mem v) (map code_of (map (fun_of mem) vs))
in-codes mem v [] i = absurd i
in-codes mem v (w ∷ vs) (inl e) = inl (ap (λ x. owner_in mem x) e ∙ sym (code-is mem w))
in-codes mem v (w ∷ vs) (inr i) = inr (in-codes mem v vs i)

ids-rise : (mem : List ℕ) (above last : ℕ) (vs : List ℕ) → ((v : ℕ) → In v vs → (above < owner_in mem v) × (owner_in mem v ≤ last)) → OwnersRise mem vs → AreIds above last (map (bin_of mem) vs)
ids-rise mem above last [] each rise = tt
ids-rise mem above last (v ∷ vs) each (first, rise) =
    let here = each v (inl refl) in
    (here.0, here.1, ids-rise mem (owner_in mem v) last vs (λ w i. (first w i, (each w (inr i)).1)) rise)

funs-rise : (mem : List ℕ) (names : List (List ℕ)) (vs : List ℕ) → ((v : ℕ) → In v vs → CanReadTables mem names v) → Rising mem names vs → AreFuns names (map (fun_of mem) vs)
unfolding Rising
funs-rise mem names [] each r = tt
funs-rise mem names (v ∷ vs) each (first, rest) =
    (below-first mem names v vs first, (each v (inl refl)).known, omega arith, funs-rise mem names vs (λ w i. each w (inr i)) rest)
  where
    below-first : (mem : List ℕ) (names : List (List ℕ)) (v : ℕ) (vs : List ℕ) → ((w : ℕ) → In w vs → is_before mem names v w ≡ true) → IsBelow names (fun_of mem v) (map (fun_of mem) vs)
    below-first mem names v [] f = tt
    below-first mem names v (w ∷ vs) f = is-less _ (f w (inl refl))

bins-counted : (mem occurring : List ℕ) (vs : List ℕ) → ((v : ℕ) → In v vs → (1 ≤ count_in mem v) × (count_in mem v ≤ occurrences (owner_in mem v) occurring))
    → AreCounted id_of (λ (b : CountedBin). b.count) occurring (map (bin_of mem) vs)
bins-counted mem occurring [] each = tt
bins-counted mem occurring (v ∷ vs) each = ((each v (inl refl)).0, (each v (inl refl)).1, bins-counted mem occurring vs (λ w i. each w (inr i)))

funs-counted : (mem occurring : List ℕ) (vs : List ℕ) → ((v : ℕ) → In v vs → (1 ≤ count_in mem v) × (count_in mem v ≤ occurrences (code_of (fun_of mem v)) occurring))
    → AreCounted code_of (λ (f : CountedFun). f.count) occurring (map (fun_of mem) vs)
funs-counted mem occurring [] each = tt
funs-counted mem occurring (v ∷ vs) each = ((each v (inl refl)).0, (each v (inl refl)).1, funs-counted mem occurring vs (λ w i. each w (inr i)))

bins-some : (mem vs : List ℕ) → ((v : ℕ) → In v vs → 1 ≤ count_in mem v) → CountSome (λ (b : CountedBin). b.count) (map (bin_of mem) vs)
bins-some mem [] each = tt
bins-some mem (v ∷ vs) each = (each v (inl refl), bins-some mem vs (λ w i. each w (inr i)))

funs-some : (mem vs : List ℕ) → ((v : ℕ) → In v vs → 1 ≤ count_in mem v) → CountSome (λ (f : CountedFun). f.count) (map (fun_of mem) vs)
funs-some mem [] each = tt
funs-some mem (v ∷ vs) each = (each v (inl refl), funs-some mem vs (λ w i. each w (inr i)))

module _ (s : State) (c : ℕ → ℕ → Bool) (mem roots : List ℕ) (ts : Trees) (bins funs os : List ℕ) (all : AllStand c s.shared mem roots ts) (ids : ids_in_all ts ≡ living_ids s)
    (codes : funs_in_all ts ≡ living_funs s) (read : CanTellCounts mem s.names bins funs) (names : AreNames s.names) (l : AllListed c s.shared mem bins funs)
    (exact : s.swept ≡ true → CountsExactly c mem roots os) where
  bin-record : (v : ℕ) → In v bins → IsRecord c mem v (4 + bin_words (length (shared_bytes s.shared (owner_in mem v))))
  bin-record v i = inl (owner_in mem v, shared_bytes s.shared (owner_in mem v), (l.each_bin v i).1.1, refl)

  fun-record : (v : ℕ) → In v funs → IsRecord c mem v 4
  fun-record v i = let (name, arity, there) = l.each_fun v i in inr (name, arity, there, refl)

  bin-inside : (v serial : ℕ) (bytes : List ℕ) → IsBinRecord c mem v serial bytes → In v bins
  bin-inside v serial bytes there = elim (in-both v bins funs (l.every v (4 + bin_words (length bytes)) (inl (serial, bytes, there, refl)))) [
    | inl i ↦ i
    | inr i ↦ absurd (let (name, arity, other) = l.each_fun v i in differ c mem v serial bytes name arity there other)
  ]

  fun-inside : (v name arity : ℕ) → IsFunRecord c mem v name arity → In v funs
  fun-inside v name arity there = elim (in-both v bins funs (l.every v 4 (inr (name, arity, there, refl)))) [
    | inl i ↦ absurd (differ c mem v (owner_in mem v) (shared_bytes s.shared (owner_in mem v)) name arity (l.each_bin v i).1.1 there)
    | inr i ↦ i
  ]

  ids-occur : AllIn (living_ids s) (map id_of (map (bin_of mem) bins))
  ids-occur n i =
      let P : List ℕ → Type 0 = λ z. In n z in
      let o : BinOccurs c s.shared mem n = ids-all-stand c s.shared mem n roots ts all (subst P (sym ids) i) in
      let Q : ℕ → Type 0 = λ z. In z (map id_of (map (bin_of mem) bins)) in
      subst Q o.is.owner (in-ids mem o.v bins (bin-inside o.v n (shared_bytes s.shared n) o.is))

  codes-occur : AllIn (living_funs s) (map code_of (map (fun_of mem) (by_name mem s.names funs)))
  codes-occur n i =
      let P : List ℕ → Type 0 = λ z. In n z in
      let o : FunOccurs c mem n = funs-all-stand c s.shared mem n roots ts all (subst P (sym codes) i) in
      let Q : ℕ → Type 0 = λ z. In z (map code_of (map (fun_of mem) (by_name mem s.names funs))) in
      let same : owner_in mem o.v ≡ n = omega (arith, o.is.owner, o.code_is) in
      subst Q same (in-codes mem o.v (by_name mem s.names funs) (named-in mem s.names o.v funs (fun-inside o.v o.name o.arity o.is)))

  bin-exact : s.swept ≡ true → (v : ℕ) → In v bins → (1 ≤ count_in mem v) × (count_in mem v ≤ occurrences (owner_in mem v) (living_ids s))
  bin-exact swept v i =
      let x : CountsExactly c mem roots os = exact swept in
      let r : IsRecord c mem v (4 + bin_words (length (shared_bytes s.shared (owner_in mem v)))) = bin-record v i in
      let most : naming mem v os ≤ occurrences (owner_in mem v) (ids_in_all ts) =
      bin-namings c s.shared mem roots ts os all x.held x.once v (owner_in mem v) (shared_bytes s.shared (owner_in mem v)) (l.each_bin v i).1.1 in (
        l.some v (4 + bin_words (length (shared_bytes s.shared (owner_in mem v)))) r,
        omega (arith, x.counts v (4 + bin_words (length (shared_bytes s.shared (owner_in mem v)))) r, most, ap (λ z. occurrences (owner_in mem v) z) ids),
      )

  fun-exact : s.swept ≡ true → (v : ℕ) → In v (by_name mem s.names funs) → (1 ≤ count_in mem v) × (count_in mem v ≤ occurrences (code_of (fun_of mem v)) (living_funs s))
  fun-exact swept v i =
      let x : CountsExactly c mem roots os = exact swept in
      let inside : In v funs = in-named mem s.names v funs i in
      let (name, arity, there) = l.each_fun v inside in
      let most : naming mem v os ≤ occurrences (256 * name + arity) (funs_in_all ts) = fun-namings c s.shared mem roots ts os all x.held x.once v name arity there in
      let same : 256 * name + arity ≡ code_of (fun_of mem v) = omega (arith, there.owner, code-is mem v) in (
        l.some v 4 (fun-record v inside),
        omega (
          arith,
          x.counts v 4 (fun-record v inside),
          most,
          ap (λ z. occurrences z (funs_in_all ts)) same,
          ap (λ z. occurrences (code_of (fun_of mem v)) z) codes,
        ),
      )

  -- The text is allowed.
  pub told-allowed : CountsOf s (counts_told mem s.names bins funs)
  told-allowed = record {
    bins = map (bin_of mem) bins;
    funs = map (fun_of mem) (by_name mem s.names funs);
    said = refl;
    rising = ids-rise mem 0 (length s.shared) bins (λ v i. (omega (arith, (l.each_bin v i).0), (l.each_bin v i).1.0)) l.serials;
    by_names = funs-rise mem s.names (by_name mem s.names funs) (λ v i. read.each_fun v (in-named mem s.names v funs i)) (named-rises mem s.names funs names read.each_fun read.apart);
    bins_occur = ids-occur;
    funs_occur = codes-occur;
    bins_named = bins-some mem bins (λ v i. l.some v (4 + bin_words (length (shared_bytes s.shared (owner_in mem v)))) (bin-record v i));
    funs_named = funs-some mem (by_name mem s.names funs) (λ v i. l.some v 4 (fun-record v (in-named mem s.names v funs i)));
    bins_exact = λ swept. bins-counted mem (living_ids s) bins (bin-exact swept);
    funs_exact = λ swept. funs-counted mem (living_funs s) (by_name mem s.names funs) (fun-exact swept);
  }
