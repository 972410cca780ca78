-- The words of the records that reached objects name.
use Rattle.std.proofs.Common.{◌≡◌, ℕ, ◌+◌, ◌*◌, ◌≤◌, ◌⊎◌, ◌==◌, Bool, true, List, [], ◌∷◌, length, sum_by}
use Rattle.std.proofs.Common.{refl, sym, ap, subst, arith, inl, inr}
use Rattle.std.proofs.lemmas.Bool.{false≢true, cases_eq, cases_Bool}
use Rattle.std.proofs.lemmas.Bool.Decides.{nat_tests}
use Rattle.std.proofs.lemmas.List.Sums.{sum_by-cons}
use Rattle.std.specs.List.{list_any}
use Rattle.plain_term.specs.Tree.{Trees}
use Rattle.plain_term.specs.Bytes.{shared_bytes}
use Rattle.plain_term.specs.Measures.{bin_words}
use Rattle.plain_machine.specs.Tightness.{ids_in_all, funs_in_all, each_once}
use Rattle.plain_machine.specs.Maps.{AllIn}
use Rattle.term_words.specs.Object.{IsBinRecord, IsFunRecord}
use Rattle.term_words.specs.Stands.{AllStand}
use Rattle.term_words.specs.Counted.{In, Distinct, total}
use Rattle.term_words.proofs.Totals.Members.{in-or-not}
use Rattle.record_move.specs.Copies.{record_words}
use Rattle.off_heap_list.specs.Links.{named}
use Rattle.counted_records.specs.Occurs.{AreHeld, NamedOnce, OwnersDiffer, records_for}
use Rattle.counted_records.proofs.Weighing.{total-within}
use Rattle.counted_records.proofs.Occurring.{record-kind}

-- The records that objects name, listed.
pub named-once : (mem os : List ℕ) → (each : List ℕ) × NamedOnce mem os each
named-once mem [] = ([], record { once = tt; all = λ o i. absurd i; only = λ v i. absurd i })
named-once mem (o ∷ os) =
    let (each, r) = named-once mem os in
    elim (in-or-not (named mem o) each) [
      | inl there ↦ (
        each,
        record {
          once = r.once;
          all = λ q i. elim i [ inl e ↦ rw e there | inr j ↦ r.all q j ];
          only = λ v i. let (q, (j, e)) = r.only v i in (q, (inr j, e));
        },
      )
      | inr fresh ↦ (
        named mem o ∷ each,
        record {
          once = (fresh, r.once);
          all = λ q i. elim i [ inl e ↦ inl (ap (λ x. named mem x) e) | inr j ↦ inr (r.all q j) ];
          only = λ v i. elim i [ inl e ↦ (o, (inl refl, sym e)) | inr j ↦ (let (q, (k, e)) = r.only v j in (q, (inr k, e))) ];
        },
      )
    ]

-- The words of a record of a shared binary.
id-words : List (List ℕ) → ℕ → ℕ
id-words shared id = 4 + bin_words (length (shared_bytes shared id))

-- Each number of a list once.

any-in : (n : ℕ) (ns : List ℕ) → list_any (λ m. m == n) ns ≡ true → In n ns
any-in n [] h = absurd (false≢true h)
any-in n (m ∷ ns) h = elim (cases_eq n m) [
  | inl e ↦ inl e
  | inr far ↦ inr (any-in n ns (grind (arith, nat_tests, h, far)))
]

once-in : (n : ℕ) (ns : List ℕ) → In n ns → In n (each_once ns)
once-in n [] i = absurd i
once-in n (m ∷ ns) i = elim (cases_Bool (list_any (λ x. x == m) ns)) [
  | inl e ↦
      let deep : In n ns = elim i [ inl same ↦ rw same (any-in m ns e) | inr j ↦ j ] in
      rw e (once-in n ns deep)
  | inr e ↦ rw e (elim i [ inl same ↦ inl same | inr j ↦ inr (once-in n ns j) ])
]

total-sum : (f : ℕ → ℕ) (ns : List ℕ) → total f ns ≡ sum_by f ns
total-sum f [] = refl
total-sum f (n ∷ ns) = omega (arith, total-sum f ns, sum_by-cons f n ns)

fours : (ns : List ℕ) → total (λ n. 4) ns ≡ 4 * length ns
fours [] = refl
fours (n ∷ ns) = omega (arith, fours ns)

module _ (c : ℕ → ℕ → Bool) (shared : List (List ℕ)) (mem roots : List ℕ) (ts : Trees) (os : List ℕ) (all : AllStand c shared mem roots ts) (h : AreHeld c mem roots os) (d : OwnersDiffer c mem) where
  -- A record that an object names.
  IsOf : ℕ → Type 0
  IsOf v = ((id : ℕ) × (In id (ids_in_all ts) × IsBinRecord c mem v id (shared_bytes shared id))) ⊎ ((name arity : ℕ) × (In (256 * name + arity) (funs_in_all ts) × IsFunRecord c mem v name arity))

  -- Records by kind: those of ids, and those of funs.
  record Parted (each : List ℕ) : Type 0 where
    pub ids : List ℕ
    pub ids_once : Distinct ids
    pub ids_occur : (id : ℕ) → In id ids → In id (ids_in_all ts)
    pub ids_from : (id : ℕ) → In id ids → (v : ℕ) × (In v each × IsBinRecord c mem v id (shared_bytes shared id))
    pub funs : List ℕ
    pub funs_once : Distinct funs
    pub funs_occur : (code : ℕ) → In code funs → In code (funs_in_all ts)
    pub funs_from : (code : ℕ) → In code funs → (v name arity : ℕ) × (In v each × (IsFunRecord c mem v name arity × (code ≡ 256 * name + arity)))
    pub sum : total (record_words mem) each ≡ total (id-words shared) ids + 4 * length funs

  parted : (each : List ℕ) → Distinct each → ((v : ℕ) → In v each → IsOf v) → Parted each
  unfolding IsOf id-words
  parted [] once kinds = record {
    ids = [];
    ids_once = tt;
    ids_occur = λ id i. absurd i;
    ids_from = λ id i. absurd i;
    funs = [];
    funs_once = tt;
    funs_occur = λ code i. absurd i;
    funs_from = λ code i. absurd i;
    sum = refl;
  }
  parted (v ∷ each) (fresh, once) kinds =
      let r : Parted each = parted each once (λ w i. kinds w (inr i)) in
      elim (kinds v (inl refl)) [
        | inl (id, (occurs, there)) ↦
            let none : In id r.ids → ⊥ = λ i.
            (let (w, (j, here)) = r.ids_from id i in
            let same : v ≡ w = d.bins v w id (shared_bytes shared id) (shared_bytes shared id) there here in
            let P : ℕ → Type 0 = λ x. In x each in
            fresh (subst P (sym same) j)) in
            let size : record_words mem v ≡ 4 + bin_words (length (shared_bytes shared id)) = omega (arith, there.header) in
            record {
              ids = id ∷ r.ids;
              ids_once = (none, r.ids_once);
              ids_occur = λ x i. elim i [ inl e ↦ (let P : ℕ → Type 0 = λ y. In y (ids_in_all ts) in subst P (sym e) occurs) | inr j ↦ r.ids_occur x j ];
              ids_from = λ x i. elim i [
                | inl e ↦ (let P : ℕ → Type 0 = λ y. IsBinRecord c mem v y (shared_bytes shared y) in (v, (inl refl, subst P (sym e) there)))
                | inr j ↦ (let (w, (k, here)) = r.ids_from x j in (w, (inr k, here)))
              ];
              funs = r.funs;
              funs_once = r.funs_once;
              funs_occur = r.funs_occur;
              funs_from = λ code i. let (w, name, arity, (k, here)) = r.funs_from code i in (w, name, arity, (inr k, here));
              sum = omega (arith, r.sum, size);
            }
        | inr (name, arity, (occurs, there)) ↦
            let none : In (256 * name + arity) r.funs → ⊥ = λ i.
            (let (w, name2, arity2, (j, (here, e))) = r.funs_from (256 * name + arity) i in
            let name_same : name2 ≡ name = omega (arith, e, here.arity_range, there.arity_range) in
            let arity_same : arity2 ≡ arity = omega (arith, e, here.arity_range, there.arity_range) in
            let P : ℕ → Type 0 = λ x. IsFunRecord c mem w x arity2 in
            let Q : ℕ → Type 0 = λ x. IsFunRecord c mem w name x in
            let same : v ≡ w = d.funs v w name arity there (subst Q arity_same (subst P name_same here)) in
            let R : ℕ → Type 0 = λ x. In x each in
            fresh (subst R (sym same) j)) in
            let size : record_words mem v ≡ 4 = omega (arith, there.header) in
            record {
              ids = r.ids;
              ids_once = r.ids_once;
              ids_occur = r.ids_occur;
              ids_from = λ x i. let (w, (k, here)) = r.ids_from x i in (w, (inr k, here));
              funs = (256 * name + arity) ∷ r.funs;
              funs_once = (none, r.funs_once);
              funs_occur = λ x i. elim i [ inl e ↦ (let P : ℕ → Type 0 = λ y. In y (funs_in_all ts) in subst P (sym e) occurs) | inr j ↦ r.funs_occur x j ];
              funs_from = λ x i. elim i [
                | inl e ↦ (v, name, arity, (inl refl, (there, e)))
                | inr j ↦ (let (w, name2, arity2, (k, here)) = r.funs_from x j in (w, name2, arity2, (inr k, here)))
              ];
              sum = omega (arith, r.sum, size);
            }
      ]

  pub demanded : (each ids funs : List ℕ) → NamedOnce mem os each → AllIn (ids_in_all ts) ids → AllIn (funs_in_all ts) funs → total (record_words mem) each ≤ records_for shared ids funs
  unfolding IsOf id-words
  demanded each ids funs n ids_inside funs_inside =
      let kinds : (v : ℕ) → In v each → IsOf v = λ v i.
      (let (o, (inside, e)) = n.only v i in
      subst IsOf e (record-kind c shared mem roots ts os all h o inside)) in
      let r : Parted each = parted each n.once kinds in
      let bins : total (id-words shared) r.ids ≤ total (id-words shared) (each_once ids) =
      total-within (id-words shared) r.ids (each_once ids) r.ids_once (λ id i. once-in id ids (ids_inside id (r.ids_occur id i))) in
      let others : total (λ n. 4) r.funs ≤ total (λ n. 4) (each_once funs) =
      total-within (λ n. 4) r.funs (each_once funs) r.funs_once (λ code i. once-in code funs (funs_inside code (r.funs_occur code i))) in
      omega (arith, r.sum, bins, others, fours r.funs, fours (each_once funs), total-sum (id-words shared) (each_once ids))
