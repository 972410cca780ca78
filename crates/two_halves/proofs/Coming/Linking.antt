-- An object that names a record comes into a half and its chain.
use Rattle.std.proofs.Common.{◌==◌, ◌≡◌, ℕ, ◌+◌, ◌/◌, ◌<◌, ◌≤◌, ◌⊎◌, Bool, true, false}
use Rattle.std.proofs.Common.{List, [], ◌∷◌, length, get_or, set, refl, sym, ◌∙◌, ap, subst, arith, inl, inr, length-set}
use Rattle.std.proofs.lemmas.Bool.Decides.{nat_tests}
use Rattle.word_mem.specs.declared.ranges.Room.{Room}
use Rattle.plain_term.specs.Bytes.{shared_bytes}
use Rattle.plain_term.specs.Tree.{Tree, Trees}
use Rattle.plain_term.specs.Tree.Tree.{Fun, Shared}
use Rattle.term_tags.specs.Words.{boxed_word, head_word}
use Rattle.term_tags.specs.declared.layouts.TheConstants.{FUN, HOLDER}
use Rattle.plain_machine.specs.State.{Process}
use Rattle.term_words.specs.Role.{NEXT, RECORD_FIRST, IsSingle, OfObject, OfRecord}
use Rattle.term_words.specs.Object.{IsBinRecord, IsFunRecord, IsRecord}
use Rattle.term_words.specs.Stands.{AllStand, Stands}
use Rattle.term_words.specs.Counted.{In}
use Rattle.term_words.proofs.Framing.Frames.{frame, keep-all}
use Rattle.term_build.specs.Clear.{Uses}
use Rattle.term_build.specs.Grows.{BuiltLink, GrowsLink}
use Rattle.term_build.specs.Parts.{IsRecordOf}
use Rattle.term_build.specs.Taken.{IsFree, Lie}
use Rattle.shared_rec.specs.Record.{WritesRecord, owner_in}
use Rattle.shared_rec.proofs.Records.{record-first}
use Rattle.off_heap_list.specs.Links.{IsLink, Links, named}
use Rattle.off_heap_list.proofs.Chaining.Chained.{fun-link, holder-link}
use Rattle.record_tables.proofs.Staying.{owner-stays}
use Rattle.record_tables.proofs.Linking.{bare-linked, fresh-object, joined_at, kept34, kept4, links3, records-linked, single3, words-linked}
use Rattle.two_halves.specs.Halves.{HalvesStand, IsLaid, ProcsStand, end_of, front_of}
use Rattle.two_halves.specs.Adding.{Gets, HasFun, Nearly}
use Rattle.two_halves.specs.declared.halves.Halves.{Halves}
use Rattle.two_halves.proofs.Coming.Adding.{filled}
use Rattle.two_halves.proofs.Standing.Apart.{apart-kept}
use Rattle.two_halves.proofs.Standing.Joining.{procs-on}

module _ (named_below : ℕ) (h : Halves) (shared : List (List ℕ)) (qs : List Process) (v : ℕ) (y : Nearly named_below h shared qs v) (laid : IsLaid h) (k : ℕ) (six : 6 ≤ k)
    (fits : h.room.top + k ≤ h.room.end) (room2 : Room) (mem3 : List ℕ) (uses : Uses k h.room room2 h.mem mem3) (mem4 : List ℕ) (hd : ℕ) (names : named mem3 h.room.top ≡ v)
    (written : mem4 ≡ joined_at mem3 (named mem3 h.room.top) h.room.top h.head) where
  free-here : IsFree y.test h.room.top (h.room.top + k)
  free-here a j t = elim (y.lie a j t) [ inl o ↦ inl o.1.0 | inr r ↦ inr (omega (arith, r.0, fits)) ]

  writes-here : WritesRecord h.room.top (h.room.top + k) h.mem mem3
  writes-here = record { same_len = uses.same_len; others = uses.others }

  mem4-is : mem4 ≡ joined_at mem3 v h.room.top h.head
  mem4-is = rw names at written

  mem4-len : length mem4 ≡ length h.mem
  mem4-len = ap length mem4-is ∙ length-set (set mem3 (v + 2) (get_or mem3 (v + 2) 0 + 1)) (h.room.top + 2) h.head ∙ length-set mem3 (v + 2) (get_or mem3 (v + 2) 0 + 1) ∙ uses.same_len

  abbrev pub linked : Halves
  linked = filled h mem4 room2 hd (h.linked + 1) h.bins h.funs

  -- The layout, whatever the object holds.
  pub linked-laid : (m : ℕ) → IsRecord y.test h.mem v m → IsLaid linked
  linked-laid m r =
      let words = words-linked y.test y.single h.mem shared h.bins.items h.funs.items v y.records h.head h.room.top k six free-here mem3 writes-here m r in
      record {
        even = omega (arith, mem4-len, laid.even);
        starts = uses.same_start ∙ laid.starts;
        side = elim laid.side [ inl c ↦ inl c | inr c ↦ inr (omega (arith, c, mem4-len)) ];
        front = omega (arith, laid.front, uses.moved);
        order = omega (arith, fits, uses.moved, uses.same_end);
        fits = omega (arith, laid.fits, uses.same_end, mem4-len, rw (sym mem4-is) at words);
      }

  module _ (e : ℕ → ℕ → Bool) (grows : GrowsLink y.test e h.room.top k h.mem mem3) (link : IsLink e mem3 h.room.top)
      (chained : (c : ℕ → ℕ → Bool) (os further : List ℕ) → IsSingle c → Links c mem3 h.head os further → IsLink c mem3 h.room.top → (In h.room.top os → ⊥)
      → Links c mem4 hd (h.room.top ∷ os) further) where
    links4 : Links e mem4 hd (h.room.top ∷ y.chained) []
    links4 =
        chained e y.chained [] (single3 y.test y.single h.mem shared h.bins.items h.funs.items v y.records h.head h.room.top k six free-here mem3 writes-here e grows link names)
        (links3 y.test y.single h.mem shared h.bins.items h.funs.items v y.records h.head h.room.top k six free-here mem3 writes-here e grows link names y.chained y.links) link
        (fresh-object y.test y.single h.mem shared h.bins.items h.funs.items v y.records h.head h.room.top k six free-here mem3 writes-here e grows link names y.chained y.links)

    lie4 : (a j : ℕ) → e a j ≡ true → ((front_of h ≤ a) × ((a < room2.top) × OfObject j)) ⊎ ((room2.end ≤ a) × ((a < h.base + length mem4 / 2) × OfRecord j))
    lie4 a j t = elim (grows.within a j t) [
      | inl old ↦ lie-old old
      | inr inside ↦ elim (grows.objects a j t) [
        | inl old ↦ lie-old old
        | inr of ↦ inl (omega (arith, inside, laid.front), (omega (arith, inside, uses.moved), of))
      ]
    ]
      where
        lie-old : y.test a j ≡ true → ((front_of h ≤ a) × ((a < room2.top) × OfObject j)) ⊎ ((room2.end ≤ a) × ((a < h.base + length mem4 / 2) × OfRecord j))
        lie-old old = elim (y.lie a j old) [
          | inl o ↦ inl (o.0, (omega (arith, o.1.0, uses.moved), o.1.1))
          | inr r ↦ inr (omega (arith, r.0, uses.same_end), (omega (arith, r.1.0, mem4-len), r.1.1))
        ]

    trees4 : (w : ℕ) (t : Tree) → Stands y.test shared h.mem w t → Stands e shared mem4 w t
    trees4 w t s = rw mem4-is ((frame y.test e h.mem (joined_at mem3 v h.room.top h.head)
        (kept4 y.test y.single h.mem shared h.bins.items h.funs.items v y.records h.head h.room.top k six free-here mem3 writes-here e grows link names)).each shared w t s)

    limit4 : end_of h ≡ h.base + length mem4 / 2
    limit4 = omega (arith, mem4-len)

    same4 : (q : ℕ) → h.room.end ≤ q → q < h.base + length mem4 / 2 → ((j : ℕ) → y.test q j ≡ true → ⊥) → get_or mem4 q 0 ≡ get_or h.mem q 0
    same4 q above below none = rw mem4-is (bare-linked y.test y.single h.mem shared h.bins.items h.funs.items v y.records h.head h.room.top k six free-here mem3 writes-here e grows link names q
        (inr (omega (arith, above, fits))) none)

    bare4 : (q j : ℕ) → h.room.end ≤ q → q < h.base + length mem4 / 2 → ((i : ℕ) → y.test q i ≡ true → ⊥) → e q j ≡ true → ⊥
    bare4 q j above below none t = elim (grows.within q j t) [ inl old ↦ none j old | inr inside ↦ omega (arith, above, inside, fits) ]

    before : ProcsStand y.test shared h.mem h.room.end (h.base + length mem4 / 2) named_below h.procs.items qs
    before = rw limit4 at y.processes

    every4 : (p : ℕ) → e (p + 2) NEXT ≡ true → In p (h.room.top ∷ y.chained)
    every4 p t = elim (grows.next (p + 2) t) [ inl old ↦ inr (y.every p old) | inr c ↦ inl (omega (arith, c)) ]

    inside4 : (p : ℕ) → In p (h.room.top ∷ y.chained) → p + 6 ≤ room2.top
    inside4 p (inl c) = omega (arith, c, six, uses.moved)
    inside4 p (inr i) = omega (arith, y.inside p i, uses.moved)

    names4 : (u : ℕ) → In u h.funs.items → owner_in mem4 u / 256 < named_below
    names4 u i = rw mem4-is (omega (
      arith,
      owner-stays y.test e h.mem (joined_at mem3 v h.room.top h.head)
          (kept4 y.test y.single h.mem shared h.bins.items h.funs.items v y.records h.head h.room.top k six free-here mem3 writes-here e grows link names) u (y.records.each_fun u i).is.second,
      y.fun_names u i,
    ))

    stands4 : HalvesStand named_below linked shared qs
    stands4 = record {
      test = e;
      single = grows.single y.single;
      lie = lie4;
      chained = h.room.top ∷ y.chained;
      linked = omega (arith, y.linked);
      links = links4;
      inside = inside4;
      every = every4;
      records = rw mem4-is
          (records-linked y.test y.single h.mem shared h.bins.items h.funs.items v y.records h.head h.room.top k six free-here mem3 writes-here e grows link names);
      fun_names = names4;
      processes = procs-on y.test e shared shared h.mem mem4 named_below h.room.end room2.end (h.base + length mem4 / 2) trees4 same4 bare4 (omega (arith, uses.same_end)) h.procs.items qs before;
      apart = apart-kept y.test shared h.mem mem4 h.room.end (h.base + length mem4 / 2) named_below h.procs.items qs same4 before y.apart;
    }

    pub gets : (w : ℕ) (t : Tree) → Stands e shared mem3 w t → Gets named_below linked shared qs w t
    unfolding stands4
    gets w t s = record {
      stands = stands4;
      made = rw mem4-is ((frame e e mem3 (joined_at mem3 v h.room.top h.head)
          (kept34 y.test y.single h.mem shared h.bins.items h.funs.items v y.records h.head h.room.top k six free-here mem3 writes-here e grows link names)).each shared w t s);
    }

-- The word of a holder names its record.
pub holder-named : (mem : List ℕ) (p len rec : ℕ) → Lie mem p (head_word HOLDER 5 ∷ len ∷ 0 ∷ rec ∷ 0 ∷ 0 ∷ []) → named mem p ≡ rec
holder-named mem p len rec lie = rw (lie.each 0 p (omega arith) (omega arith)) (lie.each 3 (p + 3) (omega arith) refl)

-- The holder of the binary in the record comes into the half.
module _ (named_below : ℕ) (h : Halves) (shared : List (List ℕ)) (qs : List Process) (v serial : ℕ) (bytes : List ℕ) (y : Nearly named_below h shared qs v)
    (is : IsBinRecord y.test h.mem v serial bytes)
    (some : 1 ≤ serial) (known : serial ≤ length shared) (bytes_are : shared_bytes shared serial ≡ bytes) (len : ℕ) (len_is : length bytes ≡ len) (laid : IsLaid h) (fits : h.room.top + 6 ≤ h.room.end)
    (room2 : Room) (mem3 : List ℕ) (uses : Uses 6 h.room room2 h.mem mem3) (w : ℕ) (place : w ≡ boxed_word h.room.top)
    (lie : Lie mem3 h.room.top (head_word HOLDER 5 ∷ len ∷ 0 ∷ v ∷ 0 ∷ 0 ∷ [])) (mem4 : List ℕ) (hd : ℕ) (written : mem4 ≡ joined_at mem3 (named mem3 h.room.top) h.room.top h.head) where
  names : named mem3 h.room.top ≡ v
  names = holder-named mem3 h.room.top len v lie

  pub holder-laid : IsLaid (filled h mem4 room2 hd (h.linked + 1) h.bins h.funs)
  holder-laid = linked-laid named_below h shared qs v y laid 6 (omega arith) fits room2 mem3 uses mem4 hd names written _ (inl (serial, bytes, is, refl))

  module _ (built : (c : ℕ → ℕ → Bool) (other : List (List ℕ)) (id : ℕ) → IsFree c h.room.top (h.room.top + 6) → IsRecordOf c other h.mem v len id
      → BuiltLink c h.room.top 6 h.mem mem3 other w (Shared id))
      (chained : (c : ℕ → ℕ → Bool) (os further : List ℕ) → IsSingle c → Links c mem3 h.head os further → IsLink c mem3 h.room.top → (In h.room.top os → ⊥)
      → Links c mem4 hd (h.room.top ∷ os) further) where
    new-holder : BuiltLink y.test h.room.top 6 h.mem mem3 shared w (Shared serial)
    new-holder = built y.test shared serial (λ a j t. elim (y.lie a j t) [ inl o ↦ inl o.1.0 | inr r ↦ inr (omega (arith, r.0, fits)) ])
        (record { from_one = omega (arith, some); known = known; size = ap length bytes_are ∙ len_is; record_is = rw bytes_are is })

    holder-there : IsLink new-holder.test mem3 h.room.top
    holder-there =
        let here : w / 4 ≡ h.room.top = omega (arith, place) in
        let P : ℕ → Type 0 = λ z. IsLink new-holder.test mem3 z in
        subst P here (holder-link new-holder.test shared mem3 w serial new-holder.made (omega (arith, here, laid.front)))

    pub holder-gets : Gets named_below (filled h mem4 room2 hd (h.linked + 1) h.bins h.funs) shared qs w (Shared serial)
    holder-gets =
        gets named_below h shared qs v y laid 6 (omega arith) fits room2 mem3 uses mem4 hd names written new-holder.test new-holder.grows holder-there chained w (Shared serial) new-holder.made

-- The word of a fun names its record.
pub fun-named : (mem : List ℕ) (p k rec : ℕ) (rest : List ℕ) → Lie mem p (head_word FUN (5 + k) ∷ rec ∷ rest) → named mem p ≡ rec
fun-named mem p k rec rest lie =
    let other : (head_word FUN (5 + k) == head_word HOLDER 5) ≡ false = grind (arith, nat_tests) in
    rw (lie.each 0 p (omega arith) (omega arith), other) (lie.each 1 (p + 1) (omega arith) refl)

-- A fun over the record comes into the half.
module _ (named_below : ℕ) (old h : Halves) (shared : List (List ℕ)) (qs : List Process) (v name arity creator : ℕ) (c : ℕ → ℕ → Bool) (has : HasFun named_below old h shared qs v name arity c)
    (laid : IsLaid h) (env : List ℕ) (fits : h.room.top + (6 + length env) ≤ h.room.end)
    (room2 : Room) (mem3 : List ℕ) (uses : Uses (6 + length env) h.room room2 h.mem mem3) (w : ℕ) (place : w ≡ boxed_word h.room.top)
    (pid : ℕ) (lie : Lie mem3 h.room.top (head_word FUN (5 + length env) ∷ v ∷ 0 ∷ arity ∷ length env ∷ pid ∷ env))
    (mem4 : List ℕ) (hd : ℕ) (written : mem4 ≡ joined_at mem3 (named mem3 h.room.top) h.room.top h.head) where
  abbrev y : Nearly named_below h shared qs v
  y = has.near

  fun-names : named mem3 h.room.top ≡ v
  fun-names = fun-named mem3 h.room.top (length env) v _ lie

  pub fun-laid : IsLaid (filled h mem4 room2 hd (h.linked + 1) h.bins h.funs)
  fun-laid = linked-laid named_below h shared qs v y laid (6 + length env) (omega arith) fits room2 mem3 uses mem4 hd fun-names written 4 (inr (name, arity, has.is, refl))

  module _ (ts : Trees) (all : AllStand c shared old.mem env ts)
      (built : (k : ℕ → ℕ → Bool) (other : List (List ℕ)) (n : ℕ) (us : Trees) → IsFree k h.room.top (h.room.top + (6 + length env)) → IsFunRecord k h.mem v n arity → AllStand k other h.mem env us
      → BuiltLink k h.room.top (6 + length env) h.mem mem3 other w (Fun n arity creator us))
      (chained : (k : ℕ → ℕ → Bool) (os further : List ℕ) → IsSingle k → Links k mem3 h.head os further → IsLink k mem3 h.room.top → (In h.room.top os → ⊥)
      → Links k mem4 hd (h.room.top ∷ os) further) where
    new-fun : BuiltLink y.test h.room.top (6 + length env) h.mem mem3 shared w (Fun name arity creator ts)
    new-fun = built y.test shared name ts (λ a j t. elim (y.lie a j t) [ inl o ↦ inl o.1.0 | inr r ↦ inr (omega (arith, r.0, fits)) ]) has.is
        (keep-all c y.test old.mem h.mem has.kept shared env ts all)

    fun-there : IsLink new-fun.test mem3 h.room.top
    fun-there =
        let here : w / 4 ≡ h.room.top = omega (arith, place) in
        let P : ℕ → Type 0 = λ z. IsLink new-fun.test mem3 z in
        subst P here (fun-link new-fun.test shared mem3 w name arity creator ts new-fun.made (omega (arith, here, laid.front)))

    pub fun-gets : Gets named_below (filled h mem4 room2 hd (h.linked + 1) h.bins h.funs) shared qs w (Fun name arity creator ts)
    fun-gets =
        gets named_below h shared qs v y laid (6 + length env) (omega arith) fits room2 mem3 uses mem4 hd fun-names written new-fun.test new-fun.grows fun-there chained w
        (Fun name arity creator ts) new-fun.made

-- A record that stands lies above the free words.
pub near-low : (named_below : ℕ) (h : Halves) (shared : List (List ℕ)) (qs : List Process) (v : ℕ) (y : Nearly named_below h shared qs v) (u n : ℕ) → IsRecord y.test h.mem u n → h.room.end ≤ u
near-low named_below h shared qs v y u n r = elim (y.lie u RECORD_FIRST (record-first y.test h.mem u n r)) [
  | inl o ↦ absurd (elim o.1.1 [ inl c ↦ omega (arith, c) | inr c ↦ omega (arith, c) ])
  | inr above ↦ above.0
]
