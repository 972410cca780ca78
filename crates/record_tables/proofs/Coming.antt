-- A record comes to words that have no role: it is in its table, and none may name it yet.
use Rattle.std.proofs.Common.{take, drop, if◌then◌else◌, Result, Ok, Err, ◌≡◌, ℕ, suc, replicate, ◌+◌, ◌-◌, ◌*◌, ◌/◌, ◌<◌, ◌≤◌}
use Rattle.std.proofs.Common.{◌⊎◌, Bool, true, List, [], ◌∷◌, ◌++◌, length, get_or, refl, sym, ◌∙◌, ap, subst, arith, inl, inr}
use Rattle.std.proofs.Math.Decide.{dec_le}
use Rattle.std.proofs.lemmas.List.{length-replicate, get_or_push, take-append-drop}
use Rattle.std.specs.List.{insert}
use Rattle.std.specs.Result.{IsOk, is_ok}
use Rattle.plain_term.specs.Bytes.{shared_bytes}
use Rattle.plain_term.specs.Measures.{bin_words}
use Rattle.term_tags.specs.Words.{record_word}
use Rattle.term_tags.specs.declared.records.TheConstants.{BIN_RECORD}
use Rattle.term_words.specs.Role.{RECORD_FIRST, IsSingle}
use Rattle.term_words.specs.Object.{IsBinRecord, IsFunRecord, IsRecord}
use Rattle.term_words.specs.Kept.{Kept}
use Rattle.term_words.specs.Counted.{In, total}
use Rattle.term_words.proofs.Totals.Members.{both-total}
use Rattle.term_build.specs.Taken.{IsFree, Lie, Taken, with_object}
use Rattle.term_build.proofs.Taking.{with-object-single, with-object-taken, with-object-within}
use Rattle.shared_rec.specs.Record.{WritesRecord, count_in, length_in, owner_in, record_roles}
use Rattle.shared_rec.proofs.Records.{record-copied, record-first, record-role, record-within}
use Rattle.off_heap_list.specs.Links.{IsLink, Links, named}
use Rattle.off_heap_list.proofs.Chaining.Chained.{link-named}
use Rattle.record_move.specs.Copies.{record_words}
use Rattle.record_move.specs.Tables.{OwnersRise}
use Rattle.record_move.proofs.Moving.{role-begins}
use Rattle.record_move.proofs.Room.{total-same}
use Rattle.record_tables.specs.Listed.{IsBinOf, IsFunOf, NearlyStand, RecordsStand}
use Rattle.record_tables.specs.Spots.{IsSpot}
use Rattle.record_tables.proofs.Joining.{Joins, in-drop, in-take, joins-end, joins-left, joins-middle, joins-right, naming-none, rise-end, rise-middle, rise-pair, rise-same}
use Rattle.record_tables.proofs.Staying.{bin-on, count-stays, fun-on, links-on, listed-first, nearly-stand, owner-stays}

-- The words of a record of n words were written where none had a role.
module _ (c : ℕ → ℕ → Bool) (single : IsSingle c) (mem mem2 : List ℕ) (n at : ℕ) (some : 4 ≤ n) (free : IsFree c at (at + n)) (w : WritesRecord at (at + n) mem mem2) where
  abbrev pub d : ℕ → ℕ → Bool
  d = with_object record_roles c at n

  pub taken : Taken record_roles c d at n
  taken = with-object-taken record_roles c at n free

  pub single2 : IsSingle d
  single2 = with-object-single record_roles c at n single

  pub same2 : (a k : ℕ) → c a k ≡ true → get_or mem2 a 0 ≡ get_or mem a 0
  same2 a k e = w.others a (free a k e)

  pub kept2 : Kept c d mem mem2
  kept2 = record { longer = omega (arith, w.same_len); weaker = taken.more; same = λ a k content e. same2 a k e }

  -- A record that stands now is the new one, or stood before.
  first-place : (u : ℕ) → at ≤ u → u < at + n → d u RECORD_FIRST ≡ true → u ≡ at
  first-place u above below e =
      let role : record_roles (u - at) ≡ RECORD_FIRST = single2.one u (record_roles (u - at)) RECORD_FIRST (taken.new (u - at) u (omega arith) (omega arith)) e in
      omega (arith, above, role-begins (u - at) role)

  ends-before : (u m : ℕ) → IsRecord d mem2 u m → u < at → u + m ≤ at
  ends-before u m r low = elim (dec_le (u + m) at) [
    | yes before ↦ before
    | no over ↦
        let there : d (u + (at - u)) (record_roles (at - u)) ≡ true = record-role d mem2 u m (at - u) r (omega (arith, over, low)) in
        let begins : d (u + (at - u)) RECORD_FIRST ≡ true = taken.new 0 (u + (at - u)) (omega (arith, some)) (omega (arith, low)) in
        let role : record_roles (at - u) ≡ RECORD_FIRST = single2.one (u + (at - u)) (record_roles (at - u)) RECORD_FIRST there begins in
        absurd (omega (arith, low, role-begins (at - u) role))
  ]

  back : (u m : ℕ) → IsRecord d mem2 u m → ((a : ℕ) → u ≤ a → a < u + m → (a < at) ⊎ (at + n ≤ a)) → IsRecord c mem u m
  back u m r out = record-copied d c mem2 mem u u m (record {
    within = omega (arith, (record-within d mem2 u m r).0, w.same_len);
    roles = λ j q k below e f. elim (with-object-within record_roles c at n (u + j) k f) [
      | inl old ↦ rw e old
      | inr inside ↦ elim (out (u + j) (omega arith) (omega (arith, below))) [ inl low ↦ absurd (omega (arith, low, inside)) | inr high ↦ absurd (omega (arith, high, inside)) ]
    ];
    same = λ j q below other e. rw e (sym (w.others (u + j) (out (u + j) (omega arith) (omega (arith, below)))));
  }) r

  pub records-from : (u m : ℕ) → IsRecord d mem2 u m → IsRecord c mem u m ⊎ (u ≡ at)
  records-from u m r = elim (with-object-within record_roles c at n u RECORD_FIRST (record-first d mem2 u m r)) [
    | inl old ↦ elim (free u RECORD_FIRST old) [
      | inl low ↦ inl (back u m r (λ a from below. inl (omega (arith, below, ends-before u m r low))))
      | inr high ↦ inl (back u m r (λ a from below. inr (omega (arith, high, from))))
    ]
    | inr inside ↦ inr (first-place u inside.0 inside.1 (record-first d mem2 u m r))
  ]

  fresh-place : c at RECORD_FIRST ≡ true → ⊥
  fresh-place e = elim (free at RECORD_FIRST e) [ inl low ↦ omega (arith, low) | inr high ↦ omega (arith, high, some) ]

  -- None of a chain's objects names the new record.
  not-named : (p : ℕ) → IsLink c mem p → named mem2 p ≡ at → ⊥
  not-named p link e =
      let there : named mem p ≡ at = sym (link-named c d mem mem2 p kept2 link) ∙ e in
      fresh-place (rw there at (record-first c mem (named mem p) link.words link.record_is))

  pub links2 : (head : ℕ) (os : List ℕ) → Links c mem head os [] → count_in mem2 at ≡ 0 → Links d mem2 head os []
  links2 head os l zero = links-on c d mem mem2 kept2 same2 head os l (λ u m r. elim (records-from u m r) [
    | inl old ↦ inl old
    | inr e ↦ inr (rw e (zero, naming-none mem2 at os (λ p i. not-named p (l.each p i))))
  ])

  -- The tables, to one of which its place comes.
  module _ (shared shared2 more : List (List ℕ)) (grown : shared2 ≡ shared ++ more) (bins funs : List ℕ) (x : RecordsStand c mem shared bins funs) where
    bin2 : (u : ℕ) → In u bins → IsBinOf d mem2 shared2 u
    bin2 u i = bin-on c d mem mem2 kept2 shared shared2 more u grown (x.each_bin u i)

    fun2 : (u : ℕ) → In u funs → IsFunOf d mem2 u
    fun2 u i = fun-on c d mem mem2 kept2 u (x.each_fun u i)

    bin-owner : (u : ℕ) → In u bins → owner_in mem2 u ≡ owner_in mem u
    bin-owner u i = owner-stays c d mem mem2 kept2 u (x.each_bin u i).is.second

    fun-owner : (u : ℕ) → In u funs → owner_in mem2 u ≡ owner_in mem u
    fun-owner u i = owner-stays c d mem mem2 kept2 u (x.each_fun u i).is.second

    not-listed : In at (bins ++ funs) → ⊥
    not-listed i = fresh-place (listed-first c mem shared bins funs at (nearly-stand c mem shared bins funs at x) at i)

    counted2 : (u m : ℕ) → IsRecord d mem2 u m → (u ≡ at → ⊥) → 1 ≤ count_in mem2 u
    counted2 u m r other = elim (records-from u m r) [ inl old ↦ omega (arith, count-stays c d mem mem2 kept2 same2 u m old, x.counted u m old) | inr e ↦ absurd (other e) ]

    word-same : (u : ℕ) → In u (bins ++ funs) → record_words mem2 u ≡ record_words mem u
    word-same u i = ap (λ z. z / 16) (same2 u RECORD_FIRST (listed-first c mem shared bins funs at (nearly-stand c mem shared bins funs at x) u i))

    all-of : (news : List ℕ) → Joins at (bins ++ funs) news → (u m : ℕ) → IsRecord d mem2 u m → In u news
    all-of news j u m r = elim (records-from u m r) [ inl old ↦ j.stays u (x.all u m old) | inr e ↦ rw e j.there ]

    bins-join : Joins at (bins ++ funs) ((bins ++ at ∷ []) ++ funs)
    bins-join = joins-left at bins (bins ++ at ∷ []) funs (joins-end at bins)

    pub bin-comes : IsBinOf d mem2 shared2 at → owner_in mem2 at ≡ length shared + 1 → NearlyStand d mem2 shared2 (bins ++ at ∷ []) funs at
    bin-comes is last = record {
      all = all-of ((bins ++ at ∷ []) ++ funs) bins-join;
      once = bins-join.once x.once not-listed;
      each_bin = λ u i. elim ((joins-end at bins).comes u i) [ inl e ↦ rw e is | inr old ↦ bin2 u old ];
      each_fun = fun2;
      serials = rise-end mem mem2 at bins bin-owner (λ u i. omega (arith, (x.each_bin u i).known, last)) x.serials;
      codes = rise-same mem mem2 funs fun-owner x.codes;
      counted = counted2;
    }

    -- The records have the words of the new one more.
    pub bin-words : (kind : ℕ) → kind < 16 → get_or mem2 at 0 ≡ record_word kind n → total (record_words mem2) ((bins ++ at ∷ []) ++ funs) ≡ total (record_words mem) (bins ++ funs) + n
    bin-words kind small header =
        let size : record_words mem2 at ≡ n = omega (arith, header, small) in
        omega (
          arith,
          size,
          both-total (record_words mem2) (bins ++ at ∷ []) funs,
          both-total (record_words mem2) bins (at ∷ []),
          both-total (record_words mem2) bins funs,
          total-same (record_words mem2) (record_words mem) (bins ++ funs) word-same,
        )

    module _ (i : ℕ) where
      funs-join : Joins at funs (take i funs ++ at ∷ drop i funs)
      funs-join = let j = joins-middle at (take i funs) (drop i funs) in rw (take-append-drop i funs) at j

      all-join : Joins at (bins ++ funs) (bins ++ (take i funs ++ at ∷ drop i funs))
      all-join = joins-right at bins funs (take i funs ++ at ∷ drop i funs) funs-join

      codes2 : ((u : ℕ) → In u (take i funs) → owner_in mem u < owner_in mem2 at) → ((u : ℕ) → In u (drop i funs) → owner_in mem2 at < owner_in mem u)
          → OwnersRise mem2 (take i funs ++ at ∷ drop i funs)
      codes2 low high =
          let parts : take i funs ++ drop i funs ≡ funs = take-append-drop i funs in
          rise-middle mem mem2 at (take i funs) (drop i funs) (λ u j. fun-owner u (rw parts at j)) low high (rw parts x.codes)

      pub fun-comes : IsFunOf d mem2 at → ((u : ℕ) → In u (take i funs) → owner_in mem u < owner_in mem2 at) → ((u : ℕ) → In u (drop i funs) → owner_in mem2 at < owner_in mem u)
          → NearlyStand d mem2 shared2 bins (take i funs ++ at ∷ drop i funs) at
      fun-comes is low high = record {
        all = all-of (bins ++ (take i funs ++ at ∷ drop i funs)) all-join;
        once = all-join.once x.once not-listed;
        each_bin = bin2;
        each_fun = λ u j. elim (funs-join.comes u j) [ inl e ↦ rw e is | inr old ↦ fun2 u old ];
        serials = rise-same mem mem2 bins bin-owner x.serials;
        codes = codes2 low high;
        counted = counted2;
      }

      pub names-come : (limit : ℕ) → owner_in mem2 at / 256 < limit → ((u : ℕ) → In u funs → owner_in mem u / 256 < limit)
          → (u : ℕ) → In u (take i funs ++ at ∷ drop i funs) → owner_in mem2 u / 256 < limit
      names-come limit small old u j = elim (funs-join.comes u j) [ inl e ↦ rw e small | inr was ↦ omega (arith, fun-owner u was, old u was) ]

      pub fun-words : (kind : ℕ) → kind < 16 → get_or mem2 at 0 ≡ record_word kind n
          → total (record_words mem2) (bins ++ (take i funs ++ at ∷ drop i funs)) ≡ total (record_words mem) (bins ++ funs) + n
      fun-words kind small header =
          let size : record_words mem2 at ≡ n = omega (arith, header, small) in
          let parts : total (record_words mem2) (take i funs) + total (record_words mem2) (drop i funs) ≡ total (record_words mem2) funs =
          sym (both-total (record_words mem2) (take i funs) (drop i funs)) ∙ ap (λ z. total (record_words mem2) z) (take-append-drop i funs) in
          omega (
            arith,
            size,
            parts,
            both-total (record_words mem2) bins (take i funs ++ at ∷ drop i funs),
            both-total (record_words mem2) (take i funs) (at ∷ drop i funs),
            both-total (record_words mem2) bins funs,
            total-same (record_words mem2) (record_words mem) (bins ++ funs) word-same,
          )

-- The record of a binary of equal bytes was written at the place.
pub record Written (old new : List ℕ) (at serial len byte : ℕ) : Type 0 where
  pub writes : WritesRecord at (at + (4 + bin_words len)) old new
  pub zero : count_in new at ≡ 0
  pub owner : owner_in new at ≡ serial
  pub header : get_or new at 0 ≡ record_word BIN_RECORD (4 + bin_words len)
  pub made : (c d : ℕ → ℕ → Bool) → Taken record_roles c d at (4 + bin_words len) → IsBinRecord d new at serial (replicate len byte)

pub size-there : (mid : List ℕ) (at serial len : ℕ) (rest : List ℕ) → Lie mid at (record_word BIN_RECORD (4 + bin_words len) ∷ serial ∷ 0 ∷ len ∷ rest) → length_in mid at ≡ len
size-there mid at serial len rest lie = lie.each 3 (at + 3) (omega arith) refl

pub bin-written : (old mid new : List ℕ) (at serial len byte : ℕ) (rest : List ℕ) → WritesRecord at (at + (4 + bin_words len)) old mid
    → Lie mid at (record_word BIN_RECORD (4 + bin_words len) ∷ serial ∷ 0 ∷ len ∷ rest)
    → ((c d : ℕ → ℕ → Bool) → Taken record_roles c d at (4 + bin_words len) → IsBinRecord d mid at serial (replicate len 0))
    → WritesRecord (at + 4) (at + 4 + bin_words (length_in mid at)) mid new
    → ((c : ℕ → ℕ → Bool) (s : ℕ) (bytes : List ℕ) → IsBinRecord c mid at s bytes → IsBinRecord c new at s (replicate (length bytes) byte)) → Written old new at serial len byte
bin-written old mid new at serial len byte rest first lie made second filled_in =
    let size : length_in mid at ≡ len = size-there mid at serial len rest lie in
    let W : ℕ → Type 0 = λ z. WritesRecord (at + 4) (at + 4 + bin_words z) mid new in
    let after : WritesRecord (at + 4) (at + 4 + bin_words len) mid new = subst W size second in
    record {
      writes = record {
        same_len = after.same_len ∙ first.same_len;
        others = λ q apart. elim apart [
          | inl low ↦ after.others q (inl (omega (arith, low))) ∙ first.others q (inl low)
          | inr high ↦ after.others q (inr (omega (arith, high))) ∙ first.others q (inr high)
        ];
      };
      zero = after.others (at + 2) (inl (omega arith)) ∙ lie.each 2 (at + 2) (omega arith) refl;
      owner = after.others (at + 1) (inl (omega arith)) ∙ lie.each 1 (at + 1) (omega arith) refl;
      header = after.others at (inl (omega arith)) ∙ lie.each 0 at (omega arith) (omega arith);
      made = λ c d t.
          let P : ℕ → Type 0 = λ z. IsBinRecord d new at serial (replicate z byte) in
          subst P (length-replicate {A = ℕ} len 0) (filled_in d serial (replicate len 0) (made c d t));
    }

pub last-bytes : (shared : List (List ℕ)) (b : List ℕ) (n : ℕ) → n ≡ length shared + 1 → shared_bytes (shared ++ b ∷ []) n ≡ b
last-bytes shared b n e =
    let same : suc (length shared) ≡ n = omega (arith, e) in
    let P : ℕ → Type 0 = λ z. shared_bytes (shared ++ b ∷ []) z ≡ b in
    subst P same (get_or_push shared b [] (length shared) refl)

-- Where a new name and arity goes: those before are less, and those from there on are more.
module _ (mem funs : List ℕ) (code i : ℕ) (spot : IsSpot mem funs code i) where
  pub spot-low : (u : ℕ) → In u (take i funs) → owner_in mem u < code
  spot-low u j =
      let n = in-take funs i u j in
      let less : owner_in mem (get_or funs n.number 0) < code = spot.below n.number n.below in
      rw n.is at less

  pub spot-high : OwnersRise mem funs → (i < length funs → owner_in mem (get_or funs i 0) ≡ code → ⊥) → (u : ℕ) → In u (drop i funs) → code < owner_in mem u
  spot-high rise other u j =
      let n = in-drop funs i u j in
      let here : i < length funs = omega (arith, n.above, n.inside) in
      let more : code < owner_in mem (get_or funs i 0) = strict code (owner_in mem (get_or funs i 0)) (spot.above i (omega arith) here) (other here) in
      let which : (i ≡ n.number) ⊎ (i < n.number) = grind (arith, n.above) in
      let there : code < owner_in mem (get_or funs n.number 0) =
      elim which [ inl e ↦ omega (arith, more, ap (λ z. owner_in mem (get_or funs z 0)) e) | inr less ↦ omega (arith, more, rise-pair mem funs i n.number less n.inside rise) ] in
      rw n.is at there
    where
      strict : (a b : ℕ) → a ≤ b → (b ≡ a → ⊥) → a < b
      strict a b le ne = elim (dec_le b a) [ yes over ↦ absurd (ne (omega (arith, le, over))) | no under ↦ omega (arith, under) ]

-- The fun's record at a place of the table is that of its name and arity.
pub found-fun : (c : ℕ → ℕ → Bool) (mem : List ℕ) (v name arity : ℕ) → IsFunOf c mem v → owner_in mem v ≡ name * 256 + arity → arity ≤ 255 → IsFunRecord c mem v name arity
found-fun c mem v name arity f owner few =
    let same_name : f.name ≡ name = omega (arith, f.is.owner, f.is.arity_range, owner, few) in
    let same_arity : f.arity ≡ arity = omega (arith, f.is.owner, f.is.arity_range, owner, few) in
    rw (same_name, same_arity) at f.is

-- A place was put into a table that had room for it.
pub inserted : {E : Type 0} (r : Result (Unit {0}) E) (xs new : List ℕ) (i v : ℕ) → IsOk r → new ≡ (if is_ok r then insert xs i v else xs) → new ≡ take i xs ++ v ∷ drop i xs
inserted (Ok a) xs new i v ok e = e
inserted (Err a) xs new i v ok e = absurd cc
