-- When the words of a room are an object that stands: one lemma a kind, by the words that lie there.
use Rattle.std.proofs.Common.{◌≡◌, ℕ, zero, suc, ◌+◌, ◌-◌, ◌*◌, ◌/◌, ◌%◌, ◌^◌, ◌<◌, ◌≤◌, Bool, true, false, List, [], ◌∷◌, ◌++◌, length, replicate, get_or, ℤ}
use Rattle.std.proofs.Common.{refl, sym, ap, ◌∙◌, subst, arith, inl, inr, nat_lt, pos, negsuc}
use lib.IntN.{nat_abs}
use Rattle.std.proofs.lemmas.Bool.{cases_Bool}
use Rattle.std.proofs.lemmas.Bool.Decides.{nat_tests}
use Rattle.word_mem.specs.declared.ranges.Room.{Room}
use Rattle.plain_term.specs.Tree.{Tree, Trees, Pairs, trees_len, pairs_len, keys_of, values_of, same_trees}
use Rattle.plain_term.specs.Tree.Tree.{Int, Ref, Map, Bin, Shared, Part, Fun}
use Rattle.plain_term.specs.Tree.Pairs.{stop, pair}
use Rattle.plain_term.specs.Bytes.{bytes_of, shared_bytes}
use Rattle.plain_term.specs.Measures.{bin_words, is_small, magnitude, int_flat}
use Rattle.term_tags.specs.Words.{small_word, boxed_word, head_word, pid_word}
use Rattle.term_tags.specs.declared.kinds.TheConstants.{PIDS}
use Rattle.term_tags.specs.declared.layouts.TheConstants.{TUPLE, MAP, MOST_KEYS, REF, FUN, HOLDER, HEAP_BIN, SUB_BIN, MOST_ENV, MOST_HEAP_BYTES}
use Rattle.term_words.specs.Role.{FURTHER}
use Rattle.term_words.specs.Object.{IsObject, IsBoxed, IsTuple, IsMap, IsFunRecord, IsBinRecord, BytesLie, sign_tag}
use Rattle.term_words.specs.Stands.{Stands, RowStands, KeysStand, ValuesStand, AllStand, IsBase}
use Rattle.term_words.specs.Kept.{Kept, Keeps}
use Rattle.term_words.proofs.ByKind.Makes.{stands-small, boxed-at, row-of-all, all-length}
use Rattle.term_words.proofs.Framing.Frames.{keep-all}
use Rattle.term_words.proofs.Framing.Records.{bin-stays, fun-stays}
use Rattle.term_words.proofs.ByKind.Pairs.{keys-len}
use Rattle.term_build.specs.Taken.{Taken, Lie, plain, of_holder, of_fun, of_map}
use Rattle.term_build.specs.Clear.{Uses}
use Rattle.term_build.specs.Parts.{IsRecordOf, integer_words}
use Rattle.term_build.proofs.Taking.{taken-first, taken-other, taken-keys, taken-map, fun-after}
use Rattle.term_build.proofs.Putting.{lie-front, lie-back}

-- An object with a header at the taken words.
pub boxed-made : (c d : ℕ → ℕ → Bool) (top n : ℕ) (new : List ℕ) (r subtag arity : ℕ) → r ≡ boxed_word top → n ≡ 1 + arity → top + n ≤ length new → get_or new top 0 ≡ head_word subtag arity
    → Taken plain c d top n → IsBoxed d new r subtag arity
boxed-made c d top n new r subtag arity is size inside head taken =
    let object : IsObject d new top (1 + arity) = record {
      within = omega arith;
      first = taken-first c d top n taken (omega arith);
      others = λ q above below. taken-other c d top n q taken above (omega arith);
    } in
    boxed-at d new r top subtag arity is head object

pub ref-made : (c d : ℕ → ℕ → Bool) (top : ℕ) (new : List ℕ) (r n k : ℕ) → r ≡ boxed_word top → top + 3 ≤ length new → Lie new top (head_word REF 2 ∷ n ∷ k ∷ []) → Taken plain c d top 3
    → (shared : List (List ℕ)) → Stands d shared new r (Ref n k)
unfolding Stands
ref-made c d top new r n k is inside lie taken shared = record {
  boxed = boxed-made c d top 3 new r REF 2 is (omega arith) inside (lie.each 0 top (omega arith) (omega arith)) taken;
  number = lie.each 1 (r / 4 + 1) (omega arith) (omega arith);
  count = lie.each 2 (r / 4 + 2) (omega arith) (omega arith);
}

pub part-made : (c d : ℕ → ℕ → Bool) (top : ℕ) (old new : List ℕ) (r base off len : ℕ) → r ≡ boxed_word top → top + 5 ≤ length new → Lie new top (head_word SUB_BIN 4 ∷ len ∷ off ∷ 0 ∷ base ∷ [])
    → Taken plain c d top 5
    → Keeps c d old new → (shared : List (List ℕ)) (t : Tree) → IsBase t → off + len ≤ length (bytes_of shared t) → Stands c shared old base t → Stands d shared new r (Part t off len)
unfolding Stands
part-made c d top old new r base off len is inside lie taken k shared t whole fits s =
    let P : ℕ → Type 0 = λ x. Stands d shared new x t in (
      record {
        boxed = boxed-made c d top 5 new r SUB_BIN 4 is (omega arith) inside (lie.each 0 top (omega arith) (omega arith)) taken;
        size = lie.each 1 (r / 4 + 1) (omega arith) (omega arith);
        start = lie.each 2 (r / 4 + 2) (omega arith) (omega arith);
        bits = lie.each 3 (r / 4 + 3) (omega arith) (omega arith);
        inside = fits;
      },
      whole,
      subst P (sym (lie.each 4 (r / 4 + 4) (omega arith) (omega arith))) (k.each shared base t s),
    )

pub bin-made : (c d : ℕ → ℕ → Bool) (top : ℕ) (new : List ℕ) (r : ℕ) (bytes : List ℕ) → r ≡ boxed_word top → length bytes ≤ MOST_HEAP_BYTES → top + (2 + bin_words (length bytes)) ≤ length new
    → Lie new top (head_word HEAP_BIN (1 + bin_words (length bytes)) ∷ length bytes ∷ []) → BytesLie new (top + 2) bytes → Taken plain c d top (2 + bin_words (length bytes))
    → (shared : List (List ℕ)) → Stands d shared new r (Bin bytes)
unfolding Stands
bin-made c d top new r bytes is few inside lie content taken shared = record {
  range = few;
  boxed = boxed-made c d top (2 + bin_words (length bytes)) new r HEAP_BIN (1 + bin_words (length bytes)) is (omega arith) inside (lie.each 0 top (omega arith) (omega arith)) taken;
  size = lie.each 1 (r / 4 + 1) (omega arith) (omega arith);
  content = record { each = λ i a below place. content.each i a below (omega arith) };
}

-- A taken place has its role.
role-at : (roles : ℕ → ℕ) (c d : ℕ → ℕ → Bool) (top n j k q : ℕ) → Taken roles c d top n → j < n → q ≡ top + j → roles j ≡ k → d q k ≡ true
role-at roles c d top n j k q taken below e is = let P : ℕ → Type 0 = λ x. d q x ≡ true in subst P is (taken.new j q below e)

pub shared-made : (c d : ℕ → ℕ → Bool) (top : ℕ) (old new : List ℕ) (r rec len next : ℕ) → r ≡ boxed_word top → top + 6 ≤ length new
    → Lie new top (head_word HOLDER 5 ∷ len ∷ next ∷ rec ∷ 0 ∷ 0 ∷ []) → Taken of_holder c d top 6 → Kept c d old new
    → (shared : List (List ℕ)) (id : ℕ) → IsRecordOf c shared old rec len id → Stands d shared new r (Shared id)
unfolding Stands
shared-made c d top old new r rec len next is inside lie taken k shared id named =
    let P : ℕ → Type 0 = λ v. IsBinRecord d new v id (shared_bytes shared id) in record {
      from_one = named.from_one;
      known = named.known;
      holder = record {
        tag = omega arith;
        within = omega arith;
        header = lie.each 0 (r / 4) (omega arith) (omega arith);
        size = lie.each 1 (r / 4 + 1) (omega arith) (omega arith) ∙ sym named.size;
        bytes_word = lie.each 4 (r / 4 + 4) (omega arith) (omega arith);
        flags_word = lie.each 5 (r / 4 + 5) (omega arith) (omega arith);
        first = taken.new 0 (r / 4) (omega arith) (omega arith);
        second = taken.new 1 (r / 4 + 1) (omega arith) (omega arith);
        next = taken.new 2 (r / 4 + 2) (omega arith) (omega arith);
        names = taken.new 3 (r / 4 + 3) (omega arith) (omega arith);
        fifth = taken.new 4 (r / 4 + 4) (omega arith) (omega arith);
        sixth = taken.new 5 (r / 4 + 5) (omega arith) (omega arith);
      };
      record_is = subst P (sym (lie.each 3 (r / 4 + 3) (omega arith) (omega arith))) (bin-stays c d old new rec id (shared_bytes shared id) k named.record_is);
    }

pub fun-made : (c d : ℕ → ℕ → Bool) (top n : ℕ) (old new env : List ℕ) (r rec next arity creator : ℕ) → n ≡ length env → r ≡ boxed_word top → n ≤ MOST_ENV → creator < PIDS
    → top + (6 + n) ≤ length new
    → Lie new top (head_word FUN (5 + n) ∷ rec ∷ next ∷ arity ∷ n ∷ pid_word creator ∷ env) → Taken of_fun c d top (6 + n) → Kept c d old new → Keeps c d old new
    → (shared : List (List ℕ)) (name : ℕ) (ts : Trees) → IsFunRecord c old rec name arity → AllStand c shared old env ts → Stands d shared new r (Fun name arity creator ts)
unfolding Stands
fun-made c d top n old new env r rec next arity creator count is few process inside lie taken k keeps shared name ts named all =
    let moved : AllStand d shared new env ts = keep-all c d old new keeps shared env ts all in
    let same : length env ≡ trees_len ts = all-length d shared new env ts moved in
    let P : ℕ → Type 0 = λ v. IsFunRecord d new v name arity in (
      record {
        range = omega arith;
        creator_range = process;
        tag = omega arith;
        within = omega arith;
        header = lie.each 0 (r / 4) (omega arith) (omega arith) ∙ omega arith;
        arity_word = lie.each 3 (r / 4 + 3) (omega arith) (omega arith);
        size = lie.each 4 (r / 4 + 4) (omega arith) (omega arith) ∙ omega arith;
        creator_word = lie.each 5 (r / 4 + 5) (omega arith) (omega arith);
        record_is = subst P (sym (lie.each 1 (r / 4 + 1) (omega arith) (omega arith))) (fun-stays c d old new rec name arity k named);
        first = taken.new 0 (r / 4) (omega arith) (omega arith);
        names = taken.new 1 (r / 4 + 1) (omega arith) (omega arith);
        next = taken.new 2 (r / 4 + 2) (omega arith) (omega arith);
        others = λ q above below. role-at of_fun c d top (6 + n) (q - top) FURTHER q taken (omega arith) (omega arith) (fun-after (q - top) (omega arith));
      },
      row-of-all d shared new (r / 4 + 6) env ts moved (λ j below. lie.each (suc (suc (suc (suc (suc (suc j)))))) (r / 4 + 6 + j) (omega arith) (omega arith)),
    )

-- The words of a big integer are as many as its magnitude needs.

pub one-digit : (i : ℤ) → is_small i ≡ false → nat_lt (magnitude i) (2 ^ 64) ≡ true → (integer_words i ≡ head_word (sign_tag i) 1 ∷ magnitude i ∷ []) × (int_flat i ≡ 2)
one-digit i big low = (rw (big, low) refl, rw (big, low) refl)

pub two-digits : (i : ℤ) → is_small i ≡ false → nat_lt (magnitude i) (2 ^ 64) ≡ false
    → (integer_words i ≡ head_word (sign_tag i) 2 ∷ magnitude i % 2 ^ 64 ∷ magnitude i / 2 ^ 64 ∷ []) × (int_flat i ≡ 3)
two-digits i big low = (rw (big, low) refl, rw (big, low) refl)

big-one : (c d : ℕ → ℕ → Bool) (top : ℕ) (new : List ℕ) (r : ℕ) (i : ℤ) → is_small i ≡ false → magnitude i < 2 ^ 64 → r ≡ boxed_word top → top + 2 ≤ length new
    → Lie new top (head_word (sign_tag i) 1 ∷ magnitude i ∷ []) → Taken plain c d top 2 → (shared : List (List ℕ)) → Stands d shared new r (Int i)
unfolding Stands
big-one c d top new r i big low is inside lie taken shared = inr (inl (record {
  big = big;
  boxed = boxed-made c d top 2 new r (sign_tag i) 1 is (omega arith) inside (lie.each 0 top (omega arith) (omega arith)) taken;
  digit = lie.each 1 (r / 4 + 1) (omega arith) (omega arith);
  range = low;
}))

big-two : (c d : ℕ → ℕ → Bool) (top : ℕ) (new : List ℕ) (r : ℕ) (i : ℤ) → 2 ^ 64 ≤ magnitude i → magnitude i < 2 ^ 127 → r ≡ boxed_word top → top + 3 ≤ length new
    → Lie new top (head_word (sign_tag i) 2 ∷ magnitude i % 2 ^ 64 ∷ magnitude i / 2 ^ 64 ∷ []) → Taken plain c d top 3 → (shared : List (List ℕ)) → Stands d shared new r (Int i)
unfolding Stands
big-two c d top new r i large range is inside lie taken shared =
    let low : get_or new (r / 4 + 1) 0 ≡ magnitude i % 2 ^ 64 = lie.each 1 (r / 4 + 1) (omega arith) (omega arith) in
    let high : get_or new (r / 4 + 2) 0 ≡ magnitude i / 2 ^ 64 = lie.each 2 (r / 4 + 2) (omega arith) (omega arith) in
    inr (inr (record {
      boxed = boxed-made c d top 3 new r (sign_tag i) 2 is (omega arith) inside (lie.each 0 top (omega arith) (omega arith)) taken;
      low = omega arith;
      high = omega arith;
      digits = omega arith;
      range = range;
    }))

pub int-made : (c d : ℕ → ℕ → Bool) (top : ℕ) (new : List ℕ) (r : ℕ) (i : ℤ) → magnitude i < 2 ^ 127 → top + int_flat i ≤ length new → (is_small i ≡ true → r ≡ small_word i)
    → (is_small i ≡ false → r ≡ boxed_word top) → Lie new top (integer_words i) → Taken plain c d top (int_flat i) → (shared : List (List ℕ)) → Stands d shared new r (Int i)
int-made c d top new r i range inside small boxed lie taken shared = elim (cases_Bool (is_small i)) [
  | inl is ↦ stands-small d shared new r i is (small is)
  | inr big ↦ elim (cases_Bool (nat_lt (magnitude i) (2 ^ 64))) [
    | inl low ↦
        let P : List ℕ → Type 0 = λ ws. Lie new top ws in
        let Q : ℕ → Type 0 = λ n. Taken plain c d top n in
        big-one c d top new r i big (grind (arith, nat_tests, low)) (boxed big) (omega (arith, inside, (one-digit i big low).1)) (subst P (one-digit i big low).0 lie)
        (subst Q (one-digit i big low).1 taken) shared
    | inr large ↦
        let P : List ℕ → Type 0 = λ ws. Lie new top ws in
        let Q : ℕ → Type 0 = λ n. Taken plain c d top n in
        big-two c d top new r i (grind (arith, nat_tests, large)) range (boxed big) (omega (arith, inside, (two-digits i big large).1)) (subst P (two-digits i big large).0 lie)
        (subst Q (two-digits i big large).1 taken) shared
  ]
]

-- The digits of an integer are those of its magnitude.
pub magnitude-is : (i j : ℤ) (n : ℕ) → j ≡ i → n ≡ nat_abs j → n ≡ magnitude i
magnitude-is i j n same is = is ∙ (ap nat_abs same ∙ of i)
  where
    of : (k : ℤ) → nat_abs k ≡ magnitude k
    of (pos n) = refl
    of (negsuc n) = omega arith

-- One that is not small has no word of its own ..
pub never-small : (i : ℤ) (r : ℕ) → is_small i ≡ false → is_small i ≡ true → r ≡ small_word i
never-small i r big is = absurd (cc (big, is))

-- .. and its header and its digits, one or two, are the words that were put.
pub one-put : (i : ℤ) (t h w : ℕ) (old new : Room) (mem mem2 : List ℕ) → is_small i ≡ false → magnitude i / 2 ^ 64 ≡ 0 → t ≡ sign_tag i → h ≡ head_word t 1 → w ≡ magnitude i
    → Uses 2 old new mem mem2 → Lie mem2 old.top (h ∷ w ∷ []) → Uses (int_flat i) old new mem mem2 × Lie mem2 old.top (integer_words i)
one-put i t h w old new mem mem2 big low tag head word u lie =
    let few : nat_lt (magnitude i) (2 ^ 64) ≡ true = grind (arith, nat_tests, low) in
    let e = one-digit i big few in
    let P : ℕ → Type 0 = λ n. Uses n old new mem mem2 in
    let Q : List ℕ → Type 0 = λ ws. Lie mem2 old.top ws in
    let same : h ∷ w ∷ [] ≡ head_word (sign_tag i) 1 ∷ magnitude i ∷ [] = cc (tag, head, word) in
    (subst P (sym e.1) u, subst Q (sym e.0) (subst Q same lie))

pub two-put : (i : ℤ) (t h w v : ℕ) (old new : Room) (mem mem2 : List ℕ) → is_small i ≡ false → nat_lt (magnitude i) (2 ^ 64) ≡ false → t ≡ sign_tag i → h ≡ head_word t 2 → w ≡ magnitude i % 2 ^ 64
    → v ≡ magnitude i / 2 ^ 64 → Uses 3 old new mem mem2 → Lie mem2 old.top (h ∷ w ∷ v ∷ []) → Uses (int_flat i) old new mem mem2 × Lie mem2 old.top (integer_words i)
two-put i t h w v old new mem mem2 big few tag head word high u lie =
    let e = two-digits i big few in
    let P : ℕ → Type 0 = λ n. Uses n old new mem mem2 in
    let Q : List ℕ → Type 0 = λ ws. Lie mem2 old.top ws in
    let same : h ∷ w ∷ v ∷ [] ≡ head_word (sign_tag i) 2 ∷ magnitude i % 2 ^ 64 ∷ magnitude i / 2 ^ 64 ∷ [] = cc (tag, head, word, high) in
    (subst P (sym e.1) u, subst Q (sym e.0) (subst Q same lie))

-- A row of the same word stands for the same tree.
pub same-row : (c : ℕ → ℕ → Bool) (shared : List (List ℕ)) (mem : List ℕ) (n w : ℕ) (t : Tree) → Stands c shared mem w t → AllStand c shared mem (replicate n w) (same_trees n t)
unfolding AllStand
same-row c shared mem zero w t s = tt
same-row c shared mem (suc n) w t s = (s, same-row c shared mem n w t s)

-- A row of keys, and one of values, stands for the pairs.

pub row-keys : (c : ℕ → ℕ → Bool) (shared : List (List ℕ)) (mem : List ℕ) (p : ℕ) (ps : Pairs) → RowStands c shared mem p (keys_of ps) → KeysStand c shared mem p ps
unfolding RowStands KeysStand
row-keys c shared mem p stop row = tt
row-keys c shared mem p (pair k v ps) (first, rest) = (first, row-keys c shared mem (p + 1) ps rest)

pub row-values : (c : ℕ → ℕ → Bool) (shared : List (List ℕ)) (mem : List ℕ) (p : ℕ) (ps : Pairs) → RowStands c shared mem p (values_of ps) → ValuesStand c shared mem p ps
unfolding RowStands ValuesStand
row-values c shared mem p stop row = tt
row-values c shared mem p (pair k v ps) (first, rest) = (first, row-values c shared mem (p + 1) ps rest)

-- A map behind the tuple of its keys.
pub map-made : (c d : ℕ → ℕ → Bool) (top n : ℕ) (old new keys values : List ℕ) (r : ℕ) → n ≡ length keys → length values ≡ n → n ≤ MOST_KEYS → r ≡ boxed_word (top + (1 + n))
    → top + (4 + 2 * n) ≤ length new → Lie new top ((head_word TUPLE n ∷ keys) ++ (head_word MAP (n + 2) ∷ n ∷ boxed_word top ∷ values))
    → Taken (of_map n) c d top (4 + 2 * n) → Keeps c d old new → (shared : List (List ℕ)) (ps : Pairs)
    → AllStand c shared old keys (keys_of ps) → AllStand c shared old values (values_of ps) → Stands d shared new r (Map ps)
unfolding Stands
map-made c d top n old new keys values r count same few is inside lie taken kept shared ps ks vs =
    let low : Lie new top (head_word TUPLE n ∷ keys) = lie-front (head_word TUPLE n ∷ keys) _ new top lie in
    let high : Lie new (top + (1 + n)) (head_word MAP (n + 2) ∷ n ∷ boxed_word top ∷ values) = lie-back (head_word TUPLE n ∷ keys) _ new top (top + (1 + n)) (omega arith) lie in
    let ks2 : AllStand d shared new keys (keys_of ps) = keep-all c d old new kept shared keys (keys_of ps) ks in
    let vs2 : AllStand d shared new values (values_of ps) = keep-all c d old new kept shared values (values_of ps) vs in
    let size : n ≡ pairs_len ps = omega (arith, count, all-length d shared new keys (keys_of ps) ks2, keys-len ps) in
    let named : get_or new (r / 4 + 2) 0 ≡ boxed_word top = high.each 2 (r / 4 + 2) (omega arith) (omega arith) in
    let at : top + 1 ≡ get_or new (r / 4 + 2) 0 / 4 + 1 = omega arith in
    let P : ℕ → Type 0 = λ x. KeysStand d shared new x ps in
    let Q : ℕ → Type 0 = λ x. IsTuple d new x n in
    let R : ℕ → Type 0 = λ x. IsMap d new r x in
    let tuple_is : IsTuple d new (boxed_word top) n = record {
      range = omega arith;
      boxed = boxed-made c d top (1 + n) new (boxed_word top) TUPLE n refl refl (omega arith) (low.each 0 top (omega arith) (omega arith)) (taken-keys c d top n taken);
    } in
    let map_is : IsMap d new r n = record {
      range = few;
      boxed = boxed-made c d (top + (1 + n)) (3 + n) new r MAP (n + 2) is (omega arith) (omega arith) (high.each 0 (top + (1 + n)) (omega arith) (omega arith)) (taken-map c d top n taken);
      count = high.each 1 (r / 4 + 1) (omega arith) (omega arith);
      keys = subst Q (sym named) tuple_is;
    } in (
      subst R size map_is,
      subst P at (row-keys d shared new (top + 1) ps (row-of-all d shared new (top + 1) keys (keys_of ps) ks2 (λ j below. low.each (suc j) (top + 1 + j) (omega arith) (omega arith)))),
      row-values d shared new (r / 4 + 3) ps
          (row-of-all d shared new (r / 4 + 3) values (values_of ps) vs2 (λ j below. high.each (suc (suc (suc j))) (r / 4 + 3 + j) (omega arith) (omega arith))),
    )
