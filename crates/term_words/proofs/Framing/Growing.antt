-- More shared lists keep every tree.
use Rattle.std.proofs.Common.{◌≡◌, ℕ, ◌+◌, ◌/◌, Bool, List, ◌++◌, length, get_or, refl, sym, subst, arith, length-append}
use Rattle.plain_term.specs.Bytes.{bytes_of, shared_bytes}
use Rattle.plain_term.specs.Tree.{Tree, Trees, Pairs}
use Rattle.plain_term.specs.Tree.Tree.{Int, Atom, Pid, Ref, Nil, Cons, Tuple, Map, Bin, Shared, Part, Fun}
use Rattle.plain_term.specs.Tree.Trees.{end, ◌▹◌}
use Rattle.plain_term.specs.Tree.Pairs.{stop, pair}
use Rattle.plain_term.proofs.Known.{bytes-stay}
use Rattle.term_words.specs.Object.{IsShared, IsSub, IsHolder, IsBinRecord}
use Rattle.term_words.specs.Stands.{Stands, RowStands, KeysStand, ValuesStand, IsBase}

module _ (c : ℕ → ℕ → Bool) (shared more : List (List ℕ)) (mem : List ℕ) where
  shared-grows : (w id : ℕ) → IsShared c shared mem w id → IsShared c (shared ++ more) mem w id
  shared-grows w id o =
      let same : shared_bytes shared id ≡ shared_bytes (shared ++ more) id = sym (bytes-stay shared more id o.known) in
      let P : List ℕ → Type 0 = λ x. IsHolder c mem w (length x) in
      let Q : List ℕ → Type 0 = λ x. IsBinRecord c mem (get_or mem (w / 4 + 3) 0) id x in
      record { from_one = o.from_one; known = omega (arith, length-append shared more, o.known); holder = subst P same o.holder; record_is = subst Q same o.record_is }

  base-grows : (w : ℕ) (base : Tree) → IsBase base → Stands c shared mem w base → bytes_of shared base ≡ bytes_of (shared ++ more) base
  unfolding Stands
  base-grows w (Bin bytes) is s = refl
  base-grows w (Shared id) is s = sym (bytes-stay shared more id s.known)
  base-grows w _ is s = absurd is

  mutual
    unfolding Stands RowStands KeysStand ValuesStand

    pub grow : (w : ℕ) (t : Tree) → Stands c shared mem w t → Stands c (shared ++ more) mem w t
    grow w (Int i) s = s
    grow w (Atom k) s = s
    grow w (Pid n) s = s
    grow w (Ref n k) s = s
    grow w Nil s = s
    grow w (Cons h t) (o, sh, st) = (o, grow (get_or mem (w / 4) 0) h sh, grow (get_or mem (w / 4 + 1) 0) t st)
    grow w (Tuple ts) (o, row) = (o, grow-row (w / 4 + 1) ts row)
    grow w (Map ps) (o, ks, vs) = (o, grow-keys (get_or mem (w / 4 + 2) 0 / 4 + 1) ps ks, grow-values (w / 4 + 3) ps vs)
    grow w (Bin bytes) s = s
    grow w (Shared id) s = shared-grows w id s
    grow w (Part base offset len) (o, is, sb) =
        let same : bytes_of shared base ≡ bytes_of (shared ++ more) base = base-grows (get_or mem (w / 4 + 4) 0) base is sb in
        let P : List ℕ → Type 0 = λ x. IsSub c mem w offset len (length x) in
        (subst P same o, is, grow (get_or mem (w / 4 + 4) 0) base sb)
    grow w (Fun name arity creator env) (o, row) = (o, grow-row (w / 4 + 6) env row)

    pub grow-row : (p : ℕ) (ts : Trees) → RowStands c shared mem p ts → RowStands c (shared ++ more) mem p ts
    grow-row p end row = tt
    grow-row p (t ▹ ts) (first, rest) = (grow (get_or mem p 0) t first, grow-row (p + 1) ts rest)

    grow-keys : (p : ℕ) (ps : Pairs) → KeysStand c shared mem p ps → KeysStand c (shared ++ more) mem p ps
    grow-keys p stop row = tt
    grow-keys p (pair x y ps) (first, rest) = (grow (get_or mem p 0) x first, grow-keys (p + 1) ps rest)

    grow-values : (p : ℕ) (ps : Pairs) → ValuesStand c shared mem p ps → ValuesStand c (shared ++ more) mem p ps
    grow-values p stop row = tt
    grow-values p (pair x y ps) (first, rest) = (grow (get_or mem p 0) y first, grow-values (p + 1) ps rest)
