-- What tree a word stands for. One recursion on the tree; the test says where the words may lie.
use Rattle.std.specs.Prelude.{◌≡◌, ℕ, zero, suc, ◌+◌, ◌/◌, Bool, List, [], ◌∷◌, length, slice_index}
use Rattle.plain_term.specs.Tree.{Tree, Trees, Pairs, trees_len, pairs_len}
use Rattle.plain_term.specs.Tree.Tree.{Int, Atom, Pid, Ref, Nil, Cons, Tuple, Map, Bin, Shared, Part, Fun}
use Rattle.plain_term.specs.Tree.Trees.{end, ◌▹◌}
use Rattle.plain_term.specs.Tree.Pairs.{stop, pair}
use Rattle.plain_term.specs.Bytes.{bytes_of}
use Rattle.term_tags.specs.declared.kinds.TheConstants.{NIL}
use Rattle.term_words.specs.Role.{always}
use Rattle.term_words.specs.Object.{IsCons, IsAtom, IsPid, IsInt, IsRef, IsTuple, IsMap, IsHeapBin, IsFun, IsShared, IsSub}

-- The original of a part is a binary of its own.
abbrev pub IsBase : Tree → Type 0
IsBase (Bin bytes) = Unit {0}
IsBase (Shared id) = Unit {0}
IsBase _ = ⊥

unfoldable mutual
  -- The word stands for the tree.
  pub Stands : (ℕ → ℕ → Bool) → List (List ℕ) → List ℕ → ℕ → Tree → Type 0
  Stands c shared mem w (Int i) = IsInt c mem w i
  Stands c shared mem w (Atom k) = IsAtom w k
  Stands c shared mem w (Pid n) = IsPid w n
  Stands c shared mem w (Ref n k) = IsRef c mem w n k
  Stands c shared mem w Nil = w ≡ NIL
  Stands c shared mem w (Cons h t) = IsCons c mem w × Stands c shared mem (slice_index mem (w / 4)) h × Stands c shared mem (slice_index mem (w / 4 + 1)) t
  Stands c shared mem w (Tuple ts) = IsTuple c mem w (trees_len ts) × RowStands c shared mem (w / 4 + 1) ts
  Stands c shared mem w (Map ps) = IsMap c mem w (pairs_len ps) × KeysStand c shared mem (slice_index mem (w / 4 + 2) / 4 + 1) ps × ValuesStand c shared mem
      (w / 4 + 3) ps
  Stands c shared mem w (Bin bytes) = IsHeapBin c mem w bytes
  Stands c shared mem w (Shared id) = IsShared c shared mem w id
  Stands c shared mem w (Part base offset len) = IsSub c mem w offset len (length (bytes_of shared base)) × IsBase base × Stands c shared mem
      (slice_index mem (w / 4 + 4)) base
  Stands c shared mem w (Fun name arity creator env) = IsFun c mem w name arity creator (trees_len env) × RowStands c shared mem (w / 4 + 6) env

  -- The words from place p on stand for the trees in order.
  pub RowStands : (ℕ → ℕ → Bool) → List (List ℕ) → List ℕ → ℕ → Trees → Type 0
  RowStands c shared mem p end = Unit {0}
  RowStands c shared mem p (t ▹ ts) = Stands c shared mem (slice_index mem p) t × RowStands c shared mem (p + 1) ts

  -- The words from place p on stand for the keys of the pairs in order.
  pub KeysStand : (ℕ → ℕ → Bool) → List (List ℕ) → List ℕ → ℕ → Pairs → Type 0
  KeysStand c shared mem p stop = Unit {0}
  KeysStand c shared mem p (pair k v ps) = Stands c shared mem (slice_index mem p) k × KeysStand c shared mem (p + 1) ps

  -- The words from place p on stand for the values of the pairs in order.
  pub ValuesStand : (ℕ → ℕ → Bool) → List (List ℕ) → List ℕ → ℕ → Pairs → Type 0
  ValuesStand c shared mem p stop = Unit {0}
  ValuesStand c shared mem p (pair k v ps) = Stands c shared mem (slice_index mem p) v × ValuesStand c shared mem (p + 1) ps

-- Tree i of a list, from 0; nil past its end.
abbrev pub tree_at : Trees → ℕ → Tree
tree_at end i = Nil
tree_at (t ▹ ts) zero = t
tree_at (t ▹ ts) (suc i) = tree_at ts i

-- The words of a list, such as registers or roots, stand for the trees in order.
unfoldable pub AllStand : (ℕ → ℕ → Bool) → List (List ℕ) → List ℕ → List ℕ → Trees → Type 0
AllStand c shared mem [] end = Unit {0}
AllStand c shared mem (w ∷ ws) (t ▹ ts) = Stands c shared mem w t × AllStand c shared mem ws ts
AllStand c shared mem [] (t ▹ ts) = ⊥
AllStand c shared mem (w ∷ ws) end = ⊥

-- The word stands for the tree, wherever its objects and records lie. Objects may have words in common by it: a list
-- pointer to the middle of a tuple stands for a cons of two of its parts. One role a place rules that out.
abbrev pub stands : List (List ℕ) → List ℕ → ℕ → Tree → Type 0
stands shared mem w t = Stands always shared mem w t

-- The word stands for some tree.
pub record IsTerm (mem : List ℕ) (w : ℕ) : Type 0 where
  pub shared : List (List ℕ)
  pub tree : Tree
  pub standing : stands shared mem w tree
