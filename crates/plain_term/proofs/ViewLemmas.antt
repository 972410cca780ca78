-- What the view of a value is.
use Rattle.std.proofs.Common.{◌≡◌, ℕ, arith, List, [], ◌∷◌, map, length, ap, refl, sym, ◌∙◌}
use Rattle.plain_term.specs.View.{view, trees_of, pairs_of, pair_of, level}
use Rattle.plain_term.specs.declared.tree.Tree.{Tree, Bin}
use Rattle.plain_term.specs.declared.tree.Tree.TheOpen.{Tree-F}
use Rattle.plain_term.specs.declared.tree.Tree.TheVariants.{rolls-Map, rolls-Tuple, rolls-Fun, rolls-Bin}
use Rattle.plain_term.specs.declared.tree.Tree.TheViews.{Map, Tuple, Fun}
use Rattle.plain_term.specs.declared.tree.Tree.TheFolds.{fold-roll-Tree}
use Rattle.plain_term.specs.Tree.{trees_len, pairs_len}
use Rattle.plain_term.specs.Tree as plain

pub view-Map : (ps : List (Tree × Tree)) → view (Map ps) ≡ plain.Tree.Map (pairs_of (map pair_of ps))
view-Map ps = ap view (sym (rolls-Map ps)) ∙ fold-roll-Tree plain.Tree level (Tree-F.Map ps)

pub view-Tuple : (ts : List Tree) → view (Tuple ts) ≡ plain.Tree.Tuple (trees_of (map view ts))
view-Tuple ts = ap view (sym (rolls-Tuple ts)) ∙ fold-roll-Tree plain.Tree level (Tree-F.Tuple ts)

pub view-Bin : (bytes : List ℕ) → view (Bin bytes) ≡ plain.Tree.Bin bytes
view-Bin bytes = ap view (sym (rolls-Bin bytes)) ∙ fold-roll-Tree plain.Tree level (Tree-F.Bin bytes)

pub view-Fun : (f a c : ℕ) (ts : List Tree) → view (Fun f a c ts) ≡ plain.Tree.Fun f a c (trees_of (map view ts))
view-Fun f a c ts = ap view (sym (rolls-Fun f a c ts)) ∙ fold-roll-Tree plain.Tree level (Tree-F.Fun f a c ts)

-- The trees of values whose parts are those of a slice.
pub as-Map : (t : Tree) (ps us : List (Tree × Tree)) → t ≡ Map ps → us ≡ ps → plain.Tree.Map (pairs_of (map pair_of us)) ≡ view t
as-Map t ps us is same = ap (λ xs. plain.Tree.Map (pairs_of (map pair_of xs))) same ∙ sym (ap view is ∙ view-Map ps)

pub as-Tuple : (t : Tree) (ts us : List Tree) → t ≡ Tuple ts → us ≡ ts → plain.Tree.Tuple (trees_of (map view us)) ≡ view t
as-Tuple t ts us is same = ap (λ xs. plain.Tree.Tuple (trees_of (map view xs))) same ∙ sym (ap view is ∙ view-Tuple ts)

pub as-Fun : (t : Tree) (f a c : ℕ) (ts us : List Tree) → t ≡ Fun f a c ts → us ≡ ts → plain.Tree.Fun f a c (trees_of (map view us)) ≡ view t
as-Fun t f a c ts us is same = ap (λ xs. plain.Tree.Fun f a c (trees_of (map view xs))) same ∙ sym (ap view is ∙ view-Fun f a c ts)

pub trees_len-trees_of : (ts : List Tree) → trees_len (trees_of (map view ts)) ≡ length ts
trees_len-trees_of [] = refl
trees_len-trees_of (t ∷ ts) = omega (arith, trees_len-trees_of ts)

pub pairs_len-pairs_of : (ps : List (Tree × Tree)) → pairs_len (pairs_of (map pair_of ps)) ≡ length ps
pairs_len-pairs_of [] = refl
pairs_len-pairs_of (p ∷ ps) = omega (arith, pairs_len-pairs_of ps)

pub ruleset view_steps = (view-Map, view-Tuple, view-Fun, trees_len-trees_of, pairs_len-pairs_of)
