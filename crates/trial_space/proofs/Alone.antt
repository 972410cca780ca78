-- Trees of items that stand alone: they have no parts, and are within the walk limit.
use Rattle.std.proofs.Common.{◌≡◌, ℕ, ℤ, false, List, [], ◌∷◌, ◌++◌, map, None, refl, sym, ap, ◌∙◌}
use Rattle.std.specs.Prelude.{flat_map}
use Rattle.std.specs.Ordering.{int_cmp, nat_cmp, ordering_then}
use Rattle.std.specs.declared.cmp.Ordering.{Ordering}
use Rattle.std.specs.declared.cmp.Ordering.TheVariants.{Less, Equal, Greater}
use Rattle.plain_term.specs.declared.item.Item.{Item}
use Rattle.plain_term.specs.declared.item.Item.TheVariants as item
use Rattle.plain_term.specs.Tree.{Tree}
use Rattle.plain_term.specs.Tree.Tree.{Int, Atom, Pid, Nil}
use Rattle.plain_term.specs.Beyond.{is_beyond}
use Rattle.plain_term.specs.Measures.{nodes}
use Rattle.plain_term.specs.Order.{order, bytes_order}
use Rattle.script_grammar.specs.declared.command.Pick.{Pick}
use Rattle.script_grammar.specs.declared.command.Pick.TheVariants.{Hd, Tl, Elem, MapGet, Env, Part}
use Rattle.plain_machine.specs.State.{Process}
use Rattle.plain_machine.specs.Parts.{picked, pairs_in}
use Rattle.plain_machine.specs.Tightness.{ids_in, funs_in}
use Rattle.trial_space.specs.Items.{alone, item_rank, item_value, item_number, item_name}

-- what holds of the four kinds of trees holds of an item's
by-kind : (P : Tree → Type 0) → ((i : ℤ) → P (Int i)) → ((k : ℕ) → P (Atom k)) → ((n : ℕ) → P (Pid n)) → P Nil → (x : Item) → P (alone x)
by-kind P a b c d (item.Int i) = a i
by-kind P a b c d (item.Atom k) = b k
by-kind P a b c d (item.Pid n) = c n
by-kind P a b c d _ = d

pub near : (shared : List (List ℕ)) (x : Item) → is_beyond shared (alone x) ≡ false
near shared x = by-kind (λ t. is_beyond shared t ≡ false) (λ i. refl) (λ k. refl) (λ n. refl) refl x

pub no-part : (names shared : List (List ℕ)) (q : Process) (how : Pick) (x : Item) → picked names shared q how (alone x) ≡ None
no-part names shared q Hd x = by-kind (λ t. picked names shared q Hd t ≡ None) (λ i. refl) (λ k. refl) (λ n. refl) refl x
no-part names shared q Tl x = by-kind (λ t. picked names shared q Tl t ≡ None) (λ i. refl) (λ k. refl) (λ n. refl) refl x
no-part names shared q (Elem i) x = by-kind (λ t. picked names shared q (Elem i) t ≡ None) (λ i. refl) (λ k. refl) (λ n. refl) refl x
no-part names shared q (MapGet r) x = by-kind (λ t. picked names shared q (MapGet r) t ≡ None) (λ i. refl) (λ k. refl) (λ n. refl) refl x
no-part names shared q (Env i) x = by-kind (λ t. picked names shared q (Env i) t ≡ None) (λ i. refl) (λ k. refl) (λ n. refl) refl x
no-part names shared q (Part offset len) x = by-kind (λ t. picked names shared q (Part offset len) t ≡ None) (λ i. refl) (λ k. refl) (λ n. refl) refl x

-- no shared binary and no fun occurs in them
pub no-ids : (xs : List Item) → flat_map ids_in (map alone xs) ≡ []
no-ids [] = refl
no-ids (x ∷ xs) = by-kind (λ t. ids_in t ++ flat_map ids_in (map alone xs) ≡ []) (λ i. no-ids xs) (λ k. no-ids xs) (λ n. no-ids xs) (no-ids xs) x

pub no-funs : (xs : List Item) → flat_map funs_in (map alone xs) ≡ []
no-funs [] = refl
no-funs (x ∷ xs) = by-kind (λ t. funs_in t ++ flat_map funs_in (map alone xs) ≡ []) (λ i. no-funs xs) (λ k. no-funs xs) (λ n. no-funs xs) (no-funs xs) x

pub no-pairs : (x : Item) → pairs_in (alone x) ≡ None
no-pairs x = by-kind (λ t. pairs_in t ≡ None) (λ i. refl) (λ k. refl) (λ n. refl) refl x

pub one-node : (shared : List (List ℕ)) (x : Item) → nodes shared (alone x) ≡ 1
one-node shared x = by-kind (λ t. nodes shared t ≡ 1) (λ i. refl) (λ k. refl) (λ n. refl) refl x

-- an order without a later one
then-equal : (o : Ordering) → o ≡ ordering_then o Equal
then-equal Less = refl
then-equal Equal = refl
then-equal Greater = refl

-- the order by kinds, numbers and names
pub order-parts : (names shared : List (List ℕ)) (x y : Item)
    → order names shared (alone x) (alone y)
    ≡ ordering_then (nat_cmp (item_rank x) (item_rank y)) (ordering_then (int_cmp (item_value x) (item_value y))
    (ordering_then (nat_cmp (item_number x) (item_number y)) (bytes_order (item_name names x) (item_name names y))))
order-parts names shared (item.Int i) (item.Int j) = then-equal (int_cmp i j)
order-parts names shared (item.Int i) (item.Atom k) = refl
order-parts names shared (item.Int i) (item.Pid n) = refl
order-parts names shared (item.Int i) _ = refl
order-parts names shared (item.Atom k) (item.Int j) = refl
order-parts names shared (item.Atom k) (item.Atom j) = refl
order-parts names shared (item.Atom k) (item.Pid n) = refl
order-parts names shared (item.Atom k) _ = refl
order-parts names shared (item.Pid n) (item.Int j) = refl
order-parts names shared (item.Pid n) (item.Atom j) = refl
order-parts names shared (item.Pid n) (item.Pid m) = then-equal (nat_cmp n m)
order-parts names shared (item.Pid n) _ = refl
order-parts names shared _ (item.Int j) = refl
order-parts names shared _ (item.Atom j) = refl
order-parts names shared _ (item.Pid n) = refl
order-parts names shared _ _ = refl

-- the order that is put together of these
pub order-built : (names : List (List ℕ)) (x y : Item) (kinds values numbers named last later all : Ordering)
    → kinds ≡ nat_cmp (item_rank x) (item_rank y) → values ≡ int_cmp (item_value x) (item_value y) → numbers ≡ nat_cmp (item_number x) (item_number y)
    → named ≡ bytes_order (item_name names x) (item_name names y)
    → last ≡ ordering_then numbers named → later ≡ ordering_then values last → all ≡ ordering_then kinds later → all ≡ order names [] (alone x) (alone y)
order-built names x y kinds values numbers named last later all k v n m a b c =
    c ∙ (ap (ordering_then kinds) (b ∙ ap (ordering_then values) a) ∙ ((λ i. ordering_then (k i) (ordering_then (v i) (ordering_then (n i) (m i)))) ∙ sym (order-parts names [] x y)))
