-- The texts of parts, by the marks before them.
use Rattle.std.proofs.Common.{◌≡◌, ℕ, Bool, true, false, ◌&&◌, List, ◌++◌, codes, refl, ap, ◌∙◌, arith, append_assoc}
use Rattle.std.proofs.lemmas.Bool.{and_from, and_parts}
use Rattle.plain_term.specs.Tree.{Trees, Pairs}
use Rattle.plain_term.specs.Tree.Trees.{end, ◌▹◌}
use Rattle.plain_term.specs.Tree.Pairs.{stop, pair}
use Rattle.plain_term.specs.Measures.{nodes_of_all, nodes_of_pairs, greatest_depth, greatest_depth_of_pairs}
use Rattle.plain_term.specs.Text.{text_as, text_of_all, more_terms, text_of_pairs, more_pairs, placed}
use Rattle.term_order.specs.Named.{is_named, are_named, pairs_named}
use Rattle.term_print.specs.declared.levels.Mark.TheVariants.{Nothing, Comma}
use Rattle.term_print.specs.Left.{closing_text, in_turn, row_text}
use Rattle.term_print.specs.Own.{tuple_begun, map_begun}

-- Terms after commas, and pairs.

more-row : (names shared : List (List ℕ)) (ts : Trees) → more_terms names shared ts ≡ row_text names shared false Comma ts
more-row names shared end = refl
more-row names shared (t ▹ ts) = ap (λ z. codes "," ++ (text_as names shared false t ++ z)) (more-row names shared ts)

all-row : (names shared : List (List ℕ)) (ts : Trees) → text_of_all names shared ts ≡ row_text names shared false Nothing ts
all-row names shared end = refl
all-row names shared (t ▹ ts) = ap (λ z. text_as names shared false t ++ z) (more-row names shared ts)

more-pairs-row : (names shared : List (List ℕ)) (ps : Pairs) → more_pairs names shared ps ≡ row_text names shared true Comma (in_turn ps)
more-pairs-row names shared stop = refl
more-pairs-row names shared (pair k v ps) =
    ap (λ z. codes "," ++ (text_as names shared false k ++ (codes "=>" ++ (text_as names shared false v ++ z)))) (more-pairs-row names shared ps)

pairs-row : (names shared : List (List ℕ)) (ps : Pairs) → text_of_pairs names shared ps ≡ row_text names shared true Nothing (in_turn ps)
pairs-row names shared stop = refl
pairs-row names shared (pair k v ps) =
    ap (λ z. text_as names shared false k ++ (codes "=>" ++ (text_as names shared false v ++ z))) (more-pairs-row names shared ps)

-- A tuple and a map, as they stand or behind a bar.

pub tuple-text : (names shared : List (List ℕ)) (tail : Bool) (ts : Trees)
    → placed tail (codes "{" ++ (text_of_all names shared ts ++ codes "}")) ≡ tuple_begun tail ++ (row_text names shared false Nothing ts ++ closing_text tail)
tuple-text names shared false ts = ap (λ z. codes "{" ++ (z ++ codes "}")) (all-row names shared ts)
tuple-text names shared true ts =
    ap (λ z. codes "|{" ++ z) (append_assoc (text_of_all names shared ts) (codes "}") (codes "]")) ∙ ap (λ z. codes "|{" ++ (z ++ codes "}]")) (all-row names shared ts)

pub map-text : (names shared : List (List ℕ)) (tail : Bool) (ps : Pairs)
    → placed tail (codes "#{" ++ (text_of_pairs names shared ps ++ codes "}")) ≡ map_begun tail ++ (row_text names shared true Nothing (in_turn ps) ++ closing_text tail)
map-text names shared false ps = ap (λ z. codes "#{" ++ (z ++ codes "}")) (pairs-row names shared ps)
map-text names shared true ps =
    ap (λ z. codes "|#{" ++ z) (append_assoc (text_of_pairs names shared ps) (codes "}") (codes "]")) ∙ ap (λ z. codes "|#{" ++ (z ++ codes "}]")) (pairs-row names shared ps)

-- Pairs in turn count as much, go as deep, and have the same names.

pub nodes-turn : (shared : List (List ℕ)) (ps : Pairs) → nodes_of_all shared (in_turn ps) ≡ nodes_of_pairs shared ps
nodes-turn shared stop = refl
nodes-turn shared (pair k v ps) = omega (arith, nodes-turn shared ps)

pub deep-turn : (ps : Pairs) → greatest_depth (in_turn ps) ≡ greatest_depth_of_pairs ps
deep-turn stop = refl
deep-turn (pair k v ps) = omega (arith, deep-turn ps)

pub named-turn : (n : ℕ) (ps : Pairs) → pairs_named n ps ≡ true → are_named n (in_turn ps) ≡ true
named-turn n stop p = refl
named-turn n (pair k v ps) p =
    let (first, others) = and_parts (is_named n k && is_named n v) (pairs_named n ps) p in
    let (key, value) = and_parts (is_named n k) (is_named n v) first in
    and_from (is_named n k) (is_named n v && are_named n (in_turn ps)) key (and_from (is_named n v) (are_named n (in_turn ps)) value (named-turn n ps others))
