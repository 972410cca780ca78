-- A proper tree stays proper where more names and more shared byte lists stand after those that there are.
use Rattle.std.proofs.Common.{◌≡◌, ℕ, ◌+◌, true, ◌&&◌, not, nat_lt, nat_le, List, ◌++◌, length, refl, ap, ◌∙◌, arith, ltb-true, lt-ltb, length-append}
use Rattle.std.proofs.lemmas.Bool.{and_parts, and_from, leb-true, le-leb}
use Rattle.std.specs.Ordering.{is_lt}
use Rattle.plain_term.specs.Tree.{Tree, Trees, Pairs, pairs_len}
use Rattle.plain_term.specs.Tree.Tree.{Int, Atom, Ref, Nil, Cons, Tuple, Map, Bin, Shared, Part, Fun, Pid}
use Rattle.plain_term.specs.Tree.Trees.{end, ◌▹◌}
use Rattle.plain_term.specs.Tree.Pairs.{stop, pair}
use Rattle.plain_term.specs.Bytes.{bytes_of}
use Rattle.plain_term.specs.Beyond.{is_beyond}
use Rattle.plain_term.specs.Order.{order}
use Rattle.plain_term.specs.Proper.{is_proper, are_proper, are_proper_pairs, keys_rise, is_base}
use Rattle.plain_term.proofs.Known.{AgreeOn, AgreeOnAll, AgreeOnPairs, name-stays, bytes-stay, same-beyond, same-bytes, same-order}

module _ (names more s extra : List (List ℕ)) where
  pub cons-parts : (h t : Tree) → is_proper names s (Cons h t) ≡ true → (is_proper names s h ≡ true) × (is_proper names s t ≡ true)
  cons-parts h t e = and_parts (is_proper names s h) (is_proper names s t) e

  pub all-parts : (t : Tree) (ts : Trees) → are_proper names s (t ▹ ts) ≡ true → (is_proper names s t ≡ true) × (are_proper names s ts ≡ true)
  all-parts t ts e = and_parts (is_proper names s t) (are_proper names s ts) e

  pub fun-parts : (f a c : ℕ) (ts : Trees) → is_proper names s (Fun f a c ts) ≡ true → (nat_lt f (length names) ≡ true) × (are_proper names s ts ≡ true)
  fun-parts f a c ts e = and_parts (nat_lt f (length names)) (are_proper names s ts) e

  pub part-parts : (base : Tree) (offset len : ℕ) → is_proper names s (Part base offset len) ≡ true
      → (is_base base ≡ true) × (is_proper names s base ≡ true) × (nat_le (offset + len) (length (bytes_of s base)) ≡ true)
  part-parts base offset len e =
      let a = and_parts (is_base base && is_proper names s base) (nat_le (offset + len) (length (bytes_of s base))) e in
      let b = and_parts (is_base base) (is_proper names s base) a.0 in (b.0, b.1, a.1)

  pub map-parts : (ps : Pairs) → is_proper names s (Map ps) ≡ true → (nat_le (pairs_len ps) 32 ≡ true) × (keys_rise names s ps ≡ true) × (are_proper_pairs names s ps ≡ true)
  map-parts ps e =
      let a = and_parts (nat_le (pairs_len ps) 32 && keys_rise names s ps) (are_proper_pairs names s ps) e in
      let b = and_parts (nat_le (pairs_len ps) 32) (keys_rise names s ps) a.0 in (b.0, b.1, a.1)

  pub pairs-parts : (k v : Tree) (ps : Pairs) → are_proper_pairs names s (pair k v ps) ≡ true
      → (is_proper names s k ≡ true) × (not (is_beyond s k) ≡ true) × (is_proper names s v ≡ true) × (are_proper_pairs names s ps ≡ true)
  pairs-parts k v ps e =
      let a = and_parts (is_proper names s k && not (is_beyond s k) && is_proper names s v) (are_proper_pairs names s ps) e in
      let b = and_parts (is_proper names s k && not (is_beyond s k)) (is_proper names s v) a.0 in
      let c = and_parts (is_proper names s k) (not (is_beyond s k)) b.0 in (c.0, c.1, b.1, a.1)

  -- The lists agree with the longer ones on all that a proper tree has.
  mutual
    alike : (t : Tree) → is_proper names s t ≡ true → AgreeOn (names ++ more) names (s ++ extra) s t
    alike (Atom k) h = name-stays names more k (ltb-true k (length names) h)
    alike (Cons a b) h = let p = cons-parts a b h in (alike a p.0, alike b p.1)
    alike (Tuple ts) h = all-alike ts h
    alike (Map ps) h = pairs-alike ps (map-parts ps h).2
    alike (Shared id) h = bytes-stay s extra id (leb-true id (length s) (and_parts (nat_lt 0 id) (nat_le id (length s)) h).1)
    alike (Part base offset len) h = alike base (part-parts base offset len h).1
    alike (Fun f a c ts) h = let p = fun-parts f a c ts h in (name-stays names more f (ltb-true f (length names) p.0), all-alike ts p.1)
    alike _ h = tt

    all-alike : (ts : Trees) → are_proper names s ts ≡ true → AgreeOnAll (names ++ more) names (s ++ extra) s ts
    all-alike end h = tt
    all-alike (t ▹ ts) h = let p = all-parts t ts h in (alike t p.0, all-alike ts p.1)

    pairs-alike : (ps : Pairs) → are_proper_pairs names s ps ≡ true → AgreeOnPairs (names ++ more) names (s ++ extra) s ps
    pairs-alike stop h = tt
    pairs-alike (pair k v ps) h = let p = pairs-parts k v ps h in (alike k p.0, alike v p.2, pairs-alike ps p.3)

  pub beyond-grown : (t : Tree) → is_proper names s t ≡ true → is_beyond (s ++ extra) t ≡ is_beyond s t
  beyond-grown t h = same-beyond (names ++ more) names (s ++ extra) s t (alike t h)

  rise-grown : (ps : Pairs) → are_proper_pairs names s ps ≡ true → keys_rise names s ps ≡ true → keys_rise (names ++ more) (s ++ extra) ps ≡ true
  rise-grown stop p h = refl
  rise-grown (pair k v stop) p h = refl
  rise-grown (pair k v (pair j w ps)) p h =
      let x = pairs-parts k v (pair j w ps) p in
      let y = pairs-parts j w ps x.3 in
      let r = and_parts (is_lt (order names s k j)) (keys_rise names s (pair j w ps)) h in
      and_from (is_lt (order (names ++ more) (s ++ extra) k j)) (keys_rise (names ++ more) (s ++ extra) (pair j w ps))
      (ap is_lt (same-order (names ++ more) names (s ++ extra) s k j (alike k x.0) (alike j y.0)) ∙ r.0) (rise-grown (pair j w ps) x.3 r.1)

  mutual
    pub proper-grown : (t : Tree) → is_proper names s t ≡ true → is_proper (names ++ more) (s ++ extra) t ≡ true
    proper-grown (Int i) h = h
    proper-grown (Atom k) h = lt-ltb k (length (names ++ more)) (omega (arith, ltb-true k (length names) h, length-append names more))
    proper-grown (Pid n) h = refl
    proper-grown (Ref n k) h = refl
    proper-grown Nil h = refl
    proper-grown (Cons a b) h = let p = cons-parts a b h in
        and_from (is_proper (names ++ more) (s ++ extra) a) (is_proper (names ++ more) (s ++ extra) b) (proper-grown a p.0) (proper-grown b p.1)
    proper-grown (Tuple ts) h = proper-grown-all ts h
    proper-grown (Map ps) h = let p = map-parts ps h in
        and_from (nat_le (pairs_len ps) 32 && keys_rise (names ++ more) (s ++ extra) ps) (are_proper_pairs (names ++ more) (s ++ extra) ps)
        (and_from (nat_le (pairs_len ps) 32) (keys_rise (names ++ more) (s ++ extra) ps) p.0 (rise-grown ps p.2 p.1)) (proper-grown-pairs ps p.2)
    proper-grown (Bin bytes) h = h
    proper-grown (Shared id) h = let p = and_parts (nat_lt 0 id) (nat_le id (length s)) h in
        and_from (nat_lt 0 id) (nat_le id (length (s ++ extra))) p.0 (le-leb id (length (s ++ extra)) (omega (arith, leb-true id (length s) p.1, length-append s extra)))
    proper-grown (Part base offset len) h = let p = part-parts base offset len h in
        and_from (is_base base && is_proper (names ++ more) (s ++ extra) base) (nat_le (offset + len) (length (bytes_of (s ++ extra) base)))
        (and_from (is_base base) (is_proper (names ++ more) (s ++ extra) base) p.0 (proper-grown base p.1))
        (ap (λ bs. nat_le (offset + len) (length bs)) (same-bytes (names ++ more) names (s ++ extra) s base (alike base p.1)) ∙ p.2)
    proper-grown (Fun f a c ts) h = let p = fun-parts f a c ts h in
        and_from (nat_lt f (length (names ++ more))) (are_proper (names ++ more) (s ++ extra) ts)
        (lt-ltb f (length (names ++ more)) (omega (arith, ltb-true f (length names) p.0, length-append names more))) (proper-grown-all ts p.1)

    proper-grown-all : (ts : Trees) → are_proper names s ts ≡ true → are_proper (names ++ more) (s ++ extra) ts ≡ true
    proper-grown-all end h = refl
    proper-grown-all (t ▹ ts) h = let p = all-parts t ts h in
        and_from (is_proper (names ++ more) (s ++ extra) t) (are_proper (names ++ more) (s ++ extra) ts) (proper-grown t p.0) (proper-grown-all ts p.1)

    proper-grown-pairs : (ps : Pairs) → are_proper_pairs names s ps ≡ true → are_proper_pairs (names ++ more) (s ++ extra) ps ≡ true
    proper-grown-pairs stop h = refl
    proper-grown-pairs (pair k v ps) h = let p = pairs-parts k v ps h in
        let N = names ++ more in
        let S = s ++ extra in
        and_from (is_proper N S k && not (is_beyond S k) && is_proper N S v) (are_proper_pairs N S ps)
        (and_from (is_proper N S k && not (is_beyond S k)) (is_proper N S v)
        (and_from (is_proper N S k) (not (is_beyond S k)) (proper-grown k p.0) (ap not (beyond-grown k p.0) ∙ p.1)) (proper-grown v p.2))
        (proper-grown-pairs ps p.3)
