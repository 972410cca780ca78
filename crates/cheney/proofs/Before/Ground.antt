-- What is true of all that the roots reach when a collection begins.
use Rattle.std.proofs.Common.{◌≡◌, ℕ, ◌+◌, ◌/◌, ◌%◌, ◌<◌, ◌≤◌, ◌⊎◌, Bool, true, false, length, get_or, List, refl, sym, ◌∙◌, ap, subst, arith, inl, inr, Some}
use Rattle.plain_term.specs.Tree.{Tree}
use Rattle.plain_term.specs.Tree.Tree.{Int, Atom, Pid, Nil, Cons}
use Rattle.term_words.specs.Object.{IsPointer}
use Rattle.term_words.specs.Role.{OfObject}
use Rattle.term_words.specs.Stands.{Stands}
use Rattle.term_words.proofs.Placing.Apart.{objects-apart, whole, head-no-header, header-there}
use Rattle.term_words.proofs.ByKind.Inside.{cons-inside, boxed-inside}
use Rattle.term_words.proofs.Reaching.Reached.{reached, scanned}
use Rattle.term_words.proofs.Placing.Roles.{object-role}
use Rattle.term_words.proofs.Framing.Rooms.{is-term}
use Rattle.term_words.proofs.ByKind.Shapes.{told}
use Rattle.term_words.proofs.Placing.Tiles.{has-layout}
use Rattle.term_tags.specs.Table.{layout_for}
use Rattle.term_tags.specs.declared.layouts.Layout.{Layout}
use Rattle.cheney.specs.Plan.{Plan, Ready, Reached, Leaves, IsIn, IsOutside, size, first}
use Rattle.cheney.specs.Moved.{Shows}
use Rattle.cheney.proofs.Before.Basics.{not-both, size-cons, size-boxed}

pub record Ground (p : Plan) : Type 0 where
  pub inside : (v : ℕ) → Reached p v → IsPointer v → v / 4 + size p v ≤ length p.start
  pub head : (v : ℕ) → Reached p v → v % 4 ≡ 1 → get_or p.start (v / 4) 0 % 4 ≡ 0 → ⊥
  pub header : (v : ℕ) → Reached p v → v % 4 ≡ 2 → get_or p.start (v / 4) 0 % 4 ≡ 0
  pub layout : (v : ℕ) → Reached p v → v % 4 ≡ 2 → (l : Layout) × (layout_for (get_or p.start (v / 4) 0) ≡ Some l)
  pub within : (v : ℕ) → Reached p v → IsPointer v → first p v ≤ size p v
  pub apart : (v w : ℕ) → Reached p v → IsPointer v → Reached p w → IsPointer w → (v ≡ w) ⊎ ((v / 4 + size p v ≤ w / 4) ⊎ (w / 4 + size p w ≤ v / 4))
  pub clear : (v q : ℕ) (b : Bool) → Reached p v → IsPointer v → IsIn p v q → (q < p.low b) ⊎ (p.high b ≤ q)
  pub records : (v q r : ℕ) → Reached p v → IsPointer v → IsIn p v q → 6 ≤ r → p.test q r ≡ true → ⊥
  pub records_clear : (a r : ℕ) (b : Bool) → 6 ≤ r → p.test a r ≡ true → (a < p.low b) ⊎ (p.high b ≤ a)
  pub roles_clear : (a r : ℕ) → p.test a r ≡ true → IsOutside p a
  pub first_role : (v : ℕ) → Reached p v → IsPointer v → p.test (v / 4) 3 ≡ true
  pub tail_role : (v : ℕ) → Reached p v → v % 4 ≡ 1 → p.test (v / 4 + 1) 4 ≡ true
  pub role : (v q : ℕ) → Reached p v → IsPointer v → IsIn p v q → (r : ℕ) × (p.test q r ≡ true)
  pub rooms : (b c : Bool) → (b ≡ c → ⊥) → (p.high b ≤ p.low c) ⊎ (p.high c ≤ p.low b)
  pub order : (b : Bool) → p.low b ≤ p.high b
  pub ends : (b : Bool) → p.high b ≤ length p.start

-- The tail of a cons has its role.
tail-role : (c : ℕ → ℕ → Bool) (shared : List (List ℕ)) (mem : List ℕ) (w : ℕ) (t : Tree) → Stands c shared mem w t → w % 4 ≡ 1 → c (w / 4 + 1) 4 ≡ true
unfolding Stands
tail-role c shared mem w (Cons h t) (o, sh, st) tag = o.object.others (w / 4 + 1) (omega arith) (omega arith)
tail-role c shared mem w (Int i) s tag = absurd (omega (arith, told c shared mem w (Int i) s))
tail-role c shared mem w (Atom k) s tag = absurd (omega (arith, s.word, tag))
tail-role c shared mem w (Pid n) s tag = absurd (omega (arith, s.word, tag))
tail-role c shared mem w Nil s tag = absurd (omega (arith, s, tag))
tail-role c shared mem w t s tag = absurd (omega (arith, told c shared mem w t s))

module _ (p : Plan) (y : Ready p) where
  -- What is reached stands.
  stands-there : (v : ℕ) → Reached p v → (t : Tree) × Stands p.test p.shared p.start v t
  stands-there v r = reached p.test p.shared p.start p.roots p.trees y.standing v r

  lies-inside : (v : ℕ) → Reached p v → IsPointer v → v / 4 + size p v ≤ length p.start
  lies-inside v r (inl tag) = let (t, s) = stands-there v r in omega (arith, size-cons p v tag, cons-inside p.start v (is-term p.test p.shared p.start v t s) tag)
  lies-inside v r (inr tag) = let (t, s) = stands-there v r in omega (arith, size-boxed p v tag, boxed-inside p.start v (is-term p.test p.shared p.start v t s) tag)

  role-there : (v q : ℕ) → Reached p v → IsPointer v → IsIn p v q → (k : ℕ) × (OfObject k × (p.test q k ≡ true))
  unfolding size
  role-there v q r i j = let (t, s) = stands-there v r in object-role p.test p.shared p.start v t q s i j.from j.below

  words-within : (v : ℕ) → Reached p v → IsPointer v → first p v ≤ size p v
  unfolding size first
  words-within v r i = let (t, s) = stands-there v r in omega (arith, (scanned p.test p.shared p.start v t s i).ends)

  one-or-apart : (v w : ℕ) → Reached p v → IsPointer v → Reached p w → IsPointer w → (v ≡ w) ⊎ ((v / 4 + size p v ≤ w / 4) ⊎ (w / 4 + size p w ≤ v / 4))
  unfolding size
  one-or-apart v w r i s j =
      let (t, a) = stands-there v r in
      let (u, b) = stands-there w s in
      objects-apart p.test p.shared p.start v w t u y.single a b i j

  rooms-apart : (b c : Bool) → (b ≡ c → ⊥) → (p.high b ≤ p.low c) ⊎ (p.high c ≤ p.low b)
  rooms-apart true true n = absurd (n refl)
  rooms-apart false false n = absurd (n refl)
  rooms-apart true false n = y.rooms
  rooms-apart false true n = elim y.rooms [ inl a ↦ inr a | inr a ↦ inl a ]

  pub ground : Ground p
  ground = record {
    inside = lies-inside;
    head = λ v r tag e. let (t, s) = stands-there v r in head-no-header p.test p.shared p.start v t s tag e;
    header = λ v r tag. let (t, s) = stands-there v r in header-there t v (get_or p.start (v / 4) 0) (told p.test p.shared p.start v t s) tag;
    layout = λ v r tag. let (t, s) = stands-there v r in has-layout p.test p.shared p.start v t s tag;
    within = words-within;
    apart = one-or-apart;
    clear = λ v q b r i j. let (k, (small, h)) = role-there v q r i j in y.clear q k h b;
    records = λ v q r u i j big h. let (k, (small, g)) = role-there v q u i j in let e : k ≡ r = y.single.one q k r g h in omega (arith, small, e, big);
    records_clear = λ a r b big h. y.clear a r h b;
    roles_clear = y.clear;
    first_role = λ v r i. let (t, s) = stands-there v r in (whole p.test p.shared p.start v t y.single s i).first;
    tail_role = λ v r tag. let (t, s) = stands-there v r in tail-role p.test p.shared p.start v t s tag;
    role = λ v q r i j. let (k, (small, h)) = role-there v q r i j in (k, h);
    rooms = rooms-apart;
    order = y.order;
    ends = y.inside;
  }

-- A word that shows where a reached object went has role 3, or 4.
pub shown-role : (p : Plan) → Ground p → (v q : ℕ) → Reached p v → IsPointer v → Shows v q → (p.test q 3 ≡ true) ⊎ (p.test q 4 ≡ true)
shown-role p g v q r i (inl e) = inl (let P : ℕ → Type 0 = λ x. p.test x 3 ≡ true in subst P (sym e) (g.first_role v r i))
shown-role p g v q r i (inr (tag, e)) = inr (let P : ℕ → Type 0 = λ x. p.test x 4 ≡ true in subst P (sym e) (g.tail_role v r tag))

-- No word with another role shows that.
pub not-shown : (p : Plan) → Ready p → (v q k : ℕ) → Reached p v → IsPointer v → p.test q k ≡ true → (k ≡ 3 → ⊥) → (k ≡ 4 → ⊥) → Shows v q → ⊥
not-shown p y v q k r i h three four s = elim (shown-role p (ground p y) v q r i s) [ inl e ↦ three (y.single.one q k 3 h e) | inr e ↦ four (y.single.one q k 4 h e) ]

-- Nor does a word that stays, where no cons reaches into what stays.
pub stay-not-shown : (p : Plan) (v q : ℕ) → Reached p v → Leaves p v → p.stay q ≡ true → ((u : ℕ) → Reached p u → u % 4 ≡ 1 → q ≡ u / 4 + 1 → p.stay (u / 4) ≡ true) → Shows v q → ⊥
stay-not-shown p v q r l stay whole_conses (inl e) = not-both (p.stay q) stay (ap p.stay e ∙ l.leaves)
stay-not-shown p v q r l stay whole_conses (inr (tag, e)) = not-both (p.stay (v / 4)) (whole_conses v r tag e) l.leaves

-- What shows itself at the place of a header is the object with that header.
pub shown-header : (p : Plan) → Ready p → (u v : ℕ) → Reached p u → IsPointer u → v % 4 ≡ 2 → p.test (v / 4) 3 ≡ true → get_or p.start (v / 4) 0 % 4 ≡ 0 → Shows u (v / 4) → u ≡ v
shown-header p y u v r (inr tag2) tag role header (inl e) = omega (arith, e, tag, tag2)
shown-header p y u v r (inl tag1) tag role header (inl e) = absurd ((ground p y).head u r tag1 (ap (λ x. get_or p.start x 0 % 4) (sym e) ∙ header))
shown-header p y u v r i tag role header (inr (tag1, e)) =
    let P : ℕ → Type 0 = λ x. p.test x 4 ≡ true in
    let three_is_four : 3 ≡ 4 = y.single.one (v / 4) 3 4 role (subst P (sym e) ((ground p y).tail_role u r tag1)) in
    absurd (omega (arith, three_is_four))
