-- The trees of what was moved and of what stays, once all is scanned: what the roots reach lies at new places.
use Rattle.std.proofs.Common.{◌≡◌, ℕ, ◌+◌, ◌/◌, ◌%◌, ◌<◌, ◌≤◌, ◌⊎◌, Bool, true, List, [], ◌∷◌, length, get_or, map, suc, refl, sym, ◌∙◌, ap, subst, arith, inl, inr}
use Rattle.plain_term.specs.Tree.{Tree}
use Rattle.term_words.specs.Object.{IsPointer, IsRecord, object_words}
use Rattle.term_words.specs.Reach.{Reach, first_traced}
use Rattle.term_words.specs.Relocated.{IsCopiedTo, IsMovedTo, Relocated}
use Rattle.term_words.specs.Role.{NAMES, OfRecord}
use Rattle.term_words.specs.Stands.{Stands}
use Rattle.term_words.proofs.Reaching.Carrying.{traced-role}
use Rattle.term_words.proofs.Reaching.Reached.{reached}
use Rattle.term_words.proofs.Reaching.Relocating.{moved-reach, reach-moved, settled, words-kept}
use Rattle.term_words.proofs.Placing.Roles.{record-role}
use Rattle.term_words.proofs.ByKind.Inside.{record-inside}
use Rattle.cheney.specs.Plan.{Leaves, Plan, Ready, Reached, first, size}
use Rattle.cheney.specs.Moved.{IsImage, forward, moved}
use Rattle.cheney.specs.Collected.{AreImages, Composes}
use Rattle.cheney.proofs.Before.Basics.{leaves-or-not}

-- What a word has become, as a map.

chosen : (p : Plan) (m : List ℕ) (w : ℕ) → Leaves p w ⊎ (Leaves p w → ⊥) → ℕ
chosen p m w (inl l) = forward m w
chosen p m w (inr n) = w

image : Plan → List ℕ → ℕ → ℕ
image p m w = chosen p m w (leaves-or-not p w)

chosen-is : (p : Plan) (m : List ℕ) (w x : ℕ) (o : Leaves p w ⊎ (Leaves p w → ⊥)) → IsImage p m w x → x ≡ chosen p m w o
unfolding chosen
chosen-is p m w x (inl l) i = (i.gone l).1
chosen-is p m w x (inr n) i = i.kept n

image-is : (p : Plan) (m : List ℕ) (w x : ℕ) → IsImage p m w x → x ≡ image p m w
unfolding image
image-is p m w x i = chosen-is p m w x (leaves-or-not p w) i

is-chosen : (p : Plan) (m : List ℕ) (w : ℕ) (o : Leaves p w ⊎ (Leaves p w → ⊥)) → (Leaves p w → moved m w ≡ true) → IsImage p m w (chosen p m w o)
unfolding chosen
is-chosen p m w (inl l) c = record { kept = λ n. absurd (n l); gone = λ k. (c k, refl) }
is-chosen p m w (inr n) c = record { kept = λ k. refl; gone = λ l. absurd (n l) }

is-image : (p : Plan) (m : List ℕ) (w : ℕ) → (Leaves p w → moved m w ≡ true) → IsImage p m w (image p m w)
unfolding image
is-image p m w c = is-chosen p m w (leaves-or-not p w) c

-- An object has its home at a place: there are its untraced words, and the images of the traced ones, each with its role.
pub record Home (p : Plan) (m : List ℕ) (d : ℕ → ℕ → Bool) (w x : ℕ) : Type 0 where
  pub tag : x % 4 ≡ w % 4
  pub within : x / 4 + size p w ≤ length m
  pub same : (j q : ℕ) → j < first p w → j < size p w → q ≡ x / 4 + j → get_or m q 0 ≡ get_or p.start (w / 4 + j) 0
  pub mapped : (j q : ℕ) → first p w ≤ j → j < size p w → q ≡ x / 4 + j → IsImage p m (get_or p.start (w / 4 + j) 0) (get_or m q 0)
  pub roles : (j q k : ℕ) → j < size p w → q ≡ x / 4 + j → p.test (w / 4 + j) k ≡ true → d q k ≡ true

-- Each reached pointer has its home where its image leads, and the records are as they were.
pub record Settled (p : Plan) (m : List ℕ) (d : ℕ → ℕ → Bool) : Type 0 where
  pub complete : (w : ℕ) → Reached p w → Leaves p w → moved m w ≡ true
  pub home : (w x : ℕ) → Reached p w → IsPointer w → IsImage p m w x → Home p m d w x
  pub longer : length p.start ≤ length m
  pub records : (a k : ℕ) → 6 ≤ k → p.test a k ≡ true → get_or m a 0 ≡ get_or p.start a 0
  pub counts : (a : ℕ) → p.test a 2 ≡ true → d a 2 ≡ true
  pub tests : (a k : ℕ) → 6 ≤ k → p.test a k ≡ true → d a k ≡ true

-- All words of a record but its count have a role of content.
content-role : (c : ℕ → ℕ → Bool) (mem : List ℕ) (v n j : ℕ) → IsRecord c mem v n → j < n → (j ≡ 2 → ⊥) → (r : ℕ) × ((6 ≤ r) × (c (v + j) r ≡ true))
content-role c mem v n j (inl (serial, bytes, o, words)) below other =
    let which : (j ≡ 0) ⊎ ((j ≡ 1) ⊎ (3 ≤ j)) = grind (arith, other) in
    elim which [
      | inl e ↦ (8, (omega arith, (let P : ℕ → Type 0 = λ x. c x 8 ≡ true in let s : v ≡ v + j = omega arith in subst P s o.first)))
      | inr (inl e) ↦ (6, (omega arith, (let P : ℕ → Type 0 = λ x. c x 6 ≡ true in let s : v + 1 ≡ v + j = omega arith in subst P s o.second)))
      | inr (inr far) ↦ (6, (omega arith, o.others (v + j) (omega arith) (omega (arith, words))))
    ]
content-role c mem v n j (inr (name, arity, o, words)) below other =
    let which : (j ≡ 0) ⊎ ((j ≡ 1) ⊎ (j ≡ 3)) = grind (arith, other, words) in
    elim which [
      | inl e ↦ (8, (omega arith, (let P : ℕ → Type 0 = λ x. c x 8 ≡ true in let s : v ≡ v + j = omega arith in subst P s o.first)))
      | inr (inl e) ↦ (6, (omega arith, (let P : ℕ → Type 0 = λ x. c x 6 ≡ true in let s : v + 1 ≡ v + j = omega arith in subst P s o.second)))
      | inr (inr e) ↦ (6, (omega arith, (let P : ℕ → Type 0 = λ x. c x 6 ≡ true in let s : v + 3 ≡ v + j = omega arith in subst P s o.fourth)))
    ]

module _ (p : Plan) (y : Ready p) (m : List ℕ) (d : ℕ → ℕ → Bool) (z : Settled p m d) where
  -- A word that names a record is not traced.
  names-untraced : (w j : ℕ) → Reached p w → IsPointer w → j < size p w → p.test (w / 4 + j) NAMES ≡ true → j < first p w
  unfolding first size
  names-untraced w j r i below role =
      let order : (j < first p w) ⊎ (first p w ≤ j) = grind arith in
      elim order [
        | inl less ↦ less
        | inr from ↦ (let (t, s) = reached p.test p.shared p.start p.roots p.trees y.standing w r in
            elim (traced-role p.test p.shared p.start w t j s i from below) [
              | inl three ↦ absurd (let e : 5 ≡ 3 = y.single.one (w / 4 + j) 5 3 role three in omega (arith, e))
              | inr four ↦ absurd (let e : 5 ≡ 4 = y.single.one (w / 4 + j) 5 4 role four in omega (arith, e))
            ])
      ]

  moved-to : (w : ℕ) → Reached p w → IsPointer w → IsMovedTo p.test d p.start m (image p m) (λ v. v) w
  unfolding first size
  moved-to w r i =
      let h : Home p m d w (image p m w) = z.home w (image p m w) r i (is-image p m w (z.complete w r)) in
      record {
        tag = h.tag;
        within = h.within;
        roles = h.roles;
        traced = λ j q from below e. image-is p m (get_or p.start (w / 4 + j) 0) (get_or m q 0) (h.mapped j q from below e);
        names = λ j q below e role. h.same j q (names-untraced w j r i below role) below e;
        same = λ j q less below e why. h.same j q less below e;
      }

  role-kept : (a k r : ℕ) → p.test a r ≡ true → OfRecord r → p.test a k ≡ true → d a k ≡ true
  role-kept a k r h of t =
      let e : r ≡ k = y.single.one a r k h t in
      let P : ℕ → Type 0 = λ x. d a x ≡ true in
      subst P e (elim of [
        | inl two ↦ (let Q : ℕ → Type 0 = λ x. p.test a x ≡ true in subst P (sym two) (z.counts a (subst Q two h)))
        | inr (inl six) ↦ z.tests a r (omega arith) h
        | inr
            (inr eight) ↦ z.tests a r (omega arith) h
      ])

  copied-to : (v n : ℕ) → IsRecord p.test p.start v n → IsCopiedTo p.test d p.start m v v n
  copied-to v n o = record {
    within = omega (arith, record-inside p.test p.start v n o, z.longer);
    roles = λ j q k below e t.
        let (r, (of, h)) = record-role p.test p.start v n (v + j) o (omega arith) (omega arith) in
        let P : ℕ → Type 0 = λ x. d x k ≡ true in
        subst P (sym e) (role-kept (v + j) k r h of t);
    same = λ j q below other e.
        let (r, (big, h)) = content-role p.test p.start v n j o below other in
        ap (λ x. get_or m x 0) e ∙ z.records (v + j) r big h;
  }

  relocated : Relocated p.test d p.start m p.roots (image p m) (λ v. v)
  relocated = record {
    immediates = λ w r n. sym (image-is p m w w (record { kept = λ k. refl; gone = λ l. absurd (n l.pointer) }));
    objects = moved-to;
    records = λ v n named o. copied-to v n o;
  }

  -- What a reached word has become stands for its tree.
  pub image-stands : (w x : ℕ) (t : Tree) → Reached p w → IsImage p m w x → Stands p.test p.shared p.start w t → Stands d p.shared m x t
  image-stands w x t r i s =
      let P : ℕ → Type 0 = λ q. Stands d p.shared m q t in
      subst P (sym (image-is p m w x i)) (settled p.test d p.shared p.start m p.roots (image p m) (λ v. v) relocated w t r s)

  -- The new roots, as the map has them.
  mapped-list : (vs ws : List ℕ) → length ws ≡ length vs → ((j : ℕ) → j < length vs → get_or ws j 0 ≡ image p m (get_or vs j 0)) → ws ≡ map (image p m) vs
  mapped-list [] [] n each = refl
  mapped-list [] (w ∷ ws) n each = absurd (omega (arith, n))
  mapped-list (v ∷ vs) [] n each = absurd (omega (arith, n))
  mapped-list (v ∷ vs) (w ∷ ws) n each = ap (λ q. q ∷ ws) (each 0 (omega arith)) ∙ ap (λ q. image p m v ∷ q) (mapped-list vs ws (omega (arith, n)) (λ j less. each (suc j) (omega arith)))

  new-roots : (ws : List ℕ) → AreImages p m ws → ws ≡ map (image p m) p.roots
  new-roots ws a = mapped-list p.roots ws a.count (λ j less. image-is p m (get_or p.roots j 0) (get_or ws j 0) (a.each j less))

  pub composed : Composes p m
  composed = record {
    fresh = λ ws a x r.
        let P : List ℕ → Type 0 = λ q. Reach m q x in
        let (w, (before, e)) = moved-reach p.test d p.shared p.start m p.roots (image p m) (λ v. v) relocated p.trees y.standing x (subst P (new-roots ws a) r) in
        let Q : ℕ → Type 0 = λ q. IsImage p m w q in
        (w, (before, subst Q (sym e) (is-image p m w (z.complete w before))));
    reached = λ ws a v x r i.
        let P : List ℕ → Type 0 = λ q. Reach m q x in
        let Q : ℕ → Type 0 = λ q. Reach m (map (image p m) p.roots) q in
        subst P (sym (new-roots ws a)) (subst Q (sym (image-is p m v x i)) (reach-moved p.test d p.shared p.start m p.roots (image p m) (λ v. v) relocated p.trees y.standing v r));
  }

  -- The image of an object has its size and its first traced word.
  pub shape : (v x : ℕ) → Reached p v → IsPointer v → IsImage p m v x → (object_words m x ≡ size p v) × (first_traced m x ≡ first p v)
  unfolding first size
  shape v x r t i =
      let P : ℕ → Type 0 = λ q. (object_words m q ≡ object_words p.start v) × (first_traced m q ≡ first_traced p.start v) in
      subst P (sym (image-is p m v x i)) (words-kept p.test d p.shared p.start m p.roots (image p m) (λ u. u) relocated p.trees y.standing v r t)
