-- Writes: to a free place of a room, and to any place without content.
use Rattle.std.proofs.Common.{◌≡◌, ℕ, ◌<◌, ◌≤◌, ◌⊎◌, Bool, true, List, length, get_or, set, refl, sym, ◌∙◌, subst, arith, inl, inr}
use Rattle.std.proofs.lemmas.Bool.Decides.{nat_tests}
use Rattle.std.proofs.lemmas.List.{length-set, get_or-set_other}
use Rattle.plain_term.specs.Tree.{Tree}
use Rattle.term_words.specs.Role.{always, outside, Idle, IsSingle, roles_of}
use Rattle.term_words.specs.Stands.{Stands, IsTerm}
use Rattle.term_words.specs.Kept.{Kept, Keeps}
use Rattle.term_words.proofs.Framing.Frames.{frame}

-- Which places lie outside a room.

pub outside-low : (top limit a k : ℕ) → a < top → outside top limit a k ≡ true
unfolding outside
outside-low top limit a k h = grind (arith, nat_tests)

pub outside-tells : (top limit a k : ℕ) → outside top limit a k ≡ true → (a < top) ⊎ (limit ≤ a)
unfolding outside
outside-tells top limit a k h = grind (arith, nat_tests)

pub outside-more : (top more limit a k : ℕ) → top ≤ more → outside top limit a k ≡ true → outside more limit a k ≡ true
unfolding outside
outside-more top more limit a k l h = grind (arith, nat_tests)

-- Words written from `top` up to `more` keep what is clear of the room, and it is clear of what is left.
pub room-kept : (top more limit : ℕ) (old new : List ℕ) → length old ≤ length new → top ≤ more → more ≤ limit
    → ((q : ℕ) → (q < top) ⊎ (more ≤ q) → get_or new q 0 ≡ get_or old q 0) → Keeps (outside top limit) (outside more limit) old new
room-kept top more limit old new longer up below same =
    let kept : Kept (outside top limit) (outside more limit) old new = record {
      longer = longer;
      weaker = λ a k h. outside-more top more limit a k up h;
      same = λ a k content h. same a (elim (outside-tells top limit a k h) [ inl low ↦ inl low | inr high ↦ inr (omega arith) ]);
    } in
    frame (outside top limit) (outside more limit) old new kept

-- A weaker test keeps every tree.
pub weaken : (c d : ℕ → ℕ → Bool) (mem : List ℕ) → ((a k : ℕ) → c a k ≡ true → d a k ≡ true) → Keeps c d mem mem
weaken c d mem weaker =
    let kept : Kept c d mem mem = record { longer = omega arith; weaker = weaker; same = λ a k content h. refl } in
    frame c d mem mem kept

-- What stands by any test stands for some tree.
pub is-term : (c : ℕ → ℕ → Bool) (shared : List (List ℕ)) (mem : List ℕ) (w : ℕ) (t : Tree) → Stands c shared mem w t → IsTerm mem w
is-term c shared mem w t s =
    let anywhere : Keeps c always mem mem = weaken c always mem (λ a k h. refl) in
    record { shared = shared; tree = t; standing = anywhere.each shared w t s }

-- A write at a place without content keeps every tree.
pub write-keeps : (c : ℕ → ℕ → Bool) (mem : List ℕ) (a v : ℕ) → Idle c a → Keeps c c mem (set mem a v)
write-keeps c mem a v idle =
    let kept : Kept c c mem (set mem a v) = record {
      longer = omega (arith, length-set mem a v);
      weaker = λ b k h. h;
      same = λ b k content h. get_or-set_other mem a b v 0 (λ e. let P : ℕ → Type 0 = λ x. c x k ≡ true in idle k content (subst P e h));
    } in
    frame c c mem (set mem a v) kept

-- Each place has one role.

pub role-at : (r : ℕ → ℕ) (a k : ℕ) → roles_of r a k ≡ true → r a ≡ k
unfolding roles_of
role-at r a k h = grind (arith, nat_tests)

pub at-role : (r : ℕ → ℕ) (a k : ℕ) → 0 < k → r a ≡ k → roles_of r a k ≡ true
unfolding roles_of
at-role r a k some h = grind (arith, nat_tests)

pub roles-single : (r : ℕ → ℕ) → IsSingle (roles_of r)
roles-single r = record { one = λ a j k h l. sym (role-at r a j h) ∙ role-at r a k l }
