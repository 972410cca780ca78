-- Free words of a room are taken, and what was clear of it stays so.
use Rattle.std.proofs.Common.{ℕ, ◌+◌, ◌≤◌, Bool, List, refl, sym, ◌∙◌, subst, arith, inl, inr}
use Rattle.word_mem.specs.declared.ranges.Room.{Room}
use Rattle.term_words.specs.Role.{outside}
use Rattle.term_words.specs.Kept.{Keeps}
use Rattle.term_words.proofs.Framing.Rooms.{outside-low, outside-tells, outside-more}
use Rattle.term_build.specs.Taken.{Taken, plain}
use Rattle.term_build.specs.Clear.{IsRoom, KeepsClear, Uses}
use Rattle.term_build.proofs.Taking.{taken-kept}

-- The free words of a room may be taken for any object.
pub room-taken : (roles : ℕ → ℕ) (n top limit : ℕ) → top + n ≤ limit → Taken roles (outside top limit) (outside (top + n) limit) top n
room-taken roles n top limit fits = record {
  free = λ a k h. elim (outside-tells top limit a k h) [ inl low ↦ inl low | inr high ↦ inr (omega arith) ];
  more = λ a k h. outside-more top (top + n) limit a k (omega arith) h;
  new = λ j q below e. outside-low (top + n) limit q (roles j) (omega arith);
}

-- The test of the room after words were taken.
pub room-moved : (n : ℕ) (old new : Room) (mem mem2 : List ℕ) (P : (ℕ → ℕ → Bool) → Type 0) → Uses n old new mem mem2 → P (outside (old.top + n) old.end) → P (outside new.top new.end)
room-moved n old new mem mem2 P u h =
    let Q : ℕ → Type 0 = λ x. P (outside x old.end) in
    let R : ℕ → Type 0 = λ x. P (outside new.top x) in
    subst R (sym u.same_end) (subst Q (sym u.moved) h)

-- Taking free words changes no word of what is clear.
pub taken-keeps : (n : ℕ) (old new : Room) (mem mem2 : List ℕ) → old.top + n ≤ old.end → Uses n old new mem mem2 → KeepsClear old new mem mem2
taken-keeps n old new mem mem2 fits u =
    room-moved n old new mem mem2 (λ d. Keeps (outside old.top old.end) d mem mem2) u
    (taken-kept plain (outside old.top old.end) (outside (old.top + n) old.end) n old new mem mem2 u (room-taken plain n old.top old.end fits))

-- Nothing was done yet.
pub uses-none : (room : Room) (mem : List ℕ) → Uses 0 room room mem mem
uses-none room mem = record { same_start = refl; moved = omega arith; same_end = refl; same_len = refl; others = λ q apart. refl }

pub keeps-none : (room : Room) (mem : List ℕ) → KeepsClear room room mem mem
keeps-none room mem = record { each = λ shared w t s. s }

-- One after the other.
pub uses-then : (m n : ℕ) (x y z : Room) (mem mem2 mem3 : List ℕ) → Uses m x y mem mem2 → Uses n y z mem2 mem3 → Uses (n + m) x z mem mem3
uses-then m n x y z mem mem2 mem3 a b = record {
  same_start = b.same_start ∙ a.same_start;
  moved = omega (arith, a.moved, b.moved);
  same_end = b.same_end ∙ a.same_end;
  same_len = b.same_len ∙ a.same_len;
  others = λ q apart. elim apart [
    | inl below ↦ b.others q (inl (omega (arith, a.moved))) ∙ a.others q (inl below)
    | inr above ↦ b.others q (inr (omega (arith, a.moved))) ∙ a.others q (inr (omega arith))
  ];
}

pub keeps-clear-then : (x y z : Room) (mem mem2 mem3 : List ℕ) → KeepsClear x y mem mem2 → KeepsClear y z mem2 mem3 → KeepsClear x z mem mem3
keeps-clear-then x y z mem mem2 mem3 a b = record { each = λ shared w t s. b.each shared w t (a.each shared w t s) }

-- A room of which words were taken is a room.
pub room-after : (n : ℕ) (x y : Room) (mem mem2 : List ℕ) → Uses n x y mem mem2 → IsRoom x mem → x.top + n ≤ x.end → IsRoom y mem2
room-after n x y mem mem2 u r fits = record {
  start_first = omega (arith, u.same_start, u.moved, r.start_first);
  top_next = omega (arith, u.same_end, u.moved);
  inside = omega (arith, u.same_end, u.same_len, r.inside);
}
