-- Roles grow with the objects that are built, one after the other.
use Rattle.std.proofs.Common.{◌≡◌, ℕ, ◌+◌, Bool, List, arith, inl, inr}
use Rattle.word_mem.specs.declared.ranges.Room.{Room}
use Rattle.plain_term.specs.Tree.{Tree}
use Rattle.term_words.specs.Role.{NEXT, OfObject}
use Rattle.term_build.specs.Taken.{IsFree, with_object}
use Rattle.term_build.specs.Clear.{Uses}
use Rattle.term_build.specs.Grows.{Grows, GrowsLink, Built, IsPlain}
use Rattle.term_build.proofs.Taking.{taken-kept, with-object-of, with-object-taken, with-object-next, with-object-single, with-object-within}

-- The roles of one object beside the old ones.
pub grown : (roles : ℕ → ℕ) (c : ℕ → ℕ → Bool) (n : ℕ) (old new : Room) (mem mem2 : List ℕ) → ((j : ℕ) → IsPlain (roles j)) → IsFree c old.top (old.top + n)
    → Uses n old new mem mem2 → Grows c (with_object roles c old.top n) old.top n mem mem2
grown roles c n old new mem mem2 of_object free u = record {
  more = (with-object-taken roles c old.top n free).more;
  within = λ a k h. with-object-within roles c old.top n a k h;
  objects = λ a k h. with-object-of IsPlain roles c old.top n a k of_object h;
  single = with-object-single roles c old.top n;
  kept = taken-kept roles c (with_object roles c old.top n) n old new mem mem2 u (with-object-taken roles c old.top n free);
}

-- The roles of one holder or fun beside the old ones.
pub grown-link : (roles : ℕ → ℕ) (c : ℕ → ℕ → Bool) (n : ℕ) (old new : Room) (mem mem2 : List ℕ) → ((j : ℕ) → OfObject (roles j)) → ((j : ℕ) → roles j ≡ NEXT → j ≡ 2)
    → IsFree c old.top (old.top + n) → Uses n old new mem mem2 → GrowsLink c (with_object roles c old.top n) old.top n mem mem2
grown-link roles c n old new mem mem2 of_object two free u = record {
  more = (with-object-taken roles c old.top n free).more;
  within = λ a k h. with-object-within roles c old.top n a k h;
  objects = λ a k h. with-object-of OfObject roles c old.top n a k of_object h;
  next = λ a h. with-object-next roles c old.top n a two h;
  single = with-object-single roles c old.top n;
  kept = taken-kept roles c (with_object roles c old.top n) n old new mem mem2 u (with-object-taken roles c old.top n free);
}

pub grows-none : (c : ℕ → ℕ → Bool) (top : ℕ) (mem : List ℕ) → Grows c c top 0 mem mem
grows-none c top mem = record { more = λ a k h. h; within = λ a k h. inl h; objects = λ a k h. inl h; single = λ s. s; kept = record { each = λ shared w t s. s } }

pub grows-then : (c d e : ℕ → ℕ → Bool) (top m n : ℕ) (old mid new : List ℕ) → Grows c d top m old mid → Grows d e (top + m) n mid new → Grows c e top (m + n) old new
grows-then c d e top m n old mid new a b = record {
  more = λ q k h. b.more q k (a.more q k h);
  within = λ q k h. elim (b.within q k h) [
    | inl before ↦ elim (a.within q k before) [ inl first ↦ inl first | inr inside ↦ inr (inside.0, omega arith) ]
    | inr inside ↦ inr (omega (arith, inside), omega (arith, inside))
  ];
  objects = λ q k h. elim (b.objects q k h) [ inl before ↦ a.objects q k before | inr is ↦ inr is ];
  single = λ s. b.single (a.single s);
  kept = record { each = λ shared w t s. b.kept.each shared w t (a.kept.each shared w t s) };
}

pub built-then : (c : ℕ → ℕ → Bool) (d : ℕ → ℕ → Bool) (top m n : ℕ) (old mid new : List ℕ) (shared : List (List ℕ)) (w : ℕ) (t : Tree)
    → Grows c d top m old mid → Built d (top + m) n mid new shared w t → Built c top (m + n) old new shared w t
built-then c d top m n old mid new shared w t g b = record { test = b.test; grows = grows-then c d b.test top m n old mid new g b.grows; made = b.made }

pub free-after : (c d : ℕ → ℕ → Bool) (top n limit : ℕ) (old new : List ℕ) → Grows c d top n old new → IsFree c top limit → IsFree d (top + n) limit
free-after c d top n limit old new g free = λ a k h. elim (g.within a k h) [
  | inl before ↦ elim (free a k before) [ inl low ↦ inl (omega arith) | inr high ↦ inr high ]
  | inr inside ↦ inl inside.1
]
