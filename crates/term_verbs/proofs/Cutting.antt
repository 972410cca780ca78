-- The bytes of a binary: what a look tells of them, and whether a part of them is there.
use Rattle.std.proofs.Common.{◌≡◌, ℕ, ◌+◌, ◌-◌, ◌/◌, ◌<◌, ◌≤◌, Bool, true, false, nat_le, List, length, get_or, Option, Some, None, if◌then◌else◌, refl, sym, ◌∙◌, ap, subst, arith, inl, inr}
use Rattle.std.proofs.lemmas.Bool.{leb-true}
use Rattle.std.proofs.lemmas.Option.{same_Some}
use Rattle.std.specs.Option.{is_some}
use Rattle.plain_term.specs.Tree.{Tree}
use Rattle.plain_term.specs.Tree.Tree.{Int, Atom, Pid, Ref, Nil, Cons, Tuple, Map, Bin, Shared, Part, Fun}
use Rattle.plain_term.specs.Bytes.{bytes_of, shared_bytes}
use Rattle.plain_machine.specs.Parts.{part_in}
use Rattle.term_words.specs.Stands.{IsBase, Stands}
use Rattle.term_build.specs.Grows.{Built}
use Rattle.term_read.specs.Look.{HasBytes, IsSeen, LiesInMemory}
use Rattle.term_read.specs.declared.looks.Bytes.{Bytes}
use Rattle.term_read.specs.declared.looks.Look.{Look}
use Rattle.term_read.specs.declared.looks.Look.TheVariants as look
use Rattle.term_verbs.specs.Cut.{IsCut, IsCutFrom}
use Rattle.term_verbs.specs.declared.cut.Cut.{Cut}

-- The bytes that a look tells.
abbrev pub cut_in : ℕ → Look → Option Cut
cut_in w (look.Heap b) = Some (record { base = w; start = 0; len = b.len })
cut_in w (look.Holder b) = Some (record { base = w; start = 0; len = b.len })
cut_in w (look.Part p) = Some (record { base = p.base; start = p.bytes.start; len = p.bytes.len })
cut_in w _ = None

pub cut-seen : (c : ℕ → ℕ → Bool) (shared : List (List ℕ)) (mem : List ℕ) (w : ℕ) (t : Tree) (l : Look) → Stands c shared mem w t → IsSeen c shared mem w t l → IsCut c shared mem t (cut_in w l)
unfolding Stands
cut-seen c shared mem w (Bin bytes) l s seen = record {
  cut = record { base = w; start = 0; len = length bytes };
  is = ap (cut_in w) seen.0;
  whole = tt;
  standing = s;
  first = refl;
  count = refl;
  inside = omega arith;
}
cut-seen c shared mem w (Shared id) l s seen = record {
  cut = record { base = w; start = 0; len = length (shared_bytes shared id) };
  is = ap (cut_in w) seen.0;
  whole = tt;
  standing = s;
  first = refl;
  count = refl;
  inside = omega arith;
}
cut-seen c shared mem w (Part base offset len) l (o, whole, sb) seen = record {
  cut = record { base = get_or mem (w / 4 + 4) 0; start = offset; len = len };
  is = ap (cut_in w) seen.1;
  whole = whole;
  standing = sb;
  first = refl;
  count = refl;
  inside = o.inside;
}
cut-seen c shared mem w (Int i) l s (inl (small, e)) = ap (cut_in w) e
cut-seen c shared mem w (Int i) l s (inr (d, has, e)) = ap (cut_in w) e
cut-seen c shared mem w (Atom k) l s seen = ap (cut_in w) seen
cut-seen c shared mem w (Pid n) l s seen = ap (cut_in w) seen
cut-seen c shared mem w (Ref n k) l s seen = ap (cut_in w) seen
cut-seen c shared mem w Nil l s seen = ap (cut_in w) seen
cut-seen c shared mem w (Cons h t) l s seen = ap (cut_in w) seen.0
cut-seen c shared mem w (Tuple ts) l s seen = ap (cut_in w) seen.0
cut-seen c shared mem w (Map ps) l s seen = ap (cut_in w) seen.0
cut-seen c shared mem w (Fun name arity creator env) l s seen = ap (cut_in w) seen.0

some-if : (b : Bool) (t : Tree) → is_some (if b then Some t else None) ≡ b
some-if true t = refl
some-if false t = refl

cut-len : (a b : Cut) → Some a ≡ Some b → a.len ≡ b.len
cut-len a b e = cc

-- Whether a part is there is told by the number of bytes.
fits-from : (c : ℕ → ℕ → Bool) (shared : List (List ℕ)) (mem : List ℕ) (base u : Tree) (start n : ℕ) (cut : Cut) (offset len : ℕ) → IsCutFrom c shared mem base start n (Some cut)
    → is_some (if nat_le (offset + len) n then Some u else None) ≡ nat_le (offset + len) cut.len
fits-from c shared mem base u start n cut offset len i =
    let same : n ≡ cut.len = sym i.count ∙ sym (cut-len cut i.cut i.is) in
    some-if (nat_le (offset + len) n) u ∙ ap (λ z. nat_le (offset + len) z) same

pub fits : (c : ℕ → ℕ → Bool) (shared : List (List ℕ)) (mem : List ℕ) (t : Tree) (cut : Cut) (offset len : ℕ) → IsCut c shared mem t (Some cut)
    → is_some (part_in shared offset len t) ≡ nat_le (offset + len) cut.len
fits c shared mem (Bin bytes) cut offset len i = fits-from c shared mem (Bin bytes) (Part (Bin bytes) offset len) 0 (length bytes) cut offset len i
fits c shared mem (Shared id) cut offset len i = fits-from c shared mem (Shared id) (Part (Shared id) offset len) 0 (length (shared_bytes shared id)) cut offset len i
fits c shared mem (Part base o n) cut offset len i = fits-from c shared mem base (Part base (o + offset) len) o n cut offset len i
fits c shared mem _ cut offset len i = absurd cc

-- A part that is there has no more bytes than the binary.
pub part-fits : (c : ℕ → ℕ → Bool) (shared : List (List ℕ)) (mem : List ℕ) (t : Tree) (cut : Cut) (offset len : ℕ) → IsCut c shared mem t (Some cut)
    → is_some (part_in shared offset len t) ≡ true → offset + len ≤ cut.len
part-fits c shared mem t cut offset len i has = leb-true (offset + len) cut.len (sym (fits c shared mem t cut offset len i) ∙ has)

-- The part is one of the original.
pub record PartAt (c : ℕ → ℕ → Bool) (shared : List (List ℕ)) (mem : List ℕ) (cut : Cut) (offset len : ℕ) (u : Tree) : Type 0 where
  pub base : Tree
  pub is : Part base (cut.start + offset) len ≡ u
  pub whole : IsBase base
  pub standing : Stands c shared mem cut.base base
  pub inside : cut.start + offset + len ≤ length (bytes_of shared base)

record Chosen (b : Bool) (t u : Tree) : Type 0 where
  yes : b ≡ true
  same : t ≡ u

if-some : (b : Bool) (t u : Tree) → (if b then Some t else None) ≡ Some u → Chosen b t u
if-some true t u e = record { yes = refl; same = same_Some t u e }
if-some false t u e = absurd (none-some e)
  where
    none-some : None ≡ Some u → ⊥
    none-some e = cc

part-from : (c : ℕ → ℕ → Bool) (shared : List (List ℕ)) (mem : List ℕ) (base u : Tree) (start n : ℕ) (cut : Cut) (offset len from : ℕ) → from ≡ start + offset
    → IsCutFrom c shared mem base start n (Some cut) → (if nat_le (offset + len) n then Some (Part base from len) else None) ≡ Some u → PartAt c shared mem cut offset len u
part-from c shared mem base u start n cut offset len from at i e =
    let chosen = if-some (nat_le (offset + len) n) (Part base from len) u e in
    let few : offset + len ≤ n = leb-true (offset + len) n chosen.yes in
    let same : cut ≡ i.cut = cut-is cut i.cut i.is in
    let first : cut.start ≡ start = ap (λ z. z.start) same ∙ i.first in
    let there : cut.start + offset ≡ from = omega (arith, first, at) in
    let S : Cut → Type 0 = λ z. Stands c shared mem z.base base in
    record {
      base = base;
      is = ap (λ z. Part base z len) there ∙ chosen.same;
      whole = i.whole;
      standing = subst S (sym same) i.standing;
      inside = omega (arith, few, first, i.inside);
    }
  where
    cut-is : (a b : Cut) → Some a ≡ Some b → a ≡ b
    cut-is a b e = cc

pub part-there : (c : ℕ → ℕ → Bool) (shared : List (List ℕ)) (mem : List ℕ) (t u : Tree) (cut : Cut) (offset len : ℕ) → IsCut c shared mem t (Some cut) → part_in shared offset len t ≡ Some u
    → PartAt c shared mem cut offset len u
part-there c shared mem (Bin bytes) u cut offset len i e = part-from c shared mem (Bin bytes) u 0 (length bytes) cut offset len offset (omega arith) i e
part-there c shared mem (Shared id) u cut offset len i e = part-from c shared mem (Shared id) u 0 (length (shared_bytes shared id)) cut offset len offset (omega arith) i e
part-there c shared mem (Part base o n) u cut offset len i e = part-from c shared mem base u o n cut offset len (o + offset) refl i e
part-there c shared mem _ u cut offset len i e = absurd cc

-- No part is there of a tree that has no bytes.
pub no-part : (c : ℕ → ℕ → Bool) (shared : List (List ℕ)) (mem : List ℕ) (t : Tree) (offset len : ℕ) → IsCut c shared mem t None → is_some (part_in shared offset len t) ≡ false
no-part c shared mem (Bin bytes) offset len i = absurd (none-some i.cut i.is)
  where
    none-some : (a : Cut) → None ≡ Some a → ⊥
    none-some a e = cc
no-part c shared mem (Shared id) offset len i = absurd (none-some i.cut i.is)
  where
    none-some : (a : Cut) → None ≡ Some a → ⊥
    none-some a e = cc
no-part c shared mem (Part base o n) offset len i = absurd (none-some i.cut i.is)
  where
    none-some : (a : Cut) → None ≡ Some a → ⊥
    none-some a e = cc
no-part c shared mem _ offset len i = refl
