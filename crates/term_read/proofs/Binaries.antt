-- Where the bytes of a binary lie, from the numbers that the readers read.
use Rattle.std.proofs.Common.{◌≡◌, ℕ, ◌+◌, ◌/◌, ◌%◌, ◌<◌, ◌≤◌, Bool, List, length, get_or, take, drop, refl, sym, ◌∙◌, ap, subst, arith, pos, negsuc, Option, Some, None, zero-add, slice_get, length-take, get_or-take, get_or-drop, option_map, option_and_then}
use Rattle.std.proofs.lemmas.Option.{none-some, same_Some, slice_get-get_or, slice_get_past}
use Rattle.plain_term.specs.Measures.{bin_words}
use Rattle.plain_term.specs.Bytes.{bytes_of, shared_bytes}
use Rattle.plain_term.specs.Tree.{Tree}
use Rattle.plain_term.specs.Tree.Tree.{Int, Bin, Shared, Part}
use Rattle.term_words.specs.Role.{always}
use Rattle.term_words.specs.Object.{byte_of, BytesLie}
use Rattle.term_words.specs.Stands.{Stands, IsTerm, IsBase}
use Rattle.term_read.specs.Parts.{binary_of, whole_of, TellsOf, byte_len_in, binary_byte_in}
use Rattle.term_read.specs.Data.{BytesFrom, IsData, HasData, IsFirstOfBytes, HasFirst}
use Rattle.term_read.specs.declared.looks.Bytes.{Bytes}
use Rattle.term_words.proofs.ByKind.Shapes.{told}

pub lies-from : (mem : List ℕ) (q : ℕ) (bytes : List ℕ) → BytesLie mem q bytes → q + bin_words (length bytes) ≤ length mem → BytesFrom mem q 0 bytes
lies-from mem q bytes lie inside = record {
  within = λ i below. omega arith;
  each = λ i below. rw (zero-add i) (lie.each i (q + i / 8) (omega arith) refl);
}

-- The first word of the bytes of a whole binary.

heap-first : (c : ℕ → ℕ → Bool) (shared : List (List ℕ)) (mem : List ℕ) (w : ℕ) (t : Tree) → Stands c shared mem w t → w % 4 ≡ 2 → get_or mem (w / 4) 0 / 4 % 16 ≡ 9
    → IsFirstOfBytes mem (whole_of shared t) (Some (w / 4 + 2))
unfolding Stands
heap-first c shared mem w (Bin bytes) o tag sub = (w / 4 + 2, refl, lies-from mem (w / 4 + 2) bytes o.content (omega (arith, o.boxed.object.within)))
heap-first c shared mem w (Int (pos n)) s tag sub = absurd (omega (arith, told c shared mem w (Int (pos n)) s))
heap-first c shared mem w (Int (negsuc n)) s tag sub = absurd (omega (arith, told c shared mem w (Int (negsuc n)) s))
heap-first c shared mem w t s tag sub = absurd (omega (arith, told c shared mem w t s))

pub has-heap_first : (mem : List ℕ) (w p : ℕ) → w % 4 ≡ 2 → p ≡ w / 4 → get_or mem p 0 / 4 % 16 ≡ 9 → HasFirst mem w (Some (p + 2))
has-heap_first mem w p tag same =
    let P : ℕ → Type 0 = λ x. get_or mem x 0 / 4 % 16 ≡ 9 → HasFirst mem w (Some (x + 2)) in
    subst P (sym same) (λ sub. record { each = λ c shared t s. heap-first c shared mem w t s tag sub })

holder-first : (c : ℕ → ℕ → Bool) (shared : List (List ℕ)) (mem : List ℕ) (w : ℕ) (t : Tree) → Stands c shared mem w t → w % 4 ≡ 2 → get_or mem (w / 4) 0 / 4 % 16 ≡ 8
    → IsFirstOfBytes mem (whole_of shared t) (Some (get_or mem (w / 4 + 3) 0 + 4)) × (get_or mem (w / 4 + 3) 0 + 4 ≤ length mem)
unfolding Stands
holder-first c shared mem w (Shared id) o tag sub = (
  (get_or mem (w / 4 + 3) 0 + 4, refl, lies-from mem (get_or mem (w / 4 + 3) 0 + 4) (shared_bytes shared id) o.record_is.content (omega (arith, o.record_is.within))),
  omega (arith, o.record_is.within),
)
holder-first c shared mem w (Int (pos n)) s tag sub = absurd (omega (arith, told c shared mem w (Int (pos n)) s))
holder-first c shared mem w (Int (negsuc n)) s tag sub = absurd (omega (arith, told c shared mem w (Int (negsuc n)) s))
holder-first c shared mem w t s tag sub = absurd (omega (arith, told c shared mem w t s))

pub has-holder_first : (mem : List ℕ) (w p : ℕ) → w % 4 ≡ 2 → p ≡ w / 4 → get_or mem p 0 / 4 % 16 ≡ 8 → HasFirst mem w (Some (get_or mem (p + 3) 0 + 4))
has-holder_first mem w p tag same =
    let P : ℕ → Type 0 = λ x. get_or mem x 0 / 4 % 16 ≡ 8 → HasFirst mem w (Some (get_or mem (x + 3) 0 + 4)) in
    subst P (sym same) (λ sub. record { each = λ c shared t s. (holder-first c shared mem w t s tag sub).0 })

pub record-inside : (mem : List ℕ) (w p : ℕ) → IsTerm mem w → w % 4 ≡ 2 → p ≡ w / 4 → get_or mem p 0 / 4 % 16 ≡ 8 → get_or mem (p + 3) 0 + 4 ≤ length mem
record-inside mem w p i tag same =
    let P : ℕ → Type 0 = λ x. get_or mem x 0 / 4 % 16 ≡ 8 → get_or mem (x + 3) 0 + 4 ≤ length mem in
    subst P (sym same) (λ sub. (holder-first always i.shared mem w i.tree i.standing tag sub).1)

no-whole : (c : ℕ → ℕ → Bool) (shared : List (List ℕ)) (mem : List ℕ) (w : ℕ) (t : Tree) → Stands c shared mem w t
    → (w % 4 ≡ 2 → get_or mem (w / 4) 0 / 4 % 16 ≡ 9 → ⊥) → (w % 4 ≡ 2 → get_or mem (w / 4) 0 / 4 % 16 ≡ 8 → ⊥) → IsFirstOfBytes mem (whole_of shared t) None
unfolding Stands
no-whole c shared mem w (Bin bytes) o a b = absurd (a o.boxed.tag (omega (arith, o.boxed.header)))
no-whole c shared mem w (Shared id) o a b = absurd (b o.holder.tag (omega (arith, o.holder.header)))
no-whole c shared mem w t s a b = refl

pub has-no_first : (mem : List ℕ) (w : ℕ) → (w % 4 ≡ 2 → get_or mem (w / 4) 0 / 4 % 16 ≡ 9 → ⊥) → (w % 4 ≡ 2 → get_or mem (w / 4) 0 / 4 % 16 ≡ 8 → ⊥) → HasFirst mem w None
has-no_first mem w a b = record { each = λ c shared t s. no-whole c shared mem w t s a b }

-- A part has its original behind it.

part-base : (c : ℕ → ℕ → Bool) (shared : List (List ℕ)) (mem : List ℕ) (w : ℕ) (t : Tree) → Stands c shared mem w t → w % 4 ≡ 2 → get_or mem (w / 4) 0 / 4 % 16 ≡ 10
    → (base : Tree) × Stands c shared mem (get_or mem (w / 4 + 4) 0) base
unfolding Stands
part-base c shared mem w (Part base offset len) (o, is, sb) tag sub = (base, sb)
part-base c shared mem w (Int (pos n)) s tag sub = absurd (omega (arith, told c shared mem w (Int (pos n)) s))
part-base c shared mem w (Int (negsuc n)) s tag sub = absurd (omega (arith, told c shared mem w (Int (negsuc n)) s))
part-base c shared mem w t s tag sub = absurd (omega (arith, told c shared mem w t s))

pub base-term : (mem : List ℕ) (w p : ℕ) → IsTerm mem w → w % 4 ≡ 2 → p ≡ w / 4 → get_or mem p 0 / 4 % 16 ≡ 10 → IsTerm mem (get_or mem (p + 4) 0)
base-term mem w p i tag same =
    let P : ℕ → Type 0 = λ x. get_or mem x 0 / 4 % 16 ≡ 10 → IsTerm mem (get_or mem (x + 4) 0) in
    subst P (sym same) (λ sub. let (base, s) = part-base always i.shared mem w i.tree i.standing tag sub in record { shared = i.shared; tree = base; standing = s })

-- The bytes of a part are those of its original from the offset on.
pub slice-from : (mem : List ℕ) (first offset len : ℕ) (whole : List ℕ) → BytesFrom mem first 0 whole → offset + len ≤ length whole → BytesFrom mem first offset (take len (drop offset whole))
slice-from mem first offset len whole b inside = record {
  within = λ i below.
      let short : i < len = omega (arith, length-take len (drop offset whole)) in
      let there : first + (0 + (offset + i)) / 8 < length mem = b.within (offset + i) (omega arith) in
      rw (← zero-add (offset + i)) there;
  each = λ i below.
      let short : i < len = omega (arith, length-take len (drop offset whole)) in
      let there : byte_of (get_or mem (first + (0 + (offset + i)) / 8) 0) ((0 + (offset + i)) % 8) ≡ get_or whole (offset + i) 0 = b.each (offset + i) (omega arith) in
      let same : 0 + (offset + i) ≡ offset + i = zero-add (offset + i) in
      let P : ℕ → Type 0 = λ x. byte_of (get_or mem (first + x / 8) 0) (x % 8) ≡ get_or whole (offset + i) 0 in
      let read : get_or (take len (drop offset whole)) i 0 ≡ get_or whole (offset + i) 0 = get_or-take len (drop offset whole) i 0 short ∙ get_or-drop offset whole i 0 in
      subst P same there ∙ sym read;
}

pub base-some : (mem : List ℕ) (shared : List (List ℕ)) (base : Tree) (v : ℕ) → IsBase base → IsFirstOfBytes mem (whole_of shared base) (Some v) → BytesFrom mem v 0 (bytes_of shared base)
base-some mem shared (Bin bytes) v is (u, e, b) = let P : ℕ → Type 0 = λ x. BytesFrom mem x 0 bytes in subst P (sym (same_Some v u e)) b
base-some mem shared (Shared id) v is (u, e, b) = let P : ℕ → Type 0 = λ x. BytesFrom mem x 0 (shared_bytes shared id) in subst P (sym (same_Some v u e)) b
base-some mem shared _ v is b = absurd is

pub base-none : (mem : List ℕ) (shared : List (List ℕ)) (base : Tree) → IsBase base → IsFirstOfBytes mem (whole_of shared base) None → ⊥
base-none mem shared (Bin bytes) is (u, e, b) = none-some u e
base-none mem shared (Shared id) is (u, e, b) = none-some u e
base-none mem shared _ is b = absurd is

-- What the readers make of it.

len-told : (mem : List ℕ) (o : Option (List ℕ)) (d : Bytes) → IsData mem o (Some d) → Some d.len ≡ option_map length o
len-told mem None d e = absurd (none-some d (sym e))
len-told mem (Some bytes) d (x, e, b, l) = ap Some (ap (λ z. z.len) (same_Some d x e) ∙ l)

len-none : (mem : List ℕ) (o : Option (List ℕ)) → IsData mem o None → None ≡ option_map length o
len-none mem None e = refl
len-none mem (Some bytes) (x, e, b, l) = absurd (none-some x e)

pub tells-len : (mem : List ℕ) (w : ℕ) (d : Bytes) → HasData mem w (Some d) → TellsOf byte_len_in mem w (Some d.len)
tells-len mem w d h = record { each = λ c shared t s. len-told mem (binary_of shared t) d (h.each c shared t s) }

pub no-len : (mem : List ℕ) (w : ℕ) → HasData mem w None → TellsOf byte_len_in mem w None
no-len mem w h = record { each = λ c shared t s. len-none mem (binary_of shared t) (h.each c shared t s) }

byte-told : (mem : List ℕ) (o : Option (List ℕ)) (d : Bytes) (i : ℕ) → IsData mem o (Some d) → i < d.len
    → Some (byte_of (get_or mem (d.first + (d.start + i) / 8) 0) ((d.start + i) % 8)) ≡ option_and_then (λ bytes. slice_get bytes i) o
byte-told mem None d i e below = absurd (none-some d (sym e))
byte-told mem (Some bytes) d i (x, e, b, l) below =
    let P : Bytes → Type 0 = λ z. i < z.len → Some (byte_of (get_or mem (z.first + (z.start + i) / 8) 0) ((z.start + i) % 8)) ≡ slice_get bytes i in
    subst P (sym (same_Some d x e)) (λ h. ap Some (b.each i (omega arith)) ∙ sym (slice_get-get_or bytes i 0 (omega arith))) below

byte-past : (mem : List ℕ) (o : Option (List ℕ)) (d : Bytes) (i : ℕ) → IsData mem o (Some d) → d.len ≤ i → None ≡ option_and_then (λ bytes. slice_get bytes i) o
byte-past mem None d i e far = absurd (none-some d (sym e))
byte-past mem (Some bytes) d i (x, e, b, l) far =
    let P : Bytes → Type 0 = λ z. z.len ≤ i → None ≡ slice_get bytes i in
    subst P (sym (same_Some d x e)) (λ h. sym (slice_get_past bytes i (omega arith))) far

byte-none : (mem : List ℕ) (o : Option (List ℕ)) (i : ℕ) → IsData mem o None → None ≡ option_and_then (λ bytes. slice_get bytes i) o
byte-none mem None i e = refl
byte-none mem (Some bytes) i (x, e, b, l) = absurd (none-some x e)

pub tells-byte : (mem : List ℕ) (w i : ℕ) (d : Bytes) → HasData mem w (Some d) → i < d.len
    → TellsOf (binary_byte_in i) mem w (Some (byte_of (get_or mem (d.first + (d.start + i) / 8) 0) ((d.start + i) % 8)))
tells-byte mem w i d h below = record { each = λ c shared t s. byte-told mem (binary_of shared t) d i (h.each c shared t s) below }

pub past-byte : (mem : List ℕ) (w i : ℕ) (d : Bytes) → HasData mem w (Some d) → d.len ≤ i → TellsOf (binary_byte_in i) mem w None
past-byte mem w i d h far = record { each = λ c shared t s. byte-past mem (binary_of shared t) d i (h.each c shared t s) far }

pub no-byte : (mem : List ℕ) (w i : ℕ) → HasData mem w None → TellsOf (binary_byte_in i) mem w None
no-byte mem w i h = record { each = λ c shared t s. byte-none mem (binary_of shared t) i (h.each c shared t s) }

byte-within : (mem : List ℕ) (o : Option (List ℕ)) (d : Bytes) (i : ℕ) → IsData mem o (Some d) → i < d.len → d.first + (d.start + i) / 8 < length mem
byte-within mem None d i e below = absurd (none-some d (sym e))
byte-within mem (Some bytes) d i (x, e, b, l) below =
    let P : Bytes → Type 0 = λ z. i < z.len → z.first + (z.start + i) / 8 < length mem in
    subst P (sym (same_Some d x e)) (λ h. b.within i (omega arith)) below

pub byte-inside : (mem : List ℕ) (w i : ℕ) (d : Bytes) → IsTerm mem w → HasData mem w (Some d) → i < d.len → d.first + (d.start + i) / 8 < length mem
byte-inside mem w i d term h below = byte-within mem (binary_of term.shared term.tree) d i (h.each always term.shared term.tree term.standing) below
