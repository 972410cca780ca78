-- The old records are left behind.
use Rattle.std.proofs.Common.{◌≡◌, ℕ, ◌+◌, ◌<◌, ◌≤◌, ◌&&◌, Bool, true, List, [], get_or, sym, ◌∙◌, ap, subst, arith, inl, inr}
use Rattle.std.proofs.lemmas.Bool.{and_from, and_parts}
use Rattle.term_words.specs.Role.{FIRST, FURTHER, NEXT, NAMES, RECORD_FIRST, both}
use Rattle.term_words.specs.Object.{IsRecord}
use Rattle.term_words.specs.Counted.{In}
use Rattle.shared_rec.specs.Record.{count_in}
use Rattle.shared_rec.proofs.Records.{record-copied, record-first, record-within}
use Rattle.off_heap_list.specs.Links.{name_place, named, naming, IsLink, Links}
use Rattle.record_move.specs.Copies.{RecordsMoved, LeavesOld}
use Rattle.record_move.proofs.Moving.{place-cases}

module _ (c : ℕ → ℕ → Bool) (start mem : List ℕ) (head : ℕ) (os : List ℕ) (low top : ℕ) (r : RecordsMoved c start mem head os low top) (d : ℕ → ℕ → Bool) (x : LeavesOld c os low top d) where
  -- A record that an object names stands by the narrower test.
  pub named-record : (o n : ℕ) → In o os → IsRecord r.test mem (named mem o) n → IsRecord (both r.test d) mem (named mem o) n
  named-record o n inside there =
      let lies = r.lies o n inside there in
      record-copied r.test (both r.test d) mem mem (named mem o) (named mem o) n
      (record {
        within = (record-within r.test mem (named mem o) n there).0;
        roles = λ j q k below e h.
            let P : ℕ → Type 0 = λ y. r.test y k ≡ true in
            and_from (r.test q k) (d q k) (subst P (sym e) h) (x.copies q k (omega (arith, e, lies.0)) (omega (arith, e, lies.1, below)));
        same = λ j q below far e. ap (λ y. get_or mem y 0) e;
      })
      there

  -- And each that stands by it stands by the wider one, among the copies.

  pub wide-record : (v n : ℕ) → IsRecord (both r.test d) mem v n → IsRecord r.test mem v n
  wide-record v n there =
      record-copied (both r.test d) r.test mem mem v v n
      (record {
        within = (record-within (both r.test d) mem v n there).0;
        roles = λ j q k below e h. let P : ℕ → Type 0 = λ y. r.test y k ≡ true in subst P (sym e) (and_parts (r.test (v + j) k) (d (v + j) k) h).0;
        same = λ j q below far e. ap (λ y. get_or mem y 0) e;
      })
      there

  pub in-room : (v n : ℕ) → IsRecord (both r.test d) mem v n → (low ≤ v) × (v < top)
  in-room v n there =
      let f : r.test v RECORD_FIRST && d v RECORD_FIRST ≡ true = record-first (both r.test d) mem v n there in
      elim (r.comes v RECORD_FIRST (and_parts (r.test v RECORD_FIRST) (d v RECORD_FIRST) f).0) [
        | inl old ↦ absurd (x.none v old (and_parts (r.test v RECORD_FIRST) (d v RECORD_FIRST) f).1)
        | inr room ↦ room
      ]

  counts-here : (v n : ℕ) → IsRecord (both r.test d) mem v n → (count_in mem v ≡ naming mem v os) × (1 ≤ count_in mem v)
  counts-here v n there = let room = in-room v n there in r.counts v n (wide-record v n there) room.0 room.1

  name-inside : (o : ℕ) → (o ≤ name_place mem o) × (name_place mem o < o + 6)
  name-inside o = elim (place-cases mem o) [ inl e ↦ (omega (arith, e), omega (arith, e)) | inr e ↦ (omega (arith, e), omega (arith, e)) ]

  narrow-link : (o : ℕ) → In o os → IsLink (both r.test d) mem o
  narrow-link o inside =
      let l : IsLink r.test mem o = r.objects o inside in
      record {
        somewhere = l.somewhere;
        within = l.within;
        first = and_from (r.test o FIRST) (d o FIRST) l.first (x.objects o o FIRST inside (omega arith) (omega arith));
        next = and_from (r.test (o + 2) NEXT) (d (o + 2) NEXT) l.next (x.objects o (o + 2) NEXT inside (omega arith) (omega arith));
        names = and_from (r.test (name_place mem o) NAMES) (d (name_place mem o) NAMES) l.names (x.objects o (name_place mem o) NAMES inside (name-inside o).0 (name-inside o).1);
        kind = l.kind;
        size = λ h.
            let z = l.size h in
            (and_from (r.test (o + 1) FURTHER) (d (o + 1) FURTHER) z.0 (x.objects o (o + 1) FURTHER inside (omega arith) (omega arith)), z.1);
        words = l.words;
        record_is = named-record o l.words inside l.record_is;
      }

  pub narrow-some : (v n : ℕ) → IsRecord (both r.test d) mem v n → 1 ≤ count_in mem v
  narrow-some v n there = (counts-here v n there).1

pub narrow-links : (c : ℕ → ℕ → Bool) (start mem : List ℕ) (head : ℕ) (os : List ℕ) (low top : ℕ) (r : RecordsMoved c start mem head os low top) (d : ℕ → ℕ → Bool) → LeavesOld c os low top d
    → Links (both r.test d) mem head os []
narrow-links c start mem head os low top r d x = record {
  chain = r.chain;
  once = r.once;
  each = narrow-link c start mem head os low top r d x;
  beside = λ o i. absurd i;
  counts = λ v n there. (counts-here c start mem head os low top r d x v n there).0 ∙ omega arith;
}
