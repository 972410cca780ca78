-- A narrower test of a half: each word with a role is one of an object, or of a record that the tables list.
use Rattle.std.proofs.Common.{◌≡◌, ℕ, ◌+◌, ◌*◌, ◌<◌, ◌≤◌, ◌⊎◌, ◌&&◌, ◌||◌, Bool, true, false, nat_le, nat_lt, List, [], ◌∷◌, length, get_or, slice_index, refl, sym, ap, subst, arith, inl, inr}
use Rattle.std.proofs.lemmas.Bool.{and_parts, and_from, or_right, or_left}
use Rattle.std.proofs.lemmas.Bool.Decides.{nat_tests}
use Rattle.plain_term.specs.Tree.{Tree}
use Rattle.plain_term.specs.Tree.Trees.{end, ◌▹◌}
use Rattle.plain_term.specs.Measures.{bin_words}
use Rattle.plain_machine.specs.State.{Process}
use Rattle.term_words.specs.Role.{FIRST, FURTHER, NAMES, NEXT, OfObject, IsSingle, both}
use Rattle.term_words.specs.Object.{IsBinRecord, IsFunRecord, IsRecord}
use Rattle.term_words.specs.Stands.{Stands, AllStand}
use Rattle.term_words.specs.Reach.{Reach, PassTest, root}
use Rattle.term_words.specs.Relocated.{IsCopiedTo}
use Rattle.term_words.specs.Counted.{In}
use Rattle.term_words.proofs.Framing.Narrowing.{narrowed-word}
use Rattle.term_words.proofs.Reaching.Reached.{reached}
use Rattle.term_words.proofs.Placing.Roles.{object-role}
use Rattle.shared_rec.proofs.Records.{bin-copied, fun-copied, record-copied, record-size, record-within}
use Rattle.off_heap_list.specs.Links.{name_place, named as name_of, IsLink, IsLinkHeader, Links}
use Rattle.off_heap_list.specs.Exact.{AllCounted, Exact}
use Rattle.off_heap_list.proofs.Chaining.Exact.{counts-exact}
use Rattle.record_move.specs.Copies.{record_words}
use Rattle.cheney.proofs.Before.Basics.{not-both}
use Rattle.two_halves.specs.Halves.{HalvesStand, IsLaid, front_of, records_of}
use Rattle.two_halves.specs.Reached.{ChainReached, roots_of}
use Rattle.two_halves.specs.declared.halves.Halves.{Halves}

-- The place lies in one of these records.
abbrev pub in_records : List ℕ → List ℕ → ℕ → Bool
in_records mem [] a = false
in_records mem (v ∷ vs) a = (nat_le v a && nat_lt a (v + record_words mem v)) || in_records mem vs a

within-is : (v n a : ℕ) → v ≤ a → a < v + n → (nat_le v a && nat_lt a (v + n)) ≡ true
within-is v n a from below = grind (arith, nat_tests, from, below)

pub listed-in : (mem vs : List ℕ) (v a : ℕ) → In v vs → v ≤ a → a < v + record_words mem v → in_records mem vs a ≡ true
listed-in mem [] v a i from below = absurd i
listed-in mem (u ∷ vs) v a (inl e) from below =
    let here : (nat_le u a && nat_lt a (u + record_words mem u)) ≡ true = within-is u (record_words mem u) a (omega (arith, from, e)) (omega (arith, below, e, ap (record_words mem) e)) in
    or_left (nat_le u a && nat_lt a (u + record_words mem u)) (in_records mem vs a) here
listed-in mem (u ∷ vs) v a (inr i) from below =
    or_right (nat_le u a && nat_lt a (u + record_words mem u)) (in_records mem vs a) (listed-in mem vs v a i from below)

-- Below the free words, or in a record that is listed.
abbrev pub covering : Halves → ℕ → ℕ → Bool
covering h a k = nat_lt a h.room.end || in_records h.mem (records_of h) a

module _ (named : ℕ) (h : Halves) (shared : List (List ℕ)) (qs : List Process) (laid : IsLaid h) (s : HalvesStand named h shared qs) where
  abbrev pub covered : ℕ → ℕ → Bool
  covered = both s.test (covering h)

  object-in : (a k : ℕ) → OfObject k → s.test a k ≡ true → covering h a k ≡ true
  object-in a k of e = elim (s.lie a k e) [
    | inl object ↦
        let here : nat_lt a h.room.end ≡ true = (let less : a < h.room.end = omega (arith, object.1.0, laid.order) in grind (arith, nat_tests, less)) in
        or_left (nat_lt a h.room.end) (in_records h.mem (records_of h) a) here
    | inr there ↦ absurd (omega (arith, of, there.1.1))
  ]

  object-on : (a k : ℕ) → OfObject k → s.test a k ≡ true → covered a k ≡ true
  object-on a k of e = and_from (s.test a k) (covering h a k) e (object-in a k of e)

  record-in : (v n a k : ℕ) → IsRecord s.test h.mem v n → v ≤ a → a < v + n → covering h a k ≡ true
  record-in v n a k there from below =
      or_right (nat_lt a h.room.end) (in_records h.mem (records_of h) a)
      (listed-in h.mem (records_of h) v a (s.records.all v n there) from (omega (arith, below, record-size s.test h.mem v n there)))

  copied-on : (v n : ℕ) → IsRecord s.test h.mem v n → IsCopiedTo s.test covered h.mem h.mem v v n
  copied-on v n there = record {
    within = (record-within s.test h.mem v n there).0;
    roles = λ j q k below e f.
        let P : ℕ → Type 0 = λ z. s.test z k ≡ true in
        and_from (s.test q k) (covering h q k) (subst P (sym e) f) (record-in v n q k there (omega (arith, e)) (omega (arith, e, below)));
    same = λ j q below some e. ap (λ z. get_or h.mem z 0) e;
  }

  pub bin-covered : (v serial : ℕ) (bytes : List ℕ) → IsBinRecord s.test h.mem v serial bytes → IsBinRecord covered h.mem v serial bytes
  bin-covered v serial bytes o = bin-copied s.test covered h.mem h.mem v v serial bytes (copied-on v (4 + bin_words (length bytes)) (inl (serial, bytes, o, refl))) o

  pub fun-covered : (v name arity : ℕ) → IsFunRecord s.test h.mem v name arity → IsFunRecord covered h.mem v name arity
  fun-covered v name arity o = fun-copied s.test covered h.mem h.mem v v name arity (copied-on v 4 (inr (name, arity, o, refl))) o

  record-covered : (v n : ℕ) → IsRecord s.test h.mem v n → IsRecord covered h.mem v n
  record-covered v n there = record-copied s.test covered h.mem h.mem v v n (copied-on v n there) there

  pub record-wide : (v n : ℕ) → IsRecord covered h.mem v n → IsRecord s.test h.mem v n
  record-wide v n there =
      record-copied covered s.test h.mem h.mem v v n
      (record {
        within = (record-within covered h.mem v n there).0;
        roles = λ j q k below e f. let P : ℕ → Type 0 = λ z. s.test z k ≡ true in subst P (sym e) ((and_parts (s.test (v + j) k) (covering h (v + j) k) f).0);
        same = λ j q below some e. ap (λ z. get_or h.mem z 0) e;
      })
      there

  pub single-covered : IsSingle covered
  single-covered = record { one = λ a j k e f. s.single.one a j k ((and_parts (s.test a j) (covering h a j) e).0) ((and_parts (s.test a k) (covering h a k) f).0) }

  -- Where a word with a role lies.
  pub lies-covered : (a k : ℕ) → covered a k ≡ true → ((front_of h ≤ a) × (a < h.room.top)) ⊎ (in_records h.mem (records_of h) a ≡ true)
  lies-covered a k e =
      let c : s.test a k ≡ true = (and_parts (s.test a k) (covering h a k) e).0 in
      let d : covering h a k ≡ true = (and_parts (s.test a k) (covering h a k) e).1 in
      elim (s.lie a k c) [
        | inl object ↦ inl (object.0, object.1.0)
        | inr there ↦ inr (past (nat_lt a h.room.end) (in_records h.mem (records_of h) a) (let far : h.room.end ≤ a = there.0 in grind (arith, nat_tests, far)) d)
      ]
    where
      past : (p q : Bool) → p ≡ false → (p || q) ≡ true → q ≡ true
      past true q e f = absurd (not-both true refl e)
      past false q e f = f

  -- Trees stand by it.
  module _ (w : ℕ) (t : Tree) (st : Stands s.test shared h.mem w t) where
    alone : AllStand s.test shared h.mem (w ∷ []) (t ▹ end)
    unfolding AllStand
    alone = (st, tt)

    passes : PassTest s.test (covering h) h.mem (w ∷ [])
    passes = record {
      objects = λ z q k re p from below e.
          let (b, sz) = reached s.test shared h.mem (w ∷ []) (t ▹ end) alone z re in
          let (j, (of, f)) = object-role s.test shared h.mem z b q sz p from below in
          object-in q j of f;
      records = λ v n q k name there from below e. record-in v n q k there from below;
    }

    pub tree-covered : Stands covered shared h.mem w t
    tree-covered = narrowed-word s.test (covering h) shared h.mem (w ∷ []) (t ▹ end) alone passes w t (root 0 w (omega arith) refl) st

  -- And so does the chain.
  link-covered : (p : ℕ) → In p s.chained → IsLink covered h.mem p
  link-covered p i =
      let l : IsLink s.test h.mem p = s.links.each p i in
      record {
        somewhere = l.somewhere;
        within = l.within;
        first = object-on p FIRST (inr (omega arith, omega arith)) l.first;
        next = object-on (p + 2) NEXT (inl refl) l.next;
        names = object-on (name_place h.mem p) NAMES (inr (omega arith, omega arith)) l.names;
        kind = l.kind;
        size = λ e. let z = l.size e in (object-on (p + 1) FURTHER (inr (omega arith, omega arith)) z.0, z.1);
        words = l.words;
        record_is = record-covered (name_of h.mem p) l.words l.record_is;
      }

  links-covered : Links covered h.mem h.head s.chained []
  links-covered = record {
    chain = s.links.chain;
    once = s.links.once;
    each = link-covered;
    beside = λ p i. absurd i;
    counts = λ v n there. s.links.counts v n (record-wide v n there);
  }

  pub counted-covered : AllCounted covered h.mem
  counted-covered v n there = s.records.counted v n (record-wide v n there)

  -- A word `next` is that of an object of the chain.
  pub next-covered : (p : ℕ) → covered (p + 2) NEXT ≡ true → IsLinkHeader (slice_index h.mem p)
  next-covered p e = (s.links.each p (s.every p ((and_parts (s.test (p + 2) NEXT) (covering h (p + 2) NEXT) e).0))).kind

  -- Where every object of the chain is reached, counts are exact.
  pub exact-covered : ChainReached h → (roots : List ℕ) → ((w : ℕ) → Reach h.mem (roots_of h) w → Reach h.mem roots w) → Exact covered h.mem roots
  exact-covered r roots among = counts-exact covered h.mem roots h.head s.chained links-covered (record {
    once = s.links.once;
    all = λ p held. s.every p ((and_parts (s.test (p + 2) NEXT) (covering h (p + 2) NEXT) held.next).0);
    only = λ p i. record {
      word = p * 4 + 2;
      reached = among (p * 4 + 2) (r.all s.chained p s.linked s.links.chain i);
      boxed = omega arith;
      place = omega arith;
      next = object-on (p + 2) NEXT (inl refl) (s.links.each p i).next;
    };
  }) counted-covered
