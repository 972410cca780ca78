-- What a level writes next.
use Rattle.std.proofs.Common.{◌≡◌, ℕ, ◌+◌, ◌<◌, ◌≤◌, ◌^◌, nat_eq, Bool, true, false, List, [], ◌++◌, length, get_or, refl, sym, ap, ◌∙◌, subst, arith, append_assoc, append-nil, inl, inr, Option, Some, None}
use Rattle.std.proofs.lemmas.Bool.{eqb-true}
use Rattle.plain_term.specs.Tree.{Tree, Trees, Pairs, pairs_len}
use Rattle.plain_term.specs.Tree.Trees.{end, ◌▹◌}
use Rattle.plain_term.specs.Tree.Pairs.{stop, pair}
use Rattle.plain_term.specs.Measures.{depth}
use Rattle.plain_term.specs.Text.{text_as}
use Rattle.term_words.specs.Stands.{Stands, RowStands, KeysStand, ValuesStand}
use Rattle.term_read.specs.declared.looks.Row.{Row}
use Rattle.term_read.specs.declared.looks.PairRows.{PairRows}
use Rattle.term_walk.specs.Left.{RowStandsFor, IsTail}
use Rattle.term_walk.proofs.Steps.{chosen, not-zero, row-end}
use Rattle.term_print.specs.declared.levels.Mark.{Mark}
use Rattle.term_print.specs.declared.levels.Mark.TheVariants.{Nothing, Comma, Arrow}
use Rattle.term_print.specs.declared.levels.Level.{Level}
use Rattle.term_print.specs.declared.levels.Level.TheVariants as level
use Rattle.term_print.specs.declared.levels.Part.{Part}
use Rattle.term_print.specs.declared.levels.Step.TheVariants as step
use Rattle.term_print.specs.Left.{mark_text, closing_text, IsCountable, in_turn, unwritten, part_taken, pair_taken, level_taken, AreTwo, PairsAreLeft, IsLeft, mark_after, row_text, level_text, reach}

-- What is left on a level behind a part.
abbrev pub IsMore : (ℕ → ℕ → Bool) → List (List ℕ) → List ℕ → Option Level → Trees → Type 0
IsMore c shared mem None after = after ≡ end
IsMore c shared mem (Some m) after = IsLeft c shared mem m after

abbrev pub more_text : (names shared : List (List ℕ)) → Option Level → Trees → List ℕ
more_text names shared None after = []
more_text names shared (Some m) after = level_text names shared m after

-- How deep the part itself may go, and what is left behind it.
abbrev pub IsNoDeeper : Option Level → Trees → (now : Tree) (deep : ℕ) → Type 0
IsNoDeeper None after now deep = depth now ≤ deep
IsNoDeeper (Some m) after now deep = (1 + depth now ≤ deep) × (reach m after ≤ deep)

pub record Took (c : ℕ → ℕ → Bool) (shared : List (List ℕ)) (mem : List ℕ) (names : List (List ℕ)) (l : Level) (p : Part) (ts : Trees) : Type 0 where
  pub now : Tree
  pub after : Trees
  pub order : ts ≡ now ▹ after
  pub within : p.place < length mem
  pub standing : Stands c shared mem (get_or mem p.place 0) now
  pub whole : level_text names shared l ts ≡ mark_text p.mark ++ (text_as names shared p.tail now ++ more_text names shared p.more after)
  pub left : IsMore c shared mem p.more after
  pub deep : IsNoDeeper p.more after now (reach l ts)

took-as : (c : ℕ → ℕ → Bool) (shared : List (List ℕ)) (mem : List ℕ) (names : List (List ℕ)) (l : Level) (got want : Part) (ts : Trees) → step.Part got ≡ step.Part want
    → Took c shared mem names l got ts → Took c shared mem names l want ts
took-as c shared mem names l got want ts e t =
    let same : got ≡ want = cc in
    let P : Part → Type 0 = λ z. Took c shared mem names l z ts in
    subst P same t

-- An end is no part.

end-part : (last : Bool) (p : Part) → step.End last ≡ step.Part p → ⊥
end-part last p e = cc

-- A list has its head, and then its tail.

two-took : (c : ℕ → ℕ → Bool) (shared : List (List ℕ)) (mem : List ℕ) (names : List (List ℕ)) (place : ℕ) (ts : Trees) → AreTwo c shared mem place ts
    → Took c shared mem names (level.List place) (record { mark = Nothing; place = place; tail = false; more = Some (level.Tail (place + 1)) }) ts
two-took c shared mem names place ts r =
    let P : Trees → Type 0 = λ z. Took c shared mem names (level.List place) (record { mark = Nothing; place = place; tail = false; more = Some (level.Tail (place + 1)) }) z in
    subst P (sym r.two) (record {
      now = r.head;
      after = r.tail ▹ end;
      order = refl;
      within = omega (arith, r.within);
      standing = r.head_stands;
      whole = refl;
      left = record { tree = r.tail; one = refl; within = omega (arith, r.within); standing = r.tail_stands };
      deep = (omega arith, omega arith);
    })

tail-took : (c : ℕ → ℕ → Bool) (shared : List (List ℕ)) (mem : List ℕ) (names : List (List ℕ)) (place : ℕ) (ts : Trees) → IsTail c shared mem place ts
    → Took c shared mem names (level.Tail place) (record { mark = Nothing; place = place; tail = true; more = None }) ts
tail-took c shared mem names place ts r =
    let P : Trees → Type 0 = λ z. Took c shared mem names (level.Tail place) (record { mark = Nothing; place = place; tail = true; more = None }) z in
    subst P (sym r.one) (record {
      now = r.tree;
      after = end;
      order = refl;
      within = r.within;
      standing = r.standing;
      whole = sym (append-nil (text_as names shared true r.tree));
      left = refl;
      deep = omega arith;
    })

-- A row has its first part, and then the others after commas.

pub regroup : (a b x y : List ℕ) → (a ++ (b ++ x)) ++ y ≡ a ++ (b ++ (x ++ y))
regroup a b x y = append_assoc a (b ++ x) y ∙ ap (λ z. a ++ z) (append_assoc b x y)

row-took : (c : ℕ → ℕ → Bool) (shared : List (List ℕ)) (mem : List ℕ) (names : List (List ℕ)) (row : Row) (mark : Mark) (last : Bool) (ts : Trees) → RowStandsFor c shared mem row ts → 0 < row.len
    → Took c shared mem names (level.Parts row mark last) (part_taken row mark last) ts
unfolding RowStands
row-took c shared mem names row mark last end r some = absurd (omega (arith, r.count))
row-took c shared mem names row mark last (t ▹ ts) r some = record {
  now = t;
  after = ts;
  order = refl;
  within = omega (arith, r.within);
  standing = r.standing.0;
  whole = regroup (mark_text mark) (text_as names shared false t) (row_text names shared false Comma ts) (closing_text last);
  left = record { count = omega (arith, r.count); within = omega (arith, r.within); standing = r.standing.1 };
  deep = (omega arith, omega arith);
}

-- Pairs have a key, and then its value and the other pairs.

key-took : (c : ℕ → ℕ → Bool) (shared : List (List ℕ)) (mem : List ℕ) (rows : PairRows) (ps : Pairs) (names : List (List ℕ)) (mark : Mark) (last : Bool)
    → rows.len ≡ pairs_len ps → rows.keys + rows.len ≤ length mem → rows.values + rows.len ≤ length mem → KeysStand c shared mem rows.keys ps → ValuesStand c shared mem rows.values ps → 0 < rows.len
    → (ts : Trees) → ts ≡ in_turn ps → mark_after true mark ≡ Arrow
    → Took c shared mem names (level.Pairs rows mark last) (record { mark = mark; place = rows.keys; tail = false; more = Some (level.Pairs rows Arrow last) }) ts
unfolding KeysStand
key-took c shared mem rows stop names mark last count kw vw ks vs some ts is next = absurd (omega (arith, count))
key-took c shared mem rows (pair k v ps) names mark last count kw vw ks vs some ts is next =
    let P : Trees → Type 0 = λ z. Took c shared mem names (level.Pairs rows mark last) (record { mark = mark; place = rows.keys; tail = false; more = Some (level.Pairs rows Arrow last) }) z in
    subst P (sym is) (record {
      now = k;
      after = v ▹ in_turn ps;
      order = refl;
      within = omega (arith, kw);
      standing = ks.0;
      whole = regroup (mark_text mark) (text_as names shared false k) (row_text names shared true (mark_after true mark) (v ▹ in_turn ps)) (closing_text last)
          ∙ ap (λ z. mark_text mark ++ (text_as names shared false k ++ (row_text names shared true z (v ▹ in_turn ps) ++ closing_text last))) next;
      left = record { pairs = pair k v ps; left = refl; count = count; keys_within = kw; values_within = vw; keys_stand = ks; values_stand = vs };
      deep = (omega arith, omega arith);
    })

value-took : (c : ℕ → ℕ → Bool) (shared : List (List ℕ)) (mem : List ℕ) (rows : PairRows) (ps : Pairs) (names : List (List ℕ)) (last : Bool)
    → rows.len ≡ pairs_len ps → rows.keys + rows.len ≤ length mem → rows.values + rows.len ≤ length mem → KeysStand c shared mem rows.keys ps → ValuesStand c shared mem rows.values ps → 0 < rows.len
    → (ts : Trees) → ts ≡ unwritten Arrow ps → Took c shared mem names (level.Pairs rows Arrow last) (pair_taken rows Arrow last) ts
unfolding KeysStand ValuesStand
value-took c shared mem rows stop names last count kw vw ks vs some ts is = absurd (omega (arith, count))
value-took c shared mem rows (pair k v ps) names last count kw vw ks vs some ts is =
    let P : Trees → Type 0 = λ z. Took c shared mem names (level.Pairs rows Arrow last) (pair_taken rows Arrow last) z in
    subst P (sym is) (record {
      now = v;
      after = in_turn ps;
      order = refl;
      within = omega (arith, vw);
      standing = vs.0;
      whole = regroup (mark_text Arrow) (text_as names shared false v) (row_text names shared true Comma (in_turn ps)) (closing_text last);
      left = record {
        pairs = ps;
        left = refl;
        count = omega (arith, count);
        keys_within = omega (arith, kw, some);
        values_within = omega (arith, vw, some);
        keys_stand = ks.1;
        values_stand = vs.1;
      };
      deep = (omega arith, omega arith);
    })

pairs-took : (c : ℕ → ℕ → Bool) (shared : List (List ℕ)) (mem : List ℕ) (names : List (List ℕ)) (rows : PairRows) (mark : Mark) (last : Bool) (ts : Trees) → PairsAreLeft c shared mem rows mark ts
    → 0 < rows.len → Took c shared mem names (level.Pairs rows mark last) (pair_taken rows mark last) ts
pairs-took c shared mem names rows Nothing last ts r some =
    key-took c shared mem rows r.pairs names Nothing last r.count r.keys_within r.values_within r.keys_stand r.values_stand some ts r.left refl
pairs-took c shared mem names rows Comma last ts r some =
    key-took c shared mem rows r.pairs names Comma last r.count r.keys_within r.values_within r.keys_stand r.values_stand some ts r.left refl
pairs-took c shared mem names rows Arrow last ts r some =
    value-took c shared mem rows r.pairs names last r.count r.keys_within r.values_within r.keys_stand r.values_stand some ts r.left

unwritten-end : (mark : Mark) (ps : Pairs) → pairs_len ps ≡ 0 → unwritten mark ps ≡ end
unwritten-end Nothing stop none = refl
unwritten-end Comma stop none = refl
unwritten-end Arrow stop none = refl
unwritten-end mark (pair k v ps) none = absurd (omega (arith, none))

-- A level is at its end, or has a part.

pub ends : (c : ℕ → ℕ → Bool) (shared : List (List ℕ)) (mem : List ℕ) (names : List (List ℕ)) (l : Level) (last : Bool) (ts : Trees) → IsLeft c shared mem l ts → level_taken l ≡ step.End last
    → level_text names shared l ts ≡ closing_text last
ends c shared mem names (level.List place) last ts r e = absurd (end-part last _ (sym e))
ends c shared mem names (level.Tail place) last ts r e = absurd (end-part last _ (sym e))
ends c shared mem names (level.Parts row mark x) last ts r e = elim (chosen (nat_eq row.len 0) (step.End x) (step.Part (part_taken row mark x)) (step.End last) e) [
  | inl t ↦ let same : x ≡ last = cc in ap (λ z. row_text names shared false mark z ++ closing_text x) (row-end c shared mem row ts r (eqb-true row.len 0 t.0)) ∙ ap closing_text same
  | inr f ↦ absurd (end-part last _ (sym f.1))
]
ends c shared mem names (level.Pairs rows mark x) last ts r e = elim (chosen (nat_eq rows.len 0) (step.End x) (step.Part (pair_taken rows mark x)) (step.End last) e) [
  | inl t ↦
      let same : x ≡ last = cc in
      ap (λ z. row_text names shared true mark z ++ closing_text x) (r.left ∙ unwritten-end mark r.pairs (sym r.count ∙ eqb-true rows.len 0 t.0)) ∙ ap closing_text same
  | inr f ↦ absurd (end-part last _ (sym f.1))
]

pub took : (c : ℕ → ℕ → Bool) (shared : List (List ℕ)) (mem : List ℕ) (names : List (List ℕ)) (l : Level) (p : Part) (ts : Trees) → IsLeft c shared mem l ts → level_taken l ≡ step.Part p
    → Took c shared mem names l p ts
took c shared mem names (level.List place) p ts r e = took-as c shared mem names (level.List place) _ p ts e (two-took c shared mem names place ts r)
took c shared mem names (level.Tail place) p ts r e = took-as c shared mem names (level.Tail place) _ p ts e (tail-took c shared mem names place ts r)
took c shared mem names (level.Parts row mark last) p ts r e = elim (chosen (nat_eq row.len 0) (step.End last) (step.Part (part_taken row mark last)) (step.Part p) e) [
  | inl t ↦ absurd (end-part last p t.1)
  | inr f ↦ took-as c shared mem names (level.Parts row mark last) (part_taken row mark last) p ts f.1 (row-took c shared mem names row mark last ts r (not-zero row.len f.0))
]
took c shared mem names (level.Pairs rows mark last) p ts r e = elim (chosen (nat_eq rows.len 0) (step.End last) (step.Part (pair_taken rows mark last)) (step.Part p) e) [
  | inl t ↦ absurd (end-part last p t.1)
  | inr f ↦ took-as c shared mem names (level.Pairs rows mark last) (pair_taken rows mark last) p ts f.1 (pairs-took c shared mem names rows mark last ts r (not-zero rows.len f.0))
]

-- The places of a level can be counted on where the memory is no larger than it may be.
pub countable : (c : ℕ → ℕ → Bool) (shared : List (List ℕ)) (mem : List ℕ) (l : Level) (ts : Trees) → length mem ≤ 2 ^ 24 → IsLeft c shared mem l ts → IsCountable l
countable c shared mem (level.List place) ts most r = omega (arith, r.within)
countable c shared mem (level.Tail place) ts most r = tt
countable c shared mem (level.Parts row mark last) ts most r = omega (arith, r.within)
countable c shared mem (level.Pairs rows mark last) ts most r = (omega (arith, r.keys_within), omega (arith, r.values_within))
