-- The records that move are those that the trees name: their words are bounded.
use Rattle.std.proofs.Common.{◌≡◌, ℕ, ◌+◌, ◌-◌, ◌*◌, ◌≤◌, ◌⊎◌, if◌then◌else◌, Bool, true, false}
use Rattle.std.proofs.Common.{List, [], ◌∷◌, ◌++◌, flat_map, refl, sym, ◌∙◌, ap, subst, arith, inl, inr}
use Rattle.std.proofs.lemmas.Grind.{flat_map-append}
use Rattle.std.proofs.lemmas.List.Concat.{flat_map-cons}
use Rattle.plain_term.specs.Tree.{Tree, Trees}
use Rattle.plain_term.specs.Tree.Trees.{end, ◌▹◌}
use Rattle.plain_machine.specs.State.{Process}
use Rattle.plain_machine.specs.Maps.{AllIn}
use Rattle.plain_machine.specs.Tightness.{funs_in, funs_in_all, held_trees, ids_in, ids_in_all}
use Rattle.term_words.specs.Object.{IsBinRecord, IsFunRecord}
use Rattle.term_words.specs.Counted.{In, total}
use Rattle.term_words.proofs.Totals.Members.{in-both, in-left, in-right}
use Rattle.shared_rec.specs.Record.{owner_in}
use Rattle.off_heap_list.specs.Links.{named, IsLink}
use Rattle.off_heap_list.specs.Swept.{is_moved}
use Rattle.off_heap_list.specs.Whole.{moved_of, turned, SweptWhole}
use Rattle.off_heap_list.specs.declared.whole.Survivors.{Survivors}
use Rattle.record_move.specs.Copies.{record_words, RecordsCanMove}
use Rattle.record_move.specs.Tables.{OwnersRise}
use Rattle.cheney.specs.declared.moving.Moving.{Moving}
use Rattle.cheney.specs.Plan.{Reached}
use Rattle.cheney.specs.Rooms.{top_of}
use Rattle.cheney.proofs.Before.Basics.{not-both}
use Rattle.record_move.proofs.Leaving.{left-not, moved-is, which}
use Rattle.counted_records.specs.Occurs.{AreHeld, NamedOnce, OwnersDiffer}
use Rattle.counted_records.proofs.Demand.{demanded, named-once}
use Rattle.counted_records.proofs.Weighing.{total-within}
use Rattle.record_tables.specs.Listed.{IsBinOf, IsFunOf}
use Rattle.two_halves.specs.Halves.{Standing, records_of}
use Rattle.two_halves.specs.Reached.{named_words, roots_of}
use Rattle.two_halves.specs.declared.halves.Halves.{Halves}
use Rattle.two_halves.specs.declared.table.Proc.{Proc}
use Rattle.two_halves.proofs.Collected.Ended.{Scanned, whole}
use Rattle.two_halves.proofs.Standing.Held.{onto, trees_of}
use Rattle.two_halves.proofs.Collected.Planned.{Target, plan_of}
use Rattle.two_halves.proofs.Collected.Swept.{can-move-to, listed, low-above, names-listed, remaining, roles, room}

-- Those of the objects that were moved.
gone : List ℕ → List ℕ → List ℕ
gone m [] = []
gone m (o ∷ os) = if is_moved m o then o ∷ gone m os else gone m os

gone-more : (m : List ℕ) (o p : ℕ) (os : List ℕ) (b : Bool) → In o (gone m os) → In o (if b then p ∷ gone m os else gone m os)
gone-more m o p os true i = inr i
gone-more m o p os false i = i

gone-here : (m : List ℕ) (p : ℕ) (os : List ℕ) (b : Bool) → b ≡ true → In p (if b then p ∷ gone m os else gone m os)
gone-here m p os true e = inl refl
gone-here m p os false e = absurd (not-both false e refl)

in-gone : (m : List ℕ) (o : ℕ) (os : List ℕ) → In o os → is_moved m o ≡ true → In o (gone m os)
unfolding gone
in-gone m o [] i e = absurd i
in-gone m o (p ∷ os) (inl same) e =
    let P : ℕ → Type 0 = λ z. In z (gone m (p ∷ os)) in
    let Q : ℕ → Type 0 = λ z. is_moved m z ≡ true in
    subst P (sym same) (gone-here m p os (is_moved m p) (subst Q same e))
in-gone m o (p ∷ os) (inr i) e = gone-more m o p os (is_moved m p) (in-gone m o os i e)

-- One that is among them was moved.
record WasGone (m : List ℕ) (o : ℕ) (os : List ℕ) : Type 0 where
  pub inside : In o os
  pub moved : is_moved m o ≡ true

gone-by : (m : List ℕ) (o p : ℕ) (os : List ℕ) (b : Bool) → is_moved m p ≡ b → (In o (gone m os) → WasGone m o os) → In o (if b then p ∷ gone m os else gone m os) → WasGone m o (p ∷ os)
gone-by m o p os true e deep (inl same) = record { inside = inl same; moved = ap (is_moved m) same ∙ e }
gone-by m o p os true e deep (inr i) = let g : WasGone m o os = deep i in record { inside = inr g.inside; moved = g.moved }
gone-by m o p os false e deep i = let g : WasGone m o os = deep i in record { inside = inr g.inside; moved = g.moved }

gone-is : (m : List ℕ) (o : ℕ) (os : List ℕ) → In o (gone m os) → WasGone m o os
unfolding gone
gone-is m o [] i = absurd i
gone-is m o (p ∷ os) i = gone-by m o p os (is_moved m p) refl (λ j. gone-is m o os j) i

-- What occurs in the trees of the roots occurs in those that processes hold.
module _ (f : Tree → List ℕ) (all : Trees → List ℕ) (none : all end ≡ []) (cons : (t : Tree) (ts : Trees) → all (t ▹ ts) ≡ f t ++ all ts) (n : ℕ) where
  left : (us vs : List Tree) → In n (flat_map f us) → In n (flat_map f (us ++ vs))
  left us vs i = subst (In n) (sym (flat_map-append f us vs)) (in-left n (flat_map f us) (flat_map f vs) i)

  right : (us vs : List Tree) → In n (flat_map f vs) → In n (flat_map f (us ++ vs))
  right us vs i = subst (In n) (sym (flat_map-append f us vs)) (in-right n (flat_map f us) (flat_map f vs) i)

  among-onto : (ts : List Tree) (us : Trees) → In n (all (onto ts us)) → In n (flat_map f ts) ⊎ In n (all us)
  among-onto [] us i = inr i
  among-onto (t ∷ ts) us i = elim (in-both n (f t) (all (onto ts us)) (subst (In n) (cons t (onto ts us)) i)) [
    | inl here ↦ inl (subst (In n) (sym (flat_map-cons f t ts)) (in-left n (f t) (flat_map f ts) here))
    | inr deep ↦ elim (among-onto ts us deep) [ inl there ↦ inl (subst (In n) (sym (flat_map-cons f t ts)) (in-right n (f t) (flat_map f ts) there)) | inr past ↦ inr past ]
  ]

  among-held : (qs : List Process) → In n (all (trees_of qs)) → In n (flat_map f (flat_map held_trees qs))
  among-held [] i = absurd (let P : List ℕ → Type 0 = λ z. In n z in subst P none i)
  among-held (q ∷ qs) i =
      let P : List Tree → Type 0 = λ z. In n (flat_map f z) in
      let rest : List Tree = flat_map held_trees qs in
      let whole_list : In n (flat_map f (q.registers ++ (q.stack ++ q.queue))) ⊎ In n (flat_map f (flat_map held_trees qs)) =
      elim (among-onto q.registers (onto q.stack (onto q.queue (trees_of qs))) i) [
        | inl here ↦ inl (left q.registers (q.stack ++ q.queue) here)
        | inr deep ↦ elim (among-onto q.stack (onto q.queue (trees_of qs)) deep) [
          | inl here ↦ inl (right q.registers (q.stack ++ q.queue) (left q.stack q.queue here))
          | inr past ↦ elim (among-onto q.queue (trees_of qs) past) [
            | inl here ↦ inl (right q.registers (q.stack ++ q.queue) (right q.stack q.queue here))
            | inr others ↦ inr (among-held qs others)
          ]
        ]
      ] in
      subst P (sym (flat_map-cons held_trees q qs)) (elim whole_list [
        | inl here ↦ left (q.registers ++ (q.stack ++ q.queue)) (flat_map held_trees qs) here
        | inr there ↦ right (q.registers ++ (q.stack ++ q.queue)) (flat_map held_trees qs) there
      ])

ids-held : (qs : List Process) → AllIn (ids_in_all (trees_of qs)) (flat_map ids_in (flat_map held_trees qs))
ids-held qs n i = among-held ids_in ids_in_all refl (λ t ts. refl) n qs i

funs-held : (qs : List Process) → AllIn (funs_in_all (trees_of qs)) (flat_map funs_in (flat_map held_trees qs))
funs-held qs n i = among-held funs_in funs_in_all refl (λ t ts. refl) n qs i

-- Records with the same owner are one.
rise-one : (mem : List ℕ) (vs : List ℕ) (v w : ℕ) → OwnersRise mem vs → In v vs → In w vs → owner_in mem v ≡ owner_in mem w → v ≡ w
rise-one mem [] v w r i j e = absurd i
rise-one mem (z ∷ vs) v w (first, rest) (inl a) (inl b) e = a ∙ sym b
rise-one mem (z ∷ vs) v w (first, rest) (inl a) (inr j) e = absurd (omega (arith, first w j, e, ap (owner_in mem) a))
rise-one mem (z ∷ vs) v w (first, rest) (inr i) (inl b) e = absurd (omega (arith, first v i, e, ap (owner_in mem) b))
rise-one mem (z ∷ vs) v w (first, rest) (inr i) (inr j) e = rise-one mem vs v w rest i j e

module _ (h : Halves) (x : Standing h) where
  bin-listed : (v serial : ℕ) (bytes : List ℕ) → IsBinRecord x.stands.test h.mem v serial bytes → In v h.bins.items
  bin-listed v serial bytes is = elim (in-both v h.bins.items h.funs.items (x.stands.records.all v _ (inl (serial, bytes, is, refl)))) [
    | inl bin ↦ bin
    | inr fun ↦ absurd (let f : IsFunOf x.stands.test h.mem v = x.stands.records.each_fun v fun in omega (arith, is.header, f.is.header))
  ]

  fun-listed : (v name arity : ℕ) → IsFunRecord x.stands.test h.mem v name arity → In v h.funs.items
  fun-listed v name arity is = elim (in-both v h.bins.items h.funs.items (x.stands.records.all v 4 (inr (name, arity, is, refl)))) [
    | inl bin ↦ absurd (let b : IsBinOf x.stands.test h.mem x.shared v = x.stands.records.each_bin v bin in omega (arith, is.header, b.is.header))
    | inr fun ↦ fun
  ]

  owners-differ : OwnersDiffer x.stands.test h.mem
  owners-differ = record {
    bins = λ v w serial bytes more a b. rise-one h.mem h.bins.items v w x.stands.records.serials (bin-listed v serial bytes a) (bin-listed w serial more b) (a.owner ∙ sym b.owner);
    funs = λ v w name arity a b. rise-one h.mem h.funs.items v w x.stands.records.codes (fun-listed v name arity a) (fun-listed w name arity b) (a.owner ∙ sym b.owner);
  }

-- The records that the reached objects name can move to words that hold them alone.
pub record Bounded (h : Halves) (t : Target) (x : Standing h) (m : List ℕ) (mv : Moving) (news : List Proc) (y : Scanned h t x m mv news) (mem4 : List ℕ) (left : Survivors)
    (w : SweptWhole (roles h t x m mv news y).test m mem4 x.stands.chained (turned (moved_of m x.stands.chained) []) [] left) : Type 0 where
  pub each : List ℕ
  pub may : RecordsCanMove (roles h t x m mv news y).test mem4 left.first (turned (moved_of m x.stands.chained) []) (t.to - total (record_words h.mem) each) t.to
  pub few : total (record_words h.mem) each ≤ named_words x.shared x.processes

module _ (h : Halves) (t : Target) (x : Standing h) (m : List ℕ) (mv : Moving) (news : List Proc) (y : Scanned h t x m mv news) (mem4 : List ℕ) (left : Survivors)
    (w : SweptWhole (roles h t x m mv news y).test m mem4 x.stands.chained (turned (moved_of m x.stands.chained) []) [] left) where
  moved-reached : (o : ℕ) → In o x.stands.chained → is_moved m o ≡ true → Reached (plan_of h x t) (o * 4 + 2)
  moved-reached o inside e =
      let l : IsLink (plan_of h x t).test h.mem o = x.stands.links.each o inside in
      elim (which (plan_of h x t) y.runs.ready m (top_of mv) (whole h t x m mv news y) (remaining h.room.end x.stands.test) (roles h t x m mv news y) o l) [
        | inl (same, no_more) ↦ absurd
            (not-both (is_moved m o) e (left-not (plan_of h x t) y.runs.ready m (top_of mv) (whole h t x m mv news y) (remaining h.room.end x.stands.test) (roles h t x m mv news y) o l same))
        | inr (re, rest) ↦ re
      ]

  held-there : AreHeld x.stands.test h.mem (roots_of h) (gone m x.stands.chained)
  held-there = record {
    reached = λ o i. let g : WasGone m o x.stands.chained = gone-is m o x.stands.chained i in moved-reached o g.inside g.moved;
    links = λ o i. let g : WasGone m o x.stands.chained = gone-is m o x.stands.chained i in x.stands.links.each o g.inside;
  }

  module _ (each : List ℕ) (n : NamedOnce h.mem (gone m x.stands.chained) each) where
    few-named : total (record_words h.mem) each ≤ named_words x.shared x.processes
    few-named =
        demanded x.stands.test x.shared h.mem (roots_of h) (trees_of x.processes) (gone m x.stands.chained) y.runs.ready.standing held-there (owners-differ h x) each
        (flat_map ids_in (flat_map held_trees x.processes)) (flat_map funs_in (flat_map held_trees x.processes)) n (ids-held x.processes) (funs-held x.processes)

    each-listed : (v : ℕ) → In v each → In v (records_of h)
    each-listed v i =
        let (o, (inside, e)) = n.only v i in
        let g : WasGone m o x.stands.chained = gone-is m o x.stands.chained inside in
        let P : ℕ → Type 0 = λ z. In z (records_of h) in
        subst P e (names-listed h t x m mv news y mem4 left w o g.inside)

    fits-all : total (record_words h.mem) each ≤ total (record_words h.mem) (records_of h)
    fits-all = total-within (record_words h.mem) each (records_of h) n.once each-listed

    each-named : (o : ℕ) → In o x.stands.chained → Reached (plan_of h x t) (o * 4 + 2) → In (named h.mem o) each
    each-named o inside re =
        let l : IsLink (plan_of h x t).test h.mem o = x.stands.links.each o inside in
        n.all o (in-gone m o x.stands.chained inside
        (moved-is (plan_of h x t) y.runs.ready m (top_of mv) (whole h t x m mv news y) (remaining h.room.end x.stands.test) (roles h t x m mv news y) o l re
        (record { pointer = inr (omega arith); leaves = refl })))

    bounded-by : Bounded h t x m mv news y mem4 left w
    bounded-by =
        let all = low-above h t x m mv news y mem4 left w in
        record {
          each = each;
          may =
              can-move-to h t x m mv news y mem4 left w (t.to - total (record_words h.mem) each)
              (room h t x m mv news y mem4 left w each (t.to - total (record_words h.mem) each) (omega (arith, all, fits-all)) each-named
              (λ v i. listed h t x m mv news y mem4 left w v (each-listed v i)) (omega (arith, all, fits-all)));
          few = few-named;
        }

  pub bounded : Bounded h t x m mv news y mem4 left w
  bounded = let (each, n) = named-once h.mem (gone m x.stands.chained) in bounded-by each n
