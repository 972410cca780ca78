-- After a sweep records can move.
use Rattle.std.proofs.Common.{◌≡◌, ℕ, ◌/◌, ◌≤◌, ◌⊎◌, if◌then◌else◌, Bool, true, false, List, [], ◌∷◌, refl, sym, ◌∙◌, ap, subst, arith, inl, inr}
use Rattle.term_words.specs.Counted.{In, total}
use Rattle.shared_rec.proofs.Records.{record-size, record-stays}
use Rattle.off_heap_list.specs.Links.{named, IsLink, Links}
use Rattle.off_heap_list.specs.Swept.{is_moved, new_place}
use Rattle.off_heap_list.specs.Whole.{moved_of, SweptWhole}
use Rattle.off_heap_list.specs.declared.whole.Survivors.{Survivors}
use Rattle.off_heap_list.proofs.Chaining.Chained.{link-named}
use Rattle.record_move.specs.Copies.{record_words, RecordsCanMove}
use Rattle.cheney.specs.Plan.{Plan, Ready}
use Rattle.cheney.specs.Collected.{Collected, IsMoved}
use Rattle.cheney.specs.Next.{HasRoles}
use Rattle.cheney.proofs.Before.Basics.{not-both}
use Rattle.record_move.specs.Follows.{Sweepable, RecordsHaveRoom}
use Rattle.record_move.proofs.Leaving.{which, left-not, new-link, new-named, record-goes}

-- An object of the new chain was moved from one of the old one.
pub record Origin (m os : List ℕ) (q : ℕ) : Type 0 where
  pub o : ℕ
  pub inside : In o os
  pub moved : is_moved m o ≡ true
  pub place : q ≡ new_place m o

origin-by : (m os : List ℕ) (o q : ℕ) (b : Bool) → is_moved m o ≡ b → (In q (moved_of m os) → Origin m os q) → In q (if b then new_place m o ∷ moved_of m os else moved_of m os) → Origin m (o ∷ os) q
origin-by m os o q true is more (inl e) = record { o = o; inside = inl refl; moved = is; place = e }
origin-by m os o q true is more (inr deep) = let x : Origin m os q = more deep in record { o = x.o; inside = inr x.inside; moved = x.moved; place = x.place }
origin-by m os o q false is more deep = let x : Origin m os q = more deep in record { o = x.o; inside = inr x.inside; moved = x.moved; place = x.place }

pub origin : (m os : List ℕ) (q : ℕ) → In q (moved_of m os) → Origin m os q
origin m [] q inside = absurd inside
origin m (o ∷ os) q inside = origin-by m os o q (is_moved m o) refl (λ deep. origin m os q deep) inside

pub total-same : (f g : ℕ → ℕ) (vs : List ℕ) → ((v : ℕ) → In v vs → f v ≡ g v) → total f vs ≡ total g vs
total-same f g [] same = refl
total-same f g (v ∷ vs) same = omega (arith, same v (inl refl), total-same f g vs (λ w i. same w (inr i)))

pub can-move : (p : Plan) (m : List ℕ) (top : Bool → ℕ) (s : ℕ → ℕ → Bool) (r : HasRoles p m s) (head : ℕ) (os : List ℕ) → Ready p → Collected p m top → Sweepable p s os []
    → Links p.test p.start head os [] → (mem kept : List ℕ) (left : Survivors) → SweptWhole r.test m mem os kept [] left → ((q : ℕ) → In q kept → In q (moved_of m os)) → (low high : ℕ)
    → RecordsHaveRoom p s top os low high → RecordsCanMove r.test mem left.first kept low high
can-move p m top s r head os y w x l mem kept left z among low high h = record {
  single = r.single;
  links = z.links;
  free = λ a k role. elim (r.comes a k role) [
    | inr both ↦ h.clear a k both.1
    | inl c ↦
        let mv : IsMoved p m top c.v _ = w.copies c.v c.reached c.leaves in
        let apart : (top (p.mature (c.v / 4)) ≤ low) ⊎ (high ≤ p.low (p.mature (c.v / 4))) = h.rooms (p.mature (c.v / 4)) in
        grind (arith, apart, mv.from, mv.below, c.place, c.below)
  ];
  order = h.order;
  inside = omega (arith, h.inside, w.same_len, z.writes.same_len);
  each = h.each;
  all = λ q inside.
      let g : Origin m os q = origin m os q (among q inside) in
      let n : IsLink p.test p.start g.o = l.each g.o g.inside in
      let P : ℕ → Type 0 = λ v. In v h.each in
      elim (which p y m top w s r g.o n) [
        | inl (same, no_more) ↦ absurd (not-both (is_moved m g.o) g.moved (left-not p y m top w s r g.o n same))
        | inr (re, (le, gone)) ↦
            let there : named mem q ≡ named p.start g.o =
            ap (λ a. named mem a) g.place
            ∙ (link-named r.test r.test m mem (new_place m g.o) z.content (new-link p y m top w s r g.o n x.rooms re le) ∙ new-named p y m top w s r g.o n x.rooms re le) in
            subst P (sym there) (h.all g.o g.inside re)
      ];
  words = omega (
    arith,
    h.words,
    total-same (record_words mem) (record_words p.start) h.each (λ v inside.
        let (n, o) = h.records v inside in
        record-size r.test mem v n (record-stays r.test r.test m mem v n z.content (record-goes p y m top w s r v n o)) ∙ sym (record-size p.test p.start v n o)),
  );
}
