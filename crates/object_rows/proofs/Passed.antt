-- The next holder or fun of a row is looked for, and its record counts it once less.
use Rattle.std.proofs.Common.{◌≡◌, ℕ, ◌+◌, ◌-◌, ◌/◌, ◌%◌, ◌<◌, ◌≤◌, ◌⊎◌, if◌then◌else◌, Bool, true, false, List, [], ◌∷◌, ◌++◌, length, get_or, set, refl, sym, ◌∙◌, ap, subst, arith, inl, inr, get_or-set_other}
use Rattle.std.proofs.lemmas.Bool.{cases_Bool}
use Rattle.std.proofs.lemmas.List.{append_assoc}
use Rattle.std.proofs.lemmas.Grind.{get_or-set_at}
use Rattle.term_words.specs.Role.{COUNT, IsSingle, Idle}
use Rattle.term_words.specs.Object.{object_words}
use Rattle.term_words.specs.Kept.{Kept}
use Rattle.shared_rec.proofs.Records.{record-counted, record-stays, role-idle}
use Rattle.off_heap_list.specs.Links.{names_it, named, naming, IsLink, Links}
use Rattle.off_heap_list.proofs.Chaining.Chained.{idle-kept, idle-kept-back, leads-stays, link-stays, naming-stays, no-naming, one-naming, record-inside, roles-apart}
use Rattle.object_rows.specs.Dropped.{IsNextLink}
use Rattle.object_rows.specs.Row.{AreObjects, is_link, is_link_header, links_in}
use Rattle.object_rows.proofs.Rows.{Next, next-by, small, large, six, ends, ended-row, no-more}

-- So far no object named a record.
pub record Passing (mem : List ℕ) (at to : ℕ) (ws : List ℕ) : Type 0 where
  pub before : List ℕ
  pub rest : List ℕ
  pub is : ws ≡ before ++ rest
  pub none : links_in mem before ≡ []
  pub are : AreObjects mem at rest to

pub passing-begins : (mem : List ℕ) (from to : ℕ) (ws : List ℕ) → AreObjects mem from ws to → Passing mem from to ws
passing-begins mem from to ws are = record { before = []; rest = ws; is = refl; none = refl; are = are }

links-joined : (mem xs ys : List ℕ) → links_in mem xs ≡ [] → links_in mem (xs ++ ys) ≡ links_in mem ys
links-joined mem [] ys e = refl
links-joined mem (x ∷ xs) ys e = elim (cases_Bool (is_link mem x)) [
  | inl l ↦ (let P : Bool → Type 0 = λ b. (if b then x / 4 ∷ links_in mem xs else links_in mem xs) ≡ [] in absurd (omega (arith, ap length (subst P l e))))
  | inr n ↦ (let P : Bool → Type 0 = λ b. (if b then x / 4 ∷ links_in mem xs else links_in mem xs) ≡ [] in rw n (links-joined mem xs ys (subst P n e)))
]

module _ (mem : List ℕ) (at to : ℕ) (ws : List ℕ) (g : Passing mem at to ws) where
  pub passing-ends : to ≤ at → links_in mem ws ≡ []
  passing-ends over =
      let over-rest : g.rest ≡ [] = ended-row mem at g.rest to g.are over in
      ap (links_in mem) (g.is ∙ (ap (λ ys. g.before ++ ys) over-rest ∙ no-more g.before)) ∙ g.none

  module _ (some : at < to) (word : ℕ) (was : word ≡ get_or mem at 0) where
    x : Next mem at g.rest to
    x = next-by mem at g.rest to g.are some

    passes : (next : ℕ) → next ≡ at + object_words mem x.w → is_link mem x.w ≡ false → Passing mem next to ws
    passes next e none =
        let P : ℕ → Type 0 = λ a. AreObjects mem a x.later to in
        record {
          before = g.before ++ x.w ∷ [];
          rest = x.later;
          is = g.is ∙ (ap (λ ys. g.before ++ ys) x.is ∙ sym (append_assoc g.before (x.w ∷ []) x.later));
          none = links-joined mem g.before (x.w ∷ []) g.none ∙ ap (λ b. if b then x.w / 4 ∷ [] else []) none;
          are = subst P (sym e) x.are;
        }

    pub passing-small : (word % 4 ≡ 0 → ⊥) → Passing mem (at + 2) to ws
    passing-small t =
        let (size, none) = small mem at g.rest to x (λ e. t (ap (λ a. a % 4) was ∙ e)) in
        passes (at + 2) (omega (arith, size)) none

    module _ (t : word % 4 ≡ 0) where
      zero-tag : get_or mem at 0 % 4 ≡ 0
      zero-tag = ap (λ a. a % 4) (sym was) ∙ t

      size : at + (1 + word / 64) ≡ at + object_words mem x.w
      size = omega (arith, (large mem at g.rest to x zero-tag).0, ap (λ a. a / 64) was)

      pub passing-large : is_link_header word ≡ false → Passing mem (at + (1 + word / 64)) to ws
      passing-large none = passes (at + (1 + word / 64)) size ((large mem at g.rest to x zero-tag).1 ∙ (ap is_link_header (sym was) ∙ none))

      pub passing-within : at + (1 + word / 64) ≤ to
      passing-within = omega (arith, size, ends mem at g.rest to x)

      pub passing-found : is_link_header word ≡ true → IsNextLink mem ws to at (at + (1 + word / 64))
      passing-found l =
          let P : ℕ → Type 0 = λ a. AreObjects mem a x.later to in
          record {
            before = g.before;
            pointer = x.w;
            later = x.later;
            is = g.is ∙ ap (λ ys. g.before ++ ys) x.is;
            none = g.none;
            link = (large mem at g.rest to x zero-tag).1 ∙ (ap is_link_header (sym was) ∙ l);
            place = x.place;
            rest = subst P (sym size) x.are;
            six = omega (arith, size, (large mem at g.rest to x zero-tag).0, six mem at g.rest to x zero-tag (ap is_link_header (sym was) ∙ l));
            ends = omega (arith, size, ends mem at g.rest to x);
          }

pub next-are : (mem ws : List ℕ) (to object next : ℕ) (f : IsNextLink mem ws to object next) → links_in mem ws ≡ object ∷ links_in mem f.later
next-are mem ws to object next f =
    ap (links_in mem) f.is
    ∙ (links-joined mem f.before (f.pointer ∷ f.later) f.none
    ∙ (ap (λ b. if b then f.pointer / 4 ∷ links_in mem f.later else links_in mem f.later) f.link ∙ ap (λ a. a ∷ links_in mem f.later) f.place))

-- An object beside a chain is counted no more.
pub beside-less : (c : ℕ → ℕ → Bool) (old : List ℕ) (head o : ℕ) (os further : List ℕ) → IsSingle c → Links c old head os (o ∷ further)
    → Links c (set old (named old o + 2) (get_or old (named old o + 2) 0 - 1)) head os further
beside-less c old head o os further single l =
    let k : IsLink c old o = l.beside o (inl refl) in
    let counted : c (named old o + 2) COUNT ≡ true = record-counted c old (named old o) k.words k.record_is in
    let idle : Idle c (named old o + 2) = role-idle c (named old o + 2) COUNT single counted (omega arith) in
    let kept : Kept c c old (set old (named old o + 2) (get_or old (named old o + 2) 0 - 1)) = idle-kept c old (named old o + 2) (get_or old (named old o + 2) 0 - 1) idle in
    let back : Kept c c (set old (named old o + 2) (get_or old (named old o + 2) 0 - 1)) old = idle-kept-back c old (named old o + 2) (get_or old (named old o + 2) 0 - 1) idle in
    let here : (v : ℕ) → naming (set old (named old o + 2) (get_or old (named old o + 2) 0 - 1)) v os ≡ naming old v os = λ v. naming-stays c c old _ v os kept l.each in
    let there : (v : ℕ) → naming (set old (named old o + 2) (get_or old (named old o + 2) 0 - 1)) v further ≡ naming old v further =
    λ v. naming-stays c c old _ v further kept (λ p i. l.beside p (inr i)) in
    record {
      chain = leads-stays old (set old (named old o + 2) (get_or old (named old o + 2) 0 - 1)) head os 0 (λ p i.
          get_or-set_other old (named old o + 2) (p + 2) (get_or old (named old o + 2) 0 - 1) 0 (λ e.
          roles-apart c (p + 2) (named old o + 2) single (l.each p i).next counted e)) l.chain;
      once = l.once;
      each = λ p i. link-stays c c old _ p kept (l.each p i);
      beside = λ p i. link-stays c c old _ p kept (l.beside p (inr i));
      counts = λ v n s.
          let before : get_or old (v + 2) 0 ≡ naming old v os + (names_it (named old o) v + naming old v further) = l.counts v n (record-stays c c _ old v n back s) in
          let which : (v ≡ named old o) ⊎ ((named old o < v) ⊎ (v < named old o)) = grind arith in
          elim which [
            | inl e ↦
                let now : get_or (set old (named old o + 2) (get_or old (named old o + 2) 0 - 1)) (v + 2) 0 ≡ get_or old (named old o + 2) 0 - 1 =
                get_or-set_at old (named old o + 2) (v + 2) (get_or old (named old o + 2) 0 - 1) 0 (omega (arith, e)) (omega (arith, record-inside c old (named old o) k.words k.record_is)) in
                let was : get_or old (named old o + 2) 0 ≡ get_or old (v + 2) 0 = ap (λ u. get_or old (u + 2) 0) (sym e) in
                omega (arith, now, was, before, one-naming (named old o) v (sym e), here v, there v)
            | inr far ↦
                let now : get_or (set old (named old o + 2) (get_or old (named old o + 2) 0 - 1)) (v + 2) 0 ≡ get_or old (v + 2) 0 =
                get_or-set_other old (named old o + 2) (v + 2) (get_or old (named old o + 2) 0 - 1) 0 (λ e. omega (arith, e, far)) in
                omega (arith, now, before, no-naming (named old o) v far, here v, there v)
          ];
    }
