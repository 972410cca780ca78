-- How printing goes on: what was written, with what is left, is the text of the whole term.
use Rattle.std.proofs.Common.{◌≡◌, ℕ, ◌+◌, ◌^◌, ◌<◌, ◌≤◌, nat_lt, nat_eq, Bool, true, false, List, [], ◌∷◌, ◌++◌, length, reverse, get_or, refl, sym, ap, ◌∙◌, subst, arith, append_assoc, append-nil, Option, Some, None, Result, Ok, Err, ◌⊎◌, inl, inr}
use Rattle.std.proofs.lemmas.Bool.{or_parts, ltb-false, and_parts}
use Rattle.std.proofs.lemmas.Bool.Decides.{nat_tests}
use Rattle.std.proofs.lemmas.List.{length-reverse}
use Rattle.std.specs.Prelude.{IsErr}
use Rattle.line_io.specs.Sink.{Grew, WritesTold}
use Rattle.line_io.proofs.Growth.{Grew-nil, Grew-append}
use Rattle.plain_term.specs.Tree.{Tree, Trees}
use Rattle.plain_term.specs.Measures.{nodes, nodes_of_all, depth}
use Rattle.plain_term.specs.Beyond.{node_limit, depth_limit}
use Rattle.plain_term.specs.Text.{text, text_as}
use Rattle.term_words.specs.Role.{always}
use Rattle.term_words.specs.Stands.{Stands}
use Rattle.term_order.specs.Named.{is_named, are_named}
use Rattle.term_order.proofs.Walks.{one-tree}
use Rattle.term_walk.proofs.Steps.{popped}
use Rattle.term_print.specs.declared.levels.Level.{Level}
use Rattle.term_print.specs.declared.levels.Part.{Part}
use Rattle.term_print.specs.declared.levels.Step.TheVariants as step
use Rattle.term_print.specs.Left.{mark_text, closing_text, level_taken, after_level, IsCountable, IsLeft, level_text, reach}
use Rattle.term_print.specs.Printed.{CanPrint, CanBegin, Opens, BeginsText}
use Rattle.term_print.specs.Going.{LevelsAreLeft, text_left, nodes_left, AreShallow, LeftAreNamed, IsPrintable, StaysPrintable, Printing, PrintsEach, PrintBegun, GoesOn}
use Rattle.term_print.specs.Runs.{CanGather, Gathers}
use Rattle.text_parts.proofs.Writing.{written-as, written-stops}
use Rattle.term_print.proofs.Taking.{IsMore, more_text, IsNoDeeper, Took, ends, took, countable}

-- A level on top of others that stand.
record TopLeft (c : ℕ → ℕ → Bool) (shared : List (List ℕ)) (mem : List ℕ) (l : Level) (ls : List Level) (rests : List Trees) : Type 0 where
  top : Trees
  others : List Trees
  cons : rests ≡ top ∷ others
  is_left : IsLeft c shared mem l top
  are_left : LevelsAreLeft c shared mem ls others

top-left : (c : ℕ → ℕ → Bool) (shared : List (List ℕ)) (mem : List ℕ) (l : Level) (ls : List Level) (rests : List Trees) → LevelsAreLeft c shared mem (l ∷ ls) rests → TopLeft c shared mem l ls rests
top-left c shared mem l ls [] bad = absurd bad
top-left c shared mem l ls (ts ∷ rests) (one, all) = record { top = ts; others = rests; cons = refl; is_left = one; are_left = all }

-- A word comes next: what came so far, a mark, its tree, and what is left then.

pub record NextFits (n : ℕ) (shared : List (List ℕ)) (now : Tree) (levels : List Level) (rests : List Trees) (seen : ℕ) : Type 0 where
  pub few : seen + (nodes shared now + nodes_left shared rests) ≤ node_limit
  pub room : length levels + depth now ≤ depth_limit
  pub shallow : AreShallow levels rests
  pub named : is_named n now ≡ true
  pub others_named : LeftAreNamed n rests

pub record Coming {K : Type 0} (c : ℕ → ℕ → Bool) (shared : List (List ℕ)) (mem : List ℕ) (names : List (List ℕ)) (t : Tree) (mark : List ℕ) (tail : Bool) (word : ℕ) (levels : List Level) (seen : ℕ)
    (wrote : K → List ℕ → Type 0) (start now : K) : Type 0 where
  pub next : Tree
  pub rests : List Trees
  pub came : List ℕ
  pub standing : Stands c shared mem word next
  pub left : LevelsAreLeft c shared mem levels rests
  pub whole : text names shared t ≡ came ++ ((mark ++ text_as names shared tail next) ++ text_left names shared levels rests)
  pub grew : Grew wrote start now came
  pub fits : IsPrintable (length names) shared t → NextFits (length names) shared next levels rests seen

-- The tree's own text is written, and the level of its parts is among the others.

record Pushed (c : ℕ → ℕ → Bool) (shared : List (List ℕ)) (mem : List ℕ) (names : List (List ℕ)) (tail : Bool) (now : Tree) (own : List ℕ) (levels new : List Level) (rests : List Trees)
    (seen : ℕ) : Type 0 where
  more : List Trees
  left : LevelsAreLeft c shared mem new more
  whole : text_as names shared tail now ++ text_left names shared levels rests ≡ own ++ text_left names shared new more
  fits : NextFits (length names) shared now levels rests seen → StaysPrintable (length names) shared new more (seen + 1)

pushed : (c : ℕ → ℕ → Bool) (shared : List (List ℕ)) (mem : List ℕ) (names : List (List ℕ)) (tail : Bool) (now : Tree) (own : List ℕ) (parts : Option Level) (levels : List Level)
    (rests : List Trees) (seen : ℕ)
    → LevelsAreLeft c shared mem levels rests → Opens c shared mem names tail now own parts → Pushed c shared mem names tail now own levels (after_level parts levels) rests seen
pushed c shared mem names tail now own None levels rests seen left o = record {
  more = rests;
  left = left;
  whole = ap (λ z. z ++ text_left names shared levels rests) o;
  fits = λ f. record { few = omega (arith, f.few, one-tree shared now); shallow = f.shallow; named = f.others_named };
}
pushed c shared mem names tail now own (Some l) levels rests seen left o = record {
  more = o.parts ∷ rests;
  left = (o.left, left);
  whole = ap (λ z. z ++ text_left names shared levels rests) o.whole ∙ append_assoc own (level_text names shared l o.parts) (text_left names shared levels rests);
  fits = λ f. record {
    few = omega (arith, f.few, o.fewer);
    shallow = (omega (arith, f.room, o.deep), f.shallow);
    named = (o.named f.named, f.others_named);
  };
}

-- The text after what came and the mark is that of the tree and what is left, or its own text and what is left then.

behind : (came mark a b own rest : List ℕ) → a ++ b ≡ own ++ rest → came ++ ((mark ++ a) ++ b) ≡ came ++ ((mark ++ own) ++ rest)
behind came mark a b own rest e = ap (λ z. came ++ z) (append_assoc mark a b ∙ ap (λ z. mark ++ z) e ∙ sym (append_assoc mark own rest))

-- A word's term was begun.

pub goes-on : {K E : Type 0} (c : ℕ → ℕ → Bool) (shared : List (List ℕ)) (mem : List ℕ) (names : List (List ℕ)) (t : Tree) (mark : List ℕ) (tail : Bool) (word : ℕ) (levels new : List Level) (seen : ℕ)
    (wrote : K → List ℕ → Type 0) (faults : K → ℕ) (start before after : K) (u : Unit {0}) → (n : Coming c shared mem names t mark tail word levels seen wrote start before)
    → BeginsText {K = K} {E = E} c shared mem names mark tail n.next levels new wrote faults before after (Ok u) → Printing c shared mem names t new (seen + 1) wrote start after
goes-on {K} {E} c shared mem names t mark tail word levels new seen wrote faults start before after u n b =
    let p : Pushed c shared mem names tail n.next b.own levels (after_level b.parts levels) n.rests seen = pushed c shared mem names tail n.next b.own b.parts levels n.rests seen n.left b.opens in
    let P : List Level → Type 0 = λ z. Printing c shared mem names t z (seen + 1) wrote start after in
    subst P (sym b.levels) (record {
      rests = p.more;
      came = n.came ++ (mark ++ b.own);
      left = p.left;
      whole = n.whole ∙ behind n.came mark (text_as names shared tail n.next) (text_left names shared levels n.rests) b.own (text_left names shared (after_level b.parts levels) p.more) p.whole
          ∙ sym (append_assoc n.came (mark ++ b.own) (text_left names shared (after_level b.parts levels) p.more));
      grew = Grew-append wrote start before after n.came (mark ++ b.own) n.grew b.written.all;
      fits = λ f. p.fits (n.fits f);
    })

-- A fault came in it.

pub goes-off : {K E F : Type 0} (c : ℕ → ℕ → Bool) (shared : List (List ℕ)) (mem : List ℕ) (names : List (List ℕ)) (t : Tree) (mark : List ℕ) (tail : Bool) (word : ℕ) (levels new : List Level)
    (seen : ℕ) (wrote : K → List ℕ → Type 0) (faults : K → ℕ) (start before after : K) (e : E) (r : Result (Unit {0}) F) → IsErr r → faults before ≡ faults start
    → (n : Coming c shared mem names t mark tail word levels seen wrote start before)
    → BeginsText c shared mem names mark tail n.next levels new wrote faults before after (Err e) → WritesTold wrote faults start after (text names shared t) r
goes-off {K} {E} {F} c shared mem names t mark tail word levels new seen wrote faults start before after e r failed same n b =
    let p : Pushed c shared mem names tail n.next b.own levels (after_level b.parts levels) n.rests seen = pushed c shared mem names tail n.next b.own b.parts levels n.rests seen n.left b.opens in
    written-stops wrote faults start before after (text names shared t) n.came (mark ++ b.own) (text_left names shared (after_level b.parts levels) p.more) e r failed n.grew same
    (n.whole ∙ behind n.came mark (text_as names shared tail n.next) (text_left names shared levels n.rests) b.own (text_left names shared (after_level b.parts levels) p.more) p.whole) b.written

-- The first word.

abbrev pub comes-first : {K : Type 0} (c : ℕ → ℕ → Bool) (shared : List (List ℕ)) (mem : List ℕ) (names : List (List ℕ)) (t : Tree) (w : ℕ) (wrote : K → List ℕ → Type 0) (start : K)
    → Stands c shared mem w t → Coming c shared mem names t [] false w [] 0 wrote start start
comes-first c shared mem names t w wrote start s = record {
  next = t;
  rests = [];
  came = [];
  standing = s;
  left = tt;
  whole = sym (append-nil (text names shared t));
  grew = Grew-nil wrote start;
  fits = λ f. record { few = omega (arith, f.few); room = omega (arith, f.shallow); shallow = tt; named = f.named; others_named = tt };
}

-- The word of a part.

record Kept (c : ℕ → ℕ → Bool) (shared : List (List ℕ)) (mem : List ℕ) (names : List (List ℕ)) (more : Option Level) (after : Trees) (levels : List Level) (rests : List Trees) : Type 0 where
  all : List Trees
  left : LevelsAreLeft c shared mem (after_level more levels) all
  whole : more_text names shared more after ++ text_left names shared levels rests ≡ text_left names shared (after_level more levels) all
  count : nodes_left shared all ≡ nodes_of_all shared after + nodes_left shared rests
  named : are_named (length names) after ≡ true → LeftAreNamed (length names) rests → LeftAreNamed (length names) all
  shallow : (now : Tree) (deep : ℕ) → IsNoDeeper more after now deep → length levels + deep ≤ depth_limit → AreShallow levels rests
      → AreShallow (after_level more levels) all × (length (after_level more levels) + depth now ≤ depth_limit)

kept : (c : ℕ → ℕ → Bool) (shared : List (List ℕ)) (mem : List ℕ) (names : List (List ℕ)) (more : Option Level) (after : Trees) (levels : List Level) (rests : List Trees)
    → LevelsAreLeft c shared mem levels rests → IsMore c shared mem more after → Kept c shared mem names more after levels rests
kept c shared mem names None after levels rests left m = record {
  all = rests;
  left = left;
  whole = refl;
  count = omega (arith, ap (nodes_of_all shared) m);
  named = λ p q. q;
  shallow = λ now deep d room s. (s, omega (arith, d, room));
}
kept c shared mem names (Some l) after levels rests left m = record {
  all = after ∷ rests;
  left = (m, left);
  whole = refl;
  count = refl;
  named = λ p q. (p, q);
  shallow = λ now deep d room s. ((omega (arith, d.1, room), s), omega (arith, d.0, room));
}

comes-part : {K : Type 0} (c : ℕ → ℕ → Bool) (shared : List (List ℕ)) (mem : List ℕ) (names : List (List ℕ)) (t : Tree) (l : Level) (ls : List Level) (p : Part) (seen : ℕ)
    (wrote : K → List ℕ → Type 0) (start now : K) → level_taken l ≡ step.Part p → Printing c shared mem names t (l ∷ ls) seen wrote start now
    → Coming c shared mem names t (mark_text p.mark) p.tail (get_or mem p.place 0) (after_level p.more ls) seen wrote start now
comes-part {K} c shared mem names t l ls p seen wrote start now e g =
    let top : TopLeft c shared mem l ls g.rests = top-left c shared mem l ls g.rests g.left in
    let k : Took c shared mem names l p top.top = took c shared mem names l p top.top top.is_left e in
    let v : Kept c shared mem names p.more k.after ls top.others = kept c shared mem names p.more k.after ls top.others top.are_left k.left in
    record {
      next = k.now;
      rests = v.all;
      came = g.came;
      standing = k.standing;
      left = v.left;
      whole = g.whole ∙ ap (λ z. g.came ++ text_left names shared (l ∷ ls) z) top.cons
          ∙ ap (λ z. g.came ++ z) (ap (λ z. z ++ text_left names shared ls top.others) k.whole ∙ ahead (mark_text p.mark) (text_as names shared p.tail k.now) (more_text names shared p.more k.after)
          (text_left names shared ls top.others) (text_left names shared (after_level p.more ls) v.all) v.whole);
      grew = g.grew;
      fits = λ f.
          let P : List Trees → Type 0 = λ z. StaysPrintable (length names) shared (l ∷ ls) z seen in
          let s : StaysPrintable (length names) shared (l ∷ ls) (top.top ∷ top.others) seen = subst P top.cons (g.fits f) in
          let (named, after_named) = and_parts (is_named (length names) k.now) (are_named (length names) k.after) (sym (ap (are_named (length names)) k.order) ∙ s.named.0) in
          let (shallow, room) = v.shallow k.now (reach l top.top) k.deep s.shallow.0 s.shallow.1 in
          record {
            few = omega (arith, s.few, v.count, ap (nodes_of_all shared) k.order);
            room = room;
            shallow = shallow;
            named = named;
            others_named = v.named after_named s.named.1;
          };
    }
  where
    ahead : (mark a m rest all : List ℕ) → m ++ rest ≡ all → (mark ++ (a ++ m)) ++ rest ≡ (mark ++ a) ++ all
    ahead mark a m rest all e = append_assoc mark (a ++ m) rest ∙ ap (λ z. mark ++ z) (append_assoc a m rest ∙ ap (λ z. a ++ z) e) ∙ sym (append_assoc mark a all)

-- An object ends.

level-ends : {K : Type 0} (c : ℕ → ℕ → Bool) (shared : List (List ℕ)) (mem : List ℕ) (names : List (List ℕ)) (t : Tree) (l : Level) (ls : List Level) (last : Bool) (seen : ℕ)
    (wrote : K → List ℕ → Type 0) (start now : K) → level_taken l ≡ step.End last → (g : Printing c shared mem names t (l ∷ ls) seen wrote start now)
    → (top : TopLeft c shared mem l ls g.rests) → text names shared t ≡ g.came ++ (closing_text last ++ text_left names shared ls top.others)
level-ends c shared mem names t l ls last seen wrote start now e g top =
    g.whole ∙ ap (λ z. g.came ++ text_left names shared (l ∷ ls) z) top.cons
    ∙ ap (λ z. g.came ++ (z ++ text_left names shared ls top.others)) (ends c shared mem names l last top.top top.is_left e)

end-goes : {K : Type 0} (c : ℕ → ℕ → Bool) (shared : List (List ℕ)) (mem : List ℕ) (names : List (List ℕ)) (t : Tree) (l : Level) (ls : List Level) (last : Bool) (seen : ℕ)
    (wrote : K → List ℕ → Type 0) (start before after : K) → level_taken l ≡ step.End last → Printing c shared mem names t (l ∷ ls) seen wrote start before
    → Grew wrote before after (closing_text last)
    → Printing c shared mem names t ls seen wrote start after
end-goes {K} c shared mem names t l ls last seen wrote start before after e g w =
    let top : TopLeft c shared mem l ls g.rests = top-left c shared mem l ls g.rests g.left in
    record {
      rests = top.others;
      came = g.came ++ closing_text last;
      left = top.are_left;
      whole = level-ends c shared mem names t l ls last seen wrote start before e g top ∙ sym (append_assoc g.came (closing_text last) (text_left names shared ls top.others));
      grew = Grew-append wrote start before after g.came (closing_text last) g.grew w;
      fits = λ f.
          let P : List Trees → Type 0 = λ z. StaysPrintable (length names) shared (l ∷ ls) z seen in
          let s : StaysPrintable (length names) shared (l ∷ ls) (top.top ∷ top.others) seen = subst P top.cons (g.fits f) in
          record { few = omega (arith, s.few); shallow = s.shallow.1; named = s.named.1 };
    }

end-stops : {K E F : Type 0} (c : ℕ → ℕ → Bool) (shared : List (List ℕ)) (mem : List ℕ) (names : List (List ℕ)) (t : Tree) (l : Level) (ls : List Level) (last : Bool) (seen : ℕ)
    (wrote : K → List ℕ → Type 0) (faults : K → ℕ)
    (start before after : K) (e : E) (r : Result (Unit {0}) F) → IsErr r → faults before ≡ faults start → level_taken l ≡ step.End last → Printing c shared mem names t (l ∷ ls) seen wrote start before
    → WritesTold wrote faults before after (closing_text last) (Err e) → WritesTold wrote faults start after (text names shared t) r
end-stops {K} {E} {F} c shared mem names t l ls last seen wrote faults start before after e r failed same is g w =
    let top : TopLeft c shared mem l ls g.rests = top-left c shared mem l ls g.rests g.left in
    written-stops wrote faults start before after (text names shared t) g.came (closing_text last) (text_left names shared ls top.others) e r failed g.grew same
    (level-ends c shared mem names t l ls last seen wrote start before is g top) w

-- What a level begins with was gathered and written, or a fault came in that.

gathered-text : {K : Type 0} (c : ℕ → ℕ → Bool) (shared : List (List ℕ)) (mem : List ℕ) (names : List (List ℕ)) (t : Tree) (l m : Level) (ls : List Level) (x : List ℕ) (seen : ℕ)
    (wrote : K → List ℕ → Type 0) (start before : K) → (g : Printing c shared mem names t (l ∷ ls) seen wrote start before) → (top : TopLeft c shared mem l ls g.rests)
    → (k : Gathers c shared mem names l m x top.top) → text names shared t ≡ g.came ++ (x ++ text_left names shared (m ∷ ls) (k.rest ∷ top.others))
gathered-text c shared mem names t l m ls x seen wrote start before g top k =
    g.whole ∙ ap (λ z. g.came ++ text_left names shared (l ∷ ls) z) top.cons
    ∙ ap (λ z. g.came ++ (z ++ text_left names shared ls top.others)) k.whole
    ∙ ap (λ z. g.came ++ z) (append_assoc x (level_text names shared m k.rest) (text_left names shared ls top.others))

gathered-goes : {K : Type 0} (c : ℕ → ℕ → Bool) (shared : List (List ℕ)) (mem : List ℕ) (names : List (List ℕ)) (t : Tree) (l m : Level) (ls : List Level) (x : List ℕ) (seen : ℕ)
    (wrote : K → List ℕ → Type 0) (start before after : K) → (g : Printing c shared mem names t (l ∷ ls) seen wrote start before)
    → ((ts : Trees) → IsLeft c shared mem l ts → Gathers c shared mem names l m x ts) → Grew wrote before after x → Printing c shared mem names t (m ∷ ls) seen wrote start after
gathered-goes c shared mem names t l m ls x seen wrote start before after g more w =
    let top : TopLeft c shared mem l ls g.rests = top-left c shared mem l ls g.rests g.left in
    let k : Gathers c shared mem names l m x top.top = more top.top top.is_left in
    record {
      rests = k.rest ∷ top.others;
      came = g.came ++ x;
      left = (k.left, top.are_left);
      whole = gathered-text c shared mem names t l m ls x seen wrote start before g top k ∙ sym (append_assoc g.came x (text_left names shared (m ∷ ls) (k.rest ∷ top.others)));
      grew = Grew-append wrote start before after g.came x g.grew w;
      fits = λ f.
          let P : List Trees → Type 0 = λ z. StaysPrintable (length names) shared (l ∷ ls) z seen in
          let s : StaysPrintable (length names) shared (l ∷ ls) (top.top ∷ top.others) seen = subst P top.cons (g.fits f) in
          record {
            few = omega (arith, s.few, k.fewer);
            shallow = (omega (arith, s.shallow.0, k.deep), s.shallow.1);
            named = (k.named s.named.0, s.named.1);
          };
    }

gathered-stops : {K E F : Type 0} (c : ℕ → ℕ → Bool) (shared : List (List ℕ)) (mem : List ℕ) (names : List (List ℕ)) (t : Tree) (l m : Level) (ls : List Level) (x : List ℕ) (seen : ℕ)
    (wrote : K → List ℕ → Type 0) (faults : K → ℕ) (start before after : K) (e : E) (r : Result (Unit {0}) F) → IsErr r → faults before ≡ faults start
    → (g : Printing c shared mem names t (l ∷ ls) seen wrote start before)
    → ((ts : Trees) → IsLeft c shared mem l ts → Gathers c shared mem names l m x ts) → WritesTold wrote faults before after x (Err e)
    → WritesTold wrote faults start after (text names shared t) r
gathered-stops c shared mem names t l m ls x seen wrote faults start before after e r failed same g more w =
    let top : TopLeft c shared mem l ls g.rests = top-left c shared mem l ls g.rests g.left in
    let k : Gathers c shared mem names l m x top.top = more top.top top.is_left in
    written-stops wrote faults start before after (text names shared t) g.came x (text_left names shared (m ∷ ls) (k.rest ∷ top.others)) e r failed g.grew same
    (gathered-text c shared mem names t l m ls x seen wrote start before g top k) w

-- All is written where no level is left.

all-came : {K E : Type 0} (c : ℕ → ℕ → Bool) (shared : List (List ℕ)) (mem : List ℕ) (names : List (List ℕ)) (t : Tree) (levels : List Level) (seen : ℕ) (wrote : K → List ℕ → Type 0)
    (faults : K → ℕ) (start now : K) (u : Unit {0})
    → levels ≡ [] → faults now ≡ faults start → Printing c shared mem names t levels seen wrote start now → WritesTold {K = K} {E = E} wrote faults start now (text names shared t) (Ok u)
all-came {K} {E} c shared mem names t levels seen wrote faults start now u none same g =
    let e : text names shared t ≡ g.came = g.whole ∙ ap (λ z. g.came ++ text_left names shared z g.rests) none ∙ append-nil g.came in
    let P : List ℕ → Type 0 = λ z. Grew wrote start now z in
    record { all = subst P (sym e) g.grew; part = tt; later = omega (arith, same); rose = tt; told = same }

-- The levels as a stack keeps them: the innermost one last. All this is so for each tree that the first word stands for.

pub prints-popped : {K : Type 0} (mem : List ℕ) (names : List (List ℕ)) (first : ℕ) (xs ys : List Level) (l : Level) (seen : ℕ) (wrote : K → List ℕ → Type 0) (start now : K) → xs ≡ ys ++ l ∷ []
    → PrintsEach mem names first (reverse xs) seen wrote start now → PrintsEach mem names first (l ∷ reverse ys) seen wrote start now
prints-popped {K} mem names first xs ys l seen wrote start now e p = let P : List Level → Type 0 = λ z. PrintsEach mem names first z seen wrote start now in subst P (popped xs ys l e) p

pub prints-first : {K E : Type 0} (mem : List ℕ) (names : List (List ℕ)) (w : ℕ) (old new : List Level) (wrote : K → List ℕ → Type 0) (faults : K → ℕ) (start after : K) (u : Unit {0}) → old ≡ []
    → ((c : ℕ → ℕ → Bool) (shared : List (List ℕ)) (now : Tree) → Stands c shared mem w now → BeginsText {K = K} {E = E} c shared mem names [] false now old new wrote faults start after (Ok u))
    → PrintsEach mem names w new 1 wrote start after
prints-first {K} {E} mem names w old new wrote faults start after u none b = λ c shared t s.
    let P : List Level → Type 0 = λ z. BeginsText {K = K} {E = E} c shared mem names [] false t z new wrote faults start after (Ok u) in
    goes-on c shared mem names t [] false w [] new 0 wrote faults start start after u (comes-first c shared mem names t w wrote start s) (subst P none (b c shared t s))

pub first-stops : {K E F : Type 0} (mem : List ℕ) (names : List (List ℕ)) (w : ℕ) (old new : List Level) (wrote : K → List ℕ → Type 0) (faults : K → ℕ) (start after : K) (e : E)
    (r : Result (Unit {0}) F) → IsErr r → old ≡ []
    → ((c : ℕ → ℕ → Bool) (shared : List (List ℕ)) (now : Tree) → Stands c shared mem w now → BeginsText {K = K} {E = E} c shared mem names [] false now old new wrote faults start after (Err e))
    → (c : ℕ → ℕ → Bool) (shared : List (List ℕ)) (t : Tree) → Stands c shared mem w t → WritesTold wrote faults start after (text names shared t) r
first-stops {K} {E} {F} mem names w old new wrote faults start after e r failed none b = λ c shared t s.
    let P : List Level → Type 0 = λ z. BeginsText {K = K} {E = E} c shared mem names [] false t z new wrote faults start after (Err e) in
    goes-off c shared mem names t [] false w [] new 0 wrote faults start start after e r failed refl (comes-first c shared mem names t w wrote start s) (subst P none (b c shared t s))

-- What is gathered of a level, of all trees.
abbrev pub AllGather : List ℕ → (l m : Level) → List ℕ → Type 0
AllGather mem l m x = (c : ℕ → ℕ → Bool) (shared names : List (List ℕ)) (ts : Trees) → IsLeft c shared mem l ts → Gathers c shared mem names l m x ts

pub prints-gathered : {K : Type 0} (mem : List ℕ) (names : List (List ℕ)) (w : ℕ) (xs ys : List Level) (l m : Level) (x put : List ℕ) (seen : ℕ) (wrote : K → List ℕ → Type 0)
    (start before after : K) → xs ≡ ys ++ l ∷ [] → put ≡ x → PrintsEach mem names w (reverse xs) seen wrote start before → AllGather mem l m x → Grew wrote before after put
    → PrintsEach mem names w (m ∷ reverse ys) seen wrote start after
prints-gathered {K} mem names w xs ys l m x put seen wrote start before after items e p more g = λ c shared t s.
    let P : List ℕ → Type 0 = λ z. Grew wrote before after z in
    gathered-goes c shared mem names t l m (reverse ys) x seen wrote start before after (prints-popped mem names w xs ys l seen wrote start before items p c shared t s) (more c shared names)
    (subst P e g)

pub prints-gathered-stops : {K E F : Type 0} (mem : List ℕ) (names : List (List ℕ)) (w : ℕ) (xs ys : List Level) (l m : Level) (x put : List ℕ) (seen : ℕ) (wrote : K → List ℕ → Type 0)
    (faults : K → ℕ) (start before after : K) (e : E) (r : Result (Unit {0}) F) → IsErr r → faults before ≡ faults start → xs ≡ ys ++ l ∷ [] → put ≡ x
    → PrintsEach mem names w (reverse xs) seen wrote start before → AllGather mem l m x → WritesTold wrote faults before after put (Err e)
    → (c : ℕ → ℕ → Bool) (shared : List (List ℕ)) (t : Tree) → Stands c shared mem w t → WritesTold wrote faults start after (text names shared t) r
prints-gathered-stops mem names w xs ys l m x put seen wrote faults start before after e r failed same items is p more g = λ c shared t s.
    gathered-stops c shared mem names t l m (reverse ys) x seen wrote faults start before after e r failed same (prints-popped mem names w xs ys l seen wrote start before items p c shared t s)
    (more c shared names) (written-as wrote faults before after put x (Err e) is g)

pub prints-end : {K : Type 0} (mem : List ℕ) (names : List (List ℕ)) (w : ℕ) (l : Level) (ls : List Level) (last : Bool) (seen : ℕ) (wrote : K → List ℕ → Type 0) (start before after : K)
    → level_taken l ≡ step.End last → PrintsEach mem names w (l ∷ ls) seen wrote start before → Grew wrote before after (closing_text last) → PrintsEach mem names w ls seen wrote start after
prints-end mem names w l ls last seen wrote start before after e p g = λ c shared t s. end-goes c shared mem names t l ls last seen wrote start before after e (p c shared t s) g

pub prints-end-stops : {K E F : Type 0} (mem : List ℕ) (names : List (List ℕ)) (w : ℕ) (l : Level) (ls : List Level) (last : Bool) (seen : ℕ) (wrote : K → List ℕ → Type 0) (faults : K → ℕ)
    (start before after : K) (e : E)
    (r : Result (Unit {0}) F) → IsErr r → faults before ≡ faults start → level_taken l ≡ step.End last → PrintsEach mem names w (l ∷ ls) seen wrote start before
    → WritesTold wrote faults before after (closing_text last) (Err e)
    → (c : ℕ → ℕ → Bool) (shared : List (List ℕ)) (t : Tree) → Stands c shared mem w t → WritesTold wrote faults start after (text names shared t) r
prints-end-stops mem names w l ls last seen wrote faults start before after e r failed same is p g = λ c shared t s.
    end-stops c shared mem names t l ls last seen wrote faults start before after e r failed same is (p c shared t s) g

pub prints-part : {K E : Type 0} (mem : List ℕ) (names : List (List ℕ)) (w : ℕ) (l : Level) (ls : List Level) (p : Part) (word : ℕ) (old new : List Level) (seen : ℕ) (wrote : K → List ℕ → Type 0)
    (faults : K → ℕ) (start before after : K) (u : Unit {0}) → level_taken l ≡ step.Part p → word ≡ get_or mem p.place 0 → old ≡ after_level p.more ls
    → PrintsEach mem names w (l ∷ ls) seen wrote start before
    → ((c : ℕ → ℕ → Bool) (shared : List (List ℕ)) (now : Tree) → Stands c shared mem word now
    → BeginsText {K = K} {E = E} c shared mem names (mark_text p.mark) p.tail now old new wrote faults before after (Ok u))
    → PrintsEach mem names w new (seen + 1) wrote start after
prints-part {K} {E} mem names w l ls p word old new seen wrote faults start before after u e at is g b = λ c shared t s.
    let n : Coming c shared mem names t (mark_text p.mark) p.tail (get_or mem p.place 0) (after_level p.more ls) seen wrote start before = comes-part c shared mem names t l ls p seen wrote start
    before e (g c shared t s) in
    let P : List Level → Type 0 = λ z. BeginsText {K = K} {E = E} c shared mem names (mark_text p.mark) p.tail n.next z new wrote faults before after (Ok u) in
    let Q : ℕ → Type 0 = λ z. Stands c shared mem z n.next in
    goes-on c shared mem names t (mark_text p.mark) p.tail (get_or mem p.place 0) (after_level p.more ls) new seen wrote faults start before after u n
    (subst P is (b c shared n.next (subst Q (sym at) n.standing)))

pub prints-part-stops : {K E F : Type 0} (mem : List ℕ) (names : List (List ℕ)) (w : ℕ) (l : Level) (ls : List Level) (p : Part) (word : ℕ) (old new : List Level) (seen : ℕ)
    (wrote : K → List ℕ → Type 0) (faults : K → ℕ)
    (start before after : K) (x : E) (r : Result (Unit {0}) F) → IsErr r → faults before ≡ faults start → level_taken l ≡ step.Part p → word ≡ get_or mem p.place 0 → old ≡ after_level p.more ls
    → PrintsEach mem names w (l ∷ ls) seen wrote start before
    → ((c : ℕ → ℕ → Bool) (shared : List (List ℕ)) (now : Tree) → Stands c shared mem word now
    → BeginsText {K = K} {E = E} c shared mem names (mark_text p.mark) p.tail now old new wrote faults before after (Err x))
    → (c : ℕ → ℕ → Bool) (shared : List (List ℕ)) (t : Tree) → Stands c shared mem w t → WritesTold wrote faults start after (text names shared t) r
prints-part-stops {K} {E} {F} mem names w l ls p word old new seen wrote faults start before after x r failed same e at is g b = λ c shared t s.
    let n : Coming c shared mem names t (mark_text p.mark) p.tail (get_or mem p.place 0) (after_level p.more ls) seen wrote start before = comes-part c shared mem names t l ls p seen wrote start
    before e (g c shared t s) in
    let P : List Level → Type 0 = λ z. BeginsText {K = K} {E = E} c shared mem names (mark_text p.mark) p.tail n.next z new wrote faults before after (Err x) in
    let Q : ℕ → Type 0 = λ z. Stands c shared mem z n.next in
    goes-off c shared mem names t (mark_text p.mark) p.tail (get_or mem p.place 0) (after_level p.more ls) new seen wrote faults start before after x r failed same n
    (subst P is (b c shared n.next (subst Q (sym at) n.standing)))

pub prints-all : {K E : Type 0} (mem : List ℕ) (names : List (List ℕ)) (w : ℕ) (levels : List Level) (seen : ℕ) (wrote : K → List ℕ → Type 0) (faults : K → ℕ) (start now : K) (u : Unit {0})
    → levels ≡ [] → faults now ≡ faults start → PrintsEach mem names w levels seen wrote start now
    → (c : ℕ → ℕ → Bool) (shared : List (List ℕ)) (t : Tree) → Stands c shared mem w t → WritesTold {K = K} {E = E} wrote faults start now (text names shared t) (Ok u)
prints-all mem names w levels seen wrote faults start now u none same p = λ c shared t s. all-came c shared mem names t levels seen wrote faults start now u none same (p c shared t s)

-- What the calls of a step ask for.

pub printable : (mem : List ℕ) (names : List (List ℕ)) (w : ℕ) → (h : CanPrint mem names w) → IsPrintable (length names) h.shared h.tree
printable mem names w h =
    let (few, shallow) = or_parts (nat_lt node_limit (nodes h.shared h.tree)) (nat_lt depth_limit (depth h.tree)) h.within in
    record { few = ltb-false node_limit (nodes h.shared h.tree) few; shallow = ltb-false depth_limit (depth h.tree) shallow; named = h.named }

pub first-begins : (mem : List ℕ) (names : List (List ℕ)) (w : ℕ) → CanPrint mem names w → CanBegin mem names w
first-begins mem names w h = record { shared = h.shared; now = h.tree; standing = h.standing; named = h.named }

-- What a step may ask of the next part, and how many nodes were seen.
pub record PartAsks (mem : List ℕ) (names : List (List ℕ)) (p : Part) (seen : ℕ) : Type 0 where
  pub within : p.place < length mem
  pub begins : CanBegin mem names (get_or mem p.place 0)
  pub few : seen + 1 ≤ node_limit

pub part-asks : {K : Type 0} (mem : List ℕ) (names : List (List ℕ)) (w : ℕ) (l : Level) (ls : List Level) (p : Part) (seen : ℕ) (wrote : K → List ℕ → Type 0) (start now : K)
    → CanPrint mem names w → level_taken l ≡ step.Part p → PrintsEach mem names w (l ∷ ls) seen wrote start now → PartAsks mem names p seen
part-asks mem names w l ls p seen wrote start now h e g =
    let here = g always h.shared h.tree h.standing in
    let n = comes-part always h.shared mem names h.tree l ls p seen wrote start now e here in
    let f = n.fits (printable mem names w h) in
    let top = top-left always h.shared mem l ls here.rests here.left in
    let k = took always h.shared mem names l p top.top top.is_left e in
    record {
      within = k.within;
      begins = record { shared = h.shared; now = n.next; standing = n.standing; named = f.named };
      few = omega (arith, f.few, one-tree h.shared n.next);
    }

pub begins-kept : (mem : List ℕ) (names : List (List ℕ)) (p : Part) (seen word : ℕ) → word ≡ get_or mem p.place 0 → PartAsks mem names p seen → CanBegin mem names word
begins-kept mem names p seen word at a = let P : ℕ → Type 0 = λ z. CanBegin mem names z in subst P (sym at) a.begins

pub level-gathers : {K : Type 0} (mem : List ℕ) (names : List (List ℕ)) (w : ℕ) (l : Level) (ls : List Level) (seen : ℕ) (wrote : K → List ℕ → Type 0) (start now : K) → CanPrint mem names w
    → PrintsEach mem names w (l ∷ ls) seen wrote start now → CanGather mem l
level-gathers mem names w l ls seen wrote start now h g =
    let here = g always h.shared h.tree h.standing in
    let top = top-left always h.shared mem l ls here.rests here.left in
    record { shared = h.shared; ts = top.top; left = top.is_left }

pub level-counts : {K : Type 0} (mem : List ℕ) (names : List (List ℕ)) (w : ℕ) (l : Level) (ls : List Level) (seen : ℕ) (wrote : K → List ℕ → Type 0) (start now : K) → CanPrint mem names w
    → length mem ≤ 2 ^ 24 → PrintsEach mem names w (l ∷ ls) seen wrote start now → IsCountable l
level-counts mem names w l ls seen wrote start now h most g =
    let here = g always h.shared h.tree h.standing in
    let top = top-left always h.shared mem l ls here.rests here.left in
    countable always h.shared mem l top.top most top.is_left

pub seen-few : {K : Type 0} (mem : List ℕ) (names : List (List ℕ)) (w : ℕ) (levels : List Level) (seen : ℕ) (wrote : K → List ℕ → Type 0) (start now : K) → CanPrint mem names w
    → PrintsEach mem names w levels seen wrote start now → seen ≤ node_limit
seen-few mem names w levels seen wrote start now h g =
    let here = g always h.shared h.tree h.standing in
    let f = here.fits (printable mem names w h) in
    omega (arith, f.few)

-- A step adds at most one level to those before it.

one-more : (m : Option Level) (ls : List Level) → length (after_level m ls) ≤ length ls + 1
one-more None ls = omega arith
one-more (Some l) ls = omega arith

pub levels-grow : (parts more : Option Level) (ls mid new : List Level) → mid ≡ after_level more ls → new ≡ after_level parts mid → length new ≤ length ls + 2
levels-grow parts more ls mid new e f = omega (arith, ap length e, ap length f, one-more more ls, one-more parts mid)

-- No more levels are left than a walk has, and one.

shallow-few : (c : ℕ → ℕ → Bool) (shared : List (List ℕ)) (mem : List ℕ) (levels : List Level) (rests : List Trees) → LevelsAreLeft c shared mem levels rests → AreShallow levels rests
    → length levels ≤ depth_limit + 1
shallow-few c shared mem [] rests left s = omega arith
shallow-few c shared mem (l ∷ ls) [] bad s = absurd bad
shallow-few c shared mem (l ∷ ls) (ts ∷ rests) left s = omega (arith, s.0)

pub levels-few : {K : Type 0} (mem : List ℕ) (names : List (List ℕ)) (w : ℕ) (levels : List Level) (seen : ℕ) (wrote : K → List ℕ → Type 0) (start now : K) → CanPrint mem names w
    → PrintsEach mem names w levels seen wrote start now → length levels ≤ depth_limit + 1
levels-few mem names w levels seen wrote start now h g =
    let here = g always h.shared h.tree h.standing in
    shallow-few always h.shared mem levels here.rests here.left (here.fits (printable mem names w h)).shallow

-- Where not all levels are taken, one stays free after a level was taken off and another kept.
pub keeps-room : (n : ℕ) (m : Option Level) (xs ys new : List Level) → length xs ≡ length ys + 1 → reverse new ≡ after_level m (reverse ys) → length xs + 1 ≤ n → length new < n
keeps-room n m xs ys new len is few = omega (arith, len, few, ap length is, one-more m (reverse ys), length-reverse new, length-reverse ys)

-- Nothing is left where levels beyond those of a walk stay free.
pub none-left : {K : Type 0} (mem : List ℕ) (names : List (List ℕ)) (w : ℕ) (items : List Level) (seen : ℕ) (wrote : K → List ℕ → Type 0) (start now : K) → CanPrint mem names w
    → PrintsEach mem names w (reverse items) seen wrote start now → (items ≡ []) ⊎ (length items ≡ depth_limit + 2) → reverse items ≡ []
none-left mem names w items seen wrote start now h g (inl e) = ap reverse e
none-left mem names w items seen wrote start now h g (inr e) = absurd (omega (arith, e, levels-few mem names w (reverse items) seen wrote start now h g, length-reverse items))

-- A fault ends it.
pub stops : {K E : Type 0} (mem : List ℕ) (names : List (List ℕ)) (first : ℕ) (levels : List Level) (wrote : K → List ℕ → Type 0) (faults : K → ℕ) (start now : K) (r : Result ℕ E) → IsErr r
    → ((q : Result (Unit {0}) E) → IsErr q → (c : ℕ → ℕ → Bool) (shared : List (List ℕ)) (t : Tree) → Stands c shared mem first t → WritesTold wrote faults start now (text names shared t) q)
    → GoesOn mem names first levels wrote faults start now r
stops mem names first levels wrote faults start now (Ok n) bad w = absurd cc
stops mem names first levels wrote faults start now (Err e) failed w = w (Err e) failed

-- The text was not written, whatever the fault.
pub unwritten : {K E F : Type 0} (wrote : K → List ℕ → Type 0) (faults : K → ℕ) (start now : K) (x : List ℕ) (e : E) (r : Result (Unit {0}) F) → IsErr r
    → WritesTold wrote faults start now x (Err e) → WritesTold wrote faults start now x r
unwritten wrote faults start now x e (Ok u) bad w = absurd cc
unwritten wrote faults start now x e (Err f) failed w = record { all = tt; part = w.part; later = w.later; rose = w.rose; told = tt }

-- The first word's term was begun.
pub begun-first : {K E : Type 0} (mem : List ℕ) (names : List (List ℕ)) (w : ℕ) (old new : List Level) (wrote : K → List ℕ → Type 0) (faults : K → ℕ) (start after : K) (u : Unit {0}) → old ≡ []
    → CanPrint mem names w
    → ((c : ℕ → ℕ → Bool) (shared : List (List ℕ)) (now : Tree) → Stands c shared mem w now → BeginsText {K = K} {E = E} c shared mem names [] false now old new wrote faults start after (Ok u))
    → PrintBegun mem names w new 1 wrote faults start after
begun-first {K} {E} mem names w old new wrote faults start after u none h b = record {
  prints = prints-first mem names w old new wrote faults start after u none b;
  told = (b always h.shared h.tree h.standing).written.told;
}

pub length-none : (items : List Level) → true ≡ nat_eq (length items) 0 → items ≡ []
length-none [] e = refl
length-none (l ∷ ls) e = absurd (omega (arith, zero-length (length (l ∷ ls)) e))
  where
    zero-length : (n : ℕ) → true ≡ nat_eq n 0 → n ≡ 0
    zero-length n e = grind (arith, nat_tests)
