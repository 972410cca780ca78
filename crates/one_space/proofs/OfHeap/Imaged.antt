-- The image of the memory stands for each state that the memory stands for.
use Rattle.std.proofs.Common.{◌≡◌, ℕ, ◌+◌, ◌-◌, ◌/◌, ◌<◌, ◌≤◌, ◌⊎◌, ◌&&◌, Bool, true, false, nat_le, nat_lt, List, []}
use Rattle.std.proofs.Common.{◌∷◌, ◌++◌, length, map, flat_map, take, drop, get_or, reverse, inl, inr, refl, sym, ap, arith}
use Rattle.std.proofs.lemmas.Bool.{and_from, false≢true, or_cases, or_left, or_right}
use Rattle.std.proofs.lemmas.Bool.Decides.{nat_tests}
use Rattle.std.proofs.lemmas.List.{length-drop, length-take-le, reverse-append, reverse-reverse}
use Rattle.std.proofs.lemmas.List.Concat.{flat_map-cons}
use Rattle.plain_term.specs.Bytes.{shared_bytes}
use Rattle.plain_term.specs.Tree.{Tree}
use Rattle.plain_term.specs.Tree.Trees.{end}
use Rattle.plain_machine.specs.State.{Process, State}
use Rattle.store_image.specs.Image.{AllBins, AllFuns, AllLiterals, AllRooted, AllWithin, FollowEachOther, HasPieces, Image, ImageStands, LeadInto, LiesIn, Stretch, RecordsTold, RootedStands, WordsStand, areas_by_name}
use Rattle.store_image.specs.Image.{halves_in, holds_words, image_roots, piece_places, pieces_by_place, process_roots}
use Rattle.store_image.proofs.Pieces.Ordered.{AllPieces, EachTwo, HasWords, PiecesApart, bins-any, each-once, follow-ordered, funs-any, has-any, has-both, lies-any, lies-left, lies-right, ordered}
use Rattle.store_image.proofs.Pieces.Ordered.{place-any, places-both, two-ordered, within-any, within-both}
use Rattle.term_words.specs.Role.{IsSingle}
use Rattle.plain_term.specs.Measures.{bin_words}
use Rattle.term_words.specs.Object.{IsPointer, IsRecord, object_words}
use Rattle.term_words.specs.Reach.{Reach, root, part}
use Rattle.term_words.specs.Stands.{Stands}
use Rattle.term_words.specs.Counted.{In, Distinct}
use Rattle.term_words.proofs.Reaching.Reached.{reached}
use Rattle.term_words.proofs.Placing.Roles.{object-role, object-some, record-role, record-some, records-apart}
use Rattle.term_words.proofs.Totals.Members.{in-at, in-both, in-left, in-right}
use Rattle.shared_rec.specs.Record.{owner_in}
use Rattle.shared_rec.proofs.Records.{record-size}
use Rattle.record_move.specs.Copies.{record_words}
use Rattle.record_move.specs.Tables.{OwnersRise}
use Rattle.cheney.specs.Plan.{Plan}
use Rattle.cheney.proofs.Rooted.Rows.{root-in}
use Rattle.two_halves.specs.Stack.{values}
use Rattle.record_tables.specs.Listed.{IsBinOf, IsFunOf}
use Rattle.two_halves.specs.Halves.{HalvesStand, IsLaid, ProcStands, ProcsStand, end_of, front_of, records_of}
use Rattle.term_order.specs.Held.{HoldTrees}
use Rattle.two_halves.specs.Reached.{ChainReached, roots_in, roots_of}
use Rattle.two_halves.proofs.Standing.Held.{roots-stand, trees_of}
use Rattle.two_halves.proofs.Standing.Covered.{bin-covered, counted-covered, covered, exact-covered, fun-covered, in_records, lies-covered, next-covered, record-wide, single-covered, tree-covered}
use Rattle.one_space.specs.Image.{image_of, object_piece, object_region, record_piece, rooted}
use Rattle.two_halves.specs.declared.table.Proc.{Proc}
use Rattle.two_halves.specs.declared.halves.Halves.{Halves}
use Rattle.one_space.proofs.OfHeap.Keeping.{half-inside}

-- Roots are told with each stack turned round.

in-reverse : (w : ℕ) (xs : List ℕ) → In w xs → In w (reverse xs)
in-reverse w [] i = absurd i
in-reverse w (x ∷ xs) i =
    rw (reverse-append (x ∷ []) xs) (elim i [ inl e ↦ in-right w (reverse xs) (x ∷ []) (inl e) | inr deep ↦ in-left w (reverse xs) (x ∷ []) (in-reverse w xs deep) ])

from-reverse : (w : ℕ) (xs : List ℕ) → In w (reverse xs) → In w xs
from-reverse w xs i = rw (reverse-reverse xs) at (in-reverse w (reverse xs) i)

module _ (w : ℕ) (xs ys zs ds es : List ℕ) where
  turned-in : (In w ds → In w es) → In w (xs ++ (ys ++ (zs ++ ds))) → In w ((xs ++ (reverse ys ++ zs)) ++ es)
  turned-in more i = elim (in-both w xs (ys ++ (zs ++ ds)) i) [
    | inl x ↦ in-left w (xs ++ (reverse ys ++ zs)) es (in-left w xs (reverse ys ++ zs) x)
    | inr deep ↦ elim (in-both w ys (zs ++ ds) deep) [
      | inl y ↦ in-left w (xs ++ (reverse ys ++ zs)) es (in-right w xs (reverse ys ++ zs) (in-left w (reverse ys) zs (in-reverse w ys y)))
      | inr past ↦ elim (in-both w zs ds past) [
        | inl z ↦ in-left w (xs ++ (reverse ys ++ zs)) es (in-right w xs (reverse ys ++ zs) (in-right w (reverse ys) zs z))
        | inr d ↦ in-right w (xs ++ (reverse ys ++ zs)) es (more d)
      ]
    ]
  ]

  turned-out : (In w es → In w ds) → In w ((xs ++ (reverse ys ++ zs)) ++ es) → In w (xs ++ (ys ++ (zs ++ ds)))
  turned-out more i = elim (in-both w (xs ++ (reverse ys ++ zs)) es i) [
    | inl own ↦ elim (in-both w xs (reverse ys ++ zs) own) [
      | inl x ↦ in-left w xs (ys ++ (zs ++ ds)) x
      | inr deep ↦ in-right w xs (ys ++ (zs ++ ds)) (elim (in-both w (reverse ys) zs deep) [
        | inl y ↦ in-left w ys (zs ++ ds) (from-reverse w ys y)
        | inr z ↦ in-right w ys (zs ++ ds) (in-left w zs ds z)
      ])
    ]
    | inr e ↦ in-right w xs (ys ++ (zs ++ ds)) (in-right w ys (zs ++ ds) (in-right w zs ds (more e)))
  ]

module _ (h : Halves) where
  -- The roots of rows as the image tells them.
  abbrev told : List Proc → List ℕ
  told ps = flat_map process_roots (map (rooted h) ps)

  told-in : (ps : List Proc) (w : ℕ) → In w (roots_in h.mem ps) → In w (told ps)
  told-in [] w i = absurd i
  told-in (p ∷ ps) w i =
      rw (flat_map-cons process_roots (rooted h p) (map (rooted h) ps))
      (turned-in w p.regs (values h.mem p.stack p.depth) (values h.mem p.queue p.waiting) (roots_in h.mem ps) (told ps) (told-in ps w) i)

  told-out : (ps : List Proc) (w : ℕ) → In w (told ps) → In w (roots_in h.mem ps)
  told-out [] w i = absurd i
  told-out (p ∷ ps) w i =
      turned-out w p.regs (values h.mem p.stack p.depth) (values h.mem p.queue p.waiting) (roots_in h.mem ps) (told ps) (told-out ps w)
      (rw (flat_map-cons process_roots (rooted h p) (map (rooted h) ps)) at i)

-- A plan that begins with these roots.
abbrev plan_over : (mem roots : List ℕ) → Plan
plan_over mem roots = record {
  start = mem;
  roots = roots;
  shared = [];
  trees = end;
  test = λ a k. false;
  stay = λ q. false;
  mature = λ q. false;
  low = λ b. 0;
  high = λ b. 0;
}

-- More roots reach no less.
reach-among : (mem roots more : List ℕ) → ((w : ℕ) → In w roots → In w more) → (w : ℕ) → Reach mem roots w → Reach mem more w
reach-among mem roots more among w (root i x below e) = root-in (plan_over mem more) w (rw e (among (get_or roots i 0) (in-at roots i below)))
reach-among mem roots more among w (part v k x r p from below e) = part v k x (reach-among mem roots more among v r) p from below e

module _ (c d : ℕ → ℕ → Bool) (shared : List (List ℕ)) (h : Halves) (named : ℕ) (trees : (w : ℕ) (t : Tree) → Stands c shared h.mem w t → Stands d shared h.mem w t) where
  words-held : (ws : List ℕ) (ts : List Tree) → HoldTrees c shared h.mem named ws ts → WordsStand d shared h.mem ws ts
  words-held [] [] s = tt
  words-held (w ∷ ws) (t ∷ ts) s = (trees w t s.0.standing, words-held ws ts s.1)
  words-held [] (t ∷ ts) s = absurd s
  words-held (w ∷ ws) [] s = absurd s

  row-rooted : (low limit : ℕ) (p : Proc) (q : Process) → ProcStands c shared h.mem low limit named p q → RootedStands d shared h.mem (rooted h p) q
  row-rooted low limit p q s =
      record {
        number = s.number;
        refs = s.refs;
        registers = words-held p.regs q.registers s.registers;
        stack = rw (reverse-reverse (values h.mem p.stack p.depth)) (words-held (values h.mem p.stack p.depth) q.stack s.stack);
        queue = words-held (values h.mem p.queue p.waiting) q.queue s.queue;
      }

  rows-rooted : (low limit : ℕ) (ps : List Proc) (qs : List Process) → ProcsStand c shared h.mem low limit named ps qs → AllRooted d shared h.mem (map (rooted h) ps) qs
  rows-rooted low limit [] [] s = tt
  rows-rooted low limit (p ∷ ps) (q ∷ qs) s = (row-rooted low limit p q s.0, rows-rooted low limit ps qs s.1)
  rows-rooted low limit [] (q ∷ qs) s = absurd s
  rows-rooted low limit (p ∷ ps) [] s = absurd s

-- The words from a place on.
piece-words : (mem : List ℕ) (v n : ℕ) → v + n ≤ length mem → length (take n (drop v mem)) ≡ n
piece-words mem v n fits = length-take-le n (drop v mem) (omega (arith, length-drop v mem, fits))

module _ (mem : List ℕ) where
  -- The records are pieces of the memory.
  records-held : (vs : List ℕ) → ((v : ℕ) → In v vs → v + record_words mem v ≤ length mem) → HasPieces mem (map (record_piece mem) vs)
  records-held [] fit = tt
  records-held (v ∷ vs) fit =
      let size = piece-words mem v (record_words mem v) (fit v (inl refl)) in
      (omega (arith, size, fit v (inl refl)), ap (λ n. take n (drop v mem)) size, records-held vs (λ u i. fit u (inr i)))

  place-listed : (v : ℕ) (vs : List ℕ) → In v vs → In v (piece_places (map (record_piece mem) vs))
  place-listed v [] i = i
  place-listed v (u ∷ vs) (inl e) = inl e
  place-listed v (u ∷ vs) (inr i) = inr (place-listed v vs i)

  -- A place in a listed record lies in its piece.
  lies-listed : (vs : List ℕ) (a : ℕ) → ((v : ℕ) → In v vs → v + record_words mem v ≤ length mem) → in_records mem vs a ≡ true → LiesIn (map (record_piece mem) vs) a
  lies-listed [] a fit e = absurd (false≢true e)
  lies-listed (v ∷ vs) a fit e = elim (or_cases (nat_le v a && nat_lt a (v + record_words mem v)) (in_records mem vs a) e) [
    | inl here ↦ inl (let size = piece-words mem v (record_words mem v) (fit v (inl refl)) in (grind (arith, nat_tests, here), grind (arith, nat_tests, here, size)))
    | inr rest ↦ inr (lies-listed vs a (λ u i. fit u (inr i)) rest)
  ]

  listed-both : (vs us : List ℕ) (a : ℕ) → in_records mem (vs ++ us) a ≡ true → (in_records mem vs a ≡ true) ⊎ (in_records mem us a ≡ true)
  listed-both [] us a e = inr e
  listed-both (v ∷ vs) us a e = elim (or_cases (nat_le v a && nat_lt a (v + record_words mem v)) (in_records mem (vs ++ us) a) e) [
    | inl here ↦ inl (or_left (nat_le v a && nat_lt a (v + record_words mem v)) (in_records mem vs a) here)
    | inr rest ↦ elim (listed-both vs us a rest) [
      | inl more ↦ inl (or_right (nat_le v a && nat_lt a (v + record_words mem v)) (in_records mem vs a) more)
      | inr others ↦ inr others
    ]
  ]

  -- What holds for each record holds for each piece, and so for each two, of which the first has the lower owner.
  each-piece : (P : Stretch → Type 0) (vs : List ℕ) → ((v : ℕ) → In v vs → P (record_piece mem v)) → AllPieces P (map (record_piece mem) vs)
  each-piece P [] each = tt
  each-piece P (v ∷ vs) each = (each v (inl refl), each-piece P vs (λ u i. each u (inr i)))

  each-two : (P : Stretch → Stretch → Type 0) (vs : List ℕ) → OwnersRise mem vs
      → ((v u : ℕ) → In v vs → In u vs → owner_in mem v < owner_in mem u → P (record_piece mem v) (record_piece mem u)) → EachTwo P (map (record_piece mem) vs)
  each-two P [] rise each = tt
  each-two P (v ∷ vs) (first, rest) each =
      (each-piece (P (record_piece mem v)) vs (λ u i. each v u (inl refl) (inr i) (first u i)), each-two P vs rest (λ a b i j. each a b (inr i) (inr j)))

  owners-once : (vs : List ℕ) → OwnersRise mem vs → Distinct (map (owner_in mem) (piece_places (pieces_by_place (map (record_piece mem) vs))))
  owners-once vs r =
      each-once (owner_in mem) (pieces_by_place (map (record_piece mem) vs))
      (two-ordered (λ r q. owner_in mem r.place ≡ owner_in mem q.place → ⊥) (λ r q n e. n (sym e)) (map (record_piece mem) vs)
      (each-two (λ r q. owner_in mem r.place ≡ owner_in mem q.place → ⊥) vs r (λ v u i j less e. omega (arith, less, e))))

  -- Records of which no two are one follow each other.
  records-follow : (c : ℕ → ℕ → Bool) → IsSingle c → (vs : List ℕ) → ((v : ℕ) → In v vs → IsRecord c mem v (record_words mem v)) → ((v : ℕ) → In v vs → v + record_words mem v ≤ length mem)
      → OwnersRise mem vs → FollowEachOther (pieces_by_place (map (record_piece mem) vs))
  records-follow c single vs are fit rise = follow-ordered (map (record_piece mem) vs)
      (each-two PiecesApart vs rise (λ v u i j less.
      let size = piece-words mem v (record_words mem v) (fit v i) in
      let other = piece-words mem u (record_words mem u) (fit u j) in
      elim (records-apart c mem v (record_words mem v) u (record_words mem u) single (are v i) (are u j)) [
        | inl e ↦ absurd (omega (arith, less, ap (owner_in mem) e))
        | inr (inl before) ↦ inl (omega (arith, size, before))
        | inr (inr behind) ↦ inr (omega (arith, other, behind))
      ]))
      (each-piece HasWords vs (λ v i. omega (arith, piece-words mem v (record_words mem v) (fit v i), record-some c mem v (record_words mem v) (are v i))))

module _ (h : Halves) (laid : IsLaid h) where
  -- The region has as many words as lie between the front and the top.
  region-words : length ((object_piece h).words) ≡ h.room.top - front_of h
  region-words = piece-words h.mem (front_of h) (h.room.top - front_of h) (omega (arith, half-inside h laid, laid.order, laid.fits, laid.front))

  in-region : (a : ℕ) → front_of h ≤ a → a < h.room.top → (front_of h ≤ a) × (a < front_of h + length ((object_piece h).words))
  in-region a from to = (from, omega (arith, region-words, to, laid.front))

module _ (named : ℕ) (h : Halves) (s : State) (laid : IsLaid h) (o : HalvesStand named h s.shared s.processes) (areas : s.areas ≡ []) (tidy : s.swept ≡ true → ChainReached h) where
  abbrev image : Image
  image = image_of h (length s.shared) s.next s.swept

  -- The records of the tables lie in the memory.
  records-fit : (v : ℕ) → In v (records_of h) → v + record_words h.mem v ≤ length h.mem
  records-fit v i = elim (in-both v h.bins.items h.funs.items i) [
    | inl bin ↦
        let r : IsBinOf o.test h.mem s.shared v = o.records.each_bin v bin in
        omega (arith, r.is.within, r.is.header)
    | inr fun ↦
        let r : IsFunOf o.test h.mem v = o.records.each_fun v fun in
        omega (arith, r.is.within, r.is.header)
  ]

  abbrev narrow : ℕ → ℕ → Bool
  narrow = covered named h s.shared s.processes laid o

  bins-told : (vs : List ℕ) → ((v : ℕ) → In v vs → In v h.bins.items) → AllBins narrow s.shared h.mem (map (record_piece h.mem) vs)
  bins-told [] among = tt
  bins-told (v ∷ vs) among =
      let r : IsBinOf o.test h.mem s.shared v = o.records.each_bin v (among v (inl refl)) in
      let fit = records-fit v (in-left v h.bins.items h.funs.items (among v (inl refl))) in (
        record {
          from_one = r.from_one;
          known = r.known;
          is = bin-covered named h s.shared s.processes laid o v (owner_in h.mem v) (shared_bytes s.shared (owner_in h.mem v)) r.is;
          whole = omega (arith, piece-words h.mem v (record_words h.mem v) fit, r.is.header);
        },
        bins-told vs (λ u i. among u (inr i)),
      )

  funs-told : (vs : List ℕ) → ((v : ℕ) → In v vs → In v h.funs.items) → AllFuns narrow h.mem (map (record_piece h.mem) vs)
  funs-told [] among = tt
  funs-told (v ∷ vs) among =
      let r : IsFunOf o.test h.mem v = o.records.each_fun v (among v (inl refl)) in
      let fit = records-fit v (in-right v h.bins.items h.funs.items (among v (inl refl))) in (
        record {
          name = r.name;
          arity = r.arity;
          is = fun-covered named h s.shared s.processes laid o v r.name r.arity r.is;
          whole = omega (arith, piece-words h.mem v (record_words h.mem v) fit, r.is.header);
        },
        funs-told vs (λ u i. among u (inr i)),
      )

  abbrev bin_pieces : List Stretch
  bin_pieces = map (record_piece h.mem) h.bins.items

  abbrev fun_pieces : List Stretch
  fun_pieces = map (record_piece h.mem) h.funs.items

  -- The places of the tables are those of the pieces in order.
  place-told : (v : ℕ) → In v (h.bins.items ++ h.funs.items) → In v (piece_places (pieces_by_place bin_pieces ++ pieces_by_place fun_pieces))
  place-told v i =
      rw (places-both (pieces_by_place bin_pieces) (pieces_by_place fun_pieces)) (elim (in-both v h.bins.items h.funs.items i) [
        | inl bin ↦ in-left v (piece_places (pieces_by_place bin_pieces)) (piece_places (pieces_by_place fun_pieces))
            (ordered (λ rs. In v (piece_places rs)) (place-any v) bin_pieces (place-listed h.mem v h.bins.items bin))
        | inr fun ↦ in-right v (piece_places (pieces_by_place bin_pieces)) (piece_places (pieces_by_place fun_pieces))
            (ordered (λ rs. In v (piece_places rs)) (place-any v) fun_pieces (place-listed h.mem v h.funs.items fun))
      ])

  records-told : RecordsTold narrow s.shared h.mem (pieces_by_place bin_pieces) (pieces_by_place fun_pieces)
  records-told = record {
    all = λ v n there. place-told v (o.records.all v n (record-wide named h s.shared s.processes laid o v n there));
    each_bin = ordered (AllBins narrow s.shared h.mem) (bins-any narrow s.shared h.mem) bin_pieces (bins-told h.bins.items (λ v i. i));
    each_fun = ordered (AllFuns narrow h.mem) (funs-any narrow h.mem) fun_pieces (funs-told h.funs.items (λ v i. i));
    bins_once = owners-once h.mem h.bins.items o.records.serials;
    funs_once = owners-once h.mem h.funs.items o.records.codes;
  }

  -- Each stands.
  record-here : (v : ℕ) → In v (records_of h) → IsRecord o.test h.mem v (record_words h.mem v)
  record-here v i = elim (in-both v h.bins.items h.funs.items i) [
    | inl bin ↦
        by (4 + bin_words (length (shared_bytes s.shared (owner_in h.mem v)))) (inl (owner_in h.mem v, shared_bytes s.shared (owner_in h.mem v), (o.records.each_bin v bin).is, refl))
    | inr fun ↦ let r : IsFunOf o.test h.mem v = o.records.each_fun v fun in by 4 (inr (r.name, r.arity, r.is, refl))
  ]
    where
      by : (n : ℕ) → IsRecord o.test h.mem v n → IsRecord o.test h.mem v (record_words h.mem v)
      by n there = rw (record-size o.test h.mem v n there) there

  -- All lies in the half in use.
  record-within : (v : ℕ) → IsRecord o.test h.mem v (record_words h.mem v) → (h.base ≤ v) × (v + record_words h.mem v ≤ end_of h)
  record-within v r =
      let some = record-some o.test h.mem v (record_words h.mem v) r in
      let first = record-side v v r (omega arith) (omega (arith, some)) in
      let last = record-side v (v + (record_words h.mem v - 1)) r (omega arith) (omega (arith, some)) in
      (omega (arith, first.0, laid.front, laid.order), omega (arith, last.1, some))
    where
      record-side : (v q : ℕ) → IsRecord o.test h.mem v (record_words h.mem v) → v ≤ q → q < v + record_words h.mem v
          → (h.room.end ≤ q) × (q < end_of h)
      record-side v q r from below =
          let (k, (of, role)) = record-role o.test h.mem v (record_words h.mem v) q r from below in
          elim (o.lie q k role) [ inl object ↦ absurd (omega (arith, of, object.1.1)) | inr there ↦ (there.0, there.1.0) ]

  records-within : (vs : List ℕ) → ((v : ℕ) → In v vs → In v (records_of h)) → AllWithin h.base (end_of h) (map (record_piece h.mem) vs)
  records-within [] among = tt
  records-within (v ∷ vs) among =
      let size = piece-words h.mem v (record_words h.mem v) (records-fit v (among v (inl refl))) in
      let here = record-within v (record-here v (among v (inl refl))) in
      ((here.0, omega (arith, here.1, size)), records-within vs (λ u i. among u (inr i)))

  -- The pieces of a table of records.
  module _ (vs : List ℕ) (among : (v : ℕ) → In v vs → In v (records_of h)) where
    abbrev pieces : List Stretch
    pieces = map (record_piece h.mem) vs

    table-fit : (v : ℕ) → In v vs → v + record_words h.mem v ≤ length h.mem
    table-fit v i = records-fit v (among v i)

    table-follows : OwnersRise h.mem vs → FollowEachOther (pieces_by_place pieces)
    table-follows rise = records-follow h.mem o.test o.single vs (λ v i. record-here v (among v i)) table-fit rise

    table-there : HasPieces h.mem (pieces_by_place pieces)
    table-there = ordered (HasPieces h.mem) (has-any h.mem) pieces (records-held h.mem vs table-fit)

    table-within : AllWithin h.base (end_of h) (pieces_by_place pieces)
    table-within = ordered (AllWithin h.base (end_of h)) (within-any h.base (end_of h)) pieces (records-within vs among)

    table-lies : (a : ℕ) → in_records h.mem vs a ≡ true → LiesIn (pieces_by_place pieces) a
    table-lies a e = ordered (λ rs. LiesIn rs a) (lies-any a) pieces (lies-listed h.mem vs a table-fit e)

  of-bins : (v : ℕ) → In v h.bins.items → In v (records_of h)
  of-bins v i = in-left v h.bins.items h.funs.items i

  of-funs : (v : ℕ) → In v h.funs.items → In v (records_of h)
  of-funs v i = in-right v h.bins.items h.funs.items i

  pieces-there : HasPieces h.mem (object_piece h ∷ (pieces_by_place bin_pieces ++ pieces_by_place fun_pieces))
  pieces-there = (
    omega (arith, region-words h laid, half-inside h laid, laid.order, laid.fits, laid.front),
    ap (λ n. take n (drop (front_of h) h.mem)) (region-words h laid),
    has-both h.mem (pieces_by_place bin_pieces) (pieces_by_place fun_pieces) (table-there h.bins.items of-bins) (table-there h.funs.items of-funs),
  )

  within-half : AllWithin h.base (end_of h) (object_piece h ∷ (pieces_by_place bin_pieces ++ pieces_by_place fun_pieces))
  within-half = (
    (omega arith, omega (arith, region-words h laid, laid.order, laid.fits, laid.front)),
    within-both h.base (end_of h) (pieces_by_place bin_pieces) (pieces_by_place fun_pieces) (table-within h.bins.items of-bins) (table-within h.funs.items of-funs),
  )

  listed-there : (a : ℕ) → in_records h.mem (records_of h) a ≡ true → LiesIn (pieces_by_place bin_pieces ++ pieces_by_place fun_pieces) a
  listed-there a e = elim (listed-both h.mem h.bins.items h.funs.items a e) [
    | inl bin ↦ lies-left a (pieces_by_place bin_pieces) (pieces_by_place fun_pieces) (table-lies h.bins.items of-bins a bin)
    | inr fun ↦ lies-right a (pieces_by_place bin_pieces) (pieces_by_place fun_pieces) (table-lies h.funs.items of-funs a fun)
  ]

  inside-there : (a k : ℕ) → narrow a k ≡ true → LiesIn (object_piece h ∷ (pieces_by_place bin_pieces ++ pieces_by_place fun_pieces)) a
  inside-there a k e = elim (lies-covered named h s.shared s.processes laid o a k e) [
    | inl object ↦ inl (in-region h laid a object.0 object.1)
    | inr listed ↦ inr (listed-there a listed)
  ]

  -- Every object that the roots reach lies whole in the half in use.
  roots-there : (w : ℕ) → In w (image_roots image) → In w (roots_of h)
  roots-there w i = elim (in-both w (flat_map process_roots (map (rooted h) h.procs.items)) [] i) [
    | inl own ↦ told-out h h.procs.items w own
    | inr none ↦ absurd none
  ]

  image-in : (w : ℕ) → In w (roots_of h) → In w (image_roots image)
  image-in w i = in-left w (flat_map process_roots (map (rooted h) h.procs.items)) [] (told-in h h.procs.items w i)

  in-half : (w q : ℕ) → Reach h.mem (roots_of h) w → IsPointer w → w / 4 ≤ q → q < w / 4 + object_words h.mem w → (front_of h ≤ q) × (q < h.room.top)
  in-half w q r p from below =
      let all = roots-stand o.test s.shared h.mem h.room.end (end_of h) named h.procs.items s.processes o.processes in
      let (t, st) = reached o.test s.shared h.mem (roots_of h) (trees_of s.processes) all w r in
      let (k, (of, role)) = object-role o.test s.shared h.mem w t q st p from below in
      elim (o.lie q k role) [ inl object ↦ (object.0, object.1.0) | inr there ↦ absurd (omega (arith, of, there.1.1)) ]

  whole-there : (w n : ℕ) → 0 < n → ((q : ℕ) → w ≤ q → q < w + n → (front_of h ≤ q) × (q < h.room.top)) → holds_words w n (object_region h) ≡ true
  whole-there w n some each =
      let first = (each w (omega arith) (omega (arith, some))).0 in
      let last = (each (w + (n - 1)) (omega arith) (omega (arith, some))).1 in
      let size = region-words h laid in
      let from : nat_le (front_of h) w ≡ true = grind (arith, nat_tests, first) in
      let upto : w + n ≤ front_of h + length ((object_piece h).words) = omega (arith, size, last, some, laid.front) in
      let to : nat_le (w + n) (front_of h + length ((object_piece h).words)) ≡ true = grind (arith, nat_tests, upto) in
      and_from (nat_le (front_of h) w) (nat_le (w + n) (front_of h + length ((object_piece h).words))) from to

  leads : LeadInto h.mem (image_roots image) (halves_in (object_region h ∷ []))
  leads w r p =
      let back : Reach h.mem (roots_of h) w = reach-among h.mem (image_roots image) (roots_of h) roots-there w r in
      or_left (holds_words (w / 4) (object_words h.mem w) (object_region h)) false
      (whole-there (w / 4) (object_words h.mem w) (object-some h.mem w) (λ q from below. in-half w q back p from below))

  areas-told : AllLiterals narrow s.shared h.mem [] (areas_by_name s.areas)
  areas-told = rw areas tt

  pub image-stands : ImageStands image s
  image-stands = record {
    serials = refl;
    next = refl;
    swept = refl;
    mem = h.mem;
    arena = refl;
    told = pieces-there;
    regions_follow = tt;
    bins_follow = table-follows h.bins.items of-bins o.records.serials;
    funs_follow = table-follows h.funs.items of-funs o.records.codes;
    test = narrow;
    single = single-covered named h s.shared s.processes laid o;
    inside = inside-there;
    nexts = next-covered named h s.shared s.processes laid o;
    records = records-told;
    processes = rows-rooted o.test narrow s.shared h named (tree-covered named h s.shared s.processes laid o) h.room.end (end_of h)
        h.procs.items s.processes o.processes;
    areas = areas-told;
    lead = record { base = h.base; side = laid.side; within = within-half; lead = leads };
    counted = counted-covered named h s.shared s.processes laid o;
    exact = λ e. exact-covered named h s.shared s.processes laid o (tidy e) (image_roots image)
        (reach-among h.mem (roots_of h) (image_roots image) image-in);
  }
