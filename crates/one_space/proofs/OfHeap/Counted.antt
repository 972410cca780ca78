-- What the text of `counts` is, in each state that the memory stands for, and in the image of one.
use Rattle.std.proofs.Common.{◌≡◌, ℕ, ◌≤◌, true, List, [], ◌∷◌, ◌++◌, length, flat_map, refl, sym, ◌∙◌, ap, arith, inl, inr, ◌+◌, ◌/◌, ◌%◌, ◌<◌, map, take, drop}
use Rattle.std.proofs.lemmas.Grind.{flat_map-append}
use Rattle.std.proofs.lemmas.List.{append-nil, append_assoc, get_or-drop, get_or-take}
use Rattle.plain_term.specs.Tree.{Tree, Trees}
use Rattle.plain_term.specs.Tree.Trees.{end, ◌▹◌}
use Rattle.plain_machine.specs.State.{Process, State}
use Rattle.plain_machine.specs.Tightness.{ids_in, ids_in_all, funs_in, funs_in_all, held_trees}
use Rattle.plain_machine.specs.Maps.{CountsOf, CountedBin, CountedFun, counts_text}
use Rattle.term_words.specs.Counted.{In}
use Rattle.shared_rec.specs.Record.{owner_in, count_in}
use Rattle.record_move.specs.Tables.{OwnersRise}
use Rattle.atom_names.specs.Names.{AreNames}
use Rattle.counts_text.specs.Told.{CanTellCounts, counts_told, bin_of, by_name, fun_of}
use Rattle.counts_text.proofs.Meaning.{AllListed, CountsExactly, told-allowed}
use Rattle.record_tables.specs.Listed.{IsBinOf, IsFunOf}
use Rattle.two_halves.specs.Halves.{HalvesStand, end_of}
use Rattle.two_halves.specs.Reached.{ChainReached, roots_of}
use Rattle.two_halves.specs.declared.halves.Halves.{Halves}
use Rattle.two_halves.proofs.Standing.Held.{onto, trees_of, roots-stand}
use Rattle.std.specs.Prelude.{slice_index}
use Rattle.store_image.specs.Counting.{entry_of_bin, bins_by_id, entry_of_fun, image_counts}
use Rattle.store_image.specs.Image.{pieces_by_place}
use Rattle.record_move.specs.Copies.{record_words}
use Rattle.counts_text.proofs.Entries.{bins-of-pieces, funs-of-pieces}
use Rattle.one_space.specs.Image.{image_of, record_piece}
use Rattle.one_space.proofs.Memory.Landing.{rise-once}

-- Of records whose owner words rise no two have one owner word.
rise-differ : (mem : List ℕ) (vs : List ℕ) → OwnersRise mem vs → (v w : ℕ) → In v vs → In w vs → owner_in mem v ≡ owner_in mem w → v ≡ w
rise-differ mem [] r v w i j e = absurd i
rise-differ mem (x ∷ vs) (first, rest) v w (inl a) (inl b) e = a ∙ sym b
rise-differ mem (x ∷ vs) (first, rest) v w (inl a) (inr j) e = absurd (omega (arith, first w j, e, ap (λ z. owner_in mem z) a))
rise-differ mem (x ∷ vs) (first, rest) v w (inr i) (inl b) e = absurd (omega (arith, first v i, e, ap (λ z. owner_in mem z) b))
rise-differ mem (x ∷ vs) (first, rest) v w (inr i) (inr j) e = rise-differ mem vs rest v w i j e

-- What occurs in the trees of the roots is what occurs in all that lives.

three : (f : Tree → List ℕ) (a b c : List Tree) (rest : List ℕ) → flat_map f a ++ (flat_map f b ++ (flat_map f c ++ rest)) ≡ flat_map f (a ++ (b ++ c)) ++ rest
three f a b c rest =
    ap (λ z. flat_map f a ++ z) (sym (append_assoc (flat_map f b) (flat_map f c) rest) ∙ ap (λ z. z ++ rest) (sym (flat_map-append f b c)))
    ∙ (sym (append_assoc (flat_map f a) (flat_map f (b ++ c)) rest) ∙ ap (λ z. z ++ rest) (sym (flat_map-append f a (b ++ c))))

module _ (f : Tree → List ℕ) (all : Trees → List ℕ) (none : all end ≡ []) (more : (t : Tree) (us : Trees) → all (t ▹ us) ≡ f t ++ all us) where
  all-onto : (ts : List Tree) (us : Trees) → all (onto ts us) ≡ flat_map f ts ++ all us
  all-onto [] us = refl
  all-onto (t ∷ ts) us = more t (onto ts us) ∙ (ap (λ z. f t ++ z) (all-onto ts us) ∙ sym (append_assoc (f t) (flat_map f ts) (all us)))

  all-living : (qs : List Process) → all (trees_of qs) ≡ flat_map f (flat_map held_trees qs)
  all-living [] = none
  all-living (q ∷ qs) =
      all-onto q.registers (onto q.stack (onto q.queue (trees_of qs)))
      ∙ (ap (λ z. flat_map f q.registers ++ z) (all-onto q.stack (onto q.queue (trees_of qs)) ∙ ap (λ z. flat_map f q.stack ++ z) (all-onto q.queue (trees_of qs)))
      ∙ (three f q.registers q.stack q.queue (all (trees_of qs))
      ∙ (ap (λ z. flat_map f (held_trees q) ++ z) (all-living qs) ∙ sym (flat_map-append f (held_trees q) (flat_map held_trees qs)))))

module _ (named : ℕ) (h : Halves) (shared : List (List ℕ)) (qs : List Process) (o : HalvesStand named h shared qs) where
  -- Its tables can be told, where the names are known.
  pub can-tell : (names : List (List ℕ)) → named ≤ length names → CanTellCounts h.mem names h.bins.items h.funs.items
  can-tell names known = record {
    each_bin = λ v i. let f : IsBinOf o.test h.mem shared v = o.records.each_bin v i in omega (arith, f.is.within);
    each_fun = λ v i.
        let f : IsFunOf o.test h.mem v = o.records.each_fun v i in
        record { within = f.is.within; known = omega (arith, o.fun_names v i, known) };
    apart = record {
      once = rise-once h.mem h.funs.items o.records.codes;
      differ = rise-differ h.mem h.funs.items o.records.codes;
    };
  }

  all-listed : AllListed o.test shared h.mem h.bins.items h.funs.items
  all-listed = record {
    each_bin = λ v i. let f : IsBinOf o.test h.mem shared v = o.records.each_bin v i in (f.from_one, (f.known, f.is));
    each_fun = λ v i. let f : IsFunOf o.test h.mem v = o.records.each_fun v i in (f.name, f.arity, f.is);
    every = o.records.all;
    serials = o.records.serials;
    some = o.records.counted;
  }

module _ (named : ℕ) (h : Halves) (s : State) (o : HalvesStand named h s.shared s.processes) (areas : s.areas ≡ []) (tidy : s.swept ≡ true → ChainReached h) where
  counts-exactly : s.swept ≡ true → CountsExactly o.test h.mem (roots_of h) o.chained
  counts-exactly swept = record {
    held = record {
      reached = λ p i. (tidy swept).all o.chained p o.linked o.links.chain i;
      links = o.links.each;
    };
    once = o.links.once;
    counts = λ v n there. o.links.counts v n there ∙ omega arith;
  }

  living-same : (f : Tree → List ℕ) → flat_map f (flat_map held_trees s.processes) ≡ flat_map f (flat_map held_trees s.processes ++ flat_map (λ a. a.literals) s.areas)
  living-same f =
      ap (λ z. flat_map f z) (sym (append-nil (flat_map held_trees s.processes)) ∙ ap (λ z. flat_map held_trees s.processes ++ flat_map (λ a. a.literals) z) (sym areas))

  -- The text is allowed in a state with these names.
  pub counts-allowed : AreNames s.names → named ≤ length s.names → CountsOf s (counts_told h.mem s.names h.bins.items h.funs.items)
  counts-allowed names known =
      told-allowed s o.test h.mem (roots_of h) (trees_of s.processes) h.bins.items h.funs.items o.chained
      (roots-stand o.test s.shared h.mem h.room.end (end_of h) named h.procs.items s.processes o.processes)
      (all-living ids_in ids_in_all refl (λ t us. refl) s.processes ∙ living-same ids_in)
      (all-living funs_in funs_in_all refl (λ t us. refl) s.processes ∙ living-same funs_in) (can-tell named h s.shared s.processes o s.names known) names
      (all-listed named h s.shared s.processes o) counts-exactly

-- A word of a piece is that of the memory.
piece-word : (mem : List ℕ) (v n i : ℕ) → i < n → slice_index (take n (drop v mem)) i ≡ slice_index mem (v + i)
piece-word mem v n i below = get_or-take n (drop v mem) i 0 below ∙ get_or-drop v mem i 0

abbrev counted_bin : (owner count : ℕ) → CountedBin
counted_bin owner count = record { id = owner; count = count }

abbrev counted_fun : (owner count : ℕ) → CountedFun
counted_fun owner count = record { name = owner / 256; arity = owner % 256; count = count }

module _ (mem : List ℕ) (v : ℕ) (large : 4 ≤ record_words mem v) where
  owner-word : slice_index (take (record_words mem v) (drop v mem)) 1 ≡ owner_in mem v
  owner-word = piece-word mem v (record_words mem v) 1 (omega (arith, large))

  count-word : slice_index (take (record_words mem v) (drop v mem)) 2 ≡ count_in mem v
  count-word = piece-word mem v (record_words mem v) 2 (omega (arith, large))

  bin-same : entry_of_bin (record_piece mem v) ≡ bin_of mem v
  bin-same = ap (λ z. counted_bin z (slice_index (take (record_words mem v) (drop v mem)) 2)) owner-word ∙ ap (λ z. counted_bin (owner_in mem v) z) count-word

  fun-same : entry_of_fun (record_piece mem v) ≡ fun_of mem v
  fun-same = ap (λ z. counted_fun z (slice_index (take (record_words mem v) (drop v mem)) 2)) owner-word ∙ ap (λ z. counted_fun (owner_in mem v) z) count-word

module _ (named : ℕ) (h : Halves) (s : State) (o : HalvesStand named h s.shared s.processes) where
  bin-large : (v : ℕ) → In v h.bins.items → 4 ≤ record_words h.mem v
  bin-large v i = let r : IsBinOf o.test h.mem s.shared v = o.records.each_bin v i in omega (arith, r.is.header)

  fun-large : (v : ℕ) → In v h.funs.items → 4 ≤ record_words h.mem v
  fun-large v i = let r : IsFunOf o.test h.mem v = o.records.each_fun v i in omega (arith, r.is.header)

  -- With names that are known, the text is that of the records in the image.
  pub counts-imaged : (names : List (List ℕ)) → AreNames names → named ≤ length names
      → counts_told h.mem names h.bins.items h.funs.items ≡ image_counts names (image_of h (length s.shared) s.next s.swept)
  counts-imaged names all known =
      let mem : List ℕ = h.mem in
      ap (λ z. counts_text names z (map (fun_of mem) (by_name mem names h.funs.items)))
      (bins-of-pieces mem (record_piece mem) h.bins.items (λ v i. bin-same mem v (bin-large v i)) o.records.serials)
      ∙ ap (λ z. counts_text names (bins_by_id (map entry_of_bin (pieces_by_place (map (record_piece mem) h.bins.items)))) z)
      (funs-of-pieces names mem (record_piece mem) h.funs.items all (can-tell named h s.shared s.processes o names known).each_fun (λ v i. fun-same mem v (fun-large v i)) o.records.codes)
