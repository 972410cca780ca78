-- A message is sent: a copy comes into the half, and its word into a queue.
use Rattle.std.proofs.Common.{◌≡◌, ℕ, ◌+◌, ◌/◌, ◌<◌, ◌≤◌, Bool, [], ◌∷◌, ◌++◌, length, get_or, sym, ◌∙◌, ap, subst, arith, inl, inr}
use Rattle.std.proofs.lemmas.List.{get_or_default}
use Rattle.std.specs.Vec.{with_item}
use Rattle.plain_term.specs.Tree.Trees.{end, ◌▹◌}
use Rattle.term_words.specs.Object.{IsPointer, object_words}
use Rattle.term_words.specs.Stands.{AllStand}
use Rattle.term_words.specs.Kept.{Kept}
use Rattle.term_words.specs.Reach.{Reach}
use Rattle.term_words.proofs.Reaching.Carrying.{carried-reach}
use Rattle.term_words.proofs.Framing.Frames.{kept-carried}
use Rattle.term_words.proofs.Reaching.Reached.{reached}
use Rattle.term_words.proofs.Placing.Roles.{object-role, object-some}
use Rattle.two_halves.specs.Stack.{values}
use Rattle.two_halves.specs.Halves.{HalvesStand, end_of}
use Rattle.two_halves.specs.Reached.{roots_in, roots_of}
use Rattle.two_halves.specs.Copying.{CanCopyIn, CopiesIn, HasCopy}
use Rattle.two_halves.specs.Queues.{CanQueue, CanSend, Queues, Sends, with_queue}
use Rattle.two_halves.specs.declared.halves.Halves.{Halves}
use Rattle.two_halves.specs.declared.table.Proc.{Proc}
use Rattle.two_halves.proofs.Standing.Held.{have-stacks, roots-stand, trees_of}
use Rattle.two_halves.proofs.Standing.Keeping.{roots-kept}
use Rattle.two_halves.proofs.Standing.Stacks.{stack-at, no_row, values-kept}

module _ (h : Halves) (row w : ℕ) (r : CanSend h row w) where
  pub can-copy-in : CanCopyIn h w
  can-copy-in = record {
    laid = r.has.laid;
    named = r.has.named;
    shared = r.has.shared;
    processes = r.has.processes;
    stands = r.has.stands;
    tree = r.tree;
    made = r.held.standing;
    fits = omega (arith, r.fits);
  }

  module _ (h1 : Halves) (copy : ℕ) (k : CopiesIn h h1 w copy) where
    copy-there : HasCopy r.has.named h h1 r.has.shared r.has.processes r.has.stands copy r.tree
    copy-there = k.copies r.has.named r.has.shared r.has.processes r.has.stands r.tree r.held.standing

    pub can-queue : CanQueue h1 row copy
    can-queue = record {
      has = record {
        laid = k.laid;
        named = r.has.named;
        shared = r.has.shared;
        processes = r.has.processes;
        stands = copy-there.stands;
        within = omega (arith, r.has.within, ap (λ z. length z.items) k.procs);
      };
      tree = r.tree;
      held = record { standing = copy-there.made; names = r.held.names };
      fits = omega (arith, r.fits, k.low, copy-there.words);
    }

    module _ (h2 : Halves) (q : Queues h1 h2 row copy) where
      abbrev x : HalvesStand r.has.named h r.has.shared r.has.processes
      x = r.has.stands

      abbrev d : ℕ → ℕ → Bool
      d = copy-there.stands.test

      -- All words with a role after the copy are the same.
      kept12 : Kept d d h1.mem h2.mem
      kept12 = record {
        longer = omega (arith, q.same_len);
        weaker = λ a j e. e;
        same = λ a j content e. q.words r.has.named r.has.shared r.has.processes copy-there.stands a j e;
      }

      kept02 : Kept x.test d h.mem h2.mem
      kept02 = record {
        longer = omega (arith, q.same_len, k.same_len);
        weaker = copy-there.kept.weaker;
        same = λ a j content e. kept12.same a j content (copy-there.kept.weaker a j e) ∙ copy-there.kept.same a j content e;
      }

      message-stands : AllStand d r.has.shared h1.mem (copy ∷ []) (r.tree ▹ end)
      unfolding AllStand
      message-stands = (copy-there.made, tt)

      roots-there : AllStand x.test r.has.shared h.mem (roots_of h) (trees_of r.has.processes)
      roots-there = roots-stand x.test r.has.shared h.mem h.room.end (end_of h) r.has.named h.procs.items r.has.processes x.processes

      message-above : (v : ℕ) → IsPointer v → Reach h2.mem (copy ∷ []) v → h.room.top ≤ v / 4
      message-above v p re =
          copy-there.alone v
          (carried-reach d d h1.mem h2.mem (kept-carried d d h1.mem h2.mem kept12) r.has.shared (copy ∷ []) (r.tree ▹ end) message-stands v re) p

      old-below : (u : ℕ) → IsPointer u → Reach h2.mem (roots_of h) u → u / 4 < h.room.top
      old-below u p re =
          let was : Reach h.mem (roots_of h) u =
          carried-reach x.test d h.mem h2.mem (kept-carried x.test d h.mem h2.mem kept02) r.has.shared (roots_of h) (trees_of r.has.processes) roots-there u re in
          let (t, s) = reached x.test r.has.shared h.mem (roots_of h) (trees_of r.has.processes) roots-there u was in
          let some : 0 < object_words h.mem u = object-some h.mem u in
          let (j, (of, e)) = object-role x.test r.has.shared h.mem u t (u / 4) s p (omega arith) (omega (arith, some)) in
          elim (x.lie (u / 4) j e) [ inl o ↦ o.1.0 | inr there ↦ absurd (omega (arith, of, there.1.1)) ]

      same-roots : roots_of h1 ≡ roots_of h
      same-roots =
          ap (λ z. roots_in h1.mem z.items) k.procs
          ∙ roots-kept x.test h.mem h1.mem h.room.end (end_of h) h.procs.items copy-there.bare
          (have-stacks x.test r.has.shared h.mem h.room.end (end_of h) r.has.named h.procs.items r.has.processes x.processes)

      same-values : (o : Proc) → o ≡ get_or h.procs.items row o → values h1.mem o.queue o.waiting ≡ values h.mem o.queue o.waiting
      same-values o is =
          let stacks = have-stacks x.test r.has.shared h.mem h.room.end (end_of h) r.has.named h.procs.items r.has.processes x.processes in
          let one : get_or h.procs.items row no_row ≡ o = get_or_default h.procs.items row no_row o r.has.within ∙ sym is in
          let P : Proc → Type 0 = λ z. values h1.mem z.queue z.waiting ≡ values h.mem z.queue z.waiting in
          subst P one
          (values-kept x.test h.mem h1.mem h.room.end (end_of h) (get_or h.procs.items row no_row).queue (get_or h.procs.items row no_row).waiting copy-there.bare
          (stack-at x.test h.mem h.room.end (end_of h) h.procs.items row r.has.within stacks).1)

      row-before : (p : Proc) → p ≡ get_or h.procs.items row p → p ≡ get_or h1.procs.items row p
      row-before p is = is ∙ ap (λ z. get_or z.items row p) (sym k.procs)

      pub sends : Sends h h2 row w
      sends = record {
        laid = q.laid;
        same_len = q.same_len ∙ k.same_len;
        base = q.base ∙ k.base;
        bins = q.bins ∙ k.bins;
        funs = q.funs ∙ k.funs;
        sweeps = q.sweeps ∙ k.sweeps;
        enters = λ named shared qs y t held.
            let c : HasCopy named h h1 shared qs y copy t = k.copies named shared qs y t held.standing in
            q.enters named shared qs c.stands t (record { standing = c.made; names = held.names });
        words = λ named shared qs y t s.
            let c : HasCopy named h h1 shared qs y copy t = k.copies named shared qs y t s in
            omega (arith, q.low, q.top, k.low, c.words, q.laid.order);
        word = copy;
        alone = record {
          first = q.first;
          last = h2.room.end;
          procs = λ p is. q.procs p (row-before p is) ∙ ap (λ z. with_item z row (with_queue p q.first h2.room.end (p.waiting + 1))) k.procs;
          messages = λ p o new old. q.messages p o new (row-before o old) ∙ ap (λ z. z ++ copy ∷ []) (same-values o old);
          before = q.before;
          after = q.after;
          were = sym same-roots ∙ q.were;
          roots = q.roots;
          apart = λ v u pv pu rv ru e. omega (arith, message-above v pv rv, old-below u pu ru, e);
        };
      }
