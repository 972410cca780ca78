-- Rows that stand for processes: read, written, taken out and added, how many references they have made, and messages that wait
-- within the walk limit.
use Rattle.std.proofs.Common.{◌≡◌, ℕ, zero, suc, ◌<◌, ◌≤◌, List, [], ◌∷◌, ◌++◌, length, get_or, set, ap, arith, Bool, map, replicate, refl, sym, ◌∙◌}
use Rattle.std.specs.List.{remove}
use Rattle.one_space.specs.Heap.{HaveMade, number_in}
use Rattle.two_halves.specs.Collecting.{AreSameRows}
use Rattle.two_halves.specs.declared.table.Proc.{Proc}
use Rattle.plain_term.specs.Tree.{Tree}
use Rattle.plain_term.specs.Tree.Tree.{Nil}
use Rattle.plain_machine.specs.State.{Process, fresh_process}
use Rattle.term_words.proofs.ByKind.Makes.{stands-nil}
use Rattle.numbered_rows.specs.Numbers.{numbers}
use Rattle.two_halves.specs.Stack.{values}
use Rattle.two_halves.specs.Halves.{ProcStands, ProcsStand}
use Rattle.term_order.specs.Held.{HoldTrees, HoldsTree}
use Rattle.plain_machine.specs.Laws.{AreWithin}
use Rattle.plain_machine.proofs.Properly.Holding.{joined-within, queues, split-within}
use Rattle.plain_term.proofs.Known.{knows-beyond}
use Rattle.item_build.proofs.Meaning.Known.{stands-known}

module _ (m n : ℕ) (up : m ≤ n) where
  pub made-more : (rows : List Proc) → HaveMade m rows → HaveMade n rows
  made-more [] h = tt
  made-more (p ∷ rows) h = (omega (arith, h.0, up), made-more rows h.1)

  pub made-set : (rows : List Proc) (i : ℕ) (p : Proc) → HaveMade m rows → p.refs ≤ n → HaveMade n (set rows i p)
  made-set [] i p h few = tt
  made-set (o ∷ rows) zero p h few = (few, made-more rows h.1)
  made-set (o ∷ rows) (suc i) p h few = (omega (arith, h.0, up), made-set rows i p h.1 few)

  pub made-remove : (rows : List Proc) (i : ℕ) → HaveMade m rows → HaveMade n (remove rows i)
  made-remove [] zero h = tt
  made-remove [] (suc i) h = tt
  made-remove (o ∷ rows) zero h = made-more rows h.1
  made-remove (o ∷ rows) (suc i) h = (omega (arith, h.0, up), made-remove rows i h.1)

  pub made-push : (rows : List Proc) (p : Proc) → HaveMade m rows → p.refs ≤ n → HaveMade n (rows ++ p ∷ [])
  made-push [] p h few = (few, tt)
  made-push (o ∷ rows) p h few = (omega (arith, h.0, up), made-push rows p h.1 few)

  -- The same rows have made as many.
  pub made-same : (olds news : List Proc) → AreSameRows olds news → HaveMade m olds → HaveMade n news
  made-same [] [] s h = tt
  made-same [] (r ∷ news) s h = absurd s
  made-same (o ∷ olds) [] s h = absurd s
  made-same (o ∷ olds) (r ∷ news) s h = (omega (arith, s.1.1.1.0, h.0, up), made-same olds news s.1.1.1.1 h.1)

pub made-at : (m : ℕ) (rows : List Proc) (i : ℕ) (d : Proc) → i < length rows → HaveMade m rows → (get_or rows i d).refs ≤ m
made-at m [] i d less h = absurd (omega arith)
made-at m (o ∷ rows) zero d less h = h.0
made-at m (o ∷ rows) (suc i) d less h = made-at m rows i d (omega arith) h.1

-- A row that is written with as many as before.
pub made-row : (m n : ℕ) (rows : List Proc) (i : ℕ) (p old : Proc) → m ≤ n → i < length rows → old ≡ get_or rows i old → p.refs ≡ old.refs → HaveMade m rows → HaveMade n (set rows i p)
made-row m n rows i p old up less is same h = made-set m n up rows i p h (omega (arith, same, ap (λ r. r.refs) is, made-at m rows i old less h, up))

-- The numbers of processes.
abbrev pub process_numbers : List Process → List ℕ
process_numbers qs = map (λ q. q.number) qs

module _ (c : ℕ → ℕ → Bool) (shared : List (List ℕ)) (mem : List ℕ) (named : ℕ) where
  nil-holds : HoldsTree c shared mem named 59 Nil
  nil-holds = record { standing = stands-nil c shared mem 59 refl; names = refl }

  nils-hold : (n : ℕ) → HoldTrees c shared mem named (replicate n 59) (replicate n Nil)
  nils-hold zero = tt
  nils-hold (suc n) = (nil-holds, nils-hold n)

  module _ (low limit : ℕ) where
    pub fresh-stands : (p : Proc) (n : ℕ) → p.number ≡ n → p.regs ≡ replicate 16 59 → p.depth ≡ 0 → p.waiting ≡ 0 → p.refs ≡ 0 → ProcStands c shared mem low limit named p (fresh_process n)
    fresh-stands p n is regs depth waiting none =
        record {
          number = sym is;
          count = ap length regs;
          registers = rw regs (nils-hold 16);
          places = rw depth tt;
          stack = rw depth tt;
          waits = rw waiting tt;
          queue = rw waiting tt;
          last = rw waiting tt;
          refs = sym none;
        }

    pub procs-remove : (ps : List Proc) (qs : List Process) (i : ℕ) → ProcsStand c shared mem low limit named ps qs → ProcsStand c shared mem low limit named (remove ps i) (remove qs i)
    procs-remove [] [] zero s = tt
    procs-remove [] [] (suc i) s = tt
    procs-remove [] (v ∷ qs) i s = absurd s
    procs-remove (u ∷ ps) [] i s = absurd s
    procs-remove (u ∷ ps) (v ∷ qs) zero s = s.1
    procs-remove (u ∷ ps) (v ∷ qs) (suc i) s = (s.0, procs-remove ps qs i s.1)

    pub procs-push : (ps : List Proc) (qs : List Process) (p : Proc) (q : Process) → ProcsStand c shared mem low limit named ps qs → ProcStands c shared mem low limit named p q
        → ProcsStand c shared mem low limit named (ps ++ p ∷ []) (qs ++ q ∷ [])
    procs-push [] [] p q s x = (x, tt)
    procs-push [] (v ∷ qs) p q s x = absurd s
    procs-push (u ∷ ps) [] p q s x = absurd s
    procs-push (u ∷ ps) (v ∷ qs) p q s x = (s.0, procs-push ps qs p q s.1 x)

    pub procs-numbers : (ps : List Proc) (qs : List Process) → ProcsStand c shared mem low limit named ps qs → process_numbers qs ≡ numbers number_in ps
    procs-numbers [] [] s = refl
    procs-numbers [] (v ∷ qs) s = absurd s
    procs-numbers (u ∷ ps) [] s = absurd s
    procs-numbers (u ∷ ps) (v ∷ qs) s = ap (λ x. x ∷ process_numbers qs) s.0.number ∙ ap (λ x. u.number ∷ x) (procs-numbers ps qs s.1)

-- More shared binaries stand after those that there are.
module _ (c : ℕ → ℕ → Bool) (shared extra : List (List ℕ)) (mem : List ℕ) (low limit named : ℕ) where
  held-within : (ws : List ℕ) (ts : List Tree) → HoldTrees c shared mem named ws ts → AreWithin shared ts → AreWithin (shared ++ extra) ts
  held-within [] [] h k = tt
  held-within [] (t ∷ ts) h k = absurd h
  held-within (w ∷ ws) [] h k = absurd h
  held-within (w ∷ ws) (t ∷ ts) h k = (knows-beyond [] shared extra t (stands-known c shared mem w t h.0.standing) ∙ k.0, held-within ws ts h.1 k.1)

  pub within-grown : (ps : List Proc) (qs : List Process) → ProcsStand c shared mem low limit named ps qs → AreWithin shared (queues qs) → AreWithin (shared ++ extra) (queues qs)
  within-grown [] [] s k = tt
  within-grown [] (q ∷ qs) s k = absurd s
  within-grown (p ∷ ps) [] s k = absurd s
  within-grown (p ∷ ps) (q ∷ qs) s k =
      let l = split-within shared q.queue (queues qs) k in
      joined-within (shared ++ extra) q.queue (queues qs) (held-within (values mem p.queue p.waiting) q.queue s.0.queue l.0) (within-grown ps qs s.1 l.1)
