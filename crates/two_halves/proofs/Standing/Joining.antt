-- Rows stand for their processes still, while a half fills.
use Rattle.std.proofs.Common.{◌≡◌, ℕ, ◌<◌, ◌≤◌, Bool, true, List, [], ◌∷◌, sym, subst, arith}
use Rattle.plain_term.specs.Tree.{Tree}
use Rattle.plain_machine.specs.State.{Process}
use Rattle.term_words.specs.Stands.{Stands}
use Rattle.term_order.specs.Held.{HoldTrees}
use Rattle.two_halves.specs.Stack.{IsStack, values}
use Rattle.two_halves.specs.Halves.{ProcStands, ProcsStand}
use Rattle.two_halves.specs.declared.table.Proc.{Proc}
use Rattle.two_halves.proofs.Standing.Stacks.{AreKept, ends-kept, stack-kept, stack-under, values-kept}

-- Rows stand for their processes still, where trees do, and places without a role are the same and get none.
module _ (c d : ℕ → ℕ → Bool) (shared shared2 : List (List ℕ)) (mem mem2 : List ℕ) (named_below low low2 limit : ℕ)
    (trees : (w : ℕ) (t : Tree) → Stands c shared mem w t → Stands d shared2 mem2 w t) (same : AreKept c mem mem2 low limit)
    (bare : (q k : ℕ) → low ≤ q → q < limit → ((j : ℕ) → c q j ≡ true → ⊥) → d q k ≡ true → ⊥) (down : low2 ≤ low) where
  held-on : (ws : List ℕ) (ts : List Tree) → HoldTrees c shared mem named_below ws ts → HoldTrees d shared2 mem2 named_below ws ts
  held-on [] [] h = tt
  held-on [] (t ∷ ts) h = absurd h
  held-on (w ∷ ws) [] h = absurd h
  held-on (w ∷ ws) (t ∷ ts) (first, rest) = (record { standing = trees w t first.standing; names = first.names }, held-on ws ts rest)

  places-on : (from n : ℕ) → IsStack c mem low limit from n → IsStack d mem2 low2 limit from n
  places-on from n s = stack-under c d mem2 low limit low2 limit from n down (omega arith) bare (stack-kept c mem mem2 low limit from n same s)

  proc-on : (p : Proc) (q : Process) → ProcStands c shared mem low limit named_below p q → ProcStands d shared2 mem2 low2 limit named_below p q
  proc-on p q s =
      let P : List ℕ → Type 0 = λ z. HoldTrees d shared2 mem2 named_below z q.stack in
      let Q : List ℕ → Type 0 = λ z. HoldTrees d shared2 mem2 named_below z q.queue in
      record {
        number = s.number;
        count = s.count;
        registers = held-on p.regs q.registers s.registers;
        places = places-on p.stack p.depth s.places;
        stack = subst P (sym (values-kept c mem mem2 low limit p.stack p.depth same s.places)) (held-on (values mem p.stack p.depth) q.stack s.stack);
        waits = places-on p.queue p.waiting s.waits;
        queue = subst Q (sym (values-kept c mem mem2 low limit p.queue p.waiting same s.waits)) (held-on (values mem p.queue p.waiting) q.queue s.queue);
        last = ends-kept c mem mem2 low limit p.queue p.waiting p.last same s.waits s.last;
        refs = s.refs;
      }

  pub procs-on : (ps : List Proc) (qs : List Process) → ProcsStand c shared mem low limit named_below ps qs → ProcsStand d shared2 mem2 low2 limit named_below ps qs
  procs-on [] [] s = tt
  procs-on [] (q ∷ qs) s = absurd s
  procs-on (p ∷ ps) [] s = absurd s
  procs-on (p ∷ ps) (q ∷ qs) (first, rest) = (proc-on p q first, procs-on ps qs rest)
