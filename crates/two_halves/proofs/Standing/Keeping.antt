-- Rows that stand for processes stand still where trees do and places are the same.
use Rattle.std.proofs.Common.{◌≡◌, ℕ, ◌<◌, ◌≤◌, Bool, true, List, [], ◌∷◌, ◌++◌, refl, sym, ◌∙◌, ap, subst, arith}
use Rattle.plain_term.specs.Tree.{Tree}
use Rattle.plain_machine.specs.State.{Process}
use Rattle.two_halves.specs.Stack.{IsStack, values}
use Rattle.two_halves.specs.Halves.{ProcStands, ProcsStand}
use Rattle.term_order.specs.Held.{HoldTrees, HoldsTree}
use Rattle.two_halves.specs.Reached.{roots_in}
use Rattle.two_halves.specs.Rows.{HaveStacks}
use Rattle.two_halves.specs.declared.table.Proc.{Proc}
use Rattle.two_halves.proofs.Standing.Stacks.{AreKept, ends-kept, stack-kept, stack-under, values-kept}

module _ (c d : ℕ → ℕ → Bool) (shared : List (List ℕ)) (mem mem2 : List ℕ) (named named2 low low2 limit : ℕ)
    (trees : (w : ℕ) (t : Tree) → HoldsTree c shared mem named w t → HoldsTree d shared mem2 named2 w t)
    (same : AreKept c mem mem2 low limit) (bare : (q k : ℕ) → low ≤ q → q < limit → ((j : ℕ) → c q j ≡ true → ⊥) → d q k ≡ true → ⊥) (down : low2 ≤ low) where
  pub held-on : (ws : List ℕ) (ts : List Tree) → HoldTrees c shared mem named ws ts → HoldTrees d shared mem2 named2 ws ts
  held-on [] [] h = tt
  held-on [] (t ∷ ts) h = absurd h
  held-on (w ∷ ws) [] h = absurd h
  held-on (w ∷ ws) (t ∷ ts) h = (trees w t h.0, held-on ws ts h.1)

  places-on : (place depth : ℕ) → IsStack c mem low limit place depth → IsStack d mem2 low2 limit place depth
  places-on place depth s = stack-under c d mem2 low limit low2 limit place depth down (omega arith) bare (stack-kept c mem mem2 low limit place depth same s)

  values-on : (place depth : ℕ) (ts : List Tree) → IsStack c mem low limit place depth → HoldTrees c shared mem named (values mem place depth) ts
      → HoldTrees d shared mem2 named2 (values mem2 place depth) ts
  values-on place depth ts s h =
      let P : List ℕ → Type 0 = λ z. HoldTrees d shared mem2 named2 z ts in
      subst P (sym (values-kept c mem mem2 low limit place depth same s)) (held-on (values mem place depth) ts h)

  pub proc-on : (p : Proc) (q : Process) → ProcStands c shared mem low limit named p q → ProcStands d shared mem2 low2 limit named2 p q
  proc-on p q s = record {
    number = s.number;
    count = s.count;
    registers = held-on p.regs q.registers s.registers;
    places = places-on p.stack p.depth s.places;
    stack = values-on p.stack p.depth q.stack s.places s.stack;
    waits = places-on p.queue p.waiting s.waits;
    queue = values-on p.queue p.waiting q.queue s.waits s.queue;
    last = ends-kept c mem mem2 low limit p.queue p.waiting p.last same s.waits s.last;
    refs = s.refs;
  }

  pub procs-on : (ps : List Proc) (qs : List Process) → ProcsStand c shared mem low limit named ps qs → ProcsStand d shared mem2 low2 limit named2 ps qs
  procs-on [] [] s = tt
  procs-on [] (q ∷ qs) s = absurd s
  procs-on (p ∷ ps) [] s = absurd s
  procs-on (p ∷ ps) (q ∷ qs) s = (proc-on p q s.0, procs-on ps qs s.1)

-- The roots are the same words.
pub roots-kept : (c : ℕ → ℕ → Bool) (mem mem2 : List ℕ) (low limit : ℕ) (ps : List Proc) → AreKept c mem mem2 low limit → HaveStacks c mem low limit ps → roots_in mem2 ps ≡ roots_in mem ps
roots-kept c mem mem2 low limit [] same s = refl
roots-kept c mem mem2 low limit (p ∷ ps) same (first, (second, rest)) =
    ap (λ z. p.regs ++ (z ++ (values mem2 p.queue p.waiting ++ roots_in mem2 ps))) (values-kept c mem mem2 low limit p.stack p.depth same first)
    ∙ ap (λ z. p.regs ++ (values mem p.stack p.depth ++ (z ++ roots_in mem2 ps))) (values-kept c mem mem2 low limit p.queue p.waiting same second)
    ∙ ap (λ z. p.regs ++ (values mem p.stack p.depth ++ (values mem p.queue p.waiting ++ z))) (roots-kept c mem mem2 low limit ps same rest)
