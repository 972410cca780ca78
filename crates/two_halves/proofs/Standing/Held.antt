-- The roots of all processes, and the trees that they stand for.
use Rattle.std.proofs.Common.{◌≡◌, ℕ, zero, suc, ◌+◌, ◌*◌, Bool, List, [], ◌∷◌, ◌++◌, length, get_or, sum_by, refl, ◌∙◌, ap, arith}
use Rattle.std.proofs.lemmas.List.Sums.{sum_by-cons}
use Rattle.plain_term.specs.Tree.{Tree, Trees}
use Rattle.plain_term.specs.Tree.Trees.{end, ◌▹◌}
use Rattle.plain_term.specs.Measures.{flat, flat_of_all}
use Rattle.plain_machine.specs.State.{Process}
use Rattle.term_words.specs.Stands.{AllStand}
use Rattle.two_halves.specs.Stack.{values}
use Rattle.two_halves.specs.Halves.{ProcStands, ProcsStand, places_in}
use Rattle.term_order.specs.Held.{HoldTrees}
use Rattle.two_halves.specs.Reached.{held_by, held_words, roots_in}
use Rattle.two_halves.specs.Rows.{HaveStacks}
use Rattle.two_halves.specs.declared.table.Proc.{Proc}

-- Trees before trees.
abbrev pub onto : List Tree → Trees → Trees
onto [] us = us
onto (t ∷ ts) us = t ▹ onto ts us

-- The trees of the roots.
abbrev pub trees_of : List Process → Trees
trees_of [] = end
trees_of (q ∷ qs) = onto q.registers (onto q.stack (onto q.queue (trees_of qs)))

all-onto : (c : ℕ → ℕ → Bool) (shared : List (List ℕ)) (mem : List ℕ) (named : ℕ) (ws rest : List ℕ) (ts : List Tree) (us : Trees) → HoldTrees c shared mem named ws ts
    → AllStand c shared mem rest us → AllStand c shared mem (ws ++ rest) (onto ts us)
unfolding AllStand
all-onto c shared mem named [] rest [] us h a = a
all-onto c shared mem named [] rest (t ∷ ts) us h a = absurd h
all-onto c shared mem named (w ∷ ws) rest [] us h a = absurd h
all-onto c shared mem named (w ∷ ws) rest (t ∷ ts) us (first, h) a = (first.standing, all-onto c shared mem named ws rest ts us h a)

pub roots-stand : (c : ℕ → ℕ → Bool) (shared : List (List ℕ)) (mem : List ℕ) (low limit named : ℕ) (ps : List Proc) (qs : List Process) → ProcsStand c shared mem low limit named ps qs
    → AllStand c shared mem (roots_in mem ps) (trees_of qs)
unfolding AllStand
roots-stand c shared mem low limit named [] [] s = tt
roots-stand c shared mem low limit named [] (q ∷ qs) s = absurd s
roots-stand c shared mem low limit named (p ∷ ps) [] s = absurd s
roots-stand c shared mem low limit named (p ∷ ps) (q ∷ qs) (first, rest) =
    all-onto c shared mem named p.regs (values mem p.stack p.depth ++ (values mem p.queue p.waiting ++ roots_in mem ps)) q.registers (onto q.stack (onto q.queue (trees_of qs))) first.registers
    (all-onto c shared mem named (values mem p.stack p.depth) (values mem p.queue p.waiting ++ roots_in mem ps) q.stack (onto q.queue (trees_of qs)) first.stack
    (all-onto c shared mem named (values mem p.queue p.waiting) (roots_in mem ps) q.queue (trees_of qs) first.queue (roots-stand c shared mem low limit named ps qs rest)))

pub have-stacks : (c : ℕ → ℕ → Bool) (shared : List (List ℕ)) (mem : List ℕ) (low limit named : ℕ) (ps : List Proc) (qs : List Process) → ProcsStand c shared mem low limit named ps qs
    → HaveStacks c mem low limit ps
have-stacks c shared mem low limit named [] [] s = tt
have-stacks c shared mem low limit named [] (q ∷ qs) s = absurd s
have-stacks c shared mem low limit named (p ∷ ps) [] s = absurd s
have-stacks c shared mem low limit named (p ∷ ps) (q ∷ qs) (first, rest) = (first.places, (first.waits, have-stacks c shared mem low limit named ps qs rest))

-- A stack and a queue have as many trees as places.
held-length : (c : ℕ → ℕ → Bool) (shared : List (List ℕ)) (mem : List ℕ) (named : ℕ) (ws : List ℕ) (ts : List Tree) → HoldTrees c shared mem named ws ts → length ts ≡ length ws
held-length c shared mem named [] [] h = refl
held-length c shared mem named [] (t ∷ ts) h = absurd h
held-length c shared mem named (w ∷ ws) [] h = absurd h
held-length c shared mem named (w ∷ ws) (t ∷ ts) (first, h) = ap suc (held-length c shared mem named ws ts h)

values-length : (mem : List ℕ) (place n : ℕ) → length (values mem place n) ≡ n
values-length mem place zero = refl
values-length mem place (suc n) = ap suc (values-length mem (get_or mem (place + 1) 0) n)

pub stack-length : (c : ℕ → ℕ → Bool) (shared : List (List ℕ)) (mem : List ℕ) (low limit named : ℕ) (p : Proc) (q : Process) → ProcStands c shared mem low limit named p q → length q.stack ≡ p.depth
stack-length c shared mem low limit named p q s = held-length c shared mem named (values mem p.stack p.depth) q.stack s.stack ∙ values-length mem p.stack p.depth

pub queue-length : (c : ℕ → ℕ → Bool) (shared : List (List ℕ)) (mem : List ℕ) (low limit named : ℕ) (p : Proc) (q : Process) → ProcStands c shared mem low limit named p q → length q.queue ≡ p.waiting
queue-length c shared mem low limit named p q s = held-length c shared mem named (values mem p.queue p.waiting) q.queue s.queue ∙ values-length mem p.queue p.waiting

flat-onto : (ts : List Tree) (us : Trees) → flat_of_all (onto ts us) ≡ sum_by flat ts + flat_of_all us
flat-onto [] us = omega arith
flat-onto (t ∷ ts) us = omega (arith, flat-onto ts us, sum_by-cons flat t ts)

-- The trees of all roots and two words a place are the words that the processes hold.
pub held-words : (c : ℕ → ℕ → Bool) (shared : List (List ℕ)) (mem : List ℕ) (low limit named : ℕ) (ps : List Proc) (qs : List Process) → ProcsStand c shared mem low limit named ps qs
    → flat_of_all (trees_of qs) + 2 * places_in ps ≡ held_words qs
held-words c shared mem low limit named [] [] s = refl
held-words c shared mem low limit named [] (q ∷ qs) s = absurd s
held-words c shared mem low limit named (p ∷ ps) [] s = absurd s
held-words c shared mem low limit named (p ∷ ps) (q ∷ qs) (first, rest) =
    omega (
      arith,
      held-words c shared mem low limit named ps qs rest,
      stack-length c shared mem low limit named p q first,
      queue-length c shared mem low limit named p q first,
      flat-onto q.registers (onto q.stack (onto q.queue (trees_of qs))),
      flat-onto q.stack (onto q.queue (trees_of qs)),
      flat-onto q.queue (trees_of qs),
      sum_by-cons held_by q qs,
      sum_by-cons (λ x. x.depth + x.waiting) p ps,
    )
