-- One row is changed: a register is written, a stack grows or shrinks.
use Rattle.std.proofs.Common.{◌≡◌, ℕ, zero, suc, ◌+◌, ◌-◌, ◌<◌, ◌≤◌, ◌⊎◌, Bool, true, List, [], ◌∷◌, length, get_or, set, refl, sym, ◌∙◌, ap, arith}
use Rattle.std.proofs.lemmas.List.{get_or-set_other, get_or-set_same, length-set}
use Rattle.plain_term.specs.Tree.{Tree}
use Rattle.plain_machine.specs.State.{Process, register, with_register}
use Rattle.term_words.specs.Kept.{Keeps}
use Rattle.term_words.proofs.Framing.Frames.{frame}
use Rattle.two_halves.specs.Stack.{IsPlace, IsStack, values}
use Rattle.two_halves.specs.Halves.{ProcStands, ProcsStand}
use Rattle.term_order.specs.Held.{HoldTrees, HoldsTree}
use Rattle.two_halves.specs.declared.table.Proc.{Proc}
use Rattle.two_halves.proofs.Queued.Queuing.{row-at, row-set}
use Rattle.heaps_api.specs.Meaning.{no_process}
use Rattle.heaps_api.proofs.Holding.{held-at, held-set}
use Rattle.two_halves.proofs.Standing.Keeping.{proc-on, procs-on}
use Rattle.two_halves.proofs.Standing.Stacks.{AreKept}
use Rattle.two_halves.specs.Stack.{AreApart}
use Rattle.two_halves.specs.Halves.{all_places}
use Rattle.two_halves.proofs.Standing.Apart.{apart-kept, apart-pushed}
use Rattle.two_halves.proofs.Standing.Held.{have-stacks}

-- A row with another word in a register, and so many references made.
abbrev pub with_made : Proc → (r w refs : ℕ) → Proc
with_made p r w refs = record { number = p.number; regs = set p.regs r w; stack = p.stack; depth = p.depth; queue = p.queue; last = p.last; waiting = p.waiting; refs = refs }

-- A process with another tree in a register, and so many references made.
abbrev pub with_tree_made : Process → (r : ℕ) → Tree → (refs : ℕ) → Process
with_tree_made q r t refs = record (with_register r t q) { refs = refs }

-- A row with another word in a register.
abbrev pub with_word : Proc → ℕ → ℕ → Proc
with_word p r w = with_made p r w p.refs

-- A row with another stack.
abbrev pub with_stack : Proc → (stack depth : ℕ) → Proc
with_stack p stack depth = record { number = p.number; regs = p.regs; stack = stack; depth = depth; queue = p.queue; last = p.last; waiting = p.waiting; refs = p.refs }

module _ (c : ℕ → ℕ → Bool) (shared : List (List ℕ)) (mem : List ℕ) (low limit named : ℕ) (ps : List Proc) (qs : List Process) (i : ℕ) (p : Proc) (less : i < length ps) (is : p ≡ get_or ps i p)
    (s : ProcsStand c shared mem low limit named ps qs) where
  pub row-stands : ProcStands c shared mem low limit named p (get_or qs i no_process)
  row-stands = rw is (row-at c shared mem low limit named ps qs i p no_process less s)

  -- Another word in a register, and so many references made.
  pub register-made : (r w made refs : ℕ) (t : Tree) → HoldsTree c shared mem named w t → refs ≡ made
      → ProcsStand c shared mem low limit named (set ps i (with_made p r w made)) (set qs i (with_tree_made (get_or qs i no_process) r t refs))
  register-made r w made refs t h same = row-set c shared mem low limit named ps qs i (with_made p r w made) (with_tree_made (get_or qs i no_process) r t refs) s (record {
    number = row-stands.number;
    count = length-set p.regs r w ∙ row-stands.count;
    registers = held-set c shared mem named p.regs ((get_or qs i no_process).registers) r w t row-stands.registers h;
    places = row-stands.places;
    stack = row-stands.stack;
    waits = row-stands.waits;
    queue = row-stands.queue;
    last = row-stands.last;
    refs = same;
  })

  pub register-set : (r w : ℕ) (t : Tree) → HoldsTree c shared mem named w t
      → ProcsStand c shared mem low limit named (set ps i (with_word p r w)) (set qs i (with_register r t (get_or qs i no_process)))
  register-set r w t h = register-made r w p.refs (get_or qs i no_process).refs t h row-stands.refs

-- A stack that is not empty.
pub record TopOf (c : ℕ → ℕ → Bool) (shared : List (List ℕ)) (mem : List ℕ) (low limit named place depth : ℕ) (stack : List Tree) : Type 0 where
  pub value : Tree
  pub rest : List Tree
  pub shape : stack ≡ value ∷ rest
  pub here : HoldsTree c shared mem named (get_or mem place 0) value
  pub under : HoldTrees c shared mem named (values mem (get_or mem (place + 1) 0) (depth - 1)) rest
  pub places : IsStack c mem low limit (get_or mem (place + 1) 0) (depth - 1)
  pub within : place + 2 ≤ limit

pub top-of : (c : ℕ → ℕ → Bool) (shared : List (List ℕ)) (mem : List ℕ) (low limit named place depth : ℕ) (stack : List Tree) → (depth ≡ 0 → ⊥) → IsStack c mem low limit place depth
    → HoldTrees c shared mem named (values mem place depth) stack
    → TopOf c shared mem low limit named place depth stack
top-of c shared mem low limit named place zero stack some s h = absurd (some refl)
top-of c shared mem low limit named place (suc n) [] some s h = absurd h
top-of c shared mem low limit named place (suc n) (t ∷ ts) some s h =
    let one : suc n - 1 ≡ n = omega arith in
    record { value = t; rest = ts; shape = refl; here = h.0; under = rw one h.1; places = rw one s.1; within = s.0.below }

-- An empty stack.
pub none-held : (c : ℕ → ℕ → Bool) (shared : List (List ℕ)) (mem : List ℕ) (named place depth : ℕ) (stack : List Tree) → depth ≡ 0 → HoldTrees c shared mem named (values mem place depth) stack
    → stack ≡ []
none-held c shared mem named place zero [] e h = refl
none-held c shared mem named place zero (t ∷ ts) e h = absurd h
none-held c shared mem named place (suc n) stack e h = absurd (omega (arith, e))

module _ (c : ℕ → ℕ → Bool) (shared : List (List ℕ)) (mem : List ℕ) (low limit named : ℕ) (ps : List Proc) (qs : List Process) (i : ℕ) (p : Proc) (less : i < length ps) (is : p ≡ get_or ps i p)
    (s : ProcsStand c shared mem low limit named ps qs) (some : p.depth ≡ 0 → ⊥) where
  pub top-here : TopOf c shared mem low limit named p.stack p.depth ((get_or qs i no_process).stack)
  top-here =
      let h = row-stands c shared mem low limit named ps qs i p less is s in
      top-of c shared mem low limit named p.stack p.depth ((get_or qs i no_process).stack) some h.places h.stack

  pub popped : (r w u d : ℕ) → w ≡ get_or mem p.stack 0 → u ≡ get_or mem (p.stack + 1) 0 → d ≡ p.depth - 1
      → ProcsStand c shared mem low limit named (set ps i (with_stack (with_word p r w) u d)) (set qs i (record (with_register r top-here.value (get_or qs i no_process)) { stack = top-here.rest }))
  popped r w u d value below depth =
      let h = row-stands c shared mem low limit named ps qs i p less is s in
      row-set c shared mem low limit named ps qs i (with_stack (with_word p r w) u d) (record (with_register r top-here.value (get_or qs i no_process)) { stack = top-here.rest }) s (record {
        number = h.number;
        count = length-set p.regs r w ∙ h.count;
        registers = held-set c shared mem named p.regs ((get_or qs i no_process).registers) r w top-here.value h.registers (rw value top-here.here);
        places = rw (depth, below) top-here.places;
        stack = rw (depth, below) top-here.under;
        waits = h.waits;
        queue = h.queue;
        last = h.last;
        refs = h.refs;
      })

-- A place more below all others; no role is among them.
module _ (c : ℕ → ℕ → Bool) (shared : List (List ℕ)) (mem : List ℕ) (top low limit named : ℕ) (ps : List Proc) (qs : List Process) (i r : ℕ) (p : Proc) (less : i < length ps)
    (is : p ≡ get_or ps i p) (small : r < 16)
    (s : ProcsStand c shared mem low limit named ps qs) (roles : (a k : ℕ) → c a k ≡ true → (a < top) ⊎ (low ≤ a)) (fits : top + 2 ≤ low) (inside : limit ≤ length mem) (order : low ≤ limit)
    (mem2 : List ℕ) (written : mem2 ≡ set (set mem (low - 2) (get_or p.regs r 0)) (low - 2 + 1) p.stack) where
  others : (q : ℕ) → (q ≡ low - 2 → ⊥) → (q ≡ low - 2 + 1 → ⊥) → get_or mem2 q 0 ≡ get_or mem q 0
  others q one two =
      ap (λ z. get_or z q 0) written ∙ get_or-set_other (set mem (low - 2) (get_or p.regs r 0)) (low - 2 + 1) q p.stack 0 two ∙ get_or-set_other mem (low - 2) q (get_or p.regs r 0) 0 one

  value-there : get_or mem2 (low - 2) 0 ≡ get_or p.regs r 0
  value-there =
      ap (λ z. get_or z (low - 2) 0) written ∙ get_or-set_other (set mem (low - 2) (get_or p.regs r 0)) (low - 2 + 1) (low - 2) p.stack 0 (λ e. omega (arith, e))
      ∙ get_or-set_same mem (low - 2) (get_or p.regs r 0) 0 (omega (arith, fits, inside, order))

  under-there : get_or mem2 (low - 2 + 1) 0 ≡ p.stack
  under-there =
      ap (λ z. get_or z (low - 2 + 1) 0) written
      ∙ get_or-set_same (set mem (low - 2) (get_or p.regs r 0)) (low - 2 + 1) p.stack 0 (omega (arith, fits, inside, order, length-set mem (low - 2) (get_or p.regs r 0)))

  pub pushed-len : length mem2 ≡ length mem
  pushed-len = ap length written ∙ length-set (set mem (low - 2) (get_or p.regs r 0)) (low - 2 + 1) p.stack ∙ length-set mem (low - 2) (get_or p.regs r 0)

  -- Words with a role are the same.
  pub words : (a k : ℕ) → c a k ≡ true → get_or mem2 a 0 ≡ get_or mem a 0
  words a k h = others a (λ e. omega (arith, e, roles a k h, fits)) (λ e. omega (arith, e, roles a k h, fits))

  kept : Keeps c c mem mem2
  kept = frame c c mem mem2 (record {
    longer = omega (arith, pushed-len);
    weaker = λ a k h. h;
    same = λ a k content h. words a k h;
  })

  trees : (w : ℕ) (t : Tree) → HoldsTree c shared mem named w t → HoldsTree c shared mem2 named w t
  trees w t h = record { standing = kept.each shared w t h.standing; names = h.names }

  places : AreKept c mem mem2 low limit
  places q above below none = others q (λ e. omega (arith, e, above, fits)) (λ e. omega (arith, e, above, fits))

  new-place : IsPlace c (low - 2) limit (low - 2)
  new-place = record { above = omega arith; below = omega (arith, fits, order); bare = λ q k from under e. omega (arith, from, under, roles q k e, fits) }

  pub pushed : ProcsStand c shared mem2 (low - 2) limit named (set ps i (with_stack p (low - 2) (p.depth + 1)))
      (set qs i (record (get_or qs i no_process) { stack = register r (get_or qs i no_process) ∷ (get_or qs i no_process).stack }))
  pushed =
      let old = row-stands c shared mem low limit named ps qs i p less is s in
      let h : ProcStands c shared mem2 (low - 2) limit named p (get_or qs i no_process) = proc-on c c shared mem mem2 named named low (low - 2) limit trees places
      (λ q k above below none. none k) (omega arith) p
      (get_or qs i no_process) old in
      let value : HoldsTree c shared mem2 named (get_or p.regs r 0) (register r (get_or qs i no_process)) = held-at c shared mem2 named p.regs ((get_or qs i no_process).registers) r
      (omega (arith, small, h.count)) h.registers in
      let one_more : suc p.depth ≡ p.depth + 1 = omega arith in
      row-set c shared mem2 (low - 2) limit named ps qs i (with_stack p (low - 2) (p.depth + 1))
      (record (get_or qs i no_process) { stack = register r (get_or qs i no_process) ∷ (get_or qs i no_process).stack })
      (procs-on c c shared mem mem2 named named low (low - 2) limit trees places (λ q k above below none. none k) (omega arith) ps qs s)
      (record {
        number = h.number;
        count = h.count;
        registers = h.registers;
        places = rw (sym one_more) (new-place, rw under-there h.places);
        stack = rw (sym one_more) (rw value-there value, rw under-there h.stack);
        waits = h.waits;
        queue = h.queue;
        last = h.last;
        refs = h.refs;
      })

  -- The new place is apart from all others.
  pub pushed-apart : AreApart (all_places mem ps) → AreApart (all_places mem2 (set ps i (with_stack p (low - 2) (p.depth + 1))))
  pushed-apart a =
      let rows : ProcsStand c shared mem2 low limit named ps qs = procs-on c c shared mem mem2 named named low low limit trees places (λ q k above below none. none k) (omega arith) ps qs s in
      apart-pushed c mem2 low limit ps i (with_stack p (low - 2) (p.depth + 1)) p less is (have-stacks c shared mem2 low limit named ps qs rows) (omega (arith, fits)) under-there refl refl
      (apart-kept c shared mem mem2 low limit named ps qs places s a)
