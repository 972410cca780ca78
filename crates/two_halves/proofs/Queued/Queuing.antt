-- A message leaves a queue at its front.
use Rattle.std.proofs.Common.{◌≡◌, ℕ, zero, suc, ◌+◌, ◌-◌, ◌<◌, ◌≤◌, Bool, List, [], ◌∷◌, ◌++◌, length, get_or, set, refl, sym, ◌∙◌, ap, subst, arith, inl, inr}
use Rattle.std.proofs.lemmas.List.{get_or_default}
use Rattle.std.proofs.lemmas.List.Sums.{sum_by-set}
use Rattle.std.specs.Vec.{with_item}
use Rattle.plain_term.specs.Tree.{Tree}
use Rattle.plain_machine.specs.State.{Process}
use Rattle.term_words.specs.Counted.{In}
use Rattle.two_halves.specs.Stack.{AreApart, IsLastPlace, IsPlace, IsStack, place_list, values}
use Rattle.two_halves.specs.Halves.{HalvesStand, IsLaid, ProcStands, ProcsStand, all_places, end_of, places_of}
use Rattle.term_order.specs.Held.{HoldTrees, HoldsTree}
use Rattle.two_halves.specs.Queues.{HasLeftQueue, HasRow, TakesMessage, shifted, with_queue, with_row}
use Rattle.two_halves.specs.declared.halves.Halves.{Halves}
use Rattle.two_halves.specs.declared.table.Proc.{Proc}
use Rattle.two_halves.proofs.Standing.Apart.{apart-at, apart-both, apart-cross, apart-left, apart-right, apart-set}
use Rattle.two_halves.proofs.Standing.Filled.{laid-filled}

-- A process for rows that are not there.
abbrev pub nobody : Process
nobody = record { number = 0; registers = []; stack = []; queue = []; refs = 0 }

-- Rows and their processes by number.
module _ (c : ℕ → ℕ → Bool) (shared : List (List ℕ)) (mem : List ℕ) (low limit named : ℕ) where
  pub row-at : (ps : List Proc) (qs : List Process) (i : ℕ) (d : Proc) (e : Process) → i < length ps → ProcsStand c shared mem low limit named ps qs
      → ProcStands c shared mem low limit named (get_or ps i d) (get_or qs i e)
  row-at [] qs i d e less s = absurd (omega (arith, less))
  row-at (p ∷ ps) [] i d e less s = absurd s
  row-at (p ∷ ps) (q ∷ qs) zero d e less s = s.0
  row-at (p ∷ ps) (q ∷ qs) (suc i) d e less s = row-at ps qs i d e (omega (arith, less)) s.1

  pub row-set : (ps : List Proc) (qs : List Process) (i : ℕ) (p : Proc) (q : Process) → ProcsStand c shared mem low limit named ps qs → ProcStands c shared mem low limit named p q
      → ProcsStand c shared mem low limit named (set ps i p) (set qs i q)
  row-set [] [] i p q s x = tt
  row-set [] (v ∷ qs) i p q s x = absurd s
  row-set (u ∷ ps) [] i p q s x = absurd s
  row-set (u ∷ ps) (v ∷ qs) zero p q s x = (x, s.1)
  row-set (u ∷ ps) (v ∷ qs) (suc i) p q s x = (s.0, row-set ps qs i p q s.1 x)

  pub row-length : (ps : List Proc) (qs : List Process) → ProcsStand c shared mem low limit named ps qs → length qs ≡ length ps
  row-length [] [] s = refl
  row-length [] (v ∷ qs) s = absurd s
  row-length (u ∷ ps) [] s = absurd s
  row-length (u ∷ ps) (v ∷ qs) s = ap suc (row-length ps qs s.1)

  -- A queue that is not empty: its first message, and the others.
  pub record FirstOf (place waiting last : ℕ) (queue : List Tree) : Type 0 where
    pub message : Tree
    pub rest : List Tree
    pub shape : queue ≡ message ∷ rest
    pub here : HoldsTree c shared mem named (get_or mem place 0) message
    pub others : HoldTrees c shared mem named (values mem (get_or mem (place + 1) 0) (waiting - 1)) rest
    pub waits : IsStack c mem low limit (get_or mem (place + 1) 0) (waiting - 1)
    pub ends : IsLastPlace mem (get_or mem (place + 1) 0) (waiting - 1) last
    pub first : IsPlace c low limit place
    pub list : place_list mem place waiting ≡ place ∷ place_list mem (get_or mem (place + 1) 0) (waiting - 1)

  ends-next : (place n last : ℕ) → IsLastPlace mem place (suc n) last → IsLastPlace mem (get_or mem (place + 1) 0) n last
  ends-next place zero last e = tt
  ends-next place (suc n) last e = e

  first-over : (place n waiting last : ℕ) (queue : List Tree) → waiting ≡ suc n → IsStack c mem low limit place (suc n) → HoldTrees c shared mem named (values mem place (suc n)) queue
      → IsLastPlace mem place (suc n) last → FirstOf place waiting last queue
  first-over place n waiting last [] e s h l = absurd h
  first-over place n waiting last (t ∷ ts) e s h l =
      let less : n ≡ waiting - 1 = omega (arith, e) in
      let P : ℕ → Type 0 = λ z. HoldTrees c shared mem named (values mem (get_or mem (place + 1) 0) z) ts in
      let Q : ℕ → Type 0 = λ z. IsStack c mem low limit (get_or mem (place + 1) 0) z in
      let R : ℕ → Type 0 = λ z. IsLastPlace mem (get_or mem (place + 1) 0) z last in
      record {
        message = t;
        rest = ts;
        shape = refl;
        here = h.0;
        others = subst P less h.1;
        waits = subst Q less s.1;
        ends = subst R less (ends-next place n last l);
        first = s.0;
        list = ap (place_list mem place) e ∙ ap (λ z. place ∷ place_list mem (get_or mem (place + 1) 0) z) less;
      }

  pub first-of : (place waiting last : ℕ) (queue : List Tree) → (waiting ≡ 0 → ⊥) → IsStack c mem low limit place waiting → HoldTrees c shared mem named (values mem place waiting) queue
      → IsLastPlace mem place waiting last → FirstOf place waiting last queue
  first-of place zero last queue some s h l = absurd (some refl)
  first-of place (suc n) last queue some s h l = first-over place n (suc n) last queue refl s h l

module _ (named : ℕ) (h : Halves) (shared : List (List ℕ)) (qs : List Process) (laid : IsLaid h) (x : HalvesStand named h shared qs) (row : ℕ) (less : row < length h.procs.items) (p : Proc)
    (is : p ≡ get_or h.procs.items row p) where
  abbrev q : Process
  q = get_or qs row nobody

  pub this-row : ProcStands x.test shared h.mem h.room.end (end_of h) named p (get_or qs row nobody)
  this-row =
      let P : Proc → Type 0 = λ z. ProcStands x.test shared h.mem h.room.end (end_of h) named z (get_or qs row nobody) in
      subst P (sym is) (row-at x.test shared h.mem h.room.end (end_of h) named h.procs.items qs row p nobody less x.processes)

  pub this-process : (d : Process) → get_or qs row d ≡ get_or qs row nobody
  this-process d = get_or_default qs row d nobody (omega (arith, less, row-length x.test shared h.mem h.room.end (end_of h) named h.procs.items qs x.processes))

  module _ (some : p.waiting ≡ 0 → ⊥) where
    first-there : FirstOf x.test shared h.mem h.room.end (end_of h) named p.queue p.waiting p.last q.queue
    first-there = first-of x.test shared h.mem h.room.end (end_of h) named p.queue p.waiting p.last q.queue some this-row.waits this-row.queue this-row.last

    pub first-below : p.queue + 2 ≤ end_of h
    first-below = first-there.first.below

    abbrev row2 : Proc
    row2 = shifted h.mem p

    pub left-apart : AreApart (all_places h.mem (set h.procs.items row row2))
    left-apart =
        let S : List ℕ = place_list h.mem p.stack p.depth in
        let Q : List ℕ = place_list h.mem (get_or h.mem (p.queue + 1) 0) (p.waiting - 1) in
        let whole : places_of h.mem (get_or h.procs.items row p) ≡ S ++ (p.queue ∷ Q) = ap (places_of h.mem) (sym is) ∙ ap (λ z. S ++ z) first-there.list in
        let all : AreApart (S ++ (p.queue ∷ Q)) = subst AreApart whole (apart-at h.mem h.procs.items row p less x.apart) in
        let own : AreApart (S ++ Q) = apart-both S Q (apart-left S (p.queue ∷ Q) all) (apart-right S (p.queue ∷ Q) all).1 (λ a b i j. apart-cross S (p.queue ∷ Q) a b all i (inr j)) in
        apart-set h.mem row2 p 0 h.procs.items row
        (λ a i. inl (subst (In a) (sym whole) (behind S Q p.queue a i))) own (λ a i. omega arith) x.apart
      where
        behind : (xs ys : List ℕ) (y a : ℕ) → In a (xs ++ ys) → In a (xs ++ (y ∷ ys))
        behind [] ys y a i = inr i
        behind (z ∷ xs) ys y a (inl e) = inl e
        behind (z ∷ xs) ys y a (inr i) = inr (behind xs ys y a i)

    left-rows : ProcsStand x.test shared h.mem h.room.end (end_of h) named (set h.procs.items row row2) (set qs row (record q { queue = first-there.rest }))
    left-rows = row-set x.test shared h.mem h.room.end (end_of h) named h.procs.items qs row row2 (record q { queue = first-there.rest }) x.processes (record {
      number = this-row.number;
      count = this-row.count;
      registers = this-row.registers;
      places = this-row.places;
      stack = this-row.stack;
      waits = first-there.waits;
      queue = first-there.others;
      last = first-there.ends;
      refs = this-row.refs;
    })

    pub has-left : HasLeftQueue named (with_row h row row2) shared qs row (get_or h.mem p.queue 0)
    has-left = record {
      process = q;
      is = this-process;
      message = first-there.message;
      rest = first-there.rest;
      queue = first-there.shape;
      stands = record {
        test = x.test;
        single = x.single;
        lie = x.lie;
        chained = x.chained;
        linked = x.linked;
        links = x.links;
        inside = x.inside;
        every = x.every;
        records = x.records;
        fun_names = x.fun_names;
        processes = left-rows;
        apart = left-apart;
      };
      held = first-there.here;
    }

    pub left-laid : IsLaid (with_row h row row2)
    left-laid =
        laid-filled named named h shared qs (set qs row (record q { queue = first-there.rest })) laid x x.test x.single h.mem h.room (with_item h.procs row row2) refl (λ a k e. e)
        (λ a k e. inl e) (λ a k e. inl e) (λ a k e. refl) (omega arith) (omega arith) (omega arith) left-rows refl laid.order
        (omega (arith, sum_by-set (λ r. r.depth + r.waiting) h.procs.items row row2 p less, ap (λ r. r.depth + r.waiting) is))

-- The first message of a row was taken off its queue.
module _ (h : Halves) (row : ℕ) (r : HasRow h row) (p : Proc) (is : p ≡ get_or h.procs.items row p) (some : p.waiting ≡ 0 → ⊥) where
  pub message-inside : p.queue + 2 ≤ length h.mem
  message-inside =
      let below : p.queue + 2 ≤ end_of h = first-below r.named h r.shared r.processes r.laid r.stands row r.within p is some in
      elim r.laid.side [ inl e ↦ omega (arith, e, below) | inr e ↦ omega (arith, e, below) ]

  pub takes : (next w : ℕ) → next ≡ get_or h.mem (p.queue + 1) 0 → w ≡ get_or h.mem p.queue 0 → TakesMessage h (with_row h row (with_queue p next p.last (p.waiting - 1))) row w
  takes next w next_is w_is =
      let P : ℕ → Type 0 = λ z. IsLaid (with_row h row (with_queue p z p.last (p.waiting - 1))) in
      let Q : ℕ → Type 0 = λ z. (named : ℕ) (shared : List (List ℕ)) (qs : List Process) → HalvesStand named h shared qs
      → HasLeftQueue named (with_row h row (with_queue p z p.last (p.waiting - 1))) shared qs row w in
      let R : ℕ → Type 0 = λ z. (named : ℕ) (shared : List (List ℕ)) (qs : List Process) → HalvesStand named h shared qs → HasLeftQueue named (with_row h row (shifted h.mem p)) shared qs row z in
      record {
        laid = subst P (sym next_is) (left-laid r.named h r.shared r.processes r.laid r.stands row r.within p is some);
        same = λ u at.
            let one : p ≡ u = is ∙ (get_or_default h.procs.items row p u r.within ∙ sym at) in
            ap (λ z. with_row h row (with_queue p z p.last (p.waiting - 1))) next_is ∙ ap (λ z. with_row h row (shifted h.mem z)) one;
        some = λ d.
            let one : p ≡ get_or h.procs.items row d = is ∙ get_or_default h.procs.items row p d r.within in
            let S : Proc → Type 0 = λ z. 1 ≤ z.waiting in
            subst S one (least p.waiting some);
        leaves = subst Q (sym next_is) (subst R (sym w_is) (λ named shared qs x. has-left named h shared qs r.laid x row r.within p is some));
      }
    where
      least : (n : ℕ) → (n ≡ 0 → ⊥) → 1 ≤ n
      least zero none = absurd (none refl)
      least (suc n) none = omega arith
