-- Where a collection frees too little, twice all that lives and is asked for exceeds the memory.
use Rattle.std.proofs.Common.{◌≡◌, ℕ, ◌+◌, ◌*◌, ◌<◌, ◌≤◌, true, nat_le, List, [], ◌∷◌, ◌++◌, length, sum_by, flat_map, append-nil, refl, sym, ◌∙◌, ap, arith, inl, inr}
use Rattle.std.proofs.lemmas.Bool.{leb-false, le-leb}
use Rattle.std.proofs.lemmas.List.Sums.{sum_by-cons}
use Rattle.plain_term.specs.Tree.{Tree}
use Rattle.plain_term.specs.Measures.{flat}
use Rattle.plain_machine.specs.State.{Process, State}
use Rattle.plain_machine.specs.Tightness.{demand, held_trees, process_demand, record_demand}
use Rattle.plain_machine.specs.declared.costs.TheConstants.{MESSAGE_COST}
use Rattle.cheney.proofs.Before.Basics.{not-both}
use Rattle.two_halves.specs.Halves.{HalvesStand, IsLaid, free_in, half_of, used_in}
use Rattle.two_halves.specs.Reached.{held_by, held_words, named_words, record_words_of}
use Rattle.two_halves.specs.Collecting.{CanCollect, Collects, LooksFor, MakesRoom}
use Rattle.two_halves.specs.declared.halves.Halves.{Halves}

-- A message asks for more than its place and its term.
queue-less : (ts : List Tree) → 2 * length ts + sum_by flat ts ≤ sum_by (λ t. MESSAGE_COST + flat t) ts
queue-less [] = omega arith
queue-less (t ∷ ts) = omega (arith, queue-less ts, sum_by-cons flat t ts, sum_by-cons (λ t. MESSAGE_COST + flat t) t ts)

-- A process asks for 16 words beside those that it holds.
held-less : (qs : List Process) → held_words qs + 16 * length qs ≤ sum_by process_demand qs
held-less [] = omega arith
held-less (q ∷ qs) = omega (arith, held-less qs, sum_by-cons held_by q qs, sum_by-cons process_demand q qs, queue-less q.queue)

-- With the records that their trees name, that is no more than all that lives asks for.
pub held-demand : (s : State) → s.areas ≡ [] → held_words s.processes + named_words s.shared s.processes + 16 * length s.processes ≤ demand s
held-demand s none =
    let trees : List Tree → ℕ = λ ts. record_words_of s.shared ts in
    let same : record_demand s ≡ named_words s.shared s.processes =
    ap (λ z. record_words_of s.shared (flat_map held_trees s.processes ++ flat_map (λ a. a.literals) z)) none ∙ ap trees (append-nil (flat_map held_trees s.processes)) in
    omega (arith, held-less s.processes, same)

pub is-tight : (old new : Halves) (n named asked : ℕ) (s : State) → IsLaid old → Collects old new → HalvesStand named old s.shared s.processes
    → s.areas ≡ [] → LooksFor s asked n → free_in new < n → length old.mem < 2 * (demand s + asked)
is-tight old new n named asked s laid c stands none looks few =
    let bound : used_in new ≤ 2 + (held_words s.processes + named_words s.shared s.processes) = c.bound named s.shared s.processes stands in
    let half : half_of new ≤ used_in new + free_in new = omega arith in
    let all : length old.mem ≡ 2 * half_of new = omega (arith, laid.even, c.same_len) in
    let held : held_words s.processes + named_words s.shared s.processes + 16 * length s.processes ≤ demand s = held-demand s none in
    elim looks [ inl a ↦ omega (arith, a, bound, half, all, held, few) | inr a ↦ omega (arith, a, bound, half, all, held, few) ]

module _ (n : ℕ) (old : Halves) (r : CanCollect old) where
  -- There was room.
  pub room-before : n ≤ free_in old → MakesRoom n old old true
  room-before there = record {
    idle = λ h. refl;
    collects = λ h. absurd (omega (arith, h, there));
    answer = sym (le-leb n (free_in old) there);
    stands = λ named shared qs s. s;
    laid = r.laid;
    tight = λ named s asked h none looks e. absurd (not-both true refl (e));
  }

  -- There is room after a collection, or there is none.
  pub room-after : (new : Halves) → free_in old < n → Collects old new → MakesRoom n old new (nat_le n (free_in new))
  room-after new few c = record {
    idle = λ h. absurd (omega (arith, h, few));
    collects = λ h. c;
    answer = refl;
    stands = c.stands;
    laid = c.laid;
    tight = λ named s asked h none looks e. is-tight old new n named asked s r.laid c h none looks (leb-false n (free_in new) e);
  }
