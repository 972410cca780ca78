-- What the processes reach, and the words that they hold by value.
use Rattle.std.specs.Prelude.{◌≡◌, ℕ, ◌+◌, ◌*◌, List, [], ◌∷◌, ◌++◌, length, sum_by, flat_map}
use Rattle.plain_term.specs.Tree.{Tree}
use Rattle.plain_term.specs.Bytes.{shared_bytes}
use Rattle.plain_term.specs.Measures.{bin_words, flat}
use Rattle.plain_machine.specs.State.{Process}
use Rattle.plain_machine.specs.Tightness.{each_once, funs_in, held_trees, ids_in}
use Rattle.plain_machine.specs.declared.costs.TheConstants.{RECORD_COST}
use Rattle.term_words.specs.Reach.{Reach}
use Rattle.term_words.specs.Tiled.{Tiled}
use Rattle.term_words.specs.Counted.{In}
use Rattle.off_heap_list.specs.Links.{Chain}
use Rattle.two_halves.specs.Stack.{values}
use Rattle.two_halves.specs.Halves.{front_of}
use Rattle.two_halves.specs.declared.table.Proc.{Proc}
use Rattle.two_halves.specs.declared.halves.Halves.{Halves}
use Rattle.two_halves.specs.declared.halves.TheConstants.{PLACE_WORDS}

-- The roots of these rows: registers, values of the stack, and messages, process by process.
abbrev pub roots_in : List ℕ → List Proc → List ℕ
roots_in mem [] = []
roots_in mem (p ∷ ps) = p.regs ++ (values mem p.stack p.depth ++ (values mem p.queue p.waiting ++ roots_in mem ps))

-- The roots.
abbrev pub roots_of : Halves → List ℕ
roots_of h = roots_in h.mem h.procs.items

-- Every object in the half in use is reachable: its words up to the first free one are whole objects side by side, each of
-- which the roots reach.
pub record AllReached (h : Halves) : Type 0 where
  pub tiles : List ℕ
  pub row : Tiled h.mem (front_of h) tiles h.room.top
  pub all : (w : ℕ) → In w tiles → Reach h.mem (roots_of h) w

-- Every object of the chain is reachable.
pub record ChainReached (h : Halves) : Type 0 where
  pub all : (os : List ℕ) (p : ℕ) → length os ≡ h.linked → Chain h.mem h.head os → In p os → Reach h.mem (roots_of h) (p * 4 + 2)

-- The words that a process holds by value: two for each place, and the flat size of each tree.
abbrev pub held_by : Process → ℕ
held_by q = PLACE_WORDS * (length q.stack + length q.queue) + (sum_by flat q.registers + (sum_by flat q.stack + sum_by flat q.queue))

-- The words that all processes hold.
abbrev pub held_words : List Process → ℕ
held_words qs = sum_by held_by qs

-- The words of the records that these trees name, one for each shared binary, and for each name and arity of a fun.
abbrev pub record_words_of : List (List ℕ) → List Tree → ℕ
record_words_of shared ts = sum_by (λ id. RECORD_COST + bin_words (length (shared_bytes shared id))) (each_once (flat_map ids_in ts))
    + RECORD_COST * length (each_once (flat_map funs_in ts))

-- The words of the records that the trees of all processes name.
abbrev pub named_words : List (List ℕ) → List Process → ℕ
named_words shared qs = record_words_of shared (flat_map held_trees qs)
