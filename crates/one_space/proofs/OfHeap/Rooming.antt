-- Room for what is wanted, and collections.
use Rattle.std.proofs.Common.{◌≡◌, ℕ, ◌-◌, ◌^◌, ◌<◌, ◌≤◌, ◌⊎◌, Bool, false, List, length, refl, sym, ◌∙◌, ap, arith, inl, inr}
use Rattle.std.proofs.Math.Decide.{dec_le}
use Rattle.std.proofs.lemmas.Bool.{leb-false, leb-true}
use Rattle.std.proofs.lemmas.List.{length-map}
use Rattle.plain_machine.specs.State.{Process, State}
use Rattle.two_halves.specs.Halves.{free_in}
use Rattle.two_halves.specs.Reached.{ChainReached}
use Rattle.two_halves.specs.Collecting.{CanCollect, Collects, LooksFor, MakesRoom}
use Rattle.two_halves.specs.declared.halves.Halves.{Halves}
use Rattle.heaps_api.specs.Meaning.{CanAsk, Stood}
use Rattle.heaps_api.specs.Changing.{CollectsRows, KeepsRows, Looks}
use Rattle.heaps_api.specs.Wanted.{HasWantedRow, words_of_want}
use Rattle.heaps_api.specs.declared.wanted.Want.{Want}
use Rattle.heaps_api.specs.declared.wanted.Want.TheVariants as want
use Rattle.one_space.specs.Heap.{IsCollected, looked_for, one_meaning}
use Rattle.one_space.specs.declared.heap.OneHeap.{OneHeap}
use Rattle.one_space.proofs.OfHeap.Keeping.{keeps-rows, keeps-same, made-collected, numbers-collected, of_halves}

-- No more words are looked for than a line asks for, and less of those that a half never uses where a process is made.
pub at-most : (w : Want) → looked_for w ≤ words_of_want w
at-most (want.Words row n records) = omega arith
at-most (want.Message row size) = omega arith
at-most want.Process = omega arith

module _ (a : OneHeap) (x : CanAsk one_meaning a) where
  -- A memory that can be asked can be collected.
  pub can-collect : CanCollect a.halves
  can-collect = record {
    laid = x.lives.whole.laid;
    standing = record { named = x.lives.named; shared = x.lives.shared; processes = x.lives.processes; stands = x.lives.stood.is };
  }

  pub sweeps-few : a.halves.sweeps < 2 ^ 64 - 1
  sweeps-few = omega (arith, x.lives.whole.counted, x.few)

module _ (a : OneHeap) where
  -- What a collection does.
  module _ (h : Halves) (c : Collects a.halves h) where
    pub keeps-collected : KeepsRows one_meaning a (of_halves a h)
    keeps-collected =
        keeps-rows a (of_halves a h) c.laid c.same_len refl c.capacity (numbers-collected a.halves.procs.items h.procs.items c.rows)
        (made-collected a.halves.procs.items h.procs.items c.rows) c.bins c.funs (omega (arith, c.counted))

    pub stood-collected : (named : ℕ) (shared : List (List ℕ)) (qs : List Process) → Stood one_meaning named a shared qs → Stood one_meaning named (of_halves a h) shared qs
    stood-collected named shared qs x = record {
      is = c.stands named shared qs x.is;
      rows = numbers-collected a.halves.procs.items h.procs.items c.rows ∙ x.rows;
      registers = x.registers;
    }

    pub is-collected : IsCollected a (of_halves a h)
    is-collected = record { once = c.counted; reached = c.reached }

    pub collects-rows : (all : Bool) → CollectsRows one_meaning all a (of_halves a h)
    collects-rows all = record {
      stays = keeps-collected;
      kept = stood-collected;
      tidy = λ e. c.chained;
    }

  -- What looking for room does.
  module _ (w : Want) (h : Halves) (found : Bool) (room : MakesRoom (looked_for w) a.halves h found) where
    same-or-collected : (h ≡ a.halves) ⊎ Collects a.halves h
    same-or-collected = elim (dec_le (looked_for w) (free_in a.halves)) [ yes there ↦ inl (room.idle there) | no few ↦ inr (room.collects (omega arith)) ]

    pub looks-keeps : KeepsRows one_meaning a (of_halves a h)
    looks-keeps = elim same-or-collected [ inl e ↦ rw e (keeps-same a (rw (sym e) room.laid)) | inr c ↦ keeps-collected h c ]

    stood-looked : (named : ℕ) (shared : List (List ℕ)) (qs : List Process) → Stood one_meaning named a shared qs → Stood one_meaning named (of_halves a h) shared qs
    stood-looked named shared qs x = record { is = room.stands named shared qs x.is; rows = looks-keeps.rows ∙ x.rows; registers = x.registers }

    some-missed : found ≡ false → free_in h < looked_for w
    some-missed e = leb-false (looked_for w) (free_in h) (sym room.answer ∙ e)

    tidy-looked : ChainReached a.halves → ChainReached h
    tidy-looked t = elim same-or-collected [ inl e ↦ rw e t | inr c ↦ c.chained ]

    -- What the line asks for is what is looked for, and somebody lives, or it is more.
    looks-for : HasWantedRow w (one_meaning.numbers a) → (s : State) → (named : ℕ) → Stood one_meaning named a s.shared s.processes → LooksFor s (words_of_want w) (looked_for w)
    looks-for = by w
      where
        by : (w : Want) → HasWantedRow w (one_meaning.numbers a) → (s : State) → (named : ℕ) → Stood one_meaning named a s.shared s.processes
            → LooksFor s (words_of_want w) (looked_for w)
        by (want.Words row n records) has s named x = inl (omega arith, omega (arith, has, ap length x.rows, length-map s.processes (λ (q : Process). q.number)))
        by (want.Message row size) has s named x = inl (omega arith, omega (arith, has, ap length x.rows, length-map s.processes (λ (q : Process). q.number)))
        by want.Process has s named x = inr (omega arith)

    pub looks-so : HasWantedRow w (one_meaning.numbers a) → Looks one_meaning w a (of_halves a h) found
    looks-so has = record {
      stays = looks-keeps;
      looked = room;
      room = λ e. leb-true (looked_for w) (free_in h) (sym room.answer ∙ e);
      some = λ e. omega (arith, some-missed e, at-most w);
      tight = λ e named s x none. room.tight named s (words_of_want w) x.is none (looks-for has s named x) e;
      kept = stood-looked;
      tidy = tidy-looked;
      rests = record { sweeps = refl; room = refl };
    }
