-- The first heap stands for the first state, and is whole.
use Rattle.std.proofs.Common.{◌≡◌, ℕ, zero, suc, ◌<◌, ◌≤◌, ◌%◌, ◌/◌, Bool, false, List, [], ◌∷◌, ◌++◌, length, get_or, refl, sym, ◌∙◌, ap, arith, inl}
use Rattle.std.proofs.lemmas.Bool.{false≢true}
use Rattle.std.proofs.lemmas.List.{length-replicate}
use Rattle.std.specs.Vec.{vec_len}
use Rattle.plain_term.specs.Tree.Tree.{Nil}
use Rattle.plain_machine.specs.State.{first_state, fresh_process}
use Rattle.numbered_rows.specs.Numbers.{numbers}
use Rattle.term_words.specs.Object.{IsRecord}
use Rattle.term_words.specs.Counted.{total}
use Rattle.shared_rec.proofs.Records.{record-first}
use Rattle.record_move.specs.Copies.{record_words}
use Rattle.heaps_api.specs.Meaning.{Stood, no_process}
use Rattle.process_verbs.specs.Verbs.{Holds, VerbsStand}
use Rattle.process_verbs.specs.declared.verbs.Verbs.{Verbs}
use Rattle.record_tables.specs.Listed.{RecordsStand}
use Rattle.two_halves.specs.Halves.{HalvesStand, IsLaid, end_of, places_in, records_of}
use Rattle.two_halves.proofs.Standing.Apart.{apart-more}
use Rattle.one_space.specs.Heap.{AreWholeHalves, number_in, one_meaning}
use Rattle.one_space.specs.Space.{IsFirstHeap}
use Rattle.one_space.specs.declared.heap.OneHeap.{OneHeap}
use Rattle.one_space.proofs.Processes.Changing.{fresh-stands}

abbrev never : ℕ → ℕ → Bool
never a k = false

no-record : (mem : List ℕ) (v n : ℕ) → IsRecord never mem v n → ⊥
no-record mem v n there = false≢true (record-first never mem v n there)

none-listed : (mem : List ℕ) → RecordsStand never mem [] [] []
none-listed mem = record {
  all = λ v n there. absurd (no-record mem v n there);
  once = tt;
  each_bin = λ v i. absurd i;
  each_fun = λ v i. absurd i;
  serials = tt;
  codes = tt;
  counted = λ v n there. absurd (no-record mem v n there);
}

-- A process of sixteen registers at its row, and at no other.
fresh-registers : (row : ℕ) → row < 1 → length ((get_or (fresh_process 1 ∷ []) row no_process).registers) ≡ 16
fresh-registers zero less = length-replicate 16 Nil
fresh-registers (suc row) less = absurd (omega (arith, less))

module _ (words : ℕ) (h : OneHeap) (f : IsFirstHeap words h) where
  first-halves : HalvesStand 0 h.halves [] (fresh_process 1 ∷ [])
  first-halves =
      record {
        test = never;
        single = record { one = λ a j k x y. absurd (false≢true x) };
        lie = λ a k e. absurd (false≢true e);
        chained = [];
        linked = sym f.linked;
        links = record { chain = f.head; once = tt; each = λ q i. absurd i; beside = λ q i. absurd i; counts = λ v n there. absurd (no-record h.halves.mem v n there) };
        inside = λ q i. absurd i;
        every = λ q e. absurd (false≢true e);
        records = rw (f.bins, f.funs) (none-listed h.halves.mem);
        fun_names = λ v i. absurd (rw f.funs at i);
        processes = rw f.rows (fresh-stands never [] h.halves.mem 0 h.halves.room.end (end_of h.halves) f.row 1 f.number f.registers f.flat f.waiting f.none, tt);
        apart = rw f.rows (apart-more h.halves.mem [] f.row f.flat f.waiting tt);
      }

  first-stood : Stood one_meaning 0 h [] (fresh_process 1 ∷ [])
  first-stood = record { is = first-halves; rows = ap (numbers number_in) f.rows ∙ ap (λ z. z ∷ []) f.number; registers = fresh-registers }

  len : length h.halves.mem ≡ words
  len = ap length f.mem ∙ length-replicate words 0

  module _ (least : 4096 ≤ words) (even : words % 2 ≡ 0) where
    places-none : places_in h.halves.procs.items ≡ 0
    places-none = ap places_in f.rows ∙ omega (arith, f.flat, f.waiting)

    half-is : length h.halves.mem / 2 ≡ words / 2
    half-is = ap (λ x. x / 2) len

    records-none : total (record_words h.halves.mem) (records_of h.halves) ≡ 0
    records-none = ap (λ z. total (record_words h.halves.mem) (z ++ h.halves.funs.items)) f.bins ∙ ap (total (record_words h.halves.mem)) f.funs

    laid-first : IsLaid h.halves
    laid-first = record {
      even = ap (λ x. x % 2) len ∙ even;
      side = inl f.base;
      starts = omega (arith, f.base, f.starts);
      front = omega (arith, f.base, f.top);
      order = omega (arith, f.top, f.end, least);
      fits = omega (arith, f.base, f.end, half-is, places-none, records-none);
    }

    whole-first : AreWholeHalves 0 h
    whole-first =
        record {
          laid = laid-first;
          places = f.places;
          spares = omega (arith, f.spare, ap length f.rows);
          boxes = f.boxes;
          counted = omega (arith, f.sweeps);
          made = rw f.rows (omega (arith, f.none), tt);
          bins = omega (arith, half-is, f.bins_room);
          funs = omega (arith, half-is, f.funs_room);
        }

    -- The verbs over it.
    module _ (b : Verbs OneHeap) (is : b.heaps ≡ h) (row : vec_len b.scratch ≡ 4096) (next : b.next ≡ 2) (serials : b.serials ≡ 0) (named : b.named ≡ 0) (calls : b.calls ≡ 0)
        (swept : b.swept ≡ false) where
      numbers-first : numbers number_in b.heaps.halves.procs.items ≡ 1 ∷ []
      numbers-first = ap (λ x. numbers number_in x.halves.procs.items) is ∙ first-stood.rows

      pub first-stands : VerbsStand one_meaning b first_state
      first-stands = record {
        processes = rw (named, is) first-stood;
        next = sym next;
        swept = sym swept;
        shared = sym serials;
        areas = refl;
        within = tt;
        tidy = λ e. absurd (false≢true e);
      }

      pub first-holds : Holds one_meaning b
      first-holds = record {
        counts = record {
          enough = row;
          few = omega (arith, ap length numbers-first);
          rising = rw numbers-first (omega arith, tt);
          below = rw (numbers-first, next) (omega arith, tt);
          second = omega (arith, next);
          numbered = omega (arith, next);
          serials = omega (arith, serials);
          whole = rw (calls, is) whole-first;
        };
        state = first_state;
        stands = first-stands;
      }
