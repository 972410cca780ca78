-- A whole collection from a row and from words at places of the memory.
use Rattle.std.proofs.Common.{◌≡◌, ℕ, zero, suc, ◌+◌, ◌*◌, ◌<◌, List, ◌∷◌, ◌++◌, length, get_or, refl, sym, ◌∙◌, ap, subst, arith, inl, inr}
use Rattle.std.proofs.Math.Bool.{or-false}
use Rattle.term_words.proofs.Totals.Members.{in-at}
use Rattle.cheney.specs.declared.moving.Moving.{Moving}
use Rattle.term_words.specs.Counted.{In}
use Rattle.cheney.specs.Plan.{Plan, Reached}
use Rattle.cheney.specs.Zones.{at_objects}
use Rattle.cheney.specs.Rooms.{Runs}
use Rattle.cheney.specs.Calls.{Later, RunsOn, either, nowhere}
use Rattle.cheney.specs.Collected.{AllImages}
use Rattle.cheney.specs.Roots.{AllEvacuated, AreRoots, CanMoveAll, CanMovePlaces, IsFreePlace, PlacesEvacuated, in_places, words_at}
use Rattle.cheney.specs.Stacked.{CanStartWith, EndedWith}
use Rattle.cheney.proofs.Rooted.Begins.{free-aside, has-collected}
use Rattle.cheney.proofs.Rooted.Places.{next-place, places-aside, word-at, words-length}
use Rattle.cheney.proofs.Rooted.Rows.{images-all, images-join, images-later, in-joined, start-reached, start-runs, starts}
use Rattle.cheney.proofs.Stepping.Steps.{later-then, later-wider}

-- The words at places are the same where each is.
words-same : (m n : List ℕ) (from step count : ℕ) → ((j : ℕ) → j < count → get_or n (from + j * step) 0 ≡ get_or m (from + j * step) 0) → words_at n from step count ≡ words_at m from step count
unfolding words_at
words-same m n from step zero same = refl
words-same m n from step (suc count) same =
    let here : from + 0 * step ≡ from = omega arith in
    let first : get_or n from 0 ≡ get_or m from 0 = ap (λ q. get_or n q 0) (sym here) ∙ same 0 (omega arith) ∙ ap (λ q. get_or m q 0) here in
    let rest : words_at n (from + step) step count ≡ words_at m (from + step) step count =
    words-same m n (from + step) step count (λ j less.
    ap (λ q. get_or n q 0) (next-place from step j) ∙ same (suc j) (omega (arith, less)) ∙ ap (λ q. get_or m q 0) (sym (next-place from step j))) in
    ap (λ w. w ∷ words_at n (from + step) step count) first ∙ ap (λ ws. get_or m from 0 ∷ ws) rest

module _ (p : Plan) (mem : List ℕ) (mv : Moving) (regs : List ℕ) (from n : ℕ) (b : CanStartWith p mem mv regs from n) where
  with-runs : Runs p mem mv (at_objects mv.aged.start mv.young.start)
  with-runs = start-runs p mem mv (regs ++ words_at mem from 1 n) b.begins

  with-reached : (w : ℕ) → In w regs → Reached p w
  with-reached w i = start-reached p mem mv (regs ++ words_at mem from 1 n) b.begins w (in-joined w regs (words_at mem from 1 n) (inl i))

  pub with-moves : CanMoveAll mem mv regs
  with-moves = record { plan = p; marks = at_objects mv.aged.start mv.young.start; runs = with-runs; reached = with-reached }

  free-at : (j : ℕ) → j < n → IsFreePlace p (from + j * 1)
  free-at j less = let e : from + j ≡ from + j * 1 = omega arith in let P : ℕ → Type 0 = λ q. IsFreePlace p q in subst P e (b.free j less)

  -- Words at these places are as they were where nothing was written there.
  still-at : (a c : List ℕ) → Later p nowhere a c → (j : ℕ) → j < n → get_or c (from + j * 1) 0 ≡ get_or a (from + j * 1) 0
  still-at a c later j less =
      free-aside p nowhere a c later (from + j * 1) refl b.begins.ready (free-at j less).outside (free-at j less).none

  stack-reached : (w : ℕ) → In w (words_at mem from 1 n) → Reached p w
  stack-reached w i = start-reached p mem mv (regs ++ words_at mem from 1 n) b.begins w (in-joined w regs (words_at mem from 1 n) (inr i))

  word-reached : (j : ℕ) → j < n → Reached p (get_or mem (from + j * 1) 0)
  word-reached j less =
      let P : ℕ → Type 0 = λ w. Reached p w in
      subst P (word-at mem from 1 n j less)
      (stack-reached (get_or (words_at mem from 1 n) j 0) (in-at (words_at mem from 1 n) j (omega (arith, less, words-length mem from 1 n))))

  module _ (mem2 : List ℕ) (mv2 : Moving) (xs : List ℕ)
      (each : (q : Plan) → Runs q mem mv (at_objects mv.aged.start mv.young.start) → ((w : ℕ) → In w regs → Reached q w)
      → AllEvacuated q mem mem2 mv2 (at_objects mv.aged.start mv.young.start) regs xs) where
    all : AllEvacuated p mem mem2 mv2 (at_objects mv.aged.start mv.young.start) regs xs
    all = each p with-runs with-reached

    stack-roots : AreRoots p mem2 from 1 n
    stack-roots = record {
      free = free-at;
      reached = λ j less. let P : ℕ → Type 0 = λ w. Reached p w in subst P (sym (still-at mem mem2 all.later j less)) (word-reached j less);
    }

    pub stack-moves : CanMovePlaces mem2 mv2 from 1 n
    stack-moves = record { plan = p; marks = at_objects mv.aged.start mv.young.start; runs = all.runs; roots = stack-roots }

    module _ (mem3 : List ℕ) (mv3 : Moving)
        (at : (q : Plan) → Runs q mem2 mv2 (at_objects mv.aged.start mv.young.start) → AreRoots q mem2 from 1 n
        → PlacesEvacuated q mem2 mem3 mv3 (at_objects mv.aged.start mv.young.start) from 1 n) where
      places : PlacesEvacuated p mem2 mem3 mv3 (at_objects mv.aged.start mv.young.start) from 1 n
      places = at p all.runs stack-roots

      pub with-scans : Runs p mem3 mv3 (at_objects mv3.aged.start mv3.young.start)
      with-scans = starts p mem mem3 mv mv3 (at_objects mv.aged.start mv.young.start) with-runs places.runs

      module _ (mem4 : List ℕ) (mv4 : Moving) (scans : (q : Plan) → Runs q mem3 mv3 (at_objects mv3.aged.start mv3.young.start) → RunsOn q mem3 mem4 mv4 (at_objects mv4.aged.top mv4.young.top)) where
        on : RunsOn p mem3 mem4 mv4 (at_objects mv4.aged.top mv4.young.top)
        on = scans p with-scans

        pub with-length : length mem4 ≡ length mem
        with-length = on.runs.holds.same_len ∙ ap length b.begins.memory

        -- What the registers have become.
        of-registers : AllImages p mem4 regs xs
        of-registers =
            images-later p nowhere mem3 mem4 regs xs on.later with-reached (images-later p (in_places from 1 n) mem2 mem3 regs xs places.later with-reached all.images)

        -- What the words of the stack have become.
        of-stack : AllImages p mem4 (words_at mem from 1 n) (words_at mem4 from 1 n)
        of-stack =
            let before : words_at mem2 from 1 n ≡ words_at mem from 1 n = words-same mem mem2 from 1 n (still-at mem mem2 all.later) in
            let after : words_at mem4 from 1 n ≡ words_at mem3 from 1 n = words-same mem3 mem4 from 1 n (still-at mem3 mem4 on.later) in
            let P : List ℕ → Type 0 = λ ws. AllImages p mem3 ws (words_at mem3 from 1 n) in
            let Q : List ℕ → Type 0 = λ ws. AllImages p mem4 (words_at mem from 1 n) ws in
            subst Q (sym after) (images-later p nowhere mem3 mem4 (words_at mem from 1 n) (words_at mem3 from 1 n) on.later stack-reached (subst P before places.images))

        all-later : Later p (in_places from 1 n) mem mem4
        all-later =
            later-wider p (either (either nowhere (in_places from 1 n)) nowhere) (in_places from 1 n) mem mem4 (λ q h. sym (or-false (in_places from 1 n q)) ∙ h)
            (later-then p (either nowhere (in_places from 1 n)) nowhere mem mem3 mem4 (later-then p nowhere (in_places from 1 n) mem mem2 mem3 all.later places.later) on.later)

        pub with-ended : EndedWith p mem mem4 mv4 xs from n
        with-ended =
            let joined : AllImages p mem4 (regs ++ words_at mem from 1 n) (xs ++ words_at mem4 from 1 n) =
            images-join p mem4 regs xs (words_at mem from 1 n) (words_at mem4 from 1 n) of-registers of-stack in
            let P : List ℕ → Type 0 = λ ws. AllImages p mem4 ws (xs ++ words_at mem4 from 1 n) in
            let (moved, images) = images-all p mem4 (xs ++ words_at mem4 from 1 n) (subst P (sym b.begins.words) joined) in
            record {
              ended = record { runs = on.runs; moved = moved; images = images; collected = has-collected p mem4 mv4 on.runs moved };
              later = all-later;
              others = λ q out none away.
                  free-aside p (in_places from 1 n) mem mem4 all-later q (places-aside from 1 n q (λ j less e. omega (arith, less, e, away))) b.begins.ready out none;
            }
