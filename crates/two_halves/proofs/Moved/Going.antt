-- A collection goes on: by its calls, and by writes to places that lie aside.
use Rattle.std.proofs.Common.{ℕ, ◌<◌, ◌≤◌, ◌⊎◌, Bool, List, [], ◌∷◌, set, refl, ◌∙◌, arith, inl, inr}
use Rattle.std.proofs.lemmas.List.{get_or-set_other}
use Rattle.cheney.specs.declared.moving.Moving.{Moving}
use Rattle.term_words.specs.Counted.{In}
use Rattle.cheney.specs.Plan.{Plan, Reached}
use Rattle.cheney.specs.Moved.{IsImage}
use Rattle.cheney.specs.Zones.{Marks}
use Rattle.cheney.specs.Rooms.{Runs, top_of}
use Rattle.cheney.specs.Calls.{Later, nowhere}
use Rattle.cheney.specs.Collected.{AllImages, IsBeside}
use Rattle.cheney.proofs.Rooted.Begins.{beside-runs, free-aside, image-beside, image-kept, write-beside}
use Rattle.two_halves.specs.Rows.{GoesAlong, IsAside}

pub goes-same : (p : Plan) (m : List ℕ) (mv : Moving) (k : Marks) (from to : ℕ) → Runs p m mv k → GoesAlong p m m mv k from to
goes-same p m mv k from to run = record { runs = run; images = λ w x r i. i; aside = λ q a o. refl }

pub goes-call : (p : Plan) (m n : List ℕ) (mv : Moving) (k : Marks) (from to : ℕ) → Runs p n mv k → Later p nowhere m n → GoesAlong p m n mv k from to
goes-call p m n mv k from to run later = record {
  runs = run;
  images = λ w x r i. image-kept p nowhere m n w x later r i;
  aside = λ q a o. free-aside p nowhere m n later q refl run.ready a.outside a.free;
}

pub goes-write : (p : Plan) (m : List ℕ) (mv : Moving) (k : Marks) (a w from to : ℕ) → Runs p m mv k → IsAside p a → from ≤ a → a < to → GoesAlong p m (set m a w) mv k from to
goes-write p m mv k a w from to run free above below =
    let away : (b : Bool) → (a < p.low b) ⊎ (top_of mv b ≤ a) = λ b. elim (free.outside b) [ inl l ↦ inl l | inr h ↦ inr (omega (arith, h, run.holds.ends b)) ] in
    let beside : IsBeside p m (set m a w) (top_of mv) = write-beside p m (top_of mv) a w away free.free in
    record {
      runs = beside-runs p m (set m a w) mv k run beside;
      images = λ v x r i. image-beside p m (set m a w) (top_of mv) v x run.ready beside r i;
      aside = λ q s o. get_or-set_other m a q w 0 (λ e. elim o [ inl l ↦ omega (arith, l, e, above) | inr h ↦ omega (arith, h, e, below) ]);
    }

pub goes-then : (p : Plan) (a b c : List ℕ) (mv mv2 : Moving) (k k2 : Marks) (f t g u from to : ℕ) → GoesAlong p a b mv k f t → GoesAlong p b c mv2 k2 g u
    → from ≤ f → t ≤ to → from ≤ g → u ≤ to → GoesAlong p a c mv2 k2 from to
goes-then p a b c mv mv2 k k2 f t g u from to one two lf lt lg lu = record {
  runs = two.runs;
  images = λ w x r i. two.images w x r (one.images w x r i);
  aside = λ q s o.
      two.aside q s (elim o [ inl l ↦ inl (omega (arith, l, lg)) | inr h ↦ inr (omega (arith, h, lu)) ])
      ∙ one.aside q s (elim o [ inl l ↦ inl (omega (arith, l, lf)) | inr h ↦ inr (omega (arith, h, lt)) ]);
}

-- Images that were there are there still.
pub images-on : (p : Plan) (m n vs xs : List ℕ) → ((w x : ℕ) → Reached p w → IsImage p m w x → IsImage p n w x) → ((w : ℕ) → In w vs → Reached p w) → AllImages p m vs xs → AllImages p n vs xs
unfolding AllImages
images-on p m n [] [] on r a = tt
images-on p m n [] (x ∷ xs) on r a = absurd a
images-on p m n (v ∷ vs) [] on r a = absurd a
images-on p m n (v ∷ vs) (x ∷ xs) on r (i, a) = (on v x (r v (inl refl)) i, images-on p m n vs xs on (λ w j. r w (inr j)) a)
