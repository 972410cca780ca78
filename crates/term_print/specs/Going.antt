-- How printing goes on: what was written, with what is left, is the text of the whole term.
use Rattle.std.specs.Prelude.{◌≡◌, ℕ, ◌+◌, ◌≤◌, Bool, true, List, [], ◌∷◌, ◌++◌, length, Result, Ok, Err}
use Rattle.line_io.specs.Sink.{Grew, WritesTold}
use Rattle.plain_term.specs.Tree.{Tree, Trees}
use Rattle.plain_term.specs.Measures.{nodes, nodes_of_all, depth}
use Rattle.plain_term.specs.Beyond.{node_limit, depth_limit}
use Rattle.plain_term.specs.Text.{text}
use Rattle.term_words.specs.Stands.{Stands}
use Rattle.term_order.specs.Named.{is_named, are_named}
use Rattle.term_print.specs.declared.levels.Level.{Level}
use Rattle.term_print.specs.Left.{IsLeft, level_text, reach}
use Rattle.term_print.specs.Printed.{CanPrint}

-- The words that are left stand for these trees, level by level.
abbrev pub LevelsAreLeft : (ℕ → ℕ → Bool) → List (List ℕ) → List ℕ → List Level → List Trees → Type 0
LevelsAreLeft c shared mem [] [] = Unit {0}
LevelsAreLeft c shared mem (l ∷ ls) (ts ∷ rests) = IsLeft c shared mem l ts × LevelsAreLeft c shared mem ls rests
LevelsAreLeft c shared mem [] (ts ∷ rests) = ⊥
LevelsAreLeft c shared mem (l ∷ ls) [] = ⊥

-- The text that is left.
abbrev pub text_left : (names shared : List (List ℕ)) → List Level → List Trees → List ℕ
text_left names shared [] rests = []
text_left names shared (l ∷ ls) [] = []
text_left names shared (l ∷ ls) (ts ∷ rests) = level_text names shared l ts ++ text_left names shared ls rests

-- The nodes that are left.
abbrev pub nodes_left : (shared : List (List ℕ)) → List Trees → ℕ
nodes_left shared [] = 0
nodes_left shared (ts ∷ rests) = nodes_of_all shared ts + nodes_left shared rests

-- No level goes deeper than a walk.
abbrev pub AreShallow : List Level → List Trees → Type 0
AreShallow [] rests = Unit {0}
AreShallow (l ∷ ls) [] = Unit {0}
AreShallow (l ∷ ls) (ts ∷ rests) = (length ls + reach l ts ≤ depth_limit) × AreShallow ls rests

-- All names that are left are among n names.
abbrev pub LeftAreNamed : (n : ℕ) → List Trees → Type 0
LeftAreNamed n [] = Unit {0}
LeftAreNamed n (ts ∷ rests) = (are_named n ts ≡ true) × LeftAreNamed n rests

-- The tree is within the walk limit, and its names are among n names.
pub record IsPrintable (n : ℕ) (shared : List (List ℕ)) (t : Tree) : Type 0 where
  pub few : nodes shared t ≤ node_limit
  pub shallow : depth t ≤ depth_limit
  pub named : is_named n t ≡ true

-- So is what is left.
pub record StaysPrintable (n : ℕ) (shared : List (List ℕ)) (levels : List Level) (rests : List Trees) (seen : ℕ) : Type 0 where
  pub few : seen + nodes_left shared rests ≤ node_limit
  pub shallow : AreShallow levels rests
  pub named : LeftAreNamed n rests

-- What came so far, and what is left.
pub record Printing {K : Type 0} (c : ℕ → ℕ → Bool) (shared : List (List ℕ)) (mem : List ℕ) (names : List (List ℕ)) (t : Tree) (levels : List Level) (seen : ℕ)
    (wrote : K → List ℕ → Type 0) (start now : K) : Type 0 where
  pub rests : List Trees
  pub came : List ℕ
  pub left : LevelsAreLeft c shared mem levels rests
  pub whole : text names shared t ≡ came ++ text_left names shared levels rests
  pub grew : Grew wrote start now came
  pub fits : IsPrintable (length names) shared t → StaysPrintable (length names) shared levels rests seen

-- So it is for each tree that the first word stands for.
abbrev pub PrintsEach : {K : Type 0} → List ℕ → (names : List (List ℕ)) → (first : ℕ) → List Level → (seen : ℕ) → (K → List ℕ → Type 0) → (start now : K)
    → Type 0
PrintsEach mem names first levels seen wrote start now =
    (c : ℕ → ℕ → Bool) (shared : List (List ℕ)) (t : Tree) → Stands c shared mem first t → Printing c shared mem names t levels seen wrote start now

-- The term was begun with the sink as it was at the start, no fault came, and this is left.
pub record PrintBegun {K : Type 0} (mem : List ℕ) (names : List (List ℕ)) (first : ℕ) (levels : List Level) (seen : ℕ) (wrote : K → List ℕ → Type 0)
    (faults : K → ℕ)
    (start now : K) : Type 0 where
  pub prints : PrintsEach mem names first levels seen wrote start now
  pub told : faults now ≡ faults start

-- Some term that can be printed was begun.
pub record CanGoOn {K : Type 0} (mem : List ℕ) (names : List (List ℕ)) (levels : List Level) (seen : ℕ) (wrote : K → List ℕ → Type 0) (faults : K → ℕ)
    (now : K) : Type 0 where
  pub first : ℕ
  pub start : K
  pub can : CanPrint mem names first
  pub begun : PrintBegun mem names first levels seen wrote faults start now

-- More of it was written and so many nodes were seen, or a fault came.
abbrev pub GoesOn : {K E : Type 0} → (mem : List ℕ) (names : List (List ℕ)) (first : ℕ) (levels : List Level) (wrote : K → List ℕ → Type 0) (faults : K → ℕ)
    (start now : K) → Result ℕ E → Type 0
GoesOn mem names first levels wrote faults start now (Ok seen) = PrintBegun mem names first levels seen wrote faults start now
GoesOn {K} {E} mem names first levels wrote faults start now (Err e) = (c : ℕ → ℕ → Bool) (shared : List (List ℕ)) (t : Tree) → Stands c shared mem first t
    → WritesTold {K = K} {E = E} wrote faults start now (text names shared t) (Err e)

-- Of each term of which this was left, wherever it was begun, more was written, and that is left now.
abbrev pub Continues : {K : Type 0} → (mem : List ℕ) (names : List (List ℕ)) (old : List Level) (before : ℕ) (new : List Level) (seen : ℕ)
    (wrote : K → List ℕ → Type 0) (faults : K → ℕ) (entry now : K) → Type 0
Continues {K} mem names old before new seen wrote faults entry now =
    (first : ℕ) (start : K) → PrintBegun mem names first old before wrote faults start entry → PrintBegun mem names first new seen wrote faults start now

-- So it is of each such term, or a fault came.
abbrev pub PrintsOn : {K E : Type 0} → (mem : List ℕ) (names : List (List ℕ)) (old : List Level) (before : ℕ) (new : List Level) (wrote : K → List ℕ → Type 0)
    (faults : K → ℕ) (entry now : K) → Result ℕ E → Type 0
PrintsOn {K} mem names old before new wrote faults entry now result =
    (first : ℕ) (start : K) → PrintBegun mem names first old before wrote faults start entry → GoesOn mem names first new wrote faults start now result

-- The text of each such term is whole then.
abbrev pub PrintsAll : {K E : Type 0} → (mem : List ℕ) (names : List (List ℕ)) (old : List Level) (before : ℕ) (wrote : K → List ℕ → Type 0) (faults : K → ℕ)
    (entry now : K) → Result (Unit {0}) E → Type 0
PrintsAll {K} mem names old before wrote faults entry now result =
    (first : ℕ) (start : K) → PrintBegun mem names first old before wrote faults start entry
    → (c : ℕ → ℕ → Bool) (shared : List (List ℕ)) (t : Tree) → Stands c shared mem first t → WritesTold wrote faults start now (text names shared t) result
