-- Proper trees where a literal is taken from an area, and where areas come and go.
use Rattle.std.proofs.Common.{◌≡◌, ℕ, zero, suc, Bool, true, false, not, cond, ◌==◌, List, [], ◌∷◌, ◌++◌, filter, Some, None, subst}
use Rattle.std.specs.Prelude.{flat_map}
use Rattle.std.specs.List.{find}
use Rattle.plain_term.specs.Tree.{Tree, Trees}
use Rattle.plain_term.specs.Tree.Trees.{end, ◌▹◌}
use Rattle.plain_term.specs.Proper.{are_proper}
use Rattle.script_grammar.specs.declared.limits.TheConstants.{LEVELS}
use Rattle.script_grammar.specs.Written.{Terms}
use Rattle.script_grammar.specs.Grammar.{AllMayStand, AreBuiltTerms}
use Rattle.script_grammar.specs.Names.{Parsed, atoms_of_all}
use Rattle.plain_machine.specs.Flaws.{are_wide, are_big}
use Rattle.plain_machine.specs.State.{Area, State}
use Rattle.plain_machine.specs.Tightness.{held_trees}
use Rattle.plain_machine.specs.Step.{literal_at, literal_of, literals_flaw, literals_of, tree_list}
use Rattle.plain_machine.specs.Laws.{AreProper, queued_trees}
use Rattle.plain_machine.proofs.Properly.Growing.{all-parts}
use Rattle.plain_machine.proofs.Properly.Parts.{IfProper}
use Rattle.plain_machine.proofs.Properly.Making.{Extends, HaveNumbers, all-made-more, all-made-proper, all-more-proper, all-more-within}
use Rattle.plain_machine.proofs.Properly.Holding.{Before, Living, all-live, flawless, joined-proper, queues-proper, split-proper}

-- the trees of all areas
abbrev pub literals_in : List Area → List Tree
literals_in areas = flat_map (λ (a : Area). a.literals) areas

module _ (names shared : List (List ℕ)) where
  at-place : (i : ℕ) (ts : List Tree) → AreProper names shared ts → IfProper names shared (literal_at i ts)
  at-place i [] h = tt
  at-place zero (t ∷ ts) h = h.0
  at-place (suc i) (t ∷ ts) h = at-place i ts h.1

  pub literal-proper : (i : ℕ) (ts : List Tree) → AreProper names shared ts → IfProper names shared (literal_of i ts)
  literal-proper zero ts h = tt
  literal-proper (suc i) ts h = at-place i ts h

  -- the area with a name
  pub area-proper : (name : ℕ) (areas : List Area) (a : Area) → AreProper names shared (literals_in areas) → find (λ (b : Area). b.name == name) areas ≡ Some a
      → AreProper names shared a.literals
  area-proper name [] a h e = absurd (cc)
  area-proper name (b ∷ areas) a h e = at (b.name == name) e (λ f. area-proper name areas a ((split-proper names shared b.literals (literals_in areas) h).1) f)
    where
      at : (c : Bool) → cond c (Some b) (find (λ (x : Area). x.name == name) areas) ≡ Some a
          → (find (λ (x : Area). x.name == name) areas ≡ Some a → AreProper names shared a.literals) → AreProper names shared a.literals
      at true f k = let i : b ≡ a = cc in subst (λ (x : Area). AreProper names shared x.literals) i ((split-proper names shared b.literals (literals_in areas) h).0)
      at false f k = k f

  -- one area more
  come-proper : (a : Area) (areas : List Area) → AreProper names shared a.literals → AreProper names shared (literals_in areas)
      → AreProper names shared (literals_in (areas ++ a ∷ []))
  come-proper a [] h k = joined-proper names shared a.literals [] h tt
  come-proper a (b ∷ areas) h k = let l = split-proper names shared b.literals (literals_in areas) k in
      joined-proper names shared b.literals (literals_in (areas ++ a ∷ [])) l.0 (come-proper a areas h l.1)

  -- one area less
  gone-proper : (name : ℕ) (areas : List Area) → AreProper names shared (literals_in areas)
      → AreProper names shared (literals_in (filter (λ (a : Area). not (a.name == name)) areas))
  gone-proper name [] k = tt
  gone-proper name (a ∷ areas) k = let l = split-proper names shared a.literals (literals_in areas) k in at (not (a.name == name)) l.0 (gone-proper name areas l.1)
    where
      at : (c : Bool) → AreProper names shared a.literals → AreProper names shared (literals_in (filter (λ (x : Area). not (x.name == name)) areas))
          → AreProper names shared (literals_in (cond c (a ∷ filter (λ (x : Area). not (x.name == name)) areas) (filter (λ (x : Area). not (x.name == name)) areas)))
      at true h k = joined-proper names shared a.literals (literals_in (filter (λ (x : Area). not (x.name == name)) areas)) h k
      at false h k = k

  -- trees areas a list
  listed-proper : (ts : Trees) → are_proper names shared ts ≡ true → AreProper names shared (tree_list ts)
  listed-proper end h = tt
  listed-proper (t ▹ ts) h = let p = all-parts names [] shared [] t ts h in (p.0, listed-proper ts p.1)

-- the written terms of a command that makes an area: of built forms, and each atom has a number
pub record Loads (terms : Terms) (names : List (List ℕ)) : Type 0 where
  pub built : AreBuiltTerms terms
  pub allowed : AllMayStand LEVELS terms
  pub numbers : HaveNumbers names (atoms_of_all terms)

-- one area less, and the rest areas before
pub purged-lives : (s : State) (names : List (List ℕ)) (name : ℕ) → Before s names
    → Living names s.shared s.processes (filter (λ (a : Area). not (a.name == name)) s.areas)
purged-lives s names name b = all-live names s.shared s.processes (filter (λ (a : Area). not (a.name == name)) s.areas) b.held
    (gone-proper names s.shared name s.areas b.literals) b.within

-- an area of the written terms more, and the rest areas before
pub loaded-lives : (s : State) (p : Parsed) (name : ℕ) → Before s p.names → Loads p.terms p.names → literals_flaw s p ≡ None
    → Living p.names ((literals_of s p).1) s.processes (s.areas ++ record { name = name; literals = tree_list ((literals_of s p).0) } ∷ [])
loaded-lives s p name b t f =
    let none = flawless (are_big p.names [] p.terms s.shared) (are_wide p.names [] p.terms s.shared) f in
    let made : Trees × List (List ℕ) = literals_of s p in
    let more : Extends s.shared (made.1) = all-made-more p.names [] p.terms s.shared in
    let grown = λ (ts : List Tree). all-more-proper p.names s.shared (made.1) ts more in
    let a : Area = record { name = name; literals = tree_list (made.0) } in
    all-live p.names (made.1) s.processes (s.areas ++ a ∷ []) (grown (flat_map held_trees s.processes) b.held)
    (come-proper p.names (made.1) a s.areas (listed-proper p.names (made.1) (made.0)
    (all-made-proper p.names [] LEVELS p.terms s.shared tt t.built t.allowed t.numbers none.0 none.1)) (grown (literals_in s.areas) b.literals))
    (all-more-within p.names s.shared (made.1) (queued_trees s) more (queues-proper p.names s.shared s.processes b.held) b.within)
