-- What a line makes of the literal areas is, by name, a function of the areas by name.
use Rattle.std.proofs.Common.{◌≡◌, ℕ, Bool, true, false, ◌||◌, nat_le, List, [], ◌∷◌, ◌++◌, length, map, Option, Some, None, refl, sym, ap, subst, ◌∙◌, inl, inr}
use Rattle.std.proofs.lemmas.Bool.{both_ways}
use Rattle.std.proofs.lemmas.List.{length-map, map-append}
use Rattle.atom_names.specs.Names.{index_of}
use Rattle.plain_term.specs.Tree.{Trees}
use Rattle.plain_term.specs.Tree.{Trees as trees}
use Rattle.plain_term.specs.Order.{name_of}
use Rattle.script_grammar.specs.declared.refusal.Refusal.{Refusal}
use Rattle.script_grammar.specs.declared.word.SysWord.TheVariants as sys
use Rattle.script_grammar.specs.Written.{Terms, Operands, Written, sys_kinds_of}
use Rattle.script_grammar.specs.Written.Written.{Nothing, OfProcess, OfSystem}
use Rattle.script_grammar.specs.Names.{Parsed, all_atoms, atoms_of_all, names_after, number_of, parsed_of, terms_of}
use Rattle.script_grammar.proofs.Naming.{ArePlaced, IsPlaced, placed-front, with-names-placed}
use Rattle.plain_machine.specs.declared.limits.TheConstants.{MOST_AREAS}
use Rattle.plain_machine.specs.State.{Area, State, has_area}
use Rattle.plain_machine.specs.Flaws.{flaw_of}
use Rattle.plain_machine.specs.Step.{Outcome, does, literals_flaw, literals_of, load_if, purge_if, tree_list, unless_flawed, with_literals}
use Rattle.plain_machine.specs.Step.Outcome.{Accepted, Refused, Mapped}
use Rattle.plain_machine.proofs.Properly.Making.{Extends, all-made-more, extends-none}
use Rattle.plain_machine.proofs.Properly.Living.{joined-end}
use Rattle.isolation.specs.Views.{is_area_line}
use Rattle.isolation.specs.Solo.{left_by, step_at}
use Rattle.isolation.specs.Named.NamedTree.{AreKnown, NamedTree, NamedTrees, all_as_named, as_named}
use Rattle.isolation.specs.Named.NamedTree.NamedTrees.{before, nothing}
use Rattle.isolation.specs.Named.Doing.{all_named_big, all_named_made, all_named_wide}
use Rattle.isolation.specs.Named.Laws.{AllKnown, HaveNames}
use Rattle.isolation.proofs.Named.Entering.{have-names, name-placed}
use Rattle.isolation.proofs.Named.Making.{AllMade, all-made}
use Rattle.isolation.proofs.Areas.{AreasKnown, KnownArea, KnownAreas, NamedArea, area_named, areas-grown, areas_named, come-known, has-by, has_named, without-by, without-known, without_named}
use Rattle.isolation.proofs.Own.{more-names}
use Rattle.isolation.proofs.Others.{OtherOutcome}

-- trees by name as a list
abbrev pub listed_named : NamedTrees → List NamedTree
listed_named nothing = []
listed_named (before t ts) = t ∷ listed_named ts

listed-by : (names shared : List (List ℕ)) (ts : Trees) → map (as_named names shared) (tree_list ts) ≡ listed_named (all_as_named names shared ts)
listed-by names shared trees.end = refl
listed-by names shared (trees.◌▹◌ t ts) = ap (λ z. as_named names shared t ∷ z) (listed-by names shared ts)

listed-known : (names shared : List (List ℕ)) (ts : Trees) → AreKnown names shared ts → AllKnown names shared (tree_list ts)
listed-known names shared trees.end h = tt
listed-known names shared (trees.◌▹◌ t ts) h = (h.0, listed-known names shared ts h.1)

-- what `load` and `purge` make of areas, where they are accepted
abbrev pub loaded_named : Option Refusal → List NamedArea → (name : List ℕ) → Terms → Option (List NamedArea)
loaded_named (Some r) areas name ts = None
loaded_named None areas name ts = Some (areas ++ record { name = name; literals = listed_named (all_named_made [] ts) } ∷ [])

abbrev pub load_named : Bool → List NamedArea → (name : List ℕ) → Terms → Option (List NamedArea)
load_named true areas name ts = None
load_named false areas name ts = loaded_named (flaw_of (all_named_big [] ts) (all_named_wide [] ts)) areas name ts

abbrev pub purge_named : Bool → List NamedArea → List ℕ → Option (List NamedArea)
purge_named true areas name = Some (without_named name areas)
purge_named false areas name = None

-- what a line makes of areas, where it is an accepted one of literal areas
abbrev pub area_line_named : List NamedArea → Written → Option (List NamedArea)
area_line_named areas (OfSystem sys.Load ops) = load_named (has_named (ops.0) areas || nat_le MOST_AREAS (length areas)) areas (ops.0) (terms_of (OfSystem sys.Load ops))
area_line_named areas (OfSystem sys.Purge ops) = purge_named (has_named (ops.0) areas) areas (ops.0)
area_line_named areas w = None

-- an outcome is so by name, and leaves the areas known
abbrev pub AreaStep : Outcome → Option (List NamedArea) → Type 0
AreaStep (Accepted next reply) (Some areas) = (areas_named next ≡ areas) × AreasKnown next
AreaStep (Refused r) None = Unit {0}
AreaStep _ _ = ⊥

module _ (s : State) (beside : AreasKnown s) where
  module _ (p : Parsed) (more : Extends s.names p.names) (name : List ℕ) (placed : IsPlaced p.names name) where
    -- the areas under the names after the line
    grown : (map (area_named p.names s.shared) s.areas ≡ areas_named s) × KnownAreas p.names s.shared s.areas
    grown = areas-grown s.names p.names s.shared s.shared s.areas more (extends-none s.shared) beside

    has-same : has_area (number_of p.names name) s ≡ has_named name (areas_named s)
    has-same = has-by p.names s.shared name placed s.areas grown.1 ∙ ap (has_named name) grown.0

    purge-step : (b : Bool) → AreaStep (purge_if b s p (number_of p.names name)) (purge_named b (areas_named s) name)
    purge-step false = tt
    purge-step true = (
      without-by p.names s.shared name placed s.areas grown.1 ∙ ap (without_named name) grown.0,
      without-known p.names s.shared (number_of p.names name) s.areas grown.1,
    )

    module _ (atoms : HaveNames p.names (atoms_of_all p.terms)) where
      made : AllMade p.names [] s.shared p.terms
      made = all-made p.names [] p.terms s.shared tt atoms

      abbrev new : Area
      new = record { name = number_of p.names name; literals = tree_list ((literals_of s p).0) }

      after : (map (area_named p.names ((literals_of s p).1)) s.areas ≡ areas_named s) × KnownAreas p.names ((literals_of s p).1) s.areas
      after = areas-grown s.names p.names s.shared ((literals_of s p).1) s.areas more (all-made-more p.names [] p.terms s.shared) beside

      new-known : KnownArea p.names ((literals_of s p).1) new
      new-known = record { placed = at placed; literals = listed-known p.names ((literals_of s p).1) ((literals_of s p).0) made.known }
        where
          at : (k : IsPlaced p.names name) → index_of p.names (name_of p.names (number_of p.names name)) ≡ Some (number_of p.names name)
          at k = ap (index_of p.names) (name-placed p.names name k) ∙ rw (k.1) refl

      new-by : area_named p.names ((literals_of s p).1) new ≡ record { name = name; literals = listed_named (all_named_made [] p.terms) }
      new-by = λ i. record {
        name = name-placed p.names name placed i;
        literals = (listed-by p.names ((literals_of s p).1) ((literals_of s p).0) ∙ ap listed_named made.makes) i;
      }

      loaded-step : (o : Option Refusal) → AreaStep (unless_flawed o (does p (with_literals s (number_of p.names name) (literals_of s p)))) (loaded_named o (areas_named s) name p.terms)
      loaded-step (Some r) = tt
      loaded-step None = (
        map-append (area_named p.names ((literals_of s p).1)) s.areas (new ∷ []) ∙ (λ i. after.0 i ++ new-by i ∷ []),
        come-known p.names ((literals_of s p).1) new s.areas new-known after.1,
      )

      load-step : (b : Bool) → AreaStep (load_if b s p (number_of p.names name)) (load_named b (areas_named s) name p.terms)
      load-step true = tt
      load-step false = subst (λ (z : Option Refusal). AreaStep (load_if false s p (number_of p.names name)) (loaded_named z (areas_named s) name p.terms))
          (λ i. flaw_of (made.big i) (made.wide i)) (loaded-step (literals_flaw s p))

  same-length : length s.areas ≡ length (areas_named s)
  same-length = sym (length-map s.areas (area_named s.names s.shared))

  -- the atoms of the terms of a line that loads
  load-atoms : (ops : Operands (sys_kinds_of sys.Load)) → HaveNames (names_after s.names (OfSystem sys.Load ops)) (atoms_of_all (terms_of (OfSystem sys.Load ops)))
  load-atoms ops =
      let names : List (List ℕ) = names_after s.names (OfSystem sys.Load ops) in
      let p : ArePlaced names (all_atoms (OfSystem sys.Load ops)) = with-names-placed s.names (all_atoms (OfSystem sys.Load ops)) in
      subst (λ (z : Terms). HaveNames names (atoms_of_all z)) (sym (joined-end (ops.1.0)))
      (have-names names (atoms_of_all (ops.1.0)) (placed-front names (atoms_of_all (ops.1.0)) [] (p.1)))

  pub area-step : (w : Written) → is_area_line w ≡ true → AreaStep (step_at s w) (area_line_named (areas_named s) w)
  area-step (OfSystem sys.Load ops) e =
      let w : Written = OfSystem sys.Load ops in
      let p : Parsed = parsed_of s.names w in
      let placed : IsPlaced p.names (ops.0) = (with-names-placed s.names (all_atoms w)).0 in
      subst (λ (z : Bool). AreaStep (step_at s w) (load_named z (areas_named s) (ops.0) p.terms))
      (λ i. has-same p (more-names s w) (ops.0) placed i || nat_le MOST_AREAS (same-length i))
      (load-step p (more-names s w) (ops.0) placed (load-atoms ops) (has_area (number_of p.names (ops.0)) s || nat_le MOST_AREAS (length s.areas)))
  area-step (OfSystem sys.Purge ops) e =
      let w : Written = OfSystem sys.Purge ops in
      let p : Parsed = parsed_of s.names w in
      let placed : IsPlaced p.names (ops.0) = (with-names-placed s.names (all_atoms w)).0 in
      subst (λ (z : Bool). AreaStep (step_at s w) (purge_named z (areas_named s) (ops.0))) (has-same p (more-names s w) (ops.0) placed)
      (purge-step p (more-names s w) (ops.0) placed (has_area (number_of p.names (ops.0)) s))
  area-step (OfSystem w ops) e = absurd (cc)
  area-step (OfProcess n w ops) e = absurd (cc)
  area-step Nothing e = absurd (cc)

  pub kept : (next : State) → Extends s.names next.names → Extends s.shared next.shared → next.areas ≡ s.areas → (areas_named next ≡ areas_named s) × AreasKnown next
  kept next n m e = subst (λ (z : List Area). (map (area_named next.names next.shared) z ≡ areas_named s) × KnownAreas next.names next.shared z) (sym e)
      (areas-grown s.names next.names s.shared next.shared s.areas n m beside)

  -- any other line leaves the areas as they are by name, and known
  pub other-areas : (m : ℕ) (w : Written) (o : Outcome) → is_area_line w ≡ false → OtherOutcome m s w o → (areas_named (left_by s o) ≡ areas_named s) × AreasKnown (left_by s o)
  other-areas m w (Accepted next reply) e (inl h) = kept next (h.0).names (h.0).shared (h.0).areas
  other-areas m w (Accepted next reply) e (inr (inl h)) = kept next h.comes.names h.comes.shared h.comes.areas
  other-areas m w (Accepted next reply) e (inr (inr h)) = absurd (both_ways (is_area_line w) e h.said)
  other-areas m w (Refused r) e h = (refl, beside)
  other-areas m w Mapped e h = (refl, beside)
