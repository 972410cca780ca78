-- Literal areas by name: what they are, that they stay so where more names and shared binaries come, and that one is found by its name.
use Rattle.std.proofs.Common.{◌≡◌, ℕ, ◌==◌, Bool, true, false, cond, not, ◌||◌, List, [], ◌∷◌, ◌++◌, map, filter, Option, Some, refl, sym, ap, subst, ◌∙◌, eqb-true}
use Rattle.std.specs.Prelude.{option_map}
use Rattle.std.specs.List.{find, list_any}
use Rattle.std.specs.Str.{bytes_eq}
use Rattle.std.proofs.lemmas.Bool.{both_ways, eq-eqb}
use Rattle.std.proofs.lemmas.Slice.Eq.{bytes_eq-Decides}
use Rattle.atom_names.specs.Names.{index_of}
use Rattle.atom_names.proofs.Places.{index_of-Some, index_of-append}
use Rattle.plain_term.specs.Order.{name_of}
use Rattle.script_grammar.specs.Names.{number_of}
use Rattle.script_grammar.proofs.Naming.{IsPlaced}
use Rattle.plain_machine.specs.State.{Area, State}
use Rattle.plain_machine.proofs.Properly.Making.{Extends}
use Rattle.isolation.specs.Named.NamedTree.{NamedTree, as_named}
use Rattle.isolation.specs.Named.Laws.{AllKnown}
use Rattle.isolation.proofs.Named.Growing.{held-grown, held-known-grown}
use Rattle.isolation.proofs.Named.Entering.{name-placed}

-- an area by name
pub record NamedArea : Type 0 where
  pub name : List ℕ
  pub literals : List NamedTree

abbrev pub area_named : (names shared : List (List ℕ)) → Area → NamedArea
area_named names shared a = record { name = name_of names a.name; literals = map (as_named names shared) a.literals }

abbrev pub areas_named : State → List NamedArea
areas_named s = map (area_named s.names s.shared) s.areas

-- its number is the first place of its name, and its literals are known
pub record KnownArea (names shared : List (List ℕ)) (a : Area) : Type 0 where
  pub placed : index_of names (name_of names a.name) ≡ Some a.name
  pub literals : AllKnown names shared a.literals

abbrev pub KnownAreas : (names shared : List (List ℕ)) → List Area → Type 0
KnownAreas names shared [] = Unit {0}
KnownAreas names shared (a ∷ areas) = KnownArea names shared a × KnownAreas names shared areas

-- the areas of a state are
abbrev pub AreasKnown : State → Type 0
AreasKnown s = KnownAreas s.names s.shared s.areas

-- known areas are the same by name, and known, where more names and shared binaries stand behind those that there are
module _ (names more shared extra : List (List ℕ)) where
  name-grown : (k : ℕ) → index_of names (name_of names k) ≡ Some k → name_of (names ++ more) k ≡ name_of names k
  name-grown k e = (index_of-Some (names ++ more) (name_of names k) k (index_of-append names more (name_of names k) k e)).there

  area-grown : (a : Area) → KnownArea names shared a
      → (area_named (names ++ more) (shared ++ extra) a ≡ area_named names shared a) × KnownArea (names ++ more) (shared ++ extra) a
  area-grown a h =
      let same : name_of (names ++ more) a.name ≡ name_of names a.name = name-grown a.name h.placed in (
        (λ i. record { name = same i; literals = held-grown names more shared extra a.literals h.literals i }),
        record {
          placed = ap (index_of (names ++ more)) same ∙ index_of-append names more (name_of names a.name) a.name h.placed;
          literals = held-known-grown names more shared extra a.literals h.literals;
        },
      )

  all-grown : (areas : List Area) → KnownAreas names shared areas
      → (map (area_named (names ++ more) (shared ++ extra)) areas ≡ map (area_named names shared) areas) × KnownAreas (names ++ more) (shared ++ extra) areas
  all-grown [] h = (refl, tt)
  all-grown (a ∷ areas) h = let one = area-grown a h.0 in let rest = all-grown areas h.1 in ((λ i. (one.0 i) ∷ (rest.0 i)), (one.1, rest.1))

pub areas-grown : (names new shared next : List (List ℕ)) (areas : List Area) → Extends names new → Extends shared next → KnownAreas names shared areas
    → (map (area_named new next) areas ≡ map (area_named names shared) areas) × KnownAreas new next areas
areas-grown names new shared next areas n m h =
    let P : List (List ℕ) → Type 0 = λ z. (map (area_named z next) areas ≡ map (area_named names shared) areas) × KnownAreas z next areas in
    let Q : List (List ℕ) → Type 0 = λ z. (map (area_named (names ++ n.more) z) areas ≡ map (area_named names shared) areas) × KnownAreas (names ++ n.more) z areas in
    subst P (sym n.are) (subst Q (sym m.are) (all-grown names n.more shared m.more areas h))

-- the area with a name
abbrev pub area_by : List ℕ → List NamedArea → Option NamedArea
area_by name areas = find (λ (a : NamedArea). bytes_eq a.name name) areas

abbrev pub has_named : List ℕ → List NamedArea → Bool
has_named name areas = list_any (λ (a : NamedArea). bytes_eq a.name name) areas

abbrev pub without_named : List ℕ → List NamedArea → List NamedArea
without_named name areas = filter (λ (a : NamedArea). not (bytes_eq a.name name)) areas

module _ (names shared : List (List ℕ)) (name : List ℕ) (placed : IsPlaced names name) where
  abbrev n : ℕ
  n = number_of names name

  abbrev by : Area → NamedArea
  by a = area_named names shared a

  -- an area has the number exactly where it has the name
  same-name : (a : Area) → KnownArea names shared a → (a.name == n) ≡ bytes_eq (name_of names a.name) name
  same-name a h = at (a.name == n) (bytes_eq (name_of names a.name) name) refl refl
    where
      at : (b c : Bool) → (a.name == n) ≡ b → bytes_eq (name_of names a.name) name ≡ c → b ≡ c
      at true true e f = refl
      at false false e f = refl
      at true false e f =
          let is : name_of names a.name ≡ name = ap (name_of names) (eqb-true a.name n e) ∙ name-placed names name placed in
          absurd (both_ways (bytes_eq (name_of names a.name) name) f ((bytes_eq-Decides (name_of names a.name) name).1 is))
      at false true e f =
          let is : name_of names a.name ≡ name = (bytes_eq-Decides (name_of names a.name) name).0 f in
          let where_it_is : index_of names name ≡ Some a.name = ap (index_of names) (sym is) ∙ h.placed in
          let same : n ≡ a.name = number-at where_it_is in
          absurd (both_ways (a.name == n) e (eq-eqb a.name n (sym same)))
        where
          number-at : index_of names name ≡ Some a.name → number_of names name ≡ a.name
          number-at e = rw e refl

  pub found-by : (areas : List Area) → KnownAreas names shared areas → option_map by (find (λ (a : Area). a.name == n) areas) ≡ area_by name (map by areas)
  found-by [] h = refl
  found-by (a ∷ areas) h = at (a.name == n) refl (found-by areas h.1)
    where
      at : (b : Bool) → (a.name == n) ≡ b → option_map by (find (λ (x : Area). x.name == n) areas) ≡ area_by name (map by areas)
          → option_map by (cond (a.name == n) (Some a) (find (λ (x : Area). x.name == n) areas))
          ≡ cond (bytes_eq (name_of names a.name) name) (Some (by a)) (area_by name (map by areas))
      at true e k = (λ i. option_map by (cond (e i) (Some a) (find (λ (x : Area). x.name == n) areas)))
          ∙ sym (ap (λ c. cond c (Some (by a)) (area_by name (map by areas))) (sym (same-name a h.0) ∙ e))
      at false e k = (λ i. option_map by (cond (e i) (Some a) (find (λ (x : Area). x.name == n) areas)))
          ∙ (k ∙ sym (ap (λ c. cond c (Some (by a)) (area_by name (map by areas))) (sym (same-name a h.0) ∙ e)))

  pub has-by : (areas : List Area) → KnownAreas names shared areas → list_any (λ (a : Area). a.name == n) areas ≡ has_named name (map by areas)
  has-by [] h = refl
  has-by (a ∷ areas) h = λ i. same-name a h.0 i || has-by areas h.1 i

  pub without-by : (areas : List Area) → KnownAreas names shared areas
      → map by (filter (λ (a : Area). not (a.name == n)) areas) ≡ without_named name (map by areas)
  without-by [] h = refl
  without-by (a ∷ areas) h = at (a.name == n) refl (without-by areas h.1)
    where
      rest : List Area
      rest = filter (λ (x : Area). not (x.name == n)) areas

      at : (b : Bool) → (a.name == n) ≡ b → map by rest ≡ without_named name (map by areas)
          → map by (cond (not (a.name == n)) (a ∷ rest) rest)
          ≡ cond (not (bytes_eq (name_of names a.name) name)) (by a ∷ without_named name (map by areas)) (without_named name (map by areas))
      at true e k = (λ i. map by (cond (not (e i)) (a ∷ rest) rest))
          ∙ (k ∙ sym (ap (λ c. cond (not c) (by a ∷ without_named name (map by areas)) (without_named name (map by areas))) (sym (same-name a h.0) ∙ e)))
      at false e k = (λ i. map by (cond (not (e i)) (a ∷ rest) rest))
          ∙ (ap (λ z. by a ∷ z) k ∙ sym (ap (λ c. cond (not c) (by a ∷ without_named name (map by areas)) (without_named name (map by areas))) (sym (same-name a h.0) ∙ e)))

-- areas that stand stay known where one goes, and where one comes
pub without-known : (names shared : List (List ℕ)) (k : ℕ) (areas : List Area) → KnownAreas names shared areas
    → KnownAreas names shared (filter (λ (a : Area). not (a.name == k)) areas)
without-known names shared k [] h = tt
without-known names shared k (a ∷ areas) h = at (not (a.name == k)) (without-known names shared k areas h.1)
  where
    at : (b : Bool) → KnownAreas names shared (filter (λ (x : Area). not (x.name == k)) areas)
        → KnownAreas names shared (cond b (a ∷ filter (λ (x : Area). not (x.name == k)) areas) (filter (λ (x : Area). not (x.name == k)) areas))
    at true m = (h.0, m)
    at false m = m

pub come-known : (names shared : List (List ℕ)) (a : Area) (areas : List Area) → KnownArea names shared a → KnownAreas names shared areas
    → KnownAreas names shared (areas ++ a ∷ [])
come-known names shared a [] h k = (h, tt)
come-known names shared a (b ∷ areas) h k = (k.0, come-known names shared a areas h k.1)

-- the literals of the area that is found are known
pub found-known : (names shared : List (List ℕ)) (k : ℕ) (areas : List Area) (a : Area) → KnownAreas names shared areas
    → find (λ (b : Area). b.name == k) areas ≡ Some a → AllKnown names shared a.literals
found-known names shared k [] a h e = absurd (cc)
found-known names shared k (b ∷ areas) a h e = at (b.name == k) e (λ f. found-known names shared k areas a h.1 f)
  where
    at : (c : Bool) → cond c (Some b) (find (λ (x : Area). x.name == k) areas) ≡ Some a
        → (find (λ (x : Area). x.name == k) areas ≡ Some a → AllKnown names shared a.literals) → AllKnown names shared a.literals
    at true f g = let i : b ≡ a = cc in subst (λ (x : Area). AllKnown names shared x.literals) i h.0.literals
    at false f g = g f
