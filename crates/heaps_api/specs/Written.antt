-- Written terms that are built in a register.
use Rattle.std.specs.Prelude.{◌≡◌, ℕ, ◌+◌, ◌*◌, ◌<◌, ◌≤◌, List, ◌++◌, length, set, Option, Some, None, Result, Ok, Err, IfOk, OnErr, OnOk}
use Rattle.plain_term.specs.Tree.{Tree}
use Rattle.plain_term.specs.declared.item.Item.{Item}
use Rattle.plain_machine.specs.Flaws.{flaw_of, is_big, is_wide}
use Rattle.plain_machine.specs.Laws.{AreWithin}
use Rattle.plain_machine.specs.Made.{tree_of}
use Rattle.plain_machine.specs.State.{Process, with_register}
use Rattle.script_grammar.specs.declared.command.Reg.{Reg}
use Rattle.script_grammar.specs.declared.refusal.Refusal.{Refusal}
use Rattle.script_grammar.specs.declared.refusal.Refusal.TheVariants.{Big, MapSize}
use Rattle.script_grammar.specs.Written.{Term}
use Rattle.space_api.specs.Calls.{IsWrittenTerm}
use Rattle.item_build.specs.Reading.{far_words_of, heap_words_of}
use Rattle.item_build.specs.declared.building.BuildStop.{BuildStop}
use Rattle.item_build.specs.declared.building.BuildStop.TheVariants as stop
use Rattle.heaps_api.specs.Changing.{KeepsRows, process_at}
use Rattle.heaps_api.specs.Meaning.{Meaning, Stood}
use Rattle.heaps_api.specs.Reading.{waiting_trees}
use Rattle.heaps_api.specs.declared.wanted.Want.{Want}
use Rattle.heaps_api.specs.declared.wanted.Want.TheVariants as want

-- The refusal of a written term that is not built.
abbrev pub refusal_of_stop : BuildStop → Refusal
refusal_of_stop stop.Big = Big
refusal_of_stop stop.Size = MapSize

-- What is wanted for a written term of these items.
abbrev pub want_of_items : (row : ℕ) → List Item → Want
want_of_items row code = want.Words row (heap_words_of code) (far_words_of code)

-- The memory stands for some processes over so many shared binaries, all of whose names are among so many.
pub record CanBuild {H : Type 0} (m : Meaning H) (serial most : ℕ) (h : H) : Type 0 where
  pub named : ℕ
  pub few : named ≤ most
  pub shared : List (List ℕ)
  pub processes : List Process
  pub stood : Stood m named h shared processes
  pub serials : length shared ≡ serial

-- The term of the process was built in its register, with as many shared binaries as were told, or there is a flaw, and what stood stands.
abbrev pub TermIsBuilt : {H : Type 0} → Meaning H → (names : List (List ℕ)) → (row : ℕ) → Reg → (named : ℕ) → H → (shared : List (List ℕ))
    → List Process → Process → Term → Result ℕ BuildStop → Type 0
TermIsBuilt m names row r named new shared qs q t (Ok many) =
    (flaw_of (is_big names q.registers t shared) (is_wide names q.registers t shared) ≡ None)
    × ((length ((tree_of names q.registers t shared).1) ≡ length shared + many)
    × Stood m (length names) new ((tree_of names q.registers t shared).1) (set qs row (with_register r.0 ((tree_of names q.registers t shared).0) q)))
TermIsBuilt m names row r named new shared qs q t (Err e) =
    (flaw_of (is_big names q.registers t shared) (is_wide names q.registers t shared) ≡ Some (refusal_of_stop e))
    × Stood m named new shared qs

-- A written term was to be built in the register.
pub record GainsTerm {H : Type 0} (m : Meaning H) (names : List (List ℕ)) (row : ℕ) (r : Reg) (serial : ℕ) (code : List Item) (old new : H)
    (result : Result ℕ BuildStop) : Type 0 where
  pub stays : KeepsRows m old new
  pub took : OnOk result (m.took (want_of_items row code) old new)
  pub gave_back : OnErr result (m.gave_back old new)
  pub tidy : OnErr result (m.tidy old → m.tidy new)
  pub few : IfOk result (λ many. many ≤ length code)
  pub within : (named : ℕ) (shared : List (List ℕ)) (qs : List Process) (t : Term) → Stood m named old shared qs → length shared ≡ serial
      → IsWrittenTerm names code t → AreWithin shared (waiting_trees qs)
      → AreWithin ((tree_of names (process_at qs row).registers t shared).1) (waiting_trees qs)
  pub built : (named : ℕ) (shared : List (List ℕ)) (qs : List Process) (t : Term) → Stood m named old shared qs → length shared ≡ serial
      → named ≤ length names → IsWrittenTerm names code t
      → TermIsBuilt m names row r named new shared qs (process_at qs row) t result
