-- What the changing calls of a memory leave.
use Rattle.std.specs.Prelude.{◌≡◌, ℕ, ◌+◌, ◌*◌, ◌<◌, ◌≤◌, Bool, true, false, List, [], ◌∷◌, ◌++◌, length, get_or, map, set, replicate}
use Rattle.std.specs.List.{remove}
use Rattle.plain_term.specs.Tree.{Tree, Trees}
use Rattle.plain_term.specs.Tree.Tree.{Fun, Shared}
use Rattle.plain_term.specs.Tree.Trees.{end, ◌▹◌}
use Rattle.plain_term.specs.Measures.{bin_words, flat}
use Rattle.plain_term.specs.declared.item.Item.{Item}
use Rattle.plain_term.specs.declared.item.Item.TheVariants as item
use Rattle.plain_machine.specs.State.{Process, State, fresh_process, register, with_register}
use Rattle.plain_machine.specs.Laws.{AreWithin}
use Rattle.plain_machine.specs.Tightness.{demand}
use Rattle.script_grammar.specs.declared.command.Reg.{Reg}
use Rattle.heaps_api.specs.Making.{IsMadeOf, with_made_in, words_of_make}
use Rattle.heaps_api.specs.Meaning.{HoldsThere, Meaning, Stood, no_process}
use Rattle.heaps_api.specs.Reading.{waiting_trees}
use Rattle.heaps_api.specs.Wanted.{words_of_want}
use Rattle.heaps_api.specs.declared.making.Make.{Make}
use Rattle.heaps_api.specs.declared.wanted.Want.{Want}
use Rattle.heaps_api.specs.declared.wanted.Want.TheVariants as want

-- The process in a row.
abbrev pub process_at : List Process → ℕ → Process
process_at qs row = get_or qs row no_process

-- The number of words is as before, and the counters are one more at most.
pub record MovesOn {H : Type 0} (m : Meaning H) (old new : H) : Type 0 where
  pub words : length (m.mem new) ≡ length (m.mem old)
  pub whole : (count more : ℕ) → m.whole count old → count < more → m.whole more new

-- So it is, and the rows are those of before.
pub record KeepsRows {H : Type 0} (m : Meaning H) (old new : H) : Type 0 where
  pub goes : MovesOn m old new
  pub rows : m.numbers new ≡ m.numbers old

-- Room was looked for: the memory has it, or twice all that lives and is asked for exceeds its words. What stood stands.
pub record Looks {H : Type 0} (m : Meaning H) (w : Want) (old new : H) (found : Bool) : Type 0 where
  pub stays : KeepsRows m old new
  pub looked : m.looked w old new found
  pub room : found ≡ true → m.has_room w new
  pub some : found ≡ false → 0 < words_of_want w
  pub tight : found ≡ false → (named : ℕ) (s : State) → Stood m named old s.shared s.processes → s.areas ≡ []
      → length (m.mem old) < 2 * (demand s + words_of_want w)
  pub kept : (named : ℕ) (shared : List (List ℕ)) (qs : List Process) → Stood m named old shared qs → Stood m named new shared qs
  pub tidy : m.tidy old → m.tidy new
  pub rests : m.gave_back new new

-- A word of the process with this row was put into its register.
pub record PutsWord {H : Type 0} (m : Meaning H) (row : ℕ) (r : Reg) (w : ℕ) (old new : H) : Type 0 where
  pub stays : KeepsRows m old new
  pub idle : m.idle old new
  pub put : (named : ℕ) (shared : List (List ℕ)) (qs : List Process) (x : Stood m named old shared qs) (t : Tree)
      → HoldsThere m named old shared qs x row w t → Stood m named new shared (set qs row (with_register r.0 t (process_at qs row)))

-- It can be built for the process with this row.
pub record CanMake {H : Type 0} (m : Meaning H) (row : ℕ) (make : Make) (h : H) : Type 0 where
  pub named : ℕ
  pub shared : List (List ℕ)
  pub processes : List Process
  pub stood : Stood m named h shared processes
  pub tree : Tree
  pub makes : IsMadeOf shared (process_at processes row) make tree

-- It was built in the register.
pub record Gains {H : Type 0} (m : Meaning H) (row : ℕ) (r : Reg) (make : Make) (old new : H) : Type 0 where
  pub stays : KeepsRows m old new
  pub took : m.took (want.Words row (words_of_make make) 0) old new
  pub made : (named : ℕ) (shared : List (List ℕ)) (qs : List Process) (t : Tree) → Stood m named old shared qs
      → IsMadeOf shared (process_at qs row) make t → Stood m named new shared (set qs row (with_made_in r.0 make t (process_at qs row)))

-- The memory stands for some processes, and this is the number of the next shared binary.
pub record IsNext {H : Type 0} (m : Meaning H) (h : H) (serial : ℕ) : Type 0 where
  pub named : ℕ
  pub shared : List (List ℕ)
  pub processes : List Process
  pub stood : Stood m named h shared processes
  pub next : serial ≡ length shared + 1

-- A binary in a record of its own was built in the register.
pub record GainsBin {H : Type 0} (m : Meaning H) (row : ℕ) (r : Reg) (serial len byte : ℕ) (old new : H) : Type 0 where
  pub stays : KeepsRows m old new
  pub took : m.took (want.Words row 6 (4 + bin_words len)) old new
  pub made : (named : ℕ) (shared : List (List ℕ)) (qs : List Process) → Stood m named old shared qs → serial ≡ length shared + 1
      → Stood m named new (shared ++ replicate len byte ∷ []) (set qs row (with_register r.0 (Shared serial) (process_at qs row)))
  pub within : (named : ℕ) (shared : List (List ℕ)) (qs : List Process) → Stood m named old shared qs → AreWithin shared (waiting_trees qs)
      → AreWithin (shared ++ replicate len byte ∷ []) (waiting_trees qs)

-- The trees of these registers, in order.
abbrev pub register_trees : Process → List ℕ → Trees
register_trees q [] = end
register_trees q (r ∷ rs) = register r q ▹ register_trees q rs

-- A fun was built in the register, whose environment are the terms of the registers that the items name.
pub record GainsFun {H : Type 0} (m : Meaning H) (row : ℕ) (r : Reg) (name arity : ℕ) (env : List Item) (old new : H) : Type 0 where
  pub stays : KeepsRows m old new
  pub took : m.took (want.Words row (6 + length env) 4) old new
  pub made : (named more : ℕ) (shared : List (List ℕ)) (qs : List Process) (registers : List ℕ) → Stood m named old shared qs → named ≤ more → name < more
      → env ≡ map item.Held registers
      → Stood m more new shared (set qs row (with_register r.0 (Fun name arity (process_at qs row).number (register_trees (process_at qs row) registers))
      (process_at qs row)))

-- A register's term was pushed.
pub record Pushes {H : Type 0} (m : Meaning H) (row : ℕ) (r : Reg) (want : Want) (old new : H) : Type 0 where
  pub stays : KeepsRows m old new
  pub took : m.took want old new
  pub pushed : (named : ℕ) (shared : List (List ℕ)) (qs : List Process) → Stood m named old shared qs
      → Stood m named new shared (set qs row (record (process_at qs row) { stack = register r.0 (process_at qs row) ∷ (process_at qs row).stack }))

-- The first of these trees is in the register and the others are left, as the process says; or there is none, and nothing changed.
abbrev pub TakesFirst : {H : Type 0} → Meaning H → (named : ℕ) → H → (shared : List (List ℕ)) → (leaves : Tree → List Tree → List Process) → List Tree → Bool
    → Type 0
TakesFirst m named new shared leaves [] taken = taken ≡ false
TakesFirst m named new shared leaves (t ∷ ts) taken = (taken ≡ true) × Stood m named new shared (leaves t ts)

-- The term that was pushed last was taken into the register, or there is none.
pub record PopsInto {H : Type 0} (m : Meaning H) (row : ℕ) (r : Reg) (old new : H) (taken : Bool) : Type 0 where
  pub stays : KeepsRows m old new
  pub idle : m.idle old new
  pub same : taken ≡ false → new ≡ old
  pub popped : (named : ℕ) (shared : List (List ℕ)) (qs : List Process) → Stood m named old shared qs
      → TakesFirst m named new shared (λ t ts. set qs row (record (with_register r.0 t (process_at qs row)) { stack = ts })) (process_at qs row).stack taken

-- The first message was taken into the register, or there is none.
pub record ReceivesInto {H : Type 0} (m : Meaning H) (row : ℕ) (r : Reg) (old new : H) (taken : Bool) : Type 0 where
  pub stays : KeepsRows m old new
  pub received : m.received row old new
  pub same : taken ≡ false → new ≡ old
  pub first : (named : ℕ) (shared : List (List ℕ)) (qs : List Process) → Stood m named old shared qs
      → TakesFirst m named new shared (λ t ts. set qs row (record (with_register r.0 t (process_at qs row)) { queue = ts })) (process_at qs row).queue taken

-- A process with this number, which has nothing yet, is the last.
pub record Spawns {H : Type 0} (m : Meaning H) (number : ℕ) (old new : H) : Type 0 where
  pub goes : MovesOn m old new
  pub rows : m.numbers new ≡ m.numbers old ++ number ∷ []
  pub took : m.took want.Process old new
  pub made : (named : ℕ) (shared : List (List ℕ)) (qs : List Process) → Stood m named old shared qs
      → Stood m named new shared (qs ++ fresh_process number ∷ [])

-- The process with this row is gone.
pub record Exits {H : Type 0} (m : Meaning H) (row : ℕ) (old new : H) : Type 0 where
  pub goes : MovesOn m old new
  pub rows : m.numbers new ≡ remove (m.numbers old) row
  pub ended : m.ended row old new
  pub gone : (named : ℕ) (shared : List (List ℕ)) (qs : List Process) → Stood m named old shared qs → Stood m named new shared (remove qs row)

-- The word stands for a tree as one of some process, the sender, and there is room for a message of it to the process with this row.
pub record CanSendTo {H : Type 0} (m : Meaning H) (row w : ℕ) (h : H) : Type 0 where
  pub named : ℕ
  pub shared : List (List ℕ)
  pub processes : List Process
  pub stood : Stood m named h shared processes
  pub tree : Tree
  pub from : ℕ
  pub held : HoldsThere m named h shared processes stood from w tree
  pub room : m.has_room (want.Message row (flat tree)) h

-- A copy of the word's tree, whatever process it is a word of, is the last message of the process with this row.
pub record SendsTo {H : Type 0} (m : Meaning H) (row w : ℕ) (old new : H) : Type 0 where
  pub stays : KeepsRows m old new
  pub sent : m.sent row old new
  pub entered : (named : ℕ) (shared : List (List ℕ)) (qs : List Process) (x : Stood m named old shared qs) (from : ℕ) (t : Tree)
      → HoldsThere m named old shared qs x from w t
      → m.took (want.Message row (flat t)) old new
      × Stood m named new shared (set qs row (record (process_at qs row) { queue = (process_at qs row).queue ++ t ∷ [] }))

-- After a collection what stood stands. Where all was swept, it is tidy.
pub record CollectsRows {H : Type 0} (m : Meaning H) (all : Bool) (old new : H) : Type 0 where
  pub stays : KeepsRows m old new
  pub kept : (named : ℕ) (shared : List (List ℕ)) (qs : List Process) → Stood m named old shared qs → Stood m named new shared qs
  pub tidy : all ≡ true → m.tidy new
