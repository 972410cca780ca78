-- What the picking of a part asks for and answers.
use Rattle.std.specs.Prelude.{◌≡◌, ℕ, ◌<◌, Bool, true, List, length, slice_index}
use Rattle.plain_term.specs.Tree.{Tree}
use Rattle.plain_term.specs.Tree.Tree.{Map}
use Rattle.script_grammar.specs.declared.command.Pick.{Pick}
use Rattle.script_grammar.specs.declared.command.Pick.TheVariants.{MapGet, Part}
use Rattle.plain_machine.specs.State.{Process, register}
use Rattle.term_words.specs.Role.{always}
use Rattle.term_words.specs.Stands.{IsTerm, Stands}
use Rattle.term_order.specs.Named.{is_named}
use Rattle.term_verbs.specs.Found.{AreSorted}

-- The words stand for a tree and a key, with one list of shared binaries, and all their names are among the names.
pub record CanSeek (mem : List ℕ) (names : List (List ℕ)) (w key : ℕ) : Type 0 where
  pub shared : List (List ℕ)
  pub tree : Tree
  pub sought : Tree
  pub standing : Stands always shared mem w tree
  pub key_stands : Stands always shared mem key sought
  pub named : is_named (length names) tree ≡ true
  pub key_named : is_named (length names) sought ≡ true

-- The word stands for a tree; where a key is sought, it is that of a register. A part of a binary is made and not picked.
abbrev pub CanPick : List ℕ → (names : List (List ℕ)) → (held : List ℕ) → (w : ℕ) → Pick → Type 0
CanPick mem names held w (MapGet k) = (k.0 < length held) × CanSeek mem names w (slice_index held k.0)
CanPick mem names held w (Part offset len) = ⊥
CanPick mem names held w _ = IsTerm mem w

-- Where a key is sought, the register's word stands for the process's tree.
abbrev pub HasKey : (ℕ → ℕ → Bool) → List (List ℕ) → List ℕ → (held : List ℕ) → Process → Pick → Type 0
HasKey c shared mem held q (MapGet k) = Stands c shared mem (slice_index held k.0) (register k.0 q)
HasKey c shared mem held q _ = Unit {0}

-- The keys of a map rise, and none is beyond the walk limit.
abbrev pub HasSorted : (names shared : List (List ℕ)) → Tree → Type 0
HasSorted names shared (Map ps) = AreSorted names shared ps
HasSorted names shared _ = Unit {0}

-- The word stands for a tree all of whose names are names of this one.
pub record IsPart (c : ℕ → ℕ → Bool) (shared : List (List ℕ)) (mem : List ℕ) (t : Tree) (v : ℕ) : Type 0 where
  pub tree : Tree
  pub standing : Stands c shared mem v tree
  pub named : (n : ℕ) → is_named n t ≡ true → is_named n tree ≡ true
