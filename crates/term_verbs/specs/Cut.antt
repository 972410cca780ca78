-- Where the bytes of a binary are, and the parts that it has.
use Rattle.std.specs.Prelude.{◌≡◌, ℕ, ◌+◌, ◌≤◌, Bool, true, List, length, Option, Some, None, is_some}
use Rattle.plain_term.specs.Tree.{Tree}
use Rattle.plain_term.specs.Tree.Tree.{Bin, Shared, Part}
use Rattle.plain_term.specs.Bytes.{bytes_of}
use Rattle.plain_machine.specs.Parts.{part_in}
use Rattle.term_words.specs.Role.{always}
use Rattle.term_words.specs.Stands.{IsBase, Stands}
use Rattle.term_verbs.specs.declared.cut.Cut.{Cut}

-- The answer is the word of this binary, which is no part of another, with so many of its bytes from one on.
pub record IsCutFrom (c : ℕ → ℕ → Bool) (shared : List (List ℕ)) (mem : List ℕ) (base : Tree) (start len : ℕ) (result : Option Cut) : Type 0 where
  pub cut : Cut
  pub is : result ≡ Some cut
  pub whole : IsBase base
  pub standing : Stands c shared mem cut.base base
  pub first : cut.start ≡ start
  pub count : cut.len ≡ len
  pub inside : start + len ≤ length (bytes_of shared base)

-- The same of a tree: a binary has all its bytes, a part those of its original. Another tree has none.
abbrev pub IsCut : (ℕ → ℕ → Bool) → List (List ℕ) → List ℕ → Tree → Option Cut → Type 0
IsCut c shared mem (Bin bytes) result = IsCutFrom c shared mem (Bin bytes) 0 (length bytes) result
IsCut c shared mem (Shared id) result = IsCutFrom c shared mem (Shared id) 0 (length (bytes_of shared (Shared id))) result
IsCut c shared mem (Part base offset len) result = IsCutFrom c shared mem base offset len result
IsCut c shared mem _ result = result ≡ None

-- The word stands for a binary with so many bytes from one on.
pub record HasPart (mem : List ℕ) (w offset len : ℕ) : Type 0 where
  pub shared : List (List ℕ)
  pub tree : Tree
  pub standing : Stands always shared mem w tree
  pub has : is_some (part_in shared offset len tree) ≡ true
