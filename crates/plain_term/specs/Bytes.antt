-- The bytes of the binaries. `shared` is the list of the byte lists of all shared binaries.
use Rattle.std.specs.Prelude.{ℕ, Bool, true, false, zero, suc, List, [], take, drop, slice_index_or}
use Rattle.plain_term.specs.Tree.{Tree}
use Rattle.plain_term.specs.Tree.Tree.{Bin, Shared, Part}

-- The id-th shared list, counted from 1.
abbrev pub shared_bytes : (shared : List (List ℕ)) (id : ℕ) → List ℕ
shared_bytes shared zero = []
shared_bytes shared (suc k) = slice_index_or shared k []

-- The bytes of a binary are its list, the shared list that it names, or the slice of its base; no
-- other tree has bytes.
abbrev pub bytes_of : (shared : List (List ℕ)) → Tree → List ℕ
bytes_of shared (Bin bytes) = bytes
bytes_of shared (Shared id) = shared_bytes shared id
bytes_of shared (Part base offset len) = take len (drop offset (bytes_of shared base))
bytes_of shared _ = []

-- The trees that are binaries.
abbrev pub is_binary : Tree → Bool
is_binary (Bin bytes) = true
is_binary (Shared id) = true
is_binary (Part base offset len) = true
is_binary _ = false
