-- The words of the command line, as the system gives them.
use Rattle.std.specs.Prelude.{ℕ, Option, None, List, map, Result, Ok, Err, String, string_bytes}
use Rattle.std.specs.Vec.Iter.{into_iter_items}
use Rattle.std.specs.declared.vec.IntoIter.{IntoIter}
use Rattle.command_line.specs.Words.{asks}
use Rattle.command_line.specs.declared.options.Options.{Options}

-- the bytes of each word, in order
abbrev pub words_in : {Z : Type 0} → IntoIter (String Z) Z → List (List ℕ)
words_in words = map string_bytes (into_iter_items words)

-- what the words ask for; where the system could not give them, nothing
abbrev pub asked_by : {Z E : Type 0} → Result (IntoIter (String Z) Z) E → Option Options
asked_by (Ok words) = asks (words_in words)
asked_by (Err e) = None
