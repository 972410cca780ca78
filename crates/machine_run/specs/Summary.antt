-- The line that sums up the replies to a made script, and what a run that writes it comes to.
use Rattle.std.specs.Prelude.{ℕ, List, [], ◌∷◌, ◌++◌, codes, decimal}
use Rattle.line_io.specs.declared.sum_sink.Summary.{Summary}
use Rattle.engine.specs.Rules.{Output}
use Rattle.engine.specs.Steps.{WritesAll, WritesPart}
use Rattle.engine.specs.declared.serving.Status.{Status}
use Rattle.engine.specs.declared.serving.Status.TheVariants.{Done, Usage, ReadFault, WriteFault, Memory, TooMuch}

-- a word and a number after it
abbrev pub counted : (word : List ℕ) → ℕ → List ℕ
counted word n = word ++ decimal n

-- the four numbers in one line, with its end
abbrev pub summary_text : Summary → List ℕ
summary_text s = counted (codes "lines ") s.lines ++ counted (codes " errors ") s.errors ++ counted (codes " bytes ") s.bytes ++ counted (codes " sum ") s.sum ++ 10 ∷ []

-- the text was written whole, or, at a fault, a proper front of it; there is no other end
abbrev pub EndsMade : {K : Type 0} → Status → Output K → List ℕ → Type 0
EndsMade Done out x = WritesAll out x
EndsMade WriteFault out x = WritesPart out x
EndsMade Usage out x = ⊥
EndsMade ReadFault out x = ⊥
EndsMade Memory out x = ⊥
EndsMade TooMuch out x = ⊥
