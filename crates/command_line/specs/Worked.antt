-- Command lines and what they ask for, worked out.
use Rattle.std.specs.Prelude.{◌≡◌, ℕ, Option, Some, None, List, [], ◌∷◌, codes, refl}
use Rattle.clap.proofs.OnLiterals.{clap_on_literals}
use Rattle.command_line.specs.Values.{option_number}
use Rattle.command_line.specs.Words.{asks, faults, matches}

-- No word at all is the program's name alone.
pub no-word : asks [] ≡ Some (record { arena = 1048576; made_from = None })
unfolding clap_on_literals faults matches option_number
no-word = refl

-- All three options, one of them with its value after an equals sign and one with leading zeros.
pub all-three : asks (codes "beam_heap" ∷ codes "--gen" ∷ codes "0020" ∷ codes "--arena=4096" ∷ codes "--space" ∷ codes "one" ∷ [])
    ≡ Some (record { arena = 4096; made_from = Some 20 })
unfolding clap_on_literals faults matches option_number
all-three = refl

-- The greatest number to make a script from.
pub greatest-number : asks (codes "beam_heap" ∷ codes "--gen" ∷ codes "18446744073709551615" ∷ [])
    ≡ Some (record { arena = 1048576; made_from = Some 18446744073709551615 })
unfolding clap_on_literals faults matches option_number
greatest-number = refl

-- An option that stands twice asks for nothing.
pub option-twice : asks (codes "beam_heap" ∷ codes "--arena" ∷ codes "4096" ∷ codes "--arena" ∷ codes "4096" ∷ []) ≡ None
unfolding clap_on_literals faults matches option_number
option-twice = refl

-- An odd arena is none.
pub odd-arena : asks (codes "beam_heap" ∷ codes "--arena" ∷ codes "4097" ∷ []) ≡ None
unfolding clap_on_literals faults matches option_number
odd-arena = refl

-- A plus is no digit.
pub number-with-plus : asks (codes "beam_heap" ∷ codes "--gen" ∷ codes "+1" ∷ []) ≡ None
unfolding clap_on_literals faults matches option_number
number-with-plus = refl

-- An empty word is a stray one.
pub empty-word : asks (codes "beam_heap" ∷ [] ∷ []) ≡ None
unfolding clap_on_literals faults matches option_number
empty-word = refl

-- There is no help to ask for.
pub help : asks (codes "beam_heap" ∷ codes "--help" ∷ []) ≡ None
unfolding clap_on_literals faults matches option_number
help = refl

-- The lone word `--` is no option and no stray word: it asks for nothing.
pub two-dashes : asks (codes "beam_heap" ∷ codes "--" ∷ []) ≡ Some (record { arena = 1048576; made_from = None })
unfolding clap_on_literals faults matches option_number
two-dashes = refl

-- Nothing that stands behind the lone word `--` is an option.
pub behind-two-dashes : asks (codes "beam_heap" ∷ codes "--" ∷ codes "--arena" ∷ codes "4096" ∷ []) ≡ None
unfolding clap_on_literals faults matches option_number
behind-two-dashes = refl

-- Nor is it the value of an option.
pub value-of-two-dashes : asks (codes "beam_heap" ∷ codes "--gen" ∷ codes "--" ∷ []) ≡ None
unfolding clap_on_literals faults matches option_number
value-of-two-dashes = refl

-- It may stand behind options.
pub two-dashes-last : asks (codes "beam_heap" ∷ codes "--arena" ∷ codes "4096" ∷ codes "--" ∷ []) ≡ Some (record { arena = 4096; made_from = None })
unfolding clap_on_literals faults matches option_number
two-dashes-last = refl

-- A second one is a stray word.
pub two-dashes-twice : asks (codes "beam_heap" ∷ codes "--" ∷ codes "--" ∷ []) ≡ None
unfolding clap_on_literals faults matches option_number
two-dashes-twice = refl
