-- What the words of a command line ask for.
use Rattle.std.specs.Prelude.{ℕ, Bool, true, false, Option, Some, None, List, [], ◌∷◌, codes}
use Rattle.clap.specs.Words.{App, Row, Rule, Text, Kinds, new_app, new_rule, with_rule, first_of, matches_of, fault_of}
use Rattle.command_line.specs.Values.{arena_asked, space_asked, number_asked}
use Rattle.command_line.specs.declared.options.Options.{Options}

-- an option of one value, written with two dashes
abbrev pub option_named : Text → Rule
option_named name = record (new_rule name) { long = Some name }

-- the program with its three options
abbrev pub program : App
program = with_rule (with_rule (with_rule (new_app (codes "beam_heap"))
    (option_named (codes "arena"))) (option_named (codes "space"))) (option_named (codes "gen"))

-- what is wrong with the words, by the rules of command lines alone
unfoldable pub faults : List Text → Kinds
faults words = fault_of program words

-- the values that the words give to options, where nothing is wrong
unfoldable pub matches : List Text → List Row
matches words = matches_of program words

-- the options by the arena, the space and the number: none where one of them cannot be had
abbrev pub options_of : (arena : Option ℕ) (space : Bool) (number : Option (Option ℕ)) → Option Options
options_of None space number = None
options_of (Some words) false number = None
options_of (Some words) true None = None
options_of (Some words) true (Some n) = Some (record { arena = words; made_from = n })

-- the options that some values ask for
abbrev pub options_asked : List Row → Option Options
options_asked rows = options_of (arena_asked (first_of (codes "arena") rows))
    (space_asked (first_of (codes "space") rows)) (number_asked (first_of (codes "gen") rows))

-- the options, where nothing is wrong with the words
abbrev pub options_where : Kinds → List Row → Option Options
options_where [] rows = options_asked rows
options_where (k ∷ ks) rows = None

-- what the words ask for, the program's name first
abbrev pub asks : List Text → Option Options
asks words = options_where (faults words) (matches words)
