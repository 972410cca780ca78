-- The texts of lines that tell the store.
use Rattle.std.specs.Prelude.{ℕ, List, []}
use Rattle.script_grammar.specs.declared.command.Command.{Command}
use Rattle.script_grammar.specs.declared.command.Command.TheVariants.{System}
use Rattle.script_grammar.specs.declared.command.SysVerb.TheVariants.{Counts}
use Rattle.heaps_api.specs.Meaning.{Meaning}
use Rattle.store_image.specs.Image.{Image}
use Rattle.process_verbs.specs.declared.verbs.Verbs.{Verbs}

-- The text for a command; one that does not tell the store has none.
abbrev pub command_text : {H : Type 0} → Meaning H → Verbs H → (names : List (List ℕ)) → Command → List ℕ
command_text m b names (System Counts) = m.counts_text b.heaps names
command_text m b names _ = []

-- What a dump tells of it.
abbrev pub image : {H : Type 0} → Meaning H → Verbs H → Image
image m b = m.image b.heaps b.serials b.next b.swept
