-- When a line may be answered that there is no space.
use Rattle.std.specs.Prelude.{ℕ, Bool, true, false, ◌&&◌, ◌||◌, nat_lt}
use Rattle.script_grammar.specs.declared.command.Command.{Command}
use Rattle.script_grammar.specs.declared.command.Command.TheVariants.{Process, System}
use Rattle.script_grammar.specs.declared.command.Verb.TheVariants.{Set}
use Rattle.script_grammar.specs.declared.command.SysVerb.TheVariants.{Load, Purge}
use Rattle.script_grammar.specs.declared.refusal.Refusal.{Refusal}
use Rattle.script_grammar.specs.declared.refusal.Refusal.TheVariants.{Big, MapSize}
use Rattle.script_grammar.specs.Names.{Parsed}
use Rattle.plain_machine.specs.State.{State}
use Rattle.plain_machine.specs.Tightness.{grow, is_tight}
use Rattle.plain_machine.specs.Step.{Outcome, step}
use Rattle.plain_machine.specs.Step.Outcome.{Accepted, Refused, Mapped}

abbrev pub is_purge : Command → Bool
is_purge (System (Purge area)) = true
is_purge _ = false

-- Written terms are built before the keys of their maps are compared.
abbrev pub builds_first : Command → Bool
builds_first (Process number (Set r)) = true
builds_first (System (Load area count)) = true
builds_first _ = false

abbrev pub is_of_keys : Refusal → Bool
is_of_keys Big = true
is_of_keys MapSize = true
is_of_keys _ = false

-- The line is accepted, or it builds a term that is refused only for its keys.
abbrev pub gets_to_space : Command → Outcome → Bool
gets_to_space c (Accepted s reply) = true
gets_to_space c Mapped = true
gets_to_space c (Refused r) = builds_first c && is_of_keys r

-- The line asks for words, and no other refusal stands before the want of them.
abbrev pub asks_space : State → Parsed → Bool
asks_space s p = (nat_lt 0 (grow s p) || is_purge p.command) && gets_to_space p.command (step s p)

-- The line is tight, and asks for space.
abbrev pub may_of_tight : (words : ℕ) → State → Parsed → Bool
may_of_tight words s p = is_tight words s p && asks_space s p
