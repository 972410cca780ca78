-- The texts that replies are made of.
use Rattle.std.specs.Prelude.{ℕ, nat_lt, if◌then◌else◌, List, [], ◌∷◌, ◌++◌, codes}
use Rattle.std.specs.declared.cmp.Ordering.{Ordering}
use Rattle.script_grammar.specs.declared.command.Reg.{Reg}
use Rattle.script_grammar.specs.declared.command.Verb.{Verb}
use Rattle.script_grammar.specs.declared.command.Verb.TheVariants.{Eq, Cmp}
use Rattle.script_grammar.specs.declared.refusal.Refusal.{Refusal}
use Rattle.script_grammar.specs.declared.refusal.Refusal.TheVariants.{NoSpace}
use Rattle.plain_machine.specs.Run.{refusal_text}
use Rattle.plain_machine.specs.Step.{eq_text, cmp_text}
use Rattle.engine.specs.declared.reply.Asked.{Asked}
use Rattle.engine.specs.declared.reply.Asked.TheVariants.{Equality, Order}

-- A line with its end.
abbrev pub end_of_line : List ℕ → List ℕ
end_of_line text = text ++ 10 ∷ []

-- The line that a refusal is answered by, up to its number where it has one.
abbrev pub refusal_front : Refusal → List ℕ
refusal_front (NoSpace n) = codes "error nospace "
refusal_front r = end_of_line (refusal_text r)

-- The numbers from the first above `last` on.
abbrev pub above : ℕ → List ℕ → List ℕ
above last [] = []
above last (n ∷ ns) = if nat_lt last n then (n ∷ ns) else above last ns

-- The verb that asks it of two registers' terms.
abbrev pub compares : Asked → Reg → Reg → Verb
compares Equality a b = Eq a b
compares Order a b = Cmp a b

-- What it is answered.
abbrev pub compared_text : Asked → Ordering → List ℕ
compared_text Equality order = eq_text order
compared_text Order order = cmp_text order
