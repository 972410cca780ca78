use Rattle.std.proofs.Common.{rules, ◌≡◌, ◌∙◌, List, ap, ap₂, map, ℕ, Bor, subst}
use Rattle.std.proofs.lemmas.Result.{IfOk-weaker}
use Rattle.std.specs.Prelude.{codes}
use Rattle.clap.specs.Words.{App, FailsBy, app_of, fault_of, is_simple, matches_of, rule_of, with_rule}
use Rattle.clap.specs.Faults.{is_simple_and_free}
use Rattle.command_line.specs.Words.{faults, matches, option_named, program}
use Rattle.command_line.proofs.Program.{program-simple, program-free, none-where-taken, kind-where-refused}
use Rattle.command_line.proofs.words.match_words.Goals as goal

-- the command of the body is the program
command-is : (c : goal.After-try_get_matches_from) → app_of c.in_ok-command.command ≡ program
command-is c =
    let arena_is : rule_of c.long-arena.result ≡ option_named (codes "arena") = search rules in
    let space_is : rule_of c.long-space.result ≡ option_named (codes "space") = search rules in
    let number_is : rule_of c.long-number.result ≡ option_named (codes "gen") = search rules in
    c.in_ok-command.ensures.shape (search rules)
    ∙ ap₂ with_rule (c.in_ok-arg-2.ensures.shape (search rules)
    ∙ ap₂ with_rule (c.in_ok-arg.ensures.shape (search rules) ∙ ap₂ with_rule c.new-4.ensures.app arena_is) space_is) number_is

-- the answer fails by what is wrong with the words
fails : (c : goal.After-try_get_matches_from)
    → FailsBy (fault_of program (map (λ (w : Bor (List ℕ)). w.now) c.args.words.now)) c.try_get_matches_from.result
fails c =
    let is = command-is c in
    subst (λ (a : App). FailsBy (fault_of a (map (λ (w : Bor (List ℕ)). w.now) c.args.words.now)) c.try_get_matches_from.result) is
    (c.try_get_matches_from.ensures.kinds (ap is_simple_and_free is ∙ program-free))

pub returns-clause-ok : goal.returns-clause-ok
unfolding faults
returns-clause-ok c = none-where-taken c.try_get_matches_from.result _ (fails c)

pub returns-clause-rows : goal.returns-clause-rows
unfolding matches
returns-clause-rows c =
    let is = command-is c in
    IfOk-weaker c.try_get_matches_from.result _ _
    (λ m h. (h (ap is_simple is ∙ program-simple)).0 ∙ ap (λ (a : App). matches_of a (map (λ (w : Bor (List ℕ)). w.now) c.args.words.now)) is)
    c.try_get_matches_from.ensures.matches

pub returns-clause-err : goal.returns-clause-err
unfolding faults
returns-clause-err c = kind-where-refused c.try_get_matches_from.result _ (fails c)
