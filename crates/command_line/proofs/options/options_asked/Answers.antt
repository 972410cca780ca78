use Rattle.std.proofs.Common.{◌∙◌, ap}
use Rattle.std.specs.Prelude.{codes}
use Rattle.clap.specs.Words.{found_of}
use Rattle.clap.proofs.WalkLemmas.{first_value-rows}
use Rattle.command_line.specs.Values.{arena_asked, space_asked, number_asked}
use Rattle.command_line.proofs.Program.{same-options}
use Rattle.command_line.proofs.options.options_asked.Goals as goal

pub returns : goal.returns
returns c =
    let found = found_of c.args.matches.now in
    c.options_of.ensures
    ∙ same-options (c.arena_asked-arena.ensures ∙ ap arena_asked (c.get_str.ensures ∙ first_value-rows found (codes "arena")))
    (c.is_space-has_space.ensures ∙ ap space_asked (c.get_str-2.ensures ∙ first_value-rows found (codes "space")))
    (c.number_asked-number.ensures ∙ ap number_asked (c.get_str-3.ensures ∙ first_value-rows found (codes "gen")))
