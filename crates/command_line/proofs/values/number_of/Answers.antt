use Rattle.std.proofs.Common.{◌≡◌, ◌∙◌, rules, true}
use Rattle.std.specs.Str.{all_ascii_digits}
use Rattle.command_line.proofs.Numbers.{no-number, read-number}
use Rattle.command_line.proofs.values.number_of.Goals as goal

pub returns-then-not-has_digits_alone : goal.returns-then-not-has_digits_alone
returns-then-not-has_digits_alone c = no-number _ (search rules)

pub returns : goal.returns
returns c =
    let digits : all_ascii_digits c.args.text.now ≡ true = search rules in
    c.ok.ensures.value ∙ read-number c.args.text.now c.parse.result digits c.parse.ensures.value.0
