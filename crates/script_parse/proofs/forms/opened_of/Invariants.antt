use Rattle.std.proofs.Common.{◌≡◌, drop}
use Rattle.script_parse.specs.Reading.{form_in}
use Rattle.script_parse.proofs.forms.opened_of.Given as goal

-- The form is none of those before.
abbrev pub invariant-loop-form : goal.invariant-loop-form
invariant-loop-form l = form_in l.forms l.line ≡ form_in (drop l.form-index l.forms) l.line
