use Rattle.std.proofs.Common.{refl}
use Rattle.script_parse.proofs.forms.Form.closing.Goals as goal

pub returns-in-Binary-clause-value : goal.returns-in-Binary-clause-value
returns-in-Binary-clause-value c = rw c.in-Binary.is refl
