use Rattle.std.proofs.Common.{◌++◌, ap}
use Rattle.rand_pcg.specs.Lcg.{Lcg}
use Rattle.made_script.specs.Script.{made_script, generator_of, lines_from, opening_lines}
use Rattle.made_script.proofs.script.MadeScript.new.Goals as goal

pub returns : goal.returns
unfolding made_script generator_of
returns c = ap (λ (g : Lcg). opening_lines ++ lines_from 99992 g) c.new.ensures
