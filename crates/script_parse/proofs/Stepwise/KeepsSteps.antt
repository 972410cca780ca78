-- Names stay in their places over any number of steps.
use Rattle.std.proofs.Common.{ℕ, List, ◌∙◌, arith}
use Rattle.script_parse.specs.declared.output.Output.{Output}
use Rattle.script_parse.specs.Output.{NamesStay, OutputGrows}

pub keeps-then : (xs ys zs : List (List ℕ)) → NamesStay xs ys → NamesStay ys zs → NamesStay xs zs
keeps-then xs ys zs f g = record { longer = omega (arith, f.longer, g.longer); same = λ n h. g.same n (omega (arith, h, f.longer)) ∙ f.same n h }

pub grows-then : (a b c : Output) → OutputGrows a b → OutputGrows b c → OutputGrows a c
grows-then a b c f g = ((g.0.0 ∙ f.0.0, g.0.1 ∙ f.0.1), keeps-then a.names.now b.names.now c.names.now (f.1) (g.1), omega (arith, f.2, g.2))
