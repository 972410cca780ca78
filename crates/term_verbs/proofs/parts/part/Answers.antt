use Rattle.plain_term.specs.Parts.{element_of, env_in}
use Rattle.term_verbs.proofs.Picking.{element-named, env-named, parts-are}
use Rattle.term_verbs.proofs.parts.part.Goals as goal

pub returns-in-Elem-clause-is_part : goal.returns-in-Elem-clause-is_part
returns-in-Elem-clause-is_part c = parts-are c.args.mem.now c.args.w (element_of c.in-Elem.i) (element-named c.in-Elem.i) c.element.result c.element.ensures.reads.each

pub returns-in-Env-clause-is_part : goal.returns-in-Env-clause-is_part
returns-in-Env-clause-is_part c = parts-are c.args.mem.now c.args.w (env_in c.in-Env.i) (env-named c.in-Env.i) c.fun_env.result c.fun_env.ensures.reads.each
