use Rattle.std.proofs.Common.{refl, sym, subst, ◌∙◌, ap, arith}
use Rattle.std.specs.Prelude.{is_some}
use Rattle.script_grammar.specs.declared.command.Command.TheVariants.{Process}
use Rattle.script_grammar.specs.Grammar.{IsBuiltCommand}
use Rattle.script_grammar.specs.Names.{IsInBounds}
use Rattle.plain_machine.specs.Step.{is_printing}
use Rattle.engine.specs.Acts.{HasCode}
use Rattle.engine.proofs.Acting.{command-same, noproc-does, nothing-does, found-does}
use Rattle.engine.proofs.act.act.Goals as goal

pub act_in-requires : goal.act_in-requires
act_in-requires g c = record {
  sits = c.in-Some.ensures.found.1;
  built = subst IsBuiltCommand c.in-Process.is c.requires.built;
  registers = (subst IsInBounds c.in-Process.is c.requires.bounds).1;
  name = (subst IsInBounds c.in-Process.is c.requires.bounds).2;
  calls = c.requires.calls;
  named = c.requires.named;
  code = subst (λ n. HasCode (Process n c.in-Process.verb) c.args.names.now c.args.code.now) (sym c.in-Some.ensures.found.0)
      (subst (λ k. HasCode k c.args.names.now c.args.code.now) c.in-Process.is c.requires.code);
}

pub act_system-requires : goal.act_system-requires
act_system-requires g c = record {
  built = subst IsBuiltCommand c.in-System.is c.requires.built;
  calls = c.requires.calls;
  named = c.requires.named;
}

pub returns-in-Nothing : goal.returns-in-Nothing
returns-in-Nothing g c = record {
  acts = command-same _ _ _ _ _ _ _ _ c.in-Nothing.is (nothing-does _ _ _ _ _ (λ s h. h));
  can = tt;
  books = record { same_words = refl; one_call = omega arith; few_names = c.requires.named };
  refused = tt;
  leaves = λ e. refl;
}

pub returns-in_default : goal.returns-in_default
returns-in_default g c = record {
  acts = command-same _ _ _ _ _ _ _ _ c.in-Process.is
      (noproc-does _ c.in-Process.pid _ _ _ _ _ c.in-Process.verb refl (λ s h. h) (λ s h. sym (c.find.ensures.lives s h) ∙ ap is_some c.in_default.is));
  can = tt;
  books = record { same_words = refl; one_call = omega arith; few_names = c.requires.named };
  refused = omega arith;
  leaves = λ e. refl;
}

pub returns-in-Some : goal.returns-in-Some
returns-in-Some g c = record {
  acts = command-same _ _ _ _ _ _ _ _ c.in-Process.is (found-does _ _ _ _ _ _ _ _ c.in-Process.verb c.in-Some.ensures.found.0 c.act_in.ensures.acts);
  can = c.act_in.ensures.can;
  books = c.act_in.ensures.books;
  refused = c.act_in.ensures.refused;
  leaves = λ e. c.act_in.ensures.leaves (ap is_printing (sym c.in-Process.is) ∙ e);
}

pub returns-in-System : goal.returns-in-System
returns-in-System g c = record {
  acts = command-same _ _ _ _ _ _ _ _ c.in-System.is (λ s terms h f. c.act_system.ensures.acts s terms c.args.code.now h f);
  can = c.act_system.ensures.can;
  books = c.act_system.ensures.books;
  refused = c.act_system.ensures.refused;
  leaves = λ e. c.act_system.ensures.leaves (ap is_printing (sym c.in-System.is) ∙ e);
}
