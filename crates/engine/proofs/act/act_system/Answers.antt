use Rattle.std.proofs.Common.{ap, refl, arith}
use Rattle.std.proofs.lemmas.Bool.{both_ways}
use Rattle.script_grammar.specs.declared.command.Command.TheVariants.{System}
use Rattle.plain_machine.specs.Step.{is_printing_system}
use Rattle.engine.specs.declared.reply.Reply.TheVariants.{Spawned}
use Rattle.engine.proofs.Acting.{command-same, map-does, spawn-does, sweep-does, procs-does, quit-does, keeps-more, on-err, said-can, said-refused}
use Rattle.engine.proofs.act.act_system.Goals as goal

pub returns-in-Spawn : goal.returns-in-Spawn
returns-in-Spawn g c = record {
  acts = λ s terms code h f.
      command-same _ _ code _ (g.S.Space.stands c.args.space.now) _ _ _ (ap System c.in-Spawn.is)
      (spawn-does _ _ _ _ _ _ c.spawn.result c.spawned.ensures c.spawn.ensures.number (λ s terms h m. c.spawn.ensures.becomes s terms c.args.names.now h m)) s terms h f;
  can = said-can Spawned g.S.Space.sits g.S.Space.named c.spawn.new.self c.args.names.now c.spawned.result c.spawn.result c.spawned.ensures (λ a. tt);
  books = keeps-more _ c.requires.named c.spawn.ensures.books;
  refused = said-refused Spawned _ _ c.spawn.result c.spawned.ensures (λ a. tt) (on-err c.spawn.result c.spawn.ensures.books.few_names);
  leaves = λ e. absurd (both_ways (is_printing_system c.args.verb) (ap is_printing_system c.in-Spawn.is) e);
}

pub returns-in-Sweep : goal.returns-in-Sweep
returns-in-Sweep g c = record {
  acts = λ s terms code h f.
      command-same _ _ code _ (g.S.Space.stands c.args.space.now) _ _ _ (ap System c.in-Sweep.is)
      (sweep-does _ _ _ _ _ (λ s terms h m. c.sweep_all.ensures.passes s terms c.args.names.now h m)) s terms h f;
  can = tt;
  books = keeps-more _ c.requires.named c.sweep_all.ensures.books;
  refused = tt;
  leaves = λ e. absurd (both_ways (is_printing_system c.args.verb) (ap is_printing_system c.in-Sweep.is) e);
}

pub returns-in-Procs : goal.returns-in-Procs
returns-in-Procs g c = record {
  acts = λ s terms code h f. command-same _ _ code _ (g.S.Space.stands c.args.space.now) _ _ _ (ap System c.in-Procs.is) (procs-does _ _ _ _ _ (λ s h. h)) s terms h f;
  can = tt;
  books = record { same_words = refl; one_call = omega arith; few_names = c.requires.named };
  refused = tt;
  leaves = λ e. refl;
}

pub returns-in-Counts : goal.returns-in-Counts
returns-in-Counts g c = record {
  acts = λ s terms code h f. command-same _ _ code _ (g.S.Space.stands c.args.space.now) _ _ _ (ap System c.in-Counts.is) (map-does _ _ _ _ _ (λ s h. h)) s terms h f;
  can = c.requires.named;
  books = record { same_words = refl; one_call = omega arith; few_names = c.requires.named };
  refused = tt;
  leaves = λ e. refl;
}

pub returns-in-Quit : goal.returns-in-Quit
returns-in-Quit g c = record {
  acts = λ s terms code h f. command-same _ _ code _ (g.S.Space.stands c.args.space.now) _ _ _ (ap System c.in-Quit.is) (quit-does _ _ _ _ _ (λ s h. h)) s terms h f;
  can = tt;
  books = record { same_words = refl; one_call = omega arith; few_names = c.requires.named };
  refused = tt;
  leaves = λ e. refl;
}
