use Rattle.std.proofs.Common.{refl, arith, ap, subst}
use Rattle.std.proofs.lemmas.Bool.{both_ways}
use Rattle.script_grammar.specs.declared.command.Command.TheVariants.{Process}
use Rattle.script_grammar.specs.declared.command.Verb.TheVariants.{Ref, Own, Push, Gc, Exit}
use Rattle.script_grammar.specs.Names.{HasName, HasRegisters}
use Rattle.plain_machine.specs.Step.{is_printing_verb}
use Rattle.engine.specs.Acts.{HasCode}
use Rattle.engine.specs.declared.reply.Asked.TheVariants.{Equality, Order}
use Rattle.engine.specs.declared.reply.Reply.TheVariants.{Done}
use Rattle.engine.specs.declared.reply.Telling.TheVariants.{Text, Compared, Flat as TellsFlat, Queue as TellsQueue}
use Rattle.engine.proofs.Acting.{does-same, done-acts, told-does, becomes-does, set-does, pick-does, put-does, fill-does, fun-does, repeat-does, passes-does, pop-does, recv-does, send-does, keeps-more, on-err, said-can, said-refused}
use Rattle.engine.proofs.act.act_in.Goals as goal

pub build-requires : goal.build-requires
build-requires g c = record {
  sits = c.requires.sits;
  register = subst HasRegisters c.in-Set.is c.requires.registers;
  calls = c.requires.calls;
  named = c.requires.named;
  term = subst (λ v. HasCode (Process c.args.seat.pid v) c.args.names.now c.args.code.now) c.in-Set.is c.requires.code;
}

pub pick-requires : goal.pick-requires
pick-requires g c = record {
  sits = c.requires.sits;
  register = (subst HasRegisters c.in-Choose.is c.requires.registers).0;
  other = (subst HasRegisters c.in-Choose.is c.requires.registers).1;
  key = (subst HasRegisters c.in-Choose.is c.requires.registers).2;
  calls = c.requires.calls;
  named = c.requires.named;
}

pub map_put-requires : goal.map_put-requires
map_put-requires g c = record {
  sits = c.requires.sits;
  register = (subst HasRegisters c.in-MapPut.is c.requires.registers).0;
  map = (subst HasRegisters c.in-MapPut.is c.requires.registers).1;
  key = (subst HasRegisters c.in-MapPut.is c.requires.registers).2;
  value = (subst HasRegisters c.in-MapPut.is c.requires.registers).3;
  calls = c.requires.calls;
  named = c.requires.named;
}

pub fill-requires : goal.fill-requires
fill-requires g c = record {
  sits = c.requires.sits;
  register = subst HasRegisters c.in-Fill.is c.requires.registers;
  calls = c.requires.calls;
}

pub make_fun-requires : goal.make_fun-requires
make_fun-requires g c = record {
  sits = c.requires.sits;
  register = subst HasRegisters c.in-Fun.is c.requires.registers;
  calls = c.requires.calls;
  name = subst HasName c.in-Fun.is c.requires.name;
  env = (subst (λ v. HasCode (Process c.args.seat.pid v) c.args.names.now c.args.code.now) c.in-Fun.is c.requires.code).0;
}

pub make_ref-requires : goal.make_ref-requires
make_ref-requires g c = record {
  sits = c.requires.sits;
  register = subst HasRegisters c.in-Ref.is c.requires.registers;
  calls = c.requires.calls;
}

pub own_pid-requires : goal.own_pid-requires
own_pid-requires g c = record {
  sits = c.requires.sits;
  register = subst HasRegisters c.in-Own.is c.requires.registers;
  calls = c.requires.calls;
}

pub repeat-requires : goal.repeat-requires
repeat-requires g c = record {
  sits = c.requires.sits;
  register = (subst HasRegisters c.in-Repeat.is c.requires.registers).0;
  other = (subst HasRegisters c.in-Repeat.is c.requires.registers).1;
  calls = c.requires.calls;
}

pub push-requires : goal.push-requires
push-requires g c = record {
  sits = c.requires.sits;
  register = subst HasRegisters c.in-Push.is c.requires.registers;
  calls = c.requires.calls;
}

pub pop-requires : goal.pop-requires
pop-requires g c = record {
  sits = c.requires.sits;
  register = subst HasRegisters c.in-Pop.is c.requires.registers;
  calls = c.requires.calls;
}

pub send-requires : goal.send-requires
send-requires g c = record {
  sits = c.requires.sits;
  register = (subst HasRegisters c.in-Send.is c.requires.registers).0;
  receiver = (subst HasRegisters c.in-Send.is c.requires.registers).1;
  calls = c.requires.calls;
}

pub receive-requires : goal.receive-requires
receive-requires g c = record {
  sits = c.requires.sits;
  register = subst HasRegisters c.in-Recv.is c.requires.registers;
  calls = c.requires.calls;
}

pub collect-requires : goal.collect-requires
collect-requires g c = record {
  sits = c.requires.sits;
  calls = c.requires.calls;
}

pub exit-requires : goal.exit-requires
exit-requires g c = record {
  sits = c.requires.sits;
  calls = c.requires.calls;
}

pub returns-in-Set : goal.returns-in-Set
returns-in-Set g c = record {
  acts = does-same _ _ _ _ _ _ _ _ _ c.in-Set.is
      (done-acts _ _ _ _ _ _ _ _ c.build.result c.done.ensures
      (set-does _ _ _ _ _ _ _ c.in-Set.r c.build.result refl c.build.ensures.becomes));
  can = said-can (λ _. Done) g.S.Space.sits g.S.Space.named c.build.new.self c.args.names.now c.done.result c.build.result c.done.ensures (λ a. tt);
  books = keeps-more _ (omega (arith, c.requires.named)) c.build.ensures.books;
  refused = said-refused (λ _. Done) _ _ c.build.result c.done.ensures (λ a. tt) (c.build.ensures.refused);
  leaves = λ e. absurd (both_ways (is_printing_verb c.args.verb) (ap is_printing_verb c.in-Set.is) e);
}

pub returns-in-Choose : goal.returns-in-Choose
returns-in-Choose g c = record {
  acts = does-same _ _ _ _ _ _ _ _ _ c.in-Choose.is
      (done-acts _ _ _ _ _ _ _ _ c.pick.result c.done-in-Choose.ensures
      (pick-does _ _ _ _ _ _ _ c.in-Choose.r c.in-Choose.s c.in-Choose.how c.pick.result refl c.pick.ensures.becomes));
  can = said-can (λ _. Done) g.S.Space.sits g.S.Space.named c.pick.new.self c.args.names.now c.done-in-Choose.result c.pick.result c.done-in-Choose.ensures (λ a. tt);
  books = keeps-more _ c.requires.named c.pick.ensures.books;
  refused = said-refused (λ _. Done) _ _ c.pick.result c.done-in-Choose.ensures (λ a. tt) (on-err c.pick.result c.pick.ensures.books.few_names);
  leaves = λ e. absurd (both_ways (is_printing_verb c.args.verb) (ap is_printing_verb c.in-Choose.is) e);
}

pub returns-in-MapPut : goal.returns-in-MapPut
returns-in-MapPut g c = record {
  acts = does-same _ _ _ _ _ _ _ _ _ c.in-MapPut.is
      (done-acts _ _ _ _ _ _ _ _ c.map_put.result c.done-in-MapPut.ensures
      (put-does _ _ _ _ _ _ _ c.in-MapPut.r c.in-MapPut.s c.in-MapPut.k c.in-MapPut.v c.map_put.result refl c.map_put.ensures.becomes));
  can = said-can (λ _. Done) g.S.Space.sits g.S.Space.named c.map_put.new.self c.args.names.now c.done-in-MapPut.result c.map_put.result c.done-in-MapPut.ensures (λ a. tt);
  books = keeps-more _ c.requires.named c.map_put.ensures.books;
  refused = said-refused (λ _. Done) _ _ c.map_put.result c.done-in-MapPut.ensures (λ a. tt) (on-err c.map_put.result c.map_put.ensures.books.few_names);
  leaves = λ e. absurd (both_ways (is_printing_verb c.args.verb) (ap is_printing_verb c.in-MapPut.is) e);
}

pub returns-in-Fill : goal.returns-in-Fill
returns-in-Fill g c = record {
  acts = does-same _ _ _ _ _ _ _ _ _ c.in-Fill.is
      (done-acts _ _ _ _ _ _ _ _ c.fill.result c.done-in-Fill.ensures
      (fill-does _ _ _ _ _ _ _ c.in-Fill.r c.in-Fill.len c.in-Fill.byte c.fill.result refl (λ s terms h m. c.fill.ensures.becomes s terms c.args.names.now h m)));
  can = said-can (λ _. Done) g.S.Space.sits g.S.Space.named c.fill.new.self c.args.names.now c.done-in-Fill.result c.fill.result c.done-in-Fill.ensures (λ a. tt);
  books = keeps-more _ c.requires.named c.fill.ensures.books;
  refused = said-refused (λ _. Done) _ _ c.fill.result c.done-in-Fill.ensures (λ a. tt) (on-err c.fill.result c.fill.ensures.books.few_names);
  leaves = λ e. absurd (both_ways (is_printing_verb c.args.verb) (ap is_printing_verb c.in-Fill.is) e);
}

pub returns-in-Fun : goal.returns-in-Fun
returns-in-Fun g c = record {
  acts = does-same _ _ _ _ _ _ _ _ _ c.in-Fun.is
      (done-acts _ _ _ _ _ _ _ _ c.make_fun.result c.done-in-Fun.ensures
      (fun-does _ _ _ _ _ _ _ c.in-Fun.r c.in-Fun.name c.in-Fun.arity c.make_fun.result refl (λ s terms h m e. c.make_fun.ensures.becomes s terms c.args.names.now h m e)));
  can = said-can (λ _. Done) g.S.Space.sits g.S.Space.named c.make_fun.new.self c.args.names.now c.done-in-Fun.result c.make_fun.result c.done-in-Fun.ensures (λ a. tt);
  books = keeps-more _ (omega (arith, c.requires.named, (subst (λ v. HasCode (Process c.args.seat.pid v) c.args.names.now c.args.code.now) c.in-Fun.is c.requires.code).1)) c.make_fun.ensures.books;
  refused = said-refused (λ _. Done) _ _ c.make_fun.result c.done-in-Fun.ensures (λ a. tt) (c.make_fun.ensures.refused);
  leaves = λ e. absurd (both_ways (is_printing_verb c.args.verb) (ap is_printing_verb c.in-Fun.is) e);
}

pub returns-in-Ref : goal.returns-in-Ref
returns-in-Ref g c = record {
  acts = does-same _ _ _ _ _ _ _ _ _ c.in-Ref.is
      (done-acts _ _ _ _ _ _ _ _ c.make_ref.result c.done-in-Ref.ensures
      (becomes-does _ _ _ _ _ _ _ _ (Ref c.in-Ref.r) c.make_ref.result refl refl (λ s terms q a. (refl, refl, refl)) (λ s terms h m. c.make_ref.ensures.becomes s terms c.args.names.now h m)));
  can = said-can (λ _. Done) g.S.Space.sits g.S.Space.named c.make_ref.new.self c.args.names.now c.done-in-Ref.result c.make_ref.result c.done-in-Ref.ensures (λ a. tt);
  books = keeps-more _ c.requires.named c.make_ref.ensures.books;
  refused = said-refused (λ _. Done) _ _ c.make_ref.result c.done-in-Ref.ensures (λ a. tt) (on-err c.make_ref.result c.make_ref.ensures.books.few_names);
  leaves = λ e. absurd (both_ways (is_printing_verb c.args.verb) (ap is_printing_verb c.in-Ref.is) e);
}

pub returns-in-Own : goal.returns-in-Own
returns-in-Own g c = record {
  acts = does-same _ _ _ _ _ _ _ _ _ c.in-Own.is
      (passes-does _ _ _ _ _ _ _ (Own c.in-Own.r) refl refl (λ s terms q. (refl, refl, refl)) (λ s terms h m. c.own_pid.ensures.passes s terms c.args.names.now h m));
  books = keeps-more _ c.requires.named c.own_pid.ensures.books;
  refused = tt;
  can = tt;
  leaves = λ e. absurd (both_ways (is_printing_verb c.args.verb) (ap is_printing_verb c.in-Own.is) e);
}

pub returns-in-Repeat : goal.returns-in-Repeat
returns-in-Repeat g c = record {
  acts = does-same _ _ _ _ _ _ _ _ _ c.in-Repeat.is
      (done-acts _ _ _ _ _ _ _ _ c.repeat.result c.done-in-Repeat.ensures
      (repeat-does _ _ _ _ _ _ _ c.in-Repeat.r c.in-Repeat.s c.in-Repeat.shape c.in-Repeat.n c.repeat.result refl (λ s terms h m. c.repeat.ensures.becomes s terms c.args.names.now h m)));
  can = said-can (λ _. Done) g.S.Space.sits g.S.Space.named c.repeat.new.self c.args.names.now c.done-in-Repeat.result c.repeat.result c.done-in-Repeat.ensures (λ a. tt);
  books = keeps-more _ c.requires.named c.repeat.ensures.books;
  refused = said-refused (λ _. Done) _ _ c.repeat.result c.done-in-Repeat.ensures (λ a. tt) (on-err c.repeat.result c.repeat.ensures.books.few_names);
  leaves = λ e. absurd (both_ways (is_printing_verb c.args.verb) (ap is_printing_verb c.in-Repeat.is) e);
}

pub returns-in-Push : goal.returns-in-Push
returns-in-Push g c = record {
  acts = does-same _ _ _ _ _ _ _ _ _ c.in-Push.is
      (done-acts _ _ _ _ _ _ _ _ c.push.result c.done-in-Push.ensures
      (becomes-does _ _ _ _ _ _ _ _ (Push c.in-Push.r) c.push.result refl refl (λ s terms q a. (refl, refl, refl)) (λ s terms h m. c.push.ensures.becomes s terms c.args.names.now h m)));
  can = said-can (λ _. Done) g.S.Space.sits g.S.Space.named c.push.new.self c.args.names.now c.done-in-Push.result c.push.result c.done-in-Push.ensures (λ a. tt);
  books = keeps-more _ c.requires.named c.push.ensures.books;
  refused = said-refused (λ _. Done) _ _ c.push.result c.done-in-Push.ensures (λ a. tt) (on-err c.push.result c.push.ensures.books.few_names);
  leaves = λ e. absurd (both_ways (is_printing_verb c.args.verb) (ap is_printing_verb c.in-Push.is) e);
}

pub returns-in-Pop : goal.returns-in-Pop
returns-in-Pop g c = record {
  acts = does-same _ _ _ _ _ _ _ _ _ c.in-Pop.is
      (done-acts _ _ _ _ _ _ _ _ c.pop.result c.done-in-Pop.ensures
      (pop-does _ _ _ _ _ _ _ c.in-Pop.r c.pop.result refl (λ s terms h m. c.pop.ensures.follows s terms c.args.names.now h m)));
  can = said-can (λ _. Done) g.S.Space.sits g.S.Space.named c.pop.new.self c.args.names.now c.done-in-Pop.result c.pop.result c.done-in-Pop.ensures (λ a. tt);
  books = keeps-more _ c.requires.named c.pop.ensures.books;
  refused = said-refused (λ _. Done) _ _ c.pop.result c.done-in-Pop.ensures (λ a. tt) (on-err c.pop.result c.pop.ensures.books.few_names);
  leaves = λ e. absurd (both_ways (is_printing_verb c.args.verb) (ap is_printing_verb c.in-Pop.is) e);
}

pub returns-in-Send : goal.returns-in-Send
returns-in-Send g c = record {
  acts = does-same _ _ _ _ _ _ _ _ _ c.in-Send.is
      (done-acts _ _ _ _ _ _ _ _ c.send.result c.done-in-Send.ensures
      (send-does _ _ _ _ _ _ _ c.in-Send.s c.in-Send.to c.send.result refl (λ s terms h m. c.send.ensures.becomes s terms c.args.names.now h m)));
  can = said-can (λ _. Done) g.S.Space.sits g.S.Space.named c.send.new.self c.args.names.now c.done-in-Send.result c.send.result c.done-in-Send.ensures (λ a. tt);
  books = keeps-more _ c.requires.named c.send.ensures.books;
  refused = said-refused (λ _. Done) _ _ c.send.result c.done-in-Send.ensures (λ a. tt) (on-err c.send.result c.send.ensures.books.few_names);
  leaves = λ e. absurd (both_ways (is_printing_verb c.args.verb) (ap is_printing_verb c.in-Send.is) e);
}

pub returns-in-Recv : goal.returns-in-Recv
returns-in-Recv g c = record {
  acts = does-same _ _ _ _ _ _ _ _ _ c.in-Recv.is
      (done-acts _ _ _ _ _ _ _ _ c.receive.result c.done-in-Recv.ensures
      (recv-does _ _ _ _ _ _ _ c.in-Recv.r c.receive.result refl (λ s terms h m. c.receive.ensures.follows s terms c.args.names.now h m)));
  can = said-can (λ _. Done) g.S.Space.sits g.S.Space.named c.receive.new.self c.args.names.now c.done-in-Recv.result c.receive.result c.done-in-Recv.ensures (λ a. tt);
  books = keeps-more _ c.requires.named c.receive.ensures.books;
  refused = said-refused (λ _. Done) _ _ c.receive.result c.done-in-Recv.ensures (λ a. tt) (on-err c.receive.result c.receive.ensures.books.few_names);
  leaves = λ e. absurd (both_ways (is_printing_verb c.args.verb) (ap is_printing_verb c.in-Recv.is) e);
}

pub returns-in-Gc : goal.returns-in-Gc
returns-in-Gc g c = record {
  acts = does-same _ _ _ _ _ _ _ _ _ c.in-Gc.is
      (passes-does _ _ _ _ _ _ _ (Gc c.in-Gc.depth) refl refl (λ s terms q. (refl, refl, refl)) (λ s terms h m. c.collect.ensures.passes s terms c.args.names.now h m));
  books = keeps-more _ c.requires.named c.collect.ensures.books;
  refused = tt;
  can = tt;
  leaves = λ e. absurd (both_ways (is_printing_verb c.args.verb) (ap is_printing_verb c.in-Gc.is) e);
}

pub returns-in-Exit : goal.returns-in-Exit
returns-in-Exit g c = record {
  acts = does-same _ _ _ _ _ _ _ _ _ c.in-Exit.is
      (passes-does _ _ _ _ _ _ _ Exit refl refl (λ s terms q. (refl, refl, refl)) (λ s terms h m. c.exit.ensures.passes s terms c.args.names.now h m));
  books = keeps-more _ c.requires.named c.exit.ensures.books;
  refused = tt;
  can = tt;
  leaves = λ e. absurd (both_ways (is_printing_verb c.args.verb) (ap is_printing_verb c.in-Exit.is) e);
}

pub returns-in-Queue : goal.returns-in-Queue
returns-in-Queue g c = record {
  acts = does-same _ _ _ _ _ _ _ _ _ c.in-Queue.is (told-does _ c.args.seat _ _ _ TellsQueue);
  can = (c.requires.sits, tt, c.requires.named);
  books = record { same_words = refl; one_call = omega arith; few_names = c.requires.named };
  refused = tt;
  leaves = λ e. refl;
}

pub returns-in-Print : goal.returns-in-Print
returns-in-Print g c = record {
  acts = does-same _ _ _ _ _ _ _ _ _ c.in-Print.is (told-does _ c.args.seat _ _ _ (Text c.in-Print.r));
  can = (c.requires.sits, subst HasRegisters c.in-Print.is c.requires.registers, c.requires.named);
  books = record { same_words = refl; one_call = omega arith; few_names = c.requires.named };
  refused = tt;
  leaves = λ e. refl;
}

pub returns-in-Eq : goal.returns-in-Eq
returns-in-Eq g c = record {
  acts = does-same _ _ _ _ _ _ _ _ _ c.in-Eq.is (told-does _ c.args.seat _ _ _ (Compared Equality c.in-Eq.a c.in-Eq.b));
  can = (c.requires.sits, subst HasRegisters c.in-Eq.is c.requires.registers, c.requires.named);
  books = record { same_words = refl; one_call = omega arith; few_names = c.requires.named };
  refused = tt;
  leaves = λ e. refl;
}

pub returns-in-Cmp : goal.returns-in-Cmp
returns-in-Cmp g c = record {
  acts = does-same _ _ _ _ _ _ _ _ _ c.in-Cmp.is (told-does _ c.args.seat _ _ _ (Compared Order c.in-Cmp.a c.in-Cmp.b));
  can = (c.requires.sits, subst HasRegisters c.in-Cmp.is c.requires.registers, c.requires.named);
  books = record { same_words = refl; one_call = omega arith; few_names = c.requires.named };
  refused = tt;
  leaves = λ e. refl;
}

pub returns-in-Flat : goal.returns-in-Flat
returns-in-Flat g c = record {
  acts = does-same _ _ _ _ _ _ _ _ _ c.in-Flat.is (told-does _ c.args.seat _ _ _ (TellsFlat c.in-Flat.r));
  can = (c.requires.sits, subst HasRegisters c.in-Flat.is c.requires.registers, c.requires.named);
  books = record { same_words = refl; one_call = omega arith; few_names = c.requires.named };
  refused = tt;
  leaves = λ e. refl;
}
