use Rattle.std.proofs.Common.{ap, ◌∙◌, arith, sym, refl, subst, ◌≤◌, take, length, Err}
use Rattle.script_grammar.specs.Names.{terms_of}
use Rattle.engine.specs.Acts.{OnRefused}
use Rattle.engine.specs.Replies.{CanReply}
use Rattle.engine.proofs.Taking.{told, told-longer, told-back, told-code, told-fits, told-idle, told-prints, told-same, takes-done, takes-refused, takes-nothing}
use Rattle.engine.proofs.machine.take_line.Goals as goal

pub act-reply-requires : goal.act-reply-requires
act-reply-requires g c =
    let said = c.in-Ok.ensures.said in
    let t = told _ _ _ _ _ said.0 said.1 in record {
      built = c.in-Ok.ensures.built;
      bounds = c.in-Ok.ensures.bounds;
      calls = c.requires.calls;
      named = omega (arith, c.requires.named, told-longer _ _ _ _ _ said.0 t);
      code = told-code _ _ _ _ _ said.0 t _ c.items.ensures.value c.items.ensures.few;
    }

pub forget-requires : goal.forget-requires
forget-requires g c =
    let said = c.in-Ok.ensures.said in
    omega (arith, c.count-before.ensures.value, told-longer _ _ _ _ _ said.0 (told _ _ _ _ _ said.0 said.1))

pub returns-in-Err : goal.returns-in-Err
returns-in-Err g c = record {
  takes = λ s h.
      takes-nothing _ s c.args.line.now c.in-Err.refusal c.args.names.now c.parse.new.names _ h c.in-Err.ensures.kept.0 c.in-Err.ensures.kept.1
      (λ e. c.in-Err.ensures.syntax (ap (λ x. Err x) e)) (λ e. c.in-Err.ensures.atoms (ap (λ x. Err x) e));
  can = tt;
  books = record { same_words = refl; one_call = omega arith; few_names = omega (arith, c.requires.named, ap length c.in-Err.ensures.kept.0) };
  leaves = λ p r e. (refl, c.in-Err.ensures.kept.0);
  idle = λ i. (refl, c.in-Err.ensures.kept.0);
}

pub returns-in-Refused : goal.returns-in-Refused
returns-in-Refused g c =
    let said = c.in-Ok.ensures.said in
    let t = told _ _ _ _ _ said.0 said.1 in
    let back = c.forget.ensures ∙ ap (λ n. take n c.parse.new.names) c.count-before.ensures.value ∙ told-back _ _ _ _ _ said.0 t in record {
      takes = λ s h.
          takes-refused _ _ _ _ _ said.0 t _ s c.act-reply.result _ (g.S.Space.text c.act-reply.new.space) h.1
          (c.act-reply.ensures.acts s (terms_of said.0) h.0 (told-fits _ _ _ _ _ said.0 t _ s c.items.ensures.value h.1))
          c.in-Refused.field-0 c.forget.new.self c.in-Refused.is back;
      can = subst (CanReply g.S.Space.sits g.S.Space.named c.act-reply.new.space c.forget.new.self) (sym c.in-Refused.is) tt;
      books = record {
        same_words = c.act-reply.ensures.books.same_words;
        one_call = c.act-reply.ensures.books.one_call;
        few_names = omega (
          arith,
          c.requires.named,
          ap length back,
          subst (λ x. OnRefused x (g.S.Space.named c.act-reply.new.space ≤ g.S.Space.named c.args.space.now)) c.in-Refused.is c.act-reply.ensures.refused,
        );
      };
      leaves = λ p r e. (c.act-reply.ensures.leaves (told-prints _ _ _ _ _ said.0 t p r e), back);
      idle = λ i. (c.act-reply.ensures.leaves (told-idle _ _ _ _ _ said.0 t i), back);
    }

pub returns-in_default : goal.returns-in_default
returns-in_default g c =
    let said = c.in-Ok.ensures.said in
    let t = told _ _ _ _ _ said.0 said.1 in record {
      takes = λ s h.
          takes-done _ _ _ _ _ said.0 t _ s c.act-reply.result _ (g.S.Space.text c.act-reply.new.space) h.1
          (c.act-reply.ensures.acts s (terms_of said.0) h.0 (told-fits _ _ _ _ _ said.0 t _ s c.items.ensures.value h.1))
          c.in_default.not-Refused;
      can = c.act-reply.ensures.can;
      books = c.act-reply.ensures.books;
      leaves = λ p r e.
          let prints = told-prints _ _ _ _ _ said.0 t p r e in
          (c.act-reply.ensures.leaves prints, told-same _ _ _ _ _ said.0 t prints);
      idle = λ i.
          let prints = told-idle _ _ _ _ _ said.0 t i in
          (c.act-reply.ensures.leaves prints, told-same _ _ _ _ _ said.0 t prints);
    }
