use Rattle.engine.specs.Replies.{ends_script, reply_lines}
use Rattle.engine.proofs.machine.step.Goals as goal

pub returns : goal.returns
returns g c =
    let took = c.take_line-reply.ensures in
    let told = c.answer.ensures in record {
      steps = λ s h.
          let t = took.takes s h in record {
            quits = ends_script c.take_line-reply.result;
            replies = reply_lines c.take_line-reply.result _;
            new = t.new;
            follows = t.steps (told.allowed t.new t.stands.0 t.stands.1);
            stands = t.stands;
            maps = t.maps;
            writes = told.writes t.new t.stands.0;
            tells = told.tells;
            later = told.later t.new t.stands.0;
          };
      leaves = took.leaves;
      idle = took.idle;
      books = took.books;
    }
