use Rattle.process_verbs.proofs.Telling.{is-term}
use Rattle.process_verbs.proofs.Moving.Sending.{heard}
use Rattle.process_verbs.proofs.verbs.Verbs.receiver.Goals as goal

pub look_at-requires : goal.look_at-requires
look_at-requires g c = let h = c.requires.holds in is-term _ _ h.state h.stands _ _ _ (c.word.ensures h.state h.stands) _ c.mem.ensures

pub returns-in-Held : goal.returns-in-Held
returns-in-Held g c = λ s q o found. heard _ _ s o _ c.in-Held.r _ (c.word.ensures s o) _ c.mem.ensures q found _ c.look_at.ensures.tree _ c.in-Held.is _ c.pid_seen.ensures
