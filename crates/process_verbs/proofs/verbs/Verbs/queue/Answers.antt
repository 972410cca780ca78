use Rattle.process_verbs.proofs.Telling.{have-messages, queue-writes}
use Rattle.process_verbs.proofs.verbs.Verbs.queue.Goals as goal

pub put_queue-requires-clause-have : goal.put_queue-requires-clause-have
put_queue-requires-clause-have g c = let h = c.requires.holds in have-messages _ _ h.counts _ c.requires.sits _ c.waiting.ensures.words _ c.requires.named h.state h.stands

pub returns-clause-writes : goal.returns-clause-writes
returns-clause-writes g c = queue-writes _ _ c.requires.holds.counts _ c.requires.sits _ c.waiting.ensures.words _ c.requires.named g.K.Sink.wrote g.K.Sink.faults _ _ _ c.put_queue.ensures

pub returns-clause-later : goal.returns-clause-later
returns-clause-later g c = let h = c.requires.holds in (c.put_queue.ensures _ _ (have-messages _ _ h.counts _ c.requires.sits _ c.waiting.ensures.words _ c.requires.named h.state h.stands).are).later

pub returns-clause-rose : goal.returns-clause-rose
returns-clause-rose g c = let h = c.requires.holds in (c.put_queue.ensures _ _ (have-messages _ _ h.counts _ c.requires.sits _ c.waiting.ensures.words _ c.requires.named h.state h.stands).are).rose

pub returns-clause-told : goal.returns-clause-told
returns-clause-told g c = let h = c.requires.holds in (c.put_queue.ensures _ _ (have-messages _ _ h.counts _ c.requires.sits _ c.waiting.ensures.words _ c.requires.named h.state h.stands).are).told
