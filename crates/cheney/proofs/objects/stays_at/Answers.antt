use Rattle.cheney.proofs.objects.stays_at.Goals as goal

pub returns : goal.returns
returns c = c.has.ensures
