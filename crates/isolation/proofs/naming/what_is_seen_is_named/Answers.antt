use Rattle.isolation.proofs.Named.Seeing.{seen}
use Rattle.isolation.proofs.naming.what_is_seen_is_named.Goals as goal

pub returns : goal.returns
returns c = λ names shared t. seen names shared t
