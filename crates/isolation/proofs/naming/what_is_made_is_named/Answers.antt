use Rattle.isolation.proofs.Named.Making.{made}
use Rattle.isolation.proofs.naming.what_is_made_is_named.Goals as goal

pub returns : goal.returns
returns c = λ names held shared t h n. made names held t shared h n
