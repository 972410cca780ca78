use Rattle.std.proofs.Common.{◌≡◌, ◌/◌, ◌^◌, drop, ap, ◌∙◌, sym}
use Rattle.std.proofs.lemmas.List.{at_drop_all}
use Rattle.atom_names.specs.Spread.{mixed_all, first_slot}
use Rattle.atom_names.proofs.spread.spread.Goals as goal

pub returns-clause-value : goal.returns-clause-value
unfolding first_slot
returns-clause-value c =
    let end : mixed_all c.loop-byte.hash (drop c.loop-byte.byte-index c.args.name.now) ≡ c.loop-byte.hash =
    at_drop_all (mixed_all c.loop-byte.hash) c.args.name.now c.loop-byte.byte-index c.loop-byte-test.false in
    ap (λ h. h / 2 ^ 16) (sym end ∙ c.loop-byte.invariant)
