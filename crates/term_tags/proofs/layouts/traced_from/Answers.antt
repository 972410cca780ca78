use Rattle.std.proofs.Common.{rules}
use Rattle.term_tags.proofs.Rows.{none-traced}
use Rattle.term_tags.proofs.layouts.traced_from.Goals as goal

pub returns-then-subtag-eq-FUN-clause-first : goal.returns-then-subtag-eq-FUN-clause-first
returns-then-subtag-eq-FUN-clause-first c = search rules

pub returns-clause-first : goal.returns-clause-first
returns-clause-first c = none-traced c.args.header c.if-subtag-eq-TUPLE.false c.if-subtag-eq-MAP.false c.if-subtag-eq-SUB_BIN.false c.if-subtag-eq-FUN.false
