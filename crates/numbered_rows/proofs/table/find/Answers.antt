use Rattle.std.proofs.Common.{◌≡◌, ◌-◌, sym, ◌∙◌, arith}
use Rattle.numbered_rows.specs.Numbers.{row_number}
use Rattle.numbered_rows.proofs.Rising.{number-read, among-none, find-none}
use Rattle.numbered_rows.proofs.table.find.Goals as goal

pub returns-then-above-eq0-clause-among : goal.returns-then-above-eq0-clause-among
returns-then-above-eq0-clause-among g c =
    sym (among-none g.R.Numbered.number_of c.args.rows.now c.args.n (λ k below e. omega (arith, e, c.first_above-above.ensures.high k (omega arith) below)))

pub returns-else-number-n-clause-among : goal.returns-else-number-n-clause-among
returns-else-number-n-clause-among g c =
    let none : row_number g.R.Numbered.number_of c.args.rows.now (c.first_above-above.result - 1) ≡ c.args.n → ⊥ =
    λ e.
    c.if-number-n.false
    (c.number.ensures ∙ (sym (number-read g.R.Numbered.number_of c.args.rows.now (c.first_above-above.result - 1) c.index-rows-above.result (omega arith) c.index-rows-above.is) ∙ e)) in
    sym (among-none g.R.Numbered.number_of c.args.rows.now c.args.n
    (find-none g.R.Numbered.number_of c.args.rows.now c.first_above-above.result c.args.n c.requires c.first_above-above.ensures.within (omega arith) none c.first_above-above.ensures.low
    c.first_above-above.ensures.high))
