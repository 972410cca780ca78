use Rattle.std.proofs.Common.{arith, ◌∙◌, ◌∷◌, ◌++◌, ◌+◌, ◌-◌, ◌<◌, ◌≤◌, ℕ, refl, sym, ap, ap₂, List, drop}
use Rattle.made_script.specs.Lines.{line_of}
use Rattle.made_script.specs.Script.{lines_from, opening_lines}
use Rattle.made_script.proofs.Tables.{next-opening, opening-over, next-drawn}
use Rattle.made_script.proofs.script.MadeScript.next_line.Goals as goal

pub returns-then-self-lt8 : goal.returns-then-self-lt8
returns-then-self-lt8 c =
    let s = c.args.self.now in
    next-opening s.opened (lines_from s.left s.generator) c.if-self-lt8.true
    ∙ ap (λ (l : List ℕ). l ∷ (drop (s.opened + 1) opening_lines ++ lines_from s.left s.generator)) (sym c.put_line_of.ensures)

pub returns-then-self-eq0 : goal.returns-then-self-eq0
unfolding lines_from
returns-then-self-eq0 c =
    let s = c.args.self.now in
    let over : 8 ≤ s.opened = omega (arith, c.if-self-lt8.false) in
    (opening-over s.opened (lines_from s.left s.generator) over ∙ ap (λ (n : ℕ). lines_from n s.generator) c.if-self-eq0.true, refl)

pub returns : goal.returns
returns c =
    let s = c.args.self.now in
    let over : 8 ≤ s.opened = omega (arith, c.if-self-lt8.false) in
    let some : 0 < s.left = omega (arith, c.if-self-eq0.false) in
    opening-over s.opened (lines_from s.left s.generator) over
    ∙ next-drawn s.left s.generator some
    ∙ ap₂ (λ (l : List ℕ) (rest : List (List ℕ)). l ∷ rest)
    (sym (c.write_line.ensures ∙ ap line_of c.draw_line-drawn.ensures.drawn))
    (ap (λ g. lines_from (s.left - 1) g) (sym c.draw_line-drawn.ensures.rest)
    ∙ sym (opening-over s.opened (lines_from (s.left - 1) c.draw_line-drawn.new.generator) over))
