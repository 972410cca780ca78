use Rattle.std.proofs.Common.{List, ℕ, sym, subst}
use Rattle.cheney.specs.Roots.{EvacuatedAt}
use Rattle.cheney.proofs.Rooted.Places.{place-inside, place-moved}
use Rattle.cheney.proofs.roots.evacuate_at.Goals as goal

pub set-requires : goal.set-requires
set-requires c = place-inside c.requires.plan c.args.mem.now c.evacuate-new.new.mem c.args.mv.now c.evacuate-new.new.mv c.requires.marks c.args.place c.get-w.result c.evacuate-new.result
    c.requires.runs c.requires.free c.requires.reached c.get-w.ensures c.evacuate-new.ensures

pub returns : goal.returns
returns c = λ p k run free r.
    let P : List ℕ → Type 0 = λ z. EvacuatedAt p c.args.mem.now z c.evacuate-new.new.mv k c.args.place in
    subst P (sym c.set.ensures) (place-moved p c.args.mem.now c.evacuate-new.new.mem c.args.mv.now c.evacuate-new.new.mv k c.args.place c.get-w.result c.evacuate-new.result run free r
    c.get-w.ensures c.evacuate-new.ensures)
