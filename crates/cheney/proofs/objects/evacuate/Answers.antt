use Rattle.cheney.proofs.Stepping.Steps.{evacuated}
use Rattle.cheney.proofs.objects.evacuate.Goals as goal

pub returns : goal.returns
returns c = λ p k run r. evacuated p c.args.mem.now c.moved_word.new.mem c.args.mv.now c.moved_word.new.mv k c.args.w c.moved_word.result run r c.moved_word.ensures
