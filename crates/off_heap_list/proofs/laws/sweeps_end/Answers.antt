use Rattle.off_heap_list.proofs.Walked.Sweeping.{sweep-done}
use Rattle.off_heap_list.proofs.laws.sweeps_end.Goals as goal

pub returns : goal.returns
returns c = λ k mem head first kept last ends further s. sweep-done k mem head 0 first kept last ends further s
