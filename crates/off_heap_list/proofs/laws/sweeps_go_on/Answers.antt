use Rattle.off_heap_list.proofs.Walked.Sweeping.{next-object, next-moved, next-record, next-counted}
use Rattle.off_heap_list.proofs.laws.sweeps_go_on.Goals as goal

pub returns-clause-object : goal.returns-clause-object
returns-clause-object c = λ k mem head p os first kept last ends further s. next-object k mem head p os 0 first kept last ends further s

pub returns-clause-moved : goal.returns-clause-moved
returns-clause-moved c = λ k mem head p os first kept last ends further s. next-moved k mem head p os 0 first kept last ends further s

pub returns-clause-of_record : goal.returns-clause-of_record
returns-clause-of_record c = λ k mem head p os first kept last ends further s. next-record k mem head p os 0 first kept last ends further s

pub returns-clause-count : goal.returns-clause-count
returns-clause-count c = λ k mem head p os first kept last ends further s. next-counted k mem head p os 0 first kept last ends further s
