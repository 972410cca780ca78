use Rattle.one_space.proofs.OfHeap.Counted.{counts-allowed, counts-imaged}
use Rattle.one_space.proofs.OfHeap.Imaged.{image-stands}
use Rattle.one_space.proofs.heap.OneHeapHeaps.images_stand.Goals as goal

pub returns-clause-counted : goal.returns-clause-counted
returns-clause-counted c = λ named s x names known. counts-allowed named c.args.self.now.halves s x.processes.is x.areas x.tidy names known

pub returns-clause-imaged : goal.returns-clause-imaged
returns-clause-imaged c = λ named s x. image-stands named c.args.self.now.halves s c.requires.lives.whole.laid x.processes.is x.areas x.tidy

pub returns-clause-pictured : goal.returns-clause-pictured
returns-clause-pictured c = λ named s names x all known. counts-imaged named c.args.self.now.halves s x.processes.is names all known
