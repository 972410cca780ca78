use Rattle.std.proofs.Common.{subst}
use Rattle.term_tags.specs.Kinds.{ReadsAs}
use Rattle.term_tags.specs.declared.kinds.Kind.{Kind}
use Rattle.term_read.proofs.Pointers.{list-kind}
use Rattle.term_read.proofs.Seen.{sees-small-word, sees-atom, sees-pid, sees-nil, sees-cons, lies-in, no-other}
use Rattle.term_read.proofs.looks.look_at.Goals as goal

pub unreachable-requires : goal.unreachable-requires
unreachable-requires c =
    no-other c.args.mem.now c.args.w c.kind_of.result c.requires c.bounded.ensures c.kind_of.ensures.small c.kind_of.ensures.pid
    c.kind_of.ensures.atom c.kind_of.ensures.nil c.kind_of.ensures.list c.kind_of.ensures.boxed c.in-Header.is

pub returns-in-Small-clause-tree : goal.returns-in-Small-clause-tree
returns-in-Small-clause-tree c = let P : Kind → Type 0 = λ k. ReadsAs c.args.w k in sees-small-word c.args.mem.now c.args.w c.in-Small.i (subst P c.in-Small.is c.kind_of.ensures.exact)

pub returns-in-Atom-clause-tree : goal.returns-in-Atom-clause-tree
returns-in-Atom-clause-tree c = let P : Kind → Type 0 = λ k. ReadsAs c.args.w k in sees-atom c.args.mem.now c.args.w c.in-Atom.k (subst P c.in-Atom.is c.kind_of.ensures.exact)

pub returns-in-Pid-clause-tree : goal.returns-in-Pid-clause-tree
returns-in-Pid-clause-tree c = let P : Kind → Type 0 = λ k. ReadsAs c.args.w k in sees-pid c.args.mem.now c.args.w c.in-Pid.n (subst P c.in-Pid.is c.kind_of.ensures.exact)

pub returns-in-Nil-clause-tree : goal.returns-in-Nil-clause-tree
returns-in-Nil-clause-tree c = let P : Kind → Type 0 = λ k. ReadsAs c.args.w k in sees-nil c.args.mem.now c.args.w (subst P c.in-Nil.is c.kind_of.ensures.exact)

pub returns-in-ListAt-clause-tree : goal.returns-in-ListAt-clause-tree
returns-in-ListAt-clause-tree c =
    let (tag, place) = list-kind c.args.w c.in-ListAt.place c.kind_of.result c.kind_of.ensures.exact c.in-ListAt.is in
    sees-cons c.args.mem.now c.args.w c.in-ListAt.place tag place

pub returns-in-ListAt-clause-places : goal.returns-in-ListAt-clause-places
returns-in-ListAt-clause-places c = lies-in c.args.mem.now c.args.w _ c.requires (returns-in-ListAt-clause-tree c)

pub returns-in-BoxedAt-clause-places : goal.returns-in-BoxedAt-clause-places
returns-in-BoxedAt-clause-places c = lies-in c.args.mem.now c.args.w c.object_look.result c.requires c.object_look.ensures
