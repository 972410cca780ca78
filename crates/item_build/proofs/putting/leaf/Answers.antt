use Rattle.std.proofs.Common.{IfSome, length, refl, sym, subst}
use Rattle.plain_term.specs.declared.item.Item.{Item}
use Rattle.term_words.proofs.ByKind.Makes.{stands-atom, stands-nil, stands-pid}
use Rattle.item_build.specs.Building.{FitsWord, IsLeaf}
use Rattle.item_build.proofs.Turned.Makes.{int-kept, leaf-small}
use Rattle.item_build.proofs.putting.leaf.Goals as goal

pub returns-in-Int-clause-word : goal.returns-in-Int-clause-word
returns-in-Int-clause-word c =
    let F : Item → Type 0 = λ x. FitsWord (length c.args.held.now) x in
    let P : Item → Type 0 = λ x. IfSome c.small_integer.result (λ w. IsLeaf c.args.held.now x w) in
    subst P (sym c.in-Int.is) (leaf-small c.args.held.now c.in-Int.i _ c.small_integer.result (int-kept c.in-Int.i (subst F c.in-Int.is c.requires)) c.small_integer.ensures.word)

pub returns-in-Atom-clause-word : goal.returns-in-Atom-clause-word
returns-in-Atom-clause-word c =
    let F : Item → Type 0 = λ x. FitsWord (length c.args.held.now) x in
    let P : Item → Type 0 = λ x. IsLeaf c.args.held.now x c.atom.result in
    subst P (sym c.in-Atom.is) (record {
      parts = refl;
      term = refl;
      small = λ shared ms. refl;
      stands = λ k names shared mem trees xs held. stands-atom k shared mem c.atom.result c.in-Atom.k (subst F c.in-Atom.is c.requires) c.atom.ensures;
    })

pub returns-in-Pid-clause-word : goal.returns-in-Pid-clause-word
returns-in-Pid-clause-word c =
    let F : Item → Type 0 = λ x. FitsWord (length c.args.held.now) x in
    let P : Item → Type 0 = λ x. IsLeaf c.args.held.now x c.pid.result in
    subst P (sym c.in-Pid.is) (record {
      parts = refl;
      term = refl;
      small = λ shared ms. refl;
      stands = λ k names shared mem trees xs held. stands-pid k shared mem c.pid.result c.in-Pid.n (subst F c.in-Pid.is c.requires) c.pid.ensures;
    })

pub returns-in-Nil-clause-word : goal.returns-in-Nil-clause-word
returns-in-Nil-clause-word c =
    let P : Item → Type 0 = λ x. IsLeaf c.args.held.now x c.nil.result in
    subst P (sym c.in-Nil.is) (record {
      parts = refl;
      term = refl;
      small = λ shared ms. refl;
      stands = λ k names shared mem trees xs held. stands-nil k shared mem c.nil.result c.nil.ensures;
    })
