use Rattle.std.proofs.Common.{◌≡◌, ℕ, ◌*◌, subst, refl, arith}
use Rattle.plain_term.specs.Tree.Tree.{Nil}
use Rattle.plain_machine.specs.Made.{list_tree}
use Rattle.plain_term.specs.Tree.{same_trees}
use Rattle.term_build.specs.Clear.{Uses}
use Rattle.term_build.specs.Grows.{Built}
use Rattle.term_build.proofs.Rooms.{room-after, uses-none}
use Rattle.term_verbs.proofs.Listing.{list-begins, list-goes, uses-more}
use Rattle.term_verbs.proofs.many.same_list.Goals as goal

pub loop-i-init : goal.loop-i-init
loop-i-init c = record {
  uses = uses-none c.args.room.now c.args.mem.now;
  built = λ k shared t free s. list-begins k shared c.args.mem.now c.args.room.now.top 0 c.nil-list.result t refl c.nil-list.ensures;
}

pub cons-list-requires-clause-places : goal.cons-list-requires-clause-places
cons-list-requires-clause-places c =
    room-after (2 * c.loop-i.i) c.args.room.now c.loop-i.room c.args.mem.now c.loop-i.mem c.loop-i.invariant.uses c.requires.places (omega (arith, c.requires.words, c.loop-i-test.true))

pub cons-list-requires-clause-words : goal.cons-list-requires-clause-words
cons-list-requires-clause-words c = omega (arith, c.loop-i.invariant.uses.moved, c.loop-i.invariant.uses.same_end, c.requires.words, c.loop-i-test.true)

pub loop-i-preserved : goal.loop-i-preserved
loop-i-preserved c = record {
  uses = uses-more c.loop-i.i c.args.room.now c.loop-i.room c.cons-list.new.room c.args.mem.now c.loop-i.mem c.cons-list.new.mem c.loop-i.invariant.uses c.cons-list.ensures.uses;
  built = λ k shared t free s.
      list-goes k shared c.args.mem.now c.loop-i.mem c.cons-list.new.mem c.args.room.now.top c.args.n c.loop-i.i c.args.w c.loop-i.list c.cons-list.result c.args.room.now c.loop-i.room t free
      c.loop-i-test.true c.loop-i.invariant.uses refl s (c.loop-i.invariant.built k shared t free s) (λ d a b f x y. c.cons-list.ensures.built d shared a b f x y);
}

pub returns-clause-uses : goal.returns-clause-uses
returns-clause-uses c =
    let all : c.loop-i.i ≡ c.args.n = omega (arith, c.loop-i.auto.i-end, c.loop-i-test.false) in
    let P : ℕ → Type 0 = λ n. Uses (2 * n) c.args.room.now c.loop-i.room c.args.mem.now c.loop-i.mem in
    subst P all c.loop-i.invariant.uses

pub returns-clause-built : goal.returns-clause-built
returns-clause-built c = λ k shared t free s.
    let all : c.loop-i.i ≡ c.args.n = omega (arith, c.loop-i.auto.i-end, c.loop-i-test.false) in
    let P : ℕ → Type 0 = λ n. Built k c.args.room.now.top (2 * n) c.args.mem.now c.loop-i.mem shared c.loop-i.list (list_tree (same_trees n t) Nil) in
    subst P all (c.loop-i.invariant.built k shared t free s)
