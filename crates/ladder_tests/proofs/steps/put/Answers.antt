use Rattle.std.proofs.Common.{List, ℕ, sym, subst}
use Rattle.ladder_tests.specs.Bench.{AreGood, IsBench, shared_of}
use Rattle.ladder_tests.proofs.Good.{bench-left, good-rest, good-more, word-good}
use Rattle.ladder_tests.proofs.steps.put.Goals as goal

pub make-made-requires-clause-good : goal.make-made-requires-clause-good
make-made-requires-clause-good c =
    let P : List ℕ → Type 0 = λ x. AreGood (shared_of c.args.rolls.now) c.args.names.now c.args.room.now c.args.mem.now x in
    good-rest (shared_of c.args.rolls.now) c.args.names.now c.args.room.now c.args.mem.now c.as_slice.result.now _ _ (subst P (sym c.as_slice.ensures.value) c.requires.good)

pub returns-then-is_full : goal.returns-then-is_full
returns-then-is_full c =
    bench-left (shared_of c.args.rolls.now) c.args.names.now c.args.room.now c.make-made.new.room c.args.mem.now c.make-made.new.mem c.args.words.now.items _ _
    c.make-made.ensures.place c.make-made.ensures.kept c.requires.good c.truncate.ensures.items

pub returns-in-None : goal.returns-in-None
returns-in-None c =
    bench-left (shared_of c.args.rolls.now) c.args.names.now c.args.room.now c.make-made.new.room c.args.mem.now c.make-made.new.mem c.args.words.now.items _ _
    c.make-made.ensures.place c.make-made.ensures.kept c.requires.good c.truncate.ensures.items

pub returns-in-Some : goal.returns-in-Some
returns-in-Some c =
    let P : List ℕ → Type 0 = λ x. IsBench (shared_of c.args.rolls.now) c.args.names.now c.make-made.new.room c.make-made.new.mem x in
    let left = bench-left (shared_of c.args.rolls.now) c.args.names.now c.args.room.now c.make-made.new.room c.args.mem.now c.make-made.new.mem c.args.words.now.items _ _
    c.make-made.ensures.place c.make-made.ensures.kept c.requires.good c.truncate.ensures.items in
    subst P (sym c.push.ensures.items)
    (record {
      place = c.make-made.ensures.place;
      good = good-more (shared_of c.args.rolls.now) c.args.names.now c.make-made.new.room c.make-made.new.mem _ c.in-Some.word left.good
          (word-good (shared_of c.args.rolls.now) c.args.names.now c.make-made.new.room c.make-made.new.mem c.make-made.result c.in-Some.word c.in-Some.is c.make-made.ensures.good);
    })
