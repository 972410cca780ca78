use Rattle.std.proofs.Common.{◌+◌, reverse, sym, ◌∙◌, inl, inr}
use Rattle.term_walk.specs.declared.levels.Rest.TheVariants as rest
use Rattle.term_walk.proofs.Steps.{popped, room-left, Entered, entered-left, entered-goes, entered-ends, cons-goes}
use Rattle.term_walk.proofs.levels.go_on.Goals as goal
use Rattle.term_walk.proofs.levels.go_on.Goals.{in-Some+else-is_full-2, in_default-rest_of}

pub returns-in-Cons : goal.returns-in-Cons
returns-in-Cons g c = record {
  each = λ r shared w now rests standing seen left. cons-goes g.row.N r shared c.args.mem.now (reverse c.args.levels.now.items) (reverse c.push.new.self.items) w now rests c.args.look c.in-Cons.place
      c.get.result (room-left g.row.N c.args.levels.now.items c.requires.most c.if-is_full.ensures.value c.if-is_full.ensures.fits) c.in-Cons.is
      (popped c.push.new.self.items c.args.levels.now.items (rest.Tail (c.in-Cons.place + 1)) c.push.ensures.items) c.get.ensures seen left;
}

pub next_word-requires : goal.next_word-requires
next_word-requires g c =
    let way : Entered c.args.look (reverse c.args.levels.now.items) (reverse c.match-rest_of.levels.items) = elim c.match-rest_of.branch [
      | in-Some+else-is_full-2 w ↦ inl (
        w.in-Some.rest,
        sym c.rest_of.ensures ∙ w.in-Some.is,
        popped c.match-rest_of.levels.items c.args.levels.now.items w.in-Some.rest (cc),
        room-left g.row.N c.args.levels.now.items c.requires.most w.if-is_full-2.ensures.value w.if-is_full-2.ensures.fits,
      )
      | in_default-rest_of w ↦ inr (sym c.rest_of.ensures ∙ w.in_default-rest_of.is, cc, c.in_default.not-Cons)
    ] in
    (search, entered-left c.args.mem.now (reverse c.args.levels.now.items) (reverse c.match-rest_of.levels.items) c.args.look c.requires.go way)

pub returns-in-Some-next_word : goal.returns-in-Some-next_word
returns-in-Some-next_word g c =
    let way : Entered c.args.look (reverse c.args.levels.now.items) (reverse c.match-rest_of.levels.items) = elim c.match-rest_of.branch [
      | in-Some+else-is_full-2 w ↦ inl (
        w.in-Some.rest,
        sym c.rest_of.ensures ∙ w.in-Some.is,
        popped c.match-rest_of.levels.items c.args.levels.now.items w.in-Some.rest (cc),
        room-left g.row.N c.args.levels.now.items c.requires.most w.if-is_full-2.ensures.value w.if-is_full-2.ensures.fits,
      )
      | in_default-rest_of w ↦ inr (sym c.rest_of.ensures ∙ w.in_default-rest_of.is, cc, c.in_default.not-Cons)
    ] in
    record {
      each = λ r shared w now rests standing seen left. entered-goes g.row.N r shared c.args.mem.now (reverse c.args.levels.now.items) (reverse c.match-rest_of.levels.items)
          (reverse c.next_word.new.levels.items) w now rests c.args.look c.in-Some-next_word.word c.requires.go.few way c.in-Some-next_word.ensures seen left;
    }

pub returns-in-None : goal.returns-in-None
returns-in-None g c =
    let way : Entered c.args.look (reverse c.args.levels.now.items) (reverse c.match-rest_of.levels.items) = elim c.match-rest_of.branch [
      | in-Some+else-is_full-2 w ↦ inl (
        w.in-Some.rest,
        sym c.rest_of.ensures ∙ w.in-Some.is,
        popped c.match-rest_of.levels.items c.args.levels.now.items w.in-Some.rest (cc),
        room-left g.row.N c.args.levels.now.items c.requires.most w.if-is_full-2.ensures.value w.if-is_full-2.ensures.fits,
      )
      | in_default-rest_of w ↦ inr (sym c.rest_of.ensures ∙ w.in_default-rest_of.is, cc, c.in_default.not-Cons)
    ] in
    record {
      each = λ r shared w now rests standing seen left. entered-ends g.row.N r shared c.args.mem.now (reverse c.args.levels.now.items) (reverse c.match-rest_of.levels.items)
          (reverse c.next_word.new.levels.items) w now rests c.args.look c.requires.go.few way c.in-None.ensures seen left;
    }
