use Rattle.std.proofs.Common.{◌≡◌, ℕ, ◌+◌, ◌<◌, ◌≤◌, List, length, refl, sym, ◌∙◌, ap, subst, arith, inr}
use Rattle.std.proofs.lemmas.List.{length-set}
use Rattle.term_tags.specs.Words.{pid_word}
use Rattle.shared_rec.specs.Record.{count_in}
use Rattle.off_heap_list.proofs.Walked.Tallied.{few-links}
use Rattle.two_halves.specs.Adding.{HasFun}
use Rattle.two_halves.specs.declared.halves.Halves.{Halves}
use Rattle.record_tables.proofs.Linking.{few-named}
use Rattle.two_halves.proofs.Coming.Linking.{fun-gets, fun-laid, fun-named, near-low}
use Rattle.two_halves.proofs.halves.Halves.add_fun.Goals as goal

pub chain-self-requires-clause-of_record : goal.chain-self-requires-clause-of_record
chain-self-requires-clause-of_record c =
    let has = c.fun_record-rec.ensures.has c.requires.named.named c.requires.named.shared c.requires.named.processes c.requires.named.stands c.requires.named.above in
    omega (
      arith,
      fun-named c.fun_thing-w.new.mem c.fun_record-rec.new.self.room.top (length c.args.env.now) c.fun_record-rec.result _
          c.fun_thing-w.ensures.words,
      has.is.within,
      c.fun_thing-w.ensures.uses.same_len,
    )

pub chain-self-requires-clause-count : goal.chain-self-requires-clause-count
chain-self-requires-clause-count c =
    let has = c.fun_record-rec.ensures.has c.requires.named.named c.requires.named.shared c.requires.named.processes c.requires.named.stands c.requires.named.above in
    let h : Halves = c.fun_record-rec.new.self in
    let v : ℕ = c.fun_record-rec.result in
    let P : ℕ → Type 0 = λ z. count_in c.fun_thing-w.new.mem z < 16777216 in
    let above : h.room.end ≤ v = near-low c.requires.named.named h c.requires.named.shared c.requires.named.processes v has.near v 4 (inr (c.args.name, c.args.arity, has.is, refl)) in
    let same : count_in c.fun_thing-w.new.mem v ≡ count_in h.mem v =
    c.fun_thing-w.ensures.uses.others (v + 2) (inr (omega (arith, above, c.fun_record-rec.ensures.top, c.fun_record-rec.ensures.low, c.requires.words))) in
    subst P (sym (fun-named c.fun_thing-w.new.mem c.fun_record-rec.new.self.room.top (length c.args.env.now) v _ c.fun_thing-w.ensures.words))
    (omega (
      arith,
      same,
      few-named has.near.test h.mem h.head has.near.chained has.near.links v 4 (inr (c.args.name, c.args.arity, has.is, refl))
          (omega (arith, c.bounded.ensures, c.fun_record-rec.ensures.adds.same_len)),
    ))

pub overflow_add-self : goal.overflow_add-self
overflow_add-self c =
    let x = c.requires.named.stands in
    omega (arith, few-links x.test c.args.self.now.mem x.chained x.links.once x.links.each, c.bounded.ensures, x.linked, c.fun_record-rec.ensures.linked)

pub returns-clause-gets : goal.returns-clause-gets
returns-clause-gets c = λ named shared qs x ts small all.
    let h : Halves = c.fun_record-rec.new.self in
    let v : ℕ = c.fun_record-rec.result in
    let mem3 : List ℕ = c.fun_thing-w.new.mem in
    let hf : HasFun named c.args.self.now h shared qs v c.args.name c.args.arity x.test = c.fun_record-rec.ensures.has named shared qs x small in
    fun-gets named c.args.self.now h shared qs v c.args.name c.args.arity c.args.creator x.test hf c.fun_record-rec.ensures.adds.laid c.args.env.now
    (omega (arith, c.requires.words, c.fun_record-rec.ensures.top, c.fun_record-rec.ensures.low)) c.fun_thing-w.new.room mem3 c.fun_thing-w.ensures.uses
    c.fun_thing-w.result c.fun_thing-w.ensures.place (pid_word c.args.creator) c.fun_thing-w.ensures.words
    c.chain-self.new.mem c.chain-self.result c.chain-self.ensures.writes ts all c.fun_thing-w.ensures.built c.chain-self.ensures.links

pub returns-clause-adds : goal.returns-clause-adds
returns-clause-adds c =
    let has = c.fun_record-rec.ensures.has c.requires.named.named c.requires.named.shared c.requires.named.processes c.requires.named.stands c.requires.named.above in
    let h : Halves = c.fun_record-rec.new.self in
    let a = c.fun_record-rec.ensures.adds in
    record {
      laid = fun-laid c.requires.named.named c.args.self.now h c.requires.named.shared c.requires.named.processes c.fun_record-rec.result c.args.name c.args.arity c.args.creator _ has
          a.laid c.args.env.now
          (omega (arith, c.requires.words, c.fun_record-rec.ensures.top, c.fun_record-rec.ensures.low)) c.fun_thing-w.new.room c.fun_thing-w.new.mem c.fun_thing-w.ensures.uses
          c.fun_thing-w.result c.fun_thing-w.ensures.place (pid_word c.args.creator) c.fun_thing-w.ensures.words c.chain-self.new.mem c.chain-self.result c.chain-self.ensures.writes;
      same_len = ap length c.chain-self.ensures.writes ∙ length-set _ _ _ ∙ length-set _ _ _ ∙ c.fun_thing-w.ensures.uses.same_len ∙ a.same_len;
      base = a.base;
      procs = a.procs;
      bins = a.bins;
      funs = a.funs;
      sweeps = a.sweeps;
    }

pub returns-clause-uses : goal.returns-clause-uses
returns-clause-uses c =
    omega (arith, c.fun_record-rec.ensures.top, c.fun_record-rec.ensures.low, c.fun_thing-w.ensures.uses.moved, c.requires.words)
