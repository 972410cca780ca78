use Rattle.std.proofs.Common.{◌≡◌, ℕ, ◌+◌, ◌<◌, List, [], ◌∷◌, ◌++◌, replicate, length, sym, ◌∙◌, ap, subst, arith, inr}
use Rattle.std.proofs.lemmas.List.{length-append, length-replicate, length-set}
use Rattle.shared_rec.specs.Record.{count_in}
use Rattle.off_heap_list.proofs.Walked.Tallied.{few-links}
use Rattle.two_halves.specs.Adding.{HasBin}
use Rattle.two_halves.specs.declared.halves.Halves.{Halves}
use Rattle.record_tables.proofs.Coming.{last-bytes}
use Rattle.two_halves.proofs.Coming.Linking.{holder-gets, holder-laid, holder-named}
use Rattle.two_halves.proofs.halves.Halves.add_bin.Goals as goal

pub chain-self-requires-clause-of_record : goal.chain-self-requires-clause-of_record
chain-self-requires-clause-of_record c =
    omega (
      arith,
      holder-named c.holder-w.new.mem c.put_bin-at.new.self.room.top c.args.len c.put_bin-at.result c.holder-w.ensures.words,
      c.put_bin-at.ensures.place,
      c.put_bin-at.ensures.low,
      c.put_bin-at.ensures.adds.same_len,
      c.holder-w.ensures.uses.same_len,
      c.requires.words,
      c.requires.laid.fits,
      c.requires.laid.side,
      c.requires.laid.even,
    )

pub chain-self-requires-clause-count : goal.chain-self-requires-clause-count
chain-self-requires-clause-count c =
    let P : ℕ → Type 0 = λ z. count_in c.holder-w.new.mem z < 16777216 in
    let same : count_in c.holder-w.new.mem c.put_bin-at.result ≡ count_in c.put_bin-at.new.self.mem c.put_bin-at.result =
    c.holder-w.ensures.uses.others (c.put_bin-at.result + 2) (inr (omega (arith, c.put_bin-at.ensures.place, c.put_bin-at.ensures.low, c.put_bin-at.ensures.top, c.requires.words))) in
    subst P (sym (holder-named c.holder-w.new.mem c.put_bin-at.new.self.room.top c.args.len c.put_bin-at.result c.holder-w.ensures.words)) (omega (arith, same, c.put_bin-at.ensures.zero))

pub overflow_add-self : goal.overflow_add-self
overflow_add-self c =
    let x = c.requires.next.stands in
    omega (arith, few-links x.test c.args.self.now.mem x.chained x.links.once x.links.each, c.bounded.ensures, x.linked, c.put_bin-at.ensures.linked)

pub returns-clause-gets : goal.returns-clause-gets
returns-clause-gets c = λ named shared qs x last.
    let h : Halves = c.put_bin-at.new.self in
    let bytes : List ℕ = replicate c.args.len c.args.byte in
    let more : List (List ℕ) = shared ++ bytes ∷ [] in
    let hb : HasBin named h more qs c.put_bin-at.result c.args.serial bytes = c.put_bin-at.ensures.has named shared qs x last in
    holder-gets named h more qs c.put_bin-at.result c.args.serial bytes hb.near hb.is (omega (arith, last)) (omega (arith, last, length-append shared (bytes ∷ [])))
    (last-bytes shared bytes c.args.serial last) c.args.len (length-replicate {A = ℕ} c.args.len c.args.byte) c.put_bin-at.ensures.adds.laid
    (omega (arith, c.requires.words, c.put_bin-at.ensures.top, c.put_bin-at.ensures.low))
    c.holder-w.new.room c.holder-w.new.mem c.holder-w.ensures.uses c.holder-w.result c.holder-w.ensures.place c.holder-w.ensures.words
    c.chain-self.new.mem c.chain-self.result c.chain-self.ensures.writes c.holder-w.ensures.built c.chain-self.ensures.links

pub returns-clause-adds : goal.returns-clause-adds
returns-clause-adds c =
    let n = c.requires.next in
    let h : Halves = c.put_bin-at.new.self in
    let bytes : List ℕ = replicate c.args.len c.args.byte in
    let more : List (List ℕ) = n.shared ++ bytes ∷ [] in
    let hb : HasBin n.named h more n.processes c.put_bin-at.result c.args.serial bytes = c.put_bin-at.ensures.has n.named n.shared n.processes n.stands n.last in
    let a = c.put_bin-at.ensures.adds in
    record {
      laid = holder-laid n.named h more n.processes c.put_bin-at.result c.args.serial bytes hb.near hb.is (omega (arith, n.last)) (omega (arith, n.last, length-append n.shared (bytes ∷ [])))
          (last-bytes n.shared bytes c.args.serial n.last) c.args.len (length-replicate {A = ℕ} c.args.len c.args.byte) a.laid
          (omega (arith, c.requires.words, c.put_bin-at.ensures.top, c.put_bin-at.ensures.low))
          c.holder-w.new.room c.holder-w.new.mem c.holder-w.ensures.uses c.holder-w.result c.holder-w.ensures.place c.holder-w.ensures.words
          c.chain-self.new.mem c.chain-self.result c.chain-self.ensures.writes;
      same_len = ap length c.chain-self.ensures.writes ∙ length-set _ _ _ ∙ length-set _ _ _ ∙ c.holder-w.ensures.uses.same_len ∙ a.same_len;
      base = a.base;
      procs = a.procs;
      bins = a.bins;
      funs = a.funs;
      sweeps = a.sweeps;
    }

pub returns-clause-uses : goal.returns-clause-uses
returns-clause-uses c =
    omega (arith, c.put_bin-at.ensures.top, c.put_bin-at.ensures.low, c.holder-w.ensures.uses.moved, c.requires.words)
