use Rattle.std.proofs.Common.{◌≡◌, ℕ, ◌+◌, ◌<◌, ◌≤◌, ◌⊎◌, Bool, List, ◌∷◌, sym, ◌∙◌, ap, subst, arith, refl}
use Rattle.plain_term.specs.Tree.Tree.{Shared}
use Rattle.term_words.specs.Role.{COUNT}
use Rattle.term_words.specs.Stands.{Stands}
use Rattle.shared_rec.specs.Record.{count_in}
use Rattle.off_heap_list.specs.Links.{Links, named}
use Rattle.item_build.proofs.Laid.Laying.{free-front, held-bin, held-others, named-rec}
use Rattle.item_build.proofs.bins.lay_holder.Goals as goal

pub chain-making-requires-clause-of_record : goal.chain-making-requires-clause-of_record
chain-making-requires-clause-of_record c =
    omega (
      arith,
      named-rec c.holder.new.mem c.args.room.now.top c.len_of-n.result c.args.rec c.holder.ensures.words,
      (c.requires.records.waiting.each 0 (omega arith)).standing.within,
      c.holder.ensures.uses.same_len,
    )

pub chain-making-requires-clause-count : goal.chain-making-requires-clause-count
chain-making-requires-clause-count c =
    let r = c.requires.records in
    let w = r.waiting.each 0 (omega arith) in
    let name : named c.holder.new.mem c.args.room.now.top ≡ c.args.rec = named-rec c.holder.new.mem c.args.room.now.top c.len_of-n.result c.args.rec c.holder.ensures.words in
    let off : (c.args.rec + 2 < c.args.room.now.top) ⊎ (c.args.room.now.top + 6 ≤ c.args.rec + 2) =
    free-front r.test c.args.room.now.top c.args.room.now.end r.free c.requires.words (c.args.rec + 2) COUNT w.standing.counted in
    let zero_count : count_in c.holder.new.mem c.args.rec ≡ 0 = c.holder.ensures.uses.others (c.args.rec + 2) off ∙ w.count in
    omega (arith, ap (λ v. count_in c.holder.new.mem v) name, zero_count)

pub returns-clause-laid : goal.returns-clause-laid
returns-clause-laid c = λ k shared free waiting.
    let w = waiting.each 0 (omega arith) in
    let L : (d : ℕ → ℕ → Bool) (os further : List ℕ) → ℕ → Type 0 = λ d os further h. Links d c.chain-making.new.mem h (c.args.room.now.top ∷ os) further in
    held-bin k shared c.args.room.now.top c.len_of-n.result c.args.rec c.args.making.now.serial c.args.making.now.head c.args.mem.now c.holder.new.mem c.chain-making.new.mem
    (free-front k c.args.room.now.top c.args.room.now.end free c.requires.words)
    c.requires.somewhere
    (record { from_one = omega arith; known = waiting.known; size = sym (c.len_of-n.ensures.bytes k _ _ w.standing); record_is = w.standing })
    w.count
    w.idle
    c.holder.ensures.uses.same_len
    c.holder.ensures.uses.others
    c.holder.ensures.words
    (λ d t.
    let P : ℕ → Type 0 = λ x. Stands d shared c.holder.new.mem x (Shared (c.args.making.now.serial + 1)) in
    subst P c.holder.ensures.place (c.holder.ensures.made k d shared (c.args.making.now.serial + 1) t
    (record { from_one = omega arith; known = waiting.known; size = sym (c.len_of-n.ensures.bytes k _ _ w.standing); record_is = w.standing })))
    c.chain-making.ensures.writes
    c.chain-making.ensures.kept
    (λ d os further single l link fresh. subst (L d os further) c.chain-making.ensures.head (c.chain-making.ensures.links d os further single l link fresh))
    c.holder.new.room.top c.args.making.now
    (record { serial = c.args.making.now.serial + 1; head = c.chain-making.result })
    c.holder.ensures.uses.moved
    refl
    refl
    c.chain-making.ensures.head

pub returns-clause-others : goal.returns-clause-others
returns-clause-others c = λ q apart not_count.
    let r = c.requires.records in
    let w = r.waiting.each 0 (omega arith) in
    held-others r.test r.shared c.args.room.now.top c.len_of-n.result c.args.rec c.args.making.now.serial c.args.making.now.head c.args.mem.now c.holder.new.mem c.chain-making.new.mem
    (free-front r.test c.args.room.now.top c.args.room.now.end r.free c.requires.words)
    c.requires.somewhere
    (record { from_one = omega arith; known = r.waiting.known; size = sym (c.len_of-n.ensures.bytes r.test _ _ w.standing); record_is = w.standing })
    w.count
    w.idle
    c.holder.ensures.uses.same_len
    c.holder.ensures.uses.others
    c.holder.ensures.words
    (λ d t.
    let P : ℕ → Type 0 = λ x. Stands d r.shared c.holder.new.mem x (Shared (c.args.making.now.serial + 1)) in
    subst P c.holder.ensures.place (c.holder.ensures.made r.test d r.shared (c.args.making.now.serial + 1) t
    (record { from_one = omega arith; known = r.waiting.known; size = sym (c.len_of-n.ensures.bytes r.test _ _ w.standing); record_is = w.standing })))
    c.chain-making.ensures.writes
    c.chain-making.ensures.kept
    (λ d os further single l link fresh.
    let L : ℕ → Type 0 = λ h. Links d c.chain-making.new.mem h (c.args.room.now.top ∷ os) further in
    subst L c.chain-making.ensures.head (c.chain-making.ensures.links d os further single l link fresh))
    q apart not_count
