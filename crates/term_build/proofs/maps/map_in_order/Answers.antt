use Rattle.std.proofs.Common.{◌≡◌, ℕ, ◌+◌, ◌*◌, [], ◌∷◌, length, refl, subst, arith}
use Rattle.term_tags.specs.Words.{boxed_word, head_word}
use Rattle.term_tags.specs.declared.layouts.TheConstants.{TUPLE, MAP}
use Rattle.term_words.specs.Role.{outside}
use Rattle.plain_term.specs.Tree.Tree.{Map}
use Rattle.term_build.specs.Taken.{Lie, of_map}
use Rattle.term_build.proofs.Taking.{map-object, taken-kept}
use Rattle.term_build.proofs.Rooms.{taken-keeps}
use Rattle.term_build.proofs.Putting.{built-by, clear-by, lie-join, map-lies}
use Rattle.term_build.proofs.Objects.{map-made}
use Rattle.term_build.proofs.maps.map_in_order.Goals as goal

pub returns-clause-uses : goal.returns-clause-uses
returns-clause-uses c = (map-lies _ _ _ _ _ _ _ _ _ _ _ _ _ _ _ _ refl c.requires.pairs c.put-keys_at.ensures.uses c.put-keys_at.ensures.words c.put.ensures.uses c.put.ensures.words
    c.put-place.ensures.uses c.put-place.ensures.words c.put-2.ensures.uses c.put-2.ensures.words).0

pub returns-clause-place : goal.returns-clause-place
returns-clause-place c = omega (arith, c.boxed_at-2.ensures, c.put-place.ensures.place, c.put.ensures.uses.moved, c.put-keys_at.ensures.uses.moved)

pub returns-clause-words : goal.returns-clause-words
returns-clause-words c =
    let P : ℕ → Type 0 = λ h. Lie c.put-keys_at.new.mem c.args.room.now.top (h ∷ []) in
    let Q : ℕ → Type 0 = λ h. Lie c.put-place.new.mem c.put.new.room.top (h ∷ length c.args.keys.now ∷ boxed_word c.args.room.now.top ∷ []) in
    let R : ℕ → Type 0 = λ b. Lie c.put-place.new.mem c.put.new.room.top (c.head_of-2.result ∷ length c.args.keys.now ∷ b ∷ []) in
    let named : c.boxed_at.result ≡ boxed_word c.args.room.now.top = omega (arith, c.boxed_at.ensures, c.put-keys_at.ensures.place) in
    let lies = map-lies (length c.args.keys.now) (head_word TUPLE (length c.args.keys.now)) (head_word MAP (length c.args.keys.now + 2)) (boxed_word c.args.room.now.top) _ _ _ _ _ _ _ _ _ _ _ _
    refl c.requires.pairs c.put-keys_at.ensures.uses (subst P c.head_of.ensures c.put-keys_at.ensures.words) c.put.ensures.uses c.put.ensures.words
    c.put-place.ensures.uses (subst Q c.head_of-2.ensures (subst R named c.put-place.ensures.words)) c.put-2.ensures.uses c.put-2.ensures.words in
    lie-join (head_word TUPLE (length c.args.keys.now) ∷ c.args.keys.now) _ c.put-2.new.mem c.args.room.now.top (c.args.room.now.top + (1 + length c.args.keys.now)) (omega arith) lies.1.0 lies.1.1

pub returns-clause-kept : goal.returns-clause-kept
returns-clause-kept c = λ roles k d taken. taken-kept roles k d (4 + 2 * length c.args.keys.now) _ _ _ _ (returns-clause-uses c) taken

pub returns-clause-made : goal.returns-clause-made
returns-clause-made c = λ k d shared ps taken ks vs.
    map-made k d c.args.room.now.top (length c.args.keys.now) c.args.mem.now c.put-2.new.mem c.args.keys.now c.args.values.now c.boxed_at-2.result refl c.requires.pairs c.requires.few
    (returns-clause-place c) (omega (arith, c.requires.words, c.requires.places.inside, (returns-clause-uses c).same_len)) (returns-clause-words c) taken
    (returns-clause-kept c (of_map (length c.args.keys.now)) k d taken) shared ps ks vs

pub returns-clause-built : goal.returns-clause-built
returns-clause-built c = λ k shared ps free ks vs.
    built-by (of_map (length c.args.keys.now)) k (4 + 2 * length c.args.keys.now) _ _ _ _ shared _ (Map ps) (map-object (length c.args.keys.now)) free (returns-clause-uses c)
    (λ d taken. returns-clause-made c k d shared ps taken ks vs)

pub returns-clause-made_clear : goal.returns-clause-made_clear
returns-clause-made_clear c = λ shared ps ks vs.
    clear-by (of_map (length c.args.keys.now)) (4 + 2 * length c.args.keys.now) _ _ _ _ shared _ (Map ps) c.requires.words (returns-clause-uses c)
    (λ d taken. returns-clause-made c (outside c.args.room.now.top c.args.room.now.end) d shared ps taken ks vs)

pub returns-clause-kept_clear : goal.returns-clause-kept_clear
returns-clause-kept_clear c = taken-keeps (4 + 2 * length c.args.keys.now) _ _ _ _ c.requires.words (returns-clause-uses c)
