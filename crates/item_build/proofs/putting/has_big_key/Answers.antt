use Rattle.std.proofs.Common.{◌≡◌, ℕ, suc, ◌+◌, ◌*◌, true, false, List, ◌∷◌, drop, Option, refl, sym, ◌∙◌, ap, arith}
use Rattle.std.proofs.lemmas.List.{length-drop}
use Rattle.plain_term.specs.Tree.{Tree}
use Rattle.term_words.specs.Role.{always}
use Rattle.item_build.specs.Reading.{has_big_key as has_big, is_big_key}
use Rattle.item_build.proofs.Turned.Marks.{few-small, marks-length, two-at}
use Rattle.item_build.proofs.putting.has_big_key.Goals as goal

next-place : (i : ℕ) → suc (suc (2 * i)) ≡ 2 * (i + 1)
next-place i = omega arith

-- A key that is big is one of all, and another is not.

now-big : (shared : List (List ℕ)) (k v : Option Tree) (ms rest : List (Option Tree)) → ms ≡ k ∷ v ∷ rest → is_big_key shared k ≡ true → has_big shared ms ≡ true
now-big shared k v ms rest left e = ap (has_big shared) left ∙ rw e refl

later-big : (shared : List (List ℕ)) (k v : Option Tree) (ms rest : List (Option Tree)) → ms ≡ k ∷ v ∷ rest → is_big_key shared k ≡ false → has_big shared ms ≡ has_big shared rest
later-big shared k v ms rest left e = ap (has_big shared) left ∙ rw e refl

pub is_big_key-requires : goal.is_big_key-requires
is_big_key-requires c =
    let two = two-at always c.requires.shared c.args.mem.now c.args.row.now c.requires.marks c.loop-i.i (2 * c.loop-i.i) refl (omega (arith, c.loop-i-test.true)) c.requires.standing in
    record { shared = c.requires.shared; mark = two.key; standing = two.standing }

pub returns-then-is_big_key : goal.returns-then-is_big_key
returns-then-is_big_key c = λ k shared ms all.
    let two = two-at k shared c.args.mem.now c.args.row.now ms c.loop-i.i (2 * c.loop-i.i) refl (omega (arith, c.loop-i-test.true)) all in
    sym (c.loop-i.invariant.left k shared ms all ∙ now-big shared two.key two.value (drop (2 * c.loop-i.i) ms) (drop (suc (suc (2 * c.loop-i.i))) ms) two.left
    (sym (c.is_big_key.ensures k shared two.key two.standing) ∙ c.if-is_big_key.true))

pub loop-i-preserved : goal.loop-i-preserved
loop-i-preserved c = record {
  left = λ k shared ms all.
      let two = two-at k shared c.args.mem.now c.args.row.now ms c.loop-i.i (2 * c.loop-i.i) refl (omega (arith, c.loop-i-test.true)) all in
      c.loop-i.invariant.left k shared ms all
      ∙ later-big shared two.key two.value (drop (2 * c.loop-i.i) ms) (drop (suc (suc (2 * c.loop-i.i))) ms) two.left (sym (c.is_big_key.ensures k shared two.key two.standing) ∙ c.if-is_big_key.false)
      ∙ ap (λ x. has_big shared (drop x ms)) (next-place c.loop-i.i);
}

pub returns : goal.returns
returns c = λ k shared ms all.
    sym (c.loop-i.invariant.left k shared ms all
    ∙ few-small shared (drop (2 * c.loop-i.i) ms)
    (omega (arith, length-drop (2 * c.loop-i.i) ms, marks-length k shared c.args.mem.now c.args.row.now ms all, c.loop-i-test.false)))
