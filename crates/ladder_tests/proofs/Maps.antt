-- Maps that are made of good words.
use Rattle.std.proofs.Common.{◌≡◌, ℕ, ◌+◌, ◌*◌, ◌≤◌, Bool, true, false, ◌&&◌, if◌then◌else◌, nat_lt, List, [], ◌∷◌, length, refl, sym, subst, arith, Some, None, Result, Ok, Err, IfOk, OnErr}
use Rattle.std.specs.Result.{result_ok}
use Rattle.std.proofs.lemmas.Bool.Decides.{nat_tests}
use Rattle.word_mem.specs.declared.ranges.Room.{Room}
use Rattle.plain_term.specs.Tree.{Tree, Pairs, pairs_len}
use Rattle.plain_term.specs.Tree.Tree.{Map}
use Rattle.plain_term.specs.Tree.Pairs.{stop, pair}
use Rattle.plain_term.specs.InOrder.{in_order}
use Rattle.term_words.specs.Role.{always, outside}
use Rattle.term_words.specs.Kept.{Keeps}
use Rattle.term_words.proofs.Framing.Rooms.{weaken}
use Rattle.term_build.specs.Clear.{Clear, KeepsClear, IsRoom}
use Rattle.term_build.proofs.Rooms.{room-after}
use Rattle.term_order.specs.Named.{pairs_named}
use Rattle.term_maps.specs.Stops.{has_beyond, why_not}
use Rattle.term_maps.specs.Given.{PairsStand, CanMap, MapIsMade}
use Rattle.term_maps.specs.declared.maps.MapStop.{MapStop}
use Rattle.term_maps.specs.declared.maps.MapStop.TheVariants as why
use Rattle.term_maps.proofs.Named.{in-order-named}
use Rattle.ladder_tests.specs.Bench.{ArePairs, Makes}
use Rattle.ladder_tests.proofs.Good.{pairs-good}

pairs-kept : (c d : ℕ → ℕ → Bool) (shared : List (List ℕ)) (mem : List ℕ) (words : List (ℕ × ℕ)) (ps : Pairs) → Keeps c d mem mem → PairsStand c shared mem words ps → PairsStand d shared mem words ps
unfolding PairsStand
pairs-kept c d shared mem [] stop k s = tt
pairs-kept c d shared mem (p ∷ words) (pair a b ps) k s = ((k.each shared p.0 a s.0.0, k.each shared p.1 b s.0.1), pairs-kept c d shared mem words ps k s.1)
pairs-kept c d shared mem [] (pair a b ps) k s = absurd s
pairs-kept c d shared mem (p ∷ words) stop k s = absurd s

-- A map can be asked for.
pub can-map : (shared names : List (List ℕ)) (room : Room) (mem : List ℕ) (words : List (ℕ × ℕ)) → room.top + 68 ≤ room.end → ArePairs shared names room mem words
    → CanMap names room mem words
can-map shared names room mem words spare all =
    let g = pairs-good shared names room mem words all in
    record {
      shared = shared;
      given = g.given;
      standing = pairs-kept (outside room.top room.end) always shared mem words g.given (weaken (outside room.top room.end) always mem (λ a k h. refl)) g.clear;
      named = g.named;
      fits = λ few. omega (arith, few, spare);
    }

-- Where nothing is in the way there are 32 keys at most.
no-size : (a b : Bool) → (if a then Some why.Big else (if b then Some why.Size else None)) ≡ None → b ≡ false
no-size true b h = absurd (cc h)
no-size false true h = absurd (cc h)
no-size false false h = refl

few-keys : (names shared : List (List ℕ)) (given : Pairs) → why_not names shared given ≡ None → pairs_len (in_order names shared given) ≤ 32
few-keys names shared given h =
    let least : nat_lt 32 (pairs_len (in_order names shared given)) ≡ false = no-size (has_beyond shared given) (nat_lt 32 (pairs_len (in_order names shared given))) h in
    at-most (pairs_len (in_order names shared given)) least
  where
    at-most : (n : ℕ) → nat_lt 32 n ≡ false → n ≤ 32
    at-most n e = grind (arith, nat_tests)

-- What is made by a call for a map, or nothing.
pub map-made : (shared names : List (List ℕ)) (given : Pairs) (old new : Room) (mem mem2 : List ℕ) (r : Result ℕ MapStop) → IsRoom old mem → old.top + 68 ≤ old.end
    → pairs_named (length names) given ≡ true → OnErr r ((new ≡ old) × (mem2 ≡ mem)) → IfOk r (λ w. MapIsMade (outside old.top old.end) names shared given old new mem mem2 w)
    → IfOk r (λ w. Clear new shared mem2 w (Map (in_order names shared given))) → KeepsClear old new mem mem2 → Makes shared names old new mem mem2 (result_ok r)
map-made shared names given old new mem mem2 (Ok w) place spare named stopped made clear kept = record {
  place = room-after (4 + 2 * pairs_len (in_order names shared given)) old new mem mem2 made.uses place (omega (arith, spare, few-keys names shared given made.none));
  kept = kept;
  good = record { tree = Map (in_order names shared given); clear = clear; named = in-order-named names shared (length names) given named };
}
map-made shared names given old new mem mem2 (Err e) place spare named stopped made clear kept = record {
  place =
      let P : Room → Type 0 = λ x. IsRoom x mem2 in
      let Q : List ℕ → Type 0 = λ x. IsRoom old x in
      subst P (sym stopped.0) (subst Q (sym stopped.1) place);
  kept = kept;
  good = tt;
}
