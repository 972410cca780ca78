use Rattle.std.proofs.Common.{◌≡◌, false, ap, ◌∙◌, arith}
use Rattle.std.specs.Int.{w128}
use Rattle.std.proofs.lemmas.Int.{to_z-of_z}
use Rattle.std.proofs.lemmas.Bool.Decides.{nat_tests}
use Rattle.std.proofs.lemmas.Grind.{common_steps}
use Rattle.plain_term.specs.Measures.{is_small}
use Rattle.term_words.specs.Object.{sign_tag}
use Rattle.term_build.proofs.Objects.{magnitude-is, never-small, one-digit, two-digits, one-put, two-put}
use Rattle.term_build.proofs.integers.put_integer.Goals as goal

pub put-requires : goal.put-requires
put-requires c =
    let big : is_small c.args.i ≡ false = grind (arith, common_steps) in
    let digits = magnitude-is c.args.i _ _ (to_z-of_z w128 c.args.i c.ranges.i) c.unsigned_abs-digits.ensures.value in
    record { places = c.requires.places; words = omega (arith, (one-digit c.args.i big (grind (arith, nat_tests, digits, c.if-high-eq0.true))).1, c.requires.words) }

pub put-requires-else-high-eq0 : goal.put-requires-else-high-eq0
put-requires-else-high-eq0 c =
    let big : is_small c.args.i ≡ false = grind (arith, common_steps) in
    let digits = magnitude-is c.args.i _ _ (to_z-of_z w128 c.args.i c.ranges.i) c.unsigned_abs-digits.ensures.value in
    record { places = c.requires.places; words = omega (arith, (two-digits c.args.i big (grind (arith, nat_tests, digits, c.if-high-eq0.false))).1, c.requires.words) }

pub returns-then-high-eq0 : goal.returns-then-high-eq0
returns-then-high-eq0 c =
    let big : is_small c.args.i ≡ false = grind (arith, common_steps) in
    let same = to_z-of_z w128 c.args.i c.ranges.i in
    let digits = magnitude-is c.args.i _ _ same c.unsigned_abs-digits.ensures.value in
    let tag = c.sign_tag-tag.ensures ∙ ap sign_tag same in
    let put = one-put c.args.i _ _ _ _ _ _ _ big (grind (arith, digits, c.if-high-eq0.true)) tag c.head_of.ensures (omega (arith, digits, c.if-high-eq0.true)) c.put.ensures.uses c.put.ensures.words in
    record { uses = put.0; small = never-small c.args.i _ big; place = λ e. omega (arith, c.boxed_at.ensures, c.put.ensures.place); words = put.1 }

pub returns-else-high-eq0 : goal.returns-else-high-eq0
returns-else-high-eq0 c =
    let big : is_small c.args.i ≡ false = grind (arith, common_steps) in
    let same = to_z-of_z w128 c.args.i c.ranges.i in
    let digits = magnitude-is c.args.i _ _ same c.unsigned_abs-digits.ensures.value in
    let tag = c.sign_tag-tag.ensures ∙ ap sign_tag same in
    let put = two-put c.args.i _ _ _ _ _ _ _ _ big (grind (arith, nat_tests, digits, c.if-high-eq0.false)) tag c.head_of-else-high-eq0.ensures (omega (arith, digits)) (omega (arith, digits))
    c.put-else-high-eq0.ensures.uses c.put-else-high-eq0.ensures.words in
    record { uses = put.0; small = never-small c.args.i _ big; place = λ e. omega (arith, c.boxed_at-else-high-eq0.ensures, c.put-else-high-eq0.ensures.place); words = put.1 }
