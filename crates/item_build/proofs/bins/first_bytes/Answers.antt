use Rattle.std.proofs.Common.{◌≡◌, ℕ, suc, ◌+◌, ◌∷◌, ◌++◌, [], set, take, sym, ◌∙◌, ap, subst, arith, pos, length-set}
use Rattle.plain_term.specs.declared.item.Item.TheVariants.{Int}
use Rattle.item_build.specs.Reading.{bytes_in}
use Rattle.item_build.proofs.Meaning.Bytes.{bytes-step, take-step}
use Rattle.item_build.proofs.bins.first_bytes.Goals as goal

pub loop-i-preserved : goal.loop-i-preserved
loop-i-preserved c =
    let next : suc c.loop-i.i ≡ c.loop-i.i + 1 = omega arith in
    let P : ℕ → Type 0 = λ k. take k (set c.loop-i.row c.loop-i.i c.byte.result) ≡ bytes_in k c.args.bytes.now in record {
      len = length-set c.loop-i.row c.loop-i.i c.byte.result ∙ c.loop-i.invariant.len;
      same = subst P next (take-step c.loop-i.i c.loop-i.row c.byte.result (omega (arith, c.loop-i.invariant.len, c.loop-i-test.true, c.requires.few))
          ∙ ap (λ z. z ++ c.byte.result ∷ []) c.loop-i.invariant.same
          ∙ ap (λ z. bytes_in c.loop-i.i c.args.bytes.now ++ z ∷ []) c.byte.ensures
          ∙ sym (bytes-step c.loop-i.i c.args.bytes.now (Int (pos 0)) (omega (arith, c.loop-i-test.true, c.requires.inside))));
    }
