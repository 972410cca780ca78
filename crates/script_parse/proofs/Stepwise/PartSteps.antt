-- One step of reading parts.
use Rattle.std.proofs.Common.{◌≡◌, ℕ, ◌+◌, List, Option, Some, None, refl, add-one}
use Rattle.script_parse.specs.Output.{Out}
use Rattle.script_parse.specs.Reading.{after_blanks, byte_at, parts_run}

module _ (part : List ℕ → Out → Option (List ℕ × Out)) (left k : ℕ) (line : List ℕ) (n : ℕ) (o : Out) (e : k ≡ left + 1) where
  pub parts-last : (rest : List ℕ) (p : Out) → part line o ≡ Some (rest, p) → byte_at 44 (after_blanks rest) ≡ None → parts_run part k line n o ≡ Some (rest, (n + 1, p))
  parts-last rest p h g = rw (e, add-one left, h, g) refl

  pub parts-more : (rest bytes : List ℕ) (p : Out) → part line o ≡ Some (rest, p) → byte_at 44 (after_blanks rest) ≡ Some bytes → parts_run part k line n o ≡ parts_run part left bytes (n + 1) p
  parts-more rest bytes p h g = rw (e, add-one left, h, g) refl
