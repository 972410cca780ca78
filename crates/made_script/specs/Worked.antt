-- Lines of a made script, worked out.
use Rattle.std.specs.Prelude.{ℕ, ◌≡◌, List, [], ◌∷◌, codes, refl, take, drop}
use Rattle.std.specs.Fmt.{digits}
use Rattle.made_script.specs.Draws.{draw}
use Rattle.made_script.specs.Lines.{line_of}
use Rattle.made_script.specs.Script.{generator_of, lines_from}

-- The number 1 draws these lines first.
pub lines-of-one : lines_from 4 (generator_of 1)
    ≡ codes "2 set 4 #{k=>638,n=>$7}" ∷ codes "2 set 6 {pair,$3}" ∷ codes "2 set 11 [996,a,b]" ∷ codes "1 lit 12 base 1" ∷ []
unfolding lines_from generator_of draw line_of digits
lines-of-one = refl

-- The greatest number that there is draws these.
pub lines-of-greatest : lines_from 3 (generator_of 18446744073709551615)
    ≡ codes "2 print 6" ∷ codes "6 elem 9 2 7" ∷ codes "7 pop 0" ∷ []
unfolding lines_from generator_of draw line_of digits
lines-of-greatest = refl
