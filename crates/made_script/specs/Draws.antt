-- What a line draws from the generator.
use Rattle.std.specs.Prelude.{ℕ, ◌+◌, ◌%◌}
use Rattle.rand_pcg.specs.Lcg.{Lcg}
use Rattle.rand_pcg.specs.Pcg.{pcg32}
use Rattle.made_script.specs.declared.draws.Drawn.{Drawn}

-- the next word modulo m, and the generator after it
unfoldable pub draw : ℕ → Lcg → ℕ × Lcg
draw m g = ((pcg32 g).0 % m, (pcg32 g).1)

-- the generator after one, two, three and four draws of a line
abbrev pub after_process : Lcg → Lcg
after_process g = (draw 8 g).1

abbrev pub after_first : Lcg → Lcg
after_first g = (draw 16 (after_process g)).1

abbrev pub after_second : Lcg → Lcg
after_second g = (draw 16 (after_first g)).1

abbrev pub after_row : Lcg → Lcg
after_row g = (draw 16 (after_second g)).1

-- the generator after all five
abbrev pub after_draws : Lcg → Lcg
after_draws g = (draw 1000 (after_row g)).1

-- a line draws a process from 1 to 8, two registers, a row and a value, in this order
abbrev pub drawn : Lcg → Drawn
drawn g = record {
  process = 1 + (draw 8 g).0;
  first = (draw 16 (after_process g)).0;
  second = (draw 16 (after_first g)).0;
  row = (draw 16 (after_second g)).0;
  value = (draw 1000 (after_row g)).0;
}
