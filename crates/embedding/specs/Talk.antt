-- A machine that is talked to.
use Rattle.std.specs.Prelude.{ℕ}
use Rattle.plain_machine.specs.State.{State}
use Rattle.space_api.specs.Calls.{Properly}
use Rattle.one_space.specs.Space.{OneStands, words_of}
use Rattle.engine.specs.Acts.{StandsWith}
use Rattle.embedding.specs.declared.talk.Talk.{Talk}

-- the machine stands for the state, names and all
abbrev pub StandsFor : Talk → State → Type 0
StandsFor t = StandsWith (Properly (OneStands t.machine.space)) t.machine.names

-- the words of its arena, both halves
abbrev pub arena_words : Talk → ℕ
arena_words t = words_of t.machine.space

-- how many lines may still be said
abbrev pub lines_to_say : Talk → ℕ
lines_to_say t = t.left
