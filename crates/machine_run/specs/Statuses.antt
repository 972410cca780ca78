-- What a run's status is outside.
use Rattle.std.specs.Prelude.{ℕ, Option, Some, None, List, codes}
use Rattle.engine.specs.declared.serving.Status.{Status}
use Rattle.engine.specs.declared.serving.Status.TheVariants.{Done, Usage, ReadFault, WriteFault, Memory, TooMuch}

-- the number that the process ends with
abbrev pub status_number : Status → ℕ
status_number Done = 0
status_number Usage = 1
status_number ReadFault = 2
status_number WriteFault = 3
status_number Memory = 4
status_number TooMuch = 5

-- the line that standard error gets, without its end
abbrev pub complaint_of : Status → Option (List ℕ)
complaint_of Done = None
complaint_of Usage = Some (codes "usage: beam_heap [--arena N] [--space one|own] [--gen N]")
complaint_of ReadFault = Some (codes "beam_heap: read fault")
complaint_of WriteFault = Some (codes "beam_heap: write fault")
complaint_of Memory = Some (codes "beam_heap: no memory")
complaint_of TooMuch = Some (codes "beam_heap: script too long")
