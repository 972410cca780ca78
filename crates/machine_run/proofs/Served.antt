-- What the serving of a first machine says of a whole run.
use Rattle.std.proofs.Common.{ℕ, ◌≡◌, ◌⊎◌, List, subst, refl, inl, inr}
use Rattle.plain_machine.specs.State.{State, first_state}
use Rattle.line_io.specs.Faults.{Rose}
use Rattle.line_io.specs.declared.sum_sink.Summary.{Summary}
use Rattle.engine.specs.Rules.{After, Rules, Input, Output}
use Rattle.engine.specs.Serving.{Served, TellsRead, TellsWrite}
use Rattle.engine.specs.declared.serving.Status.{Status}
use Rattle.engine.specs.declared.serving.Status.TheVariants.{Done, Usage, ReadFault, WriteFault, Memory, TooMuch}
use Rattle.machine_run.specs.Contract.{IfBegun, IsComplete}
use Rattle.machine_run.specs.Summary.{EndsMade, summary_text}
use Rattle.machine_run.specs.Made.{IsMade, Made}

module _ (rules : Rules) (source : Input) {K : Type 0} (out : Output K) (left : After) where
  -- a script that was served has no status of a run that did not begin
  pub if-served : (status : Status) (Q : Type 0) → Served rules source out left status → IfBegun status (Served rules source out left status) Q
  if-served Done Q s = s
  if-served Usage Q s = absurd s.ends
  if-served ReadFault Q s = s
  if-served WriteFault Q s = s
  if-served Memory Q s = absurd s.ends
  if-served TooMuch Q s = s

  -- it is not refused for its words
  pub not-usage : (status : Status) → Served rules source out left status → status ≡ Usage → ⊥
  not-usage status s e = let P : Status → Type 0 = λ k. Served rules source out left k in let t : Served rules source out left Usage = subst P e s in t.ends

  -- a fault of writing is told
  pub write-told : (status : Status) → Served rules source out left status → TellsWrite status (out.faults out.before) (out.faults out.after)
  write-told Done s = s.ends.0.1
  write-told Usage s = absurd s.ends
  write-told ReadFault s = s.ends.0.1
  write-told WriteFault s = s.ends.1
  write-told Memory s = absurd s.ends
  write-told TooMuch s = s.ends.0.1

  -- what stands for the last state may be said in other words
  pub stands-so : (Other : State → Type 0) (status : Status) → ((s : State) → left.stands s → Other s) → Served rules source out left status
      → Served rules source out (record { stands = Other; text = left.text }) status
  stands-so Other status f s = record {
    course = s.course;
    took = s.took;
    told = s.told;
    front = s.front;
    run = s.run;
    isolated = s.isolated;
    stands = f s.course.last s.stands;
    maps = s.maps;
    ends = s.ends;
    later = s.later;
  }

module _ {K : Type 0} (out : Output K) (x : List ℕ) where
  -- a made script ends in one of two ways
  pub ends-so : (status : Status) → EndsMade status out x → (status ≡ Done) ⊎ (status ≡ WriteFault) ⊎ (status ≡ Memory)
  ends-so Done e = inl refl
  ends-so Usage e = absurd e
  ends-so ReadFault e = absurd e
  ends-so WriteFault e = inr (inl refl)
  ends-so Memory e = absurd e
  ends-so TooMuch e = absurd e

  -- a fault of writing its summary is told
  pub summary-told : (status : Status) → EndsMade status out x → TellsWrite status (out.faults out.before) (out.faults out.after)
  summary-told Done e = e.1
  summary-told Usage e = absurd e
  summary-told ReadFault e = absurd e
  summary-told WriteFault e = e.1
  summary-told Memory e = absurd e
  summary-told TooMuch e = absurd e

-- what stands for the last state of a made script may be said in other words
pub made-so : (words : ℕ) (first : State) (number : ℕ) (Stands Other : State → Type 0) (numbers : Summary) → ((s : State) → Stands s → Other s)
    → IsMade words first number Stands numbers → IsMade words first number Other numbers
made-so words first number Stands Other numbers f m = record { replies = m.replies; last = m.last; run = m.run; stands = f m.last m.stands; sums = m.sums }

-- a made script that ended was begun
pub if-made : (words number : ℕ) {K : Type 0} (out : Output K) (Stands : State → Type 0) (numbers : Summary) (status : Status) (Q : Type 0)
    → IsMade words first_state number Stands numbers → EndsMade status out (summary_text numbers)
    → IfBegun status (Made words number out Stands status) Q
if-made words number out Stands numbers Done Q m e = (numbers, m, e)
if-made words number out Stands numbers Usage Q m e = absurd e
if-made words number out Stands numbers ReadFault Q m e = absurd e
if-made words number out Stands numbers WriteFault Q m e = (numbers, m, e)
if-made words number out Stands numbers Memory Q m e = absurd e
if-made words number out Stands numbers TooMuch Q m e = absurd e

-- each status but two has a fault or an end before the first line as its cause
pub complete : (status : Status) (r q w v : ℕ) → TellsRead status r q → TellsWrite status w v → IsComplete status (Rose r q) (Rose w v)
complete Done r q w v read write no_read no_write no_usage no_memory = inl refl
complete Usage r q w v read write no_read no_write no_usage no_memory = absurd (no_usage refl)
complete ReadFault r q w v read write no_read no_write no_usage no_memory = absurd (no_read read)
complete WriteFault r q w v read write no_read no_write no_usage no_memory = absurd (no_write write)
complete Memory r q w v read write no_read no_write no_usage no_memory = absurd (no_memory refl)
complete TooMuch r q w v read write no_read no_write no_usage no_memory = inr refl
