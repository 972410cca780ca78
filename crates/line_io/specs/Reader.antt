-- What a reader of lines has taken and given, and what one call of it adds.
use Rattle.std.specs.Prelude.{◌≡◌, ◌≢◌, ◌↔◌, ◌||◌, nat_lt, if◌then◌else◌, ℕ, ◌+◌, ◌<◌, ◌≤◌, Bool, true, false, IsTrue, MatchBool, Option, Some, None, List, [], ◌∷◌, ◌++◌, length, take, map, slice_range}
use Rattle.std.specs.List.{list_any, list_all}
use Rattle.std.specs.Io.KnownBytes.{IsAtEnd}
use Rattle.line_io.specs.Lines.{Line, text, long, is_end, is_whole, pieces, as_line, lines, is_too_much}
use Rattle.line_io.specs.Source.{Gave}
use Rattle.line_io.specs.declared.reader.Limits.{Limits}
use Rattle.line_io.specs.declared.reader.TheConstants.{LONGEST_LINE, SIZE}
use Rattle.line_io.specs.declared.reader.LineGot.{LineGot}
use Rattle.line_io.specs.declared.reader.LineGot.TheVariants.{Line as GotLine, Long, End, Fault, TooMuch}
use Rattle.line_io.specs.declared.reader.Stop.{Stop}
use Rattle.line_io.specs.declared.reader.Stop.TheVariants.{Open, Cut, Ended, Faulted, Passed}
use Rattle.line_io.specs.declared.reader.LineReader.{LineReader}

-- the limits that the reader was made with
abbrev pub limits_of : LineReader → Limits
limits_of r = r.limits

-- how many lines the reader may still give
abbrev pub lines_left : LineReader → ℕ
lines_left r = r.lines_left

-- the bytes that the reader holds and has not given
abbrev pub held : LineReader → List ℕ
held r = slice_range r.buf.items r.start r.end

-- the text of the line that was given last, without its end
abbrev pub line_in : LineReader → List ℕ
line_in r = slice_range r.buf.items r.from r.to

-- an earlier call found that the source had failed
abbrev pub IsFaulted : LineReader → Type 0
IsFaulted r = r.stop ≡ Faulted

-- the answer that a stop stays at
abbrev pub answer_at : Stop → Option LineGot
answer_at Open = None
answer_at Cut = None
answer_at Ended = Some End
answer_at Faulted = Some Fault
answer_at Passed = Some TooMuch

-- the answer that the reader stays at, once it is at its end
abbrev pub answered : LineReader → Option LineGot
answered r = answer_at r.stop

-- the lines that an answer brings
abbrev pub came_line : LineGot → List ℕ → List Line
came_line GotLine bytes = text bytes ∷ []
came_line Long bytes = long ∷ []
came_line End bytes = []
came_line Fault bytes = []
came_line TooMuch bytes = []

-- how many lines an answer brings
abbrev pub lines_in : LineGot → ℕ
lines_in GotLine = 1
lines_in Long = 1
lines_in End = 0
lines_in Fault = 0
lines_in TooMuch = 0

-- the answers at which a reader stays are what it stays at
abbrev pub Settles : LineGot → Option LineGot → Type 0
Settles GotLine stays = Unit {0}
Settles Long stays = Unit {0}
Settles End stays = stays ≡ Some End
Settles Fault stays = stays ≡ Some Fault
Settles TooMuch stays = stays ≡ Some TooMuch

-- whole pieces of the bytes were given; of the next piece some bytes may be gone, and the rest is held
pub record IsCutting (limits : Limits) (is_long : Bool) (lines_left bytes_left : ℕ) (held bytes : List ℕ) (given : List Line) : Type 0 where
  pub whole : List (List ℕ)
  pub gone : List ℕ
  pub cuts : (more : List ℕ) → pieces (bytes ++ more) ≡ whole ++ pieces (gone ++ (held ++ more))
  pub all_whole : list_all is_whole whole ≡ true
  pub given_is : given ≡ map as_line whole
  pub gone_open : list_any is_end gone ≡ false
  pub long_is : MatchBool is_long ((SIZE ≤ length gone) × (0 < lines_left)) (gone ≡ [])
  pub lines_sum : lines_left + length whole ≡ limits.lines
  pub bytes_sum : bytes_left + length bytes ≡ limits.bytes

-- a reader that is not at its end: of bytes past the limit it has kept none
abbrev pub CutBy : Stop → Limits → Bool → ℕ → ℕ → List ℕ → List ℕ → List Line → Type 0
CutBy Open limits is_long more room held bytes given = IsCutting limits is_long more room held bytes given
CutBy Cut limits is_long more room held bytes given = IsCutting limits is_long more room held (take limits.bytes bytes) given × (limits.bytes < length bytes)
CutBy Ended limits is_long more room held bytes given = ⊥
CutBy Faulted limits is_long more room held bytes given = ⊥
CutBy Passed limits is_long more room held bytes given = ⊥

-- the same of a reader's fields
abbrev pub CutsAt : Stop → LineReader → List ℕ → List Line → Type 0
CutsAt stop r bytes given = CutBy stop r.limits r.long r.lines_left r.bytes_left (held r) bytes given

-- what is known at each stop, of a reader that took the bytes and gave the lines, and of what its source has left
abbrev pub ReadAt : Stop → LineReader → Option (List ℕ) → List ℕ → List Line → Type 0
ReadAt Open r left bytes given = CutsAt Open r bytes given
ReadAt Cut r left bytes given = CutsAt Cut r bytes given
ReadAt Ended r left bytes given = (lines bytes true r.limits ≡ given) × (is_too_much bytes r.limits ≡ false) × IsAtEnd left
ReadAt Faulted r left bytes given =
    (lines bytes false r.limits ≡ given) × ((rest : List Line) × (lines bytes true r.limits ≡ given ++ rest)) × (is_too_much bytes r.limits ≡ false)
ReadAt Passed r left bytes given = ((ended : Bool) → lines bytes ended r.limits ≡ given) × (is_too_much bytes r.limits ≡ true)

-- the reader took these bytes from its source, which has `left` to come, and gave these lines
pub record HasRead (r : LineReader) (left : Option (List ℕ)) (bytes : List ℕ) (given : List Line) : Type 0 where
  pub here : ReadAt r.stop r left bytes given

-- `ended` is true exactly where nothing is left, if the source tells
abbrev pub IsEndOf : Bool → Option (List ℕ) → Type 0
IsEndOf ended None = Unit {0}
IsEndOf ended (Some left) = IsTrue ended ↔ (left ≡ [])

-- what the last answers say of all the bytes, of the lines before the answer, and of the lines that were not given
abbrev pub EndsLines : LineGot → Limits → List ℕ → List Line → Bool → List Line → Option (List ℕ) → Type 0
EndsLines GotLine limits bytes given ended rest left = Unit {0}
EndsLines Long limits bytes given ended rest left = Unit {0}
EndsLines End limits bytes given ended rest left = (rest ≡ []) × (ended ≡ true) × IsAtEnd left × (is_too_much bytes limits ≡ false)
EndsLines Fault limits bytes given ended rest left = (lines bytes false limits ≡ given) × (is_too_much bytes limits ≡ false)
EndsLines TooMuch limits bytes given ended rest left = (rest ≡ []) × (is_too_much bytes limits ≡ true)

-- a call took the bytes x from its source; with what its answer brings, the lines given are a front of the lines of all bytes
pub record Reads (before after : Option (List ℕ)) (limits : Limits) (new : LineReader) (bytes : List ℕ) (given : List Line) (answer : LineGot) : Type 0 where
  pub x : List ℕ
  pub gave : Gave before after x
  pub has : HasRead new after (bytes ++ x) (given ++ came_line answer (line_in new))
  pub ended : Bool
  pub told : IsEndOf ended after
  pub rest : List Line
  pub front : lines (bytes ++ x) ended limits ≡ (given ++ came_line answer (line_in new)) ++ rest
  pub ends : EndsLines answer limits (bytes ++ x) given ended rest after

-- the reader is not at its end, and has taken these bytes and given these lines
abbrev pub HasCut : LineReader → List ℕ → List Line → Type 0
HasCut r bytes given = CutsAt r.stop r bytes given

-- a text without its line end as a line, where bytes of it may have gone before
abbrev pub line_given : Bool → List ℕ → Line
line_given is_long bytes = if is_long || nat_lt LONGEST_LINE (length bytes) then long else text bytes

-- how many reads at most are still to come
abbrev pub reads_left : Stop → ℕ → ℕ
reads_left Open bytes_left = bytes_left + 1
reads_left Cut bytes_left = 0
reads_left Ended bytes_left = 0
reads_left Faulted bytes_left = 0
reads_left Passed bytes_left = 0

-- no byte 10 stands among these
abbrev pub IsOpen : List ℕ → Type 0
IsOpen bytes = list_any is_end bytes ≡ false

-- from the reader `old` the answer leads to `new`, whatever was read before and whatever the source has left
pub record Answers (old new : LineReader) (answer : LineGot) : Type 0 where
  pub reads : (left : Option (List ℕ)) (bytes : List ℕ) (given : List Line) → HasCut old bytes given
      → HasRead new left bytes (given ++ came_line answer (line_in new))
  pub settles : Settles answer (answered new)
  pub counted : lines_left new + lines_in answer ≡ lines_left old
  pub limits : limits_of new ≡ limits_of old
  pub no_fault : answered new ≢ Some Fault
  pub no_fault_now : answer ≢ Fault
