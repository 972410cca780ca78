-- What each step of the reader does to what is known of it.
use Rattle.std.proofs.Common.{◌≡◌, ◌≢◌, ◌⊎◌, inl, inr, ℕ, ◌+◌, ◌-◌, ◌<◌, ◌≤◌, ◌||◌, nat_lt, Bool, true, false, MatchBool, Option, None, Some, List, [], ◌∷◌, ◌++◌, length, take, map, refl, sym, ap, subst, ◌∙◌, arith, append-nil, length-take, length-append}
use Rattle.std.proofs.Math.Seq.{take-append-add}
use Rattle.std.specs.Io.KnownBytes.{IsAtEnd}
use Rattle.std.specs.Str.Lines.{strip_carriage_return}
use Rattle.line_io.specs.Lines.{Line as Text, text, long, finished, as_line, lines, is_too_much, pieces}
use Rattle.line_io.specs.Reader.{answer_at, CutBy, IsOpen, ReadAt, CutsAt, line_given, held, Settles, lines_in}
use Rattle.line_io.specs.declared.reader.LineGot.{LineGot}
use Rattle.line_io.specs.declared.reader.LineGot.TheVariants.{Line, Long, End, Fault, TooMuch}
use Rattle.line_io.specs.declared.reader.Limits.{Limits}
use Rattle.line_io.specs.declared.reader.Stop.{Stop}
use Rattle.line_io.specs.declared.reader.Stop.TheVariants.{Open, Cut, Ended, Faulted, Passed}
use Rattle.line_io.specs.declared.reader.LineReader.{LineReader}
use Rattle.line_io.specs.declared.reader.TheConstants.{LONGEST_LINE, SIZE}
use Rattle.line_io.proofs.Ranges.{length-range}
use Rattle.line_io.proofs.Cutting.{gives, takes, lets-go, none-left, none-whole, all-given, last-given, cut-none-left, cut-none-whole, open-lines, keeps-limits}

-- a reader that is not at its end has read
pub read-of-cut : (stop : Stop) (r : LineReader) (left : Option (List ℕ)) (bytes : List ℕ) (given : List Text) → CutsAt stop r bytes given → ReadAt stop r left bytes given
read-of-cut Open r left bytes given h = h
read-of-cut Cut r left bytes given h = h
read-of-cut Ended r left bytes given h = absurd h
read-of-cut Faulted r left bytes given h = absurd h
read-of-cut Passed r left bytes given h = absurd h

-- what too much input means
abbrev pub Passes : Limits → List ℕ → List Text → Type 0
Passes limits bytes given = ((ended : Bool) → lines bytes ended limits ≡ given) × (is_too_much bytes limits ≡ true)

nothing-more : (limits : Limits) (bytes : List ℕ) (given : List Text) → Passes limits bytes given → Passes limits bytes (given ++ [])
nothing-more limits bytes given h = (λ ended. h.0 ended ∙ sym (append-nil given), h.1)

-- a further byte is held where no more lines are allowed
pub passes-many : (stop : Stop) (limits : Limits) (is_long : Bool) (more room : ℕ) (held bytes : List ℕ) (given : List Text) → more ≡ 0 → 0 < length held
    → CutBy stop limits is_long more room held bytes given
    → Passes limits bytes (given ++ [])
passes-many Open limits is_long more room held bytes given none some h = nothing-more limits bytes given (none-left limits is_long more room held bytes given some none h)
passes-many Cut limits is_long more room held bytes given none some h = nothing-more limits bytes given (cut-none-left limits is_long more room held bytes given none h.1 h.0)
passes-many Ended limits is_long more room held bytes given none some h = absurd h
passes-many Faulted limits is_long more room held bytes given none some h = absurd h
passes-many Passed limits is_long more room held bytes given none some h = absurd h

-- no whole line is held, and bytes were cut off
pub passes-cut : (stop : Stop) (limits : Limits) (is_long : Bool) (more room : ℕ) (held bytes : List ℕ) (given : List Text) → stop ≡ Cut → IsOpen held
    → CutBy stop limits is_long more room held bytes given
    → Passes limits bytes (given ++ [])
passes-cut stop limits is_long more room held bytes given cut no_end h =
    let k = subst (λ s. CutBy s limits is_long more room held bytes given) cut h in
    nothing-more limits bytes given (cut-none-whole limits is_long more room held bytes given no_end k.1 k.0)

-- a reader goes on that is not at its end and of which no bytes were cut off
pub open-left : (stop : Stop) → answer_at stop ≡ None → stop ≢ Cut → stop ≡ Open
open-left Open going kept = refl
open-left Cut going kept = absurd (kept refl)
open-left Ended going kept = absurd (cc)
open-left Faulted going kept = absurd (cc)
open-left Passed going kept = absurd (cc)

-- a whole line is given
gives-at : (stop : Stop) (limits : Limits) (is_long : Bool) (more fewer room : ℕ) (held rest bytes t : List ℕ) (given : List Text) → fewer + 1 ≡ more → held ≡ t ++ (10 ∷ rest) → IsOpen t
    → CutBy stop limits is_long more room held bytes given → CutBy stop limits false fewer room rest bytes (given ++ (line_given is_long (strip_carriage_return t) ∷ []))
gives-at Open limits is_long more fewer room held rest bytes t given one parts no_end h = gives limits is_long more room held bytes given t rest fewer parts no_end one h
gives-at Cut limits is_long more fewer room held rest bytes t given one parts no_end h = (gives limits is_long more room held (take limits.bytes bytes) given t rest fewer parts no_end one h.0, h.1)
gives-at Ended limits is_long more fewer room held rest bytes t given one parts no_end h = absurd h
gives-at Faulted limits is_long more fewer room held rest bytes t given one parts no_end h = absurd h
gives-at Passed limits is_long more fewer room held rest bytes t given one parts no_end h = absurd h

pub gives-by : (stop stop' : Stop) (limits limits' : Limits) (is_long is_long' : Bool) (more more' room room' : ℕ) (held held' bytes t : List ℕ) (given came : List Text) → stop' ≡ stop
    → limits' ≡ limits → is_long' ≡ false
    → room' ≡ room → more' + 1 ≡ more → held ≡ t ++ (10 ∷ held') → IsOpen t → came ≡ line_given is_long (strip_carriage_return t) ∷ []
    → CutBy stop limits is_long more room held bytes given → CutBy stop' limits' is_long' more' room' held' bytes (given ++ came)
gives-by stop stop' limits limits' is_long is_long' more more' room room' held held' bytes t given came es el ei er one parts no_end ec h =
    rw (es, el, ei, er, ec) (gives-at stop limits is_long more more' room held held' bytes t given one parts no_end h)

-- bytes within the limit are taken
pub takes-by : (stop : Stop) (limits : Limits) (is_long : Bool) (more room less : ℕ) (held held' bytes x : List ℕ) (given : List Text) → stop ≡ Open → held' ≡ held ++ x → less + length x ≡ room
    → CutBy stop limits is_long more room held bytes given → CutBy stop limits is_long more less held' (bytes ++ x) given
takes-by stop limits is_long more room less held held' bytes x given eo eh sum h =
    let k = subst (λ s. CutBy s limits is_long more room held bytes given) eo h in
    rw (eo, eh) (takes limits is_long more room held bytes given x less sum k)

-- bytes past the limit are taken, and those past it are not kept
pub takes-past : (stop : Stop) (limits : Limits) (is_long : Bool) (more room : ℕ) (held held' bytes x : List ℕ) (given : List Text) → stop ≡ Open → room < length x → held' ≡ held ++ take room x
    → CutBy stop limits is_long more room held bytes given → CutBy Cut limits is_long more 0 held' (bytes ++ x) given
takes-past stop limits is_long more room held held' bytes x given eo past eh h =
    let k = subst (λ s. CutBy s limits is_long more room held bytes given) eo h in
    let count : limits.bytes ≡ length bytes + room = omega (arith, k.bytes_sum) in
    let kept : take limits.bytes (bytes ++ x) ≡ bytes ++ take room x = ap (λ n. take n (bytes ++ x)) count ∙ take-append-add bytes x room in
    let all : 0 + length (take room x) ≡ room = omega (arith, length-take room x, past) in
    (rw (kept, eh) (takes limits is_long more room held bytes given (take room x) 0 all k), omega (arith, count, past, length-append bytes x))

-- a full buffer is let go
pub lets-go-by : (stop : Stop) (limits : Limits) (is_long : Bool) (more room : ℕ) (held bytes : List ℕ) (given : List Text) → SIZE ≤ length held → IsOpen held → 0 < more
    → CutBy stop limits is_long more room held bytes given → CutBy stop limits true more room [] bytes given
lets-go-by Open limits is_long more room held bytes given full no_end line h = lets-go limits is_long more room held bytes given full no_end line h
lets-go-by Cut limits is_long more room held bytes given full no_end line h = (lets-go limits is_long more room held (take limits.bytes bytes) given full no_end line h.0, h.1)
lets-go-by Ended limits is_long more room held bytes given full no_end line h = absurd h
lets-go-by Faulted limits is_long more room held bytes given full no_end line h = absurd h
lets-go-by Passed limits is_long more room held bytes given full no_end line h = absurd h

-- what the end of the input means
abbrev pub Ends : Limits → List ℕ → List Text → Type 0
Ends limits bytes given = (lines bytes true limits ≡ given) × (is_too_much bytes limits ≡ false)

-- the input ended where nothing was held
pub ends-empty : (stop : Stop) (limits : Limits) (is_long : Bool) (more room : ℕ) (held bytes : List ℕ) (given : List Text) → stop ≡ Open → is_long ≡ false → held ≡ []
    → CutBy stop limits is_long more room held bytes given
    → Ends limits bytes (given ++ [])
ends-empty stop limits is_long more room held bytes given eo short empty h =
    let k = subst (λ s. CutBy s limits is_long more room held bytes given) eo h in
    let e = all-given limits is_long more room held bytes given short empty k in
    (e.0 ∙ sym (append-nil given), e.1)

-- the input ended in a line
pub ends-last : (stop : Stop) (limits : Limits) (is_long : Bool) (more room : ℕ) (held bytes : List ℕ) (given : List Text) → stop ≡ Open → 0 < more → IsOpen held → (0 < length held) ⊎ (is_long ≡ true)
    → CutBy stop limits is_long more room held bytes given → Ends limits bytes (given ++ (line_given is_long held ∷ []))
ends-last stop limits is_long more room held bytes given eo line no_end some h =
    let k = subst (λ s. CutBy s limits is_long more room held bytes given) eo h in
    let begun : 0 < length (k.gone ++ held) =
    elim some [ inl held_some ↦ omega (arith, held_some, length-append k.gone held) | inr is ↦ omega (arith, gone-some is_long k.gone more is k.long_is, length-append k.gone held) ] in
    last-given limits is_long more room held bytes given line no_end k begun
  where
    gone-some : (is_long : Bool) (gone : List ℕ) (more : ℕ) → is_long ≡ true → MatchBool is_long ((SIZE ≤ length gone) × (0 < more)) (gone ≡ []) → 0 < length gone
    gone-some true gone more is long_is = omega (arith, long_is.0)
    gone-some false gone more is long_is = absurd (cc)

-- a reader whose input has ended
pub read-of-end : (stop : Stop) (r : LineReader) (limits : Limits) (left : Option (List ℕ)) (bytes : List ℕ) (given : List Text) → stop ≡ Ended → r.limits ≡ limits → Ends limits bytes given
    → IsAtEnd left
    → ReadAt stop r left bytes given
read-of-end stop r limits left bytes given es el e at_end =
    let P : Limits → Type 0 = λ l. Ends l bytes given in
    let here = subst P (sym el) e in
    subst (λ s. ReadAt s r left bytes given) (sym es) (here.0, here.1, at_end)

-- a fault comes where no whole line is held, and a line is begun only where one is allowed
pub faults-by : (stop : Stop) (limits : Limits) (is_long : Bool) (more room : ℕ) (held bytes : List ℕ) (given : List Text) → stop ≡ Open → IsOpen held → (0 < length held → 0 < more)
    → CutBy stop limits is_long more room held bytes given
    → (lines bytes false limits ≡ given ++ []) × ((rest : List Text) × (lines bytes true limits ≡ (given ++ []) ++ rest)) × (is_too_much bytes limits ≡ false)
faults-by stop limits is_long more room held bytes given eo no_end line h =
    let k = subst (λ s. CutBy s limits is_long more room held bytes given) eo h in
    let all = open-lines limits is_long more room held bytes given true k in
    let rest = map as_line (take more (finished true (pieces (k.gone ++ held)))) in (
      none-whole limits is_long more room held bytes given no_end k ∙ sym (append-nil given),
      (rest, all ∙ ap (λ l. l ++ rest) (sym (append-nil given))),
      keeps-limits limits is_long more room held bytes given no_end line k,
    )

-- an answer that is a line stays nowhere
pub settles-line : (answer : LineGot) (stays : Option LineGot) → lines_in answer ≡ 1 → Settles answer stays
settles-line Line stays one = tt
settles-line Long stays one = tt
settles-line End stays one = absurd (omega arith)
settles-line Fault stays one = absurd (omega arith)
settles-line TooMuch stays one = absurd (omega arith)

pub line-not-fault : (answer : LineGot) → lines_in answer ≡ 1 → answer ≢ Fault
line-not-fault Line one = λ e. cc
line-not-fault Long one = λ e. cc
line-not-fault End one = absurd (omega arith)
line-not-fault Fault one = absurd (omega arith)
line-not-fault TooMuch one = absurd (omega arith)

pub none-not-fault : (stays : Option LineGot) → stays ≡ None → stays ≢ Some Fault
none-not-fault stays none = λ e. cc

-- how many bytes are held
pub length-held : (r : LineReader) → length (held r) ≡ r.end - r.start
length-held r = length-range r.buf.items r.start r.end r.in_order (omega (arith, r.size, r.in_buffer))

-- a line as it is given, by its length
pub given-long : (is_long : Bool) (xs : List ℕ) (len : ℕ) → length xs ≡ len → (is_long || nat_lt LONGEST_LINE len) ≡ true → long ∷ [] ≡ line_given is_long xs ∷ []
given-long is_long xs len same test = rw (same, test) refl

pub given-short : (is_long : Bool) (xs : List ℕ) (len : ℕ) → length xs ≡ len → (is_long || nat_lt LONGEST_LINE len) ≡ false → text xs ∷ [] ≡ line_given is_long xs ∷ []
given-short is_long xs len same test = rw (same, test) refl
