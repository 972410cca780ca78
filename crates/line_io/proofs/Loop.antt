-- What a reader's loop keeps, and what its end says of the lines.
use Rattle.std.proofs.Common.{◌≡◌, ℕ, ◌≤◌, Bool, true, false, Option, None, Some, List, [], ◌∷◌, ◌++◌, slice_range, refl, sym, ap, subst, ◌∙◌, append-nil}
use Rattle.std.specs.Io.KnownBytes.{IsAtEnd}
use Rattle.std.proofs.KnownBytes.{Consumes-trans}
use Rattle.line_io.specs.Lines.{Line as Text, lines}
use Rattle.line_io.specs.Source.{Gave, came}
use Rattle.line_io.specs.Reader.{CutsAt, HasCut, HasRead, IsOpen, ReadAt, Reads, EndsLines, IsEndOf, Settles, answer_at, answered, came_line, held, limits_of, lines_in, lines_left, line_in}
use Rattle.line_io.specs.declared.source.Got.{Got}
use Rattle.line_io.specs.declared.reader.Limits.{Limits}
use Rattle.line_io.specs.declared.reader.Stop.{Stop}
use Rattle.line_io.specs.declared.reader.Stop.TheVariants.{Open, Cut, Ended, Faulted, Passed}
use Rattle.line_io.specs.declared.reader.LineGot.{LineGot}
use Rattle.line_io.specs.declared.reader.LineGot.TheVariants.{Line, Long, End, Fault, TooMuch}
use Rattle.line_io.specs.declared.reader.LineReader.{LineReader}
use Rattle.line_io.proofs.Ranges.{Gave-nil}
use Rattle.line_io.proofs.Cutting.{open-lines, cut-lines}

-- what is known at the start of each turn
pub record Looping (before now : Option (List ℕ)) (faults_before faults_now : ℕ) (old new : LineReader) (looked : ℕ) : Type 0 where
  pub behind : new.start ≤ looked
  pub within : looked ≤ new.end
  pub no_end : IsOpen (slice_range new.buf.items new.start looked)
  pub going : answered new ≡ None
  pub limits : limits_of new ≡ limits_of old
  pub lines : lines_left new ≡ lines_left old
  pub no_fault : faults_now ≡ faults_before
  pub took : (bytes : List ℕ) (given : List Text) → HasRead old before bytes given → (x : List ℕ) × Gave before now x × HasCut new (bytes ++ x) given

pub Gave-append : (a b c : Option (List ℕ)) (x y : List ℕ) → Gave a b x → Gave b c y → Gave a c (x ++ y)
Gave-append a b c x y first second = record { known = Consumes-trans a b c x y first.known second.known }

pub Gave-end : (a b c : Option (List ℕ)) (x : List ℕ) → Gave a b x → Gave b c [] → Gave a c x
Gave-end a b c x first second = subst (Gave a c) (append-nil x) (Gave-append a b c x [] first second)

-- the same bytes at another place
pub Gave-same : (a b : Option (List ℕ)) (r : Got) (xs ys : List ℕ) → Gave a b (came r xs) → ys ≡ xs → Gave a b (came r ys)
Gave-same a b r xs ys gave same = subst (λ l. Gave a b (came r l)) (sym same) gave

-- a reader that is not at its end, of what it has read
pub cut-of-read : (stop : Stop) (r : LineReader) (left : Option (List ℕ)) (bytes : List ℕ) (given : List Text) → answer_at stop ≡ None → ReadAt stop r left bytes given → CutsAt stop r bytes given
cut-of-read Open r left bytes given going h = h
cut-of-read Cut r left bytes given going h = h
cut-of-read Ended r left bytes given going h = absurd (cc)
cut-of-read Faulted r left bytes given going h = absurd (cc)
cut-of-read Passed r left bytes given going h = absurd (cc)

-- whether the input has ended, by what its source tells, else by what the reader found
ended_by : Stop → Option (List ℕ) → Bool
ended_by stop (Some []) = true
ended_by stop (Some (b ∷ left)) = false
ended_by Ended None = true
ended_by Open None = false
ended_by Cut None = false
ended_by Faulted None = false
ended_by Passed None = false

told-by : (stop : Stop) (left : Option (List ℕ)) → IsEndOf (ended_by stop left) left
unfolding ended_by
told-by stop (Some []) = (λ t. refl, λ e. refl)
told-by stop (Some (b ∷ left)) = (λ t. absurd (cc), λ e. absurd (cc))
told-by stop None = tt

at-end-by : (left : Option (List ℕ)) → IsAtEnd left → ended_by Ended left ≡ true
unfolding ended_by
at-end-by (Some []) e = refl
at-end-by (Some (b ∷ left)) e = absurd (cc)
at-end-by None e = refl

-- the lines that were not given
rest-of : (stop : Stop) (r : LineReader) (left : Option (List ℕ)) (bytes : List ℕ) (given : List Text) → ReadAt stop r left bytes given
    → (rest : List Text) × (lines bytes (ended_by stop left) r.limits ≡ given ++ rest)
rest-of Open r left bytes given h = (_, open-lines r.limits r.long r.lines_left r.bytes_left (held r) bytes given (ended_by Open left) h)
rest-of Cut r left bytes given h = (_, cut-lines r.limits r.long r.lines_left r.bytes_left (held r) bytes given (ended_by Cut left) h.1 h.0)
rest-of Ended r left bytes given h = ([], ap (λ e. lines bytes e r.limits) (at-end-by left h.2) ∙ h.0 ∙ sym (append-nil given))
rest-of Faulted r left bytes given h = pick (ended_by Faulted left)
  where
    pick : (ended : Bool) → (rest : List Text) × (lines bytes ended r.limits ≡ given ++ rest)
    pick true = h.1
    pick false = ([], h.0 ∙ sym (append-nil given))
rest-of Passed r left bytes given h = ([], h.0 (ended_by Passed left) ∙ sym (append-nil given))

-- what the answer says of the lines
ends-of : (answer : LineGot) (stop : Stop) (r : LineReader) (left : Option (List ℕ)) (bytes : List ℕ) (given : List Text) (h : ReadAt stop r left bytes (given ++ came_line answer (line_in r)))
    → Settles answer (answer_at stop)
    → EndsLines answer r.limits bytes given (ended_by stop left) (rest-of stop r left bytes (given ++ came_line answer (line_in r)) h).0 left
unfolding rest-of
ends-of Line stop r left bytes given h settles = tt
ends-of Long stop r left bytes given h settles = tt
ends-of End Ended r left bytes given h settles = (refl, at-end-by left h.2, h.2, h.1)
ends-of End Open r left bytes given h settles = absurd (cc)
ends-of End Cut r left bytes given h settles = absurd (cc)
ends-of End Faulted r left bytes given h settles = absurd (cc)
ends-of End Passed r left bytes given h settles = absurd (cc)
ends-of Fault Faulted r left bytes given h settles = (h.0 ∙ append-nil given, h.2)
ends-of Fault Open r left bytes given h settles = absurd (cc)
ends-of Fault Cut r left bytes given h settles = absurd (cc)
ends-of Fault Ended r left bytes given h settles = absurd (cc)
ends-of Fault Passed r left bytes given h settles = absurd (cc)
ends-of TooMuch Passed r left bytes given h settles = (refl, h.1)
ends-of TooMuch Open r left bytes given h settles = absurd (cc)
ends-of TooMuch Cut r left bytes given h settles = absurd (cc)
ends-of TooMuch Ended r left bytes given h settles = absurd (cc)
ends-of TooMuch Faulted r left bytes given h settles = absurd (cc)

-- all that a call's answer says
pub reads-of : (answer : LineGot) (r : LineReader) (before after : Option (List ℕ)) (limits : Limits) (bytes x : List ℕ) (given : List Text) → limits_of r ≡ limits → Gave before after x
    → HasRead r after (bytes ++ x) (given ++ came_line answer (line_in r)) → Settles answer (answered r) → Reads before after limits r bytes given answer
reads-of answer r before after limits bytes x given el gave has settles =
    let more = rest-of r.stop r after (bytes ++ x) (given ++ came_line answer (line_in r)) has.here in
    subst (λ l. Reads before after l r bytes given answer) el (record {
      x = x;
      gave = gave;
      has = has;
      ended = ended_by r.stop after;
      told = told-by r.stop after;
      rest = more.0;
      front = more.1;
      ends = ends-of answer r.stop r after (bytes ++ x) given has.here settles;
    })

-- what is told of an answer at which a reader stays
pub record Stays (stop : Stop) (answer : LineGot) : Type 0 where
  pub settles : Settles answer (answer_at stop)
  pub none : lines_in answer ≡ 0
  pub brings : (line : List ℕ) → came_line answer line ≡ []
  pub fault : answer ≡ Fault → stop ≡ Faulted
  pub faulted : stop ≡ Faulted → answer ≡ Fault

pub stays : (stop : Stop) (answer : LineGot) → answer_at stop ≡ Some answer → Stays stop answer
stays Open answer e = absurd (cc)
stays Cut answer e = absurd (cc)
stays Ended answer e =
    let same : End ≡ answer = cc in
    subst (Stays Ended) same (record { settles = refl; none = refl; brings = λ line. refl; fault = λ f. absurd (cc); faulted = λ f. absurd (cc) })
stays Faulted answer e =
    let same : Fault ≡ answer = cc in
    subst (Stays Faulted) same (record { settles = refl; none = refl; brings = λ line. refl; fault = λ f. refl; faulted = λ f. refl })
stays Passed answer e =
    let same : TooMuch ≡ answer = cc in
    subst (Stays Passed) same (record { settles = refl; none = refl; brings = λ line. refl; fault = λ f. absurd (cc); faulted = λ f. absurd (cc) })

-- a last answer that is given again
pub reads-again : (answer : LineGot) (r : LineReader) (left : Option (List ℕ)) (bytes : List ℕ) (given : List Text) → answered r ≡ Some answer → HasRead r left bytes given
    → Reads left left (limits_of r) r bytes given answer
reads-again answer r left bytes given e has =
    let s = stays r.stop answer e in
    let same : given ++ came_line answer (line_in r) ≡ given = ap (λ l. given ++ l) (s.brings (line_in r)) ∙ append-nil given in
    let again : HasRead r left (bytes ++ []) (given ++ came_line answer (line_in r)) =
    subst (λ b. HasRead r left b (given ++ came_line answer (line_in r))) (sym (append-nil bytes)) (subst (HasRead r left bytes) (sym same) has) in
    reads-of answer r left left (limits_of r) bytes [] given refl (Gave-nil left) again s.settles
