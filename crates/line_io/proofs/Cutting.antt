-- What the fields of a reader mean after each of its steps, and what its last answers say of the lines.
use Rattle.std.proofs.Common.{◌≡◌, ℕ, zero, suc, ◌+◌, ◌<◌, ◌≤◌, ◌&&◌, ◌||◌, Bool, true, false, MatchBool, nat_lt, nat_le, List, [], ◌∷◌, ◌++◌, length, take, map, refl, sym, ap, subst, ◌∙◌, arith, append_assoc, append-nil, length-append}
use Rattle.std.proofs.lemmas.List.{take_all}
use Rattle.std.proofs.lemmas.List.{map-append}
use Rattle.std.proofs.Math.Seq.{take-append-add}
use Rattle.std.proofs.lemmas.List.Folds.{list_all-append}
use Rattle.std.proofs.lemmas.Bool.Decides.{nat_tests}
use Rattle.std.specs.List.{list_all}
use Rattle.std.specs.Str.Lines.{strip_carriage_return}
use Rattle.line_io.specs.Lines.{Line, is_whole, pieces, as_line, finished, lines, is_too_much}
use Rattle.line_io.specs.Reader.{IsCutting, IsOpen, line_given}
use Rattle.line_io.specs.declared.reader.Limits.{Limits}
use Rattle.line_io.specs.declared.reader.TheConstants.{SIZE}
use Rattle.line_io.proofs.Pieces.{IsOpen-append, pieces-first, pieces-open, whole-of-open, pieces-some, is_whole-ended, as_line-whole, as_line-open, line_given-long, length-strip, finished-append, or-true}

-- the lines of some bytes, of which the pieces that came first were given
pub lines-cut : (bytes : List ℕ) (ended : Bool) (limits : Limits) (whole ps : List (List ℕ)) (more : ℕ) → pieces (take limits.bytes bytes) ≡ whole ++ ps → list_all is_whole whole ≡ true
    → more + length whole ≡ limits.lines
    → lines bytes ended limits ≡ map as_line whole ++ map as_line (take more (finished (ended && nat_le (length bytes) limits.bytes) ps))
unfolding lines
lines-cut bytes ended limits whole ps more cut all sum =
    let last = ended && nat_le (length bytes) limits.bytes in
    let count : length whole + more ≡ limits.lines = omega arith in
    ap (λ l. map as_line (take limits.lines (finished last l))) cut
    ∙ ap (λ l. map as_line (take limits.lines l)) (finished-append last whole ps all)
    ∙ ap (λ n. map as_line (take n (whole ++ finished last ps))) (sym count)
    ∙ ap (map as_line) (take-append-add whole (finished last ps) more)
    ∙ map-append as_line whole (take more (finished last ps))

-- the pieces of the bytes that were taken
pub cut-pieces : (limits : Limits) (is_long : Bool) (more room : ℕ) (held bytes : List ℕ) (given : List Line) (r : IsCutting limits is_long more room held bytes given)
    → pieces bytes ≡ r.whole ++ pieces (r.gone ++ held)
cut-pieces limits is_long more room held bytes given r =
    ap pieces (sym (append-nil bytes)) ∙ r.cuts [] ∙ ap (λ l. r.whole ++ pieces (r.gone ++ l)) (append-nil held)

-- more bytes came than are allowed
pub too-many-bytes : (bytes : List ℕ) (limits : Limits) → limits.bytes < length bytes → is_too_much bytes limits ≡ true
unfolding is_too_much
too-many-bytes bytes limits more = let over : nat_lt limits.bytes (length bytes) ≡ true = grind (arith, nat_tests) in rw over refl

-- more pieces came than lines are allowed
pub too-many-lines : (bytes : List ℕ) (limits : Limits) → limits.lines < length (pieces bytes) → is_too_much bytes limits ≡ true
unfolding is_too_much
too-many-lines bytes limits more =
    let over : nat_lt limits.lines (length (pieces bytes)) ≡ true = grind (arith, nat_tests) in
    ap (λ b. nat_lt limits.bytes (length bytes) || b) over ∙ or-true (nat_lt limits.bytes (length bytes))

-- what came keeps both limits
pub not-too-much : (bytes : List ℕ) (limits : Limits) → length bytes ≤ limits.bytes → length (pieces bytes) ≤ limits.lines → is_too_much bytes limits ≡ false
unfolding is_too_much
not-too-much bytes limits few short =
    let bytes_fit : nat_lt limits.bytes (length bytes) ≡ false = grind (arith, nat_tests) in
    let lines_fit : nat_lt limits.lines (length (pieces bytes)) ≡ false = grind (arith, nat_tests) in
    rw (bytes_fit, lines_fit) refl

-- bytes are gone exactly from a line that is too long in any case
abbrev Gone : Bool → List ℕ → Type 0
Gone is_long gone = MatchBool is_long (SIZE ≤ length gone) (gone ≡ [])

take-nil : (n : ℕ) → ◌≡◌ {A = List (List ℕ)} (take n []) []
take-nil zero = refl
take-nil (suc n) = refl

-- bytes without a line end make no more pieces than are allowed, where any are allowed if there are bytes
few-pieces : (xs : List ℕ) (more : ℕ) → IsOpen xs → (0 < length xs → 0 < more) → length (pieces xs) ≤ more
few-pieces [] more no_end some = omega arith
few-pieces (b ∷ xs) more no_end some = let line : 0 < more = some (omega arith) in omega (arith, line, ap length (pieces-open b xs no_end))

-- a line is begun where bytes are held, or have gone
begun-line : (is_long : Bool) (gone held : List ℕ) (more : ℕ) → MatchBool is_long ((SIZE ≤ length gone) × (0 < more)) (gone ≡ []) → (0 < length held → 0 < more) → 0 < length (gone ++ held) → 0 < more
begun-line true gone held more h some begun = h.1
begun-line false gone held more h some begun = some (omega (arith, begun, ap length h, length-append gone held))

take-one : (n : ℕ) (p : List ℕ) → 0 < n → take n (p ∷ []) ≡ p ∷ []
take-one n p some = take_all n (p ∷ []) (omega arith)

one-piece : (xs : List ℕ) → 0 < length xs → IsOpen xs → pieces xs ≡ xs ∷ []
one-piece [] some no_end = absurd (omega arith)
one-piece (b ∷ xs) some no_end = pieces-open b xs no_end

not-gone : (is_long : Bool) (gone : List ℕ) → is_long ≡ false → Gone is_long gone → gone ≡ []
not-gone true gone e h = absurd (cc)
not-gone false gone e h = h

and-false : (b : Bool) → (b && false) ≡ false
and-false true = refl
and-false false = refl

and-true : (b : Bool) → (b && true) ≡ b
and-true true = refl
and-true false = refl

more-than : (is_long : Bool) (gone : List ℕ) (more : ℕ) → MatchBool is_long ((SIZE ≤ length gone) × (0 < more)) (gone ≡ []) → Gone is_long gone
more-than true gone more h = h.0
more-than false gone more h = h

-- a whole line, of which some bytes may have gone
whole-line : (is_long : Bool) (gone t : List ℕ) → Gone is_long gone → line_given false (strip_carriage_return (gone ++ t)) ≡ line_given is_long (strip_carriage_return t)
whole-line true gone t h = line_given-long (strip_carriage_return (gone ++ t)) (omega (arith, h, length-append gone t, length-strip (gone ++ t)))
whole-line false gone t h = ap (λ l. line_given false (strip_carriage_return (l ++ t))) h

-- a last line, of which some bytes may have gone
last-line : (is_long : Bool) (gone t : List ℕ) → Gone is_long gone → line_given false (gone ++ t) ≡ line_given is_long t
last-line true gone t h = line_given-long (gone ++ t) (omega (arith, h, length-append gone t))
last-line false gone t h = ap (λ l. line_given false (l ++ t)) h

module _ (limits : Limits) (is_long : Bool) (more room : ℕ) (held bytes : List ℕ) (given : List Line) where
  -- bytes within the limit
  within : IsCutting limits is_long more room held bytes given → length bytes ≤ limits.bytes
  within r = omega (arith, r.bytes_sum)

  take-within : IsCutting limits is_long more room held bytes given → take limits.bytes bytes ≡ bytes
  take-within r = take_all limits.bytes bytes (within r)

  -- the lines of bytes within the limit: those that were given, and what the held bytes make
  pub open-lines : (ended : Bool) (r : IsCutting limits is_long more room held bytes given)
      → lines bytes ended limits ≡ given ++ map as_line (take more (finished ended (pieces (r.gone ++ held))))
  open-lines ended r =
      let test : nat_le (length bytes) limits.bytes ≡ true = grind (arith, nat_tests, within r) in
      lines-cut bytes ended limits r.whole (pieces (r.gone ++ held)) more (ap pieces (take-within r) ∙ cut-pieces limits is_long more room held bytes given r) r.all_whole r.lines_sum
      ∙ ap (λ b. map as_line r.whole ++ map as_line (take more (finished b (pieces (r.gone ++ held))))) (ap (λ b. ended && b) test ∙ and-true ended)
      ∙ ap (λ l. l ++ map as_line (take more (finished ended (pieces (r.gone ++ held))))) (sym r.given_is)

  -- the line that the bytes t end, of which some may have gone
  same-line : (t : List ℕ) → IsOpen t → (r : IsCutting limits is_long more room held bytes given) → as_line ((r.gone ++ t) ++ (10 ∷ [])) ≡ line_given is_long (strip_carriage_return t)
  same-line t no_end r = as_line-whole (r.gone ++ t) (IsOpen-append r.gone t r.gone_open no_end) ∙ whole-line is_long r.gone t (more-than is_long r.gone more r.long_is)

  -- a whole line is given
  pub gives : (t rest : List ℕ) (fewer : ℕ) → held ≡ t ++ (10 ∷ rest) → IsOpen t → fewer + 1 ≡ more → IsCutting limits is_long more room held bytes given
      → IsCutting limits false fewer room rest bytes (given ++ (line_given is_long (strip_carriage_return t) ∷ []))
  gives t rest fewer parts no_end one r =
      let first : (later : List ℕ) → pieces (r.gone ++ ((t ++ (10 ∷ rest)) ++ later)) ≡ ((r.gone ++ t) ++ (10 ∷ [])) ∷ pieces (rest ++ later) =
      λ later. ap pieces (ap (λ l. r.gone ++ l) (append_assoc t (10 ∷ rest) later) ∙ sym (append_assoc r.gone t (10 ∷ (rest ++ later))))
      ∙ pieces-first (r.gone ++ t) (rest ++ later) (IsOpen-append r.gone t r.gone_open no_end) in
      record {
        whole = r.whole ++ ((r.gone ++ t) ++ (10 ∷ [])) ∷ [];
        gone = [];
        cuts = λ later. r.cuts later ∙ ap (λ l. r.whole ++ pieces (r.gone ++ (l ++ later))) parts ∙ ap (λ l. r.whole ++ l) (first later)
            ∙ sym (append_assoc r.whole (((r.gone ++ t) ++ (10 ∷ [])) ∷ []) (pieces (rest ++ later)));
        all_whole = list_all-append is_whole r.whole (((r.gone ++ t) ++ (10 ∷ [])) ∷ []) ∙ rw (r.all_whole, is_whole-ended (r.gone ++ t)) refl;
        given_is = ap (λ l. l ++ (line_given is_long (strip_carriage_return t) ∷ [])) r.given_is ∙ ap (λ x. map as_line r.whole ++ (x ∷ [])) (sym (same-line t no_end r))
            ∙ sym (map-append as_line r.whole (((r.gone ++ t) ++ (10 ∷ [])) ∷ []));
        gone_open = refl;
        long_is = refl;
        lines_sum = omega (arith, r.lines_sum, one, length-append r.whole (((r.gone ++ t) ++ (10 ∷ [])) ∷ []));
        bytes_sum = r.bytes_sum;
      }

  -- more bytes are held
  pub takes : (x : List ℕ) (less : ℕ) → less + length x ≡ room → IsCutting limits is_long more room held bytes given → IsCutting limits is_long more less (held ++ x) (bytes ++ x) given
  takes x less sum r = record {
    whole = r.whole;
    gone = r.gone;
    cuts = λ later. ap pieces (append_assoc bytes x later) ∙ r.cuts (x ++ later) ∙ ap (λ l. r.whole ++ pieces (r.gone ++ l)) (sym (append_assoc held x later));
    all_whole = r.all_whole;
    given_is = r.given_is;
    gone_open = r.gone_open;
    long_is = r.long_is;
    lines_sum = r.lines_sum;
    bytes_sum = omega (arith, r.bytes_sum, sum, length-append bytes x);
  }

  -- a full buffer is let go
  pub lets-go : SIZE ≤ length held → IsOpen held → 0 < more → IsCutting limits is_long more room held bytes given → IsCutting limits true more room [] bytes given
  lets-go full no_end line r = record {
    whole = r.whole;
    gone = r.gone ++ held;
    cuts = λ later. r.cuts later ∙ ap (λ l. r.whole ++ pieces l) (sym (append_assoc r.gone held later));
    all_whole = r.all_whole;
    given_is = r.given_is;
    gone_open = IsOpen-append r.gone held r.gone_open no_end;
    long_is = (omega (arith, full, length-append r.gone held), line);
    lines_sum = r.lines_sum;
    bytes_sum = r.bytes_sum;
  }

  -- what is left of the lines, once no more are allowed
  pub none-left : 0 < length held → more ≡ 0 → (r : IsCutting limits is_long more room held bytes given) → ((ended : Bool) → lines bytes ended limits ≡ given) × (is_too_much bytes limits ≡ true)
  none-left some none r =
      let rest = r.gone ++ held in
      let more_lines : limits.lines < length (pieces bytes) =
      omega (
        arith,
        ap length (cut-pieces limits is_long more room held bytes given r),
        length-append r.whole (pieces rest),
        pieces-some rest
            (omega (arith, some, length-append r.gone held)),
        r.lines_sum,
        none,
      ) in
      (λ ended. open-lines ended r ∙ ap (λ n. given ++ map as_line (take n (finished ended (pieces rest)))) none ∙ append-nil given, too-many-lines bytes limits more_lines)

  -- without a line end no whole line is held
  pub none-whole : IsOpen held → (r : IsCutting limits is_long more room held bytes given) → lines bytes false limits ≡ given
  none-whole no_end r =
      open-lines false r ∙ ap (λ ps. given ++ map as_line (take more ps)) (whole-of-open (r.gone ++ held) (IsOpen-append r.gone held r.gone_open no_end))
      ∙ ap (λ ps. given ++ map as_line ps) (take-nil more) ∙ append-nil given

  -- without a whole line, and with a line begun only where one is allowed, what came keeps both limits
  pub keeps-limits : IsOpen held → (0 < length held → 0 < more) → (r : IsCutting limits is_long more room held bytes given) → is_too_much bytes limits ≡ false
  keeps-limits no_end line r =
      let rest = r.gone ++ held in
      let few : length (pieces rest) ≤ more = few-pieces rest more (IsOpen-append r.gone held r.gone_open no_end) (begun-line is_long r.gone held more r.long_is line) in
      not-too-much bytes limits (within r) (omega (arith, few, ap length (cut-pieces limits is_long more room held bytes given r), length-append r.whole (pieces rest), r.lines_sum))

  -- nothing is held, and nothing has gone: all lines were given
  pub all-given : is_long ≡ false → held ≡ [] → (r : IsCutting limits is_long more room held bytes given) → (lines bytes true limits ≡ given) × (is_too_much bytes limits ≡ false)
  all-given short empty r =
      let none : r.gone ++ held ≡ [] = ap (λ l. l ++ held) (not-gone is_long r.gone short (more-than is_long r.gone more r.long_is)) ∙ empty in (
        open-lines true r ∙ ap (λ l. given ++ map as_line (take more (pieces l))) none ∙ ap (λ ps. given ++ map as_line ps) (take-nil more) ∙ append-nil given,
        keeps-limits (subst IsOpen (sym empty) refl) (λ some. omega (arith, some, ap length empty)) r,
      )

  -- the last line has no end
  pub last-given : 0 < more → IsOpen held → (r : IsCutting limits is_long more room held bytes given) → 0 < length (r.gone ++ held)
      → (lines bytes true limits ≡ given ++ (line_given is_long held ∷ [])) × (is_too_much bytes limits ≡ false)
  last-given line no_end r some =
      let rest = r.gone ++ held in
      let one : pieces rest ≡ rest ∷ [] = one-piece rest some (IsOpen-append r.gone held r.gone_open no_end) in
      let same : as_line rest ≡ line_given is_long held = as_line-open rest (IsOpen-append r.gone held r.gone_open no_end)
      ∙ last-line is_long r.gone held (more-than is_long r.gone more r.long_is) in (
        open-lines true r ∙ ap (λ ps. given ++ map as_line (take more ps)) one ∙ ap (λ ps. given ++ map as_line ps) (take-one more rest line) ∙ ap (λ l. given ++ (l ∷ [])) same,
        keeps-limits no_end (λ held_some. line) r,
      )

-- of bytes past the limit, the lines are those of the bytes within it
module _ (limits : Limits) (is_long : Bool) (more room : ℕ) (held bytes : List ℕ) (given : List Line) where
  pub cut-lines : (ended : Bool) → limits.bytes < length bytes → (r : IsCutting limits is_long more room held (take limits.bytes bytes) given)
      → lines bytes ended limits ≡ given ++ map as_line (take more (finished false (pieces (r.gone ++ held))))
  cut-lines ended over r =
      let test : nat_le (length bytes) limits.bytes ≡ false = grind (arith, nat_tests, over) in
      lines-cut bytes ended limits r.whole (pieces (r.gone ++ held)) more (cut-pieces limits is_long more room held (take limits.bytes bytes) given r) r.all_whole r.lines_sum
      ∙ ap (λ b. map as_line r.whole ++ map as_line (take more (finished b (pieces (r.gone ++ held))))) (ap (λ b. ended && b) test ∙ and-false ended)
      ∙ ap (λ l. l ++ map as_line (take more (finished false (pieces (r.gone ++ held))))) (sym r.given_is)

  pub cut-none-left : more ≡ 0 → limits.bytes < length bytes → (r : IsCutting limits is_long more room held (take limits.bytes bytes) given)
      → ((ended : Bool) → lines bytes ended limits ≡ given) × (is_too_much bytes limits ≡ true)
  cut-none-left none over r =
      (λ ended. cut-lines ended over r ∙ ap (λ n. given ++ map as_line (take n (finished false (pieces (r.gone ++ held))))) none ∙ append-nil given, too-many-bytes bytes limits over)

  pub cut-none-whole : IsOpen held → limits.bytes < length bytes → (r : IsCutting limits is_long more room held (take limits.bytes bytes) given)
      → ((ended : Bool) → lines bytes ended limits ≡ given) × (is_too_much bytes limits ≡ true)
  cut-none-whole no_end over r = (
    λ ended. cut-lines ended over r ∙ ap (λ ps. given ++ map as_line (take more ps)) (whole-of-open (r.gone ++ held) (IsOpen-append r.gone held r.gone_open no_end))
        ∙ ap (λ ps. given ++ map as_line ps) (take-nil more) ∙ append-nil given,
    too-many-bytes bytes limits over,
  )
