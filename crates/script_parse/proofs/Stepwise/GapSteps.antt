-- Blanks, and the pieces that stand after them.
use Rattle.std.proofs.Common.{◌≡◌, ℕ, ◌<◌, Bool, true, false, List, [], ◌∷◌, ◌++◌, length, Some, None, refl, sym, ◌∙◌, ap, subst, arith, append_assoc, length-append}
use Rattle.script_grammar.specs.Grammar.{is_blank, is_name_byte, AreAll, Piece, Spells, Lies}
use Rattle.script_grammar.specs.Grammar.Piece.{Space, Text, Number, Whole, Process, Register}
use Rattle.script_parse.specs.Reading.{after_blanks, gap_at, are_blanks}
use Rattle.script_parse.proofs.Stepwise.Tools.{inside, blank-not, both-true}

pub blanks-pass : (gap rest : List ℕ) → AreAll is_blank gap → after_blanks (gap ++ rest) ≡ after_blanks rest
blanks-pass [] rest h = refl
blanks-pass (b ∷ gap) rest h = rw (h.0) (blanks-pass gap rest (h.1))

pub record Front (line : List ℕ) : Type 0 where
  pub gap : List ℕ
  pub blank : AreAll is_blank gap
  pub whole : line ≡ gap ++ after_blanks line

front-step : (b : ℕ) (bytes : List ℕ) (t : Bool) → is_blank b ≡ t → Front bytes → Front (b ∷ bytes)
front-step b bytes true e f = record { gap = b ∷ f.gap; blank = (e, f.blank); whole = rw e (ap (λ (r : List ℕ). b ∷ r) f.whole) }
front-step b bytes false e f = record { gap = []; blank = tt; whole = rw e refl }

pub front : (line : List ℕ) → Front line
front [] = record { gap = []; blank = tt; whole = refl }
front (b ∷ bytes) = front-step b bytes (is_blank b) refl (front bytes)

-- A token that begins after the blanks of a line is its first piece.
pub lies : (p : Piece) (ps : List Piece) (line text rest : List ℕ) → after_blanks line ≡ text ++ rest → Spells p text → Lies ps rest → Lies (p ∷ ps) line
lies p ps line text rest e s l = let f : Front line = front line in
    (f.gap, text, rest, f.blank, s, f.whole ∙ ap (λ (r : List ℕ). f.gap ++ r) e, l)

all-append : (p : ℕ → Bool) (xs ys : List ℕ) → AreAll p xs → AreAll p ys → AreAll p (xs ++ ys)
all-append p [] ys f g = g
all-append p (x ∷ xs) ys f g = (f.0, all-append p xs ys (f.1) g)

-- Blanks more in front change nothing.
pub lies-blanks : (ps : List Piece) (gap rest : List ℕ) → AreAll is_blank gap → Lies ps rest → Lies ps (gap ++ rest)
lies-blanks [] gap rest h l = all-append is_blank gap rest h l
lies-blanks (p ∷ ps) gap rest h (g, text, more, b, s, e, l) = (gap ++ g, text, more, all-append is_blank gap g h b, s, rw (e, append_assoc) refl, l)

gap-step : (b : ℕ) (bytes rest : List ℕ) (t : Bool) → is_blank b ≡ t → gap_at (b ∷ bytes) ≡ Some rest → (is_blank b ≡ true) × (bytes ≡ rest)
gap-step b bytes rest true e h = (e, inside (rw e at h))
gap-step b bytes rest false e h = let k : None ≡ Some rest = rw e at h in cc

-- One blank is a space.
pub gap-lies : (ps : List Piece) (line rest : List ℕ) → gap_at line ≡ Some rest → Lies ps rest → Lies (Space ∷ ps) line
gap-lies ps [] rest h l = cc
gap-lies ps (b ∷ bytes) rest h l = let k : (is_blank b ≡ true) × (bytes ≡ rest) = gap-step b bytes rest (is_blank b) refl h in
    ([], b ∷ [], rest, tt, (b, k.0, refl), ap (λ (r : List ℕ). b ∷ r) (k.1), l)

pub record Gap (ps : List Piece) (line : List ℕ) : Type 0 where
  pub rest : List ℕ
  pub found : gap_at line ≡ Some rest
  pub lies : Lies ps rest
  pub shorter : length rest < length line

space-gap : (ps : List Piece) (gap rest : List ℕ) (b : ℕ) → AreAll is_blank gap → is_blank b ≡ true → Lies ps rest → Gap ps (gap ++ (b ∷ rest))
space-gap ps [] rest b h e l = record { rest = rest; found = rw e refl; lies = l; shorter = omega arith }
space-gap ps (g ∷ gap) rest b h e l = record {
  rest = gap ++ (b ∷ rest);
  found = rw (h.0) refl;
  lies = lies-blanks ps gap (b ∷ rest) (h.1) (lies-blanks ps (b ∷ []) rest (e, tt) l);
  shorter
      = omega arith;
}

-- A space is one blank, and more blanks before what follows.
pub gap-found : (ps : List Piece) (line : List ℕ) → Lies (Space ∷ ps) line → Gap ps line
gap-found ps line (gap, text, rest, h, (b, t, s), e, l) = let w : line ≡ gap ++ (b ∷ rest) = rw s at e in
    let P : List ℕ → Type 0 = λ z. Gap ps z in subst P (sym w) (space-gap ps gap rest b h t l)

pub record Token (p : Piece) (ps : List Piece) (line : List ℕ) (b : ℕ) (text : List ℕ) : Type 0 where
  pub rest : List ℕ
  pub front : after_blanks line ≡ b ∷ (text ++ rest)
  pub lies : Lies ps rest
  pub shorter : length rest < length line

-- Where the token's text begins with no blank, it stands after the blanks of the line.
pub token : (p : Piece) (ps : List Piece) (line gap text rest : List ℕ) (b : ℕ) → AreAll is_blank gap → is_blank b ≡ false
    → line ≡ gap ++ ((b ∷ text) ++ rest) → Lies ps rest → Token p ps line b text
token p ps line gap text rest b h n e l = record {
  rest = rest;
  front = rw e (blanks-pass gap (b ∷ (text ++ rest)) h ∙ rw n refl);
  lies = l;
  shorter = rw e (simp length-append (omega arith));
}

-- A list that does not go on with such a byte.
abbrev pub Stops : (ℕ → Bool) → List ℕ → Type 0
Stops p [] = Unit {0}
Stops p (b ∷ bytes) = p b ≡ false

-- Pieces before which no name or number goes on.
abbrev pub Divides : List Piece → Type 0
Divides [] = Unit {0}
Divides (Space ∷ ps) = Unit {0}
Divides (Text [] ∷ ps) = ⊥
Divides (Text (c ∷ t) ∷ ps) = is_name_byte c ≡ false
Divides (_ ∷ ps) = ⊥

blank-stops : (p : ℕ → Bool) (gap rest : List ℕ) → p 32 ≡ false → p 9 ≡ false → AreAll is_blank gap → Stops p rest → Stops p (gap ++ rest)
blank-stops p [] rest f g h s = s
blank-stops p (b ∷ gap) rest f g h s = blank-not p b f g (h.0)

blanks-stop : (p : ℕ → Bool) (gap : List ℕ) → p 32 ≡ false → p 9 ≡ false → AreAll is_blank gap → Stops p gap
blanks-stop p [] f g h = tt
blanks-stop p (b ∷ gap) f g h = blank-not p b f g (h.0)

-- No name goes on before them.
pub stops : (ps : List Piece) (rest : List ℕ) → Divides ps → Lies ps rest → Stops is_name_byte rest
stops [] rest d l = blanks-stop is_name_byte rest refl refl l
stops (Space ∷ ps) rest d (gap, text, more, h, (b, t, s), e, l) = rw (e, s) (blank-stops is_name_byte gap (b ∷ more) refl refl h (blank-not is_name_byte b refl refl t))
stops (Text [] ∷ ps) rest d l = absurd d
stops (Text (c ∷ t) ∷ ps) rest d (gap, text, more, h, s, e, l) = rw (e, s) (blank-stops is_name_byte gap (c ∷ (t ++ more)) refl refl h d)
stops (Number n ∷ ps) rest d l = absurd d
stops (Whole n ∷ ps) rest d l = absurd d
stops (Process n ∷ ps) rest d l = absurd d
stops (Register n ∷ ps) rest d l = absurd d

-- Nothing but blanks is left, read either way.
pub end-blank : (line : List ℕ) → are_blanks line ≡ true → AreAll is_blank line
end-blank [] h = tt
end-blank (b ∷ bytes) h = let k : (is_blank b ≡ true) × (are_blanks bytes ≡ true) = both-true (is_blank b) (are_blanks bytes) h in (k.0, end-blank bytes (k.1))

pub blank-end : (line : List ℕ) → AreAll is_blank line → are_blanks line ≡ true
blank-end [] h = refl
blank-end (b ∷ bytes) h = rw (h.0) (blank-end bytes (h.1))
