-- Pieces in the order of their places: what is true of all or of each two stays so, and each ends before the next one begins.
use Rattle.std.proofs.Common.{◌≡◌, ℕ, ◌+◌, ◌<◌, ◌≤◌, ◌⊎◌, Bool, true, false, nat_lt, if◌then◌else◌, List, [], ◌∷◌, ◌++◌, length, map, refl, ap, arith, inl, inr}
use Rattle.std.proofs.lemmas.Bool.Decides.{nat_tests}
use Rattle.term_words.specs.Counted.{In, Distinct}
use Rattle.store_image.specs.Image.{AllBins, AllFuns, AllWithin, FollowEachOther, HasPieces, LiesIn, Stretch, insert_piece, piece_places, pieces_by_place}

-- What is true of pieces whatever their order: of more where of fewer, and of two that change their places.
pub record IsAnyOrder (P : List Stretch → Type 0) : Type 0 where
  pub next : (r : Stretch) (xs ys : List Stretch) → (P xs → P ys) → P (r ∷ xs) → P (r ∷ ys)
  pub swap : (r q : Stretch) (rs : List Stretch) → P (r ∷ q ∷ rs) → P (q ∷ r ∷ rs)

by-test : (P : List Stretch → Type 0) (t : Bool) (xs ys : List Stretch) → (t ≡ true → P xs) → (t ≡ false → P ys) → P (if t then xs else ys)
by-test P true xs ys a b = a refl
by-test P false xs ys a b = b refl

inserted : (P : List Stretch → Type 0) → IsAnyOrder P → (r : Stretch) (qs : List Stretch) → P (r ∷ qs) → P (insert_piece r qs)
inserted P o r [] h = h
inserted P o r (q ∷ qs) h =
    by-test P (nat_lt q.place r.place) (q ∷ insert_piece r qs) (r ∷ q ∷ qs) (λ e. o.next q (r ∷ qs) (insert_piece r qs) (inserted P o r qs) (o.swap r q qs h)) (λ e. h)

pub ordered : (P : List Stretch → Type 0) → IsAnyOrder P → (rs : List Stretch) → P rs → P (pieces_by_place rs)
ordered P o [] h = h
ordered P o (r ∷ rs) h = inserted P o r (pieces_by_place rs) (o.next r rs (pieces_by_place rs) (ordered P o rs) h)

-- Each of the pieces, and each two of them.

abbrev pub AllPieces : (Stretch → Type 0) → List Stretch → Type 0
AllPieces A [] = Unit {0}
AllPieces A (r ∷ rs) = A r × AllPieces A rs

abbrev pub EachTwo : (Stretch → Stretch → Type 0) → List Stretch → Type 0
EachTwo A [] = Unit {0}
EachTwo A (r ∷ rs) = AllPieces (A r) rs × EachTwo A rs

pub all-any : (A : Stretch → Type 0) → IsAnyOrder (AllPieces A)
all-any A = record { next = λ r xs ys go h. (h.0, go h.1); swap = λ r q rs h. (h.1.0, (h.0, h.1.1)) }

two-inserted : (A : Stretch → Stretch → Type 0) → ((r q : Stretch) → A r q → A q r) → (r : Stretch) (qs : List Stretch) → AllPieces (A r) qs → EachTwo A qs → EachTwo A (insert_piece r qs)
two-inserted A turned r [] a b = (tt, tt)
two-inserted A turned r (q ∷ qs) (here, more) (first, rest) =
    by-test (EachTwo A) (nat_lt q.place r.place) (q ∷ insert_piece r qs) (r ∷ q ∷ qs)
    (λ e. (inserted (AllPieces (A q)) (all-any (A q)) r qs (turned r q here, first), two-inserted A turned r qs more rest))
    (λ e. ((here, more), (first, rest)))

pub two-ordered : (A : Stretch → Stretch → Type 0) → ((r q : Stretch) → A r q → A q r) → (rs : List Stretch) → EachTwo A rs → EachTwo A (pieces_by_place rs)
two-ordered A turned [] b = tt
two-ordered A turned (r ∷ rs) (a, b) = two-inserted A turned r (pieces_by_place rs) (ordered (AllPieces (A r)) (all-any (A r)) rs a) (two-ordered A turned rs b)

-- Pieces of at least one word that are apart follow each other.

abbrev pub EndsBefore : Stretch → Stretch → Type 0
EndsBefore r q = r.place + length r.words ≤ q.place

abbrev pub PiecesApart : Stretch → Stretch → Type 0
PiecesApart r q = EndsBefore r q ⊎ EndsBefore q r

abbrev pub HasWords : Stretch → Type 0
HasWords r = 0 < length r.words

ends-first : (r q : Stretch) → PiecesApart r q → nat_lt q.place r.place ≡ true → EndsBefore q r
ends-first r q (inl a) e = absurd (let less : q.place < r.place = grind (arith, nat_tests, e) in omega (arith, a, less))
ends-first r q (inr a) e = a

ends-here : (r q : Stretch) → PiecesApart r q → HasWords q → nat_lt q.place r.place ≡ false → EndsBefore r q
ends-here r q (inl a) some e = a
ends-here r q (inr a) some e = absurd (let most : r.place ≤ q.place = grind (arith, nat_tests, e) in omega (arith, a, most, some))

ends-later : (r q : Stretch) (xs : List Stretch) → EndsBefore r q → AllPieces (EndsBefore q) xs → AllPieces (EndsBefore r) xs
ends-later r q [] a b = tt
ends-later r q (x ∷ xs) a (b, more) = (omega (arith, a, b), ends-later r q xs a more)

before-inserted : (r : Stretch) (qs : List Stretch) → AllPieces (PiecesApart r) qs → AllPieces HasWords qs → EachTwo EndsBefore qs → EachTwo EndsBefore (insert_piece r qs)
before-inserted r [] a some b = (tt, tt)
before-inserted r (q ∷ qs) (here, more) (some, others) (first, rest) =
    by-test (EachTwo EndsBefore) (nat_lt q.place r.place) (q ∷ insert_piece r qs) (r ∷ q ∷ qs)
    (λ e. (inserted (AllPieces (EndsBefore q)) (all-any (EndsBefore q)) r qs (ends-first r q here e, first), before-inserted r qs more others rest))
    (λ e. ((ends-here r q here some e, ends-later r q qs (ends-here r q here some e) first), (first, rest)))

before-ordered : (rs : List Stretch) → EachTwo PiecesApart rs → AllPieces HasWords rs → EachTwo EndsBefore (pieces_by_place rs)
before-ordered [] a some = tt
before-ordered (r ∷ rs) (a, b) (here, some) =
    before-inserted r (pieces_by_place rs) (ordered (AllPieces (PiecesApart r)) (all-any (PiecesApart r)) rs a) (ordered (AllPieces HasWords) (all-any HasWords) rs some)
    (before-ordered rs b some)

follow : (rs : List Stretch) → EachTwo EndsBefore rs → FollowEachOther rs
follow [] b = tt
follow (r ∷ []) b = tt
follow (r ∷ q ∷ rs) (a, rest) = (a.0, follow (q ∷ rs) rest)

pub follow-ordered : (rs : List Stretch) → EachTwo PiecesApart rs → AllPieces HasWords rs → FollowEachOther (pieces_by_place rs)
follow-ordered rs a some = follow (pieces_by_place rs) (before-ordered rs a some)

-- What an image says of its records is true in any order.

pub has-any : (mem : List ℕ) → IsAnyOrder (HasPieces mem)
has-any mem = record { next = λ r xs ys go h. (h.0, h.1, go h.2); swap = λ r q rs h. (h.2.0, h.2.1, (h.0, h.1, h.2.2)) }

pub bins-any : (c : ℕ → ℕ → Bool) (shared : List (List ℕ)) (mem : List ℕ) → IsAnyOrder (AllBins c shared mem)
bins-any c shared mem = record { next = λ r xs ys go h. (h.0, go h.1); swap = λ r q rs h. (h.1.0, (h.0, h.1.1)) }

pub funs-any : (c : ℕ → ℕ → Bool) (mem : List ℕ) → IsAnyOrder (AllFuns c mem)
funs-any c mem = record { next = λ r xs ys go h. (h.0, go h.1); swap = λ r q rs h. (h.1.0, (h.0, h.1.1)) }

pub lies-any : (a : ℕ) → IsAnyOrder (λ rs. LiesIn rs a)
lies-any a = record {
  next = λ r xs ys go h. elim h [ inl here ↦ inl here | inr more ↦ inr (go more) ];
  swap = λ r q rs h. elim h [ inl first ↦ inr (inl first) | inr more ↦ elim more [ inl second ↦ inl second | inr rest ↦ inr (inr rest) ] ];
}

pub place-any : (v : ℕ) → IsAnyOrder (λ rs. In v (piece_places rs))
place-any v = record {
  next = λ r xs ys go h. elim h [ inl here ↦ inl here | inr more ↦ inr (go more) ];
  swap = λ r q rs h. elim h [ inl first ↦ inr (inl first) | inr more ↦ elim more [ inl second ↦ inl second | inr rest ↦ inr (inr rest) ] ];
}

pub within-any : (from to : ℕ) → IsAnyOrder (AllWithin from to)
within-any from to = record { next = λ r xs ys go h. (h.0, go h.1); swap = λ r q rs h. (h.1.0, (h.0, h.1.1)) }

-- Numbers of pieces that differ two by two are listed each once.

none-in : (f : ℕ → ℕ) (v : ℕ) (rs : List Stretch) → AllPieces (λ q. f v ≡ f q.place → ⊥) rs → In (f v) (map f (piece_places rs)) → ⊥
none-in f v [] a i = i
none-in f v (q ∷ rs) (here, more) (inl e) = here e
none-in f v (q ∷ rs) (here, more) (inr i) = none-in f v rs more i

pub each-once : (f : ℕ → ℕ) (rs : List Stretch) → EachTwo (λ r q. f r.place ≡ f q.place → ⊥) rs → Distinct (map f (piece_places rs))
each-once f [] a = tt
each-once f (r ∷ rs) (a, b) = (none-in f r.place rs a, each-once f rs b)

-- Two lists of pieces, one after the other.

pub has-both : (mem : List ℕ) (rs qs : List Stretch) → HasPieces mem rs → HasPieces mem qs → HasPieces mem (rs ++ qs)
has-both mem [] qs a b = b
has-both mem (r ∷ rs) qs (fits, is, rest) b = (fits, is, has-both mem rs qs rest b)

pub within-both : (from to : ℕ) (rs qs : List Stretch) → AllWithin from to rs → AllWithin from to qs → AllWithin from to (rs ++ qs)
within-both from to [] qs a b = b
within-both from to (r ∷ rs) qs (here, rest) b = (here, within-both from to rs qs rest b)

pub lies-left : (a : ℕ) (rs qs : List Stretch) → LiesIn rs a → LiesIn (rs ++ qs) a
lies-left a [] qs h = absurd h
lies-left a (r ∷ rs) qs (inl here) = inl here
lies-left a (r ∷ rs) qs (inr more) = inr (lies-left a rs qs more)

pub lies-right : (a : ℕ) (rs qs : List Stretch) → LiesIn qs a → LiesIn (rs ++ qs) a
lies-right a [] qs h = h
lies-right a (r ∷ rs) qs h = inr (lies-right a rs qs h)

pub places-both : (rs qs : List Stretch) → piece_places (rs ++ qs) ≡ piece_places rs ++ piece_places qs
places-both [] qs = refl
places-both (r ∷ rs) qs = ap (λ z. r.place ∷ z) (places-both rs qs)
