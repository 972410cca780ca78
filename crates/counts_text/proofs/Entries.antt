-- Entries in order: they are the same whatever the order in which their records are listed.
use Rattle.std.proofs.Common.{◌≡◌, ℕ, ◌<◌, ◌⊎◌, Bool, true, false, nat_lt, if◌then◌else◌, List, [], ◌∷◌, map, refl, sym, ◌∙◌, ap, arith, inl, inr}
use Rattle.std.proofs.lemmas.Bool.{cases_Bool}
use Rattle.std.proofs.lemmas.Bool.Decides.{nat_tests}
use Rattle.std.proofs.lemmas.Cmp.{nat_cmp_total, nat_list_cmp_total, on_total, then_total}
use Rattle.std.specs.Cmp.{IsTotalOrder}
use Rattle.std.specs.Ordering.{is_lt}
use Rattle.plain_term.specs.Order.{name_of}
use Rattle.plain_term.proofs.Rising.{is-less}
use Rattle.store_image.specs.Counting.{entry_of_bin, bins_by_id, entry_of_fun, funs_by_name, insert_bin, insert_fun}
use Rattle.store_image.specs.Image.{Stretch, insert_piece, pieces_by_place}
use Rattle.plain_machine.specs.Maps.{CountedBin, CountedFun, fun_order}
use Rattle.store_image.proofs.Pieces.Ordered.{AllPieces, EachTwo, all-any, ordered}
use Rattle.atom_names.specs.Names.{AreNames}
use Rattle.term_words.specs.Counted.{In}
use Rattle.shared_rec.specs.Record.{owner_in}
use Rattle.record_move.specs.Tables.{OwnersRise}
use Rattle.counts_text.specs.Told.{CanReadTables, bin_of, by_name, fun_of, inserted, is_before}
use Rattle.counts_text.proofs.Ordered.{before-back, same-owner}

-- Insertion by any test that tells which of two comes first.

module _ {A : Type 0} (less : A → A → Bool) where
  abbrev pub put_in : A → List A → List A
  put_in x [] = x ∷ []
  put_in x (y ∷ ys) = if less y x then y ∷ put_in x ys else (x ∷ y ∷ ys)

  abbrev pub in_order : List A → List A
  in_order [] = []
  in_order (x ∷ xs) = put_in x (in_order xs)

  abbrev pub FirstOf : A → A → Type 0
  FirstOf x y = (less x y ≡ true) × (less y x ≡ false)

  abbrev pub OneFirst : A → A → Type 0
  OneFirst x y = FirstOf x y ⊎ FirstOf y x

  one-turned : (x y : A) → OneFirst x y → OneFirst y x
  one-turned x y (inl f) = inr f
  one-turned x y (inr f) = inl f

  put-after : (x z : A) (zs : List A) → less z x ≡ true → put_in x (z ∷ zs) ≡ z ∷ put_in x zs
  put-after x z zs e = rw e refl

  put-here : (x z : A) (zs : List A) → less z x ≡ false → put_in x (z ∷ zs) ≡ x ∷ z ∷ zs
  put-here x z zs e = rw e refl

  swap-between : (x y z : A) (zs : List A) → less z x ≡ true → less z y ≡ false → less y x ≡ true → put_in x (put_in y (z ∷ zs)) ≡ put_in y (put_in x (z ∷ zs))
  swap-between x y z zs zx zy yx =
      ap (put_in x) (put-here y z zs zy)
      ∙ (put-after x y (z ∷ zs) yx
      ∙ (ap (λ q. y ∷ q) (put-after x z zs zx) ∙ (sym (put-here y z (put_in x zs) zy) ∙ sym (ap (put_in y) (put-after x z zs zx)))))

  swap-before : (x y z : A) (zs : List A) → less z x ≡ false → less z y ≡ false → FirstOf x y → put_in x (put_in y (z ∷ zs)) ≡ put_in y (put_in x (z ∷ zs))
  swap-before x y z zs zx zy f =
      ap (put_in x) (put-here y z zs zy)
      ∙ (put-here x y (z ∷ zs) f.1
      ∙ (ap (λ q. x ∷ q) (sym (put-here y z zs zy)) ∙ (sym (put-after y x (z ∷ zs) f.0) ∙ sym (ap (put_in y) (put-here x z zs zx)))))

  module _ (trans : (x y z : A) → less x y ≡ true → less y z ≡ true → less x z ≡ true) where
    comes-first : (x y z : A) → OneFirst x y → less z x ≡ true → less z y ≡ false → less y x ≡ true
    comes-first x y z (inl f) zx zy = absurd (let t : less z y ≡ true = trans z x y zx f.0 in let no : false ≡ true = sym zy ∙ t in cc)
    comes-first x y z (inr f) zx zy = f.0

    put-swap : (x y : A) → OneFirst x y → (zs : List A) → put_in x (put_in y zs) ≡ put_in y (put_in x zs)
    put-swap x y (inl f) [] = put-here x y [] f.1 ∙ sym (put-after y x [] f.0)
    put-swap x y (inr f) [] = put-after x y [] f.0 ∙ sym (put-here y x [] f.1)
    put-swap x y one (z ∷ zs) = elim (cases_Bool (less z x)) [
      | inl zx ↦ elim (cases_Bool (less z y)) [
        | inl zy ↦
            ap (put_in x) (put-after y z zs zy)
            ∙ (put-after x z (put_in y zs) zx
            ∙ (ap (λ q. z ∷ q) (put-swap x y one zs) ∙ (sym (put-after y z (put_in x zs) zy) ∙ sym (ap (put_in y) (put-after x z zs zx)))))
        | inr zy ↦ swap-between x y z zs zx zy (comes-first x y z one zx zy)
      ]
      | inr zx ↦ elim (cases_Bool (less z y)) [
        | inl zy ↦ sym (swap-between y x z zs zy zx (comes-first y x z (one-turned x y one) zy zx))
        | inr zy ↦ elim one [
          | inl f ↦ swap-before x y z zs zx zy f
          | inr f ↦ sym (swap-before y x z zs zy zx f)
        ]
      ]
    ]

    -- Entries of pieces in the order of their places.
    piece-put : (f : Stretch → A) (r : Stretch) (qs : List Stretch) → AllPieces (λ q. OneFirst (f r) (f q)) qs → in_order (map f (insert_piece r qs)) ≡ put_in (f r) (in_order (map f qs))
    piece-put f r [] all = refl
    piece-put f r (q ∷ qs) (here, more) = elim (cases_Bool (nat_lt q.place r.place)) [
      | inl e ↦ rw e (ap (put_in (f q)) (piece-put f r qs more) ∙ put-swap (f q) (f r) (one-turned (f r) (f q) here) (in_order (map f qs)))
      | inr e ↦ rw e refl
    ]

    pub any-places : (f : Stretch → A) (rs : List Stretch) → EachTwo (λ r q. OneFirst (f r) (f q)) rs → in_order (map f (pieces_by_place rs)) ≡ in_order (map f rs)
    any-places f [] two = refl
    any-places f (r ∷ rs) (first, rest) =
        piece-put f r (pieces_by_place rs) (ordered (AllPieces (λ q. OneFirst (f r) (f q))) (all-any (λ q. OneFirst (f r) (f q))) rs first)
        ∙ ap (put_in (f r)) (any-places f rs rest)

-- Entries of records, by a function from a record's place to its piece.

map-pieces : {A : Type 0} (f : Stretch → A) (g : ℕ → A) (piece : ℕ → Stretch) (vs : List ℕ) → ((v : ℕ) → In v vs → f (piece v) ≡ g v) → map f (map piece vs) ≡ map g vs
map-pieces f g piece [] same = refl
map-pieces f g piece (v ∷ vs) same = ap (λ z. z ∷ map f (map piece vs)) (same v (inl refl)) ∙ ap (λ z. g v ∷ z) (map-pieces f g piece vs (λ w i. same w (inr i)))

each-one : {A : Type 0} (P : A → A → Type 0) (f : Stretch → A) (g : ℕ → A) (piece : ℕ → Stretch) (v : ℕ) (us : List ℕ) → f (piece v) ≡ g v → ((u : ℕ) → In u us → f (piece u) ≡ g u)
    → ((u : ℕ) → In u us → P (g v) (g u)) → AllPieces (λ q. P (f (piece v)) (f q)) (map piece us)
each-one P f g piece v [] here same each = tt
each-one P f g piece v (u ∷ us) here same each = (
  rw (here, same u (inl refl)) (each u (inl refl)),
  each-one P f g piece v us here (λ w i. same w (inr i)) (λ w i. each w (inr i)),
)

-- Binaries by rising ids.

abbrev id_before : CountedBin → CountedBin → Bool
id_before c b = nat_lt c.id b.id

bin-put : (b : CountedBin) (cs : List CountedBin) → insert_bin b cs ≡ put_in id_before b cs
bin-put b [] = refl
bin-put b (c ∷ cs) = ap (λ z. if nat_lt c.id b.id then c ∷ z else (b ∷ c ∷ cs)) (bin-put b cs)

bins-put : (bs : List CountedBin) → bins_by_id bs ≡ in_order id_before bs
bins-put [] = refl
bins-put (b ∷ bs) = ap (insert_bin b) (bins-put bs) ∙ bin-put b (in_order id_before bs)

id-trans : (x y z : CountedBin) → id_before x y ≡ true → id_before y z ≡ true → id_before x z ≡ true
id-trans x y z a b = grind (arith, nat_tests, a, b)

id-first : (a b : ℕ) → a < b → (nat_lt a b ≡ true) × (nat_lt b a ≡ false)
id-first a b l = (grind (arith, nat_tests, l), grind (arith, nat_tests, l))

bins-stay : (mem vs : List ℕ) → OwnersRise mem vs → bins_by_id (map (bin_of mem) vs) ≡ map (bin_of mem) vs
bins-stay mem [] r = refl
bins-stay mem (v ∷ vs) (first, rest) = ap (insert_bin (bin_of mem v)) (bins-stay mem vs rest) ∙ stays vs first
  where
    stays : (ws : List ℕ) → ((w : ℕ) → In w ws → owner_in mem v < owner_in mem w) → insert_bin (bin_of mem v) (map (bin_of mem) ws) ≡ bin_of mem v ∷ map (bin_of mem) ws
    stays [] less = refl
    stays (w ∷ ws) less = rw (id-first (owner_in mem v) (owner_in mem w) (less w (inl refl))).1 refl

bins-two : (mem : List ℕ) (piece : ℕ → Stretch) (vs : List ℕ) → ((v : ℕ) → In v vs → entry_of_bin (piece v) ≡ bin_of mem v) → OwnersRise mem vs
    → EachTwo (λ r q. OneFirst id_before (entry_of_bin r) (entry_of_bin q)) (map piece vs)
bins-two mem piece [] same r = tt
bins-two mem piece (v ∷ vs) same (first, rest) = (
  each-one (OneFirst id_before) entry_of_bin (bin_of mem) piece v vs (same v (inl refl)) (λ u i. same u (inr i)) (λ u i. inl (id-first (owner_in mem v) (owner_in mem u) (first u i))),
  bins-two mem piece vs (λ u i. same u (inr i)) rest,
)

-- The entries of a table of binaries are those of its pieces, in the order of places.
pub bins-of-pieces : (mem : List ℕ) (piece : ℕ → Stretch) (vs : List ℕ) → ((v : ℕ) → In v vs → entry_of_bin (piece v) ≡ bin_of mem v) → OwnersRise mem vs
    → map (bin_of mem) vs ≡ bins_by_id (map entry_of_bin (pieces_by_place (map piece vs)))
bins-of-pieces mem piece vs same rise =
    sym (bins-stay mem vs rise)
    ∙ (ap bins_by_id (sym (map-pieces entry_of_bin (bin_of mem) piece vs same))
    ∙ (bins-put (map entry_of_bin (map piece vs))
    ∙ (sym (any-places id_before id-trans entry_of_bin (map piece vs) (bins-two mem piece vs same rise)) ∙ sym (bins-put (map entry_of_bin (pieces_by_place (map piece vs)))))))

-- Funs by their names, and then by arity.

module _ (names : List (List ℕ)) where
  abbrev fun_before : CountedFun → CountedFun → Bool
  fun_before g f = is_lt (fun_order names g f)

  order-total : IsTotalOrder (fun_order names)
  order-total = then_total (on_total (λ (f : CountedFun). name_of names f.name) nat_list_cmp_total) (on_total (λ (f : CountedFun). f.arity) nat_cmp_total)

  fun-trans : (x y z : CountedFun) → fun_before x y ≡ true → fun_before y z ≡ true → fun_before x z ≡ true
  fun-trans x y z a b = ap is_lt (order-total.trans x y z (is-less (fun_order names x y) a) (is-less (fun_order names y z) b))

  fun-put : (f : CountedFun) (gs : List CountedFun) → insert_fun names f gs ≡ put_in fun_before f gs
  fun-put f [] = refl
  fun-put f (g ∷ gs) = ap (λ z. if is_lt (fun_order names g f) then g ∷ z else (f ∷ g ∷ gs)) (fun-put f gs)

  funs-put : (fs : List CountedFun) → funs_by_name names fs ≡ in_order fun_before fs
  funs-put [] = refl
  funs-put (f ∷ fs) = ap (insert_fun names f) (funs-put fs) ∙ fun-put f (in_order fun_before fs)

  record-put : (mem : List ℕ) (v : ℕ) (ws : List ℕ) → insert_fun names (fun_of mem v) (map (fun_of mem) ws) ≡ map (fun_of mem) (inserted mem names v ws)
  record-put mem v [] = refl
  record-put mem v (w ∷ ws) = elim (cases_Bool (is_before mem names w v)) [
    | inl e ↦ rw e (ap (λ z. fun_of mem w ∷ z) (record-put mem v ws))
    | inr e ↦ rw e refl
  ]

  records-put : (mem vs : List ℕ) → funs_by_name names (map (fun_of mem) vs) ≡ map (fun_of mem) (by_name mem names vs)
  records-put mem [] = refl
  records-put mem (v ∷ vs) = ap (insert_fun names (fun_of mem v)) (records-put mem vs) ∙ record-put mem v (by_name mem names vs)

  one-fun-first : (mem : List ℕ) (v w : ℕ) → AreNames names → CanReadTables mem names v → CanReadTables mem names w → owner_in mem v < owner_in mem w
      → OneFirst fun_before (fun_of mem v) (fun_of mem w)
  one-fun-first mem v w n rv rd less = elim (cases_Bool (is_before mem names v w)) [
    | inl a ↦ elim (cases_Bool (is_before mem names w v)) [
      | inl b ↦ absurd (before-back mem names v w a b)
      | inr b ↦ inl (a, b)
    ]
    | inr a ↦ elim (cases_Bool (is_before mem names w v)) [
      | inl b ↦ inr (b, a)
      | inr b ↦ absurd (omega (arith, less, same-owner mem names v w n rv rd a b))
    ]
  ]

  funs-two : (mem : List ℕ) (piece : ℕ → Stretch) (vs : List ℕ) → AreNames names → ((v : ℕ) → In v vs → CanReadTables mem names v) → ((v : ℕ) → In v vs → entry_of_fun (piece v) ≡ fun_of mem v)
      → OwnersRise mem vs → EachTwo (λ r q. OneFirst fun_before (entry_of_fun r) (entry_of_fun q)) (map piece vs)
  funs-two mem piece [] n read same r = tt
  funs-two mem piece (v ∷ vs) n read same (first, rest) = (
    each-one (OneFirst fun_before) entry_of_fun (fun_of mem) piece v vs (same v (inl refl)) (λ u i. same u (inr i))
        (λ u i. one-fun-first mem v u n (read v (inl refl)) (read u (inr i)) (first u i)),
    funs-two mem piece vs n (λ u i. read u (inr i)) (λ u i. same u (inr i)) rest,
  )

  -- The entries of a table of funs are those of its pieces, in the order of places.
  pub funs-of-pieces : (mem : List ℕ) (piece : ℕ → Stretch) (vs : List ℕ) → AreNames names → ((v : ℕ) → In v vs → CanReadTables mem names v)
      → ((v : ℕ) → In v vs → entry_of_fun (piece v) ≡ fun_of mem v) → OwnersRise mem vs
      → map (fun_of mem) (by_name mem names vs) ≡ funs_by_name names (map entry_of_fun (pieces_by_place (map piece vs)))
  funs-of-pieces mem piece vs n read same rise =
      sym (records-put mem vs)
      ∙ (ap (funs_by_name names) (sym (map-pieces entry_of_fun (fun_of mem) piece vs same))
      ∙ (funs-put (map entry_of_fun (map piece vs))
      ∙ (sym (any-places fun_before fun-trans entry_of_fun (map piece vs) (funs-two mem piece vs n read same rise))
      ∙ sym (funs-put (map entry_of_fun (pieces_by_place (map piece vs)))))))
