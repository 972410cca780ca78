-- The text of `counts`, from the image of a store: one entry a record.
use Rattle.std.specs.Prelude.{ℕ, ◌/◌, ◌%◌, nat_lt, if◌then◌else◌, List, [], ◌∷◌, map, slice_index}
use Rattle.std.specs.Ordering.{is_lt}
use Rattle.plain_machine.specs.Maps.{CountedBin, CountedFun, counts_text, fun_order}
use Rattle.store_image.specs.Image.{Image, Stretch}

-- The entry of a shared binary's record: its second word is the id, its third the count.
abbrev pub entry_of_bin : Stretch → CountedBin
entry_of_bin r = record { id = slice_index r.words 1; count = slice_index r.words 2 }

-- The entry of a fun's record: its second word is 256 times the number of the name, and the arity.
abbrev pub entry_of_fun : Stretch → CountedFun
entry_of_fun r = record { name = slice_index r.words 1 / 256; arity = slice_index r.words 1 % 256; count = slice_index r.words 2 }

-- Entries of binaries with rising ids.
abbrev pub insert_bin : CountedBin → List CountedBin → List CountedBin
insert_bin b [] = b ∷ []
insert_bin b (c ∷ cs) = if nat_lt c.id b.id then c ∷ insert_bin b cs else (b ∷ c ∷ cs)

abbrev pub bins_by_id : List CountedBin → List CountedBin
bins_by_id [] = []
bins_by_id (b ∷ bs) = insert_bin b (bins_by_id bs)

-- Entries of funs by the bytes of their names, and then by arity.
abbrev pub insert_fun : (names : List (List ℕ)) → CountedFun → List CountedFun → List CountedFun
insert_fun names f [] = f ∷ []
insert_fun names f (g ∷ gs) = if is_lt (fun_order names g f) then g ∷ insert_fun names f gs else (f ∷ g ∷ gs)

abbrev pub funs_by_name : (names : List (List ℕ)) → List CountedFun → List CountedFun
funs_by_name names [] = []
funs_by_name names (f ∷ fs) = insert_fun names f (funs_by_name names fs)

-- The text of `counts` for an image.
abbrev pub image_counts : (names : List (List ℕ)) → Image → List ℕ
image_counts names i = counts_text names (bins_by_id (map entry_of_bin i.bins)) (funs_by_name names (map entry_of_fun i.funs))
