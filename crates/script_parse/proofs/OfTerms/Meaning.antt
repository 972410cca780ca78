-- What goes last while a line is read comes to the names and items of its terms.
use Rattle.std.proofs.Common.{◌≡◌, ℕ, ◌<◌, ◌≤◌, ◌⊎◌, Bool, true, false, nat_le, List, [], ◌∷◌, ◌++◌, length, map, set, Option, Some, None, refl, sym, ◌∙◌, ap, subst, inl, inr, arith, append_assoc, length-append}
use Rattle.std.proofs.lemmas.Bool.{leb-true, leb-false}
use Rattle.std.proofs.lemmas.List.{append-nil}
use Rattle.std.proofs.Math.Seq.{set-append_seam}
use Rattle.atom_names.specs.Names.{index_of, most_names, with_name}
use Rattle.plain_term.specs.declared.item.Item.{Item}
use Rattle.plain_term.specs.declared.item.Item.TheVariants as item
use Rattle.script_grammar.specs.Written.{Term, Terms, TermPairs, terms_len, term_pairs_len}
use Rattle.script_grammar.specs.Written.Term.{Int, Atom, Pid, Held, Listed, Barred, Tuple, Map, Bin}
use Rattle.script_grammar.specs.Written.Terms.{end, ◌▹◌}
use Rattle.script_grammar.specs.Written.TermPairs.{stop, pair}
use Rattle.script_grammar.specs.Grammar.{IsBuiltTerm, AreBuiltTerms, AreBuiltPairs}
use Rattle.script_grammar.specs.Names.{number_of, with_names, atoms_of, atoms_of_all, atoms_of_pairs, items_of, listed_items, all_items, pairs_items}
use Rattle.atom_names.proofs.Places.{index_of-append, index_of-push}
use Rattle.script_parse.specs.declared.forms.Form.{Form}
use Rattle.script_parse.specs.declared.forms.Form.TheVariants as form
use Rattle.script_parse.specs.Output.{Out, out, push, led_items, led, put_at, put_atom, put_name, put, put_terms, put_pairs, put_bytes}

-- The names and items that came, so long as each name found a place.
pub record Put (o : Out) (atoms : List (List ℕ)) (its : List (List ℕ) → List Item) (p : Out) : Type 0 where
  pub clear : p.full ≡ false → o.full ≡ false
  pub names : p.full ≡ false → p.names ≡ with_names o.names atoms
  pub fits : p.full ≡ false → length o.names ≤ most_names → length p.names ≤ most_names
  pub over : o.full ≡ false → p.full ≡ true → most_names < length (with_names o.names atoms)
  pub items : p.full ≡ false → (more : List (List ℕ)) → p.items ≡ o.items ++ its (p.names ++ more)

-- A name that is there or comes has a place, and keeps it.
place-step : (names : List (List ℕ)) (a : List ℕ) (r : Option ℕ) → index_of names a ≡ r → (k : ℕ) × (index_of (with_name names a) a ≡ Some k)
place-step names a None e = let w : with_name names a ≡ names ++ a ∷ [] = rw e refl in
    let P : List (List ℕ) → Type 0 = λ z. (k : ℕ) × (index_of z a ≡ Some k) in subst P (sym w) (length names, index_of-push names a (length names) refl e)
place-step names a (Some k) e = let w : with_name names a ≡ names = rw e refl in
    let P : List (List ℕ) → Type 0 = λ z. (k : ℕ) × (index_of z a ≡ Some k) in subst P (sym w) (k, e)

pub number-stays : (names more : List (List ℕ)) (a : List ℕ) → number_of (with_name names a ++ more) a ≡ number_of (with_name names a) a
number-stays names more a = let k : (k : ℕ) × (index_of (with_name names a) a ≡ Some k) = place-step names a (index_of names a) refl in
    rw (index_of-append (with_name names a) more a (k.0) (k.1), k.1) refl

grown-step : (names : List (List ℕ)) (a : List ℕ) (r : Option ℕ) → index_of names a ≡ r → (more : List (List ℕ)) × (with_name names a ≡ names ++ more)
grown-step names a None e = (a ∷ [], rw e refl)
grown-step names a (Some k) e = ([], rw e (sym (append-nil names)))

-- Names that come go last.
pub names-grown : (atoms names : List (List ℕ)) → (more : List (List ℕ)) × (with_names names atoms ≡ names ++ more)
names-grown [] names = ([], sym (append-nil names))
names-grown (a ∷ atoms) names = let f : (more : List (List ℕ)) × (with_name names a ≡ names ++ more) = grown-step names a (index_of names a) refl in
    let g : (more : List (List ℕ)) × (with_names (with_name names a) atoms ≡ with_name names a ++ more) = names-grown atoms (with_name names a) in
    (f.0 ++ g.0, g.1 ∙ (ap (λ (z : List (List ℕ)). z ++ g.0) (f.1) ∙ append_assoc names (f.0) (g.0)))

pub names-longer : (atoms names : List (List ℕ)) → length names ≤ length (with_names names atoms)
names-longer atoms names = let g : (more : List (List ℕ)) × (with_names names atoms ≡ names ++ more) = names-grown atoms names in
    rw (g.1) (simp length-append (omega arith))

pub names-then : (xs ys names : List (List ℕ)) → with_names names (xs ++ ys) ≡ with_names (with_names names xs) ys
names-then [] ys names = refl
names-then (a ∷ xs) ys names = names-then xs ys (with_name names a)

whether : (b : Bool) → (b ≡ true) ⊎ (b ≡ false)
whether true = inl refl
whether false = inr refl

-- One after the other.
pub put-then : (o q p : Out) (xs ys : List (List ℕ)) (its jts : List (List ℕ) → List Item) → Put o xs its q → Put q ys jts p → Put o (xs ++ ys) (λ names. its names ++ jts names) p
put-then o q p xs ys its jts f g = record {
  clear = λ c. f.clear (g.clear c);
  names = λ c. g.names c ∙ (ap (λ (z : List (List ℕ)). with_names z ys) (f.names (g.clear c)) ∙ sym (names-then xs ys o.names));
  fits = λ c h. g.fits c (f.fits (g.clear c) h);
  over = λ c h. rw (names-then xs ys o.names) (elim (whether q.full) [
    | inl e ↦ let far : most_names < length (with_names o.names xs) = f.over c e in omega (arith, names-longer ys (with_names o.names xs), far)
    | inr e ↦ let same : q.names ≡ with_names o.names xs = f.names e in
        let P : List (List ℕ) → Type 0 = λ z. most_names < length (with_names z ys) in subst P same (g.over e h)
  ]);
  items = λ c more. let w : (m : List (List ℕ)) × (with_names q.names ys ≡ q.names ++ m) = names-grown ys q.names in
      let same : q.names ++ (w.0 ++ more) ≡ p.names ++ more = sym (append_assoc q.names (w.0) more) ∙ ap (λ (z : List (List ℕ)). z ++ more) (sym (g.names c ∙ w.1)) in
      g.items c more ∙ (ap (λ (z : List Item). z ++ jts (p.names ++ more)) (f.items (g.clear c) (w.0 ++ more) ∙ ap (λ (z : List (List ℕ)). o.items ++ its z) same)
      ∙ append_assoc o.items (its (p.names ++ more)) (jts (p.names ++ more)));
}

false_true : {A : Type 0} (b : Bool) → b ≡ false → b ≡ true → A
false_true b e f = let t : false ≡ true = sym e ∙ f in cc

pub put-item : (o : Out) (i : Item) → Put o [] (λ names. i ∷ []) (push o i)
put-item o i = record { clear = λ c. c; names = λ c. refl; fits = λ c h. h; over = λ c h. false_true o.full c h; items = λ c more. refl }

pub put-none : (o : Out) → Put o [] (λ names. []) o
put-none o = record { clear = λ c. c; names = λ c. refl; fits = λ c h. h; over = λ c h. false_true o.full c h; items = λ c more. sym (append-nil o.items) }

atom-step : (o : Out) (a : List ℕ) (t : Bool) → nat_le (length (with_name o.names a)) most_names ≡ t → Put o (a ∷ []) (λ names. item.Atom (number_of names a) ∷ []) (put_atom o a)
atom-step o a true e = let same : put_atom o a ≡ out (with_name o.names a) o.full (o.items ++ item.Atom (number_of (with_name o.names a) a) ∷ []) = rw e refl in
    let P : Out → Type 0 = λ z. Put o (a ∷ []) (λ names. item.Atom (number_of names a) ∷ []) z in
    subst P (sym same) (record {
      clear = λ c. c;
      names = λ c. refl;
      fits = λ c h. leb-true (length (with_name o.names a)) most_names e;
      over = λ c h. false_true o.full c h;
      items = λ c more. ap (λ (z : ℕ). o.items ++ item.Atom z ∷ []) (sym (number-stays o.names more a));
    })
atom-step o a false e = let same : put_atom o a ≡ out o.names true (o.items ++ item.Atom 0 ∷ []) = rw e refl in
    let P : Out → Type 0 = λ z. Put o (a ∷ []) (λ names. item.Atom (number_of names a) ∷ []) z in
    subst P (sym same) (record {
      clear = λ c. false_true true c refl;
      names = λ c. false_true true c refl;
      fits = λ c h. false_true true c refl;
      over = λ c h. leb-false (length (with_name o.names a)) most_names e;
      items = λ c more. false_true true c refl;
    })

name-step : (o : Out) (a : List ℕ) (t : Bool) → nat_le (length (with_name o.names a)) most_names ≡ t → Put o (a ∷ []) (λ names. []) (put_name o a)
name-step o a true e = let same : put_name o a ≡ out (with_name o.names a) o.full o.items = rw e refl in
    let P : Out → Type 0 = λ z. Put o (a ∷ []) (λ names. []) z in
    subst P (sym same) (record {
      clear = λ c. c;
      names = λ c. refl;
      fits = λ c h. leb-true (length (with_name o.names a)) most_names e;
      over = λ c h. false_true o.full c h;
      items = λ c more. sym (append-nil o.items);
    })
name-step o a false e = let same : put_name o a ≡ out o.names true o.items = rw e refl in
    let P : Out → Type 0 = λ z. Put o (a ∷ []) (λ names. []) z in
    subst P (sym same) (record {
      clear = λ c. false_true true c refl;
      names = λ c. false_true true c refl;
      fits = λ c h. false_true true c refl;
      over = λ c h. leb-false (length (with_name o.names a)) most_names e;
      items = λ c more. false_true true c refl;
    })

pub name-put : (o : Out) (a : List ℕ) → Put o (a ∷ []) (λ names. []) (put_name o a)
name-put o a = name-step o a (nat_le (length (with_name o.names a)) most_names) refl

-- The item that a form was given before its parts were counted is put right.
counted : (o q : Out) (i j : Item) (xs : List (List ℕ)) (its : List (List ℕ) → List Item) → Put o xs (λ names. i ∷ its names) q
    → Put o xs (λ names. j ∷ its names) (put_at (length o.items) j q)
counted o q i j xs its f = record {
  clear = f.clear;
  names = f.names;
  fits = f.fits;
  over = f.over;
  items = λ c more. ap (λ (z : List Item). set z (length o.items) j) (f.items c more) ∙ set-append_seam o.items i (its (q.names ++ more)) j;
}

led-put : (f : Form) (o : Out) → Put o [] (λ names. led_items f []) (led f o)
led-put form.List o = put-item o item.Cons
led-put form.Tuple o = put-none o
led-put form.Map o = put-none o
led-put form.Binary o = put-none o

-- The items of the terms of a form, each after what stands before it.
abbrev pub part_items : Form → Terms → List (List ℕ) → List Item
part_items f end names = []
part_items f (t ▹ ts) names = led_items f [] ++ (items_of names t ++ part_items f ts names)

tuple-items : (ts : Terms) (names : List (List ℕ)) → part_items form.Tuple ts names ≡ all_items names ts
tuple-items end names = refl
tuple-items (t ▹ ts) names = ap (λ (z : List Item). items_of names t ++ z) (tuple-items ts names)

list-items : (ts : Terms) (names : List (List ℕ)) (last : List Item) → part_items form.List ts names ++ last ≡ listed_items names ts last
list-items end names last = refl
list-items (t ▹ ts) names last = ap (λ (z : List Item). item.Cons ∷ z)
    (append_assoc (items_of names t) (part_items form.List ts names) last ∙ ap (λ (z : List Item). items_of names t ++ z) (list-items ts names last))

-- Bytes, one after the other.
bytes-put : (bytes : List ℕ) (o : Out) → Put o [] (λ names. map item.Byte bytes) (put_bytes bytes o)
bytes-put [] o = put-none o
bytes-put (b ∷ bytes) o = put-then o (push o (item.Byte b)) (put_bytes bytes (push o (item.Byte b))) [] [] (λ names. item.Byte b ∷ []) (λ names. map item.Byte bytes) (put-item o (item.Byte b))
    (bytes-put bytes (push o (item.Byte b)))

-- The same with the items said in another way.
pub as-items : (o p : Out) (xs : List (List ℕ)) (its jts : List (List ℕ) → List Item) → ((names : List (List ℕ)) → its names ≡ jts names) → Put o xs its p → Put o xs jts p
as-items o p xs its jts e f = record { clear = f.clear; names = f.names; fits = f.fits; over = f.over; items = λ c more. f.items c more ∙ ap (λ (z : List Item). o.items ++ z) (e (p.names ++ more)) }

pub as-atoms : (o p : Out) (xs ys : List (List ℕ)) (its : List (List ℕ) → List Item) → xs ≡ ys → Put o xs its p → Put o ys its p
as-atoms o p xs ys its e f = let P : List (List ℕ) → Type 0 = λ z. Put o z its p in subst P e f

mutual
  pub term-put : (t : Term) (o : Out) → IsBuiltTerm t → Put o (atoms_of t) (λ names. items_of names t) (put t o)
  term-put (Int i) o b = put-item o (item.Int i)
  term-put (Atom a) o b = atom-step o a (nat_le (length (with_name o.names a)) most_names) refl
  term-put (Pid n) o b = put-item o (item.Pid n)
  term-put (Held r) o b = put-item o (item.Held r)
  term-put (Listed ts) o b = as-atoms o (push (put_terms form.List ts o) item.Nil) (atoms_of_all ts ++ []) (atoms_of_all ts) (λ names. listed_items names ts (item.Nil ∷ []))
      (append-nil (atoms_of_all ts))
      (as-items o (push (put_terms form.List ts o) item.Nil) (atoms_of_all ts ++ []) (λ names. part_items form.List ts names ++ item.Nil ∷ []) (λ names. listed_items names ts (item.Nil ∷ []))
      (λ names. list-items ts names (item.Nil ∷ []))
      (put-then o (put_terms form.List ts o) (push (put_terms form.List ts o) item.Nil) (atoms_of_all ts) [] (part_items form.List ts) (λ names. item.Nil ∷ []) (all-put ts form.List o b)
      (put-item (put_terms form.List ts o) item.Nil)))
  term-put (Barred ts t) o b = as-items o (put t (put_terms form.List ts o)) (atoms_of_all ts ++ atoms_of t) (λ names. part_items form.List ts names ++ items_of names t)
      (λ names. listed_items names ts (items_of names t)) (λ names. list-items ts names (items_of names t))
      (put-then o (put_terms form.List ts o) (put t (put_terms form.List ts o)) (atoms_of_all ts) (atoms_of t) (part_items form.List ts) (λ names. items_of names t) (all-put ts form.List o (b.0))
      (term-put t (put_terms form.List ts o) (b.1)))
  term-put (Tuple ts) o b = as-items o (put (Tuple ts) o) (atoms_of_all ts) (λ names. item.Tuple (terms_len ts) ∷ part_items form.Tuple ts names)
      (λ names. item.Tuple (terms_len ts) ∷ all_items names ts)
      (λ names. ap (λ (z : List Item). item.Tuple (terms_len ts) ∷ z) (tuple-items ts names))
      (counted o (put_terms form.Tuple ts (push o (item.Tuple 0))) (item.Tuple 0) (item.Tuple (terms_len ts)) (atoms_of_all ts) (part_items form.Tuple ts)
      (put-then o (push o (item.Tuple 0)) (put_terms form.Tuple ts (push o (item.Tuple 0))) [] (atoms_of_all ts) (λ names. item.Tuple 0 ∷ []) (part_items form.Tuple ts) (put-item o (item.Tuple 0))
      (all-put ts form.Tuple (push o (item.Tuple 0)) b)))
  term-put (Map qs) o b = counted o (put_pairs qs (push o (item.Map 0))) (item.Map 0) (item.Map (term_pairs_len qs)) (atoms_of_pairs qs) (λ names. pairs_items names qs)
      (put-then o (push o (item.Map 0)) (put_pairs qs (push o (item.Map 0))) [] (atoms_of_pairs qs) (λ names. item.Map 0 ∷ []) (λ names. pairs_items names qs) (put-item o (item.Map 0))
      (pairs-put qs (push o (item.Map 0)) b))
  term-put (Bin bytes) o b = counted o (put_bytes bytes (push o (item.Bin 0))) (item.Bin 0) (item.Bin (length bytes)) [] (λ names. map item.Byte bytes)
      (put-then o (push o (item.Bin 0)) (put_bytes bytes (push o (item.Bin 0))) [] [] (λ names. item.Bin 0 ∷ []) (λ names. map item.Byte bytes) (put-item o (item.Bin 0))
      (bytes-put bytes (push o (item.Bin 0))))

  pub all-put : (ts : Terms) (f : Form) (o : Out) → AreBuiltTerms ts → Put o (atoms_of_all ts) (part_items f ts) (put_terms f ts o)
  all-put end f o b = put-none o
  all-put (t ▹ ts) f o b = put-then o (led f o) (put_terms f ts (put t (led f o))) [] (atoms_of t ++ atoms_of_all ts) (λ names. led_items f []) (λ names. items_of names t ++ part_items f ts names)
      (led-put f o)
      (put-then (led f o) (put t (led f o)) (put_terms f ts (put t (led f o))) (atoms_of t) (atoms_of_all ts) (λ names. items_of names t) (part_items f ts)
      (term-put t (led f o) (b.0)) (all-put ts f (put t (led f o)) (b.1)))

  pub pairs-put : (qs : TermPairs) (o : Out) → AreBuiltPairs qs → Put o (atoms_of_pairs qs) (λ names. pairs_items names qs) (put_pairs qs o)
  pairs-put stop o b = put-none o
  pairs-put (pair k v qs) o b = put-then o (put k o) (put_pairs qs (put v (put k o))) (atoms_of k) (atoms_of v ++ atoms_of_pairs qs) (λ names. items_of names k)
      (λ names. items_of names v ++ pairs_items names qs) (term-put k o (b.0))
      (put-then (put k o) (put v (put k o)) (put_pairs qs (put v (put k o))) (atoms_of v) (atoms_of_pairs qs) (λ names. items_of names v) (λ names. pairs_items names qs)
      (term-put v (put k o) (b.1)) (pairs-put qs (put v (put k o)) (b.2)))
