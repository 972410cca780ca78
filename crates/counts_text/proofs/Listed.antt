-- Entries that are written one after the other, divided by commas.
use Rattle.std.proofs.Common.{◌≡◌, ℕ, zero, suc, ◌+◌, ◌<◌, ◌≤◌, ◌==◌, false, List, [], ◌∷◌, ◌++◌, codes, length, map, take, drop, get_or}
use Rattle.std.proofs.Common.{refl, sym, ap, ◌∙◌, subst, arith, append_assoc, Result, Ok, Err}
use Rattle.std.specs.Prelude.{IsErr}
use Rattle.std.proofs.lemmas.Bool.Decides.{nat_tests}
use Rattle.std.proofs.lemmas.List.{append-nil, get_or-map, length-map, take_all}
use Rattle.line_io.specs.Sink.{Grew, WritesTold}
use Rattle.line_io.proofs.Growth.{Grew-append, Grew-nil}
use Rattle.text_parts.proofs.Writing.{written-stops}
use Rattle.reply_text.specs.Texts.{divider, bin_entry}
use Rattle.plain_machine.specs.Maps.{bin_text, fun_text}
use Rattle.plain_machine.specs.Texts.{divided, more_divided}
use Rattle.shared_rec.specs.Record.{owner_in, count_in}
use Rattle.counts_text.specs.Told.{bin_of, fun_of}

-- The text of an entry, with what stands before it.
abbrev pub entry_at : List (List ℕ) → ℕ → List ℕ
entry_at texts i = divider (i == 0) ++ get_or texts i []

more-take : (ts : List (List ℕ)) (k : ℕ) → k < length ts → more_divided (take (suc k) ts) ≡ more_divided (take k ts) ++ (codes "," ++ get_or ts k [])
more-take [] k below = absurd (omega arith)
more-take (t ∷ ts) zero below = ap (λ z. codes "," ++ z) (append-nil t)
more-take (t ∷ ts) (suc k) below =
    ap (λ z. codes "," ++ (t ++ z)) (more-take ts k (omega arith))
    ∙ (ap (λ z. codes "," ++ z) (sym (append_assoc t (more_divided (take k ts)) (codes "," ++ get_or ts k [])))
    ∙ sym (append_assoc (codes ",") (t ++ more_divided (take k ts)) (codes "," ++ get_or ts k [])))

more-whole : (ts : List (List ℕ)) (k : ℕ) → k < length ts → more_divided ts ≡ more_divided (take k ts) ++ ((codes "," ++ get_or ts k []) ++ more_divided (drop (suc k) ts))
more-whole [] k below = absurd (omega arith)
more-whole (t ∷ ts) zero below = sym (append_assoc (codes ",") t (more_divided ts))
more-whole (t ∷ ts) (suc k) below =
    ap (λ z. codes "," ++ (t ++ z)) (more-whole ts k (omega arith))
    ∙ (ap (λ z. codes "," ++ z) (sym (append_assoc t (more_divided (take k ts)) ((codes "," ++ get_or ts k []) ++ more_divided (drop (suc k) ts))))
    ∙ sym (append_assoc (codes ",") (t ++ more_divided (take k ts)) ((codes "," ++ get_or ts k []) ++ more_divided (drop (suc k) ts))))

take-next : (ts : List (List ℕ)) (i : ℕ) → i < length ts → divided (take (suc i) ts) ≡ divided (take i ts) ++ entry_at ts i
take-next [] i below = absurd (omega arith)
take-next (t ∷ ts) zero below = append-nil t
take-next (t ∷ ts) (suc k) below =
    let b : (suc k == 0) ≡ false = grind (arith, nat_tests) in
    rw b (ap (λ z. t ++ z) (more-take ts k (omega arith)) ∙ sym (append_assoc t (more_divided (take k ts)) (codes "," ++ get_or ts k [])))

whole-at : (ts : List (List ℕ)) (i : ℕ) → i < length ts → divided ts ≡ divided (take i ts) ++ (entry_at ts i ++ more_divided (drop (suc i) ts))
whole-at [] i below = absurd (omega arith)
whole-at (t ∷ ts) zero below = refl
whole-at (t ∷ ts) (suc k) below =
    let b : (suc k == 0) ≡ false = grind (arith, nat_tests) in
    rw b (ap (λ z. t ++ z) (more-whole ts k (omega arith)) ∙ sym (append_assoc t (more_divided (take k ts)) ((codes "," ++ get_or ts k []) ++ more_divided (drop (suc k) ts))))

pub entries-begin : {K : Type 0} (wrote : K → List ℕ → Type 0) (old : K) (ts : List (List ℕ)) → Grew wrote old old (divided (take 0 ts))
entries-begin wrote old ts = Grew-nil wrote old

pub entries-more : {K : Type 0} (wrote : K → List ℕ → Type 0) (old mid new : K) (ts : List (List ℕ)) (i : ℕ) → i < length ts → Grew wrote old mid (divided (take i ts))
    → Grew wrote mid new (entry_at ts i) → Grew wrote old new (divided (take (i + 1) ts))
entries-more wrote old mid new ts i below first next =
    let more : suc i ≡ i + 1 = omega arith in
    subst (Grew wrote old new) (sym (take-next ts i below) ∙ ap (λ z. divided (take z ts)) more) (Grew-append wrote old mid new (divided (take i ts)) (entry_at ts i) first next)

pub entries-stop : {K E F : Type 0} (wrote : K → List ℕ → Type 0) (faults : K → ℕ) (old mid new : K) (ts : List (List ℕ)) (i : ℕ) (e : E) (r : Result (Unit {0}) F) → IsErr r → i < length ts
    → Grew wrote old mid (divided (take i ts)) → faults mid ≡ faults old → WritesTold wrote faults mid new (entry_at ts i) (Err e) → WritesTold wrote faults old new (divided ts) r
entries-stop wrote faults old mid new ts i e r failed below g same w =
    written-stops wrote faults old mid new (divided ts) (divided (take i ts)) (entry_at ts i) (more_divided (drop (suc i) ts)) e r failed g same (whole-at ts i below) w

pub entries-done : {K E : Type 0} (wrote : K → List ℕ → Type 0) (faults : K → ℕ) (old new : K) (ts : List (List ℕ)) (i : ℕ) → length ts ≤ i → Grew wrote old new (divided (take i ts))
    → faults new ≡ faults old → WritesTold {E = E} wrote faults old new (divided ts) (Ok tt)
entries-done wrote faults old new ts i over g same = record {
  all = subst (Grew wrote old new) (ap divided (take_all i ts over)) g;
  part = tt;
  later = omega (arith, same);
  rose = tt;
  told = same;
}

-- Entry i of the texts of records.
pub entry-of : {A : Type 0} (text : A → List ℕ) (told : ℕ → A) (vs : List ℕ) (i : ℕ) → i < length vs → text (told (get_or vs i 0)) ≡ get_or (map text (map told vs)) i []
entry-of text told vs i below =
    let under : i < length (map told vs) = omega (arith, below, length-map vs told) in
    sym (get_or-map text (map told vs) i (told 0) [] under ∙ ap text (get_or-map told vs i 0 (told 0) below))

pub entries-length : {A : Type 0} (text : A → List ℕ) (told : ℕ → A) (vs : List ℕ) → length (map text (map told vs)) ≡ length vs
entries-length text told vs = length-map (map told vs) text ∙ length-map vs told

pub bin-entry : (mem bins : List ℕ) (i serial count : ℕ) → i < length bins → serial ≡ owner_in mem (get_or bins i 0) → count ≡ count_in mem (get_or bins i 0)
    → divider (i == 0) ++ bin_entry serial count ≡ entry_at (map bin_text (map (bin_of mem) bins)) i
bin-entry mem bins i serial count below s n =
    ap (λ z. divider (i == 0) ++ z)
    (ap (λ z. bin_entry z count) s ∙ (ap (λ z. bin_entry (owner_in mem (get_or bins i 0)) z) n ∙ entry-of bin_text (bin_of mem) bins i below))

pub fun-entry : (mem : List ℕ) (names : List (List ℕ)) (vs : List ℕ) (i v : ℕ) → i < length vs → v ≡ get_or vs i 0
    → divider (i == 0) ++ fun_text names (fun_of mem v) ≡ entry_at (map (fun_text names) (map (fun_of mem) vs)) i
fun-entry mem names vs i v below e = ap (λ z. divider (i == 0) ++ z) (ap (λ z. fun_text names (fun_of mem z)) e ∙ entry-of (fun_text names) (fun_of mem) vs i below)
