-- Parts are relocated one after the other: the map answers alike while only words inside blocks in use are written.
use Rattle.std.proofs.Common.{◌≡◌, ℕ, ◌+◌, ◌-◌, ◌/◌, ◌<◌, ◌≤◌, nat_le, if◌then◌else◌, List, length, get_or, refl, sym, ◌∙◌, ap, subst, arith, inl, inr}
use Rattle.std.proofs.lemmas.Bool.{cases_eq}
use Rattle.word_arena.specs.Blocks.{size_at, Blocked, BlockBegins, IsUsed}
use Rattle.word_arena.specs.Calls.{HeadersStay}
use Rattle.word_arena.specs.Sums.{free_before}
use Rattle.word_arena.specs.Shifts.{IsSummed}
use Rattle.word_arena.specs.declared.shifts.Shifts.{Shifts}
use Rattle.word_arena.proofs.Side.Before.{before-kept, before-used}
use Rattle.word_arena.proofs.Slid.Summed.{summed-kept}
use Rattle.word_arena.proofs.Laid.Lent.{kept-inside, lent-begins, lent-blocked}
use Rattle.term_words.specs.Object.{object_words}
use Rattle.term_words.specs.Reach.{first_traced}
use Rattle.off_heap_list.specs.Links.{name_place}
use Rattle.object_rows.specs.Row.{IsRow, is_link}
use Rattle.word_shift.specs.Shifted.{word_image, FitsBeside, RowShifted, StaysBeside}
use Rattle.word_shift.proofs.Ranges.{image-by, object-by-map}
use Rattle.word_shift.proofs.Objects.{name-near}
use Rattle.word_shift.proofs.Walk.{shift-stays}
use Rattle.word_shift.proofs.Apart.{Within, row-from, row-same, within-row}
use Rattle.block_slide.specs.Down.{packed_place, ComesDown}
use Rattle.block_slide.specs.Parts.{nth_part, span_of, AreParts, IsPartIn, LiesInUse, PartDone, PartShifted, PartsShifted}
use Rattle.block_slide.specs.declared.parts.Part.{Part}
use Rattle.block_slide.proofs.Placed.{place-of, few-before}
use Rattle.word_arena.proofs.Side.Facts.{block-within}
use Rattle.block_slide.specs.declared.parts.Part.TheVariants.{Objects, Words, Links}

-- A list beside the memory: the places before a number are new places.
pub record PlacesGoing (g : ℕ → ℕ) (old now : List ℕ) (at : ℕ) : Type 0 where
  pub same_len : length now ≡ length old
  pub images : (i : ℕ) → i < at → i < length old → get_or now i 0 ≡ g (get_or old i 0)
  pub ahead : (i : ℕ) → at ≤ i → get_or now i 0 ≡ get_or old i 0

-- Places come down alike while each header is as it was.
pub packed-kept : (old new : List ℕ) → Blocked old → HeadersStay old new → (a : ℕ) → packed_place new a ≡ packed_place old a
packed-kept old new blocked same a =
    ap (λ n. if nat_le a n then a - free_before new a else a) same.same_len
    ∙ ap (λ b. if nat_le a (length old) then a - b else a) (before-kept old new a blocked same)

-- The map can be asked whatever words stand in a block in use, behind its two first words.
pub fits-inside : (mem : List ℕ) (s : Shifts) (p from to : ℕ) → IsSummed mem s → IsUsed mem p → p + 2 ≤ from → to ≤ p + size_at mem p
    → FitsBeside (λ m. IsSummed m s) packed_place mem from to
fits-inside mem s p from to summed used behind inside =
    let above : p < from = omega (arith, behind) in
    record {
      fit = λ new len same. summed-kept mem new s (kept-inside mem new p from to summed.blocked used.begins above inside len same) summed;
      alike = λ new len same a. packed-kept mem new summed.blocked (kept-inside mem new p from to summed.blocked used.begins above inside len same) a;
    }

pub headers-on : (old now new : List ℕ) → Blocked old → HeadersStay old now → HeadersStay now new → HeadersStay old new
headers-on old now new blocked a b =
    record { same_len = b.same_len ∙ a.same_len; same = λ p begins. b.same p (lent-begins old now p blocked a begins) ∙ a.same p begins }

pub used-on : (old now : List ℕ) (p : ℕ) → Blocked old → HeadersStay old now → IsUsed old p → IsUsed now p
used-on old now p blocked same used =
    let begins : BlockBegins old p = used.begins in
    let word : get_or now p 0 ≡ get_or old p 0 = same.same p begins in
    record { begins = lent-begins old now p blocked same begins; kind = omega (arith, used.kind, word) }

-- A part whose words are as they were.
part-on : (old now : List ℕ) (x : Part) → length now ≡ length old → ((q : ℕ) → (span_of x).start ≤ q → q < (span_of x).end → get_or now q 0 ≡ get_or old q 0) → IsPartIn old x → IsPartIn now x
part-on old now (Objects s) len same is =
    let r : IsRow old s.start s.end = is in
    record { ws = r.ws; are = row-same old now s.start s.end r.ws r.are same; inside = omega (arith, r.inside, len) }
part-on old now (Words s) len same is = omega (arith, is, len)
part-on old now (Links s) len same is = omega (arith, is, len)

-- No word outside the part was written.
part-beside : (g : ℕ → ℕ) (now new : List ℕ) (x : Part) → IsPartIn now x → PartShifted g now new x → StaysBeside now new (span_of x).start (span_of x).end
part-beside g now new (Objects s) is told = (let r : IsRow now s.start s.end = is in (told r.ws r.are).beside)
part-beside g now new (Words s) is told = told.beside
part-beside g now new (Links s) is told = told.beside

-- What was relocated over a memory that had the same words there was relocated over the first one.
part-done : (g h : ℕ → ℕ) → ((a : ℕ) → h a ≡ g a) → (old now new : List ℕ) (x : Part) → ((q : ℕ) → (span_of x).start ≤ q → q < (span_of x).end → get_or now q 0 ≡ get_or old q 0)
    → PartShifted h now new x → PartDone g old new x
part-done g h e old now new (Objects s) same told = λ ws are w i.
    let z : RowShifted h now new s.start s.end ws = told ws (row-same old now s.start s.end ws are same) in
    object-by-map h g e old new (w / 4) (first_traced old w) (object_words old w) (name_place old (w / 4)) (is_link old w) (row-from h old now new s.start s.end ws are z same w i)
part-done g h e old now new (Words s) same told = λ q low high. told.images q low high ∙ (image-by h g e (get_or now q 0) ∙ ap (word_image g) (same q low high))
part-done g h e old now new (Links s) same told = λ q low high. told.images q low high ∙ (e (get_or now q 0) ∙ ap g (same q low high))

-- It stays so while its words stay.
part-stays : (g : ℕ → ℕ) (old now new : List ℕ) (x : Part) → ((q : ℕ) → (span_of x).start ≤ q → q < (span_of x).end → get_or new q 0 ≡ get_or now q 0) → PartDone g old now x
    → PartDone g old new x
part-stays g old now new (Objects s) same done = λ ws are w i.
    let z : Within old s.start s.end w = within-row old s.start s.end ws are w i in
    shift-stays g old now new (w / 4) (first_traced old w) (object_words old w) (name_place old (w / 4)) (is_link old w) z.long (name-near old (w / 4))
    (λ q low high. same q (omega (arith, low, z.low)) (omega (arith, high, z.high))) (done ws are w i)
part-stays g old now new (Words s) same done = λ q low high. same q low high ∙ done q low high
part-stays g old now new (Links s) same done = λ q low high. same q low high ∙ done q low high

-- The first i parts were relocated.
pub record PartsGoing (old now : List ℕ) (xs : List Part) (i : ℕ) : Type 0 where
  pub shifted : PartsShifted (packed_place old) old now xs i
  pub headers : HeadersStay old now

pub parts-begin : (mem : List ℕ) (xs : List Part) → PartsGoing mem mem xs 0
parts-begin mem xs = record {
  shifted = record { same_len = refl; done = λ i below inside. absurd (omega (arith, below)); others = λ q out. refl };
  headers = record { same_len = refl; same = λ p begins. refl };
}

module _ (old now : List ℕ) (xs : List Part) (i : ℕ) (blocked : Blocked old) (parts : AreParts old xs) (r : PartsGoing old now xs i) (inside : i < length xs) where
  lies : LiesInUse old (nth_part xs i)
  lies = parts.each i inside

  -- The words of the next part are as at the start.
  fresh : (q : ℕ) → (span_of (nth_part xs i)).start ≤ q → q < (span_of (nth_part xs i)).end → get_or now q 0 ≡ get_or old q 0
  fresh q low high = r.shifted.others q (λ j below within. elim (parts.apart j i below inside) [ inl a ↦ inr (omega (arith, a, low)) | inr b ↦ inl (omega (arith, b, high)) ])

  pub next-part : IsPartIn now (nth_part xs i)
  next-part = part-on old now (nth_part xs i) r.shifted.same_len fresh lies.is

  now-used : IsUsed now lies.block
  now-used = used-on old now lies.block blocked r.headers lies.used

  now-size : size_at now lies.block ≡ size_at old lies.block
  now-size = ap (λ h. h / 16) (r.headers.same lies.block lies.used.begins)

  pub next-summed : (s : Shifts) → IsSummed old s → IsSummed now s
  next-summed s summed = summed-kept old now s r.headers summed

  pub next-ends : (span_of (nth_part xs i)).end ≤ length now
  next-ends = omega (arith, lies.inside, now-size, (block-within now lies.block (lent-blocked old now blocked r.headers) now-used.begins).to)

  -- Its places come down by the free words before its first one.
  next-comes : ComesDown now (span_of (nth_part xs i)).start (span_of (nth_part xs i)).end (free_before now (span_of (nth_part xs i)).start)
  next-comes = record {
    each = λ a low high.
        let start = (span_of (nth_part xs i)).start in
        let fine : Blocked now = lent-blocked old now blocked r.headers in
        omega (
          arith,
          place-of now fine lies.block a now-used (omega (arith, low, lies.behind)) (omega (arith, high, lies.inside, now-size)),
          before-used now lies.block start fine now-used (omega (arith, lies.behind)) (omega (arith, low, high, lies.inside, now-size)),
          few-before now fine lies.block now-used,
          low,
          lies.behind,
        );
  }

  pub next-fits : (s : Shifts) (down : ℕ) → IsSummed old s → ((span_of (nth_part xs i)).start < (span_of (nth_part xs i)).end → down ≡ free_before now (span_of (nth_part xs i)).start)
      → FitsBeside (λ m. IsSummed m s × ComesDown m (span_of (nth_part xs i)).start (span_of (nth_part xs i)).end down) packed_place now
      (span_of (nth_part xs i)).start (span_of (nth_part xs i)).end
  next-fits s down summed is =
      let f : FitsBeside (λ m. IsSummed m s) packed_place now (span_of (nth_part xs i)).start (span_of (nth_part xs i)).end =
      fits-inside now s lies.block (span_of (nth_part xs i)).start (span_of (nth_part xs i)).end (next-summed s summed) now-used lies.behind
      (omega (arith, lies.inside, now-size)) in
      record {
        fit = λ new len same. (f.fit new len same, record { each = λ a low high. omega (arith, next-comes.each a low high, f.alike new len same a, is (omega (arith, low, high))) });
        alike = f.alike;
      }

  -- The next part was relocated.
  module _ (new : List ℕ) (now-blocked : Blocked now) (told : PartShifted (packed_place now) now new (nth_part xs i)) where
    beside : StaysBeside now new (span_of (nth_part xs i)).start (span_of (nth_part xs i)).end
    beside = part-beside (packed_place now) now new (nth_part xs i) next-part told

    pub parts-step : PartsGoing old new xs (i + 1)
    parts-step = record {
      shifted = record {
        same_len = beside.same_len ∙ r.shifted.same_len;
        done = λ j below within. elim (cases_eq j i) as (λ _. PartDone (packed_place old) old new (nth_part xs j)) [
          | inl e ↦
              let P : ℕ → Type 0 = λ z. PartDone (packed_place old) old new (nth_part xs z) in
              subst P (sym e) (part-done (packed_place old) (packed_place now) (packed-kept old now blocked r.headers) old now new (nth_part xs i) fresh told)
          | inr other ↦
              let before : j < i = omega (arith, below, other) in
              part-stays (packed_place old) old now new (nth_part xs j)
              (λ q low high. beside.same q (elim (parts.apart j i before inside) [ inl a ↦ inl (omega (arith, a, high)) | inr b ↦ inr (omega (arith, b, low)) ]))
              (r.shifted.done j before within)
        ];
        others = λ q out. beside.same q (out i (omega arith) inside) ∙ r.shifted.others q (λ j below within. out j (omega (arith, below)) within);
      };
      headers = headers-on old now new blocked r.headers
          (kept-inside now new lies.block (span_of (nth_part xs i)).start (span_of (nth_part xs i)).end now-blocked now-used.begins (omega (arith, lies.behind))
          (omega (arith, lies.inside, now-size)) beside.same_len beside.same);
    }
