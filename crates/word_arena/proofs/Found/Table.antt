-- The table of stretches.
use Rattle.std.proofs.Common.{◌≡◌, ◌≢◌, ℕ, ◌+◌, ◌-◌, ◌*◌, ◌/◌, ◌%◌, ◌<◌, ◌≤◌, ◌==◌, if◌then◌else◌, List, length, get_or, set, min, refl, sym, ◌∙◌, ap, subst, arith, inl, inr}
use Rattle.std.proofs.lemmas.Bool.{cases_lt, cases_eq}
use Rattle.std.proofs.lemmas.List.{get_or-set_same, get_or-set_other}
use Rattle.word_arena.specs.Blocks.{size_at, free_at, Blocked, BlockBegins, free_of, IsBoundary}
use Rattle.word_arena.specs.Changes.{Frame}
use Rattle.word_arena.specs.Stretches.{IsFirst, IsTop, Right, IsStart, Agrees, Settled}
use Rattle.word_arena.specs.declared.holes.Holes.{Holes}
use Rattle.word_arena.proofs.Side.Facts.{block-within, apart, stop-next}

pub begins-below : (mem : List ℕ) (p : ℕ) → Blocked mem → BlockBegins mem p → p < length mem
begins-below mem p blocked begins = let w = block-within mem p blocked begins in omega (arith, w.to, w.header.sized)

-- The first block of a block's stretch.
pub start-first : (mem : List ℕ) (i f at : ℕ) → Blocked mem → IsFirst mem i f → BlockBegins mem at → at / 64 ≡ i → IsStart mem i (i * 64 + f)
start-first mem i f at blocked first begins place =
    let low : i * 64 + f ≤ at = first.least at begins place in
    record {
      stop = record { inside = omega (arith, begins-below mem at blocked begins); begins = λ _. first.begins (omega arith) };
      low = λ _. omega arith;
      least = λ p is from. elim (cases_lt p (i * 64 + 64)) as (λ _. i * 64 + f ≤ p) [
        | inl inner ↦ first.least p is (omega arith)
        | inr outer ↦ omega arith
      ];
    }

-- The first block of a later stretch into which a block reaches, or up to which.
pub start-behind : (mem : List ℕ) (block at : ℕ) → Blocked mem → BlockBegins mem block → block ≤ at → at ≤ block + size_at mem block → at / 64 ≢ block / 64
    → IsStart mem (at / 64) (block + size_at mem block)
start-behind mem block at blocked begins from to other =
    record {
      stop = stop-next mem block blocked begins;
      low = λ _. omega arith;
      least = λ p is low. apart mem block p blocked begins is (omega arith);
    }

-- What a walk over a stretch tells.

pub first-right : (mem : List ℕ) (i from end_of_i first : ℕ) → Blocked mem → IsStart mem i from → end_of_i ≡ min (i * 64 + 64) (length mem)
    → (from < end_of_i → first ≡ from - i * 64) → (end_of_i ≤ from → first ≡ 64) → IsFirst mem i first
first-right mem i from end_of_i first blocked start last inner outer =
    elim (cases_lt from end_of_i) as (λ _. IsFirst mem i first) [
      | inl below ↦ (
          let low : i * 64 ≤ from = start.low (omega arith) in
          let same : from ≡ i * 64 + first = omega (arith, inner below) in
          record {
            begins = λ _. (let P : ℕ → Type 0 = λ z. BlockBegins mem z in subst P same (start.stop.begins (omega arith)));
            least = λ p is place. omega (arith, same, start.least p is (omega arith));
          })
      | inr above ↦ (
          let none : first ≡ 64 = outer above in
          record {
            begins = λ small. absurd (omega arith);
            least = λ p is place. absurd (omega (arith, start.least p is (omega arith), begins-below mem p blocked is));
          })
    ]

pub top-right : (mem : List ℕ) (i from end_of_i most : ℕ) → Blocked mem → IsStart mem i from → end_of_i ≡ min (i * 64 + 64) (length mem)
    → ((p : ℕ) → BlockBegins mem p → from ≤ p → p < end_of_i → free_at mem p ≤ most)
    → (0 < most → (p : ℕ) × BlockBegins mem p × (from ≤ p) × (p < end_of_i) × (free_at mem p ≡ most)) → IsTop mem i most
top-right mem i from end_of_i most blocked start last above met =
    record {
      above = λ p is place. above p is (start.least p is (omega arith)) (omega (arith, begins-below mem p blocked is));
      met = λ some.
          let m = met some in
          let low : i * 64 ≤ from = start.low (omega (arith, m.2, m.3)) in
          (m.0, m.1, omega (arith, m.2, m.3), m.4);
    }

pub start-next : (mem : List ℕ) (i from end_of_i at : ℕ) → IsStart mem i from → end_of_i ≡ min (i * 64 + 64) (length mem)
    → IsBoundary mem at → end_of_i ≤ at → ((p : ℕ) → BlockBegins mem p → from ≤ p → end_of_i ≤ p → at ≤ p) → IsStart mem (i + 1) at
start-next mem i from end_of_i at start last stop past next =
    record {
      stop = stop;
      low = λ below. omega arith;
      least = λ p is high. next p is (start.least p is (omega arith)) (omega arith);
    }

pub written-right : (mem firsts tops : List ℕ) (i f t : ℕ) → i < length firsts → i < length tops → IsFirst mem i f → IsTop mem i t → Right mem (set firsts i f) (set tops i t) i
written-right mem firsts tops i f t inside within first top =
    let F : ℕ → Type 0 = λ z. IsFirst mem i z in
    let T : ℕ → Type 0 = λ z. IsTop mem i z in
    record { first = subst F (sym (get_or-set_same firsts i f 0 inside)) first; top = subst T (sym (get_or-set_same tops i t 0 within)) top }

pub written-keeps : (mem firsts tops : List ℕ) (i f t : ℕ) → Right mem (set firsts i f) (set tops i t) i → (j : ℕ) → Right mem firsts tops j → Right mem (set firsts i f) (set tops i t) j
written-keeps mem firsts tops i f t here j right =
    elim (cases_eq j i) as (λ _. Right mem (set firsts i f) (set tops i t) j) [
      | inl same ↦ (let P : ℕ → Type 0 = λ z. Right mem (set firsts i f) (set tops i t) z in subst P (sym same) here)
      | inr other ↦ (
          let F : ℕ → Type 0 = λ z. IsFirst mem j z in
          let T : ℕ → Type 0 = λ z. IsTop mem j z in
          record { first = subst F (sym (get_or-set_other firsts i j f 0 other)) right.first; top = subst T (sym (get_or-set_other tops i j t 0 other)) right.top })
    ]

-- Calls change three places of blocks at most.

pub same-free : (old new : List ℕ) (p : ℕ) → get_or new p 0 ≡ get_or old p 0 → free_at new p ≡ free_at old p
same-free old new p same = ap (λ (h : ℕ). if h % 16 == 0 then h / 16 else 0) same

not-there : (p a i : ℕ) → p / 64 ≡ i → i ≢ a / 64 → p ≢ a
not-there p a i place other same = other (sym place ∙ ap (λ (z : ℕ). z / 64) same)

-- The table stays right about the stretches of none of them.
pub frame-right : (old new firsts tops : List ℕ) (a b c i : ℕ) → Frame old new a b c → i ≢ a / 64 → i ≢ b / 64 → i ≢ c / 64 → Right old firsts tops i → Right new firsts tops i
frame-right old new firsts tops a b c i frame na nb nc right =
    let f = get_or firsts i 0 in
    record {
      first = record {
        begins = λ small. (let p = i * 64 + f in let place : p / 64 ≡ i = omega arith in
            frame.keeps p (not-there p a i place na) (not-there p b i place nb) (not-there p c i place nc) (right.first.begins small));
        least = λ p is place. right.first.least p (frame.comes p (not-there p a i place na) (not-there p b i place nb) (not-there p c i place nc) is) place;
      };
      top = record {
        above = λ p is place. (let was = frame.comes p (not-there p a i place na) (not-there p b i place nb) (not-there p c i place nc) is in
            omega (arith, right.top.above p was place, same-free old new p (frame.same p (not-there p a i place na) (not-there p b i place nb) (not-there p c i place nc) was)));
        met = λ some. (let m = right.top.met some in (
          m.0,
          frame.keeps m.0 (not-there m.0 a i m.2 na) (not-there m.0 b i m.2 nb) (not-there m.0 c i m.2 nc) m.1,
          m.2,
          same-free old new m.0 (frame.same m.0 (not-there m.0 a i m.2 na) (not-there m.0 b i m.2 nb) (not-there m.0 c i m.2 nc) m.1) ∙ m.3,
        ));
      };
    }

-- The first block of the first of their stretches stays the first.
pub frame-first : (old new : List ℕ) (a b c f : ℕ) → Frame old new a b c → a ≤ b → a ≤ c → BlockBegins old a → BlockBegins new a → IsFirst old (a / 64) f → IsFirst new (a / 64) f
frame-first old new a b c f frame to_b to_c was is first =
    let i = a / 64 in
    let p = i * 64 + f in
    let low : p ≤ a = first.least a was refl in
    record {
      begins = λ small. elim (cases_eq p a) as (λ _. BlockBegins new p) [
        | inl same ↦ (let P : ℕ → Type 0 = λ z. BlockBegins new z in subst P (sym same) is)
        | inr other ↦ frame.keeps p other (λ e. other (omega arith)) (λ e. other (omega arith)) (first.begins small)
      ];
      least = λ q begins place. elim (cases_lt q p) as (λ _. p ≤ q) [
        | inl below ↦ first.least q (frame.comes q (omega arith) (omega arith) (omega arith) begins) place
        | inr above ↦ above
      ];
    }

-- After the stretches of the three are right, all are.
pub all-right : (old new f0 t0 f1 t1 : List ℕ) (a b c : ℕ) → Frame old new a b c
    → ((j : ℕ) → Right new f0 t0 j → Right new f1 t1 j)
    → Right new f1 t1 (a / 64) → (b / 64 ≢ a / 64 → Right new f1 t1 (b / 64)) → (c / 64 ≢ a / 64 → Right new f1 t1 (c / 64))
    → (j : ℕ) → Right old f0 t0 j → Right new f1 t1 j
all-right old new f0 t0 f1 t1 a b c frame keeps first second third j was =
    let P : ℕ → Type 0 = λ z. Right new f1 t1 z in
    elim (cases_eq j (a / 64)) as (λ _. P j) [
      | inl one ↦ subst P (sym one) first
      | inr na ↦ elim (cases_eq j (b / 64)) as (λ _. P j) [
        | inl two ↦ subst P (sym two) (second (λ e. na (two ∙ e)))
        | inr nb ↦ elim (cases_eq j (c / 64)) as (λ _. P j) [
          | inl three ↦ subst P (sym three) (third (λ e. na (three ∙ e)))
          | inr nc ↦ keeps j (frame-right old new f0 t0 a b c j frame na nb nc was)
        ]
      ]
    ]

-- One settling after another.
pub settled-then : (mem : List ℕ) (h0 h1 h2 : Holes) → Settled mem h0 h1 → Settled mem h1 h2 → Settled mem h0 h2
settled-then mem h0 h1 h2 first second =
    record { room = second.room; same_len = second.same_len ∙ first.same_len; keeps = λ i right. second.keeps i (first.keeps i right); free = second.free ∙ first.free }

-- The table agrees again once the stretches of the three places are settled.
pub agrees-again : (old new : List ℕ) (h h' : Holes) (a b c free : ℕ) → Agrees old h → Settled new h h' → Frame old new a b c
    → Right new h'.firsts.items h'.tops (a / 64) → (b / 64 ≢ a / 64 → Right new h'.firsts.items h'.tops (b / 64))
    → (c / 64 ≢ a / 64 → Right new h'.firsts.items h'.tops (c / 64)) → free ≡ free_of new
    → Agrees new (record { tops = h'.tops; firsts = h'.firsts; free = free })
agrees-again old new h h' a b c free agrees settled frame first second third sum =
    record {
      room = record { stretches = settled.room.stretches; tops = settled.room.tops; few = settled.room.few };
      right = λ j inside. all-right old new h.firsts.items h.tops h'.firsts.items h'.tops a b c frame settled.keeps first second third j
          (agrees.right j (omega (arith, settled.same_len)));
      free = sum;
    }
