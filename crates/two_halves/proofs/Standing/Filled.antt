-- What stands in a half stands still while places and plain objects come into its free words.
use Rattle.std.proofs.Common.{Vec, ◌≡◌, ℕ, ◌+◌, ◌*◌, ◌/◌, ◌<◌, ◌≤◌, ◌⊎◌, Bool, true, List, length, get_or, ◌∙◌, arith, inl, inr}
use Rattle.std.specs.declared.alloc.Global.{Global}
use Rattle.word_mem.specs.declared.ranges.Room.{Room}
use Rattle.plain_machine.specs.State.{Process}
use Rattle.term_words.specs.Role.{NEXT, IsSingle}
use Rattle.term_words.specs.Object.{IsRecord}
use Rattle.term_words.specs.Kept.{Kept}
use Rattle.term_words.specs.Counted.{total}
use Rattle.term_build.specs.Grows.{IsPlain}
use Rattle.record_move.specs.Copies.{record_words}
use Rattle.record_tables.specs.Listed.{NearlyStand}
use Rattle.record_tables.proofs.Staying.{count-stays, links-on, nearly-stand, owner-stays, record-before, records-on, words-on}
use Rattle.two_halves.specs.Stack.{AreApart}
use Rattle.two_halves.specs.Halves.{HalvesStand, IsLaid, ProcsStand, all_places, places_in, records_of}
use Rattle.two_halves.specs.declared.halves.Halves.{Halves}
use Rattle.two_halves.specs.declared.table.Proc.{Proc}

-- The halves with another memory, another room and another table of processes.
abbrev pub laid_out : Halves → (mem : List ℕ) → Room → Vec Proc Global → Halves
laid_out h mem room v = record {
  mem = mem;
  base = h.base;
  room = room;
  procs = v;
  head = h.head;
  linked = h.linked;
  bins = h.bins;
  funs = h.funs;
  sweeps = h.sweeps;
}

-- The half with other processes, and with words that came below and above the free ones.
module _ (named named2 : ℕ) (h : Halves) (shared : List (List ℕ)) (qs qs2 : List Process) (laid : IsLaid h) (s : HalvesStand named h shared qs) (d : ℕ → ℕ → Bool) (single : IsSingle d)
    (mem2 : List ℕ) (z : Room) (v : Vec Proc Global) (len : length mem2 ≡ length h.mem) (more : (a k : ℕ) → s.test a k ≡ true → d a k ≡ true)
    (plain : (a k : ℕ) → d a k ≡ true → (s.test a k ≡ true) ⊎ IsPlain k) (within : (a k : ℕ) → d a k ≡ true → (s.test a k ≡ true) ⊎ ((h.room.top ≤ a) × (a < z.top)))
    (same : (a k : ℕ) → s.test a k ≡ true → get_or mem2 a 0 ≡ get_or h.mem a 0) (up : h.room.top ≤ z.top) (down : z.end ≤ h.room.end) (names : named ≤ named2)
    (procs : ProcsStand d shared mem2 z.end (h.base + length mem2 / 2) named2 v.items qs2) where
  kept : Kept s.test d h.mem mem2
  kept = record { longer = omega (arith, len); weaker = more; same = λ a k content e. same a k e }

  before : (u n : ℕ) → IsRecord d mem2 u n → IsRecord s.test h.mem u n
  before = record-before s.test d h.mem mem2 kept len (λ a k e. elim (plain a k e) [
    | inl old ↦ inl old
    | inr is_plain ↦ inr (elim is_plain [ inl e ↦ inr (omega (arith, e), omega (arith, e)) | inr e ↦ inr (omega (arith, e), omega (arith, e)) ])
  ])

  near : NearlyStand s.test h.mem shared h.bins.items h.funs.items 0
  near = nearly-stand s.test h.mem shared h.bins.items h.funs.items 0 s.records

  pub halves-filled : AreApart (all_places mem2 v.items) → HalvesStand named2 (laid_out h mem2 z v) shared qs2
  halves-filled apart = record {
    test = d;
    single = single;
    lie = λ a k e. elim (within a k e) [
      | inl old ↦ elim (s.lie a k old) [
        | inl object ↦ inl (object.0, (omega (arith, object.1.0, up), object.1.1))
        | inr there ↦ inr (omega (arith, there.0, down), (omega (arith, there.1.0, len), there.1.1))
      ]
      | inr new ↦ elim (plain a k e) [
        | inl old ↦ elim (s.lie a k old) [
          | inl object ↦ inl (object.0, (omega (arith, object.1.0, up), object.1.1))
          | inr there ↦ inr (omega (arith, there.0, down), (omega (arith, there.1.0, len), there.1.1))
        ]
        | inr is_plain ↦ inl (omega (arith, new.0, laid.front), (new.1, elim is_plain [ inl e ↦ inr (omega (arith, e), omega (arith, e)) | inr e ↦ inr (omega (arith, e), omega (arith, e)) ]))
      ]
    ];
    chained = s.chained;
    linked = s.linked;
    links = links-on s.test d h.mem mem2 kept same h.head s.chained s.links (λ u n there. inl (before u n there));
    inside = λ p i. omega (arith, s.inside p i, up);
    every = λ p e. elim (plain (p + 2) NEXT e) [ inl old ↦ s.every p old | inr is_plain ↦ absurd (omega (arith, is_plain)) ];
    records = records-on s.test d h.mem mem2 kept shared h.bins.items h.funs.items 0 near before
        (λ u n there. omega (arith, count-stays s.test d h.mem mem2 kept same u n (before u n there), s.records.counted u n (before u n there)));
    fun_names = λ u i. omega (arith, owner-stays s.test d h.mem mem2 kept u (s.records.each_fun u i).is.second, s.fun_names u i, names);
    processes = procs;
    apart = apart;
  }

  -- It is laid out, where all fits.
  pub laid-filled : z.start ≡ h.room.start → z.top ≤ z.end → z.end + 2 * places_in v.items ≤ h.room.end + 2 * places_in h.procs.items → IsLaid (laid_out h mem2 z v)
  laid-filled begins order fits =
      let words : total (record_words mem2) (records_of h) ≡ total (record_words h.mem) (records_of h) =
      words-on s.test d h.mem mem2 kept shared h.bins.items h.funs.items 0 near in
      record {
        even = omega (arith, len, laid.even);
        starts = begins ∙ laid.starts;
        side = elim laid.side [ inl e ↦ inl e | inr e ↦ inr (omega (arith, e, len)) ];
        front = omega (arith, laid.front, up);
        order = order;
        fits = omega (arith, laid.fits, fits, words, len);
      }
