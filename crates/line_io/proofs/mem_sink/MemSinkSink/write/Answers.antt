use Rattle.std.proofs.Common.{◌≡◌, ◌⊎◌, inl, inr, ℕ, ◌+◌, ◌-◌, ◌<◌, ◌≤◌, Bool, true, false, cond, min, List, ◌++◌, length, take, drop, refl, sym, ap, ◌∙◌, arith, append-nil, length-take, length-take-le}
use Rattle.line_io.specs.Memory.{bytes_taken, fails_at, failing_writes, next_write, sink_room}
use Rattle.line_io.proofs.Apart.{took-failed}
use Rattle.line_io.proofs.Ranges.{copied-front, written-over}
use Rattle.line_io.proofs.mem_sink.MemSinkSink.write.Goals as goal

-- a call takes nothing where it fails, or no room is left
takes-none : (fails : Bool) (items : List ℕ) (len piece given : ℕ) → cond fails 0 (min (min (length items - len) piece) given) ≡ 0 → len ≤ length items → 0 < piece → 0 < given
    → (fails ≡ true) ⊎ (length (take len items) ≡ length items)
takes-none true items len piece given none within pieces some = inl refl
takes-none false items len piece given none within pieces some = inr (omega (arith, none, length-take len items))

-- a call that takes something does not fail
takes-some : (fails : Bool) (n most : ℕ) → n ≡ cond fails 0 most → 0 < n → (fails ≡ false) × (n ≡ most)
takes-some true n most same some = absurd (omega arith)
takes-some false n most same some = (refl, same)

pub returns-then-n-eq0 : goal.returns-then-n-eq0
returns-then-n-eq0 c =
    let w = c.args.self.now in
    let given = length c.args.bytes.now in
    let counts = c.saturating_add-self-then-n-eq0.ensures in
    let n = sym c.allowed-n.ensures ∙ c.if-n-eq0.true in
    let none = ap (λ k. cond (fails_at (failing_writes w) k) 0 (min (min (sink_room w - w.len) w.piece) given)) (sym c.saturating_add-self.ensures) ∙ n in
    record {
      count = tt;
      grew = record { each = λ before h. append-nil before ∙ h };
      later = omega (arith, counts);
      failed = λ f. omega (arith, counts);
      told = λ f. absurd (f refl);
      exact = takes-none (fails_at (failing_writes w) (next_write w)) w.buf.items w.len w.piece given none (omega (arith, w.within, w.buf.ok.0)) w.takes c.requires;
      taken = sym (append-nil _);
      faults = counts;
      calls = c.saturating_add-self.ensures;
      room = refl;
      piece = refl;
      failing = refl;
    }

pub returns : goal.returns
returns c =
    let w = c.args.self.now in
    let bytes = c.args.bytes.now in
    let n = c.allowed-n.result in
    let buf = c.put_at.new.buf in
    let most : ℕ → ℕ = λ k. min (min (sink_room w - k) w.piece) (length bytes) in
    let same = c.allowed-n.ensures ∙ ap (λ k. cond (fails_at (failing_writes w) k) 0 (most w.len)) c.saturating_add-self.ensures in
    let t = takes-some (fails_at (failing_writes w) (next_write w)) n (most w.len) same (omega (arith, c.if-n-eq0.false)) in
    let fits : n ≤ length bytes = omega (arith, t.1) in
    let value = c.deref_mut.ensures.value in
    let over : take w.buf.len (buf ++ drop (length buf) w.buf.items) ≡ buf = written-over w.buf.len buf w.buf.items (omega (arith, c.put_at.auto.buf, c.deref_mut.ensures.len)) in
    let taken : take (w.len + n) (take w.buf.len (buf ++ drop (length buf) w.buf.items)) ≡ bytes_taken w ++ take n bytes =
    ap (take (w.len + n)) over ∙ copied-front c.deref_mut.result.now buf bytes w.len n fits c.put_at.ensures.front ∙ ap (λ l. take w.len l ++ take n bytes) value in
    record {
      count = (omega (arith, c.if-n-eq0.false), fits);
      grew = record { each = λ before h. ap (λ l. l ++ take n bytes) h ∙ sym taken };
      later = omega arith;
      failed = λ f. took-failed f;
      told = λ f. refl;
      exact = (t.0, t.1 ∙ ap most (sym (length-take-le w.len w.buf.items (omega (arith, w.within, w.buf.ok.0)))));
      taken = taken;
      faults = refl;
      calls = c.saturating_add-self.ensures;
      room = ap length over ∙ c.put_at.ensures.len ∙ ap length value;
      piece = refl;
      failing = refl;
    }
