use Rattle.std.proofs.Common.{◌≡◌, ◌-◌, [], length, min, refl, arith, sym, ap, ◌∙◌, take, drop, length-drop}
use Rattle.line_io.specs.Memory.{bytes_left, fails_at, failing_reads}
use Rattle.line_io.proofs.Apart.{end-failed, got-failed}
use Rattle.line_io.proofs.Ranges.{Gave-front, Gave-nil, nothing-held}
use Rattle.line_io.proofs.mem_source.MemSourceSource.read.Goals as goal

pub returns-then-contains : goal.returns-then-contains
returns-then-contains c =
    let w = c.args.self.now in
    let calls = c.saturating_add-self.ensures in
    let counts = c.saturating_add-self-then-contains.ensures in
    let fails = c.contains.ensures.value ∙ ap (λ l. fails_at l c.saturating_add-self.result) c.deref.ensures.value ∙ ap (fails_at (failing_reads w)) calls in
    record {
      count = tt;
      bytes = Gave-nil _;
      end = tt;
      later = omega (arith, counts);
      failed = λ f. omega (arith, counts);
      told = λ f. absurd (f refl);
      exact = sym fails ∙ c.if-contains.true;
      faults = counts;
      calls = calls;
      piece = refl;
      failing = refl;
    }

pub returns-then-n-eq0 : goal.returns-then-n-eq0
returns-then-n-eq0 c =
    let w = c.args.self.now in
    let calls = c.saturating_add-self.ensures in
    let fails = c.contains.ensures.value ∙ ap (λ l. fails_at l c.saturating_add-self.result) c.deref.ensures.value ∙ ap (fails_at (failing_reads w)) calls in
    let ended : bytes_left w ≡ [] =
    nothing-held (bytes_left w) (omega (arith, c.copy_out-n.ensures.count, c.if-n-eq0.true, ap length c.deref-2.ensures.value, length-drop w.at w.bytes.items, w.gives, c.requires)) in
    record {
      count = tt;
      bytes = Gave-nil _;
      end = ended;
      later = omega arith;
      failed = λ f. end-failed f;
      told = λ f. refl;
      exact = (sym fails ∙ c.if-contains.false, ended);
      faults = refl;
      calls = calls;
      piece = refl;
      failing = refl;
    }

pub returns : goal.returns
returns c =
    let w = c.args.self.now in
    let n = c.copy_out-n.result in
    let e = c.copy_out-n.ensures in
    let value = c.deref-2.ensures.value in
    let calls = c.saturating_add-self.ensures in
    let fails = c.contains.ensures.value ∙ ap (λ l. fails_at l c.saturating_add-self.result) c.deref.ensures.value ∙ ap (fails_at (failing_reads w)) calls in
    let left = ap (λ l. length l - w.at) value ∙ sym (length-drop w.at w.bytes.items) in
    record {
      count = (omega (arith, c.if-n-eq0.false), omega (arith, e.count, e.len));
      bytes = Gave-front w.bytes.items _ w.at n (e.front ∙ ap (λ l. take n (drop w.at l)) value);
      end = tt;
      later = omega arith;
      failed = λ f. got-failed f;
      told = λ f. refl;
      exact = (sym fails ∙ c.if-contains.false, e.count ∙ ap (λ k. min (min k w.piece) (length c.args.buf.now)) left);
      faults = refl;
      calls = calls;
      piece = refl;
      failing = refl;
    }
