use Rattle.std.proofs.Common.{◌≡◌, ℕ, ◌+◌, ◌≤◌, subst, Bool, false, arith, ap}
use Rattle.word_mem.specs.declared.ranges.Room.{Room}
use Rattle.cheney.specs.Spans.{in_spans}
use Rattle.two_halves.specs.Copying.{CopiesIn}
use Rattle.two_halves.specs.declared.halves.Halves.{Halves}
use Rattle.two_halves.proofs.Coming.Adding.{filled}
use Rattle.two_halves.proofs.Queued.Copying.{can-copy, copies-chained, copies-plain, linked-few, row-there, top-alone}
use Rattle.two_halves.proofs.halves.Halves.copy_in.Goals as goal

pub copy_tree-copy-requires-clause-can : goal.copy_tree-copy-requires-clause-can
copy_tree-copy-requires-clause-can c = can-copy c.args.self.now c.args.w c.requires.can c.bounded.ensures

pub returns-then-self-eq0 : goal.returns-then-self-eq0
returns-then-self-eq0 c =
    let h : Halves = c.args.self.now in
    let stay : ℕ → Bool = λ q. in_spans c.none-stay.result.spans.items q in
    let none : (q : ℕ) → stay q ≡ false = λ q. ap (λ z. in_spans z q) c.none-stay.ensures in
    let P : Room → Type 0 = λ z. CopiesIn h (filled h c.copy_tree-copy.new.mem z h.head h.linked h.bins h.funs) c.args.w c.copy_tree-copy.result in
    subst P (top-alone c.args.self.now.room c.copy_tree-copy.new.room c.copy_tree-copy.ensures.start c.copy_tree-copy.ensures.end)
    (copies-plain c.args.self.now c.args.w c.requires.can stay none c.copy_tree-copy.new.mem c.copy_tree-copy.new.room.top c.copy_tree-copy.result
    (omega (arith, c.copy_tree-copy.ensures.places.top_next, c.copy_tree-copy.ensures.end)) c.copy_tree-copy.ensures.copies c.if-self-eq0.true)

pub chain_row-chained-requires : goal.chain_row-chained-requires
chain_row-chained-requires c =
    let stay : ℕ → Bool = λ q. in_spans c.none-stay.result.spans.items q in
    let none : (q : ℕ) → stay q ≡ false = λ q. ap (λ z. in_spans z q) c.none-stay.ensures in
    row-there c.args.self.now c.args.w c.requires.can stay none c.copy_tree-copy.new.mem c.copy_tree-copy.new.room.top c.copy_tree-copy.result
    (omega (arith, c.copy_tree-copy.ensures.places.top_next, c.copy_tree-copy.ensures.end)) c.copy_tree-copy.ensures.copies

pub overflow_add-self : goal.overflow_add-self
overflow_add-self c =
    let stay : ℕ → Bool = λ q. in_spans c.none-stay.result.spans.items q in
    let none : (q : ℕ) → stay q ≡ false = λ q. ap (λ z. in_spans z q) c.none-stay.ensures in
    let order : c.copy_tree-copy.new.room.top ≤ c.args.self.now.room.end = omega (arith, c.copy_tree-copy.ensures.places.top_next, c.copy_tree-copy.ensures.end) in
    omega (
      arith,
      c.bounded.ensures,
      linked-few c.args.self.now c.args.w c.requires.can stay none c.copy_tree-copy.new.mem c.copy_tree-copy.new.room.top c.copy_tree-copy.result order
          c.copy_tree-copy.ensures.copies c.chain_row-chained.new.mem c.chain_row-chained.result c.chain_row-chained.ensures,
    )

pub returns : goal.returns
returns c =
    let h : Halves = c.args.self.now in
    let stay : ℕ → Bool = λ q. in_spans c.none-stay.result.spans.items q in
    let none : (q : ℕ) → stay q ≡ false = λ q. ap (λ z. in_spans z q) c.none-stay.ensures in
    let n : ℕ = h.linked + c.chain_row-chained.result.count in
    let P : Room → Type 0 = λ z. CopiesIn h (filled h c.chain_row-chained.new.mem z c.chain_row-chained.result.head n h.bins h.funs) c.args.w c.copy_tree-copy.result in
    subst P (top-alone c.args.self.now.room c.copy_tree-copy.new.room c.copy_tree-copy.ensures.start c.copy_tree-copy.ensures.end)
    (copies-chained c.args.self.now c.args.w c.requires.can stay none c.copy_tree-copy.new.mem c.copy_tree-copy.new.room.top c.copy_tree-copy.result
    (omega (arith, c.copy_tree-copy.ensures.places.top_next, c.copy_tree-copy.ensures.end)) c.copy_tree-copy.ensures.copies
    c.chain_row-chained.new.mem c.chain_row-chained.result c.chain_row-chained.ensures)
