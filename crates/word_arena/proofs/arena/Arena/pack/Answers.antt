use Rattle.std.proofs.Common.{◌≡◌, ◌≤◌, ℕ, List, length, sym, subst, ◌∙◌, arith}
use Rattle.word_arena.specs.Fronts.{BroughtTo, Firsts}
use Rattle.word_arena.proofs.Slid.Fronted.{comes-none, firsts-none, room-empty, table-packed}
use Rattle.word_arena.specs.Blocks.{free_of}
use Rattle.word_arena.proofs.Slid.Gathering.{one-hole, packed, packed-used, packed-free}
use Rattle.word_arena.proofs.arena.Arena.pack.Goals as goal

pub returns-clause-packed : goal.returns-clause-packed
returns-clause-packed c =
    let g = c.gather-front.ensures.gathered in
    packed c.args.self.now.mem c.gather-front.new.mem c.close.new.mem c.gather-front.result.end c.requires.blocked g c.close.ensures.mem (omega (arith, g.order, g.same_len))

same-free : (c : goal.After-end_row) → free_of c.close.new.mem ≡ free_of c.args.self.now.mem
same-free c =
    let g = c.gather-front.ensures.gathered in
    packed-free c.args.self.now.mem c.gather-front.new.mem c.gather-front.result.end (free_of c.close.new.mem) c.requires.blocked g (c.close.ensures.free g.places g.row)

pub returns-clause-free : goal.returns-clause-free
returns-clause-free c = same-free c

pub returns-clause-sound : goal.returns-clause-sound
returns-clause-sound c =
    let old = c.args.self.now.mem in
    let g = c.gather-front.ensures.gathered in
    let inside : c.gather-front.result.end ≤ length c.gather-front.new.mem = omega (arith, g.order, g.same_len) in
    let p = packed old c.gather-front.new.mem c.close.new.mem c.gather-front.result.end c.requires.blocked g c.close.ensures.mem inside in
    let (room, right) = table-packed old c.gather-front.new.mem c.close.new.mem c.gather-front.new.holes c.end_row.new.self c.gather-front.result.end c.gather-front.result.next
    (length c.args.self.now.holes.tops) c.requires.blocked c.close.ensures.blocked g c.close.ensures.mem inside (p.same_len ∙ sym g.same_len) p c.gather-front.ensures.room
    c.gather-front.ensures.firsts (c.gather-front.ensures.tops ∙ c.empty.ensures.tops) c.end_row.ensures in
    record {
      blocked = c.close.ensures.blocked;
      agrees = record {
        room = room;
        right = right;
        free = c.end_row.ensures.free ∙ (c.gather-front.ensures.free ∙ (c.empty.ensures.free ∙ (c.requires.agrees.free ∙ sym (same-free c))));
      };
    }

pub returns-clause-greatest : goal.returns-clause-greatest
returns-clause-greatest c =
    let g = c.gather-front.ensures.gathered in
    let p = packed c.args.self.now.mem c.gather-front.new.mem c.close.new.mem c.gather-front.result.end c.requires.blocked g c.close.ensures.mem (omega (arith, g.order, g.same_len)) in
    one-hole c.close.new.mem c.close.ensures.blocked p.last

pub returns-clause-apart : goal.returns-clause-apart
returns-clause-apart c =
    let g = c.gather-front.ensures.gathered in
    c.close.ensures.apart
    (packed-used c.args.self.now.mem c.gather-front.new.mem c.close.new.mem c.gather-front.result.end g c.close.ensures.mem (omega (arith, g.order, g.same_len)))

pub gather-front-requires : goal.gather-front-requires
gather-front-requires c =
    let holes = c.args.self.now.holes in
    let P : List ℕ → Type 0 = λ z. Firsts (BroughtTo c.args.self.now.mem 0) z 0 in
    record {
      blocked = c.requires.blocked;
      room = room-empty c.args.self.now.mem holes c.empty.new.self c.requires.agrees.room c.empty.ensures.firsts c.empty.ensures.tops;
      none = subst P (sym c.empty.ensures.firsts) (firsts-none (BroughtTo c.args.self.now.mem 0) (length holes.firsts.items) (comes-none c.args.self.now.mem));
    }
