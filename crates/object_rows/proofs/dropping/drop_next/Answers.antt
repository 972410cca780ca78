use Rattle.std.proofs.Common.{ℕ, List, sym, subst}
use Rattle.off_heap_list.specs.Links.{Links}
use Rattle.object_rows.specs.Dropped.{IsNextLink}
use Rattle.object_rows.proofs.Passed.{beside-less, next-are}
use Rattle.object_rows.proofs.dropping.drop_next.Goals as goal

pub unchain-left-requires-clause-of_record : goal.unchain-left-requires-clause-of_record
unchain-left-requires-clause-of_record c =
    let f : IsNextLink c.args.mem.now c.requires.ws c.args.to c.in_ok-found.found.object c.in_ok-found.found.next = c.in_ok-found.ensures c.requires.ws c.requires.are in
    (c.requires.first c.in_ok-found.found.object _ (next-are c.args.mem.now c.requires.ws c.args.to c.in_ok-found.found.object c.in_ok-found.found.next f)).0

pub unchain-left-requires-clause-count : goal.unchain-left-requires-clause-count
unchain-left-requires-clause-count c =
    let f : IsNextLink c.args.mem.now c.requires.ws c.args.to c.in_ok-found.found.object c.in_ok-found.found.next = c.in_ok-found.ensures c.requires.ws c.requires.are in
    (c.requires.first c.in_ok-found.found.object _ (next-are c.args.mem.now c.requires.ws c.args.to c.in_ok-found.found.object c.in_ok-found.found.next f)).1

pub returns : goal.returns
returns c = λ ws are.
    let f : IsNextLink c.args.mem.now ws c.args.to c.in_ok-found.found.object c.in_ok-found.found.next = c.in_ok-found.ensures ws are in
    record {
      found = f;
      are = next-are c.args.mem.now ws c.args.to c.in_ok-found.found.object c.in_ok-found.found.next f;
      writes = c.unchain-left.ensures.writes;
      freed = c.unchain-left.ensures.freed;
      trees = c.unchain-left.ensures.kept;
      links = λ k head os further single l.
          let P : List ℕ → Type 0 = λ m. Links k m head os further in
          subst P (sym c.unchain-left.ensures.writes) (beside-less k c.args.mem.now head c.in_ok-found.found.object os further single l);
    }
