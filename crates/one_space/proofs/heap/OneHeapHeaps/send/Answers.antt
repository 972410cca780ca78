use Rattle.one_space.proofs.OfHeap.Keeping.{row-inside}
use Rattle.one_space.proofs.OfHeap.Growing.{sends-to}
use Rattle.one_space.proofs.heap.OneHeapHeaps.send.Goals as goal

pub send-requires : goal.send-requires
send-requires c =
    let can = c.requires.can in
    record {
      can = record {
        has = record {
          laid = c.requires.ready.lives.whole.laid;
          named = can.named;
          shared = can.shared;
          processes = can.processes;
          stands = can.stood.is;
          within = row-inside c.args.self.now c.args.row c.requires.row;
        };
        tree = can.tree;
        held = can.held;
        fits = can.room;
      };
    }

pub returns : goal.returns
returns c = sends-to c.args.self.now c.requires.ready c.args.row c.requires.row c.args.w c.send.new.self c.send.ensures
