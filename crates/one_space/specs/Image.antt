-- The image of a space, over its memory, its tables and its single numbers.
use Rattle.std.specs.Prelude.{ℕ, ◌-◌, Bool, length, List, [], ◌∷◌, map, take, drop, reverse}
use Rattle.store_image.specs.Image.{Image, Stretch, Region, Rooted, half, in_half, pieces_by_place}
use Rattle.record_move.specs.Copies.{record_words}
use Rattle.two_halves.specs.Stack.{values}
use Rattle.two_halves.specs.Halves.{front_of}
use Rattle.two_halves.specs.declared.table.Proc.{Proc}
use Rattle.two_halves.specs.declared.halves.Halves.{Halves}

-- The words of objects in the half in use, as a region without owner.
abbrev pub object_piece : Halves → Stretch
object_piece h = record { place = front_of h; words = take (h.room.top - front_of h) (drop (front_of h) h.mem) }

abbrev pub object_region : Halves → Region
object_region h = record { kind = half; owner = 0; piece = object_piece h }

-- The record at a place.
abbrev pub record_piece : List ℕ → ℕ → Stretch
record_piece mem v = record { place = v; words = take (record_words mem v) (drop v mem) }

-- A row with the first object of the one chain, its stack from the first pushed, and its queue from the first to be received.
abbrev pub rooted : Halves → Proc → Rooted
rooted h p = record {
  number = p.number;
  refs = p.refs;
  chain = h.head;
  registers = p.regs;
  stack = reverse (values h.mem p.stack p.depth);
  queue = values h.mem p.queue p.waiting;
}

-- The whole image: one region, records in the order of their places, and no area.
abbrev pub image_of : Halves → (serials next : ℕ) → (swept : Bool) → Image
image_of h serials next swept = record {
  layout = in_half;
  words = length h.mem;
  serials = serials;
  next = next;
  swept = swept;
  regions = object_region h ∷ [];
  bins = pieces_by_place (map (record_piece h.mem) h.bins.items);
  funs = pieces_by_place (map (record_piece h.mem) h.funs.items);
  processes = map (rooted h) h.procs.items;
  areas = [];
}
