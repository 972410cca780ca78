-- The image of a store, which is what the lines of its dump give, and which states it stands for.
use Rattle.std.specs.Prelude.{◌≡◌, ℕ, ◌+◌, ◌*◌, ◌/◌, ◌≤◌, ◌<◌, ◌⊎◌, ◌==◌, ◌&&◌, ◌||◌, nat_le, nat_lt, Bool, true, false, List, [], ◌∷◌, ◌++◌, length, map}
use Rattle.std.specs.Prelude.{flat_map, take, drop, reverse, if◌then◌else◌, slice_index}
use Rattle.std.specs.List.{filter, list_any}
use Rattle.plain_term.specs.Tree.{Tree}
use Rattle.plain_term.specs.Bytes.{shared_bytes}
use Rattle.plain_term.specs.Measures.{bin_words}
use Rattle.term_words.specs.Role.{IsSingle, NEXT}
use Rattle.term_words.specs.Object.{IsBinRecord, IsFunRecord, IsPointer, IsRecord, object_words}
use Rattle.term_words.specs.Reach.{Reach, first_traced}
use Rattle.term_words.specs.Counted.{In, Distinct}
use Rattle.term_words.specs.Stands.{Stands}
use Rattle.shared_rec.specs.Record.{owner_in}
use Rattle.off_heap_list.specs.Links.{IsLinkHeader}
use Rattle.off_heap_list.specs.Exact.{AllCounted, Exact}
use Rattle.plain_machine.specs.State.{Area, Process, State}

-- How a store keeps what lives: all of it in one half of the memory, or each process in blocks of its own.
pub data Layout : Type 0 where
  in_half : Layout
  in_blocks : Layout

-- What the words of a region are: those of the half in use; the young heap, the old heap, a message that waits or a fragment that
-- was received, of one process; a literal area.
pub data RegionKind : Type 0 where
  half : RegionKind
  young : RegionKind
  old : RegionKind
  message : RegionKind
  fragment : RegionKind
  area : RegionKind

-- Words side by side, and the place of the first: of a region, or of a record.
pub record Stretch : Type 0 where
  pub place : ℕ
  pub words : List ℕ

-- A region of objects. Its owner is the number of a process, that of an area's name, or 0 of the half.
pub record Region : Type 0 where
  pub kind : RegionKind
  pub owner : ℕ
  pub piece : Stretch

-- A process as its lines tell it: its number, the references it made, the first object of the chain that its objects stand in
-- (0 for none), and the words of its registers, of its stack, which begins with the first pushed, and of its queue.
pub record Rooted : Type 0 where
  pub number : ℕ
  pub refs : ℕ
  pub chain : ℕ
  pub registers : List ℕ
  pub stack : List ℕ
  pub queue : List ℕ

-- A literal area as its line tells it: the number of its name, and the words of its literals in order.
pub record Literals : Type 0 where
  pub name : ℕ
  pub words : List ℕ

-- The numbers and lists of a dump: how the store keeps what lives, the words of the arena, the shared binaries made so far, the
-- number of the next process, whether nothing has changed since the last sweep, the regions by rising place, the records of binaries
-- and of funs by rising place, the processes by rising number, and the areas by the rising number of their names.
pub record Image : Type 0 where
  pub layout : Layout
  pub words : ℕ
  pub serials : ℕ
  pub next : ℕ
  pub swept : Bool
  pub regions : List Region
  pub bins : List Stretch
  pub funs : List Stretch
  pub processes : List Rooted
  pub areas : List Literals

-- The words from which all that lives is reached: registers, stacks, queues and literals.
abbrev pub process_roots : Rooted → List ℕ
process_roots p = p.registers ++ (p.stack ++ p.queue)

abbrev pub literal_roots : Literals → List ℕ
literal_roots a = a.words

abbrev pub image_roots : Image → List ℕ
image_roots i = flat_map process_roots i.processes ++ flat_map literal_roots i.areas

-- The places of pieces, and the pieces of regions.
abbrev pub piece_places : List Stretch → List ℕ
piece_places rs = map (λ r. r.place) rs

abbrev pub region_pieces : List Region → List Stretch
region_pieces rs = map (λ r. r.piece) rs

-- All words that an image tells: those of regions and of records.
abbrev pub all_pieces : Image → List Stretch
all_pieces i = region_pieces i.regions ++ (i.bins ++ i.funs)

-- The place lies in one of the pieces.
abbrev pub LiesIn : List Stretch → ℕ → Type 0
LiesIn [] a = ⊥
LiesIn (r ∷ rs) a = ((r.place ≤ a) × (a < r.place + length r.words)) ⊎ LiesIn rs a

-- The memory has the words of each piece at their places.
abbrev pub HasPieces : List ℕ → List Stretch → Type 0
HasPieces mem [] = Unit {0}
HasPieces mem (r ∷ rs) = (r.place + length r.words ≤ length mem) × (take (length r.words) (drop r.place mem) ≡ r.words) × HasPieces mem rs

-- Each piece ends before the next one begins.
abbrev pub FollowEachOther : List Stretch → Type 0
FollowEachOther [] = Unit {0}
FollowEachOther (r ∷ []) = Unit {0}
FollowEachOther (r ∷ q ∷ rs) = (r.place + length r.words ≤ q.place) × FollowEachOther (q ∷ rs)

-- Pieces in the order of their places.
abbrev pub insert_piece : Stretch → List Stretch → List Stretch
insert_piece r [] = r ∷ []
insert_piece r (q ∷ qs) = if nat_lt q.place r.place then q ∷ insert_piece r qs else (r ∷ q ∷ qs)

abbrev pub pieces_by_place : List Stretch → List Stretch
pieces_by_place [] = []
pieces_by_place (r ∷ rs) = insert_piece r (pieces_by_place rs)

-- The table of kinds of regions: what a process's own words lie in, messages aside.
abbrev pub is_heap : RegionKind → Bool
is_heap young = true
is_heap old = true
is_heap fragment = true
is_heap _ = false

abbrev pub is_half : RegionKind → Bool
is_half half = true
is_half _ = false

abbrev pub is_message : RegionKind → Bool
is_message message = true
is_message _ = false

abbrev pub is_area : RegionKind → Bool
is_area area = true
is_area _ = false

-- The regions of the half; those of a process's heap; the messages that wait for it; all areas; the area of one name.
abbrev pub halves_in : List Region → List Region
halves_in rs = filter (λ r. is_half r.kind) rs

abbrev pub heaps_of : ℕ → List Region → List Region
heaps_of p rs = filter (λ r. is_heap r.kind && r.owner == p) rs

abbrev pub messages_of : ℕ → List Region → List Region
messages_of p rs = filter (λ r. is_message r.kind && r.owner == p) rs

abbrev pub areas_in : List Region → List Region
areas_in rs = filter (λ r. is_area r.kind) rs

abbrev pub area_of : ℕ → List Region → List Region
area_of name rs = filter (λ r. is_area r.kind && r.owner == name) rs

-- The n words from a place on lie in the region, from the first to the last.
abbrev pub holds_words : (a n : ℕ) → Region → Bool
holds_words a n r = nat_le r.piece.place a && nat_le (a + n) (r.piece.place + length r.piece.words)

-- The object that a pointer leads to lies whole in one of the regions.
abbrev pub lies_whole : List ℕ → List Region → ℕ → Bool
lies_whole mem rs w = list_any (holds_words (w / 4) (object_words mem w)) rs

-- Every object that the roots reach lies whole in one of the regions.
abbrev pub LeadInto : (mem roots : List ℕ) → List Region → Type 0
LeadInto mem roots rs = (w : ℕ) → Reach mem roots w → IsPointer w → lies_whole mem rs w ≡ true

-- What a live object of the region points to lies in the region too.
abbrev pub LeadsToItself : (mem roots : List ℕ) → Region → Type 0
LeadsToItself mem roots r = (v k : ℕ) → Reach mem roots v → IsPointer v → lies_whole mem (r ∷ []) v ≡ true → first_traced mem v ≤ k → k < object_words mem v
    → IsPointer (slice_index mem (v / 4 + k)) → lies_whole mem (r ∷ []) (slice_index mem (v / 4 + k)) ≡ true

abbrev pub EachLeadsToItself : (mem roots : List ℕ) → List Region → Type 0
EachLeadsToItself mem roots [] = Unit {0}
EachLeadsToItself mem roots (r ∷ rs) = LeadsToItself mem roots r × EachLeadsToItself mem roots rs

-- The region of a message is one of those that wait for its receiver.
abbrev pub IsAmong : Region → List Region → Type 0
IsAmong r [] = ⊥
IsAmong r (q ∷ rs) = (r ≡ q) ⊎ IsAmong r rs

-- Each word of a queue leads into areas alone, or has a region of its own among those that wait, and leads into that and into areas
-- alone. So the regions of a queue are gone through in its order; an immediate has none.
abbrev pub MessagesLead : (mem : List ℕ) (waiting areas each : List Region) → (queue : List ℕ) → Type 0
MessagesLead mem waiting areas [] [] = Unit {0}
MessagesLead mem waiting areas (r ∷ each) [] = ⊥
MessagesLead mem waiting areas [] (w ∷ queue) = LeadInto mem (w ∷ []) areas × MessagesLead mem waiting areas [] queue
MessagesLead mem waiting areas (r ∷ each) (w ∷ queue) = (LeadInto mem (w ∷ []) areas × MessagesLead mem waiting areas (r ∷ each) queue)
    ⊎ (IsAmong r waiting × LeadInto mem (w ∷ []) (r ∷ areas) × MessagesLead mem waiting areas each queue)

-- The messages of a queue lead so, and no two have one region.
pub record QueueLeads (mem : List ℕ) (waiting areas : List Region) (queue : List ℕ) : Type 0 where
  pub each : List Region
  pub lead : MessagesLead mem waiting areas each queue
  pub apart : Distinct (piece_places (region_pieces each))

-- A process's registers and stack lead into its own heap and into areas; its queue into a region a message.
pub record ProcessLeads (mem : List ℕ) (rs : List Region) (p : Rooted) : Type 0 where
  pub own : LeadInto mem (p.registers ++ p.stack) (heaps_of p.number rs ++ areas_in rs)
  pub queue : QueueLeads mem (messages_of p.number rs) (areas_in rs) p.queue

abbrev pub AllProcessesLead : List ℕ → List Region → List Rooted → Type 0
AllProcessesLead mem rs [] = Unit {0}
AllProcessesLead mem rs (p ∷ ps) = ProcessLeads mem rs p × AllProcessesLead mem rs ps

-- Literals lead into the area of their name alone.
abbrev pub AllLiteralsLead : List ℕ → List Region → List Literals → Type 0
AllLiteralsLead mem rs [] = Unit {0}
AllLiteralsLead mem rs (a ∷ more) = LeadInto mem a.words (area_of a.name rs) × AllLiteralsLead mem rs more

-- Where pointers lead in a store of blocks: none from one process to another, none out of a message or an area. Each region of an area
-- is that of an area that is told, and no two are of one.
pub record BlocksLead (i : Image) (mem : List ℕ) : Type 0 where
  pub areas_told : (n : ℕ) → In n (map (λ r. r.owner) (areas_in i.regions)) → In n (map (λ a. a.name) i.areas)
  pub areas_once : Distinct (map (λ r. r.owner) (areas_in i.regions))
  pub processes : AllProcessesLead mem i.regions i.processes
  pub literals : AllLiteralsLead mem i.regions i.areas
  pub areas : EachLeadsToItself mem (image_roots i) (areas_in i.regions)

-- Each piece lies between the two places.
abbrev pub AllWithin : (from to : ℕ) → List Stretch → Type 0
AllWithin from to [] = Unit {0}
AllWithin from to (r ∷ rs) = ((from ≤ r.place) × (r.place + length r.words ≤ to)) × AllWithin from to rs

-- Where pointers lead in a store of two halves: all regions and records lie in one of them, the half in use, and pointers lead to
-- whole objects there.
pub record HalfLeads (i : Image) (mem : List ℕ) : Type 0 where
  pub base : ℕ
  pub side : (base ≡ 0) ⊎ (base ≡ i.words / 2)
  pub within : AllWithin base (base + i.words / 2) (all_pieces i)
  pub lead : LeadInto mem (image_roots i) (halves_in i.regions)

-- Where pointers may lead, by the layout.
abbrev pub PointersLead : Layout → Image → List ℕ → Type 0
PointersLead in_half i mem = HalfLeads i mem
PointersLead in_blocks i mem = BlocksLead i mem

-- Each of the words stands for its tree, in order.
abbrev pub WordsStand : (ℕ → ℕ → Bool) → List (List ℕ) → List ℕ → List ℕ → List Tree → Type 0
WordsStand c shared mem [] [] = Unit {0}
WordsStand c shared mem (w ∷ ws) (t ∷ ts) = Stands c shared mem w t × WordsStand c shared mem ws ts
WordsStand c shared mem [] (t ∷ ts) = ⊥
WordsStand c shared mem (w ∷ ws) [] = ⊥

-- The record of a shared binary of the state: its serial is the binary's id.
pub record BinTold (c : ℕ → ℕ → Bool) (shared : List (List ℕ)) (mem : List ℕ) (r : Stretch) : Type 0 where
  pub from_one : 1 ≤ owner_in mem r.place
  pub known : owner_in mem r.place ≤ length shared
  pub is : IsBinRecord c mem r.place (owner_in mem r.place) (shared_bytes shared (owner_in mem r.place))
  pub whole : length r.words ≡ 4 + bin_words (length (shared_bytes shared (owner_in mem r.place)))

-- The record of a fun's name and arity.
pub record FunTold (c : ℕ → ℕ → Bool) (mem : List ℕ) (r : Stretch) : Type 0 where
  pub name : ℕ
  pub arity : ℕ
  pub is : IsFunRecord c mem r.place name arity
  pub whole : length r.words ≡ 4

-- Each of the records is one of a shared binary, of a fun.
abbrev pub AllBins : (ℕ → ℕ → Bool) → List (List ℕ) → List ℕ → List Stretch → Type 0
AllBins c shared mem [] = Unit {0}
AllBins c shared mem (r ∷ rs) = BinTold c shared mem r × AllBins c shared mem rs

abbrev pub AllFuns : (ℕ → ℕ → Bool) → List ℕ → List Stretch → Type 0
AllFuns c mem [] = Unit {0}
AllFuns c mem (r ∷ rs) = FunTold c mem r × AllFuns c mem rs

-- The records told are all that there are, no two are of one shared binary, and no two of one fun's name and arity.
pub record RecordsTold (c : ℕ → ℕ → Bool) (shared : List (List ℕ)) (mem : List ℕ) (bins funs : List Stretch) : Type 0 where
  pub all : (v n : ℕ) → IsRecord c mem v n → In v (piece_places (bins ++ funs))
  pub each_bin : AllBins c shared mem bins
  pub each_fun : AllFuns c mem funs
  pub bins_once : Distinct (map (owner_in mem) (piece_places bins))
  pub funs_once : Distinct (map (owner_in mem) (piece_places funs))

-- The process told stands for the process: each register, stack place and message for its tree.
pub record RootedStands (c : ℕ → ℕ → Bool) (shared : List (List ℕ)) (mem : List ℕ) (p : Rooted) (q : Process) : Type 0 where
  pub number : q.number ≡ p.number
  pub refs : q.refs ≡ p.refs
  pub registers : WordsStand c shared mem p.registers q.registers
  pub stack : WordsStand c shared mem (reverse p.stack) q.stack
  pub queue : WordsStand c shared mem p.queue q.queue

-- The processes told stand for the processes, in order.
abbrev pub AllRooted : (ℕ → ℕ → Bool) → List (List ℕ) → List ℕ → List Rooted → List Process → Type 0
AllRooted c shared mem [] [] = Unit {0}
AllRooted c shared mem (p ∷ ps) (q ∷ qs) = RootedStands c shared mem p q × AllRooted c shared mem ps qs
AllRooted c shared mem [] (q ∷ qs) = ⊥
AllRooted c shared mem (p ∷ ps) [] = ⊥

-- The areas of a state in the order of the numbers of their names.
abbrev pub put_area : Area → List Area → List Area
put_area a [] = a ∷ []
put_area a (b ∷ bs) = if nat_lt b.name a.name then b ∷ put_area a bs else (a ∷ b ∷ bs)

abbrev pub areas_by_name : List Area → List Area
areas_by_name [] = []
areas_by_name (a ∷ more) = put_area a (areas_by_name more)

-- The literals told stand for those of the areas, area by area.
pub record LiteralsStand (c : ℕ → ℕ → Bool) (shared : List (List ℕ)) (mem : List ℕ) (l : Literals) (a : Area) : Type 0 where
  pub name : a.name ≡ l.name
  pub words : WordsStand c shared mem l.words a.literals

abbrev pub AllLiterals : (ℕ → ℕ → Bool) → List (List ℕ) → List ℕ → List Literals → List Area → Type 0
AllLiterals c shared mem [] [] = Unit {0}
AllLiterals c shared mem (l ∷ ls) (a ∷ more) = LiteralsStand c shared mem l a × AllLiterals c shared mem ls more
AllLiterals c shared mem [] (a ∷ more) = ⊥
AllLiterals c shared mem (l ∷ ls) [] = ⊥

-- The image stands for the state. Its numbers are those of the state, and in a memory with its regions and records each root
-- stands for its tree. By the test every object lies in a region or is a record that is told, and each place has one role, so no
-- object begins within another; a word `next` is that of a holder or a fun. Pointers lead where the layout allows it. No record has
-- the count 0. Where nothing has changed since the last sweep, each record's count is the number of holders and funs that are
-- reached and name it.
pub record ImageStands (i : Image) (s : State) : Type 0 where
  pub serials : length s.shared ≡ i.serials
  pub next : s.next ≡ i.next
  pub swept : s.swept ≡ i.swept
  pub mem : List ℕ
  pub arena : length mem ≡ i.words
  pub told : HasPieces mem (all_pieces i)
  pub regions_follow : FollowEachOther (region_pieces i.regions)
  pub bins_follow : FollowEachOther i.bins
  pub funs_follow : FollowEachOther i.funs
  pub test : ℕ → ℕ → Bool
  pub single : IsSingle test
  pub inside : (a k : ℕ) → test a k ≡ true → LiesIn (all_pieces i) a
  pub nexts : (p : ℕ) → test (p + 2) NEXT ≡ true → IsLinkHeader (slice_index mem p)
  pub records : RecordsTold test s.shared mem i.bins i.funs
  pub processes : AllRooted test s.shared mem i.processes s.processes
  pub areas : AllLiterals test s.shared mem i.areas (areas_by_name s.areas)
  pub lead : PointersLead i.layout i mem
  pub counted : AllCounted test mem
  pub exact : s.swept ≡ true → Exact test mem (image_roots i)

-- The image of a store in which nothing is kept: no words in its regions, and no record.
pub record HoldsNothing (i : Image) : Type 0 where
  pub regions : flat_map (λ r. r.piece.words) i.regions ≡ []
  pub bins : i.bins ≡ []
  pub funs : i.funs ≡ []
