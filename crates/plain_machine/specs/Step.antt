-- What one command makes of a state, and what is answered.
use Rattle.std.specs.Prelude.{ℕ, zero, suc, ◌+◌, Bool, true, false, ◌||◌, nat_le, nat_lt, List, [], ◌∷◌, ◌++◌, length, map, replicate, codes, decimal, Option, Some, None, Result, Ok, Err}
use Rattle.std.specs.declared.cmp.Ordering.{Ordering}
use Rattle.std.specs.declared.cmp.Ordering.TheVariants.{Less, Equal, Greater}
use Rattle.plain_term.specs.Tree.{Tree, Trees, Pairs}
use Rattle.plain_term.specs.Tree.{Trees as trees}
use Rattle.plain_term.specs.Tree.Tree.{Pid, Ref as Reference, Nil, Map, Fun}
use Rattle.plain_term.specs.Beyond.{is_beyond}
use Rattle.plain_term.specs.Measures.{flat}
use Rattle.plain_term.specs.Order.{order}
use Rattle.plain_term.specs.InOrder.{put_pair}
use Rattle.plain_term.specs.Text.{text, numbers_text}
use Rattle.script_grammar.specs.declared.command.Command.{Command}
use Rattle.script_grammar.specs.declared.command.Command.TheVariants.{Nothing, Process, System}
use Rattle.script_grammar.specs.declared.command.Verb.{Verb}
use Rattle.script_grammar.specs.declared.command.Verb.TheVariants.{Set, Choose, MapPut, Fill, Fun as MakeFun, Ref, Own, Repeat, Push, Pop, Send, Recv, Queue, Print, Eq, Cmp, Flat, Lit, Gc, Info, Heap, Exit}
use Rattle.script_grammar.specs.declared.command.Pick.{Pick}
use Rattle.script_grammar.specs.declared.command.Shape.{Shape}
use Rattle.script_grammar.specs.declared.command.To.{To}
use Rattle.script_grammar.specs.declared.command.SysVerb.{SysVerb}
use Rattle.script_grammar.specs.declared.command.SysVerb.TheVariants.{Spawn, Load, Purge, Sweep, Counts, Dump, Procs, Quit}
use Rattle.script_grammar.specs.declared.refusal.Refusal.{Refusal}
use Rattle.script_grammar.specs.declared.refusal.Refusal.TheVariants.{NoProc, BadArg, Empty, Big, MapSize, NoArea, AreaThere, Procs as TooMany, Syntax}
use Rattle.script_grammar.specs.Written.{Terms}
use Rattle.script_grammar.specs.Written.Terms.{end, ◌▹◌}
use Rattle.script_grammar.specs.Names.{Parsed}
use Rattle.plain_machine.specs.Made.{tree_of, trees_of_terms, bin_tree, too_many}
use Rattle.plain_machine.specs.Flaws.{is_wide, are_wide, is_big, are_big, flaw_of}
use Rattle.plain_machine.specs.Parts.{picked, pairs_in, repeated}
use Rattle.plain_machine.specs.declared.limits.TheConstants.{MOST_PROCESSES, MOST_AREAS, MOST_PLACES, MOST_FILL, MOST_ARITY, MOST_BYTE}
use Rattle.plain_machine.specs.Texts.{divided}
use Rattle.plain_machine.specs.Tightness.{receiver}
use Rattle.plain_machine.specs.State.{Process as Live, State, Area, process_of, area_with, has_area, with_process, with_message, without_process, with_spawned, with_area, without_area, live_numbers, register, with_register}

-- What a command comes to: a new state and the reply; a refusal that leaves the state; or a map of the store
-- as the reply, which leaves the state too.
pub data Outcome : Type 0 where
  Accepted : State → List ℕ → Outcome
  Refused : Refusal → Outcome
  Mapped : Outcome

-- The verbs that print and change nothing.
abbrev pub is_printing_verb : Verb → Bool
is_printing_verb Queue = true
is_printing_verb (Print r) = true
is_printing_verb (Eq a b) = true
is_printing_verb (Cmp a b) = true
is_printing_verb (Flat r) = true
is_printing_verb Info = true
is_printing_verb Heap = true
is_printing_verb _ = false

-- The verbs of the system that print and change nothing.
abbrev pub is_printing_system : SysVerb → Bool
is_printing_system Counts = true
is_printing_system Dump = true
is_printing_system Procs = true
is_printing_system Quit = true
is_printing_system _ = false

-- The commands that print and change nothing; a line without a command is one.
abbrev pub is_printing : Command → Bool
is_printing Nothing = true
is_printing (Process number verb) = is_printing_verb verb
is_printing (System verb) = is_printing_system verb

-- The command that sweeps every process.
abbrev pub is_sweep : Command → Bool
is_sweep (System Sweep) = true
is_sweep _ = false

-- The changed state after an accepted command: it has the line's new names. `sys sweep` makes `swept` true, every other
-- command that changes something makes it false.
abbrev pub settled : Parsed → State → State
settled p changed = record changed { names = p.names; swept = is_sweep p.command }

-- The command is accepted with this reply.
abbrev pub answers : Parsed → State → List ℕ → Outcome
answers p changed reply = Accepted (settled p changed) reply

-- The command is accepted, and only that is said.
abbrev pub does : Parsed → State → Outcome
does p changed = answers p changed (codes "ok")

-- The tree of the line's written term, and the shared byte lists with the term's own at their end.
abbrev pub written_tree : State → Parsed → Live → Terms → Tree × List (List ℕ)
written_tree s p q end = (Nil, s.shared)
written_tree s p q (t ▹ ts) = tree_of p.names q.registers t s.shared

-- The register holds a tree that was just made, and the shared byte lists are these.
abbrev pub with_made : State → Live → ℕ → Tree × List (List ℕ) → State
with_made s q r made = record (with_process (with_register r (made.0) q) s) { shared = made.1 }

-- The outcome, but where a written term is refused.
abbrev pub unless_flawed : Option Refusal → Outcome → Outcome
unless_flawed None o = o
unless_flawed (Some r) o = Refused r

-- Why the line's written term is refused, if it is.
abbrev pub written_flaw : State → Parsed → Live → Terms → Option Refusal
written_flaw s p q end = None
written_flaw s p q (t ▹ ts) = flaw_of (is_big p.names q.registers t s.shared) (is_wide p.names q.registers t s.shared)

-- `set`: the register holds the written term, where its maps can be made.
abbrev pub set_step : State → Parsed → Live → ℕ → Outcome
set_step s p q r = unless_flawed (written_flaw s p q p.terms) (does p (with_made s q r (written_tree s p q p.terms)))

-- `hd`, `tl`, `elem`, `mapget`, `part`, `env`: the register holds the part that is picked.
abbrev pub choose : Option Tree → State → Parsed → Live → ℕ → Outcome
choose None s p q r = Refused BadArg
choose (Some t) s p q r = does p (with_process (with_register r t q) s)

abbrev pub choose_step : State → Parsed → Live → (r m : ℕ) → Pick → Outcome
choose_step s p q r m how = choose (picked p.names s.shared q how (register m q)) s p q r

-- `mapput`: the register holds the map of these pairs, where there are not too many.
abbrev pub put_unless_wide : Bool → Pairs → State → Parsed → Live → ℕ → Outcome
put_unless_wide true ps s p q r = Refused MapSize
put_unless_wide false ps s p q r = does p (with_process (with_register r (Map ps) q) s)

-- No key of a map is beyond the walk limit.
abbrev pub put_unless_big : Bool → Pairs → State → Parsed → Live → ℕ → Outcome
put_unless_big true ps s p q r = Refused Big
put_unless_big false ps s p q r = put_unless_wide (too_many ps) ps s p q r

-- A pair is put into those of a map.
abbrev pub put_into : Option Pairs → (key value : Tree) → State → Parsed → Live → ℕ → Outcome
put_into None key value s p q r = Refused BadArg
put_into (Some ps) key value s p q r = put_unless_big (is_beyond s.shared key) (put_pair p.names s.shared key value ps) s p q r

abbrev pub mapput_step : State → Parsed → Live → (r m k v : ℕ) → Outcome
mapput_step s p q r m k v = put_into (pairs_in (register m q)) (register k q) (register v q) s p q r

-- `fill`: the register holds a binary of these bytes, which are not too many and all of them a byte.
abbrev pub fill_if : Bool → List ℕ → State → Parsed → Live → ℕ → Outcome
fill_if true bytes s p q r = Refused BadArg
fill_if false bytes s p q r = does p (with_made s q r (bin_tree bytes s.shared))

abbrev pub fill_step : State → Parsed → Live → (r len byte : ℕ) → Outcome
fill_step s p q r len byte = fill_if (nat_lt MOST_FILL len || nat_lt MOST_BYTE byte) (replicate len byte) s p q r

-- The trees of the registers that are written as an environment; they bring no shared binary.
abbrev pub env_of : State → Parsed → Live → Trees
env_of s p q = (trees_of_terms p.names q.registers p.terms s.shared).0

-- `fun`: the register holds a fun with this environment, which the process has made, where its arity is not too great.
abbrev pub fun_if : Bool → Tree → State → Parsed → Live → ℕ → Outcome
fun_if true t s p q r = Refused BadArg
fun_if false t s p q r = does p (with_process (with_register r t q) s)

abbrev pub fun_step : State → Parsed → Live → (r name arity : ℕ) → Outcome
fun_step s p q r name arity = fun_if (nat_lt MOST_ARITY arity) (Fun name arity q.number (env_of s p q)) s p q r

-- `ref`: the register holds a reference that the process has not made before.
abbrev pub ref_step : State → Parsed → Live → ℕ → Outcome
ref_step s p q r = does p (with_process (record (with_register r (Reference q.number (q.refs + 1)) q) { refs = q.refs + 1 }) s)

-- `mktuple` and `mklist`: the register holds so many times the other's tree, but not in too many places.
abbrev pub repeat_if : Bool → Tree → State → Parsed → Live → ℕ → Outcome
repeat_if true t s p q r = Refused BadArg
repeat_if false t s p q r = does p (with_process (with_register r t q) s)

abbrev pub repeat_step : State → Parsed → Live → ℕ → Shape → (n m : ℕ) → Outcome
repeat_step s p q r shape n m = repeat_if (nat_lt MOST_PLACES n) (repeated shape n (register m q)) s p q r

-- `self`: the register holds the pid of the process.
abbrev pub self_step : State → Parsed → Live → ℕ → Outcome
self_step s p q r = does p (with_process (with_register r (Pid q.number) q) s)

-- What stands at a place of a list, counted from 0.
abbrev pub literal_at : {A : Type 0} → ℕ → List A → Option A
literal_at i [] = None
literal_at zero (t ∷ ts) = Some t
literal_at (suc i) (t ∷ ts) = literal_at i ts

-- What stands at a place of a list, counted from 1.
abbrev pub literal_of : {A : Type 0} → ℕ → List A → Option A
literal_of zero ts = None
literal_of (suc i) ts = literal_at i ts

-- `lit`: the register holds the area's literal at this place, counted from 1.
abbrev pub lit_from : Option Area → State → Parsed → Live → (r i : ℕ) → Outcome
lit_from None s p q r i = Refused NoArea
lit_from (Some a) s p q r i = choose (literal_of i a.literals) s p q r

abbrev pub lit_step : State → Parsed → Live → (r name i : ℕ) → Outcome
lit_step s p q r name i = lit_from (area_with name s) s p q r i

-- `push`: the register's tree goes on the stack.
abbrev pub push_step : State → Parsed → Live → ℕ → Outcome
push_step s p q r = does p (with_process (record q { stack = register r q ∷ q.stack }) s)

-- `pop`: the register holds the tree that was pushed last, which leaves the stack.
abbrev pub pop_from : List Tree → State → Parsed → Live → ℕ → Outcome
pop_from [] s p q r = Refused Empty
pop_from (t ∷ stack) s p q r = does p (with_process (record (with_register r t q) { stack = stack }) s)

abbrev pub pop_step : State → Parsed → Live → ℕ → Outcome
pop_step s p q r = pop_from q.stack s p q r

-- `send`: the register's tree goes into a queue, last, where it is within the walk limit; the operand is a number or a pid.
abbrev pub send_within : Bool → ℕ → Tree → State → Parsed → Outcome
send_within true n t s p = Refused Big
send_within false n t s p = does p (with_message n t s)

abbrev pub send_to : Option ℕ → Tree → State → Parsed → Outcome
send_to None t s p = Refused BadArg
send_to (Some n) t s p = send_within (is_beyond s.shared t) n t s p

abbrev pub send_step : State → Parsed → Live → ℕ → To → Outcome
send_step s p q r to = send_to (receiver to q) (register r q) s p

-- `recv`: the register holds the first message, which leaves the queue.
abbrev pub recv_from : List Tree → State → Parsed → Live → ℕ → Outcome
recv_from [] s p q r = Refused Empty
recv_from (t ∷ queue) s p q r = does p (with_process (record (with_register r t q) { queue = queue }) s)

abbrev pub recv_step : State → Parsed → Live → ℕ → Outcome
recv_step s p q r = recv_from q.queue s p q r

-- `gc` and `sys sweep`: every tree stays.
abbrev pub collect_step : State → Parsed → Outcome
collect_step s p = does p s

-- `exit`: the process is gone.
abbrev pub exit_step : State → Parsed → Live → Outcome
exit_step s p q = does p (without_process q.number s)

-- The command prints a text, or is refused; both leave the state.
abbrev pub tells : State → Result (List ℕ) Refusal → Outcome
tells s (Ok text) = Accepted s text
tells s (Err r) = Refused r

-- A text where the tree is within the walk limit.
abbrev pub unless_beyond : Bool → List ℕ → Result (List ℕ) Refusal
unless_beyond true text = Err Big
unless_beyond false text = Ok text

-- `print`: the text of the register's tree, where the tree is within the walk limit.
abbrev pub print_text : State → Parsed → Tree → Result (List ℕ) Refusal
print_text s p t = unless_beyond (is_beyond s.shared t) (text p.names s.shared t)

-- `eq`: whether two trees are equal.
abbrev pub eq_text : Ordering → List ℕ
eq_text Equal = codes "true"
eq_text _ = codes "false"

-- `cmp`: how the first of two trees stands to the second.
abbrev pub cmp_text : Ordering → List ℕ
cmp_text Less = codes "lt"
cmp_text Equal = codes "eq"
cmp_text Greater = codes "gt"

-- The text of an order where both trees are within the walk limit.
abbrev pub order_text : State → Parsed → (Ordering → List ℕ) → (t u : Tree) → Result (List ℕ) Refusal
order_text s p tell t u = unless_beyond (is_beyond s.shared t || is_beyond s.shared u) (tell (order p.names s.shared t u))

-- `flat`: the flat size of the register's tree, where the tree is within the walk limit.
abbrev pub flat_text : State → Tree → Result (List ℕ) Refusal
flat_text s t = unless_beyond (is_beyond s.shared t) (decimal (flat t))

-- `queue`: the texts of the messages in order.
abbrev pub queue_text : State → Parsed → Live → List ℕ
queue_text s p q = codes "[" ++ (divided (map (text p.names s.shared) q.queue) ++ codes "]")

-- What the verbs that print tell of a live process. A verb that is not built is none of the grammar.
abbrev pub told_of : State → Parsed → Live → Verb → Result (List ℕ) Refusal
told_of s p q (Print r) = print_text s p (register r.0 q)
told_of s p q (Eq a b) = order_text s p eq_text (register a.0 q) (register b.0 q)
told_of s p q (Cmp a b) = order_text s p cmp_text (register a.0 q) (register b.0 q)
told_of s p q (Flat r) = flat_text s (register r.0 q)
told_of s p q Queue = Ok (queue_text s p q)
told_of s p q _ = Err Syntax

-- A verb at a live process: what changes something has its row here, all else tells.
abbrev pub by_verb : State → Parsed → Live → Verb → Outcome
by_verb s p q (Set r) = set_step s p q r.0
by_verb s p q (Choose r m how) = choose_step s p q r.0 m.0 how
by_verb s p q (MapPut r m k v) = mapput_step s p q r.0 m.0 k.0 v.0
by_verb s p q (Fill r len byte) = fill_step s p q r.0 len byte
by_verb s p q (MakeFun r name arity) = fun_step s p q r.0 name arity
by_verb s p q (Ref r) = ref_step s p q r.0
by_verb s p q (Own r) = self_step s p q r.0
by_verb s p q (Lit r name i) = lit_step s p q r.0 name i
by_verb s p q (Repeat r shape n m) = repeat_step s p q r.0 shape n m.0
by_verb s p q (Push r) = push_step s p q r.0
by_verb s p q (Pop r) = pop_step s p q r.0
by_verb s p q (Send r to) = send_step s p q r.0 to
by_verb s p q (Recv r) = recv_step s p q r.0
by_verb s p q (Gc depth) = collect_step s p
by_verb s p q Exit = exit_step s p q
by_verb s p q verb = tells s (told_of s p q verb)

abbrev pub in_process : Option Live → State → Parsed → Verb → Outcome
in_process None s p verb = Refused NoProc
in_process (Some q) s p verb = by_verb s p q verb

-- `spawn`: one process more, and its number is told. At most so many processes live at a time.
abbrev pub spawn_if : Bool → State → Parsed → Outcome
spawn_if true s p = Refused TooMany
spawn_if false s p = answers p (with_spawned s) (codes "ok " ++ decimal s.next)

abbrev pub spawn_step : State → Parsed → Outcome
spawn_step s p = spawn_if (nat_le MOST_PROCESSES (length s.processes)) s p

-- Trees as a list.
abbrev pub tree_list : Trees → List Tree
tree_list trees.end = []
tree_list (trees.◌▹◌ t ts) = t ∷ tree_list ts

-- The trees of the line's written terms, none of which holds a register, and the shared byte lists with their own at the end.
abbrev pub literals_of : State → Parsed → Trees × List (List ℕ)
literals_of s p = trees_of_terms p.names [] p.terms s.shared

-- The area of this name has these literals, and the shared byte lists are these.
abbrev pub with_literals : State → ℕ → Trees × List (List ℕ) → State
with_literals s name made = record (with_area (record { name = name; literals = tree_list (made.0) }) s) { shared = made.1 }

-- Why one of the line's written terms is refused, if one is.
abbrev pub literals_flaw : State → Parsed → Option Refusal
literals_flaw s p = flaw_of (are_big p.names [] p.terms s.shared) (are_wide p.names [] p.terms s.shared)

-- `load`: an area of this name has the written terms as its literals, where no area has the name and not too many stand, and where
-- the terms' maps can be made. No key in a line that is not too long is beyond the walk limit.
abbrev pub load_if : Bool → State → Parsed → ℕ → Outcome
load_if true s p name = Refused AreaThere
load_if false s p name = unless_flawed (literals_flaw s p) (does p (with_literals s name (literals_of s p)))

abbrev pub load_step : State → Parsed → ℕ → Outcome
load_step s p name = load_if (has_area name s || nat_le MOST_AREAS (length s.areas)) s p name

-- `purge`: the area is gone, and every tree stays.
abbrev pub purge_if : Bool → State → Parsed → ℕ → Outcome
purge_if true s p name = does p (without_area name s)
purge_if false s p name = Refused NoArea

abbrev pub purge_step : State → Parsed → ℕ → Outcome
purge_step s p name = purge_if (has_area name s) s p name

-- `procs`: the live numbers.
abbrev pub procs_text : State → List ℕ
procs_text s = codes "[" ++ (numbers_text (live_numbers s) ++ codes "]")

-- What the verbs of the system that print tell.
abbrev pub told_of_system : State → SysVerb → Result (List ℕ) Refusal
told_of_system s Procs = Ok (procs_text s)
told_of_system s Quit = Ok (codes "ok")
told_of_system s _ = Err Syntax

-- A verb of the whole machine: what changes something has its row here, all else tells.
abbrev pub by_system : State → Parsed → SysVerb → Outcome
by_system s p Spawn = spawn_step s p
by_system s p Sweep = collect_step s p
by_system s p (Load name count) = load_step s p name
by_system s p (Purge name) = purge_step s p name
by_system s p Counts = Mapped
by_system s p verb = tells s (told_of_system s verb)

abbrev pub by_command : State → Parsed → Command → Outcome
by_command s p Nothing = Accepted s []
by_command s p (Process number verb) = in_process (process_of number s) s p verb
by_command s p (System verb) = by_system s p verb

-- The one step of a parsed line.
abbrev pub step : State → Parsed → Outcome
step s p = by_command s p p.command
