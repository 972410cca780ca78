-- How many words a line asks for, how many all that lives asks for, and when a line is tight.
use Rattle.std.specs.Prelude.{ℕ, ◌+◌, ◌*◌, ◌==◌, Bool, nat_le, nat_lt, if◌then◌else◌, List, [], ◌∷◌, ◌++◌, length, sum_by, flat_map, Option, Some, None}
use Rattle.std.specs.List.{list_any}
use Rattle.plain_term.specs.Tree.{Tree, Trees, Pairs, pairs_len}
use Rattle.plain_term.specs.Tree.Tree.{Int, Atom, Pid, Ref, Nil, Cons, Tuple, Map, Bin, Shared, Part, Fun}
use Rattle.plain_term.specs.Tree.Trees.{end, ◌▹◌}
use Rattle.plain_term.specs.Tree.Pairs.{stop, pair}
use Rattle.plain_term.specs.Bytes.{shared_bytes}
use Rattle.plain_term.specs.Measures.{flat, bin_words, int_flat}
use Rattle.script_grammar.specs.declared.command.Pick.TheVariants as pick
use Rattle.script_grammar.specs.declared.command.Shape.{Shape}
use Rattle.script_grammar.specs.declared.command.Shape.TheVariants.{Tuple as TupleShape, List as ListShape}
use Rattle.script_grammar.specs.declared.command.To.{To}
use Rattle.script_grammar.specs.declared.command.To.TheVariants.{Number as ToNumber, Held as ToHeld}
use Rattle.script_grammar.specs.declared.command.Command.{Command}
use Rattle.script_grammar.specs.declared.command.Command.TheVariants.{Nothing, Process, System}
use Rattle.script_grammar.specs.declared.command.Verb.{Verb}
use Rattle.script_grammar.specs.declared.command.Verb.TheVariants.{Set, Choose, MapPut, Fill, Fun as MakeFun, Ref as MakeRef, Repeat, Push, Send}
use Rattle.script_grammar.specs.declared.command.SysVerb.{SysVerb}
use Rattle.script_grammar.specs.declared.command.SysVerb.TheVariants.{Spawn, Load}
use Rattle.script_grammar.specs.Written.{Term, Terms, TermPairs, terms_len, term_pairs_len}
use Rattle.script_grammar.specs.Written.{Term as term}
use Rattle.script_grammar.specs.Written.{Terms as terms}
use Rattle.script_grammar.specs.Written.{TermPairs as pairs}
use Rattle.script_grammar.specs.Names.{Parsed}
use Rattle.plain_machine.specs.declared.costs.TheConstants.{PROCESS_COST, AREA_COST, PLACE_COST, MESSAGE_COST, RECORD_COST, COUNTED_COST}
use Rattle.plain_machine.specs.State.{Process as Live, Area, State, process_of, is_live, register}

-- A binary of so many bytes: up to 64 of them stand on the heap, more in a record with a holder.
abbrev pub fill_words : ℕ → ℕ
fill_words len = if nat_le len 64 then 2 + bin_words len else COUNTED_COST + bin_words len

abbrev mutual
  -- The words of the parts of a written term: every written pair of a map counts.
  pub build_words : Term → ℕ
  build_words (term.Int i) = int_flat i
  build_words (term.Atom name) = 0
  build_words (term.Pid n) = 0
  build_words (term.Held r) = 0
  build_words (term.Listed ts) = 2 * terms_len ts + build_words_of_all ts
  build_words (term.Barred ts t) = 2 * terms_len ts + (build_words_of_all ts + build_words t)
  build_words (term.Tuple ts) = 1 + terms_len ts + build_words_of_all ts
  build_words (term.Map ps) = 4 + 2 * term_pairs_len ps + build_words_of_pairs ps
  build_words (term.Bin bytes) = fill_words (length bytes)

  -- The words of all written terms of a list.
  pub build_words_of_all : Terms → ℕ
  build_words_of_all terms.end = 0
  build_words_of_all (terms.◌▹◌ t ts) = build_words t + build_words_of_all ts

  -- The words of all written keys and values.
  pub build_words_of_pairs : TermPairs → ℕ
  build_words_of_pairs pairs.stop = 0
  build_words_of_pairs (pairs.pair k v ps) = build_words k + build_words v + build_words_of_pairs ps

-- How many keys a map has; no other tree has any.
abbrev pub key_count : Tree → ℕ
key_count (Map ps) = pairs_len ps
key_count _ = 0

-- Many places: a tuple has a header, a list place is two words.
abbrev pub repeat_words : Shape → ℕ → ℕ
repeat_words TupleShape n = 1 + n
repeat_words ListShape n = 2 * n

-- The process that a pid names; no other tree names one.
abbrev pub pid_number : Tree → Option ℕ
pid_number (Pid n) = Some n
pid_number _ = None

-- The number that a message is sent to.
abbrev pub receiver : To → Live → Option ℕ
receiver (ToNumber n) q = Some n
receiver (ToHeld r) q = pid_number (register r.0 q)

-- A copy for a live process; a process that does not live gets none.
abbrev pub send_words : Option ℕ → State → Tree → ℕ
send_words None s t = 0
send_words (Some n) s t = if is_live n s then MESSAGE_COST + flat t else 0

-- What a verb asks for at a live process.
abbrev pub verb_words : State → Parsed → Live → Verb → ℕ
verb_words s p q (Set r) = build_words_of_all p.terms
verb_words s p q (MapPut r m k v) = 6 + 2 * key_count (register m.0 q)
verb_words s p q (Choose r m (pick.Part offset len)) = 5
verb_words s p q (Fill r len byte) = fill_words len
verb_words s p q (MakeFun r name arity) = COUNTED_COST + terms_len p.terms
verb_words s p q (MakeRef r) = 3
verb_words s p q (Repeat r shape n t) = repeat_words shape n
verb_words s p q (Push r) = PLACE_COST
verb_words s p q (Send r to) = send_words (receiver to q) s (register r.0 q)
verb_words s p q _ = 0

abbrev pub process_words : Option Live → State → Parsed → Verb → ℕ
process_words None s p verb = 0
process_words (Some q) s p verb = verb_words s p q verb

abbrev pub system_words : Parsed → SysVerb → ℕ
system_words p Spawn = PROCESS_COST
system_words p (Load area count) = AREA_COST + terms_len p.terms + build_words_of_all p.terms
system_words p _ = 0

abbrev pub command_words : State → Parsed → Command → ℕ
command_words s p Nothing = 0
command_words s p (Process number verb) = process_words (process_of number s) s p verb
command_words s p (System verb) = system_words p verb

-- The words that a line asks for.
abbrev pub grow : State → Parsed → ℕ
grow s p = command_words s p p.command

abbrev mutual
  -- The ids of the shared binaries that occur in a tree, with repetitions.
  pub ids_in : Tree → List ℕ
  ids_in (Int i) = []
  ids_in (Atom k) = []
  ids_in (Pid n) = []
  ids_in (Ref n k) = []
  ids_in Nil = []
  ids_in (Cons h t) = ids_in h ++ ids_in t
  ids_in (Tuple ts) = ids_in_all ts
  ids_in (Map ps) = ids_in_pairs ps
  ids_in (Bin bytes) = []
  ids_in (Shared id) = id ∷ []
  ids_in (Part base offset len) = ids_in base
  ids_in (Fun name arity creator env) = ids_in_all env

  pub ids_in_all : Trees → List ℕ
  ids_in_all end = []
  ids_in_all (t ▹ ts) = ids_in t ++ ids_in_all ts

  pub ids_in_pairs : Pairs → List ℕ
  ids_in_pairs stop = []
  ids_in_pairs (pair k v ps) = ids_in k ++ (ids_in v ++ ids_in_pairs ps)

abbrev mutual
  -- The funs that occur in a tree, each by its name and its arity, which is below 256, with repetitions.
  pub funs_in : Tree → List ℕ
  funs_in (Int i) = []
  funs_in (Atom k) = []
  funs_in (Pid n) = []
  funs_in (Ref n k) = []
  funs_in Nil = []
  funs_in (Cons h t) = funs_in h ++ funs_in t
  funs_in (Tuple ts) = funs_in_all ts
  funs_in (Map ps) = funs_in_pairs ps
  funs_in (Bin bytes) = []
  funs_in (Shared id) = []
  funs_in (Part base offset len) = []
  funs_in (Fun name arity creator env) = (256 * name + arity) ∷ funs_in_all env

  pub funs_in_all : Trees → List ℕ
  funs_in_all end = []
  funs_in_all (t ▹ ts) = funs_in t ++ funs_in_all ts

  pub funs_in_pairs : Pairs → List ℕ
  funs_in_pairs stop = []
  funs_in_pairs (pair k v ps) = funs_in k ++ (funs_in v ++ funs_in_pairs ps)

-- Each number of a list once.
abbrev pub each_once : List ℕ → List ℕ
each_once [] = []
each_once (n ∷ ns) = if list_any (λ m. m == n) ns then each_once ns else (n ∷ each_once ns)

-- The trees that a process holds: registers, stack and queue.
abbrev pub held_trees : Live → List Tree
held_trees q = q.registers ++ (q.stack ++ q.queue)

-- All trees that live.
abbrev pub living_trees : State → List Tree
living_trees s = flat_map held_trees s.processes ++ flat_map (λ a. a.literals) s.areas

-- What a live process asks for, its messages among it.
abbrev pub process_demand : Live → ℕ
process_demand q =
    PROCESS_COST + (PLACE_COST * length q.stack + (sum_by flat q.registers + (sum_by flat q.stack + sum_by (λ t. MESSAGE_COST + flat t) q.queue)))

-- What a literal area asks for.
abbrev pub area_demand : Area → ℕ
area_demand a = AREA_COST + (length a.literals + sum_by flat a.literals)

-- A counted record for each shared binary that occurs, and for each pair of a fun's name and arity.
abbrev pub record_demand : State → ℕ
record_demand s = sum_by (λ id. RECORD_COST + bin_words (length (shared_bytes s.shared id))) (each_once (flat_map ids_in (living_trees s)))
    + RECORD_COST * length (each_once (flat_map funs_in (living_trees s)))

-- The words that all that lives asks for, fixed costs included.
abbrev pub demand : State → ℕ
demand s = sum_by process_demand s.processes + (sum_by area_demand s.areas + record_demand s)

-- A line is tight in an arena of so many words where twice all that lives and is asked exceeds it.
abbrev pub is_tight : (words : ℕ) → State → Parsed → Bool
is_tight words s p = nat_lt words (2 * (demand s + grow s p))
