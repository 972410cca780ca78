-- Worked values of the definitions.
use Rattle.std.specs.Prelude.{ℕ, ◌≡◌, ◌+◌, pos, negsuc, zero, suc, true, false, List, [], ◌∷◌, map, codes, refl, replicate}
use Rattle.std.specs.Fmt.{digits}
use Rattle.plain_term.specs.Tree.{Tree, Pairs}
use Rattle.plain_term.specs.Tree.{Tree as tree}
use Rattle.plain_term.specs.Tree.{Trees as trees}
use Rattle.plain_term.specs.Tree.{Pairs as pairs}
use Rattle.script_grammar.specs.declared.command.To.TheVariants.{Number, Held as ByRegister}
use Rattle.script_grammar.specs.declared.command.Depth.TheVariants.{Minor, Major}
use Rattle.script_grammar.specs.declared.refusal.Refusal.TheVariants.{NoProc, BadArg, Empty, Big, MapSize, Procs}
use Rattle.script_grammar.specs.Written.{Term, Terms, TermPairs, kinds_of, Operands}
use Rattle.script_grammar.specs.declared.word.Word.{Word}
use Rattle.script_grammar.specs.Written.Term.{Int, Atom, Pid, Held, Listed, Barred, Tuple, Map, Bin}
use Rattle.script_grammar.specs.Written.Terms.{end, ◌▹◌}
use Rattle.script_grammar.specs.Written.TermPairs.{stop, pair}
use Rattle.script_grammar.specs.Written.Written.{Nothing, OfProcess, OfSystem}
use Rattle.script_grammar.specs.declared.word.Word.TheVariants as word
use Rattle.script_grammar.specs.declared.word.SysWord.TheVariants as sys
use Rattle.script_grammar.specs.Names.{Parsed, parsed_of}
use Rattle.plain_machine.specs.State.{Process, State, fresh_process, first_state, register, with_register}
use Rattle.plain_machine.specs.Tightness.{grow, demand, is_tight}
use Rattle.plain_machine.specs.Step.{Outcome, step}
use Rattle.plain_machine.specs.Step.Outcome.{Accepted, Refused}
use Rattle.plain_machine.specs.May.{may_of_tight}

-- What the line of process 1 comes to in a state without names.
abbrev pub line : (w : Word) → Operands (kinds_of w) → Parsed
line w ops = parsed_of [] (OfProcess 1 w ops)

-- The first state, but process 1 has this tree in register 0.
abbrev pub holding : Tree → State
holding t = record first_state { processes = with_register 0 t (fresh_process 1) ∷ [] }

-- A list of so many times a tree.
abbrev pub list_of : ℕ → Tree → Tree
list_of zero t = tree.Nil
list_of (suc n) t = tree.Cons t (list_of n t)

-- So many ones as they are written.
abbrev pub ones : ℕ → Terms
ones zero = end
ones (suc n) = Int (pos 1) ▹ ones n

-- What `set` of a term asks for.
abbrev pub set_words : Term → ℕ
set_words t = grow first_state (line word.Set (0, (t, tt)))

-- {1,[2]}
abbrev pub written_one_list_of_two : Term
written_one_list_of_two = Tuple (Int (pos 1) ▹ Listed (Int (pos 2) ▹ end) ▹ end)

-- `set` asks for the parts of the term as it is written.
pub set-small : map set_words (Int (pos 576460752303423487) ∷ Atom (codes "a") ∷ Pid 1 ∷ Held 0 ∷ Listed end ∷ []) ≡ 0 ∷ 0 ∷ 0 ∷ 0 ∷ 0 ∷ []
set-small = refl

pub set-big_integers : map set_words (Int (pos 576460752303423488) ∷ Int (negsuc 18446744073709551615) ∷ []) ≡ 2 ∷ 3 ∷ []
set-big_integers = refl

pub set-tuple_of_list : set_words written_one_list_of_two ≡ 5
set-tuple_of_list = refl

pub set-barred_list : set_words (Barred (Int (pos 1) ▹ Int (pos 2) ▹ end) written_one_list_of_two) ≡ 9
set-barred_list = refl

-- Of a pair whose key comes again, both pairs count.
pub set-key_twice : set_words (Map (pair (Int (pos 1)) (Listed (ones 1)) (pair (Int (pos 1)) (Listed (ones 2)) stop))) ≡ 14
set-key_twice = refl

-- A binary of 64 bytes stands on the heap, one of 65 bytes in a record with a holder.
pub set-binaries : map set_words (Bin [] ∷ Bin (replicate 64 7) ∷ Bin (replicate 65 7) ∷ []) ≡ 2 ∷ 10 ∷ 19 ∷ []
set-binaries = refl

-- The longest list of ones that a line has room for.
pub set-longest_list : set_words (Listed (ones 2043)) ≡ 4086
set-longest_list = refl

-- #{1=>[],2=>[]}
abbrev pub two_keys : Tree
two_keys = tree.Map (pairs.pair (tree.Int (pos 1)) tree.Nil (pairs.pair (tree.Int (pos 2)) tree.Nil pairs.stop))

pub mapput-two_keys : grow (holding two_keys) (line word.MapPut (1, (0, (2, (3, tt))))) ≡ 10
mapput-two_keys = refl

pub part-grow : grow (holding (tree.Bin (1 ∷ 2 ∷ []))) (line word.Part (1, (0, (0, (2, tt))))) ≡ 5
part-grow = refl

pub fill-grow : grow first_state (line word.Fill (0, (64, (7, tt)))) ∷ grow first_state (line word.Fill (0, (65, (7, tt)))) ∷ [] ≡ 10 ∷ 19 ∷ []
fill-grow = refl

pub fun-two_registers : grow first_state (line word.Fun (0, (codes "f", (2, (3 ∷ 4 ∷ [], tt))))) ≡ 12
fun-two_registers = refl

pub ref-grow : grow first_state (line word.Ref (0, tt)) ≡ 3
ref-grow = refl

pub mktuple-grow : grow first_state (line word.MkTuple (0, (100, (1, tt)))) ≡ 101
mktuple-grow = refl

pub mklist-grow : grow first_state (line word.MkList (0, (100, (1, tt)))) ≡ 200
mklist-grow = refl

pub push-grow : grow first_state (line word.Push (0, tt)) ≡ 2
push-grow = refl

-- A message to a live process is copied; none is made for a process that does not live.
pub send-live : grow (holding (list_of 3 tree.Nil)) (line word.Send (0, (Number 1, tt))) ≡ 14
send-live = refl

pub send-own_pid : grow (holding (tree.Pid 1)) (line word.Send (0, (ByRegister (record { 0 = 0 }), tt))) ≡ 8
send-own_pid = refl

pub send-dead : grow (holding (list_of 3 tree.Nil)) (line word.Send (0, (Number 2, tt))) ≡ 0
send-dead = refl

pub spawn-grow : grow first_state (parsed_of [] (OfSystem sys.Spawn tt)) ≡ 16
spawn-grow = refl

pub load-two_terms : grow first_state (parsed_of [] (OfSystem sys.Load (codes "a", (written_one_list_of_two ▹ Listed (ones 1) ▹ end, tt)))) ≡ 25
load-two_terms = refl

-- All other lines ask for nothing.
pub others-grow : map (λ w. grow (holding two_keys) (parsed_of [] w)) (
    OfProcess 1 word.Hd (0, (1, tt)) ∷ OfProcess 1 word.Tl (0, (1, tt)) ∷ OfProcess 1 word.Elem (0, (1, (2, tt))) ∷ OfProcess 1 word.MapGet (1, (0, (2, tt)))
    ∷ OfProcess 1 word.Env (0, (1, (2, tt))) ∷ OfProcess 1 word.Own (0, tt) ∷ OfProcess 1 word.Pop (0, tt) ∷ OfProcess 1 word.Recv (0, tt)
    ∷ OfProcess 1 word.Queue tt ∷ OfProcess 1 word.Print (0, tt)
    ∷ OfProcess 1 word.Eq (0, (1, tt)) ∷ OfProcess 1 word.Cmp (0, (1, tt)) ∷ OfProcess 1 word.Flat (0, tt)
    ∷ OfProcess 1 word.Lit (0, (codes "a", (1, tt))) ∷ OfProcess 1 word.Gc (Minor, tt) ∷ OfProcess 1 word.Gc (Major, tt) ∷ OfProcess 1 word.Hibernate tt
    ∷ OfProcess 1 word.Info tt ∷ OfProcess 1 word.Heap tt ∷ OfProcess 1 word.Exit tt
    ∷ OfSystem sys.Purge (codes "a", tt) ∷ OfSystem sys.Sweep tt ∷ OfSystem sys.Counts tt ∷ OfSystem sys.Dump tt ∷ OfSystem sys.Procs tt ∷ OfSystem sys.Quit tt
    ∷ Nothing ∷ []) ≡ replicate 27 0
others-grow = refl

-- A process that does not live asks for nothing.
pub dead-grow : grow first_state (parsed_of [] (OfProcess 2 word.Push (0, tt))) ≡ 0
dead-grow = refl

-- The first state: one process.
pub first-demand : demand first_state ≡ 16
first-demand = refl

-- A list of 700 places, and once more: twice 16 + 1400 + 1400 is 5632.
abbrev pub set_list : Parsed
set_list = line word.Set (1, (Listed (ones 700), tt))

pub list-demand : demand (holding (list_of 700 (tree.Int (pos 1)))) ≡ 16 + 1400
list-demand = refl

pub second_list-tight : is_tight 5631 (holding (list_of 700 (tree.Int (pos 1)))) set_list ≡ true
second_list-tight = refl

pub second_list-fits : is_tight 5632 (holding (list_of 700 (tree.Int (pos 1)))) set_list ≡ false
second_list-fits = refl

-- Without the first list it is 2832.
pub only_list-tight : is_tight 2831 first_state set_list ≡ true
only_list-tight = refl

pub only_list-fits : is_tight 2832 first_state set_list ≡ false
only_list-fits = refl

-- A list of 600 places, and a new one of 1000: 6432.
pub long_list-tight : is_tight 6431 (holding (list_of 600 tree.Nil)) (line word.MkList (2, (1000, (1, tt)))) ≡ true
long_list-tight = refl

pub long_list-fits : is_tight 6432 (holding (list_of 600 tree.Nil)) (line word.MkList (2, (1000, (1, tt)))) ≡ false
long_list-fits = refl

-- Four processes, each with a list of 100 places: 864, and with one list more 2128.
abbrev pub with_list : ℕ → Process
with_list n = with_register 0 (list_of 100 tree.Nil) (fresh_process n)

abbrev pub four_lists : State
four_lists = record first_state { processes = with_list 1 ∷ with_list 2 ∷ with_list 3 ∷ with_list 4 ∷ []; next = 5 }

pub four_lists-demand : demand four_lists ≡ 864
four_lists-demand = refl

pub four_lists-tight : is_tight 2127 four_lists (line word.MkList (0, (100, (1, tt)))) ≡ true
four_lists-tight = refl

pub four_lists-fits : is_tight 2128 four_lists (line word.MkList (0, (100, (1, tt)))) ≡ false
four_lists-fits = refl

-- A stack place, a message, a literal, a record of a shared binary of 100 bytes that occurs twice, and one of a fun.
abbrev pub crowded : State
crowded = record first_state {
  processes = record (fresh_process 1) { stack = tree.Shared 1 ∷ []; queue = tree.Part (tree.Shared 1) 0 2 ∷ [] } ∷ [];
  shared = replicate 100 7 ∷ [];
  areas = record { name = 0; literals = tree.Fun 0 2 1 trees.end ∷ [] } ∷ [];
  names = codes "f" ∷ [];
}

pub crowded-demand : demand crowded ≡ (16 + 2 + 6) + (8 + 11) + (16 + 1 + 6) + (4 + 13) + 4
crowded-demand = refl

-- A process that does not live refuses every line, before all else that could be wrong with it.
pub dead-first : map (λ w. step first_state (parsed_of [] w)) (OfProcess 2 word.Pop (0, tt) ∷ OfProcess 0 word.Print (0, tt) ∷ [])
    ≡ Refused NoProc ∷ Refused NoProc ∷ []
dead-first = refl

pub pop-empty : step first_state (line word.Pop (0, tt)) ≡ Refused Empty
pop-empty = refl

-- A tuple in a tuple, and so on.
abbrev pub nested : ℕ → Tree
nested zero = tree.Nil
nested (suc n) = tree.Tuple (trees.◌▹◌ (nested n) trees.end)

pub print-beyond : step (holding (nested 1025)) (line word.Print (0, tt)) ≡ Refused Big
print-beyond = refl

pub spawn-full : step (record first_state { processes = replicate 1024 (fresh_process 1) }) (parsed_of [] (OfSystem sys.Spawn tt)) ≡ Refused Procs
spawn-full = refl

-- What is accepted, with its reply.
pub self-accepted : step first_state (line word.Own (0, tt)) ≡ Accepted (holding (tree.Pid 1)) (codes "ok")
self-accepted = refl

pub print-accepted : step (holding (tree.Cons (tree.Int (pos 1)) tree.Nil)) (line word.Print (0, tt))
    ≡ Accepted (holding (tree.Cons (tree.Int (pos 1)) tree.Nil)) (codes "[1]")
unfolding digits
print-accepted = refl

pub set-accepted : step first_state (line word.Set (0, (Atom (codes "a"), tt)))
    ≡ Accepted (record (holding (tree.Atom 0)) { names = codes "a" ∷ [] }) (codes "ok")
set-accepted = refl

pub spawn-accepted : step first_state (parsed_of [] (OfSystem sys.Spawn tt))
    ≡ Accepted (record first_state { processes = fresh_process 1 ∷ fresh_process 2 ∷ []; next = 3 }) (codes "ok 2")
unfolding digits
spawn-accepted = refl

pub gc-accepted : step first_state (line word.Gc (Minor, tt)) ∷ step first_state (line word.Gc (Major, tt)) ∷ []
    ≡ Accepted first_state (codes "ok") ∷ Accepted first_state (codes "ok") ∷ []
gc-accepted = refl

-- `swept` is so until the next line that changes something.
pub sweep-accepted : step first_state (parsed_of [] (OfSystem sys.Sweep tt)) ≡ Accepted (record first_state { swept = true }) (codes "ok")
sweep-accepted = refl

pub swept-until_gc : step (record first_state { swept = true }) (line word.Gc (Major, tt)) ≡ Accepted first_state (codes "ok")
swept-until_gc = refl

pub exit-accepted : step first_state (line word.Exit tt) ≡ Accepted (record first_state { processes = [] }) (codes "ok")
exit-accepted = refl

-- The first state, but process 1 has these trees in registers 1 to 3.
abbrev pub with_three : (a b c : Tree) → State
with_three a b c = record first_state { processes = with_register 3 c (with_register 2 b (with_register 1 a (fresh_process 1))) ∷ [] }

-- The reply of a line that is accepted; nothing where it is refused.
abbrev pub reply_in : Outcome → List (List ℕ)
reply_in (Accepted s reply) = reply ∷ []
reply_in _ = []

-- What register 0 holds after a line that is accepted; nothing where it is refused.
abbrev pub held_after : Outcome → List Tree
held_after (Accepted s reply) = map (λ (q : Process). register 0 q) s.processes
held_after _ = []

-- [1|a], where `a` is name 0.
abbrev pub one_before_a : Tree
one_before_a = tree.Cons (tree.Int (pos 1)) (tree.Atom 0)

pub hd-of_list_place : held_after (step (with_three one_before_a tree.Nil tree.Nil) (line word.Hd (0, (1, tt)))) ≡ tree.Int (pos 1) ∷ []
hd-of_list_place = refl

pub tl-of_list_place : held_after (step (with_three one_before_a tree.Nil tree.Nil) (line word.Tl (0, (1, tt)))) ≡ tree.Atom 0 ∷ []
tl-of_list_place = refl

pub hd-tl-of_nil : step first_state (line word.Hd (0, (1, tt))) ∷ step first_state (line word.Tl (0, (1, tt))) ∷ [] ≡ Refused BadArg ∷ Refused BadArg ∷ []
hd-tl-of_nil = refl

-- {1,a}
abbrev pub one_and_a : Tree
one_and_a = tree.Tuple (trees.◌▹◌ (tree.Int (pos 1)) (trees.◌▹◌ (tree.Atom 0) trees.end))

-- The places of a tuple count from 1.
pub elem-by_place : map (λ i. held_after (step (with_three one_and_a tree.Nil tree.Nil) (line word.Elem (0, (i, (1, tt)))))) (0 ∷ 1 ∷ 2 ∷ 3 ∷ [])
    ≡ [] ∷ (tree.Int (pos 1) ∷ []) ∷ (tree.Atom 0 ∷ []) ∷ [] ∷ []
elem-by_place = refl

pub elem-out_of_range : map (λ i. step (with_three one_and_a tree.Nil tree.Nil) (line word.Elem (0, (i, (1, tt))))) (0 ∷ 3 ∷ [])
    ≡ Refused BadArg ∷ Refused BadArg ∷ []
elem-out_of_range = refl

pub elem-of_nil : step first_state (line word.Elem (0, (1, (1, tt)))) ≡ Refused BadArg
elem-of_nil = refl

-- #{1=>a,2=>[]}
abbrev pub one_to_a : Tree
one_to_a = tree.Map (pairs.pair (tree.Int (pos 1)) (tree.Atom 0) (pairs.pair (tree.Int (pos 2)) tree.Nil pairs.stop))

pub mapget-found : held_after (step (with_three one_to_a (tree.Int (pos 1)) tree.Nil) (line word.MapGet (0, (1, (2, tt))))) ≡ tree.Atom 0 ∷ []
mapget-found = refl

-- A key that is not there, and one beyond the walk limit.
pub mapget-missing : map (λ k. step (with_three one_to_a k tree.Nil) (line word.MapGet (0, (1, (2, tt))))) (tree.Int (pos 3) ∷ nested 1025 ∷ [])
    ≡ Refused BadArg ∷ Refused BadArg ∷ []
mapget-missing = refl

pub mapget-of_nil : step first_state (line word.MapGet (0, (1, (2, tt)))) ≡ Refused BadArg
mapget-of_nil = refl

-- `mapput` of this key and the pid 1.
abbrev pub put_pid : (map key : Tree) → Outcome
put_pid m k = step (with_three m k (tree.Pid 1)) (line word.MapPut (0, (1, (2, (3, tt)))))

-- A key that is there gets the new value.
pub mapput-value : held_after (put_pid one_to_a (tree.Int (pos 1)))
    ≡ tree.Map (pairs.pair (tree.Int (pos 1)) (tree.Pid 1) (pairs.pair (tree.Int (pos 2)) tree.Nil pairs.stop)) ∷ []
mapput-value = refl

-- A new key goes to its place among the others.
pub mapput-first : held_after (put_pid one_to_a (tree.Int (pos 0)))
    ≡ tree.Map (pairs.pair (tree.Int (pos 0)) (tree.Pid 1)
    (pairs.pair (tree.Int (pos 1)) (tree.Atom 0) (pairs.pair (tree.Int (pos 2)) tree.Nil pairs.stop))) ∷ []
mapput-first = refl

pub mapput-last : held_after (put_pid one_to_a (tree.Atom 0))
    ≡ tree.Map (pairs.pair (tree.Int (pos 1)) (tree.Atom 0) (pairs.pair (tree.Int (pos 2)) tree.Nil (pairs.pair (tree.Atom 0) (tree.Pid 1) pairs.stop))) ∷ []
mapput-last = refl

-- The keys from 1 to n, each to nil, before other pairs.
abbrev pub counted_pairs : ℕ → Pairs → Pairs
counted_pairs zero ps = ps
counted_pairs (suc n) ps = counted_pairs n (pairs.pair (tree.Int (pos (suc n))) tree.Nil ps)

abbrev pub counted_map : ℕ → Tree
counted_map n = tree.Map (counted_pairs n pairs.stop)

-- No map comes before a key beyond the walk limit, and that before a key too many.
pub mapput-refused : put_pid tree.Nil (nested 1025) ∷ put_pid (counted_map 32) (nested 1025) ∷ put_pid (counted_map 32) (tree.Int (pos 33)) ∷ []
    ≡ Refused BadArg ∷ Refused Big ∷ Refused MapSize ∷ []
mapput-refused = refl

-- A 32nd key may be put.
pub mapput-full : held_after (put_pid (counted_map 31) (tree.Int (pos 32)))
    ≡ tree.Map (counted_pairs 31 (pairs.pair (tree.Int (pos 32)) (tree.Pid 1) pairs.stop)) ∷ []
mapput-full = refl

-- References of a process are counted from 1.
pub ref-counted : step (record first_state { processes = record (fresh_process 1) { refs = 4 } ∷ [] }) (line word.Ref (0, tt))
    ≡ Accepted (record first_state { processes = record (with_register 0 (tree.Ref 1 5) (fresh_process 1)) { refs = 5 } ∷ [] }) (codes "ok")
ref-counted = refl

pub mktuple-places : map (λ n. held_after (step (with_three (tree.Atom 0) tree.Nil tree.Nil) (line word.MkTuple (0, (n, (1, tt)))))) (0 ∷ 2 ∷ [])
    ≡ (tree.Tuple trees.end ∷ []) ∷ (tree.Tuple (trees.◌▹◌ (tree.Atom 0) (trees.◌▹◌ (tree.Atom 0) trees.end)) ∷ []) ∷ []
mktuple-places = refl

pub mklist-places : map (λ n. held_after (step (with_three (tree.Atom 0) tree.Nil tree.Nil) (line word.MkList (0, (n, (1, tt)))))) (0 ∷ 2 ∷ [])
    ≡ (tree.Nil ∷ []) ∷ (list_of 2 (tree.Atom 0) ∷ []) ∷ []
mklist-places = refl

pub repeat-too_many : step first_state (line word.MkTuple (0, (65537, (1, tt)))) ∷ step first_state (line word.MkList (0, (65537, (1, tt)))) ∷ []
    ≡ Refused BadArg ∷ Refused BadArg ∷ []
repeat-too_many = refl

-- What a line tells of two trees; nothing where it is refused.
abbrev pub told_of_two : Word → (a b : Tree) → List (List ℕ)
told_of_two word.Eq a b = reply_in (step (with_three a b tree.Nil) (line word.Eq (1, (2, tt))))
told_of_two word.Cmp a b = reply_in (step (with_three a b tree.Nil) (line word.Cmp (1, (2, tt))))
told_of_two _ a b = []

-- A pid is less than a tuple, a tuple is equal to itself, and greater than one with a lesser part.
pub cmp-told : map (λ t. told_of_two word.Cmp t one_and_a) (
    tree.Pid 1 ∷ one_and_a ∷ tree.Tuple (trees.◌▹◌ (tree.Int (pos 2)) (trees.◌▹◌ (tree.Atom 0) trees.end)) ∷ [])
    ≡ (codes "lt" ∷ []) ∷ (codes "eq" ∷ []) ∷ (codes "gt" ∷ []) ∷ []
cmp-told = refl

pub eq-told : map (λ t. told_of_two word.Eq t one_and_a) (tree.Pid 1 ∷ one_and_a ∷ []) ≡ (codes "false" ∷ []) ∷ (codes "true" ∷ []) ∷ []
eq-told = refl

-- One tree beyond the walk limit is enough.
pub eq-cmp-beyond : map (λ w. step (with_three tree.Nil (nested 1025) tree.Nil) (parsed_of [] w)) (
    OfProcess 1 word.Eq (1, (2, tt)) ∷ OfProcess 1 word.Cmp (2, (1, tt)) ∷ [])
    ≡ Refused Big ∷ Refused Big ∷ []
eq-cmp-beyond = refl

pub flat-told : map (λ t. reply_in (step (holding t) (line word.Flat (0, tt)))) (tree.Nil ∷ one_and_a ∷ two_keys ∷ [])
    ≡ (codes "0" ∷ []) ∷ (codes "3" ∷ []) ∷ (codes "8" ∷ []) ∷ []
unfolding digits
flat-told = refl

pub flat-beyond : step (holding (nested 1025)) (line word.Flat (0, tt)) ≡ Refused Big
flat-beyond = refl

-- What register 0 holds after `set` of a term, where register 1 holds a tree.
abbrev pub set_beside : Tree → Term → Outcome
set_beside t x = step (with_three t tree.Nil tree.Nil) (line word.Set (0, (x, tt)))

-- {$1,$1}
pub set-register_twice : held_after (set_beside one_and_a (Tuple (Held 1 ▹ Held 1 ▹ end)))
    ≡ tree.Tuple (trees.◌▹◌ one_and_a (trees.◌▹◌ one_and_a trees.end)) ∷ []
set-register_twice = refl

-- [1|$1]
pub set-tail_of_register : held_after (set_beside (list_of 1 tree.Nil) (Barred (Int (pos 1) ▹ end) (Held 1)))
    ≡ tree.Cons (tree.Int (pos 1)) (list_of 1 tree.Nil) ∷ []
set-tail_of_register = refl

-- #{2=>[],1=>[],2=><0.1.0>}: the later of two pairs with equal keys stands.
pub set-later_pair : held_after (set_beside tree.Nil (
    Map (pair (Int (pos 2)) (Listed end) (pair (Int (pos 1)) (Listed end) (pair (Int (pos 2)) (Pid 1) stop)))))
    ≡ tree.Map (pairs.pair (tree.Int (pos 1)) tree.Nil (pairs.pair (tree.Int (pos 2)) (tree.Pid 1) pairs.stop)) ∷ []
set-later_pair = refl

-- The written keys from 1 to n, each to the empty list, before other pairs.
abbrev pub written_pairs : ℕ → TermPairs → TermPairs
written_pairs zero ps = ps
written_pairs (suc n) ps = written_pairs n (pair (Int (pos (suc n))) (Listed end) ps)

-- 32 keys may be written, and one of them again.
pub set-full_map : held_after (set_beside tree.Nil (Map (written_pairs 32 (pair (Int (pos 7)) (Listed end) stop)))) ≡ counted_map 32 ∷ []
set-full_map = refl

-- A map with a key too many is refused, also where it is the key or the value of another.
pub set-wide : map (set_beside tree.Nil) (
    Map (written_pairs 33 stop) ∷ Map (pair (Map (written_pairs 33 stop)) (Listed end) stop)
    ∷ Tuple (Map (pair (Pid 1) (Map (written_pairs 33 stop)) stop) ▹ end) ∷ [])
    ≡ Refused MapSize ∷ Refused MapSize ∷ Refused MapSize ∷ []
set-wide = refl

-- A key beyond the walk limit comes before a key too many; the pair may be dropped later.
pub set-big_key : map (set_beside (nested 1025)) (
    Map (pair (Held 1) (Listed end) stop) ∷ Map (written_pairs 33 (pair (Held 1) (Listed end) stop))
    ∷ Map (pair (Held 1) (Listed end) (pair (Held 1) (Pid 1) stop)) ∷ [])
    ≡ Refused Big ∷ Refused Big ∷ Refused Big ∷ []
set-big_key = refl

-- A key that holds a map with a key too many is not judged, and a value may be beyond the walk limit.
pub set-unjudged : map (set_beside (nested 1025)) (Map (pair (Tuple (Held 1 ▹ Map (written_pairs 33 stop) ▹ end)) (Listed end) stop) ∷ [])
    ≡ Refused MapSize ∷ []
set-unjudged = refl

pub set-big_value : held_after (set_beside (nested 1025) (Map (pair (Int (pos 1)) (Held 1) stop)))
    ≡ tree.Map (pairs.pair (tree.Int (pos 1)) (nested 1025) pairs.stop) ∷ []
set-big_value = refl

-- A tight line may find no space, but not where another refusal stands before it, and not where it asks for nothing.
pub may-tight : may_of_tight 35 first_state (line word.Push (0, tt)) ≡ true
may-tight = refl

pub may-fits : may_of_tight 36 first_state (line word.Push (0, tt)) ≡ false
may-fits = refl

pub may-dead : may_of_tight 0 first_state (parsed_of [] (OfProcess 2 word.Push (0, tt))) ≡ false
may-dead = refl

pub may-asks_nothing : may_of_tight 0 first_state (line word.Own (0, tt)) ≡ false
may-asks_nothing = refl

-- For `set` the want of space stands before what is wrong with the keys of a map, for `mapput` it does not.
pub may-set_wide : may_of_tight 0 first_state (line word.Set (0, (Map (written_pairs 33 stop), tt))) ≡ true
may-set_wide = refl

pub may-mapput_wide : may_of_tight 0 (with_three (counted_map 32) (tree.Pid 1) tree.Nil) (line word.MapPut (0, (1, (2, (3, tt))))) ≡ false
may-mapput_wide = refl
