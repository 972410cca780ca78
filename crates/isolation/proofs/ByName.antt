-- A live process by name, and what each verb of a process does to it and answers.
use Rattle.std.specs.Prelude.{ℕ, ◌+◌, ◌==◌, Bool, true, false, ◌||◌, nat_lt, if◌then◌else◌, List, [], ◌∷◌, ◌++◌, map, get_or, set, replicate, codes, decimal, Option, Some, None, Result, Ok, Err, option_map}
use Rattle.std.specs.declared.cmp.Ordering.{Ordering}
use Rattle.term_tags.specs.declared.layouts.TheConstants.{MOST_KEYS}
use Rattle.script_grammar.specs.declared.command.Pick.{Pick}
use Rattle.script_grammar.specs.declared.command.Pick.TheVariants as pick
use Rattle.script_grammar.specs.declared.command.Shape.TheVariants as shape
use Rattle.script_grammar.specs.declared.command.To.{To}
use Rattle.script_grammar.specs.declared.command.To.TheVariants.{Number, Held}
use Rattle.script_grammar.specs.declared.refusal.Refusal.{Refusal}
use Rattle.script_grammar.specs.declared.refusal.Refusal.TheVariants.{NoProc, BadArg, Empty, Big, MapSize, NoArea, Syntax}
use Rattle.script_grammar.specs.declared.word.Word.{Word}
use Rattle.script_grammar.specs.declared.word.Word.TheVariants as word
use Rattle.script_grammar.specs.Written.{Term, Operands, kinds_of}
use Rattle.script_grammar.specs.Names.{held_terms, reg}
use Rattle.plain_machine.specs.declared.limits.TheConstants.{MOST_PLACES, MOST_FILL, MOST_ARITY, MOST_BYTE}
use Rattle.plain_machine.specs.State.{Process as Live, State, process_of}
use Rattle.plain_machine.specs.Flaws.{flaw_of}
use Rattle.plain_machine.specs.Texts.{divided}
use Rattle.plain_machine.specs.Step.{Outcome, literal_of, unless_beyond, eq_text, cmp_text}
use Rattle.plain_machine.specs.Step.Outcome.{Accepted, Refused, Mapped}
use Rattle.plain_machine.specs.Run.{refusal_text}
use Rattle.isolation.specs.Named.NamedTree.{NamedTree, NamedPairs, as_named}
use Rattle.isolation.specs.Named.NamedTree.NamedTree.{Pid, Ref, Nil, Map, Fun}
use Rattle.isolation.specs.Named.Seen.{named_beyond, named_order, named_flat, named_text, pairs_count}
use Rattle.isolation.specs.Named.Doing.{named_picked, named_put, named_repeated, named_bin, named_made, all_named_made, named_wide, named_big}
use Rattle.isolation.specs.Named.Laws.{AllKnown}
use Rattle.isolation.proofs.Areas.{NamedArea, area_by}

-- a live process by name
pub record NamedProcess : Type 0 where
  pub number : ℕ
  pub registers : List NamedTree
  pub stack : List NamedTree
  pub queue : List NamedTree
  pub refs : ℕ

abbrev pub process_named : (names shared : List (List ℕ)) → Live → NamedProcess
process_named names shared q = record {
  number = q.number;
  registers = map (as_named names shared) q.registers;
  stack = map (as_named names shared) q.stack;
  queue = map (as_named names shared) q.queue;
  refs = q.refs;
}

-- all that it holds is known
pub record KnownProcess (names shared : List (List ℕ)) (q : Live) : Type 0 where
  pub registers : AllKnown names shared q.registers
  pub stack : AllKnown names shared q.stack
  pub queue : AllKnown names shared q.queue

abbrev pub IfKnown : (names shared : List (List ℕ)) → Option Live → Type 0
IfKnown names shared None = Unit {0}
IfKnown names shared (Some q) = KnownProcess names shared q

-- the process with a number in a state
abbrev pub lives_named : ℕ → State → Option NamedProcess
lives_named n s = option_map (process_named s.names s.shared) (process_of n s)

abbrev pub IsKnownIn : ℕ → State → Type 0
IsKnownIn n s = IfKnown s.names s.shared (process_of n s)

-- an outcome for one process: itself after it with the reply, a refusal, or a map
pub data NamedOutcome : Type 0 where
  Goes : Option NamedProcess → List ℕ → NamedOutcome
  Stays : Refusal → NamedOutcome
  Shows : NamedOutcome

abbrev pub outcome_named : ℕ → Outcome → NamedOutcome
outcome_named n (Accepted next reply) = Goes (lives_named n next) reply
outcome_named n (Refused r) = Stays r
outcome_named n Mapped = Shows

abbrev pub KnownAfter : ℕ → Outcome → Type 0
KnownAfter n (Accepted next reply) = IsKnownIn n next
KnownAfter n _ = Unit {0}

-- the replies, and the process after it
abbrev pub named_answers : NamedOutcome → List (List ℕ)
named_answers (Goes o reply) = reply ∷ []
named_answers (Stays r) = refusal_text r ∷ []
named_answers Shows = []

abbrev pub named_left : Option NamedProcess → NamedOutcome → Option NamedProcess
named_left x (Goes o reply) = o
named_left x (Stays r) = x
named_left x Shows = x

-- registers
abbrev pub in_register : ℕ → NamedProcess → NamedTree
in_register r x = get_or x.registers r Nil

abbrev pub to_register : ℕ → NamedTree → NamedProcess → NamedProcess
to_register r t x = record x { registers = set x.registers r t }

abbrev pub goes : NamedProcess → NamedOutcome
goes x = Goes (Some x) (codes "ok")

-- `set`
abbrev pub unless_named : Option Refusal → NamedOutcome → NamedOutcome
unless_named None o = o
unless_named (Some r) o = Stays r

abbrev pub set_named : NamedProcess → ℕ → Term → NamedOutcome
set_named x r t = unless_named (flaw_of (named_big x.registers t) (named_wide x.registers t)) (goes (to_register r (named_made x.registers t) x))

-- parts
abbrev pub chosen_named : Option NamedTree → NamedProcess → ℕ → NamedOutcome
chosen_named None x r = Stays BadArg
chosen_named (Some t) x r = goes (to_register r t x)

abbrev pub choose_named : NamedProcess → (r m : ℕ) → Pick → NamedOutcome
choose_named x r m how = chosen_named (named_picked x.registers how (in_register m x)) x r

-- `mapput`
abbrev pub pairs_of_named : NamedTree → Option NamedPairs
pairs_of_named (Map ps) = Some ps
pairs_of_named _ = None

abbrev pub unless_wide_named : Bool → NamedPairs → NamedProcess → ℕ → NamedOutcome
unless_wide_named true ps x r = Stays MapSize
unless_wide_named false ps x r = goes (to_register r (Map ps) x)

abbrev pub unless_big_named : Bool → NamedPairs → NamedProcess → ℕ → NamedOutcome
unless_big_named true ps x r = Stays Big
unless_big_named false ps x r = unless_wide_named (nat_lt MOST_KEYS (pairs_count ps)) ps x r

abbrev pub pair_named : Option NamedPairs → (k v : NamedTree) → NamedProcess → ℕ → NamedOutcome
pair_named None k v x r = Stays BadArg
pair_named (Some ps) k v x r = unless_big_named (named_beyond k) (named_put k v ps) x r

-- a tree that is made of what is not too much
abbrev pub made_if_named : Bool → NamedTree → NamedProcess → ℕ → NamedOutcome
made_if_named true t x r = Stays BadArg
made_if_named false t x r = goes (to_register r t x)

-- `pop`, `recv`
abbrev pub pop_named : List NamedTree → NamedProcess → ℕ → NamedOutcome
pop_named [] x r = Stays Empty
pop_named (t ∷ stack) x r = goes (record (to_register r t x) { stack = stack })

abbrev pub recv_named : List NamedTree → NamedProcess → ℕ → NamedOutcome
recv_named [] x r = Stays Empty
recv_named (t ∷ queue) x r = goes (record (to_register r t x) { queue = queue })

-- `send`: the process itself may be the receiver
abbrev pub number_of_named : NamedTree → Option ℕ
number_of_named (Pid n) = Some n
number_of_named _ = None

abbrev pub receiver_named : To → NamedProcess → Option ℕ
receiver_named (Number n) x = Some n
receiver_named (Held r) x = number_of_named (in_register r.0 x)

abbrev pub queued_named : ℕ → NamedTree → NamedProcess → NamedProcess
queued_named n t x = if x.number == n then record x { queue = x.queue ++ t ∷ [] } else x

abbrev pub within_named : Bool → ℕ → NamedTree → NamedProcess → NamedOutcome
within_named true n t x = Stays Big
within_named false n t x = goes (queued_named n t x)

abbrev pub send_named : Option ℕ → NamedTree → NamedProcess → NamedOutcome
send_named None t x = Stays BadArg
send_named (Some n) t x = within_named (named_beyond t) n t x

-- what is told
abbrev pub tell_named : NamedProcess → Result (List ℕ) Refusal → NamedOutcome
tell_named x (Ok text) = Goes (Some x) text
tell_named x (Err r) = Stays r

abbrev pub order_named : (Ordering → List ℕ) → (t u : NamedTree) → Result (List ℕ) Refusal
order_named tell t u = unless_beyond (named_beyond t || named_beyond u) (tell (named_order t u))

-- `lit`
abbrev pub lit_named : Option NamedArea → NamedProcess → (r i : ℕ) → NamedOutcome
lit_named None x r i = Stays NoArea
lit_named (Some a) x r i = chosen_named (literal_of i a.literals) x r

-- each verb, beside these areas
abbrev pub verb_named : List NamedArea → NamedProcess → (w : Word) → Operands (kinds_of w) → NamedOutcome
verb_named areas x word.Set ops = set_named x (ops.0) (ops.1.0)
verb_named areas x word.Hd ops = choose_named x (ops.0) (ops.1.0) pick.Hd
verb_named areas x word.Tl ops = choose_named x (ops.0) (ops.1.0) pick.Tl
verb_named areas x word.Elem ops = choose_named x (ops.0) (ops.1.1.0) (pick.Elem (ops.1.0))
verb_named areas x word.MapGet ops = choose_named x (ops.0) (ops.1.0) (pick.MapGet (reg (ops.1.1.0)))
verb_named areas x word.MapPut ops = pair_named (pairs_of_named (in_register (ops.1.0) x)) (in_register (ops.1.1.0) x) (in_register (ops.1.1.1.0) x) x (ops.0)
verb_named areas x word.Part ops = choose_named x (ops.0) (ops.1.0) (pick.Part (ops.1.1.0) (ops.1.1.1.0))
verb_named areas x word.Fill ops = made_if_named (nat_lt MOST_FILL (ops.1.0) || nat_lt MOST_BYTE (ops.1.1.0)) (named_bin (replicate (ops.1.0) (ops.1.1.0))) x (ops.0)
verb_named areas x word.Fun ops = made_if_named (nat_lt MOST_ARITY (ops.1.1.0)) (Fun (ops.1.0) (ops.1.1.0) x.number (all_named_made x.registers (held_terms (ops.1.1.1.0)))) x (ops.0)
verb_named areas x word.Env ops = choose_named x (ops.0) (ops.1.1.0) (pick.Env (ops.1.0))
verb_named areas x word.Ref ops = goes (record (to_register (ops.0) (Ref x.number (x.refs + 1)) x) { refs = x.refs + 1 })
verb_named areas x word.Own ops = goes (to_register (ops.0) (Pid x.number) x)
verb_named areas x word.MkTuple ops = made_if_named (nat_lt MOST_PLACES (ops.1.0)) (named_repeated shape.Tuple (ops.1.0) (in_register (ops.1.1.0) x)) x (ops.0)
verb_named areas x word.MkList ops = made_if_named (nat_lt MOST_PLACES (ops.1.0)) (named_repeated shape.List (ops.1.0) (in_register (ops.1.1.0) x)) x (ops.0)
verb_named areas x word.Push ops = goes (record x { stack = in_register (ops.0) x ∷ x.stack })
verb_named areas x word.Pop ops = pop_named x.stack x (ops.0)
verb_named areas x word.Send ops = send_named (receiver_named (ops.1.0) x) (in_register (ops.0) x) x
verb_named areas x word.Recv ops = recv_named x.queue x (ops.0)
verb_named areas x word.Queue ops = Goes (Some x) (codes "[" ++ (divided (map named_text x.queue) ++ codes "]"))
verb_named areas x word.Print ops = tell_named x (unless_beyond (named_beyond (in_register (ops.0) x)) (named_text (in_register (ops.0) x)))
verb_named areas x word.Eq ops = tell_named x (order_named eq_text (in_register (ops.0) x) (in_register (ops.1.0) x))
verb_named areas x word.Cmp ops = tell_named x (order_named cmp_text (in_register (ops.0) x) (in_register (ops.1.0) x))
verb_named areas x word.Flat ops = tell_named x (unless_beyond (named_beyond (in_register (ops.0) x)) (decimal (named_flat (in_register (ops.0) x))))
verb_named areas x word.Lit ops = lit_named (area_by (ops.1.0) areas) x (ops.0) (ops.1.1.0)
verb_named areas x word.Gc ops = goes x
verb_named areas x word.Exit ops = Goes None (codes "ok")
verb_named areas x _ ops = Stays Syntax

-- a line of the process, where it lives or not
abbrev pub line_named : List NamedArea → Option NamedProcess → (w : Word) → Operands (kinds_of w) → NamedOutcome
line_named areas None w ops = Stays NoProc
line_named areas (Some x) w ops = verb_named areas x w ops
