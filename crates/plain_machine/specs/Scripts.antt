-- Worked scripts: what the lines of each are answered, one after the other.
use Rattle.std.specs.Prelude.{ℕ, ◌≡◌, ◌≤◌, true, List, [], ◌∷◌, codes, refl, replicate}
use Prim.Native.Nat.{zero-le, suc-le-suc}
use Rattle.std.specs.Fmt.{digits}
use Rattle.plain_term.specs.Tree.{Tree as tree}
use Rattle.plain_term.specs.Tree.{Trees as trees}
use Rattle.script_grammar.specs.Written.{Written, Term}
use Rattle.script_grammar.specs.Written.Written.{OfProcess, OfSystem}
use Rattle.script_grammar.specs.Written.Term.{Atom, Bin, Held, Tuple, Listed}
use Rattle.script_grammar.specs.Written.Terms.{end, ◌▹◌}
use Rattle.script_grammar.specs.declared.command.To.{To}
use Rattle.script_grammar.specs.declared.command.To.TheVariants as to
use Rattle.script_grammar.specs.declared.word.Word.TheVariants as word
use Rattle.script_grammar.specs.declared.word.SysWord.TheVariants as sys
use Rattle.script_grammar.specs.Names.{parsed_of}
use Rattle.plain_machine.specs.State.{State, first_state, fresh_process, with_register}
use Rattle.plain_machine.specs.Step.{Outcome, step}
use Rattle.plain_machine.specs.Step.Outcome.{Accepted, Refused, Mapped}
use Rattle.plain_machine.specs.Run.{refusal_text}
use Rattle.plain_machine.specs.Maps.{CountsOf, counts_text}

-- What an outcome is answered; a map of the store is a text of its own.
abbrev pub answer_text : Outcome → List ℕ
answer_text (Accepted next reply) = reply
answer_text (Refused r) = refusal_text r
answer_text Mapped = codes "a map"

abbrev pub state_after : State → Outcome → State
state_after s (Accepted next reply) = next
state_after s _ = s

-- The answers to lines one after the other.
abbrev pub answers_to : State → List Written → List (List ℕ)
answers_to s [] = []
answers_to s (w ∷ ws) = answer_text (step s (parsed_of s.names w)) ∷ answers_to (state_after s (step s (parsed_of s.names w))) ws

-- 1 fill 0 LEN BYTE, and so on
abbrev pub fill : (r len byte : ℕ) → Written
fill r len byte = OfProcess 1 word.Fill (r, (len, (byte, tt)))

abbrev pub part : (r s offset len : ℕ) → Written
part r s offset len = OfProcess 1 word.Part (r, (s, (offset, (len, tt))))

abbrev pub set : ℕ → Term → Written
set r t = OfProcess 1 word.Set (r, (t, tt))

abbrev pub print : ℕ → Written
print r = OfProcess 1 word.Print (r, tt)

abbrev pub flat_of_register : ℕ → Written
flat_of_register r = OfProcess 1 word.Flat (r, tt)

abbrev pub send : ℕ → To → Written
send r receiver = OfProcess 1 word.Send (r, (receiver, tt))

abbrev pub recv : ℕ → Written
recv r = OfProcess 1 word.Recv (r, tt)

abbrev pub queue : Written
queue = OfProcess 1 word.Queue tt

abbrev pub sweep : Written
sweep = OfSystem sys.Sweep tt

abbrev pub counts : Written
counts = OfSystem sys.Counts tt

-- Too long a binary, and no byte; then a part without bytes, and one too far.
pub bounds-of_binaries : answers_to first_state (fill 0 1048577 1 ∷ fill 0 65 256 ∷ fill 0 65 255 ∷ part 1 0 65 0 ∷ print 1 ∷ part 1 0 64 2 ∷ [])
    ≡ codes "error badarg" ∷ codes "error badarg" ∷ codes "ok" ∷ codes "ok" ∷ codes "<<>>" ∷ codes "error badarg" ∷ []
bounds-of_binaries = refl

-- A binary of 64 bytes stands on the heap, one of 65 is shared.
pub flat-of_filled : answers_to first_state (fill 0 64 1 ∷ fill 1 65 1 ∷ flat_of_register 0 ∷ flat_of_register 1 ∷ sweep ∷ counts ∷ [])
    ≡ codes "ok" ∷ codes "ok" ∷ codes "10" ∷ codes "6" ∷ codes "ok" ∷ codes "a map" ∷ []
unfolding digits
flat-of_filled = refl

-- A part keeps its base, also where no register holds the base itself, and a part of it lies within it.
pub part-of_part : answers_to first_state
    (fill 0 100 9 ∷ part 1 0 98 2 ∷ set 0 (Listed end) ∷ print 1 ∷ flat_of_register 1 ∷ part 2 1 1 2 ∷ part 2 1 1 1 ∷ print 2 ∷ [])
    ≡ codes "ok" ∷ codes "ok" ∷ codes "ok" ∷ codes "<<9,9>>" ∷ codes "11" ∷ codes "error badarg" ∷ codes "ok" ∷ codes "<<9>>" ∷ []
unfolding digits
part-of_part = refl

-- Process 1 holds a part of the one shared binary, and all was swept.
abbrev pub part_held : State
part_held = record first_state {
  processes = with_register 1 (tree.Part (tree.Shared 1) 98 2) (fresh_process 1) ∷ [];
  shared = replicate 100 9 ∷ [];
  swept = true;
}

one-is-one : 1 ≤ 1
one-is-one = suc-le-suc zero-le

-- Its one record is counted once.
pub counts-of_part : CountsOf part_held (codes "bins [1:1] funs []")
unfolding digits
counts-of_part = record {
  bins = record { id = 1; count = 1 } ∷ [];
  funs = [];
  said = refl;
  rising = (one-is-one, one-is-one, tt);
  by_names = tt;
  bins_occur = λ n i. i;
  funs_occur = λ n i. i;
  bins_named = (one-is-one, tt);
  funs_named = tt;
  bins_exact = λ e. (one-is-one, one-is-one, tt);
  funs_exact = λ e. tt;
}

-- Binaries of a written term get their ids from left to right.
pub set-binaries : state_after first_state (step first_state (parsed_of [] (set 0 (Tuple (Bin (replicate 65 1) ▹ Bin (replicate 65 2) ▹ end)))))
    ≡ record first_state {
      processes = with_register 0 (tree.Tuple (trees.◌▹◌ (tree.Shared 1) (trees.◌▹◌ (tree.Shared 2) trees.end))) (fresh_process 1) ∷ [];
      shared = replicate 65 1 ∷ replicate 65 2 ∷ [];
    }
set-binaries = refl

-- A fun with two registers as its environment.
pub fun-and_env : answers_to first_state (
    OfProcess 1 word.Fun (0, (codes "f", (2, (0 ∷ 1 ∷ [], tt)))) ∷ print 0 ∷ flat_of_register 0
    ∷ OfProcess 1 word.Env (1, (2, (0, tt))) ∷ OfProcess 1 word.Env (1, (3, (0, tt)))
    ∷ OfProcess 1 word.Fun (2, (codes "g", (256, ([], tt)))) ∷ sweep ∷ counts ∷ [])
    ≡ codes "ok" ∷ codes "#Fun<f/2>" ∷ codes "8" ∷ codes "ok" ∷ codes "error badarg" ∷ codes "error badarg" ∷ codes "ok" ∷ codes "a map" ∷ []
unfolding digits
fun-and_env = refl

-- The text of records that are counted: binaries by their ids, funs by their names and then by arity.
pub counts-text : counts_text (codes "f" ∷ codes "a" ∷ []) (record { id = 1; count = 2 } ∷ record { id = 12; count = 1 } ∷ [])
    (record { name = 1; arity = 3; count = 1 } ∷ record { name = 0; arity = 2; count = 4 } ∷ [])
    ≡ codes "bins [1:2,12:1] funs [a/3:1,f/2:4]"
unfolding digits
counts-text = refl

-- A process that does not live takes no message, and an empty queue gives none.
pub sent-to_none : answers_to first_state (send 0 (to.Number 99) ∷ OfProcess 99 word.Print (0, tt) ∷ recv 0 ∷ OfProcess 1 word.Pop (0, tt) ∷ queue ∷ [])
    ≡ codes "ok" ∷ codes "error noproc" ∷ codes "error empty" ∷ codes "error empty" ∷ codes "[]" ∷ []
sent-to_none = refl

-- A message is the tree that was sent, and a register that holds no pid names no process.
pub sent-to_itself : answers_to first_state (set 0 (Tuple (Atom (codes "x") ▹ end)) ∷ set 1 (Tuple (Held 0 ▹ Held 0 ▹ end)) ∷ send 1 (to.Number 1) ∷ recv 2
    ∷ OfProcess 1 word.Eq (1, (2, tt)) ∷ flat_of_register 2 ∷ send 1 (to.Held (record { 0 = 0 })) ∷ [])
    ≡ codes "ok" ∷ codes "ok" ∷ codes "ok" ∷ codes "ok" ∷ codes "true" ∷ codes "7" ∷ codes "error badarg" ∷ []
unfolding digits
sent-to_itself = refl

-- Messages wait in the order of sending and leave in it; each stays what it was when it was sent.
pub messages-in_order : answers_to first_state (set 0 (Atom (codes "a")) ∷ send 0 (to.Number 1) ∷ set 0 (Tuple (Held 0 ▹ end)) ∷ OfProcess 1 word.Own (1, tt)
    ∷ send 0 (to.Held (record { 0 = 1 })) ∷ queue ∷ recv 0 ∷ print 0 ∷ queue ∷ recv 0 ∷ print 0 ∷ queue ∷ [])
    ≡ codes "ok" ∷ codes "ok" ∷ codes "ok" ∷ codes "ok" ∷ codes "ok" ∷ codes "[a,{a}]"
    ∷ codes "ok" ∷ codes "a" ∷ codes "[{a}]" ∷ codes "ok" ∷ codes "{a}" ∷ codes "[]" ∷ []
messages-in_order = refl
