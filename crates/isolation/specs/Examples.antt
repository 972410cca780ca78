-- Worked runs: what two processes see of them, and what they are answered.
use Rattle.std.proofs.Common.{inr}
use Rattle.std.specs.Prelude.{ℕ, ◌≡◌, pos, List, [], ◌∷◌, map, codes, refl, Some}
use Rattle.std.specs.Fmt.{digits}
use Rattle.line_io.specs.Lines.{text}
use Rattle.script_grammar.specs.Written.{Written, Term}
use Rattle.script_grammar.specs.Written.Written.{OfProcess, OfSystem}
use Rattle.script_grammar.specs.Written.Term.{Atom, Int, Tuple, Listed}
use Rattle.script_grammar.specs.Written.Terms.{end, ◌▹◌}
use Rattle.script_grammar.specs.declared.command.To.TheVariants.{Number}
use Rattle.script_grammar.specs.declared.word.Word.TheVariants as word
use Rattle.script_grammar.specs.declared.word.SysWord.TheVariants as sys
use Rattle.script_grammar.specs.declared.refusal.Refusal.TheVariants.{NoSpace}
use Rattle.plain_machine.specs.State.{State, first_state}
use Rattle.plain_machine.specs.Run.{refusal_text}
use Rattle.isolation.specs.Named.NamedTree.{NamedTree}
use Rattle.isolation.specs.Named.NamedTree.{NamedTree as by_name}
use Rattle.isolation.specs.Named.NamedTree.NamedTrees.{nothing, before}
use Rattle.isolation.specs.Events.{Event}
use Rattle.isolation.specs.Views.{Sight, view_of, own_replies}
use Rattle.isolation.specs.Views.Sight.{own, born, message}
use Rattle.isolation.specs.Solo.{answers_of, left_by, step_at, solo}
use Rattle.isolation.specs.Laws.{births_in, IsAmple}

-- A line as it is written, with what it says.
pub record Said : Type 0 where
  pub line : List ℕ
  pub says : Written

-- The events of lines one after the other, none of which is refused for its text.
abbrev pub events_from : State → List Said → List Event
events_from s [] = []
events_from s (l ∷ lines) =
    record { line = text l.line; said = Some l.says; before = s; replies = answers_of (step_at s l.says); after = left_by s (step_at s l.says) }
    ∷ events_from (left_by s (step_at s l.says)) lines

-- 1 set 0 {hi,[1]}, where 1 may be another process
abbrev pub greeting : Term
greeting = Tuple (Atom (codes "hi") ▹ Listed (Int (pos 1) ▹ end) ▹ end)

abbrev pub spawn : Said
spawn = record { line = codes "sys spawn"; says = OfSystem sys.Spawn tt }

-- 2 set 3 other
abbrev pub set_other : Written
set_other = OfProcess 2 word.Set (3, (Atom (codes "other"), tt))

-- 2 recv 0
abbrev pub receive : Written
receive = OfProcess 2 word.Recv (0, tt)

-- 2 print 0
abbrev pub print_received : Written
print_received = OfProcess 2 word.Print (0, tt)

-- Process 1 sends to process 2.
abbrev pub two : List Event
two = events_from first_state (
    spawn
    ∷ record { line = codes "1 set 0 {hi,[1]}"; says = OfProcess 1 word.Set (0, (greeting, tt)) }
    ∷ record { line = codes "2 set 3 other"; says = set_other }
    ∷ record { line = codes "1 send 0 2"; says = OfProcess 1 word.Send (0, (Number 2, tt)) }
    ∷ record { line = codes "2 recv 0"; says = receive }
    ∷ record { line = codes "2 print 0"; says = print_received }
    ∷ [])

-- The same from a third process, while the first does something else.
abbrev pub three : List Event
three = events_from first_state (
    record { line = codes "1 set 9 more"; says = OfProcess 1 word.Set (9, (Atom (codes "more"), tt)) }
    ∷ spawn
    ∷ record { line = codes "2 set 3 other"; says = set_other }
    ∷ spawn
    ∷ record { line = codes "3 set 5 {hi,[1]}"; says = OfProcess 3 word.Set (5, (greeting, tt)) }
    ∷ record { line = codes "3 send 5 2"; says = OfProcess 3 word.Send (5, (Number 2, tt)) }
    ∷ record { line = codes "3 exit"; says = OfProcess 3 word.Exit tt }
    ∷ record { line = codes "2 recv 0"; says = receive }
    ∷ record { line = codes "2 print 0"; says = print_received }
    ∷ [])

-- {hi,[1]} by name
abbrev pub hi : NamedTree
hi = by_name.Tuple (before (by_name.Atom (codes "hi")) (before (by_name.Cons (by_name.Int (pos 1)) by_name.Nil) nothing))

abbrev pub seen_by_two : List Sight
seen_by_two = born ∷ own set_other ∷ message hi ∷ own receive ∷ own print_received ∷ []

-- What process 2 sees of the first run: it is spawned, says its lines, and a message comes.
pub seen-of_two : view_of 2 two ≡ seen_by_two
seen-of_two = refl

-- So it is answered in the run, where `hi` is the first name and `other` the second.
pub replies-of_two : own_replies 2 two ≡ codes "ok" ∷ codes "ok" ∷ codes "{hi,[1]}" ∷ []
unfolding digits
replies-of_two = refl

-- And so it is answered alone, where `other` is the first name.
pub solo-of_two : solo 2 seen_by_two ≡ codes "ok" ∷ codes "ok" ∷ codes "{hi,[1]}" ∷ []
unfolding digits
solo-of_two = refl

-- The other run gives it the same view and the same replies.
pub seen-of_three : view_of 2 three ≡ seen_by_two
seen-of_three = refl

pub replies-of_three : own_replies 2 three ≡ own_replies 2 two
unfolding digits
replies-of_three = refl

-- Process 1 sees its own lines alone, from the start on.
pub seen-by_first : view_of 1 two ≡ own (OfProcess 1 word.Set (0, (greeting, tt))) ∷ own (OfProcess 1 word.Send (0, (Number 2, tt))) ∷ []
seen-by_first = refl

pub solo-of_first : solo 1 (view_of 1 two) ≡ codes "ok" ∷ codes "ok" ∷ []
solo-of_first = refl

-- Process 1 sends to itself.
abbrev pub to_itself : List Event
to_itself = events_from first_state (
    record { line = codes "1 set 0 {hi,[1]}"; says = OfProcess 1 word.Set (0, (greeting, tt)) }
    ∷ record { line = codes "1 send 0 1"; says = OfProcess 1 word.Send (0, (Number 1, tt)) }
    ∷ record { line = codes "1 recv 2"; says = OfProcess 1 word.Recv (2, tt) }
    ∷ record { line = codes "1 print 2"; says = OfProcess 1 word.Print (2, tt) }
    ∷ [])

-- It sees its own lines, and no message beside them: its line has put it into the queue.
pub seen-by_itself : view_of 1 to_itself
    ≡ own (OfProcess 1 word.Set (0, (greeting, tt))) ∷ own (OfProcess 1 word.Send (0, (Number 1, tt)))
    ∷ own (OfProcess 1 word.Recv (2, tt)) ∷ own (OfProcess 1 word.Print (2, tt)) ∷ []
seen-by_itself = refl

pub replies-of_itself : own_replies 1 to_itself ≡ codes "ok" ∷ codes "ok" ∷ codes "ok" ∷ codes "{hi,[1]}" ∷ []
unfolding digits
replies-of_itself = refl

pub solo-of_itself : solo 1 (view_of 1 to_itself) ≡ own_replies 1 to_itself
unfolding digits
solo-of_itself = refl

-- Process 2 comes to live, and is gone; the next `spawn` brings another.
abbrev pub two_spawns : List Event
two_spawns = events_from first_state (spawn ∷ record { line = codes "2 exit"; says = OfProcess 2 word.Exit tt } ∷ spawn ∷ [])

pub births-of_spawns : map (births_in two_spawns) (1 ∷ 2 ∷ 3 ∷ []) ≡ 0 ∷ 1 ∷ 1 ∷ []
births-of_spawns = refl

-- A line for which there is no space: no run that begins with this event is ample, so nothing is said of its replies.
abbrev pub without_space : Event
without_space = record {
  line = text (codes "1 set 0 {hi,[1]}");
  said = Some (OfProcess 1 word.Set (0, (greeting, tt)));
  before = first_state;
  replies = refusal_text (NoSpace 5) ∷ [];
  after = first_state;
}

pub short-not_ample : (events : List Event) → IsAmple (without_space ∷ events) → ⊥
short-not_ample events h = h.none_short.0 (inr (5, refl))
