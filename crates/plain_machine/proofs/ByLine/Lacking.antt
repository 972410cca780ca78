-- Where a line is answered that there is no space: the machine's own steps are never refused so.
use Rattle.std.proofs.Common.{◌≡◌, ℕ, ◌⊎◌, inl, inr, Bool, true, false, nat_le, nat_lt, ◌||◌, List, [], ◌∷◌, length, Option, Some, None, get_or, decimal, codes, replicate, refl, sym, ap, subst, ◌∙◌, arith}
use Rattle.std.specs.Prelude.{MatchBool}
use Rattle.std.proofs.lemmas.Bool.{true≢false}
use Rattle.std.proofs.lemmas.List.{append_cancel_left}
use Rattle.line_io.specs.Lines.{Line, text, long}
use Rattle.plain_term.specs.Tree.{Tree, Pairs}
use Rattle.plain_term.specs.Beyond.{is_beyond}
use Rattle.script_grammar.specs.declared.command.Command.{Command}
use Rattle.script_grammar.specs.declared.command.Command.TheVariants.{Nothing, Process, System}
use Rattle.script_grammar.specs.declared.command.Verb.{Verb}
use Rattle.script_grammar.specs.declared.command.Verb.TheVariants.{Set, Choose, MapPut, Fill, Fun as MakeFun, Ref, Own, Repeat, Push, Pop, Send, Recv, Gc, Exit, Print, Eq, Cmp, Flat, Lit, Queue}
use Rattle.script_grammar.specs.declared.command.SysVerb.{SysVerb}
use Rattle.script_grammar.specs.declared.command.SysVerb.TheVariants.{Spawn, Load, Purge, Sweep, Counts, Procs, Quit}
use Rattle.script_grammar.specs.declared.refusal.Refusal.{Refusal}
use Rattle.script_grammar.specs.declared.refusal.Refusal.TheVariants.{NoProc, BadArg, Empty, Big, NoSpace, NoArea, AreaThere, MapSize, Procs as TooMany, Atoms, Syntax, Long}
use Rattle.script_grammar.specs.Written.{Terms}
use Rattle.script_grammar.specs.Written.Terms.{end, ◌▹◌}
use Rattle.script_grammar.specs.Grammar.{SaysOne}
use Rattle.script_grammar.specs.Names.{Parsed, parsed_of}
use Rattle.script_grammar.specs.ReadAs.{IsRead, IsReadAs, Reading}
use Rattle.script_grammar.specs.ReadAs.Reading.{Means, NoSyntax, NoAtoms}
use Rattle.plain_machine.specs.declared.limits.TheConstants.{MOST_PROCESSES, MOST_AREAS, MOST_PLACES, MOST_FILL, MOST_ARITY, MOST_BYTE}
use Rattle.plain_machine.specs.State.{Process as Live, State, Area, process_of, area_with, has_area, register}
use Rattle.plain_machine.specs.Made.{too_many}
use Rattle.plain_machine.specs.Flaws.{is_wide, are_wide, is_big, are_big, flaw_of}
use Rattle.plain_machine.specs.Parts.{picked, pairs_in, repeated}
use Rattle.plain_machine.specs.Tightness.{grow, receiver}
use Rattle.plain_machine.specs.Step.{Outcome, step, by_command, in_process, by_verb, by_system, literal_of, lit_from, load_if, purge_if, unless_flawed, written_flaw, fill_if, fun_if, choose, put_unless_wide, put_unless_big, put_into, repeat_if, pop_from, send_within, send_to, recv_from, spawn_if, tells, unless_beyond}
use Rattle.plain_machine.specs.Step.Outcome.{Accepted, Refused, Mapped}
use Rattle.plain_machine.specs.Maps.{IsMapOf, counts_text}
use Rattle.plain_machine.specs.Run.{LineStep, ReadingStep, CommandStep, Gives, Skips, LacksSpace, refusal_text, is_nothing}
use Rattle.plain_machine.specs.Laws.{IsLacking, OnlyLacking, SaysLacking}
use Rattle.plain_machine.proofs.ByLine.Commands.{IsTold, command-does}

-- the refusal that there is no space
abbrev is_lack : Refusal → Bool
is_lack (NoSpace n) = true
is_lack _ = false

-- an outcome that is none of it
abbrev IsOwn : Outcome → Type 0
IsOwn (Refused r) = is_lack r ≡ false
IsOwn _ = Unit {0}

within-own : (s : State) (b : Bool) (x : List ℕ) → IsOwn (tells s (unless_beyond b x))
within-own s true x = refl
within-own s false x = tt

flaw-own : (big wide : Bool) (o : Outcome) → IsOwn o → IsOwn (unless_flawed (flaw_of big wide) o)
flaw-own true wide o h = refl
flaw-own false true o h = refl
flaw-own false false o h = h

set-own : (s : State) (p : Parsed) (q : Live) (ts : Terms) (o : Outcome) → IsOwn o → IsOwn (unless_flawed (written_flaw s p q ts) o)
set-own s p q end o h = h
set-own s p q (t ▹ ts) o h = flaw-own (is_big p.names q.registers t s.shared) (is_wide p.names q.registers t s.shared) o h

choose-own : (o : Option Tree) (s : State) (p : Parsed) (q : Live) (r : ℕ) → IsOwn (choose o s p q r)
choose-own None s p q r = refl
choose-own (Some t) s p q r = tt

lit-own : (o : Option Area) (s : State) (p : Parsed) (q : Live) (r i : ℕ) → IsOwn (lit_from o s p q r i)
lit-own None s p q r i = refl
lit-own (Some a) s p q r i = choose-own (literal_of i a.literals) s p q r

load-own : (b : Bool) (s : State) (p : Parsed) (name : ℕ) → IsOwn (load_if b s p name)
load-own true s p name = refl
load-own false s p name = flaw-own (are_big p.names [] p.terms s.shared) (are_wide p.names [] p.terms s.shared) _ tt

purge-own : (b : Bool) (s : State) (p : Parsed) (name : ℕ) → IsOwn (purge_if b s p name)
purge-own true s p name = tt
purge-own false s p name = refl

wide-own : (b : Bool) (ps : Pairs) (s : State) (p : Parsed) (q : Live) (r : ℕ) → IsOwn (put_unless_wide b ps s p q r)
wide-own true ps s p q r = refl
wide-own false ps s p q r = tt

big-own : (b : Bool) (ps : Pairs) (s : State) (p : Parsed) (q : Live) (r : ℕ) → IsOwn (put_unless_big b ps s p q r)
big-own true ps s p q r = refl
big-own false ps s p q r = wide-own (too_many ps) ps s p q r

put-own : (o : Option Pairs) (k v : Tree) (s : State) (p : Parsed) (q : Live) (r : ℕ) → IsOwn (put_into o k v s p q r)
put-own None k v s p q r = refl
put-own (Some ps) k v s p q r = big-own (is_beyond s.shared k) _ s p q r

fill-own : (b : Bool) (bytes : List ℕ) (s : State) (p : Parsed) (q : Live) (r : ℕ) → IsOwn (fill_if b bytes s p q r)
fill-own true bytes s p q r = refl
fill-own false bytes s p q r = tt

fun-own : (b : Bool) (t : Tree) (s : State) (p : Parsed) (q : Live) (r : ℕ) → IsOwn (fun_if b t s p q r)
fun-own true t s p q r = refl
fun-own false t s p q r = tt

repeat-own : (b : Bool) (t : Tree) (s : State) (p : Parsed) (q : Live) (r : ℕ) → IsOwn (repeat_if b t s p q r)
repeat-own true t s p q r = refl
repeat-own false t s p q r = tt

pop-own : (ts : List Tree) (s : State) (p : Parsed) (q : Live) (r : ℕ) → IsOwn (pop_from ts s p q r)
pop-own [] s p q r = refl
pop-own (t ∷ ts) s p q r = tt

recv-own : (ts : List Tree) (s : State) (p : Parsed) (q : Live) (r : ℕ) → IsOwn (recv_from ts s p q r)
recv-own [] s p q r = refl
recv-own (t ∷ ts) s p q r = tt

sent-own : (b : Bool) (n : ℕ) (t : Tree) (s : State) (p : Parsed) → IsOwn (send_within b n t s p)
sent-own true n t s p = refl
sent-own false n t s p = tt

send-own : (o : Option ℕ) (t : Tree) (s : State) (p : Parsed) → IsOwn (send_to o t s p)
send-own None t s p = refl
send-own (Some n) t s p = sent-own (is_beyond s.shared t) n t s p

spawn-own : (b : Bool) (s : State) (p : Parsed) → IsOwn (spawn_if b s p)
spawn-own true s p = refl
spawn-own false s p = tt

verb-own : (s : State) (p : Parsed) (q : Live) (v : Verb) → IsOwn (by_verb s p q v)
verb-own s p q (Set r) = set-own s p q p.terms _ tt
verb-own s p q (Choose r m how) = choose-own (picked p.names s.shared q how (register m.0 q)) s p q (r.0)
verb-own s p q (MapPut r m k v) = put-own (pairs_in (register m.0 q)) (register k.0 q) (register v.0 q) s p q (r.0)
verb-own s p q (Fill r len byte) = fill-own (nat_lt MOST_FILL len || nat_lt MOST_BYTE byte) (replicate len byte) s p q (r.0)
verb-own s p q (MakeFun r name arity) = fun-own (nat_lt MOST_ARITY arity) _ s p q (r.0)
verb-own s p q (Repeat r shape n m) = repeat-own (nat_lt MOST_PLACES n) (repeated shape n (register m.0 q)) s p q (r.0)
verb-own s p q (Lit r name i) = lit-own (area_with name s) s p q (r.0) i
verb-own s p q (Pop r) = pop-own q.stack s p q (r.0)
verb-own s p q (Send r to) = send-own (receiver to q) (register r.0 q) s p
verb-own s p q (Recv r) = recv-own q.queue s p q (r.0)
verb-own s p q (Print r) = within-own s (is_beyond s.shared (register r.0 q)) _
verb-own s p q (Eq a b) = within-own s (is_beyond s.shared (register a.0 q) || is_beyond s.shared (register b.0 q)) _
verb-own s p q (Cmp a b) = within-own s (is_beyond s.shared (register a.0 q) || is_beyond s.shared (register b.0 q)) _
verb-own s p q (Flat r) = within-own s (is_beyond s.shared (register r.0 q)) _
verb-own s p q Queue = tt
verb-own s p q (Ref r) = tt
verb-own s p q (Own r) = tt
verb-own s p q (Push r) = tt
verb-own s p q (Gc depth) = tt
verb-own s p q Exit = tt
verb-own s p q v = refl

process-own : (o : Option Live) (s : State) (p : Parsed) (v : Verb) → IsOwn (in_process o s p v)
process-own None s p v = refl
process-own (Some q) s p v = verb-own s p q v

system-own : (s : State) (p : Parsed) (v : SysVerb) → IsOwn (by_system s p v)
system-own s p Spawn = spawn-own (nat_le MOST_PROCESSES (length s.processes)) s p
system-own s p (Load name count) = load-own (has_area name s || nat_le MOST_AREAS (length s.areas)) s p name
system-own s p (Purge name) = purge-own (has_area name s) s p name
system-own s p Sweep = tt
system-own s p Counts = tt
system-own s p Procs = tt
system-own s p Quit = tt
system-own s p v = refl

command-own : (s : State) (p : Parsed) (c : Command) → IsOwn (by_command s p c)
command-own s p Nothing = tt
command-own s p (Process n v) = process-own (process_of n s) s p v
command-own s p (System v) = system-own s p v

-- no other refusal has its text
byte-of : (k a b : ℕ) (x y : List ℕ) → x ≡ y → get_or x k 0 ≡ a → get_or y k 0 ≡ b → a ≡ b
byte-of k a b x y e f g = sym f ∙ ap (λ z. get_or z k 0) e ∙ g

same-lack : (n : ℕ) (r : Refusal) → refusal_text (NoSpace n) ≡ refusal_text r → is_lack r ≡ true
same-lack n (NoSpace m) e = refl
same-lack n NoProc e = absurd (omega (arith, byte-of 8 115 112 (refusal_text (NoSpace n)) (refusal_text NoProc) e refl refl))
same-lack n NoArea e = absurd (omega (arith, byte-of 8 115 97 (refusal_text (NoSpace n)) (refusal_text NoArea) e refl refl))
same-lack n BadArg e = absurd (omega (arith, byte-of 6 110 98 (refusal_text (NoSpace n)) (refusal_text BadArg) e refl refl))
same-lack n Empty e = absurd (omega (arith, byte-of 6 110 101 (refusal_text (NoSpace n)) (refusal_text Empty) e refl refl))
same-lack n Big e = absurd (omega (arith, byte-of 6 110 98 (refusal_text (NoSpace n)) (refusal_text Big) e refl refl))
same-lack n AreaThere e = absurd (omega (arith, byte-of 6 110 97 (refusal_text (NoSpace n)) (refusal_text AreaThere) e refl refl))
same-lack n MapSize e = absurd (omega (arith, byte-of 6 110 109 (refusal_text (NoSpace n)) (refusal_text MapSize) e refl refl))
same-lack n TooMany e = absurd (omega (arith, byte-of 6 110 112 (refusal_text (NoSpace n)) (refusal_text TooMany) e refl refl))
same-lack n Atoms e = absurd (omega (arith, byte-of 6 110 97 (refusal_text (NoSpace n)) (refusal_text Atoms) e refl refl))
same-lack n Syntax e = absurd (omega (arith, byte-of 6 110 115 (refusal_text (NoSpace n)) (refusal_text Syntax) e refl refl))
same-lack n Long e = absurd (omega (arith, byte-of 6 110 108 (refusal_text (NoSpace n)) (refusal_text Long) e refl refl))

one-text : (x y : List ℕ) → x ∷ [] ≡ y ∷ [] → x ≡ y
one-text x y e = cc

other-lack : (n : ℕ) (r : Refusal) → is_lack r ≡ false → refusal_text (NoSpace n) ∷ [] ≡ refusal_text r ∷ [] → ⊥
other-lack n r own e = true≢false (sym (same-lack n r (one-text _ _ e)) ∙ own)

-- it is written with its number
same-number : (n m : ℕ) → refusal_text (NoSpace n) ≡ refusal_text (NoSpace m) → decimal n ≡ decimal m
same-number n m e = append_cancel_left (codes "error nospace ") (decimal n) (decimal m) e

-- no map of the store has that text
no-map : (c : Command) (s : State) (x : List ℕ) (n : ℕ) → IsMapOf c s x → refusal_text (NoSpace n) ≡ x → ⊥
no-map (System Counts) s x n h e = omega (arith, byte-of 0 101 98 (refusal_text (NoSpace n)) (counts_text s.names h.bins h.funs) (e ∙ h.said) refl refl)
no-map (System _) s x n h e = h
no-map (Process k v) s x n h e = h
no-map Nothing s x n h e = h

gives-lack : (may : ℕ → State → Parsed → Bool) (words : ℕ) (s new : State) (p : Parsed) (n : ℕ) (quits : Bool) (o : Outcome) → step s p ≡ o → IsOwn o → IsTold s p.command o
    → Gives o s p.command quits (refusal_text (NoSpace n) ∷ []) new → IsLacking may words s p n
gives-lack may words s new p n quits (Refused r) is own told g = absurd (other-lack n r own g.said)
gives-lack may words s new p n quits (Accepted next reply) is own (inr t) g = inr (is ∙ (ap (λ z. Accepted z reply) (t.0) ∙ ap (Accepted s) (sym (one-text _ _ g.said))))
gives-lack may words s new p n quits (Accepted next reply) is own (inl t) g =
    absurd (omega (arith, byte-of 0 101 111 (refusal_text (NoSpace n)) (111 ∷ t.0) (one-text _ _ g.said ∙ t.1) refl refl))
gives-lack may words s new p n quits Mapped is own told g = absurd (no-map p.command s g.map n g.allowed (one-text _ _ g.said))

command-lack : (may : ℕ → State → Parsed → Bool) (words : ℕ) (s new : State) (p : Parsed) (n : ℕ) (quits : Bool)
    → CommandStep may words s p quits (refusal_text (NoSpace n) ∷ []) new → IsLacking may words s p n
command-lack may words s new p n quits h = at (is_nothing p.command) h
  where
    at : (b : Bool) → MatchBool b (Skips s quits (refusal_text (NoSpace n) ∷ []) new)
        (Gives (step s p) s p.command quits (refusal_text (NoSpace n) ∷ []) new ⊎ LacksSpace may words s p quits (refusal_text (NoSpace n) ∷ []) new) → IsLacking may words s p n
    at true k = absurd (none (refusal_text (NoSpace n)) k.said)
      where
        none : (x : List ℕ) → x ∷ [] ≡ [] → ⊥
        none x e = absurd (cc)
    at false (inl k) = gives-lack may words s new p n quits (step s p) refl (command-own s p p.command) (command-does s p p.command).told k
    at false (inr k) = inl (k.allowed, same-number n (grow s p) (one-text _ _ k.refuses.said))

reading-lack : (may : ℕ → State → Parsed → Bool) (words : ℕ) (s new : State) (line : List ℕ) (a : Reading) (n : ℕ) (quits : Bool) → IsReadAs s.names line a
    → ReadingStep may words s a quits (refusal_text (NoSpace n) ∷ []) new → SaysLacking may words s line n
reading-lack may words s new line (Means p) n quits x h = record { said = p; reads = x; lacks = command-lack may words s new p n quits h }
reading-lack may words s new line NoSyntax n quits x h = absurd (other-lack n Syntax refl h.said)
reading-lack may words s new line NoAtoms n quits x h = absurd (other-lack n Atoms refl h.said)

pub line-lack : (may : ℕ → State → Parsed → Bool) (words : ℕ) (s new : State) (line : Line) (n : ℕ) (quits : Bool)
    → LineStep may words s line quits (refusal_text (NoSpace n) ∷ []) new → OnlyLacking may words s line n
line-lack may words s new long n quits h = absurd (other-lack n Long refl h.said)
line-lack may words s new (text line) n quits h = reading-lack may words s new line h.reading n quits h.reads h.follows

-- a command for which that may not be is told by the machine, where it is answered so
pub never-else : SaysOne → (may : ℕ → State → Parsed → Bool) (words : ℕ) (s new : State) (line : List ℕ) (p : Parsed) (n : ℕ) (quits : Bool)
    → IsRead s.names line p → may words s p ≡ false → LineStep may words s (text line) quits (refusal_text (NoSpace n) ∷ []) new
    → step s p ≡ Accepted s (refusal_text (NoSpace n))
never-else one may words s new line p n quits x never h =
    let k : SaysLacking may words s line n = line-lack may words s new (text line) n quits h in
    let same : k.said ≡ p = k.reads.is ∙ (ap (parsed_of s.names) (one line k.reads.written x.written k.reads.says x.says k.reads.built x.built) ∙ sym x.is) in
    let P : Parsed → Type 0 = λ z. IsLacking may words s z n in
    at (subst P same k.lacks)
  where
    at : IsLacking may words s p n → step s p ≡ Accepted s (refusal_text (NoSpace n))
    at (inl a) = absurd (true≢false (sym (a.0) ∙ never))
    at (inr a) = a
