-- From the answer of a space's call to the machine's step.
use Rattle.std.proofs.Common.{◌≡◌, ℕ, inl, inr, Bool, true, false, cond, ◌||◌, ◌⊎◌, List, [], ◌∷◌, ◌++◌, codes, decimal, nat_le, nat_lt, length, replicate}
use Rattle.std.proofs.Common.{arith, ◌≤◌, Option, Some, None, Result, Ok, Err, IfOk, refl, sym, ap, subst, ◌∙◌}
use Rattle.std.proofs.lemmas.Bool.{both_ways}
use Rattle.std.specs.Prelude.{MatchBool, OnErr}
use Rattle.std.specs.List.{find, list_any}
use Rattle.plain_term.specs.Tree.{Tree, Pairs}
use Rattle.plain_term.specs.Tree.{Tree as tree}
use Rattle.plain_term.specs.Beyond.{is_beyond}
use Rattle.plain_term.specs.InOrder.{put_pair}
use Rattle.plain_term.specs.declared.item.Item.{Item}
use Rattle.script_grammar.specs.declared.command.Reg.{Reg}
use Rattle.script_grammar.specs.declared.command.Pick.{Pick}
use Rattle.script_grammar.specs.declared.command.To.{To}
use Rattle.script_grammar.specs.declared.command.Shape.{Shape}
use Rattle.script_grammar.specs.declared.command.Command.{Command}
use Rattle.script_grammar.specs.declared.command.Command.TheVariants.{Nothing as NoCommand, Process, System}
use Rattle.script_grammar.specs.declared.command.Verb.{Verb}
use Rattle.script_grammar.specs.declared.command.Verb.TheVariants.{Set, Choose, MapPut, Fill, Fun as MakeFun, Repeat, Pop, Send, Recv, Queue, Print, Eq, Cmp, Flat}
use Rattle.script_grammar.specs.declared.command.SysVerb.TheVariants.{Spawn, Sweep, Procs, Counts as CountsVerb, Quit as QuitVerb}
use Rattle.script_grammar.specs.declared.refusal.Refusal.{Refusal}
use Rattle.script_grammar.specs.declared.refusal.Refusal.TheVariants.{NoProc}
use Rattle.script_grammar.specs.Written.{Term, Terms}
use Rattle.script_grammar.specs.Written.Terms.{end}
use Rattle.script_grammar.specs.Names.{Parsed}
use Rattle.plain_machine.specs.May.{may_of_tight}
use Rattle.plain_machine.specs.declared.limits.TheConstants.{MOST_PROCESSES, MOST_PLACES, MOST_FILL, MOST_ARITY, MOST_BYTE}
use Rattle.plain_machine.specs.State.{Process as Live, State, HasNames, process_of, is_live, register}
use Rattle.plain_machine.specs.Made.{too_many}
use Rattle.plain_machine.specs.Tightness.{receiver}
use Rattle.plain_machine.specs.Parts.{picked, pairs_in, repeated}
use Rattle.plain_machine.specs.Step.{Outcome, step, settled, with_made, written_tree, written_flaw, unless_flawed, choose, fill_if, fun_if, env_of, put_unless_wide, put_unless_big, put_into, repeat_if, in_process, by_verb, pop_from, send_within, send_to, recv_from, spawn_if, tells, told_of, is_printing_verb}
use Rattle.plain_machine.specs.Step.Outcome.{Accepted, Refused as IsRefused, Mapped}
use Rattle.plain_machine.specs.Run.{CommandStep, Skips, Gives, LacksSpace, refusal_text, is_nothing, is_quit}
use Rattle.plain_machine.specs.Maps.{is_map}
use Rattle.space_api.specs.declared.space.Seat.{Seat}
use Rattle.space_api.specs.Calls.{KeepsBooks, said, Follows, Stays, Becomes, Passes, one_term, HasEnv, IsWrittenTerm}
use Rattle.engine.specs.declared.reply.MapLine.TheVariants.{Counts as counts}
use Rattle.engine.specs.declared.reply.Asked.TheVariants.{Equality, Order}
use Rattle.engine.specs.declared.reply.Telling.{Telling}
use Rattle.engine.specs.declared.reply.Telling.TheVariants.{Text, Compared, Flat as TellsFlat, Queue as TellsQueue}
use Rattle.engine.specs.declared.reply.Reply.{Reply}
use Rattle.engine.specs.declared.reply.Reply.TheVariants.{Nothing as NoReply, Done, Spawned, Numbers, Map, Told, Quit, Refused}
use Rattle.engine.specs.Replies.{telling_verb, CanReply, reply_lines, reply_of, ends_script, outcome_text}
use Rattle.engine.specs.Rules.{After}
use Rattle.engine.specs.Acts.{Acts, Fits, OnRefused, TermsFit, names_left, shown}

-- A reply fits to an outcome: an accepted one's text, names and end are the reply's.
abbrev pub Fitting : After → State → Parsed → Reply → Outcome → Type 0
Fitting after s p x (Accepted next reply) = (reply_lines x (shown after next p.names) ≡ reply ∷ []) × (next.names ≡ names_left x s p) × (ends_script x ≡ is_quit p.command)
Fitting after s p x (IsRefused e) = Unit {0}
Fitting after s p x Mapped = Unit {0}

-- What is known of a command once its outcome is: the state after it, and what the machine gives.
pub record Gave (s : State) (p : Parsed) (o : Outcome) (reply : Reply) (after : After) : Type 0 where
  pub new : State
  pub stands : after.stands new
  pub kept : new.names ≡ names_left reply s p
  pub gives : Gives o s p.command (ends_script reply) (reply_lines reply (shown after new p.names)) new

module _ (s : State) (p : Parsed) (after : After) {A : Type 0} (say : A → Reply) where
  -- the call follows the outcome
  pub gave : (o : Outcome) (r : Result A Refusal) → ((a : A) → r ≡ Ok a → Fitting after s p (say a) o) → Follows o s r after.stands → Gave s p o (reply_of say r) after
  gave (Accepted next reply) (Ok a) fit f = let k = fit a refl in record { new = next; stands = f; kept = k.1; gives = record { ends = k.2; said = k.0; is = refl } }
  gave (Accepted next reply) (Err e) fit f = absurd f
  gave (IsRefused x) (Ok a) fit f = absurd f
  gave (IsRefused x) (Err e) fit f = record { new = s; stands = f.1; kept = refl; gives = record { goes_on = refl; said = ap (λ y. refusal_text y ∷ []) f.0; same = refl } }
  gave Mapped r fit f = absurd f

-- a command that is one steps as it gives, or finds no space
steps-as : (words : ℕ) (s : State) (p : Parsed) (quits : Bool) (replies : List (List ℕ)) (new : State) → is_nothing p.command ≡ false
    → Gives (step s p) s p.command quits replies new ⊎ LacksSpace may_of_tight words s p quits replies new → CommandStep may_of_tight words s p quits replies new
steps-as words s p quits replies new some k = at (is_nothing p.command) some
  where
    at : (b : Bool) → b ≡ false → MatchBool b (Skips s quits replies new) (Gives (step s p) s p.command quits replies new ⊎ LacksSpace may_of_tight words s p quits replies new)
    at true e = absurd (cc)
    at false e = k

module _ (words : ℕ) (s : State) (p : Parsed) (after : After) (some : is_nothing p.command ≡ false) (no_map : is_map p.command ≡ false) where
  pub acts-gave : (reply : Reply) → Gave s p (step s p) reply after → Acts words s p reply after
  acts-gave reply k = record {
    new = k.new;
    stands = k.stands;
    names = k.kept;
    steps = λ m. steps-as words s p (ends_script reply) (reply_lines reply (shown after k.new p.names)) k.new some (inl k.gives);
    maps = λ e m. absurd (cc);
  }

  pub acts-lacks : {A : Type 0} (say : A → Reply) (r : Result A Refusal) → Stays words s p r after.stands → Acts words s p (reply_of say r) after
  acts-lacks say (Ok a) st = absurd st
  acts-lacks say (Err e) st = record {
    new = s;
    stands = st.2;
    names = refl;
    steps = λ m. steps-as words s p false (refusal_text e ∷ []) s some
        (inr (record { allowed = st.0; no_map = no_map; refuses = record { goes_on = refl; said = ap (λ y. refusal_text y ∷ []) st.1; same = refl } }));
    maps = λ e m. absurd (cc);
  }

  -- a call that may find no space
  pub acts-becomes : {A : Type 0} (say : A → Reply) (r : Result A Refusal) → ((a : A) → r ≡ Ok a → Fitting after s p (say a) (step s p))
      → Becomes words s p r after.stands → Acts words s p (reply_of say r) after
  acts-becomes say r fit (inl f) = acts-gave (reply_of say r) (gave s p after say (step s p) r fit f)
  acts-becomes say r fit (inr st) = acts-lacks say r st

-- a call that is never refused
pub passes-follows : {A : Type 0} (o : Outcome) (s : State) (a : A) (Stands : State → Type 0) → Passes o Stands → Follows o s (Ok a) Stands
passes-follows (Accepted next reply) s a Stands h = h
passes-follows (IsRefused e) s a Stands h = h
passes-follows Mapped s a Stands h = h

-- a process that does not live is not found
pub not-found : {X : Type 0} (test : X → Bool) (xs : List X) → list_any test xs ≡ false → find test xs ≡ None
not-found test [] e = refl
not-found {X} test (x ∷ xs) e = at (test x) e (λ k. not-found test xs k)
  where
    at : (b : Bool) → (b || list_any test xs) ≡ false → (list_any test xs ≡ false → find test xs ≡ None) → cond b (Some x) (find test xs) ≡ None
    at true e k = absurd (cc)
    at false e k = k e

-- `pop` says `ok` where it is accepted
pop-fits : (after : After) (s : State) (p : Parsed) (q : Live) (r : ℕ) (stack : List Tree) → names_left Done s p ≡ p.names → is_quit p.command ≡ false → Fitting after s p Done (pop_from stack s p q r)
pop-fits after s p q r [] e g = tt
pop-fits after s p q r (t ∷ stack) e g = (refl, sym e, sym g)

-- so do `recv`
recv-fits : (after : After) (s : State) (p : Parsed) (q : Live) (r : ℕ) (queue : List Tree) → names_left Done s p ≡ p.names → is_quit p.command ≡ false
    → Fitting after s p Done (recv_from queue s p q r)
recv-fits after s p q r [] e g = tt
recv-fits after s p q r (t ∷ queue) e g = (refl, sym e, sym g)

-- and `send`
within-fits : (after : After) (s : State) (p : Parsed) (beyond : Bool) (n : ℕ) (t : Tree) → names_left Done s p ≡ p.names → is_quit p.command ≡ false
    → Fitting after s p Done (send_within beyond n t s p)
within-fits after s p true n t e g = tt
within-fits after s p false n t e g = (refl, sym e, sym g)

send-fits : (after : After) (s : State) (p : Parsed) (to : Option ℕ) (t : Tree) → names_left Done s p ≡ p.names → is_quit p.command ≡ false → Fitting after s p Done (send_to to t s p)
send-fits after s p None t e g = tt
send-fits after s p (Some n) t e g = within-fits after s p (is_beyond s.shared t) n t e g

-- `set` says it where its maps can be made
set-fits : (after : After) (s : State) (p : Parsed) (next : State) (o : Option Refusal) → next.names ≡ names_left Done s p → is_quit p.command ≡ false
    → Fitting after s p Done (unless_flawed o (Accepted next (codes "ok")))
set-fits after s p next None e g = (refl, e, sym g)
set-fits after s p next (Some x) e g = tt

-- so do the verbs that put a tree in a register
choose-fits : (after : After) (s : State) (p : Parsed) (q : Live) (r : ℕ) (o : Option Tree) → names_left Done s p ≡ p.names → is_quit p.command ≡ false → Fitting after s p Done (choose o s p q r)
choose-fits after s p q r None e g = tt
choose-fits after s p q r (Some t) e g = (refl, sym e, sym g)

fill-fits : (after : After) (s : State) (p : Parsed) (q : Live) (r : ℕ) (bad : Bool) (bytes : List ℕ) → names_left Done s p ≡ p.names → is_quit p.command ≡ false
    → Fitting after s p Done (fill_if bad bytes s p q r)
fill-fits after s p q r true bytes e g = tt
fill-fits after s p q r false bytes e g = (refl, sym e, sym g)

fun-fits : (after : After) (s : State) (p : Parsed) (q : Live) (r : ℕ) (bad : Bool) (t : Tree) → names_left Done s p ≡ p.names → is_quit p.command ≡ false
    → Fitting after s p Done (fun_if bad t s p q r)
fun-fits after s p q r true t e g = tt
fun-fits after s p q r false t e g = (refl, sym e, sym g)

repeat-fits : (after : After) (s : State) (p : Parsed) (q : Live) (r : ℕ) (many : Bool) (t : Tree) → names_left Done s p ≡ p.names → is_quit p.command ≡ false
    → Fitting after s p Done (repeat_if many t s p q r)
repeat-fits after s p q r true t e g = tt
repeat-fits after s p q r false t e g = (refl, sym e, sym g)

wide-fits : (after : After) (s : State) (p : Parsed) (q : Live) (r : ℕ) (wide : Bool) (ps : Pairs) → names_left Done s p ≡ p.names → is_quit p.command ≡ false
    → Fitting after s p Done (put_unless_wide wide ps s p q r)
wide-fits after s p q r true ps e g = tt
wide-fits after s p q r false ps e g = (refl, sym e, sym g)

big-fits : (after : After) (s : State) (p : Parsed) (q : Live) (r : ℕ) (big : Bool) (ps : Pairs) → names_left Done s p ≡ p.names → is_quit p.command ≡ false
    → Fitting after s p Done (put_unless_big big ps s p q r)
big-fits after s p q r true ps e g = tt
big-fits after s p q r false ps e g = wide-fits after s p q r (too_many ps) ps e g

put-fits : (after : After) (s : State) (p : Parsed) (q : Live) (r : ℕ) (o : Option Pairs) (k v : Tree) → names_left Done s p ≡ p.names → is_quit p.command ≡ false
    → Fitting after s p Done (put_into o k v s p q r)
put-fits after s p q r None k v e g = tt
put-fits after s p q r (Some ps) k v e g = big-fits after s p q r (is_beyond s.shared k) (put_pair p.names s.shared k v ps) e g

-- where the process is found or not
fits-in : (after : After) (s : State) (p : Parsed) (x : Reply) (verb : Verb) (o : Option Live) → ((q : Live) → Fitting after s p x (by_verb s p q verb)) → Fitting after s p x (in_process o s p verb)
fits-in after s p x verb None h = tt
fits-in after s p x verb (Some q) h = h q

module _ (words : ℕ) (number : ℕ) (names : List (List ℕ)) (code : List Item) (reply : Reply) (Old : State → Type 0) (after : After) where
  -- what is promised of a verb
  abbrev pub DoesVerb : Verb → Type 0
  DoesVerb verb = (s : State) (terms : Terms) → Old s → Fits (Process number verb) names code terms s → Acts words s (said (Process number verb) terms names) reply after

  pub does-same : (v w : Verb) → v ≡ w → DoesVerb w → DoesVerb v
  does-same v w e d = subst DoesVerb (sym e) d

  -- the call of a verb that may find no space, where its terms are of a kind
  pub fitting-does : {A : Type 0} (say : A → Reply) (verb : Verb) (r : Result A Refusal) → reply ≡ reply_of say r → is_map (Process number verb) ≡ false
      → ((s : State) (terms : Terms) (q : Live) (a : A) → Fitting after s (said (Process number verb) terms names) (say a) (by_verb s (said (Process number verb) terms names) q verb))
      → ((s : State) (terms : Terms) → Old s → HasNames s names → TermsFit (Process number verb) names code terms
      → Becomes words s (said (Process number verb) terms names) r after.stands)
      → DoesVerb verb
  fitting-does say verb r e no_map fit b = λ s terms h f.
      let p : Parsed = said (Process number verb) terms names in
      let P : Reply → Type 0 = λ x. Acts words s p x after in
      subst P (sym e) (acts-becomes words s p after refl no_map say r (λ a k. fits-in after s p (say a) verb (process_of number s) (λ q. fit s terms q a)) (b s terms h f.longer f.term))

  -- the same, whatever its terms are
  pub becomes-does : {A : Type 0} (say : A → Reply) (verb : Verb) (r : Result A Refusal) → reply ≡ reply_of say r → is_map (Process number verb) ≡ false
      → ((s : State) (terms : Terms) (q : Live) (a : A) → Fitting after s (said (Process number verb) terms names) (say a) (by_verb s (said (Process number verb) terms names) q verb))
      → ((s : State) (terms : Terms) → Old s → HasNames s names → Becomes words s (said (Process number verb) terms names) r after.stands)
      → DoesVerb verb
  becomes-does say verb r e no_map fit b = fitting-does say verb r e no_map fit (λ s terms h m t. b s terms h m)

  -- `set`, whose terms are those of the code
  pub set-does : {A : Type 0} (x : Reg) (r : Result A Refusal) → reply ≡ reply_of (λ (a : A). Done) r
      → ((s : State) (t : Term) → Old s → HasNames s names → IsWrittenTerm names code t → Becomes words s (said (Process number (Set x)) (one_term t) names) r after.stands)
      → DoesVerb (Set x)
  set-does {A} x r e b = λ s terms h f.
      let t : Term = f.term.0 in
      let p : Parsed = said (Process number (Set x)) (one_term t) names in
      let P : Terms → Type 0 = λ z. Acts words s (said (Process number (Set x)) z names) reply after in
      let Q : Reply → Type 0 = λ y. Acts words s p y after in
      let fit = λ (q : Live). set-fits after s p (settled p (with_made s q x.0 (written_tree s p q p.terms))) (written_flaw s p q p.terms) refl refl in
      subst P (sym (f.term.1))
      (subst Q (sym e) (acts-becomes words s p after refl refl (λ (a : A). Done) r (λ a k. fits-in after s p Done (Set x) (process_of number s) fit) (b s t h f.longer (f.term.2))))

  -- the call of a verb that is never refused
  pub passes-does : (verb : Verb) → reply ≡ Done → is_map (Process number verb) ≡ false
      → ((s : State) (terms : Terms) (q : Live) → Fitting after s (said (Process number verb) terms names) Done (by_verb s (said (Process number verb) terms names) q verb))
      → ((s : State) (terms : Terms) → Old s → HasNames s names → Passes (step s (said (Process number verb) terms names)) after.stands)
      → DoesVerb verb
  passes-does verb e no_map fit b =
      let r : Result (Unit {0}) Refusal = Ok tt in
      becomes-does (λ (u : Unit {0}). Done) verb r e no_map (λ s terms q a. fit s terms q)
      (λ s terms h m. inl (passes-follows (step s (said (Process number verb) terms names)) s tt after.stands (b s terms h m)))

  -- `pop`, which asks for no space
  pub pop-does : {A : Type 0} (x : Reg) (r : Result A Refusal) → reply ≡ reply_of (λ (a : A). Done) r
      → ((s : State) (terms : Terms) → Old s → HasNames s names → Follows (step s (said (Process number (Pop x)) terms names)) s r after.stands)
      → DoesVerb (Pop x)
  pop-does {A} x r e b = becomes-does (λ (a : A). Done) (Pop x) r e refl
      (λ s terms q a. pop-fits after s (said (Process number (Pop x)) terms names) q x.0 q.stack refl refl) (λ s terms h m. inl (b s terms h m))

  -- `recv`, which asks for none either
  pub recv-does : {A : Type 0} (x : Reg) (r : Result A Refusal) → reply ≡ reply_of (λ (a : A). Done) r
      → ((s : State) (terms : Terms) → Old s → HasNames s names → Follows (step s (said (Process number (Recv x)) terms names)) s r after.stands)
      → DoesVerb (Recv x)
  recv-does {A} x r e b = becomes-does (λ (a : A). Done) (Recv x) r e refl
      (λ s terms q a. recv-fits after s (said (Process number (Recv x)) terms names) q x.0 q.queue refl refl) (λ s terms h m. inl (b s terms h m))

  -- `send`
  pub send-does : {A : Type 0} (x : Reg) (to : To) (r : Result A Refusal) → reply ≡ reply_of (λ (a : A). Done) r
      → ((s : State) (terms : Terms) → Old s → HasNames s names → Becomes words s (said (Process number (Send x to)) terms names) r after.stands)
      → DoesVerb (Send x to)
  send-does {A} x to r e b = becomes-does (λ (a : A). Done) (Send x to) r e refl
      (λ s terms q a. send-fits after s (said (Process number (Send x to)) terms names) (receiver to q) (register x.0 q) refl refl) b

  -- the verbs that put a tree in a register
  pub pick-does : {A : Type 0} (x m : Reg) (how : Pick) (r : Result A Refusal) → reply ≡ reply_of (λ (a : A). Done) r
      → ((s : State) (terms : Terms) → Old s → HasNames s names → Becomes words s (said (Process number (Choose x m how)) terms names) r after.stands)
      → DoesVerb (Choose x m how)
  pick-does {A} x m how r e b = becomes-does (λ (a : A). Done) (Choose x m how) r e refl
      (λ s terms q a. choose-fits after s (said (Process number (Choose x m how)) terms names) q x.0 (picked names s.shared q how (register m.0 q)) refl refl) b

  pub fill-does : {A : Type 0} (x : Reg) (len byte : ℕ) (r : Result A Refusal) → reply ≡ reply_of (λ (a : A). Done) r
      → ((s : State) (terms : Terms) → Old s → HasNames s names → Becomes words s (said (Process number (Fill x len byte)) terms names) r after.stands)
      → DoesVerb (Fill x len byte)
  fill-does {A} x len byte r e b = becomes-does (λ (a : A). Done) (Fill x len byte) r e refl
      (λ s terms q a. fill-fits after s (said (Process number (Fill x len byte)) terms names) q x.0 (nat_lt MOST_FILL len || nat_lt MOST_BYTE byte) (replicate len byte) refl refl) b

  pub fun-does : {A : Type 0} (x : Reg) (name arity : ℕ) (r : Result A Refusal) → reply ≡ reply_of (λ (a : A). Done) r
      → ((s : State) (terms : Terms) → Old s → HasNames s names → HasEnv names name code terms
      → Becomes words s (said (Process number (MakeFun x name arity)) terms names) r after.stands)
      → DoesVerb (MakeFun x name arity)
  fun-does {A} x name arity r e b = fitting-does (λ (a : A). Done) (MakeFun x name arity) r e refl
      (λ s terms q a. let p : Parsed = said (Process number (MakeFun x name arity)) terms names in
      fun-fits after s p q x.0 (nat_lt MOST_ARITY arity) (tree.Fun name arity q.number (env_of s p q)) refl refl) b

  pub put-does : {A : Type 0} (x m k v : Reg) (r : Result A Refusal) → reply ≡ reply_of (λ (a : A). Done) r
      → ((s : State) (terms : Terms) → Old s → HasNames s names → Becomes words s (said (Process number (MapPut x m k v)) terms names) r after.stands)
      → DoesVerb (MapPut x m k v)
  put-does {A} x m k v r e b = becomes-does (λ (a : A). Done) (MapPut x m k v) r e refl
      (λ s terms q a. put-fits after s (said (Process number (MapPut x m k v)) terms names) q x.0 (pairs_in (register m.0 q)) (register k.0 q) (register v.0 q) refl refl) b

  pub repeat-does : {A : Type 0} (x m : Reg) (shape : Shape) (n : ℕ) (r : Result A Refusal) → reply ≡ reply_of (λ (a : A). Done) r
      → ((s : State) (terms : Terms) → Old s → HasNames s names → Becomes words s (said (Process number (Repeat x shape n m)) terms names) r after.stands)
      → DoesVerb (Repeat x shape n m)
  repeat-does {A} x m shape n r e b = becomes-does (λ (a : A). Done) (Repeat x shape n m) r e refl
      (λ s terms q a. repeat-fits after s (said (Process number (Repeat x shape n m)) terms names) q x.0 (nat_lt MOST_PLACES n) (repeated shape n (register m.0 q)) refl refl) b

  -- a process that does not live
  pub noproc-does : (verb : Verb) → reply ≡ Refused NoProc → ((s : State) → Old s → after.stands s) → ((s : State) → Old s → is_live number s ≡ false) → DoesVerb verb
  noproc-does verb e same dead = λ s terms h f.
      let p : Parsed = said (Process number verb) terms names in
      let none : step s p ≡ IsRefused NoProc = ap (λ o. in_process o s p verb) (not-found _ s.processes (dead s h)) in
      let P : Reply → Type 0 = λ x. Acts words s p x after in
      let Q : Outcome → Type 0 = λ o. Gives o s (Process number verb) false (refusal_text NoProc ∷ []) s in
      subst P (sym e) (record {
        new = s;
        stands = same s h;
        names = refl;
        steps = λ m. inl (subst Q (sym none) (record { goes_on = refl; said = refl; same = refl }));
        maps = λ k m. absurd (cc);
      })

-- the reply to what a verb's call answered
pub done-acts : {A : Type 0} (words : ℕ) (number : ℕ) (names : List (List ℕ)) (code : List Item) (Old : State → Type 0) (after : After) (verb : Verb) (reply : Reply)
    (r : Result A Refusal) → reply ≡ reply_of (λ (a : A). Done) r → DoesVerb words number names code (reply_of (λ (a : A). Done) r) Old after verb
    → DoesVerb words number names code reply Old after verb
done-acts words number names code Old after verb reply r e d = subst (λ x. DoesVerb words number names code x Old after verb) (sym e) d

-- what is told of a process is no map of its store, and changes nothing
telling-prints : (t : Telling) → is_printing_verb (telling_verb t) ≡ true
telling-prints (Text r) = refl
telling-prints (Compared Equality a b) = refl
telling-prints (Compared Order a b) = refl
telling-prints (TellsFlat r) = refl
telling-prints TellsQueue = refl

telling-no-map : (n : ℕ) (t : Telling) → is_map (Process n (telling_verb t)) ≡ false
telling-no-map n (Text r) = refl
telling-no-map n (Compared Equality a b) = refl
telling-no-map n (Compared Order a b) = refl
telling-no-map n (TellsFlat r) = refl
telling-no-map n TellsQueue = refl

verb-tells : (s : State) (p : Parsed) (q : Live) (t : Telling) → by_verb s p q (telling_verb t) ≡ tells s (told_of s p q (telling_verb t))
verb-tells s p q (Text r) = refl
verb-tells s p q (Compared Equality a b) = refl
verb-tells s p q (Compared Order a b) = refl
verb-tells s p q (TellsFlat r) = refl
verb-tells s p q TellsQueue = refl

-- it does not depend on the line's terms
terms-untold : (s : State) (c : Command) (terms : Terms) (names : List (List ℕ)) (q : Live) (v : Verb) → told_of s (said c terms names) q v ≡ told_of s (said c end names) q v
terms-untold s c terms names q (Print r) = refl
terms-untold s c terms names q (Eq a b) = refl
terms-untold s c terms names q (Cmp a b) = refl
terms-untold s c terms names q (Flat r) = refl
terms-untold s c terms names q Queue = refl
terms-untold s c terms names q _ = refl

told-gives : (s : State) (c : Command) (r : Result (List ℕ) Refusal) → is_quit c ≡ false → Gives (tells s r) s c false (outcome_text (tells s r) ∷ []) s
told-gives s c (Ok t) e = record { ends = sym e; said = refl; is = refl }
told-gives s c (Err x) e = record { goes_on = refl; said = refl; same = refl }

-- what is told, which leaves the space
pub told-does : (words : ℕ) (seat : Seat) (names : List (List ℕ)) (code : List Item) (after : After) (t : Telling)
    → DoesVerb words seat.pid names code (Told seat t) after.stands after (telling_verb t)
told-does words seat names code after t = λ s terms h f. record {
  new = s;
  stands = h;
  names = ap (λ b. cond b s.names names) (sym (telling-prints t));
  steps = λ m. inl (gives s terms (process_of seat.pid s));
  maps = λ k m. absurd (both_ways (is_map (Process seat.pid (telling_verb t))) (telling-no-map seat.pid t) k);
}
  where
    gives : (s : State) (terms : Terms) (o : Option Live) → Gives (in_process o s (said (Process seat.pid (telling_verb t)) terms names) (telling_verb t)) s (Process seat.pid (telling_verb t)) false
        (outcome_text (in_process o s (said (Process seat.pid (telling_verb t)) end names) (telling_verb t)) ∷ []) s
    gives s terms None = record { goes_on = refl; said = refl; same = refl }
    gives s terms (Some q) =
        let c : Command = Process seat.pid (telling_verb t) in
        let P : Outcome → Type 0 = λ o. Gives o s c false (outcome_text (by_verb s (said c end names) q (telling_verb t)) ∷ []) s in
        let Q : Outcome → Type 0 = λ o. Gives (tells s (told_of s (said c terms names) q (telling_verb t))) s c false (outcome_text o ∷ []) s in
        let same : by_verb s (said c end names) q (telling_verb t) ≡ tells s (told_of s (said c terms names) q (telling_verb t)) =
        verb-tells s (said c end names) q t ∙ ap (tells s) (sym (terms-untold s c terms names q (telling_verb t))) in
        subst P (sym (verb-tells s (said c terms names) q t))
        (subst Q (sym same) (told-gives s c (told_of s (said c terms names) q (telling_verb t)) refl))

-- the books of a call bring the bound of the names
pub keeps-more : {S : Type 0} {words calls named : S → ℕ} {old new : S} {few : ℕ} (more : ℕ) → few ≤ more → KeepsBooks words calls named old new few
    → KeepsBooks words calls named old new more
keeps-more more h b = record { same_words = b.same_words; one_call = b.one_call; few_names = omega (arith, b.few_names, h) }

-- what holds holds at a refusal
pub on-err : {A P : Type 0} (r : Result A Refusal) → P → OnErr r P
on-err (Ok a) p = tt
on-err (Err e) p = p

-- what is not said of a refusal is said of the reply to a call's answer
pub said-refused : {A : Type 0} (say : A → Reply) (P : Type 0) (reply : Reply) (r : Result A Refusal) → reply ≡ reply_of say r → ((a : A) → OnRefused (say a) P) → OnErr r P → OnRefused reply P
said-refused {A} say P reply r e ok h = subst (λ x. OnRefused x P) (sym e) (at r h)
  where
    at : (r : Result A Refusal) → OnErr r P → OnRefused (reply_of say r) P
    at (Ok a) h = ok a
    at (Err x) h = h

pub said-can : {A S : Type 0} (say : A → Reply) (sits : S → Seat → Type 0) (named : S → ℕ) (space : S) (names : List (List ℕ)) (reply : Reply) (r : Result A Refusal)
    → reply ≡ reply_of say r → ((a : A) → CanReply sits named space names (say a)) → CanReply sits named space names reply
said-can {A} say sits named space names reply r e ok = subst (CanReply sits named space names) (sym e) (at r)
  where
    at : (r : Result A Refusal) → CanReply sits named space names (reply_of say r)
    at (Ok a) = ok a
    at (Err x) = tt

module _ (words : ℕ) (names : List (List ℕ)) (code : List Item) (reply : Reply) (Old : State → Type 0) (after : After) where
  -- what is promised of a command
  abbrev pub DoesCommand : Command → Type 0
  DoesCommand c = (s : State) (terms : Terms) → Old s → Fits c names code terms s → Acts words s (said c terms names) reply after

  pub command-same : (c d : Command) → c ≡ d → DoesCommand d → DoesCommand c
  command-same c d e h = subst DoesCommand (sym e) h

-- `spawn`, whose reply is the number
spawned-fits : (after : After) (s : State) (terms : Terms) (names : List (List ℕ)) (full : Bool) (n : ℕ) → n ≡ s.next
    → Fitting after s (said (System Spawn) terms names) (Spawned n) (spawn_if full s (said (System Spawn) terms names))
spawned-fits after s terms names true n e = tt
spawned-fits after s terms names false n e = (ap (λ y. (codes "ok " ++ decimal y) ∷ []) e, refl, refl)

pub spawn-does : (words : ℕ) (names : List (List ℕ)) (code : List Item) (reply : Reply) (Old : State → Type 0) (after : After) (r : Result ℕ Refusal)
    → reply ≡ reply_of Spawned r → ((s : State) → Old s → IfOk r (λ n. n ≡ s.next))
    → ((s : State) (terms : Terms) → Old s → HasNames s names → Becomes words s (said (System Spawn) terms names) r after.stands)
    → DoesCommand words names code reply Old after (System Spawn)
spawn-does words names code reply Old after r e next b = λ s terms h f.
    let p : Parsed = said (System Spawn) terms names in
    let P : Reply → Type 0 = λ x. Acts words s p x after in
    subst P (sym e) (acts-becomes words s p after refl refl Spawned r
    (λ n k. spawned-fits after s terms names (nat_le MOST_PROCESSES (length s.processes)) n (number s n k (next s h))) (b s terms h f.longer))
  where
    number : (s : State) (n : ℕ) → r ≡ Ok n → IfOk r (λ n. n ≡ s.next) → n ≡ s.next
    number s n k h = let P : Result ℕ Refusal → Type 0 = λ z. IfOk z (λ n. n ≡ s.next) in subst P k h

-- `sys sweep`
pub sweep-does : (words : ℕ) (names : List (List ℕ)) (code : List Item) (Old : State → Type 0) (after : After)
    → ((s : State) (terms : Terms) → Old s → HasNames s names → Passes (step s (said (System Sweep) terms names)) after.stands)
    → DoesCommand words names code Done Old after (System Sweep)
sweep-does words names code Old after b = λ s terms h f.
    let p : Parsed = said (System Sweep) terms names in
    let u : Unit {0} = tt in
    acts-gave words s p after refl refl Done
    (gave s p after (λ (a : Unit {0}). Done) (step s p) (Ok u) (λ a k. (refl, refl, refl)) (passes-follows (step s p) s u after.stands (b s terms h f.longer)))

-- a map line, whose reply is the text of the store
pub map-does : (words : ℕ) (names : List (List ℕ)) (code : List Item) (Old : State → Type 0) (after : After)
    → ((s : State) → Old s → after.stands s) → DoesCommand words names code (Map counts) Old after (System CountsVerb)
map-does words names code Old after same = λ s terms h f. record {
  new = s;
  stands = same s h;
  names = refl;
  steps = λ m. inl (record { goes_on = refl; map = after.text (System CountsVerb); allowed = m; said = refl; same = refl });
  maps = λ e o. refl;
}

-- what prints and is no map of the store
pub procs-does : (words : ℕ) (names : List (List ℕ)) (code : List Item) (Old : State → Type 0) (after : After) → ((s : State) → Old s → after.stands s)
    → DoesCommand words names code Numbers Old after (System Procs)
procs-does words names code Old after same = λ s terms h f. record {
  new = s;
  stands = same s h;
  names = refl;
  steps = λ m. inl (record { ends = refl; said = refl; is = refl });
  maps = λ e o. absurd (cc);
}

pub quit-does : (words : ℕ) (names : List (List ℕ)) (code : List Item) (Old : State → Type 0) (after : After) → ((s : State) → Old s → after.stands s)
    → DoesCommand words names code Quit Old after (System QuitVerb)
quit-does words names code Old after same = λ s terms h f. record {
  new = s;
  stands = same s h;
  names = refl;
  steps = λ m. inl (record { ends = refl; said = refl; is = refl });
  maps = λ e o. absurd (cc);
}

-- a line without a command
pub nothing-does : (words : ℕ) (names : List (List ℕ)) (code : List Item) (Old : State → Type 0) (after : After) → ((s : State) → Old s → after.stands s)
    → DoesCommand words names code NoReply Old after NoCommand
nothing-does words names code Old after same = λ s terms h f. record {
  new = s;
  stands = same s h;
  names = refl;
  steps = λ m. record { goes_on = refl; said = refl; same = refl };
  maps = λ e o. absurd (cc);
}

-- a verb of the process that was found
pub found-does : (words : ℕ) (m n : ℕ) (names : List (List ℕ)) (code : List Item) (reply : Reply) (Old : State → Type 0) (after : After) (verb : Verb)
    → m ≡ n → DoesVerb words m names code reply Old after verb → DoesVerb words n names code reply Old after verb
found-does words m n names code reply Old after verb e d = subst (λ k. DoesVerb words k names code reply Old after verb) e d
