-- What a verb that prints writes.
use Rattle.std.proofs.Common.{◌≡◌, ℕ, true, false, List, [], ◌∷◌, Result, Ok, Err, refl, sym, ap, subst, ◌∙◌}
use Rattle.std.proofs.lemmas.Bool.{true≢false}
use Rattle.script_grammar.specs.declared.refusal.Refusal.{Refusal}
use Rattle.script_grammar.specs.declared.refusal.Refusal.TheVariants.{Big as TooBig}
use Rattle.space_api.specs.declared.space.Stop.{Stop}
use Rattle.space_api.specs.declared.space.Stop.TheVariants.{Big, Fault}
use Rattle.plain_machine.specs.State.{State}
use Rattle.plain_machine.specs.Step.{Outcome, step, eq_text, cmp_text}
use Rattle.plain_machine.specs.Step.Outcome.{Accepted, Refused, Mapped}
use Rattle.plain_machine.specs.Run.{refusal_text, replies_text}
use Rattle.space_api.specs.Calls.{Prints, Tells, WritesReply, said}
use Rattle.line_io.specs.Sink.{GrewInPart, WritesTold}
use Rattle.engine.specs.declared.reply.Asked.{Asked}
use Rattle.engine.specs.declared.reply.Asked.TheVariants.{Equality, Order}
use Rattle.engine.specs.Writing.{compared_text, compares, end_of_line}
use Rattle.std.specs.declared.cmp.Ordering.{Ordering}
use Rattle.script_grammar.specs.declared.command.Command.TheVariants.{Process}
use Rattle.script_grammar.specs.declared.command.Reg.{Reg}
use Rattle.engine.specs.declared.reply.Telling.{Telling}
use Rattle.script_grammar.specs.declared.command.Verb.TheVariants.{Eq, Cmp}
use Rattle.script_grammar.specs.Names.{HasRegisters, IsRegister}
use Rattle.script_grammar.specs.Written.Terms.{end}
use Rattle.space_api.specs.declared.space.Seat.{Seat}
use Rattle.engine.specs.declared.reply.Reply.{Reply}
use Rattle.engine.specs.declared.reply.Reply.TheVariants.{Map, Told, Quit}
use Rattle.engine.specs.Replies.{AllowsMap, Shown, ends_script, is_plain, outcome_text, reply_lines}
use Rattle.line_io.proofs.Growth.{part-front}
use Rattle.text_parts.proofs.Writing.{written-after, written-as}

-- the text was printed, and then the line's end
pub text-line : {A E K : Type 0} (wrote : K → List ℕ → Type 0) (faults : K → ℕ) (old mid new : K) (o : Outcome) (a : A) (r : Result (Unit {0}) E)
    → Prints o wrote old mid (Ok a) → faults mid ≡ faults old → WritesTold wrote faults mid new (10 ∷ []) r → WritesTold wrote faults old new (end_of_line (outcome_text o)) r
text-line wrote faults old mid new (Accepted next reply) a r p told w = written-after wrote faults old mid new reply (10 ∷ []) r p told w
text-line wrote faults old mid new (Refused e) a r p told w = absurd p
text-line wrote faults old mid new Mapped a r p told w = absurd p

-- the messages were written, and then the line's end
pub queue-line : {A E K : Type 0} (F : Type 0) (wrote : K → List ℕ → Type 0) (faults : K → ℕ) (old mid new : K) (o : Outcome) (a : A) (r : Result (Unit {0}) E)
    → WritesReply {A = A} {E = F} o wrote old mid (Ok a) → faults mid ≡ faults old → WritesTold wrote faults mid new (10 ∷ []) r
    → WritesTold wrote faults old new (end_of_line (outcome_text o)) r
queue-line F wrote faults old mid new (Accepted next reply) a r p told w = written-after wrote faults old mid new reply (10 ∷ []) r p told w
queue-line F wrote faults old mid new (Refused e) a r p told w = absurd p
queue-line F wrote faults old mid new Mapped a r p told w = absurd p

-- what a call tells is the machine's reply
pub told-text : {A : Type 0} (o : Outcome) (text : A → List ℕ) (a : A) → Tells o text (Ok a) → outcome_text o ≡ text a
told-text (Accepted next reply) text a t = t
told-text (Refused e) text a t = absurd t
told-text Mapped text a t = absurd t

pub told-refusal : {A : Type 0} (o : Outcome) (text : A → List ℕ) (e : Refusal) → Tells o text (Err e) → outcome_text o ≡ refusal_text e
told-refusal (Accepted next reply) text e t = absurd t
told-refusal (Refused x) text e t = ap refusal_text (sym t)
told-refusal Mapped text e t = absurd t

-- the line of what a call tells
pub told-line : {A E K : Type 0} (wrote : K → List ℕ → Type 0) (faults : K → ℕ) (old new : K) (o : Outcome) (text : A → List ℕ) (a : A) (line : List ℕ) (r : Result (Unit {0}) E)
    → Tells o text (Ok a) → line ≡ text a → WritesTold wrote faults old new (end_of_line line) r → WritesTold wrote faults old new (end_of_line (outcome_text o)) r
told-line wrote faults old new o text a line r t e w = written-as wrote faults old new (end_of_line line) (end_of_line (outcome_text o)) r (ap end_of_line (e ∙ sym (told-text o text a t))) w

-- the line of a call that is refused
pub refused-line : {A E K : Type 0} (wrote : K → List ℕ → Type 0) (faults : K → ℕ) (old new : K) (o : Outcome) (text : A → List ℕ) (e : Refusal) (r : Result (Unit {0}) E)
    → Tells o text (Err e) → WritesTold wrote faults old new (end_of_line (refusal_text e)) r → WritesTold wrote faults old new (end_of_line (outcome_text o)) r
refused-line wrote faults old new o text e r t w =
    written-as wrote faults old new (end_of_line (refusal_text e)) (end_of_line (outcome_text o)) r (ap end_of_line (sym (told-refusal o text e t))) w

-- nothing was printed of a text beyond the walk limit, and the refusal's line was written
pub big-line : {E K : Type 0} (A : Type 0) (wrote : K → List ℕ → Type 0) (faults : K → ℕ) (old mid new : K) (o : Outcome) (x : Stop) (r : Result (Unit {0}) E) → x ≡ Big → mid ≡ old
    → Prints {A = A} o wrote old mid (Err x) → WritesTold wrote faults mid new (end_of_line (refusal_text TooBig)) r → WritesTold wrote faults old new (end_of_line (outcome_text o)) r
big-line A wrote faults old mid new (Accepted next reply) x r is same p w = absurd (subst (λ y. Prints {A = A} (Accepted next reply) wrote old mid (Err y)) is p)
big-line A wrote faults old mid new (Refused e) x r is same p w =
    let big : e ≡ TooBig = subst (λ y. Prints {A = A} (Refused e) wrote old mid (Err y)) is p in
    written-as wrote faults old new (end_of_line (refusal_text TooBig)) (end_of_line (refusal_text e)) r (ap (λ y. end_of_line (refusal_text y)) (sym big))
    (subst (λ k. WritesTold wrote faults k new (end_of_line (refusal_text TooBig)) r) same w)
big-line A wrote faults old mid new Mapped x r is same p w = absurd p

-- the text was not printed to its end
pub text-stopped : {K : Type 0} (A : Type 0) (wrote : K → List ℕ → Type 0) (old new : K) (o : Outcome) (x : Stop) → x ≡ Fault → Prints {A = A} o wrote old new (Err x)
    → GrewInPart wrote old new (end_of_line (outcome_text o))
text-stopped A wrote old new (Accepted next reply) x is p = part-front wrote old new reply (10 ∷ []) (subst (λ y. Prints {A = A} (Accepted next reply) wrote old new (Err y)) is p)
text-stopped A wrote old new (Refused e) x is p = absurd (subst (λ y. Prints {A = A} (Refused e) wrote old new (Err y)) is p)
text-stopped A wrote old new Mapped x is p = absurd p

-- the messages were not written to their end
pub queue-stopped : {K : Type 0} (A F : Type 0) (wrote : K → List ℕ → Type 0) (old new : K) (o : Outcome) (e : F) → WritesReply {A = A} {E = F} o wrote old new (Err e)
    → GrewInPart wrote old new (end_of_line (outcome_text o))
queue-stopped A F wrote old new (Accepted next reply) e p = part-front wrote old new reply (10 ∷ []) p
queue-stopped A F wrote old new (Refused x) e p = absurd p
queue-stopped A F wrote old new Mapped e p = absurd p

-- what the reply in hand writes
pub reply-same : {E K : Type 0} (wrote : K → List ℕ → Type 0) (faults : K → ℕ) (old new : K) (r : Result (Unit {0}) E) (y z : Reply) (x : Shown) → y ≡ z
    → WritesTold wrote faults old new (replies_text (reply_lines z x)) r → WritesTold wrote faults old new (replies_text (reply_lines y x)) r
reply-same wrote faults old new r y z x e h =
    written-as wrote faults old new (replies_text (reply_lines z x)) (replies_text (reply_lines y x)) r (ap (λ k. replies_text (reply_lines k x)) (sym e)) h

-- what is told in hand
pub told-verb : {E K : Type 0} (wrote : K → List ℕ → Type 0) (faults : K → ℕ) (old new : K) (r : Result (Unit {0}) E) (seat : Seat) (v w : Telling) (x : Shown) → v ≡ w
    → WritesTold wrote faults old new (replies_text (reply_lines (Told seat w) x)) r → WritesTold wrote faults old new (replies_text (reply_lines (Told seat v) x)) r
told-verb wrote faults old new r seat v w x e h = reply-same wrote faults old new r (Told seat v) (Told seat w) x (ap (Told seat) e) h

pub allows-same : (y z : Reply) (x : Shown) → y ≡ z → AllowsMap z x → AllowsMap y x
allows-same y z x e h = subst (λ k. AllowsMap k x) (sym e) h

-- a reply that is made without a look at the space tells no map
pub plain-allows : (y : Reply) (x : Shown) → is_plain y ≡ true → AllowsMap y x
plain-allows (Map line) x e = absurd (true≢false (sym e))
plain-allows _ x e = tt

-- the registers that are compared are a process's
pub compared-registers : (asked : Asked) (a b : Reg) → HasRegisters (compares asked a b) → IsRegister a × IsRegister b
compared-registers Equality a b h = h
compared-registers Order a b h = h

-- what comparing tells, of the two verbs that do
pub compared-tells : (s : State) (pid : ℕ) (names : List (List ℕ)) (asked : Asked) (a b : Reg) (r : Result Ordering Refusal)
    → Tells (step s (said (Process pid (Eq a b)) end names)) eq_text r → Tells (step s (said (Process pid (Cmp a b)) end names)) cmp_text r
    → Tells (step s (said (Process pid (compares asked a b)) end names)) (compared_text asked) r
compared-tells s pid names Equality a b r eq cmp = eq
compared-tells s pid names Order a b r eq cmp = cmp

-- a reply that is not to `sys quit` does not end the script
pub goes-on : (y : Reply) → (y ≡ Quit → ⊥) → ends_script y ≡ false
goes-on Quit n = absurd (n refl)
goes-on _ n = refl
