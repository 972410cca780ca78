-- What a process's own line does and answers is, by name, a function of the process by name.
use Rattle.std.proofs.Common.{◌≡◌, ℕ, zero, suc, ◌+◌, ◌<◌, length, ◌==◌, Bool, true, false, cond, ◌||◌, nat_lt, List, [], ◌∷◌, ◌++◌, map, replicate, codes, decimal, Option, Some, None, Result, Ok, Err, refl, sym, ap, subst, ◌∙◌}
use Rattle.std.specs.Prelude.{option_map}
use Rattle.std.proofs.lemmas.List.{map-set, map-append}
use Rattle.std.specs.declared.cmp.Ordering.{Ordering}
use Rattle.term_tags.specs.declared.layouts.TheConstants.{MOST_KEYS}
use Rattle.plain_term.specs.Tree.{Tree, Trees, Pairs}
use Rattle.plain_term.specs.Tree.{Tree as tree}
use Rattle.plain_term.specs.Beyond.{is_beyond}
use Rattle.plain_term.specs.Measures.{flat}
use Rattle.plain_term.specs.Order.{order, name_of}
use Rattle.plain_term.specs.InOrder.{put_pair}
use Rattle.plain_term.specs.Text.{text}
use Rattle.script_grammar.specs.declared.command.Pick.{Pick}
use Rattle.script_grammar.specs.declared.command.Pick.TheVariants as pick
use Rattle.script_grammar.specs.declared.command.Shape.{Shape}
use Rattle.script_grammar.specs.declared.command.Shape.TheVariants as shape
use Rattle.script_grammar.specs.declared.command.To.{To}
use Rattle.script_grammar.specs.declared.command.To.TheVariants.{Number, Held}
use Rattle.script_grammar.specs.declared.refusal.Refusal.{Refusal}
use Rattle.script_grammar.specs.declared.refusal.Refusal.TheVariants.{NoProc, BadArg, Empty, Big, MapSize, NoArea, Syntax}
use Rattle.script_grammar.specs.declared.word.Word.{Word}
use Rattle.script_grammar.specs.declared.word.Word.TheVariants as word
use Rattle.script_grammar.specs.Written.{Term, Terms, Operands, kinds_of, Written}
use Rattle.script_grammar.specs.Written.Written.{OfProcess}
use Rattle.script_grammar.specs.Written.Terms.{end, ◌▹◌}
use Rattle.script_grammar.specs.Names.{Parsed, held_terms, reg, number_of, atoms_of, operands_atoms, all_atoms, operands_terms, verb_of, names_after, parsed_of}
use Rattle.plain_machine.specs.declared.limits.TheConstants.{MOST_PLACES, MOST_FILL, MOST_ARITY, MOST_BYTE}
use Rattle.plain_machine.specs.State.{Process as Live, State, Area, process_of, area_with, register, with_register, with_process, with_queued, without_process}
use Rattle.plain_machine.specs.Made.{tree_of, trees_of_terms, bin_tree, too_many}
use Rattle.plain_machine.specs.Flaws.{is_wide, is_big, flaw_of}
use Rattle.plain_machine.specs.Parts.{picked, pairs_in, repeated}
use Rattle.plain_machine.specs.Tightness.{pid_number, receiver}
use Rattle.plain_machine.specs.Texts.{divided}
use Rattle.plain_machine.specs.Step.{Outcome, does, unless_flawed, choose, literal_at, literal_of, lit_from, put_unless_wide, put_unless_big, put_into, fill_if, fun_if, repeat_if, pop_from, send_within, send_to, recv_from, tells, unless_beyond, eq_text, cmp_text, by_verb, in_process, step, with_made, written_tree, written_flaw, env_of}
use Rattle.plain_machine.specs.Step.Outcome.{Refused}
use Rattle.script_grammar.proofs.Naming.{IsPlaced, ArePlaced, placed-front, number-below, with-names-more, with-names-placed}
use Rattle.plain_machine.proofs.Properly.Making.{Extends, extends-none, bin-more, made-more}
use Rattle.plain_machine.proofs.Properly.Living.{joined-end}
use Rattle.isolation.specs.Named.NamedTree.{NamedTree, as_named, all_as_named, pairs_as_named, IsKnown, AreKnown, PairsKnown}
use Rattle.isolation.specs.Named.NamedTree.{NamedTree as by_name}
use Rattle.isolation.specs.Named.Seen.{named_beyond, named_flat, named_text, pairs_count}
use Rattle.isolation.specs.Named.Doing.{named_picked, named_put, named_repeated, named_bin, named_made, all_named_made}
use Rattle.isolation.specs.Named.Laws.{AllKnown, HaveNames, MadeOf}
use Rattle.isolation.proofs.Named.Seeing.{beyond-seen, seen, pairs-seen, order-seen}
use Rattle.isolation.proofs.Named.Doing.{done, at-by}
use Rattle.isolation.proofs.Named.Making.{made, at-known, put-known, bin-made, BinMade, held-known-more, held-same-more}
use Rattle.isolation.proofs.Named.Growing.{held-grown, held-known-grown}
use Rattle.isolation.proofs.Named.Entering.{name-placed, have-names}
use Rattle.isolation.proofs.Named.Parts.{IfKnown as IfTree, picked-known, repeated-known, env-known, env-by, set-known, join-known}
use Rattle.isolation.proofs.Finding.{found, found-put, found-queued, found-gone, found-number}
use Rattle.isolation.proofs.Areas.{NamedArea, area_named, areas_named, KnownAreas, AreasKnown, area_by, areas-grown, found-by, found-known}
use Rattle.isolation.proofs.ByName.{lit_named, NamedProcess, process_named, KnownProcess, IfKnown, lives_named, IsKnownIn, NamedOutcome, outcome_named, KnownAfter, in_register, to_register, goes, unless_named, set_named, chosen_named, pairs_of_named, unless_wide_named, unless_big_named, pair_named, made_if_named, pop_named, recv_named, number_of_named, receiver_named, queued_named, within_named, send_named, tell_named, order_named, verb_named, line_named}
use Rattle.isolation.proofs.ByName.NamedOutcome.{Goes, Stays}

-- an outcome is so by name for a process, and leaves it known
pub record OwnStep (n : ℕ) (o : Outcome) (x : NamedOutcome) : Type 0 where
  pub same : outcome_named n o ≡ x
  pub known : KnownAfter n o

pub own-as : (n : ℕ) (o : Outcome) (x y : NamedOutcome) → OwnStep n o x → x ≡ y → OwnStep n o y
own-as n o x y h e = record { same = h.same ∙ e; known = h.known }

own-refused : (n : ℕ) (r : Refusal) → OwnStep n (Refused r) (Stays r)
own-refused n r = record { same = refl; known = tt }

-- a process that just got a tree in a register
registers-named : (names shared : List (List ℕ)) (q : Live) (r : ℕ) (t : Tree) → process_named names shared (with_register r t q)
    ≡ to_register r (as_named names shared t) (process_named names shared q)
registers-named names shared q r t =
    let f : List NamedTree → NamedProcess = λ z. record { number = q.number; registers = z; stack = map (as_named names shared) q.stack; queue = map (as_named names shared) q.queue; refs = q.refs } in
    ap f (map-set (as_named names shared) q.registers r t)

-- the process lives under these names, and its line has these
module _ (s : State) (p : Parsed) (q : Live) (lives : process_of q.number s ≡ Some q) (h : KnownProcess p.names s.shared q) where
  abbrev by : Tree → NamedTree
  by t = as_named p.names s.shared t

  abbrev x : NamedProcess
  x = process_named p.names s.shared q

  -- another process in its place, over these shared binaries
  put-over : (shared : List (List ℕ)) (u : Live) (y : NamedProcess) → u.number ≡ q.number → KnownProcess p.names shared u → process_named p.names shared u ≡ y
      → OwnStep q.number (does p (record (with_process u s) { shared = shared })) (goes y)
  put-over shared u y is k e =
      let there : found q.number (map (λ r. cond (r.number == u.number) u r) s.processes) ≡ Some u =
      subst (λ (m : ℕ). found m s.processes ≡ Some q → found m (map (λ r. cond (r.number == u.number) u r) s.processes) ≡ Some u) is (found-put u q s.processes) lives in
      record {
        same = ap (λ z. Goes (option_map (process_named p.names shared) z) (codes "ok")) there ∙ ap goes e;
        known = subst (IfKnown p.names shared) (sym there) k;
      }

  put-step : (u : Live) (y : NamedProcess) → u.number ≡ q.number → KnownProcess p.names s.shared u → process_named p.names s.shared u ≡ y
      → OwnStep q.number (does p (with_process u s)) (goes y)
  put-step u y is k e = put-over s.shared u y is k e

  -- a known tree in a register
  register-step : (r : ℕ) (t : Tree) (y : NamedTree) → IsKnown p.names s.shared t → by t ≡ y → OwnStep q.number (does p (with_process (with_register r t q) s)) (goes (to_register r y x))
  register-step r t y k e = put-step (with_register r t q) (to_register r y x) refl
      (record { registers = set-known p.names s.shared q.registers r t h.registers k; stack = h.stack; queue = h.queue })
      (registers-named p.names s.shared q r t ∙ ap (λ z. to_register r z x) e)

  held-known : (r : ℕ) → IsKnown p.names s.shared (register r q)
  held-known r = at-known p.names s.shared q.registers r h.registers

  held-by : (r : ℕ) → by (register r q) ≡ in_register r x
  held-by r = at-by p.names s.shared q.registers r

  -- a tree over more shared binaries
  made-step : (r : ℕ) (new : Tree × List (List ℕ)) (y : NamedTree) → Extends s.shared (new.1) → IsKnown p.names (new.1) (new.0) → as_named p.names (new.1) (new.0) ≡ y
      → OwnStep q.number (does p (with_made s q r new)) (goes (to_register r y x))
  made-step r new y m k e =
      let same : (ts : List Tree) → AllKnown p.names s.shared ts → map (as_named p.names (new.1)) ts ≡ map (as_named p.names s.shared) ts = held-same-more p.names s.shared (new.1) m in
      let more : (ts : List Tree) → AllKnown p.names s.shared ts → AllKnown p.names (new.1) ts = held-known-more p.names s.shared (new.1) m in
      put-over (new.1) (with_register r (new.0) q) (to_register r y x) refl
      (record { registers = set-known p.names (new.1) q.registers r (new.0) (more q.registers h.registers) k; stack = more q.stack h.stack; queue = more q.queue h.queue })
      (registers-named p.names (new.1) q r (new.0) ∙ (λ i. to_register r (e i) (record {
        number = q.number;
        registers = same q.registers h.registers i;
        stack = same q.stack h.stack i;
        queue = same q.queue h.queue i;
        refs = q.refs;
      })))

  -- `set`
  flawed-step : (f : Option Refusal) (o : Outcome) (y : NamedOutcome) → OwnStep q.number o y → OwnStep q.number (unless_flawed f o) (unless_named f y)
  flawed-step None o y k = k
  flawed-step (Some r) o y k = own-refused q.number r

  -- parts
  chosen-step : (o : Option Tree) (r : ℕ) → IfTree p.names s.shared o → OwnStep q.number (choose o s p q r) (chosen_named (option_map by o) x r)
  chosen-step None r k = own-refused q.number BadArg
  chosen-step (Some t) r k = register-step r t (by t) k refl

  choose-step : (r m : ℕ) (how : Pick) → OwnStep q.number (choose (picked p.names s.shared q how (register m q)) s p q r) (chosen_named (named_picked x.registers how (in_register m x)) x r)
  choose-step r m how = own-as q.number (choose (picked p.names s.shared q how (register m q)) s p q r)
      (chosen_named (option_map by (picked p.names s.shared q how (register m q))) x r) (chosen_named (named_picked x.registers how (in_register m x)) x r)
      (chosen-step (picked p.names s.shared q how (register m q)) r (picked-known p.names s.shared q how (register m q) (held-known m)))
      (ap (λ z. chosen_named z x r) ((done p.names s.shared).part q how (register m q) ∙ ap (λ z. named_picked x.registers how z) (held-by m)))

  -- `mapput`
  wide-step : (b : Bool) (ps : Pairs) (r : ℕ) → PairsKnown p.names s.shared ps → OwnStep q.number (put_unless_wide b ps s p q r) (unless_wide_named b (pairs_as_named p.names s.shared ps) x r)
  wide-step true ps r k = own-refused q.number MapSize
  wide-step false ps r k = register-step r (tree.Map ps) (by_name.Map (pairs_as_named p.names s.shared ps)) k refl

  big-step : (b : Bool) (ps : Pairs) (r : ℕ) → PairsKnown p.names s.shared ps → OwnStep q.number (put_unless_big b ps s p q r) (unless_big_named b (pairs_as_named p.names s.shared ps) x r)
  big-step true ps r k = own-refused q.number Big
  big-step false ps r k = own-as q.number (put_unless_wide (too_many ps) ps s p q r) (unless_wide_named (too_many ps) (pairs_as_named p.names s.shared ps) x r)
      (unless_wide_named (nat_lt MOST_KEYS (pairs_count (pairs_as_named p.names s.shared ps))) (pairs_as_named p.names s.shared ps) x r)
      (wide-step (too_many ps) ps r k) (ap (λ z. unless_wide_named (nat_lt MOST_KEYS z) (pairs_as_named p.names s.shared ps) x r) (pairs-seen p.names s.shared ps))

  pair-step : (m k v : Tree) (r : ℕ) → IsKnown p.names s.shared m → IsKnown p.names s.shared k → IsKnown p.names s.shared v
      → OwnStep q.number (put_into (pairs_in m) k v s p q r) (pair_named (pairs_of_named (by m)) (by k) (by v) x r)
  pair-step (tree.Map ps) k v r a b c =
      let all : Pairs = put_pair p.names s.shared k v ps in
      own-as q.number (put_unless_big (is_beyond s.shared k) all s p q r) (unless_big_named (is_beyond s.shared k) (pairs_as_named p.names s.shared all) x r)
      (unless_big_named (named_beyond (by k)) (named_put (by k) (by v) (pairs_as_named p.names s.shared ps)) x r)
      (big-step (is_beyond s.shared k) all r (put-known p.names s.shared k v ps b c a))
      (λ i. unless_big_named (beyond-seen p.names s.shared k i) ((done p.names s.shared).put k v ps i) x r)
  pair-step _ k v r a b c = own-refused q.number BadArg

  -- `fill`
  fill-step : (b : Bool) (bytes : List ℕ) (r : ℕ) → OwnStep q.number (fill_if b bytes s p q r) (made_if_named b (named_bin bytes) x r)
  fill-step true bytes r = own-refused q.number BadArg
  fill-step false bytes r = let m : BinMade p.names bytes (bin_tree bytes s.shared) = bin-made p.names bytes s.shared in
      made-step r (bin_tree bytes s.shared) (named_bin bytes) (bin-more bytes s.shared) m.known m.makes

  -- `fun`
  fun-step : (b : Bool) (f a r : ℕ) (name : List ℕ) (rs : List ℕ) → p.terms ≡ held_terms rs → f < length p.names → name_of p.names f ≡ name
      → OwnStep q.number (fun_if b (tree.Fun f a q.number (env_of s p q)) s p q r) (made_if_named b (by_name.Fun name a q.number (all_named_made x.registers (held_terms rs))) x r)
  fun-step true f a r name rs e less is = own-refused q.number BadArg
  fun-step false f a r name rs e less is =
      let env : Terms → Trees = λ z. (trees_of_terms p.names q.registers z s.shared).0 in
      let known : AreKnown p.names s.shared (env_of s p q) = subst (λ (z : Terms). AreKnown p.names s.shared (env z)) (sym e) (env-known p.names s.shared q.registers rs h.registers) in
      let same : all_as_named p.names s.shared (env_of s p q) ≡ all_named_made x.registers (held_terms rs) =
      ap (λ (z : Terms). all_as_named p.names s.shared (env z)) e ∙ env-by p.names s.shared q.registers rs in
      register-step r (tree.Fun f a q.number (env_of s p q)) (by_name.Fun name a q.number (all_named_made x.registers (held_terms rs))) (less, known)
      (λ i. by_name.Fun (is i) a q.number (same i))

  -- `mktuple`, `mklist`
  repeat-step : (b : Bool) (shape : Shape) (n r m : ℕ)
      → OwnStep q.number (repeat_if b (repeated shape n (register m q)) s p q r) (made_if_named b (named_repeated shape n (in_register m x)) x r)
  repeat-step true shape n r m = own-refused q.number BadArg
  repeat-step false shape n r m = register-step r (repeated shape n (register m q)) (named_repeated shape n (in_register m x))
      (repeated-known p.names s.shared shape n (register m q) (held-known m)) ((done p.names s.shared).many shape n (register m q) ∙ ap (named_repeated shape n) (held-by m))

  -- `ref`
  ref-step : (r : ℕ) → OwnStep q.number (does p (with_process (record (with_register r (tree.Ref q.number (q.refs + 1)) q) { refs = q.refs + 1 }) s))
      (goes (record (to_register r (by_name.Ref q.number (q.refs + 1)) x) { refs = q.refs + 1 }))
  ref-step r = put-step (record (with_register r (tree.Ref q.number (q.refs + 1)) q) { refs = q.refs + 1 }) (record (to_register r (by_name.Ref q.number (q.refs + 1)) x) { refs = q.refs + 1 }) refl
      (record { registers = set-known p.names s.shared q.registers r (tree.Ref q.number (q.refs + 1)) h.registers tt; stack = h.stack; queue = h.queue })
      (ap (λ (z : NamedProcess). record z { refs = q.refs + 1 }) (registers-named p.names s.shared q r (tree.Ref q.number (q.refs + 1))))

  -- `push` and `pop`
  push-step : (r : ℕ) → OwnStep q.number (does p (with_process (record q { stack = register r q ∷ q.stack }) s)) (goes (record x { stack = in_register r x ∷ x.stack }))
  push-step r = put-step (record q { stack = register r q ∷ q.stack }) (record x { stack = in_register r x ∷ x.stack }) refl
      (record { registers = h.registers; stack = (held-known r, h.stack); queue = h.queue })
      (ap (λ (z : NamedTree). record x { stack = z ∷ x.stack }) (held-by r))

  pop-step : (ts : List Tree) (r : ℕ) → AllKnown p.names s.shared ts → OwnStep q.number (pop_from ts s p q r) (pop_named (map by ts) x r)
  pop-step [] r k = own-refused q.number Empty
  pop-step (t ∷ ts) r k = put-step (record (with_register r t q) { stack = ts }) (record (to_register r (by t) x) { stack = map by ts }) refl
      (record { registers = set-known p.names s.shared q.registers r t h.registers k.0; stack = k.1; queue = h.queue })
      (ap (λ (z : NamedProcess). record z { stack = map by ts }) (registers-named p.names s.shared q r t))

  -- `recv`
  recv-step : (ts : List Tree) (r : ℕ) → AllKnown p.names s.shared ts → OwnStep q.number (recv_from ts s p q r) (recv_named (map by ts) x r)
  recv-step [] r k = own-refused q.number Empty
  recv-step (t ∷ ts) r k = put-step (record (with_register r t q) { queue = ts }) (record (to_register r (by t) x) { queue = map by ts }) refl
      (record { registers = set-known p.names s.shared q.registers r t h.registers k.0; stack = h.stack; queue = k.1 })
      (ap (λ (z : NamedProcess). record z { queue = map by ts }) (registers-named p.names s.shared q r t))

  -- `send`
  queued-by : (n : ℕ) (t : Tree) → process_named p.names s.shared (with_queued n t q) ≡ queued_named n (by t) x
  queued-by n t = at (q.number == n)
    where
      at : (b : Bool) → process_named p.names s.shared (cond b (record q { queue = q.queue ++ t ∷ [] }) q) ≡ cond b (record x { queue = x.queue ++ by t ∷ [] }) x
      at true = ap (λ (z : List NamedTree). record x { queue = z }) (map-append by q.queue (t ∷ []))
      at false = refl

  queued-known : (n : ℕ) (t : Tree) → IsKnown p.names s.shared t → KnownProcess p.names s.shared (with_queued n t q)
  queued-known n t k = at (q.number == n)
    where
      at : (b : Bool) → KnownProcess p.names s.shared (cond b (record q { queue = q.queue ++ t ∷ [] }) q)
      at true = record { registers = h.registers; stack = h.stack; queue = join-known p.names s.shared q.queue (t ∷ []) h.queue (k, tt) }
      at false = h

  within-step : (b : Bool) (n : ℕ) (t : Tree) → IsKnown p.names s.shared t → OwnStep q.number (send_within b n t s p) (within_named b n (by t) x)
  within-step true n t k = own-refused q.number Big
  within-step false n t k =
      let there : found q.number (map (with_queued n t) s.processes) ≡ Some (with_queued n t q) = found-queued q.number n t s.processes ∙ ap (option_map (with_queued n t)) lives in record {
        same = ap (λ z. Goes (option_map (process_named p.names s.shared) z) (codes "ok")) there ∙ ap goes (queued-by n t);
        known = subst (IfKnown p.names s.shared) (sym there) (queued-known n t k);
      }

  send-step : (o : Option ℕ) (t : Tree) → IsKnown p.names s.shared t → OwnStep q.number (send_to o t s p) (send_named o (by t) x)
  send-step None t k = own-refused q.number BadArg
  send-step (Some n) t k = own-as q.number (send_within (is_beyond s.shared t) n t s p) (within_named (is_beyond s.shared t) n (by t) x) (within_named (named_beyond (by t)) n (by t) x)
      (within-step (is_beyond s.shared t) n t k) (ap (λ b. within_named b n (by t) x) (beyond-seen p.names s.shared t))

  number-by : (t : Tree) → pid_number t ≡ number_of_named (by t)
  number-by (tree.Pid n) = refl
  number-by _ = refl

  receiver-by : (to : To) → receiver to q ≡ receiver_named to x
  receiver-by (Number n) = refl
  receiver-by (Held r) = number-by (register r.0 q) ∙ ap number_of_named (held-by r.0)

  -- `exit`
  exit-step : OwnStep q.number (does p (without_process q.number s)) (Goes None (codes "ok"))
  exit-step = record {
    same = ap (λ z. Goes (option_map (process_named p.names s.shared) z) (codes "ok")) (found-gone q.number s.processes);
    known = subst (IfKnown p.names s.shared) (sym (found-gone q.number s.processes)) tt;
  }

  -- `gc`
  collect-step : OwnStep q.number (does p s) (goes x)
  collect-step = record {
    same = ap (λ z. Goes (option_map (process_named p.names s.shared) z) (codes "ok")) lives;
    known = subst (IfKnown p.names s.shared) (sym lives) h;
  }

  -- what is told, where the process is the same under the names before the line
  module _ (before : lives_named q.number s ≡ Some x) (k : IsKnownIn q.number s) where
    tell-step : (res : Result (List ℕ) Refusal) → OwnStep q.number (tells s res) (tell_named x res)
    tell-step (Ok text) = record { same = ap (λ z. Goes z text) before; known = k }
    tell-step (Err r) = own-refused q.number r

    tell-as : (res named_res : Result (List ℕ) Refusal) → res ≡ named_res → OwnStep q.number (tells s res) (tell_named x named_res)
    tell-as res named_res e = own-as q.number (tells s res) (tell_named x res) (tell_named x named_res) (tell-step res) (ap (tell_named x) e)

  print-by : (r : ℕ) → unless_beyond (is_beyond s.shared (register r q)) (text p.names s.shared (register r q)) ≡ unless_beyond (named_beyond (in_register r x)) (named_text (in_register r x))
  print-by r = (λ i. unless_beyond (beyond-seen p.names s.shared (register r q) i) ((seen p.names s.shared (register r q)).reads i))
      ∙ ap (λ z. unless_beyond (named_beyond z) (named_text z)) (held-by r)

  order-by : (tell : Ordering → List ℕ) (a b : ℕ)
      → unless_beyond (is_beyond s.shared (register a q) || is_beyond s.shared (register b q)) (tell (order p.names s.shared (register a q) (register b q)))
      ≡ order_named tell (in_register a x) (in_register b x)
  order-by tell a b =
      (λ i. unless_beyond (beyond-seen p.names s.shared (register a q) i || beyond-seen p.names s.shared (register b q) i) (tell (order-seen p.names s.shared (register a q) (register b q) i)))
      ∙ (λ i. order_named tell (held-by a i) (held-by b i))

  flat-by : (r : ℕ) → unless_beyond (is_beyond s.shared (register r q)) (decimal (flat (register r q))) ≡ unless_beyond (named_beyond (in_register r x)) (decimal (named_flat (in_register r x)))
  flat-by r = (λ i. unless_beyond (beyond-seen p.names s.shared (register r q) i) (decimal ((seen p.names s.shared (register r q)).is_flat i)))
      ∙ ap (λ z. unless_beyond (named_beyond z) (decimal (named_flat z))) (held-by r)

  texts-by : (ts : List Tree) → map (text p.names s.shared) ts ≡ map named_text (map by ts)
  texts-by [] = refl
  texts-by (t ∷ ts) = λ i. (seen p.names s.shared t).reads i ∷ texts-by ts i

  queue-by : (codes "[" ++ (divided (map (text p.names s.shared) q.queue) ++ codes "]")) ≡ (codes "[" ++ (divided (map named_text x.queue) ++ codes "]"))
  queue-by = ap (λ z. codes "[" ++ (divided z ++ codes "]")) (texts-by q.queue)

  -- `set`
  set-step : (r : ℕ) (t : Term) (ts : Terms) → ts ≡ t ▹ end → HaveNames p.names (atoms_of t)
      → OwnStep q.number (unless_flawed (written_flaw s p q ts) (does p (with_made s q r (written_tree s p q ts)))) (set_named x r t)
  set-step r t ts e n =
      let m : MadeOf p.names q.registers s.shared t = made p.names q.registers t s.shared h.registers n in
      let new : Tree × List (List ℕ) = tree_of p.names q.registers t s.shared in
      let flaw : Option Refusal = flaw_of (is_big p.names q.registers t s.shared) (is_wide p.names q.registers t s.shared) in
      let y : NamedOutcome = goes (to_register r (named_made x.registers t) x) in
      subst (λ (z : Terms). OwnStep q.number (unless_flawed (written_flaw s p q z) (does p (with_made s q r (written_tree s p q z)))) (set_named x r t)) (sym e)
      (own-as q.number (unless_flawed flaw (does p (with_made s q r new))) (unless_named flaw y) (set_named x r t)
      (flawed-step flaw (does p (with_made s q r new)) y (made-step r new (named_made x.registers t) (made-more p.names q.registers t s.shared) m.known m.makes))
      (λ i. unless_named (flaw_of (m.big i) (m.wide i)) y))

  -- each verb
  -- `lit`, where the areas are known
  abbrev areas : List NamedArea
  areas = map (area_named p.names s.shared) s.areas

  literal-by : (i : ℕ) (ts : List Tree) → option_map by (literal_at i ts) ≡ literal_at i (map by ts)
  literal-by i [] = refl
  literal-by zero (t ∷ ts) = refl
  literal-by (suc i) (t ∷ ts) = literal-by i ts

  literal-of-by : (i : ℕ) (ts : List Tree) → option_map by (literal_of i ts) ≡ literal_of i (map by ts)
  literal-of-by zero ts = refl
  literal-of-by (suc i) ts = literal-by i ts

  at-literal : (i : ℕ) (ts : List Tree) → AllKnown p.names s.shared ts → IfTree p.names s.shared (literal_at i ts)
  at-literal i [] k = tt
  at-literal zero (t ∷ ts) k = k.0
  at-literal (suc i) (t ∷ ts) k = at-literal i ts k.1

  literal-known : (i : ℕ) (ts : List Tree) → AllKnown p.names s.shared ts → IfTree p.names s.shared (literal_of i ts)
  literal-known zero ts k = tt
  literal-known (suc i) ts k = at-literal i ts k

  taken-step : (o : Option Area) (r i : ℕ) → ((a : Area) → o ≡ Some a → AllKnown p.names s.shared a.literals)
      → OwnStep q.number (lit_from o s p q r i) (lit_named (option_map (area_named p.names s.shared) o) x r i)
  taken-step None r i k = own-refused q.number NoArea
  taken-step (Some a) r i k = own-as q.number (choose (literal_of i a.literals) s p q r) (chosen_named (option_map by (literal_of i a.literals)) x r)
      (chosen_named (literal_of i (map by a.literals)) x r) (chosen-step (literal_of i a.literals) r (literal-known i a.literals (k a refl)))
      (ap (λ z. chosen_named z x r) (literal-of-by i a.literals))

  lit-step : (name : List ℕ) (r i : ℕ) → KnownAreas p.names s.shared s.areas → IsPlaced p.names name
      → OwnStep q.number (lit_from (area_with (number_of p.names name) s) s p q r i) (lit_named (area_by name areas) x r i)
  lit-step name r i known placed = own-as q.number (lit_from (area_with (number_of p.names name) s) s p q r i)
      (lit_named (option_map (area_named p.names s.shared) (area_with (number_of p.names name) s)) x r i) (lit_named (area_by name areas) x r i)
      (taken-step (area_with (number_of p.names name) s) r i (λ a e. found-known p.names s.shared (number_of p.names name) s.areas a known e))
      (ap (λ z. lit_named z x r i) (found-by p.names s.shared name placed s.areas known))

  module _ (beside : KnownAreas p.names s.shared s.areas) where
    verb-step : lives_named q.number s ≡ Some x → IsKnownIn q.number s → (w : Word) (ops : Operands (kinds_of w)) → p.terms ≡ operands_terms (kinds_of w) ops
        → ArePlaced p.names (operands_atoms (kinds_of w) ops) → OwnStep q.number (by_verb s p q (verb_of p.names w ops)) (verb_named areas x w ops)
    verb-step before k word.Set ops e a = set-step (ops.0) (ops.1.0) p.terms e (have-names p.names (atoms_of (ops.1.0)) (placed-front p.names (atoms_of (ops.1.0)) [] a))
    verb-step before k word.Hd ops e a = choose-step (ops.0) (ops.1.0) pick.Hd
    verb-step before k word.Tl ops e a = choose-step (ops.0) (ops.1.0) pick.Tl
    verb-step before k word.Elem ops e a = choose-step (ops.0) (ops.1.1.0) (pick.Elem (ops.1.0))
    verb-step before k word.MapGet ops e a = choose-step (ops.0) (ops.1.0) (pick.MapGet (reg (ops.1.1.0)))
    verb-step before k word.MapPut ops e a = own-as q.number (put_into (pairs_in (register (ops.1.0) q)) (register (ops.1.1.0) q) (register (ops.1.1.1.0) q) s p q (ops.0))
        (pair_named (pairs_of_named (by (register (ops.1.0) q))) (by (register (ops.1.1.0) q)) (by (register (ops.1.1.1.0) q)) x (ops.0)) (verb_named areas x word.MapPut ops)
        (pair-step (register (ops.1.0) q) (register (ops.1.1.0) q) (register (ops.1.1.1.0) q) (ops.0) (held-known (ops.1.0)) (held-known (ops.1.1.0)) (held-known (ops.1.1.1.0)))
        (λ i. pair_named (pairs_of_named (held-by (ops.1.0) i)) (held-by (ops.1.1.0) i) (held-by (ops.1.1.1.0) i) x (ops.0))
    verb-step before k word.Part ops e a = choose-step (ops.0) (ops.1.0) (pick.Part (ops.1.1.0) (ops.1.1.1.0))
    verb-step before k word.Fill ops e a = fill-step (nat_lt MOST_FILL (ops.1.0) || nat_lt MOST_BYTE (ops.1.1.0)) (replicate (ops.1.0) (ops.1.1.0)) (ops.0)
    verb-step before k word.Fun ops e a = fun-step (nat_lt MOST_ARITY (ops.1.1.0)) (number_of p.names (ops.1.0)) (ops.1.1.0) (ops.0) (ops.1.0) (ops.1.1.1.0)
        (e ∙ joined-end (held_terms (ops.1.1.1.0))) (number-below p.names (ops.1.0) (a.0)) (name-placed p.names (ops.1.0) (a.0))
    verb-step before k word.Env ops e a = choose-step (ops.0) (ops.1.1.0) (pick.Env (ops.1.0))
    verb-step before k word.Ref ops e a = ref-step (ops.0)
    verb-step before k word.Own ops e a = register-step (ops.0) (tree.Pid q.number) (by_name.Pid q.number) tt refl
    verb-step before k word.MkTuple ops e a = repeat-step (nat_lt MOST_PLACES (ops.1.0)) shape.Tuple (ops.1.0) (ops.0) (ops.1.1.0)
    verb-step before k word.MkList ops e a = repeat-step (nat_lt MOST_PLACES (ops.1.0)) shape.List (ops.1.0) (ops.0) (ops.1.1.0)
    verb-step before k word.Push ops e a = push-step (ops.0)
    verb-step before k word.Pop ops e a = pop-step q.stack (ops.0) h.stack
    verb-step before k word.Send ops e a = own-as q.number (send_to (receiver (ops.1.0) q) (register (ops.0) q) s p)
        (send_named (receiver (ops.1.0) q) (by (register (ops.0) q)) x) (verb_named areas x word.Send ops)
        (send-step (receiver (ops.1.0) q) (register (ops.0) q) (held-known (ops.0))) (λ i. send_named (receiver-by (ops.1.0) i) (held-by (ops.0) i) x)
    verb-step before k word.Recv ops e a = recv-step q.queue (ops.0) h.queue
    verb-step before k word.Queue ops e a = own-as q.number (tells s (Ok (codes "[" ++ (divided (map (text p.names s.shared) q.queue) ++ codes "]"))))
        (Goes (Some x) (codes "[" ++ (divided (map (text p.names s.shared) q.queue) ++ codes "]"))) (verb_named areas x word.Queue ops)
        (tell-step before k (Ok (codes "[" ++ (divided (map (text p.names s.shared) q.queue) ++ codes "]")))) (ap (Goes (Some x)) queue-by)
    verb-step before k word.Print ops e a = tell-as before k (unless_beyond (is_beyond s.shared (register (ops.0) q)) (text p.names s.shared (register (ops.0) q)))
        (unless_beyond (named_beyond (in_register (ops.0) x)) (named_text (in_register (ops.0) x))) (print-by (ops.0))
    verb-step before k word.Eq ops e a =
        tell-as before k (unless_beyond (is_beyond s.shared (register (ops.0) q) || is_beyond s.shared (register (ops.1.0) q))
        (eq_text (order p.names s.shared (register (ops.0) q) (register (ops.1.0) q)))) (order_named eq_text (in_register (ops.0) x) (in_register (ops.1.0) x)) (order-by eq_text (ops.0) (ops.1.0))
    verb-step before k word.Cmp ops e a =
        tell-as before k (unless_beyond (is_beyond s.shared (register (ops.0) q) || is_beyond s.shared (register (ops.1.0) q))
        (cmp_text (order p.names s.shared (register (ops.0) q) (register (ops.1.0) q)))) (order_named cmp_text (in_register (ops.0) x) (in_register (ops.1.0) x)) (order-by cmp_text (ops.0) (ops.1.0))
    verb-step before k word.Flat ops e a = tell-as before k (unless_beyond (is_beyond s.shared (register (ops.0) q)) (decimal (flat (register (ops.0) q))))
        (unless_beyond (named_beyond (in_register (ops.0) x)) (decimal (named_flat (in_register (ops.0) x)))) (flat-by (ops.0))
    verb-step before k word.Lit ops e a = lit-step (ops.1.0) (ops.0) (ops.1.1.0) beside a.0
    verb-step before k word.Gc ops e a = collect-step
    verb-step before k word.Exit ops e a = exit-step
    verb-step before k _ ops e a = own-refused q.number Syntax

-- a known process is the same by name, and known, where more names and shared binaries stand behind those that there are
pub grown-process : (names new shared next : List (List ℕ)) (q : Live) → Extends names new → Extends shared next → KnownProcess names shared q
    → (process_named new next q ≡ process_named names shared q) × KnownProcess new next q
grown-process names new shared next q n m h =
    let same : (ts : List Tree) → AllKnown names shared ts → map (as_named new next) ts ≡ map (as_named names shared) ts =
    λ ts k. ap (λ (z : List (List ℕ)). map (as_named z next) ts) n.are ∙ (ap (λ (z : List (List ℕ)). map (as_named (names ++ n.more) z) ts) m.are ∙ held-grown names n.more shared m.more ts k) in
    let known : (ts : List Tree) → AllKnown names shared ts → AllKnown new next ts =
    λ ts k. subst (λ (z : List (List ℕ)). AllKnown z next ts) (sym n.are) (subst (λ (z : List (List ℕ)). AllKnown (names ++ n.more) z ts) (sym m.are)
    (held-known-grown names n.more shared m.more ts k)) in (
      (λ i. record { number = q.number; registers = same q.registers h.registers i; stack = same q.stack h.stack i; queue = same q.queue h.queue i; refs = q.refs }),
      record { registers = known q.registers h.registers; stack = known q.stack h.stack; queue = known q.queue h.queue },
    )

-- the names after a line are those before it with more
pub more-names : (s : State) (w : Written) → Extends s.names (names_after s.names w)
more-names s w = let m : (more : List (List ℕ)) × (names_after s.names w ≡ s.names ++ more) = with-names-more s.names (all_atoms w) in record { more = m.0; are = m.1 }

-- a line of a process that lives, or of one that does not
pub own-line : (s : State) (n : ℕ) (w : Word) (ops : Operands (kinds_of w)) → IsKnownIn n s → AreasKnown s
    → OwnStep n (step s (parsed_of s.names (OfProcess n w ops))) (line_named (areas_named s) (lives_named n s) w ops)
own-line s n w ops k known = at (process_of n s) refl k
  where
    p : Parsed
    p = parsed_of s.names (OfProcess n w ops)

    at-number : (q : Live) → process_of q.number s ≡ Some q → KnownProcess s.names s.shared q → IsKnownIn q.number s → p.terms ≡ operands_terms (kinds_of w) ops
        → OwnStep q.number (by_verb s p q (verb_of p.names w ops)) (verb_named (areas_named s) (process_named s.names s.shared q) w ops)
    at-number q lives h k e =
        let g = grown-process s.names p.names s.shared s.shared q (more-names s (OfProcess n w ops)) (extends-none s.shared) h in
        let ar = areas-grown s.names p.names s.shared s.shared s.areas (more-names s (OfProcess n w ops)) (extends-none s.shared) known in
        own-as q.number (by_verb s p q (verb_of p.names w ops)) (verb_named (map (area_named p.names s.shared) s.areas) (process_named p.names s.shared q) w ops)
        (verb_named (areas_named s) (process_named s.names s.shared q) w ops)
        (verb-step s p q lives (g.1) (ar.1) (ap (option_map (process_named s.names s.shared)) lives ∙ ap Some (sym (g.0))) k w ops e (with-names-placed s.names (operands_atoms (kinds_of w) ops)))
        (λ i. verb_named (ar.0 i) (g.0 i) w ops)

    at : (o : Option Live) → process_of n s ≡ o → IfKnown s.names s.shared o
        → OwnStep n (in_process o s p (verb_of p.names w ops)) (line_named (areas_named s) (option_map (process_named s.names s.shared) o) w ops)
    at None e h = own-refused n NoProc
    at (Some q) e h =
        let is : q.number ≡ n = found-number n s.processes q e in
        let P : ℕ → Type 0 = λ z. OwnStep z (by_verb s p q (verb_of p.names w ops)) (verb_named (areas_named s) (process_named s.names s.shared q) w ops) in
        subst P is (at-number q (subst (λ (z : ℕ). process_of z s ≡ Some q) (sym is) e) h (subst (λ (z : ℕ). IsKnownIn z s) (sym is) k) refl)
