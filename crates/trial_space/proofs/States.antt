-- The state after each call.
use Rattle.std.proofs.Common.{◌≡◌, ℕ, zero, suc, ◌+◌, ◌*◌, ◌<◌, ◌≤◌, ◌==◌, ◌||◌, ◌&&◌, Bool, true, false, nat_lt, nat_le, List, [], ◌∷◌, ◌++◌, length, replicate, codes, append-nil, decimal}
use Rattle.std.proofs.Common.{map, get_or, set, Option, None, Some, Ok, Err, if◌then◌else◌, refl, sym, ◌∙◌, ap, subst, arith, inl, inr}
use Rattle.std.proofs.lemmas.Bool.{le-ltb, lt-ltb, false≢true}
use Rattle.std.specs.Prelude.{flat_map}
use Rattle.std.specs.List.{find, list_any}
use Rattle.std.specs.declared.cmp.Ordering.{Ordering}
use Rattle.std.proofs.lemmas.Bool.Decides.{nat_tests}
use Rattle.std.proofs.lemmas.List.{map-set, length-map}
use Rattle.std.proofs.lemmas.Option.{same_Some}
use Rattle.plain_term.specs.declared.item.Item.{Item}
use Rattle.plain_term.specs.declared.item.Item.TheVariants as item
use Rattle.plain_term.specs.Tree.{Tree, Pairs}
use Rattle.plain_term.specs.Tree.Tree.{Nil, Pid, Fun}
use Rattle.plain_term.specs.Beyond.{is_beyond}
use Rattle.plain_term.specs.Measures.{bin_words, flat, nodes}
use Rattle.plain_term.specs.Order.{order}
use Rattle.plain_term.specs.Text.{text}
use Rattle.line_io.specs.Sink.{Grew, GrewInPart}
use Rattle.script_grammar.specs.declared.limits.TheConstants.{LEVELS}
use Rattle.script_grammar.specs.declared.command.Measure.{Measure}
use Rattle.script_grammar.specs.declared.command.Pick.{Pick}
use Rattle.script_grammar.specs.declared.command.Shape.{Shape}
use Rattle.script_grammar.specs.declared.command.Shape.TheVariants as shape
use Rattle.script_grammar.specs.declared.refusal.Refusal.{Refusal}
use Rattle.plain_machine.specs.declared.limits.TheConstants.{MOST_PLACES, MOST_FILL, MOST_ARITY, MOST_BYTE}
use Rattle.plain_machine.specs.declared.costs.TheConstants.{COUNTED_COST, MESSAGE_COST}
use Rattle.plain_machine.specs.Maps.{CountsOf, AllIn}
use Rattle.line_io.specs.declared.reader.TheConstants.{LONGEST_LINE}
use Rattle.plain_machine.specs.Made.{tree_of}
use Rattle.plain_machine.specs.Flaws.{is_wide, is_big, flaw_of}
use Rattle.plain_machine.specs.Parts.{picked, pairs_in, repeated}
use Rattle.script_grammar.specs.declared.command.Command.TheVariants.{Process as OfProcess}
use Rattle.script_grammar.specs.declared.command.Verb.{Verb}
use Rattle.script_grammar.specs.declared.command.Verb.TheVariants as verb
use Rattle.script_grammar.specs.declared.command.Depth.{Depth}
use Rattle.script_grammar.specs.declared.command.Reg.{Reg}
use Rattle.script_grammar.specs.declared.command.To.{To}
use Rattle.script_grammar.specs.declared.refusal.Refusal.TheVariants as refusal
use Rattle.script_grammar.specs.Written.{Term, Terms, terms_len}
use Rattle.script_grammar.specs.Names.{Parsed, items_of, held_terms}
use Rattle.plain_machine.specs.State.{Process, Area, State, is_live, process_of, with_process, with_queued, register, with_register}
use Rattle.plain_machine.specs.Step.{Outcome, step, in_process, by_verb, settled, does, with_made, unless_flawed, choose, fill_if, fun_if, env_of, put_into, repeat_if, send_within, send_to, tells, unless_beyond, order_text, flat_text}
use Rattle.plain_machine.specs.Tightness.{grow, receiver, send_words, process_words, build_words, repeat_words, fill_words, demand, ids_in, funs_in, held_trees, living_trees}
use Rattle.plain_machine.specs.May.{gets_to_space, is_purge, may_of_tight}
use Rattle.space_api.specs.declared.space.Seat.{Seat}
use Rattle.space_api.specs.declared.space.Stop.TheVariants.{Fault}
use Rattle.space_api.specs.Calls.{Becomes, Follows, Passes, Prints, Tells, HasEnv, IsWrittenTerm, said, one_term}
use Rattle.trial_space.specs.Items.{TrialStands, TrialSits, alone, put_item, weight, one_process, processes_of}
use Rattle.trial_space.proofs.Weights.{weight-term, held-alone, alone-is, no-flaw}
use Rattle.trial_space.proofs.Alone.{near, no-part, no-pairs, no-ids, no-funs, one-node}

pub code-few : (names : List (List ℕ)) (t : Term) (code : List Item) → IsWrittenTerm names code t → length code ≤ LONGEST_LINE → length (items_of names t) ≤ LONGEST_LINE
code-few names t code is few = omega (arith, few, ap (λ (xs : List Item). length xs) is.items)

-- No record is counted, for no shared binary and no fun lives.
pub none-counted : (alive : Bool) (items : List Item) (s : State) → TrialStands alive items s → CountsOf s (codes "bins [] funs []")
none-counted alive items s h = record {
  bins = [];
  funs = [];
  said = refl;
  rising = tt;
  by_names = tt;
  bins_occur = let P : List ℕ → Type 0 = λ z. AllIn z [] in subst P (sym (no-living ids_in (no-ids items))) (λ n i. i);
  funs_occur = let P : List ℕ → Type 0 = λ z. AllIn z [] in subst P (sym (no-living funs_in (no-funs items))) (λ n i. i);
  bins_named = tt;
  funs_named = tt;
  bins_exact = λ e. tt;
  funs_exact = λ e. tt;
}
  where
    of-processes : (f : Tree → List ℕ) (alive : Bool) → flat_map f (map alone items) ≡ [] → flat_map f (flat_map held_trees (processes_of alive items) ++ []) ≡ []
    of-processes f false e = refl
    of-processes f true e =
        ap (flat_map f) (append-nil (flat_map held_trees (one_process items ∷ [])) ∙ append-nil (held_trees (one_process items)) ∙ append-nil (map alone items)) ∙ e

    no-living : (f : Tree → List ℕ) → flat_map f (map alone items) ≡ [] → flat_map f (living_trees s) ≡ []
    no-living f e =
        ap (λ (qs : List Process). flat_map f (flat_map held_trees qs ++ flat_map (λ (a : Area). a.literals) s.areas)) h.processes
        ∙ ap (λ (xs : List Area). flat_map f (flat_map held_trees (processes_of alive items) ++ flat_map (λ (a : Area). a.literals) xs)) h.areas
        ∙ of-processes f alive e

-- Where there is no word, each line that asks for some is tight.
all-true : (a b c d : Bool) → a ≡ true → b ≡ true → d ≡ true → (a && ((b || c) && d)) ≡ true
all-true true true c true x y z = refl
all-true true true c false x y z = z
all-true true false c d x y z = absurd (false≢true y)
all-true false b c d x y z = absurd (false≢true x)

pub may-lack : (s : State) (p : Parsed) → 0 < grow s p → gets_to_space p.command (step s p) ≡ true → may_of_tight 0 s p ≡ true
may-lack s p some gets =
    let tight : 0 < 2 * (demand s + grow s p) = omega (arith, some) in
    all-true (nat_lt 0 (2 * (demand s + grow s p))) (nat_lt 0 (grow s p)) (is_purge p.command) (gets_to_space p.command (step s p)) (lt-ltb 0 (2 * (demand s + grow s p)) tight)
    (lt-ltb 0 (grow s p) some) gets

module _ (alive : Bool) (items : List Item) (s : State) (seat : Seat) (h : TrialStands alive items s) (l : TrialSits alive seat) where
  -- The process, where it lives, is the only one, and it is found by its number.
  only : s.processes ≡ one_process items ∷ []
  only = h.processes ∙ ap (λ x. processes_of x items) l.lives

  found : process_of seat.pid s ≡ Some (one_process items)
  found = ap (λ n. find (λ p. p.number == n) s.processes) l.first ∙ ap (find (λ p. p.number == 1)) only

  -- What the step of a verb comes to, told of the process.
  at-process : (P : Outcome → Type 0) (p : Parsed) (v : Verb) → P (by_verb s p (one_process items) v) → P (in_process (process_of seat.pid s) s p v)
  at-process P p v k = let Q : Option Process → Type 0 = λ o. P (in_process o s p v) in subst Q (sym found) k

  -- A register holds the item's tree.
  held : (r : ℕ) (t : Tree) (x : Item) → t ≡ alone x → (with_process (with_register r t (one_process items)) s).processes ≡ processes_of alive (set items r x)
  held r t x e =
      let regs : set (map alone items) r t ≡ map alone (set items r x) = ap (set (map alone items) r) e ∙ sym (map-set alone items r x) in
      let f : Process → Process = λ q. if q.number == 1 then with_register r t (one_process items) else q in
      ap (map f) only
      ∙ (ap (λ z. (record { number = 1; registers = z; stack = []; queue = []; refs = 0 }) ∷ []) regs ∙ ap (λ z. processes_of z (set items r x)) (sym l.lives))

  -- `self`.
  pub own-passes : (r : Reg) (terms : Terms) (names : List (List ℕ)) → Passes (step s (said (OfProcess seat.pid (verb.Own r)) terms names)) (TrialStands alive (set items r.0 (item.Pid seat.pid)))
  own-passes r terms names = at-process (λ o. Passes o (TrialStands alive (set items r.0 (item.Pid seat.pid)))) (said (OfProcess seat.pid (verb.Own r)) terms names) (verb.Own r) (record {
    processes = held r.0 (Pid 1) (item.Pid seat.pid) (ap Pid (sym l.first));
    next = h.next;
    shared = h.shared;
    areas = h.areas;
  })

  -- `gc`.
  pub gc-passes : (d : Depth) (terms : Terms) (names : List (List ℕ)) → Passes (step s (said (OfProcess seat.pid (verb.Gc d)) terms names)) (TrialStands alive items)
  gc-passes d terms names = at-process (λ o. Passes o (TrialStands alive items)) (said (OfProcess seat.pid (verb.Gc d)) terms names) (verb.Gc d)
      (record { processes = h.processes; next = h.next; shared = h.shared; areas = h.areas })

  -- What a line of the process asks for.
  asks : (v : Verb) (terms : Terms) (names : List (List ℕ)) → grow s (said (OfProcess seat.pid v) terms names) ≡ process_words (Some (one_process items)) s (said (OfProcess seat.pid v) terms names) v
  asks v terms names = ap (λ o. process_words o s (said (OfProcess seat.pid v) terms names) v) found

  -- A line that asks for words, and is not refused for another cause, may be answered that there is no space: there is no word.
  pub lacks : (v : Verb) (terms : Terms) (names : List (List ℕ)) (n : ℕ) → process_words (Some (one_process items)) s (said (OfProcess seat.pid v) terms names) v ≡ n → 0 < n
      → gets_to_space (OfProcess seat.pid v) (by_verb s (said (OfProcess seat.pid v) terms names) (one_process items) v) ≡ true
      → Becomes {A = Unit {0}} 0 s (said (OfProcess seat.pid v) terms names) (Err (refusal.NoSpace n)) (TrialStands alive items)
  lacks v terms names n e some gets =
      let p : Parsed = said (OfProcess seat.pid v) terms names in
      inr (may-lack s p (omega (arith, some, asks v terms names ∙ e)) (at-process (λ o. gets_to_space (OfProcess seat.pid v) o ≡ true) p v gets), ap refusal.NoSpace (sym (asks v terms names ∙ e)), h)

  -- `set`.
  pub build-lacks : (r : Reg) (t : Term) (names : List (List ℕ)) (code : List Item) (n : ℕ) → IsWrittenTerm names code t → length code ≤ LONGEST_LINE → n + 1 ≡ weight code → 0 < n
      → Becomes {A = Unit {0}} 0 s (said (OfProcess seat.pid (verb.Set r)) (one_term t) names) (Err (refusal.NoSpace n)) (TrialStands alive items)
  build-lacks r t names code n is few heavy some = lacks (verb.Set r) (one_term t) names n (omega (arith, heavy, weight-term names t (code-few names t code is few), ap weight is.items)) some
      (set-gets (is_big names (map alone items) t s.shared) (is_wide names (map alone items) t s.shared))
    where
      set-gets : (big wide : Bool) → gets_to_space (OfProcess seat.pid (verb.Set r)) (unless_flawed (flaw_of big wide)
          (does (said (OfProcess seat.pid (verb.Set r)) (one_term t) names) (with_made s (one_process items) r.0 (tree_of names (map alone items) t s.shared)))) ≡ true
      set-gets true wide = refl
      set-gets false true = refl
      set-gets false false = refl

  pub build-holds : (r : Reg) (t : Term) (names : List (List ℕ)) (code : List Item) (d x : Item) → IsWrittenTerm names code t → length code ≤ LONGEST_LINE → x ≡ put_item items (get_or code 0 d)
      → weight code ≤ 1
      → Becomes {A = Unit {0}} 0 s (said (OfProcess seat.pid (verb.Set r)) (one_term t) names) (Ok tt) (TrialStands alive (set items r.0 x))
  build-holds r t names code d x is few put light =
      let none : build_words t ≡ 0 = omega (arith, weight-term names t (code-few names t code is few), ap weight is.items) in
      let single = alone-is names items LEVELS t s.shared d is.built is.allowed none in
      let first : alone (put_item items (get_or (items_of names t) 0 d)) ≡ alone x = ap (λ z. alone (put_item items (get_or z 0 d))) is.items ∙ ap alone (sym put) in
      let New : State → Type 0 = TrialStands alive (set items r.0 x) in
      let p : Parsed = said (OfProcess seat.pid (verb.Set r)) (one_term t) names in
      let Q : Tree × List (List ℕ) → Type 0 = λ made. New (settled p (with_made s (one_process items) r.0 made)) in
      let P : Option Refusal → Type 0 = λ f. Follows {A = Unit {0}} (unless_flawed f (does p (with_made s (one_process items) r.0 (tree_of names (map alone items) t s.shared)))) s (Ok tt) New in
      inl (at-process (λ o. Follows {A = Unit {0}} o s (Ok tt) New) p (verb.Set r) (subst P (sym (no-flaw names (map alone items) t s.shared none)) (subst Q (sym single) (record {
        processes = held r.0 (alone (put_item items (get_or (items_of names t) 0 d))) x first;
        next = h.next;
        shared = h.shared;
        areas = h.areas;
      }))))

  -- A register's tree is that of its item.
  in-register : (r : ℕ) → register r (one_process items) ≡ alone (get_or items r item.Nil)
  in-register r = held-alone items r

  -- `fill`.
  pub fill-refused : (r : Reg) (len byte : ℕ) (terms : Terms) (names : List (List ℕ)) → (nat_lt MOST_FILL len || nat_lt MOST_BYTE byte) ≡ true
      → Follows {A = Unit {0}} (step s (said (OfProcess seat.pid (verb.Fill r len byte)) terms names)) s (Err refusal.BadArg) (TrialStands alive items)
  fill-refused r len byte terms names bad =
      let p : Parsed = said (OfProcess seat.pid (verb.Fill r len byte)) terms names in
      let q : Process = one_process items in
      let P : Bool → Type 0 = λ b. Follows {A = Unit {0}} (fill_if b (replicate len byte) s p q r.0) s (Err refusal.BadArg) (TrialStands alive items) in
      at-process (λ o. Follows {A = Unit {0}} o s (Err refusal.BadArg) (TrialStands alive items)) p (verb.Fill r len byte) (subst P (sym bad) (refl, h))

  pub fill-lacks : (r : Reg) (len byte : ℕ) (terms : Terms) (names : List (List ℕ)) → (nat_lt MOST_FILL len || nat_lt MOST_BYTE byte) ≡ false
      → Becomes {A = Unit {0}} 0 s (said (OfProcess seat.pid (verb.Fill r len byte)) terms names)
      (Err (refusal.NoSpace (fill_words len))) (TrialStands alive items)
  fill-lacks r len byte terms names good = lacks (verb.Fill r len byte) terms names (fill_words len) refl (some-filled (nat_le len 64)) (gets (nat_lt MOST_FILL len || nat_lt MOST_BYTE byte) good)
    where
      some-filled : (b : Bool) → 0 < (if b then 2 + bin_words len else COUNTED_COST + bin_words len)
      some-filled true = omega arith
      some-filled false = omega arith

      gets : (b : Bool) → b ≡ false → gets_to_space (OfProcess seat.pid (verb.Fill r len byte))
          (fill_if b (replicate len byte) s (said (OfProcess seat.pid (verb.Fill r len byte)) terms names) (one_process items) r.0) ≡ true
      gets true e = absurd (cc)
      gets false e = refl

  -- `fun`.
  pub fun-refused : (r : Reg) (name arity : ℕ) (terms : Terms) (names : List (List ℕ)) → MOST_ARITY < arity
      → Follows {A = Unit {0}} (step s (said (OfProcess seat.pid (verb.Fun r name arity)) terms names)) s (Err refusal.BadArg) (TrialStands alive items)
  fun-refused r name arity terms names many =
      let p : Parsed = said (OfProcess seat.pid (verb.Fun r name arity)) terms names in
      let q : Process = one_process items in
      let P : Bool → Type 0 = λ b. Follows {A = Unit {0}} (fun_if b (Fun name arity q.number (env_of s p q)) s p q r.0) s (Err refusal.BadArg) (TrialStands alive items) in
      at-process (λ o. Follows {A = Unit {0}} o s (Err refusal.BadArg) (TrialStands alive items)) p (verb.Fun r name arity) (subst P (sym (lt-ltb MOST_ARITY arity many)) (refl, h))

  held-count : (rs : List ℕ) → terms_len (held_terms rs) ≡ length rs
  held-count [] = refl
  held-count (x ∷ rs) = omega (arith, held-count rs)

  pub fun-lacks : (r : Reg) (name arity n : ℕ) (env : List Item) (terms : Terms) (names : List (List ℕ)) → HasEnv names name env terms → n ≡ COUNTED_COST + length env → arity ≤ MOST_ARITY
      → Becomes {A = Unit {0}} 0 s (said (OfProcess seat.pid (verb.Fun r name arity)) terms names) (Err (refusal.NoSpace n)) (TrialStands alive items)
  fun-lacks r name arity n env terms names e count few =
      lacks (verb.Fun r name arity) terms names n
      (omega (arith, count, ap terms_len e.written, held-count e.registers, ap (λ (xs : List Item). length xs) e.items, length-map e.registers item.Held)) (omega (arith, count))
      (gets (nat_lt MOST_ARITY arity) (le-ltb MOST_ARITY arity few))
    where
      gets : (b : Bool) → b ≡ false → gets_to_space (OfProcess seat.pid (verb.Fun r name arity))
          (fun_if b (Fun name arity (one_process items).number (env_of s (said (OfProcess seat.pid (verb.Fun r name arity)) terms names) (one_process items)))
          s (said (OfProcess seat.pid (verb.Fun r name arity)) terms names) (one_process items) r.0) ≡ true
      gets true e = absurd (cc)
      gets false e = refl

  -- `hd`, `tl`, `elem`, `mapget`, `part`, `env`.
  pub pick-refused : (r m : Reg) (how : Pick) (terms : Terms) (names : List (List ℕ))
      → Follows {A = Unit {0}} (step s (said (OfProcess seat.pid (verb.Choose r m how)) terms names)) s (Err refusal.BadArg) (TrialStands alive items)
  pick-refused r m how terms names =
      let p : Parsed = said (OfProcess seat.pid (verb.Choose r m how)) terms names in
      let none : picked names s.shared (one_process items) how (register m.0 (one_process items)) ≡ None =
      ap (picked names s.shared (one_process items) how) (in-register m.0) ∙ no-part names s.shared (one_process items) how (get_or items m.0 item.Nil) in
      let P : Option Tree → Type 0 = λ o. Follows {A = Unit {0}} (choose o s p (one_process items) r.0) s (Err refusal.BadArg) (TrialStands alive items) in
      at-process (λ o. Follows {A = Unit {0}} o s (Err refusal.BadArg) (TrialStands alive items)) p (verb.Choose r m how) (subst P (sym none) (refl, h))

  -- `mapput`.
  pub put-refused : (r m k v : Reg) (terms : Terms) (names : List (List ℕ))
      → Follows {A = Unit {0}} (step s (said (OfProcess seat.pid (verb.MapPut r m k v)) terms names)) s (Err refusal.BadArg) (TrialStands alive items)
  put-refused r m k v terms names =
      let p : Parsed = said (OfProcess seat.pid (verb.MapPut r m k v)) terms names in
      let q : Process = one_process items in
      let none : pairs_in (register m.0 q) ≡ None = ap pairs_in (in-register m.0) ∙ no-pairs (get_or items m.0 item.Nil) in
      let P : Option Pairs → Type 0 = λ o. Follows {A = Unit {0}} (put_into o (register k.0 q) (register v.0 q) s p q r.0) s (Err refusal.BadArg) (TrialStands alive items) in
      at-process (λ o. Follows {A = Unit {0}} o s (Err refusal.BadArg) (TrialStands alive items)) p (verb.MapPut r m k v) (subst P (sym none) (refl, h))

  -- `mktuple`, `mklist`.
  pub repeat-refused : (r m : Reg) (shape : Shape) (n : ℕ) (terms : Terms) (names : List (List ℕ)) → MOST_PLACES < n
      → Follows {A = Unit {0}} (step s (said (OfProcess seat.pid (verb.Repeat r shape n m)) terms names)) s (Err refusal.BadArg) (TrialStands alive items)
  repeat-refused r m shape n terms names many =
      let p : Parsed = said (OfProcess seat.pid (verb.Repeat r shape n m)) terms names in
      let q : Process = one_process items in
      let P : Bool → Type 0 = λ b. Follows {A = Unit {0}} (repeat_if b (repeated shape n (register m.0 q)) s p q r.0) s (Err refusal.BadArg) (TrialStands alive items) in
      at-process (λ o. Follows {A = Unit {0}} o s (Err refusal.BadArg) (TrialStands alive items)) p (verb.Repeat r shape n m) (subst P (sym (lt-ltb MOST_PLACES n many)) (refl, h))

  pub repeat-lacks : (r m : Reg) (shape : Shape) (n : ℕ) (terms : Terms) (names : List (List ℕ)) → n ≤ MOST_PLACES → (repeat_words shape n ≡ 0 → ⊥)
      → Becomes {A = Unit {0}} 0 s (said (OfProcess seat.pid (verb.Repeat r shape n m)) terms names)
      (Err (refusal.NoSpace (repeat_words shape n))) (TrialStands alive items)
  repeat-lacks r m shape n terms names few some = lacks (verb.Repeat r shape n m) terms names (repeat_words shape n) refl (omega (arith, some)) (gets (nat_lt MOST_PLACES n) (le-ltb MOST_PLACES n few))
    where
      gets : (b : Bool) → b ≡ false → gets_to_space (OfProcess seat.pid (verb.Repeat r shape n m))
          (repeat_if b (repeated shape n (register m.0 (one_process items))) s (said (OfProcess seat.pid (verb.Repeat r shape n m)) terms names) (one_process items) r.0) ≡ true
      gets true e = absurd (cc)
      gets false e = refl

  -- A list of no place asks for no word.
  none-repeated : (shape : Shape) (n : ℕ) (t : Tree) → repeat_words shape n ≡ 0 → repeated shape n t ≡ Nil
  none-repeated shape.Tuple n t e = absurd (omega (arith, e))
  none-repeated shape.List zero t e = refl
  none-repeated shape.List (suc n) t e = absurd (omega (arith, e))

  pub repeat-holds : (r m : Reg) (shape : Shape) (n : ℕ) (terms : Terms) (names : List (List ℕ)) → n ≤ MOST_PLACES → repeat_words shape n ≡ 0
      → Becomes {A = Unit {0}} 0 s (said (OfProcess seat.pid (verb.Repeat r shape n m)) terms names) (Ok tt) (TrialStands alive (set items r.0 item.Nil))
  repeat-holds r m shape n terms names few none =
      let p : Parsed = said (OfProcess seat.pid (verb.Repeat r shape n m)) terms names in
      let q : Process = one_process items in
      let F : Outcome → Type 0 = λ o. Follows {A = Unit {0}} o s (Ok tt) (TrialStands alive (set items r.0 item.Nil)) in
      let P : Bool → Type 0 = λ b. F (repeat_if b (repeated shape n (register m.0 q)) s p q r.0) in
      let Q : Tree → Type 0 = λ t. F (repeat_if false t s p q r.0) in
      inl (at-process F p (verb.Repeat r shape n m) (subst P (sym (le-ltb MOST_PLACES n few)) (subst Q (sym (none-repeated shape n (register m.0 q) none)) (record {
        processes = held r.0 Nil item.Nil refl;
        next = h.next;
        shared = h.shared;
        areas = h.areas;
      }))))

  -- `send`.
  pub send-refused : (m : Reg) (to : To) (terms : Terms) (names : List (List ℕ)) → receiver to (one_process items) ≡ None
      → Follows {A = Unit {0}} (step s (said (OfProcess seat.pid (verb.Send m to)) terms names)) s (Err refusal.BadArg) (TrialStands alive items)
  send-refused m to terms names none =
      let p : Parsed = said (OfProcess seat.pid (verb.Send m to)) terms names in
      let P : Option ℕ → Type 0 = λ o. Follows {A = Unit {0}} (send_to o (register m.0 (one_process items)) s p) s (Err refusal.BadArg) (TrialStands alive items) in
      at-process (λ o. Follows {A = Unit {0}} o s (Err refusal.BadArg) (TrialStands alive items)) p (verb.Send m to) (subst P (sym none) (refl, h))

  -- No other process lives that could get it.
  pub send-lost : (m : Reg) (to : To) (n : ℕ) (terms : Terms) (names : List (List ℕ)) → receiver to (one_process items) ≡ Some n → (n ≡ seat.pid → ⊥)
      → Follows {A = Unit {0}} (step s (said (OfProcess seat.pid (verb.Send m to)) terms names)) s (Ok tt) (TrialStands alive items)
  send-lost m to n terms names goes other =
      let p : Parsed = said (OfProcess seat.pid (verb.Send m to)) terms names in
      let x : Item = get_or items m.0 item.Nil in
      let F : Outcome → Type 0 = λ o. Follows {A = Unit {0}} o s (Ok tt) (TrialStands alive items) in
      let P : Option ℕ → Type 0 = λ o. F (send_to o (register m.0 (one_process items)) s p) in
      let Q : Tree → Type 0 = λ t. F (send_to (Some n) t s p) in
      let R : Bool → Type 0 = λ b. F (send_within b n (alone x) s p) in
      at-process F p (verb.Send m to) (subst P (sym goes) (subst Q (sym (in-register m.0)) (subst R (sym (near s.shared x)) (record {
        processes = same n (alone x) (not-first n seat.pid other l.first);
        next = h.next;
        shared = h.shared;
        areas = h.areas;
      }))))
    where
      not-first : (n k : ℕ) → (n ≡ k → ⊥) → k ≡ 1 → (1 == n) ≡ false
      not-first n k e f = grind (arith, nat_tests, e, f)

      stays : (b : Bool) (t : Tree) → b ≡ false
          → (if b then record (one_process items) { queue = [] ++ t ∷ [] } else one_process items) ∷ [] ≡ one_process items ∷ []
      stays true t e = absurd (cc)
      stays false t e = refl

      same : (n : ℕ) (t : Tree) → (1 == n) ≡ false → map (with_queued n t) s.processes ≡ processes_of alive items
      same n t e = ap (map (with_queued n t)) only ∙ (stays (1 == n) t e ∙ ap (λ z. processes_of z items) (sym l.lives))

  pub send-lacks : (m : Reg) (to : To) (n : ℕ) (terms : Terms) (names : List (List ℕ)) → receiver to (one_process items) ≡ Some 1 → n ≡ MESSAGE_COST + flat (alone (get_or items m.0 item.Nil))
      → Becomes {A = Unit {0}} 0 s (said (OfProcess seat.pid (verb.Send m to)) terms names)
      (Err (refusal.NoSpace n)) (TrialStands alive items)
  send-lacks m to n terms names goes count =
      let p : Parsed = said (OfProcess seat.pid (verb.Send m to)) terms names in
      let x : Item = get_or items m.0 item.Nil in
      let G : Outcome → Type 0 = λ o. gets_to_space (OfProcess seat.pid (verb.Send m to)) o ≡ true in
      let P : Option ℕ → Type 0 = λ o. G (send_to o (register m.0 (one_process items)) s p) in
      let Q : Tree → Type 0 = λ t. G (send_to (Some 1) t s p) in
      let R : Bool → Type 0 = λ b. G (send_within b 1 (alone x) s p) in
      let alive : is_live 1 s ≡ true = ap (list_any (λ p. p.number == 1)) only in
      let asked : send_words (receiver to (one_process items)) s (register m.0 (one_process items)) ≡ n =
      ap (λ o. send_words o s (register m.0 (one_process items))) goes
      ∙ (ap (λ b. if b then MESSAGE_COST + flat (register m.0 (one_process items)) else 0) alive ∙ (ap (λ t. MESSAGE_COST + flat t) (in-register m.0) ∙ sym count)) in
      lacks (verb.Send m to) terms names n asked (omega (arith, count)) (subst P (sym goes) (subst Q (sym (in-register m.0)) (subst R (sym (near s.shared x)) refl)))

  -- `flat`.
  pub flat-told : (m : Reg) (terms : Terms) (names : List (List ℕ)) (n : ℕ) → n ≡ flat (alone (get_or items m.0 item.Nil))
      → Tells (step s (said (OfProcess seat.pid (verb.Flat m)) terms names)) (λ (x : Measure). decimal x.flat) (Ok (record { nodes = 1; flat = n }))
  flat-told m terms names n e =
      let p : Parsed = said (OfProcess seat.pid (verb.Flat m)) terms names in
      let x : Item = get_or items m.0 item.Nil in
      let T : Outcome → Type 0 = λ o. Tells o (λ (x : Measure). decimal x.flat) (Ok (record { nodes = 1; flat = n })) in
      let P : Tree → Type 0 = λ t. T (tells s (flat_text s t)) in
      let Q : Bool → Type 0 = λ b. T (tells s (unless_beyond b (decimal (flat (alone x))))) in
      at-process T p (verb.Flat m) (subst P (sym (in-register m.0)) (subst Q (sym (near s.shared x)) (ap decimal (sym e))))

  -- `eq` and `cmp`.
  pub order-told : (a b : Reg) (v : Verb) (tell : Ordering → List ℕ) (terms : Terms) (names : List (List ℕ)) (x y : Item) (o : Ordering)
      → by_verb s (said (OfProcess seat.pid v) terms names) (one_process items) v
      ≡ tells s (order_text s (said (OfProcess seat.pid v) terms names) tell (register a.0 (one_process items)) (register b.0 (one_process items)))
      → x ≡ get_or items a.0 item.Nil → y ≡ get_or items b.0 item.Nil → o ≡ order names [] (alone x) (alone y)
      → Tells (step s (said (OfProcess seat.pid v) terms names)) tell (Ok o)
  order-told a b v tell terms names x y o is first second e =
      let p : Parsed = said (OfProcess seat.pid v) terms names in
      let T : Outcome → Type 0 = λ z. Tells z tell (Ok o) in
      let P : Tree → Type 0 = λ t. T (tells s (order_text s p tell t (register b.0 (one_process items)))) in
      let Q : Tree → Type 0 = λ t. T (tells s (order_text s p tell (alone x) t)) in
      let R : Bool → Type 0 = λ c. T (tells s (unless_beyond c (tell (order names s.shared (alone x) (alone y))))) in
      let within : (is_beyond s.shared (alone x) || is_beyond s.shared (alone y)) ≡ false = rw (near s.shared x, near s.shared y) refl in
      at-process T p v (subst T (sym is) (subst P (sym (in-register a.0 ∙ ap alone (sym first))) (subst Q (sym (in-register b.0 ∙ ap alone (sym second))) (subst R (sym within)
      (ap (λ z. tell (order names z (alone x) (alone y))) h.shared ∙ ap tell (sym e))))))

  -- `print`: what holds of the outcome that has the item's text is told of the step.
  by-text : (P : Outcome → Type 0) (m : Reg) (terms : Terms) (names : List (List ℕ)) (x : Item) → x ≡ get_or items m.0 item.Nil → P (tells s (Ok (text names [] (alone x))))
      → P (step s (said (OfProcess seat.pid (verb.Print m)) terms names))
  by-text P m terms names x is k =
      let p : Parsed = said (OfProcess seat.pid (verb.Print m)) terms names in
      let Q : Tree → Type 0 = λ t. P (tells s (unless_beyond (is_beyond s.shared t) (text names s.shared t))) in
      let R : Bool → Type 0 = λ b. P (tells s (unless_beyond b (text names s.shared (alone x)))) in
      let V : List (List ℕ) → Type 0 = λ z. P (tells s (Ok (text names z (alone x)))) in
      at-process P p (verb.Print m) (subst Q (sym (in-register m.0 ∙ ap alone (sym is))) (subst R (sym (near s.shared x)) (subst V (sym h.shared) k)))

  pub printed : {K : Type 0} (m : Reg) (terms : Terms) (names : List (List ℕ)) (wrote : K → List ℕ → Type 0) (old new : K) (x : Item) → x ≡ get_or items m.0 item.Nil
      → Grew wrote old new (text names [] (alone x)) → Prints {A = Unit {0}} (step s (said (OfProcess seat.pid (verb.Print m)) terms names)) wrote old new (Ok tt)
  printed m terms names wrote old new x is g = by-text (λ o. Prints {A = Unit {0}} o wrote old new (Ok tt)) m terms names x is g

  pub unprinted : {K : Type 0} (m : Reg) (terms : Terms) (names : List (List ℕ)) (wrote : K → List ℕ → Type 0) (old new : K) (x : Item) → x ≡ get_or items m.0 item.Nil
      → GrewInPart wrote old new (text names [] (alone x)) → Prints {A = Unit {0}} (step s (said (OfProcess seat.pid (verb.Print m)) terms names)) wrote old new (Err Fault)
  unprinted m terms names wrote old new x is g = by-text (λ o. Prints {A = Unit {0}} o wrote old new (Err Fault)) m terms names x is g

  -- The nodes of a register's tree.
  pub nodes-told : (m : Reg) (q : Process) → process_of seat.pid s ≡ Some q → 1 ≡ nodes s.shared (register m.0 q)
  nodes-told m q e =
      let same : one_process items ≡ q = same_Some (one_process items) q (sym found ∙ e) in
      sym (ap (λ (z : Process). nodes s.shared (register m.0 z)) (sym same) ∙ ap (nodes s.shared) (in-register m.0) ∙ one-node s.shared (get_or items m.0 item.Nil))
