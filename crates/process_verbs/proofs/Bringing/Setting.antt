-- `set` and `fun`: a term comes from outside the registers, or is refused, or there is no space.
use Rattle.std.proofs.Common.{Vec, ◌≡◌, ℕ, ◌+◌, ◌-◌, ◌^◌, min, ◌<◌, ◌≤◌, Bool, true, false, true≢false, List, length, map, set, Option, Result, Ok, Err, IsErrAnd, refl, sym, ◌∙◌, ap, subst, arith, inl, max, [], ◌∷◌, replicate}
use Rattle.std.specs.Vec.{vec_len}
use Rattle.std.specs.declared.alloc.Global.{Global}
use Rattle.plain_term.specs.declared.item.Item.{Item}
use Rattle.plain_term.specs.Tree.{Tree}
use Rattle.script_grammar.specs.Names.{Parsed, held_terms}
use Rattle.script_grammar.specs.declared.command.Command.TheVariants.{Process as OfProcess}
use Rattle.script_grammar.specs.declared.command.Reg.{Reg}
use Rattle.script_grammar.specs.declared.command.Verb.{Verb}
use Rattle.script_grammar.specs.declared.command.Verb.TheVariants as verb
use Rattle.script_grammar.specs.declared.refusal.Refusal.{Refusal}
use Rattle.script_grammar.specs.declared.refusal.Refusal.TheVariants as refusal
use Rattle.script_grammar.specs.Written.{Term, Terms, terms_len}
use Rattle.plain_machine.specs.Flaws.{flaw_of, is_big, is_wide}
use Rattle.plain_machine.specs.Laws.{AreWithin}
use Rattle.plain_machine.specs.Made.{tree_of, trees_of_terms}
use Rattle.plain_machine.specs.May.{gets_to_space}
use Rattle.plain_machine.specs.State.{Process, State, with_register, register, with_process}
use Rattle.plain_machine.specs.Step.{does, settled, unless_flawed, with_made, by_verb, env_of, fun_if}
use Rattle.plain_machine.specs.Step.Outcome.{Accepted}
use Rattle.plain_machine.proofs.Properly.Holding.{put-within}
use Rattle.space_api.specs.Calls.{HasTerm, IsWrittenTerm, one_term, said, Becomes, HasEnv, IsEnv}
use Rattle.space_api.specs.declared.space.Seat.{Seat}
use Rattle.item_build.specs.Reading.{far_words_of, heap_words_of}
use Rattle.item_build.specs.declared.building.BuildStop.{BuildStop}
use Rattle.item_build.specs.declared.building.BuildStop.TheVariants as stop
use Rattle.item_build.proofs.Meaning.Whole.{words-apart}
use Rattle.item_build.proofs.Meaning.Written.{is-written, term-words, words-few}
use Rattle.heaps_api.specs.Meaning.{Meaning}
use Rattle.heaps_api.specs.Changing.{Looks, process_at, GainsFun, register_trees}
use Rattle.heaps_api.specs.Reading.{waiting_trees}
use Rattle.heaps_api.specs.Wanted.{words_of_want}
use Rattle.heaps_api.specs.Written.{GainsTerm, refusal_of_stop, want_of_items}
use Rattle.heaps_api.specs.declared.wanted.Want.{Want}
use Rattle.heaps_api.specs.declared.wanted.Want.TheVariants as want
use Rattle.std.proofs.lemmas.Bool.{le-ltb, lt-ltb}
use Rattle.std.proofs.lemmas.List.{length-map, length-replicate}
use Rattle.plain_term.specs.declared.item.Item.TheVariants as item
use Rattle.plain_term.specs.Tree.Tree.{Fun}
use Rattle.plain_term.specs.Tree.Trees.{◌▹◌}
use Rattle.script_grammar.specs.declared.refusal.Refusal.TheVariants.{BadArg}
use Rattle.plain_machine.specs.declared.limits.TheConstants.{MOST_ARITY}
use Rattle.process_verbs.specs.Verbs.{Holds, Sits, VerbsStand, memory_words}
use Rattle.process_verbs.specs.Asked.{Searches, roomed}
use Rattle.process_verbs.specs.Doing.{Asks, Builds, is_nospace}
use Rattle.process_verbs.specs.declared.verbs.Verbs.{Verbs}
use Rattle.process_verbs.proofs.Processes.{number-there, replaced, set-there, settled-stands, within-at}
use Rattle.process_verbs.proofs.Steps.{at-seat, counts-gained, grow-there, heaps-are, holds-roomed, lacking-told, lacks-space, looks-found, looks-lacking}
use Rattle.process_verbs.proofs.Bringing.Gaining.{asks-gained, asks-lacks}

-- `set`: a written term is built in a register, or it is refused for its maps, or there is no space.

-- The words that were reckoned are those of the items.
module _ (names : List (List ℕ)) (code : List Item) (t : HasTerm names code) (few : length names ≤ 16384) where
  needs-few : heap_words_of code + far_words_of code < 2 ^ 64 - 1
  needs-few = omega (arith, words-apart code, words-few (length names) 16 code (is-written names code t.term 16 t.is t.named few (omega arith)) t.few)

  heap-needed : (n : ℕ) → n ≡ min (heap_words_of code) (2 ^ 64 - 1) → n ≡ heap_words_of code
  heap-needed n is = omega (arith, is, needs-few)

  far-needed : (n : ℕ) → n ≡ min (far_words_of code) (2 ^ 64 - 1) → n ≡ far_words_of code
  far-needed n is = omega (arith, is, needs-few)

  pub both-few : (n k : ℕ) → n ≡ min (heap_words_of code) (2 ^ 64 - 1) → k ≡ min (far_words_of code) (2 ^ 64 - 1) → n + k < 2 ^ 64
  both-few n k a b = omega (arith, heap-needed n a, far-needed k b, needs-few)

-- A written term gets to the want of space, whatever its flaw.
gets-flawed : (big wide : Bool) (pid : ℕ) (r : Reg) (next : State) (reply : List ℕ) → gets_to_space (OfProcess pid (verb.Set r)) (unless_flawed (flaw_of big wide) (Accepted next reply)) ≡ true
gets-flawed true wide pid r next reply = refl
gets-flawed false true pid r next reply = refl
gets-flawed false false pid r next reply = refl

no-nospace : (e : BuildStop) → is_nospace {A = Unit {0}} (Err (refusal_of_stop e)) ≡ false
no-nospace stop.Big = refl
no-nospace stop.Size = refl

-- After a search, with another memory and row, more shared binaries, and a number above all names.
abbrev pub termed : {H : Type 0} → Verbs H → H → Vec ℕ Global → (serials named : ℕ) → (swept : Bool) → Verbs H
termed b h row serials named swept = record { heaps = h; scratch = row; next = b.next; serials = serials; named = named; calls = b.calls; swept = swept }

module _ {H : Type 0} (m : Meaning H) (b : Verbs H) (holds : Holds m b) (seat : Seat) (x : Sits m b seat) (r : Reg) (names : List (List ℕ)) (code : List Item)
    (has : HasTerm names code) (more : b.named ≤ length names) where
  abbrev v : Verb
  v = verb.Set r

  abbrev wanted : Want
  wanted = want_of_items seat.row code

  abbrev line : Term → Parsed
  line t = said (OfProcess seat.pid v) (one_term t) names

  abbrev q_in : State → Process
  q_in s = process_at s.processes seat.row

  abbrev made : State → Term → Tree × List (List ℕ)
  made s t = tree_of names (q_in s).registers t s.shared

  abbrev flaw : State → Term → Option Refusal
  flaw s t = flaw_of (is_big names (q_in s).registers t s.shared) (is_wide names (q_in s).registers t s.shared)

  -- What there was before the search is as it was.
  set-lacks : (h : H) (looks : Looks m wanted b.heaps h false) → Builds {A = Unit {0}} m names seat.pid r code b (roomed b h) (Err (refusal.NoSpace (words_of_want wanted)))
  set-lacks h looks = record {
    holds = holds-roomed m b holds wanted h false looks;
    becomes = λ s t o is.
        lacks-space m b holds wanted h false looks refl (Unit {0}) s (line t) o
        (grow-there m b holds seat x v s o (one_term t) names ∙ omega (arith, term-words names t code is, words-apart code))
        (rw (at-seat m b holds seat x v s o (one_term t) names)
        (gets-flawed (is_big names (q_in s).registers t s.shared) (is_wide names (q_in s).registers t s.shared) seat.pid r (settled (line t) (with_made s (q_in s) r.0 (made s t))) _));
    books = record { same_words = looks.stays.goes.words; one_call = omega arith; few_names = omega arith };
    refused = omega arith;
  }

  module _ (h : H) (looks : Looks m wanted b.heaps h true) (h2 : H) (row : Vec ℕ Global) (same_row : vec_len row ≡ vec_len b.scratch) where
    -- It was built.
    module _ (bins named : ℕ) (named_is : named ≡ length names) (gains : GainsTerm m names seat.row r b.serials code h h2 (Ok bins)) where
      abbrev b4 : Verbs H
      b4 = termed (roomed b h) h2 row (b.serials + bins) named false

      set-stands : (s : State) (t : Term) (o : VerbsStand m b s) → IsWrittenTerm names code t → VerbsStand m b4 (settled (line t) (with_made s (q_in s) r.0 (made s t)))
      set-stands s t o is =
          let kept = looks.kept b.named s.shared s.processes o.processes in
          let it = gains.built b.named s.shared s.processes t kept o.shared more is in
          let q : Process = with_register r.0 ((made s t).0) (q_in s) in
          let same : map (replaced q) s.processes ≡ set s.processes seat.row q = set-there m b s o holds.counts seat x q (number-there m b s o holds.counts seat x) in
          let W : AreWithin ((made s t).1) (waiting_trees s.processes) = gains.within b.named s.shared s.processes t kept o.shared is o.within in
          settled-stands m b b4 s (line t) q ((made s t).1) o (rw (same, named_is) it.1.1) refl refl (omega (arith, it.1.0, o.shared)) (λ e. absurd (true≢false (sym e)))
          (put-within ((made s t).1) q s.processes (within-at ((made s t).1) s.processes seat.row W) W)

      set-builds : Builds {A = Unit {0}} m names seat.pid r code b b4 (Ok tt)
      set-builds = record {
        holds = record {
          counts = counts-gained m b holds wanted h true looks b4 gains.stays same_row refl refl (omega (arith, holds.counts.serials, gains.few, has.few));
          state = _;
          stands = set-stands holds.state has.term holds.stands has.is;
        };
        becomes = λ s t o is.
            let it = gains.built b.named s.shared s.processes t (looks.kept b.named s.shared s.processes o.processes) o.shared more is in
            inl (rw (at-seat m b holds seat x v s o (one_term t) names, ap (λ z. unless_flawed z (does (line t) (with_made s (q_in s) r.0 (made s t)))) it.0) (set-stands s t o is));
        books = record { same_words = gains.stays.goes.words ∙ looks.stays.goes.words; one_call = omega arith; few_names = omega (arith, named_is) };
        refused = tt;
      }

    -- It was refused.
    module _ (e : BuildStop) (gains : GainsTerm m names seat.row r b.serials code h h2 (Err e)) where
      abbrev b5 : Verbs H
      b5 = termed (roomed b h) h2 row b.serials b.named b.swept

      stop-stands : (s : State) (t : Term) (o : VerbsStand m b s) → IsWrittenTerm names code t → VerbsStand m b5 s
      stop-stands s t o is = record {
        processes = (gains.built b.named s.shared s.processes t (looks.kept b.named s.shared s.processes o.processes) o.shared more is).1;
        next = o.next;
        swept = o.swept;
        shared = o.shared;
        areas = o.areas;
        within = o.within;
        tidy = λ k. gains.tidy (looks.tidy (o.tidy k));
      }

      set-stops : Builds {A = Unit {0}} m names seat.pid r code b b5 (Err (refusal_of_stop e))
      set-stops = record {
        holds = record {
          counts = counts-gained m b holds wanted h true looks b5 gains.stays same_row refl refl (omega (arith, holds.counts.serials));
          state = holds.state;
          stands = stop-stands holds.state has.term holds.stands has.is;
        };
        becomes = λ s t o is.
            let it = gains.built b.named s.shared s.processes t (looks.kept b.named s.shared s.processes o.processes) o.shared more is in
            inl (rw (at-seat m b holds seat x v s o (one_term t) names, ap (λ z. unless_flawed z (does (line t) (with_made s (q_in s) r.0 (made s t)))) it.0) (refl, stop-stands s t o is));
        books = record { same_words = gains.stays.goes.words ∙ looks.stays.goes.words; one_call = omega arith; few_names = omega arith };
        refused = omega arith;
      }

  -- All of this of what was searched.
  module _ (few : length names ≤ 16384) (n k : ℕ) (heap : n ≡ min (heap_words_of code) (2 ^ 64 - 1)) (far : k ≡ min (far_words_of code) (2 ^ 64 - 1)) (c : Verbs H)
      (res : Result (Unit {0}) Refusal) (f : Searches m (want.Words seat.row n k) b c res) where
    searched : Searches m wanted b c res
    searched = rw (← heap-needed names code has few n heap, ← far-needed names code has few k far) f

    module _ (e : Refusal) (is : res ≡ Err e) (out : Result (Unit {0}) Refusal) (as_it : IsErrAnd out (λ y. y ≡ e)) where
      at-none : out ≡ Err (refusal.NoSpace (words_of_want wanted))
      at-none = lacking-told m b c wanted res searched e is out as_it

      pub none-builds : Builds {A = Unit {0}} m names seat.pid r code b c out
      none-builds = rw (searched.same, at-none) (set-lacks searched.heaps (looks-lacking m b c wanted res searched e is))

      pub none-asks : Asks {A = Unit {0}} m wanted b c out
      none-asks = rw (searched.same, at-none) (asks-lacks m b holds (Unit {0}) wanted searched.heaps (looks-lacking m b c wanted res searched e is) (words_of_want wanted))

    module _ (u : Unit {0}) (is : res ≡ Ok u) where
      some-looks : Looks m wanted b.heaps searched.heaps true
      some-looks = looks-found m b c wanted res searched u is

      same-heaps : c.heaps ≡ searched.heaps
      same-heaps = heaps-are m b c wanted res searched

      pub some-room : m.has_room wanted c.heaps
      some-room = rw same-heaps (some-looks.room refl)

      module _ (h2 : H) (row : Vec ℕ Global) (same_row : vec_len row ≡ vec_len c.scratch) where
        -- What was told of the row and of the building, of the verbs after the search.
        told : (result : Result ℕ BuildStop) → GainsTerm m names seat.row r c.serials code c.heaps h2 result
            → (vec_len row ≡ vec_len b.scratch) × GainsTerm m names seat.row r b.serials code searched.heaps h2 result
        told result gains =
            let P : Verbs H → Type 0 = λ z. (vec_len row ≡ vec_len z.scratch) × GainsTerm m names seat.row r z.serials code z.heaps h2 result in
            subst P searched.same (same_row, gains)

        module _ (bins named : ℕ) (named_is : named ≡ length names) (gains : GainsTerm m names seat.row r c.serials code c.heaps h2 (Ok bins)) where
          pub some-builds : Builds {A = Unit {0}} m names seat.pid r code b (termed c h2 row (c.serials + bins) named false) (Ok tt)
          some-builds = let k = told (Ok bins) gains in rw searched.same (set-builds searched.heaps some-looks h2 row k.0 bins named named_is k.1)

          pub some-asks : Asks {A = Unit {0}} m wanted b (termed c h2 row (c.serials + bins) named false) (Ok tt)
          some-asks = asks-gained m b holds (Unit {0}) wanted searched.heaps some-looks (termed c h2 row (c.serials + bins) named false) tt (told (Ok bins) gains).1.took

        module _ (e : BuildStop) (gains : GainsTerm m names seat.row r c.serials code c.heaps h2 (Err e)) (out : Refusal) (out_is : out ≡ refusal_of_stop e) where
          pub stop-builds : Builds {A = Unit {0}} m names seat.pid r code b (termed c h2 row c.serials c.named c.swept) (Err out)
          stop-builds = let k = told (Err e) gains in rw (searched.same, out_is) (set-stops searched.heaps some-looks h2 row k.0 e k.1)

          pub stop-asks : Asks {A = Unit {0}} m wanted b (termed c h2 row c.serials c.named c.swept) (Err out)
          stop-asks =
              let not_so : is_nospace {A = Unit {0}} (Err out) ≡ false = rw out_is (no-nospace e) in
              record {
                heaps = searched.heaps;
                there = true;
                looked = some-looks.looked;
                exact = not_so;
                lacking = λ z. absurd (true≢false (sym z ∙ not_so));
                given_back = (told (Err e) gains).1.gave_back;
                few = tt;
              }

-- `fun`: a fun in a register, whose environment are terms of registers, or there is no space.

terms-len : (rs : List ℕ) → terms_len (held_terms rs) ≡ length rs
terms-len [] = refl
terms-len (r ∷ rs) = omega (arith, terms-len rs)

trees-are : (names shared : List (List ℕ)) (q : Process) (rs : List ℕ) → (trees_of_terms names q.registers (held_terms rs) shared).0 ≡ register_trees q rs
trees-are names shared q [] = refl
trees-are names shared q (r ∷ rs) = ap (λ z. register r q ▹ z) (trees-are names shared q rs)

-- After a search, with another memory and row, and a number above all names.
abbrev pub funned : {H : Type 0} → Verbs H → H → Vec ℕ Global → ℕ → Verbs H
funned b h row named = record { heaps = h; scratch = row; next = b.next; serials = b.serials; named = named; calls = b.calls; swept = false }

module _ {H : Type 0} (m : Meaning H) (b : Verbs H) (holds : Holds m b) (seat : Seat) (x : Sits m b seat) (r : Reg) (name arity : ℕ) (env : List Item) where
  abbrev fun_verb : Verb
  fun_verb = verb.Fun r name arity

  abbrev fun_want : Want
  fun_want = want.Words seat.row (6 + length env) 4

  abbrev fun_line : Terms → List (List ℕ) → Parsed
  fun_line terms names = said (OfProcess seat.pid fun_verb) terms names

  pub fun-refused : MOST_ARITY < arity → (s : State) (terms : Terms) (names : List (List ℕ)) → VerbsStand m b s → HasEnv names name env terms
      → Becomes {A = Unit {0}} (memory_words m b) s (fun_line terms names) (Err BadArg) (VerbsStand m b)
  fun-refused many s terms names o has =
      let q : Process = process_at s.processes seat.row in
      let by = ap (λ z. fun_if z (Fun name arity q.number (env_of s (fun_line terms names) q)) s (fun_line terms names) q r.0) (lt-ltb MOST_ARITY arity many) in
      inl (rw (at-seat m b holds seat x fun_verb s o terms names, by) (refl, o))

  module _ (few : arity ≤ MOST_ARITY) where
    asked : (names : List (List ℕ)) (terms : Terms) → HasEnv names name env terms → terms_len terms ≡ length env
    asked names terms has = ap terms_len has.written ∙ terms-len has.registers ∙ sym (ap length has.items ∙ length-map has.registers item.Held)

    abbrev fun_made : Process → List ℕ → Process
    fun_made q rs = with_register r.0 (Fun name arity q.number (register_trees q rs)) q

    fun-is : (s : State) (terms : Terms) (names : List (List ℕ)) (has : HasEnv names name env terms)
        → by_verb s (fun_line terms names) (process_at s.processes seat.row) fun_verb ≡ does (fun_line terms names) (with_process (fun_made (process_at s.processes seat.row) has.registers) s)
    fun-is s terms names has =
        let q : Process = process_at s.processes seat.row in
        let trees : env_of s (fun_line terms names) q ≡ register_trees q has.registers =
        ap (λ z. (trees_of_terms names q.registers z s.shared).0) has.written ∙ trees-are names s.shared q has.registers in
        ap (λ z. fun_if z (Fun name arity q.number (env_of s (fun_line terms names) q)) s (fun_line terms names) q r.0) (le-ltb MOST_ARITY arity few)
        ∙ ap (λ z. does (fun_line terms names) (with_process (with_register r.0 (Fun name arity q.number z) q) s)) trees

    module _ (c : Verbs H) (res : Result (Unit {0}) Refusal) (f : Searches m fun_want b c res) where
      pub fun-lacks : (e : Refusal) → res ≡ Err e → (out : Result (Unit {0}) Refusal) → IsErrAnd out (λ y. y ≡ e)
          → (s : State) (terms : Terms) (names : List (List ℕ)) → VerbsStand m b s → HasEnv names name env terms
          → Becomes {A = Unit {0}} (memory_words m b) s (fun_line terms names) out (VerbsStand m c)
      fun-lacks e is out as_it s terms names o has =
          rw (f.same, lacking-told m b c fun_want res f e is out as_it)
          (lacks-space m b holds fun_want f.heaps false (looks-lacking m b c fun_want res f e is) refl (Unit {0}) s (fun_line terms names) o
          (grow-there m b holds seat x fun_verb s o terms names ∙ omega (arith, asked names terms has)) (rw (at-seat m b holds seat x fun_verb s o terms names, fun-is s terms names has) refl))

      module _ (h : H) (looks : Looks m fun_want b.heaps h true) (h2 : H) (gains : GainsFun m seat.row r name arity env h h2)
          (row : Vec ℕ Global) (same_row : vec_len row ≡ vec_len b.scratch) (named : ℕ) (above : named ≡ max b.named (name + 1)) where
        fun-stands : (s : State) (terms : Terms) (names : List (List ℕ)) → VerbsStand m b s → (has : HasEnv names name env terms)
            → VerbsStand m (funned (roomed b h) h2 row named) (settled (fun_line terms names) (with_process (fun_made (process_at s.processes seat.row) has.registers) s))
        fun-stands s terms names o has =
            let q : Process = fun_made (process_at s.processes seat.row) has.registers in
            let same : map (replaced q) s.processes ≡ set s.processes seat.row q = set-there m b s o holds.counts seat x q (number-there m b s o holds.counts seat x) in
            settled-stands m b (funned (roomed b h) h2 row named) s (fun_line terms names) q s.shared o
            (rw same (gains.made b.named named s.shared s.processes has.registers (looks.kept b.named s.shared s.processes o.processes) (omega (arith, above)) (omega (arith, above)) has.items))
            refl refl o.shared (λ e. absurd (true≢false (sym e))) (put-within s.shared q s.processes (within-at s.shared s.processes seat.row o.within) o.within)

        fun-becomes : (s : State) (terms : Terms) (names : List (List ℕ)) → VerbsStand m b s → HasEnv names name env terms
            → Becomes {A = Unit {0}} (memory_words m b) s (fun_line terms names) (Ok tt) (VerbsStand m (funned (roomed b h) h2 row named))
        fun-becomes s terms names o has = inl (rw (at-seat m b holds seat x fun_verb s o terms names, fun-is s terms names has) (fun-stands s terms names o has))

        fun-whole : IsEnv env → Holds m (funned (roomed b h) h2 row named)
        fun-whole is_env =
            let names : List (List ℕ) = replicate (name + 1) [] in
            let has : HasEnv names name env (held_terms is_env.registers) = record {
              registers = is_env.registers;
              items = is_env.items;
              written = refl;
              known = omega (arith, length-replicate {A = List ℕ} (name + 1) []);
            } in
            record {
              counts = counts-gained m b holds fun_want h true looks (funned (roomed b h) h2 row named) gains.stays same_row refl refl (omega (arith, holds.counts.serials));
              state = _;
              stands = fun-stands holds.state (held_terms is_env.registers) names holds.stands has;
            }

      module _ (u : Unit {0}) (is : res ≡ Ok u) (h2 : H) (gains : GainsFun m seat.row r name arity env c.heaps h2) (row : Vec ℕ Global) (same_row : vec_len row ≡ vec_len c.scratch)
          (named : ℕ) (above : named ≡ max c.named (name + 1)) where
        abbrev Told : Verbs H → Type 0
        Told z = GainsFun m seat.row r name arity env z.heaps h2 × ((vec_len row ≡ vec_len z.scratch) × (named ≡ max z.named (name + 1)))

        fun-told : Told (roomed b f.heaps)
        fun-told = subst Told f.same (gains, (same_row, above))

        pub fun-done : (s : State) (terms : Terms) (names : List (List ℕ)) → VerbsStand m b s → HasEnv names name env terms
            → Becomes {A = Unit {0}} (memory_words m b) s (fun_line terms names) (Ok tt) (VerbsStand m (funned c h2 row named))
        fun-done s terms names o has = rw f.same (fun-becomes f.heaps (looks-found m b c fun_want res f u is) h2 fun-told.0 row fun-told.1.0 named fun-told.1.1 s terms names o has)

        pub fun-holds : IsEnv env → Holds m (funned c h2 row named)
        fun-holds is_env = rw f.same (fun-whole f.heaps (looks-found m b c fun_want res f u is) h2 fun-told.0 row fun-told.1.0 named fun-told.1.1 is_env)
