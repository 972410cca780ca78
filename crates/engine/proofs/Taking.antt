-- From what a line says to the step that it comes to.
use Rattle.std.proofs.Common.{◌≡◌, ℕ, ◌<◌, ◌≤◌, ◌⊎◌, inl, inr, Bool, true, false, cond, List, [], ◌∷◌, ◌++◌, length, map, take, refl, sym, ap, subst, ◌∙◌, append-nil, arith}
use Rattle.atom_names.specs.Names.{most_names}
use Rattle.plain_term.specs.declared.item.Item.{Item}
use Rattle.plain_term.specs.declared.item.Item.TheVariants as item
use Rattle.script_grammar.specs.declared.command.Command.{Command}
use Rattle.script_grammar.specs.declared.command.Command.TheVariants.{Nothing as NoCommand, Process, System}
use Rattle.script_grammar.specs.declared.command.Verb.TheVariants.{Info, Heap}
use Rattle.script_grammar.specs.declared.command.SysVerb.TheVariants.{Counts, Dump}
use Rattle.script_grammar.specs.declared.refusal.Refusal.{Refusal}
use Rattle.script_grammar.specs.declared.refusal.Refusal.TheVariants.{Atoms, Syntax}
use Rattle.script_grammar.specs.Written.{Written, Term, joined}
use Rattle.script_grammar.specs.Written.Terms.{end}
use Rattle.script_grammar.specs.declared.word.Word.TheVariants as word
use Rattle.script_grammar.specs.Written.Written.{Nothing, OfProcess, OfSystem}
use Rattle.script_grammar.specs.Grammar.{Says, IsAllowed, IsBuilt}
use Rattle.script_grammar.specs.Names.{Parsed, parsed_of, names_after, command_of, terms_of, all_atoms, all_items, items_of, atoms_of, held_terms, with_names}
use Rattle.plain_machine.specs.May.{may_of_tight}
use Rattle.plain_machine.specs.State.{State}
use Rattle.plain_machine.specs.Step.{is_printing}
use Rattle.plain_machine.specs.Maps.{is_map}
use Rattle.plain_machine.proofs.Properly.Living.{joined-end}
use Rattle.plain_machine.proofs.ByLine.Printing.{prints-none}
use Rattle.script_grammar.specs.ReadAs.{IsRead, SaysNoCommand, BringsTooMany}
use Rattle.plain_machine.specs.Run.{CommandStep, is_nothing}
use Rattle.line_io.specs.Lines.{text as whole_line}
use Rattle.engine.specs.Last.{SaysNothing}
use Rattle.engine.proofs.Lasting.{idle-means}
use Rattle.script_grammar.specs.ReadAs.Reading.{Means, NoSyntax, NoAtoms}
use Rattle.space_api.specs.Calls.{said}
use Rattle.script_parse.specs.declared.buffer.TheConstants.{MOST_ITEMS}
use Rattle.script_parse.specs.Parses.{ReadsLine as Parsing}
use Rattle.script_parse.proofs.OfLines.OneLine.{one_line}
use Rattle.engine.specs.declared.reply.Reply.{Reply}
use Rattle.engine.specs.declared.reply.Reply.TheVariants.{Refused}
use Rattle.engine.specs.Replies.{AllowsMap, Shown, reply_lines, ends_script}
use Rattle.engine.specs.Rules.{After}
use Rattle.engine.specs.Acts.{Acts, Fits, HasCode, TermsFit, Takes, TellsMap, StandsWith, names_left}
use Rattle.script_grammar.proofs.Naming.{ArePlaced, with-names-placed, with-names-more, names-back, names-longer, placed-front, number-below}
use Rattle.engine.proofs.Naming.{items-below, below-all}
use Rattle.space_api.proofs.Naming.{AreNamedBelow}

-- the items of an environment are its registers
held-items : (names : List (List ℕ)) (rs : List ℕ) → all_items names (held_terms rs) ≡ map item.Held rs
held-items names [] = refl
held-items names (r ∷ rs) = ap (λ z. item.Held r ∷ z) (held-items names rs)

env-items : (names : List (List ℕ)) (rs : List ℕ) (code : List Item) → code ≡ all_items names (joined (held_terms rs) end) → code ≡ map item.Held rs
env-items names rs code e = e ∙ (ap (all_items names) (joined-end (held_terms rs)) ∙ held-items names rs)

-- the code of a line that builds is its term
pub has-code : (names : List (List ℕ)) (w : Written) (code : List Item) → IsAllowed w → IsBuilt w → code ≡ all_items names (terms_of w) → length code ≤ MOST_ITEMS
    → ArePlaced names (all_atoms w) → HasCode (command_of names w) names code
has-code names (OfProcess n word.Set ops) code a b e few p =
    let t : Term = ops.1.0 in
    let items : items_of names t ≡ code = sym (e ∙ append-nil (items_of names t)) in
    record {
      term = t;
      is = record { items = items; allowed = a.1.1.0; built = b.1.1.0 };
      named = below-all (length names) code (subst (AreNamedBelow (length names)) items (items-below names t b.1.1.0 (placed-front names (atoms_of t) [] p)));
      few = few;
    }
has-code names (OfProcess n word.Fun ops) code a b e few p = (
  record { registers = ops.1.1.1.0; items = env-items names (ops.1.1.1.0) code e; held = (a.1.1.1.1.0).0; few = (a.1.1.1.1.0).1 },
  number-below names (ops.1.0) (p.0),
)
has-code names (OfProcess n _ ops) code a b e few p = tt
has-code names (OfSystem w ops) code a b e few p = tt
has-code names Nothing code a b e few p = tt

-- its terms are the one of its code
pub terms-fit : (names : List (List ℕ)) (w : Written) (code : List Item) → IsAllowed w → IsBuilt w → code ≡ all_items names (terms_of w) → ArePlaced names (all_atoms w)
    → TermsFit (command_of names w) names code (terms_of w)
terms-fit names (OfProcess n word.Set ops) code a b e p =
    let t : Term = ops.1.0 in
    (t, refl, record { items = sym (e ∙ append-nil (items_of names t)); allowed = a.1.1.0; built = b.1.1.0 })
terms-fit names (OfProcess n word.Fun ops) code a b e p = record {
  registers = ops.1.1.1.0;
  items = env-items names (ops.1.1.1.0) code e;
  written = joined-end (held_terms (ops.1.1.1.0));
  known = number-below names (ops.1.0) (p.0);
}
terms-fit names (OfProcess n _ ops) code a b e p = tt
terms-fit names (OfSystem w ops) code a b e p = tt
terms-fit names Nothing code a b e p = tt

-- what a parse tells, without its record
pub record Told (line : List ℕ) (names : List (List ℕ)) (c : Command) (after : List (List ℕ)) (code : List Item) (w : Written) : Type 0 where
  pub says : Says line w
  pub built : IsBuilt w
  pub command : c ≡ command_of after w
  pub names_are : after ≡ with_names names (all_atoms w)
  pub code_is : code ≡ all_items after (terms_of w)
  pub is : said c (terms_of w) after ≡ parsed_of names w
  pub fits : length after ≤ most_names

pub told : (line : List ℕ) (names : List (List ℕ)) (c : Command) (after : List (List ℕ)) (code : List Item) (w : Written) → Parsing line names c after code w → Told line names c after code w
told line names c after code w r = record {
  says = r.says;
  built = r.built;
  command = ap (λ (p : Parsed). p.command) (sym r.parsed) ∙ ap (λ ns. command_of ns w) (ap (λ (p : Parsed). p.names) r.parsed);
  names_are = ap (λ (p : Parsed). p.names) (sym r.parsed);
  code_is = r.items;
  is = sym r.parsed;
  fits = r.fits;
}

-- a map line prints
map-prints : (c : Command) → is_map c ≡ true → is_printing c ≡ true
map-prints (Process n Info) e = refl
map-prints (Process n Heap) e = refl
map-prints (System Counts) e = refl
map-prints (System Dump) e = refl
map-prints (Process n _) e = absurd (cc)
map-prints (System _) e = absurd (cc)
map-prints NoCommand e = absurd (cc)

-- a line without a command prints nothing, and changes as little
nothing-prints : (c : Command) → is_nothing c ≡ true → is_printing c ≡ true
nothing-prints NoCommand e = refl
nothing-prints (Process n v) e = absurd (cc)
nothing-prints (System v) e = absurd (cc)

module _ (line : List ℕ) (before : List (List ℕ)) (c : Command) (after : List (List ℕ)) (code : List Item) (w : Written) (t : Told line before c after code w) where
  -- the names before a line, and after it
  pub told-longer : length before ≤ length after
  told-longer = subst (λ z. length before ≤ length z) (sym t.names_are) (names-longer before (all_atoms w))

  pub told-back : take (length before) after ≡ before
  told-back = ap (take (length before)) t.names_are ∙ names-back before (all_atoms w)

  -- the code is that of the command
  pub told-code : (items : List Item) → items ≡ code → length code ≤ MOST_ITEMS → HasCode c after items
  told-code items e few =
      let P : Command → Type 0 = λ z. HasCode z after code in
      let placed : ArePlaced after (all_atoms w) = subst (λ z. ArePlaced z (all_atoms w)) (sym t.names_are) (with-names-placed before (all_atoms w)) in
      subst (HasCode c after) (sym e) (subst P (sym t.command) (has-code after w code t.says.allowed t.built t.code_is few placed))

  -- so are its terms, and its names are those before it with more
  pub told-fits : (items : List Item) (s : State) → items ≡ code → before ≡ s.names → Fits c after items (terms_of w) s
  told-fits items s e same = subst (λ z. Fits c after z (terms_of w) s) (sym e) (record {
    term = let P : Command → Type 0 = λ z. TermsFit z after code (terms_of w) in subst P (sym t.command) (terms-fit after w code t.says.allowed t.built t.code_is
        (subst (λ z. ArePlaced z (all_atoms w)) (sym t.names_are) (with-names-placed before (all_atoms w))));
    longer = let m = with-names-more before (all_atoms w) in record { more = m.0; are = t.names_are ∙ m.1 ∙ ap (λ z. z ++ m.0) same };
  })

  -- one that prints brings no name
  pub told-same : is_printing c ≡ true → after ≡ before
  told-same e = t.names_are ∙ ap (with_names before) (prints-none after w (ap is_printing (sym t.command) ∙ e))

  -- the line comes to no other command
  pub told-one : (p : Parsed) → IsRead before line p → p ≡ said c (terms_of w) after
  told-one p r = r.is ∙ ap (parsed_of before) (one_line line r.written w r.says t.says r.built t.built) ∙ sym t.is

  -- so it prints where it comes to one that does
  pub told-prints : (p : Parsed) → IsRead before line p → is_printing p.command ≡ true → is_printing c ≡ true
  told-prints p r e = ap (λ (z : Parsed). is_printing z.command) (sym (told-one p r)) ∙ e

  -- and where it says no command, as nothing does
  pub told-idle : SaysNothing before (whole_line line) → is_printing c ≡ true
  told-idle i = nothing-prints c (idle-means before line (said c (terms_of w) after) (i.0)
      (record { written = w; says = t.says; built = t.built; is = t.is; few = t.fits }) (i.1) (i.2))

  module _ (words : ℕ) (s : State) (reply : Reply) (stands : State → Type 0) (text : List (List ℕ) → Command → List ℕ) (same : before ≡ s.names)
      (a : Acts words s (said c (terms_of w) after) reply (record { stands = stands; text = text after })) where
    -- what the reply is read from, where these are the names
    abbrev seen : (names : List (List ℕ)) → Shown
    seen names = record { state = a.new; names = names; text = text names }

    -- what the line is read as
    reads : IsRead s.names line (said c (terms_of w) after)
    reads = record { written = w; says = t.says; built = t.built; is = t.is ∙ ap (λ z. parsed_of z w) same; few = t.fits }

    read-one : (p : Parsed) → IsRead s.names line p → said c (terms_of w) after ≡ p
    read-one p r = sym (told-one p (subst (λ z. IsRead z line p) (sym same) r))

    -- the names of the state after it, where it is not refused
    left-all : (reply : Reply) → ((e : Refusal) → reply ≡ Refused e → ⊥) → after ≡ names_left reply s (said c (terms_of w) after)
    left-all (Refused e) h = absurd (h e refl)
    left-all _ h = at (is_printing c) (λ e. told-same e ∙ same)
      where
        at : (b : Bool) → (b ≡ true → after ≡ s.names) → after ≡ cond b s.names after
        at true k = k refl
        at false k = refl

    -- the line was done
    pub takes-done : ((e : Refusal) → reply ≡ Refused e → ⊥) → Takes words s line reply (record { stands = stands; text = text after }) after
    takes-done h = record {
      new = a.new;
      stands = (a.stands, left-all reply h ∙ sym a.names);
      steps = λ m. record { reading = Means (said c (terms_of w) after); reads = reads; follows = a.steps m };
      maps = λ p r. let P : Parsed → Type 0 = λ z. TellsMap s z (text after) (reply_lines reply (seen after)) in subst P (read-one p r) a.maps;
    }

    -- the line was refused, and its names were given back
    pub takes-refused : (e : Refusal) (names : List (List ℕ)) → reply ≡ Refused e → names ≡ before → Takes words s line reply (record { stands = stands; text = text names }) names
    takes-refused e names k back = record {
      new = a.new;
      stands = (a.stands, back ∙ same ∙ sym (a.names ∙ ap (λ x. names_left x s (said c (terms_of w) after)) k));
      steps = λ m. record {
        reading = Means (said c (terms_of w) after);
        reads = reads;
        follows = subst (λ z. CommandStep may_of_tight words s (said c (terms_of w) after) (ends_script reply) z a.new) (lines names) (a.steps (no-map));
      };
      maps = λ p r. let P : Parsed → Type 0 = λ z. TellsMap s z (text names) (reply_lines reply (seen names)) in
          subst P (read-one p r) (λ m o. sym (lines names) ∙ a.maps m o ∙ ap (λ z. text z c ∷ []) (told-same (map-prints c m) ∙ sym back));
    }
      where
        no-map : AllowsMap reply (seen after)
        no-map = subst (λ x. AllowsMap x (seen after)) (sym k) tt

        lines : (names : List (List ℕ)) → reply_lines reply (seen after) ≡ reply_lines reply (seen names)
        lines names = ap (λ x. reply_lines x (seen after)) k
            ∙ sym (ap (λ x. reply_lines x (seen names)) k)

-- the line is refused before it comes to a command
pub takes-nothing : (words : ℕ) (s : State) (line : List ℕ) (e : Refusal) (before names : List (List ℕ)) (after : After)
    → StandsWith after.stands before s → names ≡ before → (e ≡ Syntax) ⊎ (e ≡ Atoms)
    → (e ≡ Syntax → SaysNoCommand line) → (e ≡ Atoms → BringsTooMany before line) → Takes words s line (Refused e) after names
takes-nothing words s line e before names after st same (inl h) out over =
    let P : Refusal → Type 0 = λ z. Takes words s line (Refused z) after names in
    subst P (sym h) (record {
      new = s;
      stands = (st.0, same ∙ st.1);
      steps = λ m. record { reading = NoSyntax; reads = out h; follows = record { goes_on = refl; said = refl; same = refl } };
      maps = λ p r. absurd (out h r.written r.says r.built);
    })
takes-nothing words s line e before names after st same (inr h) out over =
    let P : Refusal → Type 0 = λ z. Takes words s line (Refused z) after names in
    let many : BringsTooMany s.names line = subst (λ z. BringsTooMany z line) st.1 (over h) in
    subst P (sym h) (record {
      new = s;
      stands = (st.0, same ∙ st.1);
      steps = λ m. record { reading = NoAtoms; reads = many; follows = record { goes_on = refl; said = refl; same = refl } };
      maps = λ p r. absurd (not-both s.names line p r many);
    })
  where
    -- a line that brings too many names comes to no command
    not-both : (names : List (List ℕ)) (line : List ℕ) (p : Parsed) → IsRead names line p → BringsTooMany names line → ⊥
    not-both names line p r b =
        let one : b.written ≡ r.written = one_line line b.written r.written b.says r.says b.built r.built in
        let few : length (names_after names r.written) ≤ most_names = subst (λ (z : Parsed). length z.names ≤ most_names) r.is r.few in
        let many : most_names < length (names_after names r.written) = subst (λ z. most_names < length (names_after names z)) one b.many in
        omega arith
