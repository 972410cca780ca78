-- What a whole line comes to.
use Rattle.std.proofs.Common.{◌≡◌, ℕ, ◌≤◌, Bool, true, false, List, [], ◌++◌, length, take, Some, None, refl, sym, ◌∙◌, ap, subst, arith}
use Rattle.std.proofs.lemmas.List.{append-nil}
use Rattle.std.proofs.Math.Seq.{take-length}
use Rattle.atom_names.specs.Names.{most_names}
use Rattle.plain_term.specs.declared.item.Item.{Item}
use Rattle.script_grammar.specs.Written.{Written, Terms}
use Rattle.script_grammar.specs.Grammar.{IsBuiltCommand}
use Rattle.script_grammar.specs.Names.{Parsed, names_after, command_of, terms_of, all_items, IsInBounds}
use Rattle.script_grammar.specs.ReadAs.{SaysNoCommand, BringsTooMany}
use Rattle.script_grammar.specs.declared.command.Command.{Command}
use Rattle.script_grammar.proofs.Commands.{command-built, command-bounded}
use Rattle.script_parse.specs.Output.{Out, out, NamesStay}
use Rattle.script_parse.specs.Parses.{ReadsLine}
use Rattle.script_parse.specs.Reading.{line_run}
use Rattle.script_parse.proofs.Stepwise.Tools.{none-some}
use Rattle.script_parse.proofs.OfLines.LineSound.{LineRead, line-read}
use Rattle.script_parse.proofs.OfLines.LineComplete.{line-any}

parsed : (c d : Command) (ts : Terms) (names after : List (List ℕ)) → c ≡ d → names ≡ after
    → ◌≡◌ {A = Parsed} (record { command = c; terms = ts; names = names }) (record { command = d; terms = ts; names = after })
parsed c d ts names after e f = let g : ◌≡◌ {A = Parsed} (record { command = c; terms = ts; names = names }) (record { command = d; terms = ts; names = names })
    = ap (λ (z : Command). record { command = z; terms = ts; names = names }) e in
    let h : ◌≡◌ {A = Parsed} (record { command = d; terms = ts; names = names }) (record { command = d; terms = ts; names = after })
    = ap (λ (z : List (List ℕ)). record { command = d; terms = ts; names = z }) f in g ∙ h

-- A line that was read, where each name found a place.
pub said : (line : List ℕ) (names : List (List ℕ)) (c : Command) (after : List (List ℕ)) (full : Bool) (code : List Item) → line_run line (out names false []) ≡ Some (c, out after full code)
    → full ≡ false → length names ≤ most_names → (w : Written) × ReadsLine line names c after code w
said line names c after full code h e few = let r : LineRead line (out names false []) c (out after full code) = line-read line (out names false []) c (out after full code) h in
    let known : after ≡ names_after names r.written = r.put.names e in
    let items : code ≡ all_items (after ++ []) (terms_of r.written) = r.put.items e [] in (
      r.written,
      record {
        says = r.says;
        built = r.built;
        parsed = parsed (command_of (names_after names r.written) r.written) c (terms_of r.written) (names_after names r.written) after
            (ap (λ (z : List (List ℕ)). command_of z r.written) (sym known ∙ sym (append-nil after)) ∙ sym (r.is e [])) (sym known);
        items = items ∙ ap (λ (z : List (List ℕ)). all_items z (terms_of r.written)) (append-nil after);
        fits = r.put.fits e few;
      },
    )

-- Its verb is built, and its numbers are in their bounds.
pub command-fits : (line : List ℕ) (names : List (List ℕ)) (c : Command) (after : List (List ℕ)) (full : Bool) (code : List Item) → line_run line (out names false []) ≡ Some (c, out after full code)
    → full ≡ false → length names ≤ most_names → IsBuiltCommand c × IsInBounds c
command-fits line names c after full code h e few = let r : (w : Written) × ReadsLine line names c after code w = said line names c after full code h e few in
    let is : command_of (names_after names r.0) r.0 ≡ c = ap (λ (p : Parsed). p.command) r.1.parsed in
    let known : names_after names r.0 ≡ after = ap (λ (p : Parsed). p.names) r.1.parsed in
    let fits : length (names_after names r.0) ≤ most_names = rw known r.1.fits in
    (subst IsBuiltCommand is (command-built (names_after names r.0) r.0 r.1.built), subst IsInBounds is (command-bounded names r.0 r.1.says.allowed fits))

-- A line that was read, where a name found no place.
pub over : (line : List ℕ) (names : List (List ℕ)) (c : Command) (after : List (List ℕ)) (full : Bool) (code : List Item) → line_run line (out names false []) ≡ Some (c, out after full code)
    → full ≡ true → BringsTooMany names line
over line names c after full code h e = let r : LineRead line (out names false []) c (out after full code) = line-read line (out names false []) c (out after full code) h in
    record { written = r.written; says = r.says; built = r.built; many = r.put.over refl e }

-- A line that was not read.
pub refused : (line : List ℕ) (o : Out) → line_run line o ≡ None → SaysNoCommand line
refused line o h w s b = let r : (x : Command × Out) × (line_run line o ≡ Some x) = line-any line w o s b in
    let none : None ≡ Some (r.0) = sym h ∙ r.1 in none-some none

-- The names that were there before are back.
pub back : (old mid new : List (List ℕ)) (n : ℕ) → n ≡ length old → NamesStay old mid → new ≡ take n mid → new ≡ old
back old mid new n e k f = let kept : take (length old) mid ≡ take (length old) old = k.same (length old) (omega arith) in
    f ∙ (ap (λ (z : ℕ). take z mid) e ∙ (kept ∙ take-length old))
