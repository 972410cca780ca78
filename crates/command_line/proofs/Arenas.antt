-- The arena that words ask for.
use Rattle.std.proofs.Common.{◌≡◌, ◌∙◌, ℕ, Bool, true, false, Option, Some, None, refl, sym, ap, List, [], ◌∷◌, cond, option_and_then}
use Rattle.clap.specs.Words.{Kinds, Row, Text}
use Rattle.command_line.specs.Values.{arena_asked, arena_of, is_arena, option_number}
use Rattle.command_line.specs.Words.{asks, faults, matches, options_of, options_where}
use Rattle.command_line.specs.declared.options.Options.{Options}

-- the words that are asked for are those of an arena
of-value : (o : Option (List ℕ)) (words : ℕ) → arena_asked o ≡ Some words → is_arena words ≡ true
of-value None words e = ap is_some_arena (sym e)
  where
    is_some_arena : Option ℕ → Bool
    is_some_arena None = true
    is_some_arena (Some w) = is_arena w
of-value (Some text) words e = of-number (option_number text) e
  where
    of-number : (n : Option ℕ) → option_and_then arena_of n ≡ Some words → is_arena words ≡ true
    of-number None e = absurd (cc)
    of-number (Some n) e = pick (is_arena n) refl e
      where
        pick : (t : Bool) → is_arena n ≡ t → cond t (Some n) None ≡ Some words → is_arena words ≡ true
        pick true is e = let same : n ≡ words = cc in ap is_arena (sym same) ∙ is
        pick false is e = absurd (cc)

of-options : (arena : Option ℕ) (space : Bool) (number : Option (Option ℕ)) (o : Options) → options_of arena space number ≡ Some o → arena ≡ Some o.arena
of-options None space number o e = absurd (cc)
of-options (Some words) false number o e = absurd (cc)
of-options (Some words) true None o e = absurd (cc)
of-options (Some words) true (Some n) o e = let same : record { arena = words; made_from = n } ≡ o = cc in ap (λ (q : Options). Some q.arena) same

of-rows : (kinds : Kinds) (rows : List Row) (o : Options) → options_where kinds rows ≡ Some o → is_arena o.arena ≡ true
of-rows [] rows o e = of-value _ o.arena (of-options _ _ _ o e)
of-rows (k ∷ ks) rows o e = absurd (cc)

-- the options that words ask for have an arena of such words
pub asked-arena : (words : List Text) (o : Options) → asks words ≡ Some o → is_arena o.arena ≡ true
asked-arena words o e = of-rows (faults words) (matches words) o e
