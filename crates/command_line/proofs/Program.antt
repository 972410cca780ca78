-- The program's command is one that is known whole.
use Rattle.std.proofs.Common.{◌≡◌, ◌∙◌, ap, ℕ, Bool, Option, true, refl, [], Result, Ok, Err, IfOk, IfErr}
use Rattle.clap.specs.Words.{is_simple, FailsBy, HasKind, Kinds}
use Rattle.clap.specs.declared.error.Error.{Error}
use Rattle.clap.specs.Faults.{is_simple_and_free}
use Rattle.clap.proofs.OnLiterals.{clap_on_literals}
use Rattle.command_line.specs.Words.{program, options_of}

pub program-simple : is_simple program ≡ true
unfolding clap_on_literals
program-simple = refl

pub program-free : is_simple_and_free program ≡ true
unfolding clap_on_literals
program-free = refl

-- nothing is wrong where the words are taken
pub none-where-taken : {M : Type 0} (r : Result M Error) (kinds : Kinds) → FailsBy kinds r → IfOk r (λ m. kinds ≡ [])
none-where-taken (Ok m) kinds h = h
none-where-taken (Err e) kinds h = tt

-- where they are refused, the error is one of what is wrong, or memory was wanting
pub kind-where-refused : {M : Type 0} (r : Result M Error) (kinds : Kinds) → FailsBy kinds r → IfErr r (HasKind kinds)
kind-where-refused (Ok m) kinds h = tt
kind-where-refused (Err e) kinds h = h

-- the options are a function of the arena, the space and the number
pub same-options : {a b : Option ℕ} {s t : Bool} {n m : Option (Option ℕ)} → a ≡ b → s ≡ t → n ≡ m → options_of a s n ≡ options_of b t m
same-options {a} {b} {s} {t} {n} {m} x y z =
    ap (λ (o : Option ℕ). options_of o s n) x ∙ ap (λ (o : Bool). options_of b o n) y ∙ ap (λ (o : Option (Option ℕ)). options_of b t o) z
