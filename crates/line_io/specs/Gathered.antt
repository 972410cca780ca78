-- What a sink has taken that gathers bytes for another one.
use Rattle.std.specs.Prelude.{◌≡◌, ℕ, zero, suc, List, [], ◌∷◌, ◌++◌, slice_range}
use Rattle.line_io.specs.Sink.{Grew}
use Rattle.line_io.specs.declared.gathered.Gathered.{Gathered}

-- the bytes that are gathered and not handed on
abbrev pub pending : {K : Type 0} → Gathered K → List ℕ
pending g = slice_range g.buf g.from g.to

-- a list of bytes stands behind two numbers, which stay. The first is the name of the reference to the inner sink. Behind
-- a second number 0 stands what was written to the adapter, which ends with what is gathered; behind any other stands what
-- the inner sink has, with what is gathered behind it.
abbrev pub gathered_wrote : {K : Type 0} → (K → List ℕ → Type 0) → Gathered K → List ℕ → Type 0
gathered_wrote wrote g [] = ⊥
gathered_wrote wrote g (name ∷ []) = ⊥
gathered_wrote wrote g (name ∷ zero ∷ taken) = (name ≡ g.sink.ghost_name) × ((out : List ℕ) × (taken ≡ out ++ pending g))
gathered_wrote wrote g (name ∷ suc n ∷ taken) = (before : List ℕ) × wrote g.sink.now before × (taken ≡ before ++ pending g)

-- the first bytes that were gathered were handed on, and the others are still gathered
pub record HandsOn {K : Type 0} (wrote : K → List ℕ → Type 0) (old new : Gathered K) : Type 0 where
  pub out : List ℕ
  pub parts : pending old ≡ out ++ pending new
  pub grew : Grew wrote old.sink.now new.sink.now out

-- of the bytes x that were written to the adapter, the first were handed on, and the others are gathered
pub record Sent {K : Type 0} (wrote : K → List ℕ → Type 0) (old new : Gathered K) (x : List ℕ) : Type 0 where
  pub same_reference : old.sink.ghost_name ≡ new.sink.ghost_name
  pub out : List ℕ
  pub parts : x ≡ out ++ pending new
  pub grew : Grew wrote old.sink.now new.sink.now out
