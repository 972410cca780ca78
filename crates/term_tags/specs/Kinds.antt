-- The word of each kind, and what each kind may hold.
use Rattle.std.specs.Prelude.{◌≡◌, ◌≢◌, ℕ, ◌<◌}
use Rattle.term_tags.specs.Words.{IsSmall, small_word, pid_word, atom_word, list_word, boxed_word, head_word}
use Rattle.term_tags.specs.declared.kinds.TheConstants.{PLACES, ARITIES, SUBTAGS, PIDS, ATOMS, NIL}
use Rattle.term_tags.specs.declared.kinds.Kind.{Kind}
use Rattle.term_tags.specs.declared.kinds.Kind.TheVariants.{Small, Pid, Atom, Nil, ListAt, BoxedAt, Header, Other}

-- what a kind holds is in its range; no word is made of Other
abbrev pub InRange : Kind → Type 0
InRange (Small i) = IsSmall i
InRange (Pid n) = n < PIDS
InRange (Atom k) = k < ATOMS
InRange Nil = Unit {0}
InRange (ListAt place) = place < PLACES
InRange (BoxedAt place) = place < PLACES
InRange (Header subtag arity) = (subtag < SUBTAGS) × (arity < ARITIES)
InRange Other = ⊥

-- the word of a kind
abbrev pub kind_word : Kind → ℕ
kind_word (Small i) = small_word i
kind_word (Pid n) = pid_word n
kind_word (Atom k) = atom_word k
kind_word Nil = NIL
kind_word (ListAt place) = list_word place
kind_word (BoxedAt place) = boxed_word place
kind_word (Header subtag arity) = head_word subtag arity
kind_word Other = 0

-- a word reads as the kind whose word it is, and as Other where it is the word of none
abbrev pub ReadsAs : ℕ → Kind → Type 0
ReadsAs w (Small i) = IsSmall i × (small_word i ≡ w)
ReadsAs w (Pid n) = (n < PIDS) × (pid_word n ≡ w)
ReadsAs w (Atom k) = (k < ATOMS) × (atom_word k ≡ w)
ReadsAs w Nil = NIL ≡ w
ReadsAs w (ListAt place) = (place < PLACES) × (list_word place ≡ w)
ReadsAs w (BoxedAt place) = (place < PLACES) × (boxed_word place ≡ w)
ReadsAs w (Header subtag arity) = (subtag < SUBTAGS) × (arity < ARITIES) × (head_word subtag arity ≡ w)
ReadsAs w Other = (k : Kind) → InRange k → kind_word k ≢ w
