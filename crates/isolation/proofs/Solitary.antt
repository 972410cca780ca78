-- On the machine of a view at most the one process lives.
use Rattle.std.proofs.Common.{◌≡◌, ℕ, ◌==◌, Bool, true, false, cond, not, ◌&&◌, inl, inr, List, [], ◌∷◌, ◌++◌, map, length, drop, Option, Some, None, refl, sym, ap, ◌∙◌, eqb-true}
use Rattle.std.proofs.lemmas.Bool.{both_ways}
use Rattle.std.specs.Prelude.{option_map, is_some}
use Rattle.plain_term.specs.Tree.{Tree}
use Rattle.script_grammar.specs.Written.{Written}
use Rattle.script_grammar.specs.Written.Written.{Nothing, OfProcess, OfSystem}
use Rattle.script_grammar.specs.declared.word.SysWord.TheVariants as sys
use Rattle.plain_machine.specs.State.{Process as Live, State, is_live, first_state, fresh_process, with_queued}
use Rattle.plain_machine.specs.Step.{Outcome}
use Rattle.plain_machine.specs.Step.Outcome.{Accepted, Refused, Mapped}
use Rattle.isolation.specs.Named.NamedTree.{NamedTree, as_named}
use Rattle.isolation.specs.Named.Entering.{entered}
use Rattle.isolation.specs.Events.{Event}
use Rattle.isolation.specs.Views.{Sight, is_own, own_line, births, messages, is_area_line, is_accepted, areas, sights, view_of, queue_of}
use Rattle.isolation.specs.Views.Sight.{own, born, message, area}
use Rattle.isolation.specs.Solo.{solo_first, solo_after, left_by, step_at}
use Rattle.isolation.specs.Laws.{AtMost, LivesAlone}
use Rattle.isolation.proofs.Finding.{found, live-found, found-queued}
use Rattle.isolation.proofs.Others.{area-not-own, OtherOutcome, other-line}
use Rattle.isolation.proofs.Births.{lives-same}

-- the sight is one of this process
abbrev IsSightOf : ℕ → Sight → Type 0
IsSightOf p (own w) = is_own p (Some w) ≡ true
IsSightOf p (area w) = is_area_line w ≡ true
IsSightOf p _ = Unit {0}

abbrev IsViewOf : ℕ → List Sight → Type 0
IsViewOf p [] = Unit {0}
IsViewOf p (x ∷ view) = IsSightOf p x × IsViewOf p view

join-views : (p : ℕ) (xs ys : List Sight) → IsViewOf p xs → IsViewOf p ys → IsViewOf p (xs ++ ys)
join-views p [] ys h k = k
join-views p (x ∷ xs) ys h k = (h.0, join-views p xs ys h.1 k)

-- what is seen of an event is
message-views : (p : ℕ) (f : Tree → NamedTree) (us : List Tree) → IsViewOf p (map (λ u. message (f u)) us)
message-views p f [] = tt
message-views p f (u ∷ us) = (tt, message-views p f us)

birth-views : (p : ℕ) (b : Bool) → IsViewOf p (cond b (born ∷ []) [])
birth-views p true = (tt, tt)
birth-views p false = tt

area-views : (p : ℕ) (said : Option Written) (replies : List (List ℕ)) → IsViewOf p (areas said replies)
area-views p None replies = tt
area-views p (Some w) replies = at (is_area_line w) (is_accepted replies) refl
  where
    at : (b c : Bool) → is_area_line w ≡ b → IsViewOf p (cond (b && c) (area w ∷ []) [])
    at true true e = (e, tt)
    at true false e = tt
    at false c e = tt

own-views : (p : ℕ) (said : Option Written) → is_own p said ≡ true → IsViewOf p (own_line said)
own-views p (Some w) e = (e, tt)
own-views p None e = tt

sight-views : (p : ℕ) (e : Event) → IsViewOf p (sights p e)
sight-views p e = at (is_own p e.said) refl
  where
    at : (b : Bool) → is_own p e.said ≡ b → IsViewOf p (cond b (own_line e.said) (births p e ++ (messages p e ++ areas e.said e.replies)))
    at true mine = own-views p e.said mine
    at false apart = join-views p (births p e) (messages p e ++ areas e.said e.replies) (birth-views p (not (is_live p e.before) && is_live p e.after))
        (join-views p (messages p e) (areas e.said e.replies) (message-views p (as_named e.after.names e.after.shared) (drop (length (queue_of p e.before)) (queue_of p e.after)))
        (area-views p e.said e.replies))

all-views : (p : ℕ) (events : List Event) → IsViewOf p (view_of p events)
all-views p [] = tt
all-views p (e ∷ events) = join-views p (sights p e) (view_of p events) (sight-views p e) (all-views p events)

-- a line that is not one process's own, and no spawn, brings it not to live
stays-dead : (n : ℕ) (s : State) (w : Written) (o : Outcome) → OtherOutcome n s w o → (w ≡ OfSystem sys.Spawn tt → ⊥) → is_live n (left_by s o) ≡ is_live n s
stays-dead n s w (Accepted next reply) (inl h) never = lives-same n s next (h.0).more (h.0).is
stays-dead n s w (Accepted next reply) (inr (inl h)) never = absurd (never h.said)
stays-dead n s w (Accepted next reply) (inr (inr h)) never = live-found n next.processes ∙ (ap is_some h.is ∙ sym (live-found n s.processes))
stays-dead n s w (Refused r) h never = refl
stays-dead n s w Mapped h never = refl

-- a line of the process is no other's
not-own : (p n : ℕ) (w : Written) → is_own p (Some w) ≡ true → (p == n) ≡ false → is_own n (Some w) ≡ false
not-own p n (OfProcess k w ops) mine apart = ap (λ z. z == n) (eqb-true k p mine) ∙ apart
not-own p n (OfSystem w ops) mine apart = absurd (cc)
not-own p n Nothing mine apart = absurd (cc)

own-no-spawn : (p : ℕ) (w : Written) → is_own p (Some w) ≡ true → w ≡ OfSystem sys.Spawn tt → ⊥
own-no-spawn p w mine e = both_ways (is_own p (Some w)) (ap (λ z. is_own p (Some z)) e) mine

area-no-spawn : (w : Written) → is_area_line w ≡ true → w ≡ OfSystem sys.Spawn tt → ⊥
area-no-spawn w mine e = both_ways (is_area_line w) (ap is_area_line e) mine

queued-lives : (n : ℕ) (t : Tree) (o : Option Live) → is_some (option_map (with_queued n t) o) ≡ is_some o
queued-lives n t None = refl
queued-lives n t (Some q) = refl

-- a sight leaves at most the process
sight-solitary : (p : ℕ) (s : State) (x : Sight) → IsSightOf p x → AtMost p s → AtMost p (solo_after p s x)
sight-solitary p s (own w) mine h n lives = at (p == n) refl
  where
    at : (b : Bool) → (p == n) ≡ b → n ≡ p
    at true e = sym (eqb-true p n e)
    at false e = h n (sym (stays-dead n s w (step_at s w) (other-line n s w (not-own p n w mine e)) (own-no-spawn p w mine)) ∙ lives)
sight-solitary p s born mine h n lives = at (p == n) refl lives
  where
    at : (b : Bool) → (p == n) ≡ b → is_live n (record s { processes = fresh_process p ∷ [] }) ≡ true → n ≡ p
    at true e lives = sym (eqb-true p n e)
    at false e lives = absurd (both_ways (is_some (found n (fresh_process p ∷ []))) (ap (λ b. is_some (cond b (Some (fresh_process p)) None)) e) (sym (live-found n (fresh_process p ∷ [])) ∙ lives))
sight-solitary p s (message t) mine h n lives =
    let u : Tree = entered s.names s.shared t in
    h n (live-found n s.processes ∙ (sym (queued-lives p u (found n s.processes)) ∙ (ap is_some (sym (found-queued n p u s.processes))
    ∙ (sym (live-found n (map (with_queued p u) s.processes)) ∙ lives))))
sight-solitary p s (area w) mine h n lives = h n (sym (stays-dead n s w (step_at s w) (other-line n s w (area-not-own n w mine)) (area-no-spawn w mine)) ∙ lives)

view-solitary : (p : ℕ) (s : State) (view : List Sight) → IsViewOf p view → AtMost p s → LivesAlone p s view
view-solitary p s [] v h = h
view-solitary p s (x ∷ view) v h = (h, view-solitary p (solo_after p s x) view (v.1) (sight-solitary p s x (v.0) h))

pub solitary-first : (p : ℕ) (events : List Event) → LivesAlone p (solo_first p) (view_of p events)
solitary-first p events = view-solitary p (solo_first p) (view_of p events) (all-views p events) (at (p == 1) refl)
  where
    one : (n : ℕ) (b : Bool) → (1 == n) ≡ b → is_live n first_state ≡ true → n ≡ 1
    one n true e lives = sym (eqb-true 1 n e)
    one n false e lives = absurd (both_ways (is_some (found n (fresh_process 1 ∷ []))) (ap (λ b. is_some (cond b (Some (fresh_process 1)) None)) e) (sym (live-found n (fresh_process 1 ∷ [])) ∙ lives))

    at : (b : Bool) → (p == 1) ≡ b → AtMost p (cond b first_state (record first_state { processes = [] }))
    at true e n lives = one n (1 == n) refl lives ∙ sym (eqb-true p 1 e)
    at false e n lives = absurd (both_ways false refl lives)
