-- What a look at a word tells of the text of its tree: its own text, and the level of its parts.
use Rattle.std.proofs.Common.{◌≡◌, ℕ, ◌+◌, ◌/◌, ◌≤◌, Bool, true, false, List, ◌++◌, length, get_or, refl, sym, ap, ◌∙◌, subst, arith, inl, inr, Option, Result, Err}
use Rattle.std.proofs.lemmas.Bool.{and_from, and_parts}
use Rattle.std.specs.Fmt.{signed_decimal}
use Rattle.std.specs.Prelude.{IsErr}
use Rattle.line_io.specs.Sink.{Grew, WritesTold}
use Rattle.plain_term.specs.Tree.{Tree}
use Rattle.plain_term.specs.Tree.Tree.{Int, Atom, Pid, Ref, Nil, Cons, Tuple, Map, Bin, Shared, Part, Fun}
use Rattle.plain_term.specs.Tree.Trees.{end, ◌▹◌}
use Rattle.plain_term.specs.Bytes.{bytes_of}
use Rattle.plain_term.specs.Text.{placed}
use Rattle.term_words.specs.Role.{always}
use Rattle.term_words.specs.Stands.{Stands, IsTerm}
use Rattle.term_read.specs.Look.{IsSeen, LiesInMemory, Sees}
use Rattle.term_read.specs.declared.looks.Look.{Look}
use Rattle.term_read.specs.declared.looks.Look.TheVariants as look
use Rattle.term_order.specs.Named.{is_named, are_named}
use Rattle.term_order.specs.Own.{IsReadable}
use Rattle.term_order.proofs.Owning.{readable, signed-is}
use Rattle.term_print.specs.declared.levels.Level.{Level}
use Rattle.term_print.specs.Left.{after_level, in_turn, level_in}
use Rattle.term_print.specs.Own.{own_text}
use Rattle.term_print.specs.Printed.{BeginsText, CanBegin, Opens}
use Rattle.text_parts.proofs.Writing.{written-after, written-short}
use Rattle.term_print.proofs.Texts.{tuple-text, map-text, nodes-turn, deep-turn, named-turn}

-- The look's own text and its level, for a tree.
abbrev pub OpensBy : (ℕ → ℕ → Bool) → (shared : List (List ℕ)) (mem : List ℕ) (names : List (List ℕ)) → Bool → Tree → Look → Type 0
OpensBy c shared mem names tail now l = Opens c shared mem names tail now (own_text names tail (bytes_of shared now) l) (level_in l tail)

nil-opens : (c : ℕ → ℕ → Bool) (shared : List (List ℕ)) (mem : List ℕ) (names : List (List ℕ)) (tail : Bool) → OpensBy c shared mem names tail Nil look.Nil
nil-opens c shared mem names false = refl
nil-opens c shared mem names true = refl

cons-opens : (c : ℕ → ℕ → Bool) (shared : List (List ℕ)) (mem : List ℕ) (names : List (List ℕ)) (w : ℕ) (tail : Bool) (h t : Tree) → w / 4 + 2 ≤ length mem
    → Stands c shared mem (get_or mem (w / 4) 0) h → Stands c shared mem (get_or mem (w / 4 + 1) 0) t → OpensBy c shared mem names tail (Cons h t) (look.Cons (w / 4))
cons-opens c shared mem names w false h t within sh st = record {
  parts = h ▹ (t ▹ end);
  left = record { head = h; tail = t; two = refl; within = within; head_stands = sh; tail_stands = st };
  whole = refl;
  fewer = omega arith;
  some = omega arith;
  deep = omega arith;
  named = λ p.
      let (head, tail) = and_parts (is_named (length names) h) (is_named (length names) t) p in
      and_from (is_named (length names) h) (are_named (length names) (t ▹ end)) head (and_from (is_named (length names) t) true tail refl);
}
cons-opens c shared mem names w true h t within sh st = record {
  parts = h ▹ (t ▹ end);
  left = record { head = h; tail = t; two = refl; within = within; head_stands = sh; tail_stands = st };
  whole = refl;
  fewer = omega arith;
  some = omega arith;
  deep = omega arith;
  named = λ p.
      let (head, tail) = and_parts (is_named (length names) h) (is_named (length names) t) p in
      and_from (is_named (length names) h) (are_named (length names) (t ▹ end)) head (and_from (is_named (length names) t) true tail refl);
}

pub opens : (c : ℕ → ℕ → Bool) (shared : List (List ℕ)) (mem : List ℕ) (names : List (List ℕ)) (w : ℕ) (tail : Bool) (now : Tree) (l : Look) → IsSeen c shared mem w now l
    → OpensBy c shared mem names tail now l
opens c shared mem names w tail (Int i) l (inl (small, e)) = subst (OpensBy c shared mem names tail (Int i)) (sym e) refl
opens c shared mem names w tail (Int i) l (inr (d, has, e)) = subst (OpensBy c shared mem names tail (Int i)) (sym e) (ap (λ z. placed tail (signed_decimal z)) (sym (signed-is i d has)))
opens c shared mem names w tail (Atom k) l e = subst (OpensBy c shared mem names tail (Atom k)) (sym e) refl
opens c shared mem names w tail (Pid n) l e = subst (OpensBy c shared mem names tail (Pid n)) (sym e) refl
opens c shared mem names w tail (Ref n k) l e = subst (OpensBy c shared mem names tail (Ref n k)) (sym e) refl
opens c shared mem names w tail Nil l e = subst (OpensBy c shared mem names tail Nil) (sym e) (nil-opens c shared mem names tail)
opens c shared mem names w tail (Cons h t) l (e, within, sh, st) = subst (OpensBy c shared mem names tail (Cons h t)) (sym e) (cons-opens c shared mem names w tail h t within sh st)
opens c shared mem names w tail (Tuple ts) l (e, within, row) = subst (OpensBy c shared mem names tail (Tuple ts)) (sym e) (record {
  parts = ts;
  left = record { count = refl; within = within; standing = row };
  whole = tuple-text names shared tail ts;
  fewer = omega arith;
  some = omega arith;
  deep = omega arith;
  named = λ p. p;
})
opens c shared mem names w tail (Map ps) l (e, keys, values, ks, vs) = subst (OpensBy c shared mem names tail (Map ps)) (sym e) (record {
  parts = in_turn ps;
  left = record { pairs = ps; left = refl; count = refl; keys_within = keys; values_within = values; keys_stand = ks; values_stand = vs };
  whole = map-text names shared tail ps;
  fewer = omega (arith, nodes-turn shared ps);
  some = omega arith;
  deep = omega (arith, deep-turn ps);
  named = named-turn (length names) ps;
})
opens c shared mem names w tail (Fun name arity creator env) l (e, within, row) = subst (OpensBy c shared mem names tail (Fun name arity creator env)) (sym e) refl
opens c shared mem names w tail (Bin bytes) l (e, from) = subst (OpensBy c shared mem names tail (Bin bytes)) (sym e) refl
opens c shared mem names w tail (Shared id) l (e, from) = subst (OpensBy c shared mem names tail (Shared id)) (sym e) refl
opens c shared mem names w tail (Part base offset len) l (v, e, sb, size, from) = subst (OpensBy c shared mem names tail (Part base offset len)) (sym e) refl

-- What beginning a word's term asks for.

pub begins-readable : (mem : List ℕ) (names : List (List ℕ)) (word : ℕ) (l : Look) → CanBegin mem names word → Sees mem word l → LiesInMemory mem l → IsReadable mem names l
begins-readable mem names word l h sees lies =
    readable always names h.shared mem word h.now l h.standing (sees.each always h.shared h.now h.standing) lies h.named

pub begins-term : (mem : List ℕ) (names : List (List ℕ)) (word : ℕ) → CanBegin mem names word → IsTerm mem word
begins-term mem names word h = record { shared = h.shared; tree = h.now; standing = h.standing }

-- A word's term was begun, or a fault came before its own text.

pub begins : {K E : Type 0} (c : ℕ → ℕ → Bool) (shared : List (List ℕ)) (mem : List ℕ) (names : List (List ℕ)) (mark put : List ℕ) (tail : Bool) (now : Tree) (w : ℕ) (l : Look)
    (old new : List Level) (kept : Option Level)
    (wrote : K → List ℕ → Type 0) (faults : K → ℕ) (before mid after : K) (r : Result (Unit {0}) E) → IsSeen c shared mem w now l → kept ≡ level_in l tail → new ≡ after_level kept old → put ≡ mark
    → Grew wrote before mid put → faults mid ≡ faults before → WritesTold wrote faults mid after (own_text names tail (bytes_of shared now) l) r
    → BeginsText c shared mem names mark tail now old new wrote faults before after r
begins {K} {E} c shared mem names mark put tail now w l old new kept wrote faults before mid after r seen is levels marked grew told written =
    let P : List ℕ → Type 0 = λ z. WritesTold {K = K} {E = E} wrote faults before after (z ++ own_text names tail (bytes_of shared now) l) r in
    record {
      own = own_text names tail (bytes_of shared now) l;
      parts = level_in l tail;
      opens = opens c shared mem names w tail now l seen;
      levels = levels ∙ ap (λ z. after_level z old) is;
      written = subst P marked (written-after wrote faults before mid after put (own_text names tail (bytes_of shared now) l) r grew told written);
    }

pub begins-badly : {K E F : Type 0} (c : ℕ → ℕ → Bool) (shared : List (List ℕ)) (mem : List ℕ) (names : List (List ℕ)) (mark put : List ℕ) (tail : Bool) (now : Tree) (w : ℕ) (l : Look)
    (old new : List Level) (kept : Option Level)
    (wrote : K → List ℕ → Type 0) (faults : K → ℕ) (before after : K) (e : E) (r : Result (Unit {0}) F) → IsErr r → IsSeen c shared mem w now l → kept ≡ level_in l tail
    → new ≡ after_level kept old → put ≡ mark
    → WritesTold wrote faults before after put (Err e) → BeginsText c shared mem names mark tail now old new wrote faults before after r
begins-badly {K} {E} {F} c shared mem names mark put tail now w l old new kept wrote faults before after e r failed seen is levels marked written =
    let P : List ℕ → Type 0 = λ z. WritesTold {K = K} {E = F} wrote faults before after (z ++ own_text names tail (bytes_of shared now) l) r in
    record {
      own = own_text names tail (bytes_of shared now) l;
      parts = level_in l tail;
      opens = opens c shared mem names w tail now l seen;
      levels = levels ∙ ap (λ z. after_level z old) is;
      written = subst P marked (written-short wrote faults before after put (own_text names tail (bytes_of shared now) l) e r failed written);
    }
