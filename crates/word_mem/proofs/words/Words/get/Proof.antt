-- `get` reads the place through what a `&` to the row shows. Assumes `Logic`.
use Rattle.std.proofs.Common.{◌≡◌, ℕ, ◌+◌, ◌*◌, ◌^◌, ◌<◌, false, true, List, [], ◌∷◌, length, get_or, refl, arith, w64}
use Rattle.std.proofs.raw_atomic.Walks.{proved}
use base.Fml.{ftrue, flft, flt}
use mir.Syntax.{named}
use mir.Val.{Val, vint}
use contract.Monad.{fact}
use contract.Running.{tables}
use types.Kit.{‵, raw, ◌⊛◌, at_ret, ◌$◌, ◌∵◌, !, qed, move, keep, drop, use1, split, split3, join, fsplit, fjoin, feq_i, flt_i, flt_l, suffices, done}
use types.Run.{enter, of_opd, lit, bin, load, look, stop, fld, first, blocks, exec, returns}
use types.ByLocal.{alloc_all, pass_all, free_all, look_at, get, through, sets, sets_last, env}
use denote.Builtin.{u64, usize, RefOf}
use denote.Exit.{yes}
use denote.Memory.{hidden_shr}
use denote.Plain.{uint_vals, uint_Tells}
use denote.RattleType.{owns}
use denote.RawPtr.{RawPtr, in_a_block}
use denote.Ref.{shr_vals, shr_Tells}
use denote.Signature.{plain, types_at}
use denote.Steps.{nothing, heard}
use denote.Triple.Walked.{Stays, walk_of, says, stay_dropped, Goes-dropped, ends_at}
use Rattle.core.proofs.slots.Bodies.{after}
use Rattle.core.proofs.slots.Lent.{pointer_in, pointer_out, word_in, word_out}
use Rattle.word_mem.proofs.Lent.{shown, none-at-null, word-shown}
use Rattle.word_mem.proofs.Rows.{W}
use Rattle.word_mem.specs.Ownership.{all_lent}
use Rattle.word_mem.specs.declared.words.Words.{Words}
use Rattle.word_mem.specs.contracts.words.Words.get as f
use Rattle.word_mem.proofs.words.Words.get.Statement.{statement}
use Rattle.word_mem.proofs.words.Words.get.Code as code

abbrev stayed : Stays f.ended.signature.params f.ended.kept
stayed = (stay_dropped (RefOf (0 ∷ []) tt (plain (λ _. W)) (λ _. tt)) yes, (stay_dropped (plain (λ _. usize)) yes, tt))

pub get_spec : {M : Type 1} → statement M
get_spec 𝓤 𝓛 𝓜 𝓡 wired =
    let c = f.clauses 𝓛 𝓜.mem 𝓡.returns in let K = walk_of 𝓛 f.ended stayed c in let 𝓣 = tables 𝓤 𝓛.H 𝓜 𝓡 𝓡.env in
    proved 𝓛 f.ended stayed c 𝓜 𝓡
    (Goes-dropped 𝓛 1 (RefOf (0 ∷ []) tt (plain (λ _. W)) (λ _. tt)) yes (λ κs x w. refl), (Goes-dropped 𝓛 1 (plain (λ _. usize)) yes (λ κs x w. refl), tt))
    f.Key.name code.function (code.unfolded 𝓤 𝓛.H 𝓜 𝓡 wired)
    (λ κs. (shr_vals, (uint_vals w64, tt))) (λ κs. (shr_Tells (named 0) κs.0 W, (uint_Tells w64, tt))) (λ κs qs bounds a _ are.
    let κ = κs.0 in let q = qs.0 in let rb : ℕ = a.0.ref_ptr.0 in let ro : ℕ = a.0.ref_ptr.1 in
    let h : Words = a.0.now in let i : ℕ = a.1.0 in let x : ℕ = get_or h.items i 0 in
    let y : K.Ghost = ((κs, qs, bounds, a, (shr_vals a.0, (uint_vals w64 i, tt))), tt) in
    let fi : i < 2 ^ 64 = are.1.0.1 in let Ok : Type 0 = (i < h.len) × (get_or h.filled i false ≡ true) in
    let lx : h.len ≡ length h.items = h.ok.0 in let lf : h.len ≡ length h.filled = h.ok.1 in
    qed 𝓛 (((‵ (flft κ q) ⊛ ‵ ftrue) ⊛ ‵ (owns (types_at f.ended.signature.params κs) a y.0.4)) ∷ raw (fact 𝓤 Ok) ∷ []) ∵
    move ! (1 ∷ []) $ heard ! Ok (λ ok.
    let li : i < h.len = ok.0 in let ix : i < length h.items = omega arith in let fx : i < length h.filled = omega arith in
    split ! $ split ! $ move ! (2 ∷ []) $ fsplit ! $ fsplit ! $ drop ! $
    use1 𝓛 (‵ (hidden_shr RawPtr κ h.ptr rb (ro + 0)) ⊛ ‵ (hidden_shr usize κ h.len rb (ro + 8)) ⊛ ‵ (flt (h.len * 8) (2 ^ 63)) ⊛ ‵ (all_lent h.ptr h.items h.filled κ)) (shown 𝓛 κ h rb ro) $
    split3 ! $ move ! (2 ∷ []) $ split ! $ flt_l ! (λ fit.
    let fm : i * 8 < 2 ^ 64 = omega arith in
    in_a_block ! h.ptr (λ p. all_lent p h.items h.filled κ) (none-at-null 𝓛 κ h.items h.filled i ix fx ok.1) (λ b o at_b.
    use1 𝓛 (‵ (hidden_shr u64 κ x b (i * 8 + o))) (word-shown 𝓛 κ b o h.items h.filled i ix fx ok.1) $ keep ! (1 ∷ 4 ∷ 0 ∷ []) $
    -- [a `&` to the pointer; the token; a `&` to the word]
    enter ! _ _ _ _ _ $ alloc_all ! (λ l. pass_all ! refl ((tt, tt), ((tt, record { fits = fi }), tt)) $
    first ! $ blocks ! $ pointer_in ! tt h.ptr b o at_b rb (ro + 0) (λ q'.
    sets ! (of_opd ! (load ! (through ! refl (fld ! refl (stop !))) (look ! 0 refl))) refl (tt, tt) $
    pointer_out ! tt h.ptr b o at_b rb (ro + 0) $
    sets ! (bin ! (get ! refl) (lit ! tt) (record { fits = fm })) refl (tt, record { fits = fm }) $
    sets ! (bin ! (get ! refl) (get ! refl) tt) refl (tt, tt) $
    move ! (1 ∷ 0 ∷ []) $ word_in ! tt x b (i * 8 + o) (λ s fw.
    sets_last ! (of_opd ! (load ! (through ! refl (stop !)) (look ! 0 refl))) refl (tt, record { fits = fw }) $
    exec ! 𝓣.C 𝓣.Λ (env code.Mir.locals l) (after 1 (code.function).body) (at_ret _ (K.post y)) $
    word_out ! tt x b (i * 8 + o) fw $
    sets ! (of_opd ! (get ! refl)) refl (tt, record { fits = fw }) $ returns ! (look_at ! 0 refl) $ free_all ! refl $
    suffices ! _ (ends_at 𝓛 f.ended stayed c y (vint w64 x) x (tt, (tt, tt)) (tt, (tt, tt))) $ says ! refl $
    flt_i ! x (2 ^ 64) fw $ feq_i ! (List Val) (vint w64 x ∷ []) (vint w64 x ∷ []) refl $ fjoin ! $ nothing ! $ nothing ! $ fjoin ! $ nothing ! $ fjoin ! $
    -- [the parameters; the result; the token]
    nothing ! $ move ! (3 ∷ 0 ∷ []) $ join ! $ keep ! (0 ∷ 1 ∷ 2 ∷ []) $ done !)))))))
