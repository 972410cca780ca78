-- `new` asks the allocator for an array of words, and makes places of its room and a lease of the right to free it. Assumes `Logic`.
use Rattle.std.proofs.Common.{◌≡◌, ◌*◌, ◌^◌, ◌<◌, false, List, [], ◌∷◌, ◌++◌, replicate, refl, sym, arith, lit<, w64, Some, None}
use Rattle.std.proofs.Math.ListN.{length-replicate}
use Rattle.std.proofs.raw_atomic.Walks.{proved_at, leaves}
use base.Logic.{SProp, emp, id⊢}
use base.Fml.{Lft, Share, ftrue, flft}
use mir.Syntax.{Ty, Fn, Args, a_type, dcons, dnil}
use mir.Val.{Val, vint, vptr, vcons, vnil, WT}
use mir.MapTy.{inst_fn}
use prog.Capped.{capped_is}
use prog.Wp.{Env, WpFn}
use contract.BorrowLft.{◌⊑◌, ⊑_trans}
use contract.Monad.{fact, fact_i}
use contract.Running.{tables}
use types.Kit.{‵, raw, ◌⊛◌, later, prop, at_ret, ◌$◌, ◌∵◌, !, qed, by, move, drop, use0, use1, use2, split, join, regoal, fsplit, fjoin, await}
use types.Part.{whole, agg}
use types.Match.{live, vrt, in_variant}
use types.Run.{stop, fld, lit, bin, of_opd, no_more, and_then, first, switches_on, exec, returns, enter}
use types.ByLocal.{alloc_all, pass_all, free_all, look_at, get, get_in, get_tag, sets, sets_last, lands_as, env}
use denote.Builtin.{usize, RefOf}
use denote.Exit.{yes}
use denote.Param.{param, bounded}
use denote.RattleType.{RattleType, owns}
use denote.RawPtr.{block_ptr}
use denote.Signature.{plain, types_at, type_at}
use denote.Steps.{nothing, heard}
use denote.Struct.Tuple.{Tuple}
use denote.Triple.Entry.{alive}
use denote.Triple.Call.{calls_at}
use denote.Triple.Walked.{Stays, stay_dropped, walk_of, Goes-dropped}
use Rattle.core.proofs.alloc.Calls.{Al, seen, Takes, at_takes, Answered, Takes-goes, Takes-gives, answers}
use Rattle.core.proofs.alloc.Shapes.{after, head, arm_body}
use Rattle.core.proofs.atomic.Steps.{fm as framed}
use Rattle.core.proofs.option.Made.{Some-of, none_of}
use Rattle.word_mem.proofs.Leases.{lease_val, lease_own, lease-made, both_val, both-made, then_runs}
use Rattle.word_mem.proofs.Places.{of-room}
use Rattle.word_mem.proofs.Rows.{W, places, row_val, row-made}
use Rattle.word_mem.specs.Ownership.{block_of_words}
use Rattle.word_mem.specs.declared.words.Words.{Words}
use Rattle.word_mem.specs.contracts.words.Lease as lease
use Rattle.word_mem.specs.contracts.words.Words.new.{ended, clauses}
use Rattle.word_mem.specs.contracts.words.Words.new.Key.{name as #self}
use Rattle.word_mem.proofs.words.Words.new.Statement.{statement}
use Rattle.word_mem.proofs.words.Words.new.Code as compiled

pub new_spec : {M : Type 1} → statement M
new_spec 𝓤 𝓛 𝓜 𝓡 wired A L g d dd met md =
    let H = 𝓛.H in
    let E = ended A g d dd in
    let c = clauses A g d dd 𝓛 𝓜.mem 𝓡.returns in
    let args : Args = bounded (a_type ∷ []) (A, tt) (dcons d (dcons dd dnil)) in
    let fn : Fn = inst_fn args compiled.function in
    let Z : RattleType = param 0 A in
    let stays : Stays E.signature.params E.kept = (stay_dropped (RefOf (0 ∷ []) tt (plain (λ _. Z)) (λ _. tt)) yes, (stay_dropped (plain (λ _. usize)) yes, tt)) in
    let C = (tables 𝓤 H 𝓜 𝓡 𝓡.env).C in
    let Λ = (tables 𝓤 H 𝓜 𝓡 𝓡.env).Λ in
    proved_at 𝓛 E stays c 𝓜 𝓡
    (Goes-dropped 𝓛 2 (RefOf (0 ∷ []) tt (plain (λ _. Z)) (λ _. tt)) yes (λ κs x f. refl), (Goes-dropped 𝓛 2 (plain (λ _. usize)) yes (λ κs x f. refl), tt))
    (#self args) fn (compiled.unfolded 𝓤 H 𝓜 𝓡 wired (A, tt) d dd) (λ z are.
    let Post : Val → SProp 𝓤 = (walk_of 𝓛 E stays c).post z in
    let a = z.0.3 in let vss = z.0.4 in
    let Y : Al = record { row = A; laws = L; g = g; d = d; drops = dd } in
    let κ : Lft = z.0.0.0 in let q : Share = z.0.1.0 in
    let h = a.0.now in let at = a.0.ref_ptr in let n = a.1.0 in
    let τ : Ty = block_of_words n in
    let y = at_takes Y 𝓛 𝓜.mem 𝓡.returns κ q at h (n * 8) 8 τ in
    let Out : RattleType = type_at E.signature.result z.0.0 in
    let Pair : RattleType = Tuple (W ∷ lease.the_row Z g ∷ []) in
    let fits : n < 2 ^ 64 = are.1.0.1 in
    qed 𝓛 ((raw (alive 𝓛 E.signature z.0.0 z.0.1) ⊛ ‵ (owns (types_at E.signature.params z.0.0) a vss)) ∷ (raw (fact 𝓤 (z.0.0.1.0 ⊑ A.lives)) ⊛ raw (fact 𝓤 (n < 2 ^ 60))) ∷ []) ∵
    move ! (1 ∷ []) $ split ! $ heard ! (z.0.0.1.0 ⊑ A.lives) (λ le. heard ! (n < 2 ^ 60) (λ asked.
    let fm : n * 8 < 2 ^ 64 = omega arith in let small : n * 8 < 2 ^ 63 = omega arith in
    split ! $ move ! (1 ∷ []) $ fsplit ! $ fsplit ! $ drop ! $ move ! (1 ∷ []) $ drop ! $ use1 𝓛 (‵ (seen Y κ at h)) (id⊢ 𝓤 _) $
    move ! (1 ∷ []) $ use1 𝓛 (‵ (flft κ q) ⊛ ‵ (flft z.0.0.1.0 z.0.1.1.0) ⊛ ‵ ftrue) (id⊢ 𝓤 _) $ split ! $ move ! (2 ∷ 0 ∷ []) $
    -- [the handle; its token; the other tokens]
    regoal ! (λ (us : List Val). prop (WpFn 𝓤 H C Λ fn us Post)) (λ i. are.0.0 i ++ (are.1.0.0 i ++ [])) refl $
    enter ! C Λ fn (vptr at.0 at.1 ∷ vint w64 n ∷ []) Post $
    alloc_all ! (λ l. pass_all ! refl ((tt, tt), ((tt, record { fits = fits }), tt)) $ let En : Env 𝓤 𝓛.H = env fn.locals l in
    sets ! (bin ! (get ! refl) (lit ! tt) (record { fits = fm })) refl (tt, record { fits = fm }) $
    use2 𝓛 (raw ((Takes Y 𝓛 𝓜.mem 𝓡.returns).pre y)) (Takes-goes Y 𝓛 𝓜.mem 𝓡.returns κ q at h (⊑_trans κ z.0.0.1.0 A.lives z.0.2.0 le) (n * 8) 8 τ (capped_is (n * 8) fm) refl fm (lit< tt)) $
    calls_at ! (framed 𝓛 𝓜 𝓡) (Takes Y 𝓛 𝓜.mem 𝓡.returns) (met.allocate dd) y (and_then ! (get ! refl) (and_then ! (get ! refl) (and_then ! (lit ! tt) (no_more !)))) (λ v.
    use1 𝓛 (later (raw (Answered Y 𝓛 𝓜.mem 𝓡.returns h τ v) ⊛ ‵ (flft κ q))) (Takes-gives Y 𝓛 𝓜.mem 𝓡.returns κ q at h (n * 8) 8 τ v) $ await ! tt $ split ! $
    answers Y ! 𝓜.mem 𝓡.returns h τ v
    (λ b o e.
    let new : Words = record { ptr = block_ptr b o; len = n; items = replicate n 0; filled = replicate n false; ok = (sym (length-replicate n 0), sym (length-replicate n false)) } in
    let k : (lease.the_row Z g).Denot = record { marker = record {}; alloc = h; ptr = block_ptr b o; len = n } in
    let both : Val = both_val (row_val b o n) lease_val in
    let words : WT (row_val b o n) = (tt, (record { fits = fits }, tt)) in
    let all : WT (live 1 (vcons both vnil)) = (record { fits = lit< tt }, ((words, ((tt, tt), tt)), tt)) in
    move ! (2 ∷ 3 ∷ []) $ join ! $ move ! (1 ∷ 2 ∷ []) $ lands_as ! e refl (tt, (record { fits = lit< tt }, (tt, tt))) $
    -- [the room; the right to free it; the tokens]
    first ! $ switches_on ! (get_tag ! (vrt ! refl (fld ! refl (stop !))) (whole !)) $ exec ! C Λ En (arm_body 0 (head (after 2 fn.body))) (then_runs 𝓛 C Λ En (after 3 fn.body) (at_ret En Post)) $
    sets ! (of_opd ! (get_in ! (vrt ! refl (fld ! refl (stop !))) (in_variant ! 0 0 refl refl (whole !)))) refl (tt, tt) $
    sets ! (of_opd ! (get ! refl)) refl (tt, tt) $
    sets ! (agg ! (no_more !)) refl (tt, tt) $
    sets ! (agg ! (and_then ! (get ! refl) (and_then ! (get ! refl) (no_more !)))) refl (tt, words) $
    sets ! (agg ! (and_then ! (get ! refl) (no_more !))) refl (tt, (tt, tt)) $
    sets ! (agg ! (and_then ! (get ! refl) (and_then ! (get ! refl) (no_more !)))) refl (tt, (words, ((tt, tt), tt))) $
    sets_last ! (agg ! (and_then ! (lit ! tt) (and_then ! (get ! refl) (no_more !)))) refl (tt, all) $
    exec ! C Λ En (after 3 fn.body) (at_ret En Post) $
    sets ! (of_opd ! (get ! refl)) refl (tt, all) $ returns ! (look_at ! 0 refl) $ free_all ! refl $
    use1 𝓛 (‵ (places new b o)) (of-room 𝓛 b n o) $ row-made ! new b o refl fits small $
    move ! (1 ∷ []) $ use0 𝓛 (‵ (lease_own (lease_val ∷ []))) (lease-made 𝓛) $ fjoin ! $ move ! (1 ∷ 0 ∷ []) $
    use2 𝓛 (‵ (Pair.own_val (new, k) (both ∷ []))) (both-made 𝓛 W (lease.the_row Z g) new k (row_val b o n) lease_val) $
    use1 𝓛 (‵ (Out.own_val (Some (new, k)) (live 1 (vcons both vnil) ∷ []))) (Some-of 𝓛 Pair (new, k) both) $
    use0 𝓛 (raw (fact 𝓤 ((n ≡ n) × (h ≡ h) × (block_ptr b o ≡ block_ptr b o) × (n ≡ n)))) (fact_i 𝓤 ((n ≡ n) × (h ≡ h) × (block_ptr b o ≡ block_ptr b o) × (n ≡ n)) (emp 𝓤) (refl, refl, refl, refl)) $
    nothing ! $ nothing ! $ fjoin ! $ nothing ! $ fjoin ! $ move ! (3 ∷ 0 ∷ 2 ∷ 1 ∷ []) $
    by ! (leaves 𝓛 E stays c z (live 1 (vcons both vnil)) (Some (new, k)) (tt, (tt, tt)) (tt, (tt, tt))))
    (λ e. join ! $ lands_as ! e refl (tt, (record { fits = lit< tt }, (tt, tt))) $
    first ! $ switches_on ! (get_tag ! (vrt ! refl (fld ! refl (stop !))) (whole !)) $ exec ! C Λ En (arm_body 1 (head (after 2 fn.body))) (then_runs 𝓛 C Λ En (after 3 fn.body) (at_ret En Post)) $
    sets_last ! (agg ! (and_then ! (lit ! tt) (no_more !))) refl (tt, (record { fits = lit< tt }, tt)) $
    exec ! C Λ En (after 3 fn.body) (at_ret En Post) $
    sets ! (of_opd ! (get ! refl)) refl (tt, (record { fits = lit< tt }, tt)) $ returns ! (look_at ! 0 refl) $ free_all ! refl $
    use0 𝓛 (‵ (Out.own_val None (live 0 vnil ∷ []))) (none_of 𝓛 Pair) $ use0 𝓛 (raw (fact 𝓤 (Unit {0}))) (fact_i 𝓤 (Unit {0}) (emp 𝓤) tt) $
    nothing ! $ nothing ! $ fjoin ! $ nothing ! $ fjoin ! $ move ! (3 ∷ 0 ∷ 2 ∷ 1 ∷ []) $
    by ! (leaves 𝓛 E stays c z (live 0 vnil) None (tt, (tt, tt)) (tt, (tt, tt)))))))))
