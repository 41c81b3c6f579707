-- `make` asks the allocator for so many bytes, and has them as places that are not written. Assumes `Logic`.
use Rattle.std.proofs.Common.{◌≡◌, ◌*◌, ◌<◌, ◌^◌, List, [], ◌∷◌, ◌++◌, Some, None, length, replicate, refl, sym, ◌∙◌, subst, arith, lit<, w64}
use Rattle.std.proofs.lemmas.List.{length-replicate}
use mir.Syntax.{Fn, Args, a_type, dcons, dnil}
use mir.Val.{Val, vint, vptr, vcons, vnil}
use mir.MapTy.{inst_fn}
use base.Logic.{SProp, emp, id⊢}
use base.Fml.{Lft, Share, ftrue, flft}
use prog.Capped.{capped_is}
use prog.Wp.{Env, WpFn}
use contract.BorrowLft.{◌⊑◌, ⊑_trans}
use contract.Monad.{fact, fact_i}
use contract.Running.{tables}
use types.Kit.{‵, raw, ◌⊛◌, later, prop, at_ret, ◌$◌, ◌∵◌, !, qed, by, move, drop as forget, use0, use1, use2, split, join, regoal, fsplit, fjoin, await}
use types.Part.{whole, agg}
use types.Match.{live, vrt, in_variant}
use types.Run.{stop, fld, lit, of_opd, no_more, and_then, first, switches_on, exec, returns, enter}
use types.ByLocal.{alloc_all, pass_all, free_all, look_at, get, get_in, get_tag, sets, sets_last, lands_as, env}
use denote.RattleType.{RattleType, owns}
use denote.RawPtr.{Ptr, block_ptr}
use denote.Param.{param, bounded}
use denote.Signature.{types_at, type_at}
use denote.Steps.{nothing, heard}
use denote.Struct.Tuple.{Tuple}
use denote.Triple.Entry.{alive}
use denote.Triple.Call.{calls_at}
use denote.Triple.Walked.{Stays, stay_dropped, walk_of, Goes-dropped}
use Rattle.core.proofs.alloc.Calls.{Al, seen, Takes, at_takes, Answered, Takes-goes, Takes-gives, answers}
use Rattle.core.proofs.alloc.Shapes.{after, head, arm_body}
use Rattle.core.proofs.atomic.Steps.{fm}
use Rattle.core.proofs.option.Made.{Some-of, none_of}
use Rattle.std_alloc.proofs.Pairs.{pair_of, pair_val}
use Rattle.std.proofs.raw_atomic.Walks.{proved_at, leaves}
use Rattle.chgarena.specs.Places.{bytes, places}
use Rattle.chgarena.proofs.Regions.{unwritten, memory_val, memory_own, memory_made, lease_val, lease_own, lease_made, slot, goes_on}
use Rattle.chgarena.specs.contracts.memory.Memory as memory
use Rattle.chgarena.specs.contracts.memory.ReleaseRight as lease
use Rattle.chgarena.specs.contracts.memory.Memory.make.{ended, clauses}
use Rattle.chgarena.specs.contracts.memory.Memory.make.Key.{name}
use Rattle.chgarena.proofs.memory.Memory.make.Statement.{statement}
use Rattle.chgarena.proofs.memory.Memory.make.Code as code

pub make_spec : {M : Type 1} → statement M
make_spec 𝓤 𝓛 𝓜 𝓡 wired A L g d dd met md =
    let H = 𝓛.H in
    let T = ended A g d dd in
    let c = clauses A g d dd 𝓛 𝓜.mem 𝓡.returns in
    let args : Args = bounded (a_type ∷ []) (A, tt) (dcons d (dcons dd dnil)) in
    let fn : Fn = inst_fn args code.function in
    let ss = T.signature.params in
    let stays : Stays ss T.kept = (stay_dropped (slot ss 0) T.kept.0, (stay_dropped (slot ss 1) T.kept.1.0, tt)) in
    let C = (tables 𝓤 H 𝓜 𝓡 𝓡.env).C in
    let Λ = (tables 𝓤 H 𝓜 𝓡 𝓡.env).Λ in
    proved_at 𝓛 T stays c 𝓜 𝓡 (Goes-dropped 𝓛 2 (slot ss 0) T.kept.0 (λ κs x f. refl), (Goes-dropped 𝓛 2 (slot ss 1) T.kept.1.0 (λ κs x f. refl), tt))
    (name args) fn (code.unfolded 𝓤 H 𝓜 𝓡 wired (A, tt) d dd) (λ z are.
    let Post : Val → SProp 𝓤 = (walk_of 𝓛 T stays c).post z in
    let Y : Al = record { row = A; laws = L; g = g; d = d; drops = dd } in
    let κ : Lft = z.0.0.0 in
    let κ' : Lft = z.0.0.1.0 in
    let q : Share = z.0.1.0 in
    let q' : Share = z.0.1.1.0 in
    let h = z.0.3.0.now in
    let at = z.0.3.0.ref_ptr in
    let n = z.0.3.1.0 in
    let fits = are.1.0.1 in
    let y = at_takes Y 𝓛 𝓜.mem 𝓡.returns κ q at h n 1 (bytes n) in
    let Out : RattleType = type_at T.signature.result z.0.0 in
    let Held : RattleType = lease.the_row (param 0 A) g in
    let Pair : RattleType = Tuple (memory.the_row ∷ Held ∷ []) in
    qed 𝓛 ((raw (alive 𝓛 T.signature z.0.0 z.0.1) ⊛ ‵ (owns (types_at ss z.0.0) z.0.3 z.0.4)) ∷ (raw (fact 𝓤 (κ' ⊑ A.lives)) ⊛ raw (fact 𝓤 (n < 2 ^ 60))) ∷ []) ∵
    move ! (1 ∷ []) $ split ! $ heard ! (κ' ⊑ A.lives) (λ le. heard ! (n < 2 ^ 60) (λ small. split ! $ move ! (1 ∷ []) $
    fsplit ! $ fsplit ! $ forget ! $ move ! (1 ∷ []) $ forget ! $ use1 𝓛 (‵ (seen Y κ at h)) (id⊢ 𝓤 _) $
    move ! (1 ∷ []) $ use1 𝓛 (‵ (flft κ q) ⊛ ‵ (flft κ' q') ⊛ ‵ ftrue) (id⊢ 𝓤 _) $ split ! $ move ! (2 ∷ 0 ∷ []) $
    -- [the `&` to the allocator; a token; the others]
    regoal ! (λ (us : List Val). prop (WpFn 𝓤 H C Λ fn us Post)) (λ i. are.0.0 i ++ (are.1.0.0 i ++ [])) refl $
    enter ! C Λ fn (vptr at.0 at.1 ∷ vint w64 n ∷ []) Post $
    alloc_all ! (λ l. pass_all ! refl ((tt, tt), ((tt, record { fits = fits }), tt)) $ let E : Env 𝓤 𝓛.H = env fn.locals l in
    use2 𝓛 (raw ((Takes Y 𝓛 𝓜.mem 𝓡.returns).pre y))
    (Takes-goes Y 𝓛 𝓜.mem 𝓡.returns κ q at h (⊑_trans κ κ' A.lives z.0.2.0 le) n 1 (bytes n) (capped_is (n * 1) (omega arith) ∙ omega arith) refl fits (lit< tt)) $
    calls_at ! (fm 𝓛 𝓜 𝓡) (Takes Y 𝓛 𝓜.mem 𝓡.returns) (met.allocate dd) y (and_then ! (get ! refl) (and_then ! (get ! refl) (and_then ! (lit ! tt) (no_more !)))) (λ v.
    use1 𝓛 (later (raw (Answered Y 𝓛 𝓜.mem 𝓡.returns h (bytes n) v) ⊛ ‵ (flft κ q))) (Takes-gives Y 𝓛 𝓜.mem 𝓡.returns κ q at h n 1 (bytes n) v) $ await ! tt $ split ! $
    answers Y ! 𝓜.mem 𝓡.returns h (bytes n) v
    (λ b o e.
    let p : Ptr = block_ptr b o in
    move ! (2 ∷ 3 ∷ []) $ join ! $ move ! (1 ∷ 2 ∷ []) $ use1 𝓛 (‵ (places b o (replicate n None))) (unwritten 𝓛 b o n) $
    -- [the places; the right to free them; the tokens]
    lands_as ! e refl (tt, (record { fits = lit< tt }, (tt, tt))) $
    first ! $ switches_on ! (get_tag ! (vrt ! refl (fld ! refl (stop !))) (whole !)) $ exec ! C Λ E (arm_body 0 (head (after 1 fn.body))) (goes_on 𝓛 C Λ E (after 2 fn.body) (at_ret E Post)) $
    sets ! (of_opd ! (get_in ! (vrt ! refl (fld ! refl (stop !))) (in_variant ! 0 0 refl refl (whole !)))) refl (tt, tt) $
    sets ! (agg ! (no_more !)) refl (tt, tt) $
    sets ! (agg ! (and_then ! (get ! refl) (no_more !))) refl (tt, (tt, tt)) $
    sets ! (agg ! (and_then ! (get ! refl) (no_more !))) refl (tt, (tt, tt)) $
    sets ! (agg ! (and_then ! (get ! refl) (and_then ! (get ! refl) (no_more !)))) refl (tt, ((tt, tt), ((tt, tt), tt))) $
    sets_last ! (agg ! (and_then ! (lit ! tt) (and_then ! (get ! refl) (no_more !)))) refl (tt, (record { fits = lit< tt }, (((tt, tt), ((tt, tt), tt)), tt))) $
    exec ! C Λ E (after 2 fn.body) (at_ret E Post) $
    sets ! (of_opd ! (get ! refl)) refl (tt, (record { fits = lit< tt }, (((tt, tt), ((tt, tt), tt)), tt))) $
    returns ! (look_at ! 0 refl) $ free_all ! refl $
    let few : length (replicate n None) < 2 ^ 60 = subst (λ k. k < 2 ^ 60) (sym (length-replicate n None)) small in
    let x : memory.the_row.Denot = record { ptr = p; places = replicate n None; small = few } in
    let k : Held.Denot = record { of = record {}; alloc = h; ptr = p; size = n } in
    let w : Val = pair_val (memory_val p) lease_val in
    use0 𝓛 (‵ (memory_own p (memory_val p ∷ []))) (memory_made 𝓛 p) $ fjoin ! $ move ! (1 ∷ []) $
    use0 𝓛 (‵ (lease_own (lease_val ∷ []))) (lease_made 𝓛) $ fjoin ! $ move ! (1 ∷ 0 ∷ []) $
    use2 𝓛 (‵ (Pair.own_val (x, k) (w ∷ []))) (pair_of 𝓛 memory.the_row Held x k (memory_val p) lease_val) $
    use1 𝓛 (‵ (Out.own_val (Some (x, k)) (live 1 (vcons w vnil) ∷ []))) (Some-of 𝓛 Pair (x, k) w) $
    let says : Type 0 = (replicate n None ≡ replicate n None) × (h ≡ h) × (p ≡ p) × (n ≡ n) in
    use0 𝓛 (raw (fact 𝓤 says)) (fact_i 𝓤 says (emp 𝓤) (refl, refl, refl, refl)) $
    nothing ! $ nothing ! $ fjoin ! $ nothing ! $ fjoin ! $ move ! (3 ∷ 0 ∷ 2 ∷ 1 ∷ []) $
    by ! (leaves 𝓛 T stays c z (live 1 (vcons w vnil)) (Some (x, k)) (tt, (tt, tt)) (tt, (tt, tt))))
    (λ e. join ! $ lands_as ! e refl (tt, (record { fits = lit< tt }, (tt, tt))) $
    first ! $ switches_on ! (get_tag ! (vrt ! refl (fld ! refl (stop !))) (whole !)) $ exec ! C Λ E (arm_body 1 (head (after 1 fn.body))) (goes_on 𝓛 C Λ E (after 2 fn.body) (at_ret E Post)) $
    sets_last ! (agg ! (and_then ! (lit ! tt) (no_more !))) refl (tt, (record { fits = lit< tt }, tt)) $
    exec ! C Λ E (after 2 fn.body) (at_ret E Post) $
    sets ! (of_opd ! (get ! refl)) refl (tt, (record { fits = lit< tt }, tt)) $
    returns ! (look_at ! 0 refl) $ free_all ! refl $
    use0 𝓛 (‵ (Out.own_val None (live 0 vnil ∷ []))) (none_of 𝓛 Pair) $ use0 𝓛 (raw (fact 𝓤 (Unit {0}))) (fact_i 𝓤 (Unit {0}) (emp 𝓤) tt) $
    nothing ! $ nothing ! $ fjoin ! $ nothing ! $ fjoin ! $ move ! (3 ∷ 0 ∷ 2 ∷ 1 ∷ []) $
    by ! (leaves 𝓛 T stays c z (live 0 vnil) None (tt, (tt, tt)) (tt, (tt, tt)))))))))
