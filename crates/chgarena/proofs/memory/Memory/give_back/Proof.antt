-- `give_back` hands the allocator the places, whatever they hold, with the right to free them. Assumes `Logic`.
use Rattle.std.proofs.Common.{◌≡◌, ℕ, ◌*◌, List, [], ◌∷◌, ◌++◌, length, refl, ap, ◌∙◌, arith, lit<, w64}
use mir.Syntax.{Fn, Args, a_type, dcons, dnil, place}
use mir.Val.{Val, vint, vptr, vunit}
use mir.MapTy.{inst_fn}
use base.Logic.{SProp, never, id⊢}
use base.Fml.{Lft, Share, ftrue, flft, froom}
use prog.Capped.{capped_is}
use prog.Wp.{Env, WpFn}
use contract.BorrowLft.{◌⊑◌, ⊑_trans}
use contract.Monad.{fact}
use contract.Running.{tables}
use types.Kit.{‵, raw, ◌⊛◌, given, later, prop, settles, at_ret, ◌$◌, ◌∵◌, !, qed, by, move, drop as forget, use1, use3, split, join, learn, rewrite, regoal, fsplit, fsplit3, fjoin, feq_i, await}
use types.Part.{whole, sub}
use types.Run.{stop, fld, lit, unit_lit, of_opd, no_more, and_then, first, blocks, exec, returns, enter}
use types.ByLocal.{alloc_all, pass_all, free_all, look_at, get, get_in, sets, lands_last, env}
use denote.RattleType.{owns}
use denote.RawPtr.{Ptr, block_ptr, in_a_block}
use denote.Param.{bounded}
use denote.Signature.{types_at}
use denote.Steps.{nothing, heard}
use denote.Triple.Entry.{alive}
use denote.Triple.Call.{calls_at_last}
use denote.Triple.Walked.{Stays, stay_dropped, walk_of, Goes-dropped}
use Rattle.core.proofs.alloc.Calls.{Al, seen, Goes-blank, Gives, at_gives, Gives-goes, Gives-Gives}
use Rattle.core.proofs.alloc.Shapes.{after}
use Rattle.core.proofs.atomic.Steps.{fm}
use Rattle.std.proofs.raw_atomic.Walks.{proved_at, leaves}
use Rattle.chgarena.specs.Places.{bytes, places_own}
use Rattle.chgarena.proofs.Regions.{given_up, memory_val, memory_told, lease_val, lease_told, slot, goes_on, leaves_block}
use Rattle.chgarena.specs.contracts.memory.Memory.give_back.{ended, clauses}
use Rattle.chgarena.specs.contracts.memory.Memory.give_back.Key.{name}
use Rattle.chgarena.proofs.memory.Memory.give_back.Statement.{statement}
use Rattle.chgarena.proofs.memory.Memory.give_back.Code as code

pub give_back_spec : {M : Type 1} → statement M
give_back_spec 𝓤 𝓛 𝓜 𝓡 wired A L g d dd met md =
    let H = 𝓛.H in
    let T = ended A g d dd in
    let c = clauses A g d dd 𝓛 𝓜.mem 𝓡.returns in
    let args : Args = bounded (a_type ∷ []) (A, tt) (dcons d (dcons dd dnil)) in
    let fn : Fn = inst_fn args code.function in
    let ss = T.signature.params in
    let stays : Stays ss T.kept = (stay_dropped (slot ss 0) T.kept.0, (stay_dropped (slot ss 1) T.kept.1.0, (stay_dropped (slot ss 2) T.kept.1.1.0, (stay_dropped (slot ss 3) T.kept.1.1.1.0, tt)))) in
    let C = (tables 𝓤 H 𝓜 𝓡 𝓡.env).C in
    let Λ = (tables 𝓤 H 𝓜 𝓡 𝓡.env).Λ in
    proved_at 𝓛 T stays c 𝓜 𝓡
    (Goes-blank 𝓛 2 (slot ss 0) T.kept.0 (λ κs x f. tt), (Goes-blank 𝓛 2 (slot ss 1) T.kept.1.0 (λ κs x f. tt), (Goes-dropped 𝓛 2 (slot ss 2) T.kept.1.1.0 (λ κs x f. refl), (Goes-dropped 𝓛 2 (slot ss 3) T.kept.1.1.1.0 (λ κs x f. refl), tt))))
    (name args) fn (code.unfolded 𝓤 H 𝓜 𝓡 wired (A, tt) d dd) (λ z are.
    let Post : Val → SProp 𝓤 = (walk_of 𝓛 T stays c).post z in
    let a = z.0.3 in
    let vss = z.0.4 in
    let Y : Al = record { row = A; laws = L; g = g; d = d; drops = dd } in
    let κ : Lft = z.0.0.0 in
    let κ' : Lft = z.0.0.1.0 in
    let q : Share = z.0.1.0 in
    let q' : Share = z.0.1.1.0 in
    let x = a.0 in
    let k = a.1.0 in
    let h = a.1.1.0.now in
    let handle = a.1.1.0.ref_ptr in
    let n = a.1.1.1.0 in
    let fits = are.1.1.1.0.1 in
    let told = memory_told x.ptr vss.0 are.0.0 in
    let Asked : Type 0 = (k.alloc ≡ h) × (k.ptr ≡ x.ptr) × (k.size ≡ n) × (length x.places ≡ n) in
    qed 𝓛 ((raw (alive 𝓛 T.signature z.0.0 z.0.1) ⊛ ‵ (owns (types_at ss z.0.0) a vss)) ∷ (raw (fact 𝓤 (κ' ⊑ A.lives)) ⊛ raw (fact 𝓤 Asked)) ∷ []) ∵
    move ! (1 ∷ []) $ split ! $ heard ! (κ' ⊑ A.lives) (λ le. heard ! Asked (λ asked. split ! $ move ! (1 ∷ []) $
    fsplit3 ! $ fsplit ! $ forget ! $ in_a_block ! x.ptr (λ p. places_own p x.places) (id⊢ 𝓤 (never 𝓤)) (λ b o at.
    use1 𝓛 (‵ (froom (bytes (length x.places)) b o)) (given_up 𝓛 b o x.places) $ rewrite ! 0 (λ (m : ℕ). ‵ (froom (bytes m) b o)) asked.3 refl $
    move ! (1 ∷ []) $ fsplit ! $ forget ! $
    rewrite ! 0 (λ (u : A.Denot × ℕ × Ptr). ‵ (g.dealloc_token u.0 (bytes u.1) u.2)) (λ i. (asked.0 i, asked.2 i, (asked.1 ∙ at) i)) refl $
    move ! (2 ∷ []) $ fsplit ! $ fsplit ! $ forget ! $ move ! (1 ∷ []) $ forget ! $ use1 𝓛 (‵ (seen Y κ handle h)) (id⊢ 𝓤 _) $
    move ! (3 ∷ []) $ use1 𝓛 (‵ (flft κ q) ⊛ ‵ (flft κ' q') ⊛ ‵ ftrue) (id⊢ 𝓤 _) $ split ! $ move ! (2 ∷ 0 ∷ []) $ join ! $ move ! (3 ∷ 2 ∷ []) $
    -- [the room; the right to free it; the `&` to the allocator and a token; the other tokens]
    let y = at_gives Y 𝓛 𝓜.mem 𝓡.returns κ q handle h b o n 1 (bytes n) in
    regoal ! (λ (us : List Val). prop (WpFn 𝓤 H C Λ fn us Post))
    (λ i. (told ∙ ap (λ (p : Ptr). memory_val p ∷ []) at) i ++ (lease_told vss.1.0 are.1.0.0 i ++ (are.1.1.0.0 i ++ (are.1.1.1.0.0 i ++ [])))) refl $
    enter ! C Λ fn (memory_val (block_ptr b o) ∷ lease_val ∷ vptr handle.0 handle.1 ∷ vint w64 n ∷ []) Post $
    alloc_all ! (λ l. pass_all ! refl ((tt, (tt, tt)), ((tt, (tt, tt)), ((tt, tt), ((tt, record { fits = fits }), tt)))) $ let E : Env 𝓤 𝓛.H = env fn.locals l in
    sets ! (of_opd ! (get_in ! (fld ! refl (stop !)) (sub ! 0 refl (whole !)))) refl (tt, tt) $
    first ! $ blocks ! $
    use3 𝓛 (raw ((Gives Y 𝓛 𝓜.mem 𝓡.returns).pre y))
    (Gives-goes Y 𝓛 𝓜.mem 𝓡.returns κ q handle h (⊑_trans κ κ' A.lives z.0.2.0 le) b o n 1 (bytes n) (capped_is (n * 1) (omega arith) ∙ omega arith) refl fits (lit< tt)) $
    calls_at_last ! (fm 𝓛 𝓜 𝓡) (Gives Y 𝓛 𝓜.mem 𝓡.returns) (met.deallocate dd) y (and_then ! (get ! refl) (and_then ! (get ! refl) (and_then ! (get ! refl) (and_then ! (lit ! tt) (no_more !))))) (λ v.
    use1 𝓛 (later (given (v ≡ vunit) (‵ (flft κ q)))) (Gives-Gives Y 𝓛 𝓜.mem 𝓡.returns κ q handle h b o n 1 (bytes n) v) $ await ! tt $ learn ! (λ e. join ! $
    regoal ! (λ (u : Val). settles E (place 6 []) u (leaves_block 𝓛 (goes_on 𝓛 C Λ E (after 2 fn.body) (at_ret E Post)))) e refl $ lands_last ! refl (tt, tt) $
    exec ! C Λ E (after 2 fn.body) (at_ret E Post) $
    sets ! (of_opd ! (unit_lit !)) refl (tt, tt) $
    returns ! (look_at ! 0 refl) $ free_all ! refl $
    feq_i ! (List Val) (vunit ∷ []) (vunit ∷ []) refl $ nothing ! $ nothing ! $ nothing ! $ fjoin ! $ nothing ! $ fjoin ! $ nothing ! $ fjoin ! $ nothing ! $ fjoin ! $ move ! (3 ∷ 0 ∷ 2 ∷ 1 ∷ []) $
    by ! (leaves 𝓛 T stays c z vunit tt (tt, (tt, (tt, (tt, tt)))) (tt, (tt, (tt, (tt, tt))))))))))))
