-- `lend` reads the pointer through the `&`, and hands on a `&` to each byte of the run. Assumes `Logic`.
use Rattle.chgarena.proofs.Steps.{◌≡◌, ℕ, ◌+◌, ◌*◌, ◌≤◌, ◌^◌, List, [], ◌∷◌, Option, Some, length, map, take, drop, refl, sym, ap, w64, arith, proved, after, id⊢, never, ftrue, flft, fhide, named, Val, fact, tables, ‵, raw, ◌⊛◌, at_ret, ◌$◌, ◌∵◌, !, qed, done, move, keep, forget, use1, split, fsplit, fjoin, feq_i, flt_i, suffices, enter, of_opd, bin, load, look, stop, fld, no_more, and_then, first, blocks, exec, returns, alloc_all, pass_all, free_all, look_at, get, through, sets, sets_last, env, agg, u8, usize, RefOf, yes, hidden_shr, uint_vals, uint_Tells, owns, block_ptr, in_a_block, shr_vals, shr_Tells, plain, types_at, nothing, heard, Stays, walk_of, says, stay_dropped, Goes-dropped, ends_at}
use denote.Opens.{hide, unhide}
use denote.Slice.{slice_val, elements_shared}
use denote.Struct.Lending.{lent_out}
use denote.Struct.Struct.{Struct}
use denote.Struct.Owning.{shape}
use Rattle.std.proofs.lemmas.List.{length-map, length-drop, length-take-le}
use Rattle.core.proofs.slots.Lent.{pointer_in, pointer_out}
use Rattle.chgarena.specs.Places.{places_lent}
use Rattle.chgarena.proofs.Lent.{run_seen}
use Rattle.chgarena.specs.contracts.memory.Memory.lend as f
use Rattle.chgarena.proofs.memory.Memory.lend.Statement.{statement}
use Rattle.chgarena.proofs.memory.Memory.lend.Code as code
use Rattle.chgarena.specs.contracts.memory.Memory as C

-- how many bytes are lent
length_lent : (ps : List (Option ℕ)) (from len : ℕ) (bytes : List ℕ) → from + len ≤ length ps → take len (drop from ps) ≡ map Some bytes → length bytes ≡ len
length_lent ps from len bytes within e =
    let n : length (take len (drop from ps)) ≡ length (map (λ (x : ℕ). Some x) bytes) = ap length e in
    let left = length-drop from ps in
    omega (arith, length-map bytes (λ (x : ℕ). Some x), length-take-le len (drop from ps) (omega arith))

abbrev stayed : Stays f.ended.signature.params f.ended.kept
stayed = (stay_dropped (RefOf (0 ∷ []) tt (plain (λ _. C.the_row)) (λ _. tt)) yes, (stay_dropped _ yes, (stay_dropped _ yes, tt)))

pub lend_spec : {M : Type 1} → statement M
lend_spec 𝓤 𝓛 𝓜 𝓡 wired =
    let c = f.clauses 𝓛 𝓜.mem 𝓡.returns in let W = walk_of 𝓛 f.ended stayed c in let 𝓣 = tables 𝓤 𝓛.H 𝓜 𝓡 𝓡.env in
    proved 𝓛 f.ended stayed c 𝓜 𝓡
    (Goes-dropped 𝓛 1 (RefOf (0 ∷ []) tt (plain (λ _. C.the_row)) (λ _. tt)) yes (λ κs x w. refl), (Goes-dropped 𝓛 1 (plain (λ _. usize)) yes (λ κs x w. refl), (Goes-dropped 𝓛 1 (plain (λ _. usize)) yes (λ κs x w. refl), tt)))
    f.Key.name code.function (code.unfolded 𝓤 𝓛.H 𝓜 𝓡 wired)
    (λ κs. (shr_vals, (uint_vals w64, (uint_vals w64, tt)))) (λ κs. (shr_Tells (named 0) κs.0 C.the_row, (uint_Tells w64, (uint_Tells w64, tt)))) (λ κs qs bounds a _ are.
    let κ = κs.0 in let q = qs.0 in let b = a.0.ref_ptr.0 in let o = a.0.ref_ptr.1 in let h = a.0.now in let from = a.1.0 in let len = a.1.1.0 in
    let vss : List Val × (List Val × (List Val × Unit {0})) = (shr_vals a.0, (uint_vals w64 from, (uint_vals w64 len, tt))) in
    let y : W.Ghost = ((κs, qs, bounds, a, vss), tt) in
    let Within : Type 0 = from + len ≤ length h.places in
    let Written : Type 0 = (bytes : List ℕ) × (take len (drop from h.places) ≡ map Some bytes) in
    qed 𝓛 (((‵ (flft κ q) ⊛ ‵ ftrue) ⊛ ‵ (owns (types_at f.ended.signature.params κs) a vss)) ∷ (raw (fact 𝓤 Within) ⊛ raw (fact 𝓤 Written)) ∷ []) ∵
    move ! (1 ∷ []) $ split ! $ heard ! Within (λ within. heard ! Written (λ written. split ! $ split ! $ keep ! (0 ∷ 2 ∷ []) $ move ! (1 ∷ []) $ fsplit ! $ keep ! (0 ∷ 2 ∷ []) $
    fsplit ! $ forget ! $
    use1 𝓛 (‵ (hidden_shr (Struct (shape C.the_type)) κ (h.ptr, tt) b o) ⊛ ‵ (fhide (C.the_lent h (block_ptr b o) κ))) (lent_out 𝓛 C.struct C.the_codes C.the_heap C.the_lent κ h b o) $ split ! $
    move ! (1 ∷ []) $ unhide ! $
    in_a_block ! h.ptr (λ p. places_lent p h.places κ) (id⊢ 𝓤 (never 𝓤)) (λ b' o' e.
    let bytes = written.0 in
    let n = length_lent h.places from len bytes within written.1 in
    use1 𝓛 (‵ (elements_shared u8 bytes b' (from + o') κ)) (run_seen 𝓛 κ b' o' h.places from len bytes written.1) $ hide ! $
    move ! (1 ∷ []) $ unhide ! $ fsplit ! $ fsplit ! $ hide ! $ keep ! (0 ∷ 4 ∷ 3 ∷ []) $
    -- [the pointer's word; the token; the bytes]
    enter ! _ _ _ _ _ $ alloc_all ! (λ l. pass_all ! refl ((tt, tt), ((tt, record { fits = are.1.0.1 }), ((tt, record { fits = are.1.1.0.1 }), tt))) $
    first ! $ blocks ! $ pointer_in ! tt h.ptr b' o' e b (o + 0) (λ q'.
    sets ! (of_opd ! (load ! (through ! refl (fld ! refl (stop !))) (look ! 0 refl))) refl (tt, tt) $
    pointer_out ! tt h.ptr b' o' e b (o + 0) $
    sets ! (bin ! (get ! refl) (get ! refl) tt) refl (tt, tt) $
    sets_last ! (agg ! (and_then ! (get ! refl) (and_then ! (get ! refl) (no_more !)))) refl (tt, (tt, (record { fits = are.1.1.0.1 }, tt))) $
    exec ! 𝓣.C 𝓣.Λ (env code.Mir.locals l) (after 1 (code.function).body) (at_ret _ (W.post y)) $
    sets ! (of_opd ! (get ! refl)) refl (tt, (tt, (record { fits = are.1.1.0.1 }, tt))) $
    returns ! (look_at ! 0 refl) $ free_all ! refl $
    suffices ! _ (ends_at 𝓛 f.ended stayed c y (slice_val (b', from + o') len) (record { ref_ptr = (b', from + o'); now = bytes }) (tt, (tt, (tt, tt))) (tt, (tt, (tt, tt)))) $ says ! written.1 $
    move ! (1 ∷ []) $
    flt_i ! (length bytes * 1) (2 ^ 63) (omega (arith, h.small)) $ flt_i ! (length bytes) (2 ^ 64) (omega (arith, are.1.1.0.1)) $ fjoin ! $
    feq_i ! (List Val) (slice_val (b', from + o') len ∷ []) (slice_val (b', from + o') (length bytes) ∷ []) (ap (λ k. slice_val (b', from + o') k ∷ []) (sym n)) $ fjoin ! $ fjoin ! $
    nothing ! $ nothing ! $ fjoin ! $ nothing ! $ fjoin ! $ nothing ! $ fjoin ! $
    nothing ! $ move ! (3 ∷ 0 ∷ []) $ fjoin ! $ done !))))))
