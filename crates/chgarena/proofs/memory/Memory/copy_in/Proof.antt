-- `copy_in` finds the first place, and then takes each place out, writes its byte, and puts it back. Assumes `Logic`.
use Rattle.chgarena.proofs.Steps.{◌≡◌, ℕ, ◌+◌, ◌-◌, ◌<◌, ◌≤◌, ◌^◌, List, [], ◌∷◌, Option, Some, None, length, get_or, set, refl, sym, ap, ◌∙◌, subst, lit<, w8, w64, arith, proved, after, Ura, full_share, id⊢, ftrue, flft, froom, ty_int, named, Val, vunit, vint, vptr, fact, tables, Logic, ‵, raw, ◌⊛◌, at_ret, Sq, Share, ◌$◌, ◌∵◌, !, qed, done, move, keep, use1, use2, split, join, fsplit, fsplit3, fjoin, feq_i, rewrite, suffices, group, enter, of_opd, lit, unit_lit, bin, load, look, init, stop, fld, assigns_last, first, blocks, branches, skips, exec, returns, alloc_all, pass_all, free_all, look_at, get, through, sets, sets_last, env, whole, sub, look_in, u8, usize, yes, shows, cell_at, uint_in, uint_vals, uint_Tells, owns, Ptr, in_a_block, mut_vals, mut_Tells, plain, types_at, nothing, opens, closes, heard, peeks, Stays, walk_of, says, stay_dropped, Goes-dropped, stay_ref, Goes-ref, ends_at}
use mathlib.Core.WellFounded.InvImage
use lib.Dec.{ltb→lt, nltb→le}
use lib.WfN.{lt-wf_rel}
use base.Logic.{SProp}
use prog.Wp.{Env, Out, Wp, Tables, at_return, after_seq, after_block, after_turn}
use contract.Running.{tables_of}
use mir.Syntax.{Body, loop}
use types.Kit.{Item, any_q, runs, split3, fjoin3}
use types.Run.{jumps, loops, again, Below}
use types.ByLocal.{get_in, is, holding, forget_but}
use denote.Builtin.{SliceRefOf}
use denote.Copied.{uint_Copied}
use denote.Index.{row, place_byte, elem_out, elem_back, looks_slice, shuts_slice}
use denote.Laws.{Is}
use denote.Slice.{slice_val, shr_slice_vals, shr_slice_Tells}
use Rattle.chgarena.specs.Places.{place, places, places_own, with_bytes}
use Rattle.chgarena.proofs.Places.{besides, place_out, place_in, place_room}
use Rattle.chgarena.proofs.Written.{so_far, none_so_far, length-so_far, one_more, all_so_far, length-with_bytes}
use Rattle.chgarena.specs.contracts.memory.Memory.copy_in as f
use Rattle.chgarena.proofs.memory.Memory.copy_in.Statement.{statement}
use Rattle.chgarena.proofs.memory.Memory.copy_in.Code as code
use Rattle.chgarena.specs.contracts.memory.Memory.{the_row as R}
use Rattle.chgarena.proofs.memory.Memory.TheLaws.{lowers}

abbrev stayed : Stays f.ended.signature.params f.ended.kept
stayed = (stay_ref (0 ∷ []) tt (plain (λ _. R)), (stay_dropped _ yes, (stay_dropped _ yes, tt)))

-- what runs after the loop
abbrev rest : Body
rest = after 4 (code.function).body

-- The loop, beside whatever else is owned. The region lies at (b', o'), and the bytes that are copied at (sb, so).
module _ {M : Type 1} {𝓤 : Ura M} (𝓛 : Logic 𝓤) (𝓣 : Tables 𝓤 𝓛.H) (l : ℕ → ℕ) (Post : Val → SProp 𝓤) (b o b' o' sb so at : ℕ)
    (ps : List (Option ℕ)) (xs : List ℕ) (q : Share) (fits : at + length xs ≤ length ps) (room : length xs < 2 ^ 64) (Else : Item 𝓤) where
  open 𝓛 use {H}

  abbrev En : Env 𝓤 H
  En = env code.Mir.locals l

  abbrev Left : Type 0
  Left = (i : ℕ) × (i ≤ length xs)

  abbrev Nearer : Left → Left → Type 0
  Nearer t u = length xs - t.0 < length xs - u.0

  abbrev Now : Left → List (Item 𝓤)
  Now t = ‵ (places b' o' (so_far ps at xs t.0)) ∷ ‵ (row u8 q xs sb so) ∷ Else
      ∷ holding 𝓛 En ((1, vptr b o) ∷ (2, vint w64 at) ∷ (3, slice_val (sb, so) (length xs)) ∷ (4, vptr b' (at + o')) ∷ (5, vint w64 t.0) ∷ [])

  abbrev Turned : Left → Out → SProp 𝓤
  Turned t = after_turn 𝓤 H (Below 𝓛 Nearer Now t) (after_block 𝓤 H (after_seq 𝓤 H (Wp 𝓤 H 𝓣.C 𝓣.Λ En rest (at_return 𝓤 H En Post)) (at_return 𝓤 H En Post)))

  abbrev Leaves : Type 1
  Leaves = Sq 𝓛 (‵ (places b' o' (so_far ps at xs (length xs))) ∷ ‵ (row u8 q xs sb so) ∷ Else ∷ holding 𝓛 En []) (runs 𝓣.C 𝓣.Λ En rest (at_ret En Post))

  turns : Leaves → (t : Left) → Sq 𝓛 (Now t) (runs 𝓣.C 𝓣.Λ En code.Mir.turn-1 (any_q (Turned t)))
  unfolding after_turn
  turns leaves t =
      let i : ℕ = t.0 in let le = t.1 in let qs = so_far ps at xs i in
      sets ! (of_opd ! (get_in ! (fld ! refl (stop !)) (sub ! 1 refl (whole !)))) refl (tt, record { fits = room }) $
      sets ! (bin ! (get ! refl) (get ! refl) tt) refl (tt, tt) $ first ! $ branches ! (get ! refl)
      (λ less. let low : i < length xs = ltb→lt i (length xs) less in
      let same = length-so_far ps at xs i fits le in let inside : at + i < length qs = omega arith in
      let to : ℕ = i + (at + o') in let byte : ℕ = get_or xs i 0 in let more : i + 1 < 2 ^ 64 = omega arith in
      skips ! $ exec ! 𝓣.C 𝓣.Λ En (after 3 code.Mir.turn-1) (any_q (Turned t)) $ first ! $ blocks ! $ move ! (1 ∷ []) $
      sets ! (is ! (bin ! (get_in ! (fld ! refl (stop !)) (sub ! 0 refl (whole !))) (get ! refl) tt) (ap (vptr sb) (sym (place_byte so i)))) refl (tt, tt) $
      elem_out ! u8 (Is u8) (shows 𝓛 u8) (uint_vals w8) (uint_Tells w8) q xs i 0 sb so low (λ g.
      sets ! (of_opd ! (load ! (through ! refl (stop !)) (look ! 0 refl))) refl (tt, record { fits = g.1 }) $
      sets ! (bin ! (get ! refl) (get ! refl) tt) refl (tt, tt) $
      -- [the byte to copy; what it owns; the others; the places; all else]
      move ! (3 ∷ []) $ use1 𝓛 (‵ (place b' to (get_or qs (at + i) None)) ⊛ ‵ (besides b' o' qs (at + i))) (place_out 𝓛 b' o' qs (at + i) to inside (omega arith)) $ split ! $
      use1 𝓛 (‵ (froom (ty_int w8) b' to)) (place_room 𝓛 b' to (get_or qs (at + i) None)) $
      assigns_last ! (of_opd ! (get ! refl)) (through ! refl (stop !)) (init ! 0 refl (tt, record { fits = g.1 })) $
      exec ! 𝓣.C 𝓣.Λ En (after 4 code.Mir.turn-1) (any_q (Turned t)) $
      use1 𝓛 (‵ (place b' to (Some byte))) (uint_in 𝓛 full_share w8 byte b' to) $
      use2 𝓛 (‵ (places b' o' (set qs (at + i) (Some byte)))) (place_in 𝓛 b' o' qs (at + i) to (Some byte) inside (omega arith)) $
      rewrite ! 0 (λ (rs : List (Option ℕ)). ‵ (places b' o' rs)) (one_more ps at xs i byte fits low refl) refl $
      move ! (1 ∷ 2 ∷ 3 ∷ []) $ elem_back ! u8 q xs i 0 (vint w8 byte ∷ []) sb so low $ move ! (1 ∷ []) $
      sets_last ! (bin ! (get ! refl) (lit ! tt) (record { fits = more })) refl (tt, record { fits = more }) $
      forget_but ! En (1 ∷ 2 ∷ 3 ∷ 4 ∷ 5 ∷ []) refl $ again ! Nearer Now t (i + 1, omega arith) (omega arith)))
      (λ over. let ge = nltb→le i (length xs) over in let all : i ≡ length xs = omega arith in
      jumps ! $ exec ! 𝓣.C 𝓣.Λ En rest (at_ret En Post) $ rewrite ! 0 (λ (k : ℕ). ‵ (places b' o' (so_far ps at xs k))) all refl $
      forget_but ! En [] refl $ leaves)

  goes : Leaves → Sq 𝓛 (Now (0, omega arith)) (runs 𝓣.C 𝓣.Λ En (loop code.Mir.turn-1) (any_q (after_block 𝓤 H (after_seq 𝓤 H (Wp 𝓤 H 𝓣.C 𝓣.Λ En rest (at_return 𝓤 H En Post)) (at_return 𝓤 H En Post)))))
  goes leaves = loops ! 𝓣 Nearer (InvImage.wf (λ (t : Left). length xs - t.0) lt-wf_rel.wf) Now (turns leaves) (0, omega arith)

pub copy_in_spec : {M : Type 1} → statement M
unfolding tables_of
copy_in_spec 𝓤 𝓛 𝓜 𝓡 wired =
    let c = f.clauses 𝓛 𝓜.mem 𝓡.returns in let W = walk_of 𝓛 f.ended stayed c in let 𝓣 : Tables 𝓤 𝓛.H = tables_of 𝓤 𝓛.H 𝓜 (tables 𝓤 𝓛.H 𝓜 𝓡 𝓡.env) in
    proved 𝓛 f.ended stayed c 𝓜 𝓡
    (Goes-ref 𝓛 2 0 tt (plain (λ _. R)), (Goes-dropped 𝓛 2 (plain (λ _. usize)) yes (λ κs x w. refl), (Goes-dropped 𝓛 2 (SliceRefOf (1 ∷ []) tt (plain (λ _. u8)) (λ _. tt)) yes (λ κs x w. refl), tt)))
    f.Key.name code.function (code.unfolded 𝓤 𝓛.H 𝓜 𝓡 wired)
    (λ κs. (mut_vals, (uint_vals w64, (shr_slice_vals, tt)))) (λ κs. (mut_Tells (named 0) κs.0 R, (uint_Tells w64, (shr_slice_Tells (named 1) κs.1.0 u8, tt)))) (λ κs qs bounds a _ are.
    let b = a.0.ref_ptr.0 in let o = a.0.ref_ptr.1 in let h = a.0.now in let at = a.1.0 in let xs = a.1.1.0.now in let sb = a.1.1.0.ref_ptr.0 in let so = a.1.1.0.ref_ptr.1 in
    let ps = h.places in let room = are.1.1.0.0.1 in
    let vss : List Val × (List Val × (List Val × Unit {0})) = (mut_vals a.0, (uint_vals w64 at, (shr_slice_vals a.1.1.0, tt))) in
    let y : W.Ghost = ((κs, qs, bounds, a, vss), tt) in
    qed 𝓛 (((‵ (flft κs.0 qs.0) ⊛ ‵ (flft κs.1.0 qs.1.0) ⊛ ‵ ftrue) ⊛ ‵ (owns (types_at f.ended.signature.params κs) a vss)) ∷ raw (fact 𝓤 (at + length xs ≤ length ps)) ∷ []) ∵
    move ! (1 ∷ []) $ heard ! _ (λ fits. split ! $ split3 ! $ move ! (3 ∷ []) $ fsplit3 ! $ fsplit3 ! $ move ! (4 ∷ []) $ fsplit ! $ fsplit ! $ keep ! (4 ∷ 5 ∷ 7 ∷ 1 ∷ 8 ∷ []) $
    enter ! _ _ _ _ _ $ alloc_all ! (λ l. pass_all ! refl ((tt, tt), ((tt, record { fits = are.1.0.1 }), ((tt, (tt, (record { fits = room.0 }, tt))), tt))) $
    opens ! tt R b o (λ us. move ! (1 ∷ []) $ peeks ! R _ (shows 𝓛 R) h us (λ is. fsplit ! $ move ! (1 ∷ []) $
    in_a_block ! h.ptr (λ p. places_own p ps) (id⊢ 𝓤 _) (λ b' o' e.
    let word = lowers.val_is h us is ∙ ap (λ (p : Ptr). lowers.lowered (record h { ptr = p }) ∷ []) e in
    let Cell = λ (ws : List Val). ‵ (cell_at full_share R.mir ws b o) in
    let small : length (with_bytes ps at xs) < 2 ^ 60 = subst (λ (n : ℕ). n < 2 ^ 60) (sym (length-with_bytes ps at xs fits)) h.small in
    let new = record h { places = with_bytes ps at xs; small = small } in
    rewrite ! 2 Cell word refl $ move ! (6 ∷ 7 ∷ []) $ looks_slice ! tt u8 (uint_Copied 𝓛 w8) xs sb so (λ p. move ! (3 ∷ 0 ∷ 5 ∷ []) $
    -- [the places; the bytes; the struct's cell; the bytes' way back; their loan; what the fields own; the open borrow, in three entries]
    first ! $ blocks ! $ sets ! (of_opd ! (load ! (through ! refl (fld ! refl (stop !))) (look_in ! 2 (sub ! 0 refl (whole !))))) refl (tt, tt) $
    sets_last ! (bin ! (get ! refl) (get ! refl) tt) refl (tt, tt) $
    exec ! 𝓣.C 𝓣.Λ (env code.Mir.locals l) (after 1 (code.function).body) (at_ret (env code.Mir.locals l) (W.post y)) $
    sets ! (of_opd ! (get ! refl)) refl (tt, tt) $ sets ! (of_opd ! (lit ! tt)) refl (tt, record { fits = lit< tt }) $
    forget_but ! (env code.Mir.locals l) (1 ∷ 2 ∷ 3 ∷ 4 ∷ 5 ∷ []) refl $ rewrite ! 0 (λ (rs : List (Option ℕ)). ‵ (places b' o' rs)) (none_so_far ps at xs) refl $
    move ! (2 ∷ 3 ∷ 4 ∷ 5 ∷ 6 ∷ 7 ∷ 8 ∷ []) $ group ! 7 $ move ! (1 ∷ 2 ∷ []) $ first ! $ blocks ! $
    goes 𝓛 𝓣 l (W.post y) b o b' o' sb so at ps xs p fits room.0 _ (
    move ! (2 ∷ []) $ split3 ! $ move ! (2 ∷ []) $ split3 ! $ move ! (2 ∷ []) $ split3 ! $ move ! (8 ∷ 6 ∷ []) $ shuts_slice ! tt u8 p xs sb so $
    move ! (7 ∷ 5 ∷ 6 ∷ 1 ∷ 2 ∷ 3 ∷ []) $ rewrite ! 0 (λ (rs : List (Option ℕ)). ‵ (places b' o' rs)) (all_so_far ps at xs (length xs) refl) refl $
    rewrite ! 0 (λ (r : Ptr). ‵ (places_own r (with_bytes ps at xs))) (sym e) refl $ rewrite ! 2 Cell (sym word) refl $
    move ! (1 ∷ []) $ fjoin ! $ move ! (1 ∷ []) $ closes ! tt R new us b o $
    sets ! (of_opd ! (unit_lit !)) refl (tt, tt) $ returns ! (look_at ! 0 refl) $ free_all ! refl $
    suffices ! _ (ends_at 𝓛 f.ended stayed c y vunit tt (new, (tt, (tt, tt))) (tt, (tt, (tt, tt)))) $ says ! (refl, refl) $
    feq_i ! (List Val) (mut_vals a.0) _ refl $ fjoin3 ! $ nothing ! $ nothing ! $ nothing ! $ fjoin3 ! $ move ! (1 ∷ 0 ∷ []) $ fjoin ! $
    nothing ! $ move ! (3 ∷ 0 ∷ []) $ join ! $ move ! (2 ∷ 0 ∷ []) $ join ! $ feq_i ! (List Val) (vunit ∷ []) _ refl $ keep ! (1 ∷ 2 ∷ 0 ∷ []) $ done !))))))))
