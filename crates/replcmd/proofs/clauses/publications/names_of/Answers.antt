use Rattle.std.proofs.Common.{◌≡◌, suc, true, [], ◌∷◌, length, Ok, Err, sym, ap, subst, ◌∙◌, rules, arith}
use Rattle.std.specs.Str.{IsUtf8}
use Rattle.std.proofs.lemmas.Result.{err_from_is_err_and}
use Rattle.replcmd.specs.declared.fault.CmdFault.TheVariants.{BadOption}
use Rattle.replcmd.specs.declared.fault.OptionFault.TheVariants.{PublicationNames}
use Rattle.replcmd.specs.Reading.{comma_at, front_name, more_names, names_of, separated_items}
use Rattle.replcmd.proofs.Lists.{found, fails_on, goes_on, is_done, item_stops, more_fails}
use Rattle.replcmd.proofs.PublicationNames.{names_shorten, name_rest_is_text, blanks_shorten, comma_on, comma_done, comma_refused}
use Rattle.replcmd.proofs.Texts.{behind_ascii, unblanked_is_text}
use Rattle.replcmd.proofs.clauses.publications.names_of.Goals as goal

pub returns-in_err-name : goal.returns-in_err-name
unfolding names_of
returns-in_err-name c =
    let whole = separated_items front_name more_names (suc (length c.args.text.now)) c.args.text.now in
    let p = err_from_is_err_and c.from_residual.result c.from_residual.ensures.1 in
    rw (p.1, p.2) (fails_on c.in_err-name.field-0.0 whole (λ names. Ok names.0)
    (item_stops front_name more_names c.loop-names.names.items c.loop-names.place.now whole c.in_err-name.field-0.0 c.loop-names.invariant.going c.in_err-name.ensures))

pub returns-in_default : goal.returns-in_default
unfolding names_of
returns-in_default c =
    let whole = separated_items front_name more_names (suc (length c.args.text.now)) c.args.text.now in
    let read : front_name c.loop-names.place.now ≡ found c.in_ok-name.name c.in_ok-name.behind.now = search rules in
    let end : length c.after_blanks.result.now ≡ 0 = search rules in
    let done = is_done front_name more_names c.loop-names.names.items c.loop-names.place.now whole c.in_ok-name.name c.in_ok-name.behind.now [] c.loop-names.invariant.going read (ap comma_at (sym c.after_blanks.ensures) ∙ comma_done c.after_blanks.result.now end) in
    let pushed = c.in_ok-push.ensures.items in
    rw done (ap Ok (sym (c.new.ensures ∙ pushed)))

pub returns-then-b-ne-COMMA : goal.returns-then-b-ne-COMMA
unfolding names_of
returns-then-b-ne-COMMA c =
    let whole = separated_items front_name more_names (suc (length c.args.text.now)) c.args.text.now in
    let read : front_name c.loop-names.place.now ≡ found c.in_ok-name.name c.in_ok-name.behind.now = search rules in
    let front : c.after_blanks.result.now ≡ c.in-Some.b.now ∷ c.in-Some.rest.now = search rules in
    let other : more_names c.in_ok-name.behind.now ≡ Err (BadOption PublicationNames) = ap comma_at (sym c.after_blanks.ensures ∙ front) ∙ comma_refused c.in-Some.b.now c.in-Some.rest.now c.if-b-ne-COMMA.true in
    rw (more_fails front_name more_names c.loop-names.names.items c.loop-names.place.now whole c.in_ok-name.name c.in_ok-name.behind.now (BadOption PublicationNames) c.loop-names.invariant.going read other)

pub loop-names-smaller : goal.loop-names-smaller
loop-names-smaller c =
    let read : front_name c.loop-names.place.now ≡ found c.in_ok-name.name c.in_ok-name.behind.now = search rules in
    let front : c.after_blanks.result.now ≡ c.in-Some.b.now ∷ c.in-Some.rest.now = search rules in
    let less = names_shorten.by_item c.loop-names.place.now c.in_ok-name.name c.in_ok-name.behind.now read in
    omega (arith, less, ap length (sym c.after_blanks.ensures ∙ front), blanks_shorten c.in_ok-name.behind.now)

pub loop-names-preserved : goal.loop-names-preserved
loop-names-preserved c =
    let whole = separated_items front_name more_names (suc (length c.args.text.now)) c.args.text.now in
    let read : front_name c.loop-names.place.now ≡ found c.in_ok-name.name c.in_ok-name.behind.now = search rules in
    let front : c.after_blanks.result.now ≡ c.in-Some.b.now ∷ c.in-Some.rest.now = search rules in
    let comma : c.in-Some.b.now ≡ 44 = omega arith in
    let more : more_names c.in_ok-name.behind.now ≡ found true c.in-Some.rest.now = ap comma_at (sym c.after_blanks.ensures ∙ front) ∙ comma_on c.in-Some.b.now c.in-Some.rest.now comma in
    let next = goes_on front_name more_names names_shorten c.loop-names.names.items c.loop-names.place.now whole c.in_ok-name.name c.in_ok-name.behind.now c.in-Some.rest.now c.loop-names.invariant.going read more in
    record {
      going = rw c.in_ok-push.ensures.items next;
      valid = behind_ascii c.in-Some.b.now c.in-Some.rest.now (omega arith)
          (subst IsUtf8 (sym c.after_blanks.ensures ∙ front)
          (unblanked_is_text c.in_ok-name.behind.now (name_rest_is_text c.loop-names.place.now c.in_ok-name.name c.in_ok-name.behind.now c.loop-names.invariant.valid read)));
    }
