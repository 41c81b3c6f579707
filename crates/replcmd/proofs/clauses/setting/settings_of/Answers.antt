use Rattle.std.proofs.Common.{◌≡◌, rules, arith}
use Rattle.std.proofs.lemmas.Result.{err_from_is_err_and}
use Rattle.replcmd.specs.Commands.{more_settings, settings_at}
use Rattle.replcmd.specs.Settings.{setting_at}
use Rattle.replcmd.proofs.Lists.{found, goes_on, is_done, item_stops, more_stops}
use Rattle.replcmd.proofs.Options.{settings_shorten}
use Rattle.replcmd.proofs.clauses.setting.settings_of.Goals as goal

pub returns-in_err-setting_of : goal.returns-in_err-setting_of
returns-in_err-setting_of c =
    let p = err_from_is_err_and c.from_residual.result c.from_residual.ensures.1 in
    rw (p.1, p.2) (item_stops (setting_at c.args.strictness) more_settings c.loop-settings.settings.items c.loop-settings.tokens (settings_at c.args.strictness c.args.tokens.now) c.in_err-setting_of.field-0.0 c.loop-settings.invariant c.in_err-setting_of.ensures)

pub returns-in_err-goes_on : goal.returns-in_err-goes_on
returns-in_err-goes_on c =
    let read : setting_at c.args.strictness c.loop-settings.tokens ≡ found c.in_ok-setting_of.field-0 c.setting_of.new.tokens = search rules in
    let p = err_from_is_err_and c.from_residual-in_err-goes_on.result c.from_residual-in_err-goes_on.ensures.1 in
    rw (p.1, p.2) (more_stops (setting_at c.args.strictness) more_settings c.loop-settings.settings.items c.loop-settings.tokens (settings_at c.args.strictness c.args.tokens.now) c.in_ok-setting_of.field-0 c.setting_of.new.tokens c.in_err-goes_on.field-0.0
    c.loop-settings.invariant read c.in_err-goes_on.ensures)

pub returns-then-not-branch : goal.returns-then-not-branch
returns-then-not-branch c =
    let read : setting_at c.args.strictness c.loop-settings.tokens ≡ found c.in_ok-setting_of.field-0 c.setting_of.new.tokens = search rules in
    let close : more_settings c.setting_of.new.tokens ≡ found c.in_ok-goes_on.field-0 c.goes_on.new.tokens = search rules in
    let done = is_done (setting_at c.args.strictness) more_settings c.loop-settings.settings.items c.loop-settings.tokens (settings_at c.args.strictness c.args.tokens.now) c.in_ok-setting_of.field-0 c.setting_of.new.tokens c.goes_on.new.tokens
    c.loop-settings.invariant read (rw c.if-not-branch.true at close) in
    rw c.in_ok-push.ensures.items done

pub loop-settings-smaller : goal.loop-settings-smaller
loop-settings-smaller c =
    let read : setting_at c.args.strictness c.loop-settings.tokens ≡ found c.in_ok-setting_of.field-0 c.setting_of.new.tokens = search rules in
    let comma : more_settings c.setting_of.new.tokens ≡ found c.in_ok-goes_on.field-0 c.goes_on.new.tokens = search rules in
    let first = (settings_shorten c.args.strictness).by_item c.loop-settings.tokens c.in_ok-setting_of.field-0 c.setting_of.new.tokens read in
    let second = (settings_shorten c.args.strictness).by_more c.setting_of.new.tokens c.goes_on.new.tokens (rw c.if-not-branch.false at comma) in
    omega (arith, first, second)

pub loop-settings-preserved : goal.loop-settings-preserved
loop-settings-preserved c =
    let read : setting_at c.args.strictness c.loop-settings.tokens ≡ found c.in_ok-setting_of.field-0 c.setting_of.new.tokens = search rules in
    let comma : more_settings c.setting_of.new.tokens ≡ found c.in_ok-goes_on.field-0 c.goes_on.new.tokens = search rules in
    let next = goes_on (setting_at c.args.strictness) more_settings (settings_shorten c.args.strictness) c.loop-settings.settings.items c.loop-settings.tokens (settings_at c.args.strictness c.args.tokens.now) c.in_ok-setting_of.field-0 c.setting_of.new.tokens c.goes_on.new.tokens
    c.loop-settings.invariant read (rw c.if-not-branch.false at comma) in
    rw c.in_ok-push.ensures.items next
