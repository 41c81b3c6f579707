use Rattle.std.proofs.Common.{◌≡◌, ℕ, List, true, subst, sym, ◌∙◌}
use Rattle.std.specs.Str.{is_utf8}
use Rattle.std.proofs.lemmas.Str.{is_utf8-from_IsUtf8}
use Rattle.publication.specs.Logged.{fits_log}
use Rattle.publication.proofs.Projecting.{coded_message}
use Rattle.publication.proofs.projection.is_short.Goals as goal

pub returns-in-Message-clause-coded : goal.returns-in-Message-clause-coded
returns-in-Message-clause-coded c = λ is.
    let held = c.in-Message.message in
    let prefix = c.as_str.result.now in
    let lent = subst (λ (content : List ℕ). fits_log (record { prefix = prefix; content = content }) ≡ true) c.as_slice-in-Message.ensures (sym c.fits_log.ensures ∙ is) in
    let fits = subst (λ (text : List ℕ). fits_log (record { prefix = text; content = held.content }) ≡ true) c.as_str.ensures.value lent in
    let text = subst (λ (text : List ℕ). is_utf8 text ≡ true) c.as_str.ensures.value (is_utf8-from_IsUtf8 prefix c.as_str.ensures.utf8) in
    rw c.in-Message.is (coded_message held fits text)
