-- One part of a configuration read after those before it.
use Rattle.std.proofs.Common.{◌≡◌, ℕ, ◌+◌, ◌<◌, List, [], ◌∷◌, ◌++◌, length, drop, get_or, Result, Ok, sym, ap, ◌∙◌}
use Rattle.std.proofs.lemmas.List.{drop_more}
use Rattle.toml.specs.Data.{item}
use Rattle.toml.specs.View.{view, items_view}
use Rattle.toml.specs.declared.value.Value.{Value}
use Rattle.pqformat.specs.Steps.{◌>>=◌}
use Rattle.tables.specs.declared.table.Table.{Table}
use Rattle.publication_config.specs.declared.document.config_fault.ConfigRefusal.{ConfigRefusal}
use Rattle.publication_config.specs.declared.operations.Operations.{Operations}
use Rattle.publication_config.specs.declared.publication.Publication.{Publication}
use Rattle.publication_config.specs.declared.published_table.PublishedTable.{PublishedTable}
use Rattle.publication_config.specs.Config.{publication_in, publications_after, published_behind, published_in}

front : (values : List Value) (i : ℕ) (v : Value) → i < length values → v ≡ get_or values i v → items_view (drop i values) ≡ item (view v) (items_view (drop (i + 1) values))
front values i v lt is = ap items_view (drop_more values i v lt ∙ ap (λ y. y ∷ drop (i + 1) values) (sym is))

pub publication_next : (tables : List Table) (kept more before : List Publication) (n : ℕ) (values : List Value) (i : ℕ) (v : Value) (p : Publication) (whole : Result (List Publication) ConfigRefusal) → i < length values
    → v ≡ get_or values i v → n ≡ length kept → before ≡ kept → publication_in (n + 1) tables before (view v) ≡ Ok p → more ≡ kept ++ p ∷ []
    → publications_after tables kept (items_view (drop i values)) ≡ whole → publications_after tables more (items_view (drop (i + 1) values)) ≡ whole
publication_next tables kept more before n values i v p whole lt is counted same read grown so_far =
    let rest = items_view (drop (i + 1) values) in
    let here : publication_in (length kept + 1) tables kept (view v) ≡ Ok p =
    ap (λ k. publication_in (k + 1) tables kept (view v)) (sym counted) ∙ ap (λ l. publication_in (n + 1) tables l (view v)) (sym same) ∙ read in
    ap (λ l. publications_after tables l rest) grown ∙ ap (λ r. r >>= λ q. publications_after tables (kept ++ q ∷ []) rest) (sym here)
    ∙ ap (publications_after tables kept) (sym (front values i v lt is)) ∙ so_far

pub published_next : (number : ℕ) (operations : Operations) (tables : List Table) (kept more before : List PublishedTable) (n : ℕ) (values : List Value) (i : ℕ) (v : Value) (t : PublishedTable) (whole : Result (List PublishedTable) ConfigRefusal)
    → i < length values → v ≡ get_or values i v → n ≡ length kept → before ≡ kept → published_in (record { publication = number; table = n + 1 }) operations tables before (view v) ≡ Ok t → more ≡ kept ++ t ∷ []
    → published_behind number operations tables kept (items_view (drop i values)) ≡ whole → published_behind number operations tables more (items_view (drop (i + 1) values)) ≡ whole
published_next number operations tables kept more before n values i v t whole lt is counted same read grown so_far =
    let rest = items_view (drop (i + 1) values) in
    let here : published_in (record { publication = number; table = length kept + 1 }) operations tables kept (view v) ≡ Ok t =
    ap (λ k. published_in (record { publication = number; table = k + 1 }) operations tables kept (view v)) (sym counted)
    ∙ ap (λ l. published_in (record { publication = number; table = n + 1 }) operations tables l (view v)) (sym same) ∙ read in
    ap (λ l. published_behind number operations tables l rest) grown ∙ ap (λ r. r >>= λ u. published_behind number operations tables (kept ++ u ∷ []) rest) (sym here)
    ∙ ap (published_behind number operations tables kept) (sym (front values i v lt is)) ∙ so_far
