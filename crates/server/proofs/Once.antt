-- A text asks one question at most.
use Rattle.std.proofs.Common.{◌≡◌, ℕ, ◌+◌, cond, eqb, List, get_or, refl, sym, ap, subst, ◌∙◌, arith}
use Rattle.std.specs.Prelude.{◌≢◌, codes}
use Rattle.std.proofs.lemmas.List.{append_cancel_left}
use Rattle.server.specs.declared.asked.question.Question.{Question}
use Rattle.server.specs.declared.asked.question.Question.TheVariants.{SearchPath, InitialCopy, Publications, Tables, Columns, Table, ColumnLists, Attributes, RowFilters, Show, DropWhenFree}
use Rattle.server.specs.declared.asked.table_name.TableName.{TableName}
use Rattle.server.specs.Questions.{SpellsListed, SpellsNames, SpellsQuestion}
use Rattle.server.specs.Reading.{ClosesList}
use Rattle.server.proofs.Lists.{names_once}
use Rattle.server.proofs.Slots.{drop_once}
use Rattle.server.proofs.TableQuestions.{attributes_once, column_lists_once, row_filters_once, table_once}

listed_once : (text front end : List ℕ) (m n : List (List ℕ)) → ClosesList end → SpellsListed text front end m → SpellsListed text front end n → m ≡ n
listed_once text front end m n closes x y =
    names_once end x.0 m n closes x.2 (subst (λ (l : List ℕ). SpellsNames end l n) (append_cancel_left front y.0 x.0 (sym y.1 ∙ x.1)) y.2)

-- Few bytes tell questions apart: the second one of SHOW, the ninth; where that is a point the one before it; and of the questions with
-- DISTINCT the next word, and behind their first line.
by_word : ℕ → ℕ → ℕ
by_word first later = cond (eqb first 116) (2000 + later) (3000 + first)

by_ninth : ℕ → ℕ → ℕ → ℕ → ℕ
by_ninth ninth before first later = cond (eqb ninth 73) (by_word first later) (cond (eqb ninth 46) (1000 + before) ninth)

mark : List ℕ → ℕ
mark text = cond (eqb (get_or text 1 0) 72) 1 (by_ninth (get_or text 8 0) (get_or text 7 0) (get_or text 16 0) (get_or text 43 0))

mark_of : Question → ℕ
mark_of SearchPath = 103
mark_of InitialCopy = 65
mark_of (Publications m) = 1116
mark_of (Tables m) = 2070
mark_of (Columns m) = 2044
mark_of (Table m) = 1099
mark_of (ColumnLists m ms) = 3032
mark_of (Attributes m) = 1097
mark_of (RowFilters m ms) = 3112
mark_of (Show m) = 1
mark_of (DropWhenFree m) = 76

marked : (text : List ℕ) (question : Question) → SpellsQuestion text question → mark text ≡ mark_of question
unfolding mark by_word by_ninth mark_of
marked text SearchPath x = ap mark x
marked text InitialCopy x = ap mark x
marked text (Publications m) x = ap mark x.1
marked text (Tables m) x = ap mark x.1
marked text (Columns m) x = ap mark x.1
marked text (Table m) x = ap mark x.4
marked text (ColumnLists m ms) x = ap mark x.1.1
marked text (Attributes m) x = ap mark x.1
marked text (RowFilters m ms) x = ap mark x.1.1
marked text (Show m) x = ap mark x.1
marked text (DropWhenFree m) x = ap mark x.1.1

apart : (m n : ℕ) → m ≢ n → (text : List ℕ) → mark text ≡ m → mark text ≡ n → ⊥
apart m n other text x y = other (sym x ∙ y)

pub once : (text : List ℕ) (a b : Question) → SpellsQuestion text a → SpellsQuestion text b → a ≡ b
unfolding mark_of
once text SearchPath SearchPath x y = refl
once text SearchPath InitialCopy x y = absurd (apart 103 65 (omega arith) text (marked text SearchPath x) (marked text InitialCopy y))
once text SearchPath (Publications n) x y = absurd (apart 103 1116 (omega arith) text (marked text SearchPath x) (marked text (Publications n) y))
once text SearchPath (Tables n) x y = absurd (apart 103 2070 (omega arith) text (marked text SearchPath x) (marked text (Tables n) y))
once text SearchPath (Columns n) x y = absurd (apart 103 2044 (omega arith) text (marked text SearchPath x) (marked text (Columns n) y))
once text SearchPath (Table n) x y = absurd (apart 103 1099 (omega arith) text (marked text SearchPath x) (marked text (Table n) y))
once text SearchPath (ColumnLists n ns) x y = absurd (apart 103 3032 (omega arith) text (marked text SearchPath x) (marked text (ColumnLists n ns) y))
once text SearchPath (Attributes n) x y = absurd (apart 103 1097 (omega arith) text (marked text SearchPath x) (marked text (Attributes n) y))
once text SearchPath (RowFilters n ns) x y = absurd (apart 103 3112 (omega arith) text (marked text SearchPath x) (marked text (RowFilters n ns) y))
once text SearchPath (Show n) x y = absurd (apart 103 1 (omega arith) text (marked text SearchPath x) (marked text (Show n) y))
once text SearchPath (DropWhenFree n) x y = absurd (apart 103 76 (omega arith) text (marked text SearchPath x) (marked text (DropWhenFree n) y))
once text InitialCopy SearchPath x y = absurd (apart 65 103 (omega arith) text (marked text InitialCopy x) (marked text SearchPath y))
once text InitialCopy InitialCopy x y = refl
once text InitialCopy (Publications n) x y = absurd (apart 65 1116 (omega arith) text (marked text InitialCopy x) (marked text (Publications n) y))
once text InitialCopy (Tables n) x y = absurd (apart 65 2070 (omega arith) text (marked text InitialCopy x) (marked text (Tables n) y))
once text InitialCopy (Columns n) x y = absurd (apart 65 2044 (omega arith) text (marked text InitialCopy x) (marked text (Columns n) y))
once text InitialCopy (Table n) x y = absurd (apart 65 1099 (omega arith) text (marked text InitialCopy x) (marked text (Table n) y))
once text InitialCopy (ColumnLists n ns) x y = absurd (apart 65 3032 (omega arith) text (marked text InitialCopy x) (marked text (ColumnLists n ns) y))
once text InitialCopy (Attributes n) x y = absurd (apart 65 1097 (omega arith) text (marked text InitialCopy x) (marked text (Attributes n) y))
once text InitialCopy (RowFilters n ns) x y = absurd (apart 65 3112 (omega arith) text (marked text InitialCopy x) (marked text (RowFilters n ns) y))
once text InitialCopy (Show n) x y = absurd (apart 65 1 (omega arith) text (marked text InitialCopy x) (marked text (Show n) y))
once text InitialCopy (DropWhenFree n) x y = absurd (apart 65 76 (omega arith) text (marked text InitialCopy x) (marked text (DropWhenFree n) y))
once text (Publications m) SearchPath x y = absurd (apart 1116 103 (omega arith) text (marked text (Publications m) x) (marked text SearchPath y))
once text (Publications m) InitialCopy x y = absurd (apart 1116 65 (omega arith) text (marked text (Publications m) x) (marked text InitialCopy y))
once text (Publications m) (Publications n) x y = ap (λ (l : List (List ℕ)). Publications l) (listed_once text (codes "SELECT t.pubname FROM\n pg_catalog.pg_publication t WHERE\n t.pubname IN (") (codes ")") m n (refl, refl) x y)
once text (Publications m) (Tables n) x y = absurd (apart 1116 2070 (omega arith) text (marked text (Publications m) x) (marked text (Tables n) y))
once text (Publications m) (Columns n) x y = absurd (apart 1116 2044 (omega arith) text (marked text (Publications m) x) (marked text (Columns n) y))
once text (Publications m) (Table n) x y = absurd (apart 1116 1099 (omega arith) text (marked text (Publications m) x) (marked text (Table n) y))
once text (Publications m) (ColumnLists n ns) x y = absurd (apart 1116 3032 (omega arith) text (marked text (Publications m) x) (marked text (ColumnLists n ns) y))
once text (Publications m) (Attributes n) x y = absurd (apart 1116 1097 (omega arith) text (marked text (Publications m) x) (marked text (Attributes n) y))
once text (Publications m) (RowFilters n ns) x y = absurd (apart 1116 3112 (omega arith) text (marked text (Publications m) x) (marked text (RowFilters n ns) y))
once text (Publications m) (Show n) x y = absurd (apart 1116 1 (omega arith) text (marked text (Publications m) x) (marked text (Show n) y))
once text (Publications m) (DropWhenFree n) x y = absurd (apart 1116 76 (omega arith) text (marked text (Publications m) x) (marked text (DropWhenFree n) y))
once text (Tables m) SearchPath x y = absurd (apart 2070 103 (omega arith) text (marked text (Tables m) x) (marked text SearchPath y))
once text (Tables m) InitialCopy x y = absurd (apart 2070 65 (omega arith) text (marked text (Tables m) x) (marked text InitialCopy y))
once text (Tables m) (Publications n) x y = absurd (apart 2070 1116 (omega arith) text (marked text (Tables m) x) (marked text (Publications n) y))
once text (Tables m) (Tables n) x y = ap (λ (l : List (List ℕ)). Tables l) (listed_once text (codes "SELECT DISTINCT t.schemaname, t.tablename \nFROM pg_catalog.pg_publication_tables t\n WHERE t.pubname IN (") (codes ")") m n (refl, refl) x y)
once text (Tables m) (Columns n) x y = absurd (apart 2070 2044 (omega arith) text (marked text (Tables m) x) (marked text (Columns n) y))
once text (Tables m) (Table n) x y = absurd (apart 2070 1099 (omega arith) text (marked text (Tables m) x) (marked text (Table n) y))
once text (Tables m) (ColumnLists n ns) x y = absurd (apart 2070 3032 (omega arith) text (marked text (Tables m) x) (marked text (ColumnLists n ns) y))
once text (Tables m) (Attributes n) x y = absurd (apart 2070 1097 (omega arith) text (marked text (Tables m) x) (marked text (Attributes n) y))
once text (Tables m) (RowFilters n ns) x y = absurd (apart 2070 3112 (omega arith) text (marked text (Tables m) x) (marked text (RowFilters n ns) y))
once text (Tables m) (Show n) x y = absurd (apart 2070 1 (omega arith) text (marked text (Tables m) x) (marked text (Show n) y))
once text (Tables m) (DropWhenFree n) x y = absurd (apart 2070 76 (omega arith) text (marked text (Tables m) x) (marked text (DropWhenFree n) y))
once text (Columns m) SearchPath x y = absurd (apart 2044 103 (omega arith) text (marked text (Columns m) x) (marked text SearchPath y))
once text (Columns m) InitialCopy x y = absurd (apart 2044 65 (omega arith) text (marked text (Columns m) x) (marked text InitialCopy y))
once text (Columns m) (Publications n) x y = absurd (apart 2044 1116 (omega arith) text (marked text (Columns m) x) (marked text (Publications n) y))
once text (Columns m) (Tables n) x y = absurd (apart 2044 2070 (omega arith) text (marked text (Columns m) x) (marked text (Tables n) y))
once text (Columns m) (Columns n) x y = ap (λ (l : List (List ℕ)). Columns l) (listed_once text (codes "SELECT DISTINCT t.schemaname, t.tablename \n, t.attnames\nFROM pg_catalog.pg_publication_tables t\n WHERE t.pubname IN (") (codes ")") m n (refl, refl) x y)
once text (Columns m) (Table n) x y = absurd (apart 2044 1099 (omega arith) text (marked text (Columns m) x) (marked text (Table n) y))
once text (Columns m) (ColumnLists n ns) x y = absurd (apart 2044 3032 (omega arith) text (marked text (Columns m) x) (marked text (ColumnLists n ns) y))
once text (Columns m) (Attributes n) x y = absurd (apart 2044 1097 (omega arith) text (marked text (Columns m) x) (marked text (Attributes n) y))
once text (Columns m) (RowFilters n ns) x y = absurd (apart 2044 3112 (omega arith) text (marked text (Columns m) x) (marked text (RowFilters n ns) y))
once text (Columns m) (Show n) x y = absurd (apart 2044 1 (omega arith) text (marked text (Columns m) x) (marked text (Show n) y))
once text (Columns m) (DropWhenFree n) x y = absurd (apart 2044 76 (omega arith) text (marked text (Columns m) x) (marked text (DropWhenFree n) y))
once text (Table m) SearchPath x y = absurd (apart 1099 103 (omega arith) text (marked text (Table m) x) (marked text SearchPath y))
once text (Table m) InitialCopy x y = absurd (apart 1099 65 (omega arith) text (marked text (Table m) x) (marked text InitialCopy y))
once text (Table m) (Publications n) x y = absurd (apart 1099 1116 (omega arith) text (marked text (Table m) x) (marked text (Publications n) y))
once text (Table m) (Tables n) x y = absurd (apart 1099 2070 (omega arith) text (marked text (Table m) x) (marked text (Tables n) y))
once text (Table m) (Columns n) x y = absurd (apart 1099 2044 (omega arith) text (marked text (Table m) x) (marked text (Columns n) y))
once text (Table m) (Table n) x y = ap (λ (t : TableName). Table t) (table_once text m n x y)
once text (Table m) (ColumnLists n ns) x y = absurd (apart 1099 3032 (omega arith) text (marked text (Table m) x) (marked text (ColumnLists n ns) y))
once text (Table m) (Attributes n) x y = absurd (apart 1099 1097 (omega arith) text (marked text (Table m) x) (marked text (Attributes n) y))
once text (Table m) (RowFilters n ns) x y = absurd (apart 1099 3112 (omega arith) text (marked text (Table m) x) (marked text (RowFilters n ns) y))
once text (Table m) (Show n) x y = absurd (apart 1099 1 (omega arith) text (marked text (Table m) x) (marked text (Show n) y))
once text (Table m) (DropWhenFree n) x y = absurd (apart 1099 76 (omega arith) text (marked text (Table m) x) (marked text (DropWhenFree n) y))
once text (ColumnLists m ms) SearchPath x y = absurd (apart 3032 103 (omega arith) text (marked text (ColumnLists m ms) x) (marked text SearchPath y))
once text (ColumnLists m ms) InitialCopy x y = absurd (apart 3032 65 (omega arith) text (marked text (ColumnLists m ms) x) (marked text InitialCopy y))
once text (ColumnLists m ms) (Publications n) x y = absurd (apart 3032 1116 (omega arith) text (marked text (ColumnLists m ms) x) (marked text (Publications n) y))
once text (ColumnLists m ms) (Tables n) x y = absurd (apart 3032 2070 (omega arith) text (marked text (ColumnLists m ms) x) (marked text (Tables n) y))
once text (ColumnLists m ms) (Columns n) x y = absurd (apart 3032 2044 (omega arith) text (marked text (ColumnLists m ms) x) (marked text (Columns n) y))
once text (ColumnLists m ms) (Table n) x y = absurd (apart 3032 1099 (omega arith) text (marked text (ColumnLists m ms) x) (marked text (Table n) y))
once text (ColumnLists m ms) (ColumnLists n ns) x y = let same = column_lists_once text m n ms ns x y in ap (λ (o : ℕ). ColumnLists o ms) same.0 ∙ ap (λ (l : List (List ℕ)). ColumnLists n l) same.1
once text (ColumnLists m ms) (Attributes n) x y = absurd (apart 3032 1097 (omega arith) text (marked text (ColumnLists m ms) x) (marked text (Attributes n) y))
once text (ColumnLists m ms) (RowFilters n ns) x y = absurd (apart 3032 3112 (omega arith) text (marked text (ColumnLists m ms) x) (marked text (RowFilters n ns) y))
once text (ColumnLists m ms) (Show n) x y = absurd (apart 3032 1 (omega arith) text (marked text (ColumnLists m ms) x) (marked text (Show n) y))
once text (ColumnLists m ms) (DropWhenFree n) x y = absurd (apart 3032 76 (omega arith) text (marked text (ColumnLists m ms) x) (marked text (DropWhenFree n) y))
once text (Attributes m) SearchPath x y = absurd (apart 1097 103 (omega arith) text (marked text (Attributes m) x) (marked text SearchPath y))
once text (Attributes m) InitialCopy x y = absurd (apart 1097 65 (omega arith) text (marked text (Attributes m) x) (marked text InitialCopy y))
once text (Attributes m) (Publications n) x y = absurd (apart 1097 1116 (omega arith) text (marked text (Attributes m) x) (marked text (Publications n) y))
once text (Attributes m) (Tables n) x y = absurd (apart 1097 2070 (omega arith) text (marked text (Attributes m) x) (marked text (Tables n) y))
once text (Attributes m) (Columns n) x y = absurd (apart 1097 2044 (omega arith) text (marked text (Attributes m) x) (marked text (Columns n) y))
once text (Attributes m) (Table n) x y = absurd (apart 1097 1099 (omega arith) text (marked text (Attributes m) x) (marked text (Table n) y))
once text (Attributes m) (ColumnLists n ns) x y = absurd (apart 1097 3032 (omega arith) text (marked text (Attributes m) x) (marked text (ColumnLists n ns) y))
once text (Attributes m) (Attributes n) x y = ap (λ (o : ℕ). Attributes o) (attributes_once text m n x y)
once text (Attributes m) (RowFilters n ns) x y = absurd (apart 1097 3112 (omega arith) text (marked text (Attributes m) x) (marked text (RowFilters n ns) y))
once text (Attributes m) (Show n) x y = absurd (apart 1097 1 (omega arith) text (marked text (Attributes m) x) (marked text (Show n) y))
once text (Attributes m) (DropWhenFree n) x y = absurd (apart 1097 76 (omega arith) text (marked text (Attributes m) x) (marked text (DropWhenFree n) y))
once text (RowFilters m ms) SearchPath x y = absurd (apart 3112 103 (omega arith) text (marked text (RowFilters m ms) x) (marked text SearchPath y))
once text (RowFilters m ms) InitialCopy x y = absurd (apart 3112 65 (omega arith) text (marked text (RowFilters m ms) x) (marked text InitialCopy y))
once text (RowFilters m ms) (Publications n) x y = absurd (apart 3112 1116 (omega arith) text (marked text (RowFilters m ms) x) (marked text (Publications n) y))
once text (RowFilters m ms) (Tables n) x y = absurd (apart 3112 2070 (omega arith) text (marked text (RowFilters m ms) x) (marked text (Tables n) y))
once text (RowFilters m ms) (Columns n) x y = absurd (apart 3112 2044 (omega arith) text (marked text (RowFilters m ms) x) (marked text (Columns n) y))
once text (RowFilters m ms) (Table n) x y = absurd (apart 3112 1099 (omega arith) text (marked text (RowFilters m ms) x) (marked text (Table n) y))
once text (RowFilters m ms) (ColumnLists n ns) x y = absurd (apart 3112 3032 (omega arith) text (marked text (RowFilters m ms) x) (marked text (ColumnLists n ns) y))
once text (RowFilters m ms) (Attributes n) x y = absurd (apart 3112 1097 (omega arith) text (marked text (RowFilters m ms) x) (marked text (Attributes n) y))
once text (RowFilters m ms) (RowFilters n ns) x y = let same = row_filters_once text m n ms ns x y in ap (λ (o : ℕ). RowFilters o ms) same.0 ∙ ap (λ (l : List (List ℕ)). RowFilters n l) same.1
once text (RowFilters m ms) (Show n) x y = absurd (apart 3112 1 (omega arith) text (marked text (RowFilters m ms) x) (marked text (Show n) y))
once text (RowFilters m ms) (DropWhenFree n) x y = absurd (apart 3112 76 (omega arith) text (marked text (RowFilters m ms) x) (marked text (DropWhenFree n) y))
once text (Show m) SearchPath x y = absurd (apart 1 103 (omega arith) text (marked text (Show m) x) (marked text SearchPath y))
once text (Show m) InitialCopy x y = absurd (apart 1 65 (omega arith) text (marked text (Show m) x) (marked text InitialCopy y))
once text (Show m) (Publications n) x y = absurd (apart 1 1116 (omega arith) text (marked text (Show m) x) (marked text (Publications n) y))
once text (Show m) (Tables n) x y = absurd (apart 1 2070 (omega arith) text (marked text (Show m) x) (marked text (Tables n) y))
once text (Show m) (Columns n) x y = absurd (apart 1 2044 (omega arith) text (marked text (Show m) x) (marked text (Columns n) y))
once text (Show m) (Table n) x y = absurd (apart 1 1099 (omega arith) text (marked text (Show m) x) (marked text (Table n) y))
once text (Show m) (ColumnLists n ns) x y = absurd (apart 1 3032 (omega arith) text (marked text (Show m) x) (marked text (ColumnLists n ns) y))
once text (Show m) (Attributes n) x y = absurd (apart 1 1097 (omega arith) text (marked text (Show m) x) (marked text (Attributes n) y))
once text (Show m) (RowFilters n ns) x y = absurd (apart 1 3112 (omega arith) text (marked text (Show m) x) (marked text (RowFilters n ns) y))
once text (Show m) (Show n) x y = ap (λ (l : List ℕ). Show l) (append_cancel_left (codes "SHOW ") m n (sym x.1 ∙ y.1))
once text (Show m) (DropWhenFree n) x y = absurd (apart 1 76 (omega arith) text (marked text (Show m) x) (marked text (DropWhenFree n) y))
once text (DropWhenFree m) SearchPath x y = absurd (apart 76 103 (omega arith) text (marked text (DropWhenFree m) x) (marked text SearchPath y))
once text (DropWhenFree m) InitialCopy x y = absurd (apart 76 65 (omega arith) text (marked text (DropWhenFree m) x) (marked text InitialCopy y))
once text (DropWhenFree m) (Publications n) x y = absurd (apart 76 1116 (omega arith) text (marked text (DropWhenFree m) x) (marked text (Publications n) y))
once text (DropWhenFree m) (Tables n) x y = absurd (apart 76 2070 (omega arith) text (marked text (DropWhenFree m) x) (marked text (Tables n) y))
once text (DropWhenFree m) (Columns n) x y = absurd (apart 76 2044 (omega arith) text (marked text (DropWhenFree m) x) (marked text (Columns n) y))
once text (DropWhenFree m) (Table n) x y = absurd (apart 76 1099 (omega arith) text (marked text (DropWhenFree m) x) (marked text (Table n) y))
once text (DropWhenFree m) (ColumnLists n ns) x y = absurd (apart 76 3032 (omega arith) text (marked text (DropWhenFree m) x) (marked text (ColumnLists n ns) y))
once text (DropWhenFree m) (Attributes n) x y = absurd (apart 76 1097 (omega arith) text (marked text (DropWhenFree m) x) (marked text (Attributes n) y))
once text (DropWhenFree m) (RowFilters n ns) x y = absurd (apart 76 3112 (omega arith) text (marked text (DropWhenFree m) x) (marked text (RowFilters n ns) y))
once text (DropWhenFree m) (Show n) x y = absurd (apart 76 1 (omega arith) text (marked text (DropWhenFree m) x) (marked text (Show n) y))
once text (DropWhenFree m) (DropWhenFree n) x y = ap (λ (l : List ℕ). DropWhenFree l) (drop_once text m n x y)
