-- The tables that are read are the lines up to those after them.
use Rattle.std.proofs.Common.{◌≡◌, ℕ, ◌+◌, ◌<◌, Bool, true, false, List, [], ◌∷◌, ◌++◌, length, map, refl, sym, ap, ◌∙◌, subst, arith, append_assoc, length-append}
use Rattle.std.specs.Prelude.{◌&&◌, not, nat_le, nat_lt, Result, Ok}
use Rattle.std.specs.List.{list_all}
use Rattle.std.proofs.lemmas.Bool.{ltb-true, le-leb}
use Rattle.std.proofs.lemmas.List.{append-nil}
use Rattle.cell_model.specs.declared.table.TableDecl.{TableDecl}
use Rattle.workload_spec.specs.declared.script.Cause.{Cause}
use Rattle.workload_spec.specs.declared.script.Cause.TheVariants as cause
use Rattle.workload_spec.specs.Words.{spaced, line_feed, lines_text}
use Rattle.workload_spec.specs.ScriptText.{table_text}
use Rattle.workload_spec.specs.Reading.{words_of}
use Rattle.workload_spec.specs.Valid.{is_table, is_declared, have_own_names, most_tables}
use Rattle.workload_spec.specs.Extents.{whole}
use Rattle.workload_spec.specs.Grammar.{◌>>=◌, rule, Fault, on_line, next_line, is_table_line, table_of, tables_from}
use Rattle.workload_laws.proofs.Results.{step, rule_of, on_line_is}
use Rattle.workload_laws.proofs.Lists.{all-behind, own_names, own_names-behind}
use Rattle.workload_laws.proofs.Parts.{line_joined}
use Rattle.workload_laws.proofs.Tables.{table_is}
use Rattle.workload_laws.proofs.Rounds.{rest_text, line_first}

-- the next line, and those after it
pub record IsNext (lines : List (List ℕ)) (next : List ℕ × List (List ℕ)) : Type 0 where
  pub is : lines ≡ next.0 ∷ next.1
  pub more : 0 < length next.1
  pub text : rest_text lines ≡ next.0 ++ line_feed ∷ rest_text next.1

-- the next line is the first, and its text stands in front of that of the others
pub next_is : (at : ℕ) (cause : Cause) (lines : List (List ℕ)) (next : List ℕ × List (List ℕ)) → next_line at cause lines ≡ Ok next → IsNext lines next
next_is at cause [] next e = absurd cc
next_is at cause ([] ∷ []) next e = absurd cc
next_is at cause ((byte ∷ bytes) ∷ []) next e = absurd cc
next_is at cause (line ∷ second ∷ rest) next e = let same : (line, second ∷ rest) ≡ next = cc in subst (IsNext (line ∷ second ∷ rest)) same (record { is = refl; more = omega arith; text = refl })

-- tables with names of their own, as a test of names
pub own_tables : (tables : List TableDecl) → have_own_names tables ≡ own_names (λ (table : TableDecl). table.name) tables
unfolding own_names
own_tables [] = refl
own_tables (table ∷ tables) = ap (λ (b : Bool). not (is_declared table.name tables) && b) (own_tables tables)

-- Tables with names of their own have them with one more of a new name.
own_behind : (tables : List TableDecl) (table : TableDecl) → have_own_names tables ≡ true → is_declared table.name tables ≡ false → have_own_names (tables ++ table ∷ []) ≡ true
own_behind tables table own none = own_tables (tables ++ table ∷ []) ∙ own_names-behind (λ (t : TableDecl). t.name) tables table (sym (own_tables tables) ∙ own) none

-- Where there is room for one more table, there are few enough with it.
few_behind : (tables : List TableDecl) (table : TableDecl) → nat_lt (length tables) most_tables ≡ true → nat_le (length (tables ++ table ∷ [])) most_tables ≡ true
few_behind tables table room = le-leb _ _ (omega (arith, ltb-true (length tables) 16 room, length-append tables (table ∷ [])))

-- tables that are read behind others, and the lines after them
pub record ReadsTables (tables : List TableDecl) (lines : List (List ℕ)) (read : List TableDecl × List (List ℕ)) : Type 0 where
  pub more : List TableDecl
  pub behind : read.0 ≡ tables ++ more
  pub text : rest_text lines ≡ lines_text (map table_text more) ++ rest_text read.1
  pub each : list_all is_table tables ≡ true → list_all is_table read.0 ≡ true
  pub own : have_own_names tables ≡ true → have_own_names read.0 ≡ true
  pub few : nat_le (length tables) most_tables ≡ true → nat_le (length read.0) most_tables ≡ true

-- Where no more tables are read, those so far and all lines are left.
none_read : (tables : List TableDecl) (lines : List (List ℕ)) (read : List TableDecl × List (List ℕ)) → (tables, lines) ≡ read → ReadsTables tables lines read
none_read tables lines read e = subst (ReadsTables tables lines) e (record { more = []; behind = sym (append-nil tables); text = refl; each = λ a. a; own = λ o. o; few = λ f. f })

-- A line of a table is one table more, and any other ends the tables.
tables_by : (at : ℕ) (tables : List TableDecl) (line next : List ℕ) (rest : List (List ℕ)) (read : List TableDecl × List (List ℕ)) (b : Bool)
    → ((others : List TableDecl) → tables_from whole (at + 1) others (next ∷ rest) ≡ Ok read → ReadsTables others (next ∷ rest) read)
    → elim b as (λ c. Result (List TableDecl × List (List ℕ)) Fault) [
      | true ↦ on_line at (rule cause.Table (nat_lt (length tables) most_tables)) >>= (λ room.
          on_line at (table_of whole tables (words_of line)) >>= (λ table. tables_from whole (at + 1) (tables ++ table ∷ []) (next ∷ rest)))
      | false ↦ Ok (tables, line ∷ next ∷ rest)
    ] ≡ Ok read
    → ReadsTables tables (line ∷ next ∷ rest) read × (b ≡ true → 0 < length read.0)
tables_by at tables line next rest read false later e = (none_read tables (line ∷ next ∷ rest) read cc, λ f. absurd cc)
tables_by at tables line next rest read true later e =
    step (on_line at (rule cause.Table (nat_lt (length tables) most_tables))) _ read e (λ u is1 e1.
    step (on_line at (table_of whole tables (words_of line))) _ read e1 (λ table is2 e2.
    let room = rule_of cause.Table (nat_lt (length tables) most_tables) u (on_line_is at (rule cause.Table (nat_lt (length tables) most_tables)) u is1) in
    let one = table_is tables (words_of line) table (on_line_is at (table_of whole tables (words_of line)) table is2) in
    let all = later (tables ++ table ∷ []) e2 in (
      record {
        more = table ∷ all.more;
        behind = all.behind ∙ append_assoc tables (table ∷ []) all.more;
        text = ap (λ (text : List ℕ). text ++ line_feed ∷ rest_text (next ∷ rest)) (sym (line_joined line) ∙ ap spaced one.text)
            ∙ ap (λ (text : List ℕ). table_text table ++ line_feed ∷ text) all.text
            ∙ sym (append_assoc (table_text table) (line_feed ∷ lines_text (map table_text all.more)) (rest_text read.1))
            ∙ ap (λ (text : List ℕ). text ++ rest_text read.1) (sym (line_first (table_text table) (map table_text all.more)));
        each = λ each. all.each (all-behind is_table tables table each one.is);
        own = λ own. all.own (own_behind tables table own one.own);
        few = λ few. all.few (few_behind tables table room);
      },
      λ f. omega (arith, ap length all.behind, length-append (tables ++ table ∷ []) all.more, length-append tables (table ∷ [])),
    )))

-- the tables that are read are the lines in front
pub tables_are : (at : ℕ) (tables : List TableDecl) (lines : List (List ℕ)) (read : List TableDecl × List (List ℕ)) → tables_from whole at tables lines ≡ Ok read → ReadsTables tables lines read
tables_are at tables [] read e = none_read tables [] read cc
tables_are at tables (last ∷ []) read e = none_read tables (last ∷ []) read cc
tables_are at tables (line ∷ next ∷ rest) read e = (tables_by at tables line next rest read (is_table_line line) (λ others is. tables_are (at + 1) others (next ∷ rest) read is) e).0

-- where the first line is a table's there is one
pub tables_some : (at : ℕ) (tables : List TableDecl) (line : List ℕ) (lines : List (List ℕ)) (read : List TableDecl × List (List ℕ)) → is_table_line line ≡ true → 0 < length lines → tables_from whole at tables (line ∷ lines) ≡ Ok read → 0 < length read.0
tables_some at tables line [] read first some e = absurd (omega (arith, some))
tables_some at tables line (next ∷ rest) read first some e = (tables_by at tables line next rest read (is_table_line line) (λ others is. tables_are (at + 1) others (next ∷ rest) read is) e).1 first
