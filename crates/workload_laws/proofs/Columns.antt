-- Columns that are read are their words, and a table's columns.
use Rattle.std.proofs.Common.{◌≡◌, ℕ, ◌+◌, Bool, true, false, cond, List, [], ◌∷◌, ◌++◌, take, drop, length, suc, map, refl, sym, ap, ◌∙◌, arith, add-one, subst, append_assoc, length-append}
use Rattle.std.specs.Prelude.{◌==◌, not, Some, None, Option, is_none, is_some, option_map, bytes_eq, nat_le, nat_lt, codes, Result, Ok, if◌then◌else◌}
use Rattle.std.specs.List.{list_all, list_any, prefix_len}
use Rattle.std.proofs.lemmas.Bool.{eqb-true, ltb-true, le-leb, and_parts, not-true}
use Rattle.std.proofs.lemmas.List.{append-nil}
use Rattle.cell_model.specs.declared.column.Column.{Column}
use Rattle.cell_model.specs.Kinds.{has_width, values_of}
use Rattle.cell_model.specs.Schemas.{begins_with_key, place_of_name, first_twins, most_columns}
use Rattle.workload_spec.specs.declared.script.Cause.{Cause}
use Rattle.workload_spec.specs.declared.script.Cause.TheVariants as cause
use Rattle.workload_spec.specs.Valid.{is_name, are_columns, is_column}
use Rattle.workload_spec.specs.ScriptText.{kind_text, column_text}
use Rattle.workload_spec.specs.Extents.{whole}
use Rattle.workload_spec.specs.Grammar.{◌>>=◌, or_cause, rule, kind_of, colon, has_colon, before_colon, after_colon, column_of, columns_from}
use Rattle.workload_laws.proofs.Results.{step, some_of, rule_of}
use Rattle.workload_laws.proofs.Lists.{joined, all-behind, own_names, own_names-behind, position_none, none_position}
use Rattle.workload_laws.proofs.KindNames.{kind_is}

-- a word with a colon is what stands before its first, the colon, and what stands behind it
colon_by : (b : Bool) (byte : ℕ) (bytes : List ℕ) (n : ℕ) → byte == 58 ≡ b → (b ≡ false → take n bytes ++ 58 ∷ drop (length (take n bytes) + 1) bytes ≡ bytes)
    → take (cond (not b) (1 + n) 0) (byte ∷ bytes) ++ 58 ∷ drop (length (take (cond (not b) (1 + n) 0) (byte ∷ bytes)) + 1) (byte ∷ bytes) ≡ byte ∷ bytes
colon_by true byte bytes n e later = ap (λ (b : ℕ). b ∷ bytes) (sym (eqb-true byte 58 e))
colon_by false byte bytes n e later =
    let one : 1 + n ≡ suc n = omega arith in
    let rest = rw add-one at (later refl) in
    rw (one, add-one) (ap (λ (bs : List ℕ). byte ∷ bs) rest)

-- a word with a colon is what stands before its first, the colon, and what stands behind it
pub colon_parts : (word : List ℕ) → has_colon word ≡ true → before_colon word ++ colon ∷ after_colon word ≡ word
colon_parts [] e = absurd cc
colon_parts (byte ∷ bytes) e = colon_by (byte == 58) byte bytes (prefix_len (λ b. not (b == 58)) bytes) refl (λ f. colon_parts bytes (rw f at e))

-- A name, a colon and a kind with its mark are joined to the word.
column_joined : (name after kind end word : List ℕ) → kind ++ end ≡ after → name ++ 58 ∷ after ≡ word → ((name ++ 58 ∷ []) ++ kind) ++ end ≡ word
column_joined name after kind end word behind whole = append_assoc (name ++ 58 ∷ []) kind end ∙ append_assoc name (58 ∷ []) (kind ++ end) ∙ ap (λ (text : List ℕ). name ++ 58 ∷ text) behind ∙ whole

-- a column that is read behind others
pub record Reads (columns : List Column) (word : List ℕ) (column : Column) : Type 0 where
  pub text : column_text column ≡ word
  pub named : is_name column.name ≡ true
  pub wide : has_width (values_of column.kind) ≡ true
  pub own : list_any (λ other. bytes_eq other.name column.name) columns ≡ false
  pub room : nat_lt (length columns) most_columns ≡ true

-- a column that is read is its word, and its name is new among those before it
pub column_is : (columns : List Column) (word : List ℕ) (column : Column) → has_colon word ≡ true → column_of whole columns word ≡ Ok column → Reads columns word column
column_is columns word column marked e =
    step (rule cause.Name (is_name (before_colon word))) _ column e (λ u named e1.
    step (rule cause.Twice (is_none (place_of_name (before_colon word) columns))) _ column e1 (λ v own e2.
    step (or_cause cause.Kind (kind_of true (after_colon word))) _ column e2 (λ kind known e3.
    step (rule cause.Columns (nat_lt (length columns) most_columns)) _ column e3 (λ w room e4.
    let made : record { name = before_colon word; kind = kind.0; nullable = kind.1 } ≡ column = cc in
    let known_kind = kind_is true (after_colon word) kind (some_of cause.Kind (kind_of true (after_colon word)) kind known) in
    subst (λ (c : Column). Reads columns word c) made (record {
      text = column_joined (before_colon word) (after_colon word) (kind_text kind.0) (if kind.1 then codes "?" else []) word
          known_kind.text (colon_parts word marked);
      named = rule_of cause.Name (is_name (before_colon word)) u named;
      wide = known_kind.wide;
      own = position_none (λ (other : Column). bytes_eq other.name (before_colon word)) columns (rule_of cause.Twice _ v own);
      room = rule_of cause.Columns (nat_lt (length columns) most_columns) w room;
    })))))

-- two columns of one name, as a test
twins_by : (o : Option ℕ) (rest : Option (ℕ × ℕ)) (at : ℕ) (b : Bool) → is_none o ≡ true → is_none rest ≡ true → is_none (if is_some o then option_map (λ after. (at, at + 1 + after)) o else rest) ≡ true
twins_by None rest at b none later = later
twins_by (Some k) rest at b none later = absurd cc

-- Where no twins are found, the first column has no twin, and the others have none.
own_by : (o : Option ℕ) (rest : Option (ℕ × ℕ)) (at : ℕ) → is_none (if is_some o then option_map (λ after. (at, at + 1 + after)) o else rest) ≡ true → (is_none o ≡ true) × (is_none rest ≡ true)
own_by None rest at e = (refl, e)
own_by (Some k) rest at e = absurd cc

-- columns with no twins have names of their own
pub own_from : (columns : List Column) (at : ℕ) → is_none (first_twins at columns) ≡ true → own_names (λ (column : Column). column.name) columns ≡ true
unfolding own_names
own_from [] at e = refl
own_from (column ∷ columns) at e =
    let parts = own_by (place_of_name column.name columns) (first_twins (at + 1) columns) at e in
    joined (ap not (position_none (λ (other : Column). bytes_eq other.name column.name) columns parts.0)) (own_from columns (at + 1) parts.1)

-- columns with names of their own have no twins
pub twins_from : (columns : List Column) (at : ℕ) → own_names (λ (column : Column). column.name) columns ≡ true → is_none (first_twins at columns) ≡ true
unfolding own_names
twins_from [] at e = refl
twins_from (column ∷ columns) at e =
    let parts = and_parts _ (own_names (λ (column : Column). column.name) columns) e in
    twins_by (place_of_name column.name columns) (first_twins (at + 1) columns) at true (none_position (λ (other : Column). bytes_eq other.name column.name) columns (not-true _ parts.0)) (twins_from columns (at + 1) parts.1)

-- Columns that begin with the key do so with one more behind them.
begins_behind : (columns : List Column) (column : Column) → begins_with_key columns ≡ true → begins_with_key (columns ++ column ∷ []) ≡ true
begins_behind [] column e = absurd cc
begins_behind (first ∷ columns) column e = e

-- Where there is room for one more column, there are few enough with it.
few_behind : (columns : List Column) (column : Column) → nat_lt (length columns) most_columns ≡ true → nat_le (length (columns ++ column ∷ [])) most_columns ≡ true
few_behind columns column room = le-leb _ _ (omega (arith, ltb-true (length columns) 32 room, length-append columns (column ∷ [])))

-- columns of a table and one that is read behind them are a table's
pub columns_behind : (columns : List Column) (word : List ℕ) (column : Column) → are_columns columns ≡ true → Reads columns word column → are_columns (columns ++ column ∷ []) ≡ true
columns_behind columns word column are reads =
    let a = and_parts _ (list_all is_column columns) are in
    let b = and_parts _ (is_none (first_twins 0 columns)) a.0 in
    let c = and_parts (begins_with_key columns) (nat_le (length columns) most_columns) b.0 in
    joined (joined (joined (begins_behind columns column c.0) (few_behind columns column reads.room))
    (twins_from (columns ++ column ∷ []) 0 (own_names-behind (λ (other : Column). other.name) columns column (own_from columns 0 b.1) reads.own)))
    (all-behind is_column columns column a.1 (joined reads.named reads.wide))

-- columns that are read behind others, and the words after them
pub record ReadsAll (columns : List Column) (words : List (List ℕ)) (read : List Column × List (List ℕ)) : Type 0 where
  pub more : List Column
  pub behind : read.0 ≡ columns ++ more
  pub text : words ≡ map column_text more ++ read.1
  pub are : are_columns columns ≡ true → are_columns read.0 ≡ true

-- Where no more columns are read, those so far and all words are left.
columns_done : (words : List (List ℕ)) (columns : List Column) (read : List Column × List (List ℕ)) → (columns, words) ≡ read → ReadsAll columns words read
columns_done words columns read e = subst (λ (r : List Column × List (List ℕ)). ReadsAll columns words r) e (record { more = []; behind = sym (append-nil columns); text = refl; are = λ a. a })

-- A word with a colon is one column more, and one without ends the columns.
columns_by : (word : List ℕ) (words : List (List ℕ)) (columns : List Column) (read : List Column × List (List ℕ)) (b : Bool) → has_colon word ≡ b
    → ((others : List Column) → columns_from whole others words ≡ Ok read → ReadsAll others words read)
    → elim b as (λ c. Result (List Column × List (List ℕ)) Cause) [ true ↦ column_of whole columns word >>= (λ column. columns_from whole (columns ++ column ∷ []) words) | false ↦ Ok (columns, word ∷ words) ] ≡ Ok read → ReadsAll columns (word ∷ words) read
columns_by word words columns read true marked later e =
    step (column_of whole columns word) _ read e (λ column is e1.
    let one = column_is columns word column marked is in
    let rest = later (columns ++ column ∷ []) e1 in
    record {
      more = column ∷ rest.more;
      behind = rest.behind ∙ append_assoc columns (column ∷ []) rest.more;
      text = ap (λ (w : List ℕ). w ∷ words) (sym one.text) ∙ ap (λ (ws : List (List ℕ)). column_text column ∷ ws) rest.text;
      are = λ a. rest.are (columns_behind columns word column a one);
    })
columns_by word words columns read false marked later e = columns_done (word ∷ words) columns read cc

-- columns that are read are the words in front, and stay a table's columns
pub columns_are : (words : List (List ℕ)) (columns : List Column) (read : List Column × List (List ℕ)) → columns_from whole columns words ≡ Ok read → ReadsAll columns words read
columns_are [] columns read e = columns_done [] columns read cc
columns_are (word ∷ words) columns read e = columns_by word words columns read (has_colon word) refl (λ others is. columns_are words others read is) e
