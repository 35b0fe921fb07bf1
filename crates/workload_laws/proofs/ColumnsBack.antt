-- Columns are read back from their words.
use Rattle.std.proofs.Common.{◌≡◌, ℕ, ◌+◌, ◌<◌, ◌⊎◌, inl, inr, true, false, List, [], ◌∷◌, ◌++◌, drop, length, suc, map, refl, sym, ap, ◌∙◌, arith, add-one, subst, append_assoc, length-append}
use Rattle.std.specs.Prelude.{◌&&◌, ◌||◌, ◌==◌, not, is_none, bytes_eq, nat_le, nat_lt, codes, Ok, if◌then◌else◌}
use Rattle.std.specs.List.{list_all, list_any, prefix_len}
use Rattle.std.proofs.lemmas.Bool.{eqb-true, lt-ltb, leb-true, ne_eqb, and_parts, or_cases, or_right}
use Rattle.std.proofs.lemmas.List.{append-nil}
use Rattle.std.proofs.lemmas.List.Folds.{list_all-append}
use Rattle.cell_model.specs.declared.column.Column.{Column}
use Rattle.cell_model.specs.Kinds.{has_width, values_of}
use Rattle.cell_model.specs.Schemas.{begins_with_key, place_of_name, first_twins, most_columns}
use Rattle.workload_spec.specs.declared.script.Cause.TheVariants as cause
use Rattle.workload_spec.specs.Valid.{is_within, is_lower_case, is_digit, underscore, is_name_byte, is_name, are_columns, is_column}
use Rattle.workload_spec.specs.ScriptText.{kind_text, column_text}
use Rattle.workload_spec.specs.Extents.{whole}
use Rattle.workload_spec.specs.Grammar.{◌>>=◌, or_cause, rule, kind_of, colon, has_colon, before_colon, after_colon, column_of, columns_from}
use Rattle.workload_laws.proofs.Results.{gives, rule_back, chosen, passed}
use Rattle.workload_laws.proofs.Lists.{joined, own_names-before, none_position}
use Rattle.workload_laws.proofs.Columns.{own_from}
use Rattle.workload_laws.proofs.KindNames.{kind_back, each_taken}
use Rattle.workload_laws.proofs.Apart.{is_plain}

-- a byte of a name is plain, and no colon
abbrev pub NoColon : ℕ → Type 0
NoColon byte = (is_plain byte ≡ true) × (not (byte == 58) ≡ true)

-- A byte within bounds above the quote, without the colon, is plain and no colon.
within_no_colon : (low high byte : ℕ) → 34 < low → (58 < low) ⊎ (high < 58) → is_within low high byte ≡ true → NoColon byte
within_no_colon low high byte above beside within =
    let w = and_parts (nat_le low byte) (nat_le byte high) within in
    let l = leb-true low byte w.0 in
    let h = leb-true byte high w.1 in
    let n : byte == 58 ≡ false = ne_eqb byte 58 (λ e. elim beside [ inl b ↦ omega (arith, b, l, e) | inr b ↦ omega (arith, b, h, e) ]) in
    (lt-ltb 34 byte (omega (arith, l, above)), ap not n)

-- A byte that a name may have is plain, and no colon.
name_byte : (byte : ℕ) → is_name_byte byte ≡ true → NoColon byte
name_byte byte is = elim (or_cases (is_lower_case byte || is_digit byte) (byte == underscore) is) [
  | inl letter ↦ elim (or_cases (is_lower_case byte) (is_digit byte) letter) [
    | inl lower ↦ within_no_colon 97 122 byte (omega arith) (inl (omega arith)) lower
    | inr digit ↦ within_no_colon 48 57 byte (omega arith) (inr (omega arith)) digit
  ]
  | inr e ↦ let same : byte ≡ 95 = eqb-true byte 95 e in subst NoColon (sym same) (refl, refl)
]

-- a name's bytes
pub record NameBytes (name : List ℕ) : Type 0 where
  pub plain : list_all is_plain name ≡ true
  pub no_colon : list_all (λ byte. not (byte == 58)) name ≡ true

-- bytes that a name may have are all plain, and none is a colon
pub rest_bytes : (name : List ℕ) → list_all is_name_byte name ≡ true → NameBytes name
rest_bytes [] all = record { plain = refl; no_colon = refl }
rest_bytes (byte ∷ bytes) all =
    let b = and_parts (is_name_byte byte) (list_all is_name_byte bytes) all in
    let one = name_byte byte b.0 in
    let rest = rest_bytes bytes b.1 in
    record { plain = joined one.0 rest.plain; no_colon = joined one.1 rest.no_colon }

-- a name has plain bytes alone, and no colon
pub name_bytes : (name : List ℕ) → is_name name ≡ true → NameBytes name
name_bytes [] is = absurd cc
name_bytes (first ∷ rest) is =
    let parts = and_parts (is_lower_case first) (list_all is_name_byte rest) (and_parts (is_lower_case first && list_all is_name_byte rest) (nat_lt (length rest) 32) is).0 in
    let one = within_no_colon 97 122 first (omega arith) (inl (omega arith)) parts.0 in
    let others = rest_bytes rest parts.1 in
    record { plain = joined one.0 others.plain; no_colon = joined one.1 others.no_colon }

-- what stands before the colon behind a name is the name
pub before_back : (name after : List ℕ) → list_all (λ byte. not (byte == 58)) name ≡ true → before_colon (name ++ colon ∷ after) ≡ name
before_back [] after none = refl
before_back (byte ∷ bytes) after none =
    let n = and_parts (not (byte == 58)) (list_all (λ b. not (b == 58)) bytes) none in
    let one : 1 + prefix_len (λ b. not (b == 58)) (bytes ++ 58 ∷ after) ≡ suc (prefix_len (λ b. not (b == 58)) (bytes ++ 58 ∷ after)) = omega arith in
    rw (n.0, one) (ap (λ (bs : List ℕ). byte ∷ bs) (before_back bytes after n.1))

-- Behind a name and a colon stands what follows them.
drop_name : (name after : List ℕ) → drop (length name + 1) (name ++ colon ∷ after) ≡ after
drop_name [] after = refl
drop_name (byte ∷ bytes) after = let rest = rw add-one at (drop_name bytes after) in rw add-one rest

-- and behind the colon is what stands there
pub after_back : (name after : List ℕ) → list_all (λ byte. not (byte == 58)) name ≡ true → after_colon (name ++ colon ∷ after) ≡ after
after_back name after none = ap (λ (n : List ℕ). drop (length n + 1) (name ++ colon ∷ after)) (before_back name after none) ∙ drop_name name after

-- and there is a colon
pub has_back : (name after : List ℕ) → has_colon (name ++ colon ∷ after) ≡ true
has_back [] after = refl
has_back (byte ∷ bytes) after = or_right (byte == 58) (has_colon (bytes ++ colon ∷ after)) (has_back bytes after)

-- a column's word, with its colon apart
pub column_word : (column : Column) → column_text column ≡ column.name ++ colon ∷ (kind_text column.kind ++ (if column.nullable then codes "?" else []))
column_word column = append_assoc (column.name ++ colon ∷ []) (kind_text column.kind) (if column.nullable then codes "?" else []) ∙ append_assoc column.name (colon ∷ []) (kind_text column.kind ++ (if column.nullable then codes "?" else []))

-- a column that may stand behind others
pub record MayFollow (columns : List Column) (column : Column) : Type 0 where
  pub named : is_name column.name ≡ true
  pub wide : has_width (values_of column.kind) ≡ true
  pub own : list_any (λ other. bytes_eq other.name column.name) columns ≡ false
  pub room : nat_lt (length columns) most_columns ≡ true

-- a column that may follow those before it is read back from its word
pub column_back : (columns : List Column) (column : Column) → MayFollow columns column → column_of whole columns (column_text column) ≡ Ok column
column_back columns column may =
    let bytes = name_bytes column.name may.named in
    let before : before_colon (column_text column) ≡ column.name = ap before_colon (column_word column) ∙ before_back column.name (kind_text column.kind ++ (if column.nullable then codes "?" else [])) bytes.no_colon in
    let after : after_colon (column_text column) ≡ kind_text column.kind ++ (if column.nullable then codes "?" else []) = ap after_colon (column_word column) ∙ after_back column.name (kind_text column.kind ++ (if column.nullable then codes "?" else [])) bytes.no_colon in
    gives (rule cause.Name (is_name (before_colon (column_text column)))) _ (Ok column) tt (rule_back cause.Name _ (ap is_name before ∙ may.named))
    (gives (rule cause.Twice (is_none (place_of_name (before_colon (column_text column)) columns))) _ (Ok column) tt
    (rule_back cause.Twice _ (ap (λ (name : List ℕ). is_none (place_of_name name columns)) before ∙ none_position (λ (other : Column). bytes_eq other.name column.name) columns may.own))
    (gives (or_cause cause.Kind (kind_of true (after_colon (column_text column)))) _ (Ok column) (column.kind, column.nullable)
    (ap (λ (word : List ℕ). or_cause cause.Kind (kind_of true word)) after ∙ ap (or_cause cause.Kind) (kind_back true column.kind column.nullable (each_taken column.kind) may.wide))
    (gives (rule cause.Columns (nat_lt (length columns) most_columns)) _ (Ok column) tt (rule_back cause.Columns _ may.room)
    (ap (λ (name : List ℕ). Ok (record { name = name; kind = column.kind; nullable = column.nullable })) before))))

-- of a table's columns each may follow those before it
pub may_follow : (columns : List Column) (column : Column) (more : List Column) → are_columns (columns ++ column ∷ more) ≡ true → MayFollow columns column
may_follow columns column more are =
    let a = and_parts (begins_with_key (columns ++ column ∷ more) && nat_le (length (columns ++ column ∷ more)) most_columns && is_none (first_twins 0 (columns ++ column ∷ more))) (list_all is_column (columns ++ column ∷ more)) are in
    let b = and_parts (begins_with_key (columns ++ column ∷ more) && nat_le (length (columns ++ column ∷ more)) most_columns) (is_none (first_twins 0 (columns ++ column ∷ more))) a.0 in
    let c = and_parts (begins_with_key (columns ++ column ∷ more)) (nat_le (length (columns ++ column ∷ more)) most_columns) b.0 in
    let n = and_parts (list_all is_column columns) (list_all is_column (column ∷ more)) (sym (list_all-append is_column columns (column ∷ more)) ∙ a.1) in
    let one = and_parts (is_name column.name) (has_width (values_of column.kind)) (and_parts (is_column column) (list_all is_column more) n.1).0 in
    record {
      named = one.0;
      wide = one.1;
      own = own_names-before (λ (c : Column). c.name) columns column more (own_from (columns ++ column ∷ more) 0 b.1);
      room = lt-ltb (length columns) 32 (omega (arith, leb-true (length (columns ++ column ∷ more)) 32 c.1, length-append columns (column ∷ more)));
    }

-- A word without a colon ends the columns, and is left.
columns_none : (columns : List Column) (word : List ℕ) (words : List (List ℕ)) → has_colon word ≡ false → columns_from whole columns (word ∷ words) ≡ Ok (columns, word ∷ words)
columns_none columns word words none = passed (has_colon word) (column_of whole columns word >>= (λ column. columns_from whole (columns ++ column ∷ []) words)) (Ok (columns, word ∷ words)) none

-- A word that is read as a column puts it behind the others.
columns_next : (columns : List Column) (word : List ℕ) (column : Column) (words : List (List ℕ)) → has_colon word ≡ true → column_of whole columns word ≡ Ok column → columns_from whole columns (word ∷ words) ≡ columns_from whole (columns ++ column ∷ []) words
columns_next columns word column words has read =
    chosen (has_colon word) (column_of whole columns word >>= (λ made. columns_from whole (columns ++ made ∷ []) words)) (Ok (columns, word ∷ words)) has
    ∙ gives (column_of whole columns word) (λ made. columns_from whole (columns ++ made ∷ []) words) (columns_from whole (columns ++ column ∷ []) words) column read refl

-- columns are read back behind others, up to a word without a colon
pub columns_back : (more columns : List Column) (word : List ℕ) (words : List (List ℕ)) → has_colon word ≡ false → are_columns (columns ++ more) ≡ true → columns_from whole columns (map column_text more ++ word ∷ words) ≡ Ok (columns ++ more, word ∷ words)
columns_back [] columns word words none are = columns_none columns word words none ∙ ap (λ (cs : List Column). Ok (cs, word ∷ words)) (sym (append-nil columns))
columns_back (column ∷ more) columns word words none are =
    columns_next columns (column_text column) column (map column_text more ++ word ∷ words) (ap has_colon (column_word column) ∙ has_back column.name (kind_text column.kind ++ (if column.nullable then codes "?" else []))) (column_back columns column (may_follow columns column more are))
    ∙ columns_back more (columns ++ column ∷ []) word words none (ap are_columns (append_assoc columns (column ∷ []) more) ∙ are)
    ∙ ap (λ (cs : List Column). Ok (cs, word ∷ words)) (append_assoc columns (column ∷ []) more)
