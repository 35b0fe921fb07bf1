-- What is read of a reply's bytes is a reply with this text.
use Rattle.std.proofs.Common.{◌≡◌, ℕ, Bool, true, false, cond, List, [], ◌∷◌, ◌++◌, refl, sym, ap, ◌∙◌, subst, length, arith}
use Rattle.std.specs.Prelude.{◌&&◌, Option, Some, None, option_map, bytes_eq, codes, decimal, find, is_some}
use Rattle.std.specs.Fmt.{signed_decimal}
use Rattle.std.specs.Option.{option_map_or}
use Rattle.cell_model.specs.declared.cell.Cell.{Cell}
use Rattle.cell_model.specs.declared.table.TableDecl.{TableDecl}
use Rattle.workload_spec.specs.declared.reply.Said.{Said}
use Rattle.workload_spec.specs.declared.reply.Said.TheVariants as said
use Rattle.workload_spec.specs.declared.reply.StaleRead.TheVariants as stale
use Rattle.workload_spec.specs.Words.{spaced, cell_words, cell_text}
use Rattle.workload_spec.specs.Reading.{AtStart, words_of}
use Rattle.workload_spec.specs.ScriptText.{name_of_table}
use Rattle.workload_spec.specs.ReplyText.{said_words, lines_behind}
use Rattle.workload_spec.specs.Valid.{is_table_place}
use Rattle.workload_laws.proofs.Lists.{joined, position_is}
use Rattle.workload_laws.proofs.Results.{eq_of}
use Rattle.workload_laws.proofs.Parts.{line_joined, words_some}
use Rattle.reply_text.specs.Shown.{is_u32, is_u64, is_row, is_said}
use Rattle.reply_text.specs.Readers.{behind, cut, u64_in, u32_in, key_in, sum_in, tagged_in, table_in, cells_in, row_in, answers, refusals, answer_in, refusal_in, block_in, exported_in, totalled_in, stale_table_in, stale_range_in, stale_key_in, stale_in, Openings, counts, places, opened_in, found_in, first_of, said_in}
use Rattle.reply_text.proofs.PieceLemmas.{step, mapped, behind_is, cut_is}
use Rattle.reply_text.proofs.Spelled.{u64_is, u32_is, key_is, cells_are}
use Rattle.reply_text.proofs.WideNumbers.{sum_is}

-- the reply is one over the tables, and this is its text
pub record Tells (tables : List TableDecl) (told : Said) (bytes : List ℕ) : Type 0 where
  pub fits : is_said tables told ≡ true
  pub text : spaced (said_words tables told) ≡ bytes
  pub alone : lines_behind told ≡ []

-- Replies of words alone.

-- the reply has the same words over any tables
abbrev Plain : List TableDecl → Said → Type 0
Plain tables told = (is_said tables told ≡ true) × (said_words tables told ≡ said_words [] told) × (lines_behind told ≡ [])

-- Each of these replies has the same words over any tables.
abbrev AllPlain : List TableDecl → List Said → Type 0
AllPlain tables [] = Unit {0}
AllPlain tables (told ∷ others) = Plain tables told × AllPlain tables others

-- A reply found by its words among those of words alone has this text.
plain_found : (tables : List TableDecl) (all : List Said) (bytes : List ℕ) (told : Said) → AllPlain tables all → find (λ told. bytes_eq (spaced (said_words [] told)) bytes) all ≡ Some told → Tells tables told bytes
plain_found tables [] bytes told plain e = absurd cc
plain_found tables (first ∷ others) bytes told plain e = by (bytes_eq (spaced (said_words [] first)) bytes) refl (plain_found tables others bytes told plain.1) e
  where
    by : (b : Bool) → bytes_eq (spaced (said_words [] first)) bytes ≡ b → (find (λ t. bytes_eq (spaced (said_words [] t)) bytes) others ≡ Some told → Tells tables told bytes) → cond b (Some first) (find (λ t. bytes_eq (spaced (said_words [] t)) bytes) others) ≡ Some told → Tells tables told bytes
    by true is later f =
        let same : first ≡ told = cc in
        let first_tells : Tells tables first bytes = record { fits = plain.0.0; text = ap spaced plain.0.1 ∙ eq_of (spaced (said_words [] first)) bytes is; alone = plain.0.2 } in
        subst (λ (t : Said). Tells tables t bytes) same first_tells
    by false is later f = later f

-- The answers of words alone have the same words over any tables.
answers_plain : (tables : List TableDecl) → AllPlain tables answers
answers_plain tables = ((refl, refl, refl), ((refl, refl, refl), ((refl, refl, refl), ((refl, refl, refl), ((refl, refl, refl), ((refl, refl, refl), ((refl, refl, refl), ((refl, refl, refl), ((refl, refl, refl), ((refl, refl, refl), tt))))))))))

-- The refusals of words alone have the same words over any tables.
refusals_plain : (tables : List TableDecl) → AllPlain tables refusals
refusals_plain tables = ((refl, refl, refl), ((refl, refl, refl), ((refl, refl, refl), ((refl, refl, refl), ((refl, refl, refl), ((refl, refl, refl), ((refl, refl, refl), ((refl, refl, refl), tt))))))))

-- Replies that begin with an opening.

-- What is read behind an opening is a reply whose text is the opening and the rest.
abbrev Sound : List TableDecl → List ℕ × (List ℕ → Option Said) → Type 0
Sound tables opening = (rest : List ℕ) (told : Said) → opening.1 rest ≡ Some told → Tells tables told (opening.0 ++ rest)

-- What is read behind each of these openings is a reply with its text.
abbrev AllSound : List TableDecl → Openings → Type 0
AllSound tables [] = Unit {0}
AllSound tables (opening ∷ others) = Sound tables opening × AllSound tables others

-- What is read behind one of some sound openings has the bytes as its text.
opened_is : (tables : List TableDecl) (all : Openings) (bytes : List ℕ) (told : Said) → AllSound tables all → opened_in all bytes ≡ Some told → Tells tables told bytes
opened_is tables [] bytes told sound e = absurd cc
opened_is tables (opening ∷ others) bytes told sound e = by (behind opening.0 bytes) refl (opened_is tables others bytes told sound.1) e
  where
    by : (o : Option (List ℕ)) → behind opening.0 bytes ≡ o → (opened_in others bytes ≡ Some told → Tells tables told bytes) → elim o [ Some rest ↦ opening.1 rest | None ↦ opened_in others bytes ] ≡ Some told → Tells tables told bytes
    by (Some rest) is later f = subst (λ (bs : List ℕ). Tells tables told bs) (sym (behind_is opening.0 bytes rest is)) (sound.0 rest told f)
    by None is later f = later f

-- one number of 64 bits behind words
numbered : (tables : List TableDecl) (front : List ℕ) (make : ℕ → Said) → ((n : ℕ) → is_u64 n ≡ true → Tells tables (make n) (front ++ decimal n)) → Sound tables (front, λ word. option_map make (u64_in word))
numbered tables front make tells = λ rest told e. mapped make (u64_in rest) told e (λ n is same.
    let number = u64_is rest n is in
    subst (λ (t : Said). Tells tables t (front ++ rest)) same (subst (λ (w : List ℕ). Tells tables (make n) (front ++ w)) number.text (tells n number.fits)))

-- A conflict with a session that is read has its text.
session_sound : (tables : List TableDecl) → Sound tables (codes "conflict session ", λ word. option_map said.ConflictSession (u32_in word))
session_sound tables = λ rest told e. mapped said.ConflictSession (u32_in rest) told e (λ n is same.
    let number = u32_is rest n is in
    subst (λ (t : Said). Tells tables t (codes "conflict session " ++ rest)) same
    (record { fits = number.fits; text = ap (λ (w : List ℕ). codes "conflict session " ++ w) number.text; alone = refl }))

-- The refusal of an export for a key that is read has its text.
dirty_sound : (tables : List TableDecl) → Sound tables (codes "dirty ", λ word. option_map said.Dirty (key_in word))
dirty_sound tables = λ rest told e. mapped said.Dirty (key_in rest) told e (λ key is same.
    let k = key_is rest key is in
    subst (λ (t : Said). Tells tables t (codes "dirty " ++ rest)) same (record { fits = k.1; text = ap (λ (w : List ℕ). codes "dirty " ++ w) k.0; alone = refl }))

-- Each reply of one number that is read has its text.
counts_sound : (tables : List TableDecl) → AllSound tables counts
counts_sound tables = (
  numbered tables (codes "at ") said.At (λ n fits. record { fits = fits; text = refl; alone = refl }),
  (
    session_sound tables,
    (
      numbered tables (codes "conflict #") said.ConflictCommit (λ n fits. record { fits = fits; text = refl; alone = refl }),
      (
        numbered tables (codes "committed ") (λ n. said.Committed (Some n)) (λ n fits. record { fits = fits; text = refl; alone = refl }),
        (
          numbered tables (codes "cooling ") said.Cooling (λ n fits. record { fits = fits; text = refl; alone = refl }),
          (
            numbered tables (codes "pruned ") said.Pruned (λ n fits. record { fits = fits; text = refl; alone = refl }),
            (
              numbered tables (codes "moved ") said.Moved (λ n fits. record { fits = fits; text = refl; alone = refl }),
              (dirty_sound tables, tt),
            ),
          ),
        ),
      ),
    ),
  ),
)

-- a table that is found has the name
record Named (tables : List TableDecl) (place : ℕ) (name : List ℕ) : Type 0 where
  there : is_table_place tables place ≡ true
  text : name_of_table tables place ≡ name

-- A table that is found by a name is there and has the name.
table_is : (tables : List TableDecl) (name : List ℕ) (place : ℕ) → table_in tables name ≡ Some place → Named tables place name
table_is tables name place e =
    let p = position_is (λ (table : TableDecl). bytes_eq table.name name) tables place e in
    record {
      there = ap is_some p.1;
      text = ap (λ (o : Option TableDecl). option_map_or (λ (t : TableDecl). t.name) o []) p.1 ∙ eq_of p.0.name name p.2;
    }

-- A reply about a block that is read has its text.
block_sound : (tables : List TableDecl) (front : List ℕ) (make : ℕ → ℕ → ℕ → Said)
    → ((table block number : ℕ) → is_said tables (make table block number) ≡ (is_table_place tables table && is_u32 block && is_u32 number))
    → ((table block number : ℕ) → spaced (said_words tables (make table block number)) ≡ front ++ (name_of_table tables table ++ 32 ∷ (decimal block ++ 32 ∷ decimal number)))
    → ((table block number : ℕ) → lines_behind (make table block number) ≡ [])
    → Sound tables (front, block_in tables make)
block_sound tables front make fits text alone = λ rest told e.
    step (cut 32 rest) _ told e (λ name first e1.
    step (table_in tables name.0) _ told e1 (λ table found e2.
    step (cut 32 name.1) _ told e2 (λ block second e3.
    step (u32_in block.0) _ told e3 (λ place third e4.
    step (u32_in block.1) _ told e4 (λ number fourth e5.
    let same : make table place number ≡ told = cc in
    let t = table_is tables name.0 table found in
    let b = u32_is block.0 place third in
    let n = u32_is block.1 number fourth in
    let inner : name.1 ≡ decimal place ++ 32 ∷ decimal number = cut_is 32 name.1 block second ∙ ap (λ (w : List ℕ). w ++ 32 ∷ block.1) (sym b.text) ∙ ap (λ (w : List ℕ). decimal place ++ 32 ∷ w) (sym n.text) in
    let outer : rest ≡ name_of_table tables table ++ 32 ∷ (decimal place ++ 32 ∷ decimal number) = cut_is 32 rest name first ∙ ap (λ (w : List ℕ). w ++ 32 ∷ name.1) (sym t.text) ∙ ap (λ (w : List ℕ). name_of_table tables table ++ 32 ∷ w) inner in
    subst (λ (s : Said). Tells tables s (front ++ rest)) same (record {
      fits = fits table place number ∙ joined (joined t.there b.fits) n.fits;
      text = text table place number ∙ ap (λ (w : List ℕ). front ++ w) (sym outer);
      alone = alone table place number;
    }))))))

-- An export that is read has its text.
exported_sound : (tables : List TableDecl) → Sound tables (codes "export ", exported_in)
exported_sound tables = λ rest told e.
    step (cut 32 rest) _ told e (λ first c1 e1.
    step (u64_in first.0) _ told e1 (λ number n1 e2.
    step (behind (codes "rows ") first.1) _ told e2 (λ from b1 e3.
    step (cut 32 from) _ told e3 (λ second c2 e4.
    step (u64_in second.0) _ told e4 (λ rows n2 e5.
    step (behind (codes "batches ") second.1) _ told e5 (λ more b2 e6.
    step (cut 32 more) _ told e6 (λ third c3 e7.
    step (u32_in third.0) _ told e7 (λ batches n3 e8.
    step (behind (codes "frozen ") third.1) _ told e8 (λ last b3 e9.
    step (u32_in last) _ told e9 (λ frozen n4 e10.
    let same : said.Exported number rows batches frozen ≡ told = cc in
    let a = u64_is first.0 number n1 in
    let b = u64_is second.0 rows n2 in
    let c = u32_is third.0 batches n3 in
    let d = u32_is last frozen n4 in
    let ending : third.1 ≡ codes "frozen " ++ decimal frozen = behind_is (codes "frozen ") third.1 last b3 ∙ ap (λ (w : List ℕ). codes "frozen " ++ w) (sym d.text) in
    let later : second.1 ≡ codes "batches " ++ (decimal batches ++ 32 ∷ (codes "frozen " ++ decimal frozen)) =
    behind_is (codes "batches ") second.1 more b2 ∙ ap (λ (w : List ℕ). codes "batches " ++ w) (cut_is 32 more third c3 ∙ ap (λ (w : List ℕ). w ++ 32 ∷ third.1) (sym c.text) ∙ ap (λ (w : List ℕ). decimal batches ++ 32 ∷ w) ending) in
    let middle : first.1 ≡ codes "rows " ++ (decimal rows ++ 32 ∷ (codes "batches " ++ (decimal batches ++ 32 ∷ (codes "frozen " ++ decimal frozen)))) =
    behind_is (codes "rows ") first.1 from b1 ∙ ap (λ (w : List ℕ). codes "rows " ++ w) (cut_is 32 from second c2 ∙ ap (λ (w : List ℕ). w ++ 32 ∷ second.1) (sym b.text) ∙ ap (λ (w : List ℕ). decimal rows ++ 32 ∷ w) later) in
    let outer = cut_is 32 rest first c1 ∙ ap (λ (w : List ℕ). w ++ 32 ∷ first.1) (sym a.text) ∙ ap (λ (w : List ℕ). decimal number ++ 32 ∷ w) middle in
    subst (λ (s : Said). Tells tables s (codes "export " ++ rest)) same (record {
      fits = joined (joined (joined a.fits b.fits) c.fits) d.fits;
      text = ap (λ (w : List ℕ). codes "export " ++ w) (sym outer);
      alone = refl;
    })))))))))))

-- A total that is read has its text.
totalled_sound : (tables : List TableDecl) → Sound tables (codes "total ", totalled_in)
totalled_sound tables = λ rest told e.
    step (cut 32 rest) _ told e (λ words c1 e1.
    step (u64_in words.0) _ told e1 (λ count n1 e2.
    step (sum_in words.1) _ told e2 (λ sum n2 e3.
    let same : said.Totalled count sum ≡ told = cc in
    let a = u64_is words.0 count n1 in
    let b = sum_is words.1 sum n2 in
    let outer : rest ≡ decimal count ++ 32 ∷ signed_decimal sum = cut_is 32 rest words c1 ∙ ap (λ (w : List ℕ). w ++ 32 ∷ words.1) (sym a.text) ∙ ap (λ (w : List ℕ). decimal count ++ 32 ∷ w) (sym b.0) in
    subst (λ (s : Said). Tells tables s (codes "total " ++ rest)) same (record {
      fits = joined a.fits b.1;
      text = ap (λ (w : List ℕ). codes "total " ++ w) (sym outer);
      alone = refl;
    }))))

-- a number behind a `#` that is read
record IsTagged (n : ℕ) (word : List ℕ) : Type 0 where
  text : codes "#" ++ decimal n ≡ word
  fits : is_u64 n ≡ true

-- A number behind a `#` that is read is its word.
tagged_is : (word : List ℕ) (n : ℕ) → tagged_in word ≡ Some n → IsTagged n word
tagged_is word n e = step (behind (codes "#") word) u64_in n e (λ digits b1 e1.
    let u = u64_is digits n e1 in
    record { text = ap (λ (d : List ℕ). codes "#" ++ d) u.text ∙ sym (behind_is (codes "#") word digits b1); fits = u.fits })

-- A stale read of a table that is read has its text.
stale_table_sound : (tables : List TableDecl) (rest : List ℕ) (told : Said) → stale_table_in tables rest ≡ Some told → Tells tables told (codes "stale " ++ rest)
stale_table_sound tables rest told e =
    step (behind (codes "table ") rest) _ told e (λ words b1 e1.
    step (cut 32 words) _ told e1 (λ name c1 e2.
    step (table_in tables name.0) _ told e2 (λ table found e3.
    step (tagged_in name.1) _ told e3 (λ number n1 e4.
    let same : said.Stale (stale.Table table) number ≡ told = cc in
    let t = table_is tables name.0 table found in
    let n = tagged_is name.1 number n1 in
    let inner : words ≡ name_of_table tables table ++ 32 ∷ (codes "#" ++ decimal number) = cut_is 32 words name c1 ∙ ap (λ (w : List ℕ). w ++ 32 ∷ name.1) (sym t.text) ∙ ap (λ (w : List ℕ). name_of_table tables table ++ 32 ∷ w) (sym n.text) in
    let outer : rest ≡ codes "table " ++ (name_of_table tables table ++ 32 ∷ (codes "#" ++ decimal number)) = behind_is (codes "table ") rest words b1 ∙ ap (λ (w : List ℕ). codes "table " ++ w) inner in
    subst (λ (s : Said). Tells tables s (codes "stale " ++ rest)) same (record {
      fits = joined t.there n.fits;
      text = ap (λ (w : List ℕ). codes "stale " ++ w) (sym outer);
      alone = refl;
    })))))

-- A stale read of a range that is read has its text.
stale_range_sound : (tables : List TableDecl) (rest : List ℕ) (told : Said) → stale_range_in tables rest ≡ Some told → Tells tables told (codes "stale " ++ rest)
stale_range_sound tables rest told e =
    step (behind (codes "range ") rest) _ told e (λ words b1 e1.
    step (cut 32 words) _ told e1 (λ name c1 e2.
    step (table_in tables name.0) _ told e2 (λ table found e3.
    step (cut 32 name.1) _ told e3 (λ low_word c2 e4.
    step (key_in low_word.0) _ told e4 (λ low k1 e5.
    step (cut 32 low_word.1) _ told e5 (λ high_word c3 e6.
    step (key_in high_word.0) _ told e6 (λ high k2 e7.
    step (tagged_in high_word.1) _ told e7 (λ number n1 e8.
    let same : said.Stale (stale.Range table low high) number ≡ told = cc in
    let t = table_is tables name.0 table found in
    let a = key_is low_word.0 low k1 in
    let b = key_is high_word.0 high k2 in
    let n = tagged_is high_word.1 number n1 in
    let ending : low_word.1 ≡ signed_decimal high ++ 32 ∷ (codes "#" ++ decimal number) = cut_is 32 low_word.1 high_word c3 ∙ ap (λ (w : List ℕ). w ++ 32 ∷ high_word.1) (sym b.0) ∙ ap (λ (w : List ℕ). signed_decimal high ++ 32 ∷ w) (sym n.text) in
    let later : name.1 ≡ signed_decimal low ++ 32 ∷ (signed_decimal high ++ 32 ∷ (codes "#" ++ decimal number)) = cut_is 32 name.1 low_word c2 ∙ ap (λ (w : List ℕ). w ++ 32 ∷ low_word.1) (sym a.0) ∙ ap (λ (w : List ℕ). signed_decimal low ++ 32 ∷ w) ending in
    let inner : words ≡ name_of_table tables table ++ 32 ∷ (signed_decimal low ++ 32 ∷ (signed_decimal high ++ 32 ∷ (codes "#" ++ decimal number))) = cut_is 32 words name c1 ∙ ap (λ (w : List ℕ). w ++ 32 ∷ name.1) (sym t.text) ∙ ap (λ (w : List ℕ). name_of_table tables table ++ 32 ∷ w) later in
    let outer = behind_is (codes "range ") rest words b1 ∙ ap (λ (w : List ℕ). codes "range " ++ w) inner in
    subst (λ (s : Said). Tells tables s (codes "stale " ++ rest)) same (record {
      fits = joined (joined (joined t.there a.1) b.1) n.fits;
      text = ap (λ (w : List ℕ). codes "stale " ++ w) (sym outer);
      alone = refl;
    })))))))))

-- A stale read of a key that is read has its text.
stale_key_sound : (tables : List TableDecl) (rest : List ℕ) (told : Said) → stale_key_in tables rest ≡ Some told → Tells tables told (codes "stale " ++ rest)
stale_key_sound tables rest told e =
    step (cut 32 rest) _ told e (λ name c1 e1.
    step (table_in tables name.0) _ told e1 (λ table found e2.
    step (cut 32 name.1) _ told e2 (λ key_word c2 e3.
    step (key_in key_word.0) _ told e3 (λ key k1 e4.
    step (tagged_in key_word.1) _ told e4 (λ number n1 e5.
    let same : said.Stale (stale.Key table key) number ≡ told = cc in
    let t = table_is tables name.0 table found in
    let a = key_is key_word.0 key k1 in
    let n = tagged_is key_word.1 number n1 in
    let later : name.1 ≡ signed_decimal key ++ 32 ∷ (codes "#" ++ decimal number) = cut_is 32 name.1 key_word c2 ∙ ap (λ (w : List ℕ). w ++ 32 ∷ key_word.1) (sym a.0) ∙ ap (λ (w : List ℕ). signed_decimal key ++ 32 ∷ w) (sym n.text) in
    let outer : rest ≡ name_of_table tables table ++ 32 ∷ (signed_decimal key ++ 32 ∷ (codes "#" ++ decimal number)) = cut_is 32 rest name c1 ∙ ap (λ (w : List ℕ). w ++ 32 ∷ name.1) (sym t.text) ∙ ap (λ (w : List ℕ). name_of_table tables table ++ 32 ∷ w) later in
    subst (λ (s : Said). Tells tables s (codes "stale " ++ rest)) same (record {
      fits = joined (joined t.there a.1) n.fits;
      text = ap (λ (w : List ℕ). codes "stale " ++ w) (sym outer);
      alone = refl;
    }))))))

-- What follows from the find of either reading follows from that of the first that finds.
one_of : {A P : Type 0} (one other : Option A) (found : A) → first_of one other ≡ Some found → (one ≡ Some found → P) → (other ≡ Some found → P) → P
one_of (Some value) other found e first second = first e
one_of None other found e first second = second e

-- A commit over a stale read that is read has its text.
stale_sound : (tables : List TableDecl) → Sound tables (codes "stale ", stale_in tables)
stale_sound tables = λ rest told e.
    one_of (stale_table_in tables rest) _ told e (stale_table_sound tables rest told) (λ e1.
    one_of (stale_range_in tables rest) (stale_key_in tables rest) told e1 (stale_range_sound tables rest told) (stale_key_sound tables rest told))

-- Each reply about a block, an export, a total or a stale read that is read has its text.
places_sound : (tables : List TableDecl) → AllSound tables (places tables)
places_sound tables = (
  block_sound tables (codes "freezing ") said.Freezing (λ t b n. refl) (λ t b n. refl) (λ t b n. refl),
  (
    block_sound tables (codes "sealed ") said.Sealed (λ t b n. refl) (λ t b n. refl) (λ t b n. refl),
    (
      block_sound tables (codes "frozen ") said.Frozen (λ t b n. refl) (λ t b n. refl) (λ t b n. refl),
      (exported_sound tables, (totalled_sound tables, (stale_sound tables, tt))),
    ),
  ),
)

-- a row that is read
pub record IsRowOf (row : List Cell) (bytes : List ℕ) : Type 0 where
  pub fits : is_row row ≡ true
  pub text : spaced (cell_words row) ≡ bytes
  pub first : List ℕ
  pub others : List (List ℕ)
  pub words : cell_words row ≡ first ∷ others

-- A row whose cells are read of words is a row of the bytes that they make.
row_by : (words : List (List ℕ)) (row : List Cell) (bytes : List ℕ) → cells_in words ≡ Some row → spaced words ≡ bytes → (words ≡ [] → ⊥) → IsRowOf row bytes
row_by [] row bytes e text some = absurd (some refl)
row_by (word ∷ words) [] bytes e text some = absurd (let c = cells_are (word ∷ words) [] e in let f = c.text in cc)
row_by (word ∷ words) (cell ∷ cells) bytes e text some =
    let c = cells_are (word ∷ words) (cell ∷ cells) e in
    record { fits = c.fit; text = ap spaced c.text ∙ text; first = cell_text cell; others = cell_words cells; words = refl }

-- a row that is read is its bytes
pub row_is : (bytes : List ℕ) (row : List Cell) → row_in bytes ≡ Some row → IsRowOf row bytes
row_is bytes row e = row_by (words_of bytes) row bytes e (line_joined bytes) (λ none. omega (arith, words_some AtStart bytes, ap length none))

-- a row behind a front is the front, a space and its bytes
pub row_words : (front : List ℕ) (row : List Cell) (bytes : List ℕ) → IsRowOf row bytes → spaced (front ∷ cell_words row) ≡ front ++ 32 ∷ bytes
row_words front row bytes is = ap (λ (ws : List (List ℕ)). spaced (front ∷ ws)) is.words ∙ ap (λ (ws : List (List ℕ)). front ++ 32 ∷ spaced ws) (sym is.words) ∙ ap (λ (w : List ℕ). front ++ 32 ∷ w) is.text

-- A row that is read as found has the bytes as its text.
found_is : (tables : List TableDecl) (bytes : List ℕ) (told : Said) → found_in bytes ≡ Some told → Tells tables told bytes
found_is tables bytes told e =
    step (behind (codes "row ") bytes) _ told e (λ cells at e1.
    mapped said.Found (row_in cells) told e1 (λ row read same.
    let is = row_is cells row read in
    subst (λ (t : Said). Tells tables t bytes) same (record {
      fits = is.fits;
      text = row_words (codes "row") row cells is ∙ sym (behind_is (codes "row ") bytes cells at);
      alone = refl;
    })))

-- a reply of one line that is read has this text
pub said_is : (tables : List TableDecl) (bytes : List ℕ) (told : Said) → said_in tables bytes ≡ Some told → Tells tables told bytes
said_is tables bytes told e =
    one_of (answer_in bytes) _ told e (plain_found tables answers bytes told (answers_plain tables)) (λ e1.
    one_of (refusal_in bytes) _ told e1 (plain_found tables refusals bytes told (refusals_plain tables)) (λ e2.
    one_of (opened_in counts bytes) _ told e2 (opened_is tables counts bytes told (counts_sound tables)) (λ e3.
    one_of (opened_in (places tables) bytes) (found_in bytes) told e3 (opened_is tables (places tables) bytes told (places_sound tables)) (found_is tables bytes told))))
