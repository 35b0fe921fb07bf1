-- What a column keeps is given back as the cells that it keeps.
use Rattle.std.proofs.Common.{◌≡◌, ℕ, zero, suc, ◌<◌, ◌≤◌, ◌^◌, get_or, Bool, true, false, cond, List, [], ◌∷◌, ◌++◌, length, take, replicate, map, refl, sym, ap, ◌∙◌, subst, arith, ℤ, pos, ◌⊎◌, inl, inr, Vec, Global}
use Rattle.std.specs.Prelude.{slice_set, All, IsTrue, nat_le, ◌&&◌, ◌||◌, Option, Some, None, IfSome, IfNone}
use Rattle.std.proofs.lemmas.List.{map-set, map-append, take_all, take-append-le, length-replicate}
use Rattle.std.proofs.Math.ListN.{get_or-map}
use Rattle.std.proofs.lemmas.List.Elements.{All-head, All-tail, All-set, All-append, All-replicate}
use Rattle.std.proofs.lemmas.Bool.Decides.{nat_tests}
use Rattle.cell_model.specs.declared.cell.Cell.{Cell}
use Rattle.cell_model.specs.declared.cell.Cell.TheVariants.{Null, Num, Truth, Text, Blob}
use Rattle.cell_model.specs.declared.kind.Kind.{Kind}
use Rattle.cell_model.specs.declared.values.Values.{Values}
use Rattle.cell_model.specs.declared.values.Values.TheVariants.{Signed, Unsigned, Truths, Texts, Blobs, Strips}
use Rattle.cell_model.specs.declared.width.OffsetWidth.{OffsetWidth}
use Rattle.cell_model.specs.declared.width.OffsetWidth.TheVariants as offset
use Rattle.cell_model.specs.Kinds.{values_of, are_truths, are_texts, takes_bytes, most_bytes_in}
use Rattle.cell_model.specs.Widths.{most_between}
use Rattle.cell_model.specs.Values.{byte_length, is_integer_in, is_null, is_value_of, most_bytes_of}
use Rattle.arrow_spec.specs.Arrays.{number_of, truth_of, value_of, strip_of}
use Rattle.flat_column.specs.Strips.{StripList}
use Rattle.block_columns.specs.declared.store.Store.{Store}
use Rattle.block_columns.specs.declared.store.Store.TheVariants as store
use Rattle.block_columns.specs.Cells.{IsSlotOf, Keeps, Stores, IsStoreOf, AreNumbers, AreTruths, AreBytes, AreStrips, cells_in, masked, bytes_in, full_cells, valid_bit, bytes_at, own_bytes}
use Rattle.block_columns.proofs.Lists.{map-replicate}

-- the kinds of numbers have no other values
no_truth : (v : Values) (bits : ℕ) (sign p : Bool) → AreNumbers v bits sign → IsTrue (are_truths v && p) → ⊥
no_truth (Signed w) bits sign p known h = cc
no_truth (Unsigned w) bits sign p known h = cc
no_truth Truths bits sign p known h = absurd known
no_truth (Texts w) bits sign p known h = absurd known
no_truth (Blobs w) bits sign p known h = absurd known
no_truth (Strips w) bits sign p known h = absurd known

-- A kind of numbers has no texts.
no_text : (v : Values) (bits : ℕ) (sign p q : Bool) → AreNumbers v bits sign → IsTrue ((are_texts v && p) && q) → ⊥
no_text (Signed w) bits sign p q known h = cc
no_text (Unsigned w) bits sign p q known h = cc
no_text Truths bits sign p q known h = absurd known
no_text (Texts w) bits sign p q known h = absurd known
no_text (Blobs w) bits sign p q known h = absurd known
no_text (Strips w) bits sign p q known h = absurd known

-- A kind of numbers has no bytes.
no_blob : (v : Values) (bits n : ℕ) (sign p q : Bool) → AreNumbers v bits sign → IsTrue ((takes_bytes v n && p) && q) → ⊥
no_blob (Signed w) bits n sign p q known h = cc
no_blob (Unsigned w) bits n sign p q known h = cc
no_blob Truths bits n sign p q known h = absurd known
no_blob (Texts w) bits n sign p q known h = absurd known
no_blob (Blobs w) bits n sign p q known h = absurd known
no_blob (Strips w) bits n sign p q known h = absurd known

-- A cell of a kind of numbers is given back by its number and its bit.
number_back : (kind : Kind) (bits : ℕ) (sign : Bool) (c : Cell) → AreNumbers (values_of kind) bits sign → IsSlotOf kind c → cond (valid_bit c) (Num (number_of c)) Null ≡ c
number_back kind bits sign Null known slot = refl
number_back kind bits sign (Num n) known slot = refl
number_back kind bits sign (Truth b) known slot = absurd (no_truth (values_of kind) bits sign _ known slot)
number_back kind bits sign (Text t) known slot = absurd (no_text (values_of kind) bits sign _ _ known slot)
number_back kind bits sign (Blob t) known slot = absurd (no_blob (values_of kind) bits (length t) sign _ _ known slot)

-- the kind of truth values has no other values
truth_alone : (v : Values) (n : ℤ) (k : ℕ) (p q : Bool) → AreTruths v → (IsTrue (is_integer_in v n && p) → ⊥) × (IsTrue ((are_texts v && p) && q) → ⊥) × (IsTrue ((takes_bytes v k && p) && q) → ⊥)
truth_alone (Signed w) n k p q known = absurd known
truth_alone (Unsigned w) n k p q known = absurd known
truth_alone Truths n k p q known = ((λ h. cc), (λ h. cc), (λ h. cc))
truth_alone (Texts w) n k p q known = absurd known
truth_alone (Blobs w) n k p q known = absurd known
truth_alone (Strips w) n k p q known = absurd known

-- A cell of the kind of truth values is given back by its truth and its bit.
truth_back : (kind : Kind) (c : Cell) → AreTruths (values_of kind) → IsSlotOf kind c → cond (valid_bit c) (Truth (truth_of c)) Null ≡ c
truth_back kind Null known slot = refl
truth_back kind (Num n) known slot = absurd ((truth_alone (values_of kind) n 0 _ true known).0 slot)
truth_back kind (Truth b) known slot = refl
truth_back kind (Text t) known slot = absurd ((truth_alone (values_of kind) (pos 0) 0 _ _ known).1 slot)
truth_back kind (Blob t) known slot = absurd ((truth_alone (values_of kind) (pos 0) (length t) _ _ known).2 slot)

-- the kinds of bytes have no numbers and truth values
bytes_alone : (v : Values) (n : ℤ) (p : Bool) → AreBytes v → (IsTrue (is_integer_in v n && p) → ⊥) × (IsTrue (are_truths v && p) → ⊥)
bytes_alone (Signed w) n p known = absurd known
bytes_alone (Unsigned w) n p known = absurd known
bytes_alone Truths n p known = absurd known
bytes_alone (Texts w) n p known = ((λ h. cc), (λ h. cc))
bytes_alone (Blobs w) n p known = ((λ h. cc), (λ h. cc))
bytes_alone (Strips w) n p known = absurd known

-- The bytes of a text of a kind of bytes are that text again.
text_back : (v : Values) (t : List ℕ) (p q : Bool) → AreBytes v → IsTrue ((are_texts v && p) && q) → bytes_in v t ≡ Text t
text_back (Signed w) t p q known h = absurd known
text_back (Unsigned w) t p q known h = absurd known
text_back Truths t p q known h = absurd known
text_back (Texts w) t p q known h = refl
text_back (Blobs w) t p q known h = cc
text_back (Strips w) t p q known h = absurd known

-- The bytes of a blob of a kind of bytes are that blob again.
blob_back : (v : Values) (t : List ℕ) (p q : Bool) → AreBytes v → IsTrue ((takes_bytes v (length t) && p) && q) → bytes_in v t ≡ Blob t
blob_back (Signed w) t p q known h = absurd known
blob_back (Unsigned w) t p q known h = absurd known
blob_back Truths t p q known h = absurd known
blob_back (Texts w) t p q known h = cc
blob_back (Blobs w) t p q known h = refl
blob_back (Strips w) t p q known h = absurd known

-- A cell of a kind of bytes is given back by its bytes and its bit.
bytes_back : (kind : Kind) (c : Cell) → AreBytes (values_of kind) → IsSlotOf kind c → cond (valid_bit c) (bytes_in (values_of kind) (value_of c)) Null ≡ c
bytes_back kind Null known slot = refl
bytes_back kind (Num n) known slot = absurd ((bytes_alone (values_of kind) n _ known).0 slot)
bytes_back kind (Truth b) known slot = absurd ((bytes_alone (values_of kind) (pos 0) _ known).1 slot)
bytes_back kind (Text t) known slot = text_back (values_of kind) t _ _ known slot
bytes_back kind (Blob t) known slot = blob_back (values_of kind) t _ _ known slot

-- the kinds of strips have no numbers, truth values and texts
strips_alone : (v : Values) (bytes : ℕ) (n : ℤ) (p q : Bool) → AreStrips v bytes
    → (IsTrue (is_integer_in v n && p) → ⊥) × (IsTrue (are_truths v && p) → ⊥) × (IsTrue ((are_texts v && p) && q) → ⊥)
strips_alone (Signed w) bytes n p q known = absurd known
strips_alone (Unsigned w) bytes n p q known = absurd known
strips_alone Truths bytes n p q known = absurd known
strips_alone (Texts w) bytes n p q known = absurd known
strips_alone (Blobs w) bytes n p q known = absurd known
strips_alone (Strips w) bytes n p q known = ((λ h. cc), (λ h. cc), (λ h. cc))

-- The blobs of a kind of strips have as many bytes as a strip.
strip_long : (v : Values) (bytes : ℕ) (t : List ℕ) (p q : Bool) → AreStrips v bytes → IsTrue ((takes_bytes v (length t) && p) && q) → length t ≡ bytes
strip_long (Signed w) bytes t p q known h = absurd known
strip_long (Unsigned w) bytes t p q known h = absurd known
strip_long Truths bytes t p q known h = absurd known
strip_long (Texts w) bytes t p q known h = absurd known
strip_long (Blobs w) bytes t p q known h = absurd known
strip_long (Strips w) bytes t p q known h = grind (arith, nat_tests)

-- A strip is a blob.
strip_blob : (v : Values) (bytes : ℕ) (t : List ℕ) → AreStrips v bytes → bytes_in v t ≡ Blob t
strip_blob (Signed w) bytes t known = absurd known
strip_blob (Unsigned w) bytes t known = absurd known
strip_blob Truths bytes t known = absurd known
strip_blob (Texts w) bytes t known = absurd known
strip_blob (Blobs w) bytes t known = absurd known
strip_blob (Strips w) bytes t known = refl

-- the strip of as many bytes is these bytes
full_strip : (bytes : ℕ) (t : List ℕ) → length t ≡ bytes → take bytes (t ++ replicate bytes 0) ≡ t
full_strip bytes t long =
    take-append-le bytes t (replicate bytes 0) (omega (arith, long)) ∙ take_all bytes t (omega (arith, long))

-- and that of none is zeros
pub bare_strip : (bytes : ℕ) → take bytes (replicate {A = ℕ} bytes 0) ≡ replicate bytes 0
bare_strip bytes = take_all bytes (replicate bytes 0) (omega (arith, length-replicate {A = ℕ} bytes 0))

-- A cell of a kind of strips is given back by its strip and its bit.
strip_back : (kind : Kind) (bytes : ℕ) (c : Cell) → AreStrips (values_of kind) bytes → IsSlotOf kind c → cond (valid_bit c) (bytes_in (values_of kind) (strip_of bytes c)) Null ≡ c
strip_back kind bytes Null known slot = refl
strip_back kind bytes (Num n) known slot = absurd ((strips_alone (values_of kind) bytes n _ true known).0 slot)
strip_back kind bytes (Truth b) known slot = absurd ((strips_alone (values_of kind) bytes (pos 0) _ true known).1 slot)
strip_back kind bytes (Text t) known slot = absurd ((strips_alone (values_of kind) bytes (pos 0) _ _ known).2 slot)
strip_back kind bytes (Blob t) known slot =
    ap (bytes_in (values_of kind)) (full_strip bytes t (strip_long (values_of kind) bytes t _ _ known slot))
    ∙ strip_blob (values_of kind) bytes t known

-- a cell of a kind of strips has so many bytes, if any
pub strip_fits : (kind : Kind) (bytes : ℕ) (c : Cell) → AreStrips (values_of kind) bytes → IsSlotOf kind c → 0 < length (value_of c) → length (value_of c) ≡ bytes
strip_fits kind bytes Null known slot some = absurd (omega (arith, some))
strip_fits kind bytes (Num n) known slot some = absurd (omega (arith, some))
strip_fits kind bytes (Truth b) known slot some = absurd (omega (arith, some))
strip_fits kind bytes (Text t) known slot some = absurd ((strips_alone (values_of kind) bytes (pos 0) _ _ known).2 slot)
strip_fits kind bytes (Blob t) known slot some = strip_long (values_of kind) bytes t _ _ known slot

-- cell by cell
masked-back : {X : Type 0} (kind : Kind) (full : X → Cell) (value : Cell → X) → ((c : Cell) → IsSlotOf kind c → cond (valid_bit c) (full (value c)) Null ≡ c)
    → (cells : List Cell) → All (IsSlotOf kind) cells → masked (map valid_bit cells) (map full (map value cells)) ≡ cells
masked-back kind full value back [] each = refl
masked-back kind full value back (c ∷ cs) each =
    ap (λ (x : Cell). x ∷ masked (map valid_bit cs) (map full (map value cs))) (back c (All-head (IsSlotOf kind) c cs each))
    ∙ ap (λ (xs : List Cell). c ∷ xs) (masked-back kind full value back cs (All-tail (IsSlotOf kind) c cs each))

-- a column that keeps cells gives them back
pub keeps-cells : (kind : Kind) (valid : List Bool) (kept : Store) (cells : List Cell) → Keeps kind valid kept cells → cells_in kind valid kept ≡ cells
keeps-cells kind valid (store.Numbers f) cells k =
    ap (λ (bits : List Bool). masked bits (map Num f.values)) k.bits ∙ ap (λ (xs : List ℤ). masked (map valid_bit cells) (map Num xs)) k.stored
    ∙ masked-back kind Num number_of (λ c slot. number_back kind f.width f.signed c k.known slot) cells k.each
keeps-cells kind valid (store.Truths bits) cells k =
    ap (λ (xs : List Bool). masked xs (map Truth bits)) k.bits ∙ ap (λ (xs : List Bool). masked (map valid_bit cells) (map Truth xs)) k.stored
    ∙ masked-back kind Truth truth_of (λ c slot. truth_back kind c k.known slot) cells k.each
keeps-cells kind valid (store.Values v) cells k =
    ap (λ (xs : List Bool). masked xs (map (bytes_in (values_of kind)) v.items)) k.bits
    ∙ ap (λ (xs : List (List ℕ)). masked (map valid_bit cells) (map (bytes_in (values_of kind)) xs)) k.stored
    ∙ masked-back kind (bytes_in (values_of kind)) value_of (λ c slot. bytes_back kind c k.known slot) cells k.each
keeps-cells kind valid (store.Strips s) cells k =
    ap (λ (xs : List Bool). masked xs (map (bytes_in (values_of kind)) s.values)) k.bits
    ∙ ap (λ (xs : List (List ℕ)). masked (map valid_bit cells) (map (bytes_in (values_of kind)) xs)) k.stored
    ∙ masked-back kind (bytes_in (values_of kind)) (strip_of s.width) (λ c slot. strip_back kind s.width c k.known slot) cells k.each

-- what is kept are the cells that are read from it
pub keeps-itself : (kind : Kind) (valid : List Bool) (kept : Store) (cells : List Cell) → Keeps kind valid kept cells → Keeps kind valid kept (cells_in kind valid kept)
keeps-itself kind valid kept cells k = subst (λ (cs : List Cell). Keeps kind valid kept cs) (sym (keeps-cells kind valid kept cells k)) k

-- a cell is put
pub keeps-set : (kind : Kind) (valid valid' : List Bool) (kept kept' : Store) (cells : List Cell) (at : ℕ) (bit : Bool) (c : Cell) → Keeps kind valid kept cells
    → IsSlotOf kind c → valid' ≡ slice_set valid at bit → bit ≡ valid_bit c → IsStoreOf kind kept' → (Stores kept cells → Stores kept' (slice_set cells at c))
    → Keeps kind valid' kept' (slice_set cells at c)
keeps-set kind valid valid' kept kept' cells at bit c k slot put is known stores = record {
  bits = put ∙ ap (λ b. slice_set valid at b) is ∙ ap (λ (bs : List Bool). slice_set bs at (valid_bit c)) k.bits ∙ sym (map-set valid_bit cells at c);
  known = known;
  stored = stores k.stored;
  each = All-set (IsSlotOf kind) cells at c slot k.each;
}

-- nulls are added
pub keeps-extend : (kind : Kind) (valid valid' : List Bool) (kept kept' : Store) (cells : List Cell) (n : ℕ) → Keeps kind valid kept cells
    → valid' ≡ valid ++ replicate n false → IsStoreOf kind kept' → (Stores kept cells → Stores kept' (cells ++ replicate n Null))
    → Keeps kind valid' kept' (cells ++ replicate n Null)
keeps-extend kind valid valid' kept kept' cells n k more known stores = record {
  bits = more ∙ ap (λ (bs : List Bool). bs ++ replicate n false) k.bits ∙ ap (λ (bs : List Bool). map valid_bit cells ++ bs) (sym (map-replicate valid_bit n Null))
      ∙ sym (map-append valid_bit cells (replicate n Null));
  known = known;
  stored = stores k.stored;
  each = All-append (IsSlotOf kind) cells (replicate n Null) k.each (All-replicate (IsSlotOf kind) n Null refl);
}

-- another store of the same cells
pub keeps-as : (kind : Kind) (valid : List Bool) (kept kept' : Store) (cells : List Cell) → Keeps kind valid kept cells → IsStoreOf kind kept' → (Stores kept cells → Stores kept' cells) → Keeps kind valid kept' cells
keeps-as kind valid kept kept' cells k known stores = record { bits = k.bits; known = known; stored = stores k.stored; each = k.each }

-- a cell of the slots, or the null beyond them
slot_at : (kind : Kind) (cells : List Cell) (at : ℕ) → All (IsSlotOf kind) cells → IsSlotOf kind (get_or cells at Null)
slot_at kind [] at each = refl
slot_at kind (c ∷ cs) zero each = All-head (IsSlotOf kind) c cs each
slot_at kind (c ∷ cs) (suc at) each = slot_at kind cs at (All-tail (IsSlotOf kind) c cs each)

-- The cells of a kind of numbers have no bytes of their own.
numbers_have_none : (v : Values) (bits : ℕ) (sign : Bool) (c : Cell) → AreNumbers v bits sign → [] ≡ own_bytes v c
numbers_have_none (Signed w) bits sign c known = refl
numbers_have_none (Unsigned w) bits sign c known = refl
numbers_have_none Truths bits sign c known = refl
numbers_have_none (Texts w) bits sign c known = absurd known
numbers_have_none (Blobs w) bits sign c known = absurd known
numbers_have_none (Strips w) bits sign c known = refl

-- Nor have those of the kind of truth values.
truths_have_none : (v : Values) (c : Cell) → AreTruths v → [] ≡ own_bytes v c
truths_have_none (Signed w) c known = refl
truths_have_none (Unsigned w) c known = refl
truths_have_none Truths c known = refl
truths_have_none (Texts w) c known = absurd known
truths_have_none (Blobs w) c known = absurd known
truths_have_none (Strips w) c known = refl

-- Nor have those of a kind of strips.
strips_have_none : (v : Values) (bytes : ℕ) (c : Cell) → AreStrips v bytes → [] ≡ own_bytes v c
strips_have_none (Signed w) bytes c known = refl
strips_have_none (Unsigned w) bytes c known = refl
strips_have_none Truths bytes c known = refl
strips_have_none (Texts w) bytes c known = absurd known
strips_have_none (Blobs w) bytes c known = absurd known
strips_have_none (Strips w) bytes c known = refl

-- Those of a kind of bytes have their value.
value_owned : (v : Values) (c : Cell) → AreBytes v → value_of c ≡ own_bytes v c
value_owned (Signed w) c known = absurd known
value_owned (Unsigned w) c known = absurd known
value_owned Truths c known = absurd known
value_owned (Texts w) c known = refl
value_owned (Blobs w) c known = refl
value_owned (Strips w) c known = absurd known

-- the bytes that are stored are the cell's own
pub keeps-bytes : (kind : Kind) (valid : List Bool) (kept : Store) (cells : List Cell) (at : ℕ) → Keeps kind valid kept cells → bytes_at kept at ≡ own_bytes (values_of kind) (get_or cells at Null)
keeps-bytes kind valid (store.Numbers f) cells at k = numbers_have_none (values_of kind) f.width f.signed (get_or cells at Null) k.known
keeps-bytes kind valid (store.Truths bits) cells at k = truths_have_none (values_of kind) (get_or cells at Null) k.known
keeps-bytes kind valid (store.Values v) cells at k =
    ap (λ (xs : List (List ℕ)). get_or xs at []) k.stored ∙ get_or-map value_of cells at Null ∙ value_owned (values_of kind) (get_or cells at Null) k.known
keeps-bytes kind valid (store.Strips s) cells at k = strips_have_none (values_of kind) s.width (get_or cells at Null) k.known

-- A cell of a kind of bytes with more than 12 of them is given back by these.
long_back : (kind : Kind) (c : Cell) → AreBytes (values_of kind) → IsSlotOf kind c → 12 < length (value_of c) → bytes_in (values_of kind) (value_of c) ≡ c
long_back kind Null known slot long = absurd (omega (arith, long))
long_back kind (Num n) known slot long = absurd (omega (arith, long))
long_back kind (Truth b) known slot long = absurd (omega (arith, long))
long_back kind (Text t) known slot long = bytes_back kind (Text t) known slot
long_back kind (Blob t) known slot long = bytes_back kind (Blob t) known slot

-- and make the cell where they are many
pub keeps-long : (kind : Kind) (valid : List Bool) (kept : Store) (cells : List Cell) (at : ℕ) → Keeps kind valid kept cells → 12 < length (bytes_at kept at)
    → bytes_in (values_of kind) (bytes_at kept at) ≡ get_or cells at Null
keeps-long kind valid (store.Numbers f) cells at k long = absurd (omega (arith, long))
keeps-long kind valid (store.Truths bits) cells at k long = absurd (omega (arith, long))
keeps-long kind valid (store.Values v) cells at k long =
    let is : bytes_at (store.Values v) at ≡ value_of (get_or cells at Null) =
    keeps-bytes kind valid (store.Values v) cells at k ∙ sym (value_owned (values_of kind) (get_or cells at Null) k.known) in
    ap (λ (bytes : List ℕ). bytes_in (values_of kind) bytes) is
    ∙ long_back kind (get_or cells at Null) k.known (slot_at kind cells at k.each) (subst (λ (bytes : List ℕ). 12 < length bytes) is long)
keeps-long kind valid (store.Strips s) cells at k long = absurd (omega (arith, long))

-- what serves where a cell is moved out serves where its bytes do not stand apart
pub spare_serves : (kind : Kind) (valid : List Bool) (kept : Store) (cells : List Cell) (at : ℕ) (spare : Cell) → Keeps kind valid kept cells → 12 < length (bytes_at kept at)
    → length (own_bytes (values_of kind) (get_or cells at Null)) ≤ 12 → spare ≡ get_or cells at Null
spare_serves kind valid kept cells at spare k long short =
    absurd (omega (arith, short, subst (λ (bytes : List ℕ). 12 < length bytes) (keeps-bytes kind valid kept cells at k) long))

-- the cell of a valid bit is the value
pub masked-get : (bits : List Bool) (cells : List Cell) (at : ℕ) → get_or (masked bits cells) at Null ≡ cond (get_or bits at false) (get_or cells at Null) Null
masked-get [] cells at = refl
masked-get (b ∷ bs) [] at = none (get_or (b ∷ bs) at false)
  where
    none : (bit : Bool) → Null ≡ cond bit Null Null
    none true = refl
    none false = refl
masked-get (b ∷ bs) (c ∷ cs) zero = refl
masked-get (b ∷ bs) (c ∷ cs) (suc at) = masked-get bs cs at

-- truth values and bytes have no number
pub no-number : {X : Type 0} (cell_of : X → Cell) → ((x : X) → pos 0 ≡ number_of (cell_of x)) → (xs : List X) (at : ℕ) → pos 0 ≡ number_of (get_or (map cell_of xs) at Null)
no-number cell_of each [] at = refl
no-number cell_of each (x ∷ xs) zero = each x
no-number cell_of each (x ∷ xs) (suc at) = no-number cell_of each xs at

-- a value that is made of bytes has no number
pub no-number-in : (values : Values) (bytes : List ℕ) → pos 0 ≡ number_of (bytes_in values bytes)
no-number-in (Signed width) bytes = refl
no-number-in (Unsigned width) bytes = refl
no-number-in Truths bytes = refl
no-number-in (Texts width) bytes = refl
no-number-in (Blobs width) bytes = refl
no-number-in (Strips width) bytes = refl

-- nor has one that is made of stored truth values or bytes
pub no-number-stored : (kept : Store) (at : ℕ)
    → ((bits : List Bool) × kept ≡ store.Truths bits) ⊎ ((values : Vec (List ℕ) Global) × kept ≡ store.Values values) ⊎ ((strips : StripList) × kept ≡ store.Strips strips)
    → (kind : Kind) → pos 0 ≡ number_of (get_or (full_cells kind kept) at Null)
no-number-stored kept at (inl is) kind =
    no-number Truth (λ b. refl) is.0 at ∙ sym (ap (λ (s : Store). number_of (get_or (full_cells kind s) at Null)) is.1)
no-number-stored kept at (inr (inl is)) kind =
    no-number (bytes_in (values_of kind)) (no-number-in (values_of kind)) is.0.items at ∙ sym (ap (λ (s : Store). number_of (get_or (full_cells kind s) at Null)) is.1)
no-number-stored kept at (inr (inr is)) kind =
    no-number (bytes_in (values_of kind)) (no-number-in (values_of kind)) is.0.values at ∙ sym (ap (λ (s : Store). number_of (get_or (full_cells kind s) at Null)) is.1)

-- a cell is moved out: its bytes where they are many, else what was copied before
pub keeps-moved : (kind : Kind) (valid : List Bool) (kept : Store) (cells : List Cell) (at : ℕ) (moved : Option (List ℕ)) (cell spare : Cell) → Keeps kind valid kept cells
    → IfSome moved (λ bytes. bytes ≡ bytes_at kept at) → IfSome moved (λ bytes. 12 < length bytes) → IfNone moved (length (bytes_at kept at) ≤ 12)
    → IfSome moved (λ bytes. cell ≡ bytes_in (values_of kind) bytes) → IfNone moved (cell ≡ spare)
    → (length (own_bytes (values_of kind) (get_or cells at Null)) ≤ 12 → spare ≡ get_or cells at Null) → cell ≡ get_or cells at Null
keeps-moved kind valid kept cells at (Some bytes) cell spare k is long short some none copied =
    some ∙ ap (λ (b : List ℕ). bytes_in (values_of kind) b) is
    ∙ keeps-long kind valid kept cells at k (subst (λ (b : List ℕ). 12 < length b) is long)
keeps-moved kind valid kept cells at None cell spare k is long short some none copied =
    none ∙ copied (subst (λ (b : List ℕ). length b ≤ 12) (keeps-bytes kind valid kept cells at k) short)

-- A cell that may stand in a slot is not too long.
slot_short : (c : Cell) (value : Bool) (most : ℕ) → (is_null c || (value && nat_le (byte_length c) most)) ≡ true → length (value_of c) ≤ most
slot_short Null value most slot = omega arith
slot_short (Num n) value most slot = omega arith
slot_short (Truth b) value most slot = omega arith
slot_short (Text t) true most slot = grind (arith, nat_tests)
slot_short (Text t) false most slot = cc
slot_short (Blob t) true most slot = grind (arith, nat_tests)
slot_short (Blob t) false most slot = cc

-- the bytes of a cell are few
pub keeps-short : (kind : Kind) (valid : List Bool) (kept : Store) (cells : List Cell) (at : ℕ) → Keeps kind valid kept cells → length (bytes_at kept at) ≤ most_bytes_of kind
keeps-short kind valid (store.Numbers f) cells at k = omega arith
keeps-short kind valid (store.Truths bits) cells at k = omega arith
keeps-short kind valid (store.Values v) cells at k =
    subst (λ (bytes : List ℕ). length bytes ≤ most_bytes_of kind)
    (value_owned (values_of kind) (get_or cells at Null) k.known ∙ sym (keeps-bytes kind valid (store.Values v) cells at k))
    (slot_short (get_or cells at Null) (is_value_of kind (get_or cells at Null)) (most_bytes_of kind) (slot_at kind cells at k.each))
keeps-short kind valid (store.Strips s) cells at k = omega arith

-- Between two offsets there are at most 2^20 bytes.
most_between_few : (w : OffsetWidth) → most_between w ≤ 2 ^ 20
most_between_few offset.Bits32 = let few : 65535 ≤ 1048576 = omega arith in few
most_between_few offset.Bits64 = let few : 1048576 ≤ 1048576 = omega arith in few

-- Values of any length have at most 2^20 bytes.
most_of_bytes : (v : Values) → AreBytes v → most_bytes_in v ≤ 2 ^ 20
most_of_bytes (Signed w) known = absurd known
most_of_bytes (Unsigned w) known = absurd known
most_of_bytes Truths known = absurd known
most_of_bytes (Texts w) known = most_between_few w
most_of_bytes (Blobs w) known = most_between_few w
most_of_bytes (Strips w) known = absurd known

-- the length of a cell of any length has 32 bits
pub slot_small : (kind : Kind) (c : Cell) → AreBytes (values_of kind) → IsSlotOf kind c → length (value_of c) < 2 ^ 32
slot_small kind c known slot =
    let most : most_bytes_of kind ≤ 1048576 = most_of_bytes (values_of kind) known in
    let long = slot_short c (is_value_of kind c) (most_bytes_of kind) slot in
    let small : length (value_of c) < 4294967296 = omega (arith, most, long) in
    small
