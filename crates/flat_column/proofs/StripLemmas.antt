-- Values of so many bytes each by their bytes.
use Rattle.std.proofs.Common.{◌≡◌, ℕ, zero, suc, ◌+◌, ◌-◌, ◌*◌, ◌/◌, ◌<◌, ◌≤◌, List, [], ◌∷◌, ◌++◌, length, take, drop, set, get_or, replicate, refl, sym, ap, ◌∙◌, subst, arith, Some, slice_get}
use Rattle.std.proofs.lemmas.List.{append-nil, replicate-append-replicate, drop_more, drop-drop, length-append, length-drop, length-replicate, length-take-le, take_all, set_split, drop_all}
use Rattle.std.proofs.lemmas.List.Elements.{All-nil, All-cons, All-head, All-tail, All-set, All-append, All-replicate}
use Rattle.std.proofs.lemmas.List.Folds.{concat-append}
use Rattle.std.proofs.lemmas.Option.{slice_get-get_or}
use Rattle.std.proofs.Math.Nat.{mul-div_right, mul-div-le, mul-le-mul_left}
use Rattle.std.proofs.Math.Seq.{take-append-add, drop-append-add}
use borrow.Rule.Slice.PartMut.{put_mid}
use Rattle.std.specs.List.{All, concat}
use Rattle.std.specs.Simd.{first_chunks}
use Rattle.flat_column.specs.Strips.{HoldsStrips, StripList, strips_in}

-- the value has so many bytes
abbrev pub HasWidth : ℕ → List ℕ → Type 0
HasWidth width value = length value ≡ width

-- bytes are those of the values that the fields show
pub record Holds (width : ℕ) (bytes : List ℕ) (values : List (List ℕ)) : Type 0 where
  pub some : 0 < width
  pub long : All (HasWidth width) values
  pub stored : bytes ≡ concat values

-- ---- values of one length

-- values have as many bytes as their width, for each of them
length-strips : (width : ℕ) (values : List (List ℕ)) → All (HasWidth width) values → length (concat values) ≡ width * length values
length-strips width [] each = omega arith
length-strips width (v ∷ vs) each =
    let one = All-head (HasWidth width) v vs each in
    let more = length-strips width vs (All-tail (HasWidth width) v vs each) in
    length-append v (concat vs) ∙ grind arith

-- behind the bytes of the first values stand those of the others
drop-strips : (width : ℕ) (values : List (List ℕ)) (i : ℕ) → All (HasWidth width) values → drop (width * i) (concat values) ≡ concat (drop i values)
drop-strips width values zero each = let e : width * zero ≡ 0 = omega arith in rw e refl
drop-strips width [] (suc i) each = drop_all (width * suc i) [] (omega arith)
drop-strips width (v ∷ vs) (suc i) each =
    let one = All-head (HasWidth width) v vs each in
    let e : width * suc i ≡ length v + width * i = grind arith in
    rw e (drop-append-add v (concat vs) (width * i) ∙ drop-strips width vs i (All-tail (HasWidth width) v vs each))

-- the first bytes are those of the first values
take-strips : (width : ℕ) (values : List (List ℕ)) (i : ℕ) → All (HasWidth width) values → take (width * i) (concat values) ≡ concat (take i values)
take-strips width values zero each = let e : width * zero ≡ 0 = omega arith in rw e refl
take-strips width [] (suc i) each = take_all (width * suc i) [] (omega arith)
take-strips width (v ∷ vs) (suc i) each =
    let one = All-head (HasWidth width) v vs each in
    let e : width * suc i ≡ length v + width * i = grind arith in
    rw e (take-append-add v (concat vs) (width * i) ∙ ap (λ (rest : List ℕ). v ++ rest) (take-strips width vs i (All-tail (HasWidth width) v vs each)))

-- a value stands in front of the bytes of the others
front : (width : ℕ) (v rest : List ℕ) → HasWidth width v → take width (v ++ rest) ≡ v
front width v rest one =
    let e : width ≡ length v + 0 = omega (arith, one) in
    rw e (take-append-add v rest 0 ∙ append-nil v)

-- and these behind it
behind : (width : ℕ) (v rest : List ℕ) → HasWidth width v → drop width (v ++ rest) ≡ rest
behind width v rest one =
    let e : width ≡ length v + 0 = omega (arith, one) in
    rw e (drop-append-add v rest 0)

-- the pieces of the values' bytes are the values
chunks-strips : (width : ℕ) (values : List (List ℕ)) → All (HasWidth width) values → first_chunks width (length values) (concat values) ≡ values
chunks-strips width [] each = refl
chunks-strips width (v ∷ vs) each =
    let one = All-head (HasWidth width) v vs each in
    ap (λ (x : List ℕ). x ∷ first_chunks width (length vs) (drop width (v ++ concat vs))) (front width v (concat vs) one)
    ∙ ap (λ (xs : List ℕ). v ∷ first_chunks width (length vs) xs) (behind width v (concat vs) one)
    ∙ ap (λ (xs : List (List ℕ)). v ∷ xs) (chunks-strips width vs (All-tail (HasWidth width) v vs each))

-- each piece has so many bytes, where there are enough
chunks-long : (n k : ℕ) (xs : List ℕ) → n * k ≤ length xs → All (HasWidth n) (first_chunks n k xs)
chunks-long n zero xs enough = All-nil (HasWidth n)
chunks-long n (suc k) xs enough =
    let e : n * suc k ≡ n + n * k = grind arith in
    All-cons (HasWidth n) (take n xs) (first_chunks n k (drop n xs)) (length-take-le n xs (omega arith))
    (chunks-long n k (drop n xs) (omega (arith, length-drop n xs)))

-- ---- a list of values

-- the bytes of values, divided by the bytes of one, are as many as the values
pub count_of-strips : (width : ℕ) (values : List (List ℕ)) → 0 < width → All (HasWidth width) values → length (concat values) / width ≡ length values
count_of-strips width values some each =
    ap (λ (n : ℕ). n / width) (length-strips width values each) ∙ mul-div_right (length values) some

-- what the fields hold is the value that they show
pub record Opened (width : ℕ) (bytes : List ℕ) (now : StripList) : Type 0 where
  pub width_is : width ≡ now.width
  pub holds : Holds now.width bytes now.values

-- What the fields show: the width and the values that the bytes hold.
abbrev shown : ℕ → List ℕ → StripList
shown width bytes = record { width = width; values = strips_in width bytes }

-- fields that are stored hold the value that they show
pub opened : (width : ℕ) (bytes : List ℕ) (now : StripList) → shown width bytes ≡ now → HoldsStrips width bytes → Opened width bytes now
opened width bytes now view invariant =
    let P : StripList → Type 0 = λ n. Opened width bytes n in
    subst P view (record {
      width_is = refl;
      holds = record {
        some = invariant.some;
        long = chunks-long width (length bytes / width) bytes (mul-div-le (length bytes) width);
        stored = invariant.whole;
      };
    })

-- bytes show the values that they hold
Holds-view : (width : ℕ) (bytes : List ℕ) (values : List (List ℕ)) → Holds width bytes values → strips_in width bytes ≡ values
Holds-view width bytes values h =
    ap (strips_in width) h.stored
    ∙ ap (λ (k : ℕ). first_chunks width k (concat values)) (count_of-strips width values h.some h.long)
    ∙ chunks-strips width values h.long

-- fields that hold a list show it, and keep the invariant
pub closed : (width : ℕ) (bytes : List ℕ) (now : StripList) (values : List (List ℕ)) → width ≡ now.width → Holds now.width bytes values
    → (shown width bytes ≡ record now { values = values }) × HoldsStrips width bytes
closed width bytes now values same h =
    let view = Holds-view now.width bytes values h in
    rw same (
      ap (λ (all : List (List ℕ)). record now { values = all }) view,
      record { some = h.some; whole = h.stored ∙ ap concat (sym view) },
    )

-- bytes that hold a list have the width of each value
pub Holds-length : (width : ℕ) (bytes : List ℕ) (values : List (List ℕ)) → Holds width bytes values → length bytes ≡ width * length values
Holds-length width bytes values h = ap length h.stored ∙ length-strips width values h.long

-- ---- what the code does with the bytes

-- the bytes have room for each front of the values
pub Holds-front : (width : ℕ) (bytes : List ℕ) (values : List (List ℕ)) (n : ℕ) → Holds width bytes values → n ≤ length values → width * n ≤ length bytes
Holds-front width bytes values n h within = rw (Holds-length width bytes values h) (mul-le-mul_left width within)

-- the bytes have room for the value at each place
pub Holds-room : (width : ℕ) (bytes : List ℕ) (values : List (List ℕ)) (i : ℕ) → Holds width bytes values → i < length values → width * i + width ≤ length bytes
Holds-room width bytes values i h within =
    let room = Holds-front width bytes values (i + 1) h (omega arith) in
    let e : width * (i + 1) ≡ width * i + width = grind arith in
    omega arith

-- a front of the bytes is that of the first values
pub Holds-take : (width : ℕ) (bytes : List ℕ) (values : List (List ℕ)) (n : ℕ) → Holds width bytes values → take (width * n) bytes ≡ concat (take n values)
Holds-take width bytes values n h = ap (take (width * n)) h.stored ∙ take-strips width values n h.long

-- the value that is read at a place is the list's
pub Holds-get : (width : ℕ) (bytes value : List ℕ) (values : List (List ℕ)) (i : ℕ) → Holds width bytes values → i < length values
    → value ≡ take width (drop (width * i) bytes) → slice_get values i ≡ Some value
Holds-get width bytes value values i h within read =
    let there = get_or values i [] in
    let same : value ≡ there =
    read ∙ ap (λ (all : List ℕ). take width (drop (width * i) all)) h.stored
    ∙ ap (take width) (drop-strips width values i h.long ∙ ap concat (drop_more values i [] within))
    ∙ front width there (concat (drop (i + 1) values)) (h.long i [] within) in
    slice_get-get_or values i [] within ∙ ap (λ (v : List ℕ). Some v) (sym same)

-- bytes into which a value was written hold the list with it
pub Holds-set : (width : ℕ) (bytes new value : List ℕ) (values : List (List ℕ)) (i : ℕ) → Holds width bytes values → i < length values → HasWidth width value
    → new ≡ take (width * i) bytes ++ (value ++ drop width (drop (width * i) bytes)) → Holds width new (set values i value)
Holds-set width bytes new value values i h within long is =
    let after : drop width (drop (width * i) bytes) ≡ concat (drop (suc i) values) =
    let e : width * i + width ≡ width * suc i = grind arith in
    drop-drop width (width * i) bytes ∙ ap (λ (n : ℕ). drop n bytes) e ∙ ap (drop (width * suc i)) h.stored
    ∙ drop-strips width values (suc i) h.long in
    record {
      some = h.some;
      long = All-set (HasWidth width) values i value long h.long;
      stored =
          is ∙ ap (λ (rest : List ℕ). take (width * i) bytes ++ (value ++ rest)) after
          ∙ ap (λ (start : List ℕ). start ++ (value ++ concat (drop (suc i) values))) (Holds-take width bytes values i h)
          ∙ sym (ap concat (set_split values i value within) ∙ concat-append (take i values) (value ∷ drop (suc i) values));
    }

-- the bytes of values of zeros are zeros, as many as the width asks for each
zero_strips : (width n : ℕ) → concat (replicate n (replicate width 0)) ≡ replicate (width * n) 0
zero_strips width zero = let e : width * zero ≡ 0 = omega arith in rw e refl
zero_strips width (suc n) =
    let e : width + width * n ≡ width * suc n = grind arith in
    ap (λ (rest : List ℕ). replicate width 0 ++ rest) (zero_strips width n)
    ∙ replicate-append-replicate width (width * n) 0 ∙ ap (λ (k : ℕ). replicate {A = ℕ} k 0) e

-- bytes that were filled up with zeros hold the list with values of zeros at its end
pub Holds-extended : (width : ℕ) (bytes new : List ℕ) (values : List (List ℕ)) (n size len : ℕ) → Holds width bytes values
    → size ≡ width * (length values + n) → len ≡ length bytes → new ≡ take size bytes ++ replicate (size - len) 0
    → Holds width new (values ++ replicate n (replicate width 0))
Holds-extended width bytes new values n size len h at all grown =
    let had = Holds-length width bytes values h in
    let split : size ≡ width * length values + width * n = at ∙ grind arith in
    let more : size - len ≡ width * n = omega arith in
    record {
      some = h.some;
      long = All-append (HasWidth width) values (replicate n (replicate width 0)) h.long
          (All-replicate (HasWidth width) n (replicate width 0) (length-replicate width 0));
      stored =
          grown ∙ ap (λ (start : List ℕ). start ++ replicate (size - len) 0) (take_all size bytes (omega arith) ∙ h.stored)
          ∙ ap (λ (k : ℕ). concat values ++ replicate k 0) more
          ∙ ap (λ (rest : List ℕ). concat values ++ rest) (sym (zero_strips width n))
          ∙ sym (concat-append values (replicate n (replicate width 0)));
    }

-- what the code put, at the place and with the width that the list shows
pub placed : (new slice bytes value : List ℕ) (at place long width : ℕ) → new ≡ take at slice ++ (value ++ drop long (drop at slice))
    → slice ≡ bytes → at ≡ place → long ≡ width → new ≡ take place bytes ++ (value ++ drop width (drop place bytes))
placed new slice bytes value at place long width is same there wide =
    is ∙ rw (same, there, wide) refl

-- a part of a slice that was written whole
pub put_part : (bytes new value : List ℕ) (at k long : ℕ) → k ≡ long → new ≡ value
    → put_mid at k bytes new ≡ take at bytes ++ (value ++ drop long (drop at bytes))
put_part bytes new value at k long same is = rw (same, is) refl
