-- The number of a part is the place of its name.
use Rattle.std.proofs.Common.{◌≡◌, ℕ, zero, suc, ◌+◌, ◌*◌, ◌^◌, ◌<◌, ◌≤◌, List, [], ◌∷◌, ◌++◌, Some, length, map, drop, get_or, refl, sym, ap, ◌∙◌, arith, subst}
use Rattle.std.specs.Prelude.{slice_get, option_map, unwrap_or}
use Rattle.core_parts.specs.Numbers.{AreNumbers}
use Rattle.std.specs.List.{flat_map, range_with_len}
use Rattle.std.specs.Prelude.{All}
use Rattle.std.proofs.lemmas.List.Elements.{All-head, All-tail}
use Rattle.std.proofs.lemmas.List.FromFn.{length-range_with_len}
use Rattle.cell_model.specs.declared.table.TableDecl.{TableDecl}
use Rattle.core_parts.specs.Numbers.{first_bodies, after_bodies}
use Rattle.event_spec.specs.Lawful.{HasBlock, HasTable}
use Rattle.event_spec.specs.Parts.{Shape, Name, HeadOf, ShardOf, BodyOf, TheDesk, names, below, blocks_of, tables_of}

-- what stands in the first of two lists
pub get_left : {X : Type 0} (xs ys : List X) (k : ℕ) → k < length xs → slice_get (xs ++ ys) k ≡ slice_get xs k
get_left [] ys k less = absurd (omega (arith, less))
get_left (x ∷ xs) ys zero less = refl
get_left (x ∷ xs) ys (suc k) less = get_left xs ys k (omega (arith, less))

-- what stands in the second, behind the first
pub get_right : {X : Type 0} (xs ys : List X) (k : ℕ) → slice_get (xs ++ ys) (length xs + k) ≡ slice_get ys k
get_right [] ys k = ap (slice_get ys) (let e : 0 + k ≡ k = omega arith in e)
get_right (x ∷ xs) ys k =
    ap (slice_get (x ∷ (xs ++ ys))) (let e : suc (length xs) + k ≡ suc (length xs + k) = omega arith in e) ∙ get_right xs ys k

-- Two lists joined are as long as both together.
length_join : {X : Type 0} (xs ys : List X) → length (xs ++ ys) ≡ length xs + length ys
length_join [] ys = omega arith
length_join (x ∷ xs) ys = let e = length_join xs ys in omega (arith, e)

-- There are as many images as elements.
length_each : {X Y : Type 0} (f : X → Y) (xs : List X) → length (map f xs) ≡ length xs
length_each f [] = refl
length_each f (x ∷ xs) = ap suc (length_each f xs)

-- At a place of a range's images stands that of its first number plus the place.
get_range : {X : Type 0} (f : ℕ → X) (a n k : ℕ) → k < n → slice_get (map f (range_with_len a n)) k ≡ Some (f (a + k))
get_range f a zero k less = absurd (omega (arith, less))
get_range f a (suc n) zero less = ap (λ x. Some (f x)) (let e : a ≡ a + 0 = omega arith in e)
get_range f a (suc n) (suc k) less =
    get_range f (a + 1) n k (omega (arith, less)) ∙ ap (λ x. Some (f x)) (let e : a + 1 + k ≡ a + suc k = omega arith in e)

-- ---- heads and shards

-- There are eight shards for each table.
shards_length : (a n : ℕ) → length (flat_map (λ t. map (ShardOf t) (below 8)) (range_with_len a n)) ≡ 8 * n
shards_length a zero = omega arith
shards_length a (suc n) =
    let e = shards_length (a + 1) n in
    let j = length_join (map (ShardOf a) (below 8)) (flat_map (λ t. map (ShardOf t) (below 8)) (range_with_len (a + 1) n)) in
    let l = length_each (ShardOf a) (below 8) ∙ length-range_with_len 0 8 in j ∙ (omega (arith, e, l))

-- A table's shard stands behind eight for each table before, by its own index.
get_shard : (a n t i : ℕ) → t < n → i < 8 → slice_get (flat_map (λ t. map (ShardOf t) (below 8)) (range_with_len a n)) (8 * t + i) ≡ Some (ShardOf (a + t) i)
get_shard a zero t i less small = absurd (omega (arith, less))
get_shard a (suc n) zero i less small =
    get_left (map (ShardOf a) (below 8)) (flat_map (λ t. map (ShardOf t) (below 8)) (range_with_len (a + 1) n)) (8 * 0 + i)
    (let l = length_each (ShardOf a) (below 8) ∙ length-range_with_len 0 8 in omega (arith, l, small))
    ∙ get_range (ShardOf a) 0 8 (8 * 0 + i) (omega (arith, small))
    ∙ ap (λ x. Some (ShardOf x (0 + (8 * 0 + i)))) (let e : a ≡ a + 0 = omega arith in e)
    ∙ ap (λ x. Some (ShardOf (a + 0) x)) (let e : 0 + (8 * 0 + i) ≡ i = omega arith in e)
get_shard a (suc n) (suc t) i less small =
    ap (slice_get (map (ShardOf a) (below 8) ++ flat_map (λ t. map (ShardOf t) (below 8)) (range_with_len (a + 1) n))) at
    ∙ get_right (map (ShardOf a) (below 8)) (flat_map (λ t. map (ShardOf t) (below 8)) (range_with_len (a + 1) n)) (8 * t + i)
    ∙ get_shard (a + 1) n t i (omega (arith, less)) small
    ∙ ap (λ x. Some (ShardOf x i)) (let e : a + 1 + t ≡ a + suc t = omega arith in e)
  where
    at : 8 * suc t + i ≡ length (map (ShardOf a) (below 8)) + (8 * t + i)
    at = let l = length_each (ShardOf a) (below 8) ∙ length-range_with_len 0 8 in omega (arith, l)

-- ---- bodies

-- The first of the tables has as many blocks as it declares.
first : (blocks : ℕ → ℕ) (a : ℕ) (decl : TableDecl) (tables : List TableDecl)
    → ((j : ℕ) (other : TableDecl) → slice_get (decl ∷ tables) j ≡ Some other → blocks (a + j) ≡ other.blocks) → blocks a ≡ decl.blocks
first blocks a decl tables each = ap blocks (let e : a ≡ a + 0 = omega arith in e) ∙ each 0 decl refl

-- Each table behind the first has as many blocks as it declares.
next : (blocks : ℕ → ℕ) (a : ℕ) (decl : TableDecl) (tables : List TableDecl)
    → ((j : ℕ) (other : TableDecl) → slice_get (decl ∷ tables) j ≡ Some other → blocks (a + j) ≡ other.blocks)
    → (j : ℕ) (other : TableDecl) → slice_get tables j ≡ Some other → blocks (a + 1 + j) ≡ other.blocks
next blocks a decl tables each j other is = ap blocks (let e : a + 1 + j ≡ a + suc j = omega arith in e) ∙ each (suc j) other is

-- the bodies of some tables, from number a on
bodies_length : (blocks : ℕ → ℕ) (a from : ℕ) (tables : List TableDecl)
    → ((j : ℕ) (decl : TableDecl) → slice_get tables j ≡ Some decl → blocks (a + j) ≡ decl.blocks)
    → from + length (flat_map (λ t. map (BodyOf t) (below (blocks t))) (range_with_len a (length tables))) ≡ after_bodies from tables
bodies_length blocks a from [] each = omega arith
bodies_length blocks a from (decl ∷ tables) each =
    let rest = bodies_length blocks (a + 1) (from + decl.blocks) tables (next blocks a decl tables each) in
    let here = first blocks a decl tables each in
    let j = length_join (map (BodyOf a) (below (blocks a))) (flat_map (λ t. map (BodyOf t) (below (blocks t))) (range_with_len (a + 1) (length tables))) in
    let l = length_each (BodyOf a) (below (blocks a)) ∙ length-range_with_len 0 (blocks a) in
    let e : from + length (flat_map (λ t. map (BodyOf t) (below (blocks t))) (range_with_len a (suc (length tables)))) ≡ from + decl.blocks + length (flat_map (λ t. map (BodyOf t) (below (blocks t))) (range_with_len (a + 1) (length tables))) =
    ap (λ n. from + n) j ∙ (omega (arith, l, here)) in
    e ∙ rest

-- A table's body stands behind the table's first one by the block's number.
get_body : (blocks : ℕ → ℕ) (a from : ℕ) (tables : List TableDecl) (t b start : ℕ)
    → ((j : ℕ) (decl : TableDecl) → slice_get tables j ≡ Some decl → blocks (a + j) ≡ decl.blocks)
    → slice_get (first_bodies from tables) t ≡ Some start → b < blocks (a + t)
    → (d : ℕ) × (start + b ≡ from + d) × (slice_get (flat_map (λ t. map (BodyOf t) (below (blocks t))) (range_with_len a (length tables))) d ≡ Some (BodyOf (a + t) b))
get_body blocks a from [] t b start each at less = cc
get_body blocks a from (decl ∷ tables) zero b start each at less = (
  b,
  (let e : from ≡ start = cc in omega (arith, e)),
  get_left (map (BodyOf a) (below (blocks a))) (flat_map (λ t. map (BodyOf t) (below (blocks t))) (range_with_len (a + 1) (length tables))) b
      (let l = length_each (BodyOf a) (below (blocks a)) ∙ length-range_with_len 0 (blocks a) in omega (arith, l, here))
      ∙ get_range (BodyOf a) 0 (blocks a) b here
      ∙ ap (λ x. Some (BodyOf x (0 + b))) (let e : a ≡ a + 0 = omega arith in e)
      ∙ ap (λ x. Some (BodyOf (a + 0) x)) (let e : 0 + b ≡ b = omega arith in e),
)
  where
    here : b < blocks a
    here = subst (λ x. b < blocks x) (let e : a + 0 ≡ a = omega arith in e) less
get_body blocks a from (decl ∷ tables) (suc t) b start each at less =
    let r = get_body blocks (a + 1) (from + decl.blocks) tables t b start (next blocks a decl tables each) at
    (subst (λ x. b < blocks x) (let e : a + suc t ≡ a + 1 + t = omega arith in e) less) in
    let is = r.1 in
    let here = first blocks a decl tables each in
    let l = length_each (BodyOf a) (below (blocks a)) ∙ length-range_with_len 0 (blocks a) in (
      length (map (BodyOf a) (below (blocks a))) + r.0,
      omega (arith, is, here, l),
      get_right (map (BodyOf a) (below (blocks a))) (flat_map (λ t. map (BodyOf t) (below (blocks t))) (range_with_len (a + 1) (length tables))) r.0
          ∙ r.2 ∙ ap (λ x. Some (BodyOf x b)) (let e : a + 1 + t ≡ a + suc t = omega arith in e),
    )

-- what stands there is below the length
pub got_within : {X : Type 0} (xs : List X) (k : ℕ) (x : X) → slice_get xs k ≡ Some x → k < length xs
got_within [] k x is = cc
got_within (y ∷ xs) zero x is = omega arith
got_within (y ∷ xs) (suc k) x is = let rest = got_within xs k x is in omega (arith, rest)

-- ---- all names

-- A table of the shape has as many blocks as it declares.
blocks_are : (sh : Shape) (j : ℕ) (decl : TableDecl) → slice_get sh.tables j ≡ Some decl → blocks_of sh (0 + j) ≡ decl.blocks
blocks_are sh j decl is =
    ap (λ x. blocks_of sh x) (let e : 0 + j ≡ j = omega arith in e) ∙ ap (λ o. unwrap_or (option_map (λ (d : TableDecl). d.blocks) o) 0) is

module _ (sh : Shape) where
  -- The names of the tables' heads.
  abbrev heads : List Name
  heads = map HeadOf (tables_of sh)

  -- The names of the tables' shards.
  abbrev shards : List Name
  shards = flat_map (λ t. map (ShardOf t) (below 8)) (tables_of sh)

  -- The names of the tables' bodies.
  abbrev bodies : List Name
  bodies = flat_map (λ t. map (BodyOf t) (below (blocks_of sh t))) (tables_of sh)

  -- There are as many heads as tables.
  heads_length : length heads ≡ length sh.tables
  heads_length = length_each HeadOf (tables_of sh) ∙ length-range_with_len 0 (length sh.tables)

  -- There are nine heads and shards for each table.
  front_length : length (heads ++ shards) ≡ 9 * length sh.tables
  front_length =
      let a = heads_length in let b = shards_length 0 (length sh.tables) in length_join heads shards ∙ (omega (arith, a, b))

  -- The heads, shards and bodies are as many as the number behind the last body.
  all_length : length (heads ++ shards ++ bodies) ≡ after_bodies (9 * length sh.tables) sh.tables
  all_length =
      length_join (heads ++ shards) bodies ∙ ap (λ n. n + length bodies) front_length
      ∙ bodies_length (blocks_of sh) 0 (9 * length sh.tables) sh.tables (blocks_are sh)

  -- a head's name stands at its table's number
  pub head_at_number : (t : ℕ) → HasTable sh t → slice_get (names sh) t ≡ Some (HeadOf t)
  head_at_number t has =
      let h = heads_length in let f = front_length in let j = length_join (heads ++ shards) bodies in
      let k = length_join heads shards in
      get_left (heads ++ shards ++ bodies) (TheDesk ∷ []) t (omega (arith, has, h, j, k))
      ∙ get_left (heads ++ shards) bodies t (omega (arith, has, h, k))
      ∙ get_left heads shards t (omega (arith, has, h))
      ∙ get_range HeadOf 0 (length sh.tables) t has ∙ ap (λ x. Some (HeadOf x)) (let e : 0 + t ≡ t = omega arith in e)

  -- a shard's name stands behind the heads, eight to a table
  pub shard_at_number : (t i : ℕ) → HasTable sh t → i < 8 → slice_get (names sh) (length sh.tables + (8 * t + i)) ≡ Some (ShardOf t i)
  shard_at_number t i has small =
      let h = heads_length in let f = front_length in let j = length_join (heads ++ shards) bodies in
      get_left (heads ++ shards ++ bodies) (TheDesk ∷ []) (length sh.tables + (8 * t + i)) (omega (arith, has, small, f, j))
      ∙ get_left (heads ++ shards) bodies (length sh.tables + (8 * t + i)) (omega (arith, has, small, f))
      ∙ ap (slice_get (heads ++ shards)) (let e : length sh.tables + (8 * t + i) ≡ length heads + (8 * t + i) = omega (arith, h) in e)
      ∙ get_right heads shards (8 * t + i)
      ∙ get_shard 0 (length sh.tables) t i has small ∙ ap (λ x. Some (ShardOf x i)) (let e : 0 + t ≡ t = omega arith in e)

  -- a body's name stands behind its table's first
  pub body_at_number : (t b start : ℕ) → HasBlock sh t b → slice_get (first_bodies (9 * length sh.tables) sh.tables) t ≡ Some start
      → slice_get (names sh) (start + b) ≡ Some (BodyOf t b)
  body_at_number t b start has at =
      let r = get_body (blocks_of sh) 0 (9 * length sh.tables) sh.tables t b start (blocks_are sh) at
      (subst (λ x. b < blocks_of sh x) (let e : t ≡ 0 + t = omega arith in e) has.1) in
      let is = r.1 in let f = front_length in
      let less = got_within bodies r.0 (BodyOf (0 + t) b) r.2 in
      let j = length_join (heads ++ shards) bodies in
      ap (slice_get (names sh)) (let e : start + b ≡ length (heads ++ shards) + r.0 = omega (arith, is, f) in e)
      ∙ get_left (heads ++ shards ++ bodies) (TheDesk ∷ []) (length (heads ++ shards) + r.0) (omega (arith, j, less))
      ∙ get_right (heads ++ shards) bodies r.0 ∙ r.2 ∙ ap (λ x. Some (BodyOf x b)) (let e : 0 + t ≡ t = omega arith in e)

  -- and the desk's name behind all bodies
  pub desk_at_number : slice_get (names sh) (after_bodies (9 * length sh.tables) sh.tables) ≡ Some TheDesk
  desk_at_number =
      let l = all_length in
      ap (slice_get (names sh)) (let e : after_bodies (9 * length sh.tables) sh.tables ≡ length (heads ++ shards ++ bodies) + 0 = omega (arith, l) in e)
      ∙ get_right (heads ++ shards ++ bodies) (TheDesk ∷ []) 0

  -- how many parts there are
  pub names_length : length (names sh) ≡ after_bodies (9 * length sh.tables) sh.tables + 1
  names_length = let l = all_length in length_join (heads ++ shards ++ bodies) (TheDesk ∷ []) ∙ (omega (arith, l))

-- each number is below the desk's
pub first_at : (from : ℕ) (tables : List TableDecl) (t : ℕ) → t < length tables → (start : ℕ) × (slice_get (first_bodies from tables) t ≡ Some start)
first_at from [] t less = absurd (omega (arith, less))
first_at from (decl ∷ tables) zero less = (from, refl)
first_at from (decl ∷ tables) (suc t) less = first_at (from + decl.blocks) tables t (omega (arith, less))

-- the number behind all bodies is no less than the first
pub from_below : (from : ℕ) (tables : List TableDecl) → from ≤ after_bodies from tables
from_below from [] = omega arith
from_below from (decl ∷ tables) = let r = from_below (from + decl.blocks) tables in omega (arith, r)

-- nor less than that behind one table's bodies
pub start_below : (from : ℕ) (tables : List TableDecl) (t start : ℕ) (decl : TableDecl) → slice_get tables t ≡ Some decl → slice_get (first_bodies from tables) t ≡ Some start
    → start + decl.blocks ≤ after_bodies from tables
start_below from [] t start decl at is = cc
start_below from (d ∷ tables) zero start decl at is =
    let same : d ≡ decl = cc in let e : from ≡ start = cc in let b = ap (λ (x : TableDecl). x.blocks) same in
    let r = from_below (from + d.blocks) tables in omega (arith, e, b, r)
start_below from (d ∷ tables) (suc t) start decl at is = start_below (from + d.blocks) tables t start decl at is

-- ---- counting

-- From a place on a list has the element there, and what is behind it.
drop_next : {X : Type 0} (xs : List X) (i : ℕ) (x : X) → slice_get xs i ≡ Some x → drop i xs ≡ x ∷ drop (i + 1) xs
drop_next [] i x is = cc
drop_next (y ∷ xs) zero x is = let e : y ≡ x = cc in ap (λ z. z ∷ xs) e
drop_next (y ∷ xs) (suc i) x is = drop_next xs i x is ∙ ap (λ k. x ∷ drop k (y ∷ xs)) (let e : suc (i + 1) ≡ suc i + 1 = omega arith in e)

-- From its end on a list has nothing.
drop_end : {X : Type 0} (xs : List X) (i : ℕ) → length xs ≤ i → drop i xs ≡ []
drop_end [] i le = drop_none i
  where
    drop_none : {X : Type 0} (i : ℕ) → drop {A = X} i [] ≡ []
    drop_none zero = refl
    drop_none (suc i) = refl
drop_end (y ∷ xs) zero le = absurd (omega (arith, le))
drop_end (y ∷ xs) (suc i) le = drop_end xs i (omega (arith, le))

-- An element at the end of one list may as well begin the next.
append_assoc : {X : Type 0} (xs : List X) (y : X) (ys : List X) → (xs ++ y ∷ []) ++ ys ≡ xs ++ y ∷ ys
append_assoc [] y ys = refl
append_assoc (x ∷ xs) y ys = ap (λ zs. x ∷ zs) (append_assoc xs y ys)

-- A list with nothing behind it is itself.
append_none : {X : Type 0} (xs : List X) → xs ++ [] ≡ xs
append_none [] = refl
append_none (x ∷ xs) = ap (λ zs. x ∷ zs) (append_none xs)

-- one table is counted
pub counted : (tables : List TableDecl) (bodies all : List ℕ) (next last i : ℕ) (decl : TableDecl) → slice_get tables i ≡ Some decl
    → (bodies ++ first_bodies next (drop i tables) ≡ all) × (after_bodies next (drop i tables) ≡ last)
    → ((bodies ++ next ∷ []) ++ first_bodies (next + decl.blocks) (drop (i + 1) tables) ≡ all) × (after_bodies (next + decl.blocks) (drop (i + 1) tables) ≡ last)
counted tables bodies all next last i decl is kept = (
  append_assoc bodies next (first_bodies (next + decl.blocks) (drop (i + 1) tables))
      ∙ ap (λ ts. bodies ++ first_bodies next ts) (sym (drop_next tables i decl is)) ∙ kept.0,
  ap (λ ts. after_bodies next ts) (sym (drop_next tables i decl is)) ∙ kept.1,
)

-- where all tables are counted, so are all numbers
pub counted_all : (tables : List TableDecl) (bodies all : List ℕ) (next last i : ℕ) → length tables ≤ i
    → (bodies ++ first_bodies next (drop i tables) ≡ all) × (after_bodies next (drop i tables) ≡ last) → (bodies ≡ all) × (next ≡ last)
counted_all tables bodies all next last i le kept = (
  sym (append_none bodies) ∙ ap (λ ts. bodies ++ first_bodies next ts) (sym (drop_end tables i le)) ∙ kept.0,
  ap (λ ts. after_bodies next ts) (sym (drop_end tables i le)) ∙ kept.1,
)

-- the numbers so far are below the last
pub counted_below : (tables : List TableDecl) (next last i : ℕ) (decl : TableDecl) → slice_get tables i ≡ Some decl → after_bodies next (drop i tables) ≡ last → next + decl.blocks ≤ last
counted_below tables next last i decl is kept =
    let r = from_below (next + decl.blocks) (drop (i + 1) tables) in
    let e = ap (λ ts. after_bodies next ts) (sym (drop_next tables i decl is)) ∙ kept in omega (arith, r, e)

-- ---- the numbers of a shape

module _ (sh : Shape) (bodies : List ℕ) (desk : ℕ) (are : AreNumbers sh.tables bodies desk) where
  -- heads and shards have numbers below the desk's
  pub heads_low : 9 * length sh.tables ≤ desk
  heads_low = let r = from_below (9 * length sh.tables) sh.tables in let e = are.desk_is in omega (arith, r, e)

  -- each table has a first body
  pub start_there : (t : ℕ) → HasTable sh t → (start : ℕ) × (slice_get bodies t ≡ Some start)
  start_there t has = let r = first_at (9 * length sh.tables) sh.tables t has in (r.0, ap (λ xs. slice_get xs t) are.bodies_are ∙ r.1)

  -- a body's number is that of its name, and below the desk's
  pub body_number : (t b start : ℕ) → HasBlock sh t b → slice_get bodies t ≡ Some start → (slice_get (names sh) (start + b) ≡ Some (BodyOf t b)) × (start + b < desk)
  body_number t b start has at =
      let is = ap (λ xs. slice_get xs t) (sym are.bodies_are) ∙ at in
      let d = got_there sh.tables t has.0 in
      let low = start_below (9 * length sh.tables) sh.tables t start d.0 d.1 is in
      let here = blocks_are sh t d.0 d.1 in let same : blocks_of sh (0 + t) ≡ blocks_of sh t = ap (blocks_of sh) (let e : 0 + t ≡ t = omega arith in e) in
      let less = has.1 in let last = are.desk_is in (
        body_at_number sh t b start has is,
        omega (arith, low, here, same, less, last),
      )
    where
      got_there : {X : Type 0} (xs : List X) (k : ℕ) → k < length xs → (x : X) × (slice_get xs k ≡ Some x)
      got_there [] k less = absurd (omega (arith, less))
      got_there (x ∷ xs) zero less = (x, refl)
      got_there (x ∷ xs) (suc k) less = got_there xs k (omega (arith, less))

-- what is read at a number is there
pub read_there : {X : Type 0} (xs : List X) (i : ℕ) (x : X) → i < length xs → x ≡ get_or xs i x → slice_get xs i ≡ Some x
read_there [] i x less is = absurd (omega (arith, less))
read_there (y ∷ xs) zero x less is = ap Some (sym is)
read_there (y ∷ xs) (suc i) x less is = read_there xs i x (omega (arith, less)) is

-- what stands there is what is read there
pub got_is : {X : Type 0} (xs : List X) (i : ℕ) (x d : X) → slice_get xs i ≡ Some x → slice_get xs i ≡ Some (get_or xs i d)
got_is [] i x d is = cc
got_is (y ∷ xs) zero x d is = refl
got_is (y ∷ xs) (suc i) x d is = got_is xs i x d is

-- few blocks have small numbers
pub few_bodies : (from : ℕ) (tables : List TableDecl) → All (λ (table : TableDecl). table.blocks ≤ 2 ^ 10) tables → after_bodies from tables ≤ from + 2 ^ 10 * length tables
few_bodies from [] all = omega arith
few_bodies from (decl ∷ tables) all =
    let here = All-head (λ (table : TableDecl). table.blocks ≤ 2 ^ 10) decl tables all in
    let rest = few_bodies (from + decl.blocks) tables (All-tail (λ (table : TableDecl). table.blocks ≤ 2 ^ 10) decl tables all) in omega (arith, here, rest)
