-- Blocks whose totals are added up one after another, and the total that they make.
use Rattle.std.proofs.Common.{◌≡◌, ℕ, ◌+◌, ◌*◌, ◌^◌, ◌<◌, ◌≤◌, false, not, List, [], ◌∷◌, ◌++◌, Some, Result, Ok, Err, fold, length, length-append, ℤ, pos, ◌+ℤ◌, refl, sym, ap, subst, ◌∙◌, arith}
use mathlib.Core.Logic.{inl, inr}
use native.Mathlib.Nat.{mul-add}
use Rattle.std.specs.Prelude.{IfOk, IsErr, count_by}
use Rattle.std.specs.Int.RustNames.{FitsSigned}
use Rattle.std.specs.declared.alloc.AllocError.{AllocError}
use mir.Syntax.{w128}
use Rattle.std.proofs.lemmas.Int.{ints}
use Rattle.std.proofs.lemmas.List.{map-append}
use Rattle.std.proofs.lemmas.List.Elements.{filter_map-append}
use Rattle.std.proofs.lemmas.List.Sums.{fold-append}
use Rattle.block_spec.specs.Slots.{Row}
use Rattle.event_spec.specs.Parts.{Parts, Shape, blocks_of, slots_of}
use Rattle.event_spec.specs.Replies.{CoreReply}
use Rattle.event_spec.specs.declared.own.OwnTransaction.{OwnTransaction}
use Rattle.isolation_spec.specs.Contents.{contents_of, sum_of}
use Rattle.lane_filter.specs.Totals.{IsTotalOf}
use Rattle.lane_filter.specs.declared.total.Total.{Total}
use Rattle.run_spec.specs.Calls.{is_memory}
use Rattle.run_spec.specs.Occurrences.{Occurrence, replies_in}
use Rattle.run_spec.specs.Told.{in_key_order, is_shared, rows_told, total_told}
use Rattle.store_laws.proofs.Permuted.{ordered_rows_are_the_rows}
use Rattle.store_laws.proofs.Totals.{totals_go_by_the_rows}
use Rattle.store_laws.specs.Machines.{rows_seen}
use Rattle.workload_spec.specs.declared.command.Command.TheVariants as command
use Rattle.workload_spec.specs.declared.reply.Said.{Said}
use Rattle.workload_spec.specs.declared.reply.Said.TheVariants as said
use Rattle.shared_store.specs.Open.{FindsTotal}
use Rattle.event_spec.specs.declared.reply.Reply.TheVariants as reply
use Rattle.shared_store.specs.Reading.{IsReadOf, ReadsBlock, most_seen, reply_of}
use Rattle.shared_store.specs.declared.reading.SeenBlock.{SeenBlock}
use Rattle.shared_store.specs.declared.reading.SeenBlock.TheVariants as block
use Rattle.shared_store.specs.Scanning.{Scans}
use Rattle.shared_store.specs.Store.{IsSession, KeepsLend, StoreView, own_of, shape_in, swept, view_of}
use Rattle.shared_store.specs.Told.{totalled_told}
use Rattle.shared_store.specs.Totalling.{AreSmall, TotalsOnce, look_cost, wanted_in}
use Rattle.shared_store.specs.declared.session.Session.{Session}
use Rattle.shared_store.specs.declared.totalling.Wanted.{Wanted}
use Rattle.shared_store.proofs.Counted.{count_more, sum_steps}
use Rattle.shared_store.proofs.Scanned.{Sweeps, one_read, read_at, scan_begins, scan_goes_on, sweep_unlent, sweep_unread_one, sweep_whole}
use Rattle.shared_store.proofs.Stays.{scan_finds, scan_once, scan_unread_finds}
use Rattle.shared_store.proofs.Sums.{sum_fits}

-- the command of a total asks for the reads of all blocks
pub total_sweeps : (store : StoreView) (own : OwnTransaction) (t column : ℕ) (low high : ℤ) → Sweeps store own t (command.Total t column low high)
total_sweeps store own t column low high = record { asks = λ reads q made. refl; granted = refl; unread = λ reads. refl; may = refl }

-- ---- sums

-- A sum begun at a sum is both together.
fold_from : (a b : ℤ) (ns : List ℤ) → fold ◌+ℤ◌ (a +ℤ b) ns ≡ a +ℤ fold ◌+ℤ◌ b ns
fold_from a b [] = refl
fold_from a b (n ∷ ns) = let one : (a +ℤ b) +ℤ n ≡ a +ℤ (b +ℤ n) = omega (arith, ints) in ap (λ x. fold ◌+ℤ◌ x ns) one ∙ fold_from a (b +ℤ n) ns

sum_both : (ns ms : List ℤ) → sum_of (ns ++ ms) ≡ sum_of ns +ℤ sum_of ms
sum_both ns ms =
    fold-append ◌+ℤ◌ (pos 0) ns ms
    ∙ (let same : sum_of ns ≡ sum_of ns +ℤ pos 0 = omega (arith, ints) in ap (λ x. fold ◌+ℤ◌ x ms) same)
    ∙ fold_from (sum_of ns) (pos 0) ms

-- the wanted numbers of rows behind rows
wanted_both : (wanted : Wanted) (rows more : List Row) → wanted_in wanted (rows ++ more) ≡ wanted_in wanted rows ++ wanted_in wanted more
wanted_both wanted rows more = filter_map-append _ rows more

-- ---- one block

-- Where nothing was granted nothing is told.
pub told_total : {E : Type 0} (P : Total → Type 0) (result : Result Total E) → IsErr result → IfOk result P
told_total P (Ok total) err = absurd (let never : ⊥ = cc err in never)
told_total P (Err memory) err = tt

-- A read for which there was no memory looked at the slots at most.
pub unlooked_cost : (sh : Shape) (t : ℕ) (spent steps : ℕ) → steps ≤ spent + slots_of sh t → steps ≤ spent + look_cost sh t (reply.Memory ∷ [])
unlooked_cost sh t spent steps first =
    let once : slots_of sh t * 1 ≡ slots_of sh t = omega arith in
    omega (arith, first, once)

-- A read of a block that is not frozen looked at its slots, and one of a frozen block at none.
pub looks_cost : (E : Type 0) (sh : Shape) (t : ℕ) (read : SeenBlock) (spent steps : ℕ) → steps ≤ spent + most_seen {E = E} sh t (Ok read) → steps ≤ spent + look_cost sh t (reply_of {E = E} (Ok read) ∷ [])
looks_cost E sh t (block.Rows rows) spent steps first =
    let once : slots_of sh t * 1 ≡ slots_of sh t = omega arith in
    omega (arith, first, once)
looks_cost E sh t (block.Lent lend) spent steps first = omega (arith, first)

-- ---- blocks

-- So many blocks of the table were read, their wanted numbers counted and summed, and no more rows
-- looked at than that costs.
pub record TotalsBy
    (store : StoreView) (old new : Session) (own : OwnTransaction) (table blocks : ℕ) (wanted : Wanted) (count : ℕ) (sum : ℤ) (spent steps : ℕ)
    : Type 0 where
  pub read : List Row
  pub scans : Scans store old new own table blocks read
  pub counted : count ≡ length (wanted_in wanted read)
  pub summed : sum ≡ sum_of (wanted_in wanted read)
  pub many : length read ≤ blocks * 2 ^ 15
  pub few : steps ≤ spent + look_cost (shape_in store) table (replies_in scans.made)

module _ (store : StoreView) (own : OwnTransaction) (t : ℕ) (wanted : Wanted) where
  -- before the first block
  pub totals_begin : (s : Session) (spent : ℕ) → IsSession store s → TotalsBy store s s own t 0 wanted 0 (pos 0) spent spent
  totals_begin s spent is = record {
    read = [];
    scans = scan_begins store own t s is;
    counted = refl;
    summed = refl;
    many = omega arith;
    few = omega arith;
  }

  -- the blocks before and one more have no more rows than so many blocks
  rows_few : (rows more : List Row) (k : ℕ) → length rows ≤ k * 2 ^ 15 → length more ≤ 2 ^ 15 → length (rows ++ more) ≤ (k + 1) * 2 ^ 15
  rows_few rows more k few less = let both = length-append rows more in omega (arith, few, less, both)

  -- Counts and sums of both have as many bits as there are for them.
  pub room_for : (old mid : Session) (k count : ℕ) (sum : ℤ) (spent steps : ℕ) (more : List Row) (total : Total) → AreSmall wanted → k < 2 ^ 32
      → (s : TotalsBy store old mid own t k wanted count sum spent steps) → length more ≤ 2 ^ 15 → IsTotalOf (wanted_in wanted more) total
      → (count + total.count ≤ 2 ^ 47) × FitsSigned w128 (sum +ℤ total.sum)
  room_for old mid k count sum spent steps more total small lt s few is =
      let rows = rows_few s.read more k s.many few in
      let fits = sum_fits wanted.column wanted.low wanted.high small (s.read ++ more) (omega (arith, rows, lt)) in
      let both = wanted_both wanted s.read more in (
        (let long = ap (λ (ns : List ℤ). length ns) both ∙ length-append (wanted_in wanted s.read) (wanted_in wanted more) in
            let bound = fits.0 in
            let one = s.counted in
            let other = is.count in
            omega (arith, long, bound, one, other)),
        subst (FitsSigned w128) (ap sum_of both ∙ sum_both (wanted_in wanted s.read) (wanted_in wanted more) ∙ ap (λ x. x +ℤ sum_of (wanted_in wanted more)) (sym s.summed)
            ∙ ap (λ y. sum +ℤ y) (sym is.sum)) fits.1,
      )

  module _ (old mid new : Session) (k count : ℕ) (sum : ℤ) (told : CoreReply) (spent steps later : ℕ)
      (s : TotalsBy store old mid own t k wanted count sum spent steps) (r : ReadsBlock store mid new own t k told) (keeps : KeepsLend (view_of mid) (view_of new)) (lt : k < blocks_of (shape_in store) t)
      (few : later ≤ steps + look_cost (shape_in store) t (told ∷ [])) where
    -- one more reply adds its cost
    few_further : (parts : Parts) → later ≤ spent + look_cost (shape_in store) t (replies_in (s.scans.made ++ read_at old own t k parts told ∷ []))
    few_further parts =
        let cost : look_cost (shape_in store) t (replies_in s.scans.made ++ told ∷ []) ≡ look_cost (shape_in store) t (replies_in s.scans.made) + look_cost (shape_in store) t (told ∷ []) =
        ap (λ n. slots_of (shape_in store) t * n) (count_more (λ told. not (is_shared told)) (replies_in s.scans.made) (told ∷ []))
        ∙ mul-add (slots_of (shape_in store) t) (count_by (λ told. not (is_shared told)) (replies_in s.scans.made)) (count_by (λ told. not (is_shared told)) (told ∷ [])) in
        subst (λ (replies : List CoreReply). later ≤ spent + look_cost (shape_in store) t replies)
        (sym (map-append (λ (o : Occurrence). o.reply) s.scans.made (read_at old own t k parts told ∷ [])))
        (subst (λ n. later ≤ spent + n) (sym cost)
        (sum_steps spent (look_cost (shape_in store) t (replies_in s.scans.made)) (look_cost (shape_in store) t (told ∷ [])) steps later s.few few))

    -- one block more was read
    pub totals_go_on : (total : Total) → is_memory told ≡ false → slots_of (shape_in store) t ≤ 2 ^ 15 → IsTotalOf (wanted_in wanted (rows_told told)) total
        → TotalsBy store old new own t (k + 1) wanted (count + total.count) (sum +ℤ total.sum) spent later
    unfolding scan_goes_on
    totals_go_on total granted slots is =
        let both = wanted_both wanted s.read (rows_told told) in
        record {
          read = s.read ++ rows_told told;
          scans = scan_goes_on store own t old mid new k s.read (s.read ++ rows_told told) told s.scans r keeps lt granted refl;
          counted = (let one = s.counted in let other = is.count in
              let long = ap (λ (ns : List ℤ). length ns) both ∙ length-append (wanted_in wanted s.read) (wanted_in wanted (rows_told told)) in
              omega (arith, one, other, long));
          summed = ap (λ x. x +ℤ total.sum) s.summed ∙ ap (λ y. sum_of (wanted_in wanted s.read) +ℤ y) is.sum
              ∙ sym (sum_both (wanted_in wanted s.read) (wanted_in wanted (rows_told told))) ∙ sym (ap sum_of both);
          many = rows_few s.read (rows_told told) k s.many (let rows = r.few in omega (arith, rows, slots));
          few = few_further (one_read mid.session own t k told r.made r.is_read granted).0;
        }

    -- one block more was read, and there was no memory for it
    pub totals_break : (column : ℕ) (low high : ℤ) (is : IsSession store old) → own_of old ≡ Some own → (r.made ≡ [] → later ≤ steps) → TotalsOnce store old new t column low high said.Memory spent later
    totals_break column low high is open' unlooked = go r.is_read
      where
        go : IsReadOf mid.session own t k told r.made → TotalsOnce store old new t column low high said.Memory spent later
        go (inl one) =
            let a = sweep_unread_one store own t old is open' (command.Total t column low high) (total_sweeps store own t column low high) mid new k s.read told lt s.scans r keeps one.0 one.1 in
            record { answers = a.0; few = subst (λ (made : List Occurrence). later ≤ spent + look_cost (shape_in store) t (replies_in made)) (sym a.1) (few_further one.0) }
        go (inr none') =
            let a = sweep_unlent store own t old is open' (command.Total t column low high) (total_sweeps store own t column low high) mid new k s.read told lt s.scans r keeps none'.1 in
            let first = s.few in
            let then = unlooked none'.1 in
            record {
              answers = a.0;
              few = subst (λ (made : List Occurrence). later ≤ spent + look_cost (shape_in store) t (replies_in made)) (sym a.1) (omega (arith, first, then));
            }

    -- of a total that is not told nothing is found, and what is open stays so
    pub totals_unread : {E : Type 0} (column : ℕ) (low high : ℤ) (found : Result Total E) → IsErr found → FindsTotal store old new t column low high found
    totals_unread column low high (Ok total) err = absurd (let never : ⊥ = cc err in never)
    totals_unread {E = E} column low high (Err memory) err = λ commits writes o. record {
      is_open = (scan_unread_finds {E = E} store old mid new own t k s.read told (Err memory) s.scans r refl commits writes o).is_open;
      total = tt;
    }

  -- ---- behind the last block

  module _ (old new : Session) (count : ℕ) (sum : ℤ) (spent steps : ℕ) (is : IsSession store old) (open' : own_of old ≡ Some own)
      (s : TotalsBy store old new own t (blocks_of (shape_in store) t) wanted count sum spent steps) where
    -- the line is that of all numbers
    pub line_is : said.Totalled count sum ≡ total_told (wanted_in wanted s.read)
    line_is = ap (λ c. said.Totalled c sum) s.counted ∙ ap (said.Totalled (length (wanted_in wanted s.read))) s.summed

    pub totals_end : TotalsOnce store old (swept t new) t wanted.column wanted.low wanted.high (said.Totalled count sum) spent steps
    totals_end =
        let a = sweep_whole store own t old is open' (command.Total t wanted.column wanted.low wanted.high) (total_sweeps store own t wanted.column wanted.low wanted.high) new s.read s.scans (said.Totalled count sum) refl
        (ap (λ (line : Said). Some line) (line_is ∙ ap (λ (rows : List Row). total_told (wanted_in wanted rows)) s.scans.rows)) in
        record { answers = a.0; few = subst (λ (made : List Occurrence). steps ≤ spent + look_cost (shape_in store) t (replies_in made)) (sym a.1) s.few }

    -- the numbers are those that the transaction sees
    pub totals_find : FindsTotal {E = AllocError} store old (swept t new) t wanted.column wanted.low wanted.high (Ok (record { count = count; sum = sum }))
    totals_find commits writes o =
        let found = scan_finds {E = AllocError} store old new own t s.read (Ok (in_key_order t s.read)) is open' s.scans refl commits writes o in
        let once = scan_once store old new own t s.read is open' s.scans in
        let same = line_is
        ∙ totals_go_by_the_rows wanted.column wanted.low wanted.high s.read (in_key_order t s.read) (ordered_rows_are_the_rows t s.read once)
        ∙ ap (λ (rows : List Row). total_told (wanted_in wanted rows)) found.rows in
        record {
          is_open = record { busy = found.is_open.busy; has = found.is_open.has };
          total = parts (wanted_in wanted (contents_of t (rows_seen commits writes))) same;
        }
      where
        parts : (numbers : List ℤ) → said.Totalled count sum ≡ total_told numbers → IsTotalOf numbers (record { count = count; sum = sum })
        parts numbers same = record { count = (let e : count ≡ length numbers = cc same in e); sum = (let e : sum ≡ sum_of numbers = cc same in e) }

-- a total that is not told is told as want of memory
pub untotalled : {E : Type 0} (r : Result Total E) → IsErr r → totalled_told r ≡ said.Memory
untotalled (Ok v) is = absurd (let never : ⊥ = cc is in never)
untotalled (Err e) is = refl

-- a total of what is wanted is one of that column between those two
pub once_as : (store : StoreView) (old new : Session) (t c column : ℕ) (x y low high : ℤ) (line : Said) (spent steps : ℕ) → c ≡ column → x ≡ low → y ≡ high
    → TotalsOnce store old new t c x y line spent steps → TotalsOnce store old new t column low high line spent steps
once_as store old new t c column x y low high line spent steps a b e once =
    subst (λ h. TotalsOnce store old new t column low h line spent steps) e
    (subst (λ l. TotalsOnce store old new t column l y line spent steps) b
    (subst (λ k. TotalsOnce store old new t k x y line spent steps) a once))

pub finds_as : {E : Type 0} (store : StoreView) (old new : Session) (t c column : ℕ) (x y low high : ℤ) (found : Result Total E) → c ≡ column → x ≡ low → y ≡ high
    → FindsTotal store old new t c x y found → FindsTotal store old new t column low high found
finds_as store old new t c column x y low high found a b e finds =
    subst (λ h. FindsTotal store old new t column low h found) e
    (subst (λ l. FindsTotal store old new t column l y found) b
    (subst (λ k. FindsTotal store old new t k x y found) a finds))
