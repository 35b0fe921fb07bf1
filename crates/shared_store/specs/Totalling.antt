-- What a total counts, what is told of it, and how many rows are looked at.
use Rattle.std.specs.Prelude.{◌≡◌, ℕ, ℤ, pos, negsuc, ◌+◌, ◌-◌, ◌*◌, ◌^◌, ◌≤◌, Bool, true, false}
use Rattle.std.specs.Prelude.{List, [], ◌∷◌, Some, All, IfOk, OnOk, Result, count_by, not, slice_get}
use Rattle.std.specs.Option.{option_map_or}
use Rattle.block_spec.specs.Slots.{Row}
use Rattle.cell_model.specs.Kinds.{values_of}
use Rattle.cell_model.specs.Rows.{Fits}
use Rattle.cell_model.specs.Values.{is_between}
use Rattle.cell_model.specs.declared.column.Column.{Column}
use Rattle.event_spec.specs.declared.own.OwnTransaction.{OwnTransaction}
use Rattle.event_spec.specs.Parts.{Shape, slots_of}
use Rattle.event_spec.specs.Replies.{CoreReply}
use Rattle.isolation_spec.specs.Contents.{numbers_between}
use Rattle.lane_filter.specs.Totals.{IsNumber, IsTotalOf, numbers_among}
use Rattle.lane_filter.specs.declared.total.Total.{Total}
use Rattle.run_spec.specs.Calls.{is_memory}
use Rattle.run_spec.specs.Occurrences.{replies_in}
use Rattle.run_spec.specs.Told.{is_shared, rows_told}
use Rattle.workload_spec.specs.Valid.{are_bounds_in}
use Rattle.workload_spec.specs.declared.command.Command.TheVariants as command
use Rattle.workload_spec.specs.declared.reply.Said.{Said}
use Rattle.shared_store.specs.Reading.{ReadsBlock}
use Rattle.shared_store.specs.Store.{Answers, IsFree, StoreView, shape_in}
use Rattle.shared_store.specs.declared.session.Session.{Session}
use Rattle.shared_store.specs.declared.totalling.Wanted.{Wanted}

-- the columns have this one of numbers, counted from 0, of which the two are
abbrev pub are_wanted : List Column → ℕ → ℤ → ℤ → Bool
are_wanted columns column low high =
    option_map_or (λ its. are_bounds_in its low high) (slice_get columns column) false

-- The column has the wanted numbers, of which the bounds are.
pub record IsWanted (columns : List Column) (wanted : Wanted) : Type 0 where
  pub its : Column
  pub column : slice_get columns wanted.column ≡ Some its
  pub numbers : numbers_among (values_of its.kind) ≡ Some wanted.numbers
  pub low : IsNumber wanted.numbers wanted.low
  pub high : IsNumber wanted.numbers wanted.high

-- a number of at most 64 bits
abbrev pub is_small : ℤ → Bool
is_small = is_between (negsuc (2 ^ 63 - 1)) (pos (2 ^ 64 - 1))

abbrev pub AreSmall : Wanted → Type 0
AreSmall wanted = (is_small wanted.low ≡ true) × (is_small wanted.high ≡ true)

-- the wanted numbers of rows
abbrev pub wanted_in : Wanted → List Row → List ℤ
wanted_in wanted rows = numbers_between wanted.column wanted.low wanted.high rows

-- It is the total of these rows, which fit columns that have the wanted numbers.
abbrev pub TotalsRows : {E : Type 0} → Wanted → List Row → Result Total E → Type 0
TotalsRows wanted rows told = IfOk told (λ total. (columns : List Column) → IsWanted columns wanted
    → All (Fits columns) rows → IsTotalOf (wanted_in wanted rows) total)

-- How many rows may be looked at where reads are told this: the slots of each block that was not
-- frozen.
abbrev pub look_cost : Shape → ℕ → List CoreReply → ℕ
look_cost shape table replies =
    slots_of shape table * count_by (λ told. not (is_shared told)) replies

-- A block was read, and with Ok the total of its rows is told. Nothing is lent behind it.
pub record TotalsBlock
    {E : Type 0} (store : StoreView) (old new : Session) (own : OwnTransaction) (table at : ℕ)
    (wanted : Wanted) (spent steps : ℕ) (result : Result Total E)
    : Type 0 where
  pub told : CoreReply
  pub reads : ReadsBlock store old new own table at told
  pub free : IsFree new
  pub granted : OnOk result (is_memory told ≡ false)
  pub total : IfOk result (IsTotalOf (wanted_in wanted (rows_told told)))
  pub few : steps ≤ spent + look_cost (shape_in store) table (told ∷ [])
  pub unlooked : reads.made ≡ [] → steps ≤ spent

-- What the session's reads were told bounds the rows that a total looked at which told this line.
pub record TotalsOnce
    (store : StoreView) (old new : Session) (table column : ℕ) (low high : ℤ) (told : Said)
    (spent steps : ℕ)
    : Type 0 where
  pub answers : Answers store old new (command.Total table column low high) told
  pub few : steps ≤ spent + look_cost (shape_in store) table (replies_in answers.made)
