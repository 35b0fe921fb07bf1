-- What a range tells: no two rows of one key.
use Rattle.std.proofs.Common.{◌≡◌, ◌≢◌, ℕ, zero, suc, ◌<◌, ℤ, List, [], ◌∷◌, None, Some, Option, length, get_or, refl, sym, ◌∙◌, arith}
use mathlib.Core.Logic.{inl, inr}
use Rattle.std.specs.Prelude.{AllPairs}
use Rattle.std.specs.List.{cons_option, filter_map}
use Rattle.block_spec.specs.Slots.{Row}
use Rattle.core_laws.proofs.Events.Lists.{kept_member}
use Rattle.core_laws.proofs.Events.Owners.{all_open}
use Rattle.core_laws.proofs.Snapshots.RangeKeys.{ranges_find_each_once}
use Rattle.core_laws.specs.Events.Named.{FollowsMachine}
use Rattle.event_spec.specs.declared.own.OwnTransaction.{OwnTransaction}
use Rattle.event_spec.specs.Effects.{found, range_found, range_keys}
use Rattle.event_spec.specs.Judged.{own_key}
use Rattle.event_spec.specs.Lawful.{Among, OwnsAll}
use Rattle.event_spec.specs.Parts.{Parts, Shape}
use Rattle.event_spec.specs.Sound.{Sound}
use Rattle.isolation_spec.specs.Contents.{key_of}
use Rattle.isolation_spec.specs.Machine.{IsolationMachine, Transaction, transaction_of}
use Rattle.store_laws.proofs.Machines.{follows_whole}
use Rattle.store_laws.proofs.Maps.{Fresh, put_count}
use Rattle.store_laws.proofs.Stamps.{holds_after}
use Rattle.store_laws.specs.Machines.{machine_after}
use Rattle.store_laws.specs.Own.{parts_after}
use Rattle.store_laws.specs.Reads.{RangesTellEachOnce}
use Rattle.store_laws.specs.Scans.{HaveOwnKeys}

-- A session that has something open has a transaction of the machine.
pub opened_by : (sh : Shape) (s : Parts) (own : OwnTransaction) (m : IsolationMachine) → Sound sh s → FollowsMachine sh s m → OwnsAll sh own s
    → (open' : Transaction) × (transaction_of own.session m ≡ Some open')
opened_by sh s own m ok f owns =
    let has = all_open sh s ok own owns in
    let o = f.follows.desked.begun own.session own.snapshot has.counted has.is_open in
    (o.0, o.1)

-- what is among a list stands at a number
at_number : {X : Type 0} (xs : List X) (z : X) → Among z xs → (k : ℕ) × (k < length xs) × ((d : X) → get_or xs k d ≡ z)
at_number [] z among = absurd among
at_number (x ∷ xs) z (inl is) = (zero, omega arith, λ d. sym is)
at_number (x ∷ xs) z (inr among) = let r = at_number xs z among in (suc r.0, let l = r.1 in omega (arith, l), r.2)

-- of elements that are apart the first is none of the others
first_apart : {X : Type 0} (x : X) (xs : List X) → AllPairs (λ one other. one ≢ other) (x ∷ xs) → (z : X) → Among z xs → x ≢ z
first_apart x xs apart z among =
    let at = at_number xs z among in
    let less = at.1 in
    λ is. apart zero (suc at.0) x (omega arith) (omega (arith, less)) (is ∙ sym (at.2 x))

rest_apart : {X : Type 0} (x : X) (xs : List X) → AllPairs (λ one other. one ≢ other) (x ∷ xs) → AllPairs (λ one other. one ≢ other) xs
rest_apart x xs apart i j d before less = apart (suc i) (suc j) d (omega (arith, before)) (omega (arith, less))

-- Rows that are found at keys which are apart, each with its key, have different keys.
fresh_found : (t : ℕ) (at : ℤ → Option Row) → ((key : ℤ) (row : Row) → at key ≡ Some row → key_of row ≡ key)
    → (keys : List ℤ) → AllPairs (λ one other. one ≢ other) keys → Fresh t (filter_map at keys)
fresh_found t at keyed [] apart = tt
fresh_found t at keyed (key ∷ keys) apart = go (at key) refl (fresh_found t at keyed keys (rest_apart key keys apart))
  where
    go : (o : Option Row) → at key ≡ o → Fresh t (filter_map at keys) → Fresh t (cons_option o (filter_map at keys))
    go None is rest = rest
    go (Some row) is rest = (
      λ other among same. let k = kept_member at keys other among in
          first_apart key keys apart k.0 k.1 (sym (keyed key row is) ∙ same ∙ keyed k.0 other k.2),
      rest,
    )

-- Rows of different keys have keys of their own.
fresh_once : (t : ℕ) (rows : List Row) → Fresh t rows → HaveOwnKeys t rows
fresh_once t rows fresh = let count = put_count t rows [] fresh (λ row among. refl) in omega (arith, count)

pub ranges_tell_each_once : RangesTellEachOnce
ranges_tell_each_once sh log own t low high shape lawful owns =
    let f = follows_whole sh log shape lawful in
    let o = opened_by sh (parts_after sh log) own (machine_after sh log) f.0 f.1 owns in
    let each = ranges_find_each_once sh (parts_after sh log) own t low high (machine_after sh log) o.0 shape f.0 (holds_after sh log shape lawful).shards owns f.1 o.1 in
    fresh_once t (range_found sh (parts_after sh log) own t low high)
    (fresh_found t (λ key. found sh (parts_after sh log) (own_key t key own) t key) each.keyed (range_keys sh (parts_after sh log) t low high) each.once)
