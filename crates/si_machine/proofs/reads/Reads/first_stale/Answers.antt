use Rattle.std.proofs.Common.{◌≡◌, ◌∙◌, ◌++◌, ℕ, List, map, Option, ap, sym}
use Rattle.std.specs.Option.{option_or}
use Rattle.isolation_spec.specs.Reads.{ReadSet, first_stale, last_meeting, reads_in}
use Rattle.isolation_spec.specs.declared.place.Place.{Place}
use Rattle.isolation_spec.specs.declared.read.KeyRange.{KeyRange}
use Rattle.isolation_spec.specs.declared.read.Read.{Read}
use Rattle.isolation_spec.specs.declared.read.Read.TheVariants as read
use Rattle.si_machine.specs.Kept.{history_in}
use Rattle.si_machine.proofs.Meetings.{stale-append}
use Rattle.si_machine.proofs.reads.Reads.first_stale.Goals as goal

-- The first stale read of a read set is that of its keys, else of its tables, else of its ranges.
parts : (last_of : Read → Option ℕ) (set : ReadSet)
    → first_stale last_of (reads_in set)
    ≡ option_or
    (option_or (first_stale last_of (map (λ (place : Place). read.Key place.table place.key) set.places)) (first_stale last_of (map read.Table set.tables)))
    (first_stale last_of (map (λ (range : KeyRange). read.Range range.table range.low range.high) set.ranges))
parts last_of set =
    let keys = map (λ (place : Place). read.Key place.table place.key) set.places in
    let tables = map read.Table set.tables in
    let ranges = map (λ (range : KeyRange). read.Range range.table range.low range.high) set.ranges in
    stale-append last_of (keys ++ tables) ranges ∙ ap (λ (o : Option (Read × ℕ)). option_or o (first_stale last_of ranges)) (stale-append last_of keys tables)

-- by the three answers
by_parts : (last_of : Read → Option ℕ) (set now : ReadSet) (k t r : Option (Read × ℕ)) → set ≡ now
    → k ≡ first_stale last_of (map (λ (place : Place). read.Key place.table place.key) set.places)
    → t ≡ first_stale last_of (map read.Table set.tables)
    → r ≡ first_stale last_of (map (λ (range : KeyRange). read.Range range.table range.low range.high) set.ranges)
    → option_or (option_or k t) r ≡ first_stale last_of (reads_in now)
by_parts last_of set now k t r same is_k is_t is_r =
    ap (λ (o : Option (Read × ℕ)). option_or (option_or o t) r) is_k
    ∙ ap (λ (o : Option (Read × ℕ)). option_or (option_or (first_stale last_of (map (λ (place : Place). read.Key place.table place.key) set.places)) o) r) is_t
    ∙ ap (option_or (option_or (first_stale last_of (map (λ (place : Place). read.Key place.table place.key) set.places)) (first_stale last_of (map read.Table set.tables)))) is_r
    ∙ sym (parts last_of set)
    ∙ ap (λ (s : ReadSet). first_stale last_of (reads_in s)) same

pub returns : goal.returns
returns c =
    let inside = c.self.inside in
    let set : ReadSet = record { places = inside.places.keys; tables = inside.tables.keys; ranges = inside.ranges.items } in
    let last_of = last_meeting (history_in c.args.commits.now) c.args.snapshot in
    c.or-2.ensures
    ∙ ap (λ (o : Option (Read × ℕ)). option_or o c.stale_range.result) c.or.ensures
    ∙ by_parts last_of set c.args.self.now c.stale_key.result c.stale_table.result c.stale_range.result c.self.view_is c.stale_key.ensures c.stale_table.ensures
    (c.stale_range.ensures ∙ ap (λ (rs : List KeyRange). first_stale last_of (map (λ (range : KeyRange). read.Range range.table range.low range.high) rs)) c.deref.ensures.value)
