-- A range tells no more rows than its table has slots.
use Rattle.std.proofs.Common.{◌≡◌, ℕ, zero, suc, ◌+◌, ◌*◌, ◌<◌, ◌≤◌, ◌^◌, ℤ, Bool, true, false, cond, ◌&&◌, ◌==◌, List, [], ◌∷◌, ◌++◌, length, None, Some, refl, ap, arith, length-append}
use mathlib.Core.Logic.{inl, inr}
use Rattle.std.specs.List.{cons_option, flat_map}
use Rattle.std.proofs.lemmas.List.FromFn.{length-range_with_len}
use Rattle.block_layout.specs.Place.{place_of}
use Rattle.block_spec.specs.Slots.{Row}
use Rattle.cell_model.specs.Values.{is_between}
use Rattle.core_laws.proofs.Events.Lists.{member_below}
use Rattle.core_laws.proofs.Events.Owners.{all_open}
use Rattle.core_laws.specs.Events.Laws.{IsStep, command_in}
use Rattle.core_laws.specs.Events.Named.{FollowsMachine}
use Rattle.event_spec.specs.declared.event.Event.TheVariants as event
use Rattle.event_spec.specs.declared.own.OwnTransaction.{OwnTransaction}
use Rattle.event_spec.specs.declared.reply.Reply.TheVariants as reply
use Rattle.event_spec.specs.Effects.{range_found}
use Rattle.event_spec.specs.Lawful.{Among, IsLawful}
use Rattle.event_spec.specs.Parts.{Parts, Shape, below, blocks_of, body_at, slots_of}
use Rattle.event_spec.specs.Replies.{reply_to, row_read, rows_read}
use Rattle.event_spec.specs.Sound.{IsShape, Sound}
use Rattle.isolation_spec.specs.Contents.{State, contents_between, contents_of}
use Rattle.isolation_spec.specs.declared.command.Answer.TheVariants as answer
use Rattle.isolation_spec.specs.Machine.{IsolationMachine, seen_rows}
use Rattle.run_spec.specs.Told.{in_key_order, rows_told}
use Rattle.run_laws.proofs.Calls.Coming.{range_answered, same_rows}
use Rattle.run_laws.proofs.Explained.Totals.{kept_few}
use Rattle.store_laws.proofs.Scans.{reads_are_the_scan, within}

-- lists of at most so many elements each are together at most as many times that
flat_few : (f : ℕ → List Row) (xs : List ℕ) (most : ℕ) → ((x : ℕ) → Among x xs → length (f x) ≤ most) → length (flat_map f xs) ≤ length xs * most
flat_few f [] most each = omega arith
flat_few f (x ∷ xs) most each =
    let here = each x (inl refl) in
    let rest = flat_few f xs most (λ y a. each y (inr a)) in
    let both : length (f x ++ flat_map f xs) ≡ length (f x) + length (flat_map f xs) = length-append (f x) (flat_map f xs) in
    let times : (1 + length xs) * most ≡ most + length xs * most = grind arith in
    omega (arith, here, rest, both, times)

-- The rows of a range are no more than those of its table.
between_few : (table : ℕ) (low high : ℤ) (rows : State) → length (contents_between table low high rows) ≤ length (contents_of table rows)
between_few table low high [] = omega arith
between_few table low high (entry ∷ rows) = go (entry.0.table == table) (is_between low high entry.0.key) (between_few table low high rows)
  where
    go : (own inside : Bool) → length (contents_between table low high rows) ≤ length (contents_of table rows)
        → length (cons_option (cond (own && inside) (Some entry.1) None) (contents_between table low high rows))
        ≤ length (cons_option (cond own (Some entry.1) None) (contents_of table rows))
    go true true less = omega (arith, less)
    go true false less = omega (arith, less)
    go false inside less = less

-- A product of two numbers below 2 ^ 32 and up to 2 ^ 15 is small.
product_small : (blocks slots : ℕ) → blocks < 2 ^ 32 → slots ≤ 2 ^ 15 → blocks * slots < 2 ^ 64
product_small blocks slots few least =
    let most : blocks * slots ≤ blocks * 2 ^ 15 = go blocks in
    omega (arith, most, few)
  where
    go : (n : ℕ) → n * slots ≤ n * 2 ^ 15
    go zero = omega arith
    go (suc n) =
        let rest = go n in
        let one : suc n * slots ≡ slots + n * slots = grind arith in
        omega (arith, rest, one, least)

module _ (shape : Shape) (parts : Parts) (own : OwnTransaction) (table : ℕ) (low high : ℤ) (at next : IsolationMachine)
    (is_shape : IsShape shape) (ok : Sound shape parts) (lawful : IsLawful shape (event.Range own table low high) parts) (follows : FollowsMachine shape parts at)
    (few : blocks_of shape table < 2 ^ 32) where
  -- All reads of the table tell no more rows than it has slots.
  all_read_few : length (flat_map (rows_read shape parts own table) (below (blocks_of shape table))) < 2 ^ 64
  all_read_few =
      let all = flat_few (rows_read shape parts own table) (below (blocks_of shape table)) (slots_of shape table) each in
      let long : length (below (blocks_of shape table)) ≡ blocks_of shape table = length-range_with_len 0 (blocks_of shape table) in
      let small = product_small (blocks_of shape table) (slots_of shape table) few (is_shape.slots table lawful.1).1 in
      let same : length (below (blocks_of shape table)) * slots_of shape table ≡ blocks_of shape table * slots_of shape table = ap (λ n. n * slots_of shape table) long in
      omega (arith, all, same, small)
    where
      each : (block : ℕ) → Among block (below (blocks_of shape table)) → length (rows_read shape parts own table block) ≤ slots_of shape table
      each block a =
          let inside = member_below 0 (blocks_of shape table) block a in
          let count = (ok.bodies table block (within shape table block (omega (arith, inside)))).slots in
          let kept = kept_few (λ slot. row_read shape parts own table (place_of block slot)) (below (length (body_at shape parts table block).slots)) in
          let long : length (below (length (body_at shape parts table block).slots)) ≡ length (body_at shape parts table block).slots = length-range_with_len 0 (length (body_at shape parts table block).slots) in
          omega (arith, count, kept, long)

  -- what a range is replied, refused or not, has few rows
  pub range_few : (refused : Bool) → IsStep (command_in (event.Range own table low high)) None at (cond refused reply.Memory (reply_to shape parts (event.Range own table low high))) next
      → length (in_key_order table (rows_told (cond refused reply.Memory (reply_to shape parts (event.Range own table low high))))) < 2 ^ 64
  range_few true step = omega arith
  range_few false step =
      let is_open = all_open shape parts ok own lawful.0 in
      let begun = follows.follows.desked.begun own.session own.snapshot is_open.counted is_open.is_open in
      let answered = range_answered at next own.session table low high begun.0 begun.1 (answer.Rows (in_key_order table (range_found shape parts own table low high))) step in
      let rows = same_rows (contents_between table low high (seen_rows at begun.0)) (in_key_order table (range_found shape parts own table low high)) answered.0 in
      let same = ap (λ (rows : List Row). length rows) rows in
      let scan = reads_are_the_scan shape parts own table at begun.0 is_shape ok lawful.0 follows begun.1 in
      let count = scan.count in
      let between = between_few table low high (seen_rows at begun.0) in
      let all = all_read_few in
      omega (arith, same, count, between, all)
