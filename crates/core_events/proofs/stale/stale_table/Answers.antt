use Rattle.std.proofs.Common.{◌≡◌, ◌+◌, ◌-◌, ◌∷◌, ℕ, List, true, false, cond, filter, map, nat_lt, None, Some, refl, sym, ap, ◌∙◌, arith}
use Rattle.std.specs.List.{range_with_len}
use Rattle.std.proofs.lemmas.Bool.Decides.{nat_tests}
use Rattle.core_events.proofs.Judging.{first_behind, first_is, from_next, table_told}
use Rattle.core_events.specs.Stale.{newest_at}
use Rattle.isolation_spec.specs.declared.read.Read.TheVariants as read
use Rattle.isolation_spec.specs.Reads.{first_stale}
use Rattle.txn_desk.specs.Marks.{is_marked, marked_tables}
use Rattle.core_events.proofs.stale.stale_table.Goals as goal
use Rattle.core_events.proofs.stale.stale_table.Goals.{else-has-via-then-has+else-snapshot-number, else-has-via-else-has}

pub loop-table-init : goal.loop-table-init
unfolding marked_tables
loop-table-init c = λ s agrees. refl

pub returns-then-snapshot-number : goal.returns-then-snapshot-number
returns-then-snapshot-number c = λ s agrees.
    let t : ℕ = c.loop-table.table in
    let rest : List ℕ = filter (is_marked c.args.tables.now) (range_with_len (t + 1) (16 - (t + 1))) in
    let more : 16 - t ≡ 16 - (t + 1) + 1 = let low = c.loop-table-test.true in omega (arith, low) in
    let later : nat_lt c.args.snapshot.number c.wrote-number.result ≡ true = let l = c.if-snapshot-number.true in grind (arith, nat_tests, l) in
    let newest : newest_at c.args.shape.now s c.args.snapshot (read.Table t) ≡ Some c.wrote-number.result =
    table_told c.args.shape.now c.args.held.now s c.args.snapshot t c.wrote-number.result c.desk-desk.result.now agrees c.desk-desk.ensures c.wrote-number.ensures
    ∙ ap (λ b. cond b (Some c.wrote-number.result) None) later in
    sym (first_is (newest_at c.args.shape.now s c.args.snapshot) (read.Table t) (map read.Table rest) c.wrote-number.result newest)
    ∙ ap (λ b. first_stale (newest_at c.args.shape.now s c.args.snapshot) (map read.Table (cond b (t ∷ rest) rest))) (sym (sym c.has.ensures ∙ c.if-has.true))
    ∙ ap (λ ks. first_stale (newest_at c.args.shape.now s c.args.snapshot) (map read.Table ks)) (sym (ap (λ n. filter (is_marked c.args.tables.now) (range_with_len t n)) more ∙ from_next (is_marked c.args.tables.now) t (16 - (t + 1))))
    ∙ c.loop-table.invariant s agrees

pub loop-table-preserved : goal.loop-table-preserved
loop-table-preserved c = λ s agrees.
    let t : ℕ = c.loop-table.table in
    let rest : List ℕ = filter (is_marked c.args.tables.now) (range_with_len (t + 1) (16 - (t + 1))) in
    let more : 16 - t ≡ 16 - (t + 1) + 1 = let low = c.loop-table-test.true in omega (arith, low) in
    let passed : first_stale (newest_at c.args.shape.now s c.args.snapshot) (map read.Table rest)
    ≡ first_stale (newest_at c.args.shape.now s c.args.snapshot) (map read.Table (cond (is_marked c.args.tables.now t) (t ∷ rest) rest)) =
    elim c.else-has.branch [
      | else-has-via-then-has+else-snapshot-number w ↦ (
          let earlier : nat_lt c.args.snapshot.number c.wrote-number.result ≡ false = (let l = w.if-snapshot-number.false in grind (arith, nat_tests, l)) in
          let newest : newest_at c.args.shape.now s c.args.snapshot (read.Table t) ≡ None =
          table_told c.args.shape.now c.args.held.now s c.args.snapshot t c.wrote-number.result c.desk-desk.result.now agrees c.desk-desk.ensures c.wrote-number.ensures
          ∙ ap (λ b. cond b (Some c.wrote-number.result) None) earlier in
          sym (first_behind (newest_at c.args.shape.now s c.args.snapshot) (read.Table t) (map read.Table rest) newest)
          ∙ ap (λ b. first_stale (newest_at c.args.shape.now s c.args.snapshot) (map read.Table (cond b (t ∷ rest) rest))) (sym (sym c.has.ensures ∙ w.if-has.true)))
      | else-has-via-else-has w ↦ ap (λ b. first_stale (newest_at c.args.shape.now s c.args.snapshot) (map read.Table (cond b (t ∷ rest) rest))) (sym (sym c.has.ensures ∙ w.if-has.false))
    ] in
    passed
    ∙ ap (λ ks. first_stale (newest_at c.args.shape.now s c.args.snapshot) (map read.Table ks)) (sym (ap (λ n. filter (is_marked c.args.tables.now) (range_with_len t n)) more ∙ from_next (is_marked c.args.tables.now) t (16 - (t + 1))))
    ∙ c.loop-table.invariant s agrees
