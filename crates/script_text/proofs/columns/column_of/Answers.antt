use Rattle.std.proofs.Common.{◌≡◌, true, false, None, arith, sym, ◌∙◌, ap}
use Rattle.std.specs.Prelude.{bytes_eq}
use Rattle.std.specs.List.{list_any}
use Rattle.workload_spec.specs.Valid.{is_name}
use Rattle.workload_spec.specs.Grammar.{before_colon, after_colon, kind_of}
use Rattle.script_text.proofs.Taken.{twice_taken, no_kind, no_room, column_read}
use Rattle.script_text.proofs.columns.column_of.Goals as goal

pub returns-in_default : goal.returns-in_default
returns-in_default c =
    let before = c.split_colon.ensures.before in
    let after = c.split_colon.ensures.after in
    let named : is_name (before_colon c.args.word.now) ≡ true = cc (c.is_name.ensures, c.if-not-is_name.false, before) in
    let own : list_any (λ column. bytes_eq column.name (before_colon c.args.word.now)) c.args.columns.now ≡ false = ap (λ name. list_any (λ column. bytes_eq column.name name) c.args.columns.now) (sym before) ∙ sym c.is_taken.ensures ∙ c.if-is_taken.false in
    let kind : kind_of c.args.extent.now.later_kinds (after_colon c.args.word.now) ≡ None = ap (kind_of c.args.extent.now.later_kinds) (sym after) ∙ sym c.kind_of.ensures ∙ c.in_default.is in
    no_kind c.args.extent.now c.args.columns.now c.args.word.now named own kind

pub returns-then-columns-extent : goal.returns-then-columns-extent
returns-then-columns-extent c =
    let before = c.split_colon.ensures.before in
    let after = c.split_colon.ensures.after in
    let named : is_name (before_colon c.args.word.now) ≡ true = cc (c.is_name.ensures, c.if-not-is_name.false, before) in
    let own : list_any (λ column. bytes_eq column.name (before_colon c.args.word.now)) c.args.columns.now ≡ false = ap (λ name. list_any (λ column. bytes_eq column.name name) c.args.columns.now) (sym before) ∙ sym c.is_taken.ensures ∙ c.if-is_taken.false in
    no_room c.args.extent.now c.args.columns.now c.args.word.now _ named own (ap (kind_of c.args.extent.now.later_kinds) (sym after) ∙ sym c.kind_of.ensures ∙ c.in-Some.is) (omega arith)

pub returns : goal.returns
returns c =
    let before = c.split_colon.ensures.before in
    let after = c.split_colon.ensures.after in
    let named : is_name (before_colon c.args.word.now) ≡ true = cc (c.is_name.ensures, c.if-not-is_name.false, before) in
    let own : list_any (λ column. bytes_eq column.name (before_colon c.args.word.now)) c.args.columns.now ≡ false = ap (λ name. list_any (λ column. bytes_eq column.name name) c.args.columns.now) (sym before) ∙ sym c.is_taken.ensures ∙ c.if-is_taken.false in
    let read = column_read c.args.extent.now c.args.columns.now c.args.word.now _ named own (ap (kind_of c.args.extent.now.later_kinds) (sym after) ∙ sym c.kind_of.ensures ∙ c.in-Some.is) (omega arith) in
    rw (c.in_ok-from_slice.ensures.bytes, before) read

pub returns-then-is_taken : goal.returns-then-is_taken
returns-then-is_taken c =
    let before = c.split_colon.ensures.before in
    let named : is_name (before_colon c.args.word.now) ≡ true = cc (c.is_name.ensures, c.if-not-is_name.false, before) in
    let taken : list_any (λ column. bytes_eq column.name (before_colon c.args.word.now)) c.args.columns.now ≡ true = ap (λ name. list_any (λ column. bytes_eq column.name name) c.args.columns.now) (sym before) ∙ sym c.is_taken.ensures ∙ c.if-is_taken.true in
    twice_taken c.args.extent.now c.args.columns.now c.args.word.now named taken
