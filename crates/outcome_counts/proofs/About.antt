-- Counts about the reply that is judged, as the definitions count.
use Rattle.std.proofs.Common.{◌≡◌, ℕ, Bool, true, false, List, length, refl, sym, ap, ◌∙◌, subst, arith}
use Rattle.std.specs.List.{count_by}
use Rattle.std.specs.Option.{option_map_or}
use Rattle.std.specs.Ordering.{nat_cmp}
use Rattle.std.specs.Prelude.{slice_index_or, is_some, ◌==◌, ◌&&◌, nat_lt, if◌then◌else◌, None, Some}
use Rattle.std.proofs.lemmas.List.{length-map, get_or_default, take_all}
use Rattle.std.proofs.lemmas.Bool.{and_right}
use Rattle.workload_spec.specs.declared.command.Command.{Command}
use Rattle.workload_spec.specs.declared.command.Command.TheVariants as command
use Rattle.workload_spec.specs.declared.reply.Said.{Said}
use Rattle.outcome_spec.specs.Entries.{Entry, before, not_after, is_accepted}
use Rattle.outcome_spec.specs.Upkeep.{stamp_in, rows_in, stamp_count, seals_in, freezes_in, inserts_in, is_accepted_insert, inserted_table}
use Rattle.mark_index.specs.Marks.{AreCounted}
use Rattle.mark_index.proofs.Noted.{count-all}
use Rattle.output_read.specs.Kept.{entries_of, entry_of}
use Rattle.output_read.specs.declared.kept.KeptReply.{KeptReply}
use Rattle.outcome_counts.specs.Asked.{IsAsked, asked_at, count_before, count_not_after}
use Rattle.outcome_counts.specs.BlockMarks.{is_insert_into, is_seal_of, is_stamp_of, is_freeze_of}
use Rattle.outcome_counts.specs.Keys.{is_keyed}
use Rattle.outcome_counts.specs.Stretch.{stretch_of}
use Rattle.outcome_counts.specs.declared.keys.Block.{Block}
use Rattle.outcome_counts.specs.declared.keys.Stamp.{Stamp}
use Rattle.outcome_counts.specs.declared.stretch.Stretch.{Stretch}
use Rattle.outcome_counts.proofs.Counts.{counted-before, counted-not-after, count-agree, count-shown, length-shown}
use Rattle.outcome_counts.proofs.Keyed.{seal-told, freeze-told, stamp-said, nat-same}
use Rattle.outcome_counts.proofs.Starts.{KeptAt, kept-at}

-- all of them
pub counted-all : (test : Entry → Bool) (replies : List KeptReply) (places : List ℕ) → AreCounted test (entries_of replies) (length replies) places → length places ≡ count_by test (entries_of replies)
counted-all test replies places counted =
    let long = length-map replies entry_of in
    sym (count-all (λ place. nat_lt place (length replies)) places counted.within) ∙ counted.count (length replies) (omega arith)
    ∙ ap (count_by test) (take_all (length replies) (entries_of replies) (omega (arith, long)))

module _ (test : Entry → Bool) (replies : List KeptReply) (at : ℕ) (stretch : Stretch) (asked : IsAsked replies at stretch)
    (places : List ℕ) (counted : AreCounted test (entries_of replies) (length replies) places) where
  -- The replies as they are judged.
  abbrev es : List Entry
  es = entries_of replies

  -- The replies to judge are as many as the kept ones.
  long : length es ≡ length replies
  long = length-map replies entry_of

  -- The places count the elements that pass among all replies.
  whole-counted : AreCounted test es (length es) places
  whole-counted = subst (λ (n : ℕ). AreCounted test es n places) (sym long) counted

  module _ (none : KeptReply) where
    its : KeptAt replies at (slice_index_or replies at none)
    its = kept-at replies at (slice_index_or replies at none) asked.inside (get_or_default replies at none (slice_index_or replies at none) asked.inside)

    -- the places before the reply that is judged are as many as pass the test before it
    pub about-before : count_before places at stretch ≡ count_by test (before es (asked_at replies at none))
    about-before =
        ap (count_before places at) (asked.places none)
        ∙ ap (λ (n : ℕ). count_before places n (stretch_of es (asked_at replies at none))) (sym its.far)
        ∙ counted-before test es its.front (asked_at replies at none) its.rest its.whole asked.rises places whole-counted

    -- the places not after it are as many as pass the test not after it
    pub about-not-after : count_not_after places at stretch ≡ count_by test (not_after es (asked_at replies at none))
    about-not-after =
        ap (count_not_after places at) (asked.places none)
        ∙ ap (λ (n : ℕ). count_not_after places n (stretch_of es (asked_at replies at none))) (sym its.far)
        ∙ counted-not-after test es its.front (asked_at replies at none) its.rest its.whole asked.rises places whole-counted

-- ---- what the definitions count

-- the seals of a block are counted as the definitions count them
pub seals-counted : (block : Block) (entries : List Entry) → seals_in block.table block.block entries ≡ count_by (is_seal_of block) entries
seals-counted block entries =
    length-shown (λ (e : Entry). stamp_in block.table block.block e.reply.said) entries
    ∙ count-agree (λ e. is_some (stamp_in block.table block.block e.reply.said)) (is_seal_of block) (λ e. seal-told block e.reply.said) entries

-- the freezes of a block are counted as the definitions count them
pub freezes-counted : (block : Block) (entries : List Entry) → freezes_in block.table block.block entries ≡ count_by (is_freeze_of block) entries
freezes-counted block entries =
    length-shown (λ (e : Entry). rows_in block.table block.block e.reply.said) entries
    ∙ count-agree (λ e. is_some (rows_in block.table block.block e.reply.said)) (is_freeze_of block) (λ e. freeze-told block e.reply.said) entries

-- the seals under a stamp are counted as the definitions count them
pub stamps-counted : (stamp : Stamp) (entries : List Entry) → stamp_count stamp.of.table stamp.of.block stamp.stamp entries ≡ count_by (is_stamp_of stamp) entries
stamps-counted stamp entries =
    count-shown (λ shown. shown == stamp.stamp) (λ (e : Entry). stamp_in stamp.of.table stamp.of.block e.reply.said) entries
    ∙ count-agree (λ e. option_map_or (λ shown. shown == stamp.stamp) (stamp_in stamp.of.table stamp.of.block e.reply.said) false) (is_stamp_of stamp) (λ e. stamp-said stamp e.reply.said) entries

-- An insert is counted for a table exactly where it was accepted and went into that table.
insert-into : (table into : ℕ) (accepted : Bool) → (into == table && accepted) ≡ is_keyed nat_cmp table (if accepted then Some into else None)
insert-into table into true = by (into == table) ∙ sym (nat-same into table)
  where
    by : (b : Bool) → (b && true) ≡ b
    by true = refl
    by false = refl
insert-into table into false = and_right (into == table) false refl

-- A reply that tells of no table is not counted for one.
none-into : (table : ℕ) (accepted : Bool) → false ≡ is_keyed nat_cmp table (if accepted then None else None)
none-into table true = refl
none-into table false = refl

-- an insert into the table was accepted exactly where its reply is counted for the table
pub insert-told : (table : ℕ) (asked : Command) (told : Said) → is_accepted_insert table asked told ≡ is_keyed nat_cmp table (if is_accepted told then inserted_table asked else None)
insert-told table (command.Insert into row) told = insert-into table into (is_accepted told)
insert-told table _ told = none-into table (is_accepted told)

-- the accepted inserts into a table are counted as the definitions count them
pub inserts-counted : (table : ℕ) (entries : List Entry) → inserts_in table entries ≡ count_by (is_insert_into table) entries
inserts-counted table entries =
    count-agree (λ (e : Entry). is_accepted_insert table e.command e.reply.said) (is_insert_into table) (λ e. insert-told table e.command e.reply.said) entries
