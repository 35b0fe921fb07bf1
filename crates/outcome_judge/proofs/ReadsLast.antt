-- The condition on reads of checked transactions, put together.
use Rattle.std.proofs.Common.{◌≡◌, ℕ, Bool, true, false, ◌&&◌, ◌||◌, not, nat_le, List, [], ◌∷◌, Option, None, Some, refl, sym, ap, ◌∙◌}
use Rattle.std.specs.List.{filter_map, list_all, list_any}
use Rattle.std.specs.Option.{option_map_or}
use Rattle.std.specs.Prelude.{is_some, ◌==◌}
use Rattle.cell_model.specs.declared.table.TableDecl.{TableDecl}
use Rattle.isolation_spec.specs.Reads.{meets}
use Rattle.isolation_spec.specs.declared.read.Read.{Read}
use Rattle.workload_spec.specs.declared.reply.Said.{Said}
use Rattle.workload_spec.specs.declared.reply.Said.TheVariants as said
use Rattle.outcome_spec.specs.Conflicts.{is_committed_before, is_committed_not_after}
use Rattle.outcome_spec.specs.Entries.{Entry, before, is_before}
use Rattle.outcome_spec.specs.Runs.{Span, accepted_write, run_of, transaction_of}
use Rattle.outcome_spec.specs.Stale.{commit_stands, is_checked, is_read, meeting, read_of, read_told, reads_last, reads_told, stale_holds, stale_read_holds}
use Rattle.outcome_judge.specs.Conflicts.{is_first, is_highest, is_named}
use Rattle.outcome_judge.specs.Stale.{answers, commit_shown, commits_last, is_overtaken, is_stale, numbers_meeting, read_rule, reads_stand, top_rule, tops_stand}
use Rattle.outcome_judge.specs.declared.stale.Question.TheVariants as question
use Rattle.outcome_judge.proofs.Counting.{none-between}
use Rattle.outcome_judge.proofs.Spans.{any-agree}
use Rattle.outcome_judge.proofs.Tops.{any-filter}
use Rattle.outcome_judge.proofs.Updating.{later-above, names-by}

-- ---- what was read

-- What is told of by replies passes a test where one of them tells of such.
any-told : (p : Read → Bool) (entries : List Entry) → list_any p (reads_told entries) ≡ list_any (λ (e : Entry). option_map_or p (read_told e.command e.reply.said) false) entries
any-told p [] = refl
any-told p (entry ∷ entries) = by (read_told entry.command entry.reply.said) refl (any-told p entries)
  where
    by : (o : Option Read) → read_told entry.command entry.reply.said ≡ o → list_any p (reads_told entries) ≡ list_any (λ (e : Entry). option_map_or p (read_told e.command e.reply.said) false) entries
        → list_any p (filter_map (λ (e : Entry). read_told e.command e.reply.said) (entry ∷ entries)) ≡ (option_map_or p (read_told entry.command entry.reply.said) false || list_any (λ (e : Entry). option_map_or p (read_told e.command e.reply.said) false) entries)
    by None is rest = rw is rest
    by (Some what) is rest = rw is (ap (λ (b : Bool). p what || b) rest)

-- All of it passes a test where no reply tells of what fails it.
all-told : (p : Read → Bool) (entries : List Entry) → list_all p (reads_told entries) ≡ not (list_any (λ (e : Entry). option_map_or (λ what. not (p what)) (read_told e.command e.reply.said) false) entries)
all-told p [] = refl
all-told p (entry ∷ entries) = by (read_told entry.command entry.reply.said) refl (all-told p entries)
  where
    two : (a : Bool) (b c : Bool) → b ≡ not c → (a && b) ≡ not (not a || c)
    two true b c h = h
    two false b c h = refl

    by : (o : Option Read) → read_told entry.command entry.reply.said ≡ o
        → list_all p (reads_told entries) ≡ not (list_any (λ (e : Entry). option_map_or (λ what. not (p what)) (read_told e.command e.reply.said) false) entries)
        → list_all p (filter_map (λ (e : Entry). read_told e.command e.reply.said) (entry ∷ entries))
        ≡ not (option_map_or (λ what. not (p what)) (read_told entry.command entry.reply.said) false || list_any (λ (e : Entry). option_map_or (λ what. not (p what)) (read_told e.command e.reply.said) false) entries)
    by None is rest = rw is rest
    by (Some what) is rest = rw is (two (p what) (list_all p (reads_told entries)) (list_any (λ (e : Entry). option_map_or (λ what. not (p what)) (read_told e.command e.reply.said) false) entries) rest)

-- ---- a stale read

-- A read was told of before a reply exactly where one of the replies before it tells of it.
read-before : (what : Read) (by : Entry) (replies : List Entry) → list_any (answers by (question.Read what)) replies ≡ list_any (is_read what) (reads_told (before replies by))
read-before what by replies =
    sym (any-filter (λ (e : Entry). option_map_or (is_read what) (read_told e.command e.reply.said) false) (λ (e : Entry). is_before e by) replies)
    ∙ sym (any-told (is_read what) (before replies by))

-- Five conditions, of which the last two are one.
five : (top a b c n m l : Bool) → (n && top) ≡ ((m && l)) → (top && (((a && b) && c) && n)) ≡ (((a && b) && c) && (m && l))
five true true true true n m l h = both n (m && l) h
  where
    both : (x y : Bool) → (x && true) ≡ y → x ≡ y
    both true y h = h
    both false y h = h
five false true true true true m l h = h
five false true true true false m l h = h
five true false b c n m l h = refl
five false false b c n m l h = refl
five true true false c n m l h = refl
five false true false c n m l h = refl
five true true true false n m l h = refl
five false true true false n m l h = refl

module _ (tables : List TableDecl) (entries : List Entry) (t : Span) (entry : Entry) where
  -- A stale read stands where both parts do.
  stale-by : (what : Read) (number : ℕ)
      → (is_highest entries (numbers_meeting entries what) entry number && is_stale (run_of tables entries) t entry what number) ≡ stale_read_holds (run_of tables entries) t entry what number
  stale-by what number =
      let run = run_of tables entries in
      let ns = numbers_meeting entries what in
      ap (λ (b : Bool). is_highest entries ns entry number && (((list_any (answers entry question.Checked) t.replies && b) && list_any (answers entry (question.Read what)) t.replies) && is_named run t ns entry number))
      (sym (any-filter (λ (e : Entry). is_some (accepted_write e)) (λ (e : Entry). is_before e entry) t.replies))
      ∙ ap (λ (b : Bool). is_highest entries ns entry number && (((is_checked t && list_any (λ (e : Entry). is_some (accepted_write e)) (before t.replies entry)) && b) && is_named run t ns entry number))
      (read-before what entry t.replies)
      ∙ five (is_highest entries ns entry number) (is_checked t) (list_any (λ (e : Entry). is_some (accepted_write e)) (before t.replies entry)) (list_any (is_read what) (reads_told (before t.replies entry)))
      (is_named run t ns entry number)
      (list_any (λ later. later == number) (meeting run t what) && is_committed_not_after run entry number)
      (list_all (λ later. nat_le later number || not (is_committed_before run entry later)) (meeting run t what))
      (names-by tables entries t (meets what) entry number)

  -- None that wrote into a read is in the way of a commit exactly where it stands.
  first-by : (number : ℕ) (what : Read) → is_first (record { snapshot = t.snapshot; committed = Some number }) (numbers_meeting entries what) ≡ list_all (nat_le number) (meeting (run_of tables entries) t what)
  first-by number what =
      none-between t.snapshot number (numbers_meeting entries what)
      ∙ ap (list_all (nat_le number)) (sym (later-above entries t.snapshot (meets what)))

  -- What is overtaken of a reply is a read that does not stand.
  overtaken-by : (number : ℕ) (e : Entry) → is_overtaken entries (record { snapshot = t.snapshot; committed = Some number }) e
      ≡ option_map_or (λ what. not (list_all (nat_le number) (meeting (run_of tables entries) t what))) (read_told e.command e.reply.said) false
  overtaken-by number e = by (read_told e.command e.reply.said)
    where
      by : (o : Option Read) → option_map_or (λ what. not (is_first (record { snapshot = t.snapshot; committed = Some number }) (numbers_meeting entries what))) o false
          ≡ option_map_or (λ what. not (list_all (nat_le number) (meeting (run_of tables entries) t what))) o false
      by None = refl
      by (Some what) = ap not (first-by number what)

  -- A commit stands where its transaction isn't checked, or no read is overtaken.
  commit-by : (number : ℕ) → commits_last entries t entry number ≡ commit_stands (run_of tables entries) t (Some number)
  commit-by number =
      ap (λ (b : Bool). not (is_checked t && b)) (any-agree _ (λ (e : Entry). option_map_or (λ what. not (list_all (nat_le number) (meeting (run_of tables entries) t what))) (read_told e.command e.reply.said) false) (overtaken-by number) t.replies)
      ∙ split (is_checked t) (list_any (λ (e : Entry). option_map_or (λ what. not (list_all (nat_le number) (meeting (run_of tables entries) t what))) (read_told e.command e.reply.said) false) t.replies)
      ∙ ap (λ (b : Bool). not (is_checked t) || b) (sym (all-told (λ what. list_all (nat_le number) (meeting (run_of tables entries) t what)) t.replies))
    where
      split : (a b : Bool) → not (a && b) ≡ (not a || not b)
      split true b = refl
      split false b = refl

  -- What a reply shows of a commit stands where both parts do.
  shown-parts : (told : Said) → (top_rule entries entry (commit_shown told) && read_rule (run_of tables entries) t entry (commit_shown told)) ≡ stale_holds (run_of tables entries) t entry told
  shown-parts (said.Stale what number) = stale-by (read_of what) number
  shown-parts (said.Committed None) = refl
  shown-parts (said.Committed (Some number)) = commit-by number
  shown-parts _ = refl

-- the condition on reads of checked transactions is its two parts
pub reads-parts : (tables : List TableDecl) (entries : List Entry) (entry : Entry) → let run = run_of tables entries in (tops_stand run entry && reads_stand run entry) ≡ reads_last run entry
reads-parts tables entries entry = by (transaction_of (run_of tables entries) entry)
  where
    by : (own : Option Span) → let run = run_of tables entries in
        (option_map_or (λ t. top_rule run.entries entry (commit_shown entry.reply.said)) own true && option_map_or (λ t. read_rule run t entry (commit_shown entry.reply.said)) own true)
        ≡ option_map_or (λ t. stale_holds run t entry entry.reply.said) own true
    by None = refl
    by (Some t) = shown-parts tables entries t entry entry.reply.said
