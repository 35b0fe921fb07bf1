-- What is answered of the reply that is judged.
use Rattle.std.proofs.Common.{◌≡◌, ℕ, ◌+◌, ◌<◌, ◌≤◌, ◌^◌, false, not, nat_lt, nat_le, List, length, take, sym, ap, ◌∙◌, arith}
use Rattle.std.specs.Prelude.{slice_index_or}
use Rattle.std.proofs.lemmas.Bool.Decides.{nat_tests}
use Rattle.std.proofs.lemmas.List.{length-map}
use Rattle.cell_model.specs.declared.table.TableDecl.{TableDecl}
use Rattle.workload_spec.specs.declared.reply.Who.TheVariants.{Session}
use Rattle.outcome_spec.specs.Entries.{Entry, is_same}
use Rattle.outcome_spec.specs.Runs.{Span, run_of}
use Rattle.outcome_spec.specs.Conflicts.{names_session, passes_no_session}
use Rattle.order_laws.specs.Places.{round_start, round_end}
use Rattle.mark_index.specs.Lists.{marks_at}
use Rattle.mark_index.specs.Marks.{highest, most_below}
use Rattle.output_read.specs.Kept.{entries_of, entry_of}
use Rattle.output_read.specs.declared.kept.KeptReply.{KeptReply}
use Rattle.outcome_counts.specs.Asked.{IsAsked, asked_at}
use Rattle.outcome_counts.specs.declared.stretch.Stretch.{Stretch}
use Rattle.outcome_counts.proofs.Asked.{asked-is}
use Rattle.outcome_counts.proofs.Counts.{InOrder, in-order}
use Rattle.outcome_counts.proofs.Starts.{KeptAt, kept-at}
use Rattle.outcome_judge.specs.Held.{Held, held_in}
use Rattle.outcome_judge.specs.Leads.{but_of, lead_below, but_own}
use Rattle.outcome_judge.specs.Rivals.{AreRivals, holds_until, writer_at, writer_cmp}
use Rattle.outcome_judge.specs.HistoryKept.{key_cmp, place_in}
use Rattle.outcome_judge.specs.declared.rivals.Rivals.{Rivals}
use Rattle.outcome_judge.specs.declared.keys.RowKey.{RowKey}
use Rattle.outcome_judge.proofs.Tops.{names-by, passes-by}

module _ (replies : List KeptReply) (at : ℕ) (stretch : Stretch) (asked : IsAsked replies at stretch) (rivals : Rivals) (held : AreRivals (entries_of replies) (length replies) rivals)
    (reply : KeptReply) (is : reply ≡ slice_index_or replies at reply) (small : reply.round < 2 ^ 32) where
  -- The replies as they are judged.
  abbrev es : List Entry
  es = entries_of replies

  -- The reply that is judged.
  abbrev e : Entry
  e = entry_of reply

  -- The reply is kept at its place.
  its : KeptAt replies at reply
  its = kept-at replies at reply asked.inside is

  -- The places about the judged reply stand in order.
  order : InOrder es e (length its.front)
  order = in-order es its.front e its.rest its.whole asked.rises

  -- The replies to judge are as many as the kept ones.
  long : length es ≡ length replies
  long = length-map replies entry_of

  -- The reply that is asked for at the place is the judged one.
  same : (none : KeptReply) → asked_at replies at none ≡ e
  same none = sym (asked-is replies at reply none asked.inside is)

  -- The round behind the reply's is below the bound that stands for no end.
  round : e.reply.round + 1 < 2 ^ 33
  round = let s = small in omega (arith, s)

  -- the marks of a session's writes tell whether it may be named
  pub names-judged : (of : RowKey) (session : ℕ) → is_same reply.who (Session session) ≡ false → (none : KeptReply) (tables : List TableDecl) (t : Span) → t.who ≡ (asked_at replies at none).reply.who
      → nat_lt reply.round (most_below stretch.round_end (marks_at writer_cmp rivals.writers (writer_at of session)))
      ≡ names_session (run_of tables es) t (place_in of) (asked_at replies at none) session
  names-judged of session apart none tables t who =
      let writer = writer_at of session in
      let high : round_end es e ≤ length replies = let w = order.within in let l = long in omega (arith, w, l) in
      let end : stretch.round_end ≡ round_end es e = ap (λ (s : Stretch). s.round_end) (asked.places none) ∙ ap (round_end es) (same none) in
      ap (λ (n : ℕ). nat_lt reply.round (most_below n (marks_at writer_cmp rivals.writers writer))) end
      ∙ ap (nat_lt reply.round) ((held.writers writer).most (round_end es e) high)
      ∙ sym (names-by es e asked.rises round tables t of session (who ∙ ap (λ (x : Entry). x.reply.who) (same none)) apart)
      ∙ ap (λ (x : Entry). names_session (run_of tables es) t (place_in of) x session) (sym (same none))

  -- the leads of a place tell whether no other session is in the way
  pub passes-judged : (of : RowKey) (none : KeptReply) (tables : List TableDecl) (t : Span) → t.who ≡ (asked_at replies at none).reply.who
      → nat_le (but_of reply.who (lead_below stretch.round_start (marks_at key_cmp rivals.leads of))) (reply.round + 1)
      ≡ passes_no_session (run_of tables es) t (place_in of) (asked_at replies at none)
  passes-judged of none tables t who =
      let high : round_start es e ≤ length replies = let a = order.starts in let b = order.rounds in let f = its.far in let i = asked.inside in omega (arith, a, b, f, i) in
      let start : stretch.round_start ≡ round_start es e = ap (λ (s : Stretch). s.round_start) (asked.places none) ∙ ap (round_start es) (same none) in
      ap (λ (n : ℕ). nat_le (but_of reply.who (lead_below n (marks_at key_cmp rivals.leads of))) (reply.round + 1)) start
      ∙ ap (λ (n : ℕ). nat_le n (reply.round + 1)) ((held.leads of).most reply.who (round_start es e) high)
      ∙ not-above (highest (but_own reply.who (λ (h : Held). h.entry.reply.who) (holds_until (place_in of))) (take (round_start es e) (held_in es))) (reply.round + 1)
      ∙ sym (passes-by es e asked.rises round tables t of (who ∙ ap (λ (x : Entry). x.reply.who) (same none)))
      ∙ ap (λ (x : Entry). passes_no_session (run_of tables es) t (place_in of) x) (sym (same none))
    where
      not-above : (n m : ℕ) → nat_le n m ≡ not (nat_lt m n)
      not-above n m = grind (arith, nat_tests)
