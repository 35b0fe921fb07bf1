use Rattle.std.proofs.Common.{◌≡◌, ◌∙◌, ◌-◌, ◌+◌, ap, sym, subst, IfSome, ℕ, ◌∷◌, length, reverse, Option, arith}
use Rattle.std.specs.Prelude.{is_some}
use Rattle.std.proofs.lemmas.List.{length-reverse, length-append, length-map}
use Rattle.outcome_spec.specs.Entries.{commit_in}
use Rattle.output_read.specs.Kept.{entries_of, entry_of}
use Rattle.output_read.specs.declared.kept.KeptReply.{KeptReply}
use Rattle.order_laws.specs.Places.{own_end}
use Rattle.mark_index.proofs.Noted.{peaks-next}
use Rattle.outcome_counts.specs.Asked.{IsAsked}
use Rattle.outcome_counts.specs.LaterCommits.{below_commit, ends_in, with_low}
use Rattle.outcome_counts.specs.declared.stretch.Stretch.{Stretch}
use Rattle.outcome_counts.proofs.Starts.{kept-at}
use Rattle.outcome_counts.proofs.Later.{end-at, ends-are, turned-front, none-below}
use Rattle.outcome_counts.proofs.later_commits.LaterCommits.of.Goals as goal

pub stretch_in_front-stretch-requires-clause-known : goal.stretch_in_front-stretch-requires-clause-known
stretch_in_front-stretch-requires-clause-known c =
    let replies = c.args.replies.now in
    let back : ℕ = c.loop-back.back in
    let inside = c.loop-back-test.true in
    let e : length replies - back ≡ length replies - 1 - back + 1 = omega (arith, inside) in
    subst (λ (n : ℕ). IfSome c.loop-back.known (IsAsked replies n)) e c.loop-back.invariant.1

pub loop-back-preserved : goal.loop-back-preserved
loop-back-preserved c =
    let replies = c.args.replies.now in
    let es = entries_of replies in
    let back : ℕ = c.loop-back.back in
    let place : ℕ = length replies - 1 - back in
    let reply = c.index-replies-at.result in
    let inside = c.loop-back-test.true in
    let at = kept-at replies place reply (omega (arith, inside)) c.index-replies-at.is in
    let long = length-map replies entry_of in
    let w = ap length at.whole in
    let m = length-append at.front (entry_of reply ∷ at.rest) in
    let far = at.far in
    let low : length at.rest ≡ back = omega (arith, inside, long, w, m, far) in
    let own : c.stretch_in_front-stretch.result.own_end ≡ own_end es (entry_of reply) =
    ap (λ (s : Stretch). s.own_end) (c.stretch_in_front-stretch.ensures.places reply) ∙ ap (λ (k : KeptReply). own_end es (entry_of k)) (at.there reply) in
    let start : c.saturating_sub-start.result ≡ ends_in es back =
    c.saturating_sub-start.ensures ∙ ap (λ (n : ℕ). length replies - n) own ∙ ap (λ (n : ℕ). n - own_end es (entry_of reply)) (sym long) ∙ sym (end-at es at.front (entry_of reply) at.rest back at.whole low) in
    let noted : c.note_low.new.peaks.items ≡ with_low (commit_in (entry_of reply).reply.said) back (ends_in es back) c.loop-back.peaks.items =
    c.in_ok-note_low.ensures ∙ ap (λ (o : Option ℕ). with_low o back c.saturating_sub-start.result c.loop-back.peaks.items) c.commit_told.ensures
    ∙ ap (λ (n : ℕ). with_low (commit_in (entry_of reply).reply.said) back n c.loop-back.peaks.items) start in
    let known : IsAsked replies (length replies - (back + 1)) c.stretch_in_front-stretch.result =
    subst (λ (n : ℕ). IsAsked replies n c.stretch_in_front-stretch.result) (let e : place ≡ length replies - (back + 1) = omega arith in e) c.stretch_in_front-stretch.ensures in (
      peaks-next below_commit (ends_in es) (reverse es) (reverse at.rest) (entry_of reply) (reverse at.front) back (turned-front es at.front (entry_of reply) at.rest at.whole) (length-reverse at.rest ∙ low)
          (ends-are es c.requires) c.loop-back.peaks.items c.note_low.new.peaks.items c.loop-back.invariant.0 (is_some (commit_in (entry_of reply).reply.said)) (none-below (commit_in (entry_of reply).reply.said)) noted,
      known,
    )
