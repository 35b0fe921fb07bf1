use Rattle.std.proofs.Common.{◌≡◌, ◌∙◌, ◌<◌, sym, subst, None, length, arith}
use Rattle.output_read.specs.Kept.{entries_of}
use Rattle.outcome_spec.specs.Runs.{commit_count}
use Rattle.outcome_counts.proofs.Starts.{at-place}
use Rattle.mark_index.proofs.Noted.{on-ok}
use Rattle.outcome_judge.specs.Commits.{AreCommits}
use Rattle.outcome_judge.proofs.Seen.{own-unopened, opening-cut}
use Rattle.outcome_judge.specs.declared.committed.Committed.{Committed}
use Rattle.outcome_judge.proofs.sights.Sights.note.Goals as goal

pub returns-in-None : goal.returns-in-None
returns-in-None c =
    let inside : c.args.place < length c.args.replies.now = c.requires.inside in
    let long : length c.args.openings.now ≡ length c.args.replies.now = c.requires.long in
    let cut = at-place c.args.openings.now c.args.place (omega (arith, inside, long)) in
    let closed : cut.item ≡ None = opening-cut c.args.openings.now c.args.place cut.item cut.found ∙ sym c.in-None.ensures in
    record {
      commits = c.requires.sights.commits;
      own = own-unopened c.args.openings.now c.args.replies.now cut.front cut.item cut.rest c.args.place c.requires.inside cut.whole cut.far closed c.args.self.now.own c.requires.sights.own;
    }

pub returns-in-Some : goal.returns-in-Some
returns-in-Some c =
    on-ok _ _ c.note_own.result (λ own. record {
      commits = subst (λ (committed : Committed). AreCommits c.args.openings.now (entries_of c.args.replies.now) (commit_count (entries_of c.args.replies.now)) committed.writes) (sym c.note_own.ensures.committed) c.requires.sights.commits;
      own = own;
    }) c.note_own.ensures.own
