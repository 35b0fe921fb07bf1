use Rattle.std.proofs.Common.{rules, ◌≡◌, ◌∙◌, ap, sym, length, reverse, not}
use Rattle.std.specs.Prelude.{filter}
use Rattle.std.proofs.lemmas.Fn.{filter_same}
use Rattle.undo_chain.specs.Entry.{is_stamped_by}
use Rattle.undo_chain.proofs.Ends.{filter-reverse, dropped_count}
use Rattle.undo_chain.proofs.Order.{IsLawful-filter}
use Rattle.undo_chain.proofs.Views.{images_after_prune}
use Rattle.undo_chain.proofs.chain.Chain.prune.Goals as goal

-- what `retain` leaves, oldest first
kept : (g : _) (c : goal.After-len g) →
    c.retain.new.self.items ≡ filter (λ undo. not (is_stamped_by undo c.args.oldest)) c.self.inside.oldest_first.items
kept g c =
    filter_same _ (λ undo. not (is_stamped_by undo c.args.oldest)) _ (λ x b f k. search rules) _ _ c.retain.ensures.filtered

pub returns-clause-kept : goal.returns-clause-kept
returns-clause-kept g c =
    rw
    (← c.self.view_is)
    (ap reverse (kept g c)
    ∙ sym (filter-reverse (λ undo. not (is_stamped_by undo c.args.oldest)) c.self.inside.oldest_first.items))

pub returns-clause-count : goal.returns-clause-count
returns-clause-count g c =
    let before : c.len-before.result ≡ length c.self.inside.oldest_first.items = search rules in
    let after : c.len.result ≡ length c.retain.new.self.items = search rules in
    rw
    (← c.self.view_is, before, after)
    (dropped_count
    (λ undo. is_stamped_by undo c.args.oldest)
    c.self.inside.oldest_first.items
    c.retain.new.self.items
    (kept g c))

pub returns-clause-lawful : goal.returns-clause-lawful
returns-clause-lawful g c =
    rw
    (returns-clause-kept g c)
    (IsLawful-filter (λ undo. not (is_stamped_by undo c.args.oldest)) c.args.self.now.entries c.requires.lawful)

pub returns-clause-views : goal.returns-clause-views
returns-clause-views g c =
    λ stamp session later.
    rw
    (returns-clause-kept g c)
    (images_after_prune c.args.oldest c.args.self.now.entries stamp session c.requires.lawful later)
