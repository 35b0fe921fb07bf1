use Rattle.std.proofs.Common.{◌≡◌, List, Bool, ◌∙◌, ap, sym, Option, None, max, true, false}
use Rattle.std.specs.List.{list_all, last_or}
use Rattle.std.specs.Ordering.{is_eq}
use Rattle.std.specs.Prelude.{if◌then◌else◌}
use Rattle.outcome_spec.specs.Entries.{is_same}
use Rattle.mark_index.specs.Lists.{marks_at, with_mark}
use Rattle.outcome_counts.specs.Keys.{is_keyed}
use Rattle.outcome_judge.specs.Leads.{but_of, is_ordered}
use Rattle.outcome_judge.specs.HistoryKept.{key_cmp}
use Rattle.outcome_judge.specs.declared.leads.Lead.{Lead}
use Rattle.outcome_judge.specs.declared.keys.RowKey.{RowKey}
use Rattle.outcome_judge.proofs.Marking.{key-one}
use Rattle.outcome_judge.proofs.rivals.note_lead.Goals as goal

pub next_lead-lead-requires : goal.next_lead-lead-requires
next_lead-lead-requires c = ap (list_all is_ordered) c.at.ensures ∙ c.requires c.in-Some.of

pub returns-in_ok-push : goal.returns-in_ok-push
returns-in_ok-push c = λ other.
    let leads = c.args.leads.now in
    let of = c.in-Some.of in
    let lead : Lead = c.next_lead-lead.result in
    let keyed = ap (λ (o : Option RowKey). is_keyed key_cmp other o) c.in-Some.is in
    record {
      put_behind = λ put.
          let one : is_eq (key_cmp of other) ≡ true = sym keyed ∙ put in
          record {
            lead = lead;
            behind = c.in_ok-push.ensures other ∙ ap (λ (b : Bool). with_mark b lead (marks_at key_cmp leads other)) one;
            there = c.next_lead-lead.ensures.there;
            ordered = c.next_lead-lead.ensures.ordered;
            most = λ own. c.next_lead-lead.ensures.most own
                ∙ ap (λ (ls : List Lead). max (but_of own (last_or None ls)) (if is_same c.args.who own then 0 else c.args.until)) (c.at.ensures ∙ ap (marks_at key_cmp leads) (key-one of other one));
          };
      same = λ none. let other_one : is_eq (key_cmp of other) ≡ false = sym keyed ∙ none in
          c.in_ok-push.ensures other ∙ ap (λ (b : Bool). with_mark b lead (marks_at key_cmp leads other)) other_one;
    }
