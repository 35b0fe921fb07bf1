use Rattle.std.proofs.Common.{◌≡◌, ◌∙◌, ap, sym, List, [], ◌∷◌, ◌++◌, unwrap_or, false, arith}
use Rattle.std.specs.BTreeMap.{get}
use Rattle.std.specs.BTreeMap.Entry.{map_with_value}
use Rattle.std.specs.Ordering.{is_eq}
use Rattle.std.specs.Prelude.{◌==◌}
use Rattle.mark_index.specs.Lists.{is_last}
use Rattle.mark_index.specs.Marks.{next_peak}
use Rattle.mark_index.specs.declared.marks.Peak.{Peak}
use Rattle.mark_index.proofs.Pushed.{marks_of, pushed, put-one, read-is}
use Rattle.mark_index.proofs.behind.MarkIndex+K+Peak.push_peak_once.Goals as goal

pub returns : goal.returns
returns g c = λ other.
    let cmp = g.K.Ord.cmp in
    let lists = c.args.self.now.lists in
    let key = c.args.key in
    let place = c.args.place in
    let list = c.push.new.self in
    let peak = next_peak (marks_of (get cmp lists key)) place c.args.start c.args.value in
    let read : c.or_insert-peaks.result.now.items ≡ marks_of (get cmp lists key) = read-is c.or_insert-peaks.result.now c.new.result (get cmp lists key) (c.or_insert-peaks.ensures.value ∙ ap (λ o. unwrap_or o c.new.result) c.in_ok-self.ensures.value) c.new.ensures.items in
    let last : is_last (λ (its : Peak). its.place == place) (marks_of (get cmp lists key)) ≡ false =
    ap (is_last (λ (its : Peak). its.place == place)) (sym (c.as_slice-known.ensures.value ∙ read)) ∙ sym c.if-is_last_peak.ensures in
    let made : c.next_peak-peak.result ≡ peak = c.next_peak-peak.ensures ∙ ap (λ (ps : List Peak). next_peak ps place c.args.start c.args.value) (c.as_slice-known.ensures.value ∙ read) in
    let items : list.items ≡ marks_of (get cmp lists key) ++ peak ∷ [] =
    c.in_ok-push.ensures.items ∙ ap (λ (ps : List Peak). ps ++ c.next_peak-peak.result ∷ []) (c.in_ok-make_room.ensures ∙ read) ∙ ap (λ (p : Peak). marks_of (get cmp lists key) ++ p ∷ []) made in
    let each = pushed cmp g.met.K.Ord.total lists (map_with_value c.in_ok-self.field-0 list) key other list ((c.in_ok-self.ensures.update.0 list).0 other) peak items
    ∙ put-one (is_eq (cmp key other)) (is_last (λ (its : Peak). its.place == place) (marks_of (get cmp lists key))) peak (marks_of (get cmp lists other)) last in
    grind (arith, each)
