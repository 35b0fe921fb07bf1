use Rattle.std.proofs.Common.{◌≡◌, ◌∙◌, ap, sym, ℕ, List, [], ◌∷◌, ◌++◌, unwrap_or, false, arith}
use Rattle.std.specs.BTreeMap.{get}
use Rattle.std.specs.BTreeMap.Entry.{map_with_value}
use Rattle.std.specs.Ordering.{is_eq}
use Rattle.std.specs.Prelude.{◌==◌}
use Rattle.mark_index.specs.Lists.{is_last}
use Rattle.mark_index.proofs.Pushed.{marks_of, pushed, put-one, read-is}
use Rattle.mark_index.proofs.behind.MarkIndex+K+u64.push_number.Goals as goal

pub returns : goal.returns
returns g c = λ other.
    let cmp = g.K.Ord.cmp in
    let lists = c.args.self.now.lists in
    let key = c.args.key in
    let number : ℕ = c.args.number in
    let list = c.push.new.self in
    let read : c.or_insert-numbers.result.now.items ≡ marks_of (get cmp lists key) = read-is c.or_insert-numbers.result.now c.new.result (get cmp lists key) (c.or_insert-numbers.ensures.value ∙ ap (λ o. unwrap_or o c.new.result) c.in_ok-self.ensures.value) c.new.ensures.items in
    let last : is_last (λ its. its == number) (marks_of (get cmp lists key)) ≡ false =
    ap (is_last (λ its. its == number)) (sym (c.as_slice.ensures.value ∙ read)) ∙ sym c.if-is_last_number.ensures in
    let items : list.items ≡ marks_of (get cmp lists key) ++ number ∷ [] = c.in_ok-push.ensures.items ∙ ap (λ (ns : List ℕ). ns ++ number ∷ []) (c.in_ok-make_room.ensures ∙ read) in
    let each = pushed cmp g.met.K.Ord.total lists (map_with_value c.in_ok-self.field-0 list) key other list ((c.in_ok-self.ensures.update.0 list).0 other) number items
    ∙ put-one (is_eq (cmp key other)) (is_last (λ its. its == number) (marks_of (get cmp lists key))) number (marks_of (get cmp lists other)) last in
    grind (arith, each)
