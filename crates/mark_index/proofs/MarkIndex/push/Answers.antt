use Rattle.std.proofs.Common.{◌≡◌, ◌∙◌, ap, List, [], ◌∷◌, ◌++◌, unwrap_or, arith}
use Rattle.std.specs.BTreeMap.{get}
use Rattle.std.specs.BTreeMap.Entry.{map_with_value}
use Rattle.mark_index.proofs.Pushed.{marks_of, marks-or-none, pushed}
use Rattle.mark_index.proofs.MarkIndex.push.Goals as goal

pub returns : goal.returns
returns g c = λ other.
    let lists = c.args.self.now.lists in
    let list = c.push.new.self in
    let had : c.or_insert-marks.result.now ≡ unwrap_or (get g.K.Ord.cmp lists c.args.key) c.new.result = c.or_insert-marks.ensures.value ∙ ap (λ o. unwrap_or o c.new.result) c.in_ok-self.ensures.value in
    let items : list.items ≡ marks_of (get g.K.Ord.cmp lists c.args.key) ++ c.args.mark ∷ [] =
    c.in_ok-push.ensures.items ∙ ap (λ (xs : List _). xs ++ c.args.mark ∷ []) (c.in_ok-make_room.ensures ∙ ap (λ its. its.items) had ∙ marks-or-none (get g.K.Ord.cmp lists c.args.key) c.new.result c.new.ensures.items) in
    let each = pushed g.K.Ord.cmp g.met.K.Ord.total lists (map_with_value c.in_ok-self.field-0 list) c.args.key other list ((c.in_ok-self.ensures.update.0 list).0 other) c.args.mark items in
    grind (arith, each)
