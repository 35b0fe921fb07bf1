use Rattle.std.proofs.Common.{◌≤◌, ◌∷◌, [], ◌==◌, ◌||◌, nat_le, Bor, List, ℕ, length, take, sym, ap, ◌∙◌}
use Rattle.std.proofs.lemmas.Bool.{ltb-false, and_from}
use Rattle.cell_model.specs.declared.values.Values.{Values}
use Rattle.stream_spec.specs.Columns.{bytes_of, data_count, lies_in}
use Rattle.ipc_read.specs.Views.{need_of}
use Rattle.ipc_read.proofs.ViewLemmas.{bytes_with, bytes_without, with_values, without_values}
use Rattle.ipc_read.proofs.views.lend.Goals as goal
use Rattle.ipc_read.proofs.views.lend.Goals.{in-Some+in_ok-values-in-Some, in-None}

pub returns : goal.returns
returns c =
    let body = c.args.body.now in
    let buffers = c.args.buffers.now in
    let d = c.in_ok-data.ensures in
    let v = c.in_ok-validity.ensures in
    let same = c.layout_of.ensures in
    let of : Values → List (List ℕ) = λ (s : Values). take (data_count s) (c.in_ok-data.data.now ∷ c.match-get.values.now ∷ []) in
    let room = ap (λ (s : Values). c.args.rows == 0 || nat_le (need_of s c.args.rows) (length c.in_ok-data.data.now)) same ∙ d.room in
    elim c.match-get.branch [
      | in-Some+in_ok-values-in-Some w ↦
          let look = w.in-Some.ensures.lookup in
          let b = w.in_ok-values-in-Some.ensures in
          let place = w.in-Some.place.now in
          record {
            inside = and_from _ _ v.0 (with_values body c.args.rows c.args.sort.now buffers _ place c.requires.count look.3.0 d.inside (ap (lies_in body) (sym look.1) ∙ b.inside));
            of_sort = same;
            of_validity = v.1;
            of_data = ap of same ∙ bytes_with body c.args.sort.now buffers _ place c.in_ok-data.data.now c.match-get.values.now c.requires.count look.3.0 d.bytes_are (ap (λ (t : Bor (List ℕ)). t.now) w.values-is ∙ (b.bytes_are ∙ ap (bytes_of body) look.1));
            room = room;
          }
      | in-None w ↦
          let look = w.in-None.ensures.lookup in
          let few : length buffers ≤ 1 = ltb-false 1 (length buffers) (sym look.0) in
          record {
            inside = and_from _ _ v.0 (without_values body c.args.rows c.args.sort.now buffers _ c.requires.count few d.inside);
            of_sort = same;
            of_validity = v.1;
            of_data = ap of same ∙ bytes_without body c.args.sort.now buffers _ c.in_ok-data.data.now c.match-get.values.now c.requires.count few d.bytes_are;
            room = room;
          }
    ]
