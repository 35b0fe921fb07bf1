use Rattle.std.proofs.Common.{◌≡◌, ◌+◌, ◌*◌, false, length, replicate, refl, sym, ap, subst, ◌∙◌, arith}
use Rattle.std.proofs.lemmas.List.{length-replicate}
use Rattle.core_parts.specs.Keyed.{IsKeyed}
use Rattle.event_spec.specs.Parts.{Shape, names}
use Rattle.hall_steps.specs.Hall.{first_of}
use Rattle.shared_store.proofs.Made.{one_hand}
use Rattle.shared_store.proofs.Taken.{few_low, marked_by, marks_take, parts_few, take_front, taking_hands}
use Rattle.shared_store.specs.Taking.{IsMarked}
use Rattle.shared_store.specs.Store.{shape_in}
use Rattle.shared_store.proofs.store.Store.take_by_marks.Goals as goal

pub take_marked-requires-clause-below : goal.take_marked-requires-clause-below
take_marked-requires-clause-below g c k held = absurd (c.requires.pass.2.empty k held)

pub take_marked-requires-clause-parts : goal.take_marked-requires-clause-parts
take_marked-requires-clause-parts g c =
    let same : c.shape-shape.result.now ≡ shape_in c.args.self.now = c.shape-shape.ensures ∙ c.self.invariant.shape ∙ ap shape_in c.self.view_is in
    let count = ap length (c.tables.ensures.tables ∙ ap (λ (sh : Shape). sh.tables) same) in
    let low = few_low (shape_in c.args.self.now) in
    omega (arith, count, low)

pub take_marked-requires-clause-marks : goal.take_marked-requires-clause-marks
take_marked-requires-clause-marks g c =
    let same : c.shape-shape.result.now ≡ shape_in c.args.self.now = c.shape-shape.ensures ∙ c.self.invariant.shape ∙ ap shape_in c.self.view_is in
    let room = c.mark_touched.ensures.room in
    let len = c.as_mut_slice.ensures.len in
    let low : length c.as_slice.result.now ≡ length c.mark_touched.new.marks = ap length (c.as_slice.ensures.value ∙ take_front c.in-Ok.low.len c.mark_touched.new.marks _ (room ∙ len)) in
    let all = ap length (c.as_mut_slice.ensures.value ∙ c.in-Ok.ensures) ∙ length-replicate (length (names c.shape-shape.result.now)) false in
    let count = ap length c.tables.ensures.tables in
    let few = few_low c.shape-shape.result.now in
    omega (arith, low, room, all, count, few)

pub hand-requires-2-after_bounds : goal.hand-requires-2-after_bounds
hand-requires-2-after_bounds g c κs =
    let s = c.args.pass.now in
    let t = c.take_marked.new.pass in
    let any = c.requires.pass in
    let one = taking_hands c.args.self.now s.seat t.seat s.hands t.hands c.as_slice.result.now 0 (9 * length c.tables.result.now) (9 * length c.tables.result.now) c.take_marked.ensures
    (one_hand c.args.self.now any.0 s.seat s.hands any.1 any.2.within) in
    let count = c.take_marked.ensures.pass.count in
    omega (arith, one, count)

pub overflow_add-desk : goal.overflow_add-desk
overflow_add-desk g c =
    let same : c.shape-shape.result.now ≡ shape_in c.args.self.now = c.shape-shape.ensures ∙ c.self.invariant.shape ∙ ap shape_in c.self.view_is in
    let few = parts_few c.shape-shape.result.now c.tables.ensures.few.tables_few c.tables.ensures.few.blocks_few in
    let last = c.desk-desk.ensures.last in
    omega (arith, few, last)

pub take_marked-requires-2-clause-hand : goal.take_marked-requires-2-clause-hand
take_marked-requires-2-clause-hand g c =
    let s = c.args.pass.now in
    let t = c.take_marked.new.pass in
    let any = c.requires.pass in
    taking_hands c.args.self.now s.seat t.seat s.hands t.hands c.as_slice.result.now 0 (9 * length c.tables.result.now) (9 * length c.tables.result.now) c.take_marked.ensures
    (one_hand c.args.self.now any.0 s.seat s.hands any.1 any.2.within)

pub take_marked-requires-2-clause-forward : goal.take_marked-requires-2-clause-forward
take_marked-requires-2-clause-forward g c =
    let count = ap length c.tables.ensures.tables in
    let low = few_low c.shape-shape.result.now in
    let last = c.desk-desk.ensures.last in
    omega (arith, count, low, last)

pub mark_touched-requires-clause-marked : goal.mark_touched-requires-clause-marked
mark_touched-requires-clause-marked g c = subst IsMarked (sym c.event.ensures.event) c.requires.marked

pub mark_touched-requires-2-clause-marked : goal.mark_touched-requires-2-clause-marked
mark_touched-requires-2-clause-marked g c = subst IsMarked (sym c.event-2.ensures.event) c.requires.marked

pub returns : goal.returns
returns g c session open' at' =
    let st = c.args.self.now in
    let s = c.args.pass.now in
    let t = c.take_marked.new.pass in
    let u = c.take_marked-2.new.pass in
    let e = c.args.event.now in
    let none = replicate (length (names (shape_in st))) false in
    let same : c.shape-shape.result.now ≡ shape_in st = c.shape-shape.ensures ∙ c.self.invariant.shape ∙ ap shape_in c.self.view_is in
    let count = ap length (c.tables.ensures.tables ∙ ap (λ (sh : Shape). sh.tables) same) in
    let last = sym c.desk-desk.ensures.last ∙ ap (λ (sh : Shape). length (names sh)) same in
    let few = few_low (shape_in st) in
    let unmarked : c.in-Ok.low.items ≡ none = c.in-Ok.ensures ∙ ap (λ (sh : Shape). replicate (length (names sh)) false) same in
    let unmarked' : c.in-Ok-no_marks.high.items ≡ none = c.in-Ok-no_marks.ensures ∙ ap (λ (sh : Shape). replicate (length (names sh)) false) same in
    let low : c.as_slice.result.now ≡ c.mark_touched.new.marks = c.as_slice.ensures.value ∙ take_front c.in-Ok.low.len c.mark_touched.new.marks _ (c.mark_touched.ensures.room ∙ c.as_mut_slice.ensures.len) in
    let high : c.as_slice-2.result.now ≡ c.mark_touched-2.new.marks = c.as_slice-2.ensures.value ∙ take_front c.in-Ok-no_marks.high.len c.mark_touched-2.new.marks _ (c.mark_touched-2.ensures.room ∙ c.as_mut_slice-2.ensures.len) in
    let lows = marked_by (shape_in st) c.shape-shape.result.now e c.event.result.now (first_of s.hands) c.hand.result.now none c.as_mut_slice.result.now c.mark_touched.new.marks c.as_slice.result.now
    same c.event.ensures.event c.hand.ensures (c.as_mut_slice.ensures.value ∙ unmarked) low c.mark_touched.ensures in
    let highs = marked_by (shape_in st) c.shape-shape.result.now e c.event-2.result.now (first_of t.hands) c.hand-2.result.now none c.as_mut_slice-2.result.now c.mark_touched-2.new.marks c.as_slice-2.result.now
    same c.event-2.ensures.event c.hand-2.ensures (c.as_mut_slice-2.ensures.value ∙ unmarked') high c.mark_touched-2.ensures in
    marks_take st s.seat t.seat u.seat s.hands t.hands u.hands c.as_slice.result.now c.as_slice-2.result.now none e (9 * length c.tables.result.now) (c.desk-desk.result + 1)
    (subst IsKeyed c.event.ensures.event c.event.ensures.keyed) c.requires.marked (ap (λ n. 9 * n) count) last at'.empty (one_hand st session s.seat s.hands open' at'.within)
    (omega (arith, count, last, few)) refl (length-replicate (length (names (shape_in st))) false) lows highs c.take_marked.ensures c.take_marked-2.ensures session open' at'
