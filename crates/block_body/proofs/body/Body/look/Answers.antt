use Rattle.std.proofs.Common.{◌≡◌, ◌∙◌, ◌++◌, ℕ, Bool, true, List, length, sym, ap}
use Rattle.std.specs.List.{range_with_len}
use Rattle.block_spec.specs.declared.look.MovableRow.{MovableRow}
use Rattle.block_spec.specs.declared.phase.Phase.{Phase}
use Rattle.block_spec.specs.Looks.{Look as LookValue, looked}
use Rattle.block_spec.specs.Bodies.{Body as BodyValue, is_empty}
use Rattle.block_body.specs.Chains.{entries_at}
use Rattle.block_body.proofs.Looks.{all_gaps, no_movable}
use Rattle.block_body.proofs.Slots.{slots-length}
use Rattle.block_body.proofs.body.Body.look.Goals as goal

pub returns-then-empty : goal.returns-then-empty
returns-then-empty c =
    let i = c.self.inside in
    let body : BodyValue = c.args.self.now in
    let slots : ℕ = length body.slots in
    let empty : is_empty body ≡ true = sym c.empty.ensures ∙ c.if-empty.true in
    let all : c.slots.result ≡ slots =
    c.slots.ensures ∙ ap length c.columns.ensures.rows ∙ sym (slots-length (entries_at i.chains.entries) 0 i.rows.rows) ∙ ap (λ (b : BodyValue). length b.slots) c.self.view_is in
    let gaps : List ℕ = range_with_len 0 c.slots.result ++ c.new-then-empty.result.items in
    let found : List MovableRow → List ℕ → Phase → Bool → LookValue = λ rows gaps phase cooling. record { rows = rows; gaps = gaps; phase = phase; cooling = cooling } in
    ap (λ (rows : List MovableRow). found rows gaps i.phase i.cooling) (c.new.ensures.items ∙ no_movable body slots empty)
    ∙ ap (λ (gaps : List ℕ). found (looked body).rows gaps i.phase i.cooling)
    (ap (λ (n : ℕ). range_with_len 0 n ++ c.new-then-empty.result.items) all
    ∙ ap (λ (l : List ℕ). range_with_len 0 slots ++ l) c.new-then-empty.ensures.items
    ∙ all_gaps body slots empty)
    ∙ ap (λ (b : BodyValue). found (looked body).rows (looked body).gaps b.phase b.cooling) c.self.view_is
