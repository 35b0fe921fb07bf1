use Rattle.std.proofs.Common.{◌≡◌, ◌∙◌, ℕ, true, false, not, List, [], length, ap, sym, subst}
use Rattle.std.specs.Prelude.{filter, IfSome}
use Rattle.std.specs.List.{list_any}
use Rattle.cell_model.specs.declared.column.Column.{Column}
use Rattle.undo_chain.specs.declared.undo.Undo.{Undo}
use Rattle.undo_chain.specs.Entry.{is_own}
use Rattle.block_spec.specs.declared.change.Before.{Before}
use Rattle.block_spec.specs.Slots.{Slot}
use Rattle.block_spec.specs.Bodies.{Body as BodyValue, is_written_by, modified}
use Rattle.block_body.specs.Chains.{Chains, entries_at, is_listed}
use Rattle.block_body.specs.Frozen.{IsImageOf}
use Rattle.block_body.specs.Slots.{slots_from}
use Rattle.block_body.specs.Bodies.{SlotLists, body_value, slots_of}
use Rattle.block_body.proofs.After.{body_without, lawful_at, filtered_fewer}
use Rattle.block_body.proofs.Popped.{none_left}
use Rattle.block_body.proofs.Whole.{no_length}
use Rattle.block_body.proofs.Written.{unlisted, unwritten, written_at, rolled_as, rolled_each, rolled_slots, none_rolled, none_any, own_image, find_any, some_own}
use Rattle.block_body.proofs.body.Body.roll_back.Goals as goal

pub returns-in_default : goal.returns-in_default
returns-in_default c =
    let i = c.self.inside in
    let B : BodyValue = body_value i.rows i.chains.entries i.phase i.cooling i.rounds i.last in
    let none = unlisted c.args.session i.rows i.chains.entries i.written i.phase i.last c.self.invariant c.in_default.ensures.none in
    rw (← c.self.view_is)
    (sym (rolled_as c.args.session B false (unwritten c.args.session (entries_at i.chains.entries) 0 i.rows.rows (lawful_at i.chains.entries c.self.invariant.each) none)))

pub returns-then-is_empty : goal.returns-then-is_empty
returns-then-is_empty c =
    let i = c.self.inside in
    let B : BodyValue = body_value i.rows i.chains.entries i.phase i.cooling i.rounds i.last in
    let none : i.chains.entries ≡ [] = no_length i.chains.entries (c.is_empty.ensures.0 c.if-is_empty.true) in
    rw (← c.self.view_is)
    (sym (rolled_as c.args.session B false (unwritten c.args.session (entries_at i.chains.entries) 0 i.rows.rows (lawful_at i.chains.entries c.self.invariant.each)
    (λ k. ap (λ (chains : Chains). list_any (λ undo. is_own undo c.args.session) (entries_at chains k)) none))))

pub invariant_of-self-then-wrote : goal.invariant_of-self-then-wrote
invariant_of-self-then-wrote c =
    let i = c.self.inside in
    let B : BodyValue = body_value i.rows i.chains.entries i.phase i.cooling i.rounds i.last in
    let rows = c.roll_back-wrote.new.rows in
    let new = c.roll_back-wrote.new.chains.entries in
    let listed : c.as_slice.result.now ≡ slots_of i.written c.args.session = c.as_slice.ensures.value ∙ c.in-Some.ensures.some in
    let all : (k : ℕ) → list_any (λ undo. is_own undo c.args.session) (entries_at i.chains.entries k) ≡ true → is_listed c.as_slice.result.now k ≡ true =
    λ k own. ap (λ (l : List ℕ). is_listed l k) listed ∙ c.self.invariant.listed c.args.session k own in
    let each : (k : ℕ) → entries_at new k ≡ filter (λ undo. not (is_own undo c.args.session)) (entries_at i.chains.entries k) =
    λ k. ap (λ (s : Slot). s.entries) (rolled_each c.args.session i.rows.rows rows.rows i.chains.entries new c.as_slice.result.now c.roll_back-wrote.ensures.long all c.roll_back-wrote.ensures.slots k) in
    body_without i.rows rows i.chains.entries new i.written c.keep.new.self i.phase i.last c.self.invariant
    c.roll_back-wrote.ensures.chains
    c.roll_back-wrote.ensures.kept
    (λ k none. each k ∙ ap (filter (λ (undo : Undo Before). not (is_own undo c.args.session))) none)
    (c.roll_back-wrote.ensures.own ∙ sym (own_image i.rows i.chains.entries i.written i.phase i.last c.self.invariant
    (λ none. let never : true ≡ false = sym (c.is_empty.ensures.1 (ap length none)) ∙ c.if-is_empty.false in cc)))
    (subst (λ o. IfSome o (IsImageOf rows.columns rows.rows)) (sym c.roll_back-wrote.ensures.own) tt)
    (λ q k own. filtered_fewer (λ undo. not (is_own undo c.args.session)) q (entries_at i.chains.entries k) (sym (ap (list_any (λ (undo : Undo Before). is_own undo q)) (each k)) ∙ own))
    c.args.session
    (λ k. ap (list_any (λ (undo : Undo Before). is_own undo c.args.session)) (each k) ∙ none_left c.args.session (entries_at i.chains.entries k))
    (λ q apart. ap (λ (l : SlotLists). slots_of l q) c.keep.ensures ∙ c.take.ensures.others q apart)

pub invariant_of-self-else-wrote : goal.invariant_of-self-else-wrote
invariant_of-self-else-wrote c =
    let i = c.self.inside in
    let B : BodyValue = body_value i.rows i.chains.entries i.phase i.cooling i.rounds i.last in
    let rows = c.roll_back-wrote.new.rows in
    let new = c.roll_back-wrote.new.chains.entries in
    let listed : c.as_slice.result.now ≡ slots_of i.written c.args.session = c.as_slice.ensures.value ∙ c.in-Some.ensures.some in
    let all : (k : ℕ) → list_any (λ undo. is_own undo c.args.session) (entries_at i.chains.entries k) ≡ true → is_listed c.as_slice.result.now k ≡ true =
    λ k own. ap (λ (l : List ℕ). is_listed l k) listed ∙ c.self.invariant.listed c.args.session k own in
    let each : (k : ℕ) → entries_at new k ≡ filter (λ undo. not (is_own undo c.args.session)) (entries_at i.chains.entries k) =
    λ k. ap (λ (s : Slot). s.entries) (rolled_each c.args.session i.rows.rows rows.rows i.chains.entries new c.as_slice.result.now c.roll_back-wrote.ensures.long all c.roll_back-wrote.ensures.slots k) in
    body_without i.rows rows i.chains.entries new i.written c.keep.new.self i.phase i.last c.self.invariant
    c.roll_back-wrote.ensures.chains
    c.roll_back-wrote.ensures.kept
    (λ k none. each k ∙ ap (filter (λ (undo : Undo Before). not (is_own undo c.args.session))) none)
    (c.roll_back-wrote.ensures.own ∙ sym (own_image i.rows i.chains.entries i.written i.phase i.last c.self.invariant
    (λ none. let never : true ≡ false = sym (c.is_empty.ensures.1 (ap length none)) ∙ c.if-is_empty.false in cc)))
    (subst (λ o. IfSome o (IsImageOf rows.columns rows.rows)) (sym c.roll_back-wrote.ensures.own) tt)
    (λ q k own. filtered_fewer (λ undo. not (is_own undo c.args.session)) q (entries_at i.chains.entries k) (sym (ap (list_any (λ (undo : Undo Before). is_own undo q)) (each k)) ∙ own))
    c.args.session
    (λ k. ap (list_any (λ (undo : Undo Before). is_own undo c.args.session)) (each k) ∙ none_left c.args.session (entries_at i.chains.entries k))
    (λ q apart. ap (λ (l : SlotLists). slots_of l q) c.keep.ensures ∙ c.take.ensures.others q apart)

pub returns-then-wrote : goal.returns-then-wrote
returns-then-wrote c =
    let i = c.self.inside in
    let B : BodyValue = body_value i.rows i.chains.entries i.phase i.cooling i.rounds i.last in
    let rows = c.roll_back-wrote.new.rows in
    let new = c.roll_back-wrote.new.chains.entries in
    let listed : c.as_slice.result.now ≡ slots_of i.written c.args.session = c.as_slice.ensures.value ∙ c.in-Some.ensures.some in
    let all : (k : ℕ) → list_any (λ undo. is_own undo c.args.session) (entries_at i.chains.entries k) ≡ true → is_listed c.as_slice.result.now k ≡ true =
    λ k own. ap (λ (l : List ℕ). is_listed l k) listed ∙ c.self.invariant.listed c.args.session k own in
    let found = find_any (λ slot. list_any (λ undo. is_own undo c.args.session) (entries_at i.chains.entries slot)) c.as_slice.result.now (sym c.roll_back-wrote.ensures.any ∙ c.if-wrote.true) in
    let wrote : is_written_by c.args.session B ≡ true =
    written_at c.args.session (entries_at i.chains.entries) i.rows.rows found.at (lawful_at i.chains.entries c.self.invariant.each found.at)
    ((c.self.invariant.kept found.at).within (some_own c.args.session (entries_at i.chains.entries found.at) found.passes))
    found.passes in
    rw (← c.self.view_is)
    (ap (λ (columns : List Column). let b : BodyValue = record { columns = columns; slots = slots_from (entries_at new) 0 rows.rows; phase = i.phase; cooling = false; rounds = 0; last = i.last } in b) c.roll_back-wrote.ensures.columns
    ∙ ap (λ (slots : List Slot). record (modified B) { slots = slots }) (rolled_slots c.args.session i.rows.rows rows.rows i.chains.entries new c.as_slice.result.now c.roll_back-wrote.ensures.long all c.roll_back-wrote.ensures.slots)
    ∙ sym (rolled_as c.args.session B true wrote))

pub returns-else-wrote : goal.returns-else-wrote
returns-else-wrote c =
    let i = c.self.inside in
    let B : BodyValue = body_value i.rows i.chains.entries i.phase i.cooling i.rounds i.last in
    let rows = c.roll_back-wrote.new.rows in
    let new = c.roll_back-wrote.new.chains.entries in
    let listed : c.as_slice.result.now ≡ slots_of i.written c.args.session = c.as_slice.ensures.value ∙ c.in-Some.ensures.some in
    let all : (k : ℕ) → list_any (λ undo. is_own undo c.args.session) (entries_at i.chains.entries k) ≡ true → is_listed c.as_slice.result.now k ≡ true =
    λ k own. ap (λ (l : List ℕ). is_listed l k) listed ∙ c.self.invariant.listed c.args.session k own in
    let none : (k : ℕ) → list_any (λ undo. is_own undo c.args.session) (entries_at i.chains.entries k) ≡ false =
    none_any c.args.session i.rows.rows rows.rows i.chains.entries new c.as_slice.result.now c.roll_back-wrote.ensures.long all c.roll_back-wrote.ensures.slots (sym c.roll_back-wrote.ensures.any ∙ c.if-wrote.false) in
    rw (← c.self.view_is)
    (ap (λ (columns : List Column). record B { columns = columns; slots = slots_from (entries_at new) 0 rows.rows }) c.roll_back-wrote.ensures.columns
    ∙ ap (λ (slots : List Slot). record B { slots = slots }) (none_rolled c.args.session i.rows.rows rows.rows i.chains.entries new c.as_slice.result.now c.roll_back-wrote.ensures.long all c.roll_back-wrote.ensures.slots none)
    ∙ sym (rolled_as c.args.session B false (unwritten c.args.session (entries_at i.chains.entries) 0 i.rows.rows (lawful_at i.chains.entries c.self.invariant.each) none)))
