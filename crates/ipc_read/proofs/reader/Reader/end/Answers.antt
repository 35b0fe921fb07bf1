use Rattle.std.proofs.Common.{◌≡◌, ◌∙◌, [], ap, sym, subst, None, Some, Result}
use Rattle.std.specs.Prelude.{MatchResult}
use Rattle.stream_pieces.specs.Pieces.{Standing, end_fault, no_more, still_read}
use Rattle.stream_pieces.proofs.SoFar.{end-is-told}
use Rattle.stream_spec.specs.declared.fault.StreamFault.{StreamFault}
use Rattle.ipc_read.proofs.reader.Reader.end.Goals as goal
use Rattle.ipc_read.proofs.reader.Reader.end.Goals.{in-None, in-Some}

abbrev Ends : Standing → Result (Unit {0}) StreamFault → Type 0
Ends s result = MatchResult result (λ x. still_read s [] ≡ no_more s.known None)
    (λ fault. still_read s [] ≡ no_more s.known (Some fault))

pub returns-clause-end : goal.returns-clause-end
returns-clause-end c =
    let s = c.args.self.now in
    let inside = c.self.inside in
    let v : Standing = record {
      known = inside.known;
      place = inside.place;
      begun = inside.begun.items;
      stand = inside.stand;
    } in
    let here : still_read v [] ≡ no_more v.known c.end_fault.result =
    end-is-told v c.self.invariant
    ∙ ap (λ bytes. no_more v.known (end_fault v.stand v.known v.place bytes))
    (sym c.deref.ensures.value)
    ∙ ap (no_more v.known) (sym c.end_fault.ensures) in
    let told : still_read s [] ≡ no_more s.known c.end_fault.result =
    subst (λ (t : Standing). still_read t [] ≡ no_more t.known c.end_fault.result)
    c.self.view_is here in
    elim c.match-end_fault.branch [
      | in-None w ↦ subst (Ends s) (sym w.result-is) (told ∙ ap (no_more s.known) w.in-None.is)
      | in-Some w ↦ subst (Ends s) (sym w.result-is) (told ∙ ap (no_more s.known) w.in-Some.is)
    ]
