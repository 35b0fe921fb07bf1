use Rattle.std.proofs.Common.{◌≡◌, ℕ, List, [], ◌∷◌, ◌++◌, ap, sym, ◌∙◌, append-nil, append_assoc, arith}
use Rattle.std.specs.Vec.Iter.{into_iter_items}
use Rattle.std.proofs.lemmas.Grind.{flat_map-append}
use Rattle.store_rounds.specs.Duties.{duties_text}
use Rattle.store_rounds.specs.declared.duty.Duty.{Duty}
use Rattle.store_rounds.proofs.Turns.{none_left}
use Rattle.store_rounds.proofs.duty.text_of.Goals as goal

pub loop-duty-init : goal.loop-duty-init
loop-duty-init c = record { text = c.new-text.ensures.items; split = c.into_iter-duty-iterator.ensures.into_iter_gives.0 }

pub loop-duty-preserved : goal.loop-duty-preserved
loop-duty-preserved c =
    let inv = c.loop-duty.invariant in
    let rest : List Duty = into_iter_items c.next.new.self in
    let split : c.loop-duty.yielded ++ c.in-Some.duty ∷ rest ≡ c.args.duties.items =
    ap (λ (duties : List Duty). c.loop-duty.yielded ++ duties) (sym c.in-Some.ensures.steps.0) ∙ inv.split in
    let text : Duty → List ℕ = λ (duty : Duty). duty.lines.text.items in
    record {
      text = c.in_ok-put_behind.ensures
          ∙ ap (λ (front : List ℕ). front ++ text c.in-Some.duty) inv.text
          ∙ ap (λ (more : List ℕ). duties_text c.loop-duty.yielded ++ more) (sym (append-nil (text c.in-Some.duty)))
          ∙ sym (flat_map-append text c.loop-duty.yielded (c.in-Some.duty ∷ []));
      split = append_assoc c.loop-duty.yielded (c.in-Some.duty ∷ []) rest ∙ split;
    }

pub returns : goal.returns
returns c =
    c.loop-duty.invariant.text
    ∙ ap duties_text (none_left c.loop-duty.yielded (into_iter_items c.loop-duty.duty-iterator) c.args.duties.items
    (omega (arith, c.in-None.ensures.steps.0, c.loop-duty.duty-iterator.rest.ok.0)) c.loop-duty.invariant.split)
