use Rattle.std.proofs.Common.{◌≡◌, ◌∙◌, ◌-◌, ◌≤◌, ℕ, List, sym, ap, arith}
use Rattle.std.specs.Prelude.{option_copied, slice_get}
use Rattle.std.proofs.lemmas.Option.{gets}
use Rattle.block_spec.specs.Looks.{Look as LookValue}
use Rattle.block_body.proofs.Looks.{gap_first, gap_listed}
use Rattle.block_body.proofs.look.Look.gap.Goals as goal

pub returns-then-place-first : goal.returns-then-place-first
returns-then-place-first c =
    let i = c.self.inside in
    sym (gap_first i.first c.args.place i.gaps.items c.if-place-first.true) ∙ ap (λ (l : LookValue). slice_get l.gaps c.args.place) c.self.view_is

pub returns-else-place-first : goal.returns-else-place-first
returns-else-place-first c =
    let i = c.self.inside in
    let past : i.first ≤ c.args.place = omega (arith, c.if-place-first.false) in
    let got : option_copied c.get.result ≡ slice_get c.deref.result.now (c.args.place - i.first) = grind (arith, gets) in
    c.copied.ensures ∙ got ∙ ap (λ (l : List ℕ). slice_get l (c.args.place - i.first)) c.deref.ensures.value ∙ sym (gap_listed i.first c.args.place i.gaps.items past) ∙ ap (λ (l : LookValue). slice_get l.gaps c.args.place) c.self.view_is
