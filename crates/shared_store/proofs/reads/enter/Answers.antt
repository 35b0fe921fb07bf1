use Rattle.std.proofs.Common.{◌≡◌, Bool, true, false, not, refl, sym, ap, ◌∙◌}
use Rattle.std.specs.Set.{remove_key}
use Rattle.isolation_spec.specs.Contents.{is_place}
use Rattle.shared_store.proofs.Maps.{taken_out}
use Rattle.shared_store.proofs.reads.enter.Goals as goal

-- what is not true is false
is_false : (b : Bool) → not b ≡ true → b ≡ false
is_false false is = refl
is_false true is = cc

pub returns-in-Ok-clause-new : goal.returns-in-Ok-clause-new
returns-in-Ok-clause-new c new =
    ap (remove_key (is_place c.args.place)) c.in-Ok.ensures.keys
    ∙ taken_out c.args.places.now.keys c.args.place (is_false _ (sym c.in-Ok.ensures.added ∙ new))
