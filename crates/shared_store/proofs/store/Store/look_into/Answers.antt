use Rattle.std.proofs.Common.{refl, ap, ◌∙◌, ◌++◌, ◌∷◌, []}
use Rattle.event_spec.specs.Plans.{BlockLook}
use Rattle.shared_store.proofs.Scanned.{on_ok}
use Rattle.shared_store.proofs.store.Store.look_into.Goals as goal

pub returns-in_err-look : goal.returns-in_err-look
returns-in_err-look g c = record {
  told = _;
  alone = c.in_err-look.ensures.alone;
  added = on_ok _ c.from_residual.result c.from_residual.ensures.0;
}

pub returns-in_err-push : goal.returns-in_err-push
returns-in_err-push g c = record {
  told = _;
  alone = c.in_ok-look.ensures.alone;
  added = on_ok _ c.from_residual-in_err-push.result c.from_residual-in_err-push.ensures.0;
}

pub returns : goal.returns
returns g c = record {
  told = _;
  alone = c.in_ok-look.ensures.alone;
  added = record {
    look = c.in_ok-look.look;
    told_is = refl;
    seen = c.in_ok-look.ensures.seen;
    now_is = c.in_ok-push.ensures.items ∙ ap (λ (seen : BlockLook). c.args.looks.now.items ++ seen ∷ []) c.new.ensures;
  };
}
