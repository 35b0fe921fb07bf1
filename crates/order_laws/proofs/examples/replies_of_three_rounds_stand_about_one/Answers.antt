use Rattle.std.proofs.Common.{[], ◌∷◌, refl}
use Rattle.workload_spec.specs.declared.reply.Who.TheVariants.{Session, Worker}
use Rattle.order_laws.specs.Examples.{reply_at}
use Rattle.order_laws.proofs.examples.replies_of_three_rounds_stand_about_one.Goals as goal

pub returns : goal.returns
returns c = record {
  past = reply_at 1 (Session 2) 1 ∷ [];
  front = reply_at 2 (Session 1) 1 ∷ [];
  own = reply_at 2 (Session 2) 1 ∷ [];
  rest = reply_at 2 (Session 2) 3 ∷ [];
  back = reply_at 2 (Worker 2) 2 ∷ [];
  later = reply_at 3 (Session 1) 1 ∷ [];
  whole = refl;
  past_are = refl;
  front_are = refl;
  own_are = refl;
  rest_are = refl;
  back_are = refl;
  later_are = refl;
}
