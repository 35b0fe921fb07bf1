use Rattle.shared_store.proofs.Latched.{last_new, next_new}
use Rattle.embedded.proofs.tests.open.Goals as goal

pub returns-clause-one : goal.returns-clause-one
returns-clause-one c = (next_new c.in_ok-store.field-0.store 2 _ _ _ _ _ c.in-Some.ensures.items c.in-Some-pop.ensures.items c.in_ok-store.ensures.sessions).1.session

pub returns-clause-two : goal.returns-clause-two
returns-clause-two c = (last_new c.in_ok-store.field-0.store 2 _ _ _ c.in-Some.ensures.items c.in_ok-store.ensures.sessions).1.session

pub returns-clause-rest : goal.returns-clause-rest
returns-clause-rest c = (
  (next_new c.in_ok-store.field-0.store 2 _ _ _ _ _ c.in-Some.ensures.items c.in-Some-pop.ensures.items c.in_ok-store.ensures.sessions).1.rests,
  (last_new c.in_ok-store.field-0.store 2 _ _ _ c.in-Some.ensures.items c.in_ok-store.ensures.sessions).1.rests,
)

pub returns-clause-free : goal.returns-clause-free
returns-clause-free c = (
  (next_new c.in_ok-store.field-0.store 2 _ _ _ _ _ c.in-Some.ensures.items c.in-Some-pop.ensures.items c.in_ok-store.ensures.sessions).1.free,
  (last_new c.in_ok-store.field-0.store 2 _ _ _ c.in-Some.ensures.items c.in_ok-store.ensures.sessions).1.free,
)
