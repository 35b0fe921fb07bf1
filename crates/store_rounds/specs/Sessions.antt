-- Sessions of a store between two commands.
use Rattle.shared_store.specs.Store.{IsFree, IsSession, StoreView}
use Rattle.shared_store.specs.declared.session.Session.{Session}

-- A session of the store that has lent no block: it may be asked any command.
pub record IsFreeSession (store : StoreView) (session : Session) : Type 0 where
  pub stands : IsSession store session
  pub free : IsFree session
