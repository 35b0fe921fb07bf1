-- Room for the events of two sessions.
use Rattle.std.specs.Prelude.{ℕ}
use Rattle.shared_store.specs.Store.{HasRoomFor}
use Rattle.shared_store.specs.declared.session.Session.{Session}

-- The one session may make so many events more, and the other so many.
abbrev pub HaveRoom : ℕ → Session → ℕ → Session → Type 0
HaveRoom many one few two = HasRoomFor many one × HasRoomFor few two
