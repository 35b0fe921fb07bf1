-- What a session is, from what its pass knows.
use Rattle.std.proofs.Common.{◌≡◌, ℕ, List, [], ◌∷◌, ap, ◌∙◌}
use Rattle.std.specs.Prelude.{All}
use Rattle.std.proofs.lemmas.List.Elements.{All-cons, All-nil}
use Rattle.event_spec.specs.Effects.{CoreEvent}
use Rattle.event_spec.specs.Parts.{CorePart, Parts}
use Rattle.event_spec.specs.Replay.{opening}
use Rattle.core_laws.specs.Hall.Hall.{core_meaning}
use Rattle.hall_rule.specs.EventLog.{NamedTo}
use Rattle.hall_rule.specs.Meaning.{Meaning}
use Rattle.hall_rule.specs.declared.view.Entry.{Entry}
use Rattle.event_spec.specs.Lawful.{Opened}
use Rattle.store_laws.specs.Logs.{log_of, logged_of, store_meaning}
use Rattle.store_laws.proofs.Entries.{lawful_same}
use Rattle.shared_store.specs.Store.{IsAt, IsNamed, IsSession, IsStore, StoreView, own_of, reads_of, shape_in}
use Rattle.shared_store.specs.Reads.{ReadsFit}
use Rattle.shared_store.specs.declared.session.Session.{Session}

-- what the core means to the store's hall is what it means to the laws
abbrev pub hall_meaning : StoreView → Meaning CorePart CoreEvent Opened ℕ
hall_meaning store = core_meaning store.core.shape store.core.parts store.passes

-- the store's hall and the laws mean the same by the core
pub is_meaning : (store : StoreView) → IsStore store → hall_meaning store ≡ store_meaning (shape_in store)
is_meaning store is =
    ap (λ (s : Parts). core_meaning store.core.shape s store.passes) is.opening.parts_are
    ∙ ap (λ n. core_meaning store.core.shape (opening store.core.shape) n) is.passes

-- Entries named up to a number stand in the log under sessions from 1 up to it.
each_named : (n : ℕ) (log : List (Entry CoreEvent)) → NamedTo n log → All (IsNamed n) (log_of log)
each_named n [] named = All-nil (IsNamed n)
each_named n (e ∷ log) named = All-cons (IsNamed n) (logged_of e) (log_of log) (named.0, named.1) (each_named n log named.2)

-- a session is one where its pass is
pub session_is : (store : StoreView) (s : Session) → IsAt store s.session s.pass.seat s.pass.hands (own_of s) → ReadsFit (shape_in store) (reads_of s) → IsSession store s
session_is store s is fits = record {
  stands = is;
  own = is.within.knows.own_is;
  lawful = lawful_same (shape_in store) s.pass.seat.me.0.log is.within.pass.of.1.lawful;
  named = each_named (shape_in store).passes s.pass.seat.me.0.log is.within.pass.of.1.tied.named;
  fits = fits;
}
