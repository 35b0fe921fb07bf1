-- Where transactions are opened.
use Rattle.std.specs.Prelude.{◌≡◌, false, true, is_some, List, ◌∷◌, ◌++◌}
use Rattle.outcome_spec.specs.Entries.{Entry, snapshot_in}
use Rattle.outcome_spec.specs.Forms.{is_within, is_worker}

-- A reply opens a transaction only to a session, and where that is in none behind the replies in
-- front of it.
abbrev pub OpensOutside : List Entry → Type 0
OpensOutside entries = (front : List Entry) (entry : Entry) (rest : List Entry) → entries ≡ front
    ++ entry ∷ rest
    → is_some (snapshot_in entry.reply.said) ≡ true → (is_within entry.reply.who front ≡ false)
    × (is_worker entry.reply.who ≡ false)
