-- Up to when transactions last, with a reply more in front, and who is in one, with a reply more
-- behind.
use Rattle.std.proofs.Common.{◌≡◌, ◌+◌, Bool, true, false, cond, List, [], ◌∷◌, ◌++◌, map, refl, ap, ◌∙◌}
use Rattle.std.specs.List.{filter, fold}
use Rattle.std.specs.Prelude.{is_some, if◌then◌else◌}
use Rattle.std.proofs.lemmas.List.{map-append}
use Rattle.std.proofs.lemmas.List.Elements.{filter-append}
use Rattle.std.proofs.lemmas.List.Sums.{fold-append}
use Rattle.workload_spec.specs.declared.reply.Who.{Who}
use Rattle.workload_spec.specs.declared.reply.Said.{Said}
use Rattle.workload_spec.specs.declared.reply.Said.TheVariants as said
use Rattle.outcome_spec.specs.Entries.{Entry, is_same, thread, is_end, is_accepted, snapshot_in}
use Rattle.outcome_spec.specs.Forms.{is_within, within_behind}
use Rattle.outcome_judge.specs.Held.{stop_in, stop_of}

-- a reply that ends a transaction is its stop, and any other goes on to those behind it
pub stop-cons : (entry : Entry) (entries : List Entry) → stop_in (entry ∷ entries) ≡ (if is_end entry.reply.said then entry.reply.round + 1 else stop_in entries)
stop-cons entry entries = by (is_end entry.reply.said) refl
  where
    by : (b : Bool) → is_end entry.reply.said ≡ b → stop_in (entry ∷ entries) ≡ (if b then entry.reply.round + 1 else stop_in entries)
    by true is = rw is refl
    by false is = rw is refl

-- The stop with a reply more in front, if it is one's own, by whether it ends a transaction.
thread-with : (entry : Entry) (entries : List Entry) (same : Bool)
    → stop_in (cond same (entry ∷ entries) entries) ≡ (if same then (if is_end entry.reply.said then entry.reply.round + 1 else stop_in entries) else stop_in entries)
thread-with entry entries true = stop-cons entry entries
thread-with entry entries false = refl

-- the stop of a session or worker with a reply more in front
pub stop-next : (who : Who) (entry : Entry) (entries : List Entry)
    → stop_of who (entry ∷ entries) ≡ (if is_same entry.reply.who who then (if is_end entry.reply.said then entry.reply.round + 1 else stop_of who entries) else stop_of who entries)
stop-next who entry entries = thread-with entry (thread who entries) (is_same entry.reply.who who)

-- ---- who is in a transaction

-- One is in a transaction behind a reply more as it says, if it is one's own.
within-with : (same : Bool) (before : Bool) (entry : Entry)
    → fold within_behind before (map (λ (e : Entry). e.reply.said) (cond same (entry ∷ []) [])) ≡ (if same then within_behind before entry.reply.said else before)
within-with true before entry = refl
within-with false before entry = refl

-- who is in a transaction with a reply more behind
pub within-next : (who : Who) (front : List Entry) (entry : Entry)
    → is_within who (front ++ entry ∷ []) ≡ (if is_same entry.reply.who who then within_behind (is_within who front) entry.reply.said else is_within who front)
within-next who front entry =
    let its = filter (λ (e : Entry). is_same e.reply.who who) in
    ap (λ (es : List Entry). fold within_behind false (map (λ e. e.reply.said) es)) (filter-append (λ (e : Entry). is_same e.reply.who who) front (entry ∷ []))
    ∙ ap (fold within_behind false) (map-append (λ (e : Entry). e.reply.said) (its front) (its (entry ∷ [])))
    ∙ fold-append within_behind false (map (λ (e : Entry). e.reply.said) (its front)) (map (λ (e : Entry). e.reply.said) (its (entry ∷ [])))
    ∙ within-with (is_same entry.reply.who who) (is_within who front) entry

-- a begin opens a transaction, an end closes it, and all else leaves it
pub within-by : (before : Bool) (told : Said) → within_behind before told ≡ (if is_some (snapshot_in told) then true else (if is_end told then false else before))
within-by before (said.At number) = refl
within-by before _ = refl

-- ---- what a reply is not besides

-- what opens a transaction does not end one
pub opening-is-no-end : (told : Said) → is_some (snapshot_in told) ≡ true → is_end told ≡ false
opening-is-no-end (said.At number) h = refl
opening-is-no-end _ h = absurd (let never : ⊥ = cc in never)

-- and accepts no write
pub opening-accepts-none : (told : Said) → is_some (snapshot_in told) ≡ true → is_accepted told ≡ false
opening-accepts-none (said.At number) h = refl
opening-accepts-none _ h = absurd (let never : ⊥ = cc in never)

-- nor does what ends one
pub end-accepts-none : (told : Said) → is_end told ≡ true → is_accepted told ≡ false
end-accepts-none said.Accepted h = absurd (let never : ⊥ = cc in never)
end-accepts-none _ h = refl
