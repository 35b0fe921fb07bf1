-- What a reply leaves of what others have open, and whether a session is in a transaction, by the
-- lines and by the machine.
use Rattle.std.proofs.Common.{◌≡◌, ℕ, Bool, true, false, cond, eqb, List, [], ◌∷◌, ◌++◌, map, length, Option, None, Some, refl, sym, ap, ◌∙◌, append-nil, ◌⊎◌, inl, inr}
use Rattle.std.specs.Prelude.{option_map, is_some, fold}
use Rattle.std.specs.Option.{option_or}
use Rattle.std.specs.List.{find}
use Rattle.std.proofs.lemmas.List.{map-append}
use Rattle.std.proofs.lemmas.List.Elements.{filter-append}
use Rattle.std.proofs.lemmas.List.Sums.{fold_push}
use Rattle.cell_model.specs.declared.cell.Cell.{Cell}
use Rattle.isolation_spec.specs.Contents.{WriteSet}
use Rattle.isolation_spec.specs.declared.place.Place.{Place}
use Rattle.isolation_spec.specs.Machine.{IsolationMachine, transaction_of, Transaction}
use Rattle.workload_spec.specs.declared.command.Command.{Command}
use Rattle.workload_spec.specs.declared.reply.Who.{Who}
use Rattle.workload_spec.specs.declared.reply.Who.TheVariants.{Session, Worker}
use Rattle.workload_spec.specs.declared.reply.Said.{Said}
use Rattle.workload_spec.specs.declared.reply.Said.TheVariants as said
use Rattle.outcome_spec.specs.Entries.{Entry, is_same, snapshot_in, is_end}
use Rattle.outcome_spec.specs.Forms.{is_within, within_behind}
use Rattle.timeline_spec.specs.Timeline.{open_of}
use Rattle.outcome_spec.specs.Entries.{thread}
use Rattle.timeline_laws.proofs.Order.{same-is}
use Rattle.timeline_laws.proofs.Machine.{at-begun, at-ended, at-written, entering, eqb-turned, its-session, eqb-itself}
use Rattle.timeline_laws.proofs.Steps.{Change, quiet, opens, writes, ends, commits}

-- ---- another's reply leaves what a session or worker has open

-- What is open, or else nothing, is what is open.
or-kept : (old : Option Transaction) → option_or old None ≡ old
or-kept None = refl
or-kept (Some t) = refl

-- A write of one session leaves the transaction that is found for another.
entering-other : (writer session : ℕ) (place : Place) (change : Option (List Cell)) (found : Option Transaction) (ts : List Transaction) → find (λ t. eqb t.session session) ts ≡ found
    → eqb writer session ≡ false → option_map (entering writer place change) found ≡ found
entering-other writer session place change None ts at apart = refl
entering-other writer session place change (Some t) ts at apart =
    let e : t.session ≡ session = its-session session ts t at in
    let f : eqb t.session writer ≡ false = ap (λ (s : ℕ). eqb s writer) e ∙ eqb-turned session writer ∙ apart in
    rw f refl

-- Two sessions that are one have one number.
session-is : (a b : ℕ) → Session a ≡ Session b → a ≡ b
session-is a b h = cc

-- A reply of another session leaves what a session has open.
stays : (session other : ℕ) (asked : Command) (told : Said) (machine after : IsolationMachine) → eqb session other ≡ false → Change (Session session) asked told machine after
    → transaction_of other after ≡ transaction_of other machine
stays session other asked told machine after apart (quiet q) = ap (transaction_of other) q.same
stays session other asked told machine after apart (opens o) =
    let same : session ≡ o.session = session-is session o.session o.who_is in
    ap (transaction_of other) o.is ∙ at-begun o.session other machine
    ∙ ap (λ (b : Bool). option_or (transaction_of other machine) (cond b (Some (record { session = o.session; snapshot = length machine.history; own = [] })) None)) (ap (λ (s : ℕ). eqb s other) (sym same) ∙ apart)
    ∙ or-kept (transaction_of other machine)
stays session other asked told machine after apart (writes w) =
    let same : session ≡ w.session = session-is session w.session w.who_is in
    ap (transaction_of other) w.is ∙ at-written w.session w.place w.change other machine
    ∙ entering-other w.session other w.place w.change (transaction_of other machine) machine.open_transactions refl (ap (λ (s : ℕ). eqb s other) (sym same) ∙ apart)
stays session other asked told machine after apart (ends e) =
    let same : session ≡ e.session = session-is session e.session e.who_is in
    ap (transaction_of other) e.is ∙ at-ended e.session other machine
    ∙ ap (λ (b : Bool). cond b None (transaction_of other machine)) (eqb-turned other e.session ∙ ap (λ (s : ℕ). eqb s other) (sym same) ∙ apart)
stays session other asked told machine after apart (commits c) =
    let same : session ≡ c.session = session-is session c.session c.who_is in
    ap (transaction_of other) c.is ∙ at-ended c.session other machine
    ∙ ap (λ (b : Bool). cond b None (transaction_of other machine)) (eqb-turned other c.session ∙ ap (λ (s : ℕ). eqb s other) (sym same) ∙ apart)

-- a worker's reply leaves the machine
worker-same : (worker : ℕ) (asked : Command) (told : Said) (machine after : IsolationMachine) → Change (Worker worker) asked told machine after → after ≡ machine
worker-same worker asked told machine after (quiet q) = q.same
worker-same worker asked told machine after (opens o) = absurd (let e : Worker worker ≡ Session o.session = o.who_is in let never : ⊥ = cc in never)
worker-same worker asked told machine after (writes w) = absurd (let e : Worker worker ≡ Session w.session = w.who_is in let never : ⊥ = cc in never)
worker-same worker asked told machine after (ends e) = absurd (let f : Worker worker ≡ Session e.session = e.who_is in let never : ⊥ = cc in never)
worker-same worker asked told machine after (commits c) = absurd (let e : Worker worker ≡ Session c.session = c.who_is in let never : ⊥ = cc in never)

-- a reply leaves what others have open as it was
pub others-open : (who other : Who) (asked : Command) (told : Said) (machine after : IsolationMachine) → is_same who other ≡ false → Change who asked told machine after
    → open_of other after ≡ open_of other machine
others-open who (Worker b) asked told machine after apart h = refl
others-open (Session a) (Session b) asked told machine after apart h = stays a b asked told machine after apart h
others-open (Worker a) (Session b) asked told machine after apart h = ap (transaction_of b) (worker-same a asked told machine after h)

-- ---- in a transaction or not

-- A reply that neither opens nor ends a transaction leaves whether one is open.
quiet-within : (w : Bool) (told : Said) → snapshot_in told ≡ None → is_end told ≡ false → within_behind w told ≡ w
quiet-within w (said.At n) h k = absurd (let never : ⊥ = cc in never)
quiet-within w (said.Committed n) h k = absurd (let never : ⊥ = cc in never)
quiet-within w said.Aborted h k = absurd (let never : ⊥ = cc in never)
quiet-within w _ h k = refl

-- Changing what is open keeps whether anything is open.
still-some : (f : Transaction → Transaction) (o : Option Transaction) → is_some (option_map f o) ≡ is_some o
still-some f None = refl
still-some f (Some t) = refl

-- Behind an abort or a commit of nothing, its session is in no transaction.
ended-within : (w : Bool) (told : Said) (own : WriteSet) → (told ≡ said.Aborted) ⊎ ((told ≡ said.Committed None) × (own ≡ [])) → within_behind w told ≡ false
ended-within w told own (inl is) = ap (within_behind w) is
ended-within w told own (inr is) = ap (within_behind w) is.0

-- The transaction that a session has open behind its begin.
abbrev new_open : ℕ → IsolationMachine → Transaction
new_open session machine = record { session = session; snapshot = length machine.history; own = [] }

-- the state behind its own reply
own-state : (who : Who) (asked : Command) (told : Said) (machine after : IsolationMachine) (w : Bool) → w ≡ is_some (open_of who machine) → Change who asked told machine after
    → within_behind w told ≡ is_some (open_of who after)
own-state who asked told machine after w is (quiet q) = quiet-within w told q.opens q.on ∙ is ∙ ap (λ (m : IsolationMachine). is_some (open_of who m)) (sym q.same)
own-state who asked told machine after w is (opens o) =
    ap (within_behind w) o.said_is
    ∙ sym (ap (λ (v : Who). is_some (open_of v after)) o.who_is ∙ ap (λ (m : IsolationMachine). is_some (transaction_of o.session m)) o.is
    ∙ ap is_some (at-begun o.session o.session machine)
    ∙ ap (λ (f : Option Transaction). is_some (option_or f (cond (eqb o.session o.session) (Some (new_open o.session machine)) None))) o.none
    ∙ ap (λ (b : Bool). is_some (cond b (Some (new_open o.session machine)) None)) (eqb-itself o.session))
own-state who asked told machine after w is (writes x) =
    ap (within_behind w) x.said_is ∙ is
    ∙ ap (λ (v : Who). is_some (open_of v machine)) x.who_is
    ∙ sym (ap (λ (v : Who). is_some (open_of v after)) x.who_is ∙ ap (λ (m : IsolationMachine). is_some (transaction_of x.session m)) x.is
    ∙ ap is_some (at-written x.session x.place x.change x.session machine) ∙ still-some (entering x.session x.place x.change) (transaction_of x.session machine))
own-state who asked told machine after w is (ends x) =
    ended-within w told x.t.own x.said_is
    ∙ sym (ap (λ (v : Who). is_some (open_of v after)) x.who_is ∙ ap (λ (m : IsolationMachine). is_some (transaction_of x.session m)) x.is
    ∙ ap is_some (at-ended x.session x.session machine) ∙ ap (λ (b : Bool). is_some (cond b None (transaction_of x.session machine))) (eqb-itself x.session))
own-state who asked told machine after w is (commits x) =
    ap (within_behind w) x.said_is
    ∙ sym (ap (λ (v : Who). is_some (open_of v after)) x.who_is ∙ ap (λ (m : IsolationMachine). is_some (transaction_of x.session m)) x.is
    ∙ ap is_some (at-ended x.session x.session machine) ∙ ap (λ (b : Bool). is_some (cond b None (transaction_of x.session machine))) (eqb-itself x.session))

-- One more reply changes whether one is in a transaction only if it is one's own.
within-push : (who : Who) (front : List Entry) (entry : Entry) (b : Bool) → is_same entry.reply.who who ≡ b
    → is_within who (front ++ entry ∷ []) ≡ cond b (within_behind (is_within who front) entry.reply.said) (is_within who front)
within-push who front entry true is =
    ap (λ (es : List Entry). fold within_behind false (map (λ e. e.reply.said) es)) (filter-append (λ e. is_same e.reply.who who) front (entry ∷ []) ∙ ap (λ (b : Bool). thread who front ++ cond b (entry ∷ []) []) is)
    ∙ ap (fold within_behind false) (map-append (λ (e : Entry). e.reply.said) (thread who front) (entry ∷ []))
    ∙ fold_push within_behind false (map (λ e. e.reply.said) (thread who front)) entry.reply.said
within-push who front entry false is =
    ap (λ (es : List Entry). fold within_behind false (map (λ e. e.reply.said) es)) (filter-append (λ e. is_same e.reply.who who) front (entry ∷ []) ∙ ap (λ (b : Bool). thread who front ++ cond b (entry ∷ []) []) is ∙ append-nil (thread who front))

-- the lines say of each session and worker what the machine says
abbrev pub Agree : List Entry → IsolationMachine → Type 0
Agree front machine = (who : Who) → is_within who front ≡ is_some (open_of who machine)

-- one more reply, after which the lines still say who is in a transaction, as the machine does
pub agree-by : (front : List Entry) (machine after : IsolationMachine) (entry : Entry) → Agree front machine → Change entry.reply.who entry.command entry.reply.said machine after
    → (who : Who) (b : Bool) → is_same entry.reply.who who ≡ b → is_within who (front ++ entry ∷ []) ≡ is_some (open_of who after)
agree-by front machine after entry h change who true is =
    within-push who front entry true is
    ∙ ap (λ (w : Who). within_behind (is_within w front) entry.reply.said) (sym (same-is entry.reply.who who is))
    ∙ own-state entry.reply.who entry.command entry.reply.said machine after (is_within entry.reply.who front) (h entry.reply.who) change
    ∙ ap (λ (w : Who). is_some (open_of w after)) (same-is entry.reply.who who is)
agree-by front machine after entry h change who false is =
    within-push who front entry false is ∙ h who ∙ ap is_some (sym (others-open entry.reply.who who entry.command entry.reply.said machine after is change))
