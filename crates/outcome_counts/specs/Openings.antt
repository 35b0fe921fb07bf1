-- Where the transaction of each reply is opened.
use Rattle.std.specs.Prelude.{◌≡◌, ℕ, ◌<◌, List, [], ◌∷◌, ◌++◌, drop, length, slice_get, is_some}
use Rattle.std.specs.Prelude.{true, if◌then◌else◌, Option, None, Some, option_map, option_and_then}
use Rattle.std.specs.Prelude.{◌+◌}
use Rattle.std.specs.BTreeMap.{get}
use Rattle.std.specs.Ordering.{nat_cmp}
use Rattle.workload_spec.specs.declared.reply.Who.{Who}
use Rattle.workload_spec.specs.declared.reply.Who.TheVariants.{Session, Worker}
use Rattle.outcome_spec.specs.Entries.{Entry, is_same, snapshot_in, is_end}
use Rattle.outcome_spec.specs.Forms.{is_worker}
use Rattle.outcome_spec.specs.Runs.{Span, span_from, transactions_of, transaction_with}
use Rattle.outcome_counts.specs.declared.openings.Opened.{Opened}

-- the transaction that the first of the replies opens, and the one at a place
abbrev pub opened_by : List Entry → Option Span
opened_by [] = None
opened_by (entry ∷ behind) = option_map (span_from entry behind) (snapshot_in entry.reply.said)

abbrev pub opened_at : ℕ → List Entry → Option Span
opened_at place entries = opened_by (drop place entries)

-- where the transaction of the reply at a place is opened, if it is in one
abbrev pub opening_of : List (Option ℕ) → ℕ → Option ℕ
opening_of openings place = option_and_then (λ opening. opening) (slice_get openings place)

-- The openings are those of all replies: each names the transaction of its reply, and each is one.
pub record AreOpenings (entries : List Entry) (openings : List (Option ℕ)) : Type 0 where
  pub long : length openings ≡ length entries
  pub own : (front : List Entry) (entry : Entry) (rest : List Entry) → entries ≡ front
      ++ entry ∷ rest
      → transaction_with (transactions_of entries) entry
      ≡ option_and_then (λ place. opened_at place entries) (opening_of openings (length front))
  pub there : (place opening : ℕ) → opening_of openings place ≡ Some opening
      → is_some (opened_at opening entries) ≡ true

-- they are those of the first so many
pub record AreOpeningsUpTo (entries : List Entry) (taken : ℕ) (openings : List (Option ℕ)) : Type 0 where
  pub long : length openings ≡ taken
  pub own : (front : List Entry) (entry : Entry) (rest : List Entry) → entries ≡ front
      ++ entry ∷ rest → length front < taken
      → transaction_with (transactions_of entries) entry
      ≡ option_and_then (λ place. opened_at place entries) (opening_of openings (length front))
  pub there : (place opening : ℕ) → opening_of openings place ≡ Some opening
      → is_some (opened_at opening entries) ≡ true

-- where the open transaction of a session is opened; a worker has none
abbrev pub open_of : Opened → Who → Option ℕ
open_of opened (Session number) = get nat_cmp opened.sessions number
open_of opened (Worker number) = None

-- where the transaction of a reply at a place is opened: there, or where the open one was
abbrev pub opening_next : Entry → ℕ → (Who → Option ℕ) → Option ℕ
opening_next entry place held = if is_some (snapshot_in entry.reply.said) then Some place
    else held entry.reply.who

-- where the open transaction of each is opened behind a reply at a place
abbrev pub own_next : Entry → ℕ → Option ℕ → Option ℕ
own_next entry place held = if is_some (snapshot_in entry.reply.said) then Some place
    else (if is_end entry.reply.said then None else held)

abbrev pub open_next : Entry → ℕ → (Who → Option ℕ) → Who → Option ℕ
open_next entry place held who =
    if is_worker entry.reply.who then held who
    else (if is_same entry.reply.who who then own_next entry place (held who) else held who)

-- the openings of replies from a place on, behind which these are open
abbrev pub openings_from : ℕ → (Who → Option ℕ) → List Entry → List (Option ℕ)
openings_from place held [] = []
openings_from place held (entry ∷ entries) = opening_next entry place held ∷ openings_from
    (place + 1) (open_next entry place held) entries

-- those of all replies
abbrev pub openings_in : List Entry → List (Option ℕ)
openings_in entries = openings_from 0 (λ who. None) entries
