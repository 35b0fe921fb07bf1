-- Where a row is seen, or a commit wrote, a reply accepted a write.
use Rattle.std.proofs.Common.{◌≡◌, ℕ, ◌+◌, ◌-◌, zero, suc, nat_le, Bool, true, false, cond, ◌&&◌, ◌||◌, not, List, [], ◌∷◌, take, Option, None, Some, refl, sym, ap, ◌∙◌, subst}
use Rattle.std.specs.List.{cons_option, filter, filter_map, last_or, list_all, list_any, range_with_len, slice_get}
use Rattle.std.specs.Option.{option_map_or}
use Rattle.std.specs.Prelude.{if◌then◌else◌, is_some, option_and_then, option_map, unwrap_or}
use Rattle.std.proofs.lemmas.Bool.{and_from, or_right}
use Rattle.std.proofs.lemmas.List.Folds.{list_any-append}
use Rattle.cell_model.specs.declared.cell.Cell.{Cell}
use Rattle.isolation_spec.specs.Contents.{State, at_place, is_place}
use Rattle.isolation_spec.specs.Machine.{write_set_at, writes_place}
use Rattle.isolation_spec.specs.declared.place.Place.{Place}
use Rattle.si_machine.proofs.Steps.{got-map}
use Rattle.outcome_spec.specs.Entries.{Entry, is_end, is_same, snapshot_in, thread}
use Rattle.outcome_spec.specs.Runs.{Span, accepted_write, commit_count, commit_line, commits_as, committed_writes, span_from, transaction_with, transactions_of, up_to_end, writes_in}
use Rattle.outcome_counts.specs.Openings.{AreOpenings, opening_of}
use Rattle.outcome_judge.specs.Commits.{commit_writes, commits_from, first_of}
use Rattle.outcome_judge.specs.KeyLists.{is_written_in}
use Rattle.outcome_judge.specs.Own.{changes_of, is_opened, own_one, own_writes}
use Rattle.outcome_judge.specs.Seen.{IsOutput, base_at, seen_up_to, snapshot_at}
use Rattle.outcome_judge.specs.Targets.{covers, row_target}
use Rattle.outcome_judge.specs.Timed.{TimedWrite, after_writes, left_at, timed, timed_one, up_to}
use Rattle.outcome_judge.specs.Writers.{history_in}
use Rattle.outcome_judge.specs.Written.{written_by}
use Rattle.outcome_judge.proofs.Committing.{all-at, line-of}
use Rattle.outcome_judge.proofs.History.{state-is}
use Rattle.outcome_judge.proofs.Laid.{at-after}
use Rattle.outcome_judge.proofs.Noted.{symmetric}
use Rattle.outcome_judge.proofs.Numbering.{entered-writes}
use Rattle.outcome_judge.proofs.Seen.{base-rises}
use Rattle.outcome_judge.proofs.Targets.{row-covers, row-wrote}

-- What some of those that are kept pass, some of all pass.
any-kept : {X : Type 0} (q p : X → Bool) (xs : List X) → list_any q (filter p xs) ≡ true → list_any q xs ≡ true
any-kept q p [] h = h
any-kept {X = X} q p (x ∷ xs) h = by (p x) h (any-kept q p xs)
  where
    by : (b : Bool) → list_any q (cond b (x ∷ filter p xs) (filter p xs)) ≡ true → (list_any q (filter p xs) ≡ true → list_any q xs ≡ true) → (q x || list_any q xs) ≡ true
    by true k rest = first (q x) k rest
      where
        first : (b : Bool) → (b || list_any q (filter p xs)) ≡ true → (list_any q (filter p xs) ≡ true → list_any q xs ≡ true) → (b || list_any q xs) ≡ true
        first true k rest = refl
        first false k rest = rest k
    by false k rest = or_right (q x) (list_any q xs) (rest k)

-- ---- writes

module _ (place : Place) where
  -- a write is of the place
  abbrev is_of : TimedWrite → Bool
  is_of write = is_place place write.place

  -- One of some writes is of the place.
  abbrev are_of : List TimedWrite → Bool
  are_of writes = list_any is_of writes

  -- With an accepted write in front the place is written where that is of it, or it was.
  written-cons : (entry : Entry) (entries : List Entry) → is_written_in (entry ∷ entries) place ≡ (option_map_or (λ write. is_place place write.0) (accepted_write entry) false || is_written_in entries place)
  written-cons entry entries = by (accepted_write entry)
    where
      by : (o : Option (Place × Option (List Cell))) → list_any (is_place place) (cons_option (option_map (λ write. write.0) o) (filter_map written_by entries)) ≡ (option_map_or (λ write. is_place place write.0) o false || is_written_in entries place)
      by None = refl
      by (Some write) = refl

  -- A transaction's own writes are ones that replies accept.
  own-written : (owner at : ℕ) (openings : List (Option ℕ)) (entries : List Entry) → are_of (own_writes owner at openings entries) ≡ true → is_written_in entries place ≡ true
  own-written owner at [] entries h = absurd (let never : ⊥ = cc in never)
  own-written owner at (opening ∷ openings) [] h = absurd (let never : ⊥ = cc in never)
  own-written owner at (opening ∷ openings) (entry ∷ entries) h =
      written-cons entry entries
      ∙ by (is_opened owner opening) (accepted_write entry) (sym (list_any-append is_of (own_one owner at opening entry) (own_writes owner (at + 1) openings entries)) ∙ h) (own-written owner (at + 1) openings entries)
    where
      rest : (a b : Bool) → ((a || false) || b) ≡ true → (b ≡ true → is_written_in entries place ≡ true) → (a || is_written_in entries place) ≡ true
      rest true b k more = refl
      rest false b k more = more k

      by : (b : Bool) (o : Option (Place × Option (List Cell)))
          → (are_of (if b then option_map_or (λ change. timed_one (at + 1) change ∷ []) o [] else []) || are_of (own_writes owner (at + 1) openings entries)) ≡ true
          → (are_of (own_writes owner (at + 1) openings entries) ≡ true → is_written_in entries place ≡ true) → (option_map_or (λ write. is_place place write.0) o false || is_written_in entries place) ≡ true
      by false o k more = or_right (option_map_or (λ write. is_place place write.0) o false) (is_written_in entries place) (more k)
      by true None k more = more k
      by true (Some write) k more = rest (is_place place write.0) (are_of (own_writes owner (at + 1) openings entries)) k more

  -- Writes are of the same places when they are made at another time.
  timed-same : (time : ℕ) (writes : List TimedWrite) → are_of (timed time (changes_of writes)) ≡ are_of writes
  timed-same time [] = refl
  timed-same time (write ∷ writes) = ap (λ (b : Bool). is_place place write.place || b) (timed-same time writes)

  module _ (openings : List (Option ℕ)) (entries : List Entry) where
    -- What a commit wrote are writes that replies accept.
    commit-written : (number : ℕ) → are_of (commit_writes openings entries number) ≡ true → is_written_in entries place ≡ true
    commit-written number = by (first_of (commits_as number) entries)
      where
        made : (at : ℕ) (opening : Option ℕ) → are_of (option_map_or (λ owner. timed number (changes_of (up_to at (own_writes owner 0 openings entries)))) opening []) ≡ true → is_written_in entries place ≡ true
        made at None h = absurd (let never : ⊥ = cc in never)
        made at (Some owner) h =
            own-written owner 0 openings entries
            (any-kept is_of (λ write. nat_le write.time at) (own_writes owner 0 openings entries) (sym (timed-same number (up_to at (own_writes owner 0 openings entries))) ∙ h))

        by : (first : Option ℕ) → are_of (option_map_or (λ at. option_map_or (λ owner. timed number (changes_of (up_to at (own_writes owner 0 openings entries)))) (opening_of openings at) []) first []) ≡ true → is_written_in entries place ≡ true
        by None h = absurd (let never : ⊥ = cc in never)
        by (Some at) h = made at (opening_of openings at) h

    -- So are those of commits one after the other.
    commits-written : (first count : ℕ) → are_of (commits_from openings entries first count) ≡ true → is_written_in entries place ≡ true
    commits-written first zero h = absurd (let never : ⊥ = cc in never)
    commits-written first (suc count) h =
        by (are_of (commit_writes openings entries first)) refl (commits-written (first + 1) count) (sym (list_any-append is_of (commit_writes openings entries first) (commits_from openings entries (first + 1) count)) ∙ h)
      where
        by : (b : Bool) → are_of (commit_writes openings entries first) ≡ b → (are_of (commits_from openings entries (first + 1) count) ≡ true → is_written_in entries place ≡ true)
            → (b || are_of (commits_from openings entries (first + 1) count)) ≡ true → is_written_in entries place ≡ true
        by true is rest k = commit-written first is
        by false is rest k = rest k

  -- ---- rows

  -- Where no write is of the place, none is left there.
  none-left : (writes : List TimedWrite) → are_of writes ≡ false → left_at place writes ≡ None
  none-left writes h = ap (λ (ws : List TimedWrite). option_map (λ (write : TimedWrite). write.row) (last_or None ws)) (none writes h)
    where
      none : (writes : List TimedWrite) → are_of writes ≡ false → filter is_of writes ≡ []
      none [] h = refl
      none (write ∷ writes) h = by (is_of write) h (none writes)
        where
          by : (b : Bool) → (b || are_of writes) ≡ false → (are_of writes ≡ false → filter is_of writes ≡ []) → cond b (write ∷ filter is_of writes) (filter is_of writes) ≡ []
          by true k rest = absurd (let never : ⊥ = cc in never)
          by false k rest = rest k

  -- A row behind writes is of one of them, or stood before.
  behind-writes : (rows : State) (writes : List TimedWrite) → at_place (after_writes rows writes) place ≡ unwrap_or (left_at place writes) (at_place rows place) → is_some (at_place (after_writes rows writes) place) ≡ true
      → (are_of writes || is_some (at_place rows place)) ≡ true
  behind-writes rows writes is h = by (are_of writes) refl
    where
      by : (b : Bool) → are_of writes ≡ b → (b || is_some (at_place rows place)) ≡ true
      by true k = refl
      by false k = ap is_some (sym (is ∙ ap (λ (o : Option (Option (List Cell))). unwrap_or o (at_place rows place)) (none-left writes k))) ∙ h

  -- where a transaction sees a row, a reply accepted a write
  pub seen-written : (openings : List (Option ℕ)) (entries : List Entry) → IsOutput openings entries → (taken owner at : ℕ) → take taken entries ≡ entries → is_some (at_place (seen_up_to openings entries taken owner at) place) ≡ true → is_written_in entries place ≡ true
  seen-written openings entries output taken owner at all h =
      by (are_of own) refl (behind-writes (base_at entries owner) own (at-after (base_at entries owner) own place (base-rises entries owner)) h)
    where
      own : List TimedWrite
      own = up_to at (own_writes owner 0 (take taken openings) (take taken entries))

      committed : List TimedWrite
      committed = up_to (snapshot_at entries owner) (commits_from openings entries 1 (commit_count entries))

      base-is : base_at entries owner ≡ after_writes [] committed
      base-is =
          state-is entries output.rises output.outside (subst (AreOpenings entries) output.each output.own) (snapshot_at entries owner)
          ∙ ap (λ (os : List (Option ℕ)). after_writes [] (up_to (snapshot_at entries owner) (commits_from os entries 1 (commit_count entries)))) (sym output.each)

      of-base : is_some (at_place (base_at entries owner) place) ≡ true → is_written_in entries place ≡ true
      of-base h =
          based (are_of committed) refl
          (behind-writes [] committed (at-after [] committed place tt) (ap (λ (s : State). is_some (at_place s place)) (sym base-is) ∙ h))
        where
          based : (b : Bool) → are_of committed ≡ b → (b || false) ≡ true → is_written_in entries place ≡ true
          based true is k = commits-written openings entries 1 (commit_count entries) (any-kept is_of (λ write. nat_le write.time (snapshot_at entries owner)) (commits_from openings entries 1 (commit_count entries)) is)
          based false is k = absurd (let never : ⊥ = cc in never)

      by : (b : Bool) → are_of own ≡ b → (b || is_some (at_place (base_at entries owner) place)) ≡ true → is_written_in entries place ≡ true
      by true is k =
          subst (λ (es : List Entry). is_written_in es place ≡ true) all
          (own-written owner 0 (take taken openings) (take taken entries) (any-kept is_of (λ write. nat_le write.time at) (own_writes owner 0 (take taken openings) (take taken entries)) is))
      by false is k = of-base k

  -- ---- commits

  -- Replies up to an end have no more than all.
  ended-any : (q : Entry → Bool) (entries : List Entry) → list_any q (up_to_end entries) ≡ true → list_any q entries ≡ true
  ended-any q [] h = h
  ended-any q (entry ∷ entries) h = by (is_end entry.reply.said) (q entry) h (ended-any q entries)
    where
      by : (b c : Bool) → list_any q (cond b (entry ∷ []) (entry ∷ up_to_end entries)) ≡ true → (list_any q (up_to_end entries) ≡ true → list_any q entries ≡ true) → (q entry || list_any q entries) ≡ true
      by true c k rest = two (q entry) k
        where
          two : (b : Bool) → (b || false) ≡ true → (b || list_any q entries) ≡ true
          two true k = refl
          two false k = absurd (let never : ⊥ = cc in never)
      by false c k rest = two (q entry) k rest
        where
          two : (b : Bool) → (b || list_any q (up_to_end entries)) ≡ true → (list_any q (up_to_end entries) ≡ true → list_any q entries ≡ true) → (b || list_any q entries) ≡ true
          two true k rest = refl
          two false k rest = rest k

  -- What replies of each transaction have the replies have.
  spans-any : (q : Entry → Bool) (entries : List Entry) → list_all (λ (t : Span). not (list_any q t.replies) || list_any q entries) (transactions_of entries) ≡ true
  spans-any q [] = refl
  spans-any q (entry ∷ entries) = by (snapshot_in entry.reply.said) (weaker (transactions_of entries) (spans-any q entries))
    where
      implied : (a b : Bool) → (a ≡ true → b ≡ true) → (not a || b) ≡ true
      implied true b h = h refl
      implied false b h = refl

      weaker : (ts : List Span) → list_all (λ (t : Span). not (list_any q t.replies) || list_any q entries) ts ≡ true → list_all (λ (t : Span). not (list_any q t.replies) || (q entry || list_any q entries)) ts ≡ true
      weaker [] h = refl
      weaker (t ∷ ts) h = one (list_any q t.replies) (list_any q entries) (q entry) h (weaker ts)
        where
          one : (a b c : Bool) → ((not a || b) && list_all (λ (s : Span). not (list_any q s.replies) || list_any q entries) ts) ≡ true
              → (list_all (λ (s : Span). not (list_any q s.replies) || list_any q entries) ts ≡ true → list_all (λ (s : Span). not (list_any q s.replies) || (q entry || list_any q entries)) ts ≡ true)
              → ((not a || (c || b)) && list_all (λ (s : Span). not (list_any q s.replies) || (q entry || list_any q entries)) ts) ≡ true
          one true true true k rest = rest k
          one true true false k rest = rest k
          one true false c k rest = absurd (let never : ⊥ = cc in never)
          one false b c k rest = rest k

      by : (shown : Option ℕ) → list_all (λ (t : Span). not (list_any q t.replies) || (q entry || list_any q entries)) (transactions_of entries) ≡ true
          → list_all (λ (t : Span). not (list_any q t.replies) || (q entry || list_any q entries)) (cons_option (option_map (span_from entry entries) shown) (transactions_of entries)) ≡ true
      by None rest = rest
      by (Some snapshot) rest =
          and_from (not (list_any q (up_to_end (entry ∷ thread entry.reply.who entries))) || (q entry || list_any q entries)) (list_all (λ (t : Span). not (list_any q t.replies) || (q entry || list_any q entries)) (transactions_of entries))
          (implied (list_any q (up_to_end (entry ∷ thread entry.reply.who entries))) (q entry || list_any q entries)
          (λ h. first (q entry) (ended-any q (entry ∷ thread entry.reply.who entries) h))) rest
        where
          first : (b : Bool) → (b || list_any q (thread entry.reply.who entries)) ≡ true → (b || list_any q entries) ≡ true
          first true k = refl
          first false k = any-kept q (λ e. is_same e.reply.who entry.reply.who) entries k

  -- a reply accepts a write of the place
  abbrev accepts : Entry → Bool
  accepts entry = option_map_or (λ write. is_place place write.0) (accepted_write entry) false

  -- The place is written where a reply accepts a write of it.
  written-any : (entries : List Entry) → is_written_in entries place ≡ list_any accepts entries
  written-any [] = refl
  written-any (entry ∷ entries) = written-cons entry entries ∙ ap (λ (b : Bool). accepts entry || b) (written-any entries)

  -- Changes of the place are those that replies accept of it.
  changes-any : (replies : List Entry) → list_any (λ (c : Place × Option (List Cell)). covers (row_target place) c.0) (filter_map accepted_write replies) ≡ list_any accepts replies
  changes-any [] = refl
  changes-any (reply ∷ replies) = by (accepted_write reply) (changes-any replies)
    where
      by : (o : Option (Place × Option (List Cell))) → list_any (λ (c : Place × Option (List Cell)). covers (row_target place) c.0) (filter_map accepted_write replies) ≡ list_any accepts replies
          → list_any (λ (c : Place × Option (List Cell)). covers (row_target place) c.0) (cons_option o (filter_map accepted_write replies)) ≡ (option_map_or (λ write. is_place place write.0) o false || list_any accepts replies)
      by None rest = rest
      by (Some write) rest =
          ap (λ (b : Bool). b || list_any (λ (c : Place × Option (List Cell)). covers (row_target place) c.0) (filter_map accepted_write replies)) (row-covers place write.0 ∙ symmetric write.0 place)
          ∙ ap (λ (b : Bool). is_place place write.0 || b) rest

  -- What the replies of a transaction write are writes that they accept.
  writes-any : (replies : List Entry) → writes_place place (writes_in replies) ≡ list_any accepts replies
  writes-any replies = sym (row-wrote place (writes_in replies)) ∙ entered-writes (row_target place) (filter_map accepted_write replies) [] ∙ changes-any replies

  -- What a commit wrote are writes that replies accept.
  committed-written : (entries : List Entry) (number : ℕ) → writes_place place (committed_writes entries (transactions_of entries) number) ≡ true → is_written_in entries place ≡ true
  committed-written entries number h = written-any entries ∙ by (option_and_then (transaction_with (transactions_of entries)) (commit_line entries number)) refl h
    where
      held : (t : Span) → (not (list_any accepts t.replies) || list_any accepts entries) ≡ true → list_any accepts t.replies ≡ true → list_any accepts entries ≡ true
      held t k is = ap (λ (b : Bool). not b || list_any accepts entries) (sym is) ∙ k

      from : (t : Span) (line : Option Entry) → option_and_then (transaction_with (transactions_of entries)) line ≡ Some t → list_any accepts t.replies ≡ true → list_any accepts entries ≡ true
      from t None is k = absurd (let never : ⊥ = cc in never)
      from t (Some line) is k =
          let its = line-of _ (transactions_of entries) t is in
          held t (all-at (λ (s : Span). not (list_any accepts s.replies) || list_any accepts entries) (transactions_of entries) t (spans-any accepts entries) its.among) k

      by : (own : Option Span) → option_and_then (transaction_with (transactions_of entries)) (commit_line entries number) ≡ own → writes_place place (option_map_or (λ t. writes_in t.replies) own []) ≡ true → list_any accepts entries ≡ true
      by None is k = absurd (let never : ⊥ = cc in never)
      by (Some t) is k = from t (commit_line entries number) is (sym (writes-any t.replies) ∙ k)

  -- where a commit wrote a place, a reply accepted a write
  pub history-written : (entries : List Entry) (number : ℕ) → writes_place place (write_set_at (history_in entries) number) ≡ true → is_written_in entries place ≡ true
  history-written entries number h =
      by (slice_get (range_with_len 1 (commit_count entries)) (number - 1))
      (ap (writes_place place) (sym (got-map (committed_writes entries (transactions_of entries)) (range_with_len 1 (commit_count entries)) (number - 1) [])) ∙ h)
    where
      by : (o : Option ℕ) → writes_place place (option_map_or (committed_writes entries (transactions_of entries)) o []) ≡ true → is_written_in entries place ≡ true
      by None k = absurd (let never : ⊥ = cc in never)
      by (Some n) k = committed-written entries n k
