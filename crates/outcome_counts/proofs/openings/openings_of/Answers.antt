use Rattle.std.proofs.Common.{◌≡◌, ◌∙◌, ◌+◌, ◌<◌, ◌≤◌, ◌⊎◌, inl, inr, ap, sym, subst, refl, ℕ, List, [], ◌∷◌, ◌++◌, length, take, drop, Option, None, Some, arith, append_assoc}
use Rattle.std.specs.List.{slice_get}
use Rattle.std.specs.Prelude.{option_and_then, is_some, true, if◌then◌else◌}
use Rattle.std.proofs.lemmas.Bool.{cases_lt}
use Rattle.std.proofs.lemmas.List.{take_at, drop_at, length-append}
use Rattle.std.proofs.lemmas.Option.{slice_get_past}
use Rattle.workload_spec.specs.declared.reply.Who.{Who}
use Rattle.outcome_spec.specs.Entries.{Entry, snapshot_in, is_same}
use Rattle.outcome_spec.specs.Runs.{transactions_of, transaction_with}
use Rattle.output_read.specs.Kept.{entries_of, entry_of}
use Rattle.outcome_counts.proofs.Starts.{kept-at, get-at}
use Rattle.outcome_counts.specs.Openings.{AreOpeningsUpTo, open_of, open_next, opening_next, opened_at, opening_of, own_next, openings_from}
use Rattle.outcome_counts.proofs.Cuts.{one-cut}
use Rattle.outcome_counts.proofs.Held.{Standing, belongs, standing-next, there}
use Rattle.outcome_spec.specs.Forms.{is_worker}
use Rattle.outcome_counts.proofs.openings.openings_of.Goals as goal
use Rattle.outcome_counts.proofs.Ended.{get-before, up-to-next}

-- what is pushed behind openings is that of the next reply
pushed : (openings : List (Option ℕ)) (opening : Option ℕ) (n : ℕ) → length openings ≡ n → opening_of (openings ++ opening ∷ []) n ≡ opening
pushed openings opening n long =
    ap (λ (i : ℕ). option_and_then (λ (o : Option ℕ). o) (slice_get (openings ++ opening ∷ []) i)) (sym long) ∙ ap (λ (x : Option (Option ℕ)). option_and_then (λ (o : Option ℕ). o) x) (get-at openings opening [])

kept : (openings : List (Option ℕ)) (opening : Option ℕ) (i : ℕ) → i < length openings → opening_of (openings ++ opening ∷ []) i ≡ opening_of openings i
kept openings opening i h = ap (λ (x : Option (Option ℕ)). option_and_then (λ (o : Option ℕ). o) x) (get-before openings (opening ∷ []) i h)

-- an opening among those with one more is one of them, or that one
there-next : (openings : List (Option ℕ)) (opening : Option ℕ) (place s : ℕ) → opening_of (openings ++ opening ∷ []) place ≡ Some s → (opening_of openings place ≡ Some s) ⊎ (opening ≡ Some s)
there-next openings opening place s is = by (cases_lt place (length openings))
  where
    long : length (openings ++ opening ∷ []) ≡ length openings + 1
    long = length-append openings (opening ∷ [])

    by : (place < length openings) ⊎ (length openings ≤ place) → (opening_of openings place ≡ Some s) ⊎ (opening ≡ Some s)
    by (inl low) = inl (sym (kept openings opening place low) ∙ is)
    by (inr high) = from (cases_lt (length openings) place)
      where
        from : (length openings < place) ⊎ (place ≤ length openings) → (opening_of openings place ≡ Some s) ⊎ (opening ≡ Some s)
        from (inl above) =
            let none : opening_of (openings ++ opening ∷ []) place ≡ None = ap (λ (x : Option (Option ℕ)). option_and_then (λ (o : Option ℕ). o) x) (slice_get_past (openings ++ opening ∷ []) place (omega (arith, above, long))) in
            absurd (let e : None ≡ Some s = sym none ∙ is in let never : ⊥ = cc in never)
        from (inr low) =
            let at : length openings ≡ place = omega (arith, high, low) in
            inr (sym (pushed openings opening place at) ∙ is)

own-next : (es : List Entry) (n : ℕ) (openings : List (Option ℕ)) (opening : Option ℕ) → AreOpeningsUpTo es n openings
    → ((front : List Entry) (entry : Entry) (rest : List Entry) → es ≡ front ++ entry ∷ rest → length front ≡ n → transaction_with (transactions_of es) entry ≡ option_and_then (λ place. opened_at place es) opening)
    → ((s : ℕ) → opening ≡ Some s → is_some (opened_at s es) ≡ true)
    → AreOpeningsUpTo es (n + 1) (openings ++ opening ∷ [])
own-next es n openings opening old here is_there = record {
  long = length-append openings (opening ∷ []) ∙ ap (λ (k : ℕ). k + 1) old.long;
  own = λ front entry rest whole below. by front entry rest whole (up-to-next (length front) n below);
  there = λ place s is. from place s (there-next openings opening place s is);
}
  where
    from : (place s : ℕ) → (opening_of openings place ≡ Some s) ⊎ (opening ≡ Some s) → is_some (opened_at s es) ≡ true
    from place s (inl earlier) = old.there place s earlier
    from place s (inr last) = is_there s last

    by : (front : List Entry) (entry : Entry) (rest : List Entry) → es ≡ front ++ entry ∷ rest → (length front < n) ⊎ (length front ≡ n)
        → transaction_with (transactions_of es) entry ≡ option_and_then (λ place. opened_at place es) (opening_of (openings ++ opening ∷ []) (length front))
    by front entry rest whole (inl low) =
        let l = old.long in
        old.own front entry rest whole low ∙ ap (option_and_then (λ place. opened_at place es)) (sym (kept openings opening (length front) (omega (arith, low, l))))
    by front entry rest whole (inr at) =
        here front entry rest whole at ∙ ap (option_and_then (λ place. opened_at place es)) (sym (pushed openings opening (length front) (old.long ∙ sym at)))

held-same : (entry : Entry) (place : ℕ) (a b : Who → Option ℕ) → ((who : Who) → a who ≡ b who) → (who : Who) → open_next entry place a who ≡ open_next entry place b who
held-same entry place a b same who =
    ap (λ (o : Option ℕ). if is_worker entry.reply.who then o else (if is_same entry.reply.who who then own_next entry place o else o)) (same who)

from-same : (entries : List Entry) (place : ℕ) (a b : Who → Option ℕ) → ((who : Who) → a who ≡ b who) → openings_from place a entries ≡ openings_from place b entries
from-same [] place a b same = refl
from-same (entry ∷ entries) place a b same =
    ap (λ (o : Option ℕ). (if is_some (snapshot_in entry.reply.said) then Some place else o) ∷ openings_from (place + 1) (open_next entry place a) entries) (same entry.reply.who)
    ∙ ap (λ (os : List (Option ℕ)). opening_next entry place b ∷ os) (from-same entries (place + 1) (open_next entry place a) (open_next entry place b) (held-same entry place a b same))

pub loop-place-preserved : goal.loop-place-preserved
loop-place-preserved c =
    let replies = c.args.replies.now in
    let es = entries_of replies in
    let place : ℕ = c.loop-place.place in
    let reply = c.index-replies-place.result in
    let entry : Entry = entry_of reply in
    let at = kept-at replies place reply c.loop-place-test.true c.index-replies-place.is in
    let held = open_of c.loop-place.opened in
    let before : take place es ≡ at.front = ap (take place) at.whole ∙ take_at at.front (entry ∷ at.rest) place at.far in
    let far : length (at.front ++ entry ∷ []) ≡ place + 1 = length-append at.front (entry ∷ []) ∙ ap (λ (n : ℕ). n + 1) at.far in
    let behind : take (place + 1) es ≡ at.front ++ entry ∷ [] = ap (take (place + 1)) (at.whole ∙ sym (append_assoc at.front (entry ∷ []) at.rest)) ∙ take_at (at.front ++ entry ∷ []) at.rest (place + 1) far in
    let standing : (who : Who) → Standing who at.front (held who) = λ who. subst (λ (es : List Entry). Standing who es (held who)) before (c.loop-place.invariant.standing who) in
    record {
      standing = λ who.
          let next = standing-next es at.front entry at.rest at.whole c.requires.outside held (λ k. refl) standing who in
          let after : open_of c.enter.new.self who ≡ open_next entry (length at.front) held who = c.in_ok-enter.ensures who ∙ ap (λ (n : ℕ). open_next entry n held who) (sym at.far) in
          subst (λ (es : List Entry). Standing who es (open_of c.enter.new.self who)) (sym behind) (subst (Standing who (at.front ++ entry ∷ [])) (sym after) next);
      each =
          let dropped : drop place es ≡ entry ∷ at.rest = ap (drop place) at.whole ∙ drop_at at.front (entry ∷ at.rest) place at.far in
          let left : drop (place + 1) es ≡ at.rest = ap (drop (place + 1)) (at.whole ∙ sym (append_assoc at.front (entry ∷ []) at.rest)) ∙ drop_at (at.front ++ entry ∷ []) at.rest (place + 1) far in
          ap (λ (os : List (Option ℕ)). os ++ openings_from (place + 1) (open_of c.enter.new.self) (drop (place + 1) es)) c.in_ok-push.ensures.items
          ∙ append_assoc c.loop-place.openings.items (c.opening_at-opening.result ∷ []) (openings_from (place + 1) (open_of c.enter.new.self) (drop (place + 1) es))
          ∙ ap (λ (o : Option ℕ). c.loop-place.openings.items ++ o ∷ openings_from (place + 1) (open_of c.enter.new.self) (drop (place + 1) es)) c.opening_at-opening.ensures
          ∙ ap (λ (os : List (Option ℕ)). c.loop-place.openings.items ++ opening_next entry place held ∷ os)
          (ap (openings_from (place + 1) (open_of c.enter.new.self)) left ∙ from-same at.rest (place + 1) (open_of c.enter.new.self) (open_next entry place held) c.in_ok-enter.ensures)
          ∙ ap (λ (xs : List Entry). c.loop-place.openings.items ++ openings_from place held xs) (sym dropped)
          ∙ c.loop-place.invariant.each;
      openings = subst (AreOpeningsUpTo es (place + 1)) (sym c.in_ok-push.ensures.items)
          (own-next es place c.loop-place.openings.items c.opening_at-opening.result c.loop-place.invariant.openings (λ front e rest whole n.
          let one : entry ≡ e = one-cut es at.front entry at.rest front e rest at.whole whole (at.far ∙ sym n) in
          let here : take place es ≡ front = ap (take place) whole ∙ take_at front (e ∷ rest) place n in
          let stands : Standing e.reply.who front (held e.reply.who) = subst (λ (xs : List Entry). Standing e.reply.who xs (held e.reply.who)) here (c.loop-place.invariant.standing e.reply.who) in
          belongs es front e rest whole c.requires.rises c.requires.outside held stands
          ∙ ap (option_and_then (λ place. opened_at place es))
          (ap (λ (k : ℕ). opening_next e k held) n ∙ ap (λ (x : Entry). opening_next x place held) (sym one) ∙ sym c.opening_at-opening.ensures))
          (λ s is.
          let stands : Standing entry.reply.who at.front (held entry.reply.who) = standing entry.reply.who in
          there es at.front entry at.rest at.whole (held entry.reply.who) (snapshot_in entry.reply.said) refl stands s
          (ap (λ (n : ℕ). opening_next entry n held) at.far ∙ sym c.opening_at-opening.ensures ∙ is)));
    }
