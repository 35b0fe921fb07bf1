-- Which transactions are open behind replies, and to which one each reply belongs.
use Rattle.std.proofs.Common.{◌≡◌, ℕ, Bool, true, false, cond, ◌||◌, List, [], ◌∷◌, ◌++◌, length, drop, map, Option, None, Some, refl, sym, ap, ◌∙◌, subst, append_assoc, append-nil}
use Rattle.std.specs.List.{fold, list_any}
use Rattle.std.specs.Prelude.{is_some, option_map, option_and_then, if◌then◌else◌}
use Rattle.std.proofs.lemmas.Bool.{or_parts, or_from}
use Rattle.std.proofs.lemmas.List.{map_push, drop_at}
use Rattle.std.proofs.lemmas.List.Elements.{filter-append}
use Rattle.std.proofs.lemmas.List.Folds.{list_any-append}
use Rattle.std.proofs.lemmas.List.Sums.{fold_push}
use Rattle.workload_spec.specs.declared.reply.Who.{Who}
use Rattle.workload_spec.specs.declared.reply.Who.TheVariants.{Session, Worker}
use Rattle.workload_spec.specs.declared.reply.Said.{Said}
use Rattle.workload_spec.specs.declared.reply.Said.TheVariants as said
use Rattle.outcome_spec.specs.Entries.{Entry, is_same, thread, snapshot_in, is_end}
use Rattle.outcome_spec.specs.Forms.{is_within, within_behind, is_worker}
use Rattle.outcome_spec.specs.Runs.{span_from, up_to_end, transactions_of, transaction_with}
use Rattle.order_laws.specs.Opened.{OpensOutside}
use Rattle.order_laws.specs.Places.{Rises}
use Rattle.timeline_laws.proofs.Order.{same-is, same-itself}
use Rattle.timeline_laws.proofs.Spans.{span, Past, past-nil, past-idle, past-opens, past-goes_on, past-ends}
use Rattle.timeline_laws.proofs.Belongs.{At, found-open, found-none, found-opened}
use Rattle.outcome_counts.specs.Openings.{opened_by, opened_at, own_next, open_next, opening_next}
use Rattle.outcome_counts.proofs.Ordered.{at-rising}

-- ---- what is said

-- from true being false anything follows
pub impossible : {P : Type 0} → true ≡ false → P
impossible h = absurd (let never : ⊥ = cc in never)

-- what opens a transaction does not end one
pub opens-not-end : (told : Said) (n : ℕ) → snapshot_in told ≡ Some n → is_end told ≡ false
opens-not-end (said.At number) n h = refl
opens-not-end _ n h = absurd (let never : ⊥ = cc in never)

-- Behind a reply that shows a snapshot one is in a transaction.
opens-within : (told : Said) (n : ℕ) (b : Bool) → snapshot_in told ≡ Some n → within_behind b told ≡ true
opens-within (said.At number) n b h = refl
opens-within _ n b h = absurd (let never : ⊥ = cc in never)

-- Who is in no transaction stays out behind a reply that shows no snapshot.
stays-out : (told : Said) → snapshot_in told ≡ None → within_behind false told ≡ false
stays-out (said.At number) h = absurd (let never : ⊥ = cc in never)
stays-out _ h = refl

-- Who is in a transaction stays in it behind a reply that does not end it.
stays-in : (told : Said) → snapshot_in told ≡ None → is_end told ≡ false → within_behind true told ≡ true
stays-in (said.At number) h k = absurd (let never : ⊥ = cc in never)
stays-in (said.Committed number) h k = impossible k
stays-in said.Aborted h k = impossible k
stays-in _ h k = refl

-- Behind a reply that ends a transaction one is in none.
goes-out : (told : Said) (b : Bool) → is_end told ≡ true → within_behind b told ≡ false
goes-out (said.Committed number) b h = refl
goes-out said.Aborted b h = refl
goes-out _ b h = impossible (sym h)

-- ---- threads with a reply more

-- one's own reply is the last of one's thread
pub thread-own : (who : Who) (front : List Entry) (entry : Entry) → is_same entry.reply.who who ≡ true → thread who (front ++ entry ∷ []) ≡ thread who front ++ entry ∷ []
thread-own who front entry same =
    filter-append (λ e. is_same e.reply.who who) front (entry ∷ []) ∙ ap (λ (b : Bool). thread who front ++ cond b (entry ∷ []) []) same

-- another's reply adds nothing to it
pub thread-other : (who : Who) (front : List Entry) (entry : Entry) → is_same entry.reply.who who ≡ false → thread who (front ++ entry ∷ []) ≡ thread who front
thread-other who front entry apart =
    filter-append (λ e. is_same e.reply.who who) front (entry ∷ []) ∙ ap (λ (b : Bool). thread who front ++ cond b (entry ∷ []) []) apart ∙ append-nil (thread who front)

-- Whether replies of one alone leave a transaction open.
abbrev within_by : List Entry → Bool
within_by entries = fold within_behind false (map (λ (e : Entry). e.reply.said) entries)

-- One reply more decides by what it says whether a transaction is open behind it.
within-push : (entries : List Entry) (entry : Entry) → within_by (entries ++ entry ∷ []) ≡ within_behind (within_by entries) entry.reply.said
within-push entries entry =
    ap (fold within_behind false) (map_push (λ (e : Entry). e.reply.said) entries entry) ∙ fold_push within_behind false (map (λ (e : Entry). e.reply.said) entries) entry.reply.said

-- One's own reply more decides whether one is in a transaction.
within-own : (who : Who) (front : List Entry) (entry : Entry) → is_same entry.reply.who who ≡ true → is_within who (front ++ entry ∷ []) ≡ within_behind (is_within who front) entry.reply.said
within-own who front entry same = ap within_by (thread-own who front entry same) ∙ within-push (thread who front) entry

-- Another's reply more does not change whether one is in a transaction.
within-other : (who : Who) (front : List Entry) (entry : Entry) → is_same entry.reply.who who ≡ false → is_within who (front ++ entry ∷ []) ≡ is_within who front
within-other who front entry apart = ap within_by (thread-other who front entry apart)

-- ---- what is open

-- the transaction of one that is open behind replies, and where it was opened
pub record IsOpen (who : Who) (front : List Entry) (place : ℕ) : Type 0 where
  pub ahead : List Entry
  pub opening : Entry
  pub mid : List Entry
  pub whole : front ≡ ahead ++ opening ∷ mid
  pub far : length ahead ≡ place
  pub of : opening.reply.who ≡ who
  pub snapshot : ℕ
  pub opens : snapshot_in opening.reply.said ≡ Some snapshot
  pub spanned : Past who (thread who front) (Some (snapshot, opening ∷ thread who mid))
  pub split : thread who front ≡ thread who ahead ++ opening ∷ thread who mid
  pub on : list_any (λ e. is_end e.reply.said) (opening ∷ thread who mid) ≡ false
  pub within : is_within who front ≡ true

pub record IsIdle (who : Who) (front : List Entry) : Type 0 where
  pub spanned : Past who (thread who front) None
  pub within : is_within who front ≡ false

-- one has a transaction open behind the replies, opened at this place, or none
abbrev pub Standing : Who → List Entry → Option ℕ → Type 0
Standing who front None = IsIdle who front
Standing who front (Some place) = IsOpen who front place

-- before all replies one has none
pub standing-nil : (who : Who) → Standing who [] None
standing-nil who = record { spanned = past-nil who; within = refl }

-- another's reply changes nothing
other-idle : (who : Who) (front : List Entry) (entry : Entry) → is_same entry.reply.who who ≡ false → IsIdle who front → IsIdle who (front ++ entry ∷ [])
other-idle who front entry apart idle = record {
  spanned = subst (λ (es : List Entry). Past who es None) (sym (thread-other who front entry apart)) idle.spanned;
  within = within-other who front entry apart ∙ idle.within;
}

-- A reply of another leaves an open transaction open.
other-open : (who : Who) (front : List Entry) (entry : Entry) (place : ℕ) → is_same entry.reply.who who ≡ false → IsOpen who front place → IsOpen who (front ++ entry ∷ []) place
other-open who front entry place apart held =
    let mid : thread who (held.mid ++ entry ∷ []) ≡ thread who held.mid = thread-other who held.mid entry apart in
    let whole : front ++ entry ∷ [] ≡ held.ahead ++ held.opening ∷ (held.mid ++ entry ∷ []) = ap (λ (es : List Entry). es ++ entry ∷ []) held.whole ∙ append_assoc held.ahead (held.opening ∷ held.mid) (entry ∷ []) in
    record {
      ahead = held.ahead;
      opening = held.opening;
      mid = held.mid ++ entry ∷ [];
      whole = whole;
      far = held.far;
      of = held.of;
      snapshot = held.snapshot;
      opens = held.opens;
      spanned = subst (λ (es : List Entry). Past who es (Some (held.snapshot, held.opening ∷ thread who (held.mid ++ entry ∷ [])))) (sym (thread-other who front entry apart))
          (subst (λ (es : List Entry). Past who (thread who front) (Some (held.snapshot, held.opening ∷ es))) (sym mid) held.spanned);
      split = thread-other who front entry apart ∙ held.split ∙ ap (λ (es : List Entry). thread who held.ahead ++ held.opening ∷ es) (sym mid);
      on = ap (λ (es : List Entry). list_any (λ e. is_end e.reply.said) (held.opening ∷ es)) mid ∙ held.on;
      within = within-other who front entry apart ∙ held.within;
    }

-- another's reply leaves it open or not
pub standing-other : (who : Who) (front : List Entry) (entry : Entry) (held : Option ℕ) → is_same entry.reply.who who ≡ false → Standing who front held → Standing who (front ++ entry ∷ []) held
standing-other who front entry None apart h = other-idle who front entry apart h
standing-other who front entry (Some place) apart h = other-open who front entry place apart h

module _ (who : Who) (front : List Entry) (entry : Entry) (same : is_same entry.reply.who who ≡ true) where
  -- One's own reply is the last of one's thread with it.
  own : thread who (front ++ entry ∷ []) ≡ thread who front ++ entry ∷ []
  own = thread-own who front entry same

  -- One's own reply that shows no snapshot leaves one without a transaction.
  own-idle : IsIdle who front → snapshot_in entry.reply.said ≡ None → IsIdle who (front ++ entry ∷ [])
  own-idle idle none = record {
    spanned = subst (λ (es : List Entry). Past who es None) (sym own) (past-idle who (thread who front) entry idle.spanned none);
    within = within-own who front entry same ∙ ap (λ (b : Bool). within_behind b entry.reply.said) idle.within ∙ stays-out entry.reply.said none;
  }

  -- One's own reply that shows a snapshot opens a transaction at its place.
  own-opens : IsIdle who front → (n : ℕ) → snapshot_in entry.reply.said ≡ Some n → (place : ℕ) → length front ≡ place → IsOpen who (front ++ entry ∷ []) place
  own-opens idle n opens place far =
      let on : is_end entry.reply.said ≡ false = opens-not-end entry.reply.said n opens in
      record {
        ahead = front;
        opening = entry;
        mid = [];
        whole = refl;
        far = far;
        of = same-is entry.reply.who who same;
        snapshot = n;
        opens = opens;
        spanned = subst (λ (es : List Entry). Past who es (Some (n, entry ∷ []))) (sym own) (past-opens who (thread who front) entry n idle.spanned opens on);
        split = own;
        on = or_from (is_end entry.reply.said) false on refl;
        within = within-own who front entry same ∙ opens-within entry.reply.said n (is_within who front) opens;
      }

  -- One's own reply that neither opens nor ends leaves the transaction open.
  own-stays : (place : ℕ) → IsOpen who front place → snapshot_in entry.reply.said ≡ None → is_end entry.reply.said ≡ false → IsOpen who (front ++ entry ∷ []) place
  own-stays place held none on =
      let mid : thread who (held.mid ++ entry ∷ []) ≡ thread who held.mid ++ entry ∷ [] = thread-own who held.mid entry same in
      let whole : front ++ entry ∷ [] ≡ held.ahead ++ held.opening ∷ (held.mid ++ entry ∷ []) = ap (λ (es : List Entry). es ++ entry ∷ []) held.whole ∙ append_assoc held.ahead (held.opening ∷ held.mid) (entry ∷ []) in
      record {
        ahead = held.ahead;
        opening = held.opening;
        mid = held.mid ++ entry ∷ [];
        whole = whole;
        far = held.far;
        of = held.of;
        snapshot = held.snapshot;
        opens = held.opens;
        spanned = subst (λ (es : List Entry). Past who es (Some (held.snapshot, held.opening ∷ thread who (held.mid ++ entry ∷ [])))) (sym own)
            (subst (λ (es : List Entry). Past who (thread who front ++ entry ∷ []) (Some (held.snapshot, held.opening ∷ es))) (sym mid)
            (past-goes_on who (thread who front) entry held.snapshot (held.opening ∷ thread who held.mid) held.spanned none on));
        split = own ∙ ap (λ (es : List Entry). es ++ entry ∷ []) held.split ∙ append_assoc (thread who held.ahead) (held.opening ∷ thread who held.mid) (entry ∷ [])
            ∙ ap (λ (es : List Entry). thread who held.ahead ++ held.opening ∷ es) (sym mid);
        on = ap (λ (es : List Entry). list_any (λ e. is_end e.reply.said) (held.opening ∷ es)) mid
            ∙ list_any-append (λ (e : Entry). is_end e.reply.said) (held.opening ∷ thread who held.mid) (entry ∷ [])
            ∙ or_from (list_any (λ e. is_end e.reply.said) (held.opening ∷ thread who held.mid)) (is_end entry.reply.said || false) held.on (or_from (is_end entry.reply.said) false on refl);
        within = within-own who front entry same ∙ ap (λ (b : Bool). within_behind b entry.reply.said) held.within ∙ stays-in entry.reply.said none on;
      }

  -- One's own reply that ends the open transaction leaves one without any.
  own-ends : (place : ℕ) → IsOpen who front place → snapshot_in entry.reply.said ≡ None → is_end entry.reply.said ≡ true → IsIdle who (front ++ entry ∷ [])
  own-ends place held none ends = record {
    spanned = subst (λ (es : List Entry). Past who es None) (sym own)
        (past-ends who (thread who front) entry held.snapshot (held.opening ∷ thread who held.mid) (thread who held.ahead) held.spanned held.split none ends);
    within = within-own who front entry same ∙ goes-out entry.reply.said (is_within who front) ends;
  }

  -- one's own opens it, ends it or leaves it
  pub standing-own : (held : Option ℕ) (place : ℕ) → length front ≡ place → (shown : Option ℕ) → snapshot_in entry.reply.said ≡ shown → (is_some shown ≡ true → is_within who front ≡ false)
      → (ends : Bool) → is_end entry.reply.said ≡ ends → Standing who front held
      → Standing who (front ++ entry ∷ []) (if is_some shown then Some place else (if ends then None else held))
  standing-own None place far (Some n) opens out ends is h = own-opens h n opens place far
  standing-own (Some at) place far (Some n) opens out ends is h = impossible (sym h.within ∙ out refl)
  standing-own None place far None opens out true is h = own-idle h opens
  standing-own None place far None opens out false is h = own-idle h opens
  standing-own (Some at) place far None opens out true is h = own-ends at h opens is
  standing-own (Some at) place far None opens out false is h = own-stays at h opens is

-- ---- the transaction of a reply

-- behind replies that end nothing, the first end is looked for among those that follow
pub up-to-append : (a b : List Entry) → list_any (λ e. is_end e.reply.said) a ≡ false → up_to_end (a ++ b) ≡ a ++ up_to_end b
up-to-append [] b h = refl
up-to-append (e ∷ a) b h =
    let parts = or_parts (is_end e.reply.said) (list_any (λ x. is_end x.reply.said) a) h in
    rw parts.0 (ap (λ (es : List Entry). e ∷ es) (up-to-append a b parts.1))

-- what is opened at a place is what the reply there opens
pub opened-there : (entries ahead : List Entry) (opening : Entry) (behind : List Entry) (place : ℕ) → entries ≡ ahead ++ opening ∷ behind → length ahead ≡ place
    → opened_at place entries ≡ option_map (span_from opening behind) (snapshot_in opening.reply.said)
opened-there entries ahead opening behind place whole far =
    ap opened_by (ap (drop place) whole ∙ drop_at ahead (opening ∷ behind) place far)

module _ (entries front : List Entry) (entry : Entry) (rest : List Entry) (whole : entries ≡ front ++ entry ∷ rest) (rises : Rises entries) where
  -- The session or worker of the reply.
  abbrev its : Who
  its = entry.reply.who

  -- The reply stands in the timeline of the replies themselves at its place.
  at : At entries entries front entry rest
  at = at-rising entries front entry rest whole rises

  -- A reply that opens a transaction where none is open belongs to that one.
  opens-own : (n : ℕ) → snapshot_in entry.reply.said ≡ Some n → IsIdle its front → transaction_with (transactions_of entries) entry ≡ opened_at (length front) entries
  opens-own n opens idle =
      found-opened entries entries front entry rest at idle.spanned n opens
      ∙ sym (opened-there entries front entry rest (length front) whole refl ∙ ap (option_map (span_from entry rest)) opens)

  -- A reply behind which one's transaction was open belongs to that transaction.
  held-own : (place : ℕ) → IsOpen its front place → transaction_with (transactions_of entries) entry ≡ opened_at place entries
  held-own place held =
      let cut : entries ≡ held.ahead ++ held.opening ∷ (held.mid ++ entry ∷ rest) = whole ∙ ap (λ (es : List Entry). es ++ entry ∷ rest) held.whole ∙ append_assoc held.ahead (held.opening ∷ held.mid) (entry ∷ rest) in
      let behind : thread its (held.mid ++ entry ∷ rest) ≡ thread its held.mid ++ entry ∷ thread its rest =
      filter-append (λ e. is_same e.reply.who its) held.mid (entry ∷ rest) ∙ ap (λ (b : Bool). thread its held.mid ++ cond b (entry ∷ thread its rest) (thread its rest)) (same-itself its) in
      let replies : up_to_end (held.opening ∷ thread its (held.mid ++ entry ∷ rest)) ≡ (held.opening ∷ thread its held.mid) ++ up_to_end (entry ∷ thread its rest) =
      ap (λ (es : List Entry). up_to_end (held.opening ∷ es)) behind ∙ up-to-append (held.opening ∷ thread its held.mid) (entry ∷ thread its rest) held.on in
      let there : opened_at place entries ≡ Some (span its held.snapshot ((held.opening ∷ thread its held.mid) ++ up_to_end (entry ∷ thread its rest))) =
      opened-there entries held.ahead held.opening (held.mid ++ entry ∷ rest) place cut held.far
      ∙ ap (option_map (span_from held.opening (held.mid ++ entry ∷ rest))) held.opens
      ∙ ap (λ (w : Who). Some (span w held.snapshot (up_to_end (held.opening ∷ thread w (held.mid ++ entry ∷ rest))))) held.of
      ∙ ap (λ (es : List Entry). Some (span its held.snapshot es)) replies in
      found-open entries entries front entry rest at held.snapshot (held.opening ∷ thread its held.mid) held.spanned ∙ sym there

  -- The transaction of a reply, by what is open in front of it and what it shows.
  belongs-by : (held : Option ℕ) (shown : Option ℕ) → snapshot_in entry.reply.said ≡ shown → (is_some shown ≡ true → is_within its front ≡ false) → Standing its front held
      → transaction_with (transactions_of entries) entry ≡ option_and_then (λ place. opened_at place entries) (if is_some shown then Some (length front) else held)
  belongs-by None (Some n) opens out h = opens-own n opens h
  belongs-by (Some place) (Some n) opens out h = impossible (sym h.within ∙ out refl)
  belongs-by None None opens out h = found-none entries entries front entry rest at h.spanned opens
  belongs-by (Some place) None opens out h = held-own place h

  -- The transaction of a reply is the one that it opens, or else the open one of its own.
  pub belongs : OpensOutside entries → (held : Who → Option ℕ) → Standing its front (held its)
      → transaction_with (transactions_of entries) entry ≡ option_and_then (λ place. opened_at place entries) (opening_next entry (length front) held)
  belongs outside held h = belongs-by (held its) (snapshot_in entry.reply.said) refl (λ some. (outside front entry rest whole some).0) h

-- what is opened at the place where the transaction of a reply is opened
pub there : (entries front : List Entry) (entry : Entry) (rest : List Entry) → entries ≡ front ++ entry ∷ rest → (held shown : Option ℕ) → snapshot_in entry.reply.said ≡ shown → Standing entry.reply.who front held
    → (s : ℕ) → (if is_some shown then Some (length front) else held) ≡ Some s → is_some (opened_at s entries) ≡ true
there entries front entry rest whole held (Some n) opens h s is =
    let at : length front ≡ s = let e = is in cc in
    ap is_some (opened-there entries front entry rest s whole at ∙ ap (option_map (span_from entry rest)) opens)
there entries front entry rest whole None None opens h s is = absurd (let never : ⊥ = cc in never)
there entries front entry rest whole (Some place) None opens h s is =
    let at : place ≡ s = let e = is in cc in
    let cut : entries ≡ h.ahead ++ h.opening ∷ (h.mid ++ entry ∷ rest) = whole ∙ ap (λ (es : List Entry). es ++ entry ∷ rest) h.whole ∙ append_assoc h.ahead (h.opening ∷ h.mid) (entry ∷ rest) in
    ap is_some (opened-there entries h.ahead h.opening (h.mid ++ entry ∷ rest) s cut (h.far ∙ at) ∙ ap (option_map (span_from h.opening (h.mid ++ entry ∷ rest))) h.opens)

-- ---- what is open behind a reply more

module _ (entries front : List Entry) (entry : Entry) (rest : List Entry) (whole : entries ≡ front ++ entry ∷ rest) (outside : OpensOutside entries) (held : Who → Option ℕ)
    (idle : (k : ℕ) → held (Worker k) ≡ None) (standing : (who : Who) → Standing who front (held who)) where
  -- A worker has no open transaction.
  worker-none : (who : Who) → is_worker who ≡ true → held who ≡ None
  worker-none (Session n) h = impossible (sym h)
  worker-none (Worker n) h = idle n

  -- A worker's reply shows no snapshot.
  worker-quiet : is_worker entry.reply.who ≡ true → (shown : Option ℕ) → snapshot_in entry.reply.said ≡ shown → shown ≡ None
  worker-quiet h None is = refl
  worker-quiet h (Some n) is = impossible (sym h ∙ (outside front entry rest whole (ap is_some is)).1)

  -- of itself, where it is a worker's, and where it isn't
  own-worker : (who : Who) → is_same entry.reply.who who ≡ true → is_worker entry.reply.who ≡ true → Standing who (front ++ entry ∷ []) (held who)
  own-worker who same worker =
      let none : held who ≡ None = ap held (sym (same-is entry.reply.who who same)) ∙ worker-none entry.reply.who worker in
      let quiet : snapshot_in entry.reply.said ≡ None = worker-quiet worker (snapshot_in entry.reply.said) refl in
      subst (Standing who (front ++ entry ∷ [])) (sym none) (own-idle who front entry same (subst (Standing who front) none (standing who)) quiet)

  -- What a session has open behind its own reply is what that reply opens, ends or leaves.
  own-session : (who : Who) → is_same entry.reply.who who ≡ true → Standing who (front ++ entry ∷ []) (own_next entry (length front) (held who))
  own-session who same =
      standing-own who front entry same (held who) (length front) refl (snapshot_in entry.reply.said) refl
      (λ some. subst (λ (w : Who). is_within w front ≡ false) (same-is entry.reply.who who same) (outside front entry rest whole some).0)
      (is_end entry.reply.said) refl (standing who)

  -- What one has open behind a reply, by whether it is a worker's and whether it is one's own.
  by : (who : Who) (worker same : Bool) → is_worker entry.reply.who ≡ worker → is_same entry.reply.who who ≡ same
      → Standing who (front ++ entry ∷ []) (if worker then held who else (if same then own_next entry (length front) (held who) else held who))
  by who true true w s = own-worker who s w
  by who true false w s = standing-other who front entry (held who) s (standing who)
  by who false true w s = own-session who s
  by who false false w s = standing-other who front entry (held who) s (standing who)

  -- what each one has open is known with one reply more
  pub standing-next : (who : Who) → Standing who (front ++ entry ∷ []) (open_next entry (length front) held who)
  standing-next who = by who (is_worker entry.reply.who) (is_same entry.reply.who who) refl refl
