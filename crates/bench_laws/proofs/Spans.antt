-- The transactions of the output are those of its parts and of its last round, and each reply
-- belongs to its own.
use Rattle.std.proofs.Common.{◌≡◌, ℕ, ◌+◌, ◌*◌, ◌<◌, Bool, true, false, ◌&&◌, eqb, List, [], ◌∷◌, ◌++◌, map, None, Some, refl, ap, ◌∙◌, subst, arith, append_assoc}
use Rattle.std.specs.List.{find, list_any}
use Rattle.std.proofs.lemmas.Bool.{eqb-true, eq-eqb, ne_eqb}
use Rattle.std.proofs.lemmas.List.{map-append}
use Rattle.workload_spec.specs.declared.reply.Who.TheVariants.{Session}
use Rattle.workload_spec.specs.declared.reply.Said.{Said}
use Rattle.workload_spec.specs.declared.reply.Said.TheVariants as said
use Rattle.outcome_spec.specs.Entries.{Entry, is_end, is_reply, is_same, snapshot_in}
use Rattle.outcome_spec.specs.Runs.{Span, run_of, transaction_of, transaction_with, transactions_of}
use Rattle.order_laws.proofs.Order.{same-itself}
use Rattle.bench_laws.proofs.Every.{Every, Has, any-has, every-right}
use Rattle.bench_laws.proofs.Replies.{IsInsertReply, IsUpdateReply, IsCountReply, IsSealReply, IsGatherReply, IsScanReply, IsExportReply}
use Rattle.bench_laws.proofs.Parts.{Part, Writing, Keeping, Freezing, Wrote, Last, Good, GoodWrote, InTurn, Under, begin, insert, update, commit, replies_to, entries_in, last_entries, wrotes}
use Rattle.bench_laws.proofs.Places.{about, Before, every-wrote, in-turn-front, wrotes-append}
use Rattle.bench_laws.proofs.Told.{Told, tables}

-- what opens and ends no transaction
abbrev Quiet : Said → Type 0
Quiet told = (snapshot_in told ≡ None) × (is_end told ≡ false)

-- A reply to an insert begins and ends no transaction.
insert-quiet : (told : Said) → IsInsertReply told → Quiet told
insert-quiet said.Accepted h = (refl, refl)
insert-quiet said.Exists h = (refl, refl)
insert-quiet said.Full h = (refl, refl)
insert-quiet said.Memory h = (refl, refl)
insert-quiet (said.ConflictSession session) h = (refl, refl)
insert-quiet (said.ConflictCommit number) h = (refl, refl)
insert-quiet _ h = absurd h

-- What an update is told opens and ends no transaction.
update-quiet : (told : Said) → IsUpdateReply 0 told → Quiet told
update-quiet said.Accepted h = (refl, refl)
update-quiet said.Missing h = (refl, refl)
update-quiet said.Memory h = (refl, refl)
update-quiet (said.Freezing of at stamp) h = (refl, refl)
update-quiet (said.ConflictSession session) h = (refl, refl)
update-quiet (said.ConflictCommit number) h = (refl, refl)
update-quiet _ h = absurd h

-- Pruning, observing and compacting are told no snapshot.
count-quiet : (told : Said) → IsCountReply told → snapshot_in told ≡ None
count-quiet (said.Cooling n) h = refl
count-quiet (said.Pruned n) h = refl
count-quiet (said.Moved n) h = refl
count-quiet said.Memory h = refl
count-quiet _ h = absurd h

-- The sealing of a block is told no snapshot.
seal-quiet : (block : ℕ) (told : Said) → IsSealReply 0 block told → snapshot_in told ≡ None
seal-quiet block (said.Sealed of at stamp) h = refl
seal-quiet block (said.NotSealed cause) h = refl
seal-quiet block _ h = absurd h

-- The gathering of a block is told no snapshot.
gather-quiet : (block : ℕ) (told : Said) → IsGatherReply 0 block told → snapshot_in told ≡ None
gather-quiet block (said.Frozen of at rows) h = refl
gather-quiet block said.NotFrozen h = refl
gather-quiet block said.Memory h = refl
gather-quiet block _ h = absurd h

-- What a scan is told opens and ends no transaction.
scan-quiet : (told : Said) → IsScanReply told → Quiet told
scan-quiet (said.Scanned rows) h = (refl, refl)
scan-quiet said.Memory h = (refl, refl)
scan-quiet _ h = absurd h

-- What an export is told opens and ends no transaction.
export-quiet : (told : Said) → IsExportReply told → Quiet told
export-quiet (said.Exported number rows batches frozen) h = (refl, refl)
export-quiet (said.Dirty key) h = (refl, refl)
export-quiet said.Memory h = (refl, refl)
export-quiet _ h = absurd h

-- a transaction as the output shows it: whose it is, its snapshot and its replies
abbrev pub span_of : Wrote → Span
span_of w = record { who = Session w.session; snapshot = w.snapshot; replies = replies_to w }

-- the transaction of the last round
abbrev pub last_span : Last → Span
last_span l = record { who = Session 1; snapshot = l.snapshot; replies = last_entries l }

-- A transaction's four replies in front of others are one transaction in front of theirs.
opened : (seed : ℕ) (w : Wrote) → GoodWrote seed w → (rest : List Entry) → transactions_of (begin w ∷ insert w ∷ update w ∷ commit w ∷ rest) ≡ span_of w ∷ transactions_of rest
opened seed w good rest =
    let a = insert-quiet w.insert_said good.insert_fits in
    let b = update-quiet w.update_said good.update_fits in
    let own : eqb w.session w.session ≡ true = eq-eqb w.session w.session refl in
    rw (own, a.0, b.0, a.1, b.1) refl

-- The replies of the last round are its transaction and no other.
last-opened : (l : Last) → IsScanReply l.scan_said → IsExportReply l.export_said → transactions_of (last_entries l) ≡ last_span l ∷ []
last-opened l scans exports =
    let a = scan-quiet l.scan_said scans in
    let b = export-quiet l.export_said exports in
    rw (a.0, b.0, a.1, b.1) refl

-- The replies of the parts and of the last round are their transactions in order.
transactions-in : (seed : ℕ) (parts : List Part) (l : Last) → Every (Good seed) parts → IsScanReply l.scan_said → IsExportReply l.export_said
    → transactions_of (entries_in parts ++ last_entries l) ≡ map span_of (wrotes parts) ++ last_span l ∷ []
transactions-in seed [] l good scans exports = last-opened l scans exports
transactions-in seed (Writing w ∷ parts) l good scans exports =
    opened seed w good.0 (entries_in parts ++ last_entries l) ∙ ap (λ ts. span_of w ∷ ts) (transactions-in seed parts l good.1 scans exports)
transactions-in seed (Keeping k ∷ parts) l good scans exports = rw (count-quiet k.told good.0.1) (transactions-in seed parts l good.1 scans exports)
transactions-in seed (Freezing f ∷ parts) l good scans exports = rw (seal-quiet f.block f.seal_said good.0.0, gather-quiet f.block f.gather_said good.0.1) (transactions-in seed parts l good.1 scans exports)

-- ---- the transaction of a reply

-- Where none in front passes a test that this one passes, this one is found.
find-at : (p : Span → Bool) (front : List Span) (x : Span) (rest : List Span) → Every (λ y. p y ≡ false) front → p x ≡ true → find p (front ++ x ∷ rest) ≡ Some x
find-at p [] x rest h k = rw k refl
find-at p (y ∷ front) x rest h k = rw (h.0) (find-at p front x rest h.1 k)

-- A reply that is below another by round and session is not the same.
apart : (a b c d i j : ℕ) → 4 * b + d < 4 * a + c → (eqb a b && eqb c d && eqb i j) ≡ false
apart a b c d i j h = by (eqb a b) refl
  where
    by : (x : Bool) → eqb a b ≡ x → (x && eqb c d && eqb i j) ≡ false
    by true is =
        let e : a ≡ b = eqb-true a b is in
        let f : eqb c d ≡ false = ne_eqb c d (λ same. omega (arith, e, same, h)) in
        rw f refl
    by false is = refl

-- A reply of an earlier round is not one of a later round.
apart-round : (a b i j : ℕ) (who : Bool) → b < a → (eqb a b && who && eqb i j) ≡ false
apart-round a b i j who h = let f : eqb a b ≡ false = ne_eqb a b (λ same. omega (arith, same, h)) in rw f refl

-- A reply to a session is tested to be itself.
reply-itself : (e : Entry) → (session : ℕ) → e.reply.who ≡ Session session → is_reply e e ≡ true
reply-itself e session who =
    let a : eqb e.reply.round e.reply.round ≡ true = eq-eqb e.reply.round e.reply.round refl in
    let b : is_same e.reply.who e.reply.who ≡ true = same-itself e.reply.who in
    let c : eqb e.reply.index e.reply.index ≡ true = eq-eqb e.reply.index e.reply.index refl in
    rw (a, b, c) refl

-- What holds of the image of each element holds of each image.
every-map : {X Y : Type 0} (f : X → Y) (P : Y → Type 0) (xs : List X) → Every (λ x. P (f x)) xs → Every P (map f xs)
every-map f P [] h = tt
every-map f P (x ∷ xs) h = (h.0, every-map f P xs h.1)

module _ (seed size : ℕ) (replies : List Entry) (told : Told seed size replies) where
  -- the transactions of the output
  pub transactions-are : transactions_of replies ≡ map span_of (wrotes told.parts) ++ last_span told.last ∷ []
  transactions-are = ap transactions_of told.whole ∙ transactions-in seed told.parts told.last told.good told.scan_fits told.export_fits

  -- a reply of a transaction belongs to it
  pub belongs : (w : Wrote) → Has w (wrotes told.parts) → (e : Entry) → Has e (replies_to w) → e.reply.round ≡ w.round → e.reply.who ≡ Session w.session
      → transaction_of (run_of tables replies) e ≡ Some (span_of w)
  belongs w among e has round who =
      let its = about w told.parts among in
      let turn : InTurn (its.front ++ Writing w ∷ its.rest) = subst InTurn its.whole told.in_turn in
      let good : GoodWrote seed w = (every-right (Good seed) its.front (Writing w ∷ its.rest) (subst (Every (Good seed)) its.whole told.good)).0 in
      let split : transactions_of replies ≡ map span_of (wrotes its.front) ++ span_of w ∷ (map span_of (wrotes its.rest) ++ last_span told.last ∷ []) =
      transactions-are
      ∙ ap (λ ps. map span_of (wrotes ps) ++ last_span told.last ∷ []) its.whole
      ∙ ap (λ ws. map span_of ws ++ last_span told.last ∷ []) (wrotes-append its.front (Writing w ∷ its.rest))
      ∙ ap (λ ts. ts ++ last_span told.last ∷ []) (map-append span_of (wrotes its.front) (w ∷ wrotes its.rest))
      ∙ append_assoc (map span_of (wrotes its.front)) (span_of w ∷ map span_of (wrotes its.rest)) (last_span told.last ∷ []) in
      ap (λ ts. transaction_with ts e) split
      ∙ find-at (λ t. list_any (is_reply e) t.replies) (map span_of (wrotes its.front)) (span_of w) (map span_of (wrotes its.rest) ++ last_span told.last ∷ [])
      (every-map span_of (λ t. list_any (is_reply e) t.replies ≡ false) (wrotes its.front) (every-wrote (λ v. list_any (is_reply e) (replies_to v) ≡ false) (Before w) (other e round who) its.front (in-turn-front its.front w its.rest turn good.session_high)))
      (any-has (is_reply e) (replies_to w) e has (reply-itself e w.session who))
    where
      other : (e : Entry) → e.reply.round ≡ w.round → e.reply.who ≡ Session w.session → (v : Wrote) → Before w (Writing v) → list_any (is_reply e) (replies_to v) ≡ false
      other e round who v less =
          let one : (x : Entry) → x.reply.round ≡ v.round → x.reply.who ≡ Session v.session → is_reply e x ≡ false =
          λ x xr xw.
          ap (λ n. eqb n x.reply.round && is_same e.reply.who x.reply.who && eqb e.reply.index x.reply.index) round
          ∙ ap (λ n. eqb w.round n && is_same e.reply.who x.reply.who && eqb e.reply.index x.reply.index) xr
          ∙ ap (λ n. eqb w.round v.round && is_same n x.reply.who && eqb e.reply.index x.reply.index) who
          ∙ ap (λ n. eqb w.round v.round && is_same (Session w.session) n && eqb e.reply.index x.reply.index) xw
          ∙ apart w.round v.round w.session v.session e.reply.index x.reply.index less.0 in
          rw (one (begin v) refl refl, one (insert v) refl refl, one (update v) refl refl, one (commit v) refl refl) refl

  -- and one of the last round to the last
  pub belongs-last : (e : Entry) → Has e (last_entries told.last) → e.reply.round ≡ told.last.round → e.reply.who ≡ Session 1
      → transaction_of (run_of tables replies) e ≡ Some (last_span told.last)
  belongs-last e has round who =
      ap (λ ts. transaction_with ts e) transactions-are
      ∙ find-at (λ t. list_any (is_reply e) t.replies) (map span_of (wrotes told.parts)) (last_span told.last) []
      (every-map span_of (λ t. list_any (is_reply e) t.replies ≡ false) (wrotes told.parts) (every-wrote (λ v. list_any (is_reply e) (replies_to v) ≡ false) (Under told.last.round) other told.parts told.under))
      (any-has (is_reply e) (last_entries told.last) e has (reply-itself e 1 who))
    where
      other : (v : Wrote) → v.round < told.last.round → list_any (is_reply e) (replies_to v) ≡ false
      other v less =
          let one : (x : Entry) → x.reply.round ≡ v.round → is_reply e x ≡ false =
          λ x xr. apart-round e.reply.round x.reply.round e.reply.index x.reply.index (is_same e.reply.who x.reply.who) (omega (arith, xr, round, less)) in
          rw (one (begin v) refl, one (insert v) refl, one (update v) refl, one (commit v) refl) refl
