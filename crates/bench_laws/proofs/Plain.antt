-- A commit of the generated workload is not refused: its transaction is plain.
use Rattle.std.proofs.Common.{◌≡◌, ◌⊎◌, inl, inr, ℕ, Bool, true, false, cond, ◌&&◌, ◌||◌, List, [], ◌∷◌, ◌++◌, Option, None, Some, refl, sym, ap, ◌∙◌, subst, append_assoc, append-nil}
use Rattle.std.specs.Prelude.{is_some, option_map}
use Rattle.std.specs.List.{cons_option, find, list_all, list_any}
use Rattle.std.specs.Option.{option_map_or}
use Rattle.std.proofs.lemmas.Bool.{eq-eqb}
use Rattle.cell_model.specs.declared.table.TableDecl.{TableDecl}
use Rattle.workload_spec.specs.declared.reply.Who.{Who}
use Rattle.workload_spec.specs.declared.reply.Who.TheVariants.{Session}
use Rattle.workload_spec.specs.declared.reply.Said.{Said}
use Rattle.workload_spec.specs.declared.reply.Said.TheVariants as said
use Rattle.outcome_spec.specs.Entries.{Entry, before, is_end, is_reply, is_same, snapshot_in, thread}
use Rattle.outcome_spec.specs.Explained.{are_sound, is_sound}
use Rattle.outcome_spec.specs.Forms.{Due, command_shown, entry_behind, replies_due}
use Rattle.outcome_spec.specs.Numbers.{commit_numbers_hold, snapshot_numbers_hold}
use Rattle.outcome_spec.specs.Answers.{reads_hold, writes_hold}
use Rattle.outcome_spec.specs.Conflicts.{conflicts_hold}
use Rattle.outcome_spec.specs.Upkeep.{freezing_holds, full_holds, exports_hold, upkeep_holds}
use Rattle.outcome_spec.specs.Runs.{Span, accepted_write, run_of, span_from, transactions_of, up_to_end}
use Rattle.outcome_spec.specs.Stale.{begins_checked, is_checked, is_read, names_meeting, read_of, reads_last, reads_told, stale_holds}
use Rattle.order_laws.proofs.Walk.{walked}
use Rattle.order_laws.proofs.Order.{same-itself}
use Rattle.bench_laws.proofs.Every.{Every, Has, all-has, every-append, every-filter, every-has, find-has, has-here}
use Rattle.bench_laws.proofs.Replies.{Goes, IsStale}

-- ---- what a reading keeps

-- Each element passes a test that all pass.
all-pass : {X : Type 0} (xs : List X) → list_all (λ (x : X). true) xs ≡ true
all-pass [] = refl
all-pass (x ∷ xs) = all-pass xs

-- what a reading goes on from stands in front of what it reads
pub goes-on : (tables : List TableDecl) (earlier : List Entry) (dues : List Due) (entries : List Entry) → Goes tables earlier dues entries → (rest : List Entry) × (entries ≡ earlier ++ rest)
goes-on tables earlier dues entries goes =
    (walked tables (λ front due told. true) (λ front due words behind. all-pass (replies_due tables front due words behind))
    (λ left now. (rest : List Entry) × (now ≡ earlier ++ rest))
    (λ due left now h. h)
    (λ due left now told may h. (h.0 ++ entry_behind tables now due told ∷ [], ap (λ es. es ++ entry_behind tables now due told ∷ []) h.1 ∙ append_assoc earlier h.0 (entry_behind tables now due told ∷ [])))
    dues earlier goes.0 entries ([], sym (append-nil earlier)) goes.1).1

-- what is due begins no checked transaction, nor does a reply
abbrev pub IsPlainDue : Due → Type 0
IsPlainDue due = begins_checked (command_shown due) ≡ false

abbrev pub IsPlain : Entry → Type 0
IsPlain e = begins_checked e.command ≡ false

-- where nothing that is due begins a checked transaction, none of the replies does
pub all-plain : (tables : List TableDecl) (dues : List Due) (entries : List Entry) → Every IsPlainDue dues → Goes tables [] dues entries → Every IsPlain entries
all-plain tables dues entries plain goes =
    (walked tables (λ front due told. true) (λ front due words behind. all-pass (replies_due tables front due words behind))
    (λ left now. Every IsPlainDue left × Every IsPlain now)
    (λ due left now h. (h.0.1, h.1))
    (λ due left now told may h. (h.0.1, every-append IsPlain now (entry_behind tables now due told ∷ []) h.1 (h.0.0, tt)))
    dues [] goes.0 entries (plain, tt) goes.1).1.1

-- ---- plain transactions

-- What holds of each reply holds of each up to the end of a transaction.
every-up : (P : Entry → Type 0) (entries : List Entry) → Every P entries → Every P (up_to_end entries)
every-up P [] h = tt
every-up P (e ∷ entries) h = by (is_end e.reply.said) (every-up P entries h.1)
  where
    by : (b : Bool) → Every P (up_to_end entries) → Every P (cond b (e ∷ []) (e ∷ up_to_end entries))
    by true rest = (h.0, tt)
    by false rest = (h.0, rest)

-- Where none of its replies begins a checked transaction, a transaction is plain.
not-checked : (entries : List Entry) → Every IsPlain entries → list_any (λ (e : Entry). begins_checked e.command && is_some (snapshot_in e.reply.said)) entries ≡ false
not-checked [] h = refl
not-checked (e ∷ entries) h =
    ap (λ (b : Bool). b && is_some (snapshot_in e.reply.said) || list_any (λ (x : Entry). begins_checked x.command && is_some (snapshot_in x.reply.said)) entries) h.0
    ∙ not-checked entries h.1

-- the transaction is plain
abbrev IsPlainSpan : Span → Type 0
IsPlainSpan t = is_checked t ≡ false

-- All transactions of plain replies are plain.
plain-spans : (entries : List Entry) → Every IsPlain entries → Every IsPlainSpan (transactions_of entries)
plain-spans [] h = tt
plain-spans (e ∷ entries) h = by (snapshot_in e.reply.said) (plain-spans entries h.1)
  where
    by : (o : Option ℕ) → Every IsPlainSpan (transactions_of entries) → Every IsPlainSpan (cons_option (option_map (span_from e entries) o) (transactions_of entries))
    by (Some number) rest = (
      not-checked (up_to_end (e ∷ thread e.reply.who entries))
          (every-up IsPlain (e ∷ thread e.reply.who entries) (h.0, every-filter IsPlain (λ x. is_same x.reply.who e.reply.who) entries h.1)),
      rest,
    )
    by None rest = rest

-- ---- the transaction of a commit

-- A reply is itself.
reply-itself : (e : Entry) → is_reply e e ≡ true
reply-itself e = rw (eq-eqb e.reply.round e.reply.round refl, same-itself e.reply.who, eq-eqb e.reply.index e.reply.index refl) refl

-- Where the list has one that passes, one is found.
one-found : {X : Type 0} (p : X → Bool) (xs : List X) (x : X) → Has x xs → p x ≡ true → (y : X) × (find p xs ≡ Some y)
one-found p [] x h is = absurd h
one-found {X = X} p (y ∷ xs) x h is = by (p y) refl h (λ in'. one-found p xs x in' is)
  where
    by : (b : Bool) → p y ≡ b → (y ≡ x) ⊎ Has x xs → (Has x xs → (z : X) × (find p xs ≡ Some z)) → (z : X) × (cond b (Some y) (find p xs) ≡ Some z)
    by true its k rest = (y, refl)
    by false its (inl same) rest = absurd (let e : p y ≡ true = subst (λ z. p z ≡ true) (sym same) is in let never : ⊥ = cc in never)
    by false its (inr in') rest = rest in'

-- A reply that shows a snapshot opens a transaction.
opens : (earlier : List Entry) (a : Entry) (rest : List Entry) (number : ℕ) → snapshot_in a.reply.said ≡ Some number → Has (span_from a rest number) (transactions_of (earlier ++ a ∷ rest))
opens [] a rest number is = subst (λ o. Has (span_from a rest number) (cons_option (option_map (span_from a rest) o) (transactions_of rest))) (sym is) (inl refl)
opens (e ∷ earlier) a rest number is = by (snapshot_in e.reply.said) (opens earlier a rest number is)
  where
    by : (o : Option ℕ) → Has (span_from a rest number) (transactions_of (earlier ++ a ∷ rest)) → Has (span_from a rest number) (cons_option (option_map (span_from e (earlier ++ a ∷ rest)) o) (transactions_of (earlier ++ a ∷ rest)))
    by (Some at) more = inr more
    by None more = more

-- The transaction that the first of four replies to a session opens has the fourth, where neither
-- of those between ends it.
has-fourth : (a b c d : Entry) (rest : List Entry) (number : ℕ) → is_end a.reply.said ≡ false → is_end b.reply.said ≡ false → is_end c.reply.said ≡ false
    → is_same b.reply.who a.reply.who ≡ true → is_same c.reply.who a.reply.who ≡ true → is_same d.reply.who a.reply.who ≡ true
    → list_any (is_reply d) (span_from a (b ∷ c ∷ d ∷ rest) number).replies ≡ true
has-fourth a b c d rest number ea eb ec wb wc wd = rw (wb, wc, wd, ea, eb, ec) (by (is_reply d a) (is_reply d b) (is_reply d c) (is_end d.reply.said))
  where
    by : (x y z ends : Bool) → (x || (y || (z || list_any (is_reply d) (cond ends (d ∷ []) (d ∷ up_to_end (thread a.reply.who rest)))))) ≡ true
    by true y z ends = refl
    by false true z ends = refl
    by false false true ends = refl
    by false false false true = rw (reply-itself d) refl
    by false false false false = rw (reply-itself d) refl

-- A reply of a plain transaction is not one of a commit that is refused.
not-stale : (tables : List TableDecl) (entries : List Entry) (e : Entry) (t : Span) → is_checked t ≡ false → (told : Said) → stale_holds (run_of tables entries) t e told ≡ true → IsStale told → ⊥
not-stale tables entries e t plain (said.Stale what number) h stale =
    let b = list_any (λ (other : Entry). is_some (accepted_write other)) (before t.replies e) in
    let c = list_any (is_read (read_of what)) (reads_told (before t.replies e)) in
    let d = names_meeting (run_of tables entries) t (read_of what) e number in
    let wrong : false ≡ true = subst (λ (a : Bool). (a && b && c && d) ≡ true) plain h in
    absurd (let never : ⊥ = cc in never)
not-stale tables entries e t plain _ h stale = absurd stale

-- A commit behind the two replies that its transaction's begin has behind it is not refused.
abbrev pub Stands : List Entry → Type 0
Stands entries = (earlier rest : List Entry) (a b c d : Entry) (session number : ℕ) → entries ≡ earlier ++ a ∷ b ∷ c ∷ d ∷ rest
    → a.reply.who ≡ Session session → b.reply.who ≡ Session session → c.reply.who ≡ Session session → d.reply.who ≡ Session session
    → a.reply.said ≡ said.At number → is_end b.reply.said ≡ false → is_end c.reply.said ≡ false → IsStale d.reply.said → ⊥

-- The last part of a conjunction that is true.
last-of : (a b c d e f g h i j : Bool) → (a && b && c && d && e && f && g && h && i && j) ≡ true → j ≡ true
last-of true true true true true true true true true j h = h
last-of false b c d e f g h i j k = absurd (let never : ⊥ = cc in never)
last-of true false c d e f g h i j k = absurd (let never : ⊥ = cc in never)
last-of true true false d e f g h i j k = absurd (let never : ⊥ = cc in never)
last-of true true true false e f g h i j k = absurd (let never : ⊥ = cc in never)
last-of true true true true false f g h i j k = absurd (let never : ⊥ = cc in never)
last-of true true true true true false g h i j k = absurd (let never : ⊥ = cc in never)
last-of true true true true true true false h i j k = absurd (let never : ⊥ = cc in never)
last-of true true true true true true true false i j k = absurd (let never : ⊥ = cc in never)
last-of true true true true true true true true false j k = absurd (let never : ⊥ = cc in never)

-- where the replies are plain and sound, no commit is refused
pub all-stand : (tables : List TableDecl) (entries : List Entry) → Every IsPlain entries → are_sound (run_of tables entries) ≡ true → Stands entries
all-stand tables entries plain sound earlier rest a b c d session number whole wa wb wc wd at eb ec stale =
    let run = run_of tables entries in
    let same : (e : Entry) → e.reply.who ≡ Session session → is_same e.reply.who a.reply.who ≡ true =
    λ e is. ap (λ (w : Who). is_same w a.reply.who) is ∙ ap (is_same (Session session)) wa ∙ same-itself (Session session) in
    let t = span_from a (b ∷ c ∷ d ∷ rest) number in
    let here : Has t (transactions_of entries) = subst (λ es. Has t (transactions_of es)) (sym whole) (opens earlier a (b ∷ c ∷ d ∷ rest) number (ap snapshot_in at)) in
    let found = one-found (λ (s : Span). list_any (is_reply d) s.replies) (transactions_of entries) t here
    (has-fourth a b c d rest number (ap is_end at) eb ec (same b wb) (same c wc) (same d wd)) in
    let its = find-has (λ (s : Span). list_any (is_reply d) s.replies) (transactions_of entries) found.0 found.1 in
    let is_plain = every-has IsPlainSpan (transactions_of entries) found.0 (plain-spans entries plain) its.0 in
    let has : Has d entries = subst (λ es. Has d es) (sym (whole ∙ three earlier a b c (d ∷ rest))) (has-here (earlier ++ a ∷ b ∷ c ∷ []) d rest) in
    let last = last-of (commit_numbers_hold run d) (snapshot_numbers_hold run d) (reads_hold run d) (writes_hold run d) (conflicts_hold run d) (freezing_holds run d) (full_holds run d) (exports_hold run d) (upkeep_holds run d) (reads_last run d)
    (all-has (is_sound run) entries d sound has) in
    let holds : stale_holds run found.0 d d.reply.said ≡ true = subst (λ o. option_map_or (λ s. stale_holds run s d d.reply.said) o true ≡ true) found.1 last in
    not-stale tables entries d found.0 is_plain d.reply.said holds stale
  where
    three : (xs : List Entry) (x y z : Entry) (rest : List Entry) → xs ++ x ∷ y ∷ z ∷ rest ≡ (xs ++ x ∷ y ∷ z ∷ []) ++ rest
    three [] x y z rest = refl
    three (w ∷ xs) x y z rest = ap (λ ys. w ∷ ys) (three xs x y z rest)
