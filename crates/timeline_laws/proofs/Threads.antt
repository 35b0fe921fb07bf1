-- Two lists of replies that have the same threads have the same replies.
use Rattle.std.proofs.Common.{◌≡◌, ℕ, ◌≤◌, zero, suc, Bool, true, false, cond, not, List, [], ◌∷◌, ◌++◌, length, refl, sym, ap, ◌∙◌, subst, arith}
use Rattle.std.specs.List.{filter}
use Rattle.std.specs.List.Sorted.{IsPermutation}
use Rattle.std.proofs.lemmas.List.Sorted.{IsPermutation-refl, IsPermutation-trans, IsPermutation-sym, IsPermutation-append_right, IsPermutation-filter_both}
use Rattle.cell_model.specs.declared.table.TableDecl.{TableDecl}
use Rattle.isolation_spec.specs.Contents.{History}
use Rattle.workload_spec.specs.declared.reply.Who.{Who}
use Rattle.outcome_spec.specs.Entries.{Entry, is_same}
use Rattle.timeline_spec.specs.Timeline.{TimelineFrom}
use Rattle.outcome_spec.specs.Entries.{thread}
use Rattle.timeline_laws.proofs.Order.{same-is, same-itself}

-- The replies that are not to this session or worker.
abbrev others : Who → List Entry → List Entry
others who entries = filter (λ entry. not (is_same entry.reply.who who)) entries

-- the thread of another among the others is its thread; of that one there is none
kept-step : (p q : Entry → Bool) (a b : Bool) (entry : Entry) (kept all : List Entry) → p entry ≡ a → q entry ≡ b → (a ≡ true → b ≡ true) → filter p kept ≡ filter p all
    → filter p (cond b (entry ∷ kept) kept) ≡ cond a (entry ∷ filter p all) (filter p all)
kept-step p q true true entry kept all is_p is_q h rest = rw is_p (ap (λ es. entry ∷ es) rest)
kept-step p q true false entry kept all is_p is_q h rest = absurd (let e : false ≡ true = h refl in let never : ⊥ = cc in never)
kept-step p q false true entry kept all is_p is_q h rest = rw is_p rest
kept-step p q false false entry kept all is_p is_q h rest = rest

-- A wider test in front changes nothing for a narrower one.
kept : (p q : Entry → Bool) → ((entry : Entry) → p entry ≡ true → q entry ≡ true) → (entries : List Entry) → filter p (filter q entries) ≡ filter p entries
kept p q h [] = refl
kept p q h (entry ∷ entries) = kept-step p q (p entry) (q entry) entry (filter q entries) entries refl refl (h entry) (kept p q h entries)

-- One more reply keeps that two tests that exclude each other leave none.
none-step : (p q : Entry → Bool) (a b : Bool) (entry : Entry) (rest : List Entry) → p entry ≡ a → q entry ≡ b → (a ≡ true → b ≡ false) → filter p rest ≡ [] → filter p (cond b (entry ∷ rest) rest) ≡ []
none-step p q true true entry rest is_p is_q h none = absurd (let e : true ≡ false = h refl in let never : ⊥ = cc in never)
none-step p q true false entry rest is_p is_q h none = none
none-step p q false true entry rest is_p is_q h none = rw is_p none
none-step p q false false entry rest is_p is_q h none = none

-- Two tests that exclude each other leave no reply.
none : (p q : Entry → Bool) → ((entry : Entry) → p entry ≡ true → q entry ≡ false) → (entries : List Entry) → filter p (filter q entries) ≡ []
none p q h [] = refl
none p q h (entry ∷ entries) = none-step p q (p entry) (q entry) entry (filter q entries) refl refl (h entry) (none p q h entries)

-- Two lists with one thread in common have it without another's replies, too.
other-threads : (w who : Who) (a b : List Entry) → thread who a ≡ thread who b → (same : Bool) → is_same who w ≡ same → thread who (others w a) ≡ thread who (others w b)
other-threads w who a b h true same =
    let apart : (entry : Entry) → is_same entry.reply.who who ≡ true → not (is_same entry.reply.who w) ≡ false = λ entry is. ap not (ap (λ (v : Who). is_same v w) (same-is entry.reply.who who is) ∙ same) in
    none (λ entry. is_same entry.reply.who who) (λ entry. not (is_same entry.reply.who w)) apart a ∙ sym (none (λ entry. is_same entry.reply.who who) (λ entry. not (is_same entry.reply.who w)) apart b)
other-threads w who a b h false same =
    let stays : (entry : Entry) → is_same entry.reply.who who ≡ true → not (is_same entry.reply.who w) ≡ true = λ entry is. ap not (ap (λ (v : Who). is_same v w) (same-is entry.reply.who who is) ∙ same) in
    kept (λ entry. is_same entry.reply.who who) (λ entry. not (is_same entry.reply.who w)) stays a ∙ h ∙ sym (kept (λ entry. is_same entry.reply.who who) (λ entry. not (is_same entry.reply.who w)) stays b)

-- One more reply, kept or not, makes those kept one more at most.
shorter-step : (b : Bool) (entry : Entry) (rest : List Entry) (n : ℕ) → length rest ≤ n → length (cond b (entry ∷ rest) rest) ≤ suc n
shorter-step true entry rest n h = let e : length (entry ∷ rest) ≡ suc (length rest) = refl in omega (arith, e, h)
shorter-step false entry rest n h = omega (arith, h)

-- No more replies are kept than there are.
shorter : (p : Entry → Bool) (entries : List Entry) → length (filter p entries) ≤ length entries
shorter p [] = omega arith
shorter p (entry ∷ entries) =
    let e : length (entry ∷ entries) ≡ suc (length entries) = refl in
    let h : length (filter p (entry ∷ entries)) ≤ suc (length entries) = shorter-step (p entry) entry (filter p entries) (length entries) (shorter p entries) in
    omega (arith, e, h)

-- Replies of which every thread is empty are none.
nothing : (b : List Entry) → ((who : Who) → [] ≡ thread who b) → [] ≡ b
nothing [] h = refl
nothing (entry ∷ b) h =
    let e : [] ≡ entry ∷ thread entry.reply.who b = h entry.reply.who ∙ ap (λ (s : Bool). cond s (entry ∷ thread entry.reply.who b) (thread entry.reply.who b)) (same-itself entry.reply.who) in
    absurd (let never : ⊥ = cc in never)

-- Two lists of replies with the same threads have the same replies.
permuted : (fuel : ℕ) (a b : List Entry) → length a ≤ fuel → ((who : Who) → thread who a ≡ thread who b) → IsPermutation a b
permuted fuel [] b short h = subst (IsPermutation []) (nothing b h) (IsPermutation-refl [])
permuted zero (entry ∷ a) b short h = absurd (let e : length (entry ∷ a) ≡ suc (length a) = refl in omega (arith, e, short))
permuted (suc fuel) (entry ∷ a) b short h =
    let w = entry.reply.who in
    let dropped : others w (entry ∷ a) ≡ others w a = ap (λ (s : Bool). cond (not s) (entry ∷ others w a) (others w a)) (same-itself w) in
    let size : length (others w (entry ∷ a)) ≤ fuel =
    let e : length (entry ∷ a) ≡ suc (length a) = refl in
    let less : length (others w a) ≤ length a = shorter (λ other. not (is_same other.reply.who w)) a in
    omega (arith, e, less, short, ap length dropped) in
    let rest = permuted fuel (others w (entry ∷ a)) (others w b) size (λ who. other-threads w who (entry ∷ a) b (h who) (is_same who w) refl) in
    let first = IsPermutation-filter_both (λ other. is_same other.reply.who w) (λ other. not (is_same other.reply.who w)) (λ other. refl) (entry ∷ a) in
    let last = IsPermutation-filter_both (λ other. is_same other.reply.who w) (λ other. not (is_same other.reply.who w)) (λ other. refl) b in
    let middle = IsPermutation-append_right (thread w b) (others w (entry ∷ a)) (others w b) rest in
    IsPermutation-trans (entry ∷ a) (thread w b ++ others w (entry ∷ a)) b
    (subst (λ (es : List Entry). IsPermutation (entry ∷ a) (es ++ others w (entry ∷ a))) (h w) first)
    (IsPermutation-trans (thread w b ++ others w (entry ∷ a)) (thread w b ++ others w b) b middle (IsPermutation-sym b (thread w b ++ others w b) last))

-- A timeline has the printed replies.
pub same-of : (start : History) (tables : List TableDecl) (printed timeline : List Entry) → TimelineFrom start tables printed timeline → IsPermutation timeline printed
same-of start tables printed timeline t = permuted (length timeline) timeline printed (omega arith) (λ who. sym (t.threads who))
