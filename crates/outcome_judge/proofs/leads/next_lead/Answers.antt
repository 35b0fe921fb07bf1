use Rattle.std.proofs.Common.{◌≡◌, ◌∙◌, ◌≤◌, ◌-◌, zero, suc, ap, sym, max, Bool, true, false, List, [], ◌∷◌, length, None, Some, ℕ, nat_le, arith}
use Rattle.std.specs.List.{last_or, list_all, slice_get}
use Rattle.std.specs.Prelude.{if◌then◌else◌}
use Rattle.std.proofs.lemmas.Bool.{and_parts}
use Rattle.std.proofs.lemmas.Bool.Decides.{nat_tests}
use Rattle.workload_spec.specs.declared.reply.Who.{Who}
use Rattle.outcome_spec.specs.Entries.{is_same}
use Rattle.mark_index.proofs.Parted.{last-get}
use Rattle.order_laws.proofs.Places.{same-is}
use Rattle.outcome_judge.specs.Leads.{but_of, is_ordered}
use Rattle.outcome_judge.specs.declared.leads.Lead.{Lead}
use Rattle.outcome_judge.proofs.Leading.{lead-same, lead-new, lead-kept}
use Rattle.outcome_judge.proofs.Whos.{same-apart}
use Rattle.outcome_judge.proofs.leads.next_lead.Goals as goal

but-last : (own : Who) (leads : List Lead) (last : Lead) → Some last ≡ slice_get leads (length leads - 1) → (if is_same last.who own then last.others else last.most) ≡ but_of own (last_or None leads)
but-last own leads last h = ap (but_of own) (h ∙ last-get leads)

all-got : {X : Type 0} (p : X → Bool) (xs : List X) (n : ℕ) (x : X) → list_all p xs ≡ true → Some x ≡ slice_get xs n → p x ≡ true
all-got p [] zero x h is = absurd (let never : ⊥ = cc in never)
all-got p [] (suc n) x h is = absurd (let never : ⊥ = cc in never)
all-got p (y ∷ xs) zero x h is = let e : x ≡ y = cc in ap p e ∙ (and_parts (p y) (list_all p xs) h).0
all-got p (y ∷ xs) (suc n) x h is = all-got p xs n x (and_parts (p y) (list_all p xs) h).1 is

low : (leads : List Lead) (last : Lead) → list_all is_ordered leads ≡ true → Some last ≡ slice_get leads (length leads - 1) → last.others ≤ last.most
low leads last h is = let o : nat_le last.others last.most ≡ true = all-got is_ordered leads (length leads - 1) last h is in grind (arith, nat_tests, o)

pub returns-in-Some-clause-most : goal.returns-in-Some-clause-most
returns-in-Some-clause-most c = λ own.
    let last = c.in-Some.last.now in
    let who : Who = c.args.who in
    let value : ℕ = c.args.value in
    let same : is_same last.who who ≡ true = sym c.is_one.ensures ∙ c.if-is_one.true in
    ap (λ (n : ℕ). if is_same last.who own then last.others else n) c.max.ensures
    ∙ lead-same (is_same last.who own) last.others last.most value
    ∙ ap (λ (w : Who). max (if is_same last.who own then last.others else last.most) (if is_same w own then 0 else value)) (same-is last.who who same)
    ∙ ap (λ (n : ℕ). max n (if is_same who own then 0 else value)) (but-last own c.args.leads.now last c.in-Some.ensures.value)

pub returns-in-Some-2-clause-most : goal.returns-in-Some-2-clause-most
returns-in-Some-2-clause-most c = λ own.
    let last = c.in-Some.last.now in
    let who : Who = c.args.who in
    let value : ℕ = c.args.value in
    let other : is_same last.who who ≡ false = sym c.is_one.ensures ∙ c.if-is_one.false in
    lead-new (is_same last.who own) (is_same who own) last.others last.most value (same-apart last.who who own other)
    (low c.args.leads.now last c.requires c.in-Some.ensures.value) c.if-last-value.true
    ∙ ap (λ (n : ℕ). max n (if is_same who own then 0 else value)) (but-last own c.args.leads.now last c.in-Some.ensures.value)

pub returns-in-Some-3-clause-most : goal.returns-in-Some-3-clause-most
returns-in-Some-3-clause-most c = λ own.
    let last = c.in-Some.last.now in
    let who : Who = c.args.who in
    let value : ℕ = c.args.value in
    let other : is_same last.who who ≡ false = sym c.is_one.ensures ∙ c.if-is_one.false in
    ap (λ (n : ℕ). if is_same last.who own then n else last.most) c.max-in-Some-3.ensures
    ∙ lead-kept (is_same last.who own) (is_same who own) last.others last.most value (same-apart last.who who own other) c.if-last-value.false
    ∙ ap (λ (n : ℕ). max n (if is_same who own then 0 else value)) (but-last own c.args.leads.now last c.in-Some.ensures.value)
