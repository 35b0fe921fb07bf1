-- Leads that follow the elements one by one.
use Rattle.std.proofs.Common.{◌≡◌, ℕ, ◌+◌, ◌-◌, ◌<◌, ◌≤◌, ◌⊎◌, inl, inr, max, Bool, true, false, cond, nat_lt, List, [], ◌∷◌, ◌++◌, length, take, get_or, Option, None, Some, refl, sym, ap, ◌∙◌, subst, arith, append-nil}
use Rattle.std.specs.List.{filter, last_or, list_all}
use Rattle.std.specs.Prelude.{if◌then◌else◌}
use Rattle.std.proofs.lemmas.Bool.{ltb-true, lt-ltb, le-ltb}
use Rattle.std.proofs.lemmas.List.Elements.{filter-append}
use Rattle.std.proofs.lemmas.List.Sorted.{IsNonDecreasingBy-push}
use Rattle.workload_spec.specs.declared.reply.Who.{Who}
use Rattle.outcome_spec.specs.Entries.{is_same}
use Rattle.mark_index.specs.Marks.{highest}
use Rattle.mark_index.proofs.Noted.{all-weaker, take-next, highest-append, all-get, all-push, filter-all, last-push, up-to-next}
use Rattle.outcome_judge.specs.Leads.{but_of, lead_below, but_own, is_ordered, AreLeads, AreFollowed}
use Rattle.outcome_judge.specs.declared.leads.Lead.{Lead}

-- the same one's value
pub lead-same : (own : Bool) (others most value : ℕ) → (if own then others else max most value) ≡ max (if own then others else most) (if own then 0 else value)
lead-same true others most value = omega arith
lead-same false others most value = refl

-- another's, which is higher
pub lead-new : (of_last of_new : Bool) (others most value : ℕ) → (of_last ≡ true → of_new ≡ true → ⊥) → others ≤ most → most < value
    → (if of_new then most else value) ≡ max (if of_last then others else most) (if of_new then 0 else value)
lead-new true true others most value apart low high = absurd (apart refl refl)
lead-new true false others most value apart low high = omega (arith, low, high)
lead-new false true others most value apart low high = omega arith
lead-new false false others most value apart low high = omega (arith, high)

-- another's, which isn't
pub lead-kept : (of_last of_new : Bool) (others most value : ℕ) → (of_last ≡ true → of_new ≡ true → ⊥) → value ≤ most
    → (if of_last then max others value else most) ≡ max (if of_last then others else most) (if of_new then 0 else value)
lead-kept true true others most value apart low = absurd (apart refl refl)
lead-kept true false others most value apart low = refl
lead-kept false true others most value apart low = omega arith
lead-kept false false others most value apart low = omega (arith, low)

-- ---- an element more

-- Leads that are all below a place are all below one that is no less.
lower : (m n : ℕ) → m ≤ n → (leads : List Lead) → list_all (λ (lead : Lead). nat_lt lead.place m) leads ≡ true → list_all (λ (lead : Lead). nat_lt lead.place n) leads ≡ true
lower m n h leads k = all-weaker (λ (lead : Lead). nat_lt lead.place m) (λ (lead : Lead). nat_lt lead.place n) (λ lead is. lt-ltb lead.place n (let low = ltb-true lead.place m is in omega (arith, low, h))) leads k

module _ {X : Type 0} (whose : X → Who) (value : X → ℕ) (xs front : List X) (x : X) (rest : List X) (n : ℕ) (whole : xs ≡ front ++ x ∷ rest) (far : length front ≡ n)
    (leads : List Lead) (noted : AreLeads whose value xs n leads) where
  -- Below the next element's place and each behind it the last lead is the last of all.
  last-is : (k : ℕ) → n ≤ k → lead_below k leads ≡ last_or None leads
  last-is k h = ap (last_or None) (filter-all (λ (lead : Lead). nat_lt lead.place k) leads (lower n k h leads noted.within))

  -- With the next element the highest of all but one is the greater of the old one and its own.
  highest-next : (own : Who) → highest (but_own own whose value) (take (n + 1) xs) ≡ max (highest (but_own own whose value) (take n xs)) (but_own own whose value x)
  highest-next own =
      ap (highest (but_own own whose value)) (take-next xs front x rest n whole far) ∙ highest-append (but_own own whose value) (take n xs) (x ∷ [])
      ∙ (let e : max (but_own own whose value x) 0 ≡ but_own own whose value x = omega arith in ap (max (highest (but_own own whose value) (take n xs))) e)

  -- A value of zero is zero for all but one, whoever this is.
  none-own : value x ≡ 0 → (own : Who) → but_own own whose value x ≡ 0
  none-own none own = by (is_same (whose x) own)
    where
      by : (b : Bool) → (if b then 0 else value x) ≡ 0
      by true = refl
      by false = none

  -- Where the next value is zero, the leads tell the highest up to the next place too.
  missed : value x ≡ 0 → (own : Who) (place : ℕ) → (place ≤ n) ⊎ (place ≡ n + 1) → but_of own (lead_below place leads) ≡ highest (but_own own whose value) (take place xs)
  missed none own place (inl low) = noted.most own place low
  missed none own place (inr at) =
      let old = noted.most own n (omega arith) in
      let zero = none-own none own in
      let next : highest (but_own own whose value) (take (n + 1) xs) ≡ highest (but_own own whose value) (take n xs) =
      highest-next own ∙ ap (max (highest (but_own own whose value) (take n xs))) zero ∙ omega arith in
      rw at (ap (but_of own) (last-is (n + 1) (omega arith) ∙ sym (last-is n (omega arith))) ∙ old ∙ sym next)

  -- an element of value 0 leaves them leads, of one element more
  pub leads-missed : value x ≡ 0 → AreLeads whose value xs (n + 1) leads
  leads-missed none = record {
    rise = noted.rise;
    within = lower n (n + 1) (omega arith) leads noted.within;
    ordered = noted.ordered;
    most = λ own place h. missed none own place (up-to-next place n h);
  }

  module _ (lead : Lead) (there : lead.place ≡ n) (ordered : is_ordered lead ≡ true)
      (most : (own : Who) → but_of own (Some lead) ≡ max (but_of own (last_or None leads)) (if is_same (whose x) own then 0 else value x)) where
    within-here : nat_lt lead.place (n + 1) ≡ true
    within-here = lt-ltb lead.place (n + 1) (let t = there in omega (arith, t))

    within-pushed : list_all (λ (l : Lead). nat_lt l.place (n + 1)) (leads ++ lead ∷ []) ≡ true
    within-pushed = all-push (λ (l : Lead). nat_lt l.place (n + 1)) leads lead (lower n (n + 1) (omega arith) leads noted.within) within-here

    pushed-old : (k : ℕ) → k ≤ n → lead_below k (leads ++ lead ∷ []) ≡ lead_below k leads
    pushed-old k h =
        ap (last_or None) (filter-append (λ (l : Lead). nat_lt l.place k) leads (lead ∷ [])
        ∙ ap (λ (b : Bool). filter (λ (l : Lead). nat_lt l.place k) leads ++ cond b (lead ∷ []) []) (le-ltb lead.place k (let t = there in omega (arith, t, h))) ∙ append-nil (filter (λ (l : Lead). nat_lt l.place k) leads))

    pushed-last : lead_below (n + 1) (leads ++ lead ∷ []) ≡ Some lead
    pushed-last = ap (last_or None) (filter-all (λ (l : Lead). nat_lt l.place (n + 1)) (leads ++ lead ∷ []) within-pushed) ∙ last-push None leads lead

    pushed : (own : Who) (place : ℕ) → (place ≤ n) ⊎ (place ≡ n + 1) → but_of own (lead_below place (leads ++ lead ∷ [])) ≡ highest (but_own own whose value) (take place xs)
    pushed own place (inl low) = ap (but_of own) (pushed-old place low) ∙ noted.most own place low
    pushed own place (inr at) =
        let old = noted.most own n (omega arith) in
        rw at (ap (but_of own) pushed-last ∙ most own ∙ ap (λ (o : Option Lead). max (but_of own o) (but_own own whose value x)) (sym (last-is n (omega arith)))
        ∙ ap (λ (k : ℕ). max k (but_own own whose value x)) old ∙ sym (highest-next own))

    -- with a lead that takes it in, they are leads of one element more
    pub leads-pushed : AreLeads whose value xs (n + 1) (leads ++ lead ∷ [])
    leads-pushed = record {
      rise = IsNonDecreasingBy-push (λ (l : Lead). l.place) leads lead noted.rise
          (λ d some. let last = ltb-true (get_or leads (length leads - 1) d).place n (all-get (λ (l : Lead). nat_lt l.place n) leads (length leads - 1) d (omega (arith, some)) noted.within) in let t = there in omega (arith, last, t));
      within = within-pushed;
      ordered = all-push is_ordered leads lead noted.ordered ordered;
      most = λ own place h. pushed own place (up-to-next place n h);
    }

-- leads that follow an element are leads of one element more
pub leads-next : {X : Type 0} (whose : X → Who) (value : X → ℕ) (xs front : List X) (x : X) (rest : List X) (n : ℕ) → xs ≡ front ++ x ∷ rest → length front ≡ n
    → (old new : List Lead) → AreLeads whose value xs n old → (put : Bool) (until : ℕ) → (if put then until else 0) ≡ value x → AreFollowed put n (whose x) until old new → AreLeads whose value xs (n + 1) new
leads-next whose value xs front x rest n whole far old new noted true until is followed =
    let its = followed.put_behind refl in
    subst (AreLeads whose value xs (n + 1)) (sym its.behind) (leads-pushed whose value xs front x rest n whole far old noted its.lead its.there its.ordered
    (λ own. its.most own ∙ ap (λ (k : ℕ). max (but_of own (last_or None old)) (if is_same (whose x) own then 0 else k)) is))
leads-next whose value xs front x rest n whole far old new noted false until is followed =
    subst (AreLeads whose value xs (n + 1)) (sym (followed.same refl)) (leads-missed whose value xs front x rest n whole far old noted (sym is))

-- no leads are those of no elements
pub leads-nil : {X : Type 0} (whose : X → Who) (value : X → ℕ) (xs : List X) → AreLeads whose value xs 0 []
leads-nil whose value xs = record {
  rise = λ i j d h k. absurd (omega (arith, k));
  within = refl;
  ordered = refl;
  most = λ own place h. let e : place ≡ 0 = omega (arith, h) in rw e refl;
}
