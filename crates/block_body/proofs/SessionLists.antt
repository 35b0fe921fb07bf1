-- What the lists of sessions answer after one of them was changed.
use Rattle.std.proofs.Common.{◌≡◌, ◌≢◌, ◌∙◌, ℕ, zero, suc, ◌<◌, ◌≤◌, Bool, true, false, cond, List, [], ◌∷◌, ◌++◌, Option, None, Some, length, get_or, refl, sym, ap, arith, ⊎_elim}
use Rattle.std.proofs.Math.ListN.{set}
use Rattle.std.specs.Prelude.{position, find, slice_get, nat_lt, remove}
use Rattle.std.specs.List.{position_or_len}
use Rattle.std.specs.Option.{option_map_or, option_or}
use Rattle.std.proofs.lemmas.Bool.{cases_eq, eq-eqb, eqb-true, ne_eqb}
use Rattle.std.proofs.lemmas.Bool.Decides.{nat_tests}
use Rattle.std.proofs.lemmas.List.Folds.{find_at, find-append, find-set, find_past}
use Rattle.std.proofs.lemmas.List.Quantifiers.{position-Some}
use Rattle.std.proofs.lemmas.Option.{slice_get-get_or, slice_get_past}
use Rattle.block_body.specs.Chains.{is_listed}
use Rattle.block_body.specs.Bodies.{SessionSlots, SlotLists, is_of, slots_of}

-- the slots of what was found
abbrev slots_in : Option SessionSlots → List ℕ
slots_in found = option_map_or (λ listed. listed.slots) found []

-- A list of no slots that is no session's.
abbrev no_list : SessionSlots
no_list = record { session = 0; slots = [] }

-- one that is nowhere is past all of them
past : {X : Type 0} (test : X → Bool) (xs : List X) → position test xs ≡ None → length xs ≤ position_or_len test xs
past test xs none = go (nat_lt (position_or_len test xs) (length xs)) refl none
  where
    go : (b : Bool) → nat_lt (position_or_len test xs) (length xs) ≡ b → cond b (Some (position_or_len test xs)) None ≡ None →
        length xs ≤ position_or_len test xs
    go true is none = absurd (let never : ⊥ = cc in never)
    go false is none = grind (arith, nat_tests, is)

-- Where a session's list stands nowhere, it is not found.
nowhere : (session : ℕ) (lists : SlotLists) → position (is_of session) lists ≡ None → find (is_of session) lists ≡ None
nowhere session lists none =
    find_at (is_of session) lists
    ∙ slice_get_past lists (position_or_len (is_of session) lists) (past (is_of session) lists none)

-- one that stands somewhere is the first there
first : {X : Type 0} (test : X → Bool) (xs : List X) (at : ℕ) → position test xs ≡ Some at → position_or_len test xs ≡ at
first test xs at stands = go (nat_lt (position_or_len test xs) (length xs)) stands
  where
    go : (b : Bool) → cond b (Some (position_or_len test xs)) None ≡ Some at → position_or_len test xs ≡ at
    go true is = cc
    go false is = absurd (let never : ⊥ = cc in never)

-- what does not pass is not missed
apart-remove : {X : Type 0} (test : X → Bool) (xs : List X) (at : ℕ) (d : X) → at < length xs → test (get_or xs at d) ≡ false →
    find test (remove xs at) ≡ find test xs
apart-remove test [] at d within was = absurd (omega (arith, within))
apart-remove test (x ∷ xs) zero d within was = sym (ap (λ b. cond b (Some x) (find test xs)) was)
apart-remove test (x ∷ xs) (suc at) d within was =
    ap (λ o. cond (test x) (Some x) o) (apart-remove test xs at d (omega (arith, within)) was)

-- a session that is nowhere has no slots
pub no_slots : (session : ℕ) (lists : SlotLists) → position (is_of session) lists ≡ None → slots_of lists session ≡ []
no_slots session lists none = ap slots_in (nowhere session lists none)

-- a session that is nowhere gets a list
pub push_listed : (session slot : ℕ) (lists : SlotLists) (x : SessionSlots) → position (is_of session) lists ≡ None → x.session ≡ session →
    is_listed x.slots slot ≡ true → is_listed (slots_of (lists ++ x ∷ []) session) slot ≡ true
push_listed session slot lists x none own is =
    ap (λ o. is_listed (slots_in o) slot)
    (find-append (is_of session) lists (x ∷ [])
    ∙ ap (λ o. option_or o (find (is_of session) (x ∷ []))) (nowhere session lists none)
    ∙ ap (λ b. cond b (Some x) None) (eq-eqb x.session session own))
    ∙ is

-- no slot leaves a list by it
pub push_more : (lists : SlotLists) (x : SessionSlots) (other number : ℕ) → is_listed (slots_of lists other) number ≡ true →
    is_listed (slots_of (lists ++ x ∷ []) other) number ≡ true
push_more lists x other number is =
    ap (λ o. is_listed (slots_in o) number) (find-append (is_of other) lists (x ∷ [])) ∙ go (find (is_of other) lists) is
  where
    go : (o : Option SessionSlots) → is_listed (slots_in o) number ≡ true → is_listed (slots_in (option_or o (find (is_of other) (x ∷ [])))) number ≡ true
    go None is = let never : false ≡ true = is in cc
    go (Some l) is = is

module _ (session : ℕ) (lists : SlotLists) (at : ℕ) (stands : position (is_of session) lists ≡ Some at) where
  -- The session's list stands within the lists.
  within : at < length lists
  within = (position-Some (is_of session) lists at no_list stands).0

  -- the slots there are the session's
  pub own : (d : SessionSlots) → (get_or lists at d).session ≡ session
  own d = eqb-true (get_or lists at d).session session (position-Some (is_of session) lists at d stands).1

  -- the slots that are listed for a session are those at its list's place
  pub slots_there : (d : SessionSlots) → slots_of lists session ≡ (get_or lists at d).slots
  slots_there d = ap slots_in
      (find_at (is_of session) lists ∙ ap (slice_get lists) (first (is_of session) lists at stands) ∙ slice_get-get_or lists at d within)

  -- The list that stands there is not another session's.
  not_of : (d : SessionSlots) (other : ℕ) → other ≢ session → is_of other (get_or lists at d) ≡ false
  not_of d other apart = ne_eqb (get_or lists at d).session other (λ e. apart (sym e ∙ own d))

  -- without the list of a session the others' are as they were
  pub others_stay : (other : ℕ) → other ≢ session → slots_of (remove lists at) other ≡ slots_of lists other
  others_stay other apart = ap slots_in (apart-remove (is_of other) lists at no_list within (not_of no_list other apart))

  module _ (x : SessionSlots) (of : x.session ≡ session) where
    here : slots_of (set lists at x) session ≡ x.slots
    here = ap slots_in (find-set (is_of session) lists at x (sym (first (is_of session) lists at stands)) within (eq-eqb x.session session of))

    there : (other : ℕ) → other ≢ session → slots_of (set lists at x) other ≡ slots_of lists other
    there other apart =
        ap slots_in (find_past (is_of other) lists at x no_list (not_of no_list other apart) (ne_eqb x.session other (λ e. apart (sym e ∙ of))))

    -- a session's list gets another slot
    pub set_listed : (slot : ℕ) → is_listed x.slots slot ≡ true → is_listed (slots_of (set lists at x) session) slot ≡ true
    set_listed slot is = ap (λ (l : List ℕ). is_listed l slot) here ∙ is

    -- and no slot leaves a list
    pub set_more : (d : SessionSlots) → ((number : ℕ) → is_listed (get_or lists at d).slots number ≡ true → is_listed x.slots number ≡ true) →
        (other number : ℕ) → is_listed (slots_of lists other) number ≡ true → is_listed (slots_of (set lists at x) other) number ≡ true
    set_more d more other number is = ⊎_elim same apart (cases_eq other session)
      where
        same : other ≡ session → is_listed (slots_of (set lists at x) other) number ≡ true
        same e =
            ap (λ n. is_listed (slots_of (set lists at x) n) number) e
            ∙ ap (λ (l : List ℕ). is_listed l number) here
            ∙ more number (sym (ap (λ n. is_listed (slots_of lists n) number) e ∙ ap (λ (l : List ℕ). is_listed l number) (slots_there d)) ∙ is)

        apart : other ≢ session → is_listed (slots_of (set lists at x) other) number ≡ true
        apart ne = ap (λ (l : List ℕ). is_listed l number) (there other ne) ∙ is
