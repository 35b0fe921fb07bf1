-- Sessions of a row meet.
use Rattle.std.proofs.Common.{◌≡◌, ℕ, ◌+◌, ◌-◌, ◌<◌, ◌≤◌, nat_lt, Bool, true, false, List, [], ◌∷◌, ◌++◌, length, get_or, slice_set, refl, sym, ap, ◌∙◌, subst, append-nil, arith, length-append}
use Rattle.std.proofs.lemmas.Bool.Decides.{nat_tests}
use Rattle.std.proofs.lemmas.Grind.{elements}
use Rattle.run_spec.specs.Handed.{GoesOn, own_in}
use Rattle.run_spec.specs.Occurrences.{Logged}
use Rattle.run_laws.proofs.Rounds.Working.{further}
use Rattle.shared_store.specs.Meeting.{Meets}
use Rattle.shared_store.specs.Store.{Notes, StoreView, seen, shape_in}
use Rattle.shared_store.proofs.OwnCommits.{keeps_still}
use Rattle.store_rounds.specs.Sessions.{IsFreeSession}
use Rattle.shared_store.specs.declared.session.Session.{Session}
use Rattle.store_rounds.specs.Row.{AreSessions, LookOn, LooksOn, Meet, Met, SeeBack, ShowAlong}

-- ---- looking on

-- Each log goes on from itself, by no entries.
saw_all : (log : List Logged) → GoesOn log log
saw_all log = ([], sym (append-nil log))

-- a session looks on to itself
pub stays : (store : StoreView) (session : Session) → IsFreeSession store session → LooksOn store session session
stays store session is = record { is_session = is; same = refl; kept = refl; keeps = λ taken keeps. keeps; saw = saw_all (seen session); nothing_more = refl; made = refl }

-- a session that looks on twice has looked on
pub looks_further : (store : StoreView) (old now new : Session) → LooksOn store old now → LooksOn store now new → LooksOn store old new
looks_further store old now new first second = record {
  is_session = second.is_session;
  same = second.same ∙ first.same;
  kept = second.kept ∙ first.kept;
  keeps = λ taken keeps. second.keeps taken (first.keeps taken keeps);
  saw = further (seen old) (seen now) (seen new) first.saw second.saw;
  nothing_more = second.nothing_more ∙ first.nothing_more;
  made = second.made ∙ first.made;
}

-- each of a row looks on to itself
pub all_stay : (store : StoreView) (row : List Session) → AreSessions store row → LookOn store row row
all_stay store row are = record { size = refl; each = λ k d within. stays store (get_or row k d) (are k d within) }

-- a row that looks on twice has looked on
pub look_further : (store : StoreView) (old now new : List Session) → LookOn store old now → LookOn store now new → LookOn store old new
look_further store old now new first second = record {
  size = second.size ∙ first.size;
  each = λ k d within. looks_further store (get_or old k d) (get_or now k d) (get_or new k d)
      (first.each k d within) (second.each k d (omega (arith, within, first.size)));
}

-- those of a row that look on are still sessions of the store
pub still_sessions : (store : StoreView) (old new : List Session) → LookOn store old new → AreSessions store new
still_sessions store old new look k d within = (look.each k d (omega (arith, within, look.size))).is_session

-- ---- neighbours

-- one that met another looked on, and has lent nothing still
looks_met : (store : StoreView) (old new : Session) → IsFreeSession store old → Meets store old new → LooksOn store old new
looks_met store old new is met = record {
  is_session = record { stands = met.session; free = met.reads.claim ∙ is.free };
  same = met.same;
  kept = ap (λ (notes : Notes). notes.reads) met.kept;
  keeps = keeps_still store old new (ap (λ (notes : Notes). notes.wrote) met.kept) (ap (λ n. own_in (shape_in store) n (seen new)) met.same ∙ met.own);
  saw = met.sees;
  nothing_more = ap (λ n. own_in (shape_in store) n (seen new)) met.same ∙ met.own;
  made = met.made;
}

-- where a place stands to two neighbours
data Place (second k : ℕ) : Type 0 where
  before : k + 1 < second → Place second k
  first : k + 1 ≡ second → Place second k
  own : k ≡ second → Place second k
  behind : second < k → Place second k

-- Each place is in front of two neighbours, one of them, or behind both.
place : (second k : ℕ) → Place second k
place second k = go (nat_lt (k + 1) second) (nat_lt k second) (nat_lt second k) refl refl refl
  where
    go : (a b c : Bool) → nat_lt (k + 1) second ≡ a → nat_lt k second ≡ b → nat_lt second k ≡ c → Place second k
    go true b c e f h = before (grind (arith, nat_tests, e))
    go false true c e f h = first (grind (arith, nat_tests, e, f))
    go false false true e f h = behind (grind (arith, nat_tests, h))
    go false false false e f h = own (grind (arith, nat_tests, f, h))

-- looking on, told of the same states
moved : (store : StoreView) (o p n m : Session) → o ≡ p → n ≡ m → LooksOn store p m → LooksOn store o n
moved store o p n m e f looks = subst (λ q. LooksOn store q n) (sym e) (subst (λ q. LooksOn store p q) (sym f) looks)

-- What one session saw of another holds of equal sessions, too.
saw_same : (o p n m : Session) → o ≡ p → n ≡ m → GoesOn (seen p) (seen m) → GoesOn (seen o) (seen n)
saw_same o p n m e f saw = subst (λ q. GoesOn (seen q) (seen n)) (sym e) (subst (λ q. GoesOn (seen p) (seen q)) (sym f) saw)

module _ (front back : List Session) (second : ℕ) (a b x y : Session) (size : length front ≡ second) (low : 1 ≤ second) (high : 0 < length back) where
  -- The row with its two neighbours as they are once they met.
  abbrev met_row : List Session
  met_row = slice_set front (second - 1) a ++ slice_set back 0 b

  -- The row is as long as before the two neighbours met.
  met_size : length met_row ≡ length (front ++ back)
  met_size = grind (arith, elements)

  -- In front of the two neighbours the row is as it was.
  read_before : (k : ℕ) (d : Session) → k + 1 < second → get_or met_row k d ≡ get_or (front ++ back) k d
  read_before k d here = grind (arith, elements)

  -- At the first neighbour's place stands what it is now.
  read_first : (k : ℕ) (d : Session) → k + 1 ≡ second → get_or met_row k d ≡ a
  read_first k d here = grind (arith, elements)

  -- At the second neighbour's place stands what it is now.
  read_own : (k : ℕ) (d : Session) → k ≡ second → get_or met_row k d ≡ b
  read_own k d here = grind (arith, elements)

  -- Behind the two neighbours the row is as it was.
  read_behind : (k : ℕ) (d : Session) → second < k → k < length (front ++ back) → get_or met_row k d ≡ get_or (front ++ back) k d
  read_behind k d here within = grind (arith, elements)

  -- The first neighbour was the last of those in front of the second.
  old_first : (k : ℕ) (d : Session) → k + 1 ≡ second → get_or (front ++ back) k d ≡ get_or front (second - 1) x
  old_first k d here = grind (arith, elements)

  -- The second neighbour was the first of those from itself on.
  old_own : (k : ℕ) (d : Session) → k ≡ second → get_or (front ++ back) k d ≡ get_or back 0 y
  old_own k d here = grind (arith, elements)

  module _ (store : StoreView) (are : AreSessions store (front ++ back))
      (first_meets : Meets store (get_or front (second - 1) x) a) (own_meets : Meets store (get_or back 0 y) b)
      (shows : GoesOn (seen (get_or front (second - 1) x)) (seen b)) (returns : GoesOn (seen b) (seen a)) where
    -- the row has both places
    has_own : second < length (front ++ back)
    has_own = let both = length-append front back in omega (arith, both, size, high)

    first_looks : LooksOn store (get_or front (second - 1) x) a
    first_looks = looks_met store (get_or front (second - 1) x) a
        (subst (IsFreeSession store) (old_first (second - 1) x (omega (arith, low))) (are (second - 1) x (omega (arith, low, has_own))))
        first_meets

    own_looks : LooksOn store (get_or back 0 y) b
    own_looks = looks_met store (get_or back 0 y) b (subst (IsFreeSession store) (old_own second y refl) (are second y has_own)) own_meets

    each_looks : (k : ℕ) (d : Session) → k < length (front ++ back) → LooksOn store (get_or (front ++ back) k d) (get_or met_row k d)
    each_looks k d within = go (place second k)
      where
        old : Session
        old = get_or (front ++ back) k d

        go : Place second k → LooksOn store (get_or (front ++ back) k d) (get_or met_row k d)
        go (before here) = moved store (get_or (front ++ back) k d) (get_or (front ++ back) k d) (get_or met_row k d) (get_or (front ++ back) k d) refl (read_before k d here)
            (stays store (get_or (front ++ back) k d) (are k d within))
        go (first here) = moved store (get_or (front ++ back) k d) (get_or front (second - 1) x) (get_or met_row k d) a (old_first k d here) (read_first k d here) first_looks
        go (own here) = moved store (get_or (front ++ back) k d) (get_or back 0 y) (get_or met_row k d) b (old_own k d here) (read_own k d here) own_looks
        go (behind here) = moved store (get_or (front ++ back) k d) (get_or (front ++ back) k d) (get_or met_row k d) (get_or (front ++ back) k d) refl (read_behind k d here within)
            (stays store (get_or (front ++ back) k d) (are k d within))

    -- two neighbours of a row that met have met within the whole row
    pub neighbours_met : (row : List Session) → row ≡ front ++ back → Meet store second row met_row
    neighbours_met row is = subst (λ r. Meet store second r met_row) (sym is) (record {
      look_on = record { size = met_size; each = each_looks };
      shown = λ d. saw_same (get_or (front ++ back) (second - 1) d) (get_or front (second - 1) x) (get_or met_row second d) b
          (old_first (second - 1) d (omega (arith, low))) (read_own second d refl) shows;
      shown_back = λ d. saw_same (get_or (front ++ back) second d) (get_or back 0 y) (get_or met_row (second - 1) d) a
          (old_own second d refl) (read_first (second - 1) d (omega (arith, low)))
          (further (seen (get_or back 0 y)) (seen b) (seen a) own_looks.saw returns);
    })

-- ---- along the row, and back

-- the first ones of a row showed what they saw to one of it
pub record Along (store : StoreView) (old now : List Session) (last : ℕ) : Type 0 where
  pub look_on : LookOn store old now
  pub shown : (k : ℕ) (d : Session) → k ≤ last → k < length old → GoesOn (seen (get_or old k d)) (seen (get_or now last d))

-- the first of a row shows what it saw to itself
pub along_begins : (store : StoreView) (row : List Session) → AreSessions store row → Along store row row 0
along_begins store row are = record {
  look_on = all_stay store row are;
  shown = λ k d low within. subst (λ n. GoesOn (seen (get_or row n d)) (seen (get_or row 0 d))) (let e : 0 ≡ k = omega (arith, low) in e) (saw_all (seen (get_or row 0 d)));
}

-- one more of the row meets the one before it, which has all that the first ones saw
pub along_goes_on : (store : StoreView) (old now new : List Session) (second : ℕ) → 1 ≤ second → second < length old
    → Along store old now (second - 1) → Meet store second now new → Along store old new second
along_goes_on store old now new second low high along meet = record {
  look_on = look_further store old now new along.look_on meet.look_on;
  shown = λ k d under within. go k d within (nat_lt k second) refl under;
}
  where
    go : (k : ℕ) (d : Session) → k < length old → (b : Bool) → nat_lt k second ≡ b → k ≤ second → GoesOn (seen (get_or old k d)) (seen (get_or new second d))
    go k d within true e under = further (seen (get_or old k d)) (seen (get_or now (second - 1) d)) (seen (get_or new second d))
        (along.shown k d (grind (arith, nat_tests, e, low)) within) (meet.shown d)
    go k d within false e under =
        let same : k ≡ second = grind (arith, nat_tests, e, under) in
        subst (λ n. GoesOn (seen (get_or old k d)) (seen (get_or new n d))) same
        ((look_further store old now new along.look_on meet.look_on).each k d within).saw

-- once the last met the one before it, it has seen all that the others had
pub along_ends : (store : StoreView) (old now : List Session) (last : ℕ) → last + 1 ≡ length old → Along store old now last → ShowAlong store old now
along_ends store old now last is along = record {
  look_on = along.look_on;
  shown = λ k d within. subst (λ n. GoesOn (seen (get_or old k d)) (seen (get_or now n d))) (let e : last ≡ length old - 1 = omega (arith, is) in e)
      (along.shown k d (omega (arith, is, within)) within);
}

-- those from one of a row on saw what the last had seen
pub record Back (store : StoreView) (old now : List Session) (from : ℕ) : Type 0 where
  pub look_on : LookOn store old now
  pub saw : (k : ℕ) (d : Session) → from ≤ k → k < length old → GoesOn (seen (get_or old (length old - 1) d)) (seen (get_or now k d))

-- on the way back, the last of a row has seen what it saw
pub back_begins : (store : StoreView) (row : List Session) → AreSessions store row → Back store row row (length row - 1)
back_begins store row are = record {
  look_on = all_stay store row are;
  saw = λ k d low within. subst (λ n. GoesOn (seen (get_or row (length row - 1) d)) (seen (get_or row n d))) (let e : length row - 1 ≡ k = omega (arith, low, within) in e)
      (saw_all (seen (get_or row (length row - 1) d)));
}

-- one more of the row meets the one behind it, and has seen what the last had
pub back_goes_on : (store : StoreView) (old now new : List Session) (second : ℕ) → 1 ≤ second → second < length old
    → Back store old now second → Meet store second now new → Back store old new (second - 1)
back_goes_on store old now new second low high back meet = record {
  look_on = look_further store old now new back.look_on meet.look_on;
  saw = λ k d over within. go k d within over (nat_lt k second) refl;
}
  where
    go : (k : ℕ) (d : Session) → k < length old → second - 1 ≤ k → (b : Bool) → nat_lt k second ≡ b
        → GoesOn (seen (get_or old (length old - 1) d)) (seen (get_or new k d))
    go k d within over true e =
        let same : second - 1 ≡ k = grind (arith, nat_tests, e, over, low) in
        subst (λ n. GoesOn (seen (get_or old (length old - 1) d)) (seen (get_or new n d))) same
        (further (seen (get_or old (length old - 1) d)) (seen (get_or now second d)) (seen (get_or new (second - 1) d))
        (back.saw second d (omega arith) high) (meet.shown_back d))
    go k d within over false e = further (seen (get_or old (length old - 1) d)) (seen (get_or now k d)) (seen (get_or new k d))
        (back.saw k d (grind (arith, nat_tests, e)) within)
        (meet.look_on.each k d (omega (arith, within, back.look_on.size))).saw

-- once the first was met, all of the row have seen what the last had
pub back_ends : (store : StoreView) (old now : List Session) → Back store old now 0 → SeeBack store old now
back_ends store old now back = record { look_on = back.look_on; saw = λ k d within. back.saw k d (omega arith) within }

-- Within a row, what is read at a place depends on no default.
same_read : (xs : List Session) (k : ℕ) (e f : Session) → k < length xs → get_or xs k e ≡ get_or xs k f
same_read xs k e f within = grind (arith, elements)

-- A row of which the last saw all, and all saw what it had seen, met.
met_at : (store : StoreView) (old now new : List Session) (d : Session) → AreSessions store old → 0 < length old
    → ShowAlong store old now → SeeBack store now new → Met store old new
met_at store old now new d are some along back =
    let last : Session = get_or now (length old - 1) d in
    let is = still_sessions store old now along.look_on (length old - 1) d (omega (arith, some, along.look_on.size)) in
    let at_last : (e : Session) → get_or now (length old - 1) e ≡ last =
    λ (e : Session). same_read now (length old - 1) e d (omega (arith, some, along.look_on.size)) in
    let sizes : length now - 1 ≡ length old - 1 = omega (arith, along.look_on.size) in
    record {
      met = seen last;
      lawful = is.stands.lawful;
      named = is.stands.named;
      size = back.look_on.size ∙ along.look_on.size;
      each = λ k e within. record {
        looks_on = looks_further store (get_or old k e) (get_or now k e) (get_or new k e) (along.look_on.each k e within)
            (back.look_on.each k e (omega (arith, within, along.look_on.size)));
        shown = subst (λ q. GoesOn (seen (get_or old k e)) (seen q)) (at_last e) (along.shown k e within);
        saw = subst (λ q. GoesOn (seen q) (seen (get_or new k e))) (ap (λ n. get_or now n e) sizes ∙ at_last e)
            (back.saw k e (omega (arith, within, along.look_on.size)));
      };
    }

-- along the row and back all met
pub all_met : (store : StoreView) (old now new : List Session) → AreSessions store old → 0 < length old
    → ShowAlong store old now → SeeBack store now new → Met store old new
all_met store [] now new are some along back = absurd (omega (arith, some))
all_met store (d ∷ old) now new are some along back = met_at store (d ∷ old) now new d are some along back
