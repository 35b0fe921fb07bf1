-- What two entries, one above the other, have to do with each other, field by field.
use Rattle.std.proofs.Common.{◌≡◌, ◌≢◌, ℕ, ◌<◌, ◌≤◌, ◌&&◌, ◌||◌, ◌==◌, Bool, true, false, not, Option, None, Some, is_none, refl, sym, ◌∙◌, subst, ap, arith, nat_le, if◌then◌else◌}
use Rattle.std.proofs.lemmas.Bool.Decides.{nat_tests}
use Rattle.std.specs.Prelude.{MatchOption, IfNone, IfSome, IsSomeAnd, IsFalse}
use Rattle.undo_chain.specs.Entry.{is_at_most}

-- an entry without a stamp is no move's
abbrev pub Writes : Option ℕ → Bool → Type 0
Writes stamp move = IfNone stamp (IsFalse move)

-- one entry may stand above another
abbrev pub Above : Option ℕ → Option ℕ → ℕ → ℕ → Type 0
Above newer older newer_session older_session =
    MatchOption newer (IfNone older (newer_session ≡ older_session)) (λ stamp. IsSomeAnd older (λ below. below ≤ stamp))

-- the entry is the session's own
abbrev pub own : Option ℕ → Bool → ℕ → ℕ → Bool
own stamp move owner session = is_none stamp && not move && (owner == session)

-- no stamp is above the limit
abbrev pub StampedBy : Option ℕ → ℕ → Type 0
StampedBy stamp limit = IfSome stamp (λ s. s ≤ limit)

-- the stamp after a commit of the session
abbrev pub after : Option ℕ → Bool → ℕ → ℕ → ℕ → Option ℕ
after stamp move owner session commit = if own stamp move owner session then Some commit else stamp

-- below an entry that is not the session's own none is
pub own_below : (u e : Option ℕ) (um em : Bool) (us es session : ℕ) →
    Writes u um → Above u e us es → own u um us session ≡ false → own e em es session ≡ false
own_below u (Some stamp) um em us es session writes above newer = refl
own_below (Some stamp) None um em us es session writes above newer = absurd above
own_below None None um true us es session writes above newer = refl
own_below None None true false us es session writes above newer = cc
own_below None None false false us es session writes above newer =
    ap (λ (owner : ℕ). owner == session) (sym above) ∙ newer

-- below an entry with a stamp, or of the session, none is another session's open write
pub no_other_below : (u e : Option ℕ) (um em : Bool) (us es session : ℕ) →
    Writes u um → Above u e us es →
    is_none u && not um && not (us == session) ≡ false → is_none e && not em && not (es == session) ≡ false
no_other_below u (Some stamp) um em us es session writes above newer = refl
no_other_below (Some stamp) None um em us es session writes above newer = absurd above
no_other_below None None um true us es session writes above newer = refl
no_other_below None None true false us es session writes above newer = cc
no_other_below None None false false us es session writes above newer =
    ap (λ (owner : ℕ). not (owner == session)) (sym above) ∙ newer

-- below an entry that is stamped by a limit each is
pub stamped_below : (u e : Option ℕ) (us es limit : ℕ) →
    Above u e us es → is_at_most u limit ≡ true → is_at_most e limit ≡ true
stamped_below None e us es limit above newer = cc
stamped_below (Some stamp) None us es limit above newer = absurd above
stamped_below (Some stamp) (Some below) us es limit above newer = grind arith

-- an entry that is stamped by a limit is stamped by a later one
pub stamped_later : (e : Option ℕ) (limit later : ℕ) → limit ≤ later → is_at_most e limit ≡ true → is_at_most e later ≡ true
stamped_later None limit later rise by = cc
stamped_later (Some stamp) limit later rise by = grind arith

-- a commit keeps an entry a write or stamped
pub writes_after : (e : Option ℕ) (em : Bool) (es session commit : ℕ) → Writes e em → Writes (after e em es session commit) em
writes_after (Some stamp) em es session commit writes = tt
writes_after None true es session commit writes = writes
writes_after None false es session commit writes =
    elim (es == session) as (λ b. Writes (if b then Some commit else None) false) [ true ↦ tt | false ↦ refl ]

-- a commit whose stamp is below none of the chain keeps two entries in order
pub above_after : (u e : Option ℕ) (um em : Bool) (us es session commit : ℕ) →
    Writes u um → Writes e em → StampedBy u commit → StampedBy e commit → Above u e us es →
    Above (after u um us session commit) (after e em es session commit) us es
above_after (Some stamp) None um em us es session commit uw ew ub eb above = absurd above
above_after (Some stamp) (Some below) um em us es session commit uw ew ub eb above = above
above_after None (Some below) true em us es session commit uw ew ub eb above = above
above_after None (Some below) false em us es session commit uw ew ub eb above =
    elim (us == session) as (λ b. Above (if b then Some commit else None) (Some below) us es) [ true ↦ eb | false ↦ tt ]
above_after None None true em us es session commit uw ew ub eb above = absurd (cc)
above_after None None false true us es session commit uw ew ub eb above = absurd (cc)
above_after None None false false us es session commit uw ew ub eb same =
    let together : Above (if us == session then Some commit else None) (if us == session then Some commit else None) us es =
    elim (us == session)
    as (λ b. Above (if b then Some commit else None) (if b then Some commit else None) us es)
    [ true ↦ omega arith | false ↦ same ] in
    subst
    (λ (owner : ℕ).
    Above (if us == session then Some commit else None) (if owner == session then Some commit else None) us es)
    same
    together

-- a commit above a reader's snapshot, of a session that is not the reader's
stamp_out_of_view : (es session commit stamp me : ℕ) → me ≢ session → stamp < commit →
    es == session ≡ true → nat_le commit stamp ≡ (es == me) || false
stamp_out_of_view es session commit stamp me other above same = grind (arith, nat_tests)

-- An open write, committed above a reader's snapshot or not, is in view as before.
view_by : (b : Bool) (es session commit stamp me : ℕ) → me ≢ session → stamp < commit → es == session ≡ b →
    own (if b then Some commit else None) false es me || is_at_most (if b then Some commit else None) stamp
    ≡ (es == me) || false
view_by true es session commit stamp me other above same = stamp_out_of_view es session commit stamp me other above same
view_by false es session commit stamp me other above same = refl

-- such a commit changes nothing that the reader has in view
pub view_after : (e : Option ℕ) (em : Bool) (es session commit stamp me : ℕ) → me ≢ session → stamp < commit →
    own (after e em es session commit) em es me || is_at_most (after e em es session commit) stamp
    ≡ own e em es me || is_at_most e stamp
view_after (Some s) em es session commit stamp me other above = refl
view_after None true es session commit stamp me other above = refl
view_after None false es session commit stamp me other above =
    view_by (es == session) es session commit stamp me other above refl

-- a session's own entry is no other reader's, and has no stamp
pub own_out_of_view : (e : Option ℕ) (em : Bool) (es session stamp me : ℕ) → me ≢ session →
    own e em es session ≡ true → own e em es me || is_at_most e stamp ≡ false
own_out_of_view (Some s) em es session stamp me other mine = cc
own_out_of_view None true es session stamp me other mine = cc
own_out_of_view None false es session stamp me other mine = grind (arith, nat_tests)

-- what may stand above an entry may stand above those below it
pub above_trans : (u n e : Option ℕ) (us ns es : ℕ) → Above u n us ns → Above n e ns es → Above u e us es
above_trans None None None us ns es upper lower = upper ∙ lower
above_trans None None (Some below) us ns es upper lower = tt
above_trans None (Some middle) None us ns es upper lower = absurd lower
above_trans None (Some middle) (Some below) us ns es upper lower = tt
above_trans (Some stamp) None e us ns es upper lower = absurd upper
above_trans (Some stamp) (Some middle) None us ns es upper lower = absurd lower
above_trans (Some stamp) (Some middle) (Some below) us ns es upper lower = omega arith
