-- Events made one after another, from block to block.
use Rattle.std.proofs.Common.{◌≡◌, ℕ, ◌+◌, true, false, List, [], ◌∷◌, ◌++◌, None, length, map, refl, sym, ap, subst, ◌∙◌, append-nil, arith}
use mathlib.Core.Logic.{inr}
use Rattle.std.specs.Prelude.{flat_map}
use Rattle.std.proofs.lemmas.List.{append_assoc, map-append}
use Rattle.core_laws.proofs.Events.Lists.{below_member, member_flat, member_map}
use Rattle.event_spec.specs.Effects.{CoreEvent}
use Rattle.event_spec.specs.Lawful.{Among, HasBlock, session_of}
use Rattle.event_spec.specs.Parts.{Parts, Shape, below, blocks_of}
use Rattle.event_spec.specs.Replies.{CoreReply}
use Rattle.run_spec.specs.Asked.{at_all_blocks, at_blocks}
use Rattle.run_spec.specs.Calls.{is_final, is_memory}
use Rattle.run_spec.specs.Occurrences.{Occurrence}
use Rattle.run_spec.specs.Opened.{own_behind}
use Rattle.store_laws.specs.Own.{occurrence_at, parts_after}
use Rattle.shared_store.specs.Making.{Makes, MakesAny}
use Rattle.shared_store.proofs.Noted.{writes_none}
use Rattle.shared_store.specs.Store.{HandsView, IsAt, IsSession, SeatView, StoreView, own_of, shape_in, KeepsNotes}
use Rattle.shared_store.specs.Sweeping.{MakesAlone, Sweeps, SweepsMore}
use Rattle.shared_store.specs.declared.session.Session.{Session}
use Rattle.shared_store.proofs.Scanned.{below_more, plain_added, went_more, went_nowhere}
use Rattle.shared_store.proofs.Sessions.{session_is}
use Rattle.shared_store.proofs.Claims.{keeps_same}
use Rattle.store_laws.specs.Stretches.{reads_block}

-- ---- the events of blocks

-- What is made of a list with one more is that of the list and of the one.
flat_added : {X Y : Type 0} (f : X → List Y) (xs : List X) (x : X) → flat_map f (xs ++ x ∷ []) ≡ flat_map f xs ++ f x
flat_added f [] x = append-nil (f x)
flat_added f (y ∷ ys) x = ap (λ zs. f y ++ zs) (flat_added f ys x) ∙ sym (append_assoc (f y) (flat_map f ys) (f x))

module _ (sh : Shape) (event : ℕ → ℕ → CoreEvent) where
  -- the event of each block is among those of all blocks
  pub block_among : (t b : ℕ) → HasBlock sh t b → Among {X = CoreEvent} (event t b) (at_all_blocks sh event)
  block_among t b has =
      let h0 = has.0 in let h1 = has.1 in
      member_flat (λ table. at_blocks sh table (event table)) (below (length sh.tables)) t (event t b)
      (below_member 0 (length sh.tables) t (omega arith) (omega (arith, h0)))
      (member_map (event t) (below (blocks_of sh t)) b (below_member 0 (blocks_of sh t) b (omega arith) (omega (arith, h1))))

  -- one block of a table more
  pub block_more : (t b : ℕ) → map (event t) (below b) ++ event t b ∷ [] ≡ map (event t) (below (b + 1))
  block_more t b = sym (ap (map (event t)) (below_more b) ∙ map-append (event t) (below b) (b ∷ []))

  -- an event for each block of the first tables
  abbrev pub at_tables : ℕ → List CoreEvent
  at_tables n = flat_map (λ table. at_blocks sh table (event table)) (below n)

  -- The events of one table more stand behind those of the tables before it.
  table_more : (t : ℕ) → at_tables t ++ at_blocks sh t (event t) ≡ at_tables (t + 1)
  table_more t = sym (ap (flat_map (λ table. at_blocks sh table (event table))) (below_more t) ∙ flat_added (λ table. at_blocks sh table (event table)) (below t) t)

-- ---- one event

-- the event that a pass was handed, as one of its session
pub made_by : (store : StoreView) (old : Session) (seat : SeatView) (hands : HandsView) (e handed : CoreEvent) (told : CoreReply) → IsSession store old → session_of e ≡ None → handed ≡ e
    → MakesAny store old.pass.seat old.pass.hands seat hands handed told → Makes store old.session old.pass.seat seat hands (own_of old) e told
made_by store old seat hands e handed told is unnamed same made =
    subst (λ (e : CoreEvent). Makes store old.session old.pass.seat seat hands (own_of old) e told) same
    (made old.session (own_of old) is.stands (inr (ap session_of same ∙ unnamed)))

-- it opens and ends nothing
pub made_alone : (store : StoreView) (old new : Session) (e : CoreEvent) (told said : CoreReply)
    → Makes store old.session old.pass.seat new.pass.seat new.pass.hands (own_of old) e told → told ≡ said
    → new.session ≡ old.session → own_of new ≡ own_of old → KeepsNotes store old new → own_behind (own_of old) e told ≡ own_of old → MakesAlone store old new e said
made_alone store old new e told said m is same opened kept stays = record {
  session = session_is store new (subst (λ q. IsAt store q new.pass.seat new.pass.hands (own_of new)) (sym same)
      (subst (IsAt store old.session new.pass.seat new.pass.hands) (stays ∙ sym opened) m.stands)) kept.1;
  same = same;
  opened = opened;
  kept = kept.0;
  makes = subst (λ (r : CoreReply). Makes store old.session old.pass.seat new.pass.seat new.pass.hands (own_of old) e r) is m;
}

-- ---- events one after another

module _ (store : StoreView) (asked : List CoreEvent) where
  -- a session that made none of the events has swept none
  pub sweeps_nothing : (tells : List Occurrence → Type 0) (s : Session) → IsSession store s → tells [] → Sweeps store asked tells s s []
  sweeps_nothing tells s is told = record {
    made = [];
    went = went_nowhere store s asked is;
    events_are = refl;
    plain = tt;
    told = told;
  }

  -- one event more
  pub sweeps_on : (tells next : List Occurrence → Type 0) (first mid new : Session) (events : List CoreEvent) (e : CoreEvent) (told : CoreReply)
      → Sweeps store asked tells first mid events → MakesAlone store mid new e told → Among e asked → is_memory told ≡ false → is_final e ≡ false → reads_block e ≡ false → writes_none e ≡ true
      → ((parts : Parts) (made : List Occurrence) → tells made → next (made ++ occurrence_at first.session parts e told ∷ []))
      → Sweeps store asked next first new (events ++ e ∷ [])
  sweeps_on tells next first mid new events e told s m among granted open' other quiet adds = record {
    made = s.made ++ last ∷ [];
    went = went_more store first mid new e told asked s.made s.went m.session m.same m.opened m.kept m.makes.makes m.makes.count m.makes.took among other quiet (keeps_same m.makes.reads);
    events_are = map-append (λ (x : Occurrence). x.event) s.made (last ∷ []) ∙ ap (λ es. es ++ e ∷ []) s.events_are;
    plain = plain_added s.made last s.plain granted open';
    told = adds (parts_after (shape_in store) m.makes.makes.before) s.made s.told;
  }
    where
      last : Occurrence
      last = occurrence_at first.session (parts_after (shape_in store) m.makes.makes.before) e told

  module _ (tells : ℕ → List Occurrence → Type 0) where
    -- no event more
    pub sweeps_no_more : (s : Session) → SweepsMore store asked tells s s [] 0
    sweeps_no_more s first front before sweeps =
        let same : before ≡ before + 0 = omega arith in
        subst (λ n. Sweeps store asked (tells n) first s (front ++ [])) same
        (subst (λ (es : List CoreEvent). Sweeps store asked (tells before) first s es) (sym (append-nil front)) sweeps)

    -- the event of one block of a table more
    pub sweeps_block : (event : ℕ → ℕ → CoreEvent) (old mid new : Session) (t b count more : ℕ) (told : CoreReply)
        → SweepsMore store asked tells old mid (map (event t) (below b)) count → MakesAlone store mid new (event t b) told
        → Among (event t b) asked → is_memory told ≡ false → is_final (event t b) ≡ false → reads_block (event t b) ≡ false → writes_none (event t b) ≡ true
        → ((session sum : ℕ) (parts : Parts) (made : List Occurrence) → tells sum made → tells (sum + more) (made ++ occurrence_at session parts (event t b) told ∷ []))
        → SweepsMore store asked tells old new (map (event t) (below (b + 1))) (count + more)
    sweeps_block event old mid new t b count more told so m among granted open' other quiet adds first front before sweeps =
        let events = map (event t) (below b) in
        let sum : (before + count) + more ≡ before + (count + more) = omega arith in
        subst (λ n. Sweeps store asked (tells n) first new (front ++ map (event t) (below (b + 1)))) sum
        (subst (λ (es : List CoreEvent). Sweeps store asked (tells ((before + count) + more)) first new es)
        (append_assoc front events (event t b ∷ []) ∙ ap (λ (es : List CoreEvent). front ++ es) (block_more (shape_in store) event t b))
        (sweeps_on (tells (before + count)) (tells ((before + count) + more)) first mid new (front ++ events) (event t b) told
        (so first front before sweeps) m among granted open' other quiet (λ parts made known. adds first.session (before + count) parts made known)))

    -- those of one table more
    pub sweeps_table : (event : ℕ → ℕ → CoreEvent) (first old new : Session) (front : List CoreEvent) (t count more : ℕ)
        → Sweeps store asked (tells count) first old (front ++ at_tables (shape_in store) event t)
        → SweepsMore store asked tells old new (at_blocks (shape_in store) t (event t)) more
        → Sweeps store asked (tells (count + more)) first new (front ++ at_tables (shape_in store) event (t + 1))
    sweeps_table event first old new front t count more s so =
        subst (λ (es : List CoreEvent). Sweeps store asked (tells (count + more)) first new es)
        (append_assoc front (at_tables (shape_in store) event t) (at_blocks (shape_in store) t (event t))
        ∙ ap (λ (es : List CoreEvent). front ++ es) (table_more (shape_in store) event t))
        (so first (front ++ at_tables (shape_in store) event t) count s)
