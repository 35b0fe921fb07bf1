-- A block that was seen, and what was lent of it given back.
use Rattle.std.proofs.Common.{◌≡◌, ℕ, ◌+◌, ◌*◌, ◌≤◌, false, List, [], ◌∷◌, Ok, refl, sym, ap, subst, ◌∙◌, append-nil, true≢false, arith}
use Rattle.event_spec.specs.declared.event.Event.TheVariants as event
use Rattle.event_spec.specs.declared.own.OwnTransaction.{OwnTransaction}
use Rattle.event_spec.specs.Parts.{Parts}
use Rattle.event_spec.specs.Replies.{CoreReply}
use Rattle.event_spec.specs.declared.reply.Reply.TheVariants as reply
use Rattle.run_spec.specs.Handed.{Stretch}
use Rattle.run_spec.specs.Occurrences.{Occurrence}
use Rattle.store_laws.proofs.Calling.{goes_far}
use Rattle.store_laws.proofs.Stretches.{nothing_is_a_stretch, stretches_join}
use Rattle.store_laws.specs.Own.{occurrence_at}
use Rattle.store_laws.specs.Stretches.{is_event}
use Rattle.run_spec.specs.Calls.{is_memory}
use Rattle.std.specs.Prelude.{count_by}
use Rattle.shared_store.specs.Lending.{EndsLend, LendView}
use Rattle.shared_store.specs.Reading.{GivesBack, IsReadOf, ReadsBlock, SeesBlock, reply_of}
use Rattle.shared_store.specs.Store.{EndsWithLast, IsFree, StoreView, seen, shape_in}
use Rattle.shared_store.specs.declared.reading.SeenBlock.{SeenBlock}
use Rattle.shared_store.specs.declared.reading.SeenBlock.TheVariants as block
use Rattle.shared_store.specs.declared.session.Session.{Session}
use Rattle.shared_store.proofs.Scanned.{one_read}

-- A block that was lent has been read when the lend is given back.
lent_back : (store : StoreView) (old mid new : Session) (own : OwnTransaction) (t b : ℕ) (lend : LendView)
    → ReadsBlock store old mid own t b (reply.Shared lend.rows) → EndsLend store mid new lend → ReadsBlock store old new own t b (reply.Shared lend.rows)
lent_back store old mid new own t b lend r ends = record {
  session = ends.session;
  same = ends.same ∙ r.same;
  opened = ends.opened ∙ r.opened;
  kept = ends.kept ∙ r.kept;
  made = r.made;
  is_read = r.is_read;
  stretch = subst (Stretch (shape_in store) old.session (seen old) (seen new)) (append-nil r.made)
      (stretches_join (shape_in store) old.session (seen old) (seen mid) (seen new) r.made [] r.stretch
      (subst (λ q. Stretch (shape_in store) q (seen mid) (seen new) []) r.same
      (nothing_is_a_stretch (shape_in store) mid.session (seen mid) (seen new) ends.sees ends.own)));
  count = ends.made ∙ r.count;
  ends = subst (λ (os : List Occurrence). EndsWithLast os (seen new)) (sym one.1) (λ event'. absurd (true≢false (sym event')));
  took = record {
    parts = r.took.parts;
    took = ends.taken ∙ r.took.took;
    touched = λ k is.
        let x = r.took.touched k is in
        record { event = x.event; is_one = x.is_one; log = x.log; saw = x.saw; left = goes_far x.log (seen mid) (seen new) x.left ends.sees; touches = x.touches };
  };
  fits = r.fits;
  few = r.few;
}
  where
    one : (parts : Parts) × (r.made ≡ occurrence_at old.session parts (event.Read own t b) (reply.Shared lend.rows) ∷ [])
    one = one_read old.session own t b (reply.Shared lend.rows) r.made r.is_read refl

-- a block that was seen has been read, and nothing is lent, when what was lent is given back
pub given_back : (E : Type 0) (store : StoreView) (old mid new : Session) (own : OwnTransaction) (t b spent steps : ℕ) (seen' : SeenBlock)
    → SeesBlock {E = E} store old mid own t b spent steps (Ok seen') → GivesBack store mid new seen'
    → ReadsBlock store old new own t b (reply_of {E = E} (Ok seen')) × IsFree new
given_back E store old mid new own t b spent steps (block.Rows rows) sees same =
    subst (λ (s : Session). ReadsBlock store old s own t b (reply.Rows rows) × IsFree s) (sym same) (sees.reads, sees.holds)
given_back E store old mid new own t b spent steps (block.Lent lend) sees ends = (lent_back store old mid new own t b lend sees.reads ends, ends.free)

-- ---- steps

-- where no event was made no row was looked at
pub looked_none : (slots spent steps : ℕ) (made : List Occurrence) → steps ≤ spent + slots * count_by is_event made → made ≡ [] → steps ≤ spent
looked_none slots spent steps made few none' =
    let no_more : steps ≤ spent + slots * 0 = subst (λ n. steps ≤ spent + slots * n) (ap (λ (os : List Occurrence). count_by is_event os) none') few in
    omega (arith, no_more)

-- what was read is no nothing
pub read_some : (session : ℕ) (own : OwnTransaction) (t b : ℕ) (told : CoreReply) (made : List Occurrence) → IsReadOf session own t b told made → is_memory told ≡ false → made ≡ [] → ⊥
read_some session own t b told made is granted none' =
    let one = one_read session own t b told made is granted in some_none (occurrence_at session one.0 (event.Read own t b) told) (sym one.1 ∙ none')
  where
    some_none : (o : Occurrence) → o ∷ [] ≡ [] → ⊥
    some_none o e = cc
