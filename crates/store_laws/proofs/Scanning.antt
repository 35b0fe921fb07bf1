-- What a session's reads of all blocks tell, made one after another between two of its writes.
use Rattle.std.proofs.Common.{◌≡◌, ℕ, ◌==◌, Bool, true, false, cond, List, [], ◌∷◌, ◌++◌, length, map, Some, refl, sym, ap, subst, ◌∙◌, arith}
use mathlib.Core.Logic.{inl, inr}
use Rattle.std.specs.List.{flat_map, list_any}
use Rattle.std.proofs.lemmas.Bool.{or_parts}
use Rattle.std.proofs.lemmas.Bool.Decides.{nat_tests}
use Rattle.std.proofs.lemmas.List.{append_cancel_left}
use Rattle.block_spec.specs.Slots.{Row}
use Rattle.core_laws.proofs.Events.Lists.{member_below}
use Rattle.core_laws.proofs.Sound.Bodies.{true_false}
use Rattle.event_spec.specs.declared.event.Event.TheVariants as event
use Rattle.event_spec.specs.declared.own.OwnTransaction.{OwnTransaction}
use Rattle.event_spec.specs.declared.reply.Reply.TheVariants as reply
use Rattle.event_spec.specs.Effects.{CoreEvent}
use Rattle.event_spec.specs.Lawful.{Among, HasBlock, OwnsAll, session_of}
use Rattle.event_spec.specs.Parts.{Parts, Shape, below, blocks_of}
use Rattle.event_spec.specs.Replay.{IsLawfulFrom, IsLawfulLog, after, opening}
use Rattle.event_spec.specs.Replies.{reply_to, rows_read}
use Rattle.event_spec.specs.Sound.{IsShape, Sound}
use Rattle.core_laws.specs.Events.Named.{FollowsMachine}
use Rattle.isolation_spec.specs.Contents.{History, WriteSet, contents_of}
use Rattle.isolation_spec.specs.Machine.{Transaction, transaction_of}
use Rattle.run_spec.specs.Calls.{is_memory, is_refused}
use Rattle.run_spec.specs.Handed.{GoesOn, own_in}
use Rattle.run_spec.specs.Occurrences.{Logged, Occurrence, events_in, occurrence_of, occurrences_from, replies_in, under}
use Rattle.run_spec.specs.Told.{in_key_order, rows_told}
use Rattle.store_laws.specs.Logs.{made_in}
use Rattle.store_laws.specs.Machines.{HasOpenIn, machine_after, rows_seen}
use Rattle.store_laws.specs.Own.{StandsUnder, parts_after}
use Rattle.store_laws.specs.Reads.{ReadsTellEachOnce, ReadsTellTheRows, TellEach, is_look}
use Rattle.store_laws.specs.Scans.{HaveOwnKeys, IsTheScan, all_read}
use Rattle.store_laws.proofs.Ranges.{opened_by}
use Rattle.store_laws.proofs.Entries.{own_on}
use Rattle.store_laws.proofs.Machines.{follows_whole, lawful_behind, lawful_front, under_rest}
use Rattle.store_laws.proofs.Looks.{Still, made_still, read_told}
use Rattle.store_laws.proofs.Scans.{reads_are_the_scan, within}
use Rattle.store_laws.proofs.Stepping.{rows_are}

-- lists that are the same for each of some blocks are the same one behind the other
same_blocks : (f g : ℕ → List Row) (blocks : List ℕ) → ((b : ℕ) → Among b blocks → f b ≡ g b) → flat_map f blocks ≡ flat_map g blocks
same_blocks f g [] same = refl
same_blocks f g (b ∷ blocks) same =
    ap (λ rows. rows ++ flat_map f blocks) (same b (inl refl))
    ∙ ap (λ rows. g b ++ rows) (same_blocks f g blocks (λ x among. same x (inr among)))

-- lists that begin with an event, and what begins with none
first_is : (a b : CoreEvent) (xs ys : List CoreEvent) → a ∷ xs ≡ b ∷ ys → a ≡ b
first_is a b xs ys e = cc

rest_is : (a b : CoreEvent) (xs ys : List CoreEvent) → a ∷ xs ≡ b ∷ ys → xs ≡ ys
rest_is a b xs ys e = cc

none_is : (a : CoreEvent) (xs : List CoreEvent) → [] ≡ a ∷ xs → ⊥
none_is a xs e = cc

some_is : (a : CoreEvent) (xs : List CoreEvent) → a ∷ xs ≡ [] → ⊥
some_is a xs e = cc

module _ (sh : Shape) (own : OwnTransaction) (t : ℕ) (shape : IsShape sh) where
  -- Of these parts: the session's entries of a log are reads of these blocks, none of them refused,
  -- and tell together what the session reads of the blocks.
  abbrev TellsRows : Parts → List Logged → List ℕ → Type 0
  TellsRows s log blocks =
      ((b : ℕ) → Among b blocks → HasBlock sh t b)
      → events_in (under own.session (occurrences_from sh s log)) ≡ map (event.Read own t) blocks
      → list_any is_refused (under own.session (occurrences_from sh s log)) ≡ false
      → flat_map rows_told (replies_in (under own.session (occurrences_from sh s log))) ≡ flat_map (rows_read sh s own t) blocks

  rows_along : (log : List Logged) (s : Parts) (blocks : List ℕ) → Sound sh s → IsLawfulFrom sh s (made_in log) → OwnsAll sh own s → StandsUnder own.session log
      → TellsRows s log blocks
  rows_along [] s [] ok lawful owns named has e granted = refl
  rows_along [] s (b ∷ blocks) ok lawful owns named has e granted = absurd (none_is (event.Read own t b) (map (event.Read own t) blocks) e)
  rows_along (entry ∷ log) s blocks ok lawful owns named has e granted =
      go (entry.session == own.session) refl (λ bs still. rows_along log (after sh s entry.made) bs still.sound_is lawful.2 still.owns named.1) blocks has e granted
    where
      o : Occurrence
      o = occurrence_of sh s entry

      rest : List Occurrence
      rest = under own.session (occurrences_from sh (after sh s entry.made) log)

      Later : Type 0
      Later = (bs : List ℕ) → Still sh own t s (after sh s entry.made) → TellsRows (after sh s entry.made) log bs

      -- what the rest reads is what was read before the entry
      behind : (bs : List ℕ) → ((b : ℕ) → Among b bs → HasBlock sh t b) → Still sh own t s (after sh s entry.made)
          → flat_map (rows_read sh (after sh s entry.made) own t) bs ≡ flat_map (rows_read sh s own t) bs
      behind bs has still = same_blocks (rows_read sh (after sh s entry.made) own t) (rows_read sh s own t) bs (λ b among. still.rows b (has b among))

      apart : (entry.session == own.session) ≡ false → session_of entry.made.event ≡ Some own.session → is_look entry.made.event ≡ true
      apart is mine = absurd (let same : entry.session ≡ own.session = named.0 mine in let never : ⊥ = grind (arith, nat_tests, same, is) in never)

      -- a read that was not refused tells the rows read
      tells : (b : ℕ) → HasBlock sh t b → entry.made.event ≡ event.Read own t b → is_refused o ≡ false → rows_told o.reply ≡ rows_read sh s own t b
      tells b there is granted = at entry.made.refused granted
        where
          at : (r : Bool) → is_memory (cond r reply.Memory (reply_to sh s entry.made.event)) ≡ false → rows_told (cond r reply.Memory (reply_to sh s entry.made.event)) ≡ rows_read sh s own t b
          at true never = absurd (true_false never)
          at false x = ap (λ e. rows_told (reply_to sh s e)) is ∙ read_told sh own t shape s b ok owns there

      mine : Later → (bs : List ℕ) → ((b : ℕ) → Among b bs → HasBlock sh t b) → events_in (o ∷ rest) ≡ map (event.Read own t) bs → list_any is_refused (o ∷ rest) ≡ false
          → flat_map rows_told (replies_in (o ∷ rest)) ≡ flat_map (rows_read sh s own t) bs
      mine later [] has e granted = absurd (some_is entry.made.event (events_in rest) e)
      mine later (b ∷ bs) has e granted =
          let is = first_is entry.made.event (event.Read own t b) (events_in rest) (map (event.Read own t) bs) e in
          let both = or_parts (is_refused o) (list_any is_refused rest) granted in
          let still = made_still sh own t shape s entry.made ok lawful.0 owns (λ x. ap is_look is) in
          let has' : (k : ℕ) → Among k bs → HasBlock sh t k = λ k among. has k (inr among) in
          ap (λ rows. rows ++ flat_map rows_told (replies_in rest)) (tells b (has b (inl refl)) is both.0)
          ∙ ap (λ rows. rows_read sh s own t b ++ rows)
          (later bs still has' (rest_is entry.made.event (event.Read own t b) (events_in rest) (map (event.Read own t) bs) e) both.1 ∙ behind bs has' still)

      go : (x : Bool) → (entry.session == own.session) ≡ x → Later → (bs : List ℕ) → ((b : ℕ) → Among b bs → HasBlock sh t b)
          → events_in (cond x (o ∷ rest) rest) ≡ map (event.Read own t) bs → list_any is_refused (cond x (o ∷ rest) rest) ≡ false
          → flat_map rows_told (replies_in (cond x (o ∷ rest) rest)) ≡ flat_map (rows_read sh s own t) bs
      go true is later bs has e granted = mine later bs has e granted
      go false is later bs has e granted =
          let still = made_still sh own t shape s entry.made ok lawful.0 owns (apart is) in
          later bs still has e granted ∙ behind bs has still

  -- Reads of all blocks of a table, with nothing else of the session between them.
  module _ (earlier later : List Logged) (made : List Occurrence)
      (lawful : IsLawfulLog sh (made_in later)) (goes : GoesOn earlier later) (named : StandsUnder own.session later) (owns : OwnsAll sh own (parts_after sh earlier))
      (grown : own_in sh own.session later ≡ own_in sh own.session earlier ++ made)
      (events : events_in made ≡ map (event.Read own t) (below (blocks_of sh t))) (granted : list_any is_refused made ≡ false) where
    abbrev start : Parts
    start = parts_after sh earlier

    whole : IsLawfulLog sh (made_in (earlier ++ goes.0))
    whole = subst (λ l. IsLawfulLog sh (made_in l)) goes.1 lawful

    front : Sound sh start × FollowsMachine sh start (machine_after sh earlier)
    front = follows_whole sh earlier shape (lawful_front sh earlier goes.0 (opening sh) whole)

    -- they tell what the session read of all blocks before them
    rows : flat_map rows_told (replies_in made) ≡ all_read sh start own t
    rows = ap (λ os. flat_map rows_told (replies_in os)) (sym is) ∙ told
      where
        is : under own.session (occurrences_from sh start goes.0) ≡ made
        is = append_cancel_left (own_in sh own.session earlier) (under own.session (occurrences_from sh start goes.0)) made
            (sym (own_on sh own.session earlier goes.0) ∙ ap (own_in sh own.session) (sym goes.1) ∙ grown)

        told : flat_map rows_told (replies_in (under own.session (occurrences_from sh start goes.0))) ≡ all_read sh start own t
        told = rows_along goes.0 start (below (blocks_of sh t)) front.0 (lawful_behind sh earlier goes.0 (opening sh) whole) owns
            (under_rest sh own.session earlier goes.0 (subst (StandsUnder own.session) goes.1 named))
            (λ b among. let less = member_below 0 (blocks_of sh t) b among in within sh t b (omega (arith, less)))
            (ap events_in is ∙ events) (ap (list_any is_refused) is ∙ granted)

    -- which is each row that a transaction of the machine sees
    scan : (open' : Transaction) → transaction_of own.session (machine_after sh earlier) ≡ Some open' → IsTheScan sh start own t (machine_after sh earlier) open'
    scan open' is = reads_are_the_scan sh start own t (machine_after sh earlier) open' shape front.0 owns front.1 is

    seen_rows_told : (commits : History) (writes : WriteSet) → HasOpenIn own.session (machine_after sh earlier) commits writes
        → TellEach t (flat_map rows_told (replies_in made)) (contents_of t (rows_seen commits writes))
    seen_rows_told commits writes open' =
        let all = scan (record { session = own.session; snapshot = length commits; own = writes }) open'.opened in
        let seen = rows_are own.session (machine_after sh earlier) (machine_after sh earlier) commits writes open' in
        record {
          ordered = ap (in_key_order t) rows ∙ all.rows ∙ ap (contents_of t) seen;
          count = ap length rows ∙ all.count ∙ ap (λ state. length (contents_of t state)) seen;
        }

    own_keys : HaveOwnKeys t (flat_map rows_told (replies_in made))
    own_keys =
        let o = opened_by sh start own (machine_after sh earlier) front.0 front.1 owns in
        let all = scan o.0 o.1 in
        subst (HaveOwnKeys t) (sym rows) (all.count ∙ ap length (sym all.rows))

pub reads_tell_the_rows : ReadsTellTheRows
reads_tell_the_rows shape earlier later made own table commits writes is lawful goes named owns open' grown events granted =
    seen_rows_told shape own table is earlier later made lawful goes named owns grown events granted commits writes open'

pub reads_tell_each_once : ReadsTellEachOnce
reads_tell_each_once shape earlier later made own table is lawful goes named owns grown events granted =
    own_keys shape own table is earlier later made lawful goes named owns grown events granted
