-- What an export sent is what its line says, by the machine at the moment of its last event.
use Rattle.std.proofs.Common.{◌≡◌, ◌⊎◌, ℕ, ◌<◌, ◌≤◌, ◌^◌, ℤ, true, false, not, ◌||◌, List, [], ◌∷◌, ◌++◌, length, map, Option, None, Some, option_map, is_some, refl, sym, ap, ◌∙◌, subst, arith, append-nil}
use mathlib.Core.Logic.{inl, inr}
use Rattle.std.specs.Prelude.{All, IfSome, slice_get}
use Rattle.std.specs.List.{list_all, list_any}
use Rattle.std.specs.Map.{keys_of}
use Rattle.std.proofs.lemmas.List.{length-map}
use Rattle.std.proofs.lemmas.List.Elements.{All-cons, All-nil}
use Rattle.std.proofs.lemmas.List.Sorted.{IsPermutation-refl}
use Rattle.std.specs.List.Sorted.{IsPermutation}
use Rattle.std.proofs.lemmas.Bool.{or_parts, and_from}
use Rattle.std.proofs.lemmas.Option.{same_Some}
use Rattle.arrow_spec.specs.Streams.{stream_of}
use Rattle.block_spec.specs.Slots.{Row}
use Rattle.cell_model.specs.declared.table.TableDecl.{TableDecl}
use Rattle.event_spec.specs.declared.event.Event.TheVariants as event
use Rattle.event_spec.specs.declared.own.OwnTransaction.{OwnTransaction}
use Rattle.event_spec.specs.Effects.{CoreEvent}
use Rattle.event_spec.specs.Lawful.{Among, OwnsAll}
use Rattle.event_spec.specs.Parts.{Parts, below, blocks_of, slots_of}
use Rattle.run_laws.proofs.Explained.Counting.{blocks_same, slots_same}
use Rattle.run_laws.proofs.Explained.Exporting.{export_low}
use Rattle.run_laws.proofs.Explained.Keys.{least_same, some_list}
use Rattle.run_laws.proofs.Explained.Scripts.{session_asked}
use Rattle.run_laws.proofs.Explained.Taking.{Ended, has_table, none_open, one_open, owns_it, stand, stays}
use Rattle.run_laws.specs.Explained.Reads.{Stands}
use Rattle.store_laws.specs.Stretches.{reads_block}
use Rattle.export_spec.specs.Calls.{BreaksOff, IsFrontIn, SendsAs, groups_told}
use Rattle.export_spec.specs.Sent.{AreBatchesOf, IsFrontOf, IsStreamOf}
use Rattle.isolation_laws.specs.Inserts.{all_rows}
use Rattle.isolation_spec.specs.Contents.{contents_of, state_at}
use Rattle.isolation_spec.specs.Machine.{IsolationMachine, Transaction, transaction_of}
use Rattle.run_laws.proofs.Moments.Seats.{session_at}
use Rattle.outcome_spec.specs.Forms.{is_worker}
use Rattle.outcome_spec.specs.Tables.{blocks_at, columns_at, slots_at}
use Rattle.isolation_spec.specs.Contents.{least_key}
use Rattle.run_laws.specs.Calls.Coming.{is_single}
use Rattle.run_laws.specs.Calls.Open.{OpenAs}
use Rattle.run_spec.specs.Asked.{at_blocks, events_of}
use Rattle.run_spec.specs.Calls.{Call, IsCall, IsCallBy, IsPart, IsWhole, is_cut_short, is_final, is_refused}
use Rattle.run_spec.specs.Occurrences.{Occurrence, events_in, replies_in}
use Rattle.run_spec.specs.Opened.{least_written, own_after}
use Rattle.run_spec.specs.Ran.{IsRunnable, shape_of}
use Rattle.run_spec.specs.Told.{line_of, refusal_of, summary_of}
use Rattle.stream_laws.proofs.Streams.{stream_is_read}
use Rattle.stream_laws.specs.Laws.{IsBatch}
use Rattle.stream_spec.specs.Streams.{Reads as ReadsAs}
use Rattle.run_laws.proofs.Told.Splits.{heads, none_some, tails}
use Rattle.workload_spec.specs.declared.command.Command.TheVariants as command
use Rattle.workload_spec.specs.declared.reply.Said.{Said}
use Rattle.workload_spec.specs.declared.reply.Said.TheVariants as said
use Rattle.workload_spec.specs.declared.script.Script.{Script}
use Rattle.workload_spec.specs.Valid.{is_command}
use Rattle.run_laws.proofs.Exports.Groups.{groups_are, groups_fit, groups_read}
use Rattle.run_laws.proofs.Exports.Streams.{front_is, groups_counted, rows_counted}
use Rattle.run_laws.proofs.Exports.Tables.{are_told, columns_same}
use Rattle.run_laws.proofs.Exports.Told.{tells_first}

-- ---- what a line says, by the machine

-- What the line of an export says of the bytes that it sent, in this transaction: the stream of the
-- table at its snapshot, or with refused memory a front of one, or nothing.
abbrev pub SaysWithin : List TableDecl → IsolationMachine → Transaction → ℕ → Said → List ℕ → Type 0
SaysWithin tables machine t table (said.Exported number rows batches frozen) bytes =
    (number ≡ t.snapshot)
    × IsStreamOf (columns_at tables table) (slots_at tables table) (contents_of table (state_at machine.history t.snapshot)) rows batches bytes
SaysWithin tables machine t table said.Memory bytes =
    IsFrontOf (columns_at tables table) (slots_at tables table) (contents_of table (state_at machine.history t.snapshot)) bytes
SaysWithin tables machine t table _ bytes = bytes ≡ []

-- without a transaction nothing is sent
abbrev pub SaysBy : List TableDecl → IsolationMachine → Option Transaction → ℕ → Said → List ℕ → Type 0
SaysBy tables machine None table told bytes = (told ≡ said.NoTransaction) × (bytes ≡ [])
SaysBy tables machine (Some t) table told bytes = SaysWithin tables machine t table told bytes

-- ---- reads

-- reads are not cut short where none was refused
reads_cut : (own : OwnTransaction) (t : ℕ) (made : List Occurrence) (blocks : List ℕ) → events_in made ≡ map (event.Read own t) blocks
    → list_any is_refused made ≡ false → is_cut_short made ≡ true
reads_cut own t [] blocks e granted = refl
reads_cut own t (x ∷ made) [] e granted = absurd (none_some x.event (events_in made) (sym e))
reads_cut own t (x ∷ made) (block ∷ blocks) e granted = go (reads_cut own t made blocks) made refl
  where
    last : is_final x.event ≡ false
    last = ap is_final (heads x.event (event.Read own t block) (events_in made) (map (event.Read own t) blocks) e)

    told : (is_refused x ≡ false) × (list_any is_refused made ≡ false)
    told = or_parts (is_refused x) (list_any is_refused made) granted

    go : (events_in made ≡ map (event.Read own t) blocks → list_any is_refused made ≡ false → is_cut_short made ≡ true)
        → (others : List Occurrence) → made ≡ others → is_cut_short (x ∷ others) ≡ true
    go again [] same = ap (λ b. b || not (is_final x.event)) told.0 ∙ ap not last
    go again (next ∷ others) same = and_from (not (is_refused x || is_final x.event)) (is_cut_short (next ∷ others))
        (ap (λ b. not (b || is_final x.event)) told.0 ∙ ap not last)
        (subst (λ xs. is_cut_short xs ≡ true) same
        (again (tails x.event (event.Read own t block) (events_in made) (map (event.Read own t) blocks) e) told.1))

-- Events that are the first of some reads are all reads.
front_reads : (own : OwnTransaction) (t : ℕ) (made : List Occurrence) (missed : List CoreEvent) (blocks : List ℕ)
    → map (event.Read own t) blocks ≡ events_in made ++ missed → list_all reads_block (events_in made) ≡ true
front_reads own t [] missed blocks e = refl
front_reads own t (x ∷ made) missed [] e = absurd (none_some x.event (events_in made ++ missed) e)
front_reads own t (x ∷ made) missed (block ∷ blocks) e = and_from (reads_block x.event) (list_all reads_block (events_in made))
    (ap reads_block (sym (heads (event.Read own t block) x.event (map (event.Read own t) blocks) (events_in made ++ missed) e)))
    (front_reads own t made missed blocks (tails (event.Read own t block) x.event (map (event.Read own t) blocks) (events_in made ++ missed) e))

-- The first event of those that are the first of some reads is a read of a block.
first_read : (own : OwnTransaction) (t : ℕ) (x : Occurrence) (made : List Occurrence) (missed : List CoreEvent) (blocks : List ℕ)
    → map (event.Read own t) blocks ≡ events_in (x ∷ made) ++ missed → (block : ℕ) × (x.event ≡ event.Read own t block)
first_read own t x made missed [] e = absurd (none_some x.event (events_in made ++ missed) e)
first_read own t x made missed (block ∷ blocks) e =
    (block, sym (heads (event.Read own t block) x.event (map (event.Read own t) blocks) (events_in made ++ missed) e))

-- each row in a group of its own
alone : (slots : ℕ) (rows : List Row) → 1 ≤ slots → AreBatchesOf slots rows (map (λ row. row ∷ []) rows)
alone slots rows some = record {
  filled = all (λ group. 0 < length group) (λ row. omega arith) rows;
  within = all (λ group. length group ≤ slots) (λ row. omega (arith, some)) rows;
  each_once = subst (λ xs. IsPermutation xs rows) (sym (together rows)) (IsPermutation-refl rows);
}
  where
    all : (P : List Row → Type 0) → ((row : Row) → P (row ∷ [])) → (rows : List Row) → All P (map (λ row. row ∷ []) rows)
    all P each [] = All-nil P
    all P each (row ∷ rows) = All-cons P (row ∷ []) (map (λ row. row ∷ []) rows) (each row) (all P each rows)

    together : (rows : List Row) → all_rows (map (λ row. row ∷ []) rows) ≡ rows
    together [] = refl
    together (row ∷ rows) = ap (λ others. row ∷ others) (together rows)

-- ---- an export that ended

module _ (script : Script) (valid : IsRunnable script) (seat : ℕ) (parts : Parts) (front : List Occurrence) (at next : IsolationMachine) (call : Call)
    (ended : Ended script seat parts front at next call) (table : ℕ) (is : call.command ≡ command.Export table) (bytes : List ℕ) where
  -- The script has the table that the export names.
  has : is_some (slice_get script.tables table) ≡ true
  has = ap (is_command script.tables) (sym is)
      ∙ session_asked script valid.valid seat call.command (export_low script valid seat parts front at next call ended table is) ended.asked

  -- A block of the table has at least one slot, and at most 32768 of them.
  slots : (1 ≤ slots_of (shape_of script) table) × (slots_of (shape_of script) table ≤ 2 ^ 15)
  slots = valid.shape.slots table (has_table script.tables table has)

  -- The table has at least one block.
  some_block : 1 ≤ blocks_of (shape_of script) table
  some_block = valid.shape.blocks table (has_table script.tables table has)

  -- The export leaves the machine as it was.
  keeps : next ≡ at
  keeps = stays script valid seat parts front at next call ended (ap is_single is)

  -- The numbers of the table's blocks are as many as the script gives it.
  many : length (below (blocks_of (shape_of script) table)) ≡ blocks_at script.tables table
  many = Rattle.std.proofs.lemmas.List.FromFn.length-range_with_len 0 (blocks_of (shape_of script) table) ∙ sym (blocks_same (shape_of script) table)

  module _ (own : OwnTransaction) (mine : own_after ended.began ≡ Some own) (t : Transaction) (open' : transaction_of seat at ≡ Some t) (clean : least_written table own ≡ None) where
    is_open : transaction_of own.session next ≡ Some t
    is_open =
        ap (λ q. transaction_of q next) (subst (λ o. IfSome o (λ (t : OwnTransaction). t.session ≡ seat)) mine ended.open'.session_is)
        ∙ ap (transaction_of seat) keeps ∙ open'

    none : least_key table t.own ≡ None
    none = sym (least_same table own t (some_list (keys_of own.writes) (keys_of t.own)
        (ap (λ o. option_map (λ (t : OwnTransaction). keys_of t.writes) o) (sym mine) ∙ ended.keys.places ∙ ap (λ o. option_map (λ (t : Transaction). keys_of t.own) o) open'))) ∙ clean

    number : own.snapshot.number ≡ t.snapshot
    number = same_Some own.snapshot.number t.snapshot
        (ap (λ o. option_map (λ (t : OwnTransaction). t.snapshot.number) o) (sym mine) ∙ ended.open'.snapshot ∙ ap (λ o. option_map (λ (t : Transaction). t.snapshot) o) open')

    grouped : OwnsAll (shape_of script) own parts
        → AreBatchesOf (slots_at script.tables table) (contents_of table (state_at at.history t.snapshot)) (groups_read (shape_of script) parts own table)
    grouped owns =
        subst (λ n. AreBatchesOf n (contents_of table (state_at at.history t.snapshot)) (groups_read (shape_of script) parts own table))
        (sym (slots_same (shape_of script) table))
        (subst (λ (m : IsolationMachine). AreBatchesOf (slots_of (shape_of script) table) (contents_of table (state_at m.history t.snapshot)) (groups_read (shape_of script) parts own table)) keeps
        (groups_are (shape_of script) parts own table next t valid.shape ended.ok owns ended.follows is_open none))

    read_back : OwnsAll (shape_of script) own parts
        → ReadsAs (stream_of (columns_at script.tables table) (groups_read (shape_of script) parts own table)) (columns_at script.tables table) (groups_read (shape_of script) parts own table)
    read_back owns = stream_is_read (columns_at script.tables table) (groups_read (shape_of script) parts own table) (are_told script valid.valid table has)
        (subst (λ columns. All (IsBatch columns) (groups_read (shape_of script) parts own table)) (sym (columns_same (shape_of script) table))
        (groups_fit (shape_of script) parts own table next t valid.shape ended.ok owns ended.follows is_open slots.1))

    -- one that read all blocks
    whole : IsWhole (shape_of script) false seat (own_after ended.began) call → events_in call.made ≡ at_blocks (shape_of script) table (event.Read own table)
        → SendsAs (columns_at script.tables table) (blocks_at script.tables table) call.made (summary_of own (replies_in call.made)) bytes
        → SaysWithin script.tables at t table (summary_of own (replies_in call.made)) bytes
    whole w events sent = (
      number,
      record {
        groups = groups_read (shape_of script) parts own table;
        stream = stream;
        read_back = subst (λ bs. ReadsAs bs (columns_at script.tables table) (groups_read (shape_of script) parts own table)) (sym stream) (read_back owns);
        grouped = grouped owns;
        count = ap (λ (groups : List (List Row)). length groups) (sym same) ∙ groups_counted (replies_in call.made);
        total = ap (λ groups. length (all_rows groups)) (sym same) ∙ rows_counted call.made;
      },
    )
      where
        blocks : List ℕ
        blocks = below (blocks_of (shape_of script) table)

        owns : OwnsAll (shape_of script) own parts
        owns = owns_it script valid seat parts front at next call ended own table (let some = some_block in omega (arith, some)) events

        long : length call.made ≡ length (below (blocks_of (shape_of script) table))
        long =
            sym (length-map call.made (λ (o : Occurrence). o.event)) ∙ ap (λ (es : List CoreEvent). length es) events
            ∙ length-map (below (blocks_of (shape_of script) table)) (event.Read own table)

        same : groups_told call.made ≡ groups_read (shape_of script) parts own table
        same =
            let first = tells_first (shape_of script) parts seat own table call.made [] (below (blocks_of (shape_of script) table))
            (sym events ∙ sym (append-nil (events_in call.made)))
            (reads_cut own table call.made (below (blocks_of (shape_of script) table)) events w.granted)
            (λ o a. stand script valid seat parts front at next call ended own table (below (blocks_of (shape_of script) table)) events o a) in
            sym (append-nil (groups_told call.made)) ∙ ap (λ more. groups_told call.made ++ more) (sym (first.all long w.granted)) ∙ first.split

        stream : bytes ≡ stream_of (columns_at script.tables table) (groups_read (shape_of script) parts own table)
        stream = sent ∙ ap (stream_of (columns_at script.tables table)) same

    -- one that broke off behind some reads
    broken : (first : Occurrence) (others : List Occurrence) (missed : List CoreEvent) → call.made ≡ first ∷ others
        → at_blocks (shape_of script) table (event.Read own table) ≡ events_in call.made ++ missed → is_cut_short call.made ≡ true
        → BreaksOff (columns_at script.tables table) (blocks_at script.tables table) call.made bytes
        → SaysWithin script.tables at t table said.Memory bytes
    broken first others missed starts e cut sent = record {
      groups = groups_read (shape_of script) parts own table;
      rest = first_bytes.0;
      front = first_bytes.1;
      grouped = grouped owns;
    }
      where
        stands : (o : Occurrence) → Among o call.made → Stands (shape_of script) parts seat o
        stands o a = ended.reads seat ended.began call.made ended.whole (front_reads own table call.made missed (below (blocks_of (shape_of script) table)) e) o a

        owns : OwnsAll (shape_of script) own parts
        owns =
            let read = first_read own table first others missed (below (blocks_of (shape_of script) table)) (e ∙ ap (λ made. events_in made ++ missed) starts) in
            (stands first (subst (Among first) (sym starts) (inl refl)) own table read.0 read.1).owns

        first_bytes : IsFrontIn (stream_of (columns_at script.tables table) (groups_read (shape_of script) parts own table)) bytes
        first_bytes =
            let told = tells_first (shape_of script) parts seat own table call.made missed (below (blocks_of (shape_of script) table)) e cut stands in
            front_is (columns_at script.tables table) (blocks_at script.tables table) call.made bytes (groups_read (shape_of script) parts own table) told.more told.split
            (λ all. told.all (all.0 ∙ sym many) all.1) sent

    -- one that broke off before its first read
    unread : call.made ≡ [] → BreaksOff (columns_at script.tables table) (blocks_at script.tables table) call.made bytes
        → SaysWithin script.tables at t table said.Memory bytes
    unread none_made sent = record {
      groups = rows;
      rest = first_bytes.0;
      front = first_bytes.1;
      grouped = alone (slots_at script.tables table) (contents_of table (state_at at.history t.snapshot))
          (let some = slots.0 in let same = slots_same (shape_of script) table in omega (arith, some, same));
    }
      where
        rows : List (List Row)
        rows = map (λ row. row ∷ []) (contents_of table (state_at at.history t.snapshot))

        first_bytes : IsFrontIn (stream_of (columns_at script.tables table) (map (λ row. row ∷ []) (contents_of table (state_at at.history t.snapshot)))) bytes
        first_bytes = front_is (columns_at script.tables table) (blocks_at script.tables table) call.made bytes
            (map (λ row. row ∷ []) (contents_of table (state_at at.history t.snapshot))) (map (λ row. row ∷ []) (contents_of table (state_at at.history t.snapshot)))
            (ap (λ made. groups_told made ++ map (λ row. row ∷ []) (contents_of table (state_at at.history t.snapshot))) none_made)
            (λ all.
            let some = some_block in let same = blocks_same (shape_of script) table in
            let short : length call.made ≡ 0 = ap (λ (made : List Occurrence). length made) none_made in
            let count = all.0 in
            absurd (let never : ⊥ = omega (arith, some, same, short, count) in never)) sent

    part : (missed : List CoreEvent) → at_blocks (shape_of script) table (event.Read own table) ≡ events_in call.made ++ missed → is_cut_short call.made ≡ true
        → BreaksOff (columns_at script.tables table) (blocks_at script.tables table) call.made bytes
        → SaysWithin script.tables at t table said.Memory bytes
    part missed e cut sent = go call.made refl
      where
        go : (made : List Occurrence) → call.made ≡ made → SaysWithin script.tables at t table said.Memory bytes
        go [] starts = unread starts sent
        go (first ∷ others) starts = broken first others missed starts e cut sent

    -- by its line
    abbrev Sends : Said → Type 0
    Sends line = SendsAs (columns_at script.tables table) (blocks_at script.tables table) call.made line bytes → SaysWithin script.tables at t table line bytes

    says_made : (line : Said) → call.told ≡ Some line
        → IsWhole (shape_of script) false seat (own_after ended.began) call ⊎ IsPart (shape_of script) seat (own_after ended.began) call → Sends line
    says_made line tells (inl w) =
        let events : events_in call.made ≡ at_blocks (shape_of script) table (event.Read own table) =
        w.events ∙ ap (λ c. events_of (shape_of script) (own_after ended.began) call.reads seat c call.made) is ∙ ap (λ o. events_of (shape_of script) o call.reads seat (command.Export table) call.made) mine in
        let told : call.told ≡ Some (summary_of own (replies_in call.made)) =
        w.line ∙ ap (λ c. line_of (own_after ended.began) c (replies_in call.made)) is ∙ ap (λ o. line_of o (command.Export table) (replies_in call.made)) mine in
        subst Sends (same_Some (summary_of own (replies_in call.made)) line (sym told ∙ tells)) (whole w events)
    says_made line tells (inr p) =
        let events : events_of (shape_of script) (own_after ended.began) call.reads seat call.command call.made ≡ at_blocks (shape_of script) table (event.Read own table) =
        ap (λ c. events_of (shape_of script) (own_after ended.began) call.reads seat c call.made) is ∙ ap (λ o. events_of (shape_of script) o call.reads seat (command.Export table) call.made) mine in
        subst Sends (same_Some said.Memory line (sym p.line ∙ tells)) (part p.missed (sym events ∙ p.events) p.cut)

  -- what it sent is what a line says, of this transaction
  abbrev By : Option Transaction → Said → Type 0
  By found line = SendsAs (columns_at script.tables table) (blocks_at script.tables table) call.made line bytes → SaysBy script.tables at found table line bytes

  -- What it sent is what its line says.
  pub says_by : (line : Said) → call.told ≡ Some line
      → SendsAs (columns_at script.tables table) (blocks_at script.tables table) call.made line bytes
      → SaysBy script.tables at (transaction_of seat at) table line bytes
  says_by line tells = go (own_after ended.began) refl
      (subst (λ w. IsCall (shape_of script) w seat ended.began call) (ap is_worker (session_at script seat (export_low script valid seat parts front at next call ended table is))) ended.is_call)
    where
      within : (own : OwnTransaction) → own_after ended.began ≡ Some own → (t : Transaction) → transaction_of seat at ≡ Some t
          → (r : Option ℤ) → least_written table own ≡ r → IsCallBy (shape_of script) false seat (own_after ended.began) (option_map said.Dirty r) call → By (Some t) line
      within own mine t open' (Some key) least h = subst (By (Some t)) (same_Some (said.Dirty key) line (sym h.1 ∙ tells)) (λ sent. sent)
      within own mine t open' None least h = says_made own mine t open' least line tells h

      go : (o : Option OwnTransaction) → own_after ended.began ≡ o → IsCallBy (shape_of script) false seat (own_after ended.began) (refusal_of call.command (own_after ended.began)) call
          → By (transaction_of seat at) line
      go None mine h =
          let r : (call.made ≡ []) × (call.told ≡ Some said.NoTransaction) =
          subst (λ r. IsCallBy (shape_of script) false seat (own_after ended.began) r call) (ap (λ c. refusal_of c (own_after ended.began)) is ∙ ap (refusal_of (command.Export table)) mine) h in
          subst (λ found. By found line) (sym (none_open seat at (subst (λ o. OpenAs seat o (transaction_of seat at)) mine ended.open')))
          (subst (By None) (same_Some said.NoTransaction line (sym r.1 ∙ tells)) (λ sent. (refl, sent)))
      go (Some own) mine h =
          let t = one_open seat at own (subst (λ o. OpenAs seat o (transaction_of seat at)) mine ended.open') in
          subst (λ found. By found line) (sym t.1)
          (within own mine t.0 t.1 (least_written table own) refl
          (subst (λ r. IsCallBy (shape_of script) false seat (own_after ended.began) r call) (ap (λ c. refusal_of c (own_after ended.began)) is ∙ ap (refusal_of (command.Export table)) mine) h))
