-- Round by round, the replies of a generated workload are read as its parts.
use Rattle.std.proofs.Common.{◌≡◌, ℕ, ◌+◌, ◌*◌, ◌/◌, ◌%◌, ◌≤◌, zero, suc, Bool, true, false, ◌||◌, List, [], ◌∷◌, ◌++◌, refl, sym, ap, ◌∙◌, subst, arith, append-nil}
use Rattle.std.specs.Prelude.{flat_map, if◌then◌else◌, ◌==◌}
use Rattle.std.specs.List.{enumerate_from, range_with_len}
use Rattle.cell_model.specs.declared.table.TableDecl.{TableDecl}
use Rattle.workload_spec.specs.declared.command.Command.{Command}
use Rattle.workload_spec.specs.declared.command.Command.TheVariants as command
use Rattle.workload_spec.specs.declared.reply.Who.TheVariants.{Session}
use Rattle.workload_spec.specs.declared.reply.Said.{Said}
use Rattle.workload_spec.specs.declared.reply.Said.TheVariants as said
use Rattle.workload_spec.specs.declared.script.Line.{Line}
use Rattle.workload_spec.specs.declared.script.Script.{Script}
use Rattle.outcome_spec.specs.Entries.{Entry}
use Rattle.outcome_spec.specs.Forms.{Due, commands_of, dues_in, dues_to, entry_behind, is_upkeep, is_within}
use Rattle.bench_spec.specs.Generated.{bench_script, bench_table, freezing, last_round, rounds_at, upkeep_round, write_round, writers}
use Rattle.bench_laws.proofs.Every.{Every, every-append}
use Rattle.bench_laws.proofs.Replies.{due, Goes, step, done, within-count, within-seal, within-gather, within-scan, within-export, begin-shows, commit-shows, stays, fits-in, fits-out, fits-upkeep, FitsBy, IsBeginReply, IsCommitReply, IsCountReply, IsSealReply, IsGatherReply, IsScanReply, IsExportReply}
use Rattle.bench_laws.proofs.Parts.{Wrote, Kept, Froze, Last, GoodWrote, IsKept, Rest, first_row, next_row, rest-weaker, rest-writes, rest-keeps, rest-freezes, replies_to, turns}
use Rattle.bench_laws.proofs.Plain.{Stands, IsPlainDue}
use Rattle.bench_laws.proofs.Walk.{AllOut, committed, tx_dues, transaction-read, own-more, quiet-more}

-- What fits pruning, observing or compacting is a reply to one of them.
count-fits : (asked : Command) → IsKept asked → (told : Said) (b : Bool) → FitsBy (b || is_upkeep asked) asked told → IsCountReply told
count-fits command.Observe kept told b h = fits-upkeep b true command.Observe told refl h
count-fits command.Prune kept told b h = fits-upkeep b true command.Prune told refl h
count-fits (command.Compact table) kept told b h = fits-upkeep b true (command.Compact table) told refl h
count-fits _ kept told b h = absurd kept

-- Two replies put behind others one by one are both put behind them.
two : (xs : List Entry) (a b : Entry) → (xs ++ a ∷ []) ++ b ∷ [] ≡ xs ++ a ∷ b ∷ []
two [] a b = refl
two (x ∷ xs) a b = ap (λ ys. x ∷ ys) (two xs a b)

-- Four replies put behind others one by one are all put behind them.
four : (xs : List Entry) (a b c d : Entry) → (((xs ++ a ∷ []) ++ b ∷ []) ++ c ∷ []) ++ d ∷ [] ≡ xs ++ a ∷ b ∷ c ∷ d ∷ []
four [] a b c d = refl
four (x ∷ xs) a b c d = ap (λ ys. x ∷ ys) (four xs a b c d)

-- the sealing and the gathering of these blocks
abbrev freeze_dues : ℕ → List ℕ → List Due
freeze_dues round [] = []
freeze_dues round (block ∷ blocks) = due round 1 (command.Seal 0 block) ∷ due round 1 (command.Gather 0 block) ∷ freeze_dues round blocks

module _ (seed : ℕ) (tables : List TableDecl) (entries : List Entry) (stands : Stands entries) where
  -- what is read behind, where nobody is in a transaction
  abbrev pub Onward : ℕ → ℕ → ℕ → ℕ → List Due → List (ℕ × ℕ) → Type 0
  Onward round place turn least dues asked = (next : List Entry) → AllOut next → Goes tables next dues entries → Rest seed round place turn least next entries asked

  -- A session's transaction is read in front of what is due behind it.
  writes-then : (round turn session l : ℕ) (dues : List Due) (asked : List (ℕ × ℕ)) → 1 ≤ session → session ≤ 4 → 1 ≤ turn → round + 1 ≤ l
      → Onward (round + 1) (4 * round + session + 1) (4 * turn + session + 1) l dues asked
      → Onward (round + 1) (4 * round + session) (4 * turn + session) l (tx_dues seed round turn session ++ dues) ((turn, session) ∷ asked)
  writes-then round turn session l dues asked low high turn_low far onward earlier out goes =
      let t = transaction-read seed tables round turn session low high turn_low dues entries stands earlier out goes in
      by t.wrote t.round_is t.turn_is t.session_is t.good (onward (earlier ++ replies_to t.wrote) t.out t.rest)
    where
      by : (w : Wrote) → w.round ≡ round → w.turn ≡ turn → w.session ≡ session → GoodWrote seed w
          → Rest seed (round + 1) (4 * round + session + 1) (4 * turn + session + 1) l (earlier ++ replies_to w) entries asked
          → Rest seed (round + 1) (4 * round + session) (4 * turn + session) l earlier entries ((turn, session) ∷ asked)
      by w a b c good rest =
          subst (λ (r : ℕ). Rest seed (r + 1) (4 * r + session) (4 * turn + session) l earlier entries ((turn, session) ∷ asked)) a
          (subst (λ (r : ℕ). Rest seed (w.round + 1) (4 * w.round + session) (4 * r + session) l earlier entries ((r, session) ∷ asked)) b
          (subst (λ (r : ℕ). Rest seed (w.round + 1) (4 * w.round + r) (4 * w.turn + r) l earlier entries ((w.turn, r) ∷ asked)) c
          (rest-writes seed l earlier entries asked w good (omega (arith, a, far))
          (rest-weaker (w.round + 1) (4 * w.round + w.session + 1) (4 * w.turn + w.session + 1) l (omega (arith, a)) (omega (arith, a, c)) (omega (arith, b, c)) (omega arith) rest))))

  -- Pruning, observing or compacting is read in front of what is due behind it.
  kept-then : (asked : Command) → IsKept asked → (round t l : ℕ) (dues : List Due) (pairs : List (ℕ × ℕ)) → round + 1 ≤ l
      → Onward round (4 * (round + 1) + 1) t l dues pairs → Onward round (4 * (round + 1) + 1) t l (due round 1 asked ∷ dues) pairs
  kept-then asked kept round t l dues pairs far onward earlier out goes =
      let answer = step tables earlier round 1 asked dues entries goes in
      let fits : IsCountReply answer.told = count-fits asked kept answer.told (is_within (Session 1) earlier) answer.fits in
      let e = entry_behind tables earlier (due round 1 asked) answer.told in
      let k : Kept = record { round = round; line = e.number; index = e.reply.index; asked = asked; told = answer.told } in
      rest-keeps seed t l earlier entries pairs k kept fits far
      (onward (earlier ++ e ∷ []) (λ session. quiet-more session earlier e (λ b. within-count b answer.told fits) ∙ out session) answer.rest)

  -- The sealing and gathering of one block is read in front of what is due behind it.
  freezes-then : (block round t l : ℕ) (dues : List Due) (pairs : List (ℕ × ℕ)) → round + 1 ≤ l
      → Onward round (4 * (round + 1) + 1) t l dues pairs → Onward round (4 * (round + 1) + 1) t l (due round 1 (command.Seal 0 block) ∷ due round 1 (command.Gather 0 block) ∷ dues) pairs
  freezes-then block round t l dues pairs far onward earlier out goes =
      let first = step tables earlier round 1 (command.Seal 0 block) (due round 1 (command.Gather 0 block) ∷ dues) entries goes in
      let seals : IsSealReply 0 block first.told = fits-upkeep (is_within (Session 1) earlier) true (command.Seal 0 block) first.told refl first.fits in
      let a = entry_behind tables earlier (due round 1 (command.Seal 0 block)) first.told in
      let second = step tables (earlier ++ a ∷ []) round 1 (command.Gather 0 block) dues entries first.rest in
      let gathers : IsGatherReply 0 block second.told = fits-upkeep (is_within (Session 1) (earlier ++ a ∷ [])) true (command.Gather 0 block) second.told refl second.fits in
      let b = entry_behind tables (earlier ++ a ∷ []) (due round 1 (command.Gather 0 block)) second.told in
      let f : Froze = record { round = round; block = block; seal_line = a.number; seal_index = a.reply.index; seal_said = first.told; gather_line = b.number; gather_index = b.reply.index; gather_said = second.told } in
      let outside : AllOut ((earlier ++ a ∷ []) ++ b ∷ []) = λ session.
      quiet-more session (earlier ++ a ∷ []) b (λ x. within-gather x block second.told gathers) ∙ quiet-more session earlier a (λ x. within-seal x block first.told seals) ∙ out session in
      rest-freezes seed t l earlier entries pairs f seals gathers far
      (onward (earlier ++ a ∷ b ∷ []) (subst AllOut (two earlier a b) outside) (subst (λ (es : List Entry). Goes tables es dues entries) (two earlier a b) second.rest))

  -- The sealing and gathering of several blocks is read in front of what is due behind it.
  blocks-then : (blocks : List ℕ) (round t l : ℕ) (dues : List Due) (pairs : List (ℕ × ℕ)) → round + 1 ≤ l
      → Onward round (4 * (round + 1) + 1) t l dues pairs → Onward round (4 * (round + 1) + 1) t l (freeze_dues round blocks ++ dues) pairs
  blocks-then [] round t l dues pairs far onward = onward
  blocks-then (block ∷ blocks) round t l dues pairs far onward =
      freezes-then block round t l (freeze_dues round blocks ++ dues) pairs far (blocks-then blocks round t l dues pairs far onward)

  -- ---- the last round

  -- The transaction of the last round is read, with nothing behind it.
  last-read : (round t : ℕ) → Onward round (4 * round + 1) t round (due round 1 (command.Begin false) ∷ due round 1 (command.Scan 0) ∷ due round 1 (command.Export 0) ∷ due round 1 command.Commit ∷ []) []
  last-read round t earlier out goes =
      let first = step tables earlier round 1 (command.Begin false) (due round 1 (command.Scan 0) ∷ due round 1 (command.Export 0) ∷ due round 1 command.Commit ∷ []) entries goes in
      let begins : IsBeginReply first.told = fits-out (is_within (Session 1) earlier) first.told (out 1) first.fits in
      let begun = begin-shows first.told (λ s. Goes tables (earlier ++ entry_behind tables earlier (due round 1 (command.Begin false)) s ∷ []) (due round 1 (command.Scan 0) ∷ due round 1 (command.Export 0) ∷ due round 1 command.Commit ∷ []) entries) begins first.rest in
      let a = entry_behind tables earlier (due round 1 (command.Begin false)) (said.At begun.0) in
      let in_a : is_within (Session 1) (earlier ++ a ∷ []) ≡ true = own-more 1 earlier a false refl (out 1) in
      let second = step tables (earlier ++ a ∷ []) round 1 (command.Scan 0) (due round 1 (command.Export 0) ∷ due round 1 command.Commit ∷ []) entries begun.1 in
      let scans : IsScanReply second.told = fits-in (is_within (Session 1) (earlier ++ a ∷ [])) (command.Scan 0) second.told in_a refl second.fits in
      let b = entry_behind tables (earlier ++ a ∷ []) (due round 1 (command.Scan 0)) second.told in
      let in_b : is_within (Session 1) ((earlier ++ a ∷ []) ++ b ∷ []) ≡ true = own-more 1 (earlier ++ a ∷ []) b true refl in_a ∙ within-scan second.told scans in
      let third = step tables ((earlier ++ a ∷ []) ++ b ∷ []) round 1 (command.Export 0) (due round 1 command.Commit ∷ []) entries second.rest in
      let exports : IsExportReply third.told = fits-in (is_within (Session 1) ((earlier ++ a ∷ []) ++ b ∷ [])) (command.Export 0) third.told in_b refl third.fits in
      let c = entry_behind tables ((earlier ++ a ∷ []) ++ b ∷ []) (due round 1 (command.Export 0)) third.told in
      let in_c : is_within (Session 1) (((earlier ++ a ∷ []) ++ b ∷ []) ++ c ∷ []) ≡ true = own-more 1 ((earlier ++ a ∷ []) ++ b ∷ []) c true refl in_b ∙ within-export third.told exports in
      let fourth = step tables (((earlier ++ a ∷ []) ++ b ∷ []) ++ c ∷ []) round 1 command.Commit [] entries third.rest in
      let commits : IsCommitReply fourth.told = fits-in (is_within (Session 1) (((earlier ++ a ∷ []) ++ b ∷ []) ++ c ∷ [])) command.Commit fourth.told in_c refl fourth.fits in
      let told = entry_behind tables (((earlier ++ a ∷ []) ++ b ∷ []) ++ c ∷ []) (due round 1 command.Commit) fourth.told in
      let stood = committed tables earlier a b c told [] entries 1 begun.0 stands refl refl refl refl refl (stays second.told (within-scan second.told scans)) (stays third.told (within-export third.told exports)) fourth.rest in
      let shown = commit-shows fourth.told (λ s. Goes tables ((((earlier ++ a ∷ []) ++ b ∷ []) ++ c ∷ []) ++ entry_behind tables (((earlier ++ a ∷ []) ++ b ∷ []) ++ c ∷ []) (due round 1 command.Commit) s ∷ []) [] entries) commits stood fourth.rest in
      let d = entry_behind tables (((earlier ++ a ∷ []) ++ b ∷ []) ++ c ∷ []) (due round 1 command.Commit) (said.Committed shown.0) in
      let l : Last = record {
        round = round;
        snapshot = begun.0;
        scan_said = second.told;
        export_said = third.told;
        number = shown.0;
        begin_line = a.number;
        begin_index = a.reply.index;
        scan_line = b.number;
        scan_index = b.reply.index;
        export_line = c.number;
        export_index = c.reply.index;
        commit_line = d.number;
        commit_index = d.reply.index;
      } in
      record {
        parts = [];
        last = l;
        whole = done tables ((((earlier ++ a ∷ []) ++ b ∷ []) ++ c ∷ []) ++ d ∷ []) entries shown.1 ∙ four earlier a b c d;
        good = tt;
        in_turn = tt;
        from = tt;
        under = tt;
        asked_are = refl;
        last_low = omega arith;
        scan_fits = scans;
        export_fits = exports;
      }

-- ---- what is due

module _ (seed : ℕ) (all : List (List Line)) where
  -- the generated workload
  abbrev pub script : Script
  script = bench_script all

  -- what is due for rounds that are counted from this one
  abbrev pub dues_from : ℕ → List (List Line) → List Due
  dues_from round rounds = flat_map (λ entry. dues_in script entry.0 entry.1) (enumerate_from round rounds)

  -- What is due for a write round is the transactions of its four sessions.
  write-dues : (round turn : ℕ) → dues_in script round (write_round seed turn)
      ≡ tx_dues seed round turn 1 ++ (tx_dues seed round turn 2 ++ (tx_dues seed round turn 3 ++ (tx_dues seed round turn 4 ++ [])))
  unfolding first_row next_row
  write-dues round turn = refl

-- session 1 freezes blocks, the others none
abbrev freeze_commands : List ℕ → List Command
freeze_commands blocks = flat_map (λ block. command.Seal 0 block ∷ command.Gather 0 block ∷ []) blocks

-- Session 1 has all commands that freeze blocks.
commands-one : (blocks : List ℕ) → commands_of 1 (flat_map freezing blocks) ≡ freeze_commands blocks
commands-one [] = refl
commands-one (block ∷ blocks) = ap (λ cs. command.Seal 0 block ∷ command.Gather 0 block ∷ cs) (commands-one blocks)

-- Another session than the first has no command that freezes blocks.
commands-none : (session : ℕ) → 1 == session ≡ false → (blocks : List ℕ) → commands_of session (flat_map freezing blocks) ≡ []
commands-none session other [] = refl
commands-none session other (block ∷ blocks) = rw other (commands-none session other blocks)

-- What is due for commands that freeze blocks is their sealing and gathering.
dues-one : (round : ℕ) (blocks : List ℕ) → dues_to round (Session 1) (freeze_commands blocks) ≡ freeze_dues round blocks
dues-one round [] = refl
dues-one round (block ∷ blocks) = ap (λ ds. due round 1 (command.Seal 0 block) ∷ due round 1 (command.Gather 0 block) ∷ ds) (dues-one round blocks)

-- the blocks that upkeep freezes behind a round
abbrev blocks_at : ℕ → List ℕ
blocks_at turn = range_with_len 0 (writers * turn / bench_table.slots + 1)

module _ (seed : ℕ) (all : List (List Line)) where
  -- What is due for upkeep is a pruning, two observations, a compaction and the freezing of blocks.
  upkeep-dues : (round turn : ℕ) → dues_in (bench_script all) round (upkeep_round turn)
      ≡ due round 1 command.Prune ∷ due round 1 command.Observe ∷ due round 1 command.Observe ∷ due round 1 (command.Compact 0) ∷ freeze_dues round (blocks_at turn)
  upkeep-dues round turn =
      ap (λ (ds : List Due). due round 1 command.Prune ∷ due round 1 command.Observe ∷ due round 1 command.Observe ∷ due round 1 (command.Compact 0) ∷ ds)
      (rw (commands-one (blocks_at turn), commands-none 2 refl (blocks_at turn), commands-none 3 refl (blocks_at turn), commands-none 4 refl (blocks_at turn), dues-one round (blocks_at turn))
      (append-nil (freeze_dues round (blocks_at turn) ++ []) ∙ append-nil (freeze_dues round (blocks_at turn))))

-- ---- nothing that is due begins a checked transaction

-- Freezing blocks begins none.
freeze-plain : (round : ℕ) (blocks : List ℕ) → Every IsPlainDue (freeze_dues round blocks)
freeze-plain round [] = tt
freeze-plain round (block ∷ blocks) = (refl, (refl, freeze-plain round blocks))

module _ (seed : ℕ) (all : List (List Line)) where
  -- what is due for the round, wherever it stands, is plain
  abbrev IsPlainRound : List Line → Type 0
  IsPlainRound lines = (round : ℕ) → Every IsPlainDue (dues_in (bench_script all) round lines)

  -- Upkeep is plain.
  upkeep-plain : (turn : ℕ) → IsPlainRound (upkeep_round turn)
  upkeep-plain turn round = subst (Every IsPlainDue) (sym (upkeep-dues seed all round turn)) (refl, (refl, (refl, (refl, freeze-plain round (blocks_at turn)))))

  -- A round of writes is plain.
  write-plain : (turn : ℕ) → IsPlainRound (write_round seed turn)
  write-plain turn round = (refl, (refl, (refl, (refl, (refl, (refl, (refl, (refl, (refl, (refl, (refl, (refl, (refl, (refl, (refl, (refl, tt))))))))))))))))

  -- The last round is plain.
  last-plain : IsPlainRound last_round
  last-plain round = (refl, (refl, (refl, (refl, tt))))

  -- All rounds are plain.
  all-plain_rounds : (count turn : ℕ) → Every IsPlainRound (flat_map (rounds_at seed) (range_with_len turn count) ++ last_round ∷ [])
  all-plain_rounds zero turn = (last-plain, tt)
  all-plain_rounds (suc count) turn = (write-plain turn, by (turn % 16 == 0) (all-plain_rounds count (turn + 1)))
    where
      by : (b : Bool) → Every IsPlainRound (flat_map (rounds_at seed) (range_with_len (turn + 1) count) ++ last_round ∷ []) → Every IsPlainRound (((if b then upkeep_round turn ∷ [] else []) ++ flat_map (rounds_at seed) (range_with_len (turn + 1) count)) ++ last_round ∷ [])
      by true rest = (upkeep-plain turn, rest)
      by false rest = rest

  -- What is due for plain rounds is plain.
  dues-plain : (round : ℕ) (rounds : List (List Line)) → Every IsPlainRound rounds → Every IsPlainDue (dues_from seed all round rounds)
  dues-plain round [] h = tt
  dues-plain round (lines ∷ rounds) h = every-append IsPlainDue (dues_in (bench_script all) round lines) (dues_from seed all (round + 1) rounds) (h.0 round) (dues-plain (round + 1) rounds h.1)

  -- what is due for the rounds of a generated workload is plain
  pub generated-plain : (count : ℕ) → Every IsPlainDue (dues_from seed all 1 (flat_map (rounds_at seed) (range_with_len 1 count) ++ last_round ∷ []))
  generated-plain count = dues-plain 1 (flat_map (rounds_at seed) (range_with_len 1 count) ++ last_round ∷ []) (all-plain_rounds count 1)

-- ---- all rounds

module _ (seed : ℕ) (all : List (List Line)) (tables : List TableDecl) (entries : List Entry) (stands : Stands entries) where
  -- A write round is read in front of what is due behind it.
  write-then : (round turn l : ℕ) (dues : List Due) (asked : List (ℕ × ℕ)) → 1 ≤ turn → round + 1 ≤ l
      → Onward seed tables entries stands (round + 1) (4 * (round + 1) + 1) (4 * (turn + 1) + 1) l dues asked
      → Onward seed tables entries stands (round + 1) (4 * round + 1) (4 * turn + 1) l (dues_in (bench_script all) round (write_round seed turn) ++ dues) ((turn, 1) ∷ (turn, 2) ∷ (turn, 3) ∷ (turn, 4) ∷ asked)
  write-then round turn l dues asked low far onward =
      let d4 : Onward seed tables entries stands (round + 1) (4 * round + 4) (4 * turn + 4) l (tx_dues seed round turn 4 ++ dues) ((turn, 4) ∷ asked) =
      writes-then seed tables entries stands round turn 4 l dues asked (omega arith) (omega arith) low far
      (λ next out goes. rest-weaker (round + 1) (4 * round + 4 + 1) (4 * turn + 4 + 1) l (omega arith) (omega arith) (omega arith) (omega arith) (onward next out goes)) in
      let d3 : Onward seed tables entries stands (round + 1) (4 * round + 3) (4 * turn + 3) l (tx_dues seed round turn 3 ++ (tx_dues seed round turn 4 ++ dues)) ((turn, 3) ∷ (turn, 4) ∷ asked) =
      writes-then seed tables entries stands round turn 3 l (tx_dues seed round turn 4 ++ dues) ((turn, 4) ∷ asked) (omega arith) (omega arith) low far
      (λ next out goes. rest-weaker (round + 1) (4 * round + 3 + 1) (4 * turn + 3 + 1) l (omega arith) (omega arith) (omega arith) (omega arith) (d4 next out goes)) in
      let d2 : Onward seed tables entries stands (round + 1) (4 * round + 2) (4 * turn + 2) l (tx_dues seed round turn 2 ++ (tx_dues seed round turn 3 ++ (tx_dues seed round turn 4 ++ dues))) ((turn, 2) ∷ (turn, 3) ∷ (turn, 4) ∷ asked) =
      writes-then seed tables entries stands round turn 2 l (tx_dues seed round turn 3 ++ (tx_dues seed round turn 4 ++ dues)) ((turn, 3) ∷ (turn, 4) ∷ asked) (omega arith) (omega arith) low far
      (λ next out goes. rest-weaker (round + 1) (4 * round + 2 + 1) (4 * turn + 2 + 1) l (omega arith) (omega arith) (omega arith) (omega arith) (d3 next out goes)) in
      λ next out goes. writes-then seed tables entries stands round turn 1 l (tx_dues seed round turn 2 ++ (tx_dues seed round turn 3 ++ (tx_dues seed round turn 4 ++ dues))) ((turn, 2) ∷ (turn, 3) ∷ (turn, 4) ∷ asked) (omega arith) (omega arith) low far
      (λ next out goes. rest-weaker (round + 1) (4 * round + 1 + 1) (4 * turn + 1 + 1) l (omega arith) (omega arith) (omega arith) (omega arith) (d2 next out goes))
      next out (subst (λ (ds : List Due). Goes tables next (ds ++ dues) entries) (write-dues seed all round turn) goes)

  -- A round of upkeep is read in front of what is due behind it.
  upkeep-then : (round turn t : ℕ) (dues : List Due) (asked : List (ℕ × ℕ))
      → Onward seed tables entries stands (round + 1) (4 * (round + 1) + 1) t (round + 1) dues asked
      → Onward seed tables entries stands round (4 * (round + 1) + 1) t (round + 1) (dues_in (bench_script all) round (upkeep_round turn) ++ dues) asked
  upkeep-then round turn t dues asked onward next out goes =
      kept-then seed tables entries stands command.Prune tt round t (round + 1) (due round 1 command.Observe ∷ due round 1 command.Observe ∷ due round 1 (command.Compact 0) ∷ freeze_dues round (blocks_at turn) ++ dues) asked (omega arith)
      (kept-then seed tables entries stands command.Observe tt round t (round + 1) (due round 1 command.Observe ∷ due round 1 (command.Compact 0) ∷ freeze_dues round (blocks_at turn) ++ dues) asked (omega arith)
      (kept-then seed tables entries stands command.Observe tt round t (round + 1) (due round 1 (command.Compact 0) ∷ freeze_dues round (blocks_at turn) ++ dues) asked (omega arith)
      (kept-then seed tables entries stands (command.Compact 0) tt round t (round + 1) (freeze_dues round (blocks_at turn) ++ dues) asked (omega arith)
      (blocks-then seed tables entries stands (blocks_at turn) round t (round + 1) dues asked (omega arith)
      (λ afterwards outside going. rest-weaker round (4 * (round + 1) + 1) t (round + 1) (omega arith) (omega arith) (omega arith) (omega arith) (onward afterwards outside going))))))
      next out (subst (λ (ds : List Due). Goes tables next (ds ++ dues) entries) (upkeep-dues seed all round turn) goes)

  -- rounds with the last one behind them
  abbrev pub ends : List (List Line) → List (List Line)
  ends rounds = rounds ++ last_round ∷ []

  -- behind a write round, with upkeep or without
  rounds-then : (upkeep : Bool) (round turn : ℕ) (rounds : List (List Line)) (asked : List (ℕ × ℕ))
      → ((later : ℕ) → Onward seed tables entries stands later (4 * later + 1) (4 * (turn + 1) + 1) later (dues_from seed all later (ends rounds)) asked)
      → Onward seed tables entries stands round (4 * round + 1) (4 * (turn + 1) + 1) round (dues_from seed all round (ends ((if upkeep then upkeep_round turn ∷ [] else []) ++ rounds))) asked
  rounds-then true round turn rounds asked onward next out goes =
      rest-weaker round (4 * round + 1) (4 * (turn + 1) + 1) round (omega arith) (omega arith) (omega arith) (omega arith)
      (upkeep-then round turn (4 * (turn + 1) + 1) (dues_from seed all (round + 1) (ends rounds)) asked (onward (round + 1)) next out goes)
  rounds-then false round turn rounds asked onward next out goes = onward round next out goes

  -- the write rounds, their upkeep and the last round are read as parts, turn by turn
  pub rounds-read : (count round turn : ℕ) → 1 ≤ turn
      → Onward seed tables entries stands round (4 * round + 1) (4 * turn + 1) round (dues_from seed all round (ends (flat_map (rounds_at seed) (range_with_len turn count)))) (turns turn count)
  rounds-read zero round turn low next out goes = last-read seed tables entries stands round (4 * turn + 1) next out goes
  rounds-read (suc count) round turn low next out goes =
      rest-weaker round (4 * round + 1) (4 * turn + 1) round (omega arith) (omega arith) (omega arith) (omega arith)
      (write-then round turn (round + 1) (dues_from seed all (round + 1) (ends ((if turn % 16 == 0 then upkeep_round turn ∷ [] else []) ++ flat_map (rounds_at seed) (range_with_len (turn + 1) count)))) (turns (turn + 1) count) low (omega arith)
      (rounds-then (turn % 16 == 0) (round + 1) turn (flat_map (rounds_at seed) (range_with_len (turn + 1) count)) (turns (turn + 1) count) (λ later. rounds-read count later (turn + 1) (omega arith)))
      next out goes)
