-- A worker's steps that may be silent: which of them may be next is known by where the first of
-- them is.
use Rattle.std.proofs.Common.{◌≡◌, ℕ, ◌+◌, ◌≤◌, Bool, true, false, cond, List, [], ◌∷◌, ◌++◌, length, drop, Option, None, Some, Ok, Err, refl, sym, ap, ◌∙◌, subst, arith, append_assoc, suc, zero, max}
use Rattle.std.specs.Prelude.{if◌then◌else◌}
use Rattle.std.specs.List.{flat_map, range_with_len}
use Rattle.std.proofs.lemmas.List.{map-append}
use Rattle.std.proofs.lemmas.Option.{same_Some}
use Rattle.cell_model.specs.declared.table.TableDecl.{TableDecl}
use Rattle.workload_spec.specs.declared.command.Command.{Command}
use Rattle.workload_spec.specs.declared.command.Command.TheVariants as command
use Rattle.workload_spec.specs.declared.reply.Who.TheVariants.{Worker}
use Rattle.outcome_spec.specs.Entries.{Entry}
use Rattle.outcome_spec.specs.Forms.{Due, dues_to, further, line_count, lines_begun, is_seal_or_gather, next_line, reading, reply_at, scanned_by}
use Rattle.output_read.proofs.Answering.{IsListed}
use Rattle.output_read.proofs.Keys.{absurdly}
use Rattle.output_read.proofs.Walks.{Reading, Late, late, late-less, late-first, late-last, further-assoc, further-self, next-more, either, passed, silenced}

-- what a worker's step is due
abbrev pub step_due : ℕ → ℕ → Command → Due
step_due round worker asked = record { round = round; who = Worker worker; command = asked }

-- the steps behind the first that says this
abbrev pub first_hit : (Command → Bool) → List Command → Option (List Command)
first_hit test [] = None
first_hit test (asked ∷ steps) = if test asked then Some steps else first_hit test steps

-- the steps over a table's blocks, and those over further tables
abbrev pub blocks_of : ℕ × TableDecl → List Command
blocks_of entry = flat_map (λ block. command.Seal entry.0 block ∷ command.Gather entry.0 block ∷ []) (range_with_len 0 entry.1.blocks)

-- the steps over tables: the compaction of each, and those over its blocks
abbrev pub steps_of : List (ℕ × TableDecl) → List Command
steps_of entries = flat_map (λ entry. command.Compact entry.0 ∷ blocks_of entry) entries

-- one reading goes as far as another
abbrev Covers : Reading → Reading → Type 0
Covers a b = further a b ≡ a

-- The further of two readings goes as far as a third where the second does.
covers-more : (a b c : Reading) → Covers b c → Covers (further a b) c
covers-more a b c h = further-assoc a b c ∙ ap (further a) h

-- a reading that fails at no line adds nothing to another
pub no-first : (r : Reading) → further r (Err 0) ≡ r
no-first (Ok entries) = refl
no-first (Err line) = ap Err (let e : max line 0 ≡ line = omega arith in e)

-- one more than so many beyond these
abbrev pub beyond : List (ℕ × TableDecl) → ℕ → ℕ
beyond [] k = suc k
beyond (entry ∷ entries) k = suc (beyond entries k)

-- these are as many as the tables, and one and the number more
pub beyond-is : (entries : List (ℕ × TableDecl)) (k : ℕ) → beyond entries k ≡ length entries + 1 + k
beyond-is [] k = omega arith
beyond-is (entry ∷ entries) k = let e = beyond-is entries k in omega (arith, e)

module _ (tables : List TableDecl) (round worker : ℕ) where
  -- the steps, of a worker in a round
  abbrev pub worker_dues : List Command → List Due
  worker_dues steps = dues_to round (Worker worker) steps

  -- each of these steps seals or gathers a block of a table that is there, and scans nothing
  abbrev pub AreQuiet : List Command → Type 0
  AreQuiet [] = Unit {0}
  AreQuiet (asked ∷ steps) = ((is_seal_or_gather asked ≡ true) × ((words behind : List (List ℕ)) → IsListed tables words behind asked) × (scanned_by true asked ≡ None) × (scanned_by false asked ≡ None)) × AreQuiet steps

  -- What is due of steps in two parts is due of one part after the other.
  dues-append : (a b : List Command) (dues : List Due) → worker_dues (a ++ b) ++ dues ≡ worker_dues a ++ (worker_dues b ++ dues)
  dues-append a b dues =
      ap (λ (ds : List Due). ds ++ dues) (map-append (step_due round worker) a b) ∙ append_assoc (worker_dues a) (worker_dues b) dues

  -- a silent step adds to what is read without it
  covers-next : (asked : Command) (rest : List Due) → is_seal_or_gather asked ≡ true → (earlier : List Entry) (lines : List (List ℕ)) → Covers (reading tables (step_due round worker asked ∷ rest) earlier lines) (reading tables rest earlier lines)
  covers-next asked rest quiet earlier [] =
      ap (λ (r : Reading). further r (reading tables rest earlier [])) (silenced tables (step_due round worker asked) rest earlier quiet)
      ∙ further-self (reading tables rest earlier []) ∙ sym (silenced tables (step_due round worker asked) rest earlier quiet)
  covers-next asked rest quiet earlier (line ∷ behind) =
      let due = step_due round worker asked in
      let here : Reading = elim (reply_at tables earlier due line behind) as (λ o. Reading) [
        | Some entry ↦ reading tables rest (earlier ++ entry ∷ []) (drop (line_count tables entry) (line ∷ behind))
        | None ↦ Err (next_line tables earlier + lines_begun tables earlier due line behind)
      ] in
      let skip = reading tables rest earlier (line ∷ behind) in
      let is : reading tables (due ∷ rest) earlier (line ∷ behind) ≡ further here skip = ap (λ (b : Bool). elim b as (λ x. Reading) [ true ↦ further here skip | false ↦ here ]) quiet in
      ap (λ (r : Reading). further r skip) is ∙ covers-more here skip skip (further-self skip) ∙ sym is

  -- Of three readings the first goes as far as the third where each goes as far as the next.
  covers-trans : (a b c : Reading) → Covers a b → Covers b c → Covers a c
  covers-trans a b c h k = ap (λ (r : Reading). further r c) (sym h) ∙ further-assoc a b c ∙ ap (further a) k ∙ h

  -- and so do all of them up to the first that says something
  covers-hit : (test : Command → Bool) (steps found : List Command) → AreQuiet steps → first_hit test steps ≡ Some found → (rest : List Due) (earlier : List Entry) (lines : List (List ℕ))
      → Covers (reading tables (worker_dues steps ++ rest) earlier lines) (reading tables (worker_dues found ++ rest) earlier lines)
  covers-hit test [] found quiet is rest earlier lines = absurd (absurdly (sym is))
  covers-hit test (asked ∷ steps) found quiet is rest earlier lines = by (test asked) refl (λ h. covers-hit test steps found quiet.1 h rest earlier lines)
    where
      by : (b : Bool) → test asked ≡ b
          → (first_hit test steps ≡ Some found → Covers (reading tables (worker_dues steps ++ rest) earlier lines) (reading tables (worker_dues found ++ rest) earlier lines))
          → Covers (reading tables (worker_dues (asked ∷ steps) ++ rest) earlier lines) (reading tables (worker_dues found ++ rest) earlier lines)
      by true t later =
          let same : steps ≡ found = same_Some steps found (ap (λ (b : Bool). cond b (Some steps) (first_hit test steps)) (sym t) ∙ is) in
          subst (λ (s : List Command). Covers (reading tables (worker_dues (asked ∷ steps) ++ rest) earlier lines) (reading tables (worker_dues s ++ rest) earlier lines)) same
          (covers-next asked (worker_dues steps ++ rest) quiet.0.0 earlier lines)
      by false t later =
          covers-trans (reading tables (worker_dues (asked ∷ steps) ++ rest) earlier lines) (reading tables (worker_dues steps ++ rest) earlier lines) (reading tables (worker_dues found ++ rest) earlier lines)
          (covers-next asked (worker_dues steps ++ rest) quiet.0.0 earlier lines) (later (ap (λ (b : Bool). cond b (Some steps) (first_hit test steps)) (sym t) ∙ is))

  -- ---- the steps that may be next

  module _ (dues : List Due) where
    -- what is due from further tables on
    abbrev pub tail : List (ℕ × TableDecl) → List Due
    tail entries = worker_dues (steps_of entries) ++ dues

    -- what is read from the blocks of the first so many of further tables on
    abbrev pub joined : ℕ → List (ℕ × TableDecl) → List Entry → List (List ℕ) → Reading
    joined zero entries earlier lines = Err 0
    joined (suc n) [] earlier lines = Err 0
    joined (suc n) (entry ∷ entries) earlier lines = further (reading tables (worker_dues (blocks_of entry) ++ tail entries) earlier lines) (joined n entries earlier lines)

    -- what is read from these steps on, or from the blocks of the first so many of further tables
    abbrev pub from_steps : List Command → List (ℕ × TableDecl) → ℕ → List Entry → List (List ℕ) → Reading
    from_steps steps entries n earlier lines = further (reading tables (worker_dues steps ++ tail entries) earlier lines) (joined n entries earlier lines)

    -- what is due from a table on begins with its compaction and the steps over its blocks
    pub tail-first : (entry : ℕ × TableDecl) (entries : List (ℕ × TableDecl)) → tail (entry ∷ entries) ≡ step_due round worker (command.Compact entry.0) ∷ (worker_dues (blocks_of entry) ++ tail entries)
    tail-first entry entries = ap (λ (ds : List Due). step_due round worker (command.Compact entry.0) ∷ ds) (dues-append (blocks_of entry) (steps_of entries) dues)

    -- each of these is quiet
    abbrev pub AllQuiet : List (ℕ × TableDecl) → Type 0
    AllQuiet [] = Unit {0}
    AllQuiet (entry ∷ entries) = AreQuiet (blocks_of entry) × AllQuiet entries

    module _ (earlier : List Entry) where
      -- ---- where no step takes what is there

      module _ (lines : List (List ℕ)) (ends : Reading) (late_ends : Late (next_line tables earlier) ends)
          (over : (steps : List Command) → AreQuiet steps → (rest : List Due) → reading tables (worker_dues steps ++ rest) earlier lines ≡ reading tables rest earlier lines)
          (stops : (table : ℕ) (rest : List Due) → reading tables (step_due round worker (command.Compact table) ∷ rest) earlier lines ≡ Err (next_line tables earlier))
          (end : reading tables dues earlier lines ≡ ends) where
        -- whether the end is among the first so many
        abbrev pub reaches : ℕ → List (ℕ × TableDecl) → Bool
        reaches n [] = true
        reaches zero (entry ∷ entries) = false
        reaches (suc n) (entry ∷ entries) = reaches n entries

        abbrev outcome : Bool → Reading
        outcome b = cond b ends (Err (next_line tables earlier))

        late-outcome : (b : Bool) → Late (next_line tables earlier) (outcome b)
        late-outcome true = late_ends
        late-outcome false = omega arith

        tail-stops : (entry : ℕ × TableDecl) (entries : List (ℕ × TableDecl)) → reading tables (tail (entry ∷ entries)) earlier lines ≡ Err (next_line tables earlier)
        tail-stops entry entries = ap (λ (ds : List Due). reading tables ds earlier lines) (tail-first entry entries) ∙ stops entry.0 (worker_dues (blocks_of entry) ++ tail entries)

        joined-stops : (n : ℕ) (entries : List (ℕ × TableDecl)) → AllQuiet entries → further (reading tables (tail entries) earlier lines) (joined n entries earlier lines) ≡ outcome (reaches n entries)
        joined-stops zero [] quiet = no-first (reading tables dues earlier lines) ∙ end
        joined-stops (suc n) [] quiet = no-first (reading tables dues earlier lines) ∙ end
        joined-stops zero (entry ∷ entries) quiet = no-first (reading tables (tail (entry ∷ entries)) earlier lines) ∙ tail-stops entry entries
        joined-stops (suc n) (entry ∷ entries) quiet =
            let rest = joined-stops n entries quiet.1 in
            ap (λ (r : Reading). further r (joined (suc n) (entry ∷ entries) earlier lines)) (tail-stops entry entries)
            ∙ ap (λ (r : Reading). further (Err (next_line tables earlier)) (further r (joined n entries earlier lines))) (over (blocks_of entry) quiet.0 (tail entries))
            ∙ ap (further (Err (next_line tables earlier))) rest
            ∙ late-first (next_line tables earlier) (outcome (reaches n entries)) (late-outcome (reaches n entries))

        -- the steps are passed over where the end is among those that may be next, and else the
        -- line there fails
        pub steps-stop : (steps : List Command) → AreQuiet steps → (n : ℕ) (entries : List (ℕ × TableDecl)) → AllQuiet entries → from_steps steps entries n earlier lines ≡ outcome (reaches n entries)
        steps-stop steps quiet n entries all =
            ap (λ (r : Reading). further r (joined n entries earlier lines)) (over steps quiet (tail entries)) ∙ joined-stops n entries all

      -- ---- where the line says something

      module _ (line : List ℕ) (behind : List (List ℕ)) (entry : Entry) (says : Command → Bool)
          (found : (asked : Command) → is_seal_or_gather asked ≡ true → says asked ≡ true → reply_at tables earlier (step_due round worker asked) line behind ≡ Some entry)
          (missed : (asked : Command) → ((words others : List (List ℕ)) → IsListed tables words others asked) → says asked ≡ false → reply_at tables earlier (step_due round worker asked) line behind ≡ None)
          (begun : (asked : Command) → scanned_by true asked ≡ None → scanned_by false asked ≡ None → lines_begun tables earlier (step_due round worker asked) line behind ≡ 0) where
        -- the replies before it, with the one that the line is
        abbrev pub further_on : List Entry
        further_on = earlier ++ entry ∷ []

        -- the lines that are left behind the reply
        abbrev pub lines_left : List (List ℕ)
        lines_left = drop (line_count tables entry) (line ∷ behind)

        -- what these dues read behind the reply
        abbrev pub onward : List Due → Reading
        onward ds = reading tables ds further_on lines_left

        -- what these dues read from the line on
        abbrev pub now_read : List Due → Reading
        now_read ds = reading tables ds earlier (line ∷ behind)

        late-onward : (ds : List Due) → Late (next_line tables earlier) (onward ds)
        late-onward ds = late-less (next_line tables earlier) (next_line tables further_on) (onward ds) (let e = next-more tables earlier entry in omega (arith, e)) (late tables ds further_on lines_left)

        abbrev hit_or : Option (List Command) → List Due → Reading
        hit_or o rest = elim o as (λ x. Reading) [ Some steps ↦ further (onward (worker_dues steps ++ rest)) (now_read rest) | None ↦ now_read rest ]

        -- of the steps the first that says it is answered, or none
        pub first-read : (steps : List Command) → AreQuiet steps → (rest : List Due) → now_read (worker_dues steps ++ rest) ≡ hit_or (first_hit says steps) rest
        first-read [] quiet rest = refl
        first-read (asked ∷ steps) quiet rest = by (says asked) refl (first-read steps quiet.1 rest)
          where
            absorbed : (o : Option (List Command)) → first_hit says steps ≡ o → further (onward (worker_dues steps ++ rest)) (hit_or o rest) ≡ further (onward (worker_dues steps ++ rest)) (now_read rest)
            absorbed None is = refl
            absorbed (Some later) is =
                sym (further-assoc (onward (worker_dues steps ++ rest)) (onward (worker_dues later ++ rest)) (now_read rest))
                ∙ ap (λ (r : Reading). further r (now_read rest)) (covers-hit says steps later quiet.1 is rest further_on lines_left)

            by : (b : Bool) → says asked ≡ b → now_read (worker_dues steps ++ rest) ≡ hit_or (first_hit says steps) rest
                → now_read (worker_dues (asked ∷ steps) ++ rest) ≡ hit_or (first_hit says (asked ∷ steps)) rest
            by true t later =
                either tables (step_due round worker asked) (worker_dues steps ++ rest) earlier line behind entry quiet.0.0 (found asked quiet.0.0 t)
                ∙ ap (further (onward (worker_dues steps ++ rest))) later
                ∙ absorbed (first_hit says steps) refl
                ∙ ap (λ (b : Bool). hit_or (cond b (Some steps) (first_hit says steps)) rest) (sym t)
            by false t later =
                passed tables (step_due round worker asked) (worker_dues steps ++ rest) earlier line behind quiet.0.0 (missed asked quiet.0.1 t) (begun asked quiet.0.2 quiet.0.3)
                ∙ later
                ∙ ap (λ (b : Bool). hit_or (cond b (Some steps) (first_hit says steps)) rest) (sym t)

        module _ (end : now_read dues ≡ Err (next_line tables earlier)) where
          -- ---- a line that answers a compaction, and maybe gatherings

          module _ (compacts : (table : ℕ) (rest : List Due) → now_read (step_due round worker (command.Compact table) ∷ rest) ≡ onward rest) where
            abbrev compacted : ℕ → List (ℕ × TableDecl) → Reading
            compacted n [] = Err (next_line tables earlier)
            compacted n (entry ∷ entries) = from_steps (blocks_of entry) entries n further_on lines_left

            tail-on : (e : ℕ × TableDecl) (entries : List (ℕ × TableDecl)) → now_read (tail (e ∷ entries)) ≡ onward (worker_dues (blocks_of e) ++ tail entries)
            tail-on e entries = ap now_read (tail-first e entries) ∙ compacts e.0 (worker_dues (blocks_of e) ++ tail entries)

            after-compact : (e : ℕ × TableDecl) (entries : List (ℕ × TableDecl)) (n : ℕ) → further (onward (worker_dues (blocks_of e) ++ tail entries)) (compacted n entries) ≡ from_steps (blocks_of e) entries (suc n) further_on lines_left
            after-compact e [] n =
                let r = onward (worker_dues (blocks_of e) ++ tail []) in
                late-last (next_line tables earlier) r (late-onward (worker_dues (blocks_of e) ++ tail [])) ∙ sym (no-first r)
            after-compact e (later ∷ entries) n = refl

            hit-covered : (e : ℕ × TableDecl) (entries : List (ℕ × TableDecl)) → AreQuiet (blocks_of e) → (o : Option (List Command)) → first_hit says (blocks_of e) ≡ o
                → further (onward (worker_dues (blocks_of e) ++ tail entries)) (hit_or o (tail entries)) ≡ further (onward (worker_dues (blocks_of e) ++ tail entries)) (now_read (tail entries))
            hit-covered e entries quiet None is = refl
            hit-covered e entries quiet (Some later) is =
                sym (further-assoc (onward (worker_dues (blocks_of e) ++ tail entries)) (onward (worker_dues later ++ tail entries)) (now_read (tail entries)))
                ∙ ap (λ (r : Reading). further r (now_read (tail entries))) (covers-hit says (blocks_of e) later quiet is (tail entries) further_on lines_left)

            joined-on : (n : ℕ) (entries : List (ℕ × TableDecl)) → AllQuiet entries → further (now_read (tail entries)) (joined n entries earlier (line ∷ behind)) ≡ compacted n entries
            joined-on zero [] quiet = no-first (now_read dues) ∙ end
            joined-on (suc n) [] quiet = no-first (now_read dues) ∙ end
            joined-on zero (e ∷ entries) quiet = ap (λ (r : Reading). further r (Err 0)) (tail-on e entries)
            joined-on (suc n) (e ∷ entries) quiet =
                let start = onward (worker_dues (blocks_of e) ++ tail entries) in
                let more = joined n entries earlier (line ∷ behind) in
                ap (λ (r : Reading). further r (joined (suc n) (e ∷ entries) earlier (line ∷ behind))) (tail-on e entries)
                ∙ ap (λ (r : Reading). further start (further r more)) (first-read (blocks_of e) quiet.0 (tail entries))
                ∙ sym (further-assoc start (hit_or (first_hit says (blocks_of e)) (tail entries)) more)
                ∙ ap (λ (r : Reading). further r more) (hit-covered e entries quiet.0 (first_hit says (blocks_of e)) refl)
                ∙ further-assoc start (now_read (tail entries)) more
                ∙ ap (further start) (joined-on n entries quiet.1)
                ∙ after-compact e entries n

            gathered : (steps : List Command) (n : ℕ) (entries : List (ℕ × TableDecl)) → further (onward (worker_dues steps ++ tail entries)) (compacted n entries) ≡ from_steps steps entries (suc n) further_on lines_left
            gathered steps n [] =
                let r = onward (worker_dues steps ++ tail []) in
                late-last (next_line tables earlier) r (late-onward (worker_dues steps ++ tail [])) ∙ sym (no-first r)
            gathered steps n (e ∷ entries) = refl

            -- it answers the first of the steps that says it, or any of the compactions that may be
            -- next
            pub compact-hit : (steps later : List Command) → AreQuiet steps → (n : ℕ) (entries : List (ℕ × TableDecl)) → AllQuiet entries → first_hit says steps ≡ Some later
                → from_steps steps entries n earlier (line ∷ behind) ≡ from_steps later entries (suc n) further_on lines_left
            compact-hit steps later quiet n entries all is =
                let more = joined n entries earlier (line ∷ behind) in
                let r = onward (worker_dues later ++ tail entries) in
                ap (λ (x : Reading). further x more) (first-read steps quiet (tail entries) ∙ ap (λ (o : Option (List Command)). hit_or o (tail entries)) is)
                ∙ further-assoc r (now_read (tail entries)) more
                ∙ ap (further r) (joined-on n entries all)
                ∙ gathered later n entries

            -- or the compactions alone
            pub compact-next : (steps : List Command) → AreQuiet steps → (n : ℕ) (e : ℕ × TableDecl) (entries : List (ℕ × TableDecl)) → AllQuiet (e ∷ entries) → first_hit says steps ≡ None
                → from_steps steps (e ∷ entries) n earlier (line ∷ behind) ≡ from_steps (blocks_of e) entries n further_on lines_left
            compact-next steps quiet n e entries all is =
                ap (λ (x : Reading). further x (joined n (e ∷ entries) earlier (line ∷ behind))) (first-read steps quiet (tail (e ∷ entries)) ∙ ap (λ (o : Option (List Command)). hit_or o (tail (e ∷ entries))) is)
                ∙ joined-on n (e ∷ entries) all

            -- where no compaction is left and no step says it, it fails
            pub compact-none : (steps : List Command) → AreQuiet steps → (n : ℕ) → first_hit says steps ≡ None → from_steps steps [] n earlier (line ∷ behind) ≡ Err (next_line tables earlier)
            compact-none steps quiet n is =
                ap (λ (x : Reading). further x (joined n [] earlier (line ∷ behind))) (first-read steps quiet (tail []) ∙ ap (λ (o : Option (List Command)). hit_or o (tail [])) is)
                ∙ joined-on n [] tt

          -- ---- a line that answers one step

          module _ (stops : (table : ℕ) (rest : List Due) → now_read (step_due round worker (command.Compact table) ∷ rest) ≡ Err (next_line tables earlier)) where
            tail-off : (entries : List (ℕ × TableDecl)) → now_read (tail entries) ≡ Err (next_line tables earlier)
            tail-off [] = end
            tail-off (e ∷ entries) = ap now_read (tail-first e entries) ∙ stops e.0 (worker_dues (blocks_of e) ++ tail entries)

            -- no step over the blocks of these tables says what the line says
            abbrev pub NoneHit : List (ℕ × TableDecl) → Type 0
            NoneHit [] = Unit {0}
            NoneHit (e ∷ entries) = (first_hit says (blocks_of e) ≡ None) × NoneHit entries

            steps-off : (steps : List Command) → AreQuiet steps → (entries : List (ℕ × TableDecl)) → first_hit says steps ≡ None → now_read (worker_dues steps ++ tail entries) ≡ Err (next_line tables earlier)
            steps-off steps quiet entries is = first-read steps quiet (tail entries) ∙ ap (λ (o : Option (List Command)). hit_or o (tail entries)) is ∙ tail-off entries

            steps-on : (steps later : List Command) → AreQuiet steps → (entries : List (ℕ × TableDecl)) → first_hit says steps ≡ Some later → now_read (worker_dues steps ++ tail entries) ≡ onward (worker_dues later ++ tail entries)
            steps-on steps later quiet entries is =
                let r = onward (worker_dues later ++ tail entries) in
                first-read steps quiet (tail entries) ∙ ap (λ (o : Option (List Command)). hit_or o (tail entries)) is
                ∙ ap (further r) (tail-off entries) ∙ late-last (next_line tables earlier) r (late-onward (worker_dues later ++ tail entries))

            joined-off : (n : ℕ) (entries : List (ℕ × TableDecl)) → AllQuiet entries → NoneHit entries → further (Err (next_line tables earlier)) (joined n entries earlier (line ∷ behind)) ≡ Err (next_line tables earlier)
            joined-off zero entries quiet none = no-first (Err (next_line tables earlier))
            joined-off (suc n) [] quiet none = no-first (Err (next_line tables earlier))
            joined-off (suc n) (e ∷ entries) quiet none =
                let line_here : Reading = Err (next_line tables earlier) in
                ap (λ (r : Reading). further line_here (further r (joined n entries earlier (line ∷ behind)))) (steps-off (blocks_of e) quiet.0 entries none.0)
                ∙ sym (further-assoc line_here line_here (joined n entries earlier (line ∷ behind)))
                ∙ ap (λ (r : Reading). further r (joined n entries earlier (line ∷ behind))) (further-self line_here)
                ∙ joined-off n entries quiet.1 none.1

            read-off : (ds : List Due) (n : ℕ) (entries : List (ℕ × TableDecl)) → AllQuiet entries → NoneHit entries → further (onward ds) (joined n entries earlier (line ∷ behind)) ≡ onward ds
            read-off ds n entries quiet none =
                let line_here : Reading = Err (next_line tables earlier) in
                let more = joined n entries earlier (line ∷ behind) in
                ap (λ (r : Reading). further r more) (sym (late-last (next_line tables earlier) (onward ds) (late-onward ds)))
                ∙ further-assoc (onward ds) line_here more ∙ ap (further (onward ds)) (joined-off n entries quiet none) ∙ late-last (next_line tables earlier) (onward ds) (late-onward ds)

            -- it answers one of the steps at hand
            pub one-here : (steps later : List Command) → AreQuiet steps → (n : ℕ) (entries : List (ℕ × TableDecl)) → AllQuiet entries → NoneHit entries → first_hit says steps ≡ Some later
                → from_steps steps entries n earlier (line ∷ behind) ≡ from_steps later entries 0 further_on lines_left
            one-here steps later quiet n entries all none is =
                ap (λ (r : Reading). further r (joined n entries earlier (line ∷ behind))) (steps-on steps later quiet entries is)
                ∙ read-off (worker_dues later ++ tail entries) n entries all none
                ∙ sym (no-first (onward (worker_dues later ++ tail entries)))

            joined-one : (front : List (ℕ × TableDecl)) (e : ℕ × TableDecl) (entries : List (ℕ × TableDecl)) (later : List Command) (k : ℕ) → AllQuiet (front ++ e ∷ entries) → NoneHit front → first_hit says (blocks_of e) ≡ Some later → NoneHit entries
                → further (Err (next_line tables earlier)) (joined (beyond front k) (front ++ e ∷ entries) earlier (line ∷ behind)) ≡ onward (worker_dues later ++ tail entries)
            joined-one [] e entries later k quiet none is rest =
                let line_here : Reading = Err (next_line tables earlier) in
                let r = onward (worker_dues later ++ tail entries) in
                ap (λ (x : Reading). further line_here (further x (joined k entries earlier (line ∷ behind)))) (steps-on (blocks_of e) later quiet.0 entries is)
                ∙ ap (further line_here) (read-off (worker_dues later ++ tail entries) k entries quiet.1 rest)
                ∙ late-first (next_line tables earlier) r (late-onward (worker_dues later ++ tail entries))
            joined-one (first ∷ front) e entries later k quiet none is rest =
                let line_here : Reading = Err (next_line tables earlier) in
                let more = joined (beyond front k) (front ++ e ∷ entries) earlier (line ∷ behind) in
                ap (λ (r : Reading). further line_here (further r more)) (steps-off (blocks_of first) quiet.0 (front ++ e ∷ entries) none.0)
                ∙ sym (further-assoc line_here line_here more)
                ∙ ap (λ (r : Reading). further r more) (further-self line_here)
                ∙ joined-one front e entries later k quiet.1 none.1 is rest

            -- or one of a further table's
            pub one-later : (steps later : List Command) → AreQuiet steps → (front : List (ℕ × TableDecl)) (e : ℕ × TableDecl) (entries : List (ℕ × TableDecl)) (k : ℕ) → AllQuiet (front ++ e ∷ entries)
                → first_hit says steps ≡ None → NoneHit front → first_hit says (blocks_of e) ≡ Some later → NoneHit entries
                → from_steps steps (front ++ e ∷ entries) (beyond front k) earlier (line ∷ behind) ≡ from_steps later entries 0 further_on lines_left
            one-later steps later quiet front e entries k all here none is rest =
                ap (λ (r : Reading). further r (joined (beyond front k) (front ++ e ∷ entries) earlier (line ∷ behind))) (steps-off steps quiet (front ++ e ∷ entries) here)
                ∙ joined-one front e entries later k all none is rest
                ∙ sym (no-first (onward (worker_dues later ++ tail entries)))

            -- none of those that may be next say it
            joined-few : (n : ℕ) (front entries : List (ℕ × TableDecl)) → n ≤ length front → AllQuiet (front ++ entries) → NoneHit front → further (Err (next_line tables earlier)) (joined n (front ++ entries) earlier (line ∷ behind)) ≡ Err (next_line tables earlier)
            joined-few zero front entries few quiet none = no-first (Err (next_line tables earlier))
            joined-few (suc n) [] entries few quiet none = absurd (omega (arith, few))
            joined-few (suc n) (e ∷ front) entries few quiet none =
                let line_here : Reading = Err (next_line tables earlier) in
                let more = joined n (front ++ entries) earlier (line ∷ behind) in
                ap (λ (r : Reading). further line_here (further r more)) (steps-off (blocks_of e) quiet.0 (front ++ entries) none.0)
                ∙ sym (further-assoc line_here line_here more)
                ∙ ap (λ (r : Reading). further r more) (further-self line_here)
                ∙ joined-few n front entries (omega (arith, few)) quiet.1 none.1

            -- a line that no step at hand and none of the reached tables says fails there
            pub one-none : (steps : List Command) → AreQuiet steps → (n : ℕ) (front entries : List (ℕ × TableDecl)) → n ≤ length front → AllQuiet (front ++ entries) → first_hit says steps ≡ None → NoneHit front
                → from_steps steps (front ++ entries) n earlier (line ∷ behind) ≡ Err (next_line tables earlier)
            one-none steps quiet n front entries few all is none =
                ap (λ (r : Reading). further r (joined n (front ++ entries) earlier (line ∷ behind))) (steps-off steps quiet (front ++ entries) is)
                ∙ joined-few n front entries few all none

            -- all of them say nothing
            pub all-none : (steps : List Command) → AreQuiet steps → (n : ℕ) (entries : List (ℕ × TableDecl)) → AllQuiet entries → first_hit says steps ≡ None → NoneHit entries
                → from_steps steps entries n earlier (line ∷ behind) ≡ Err (next_line tables earlier)
            all-none steps quiet n entries all is none =
                ap (λ (r : Reading). further r (joined n entries earlier (line ∷ behind))) (steps-off steps quiet entries is) ∙ joined-off n entries all none
