-- What is known of the replies of an explained output of a generated workload that was refused no
-- memory.
use Rattle.std.proofs.Common.{◌≡◌, ℕ, Bool, true, false, ◌&&◌, List, [], ◌∷◌, ◌++◌, map, Ok, refl, ap, subst, arith}
use Rattle.std.specs.Prelude.{unwrap_or}
use Rattle.std.specs.Result.{result_ok}
use Rattle.std.proofs.lemmas.Bool.{or_parts}
use Rattle.cell_model.specs.declared.table.TableDecl.{TableDecl}
use Rattle.outcome_spec.specs.Entries.{Entry}
use Rattle.outcome_spec.specs.Explained.{Explained, replies_of, are_sound, is_sound}
use Rattle.outcome_spec.specs.Runs.{Run, run_of}
use Rattle.outcome_spec.specs.Numbers.{commit_numbers_hold, snapshot_numbers_hold}
use Rattle.outcome_spec.specs.Answers.{reads_hold, writes_hold}
use Rattle.outcome_spec.specs.Conflicts.{conflicts_hold}
use Rattle.outcome_spec.specs.Upkeep.{freezing_holds, full_holds, exports_hold, upkeep_holds}
use Rattle.outcome_spec.specs.Stale.{reads_last}
use Rattle.order_laws.specs.Places.{Rises}
use Rattle.order_laws.proofs.Dues.{dues-rise}
use Rattle.order_laws.proofs.Walk.{read-rise}
use Rattle.outcome_spec.specs.Lines.{lines_of}
use Rattle.outcome_spec.specs.Forms.{dues_of}
use Rattle.bench_spec.specs.Counted.{is_refused, was_refused}
use Rattle.bench_spec.specs.Generated.{bench_table, generated}
use Rattle.bench_laws.proofs.Every.{Every, Has, every-append, all-has}
use Rattle.bench_laws.proofs.Replies.{IsScanReply, IsExportReply}
use Rattle.bench_laws.proofs.Parts.{Part, Last, Good, InTurn, Under, wrotes, turn_of, turns, entries_in, entries_of, last_entries}
use Rattle.bench_laws.proofs.Rounds.{generated-plain, rounds-read}
use Rattle.bench_laws.proofs.Plain.{all-plain, all-stand}

-- the one table of the workload
abbrev pub tables : List TableDecl
tables = bench_table ∷ []

pub record Told (seed size : ℕ) (replies : List Entry) : Type 0 where
  pub parts : List Part
  pub last : Last
  pub whole : replies ≡ entries_in parts ++ last_entries last
  pub good : Every (Good seed) parts
  pub in_turn : InTurn parts
  pub under : Every (Under last.round) parts
  pub asked_are : map turn_of (wrotes parts) ≡ turns 1 size
  pub scan_fits : IsScanReply last.scan_said
  pub export_fits : IsExportReply last.export_said
  pub rises : Rises replies
  pub sound : are_sound (run_of tables replies) ≡ true
  pub unrefused : Every (λ e. is_refused e.reply.said ≡ false) replies

-- Where an output was refused no memory, no single reply of it was.
none-refused : (replies : List Entry) → was_refused replies ≡ false → Every (λ e. is_refused e.reply.said ≡ false) replies
none-refused [] h = tt
none-refused (e ∷ replies) h =
    let parts = or_parts (is_refused e.reply.said) (was_refused replies) h in
    (parts.0, none-refused replies parts.1)

-- What is known of them.
pub told-of : (seed size : ℕ) (text : List ℕ) (replies : List Entry) → Explained (generated seed size) text → replies_of (generated seed size) text ≡ Ok replies → was_refused replies ≡ false → Told seed size replies
told-of seed size text replies explained read unrefused =
    let sound : are_sound (run_of tables replies) ≡ true = subst (λ (es : List Entry). are_sound (run_of tables es) ≡ true) (ap (λ o. unwrap_or (result_ok o) []) read) explained.replies in
    let plain = all-plain tables (dues_of (generated seed size)) replies (generated-plain seed (generated seed size).rounds size) (lines_of text, read) in
    let r = rounds-read seed (generated seed size).rounds tables replies (all-stand tables replies plain sound) size 1 1 (omega arith) [] (λ session. refl) (lines_of text, read) in
    record {
      parts = r.parts;
      last = r.last;
      whole = r.whole;
      good = r.good;
      in_turn = r.in_turn;
      under = r.under;
      asked_are = r.asked_are;
      scan_fits = r.scan_fits;
      export_fits = r.export_fits;
      rises = read-rise tables (dues_of (generated seed size)) (lines_of text) replies (dues-rise (generated seed size)) read;
      sound = sound;
      unrefused = none-refused replies unrefused;
    }

-- ---- each reply is sound

pub record Sound (run : Run) (e : Entry) : Type 0 where
  pub commits : commit_numbers_hold run e ≡ true
  pub snapshots : snapshot_numbers_hold run e ≡ true
  pub reads : reads_hold run e ≡ true
  pub writes : writes_hold run e ≡ true
  pub conflicts : conflicts_hold run e ≡ true
  pub freezes : freezing_holds run e ≡ true
  pub full : full_holds run e ≡ true
  pub exports : exports_hold run e ≡ true
  pub upkeep : upkeep_holds run e ≡ true

-- The first nine parts of a conjunction that is true.
nine : (a b c d e f g h i j : Bool) → (a && b && c && d && e && f && g && h && i && j) ≡ true
    → (a ≡ true) × (b ≡ true) × (c ≡ true) × (d ≡ true) × (e ≡ true) × (f ≡ true) × (g ≡ true) × (h ≡ true) × (i ≡ true)
nine true true true true true true true true true j h = (refl, refl, refl, refl, refl, refl, refl, refl, refl)
nine false b c d e f g h i j k = absurd (let never : ⊥ = cc in never)
nine true false c d e f g h i j k = absurd (let never : ⊥ = cc in never)
nine true true false d e f g h i j k = absurd (let never : ⊥ = cc in never)
nine true true true false e f g h i j k = absurd (let never : ⊥ = cc in never)
nine true true true true false f g h i j k = absurd (let never : ⊥ = cc in never)
nine true true true true true false g h i j k = absurd (let never : ⊥ = cc in never)
nine true true true true true true false h i j k = absurd (let never : ⊥ = cc in never)
nine true true true true true true true false i j k = absurd (let never : ⊥ = cc in never)
nine true true true true true true true true false j k = absurd (let never : ⊥ = cc in never)

-- each of the replies is sound
pub sound-at : (seed size : ℕ) (replies : List Entry) (told : Told seed size replies) (e : Entry) → Has e replies → Sound (run_of tables replies) e
sound-at seed size replies told e has =
    let run = run_of tables replies in
    let all = nine (commit_numbers_hold run e) (snapshot_numbers_hold run e) (reads_hold run e) (writes_hold run e) (conflicts_hold run e) (freezing_holds run e) (full_holds run e) (exports_hold run e) (upkeep_holds run e) (reads_last run e)
    (all-has (is_sound run) replies e told.sound has) in
    record { commits = all.0; snapshots = all.1; reads = all.2; writes = all.3; conflicts = all.4; freezes = all.5; full = all.6; exports = all.7; upkeep = all.8 }

-- what holds of the replies of each part and of the last round holds of each
pub every-reply : (seed : ℕ) (P : Entry → Type 0) → ((part : Part) → Good seed part → Every P (entries_of part)) → (parts : List Part) → Every (Good seed) parts → Every P (entries_in parts)
every-reply seed P each [] good = tt
every-reply seed P each (part ∷ parts) good = every-append P (entries_of part) (entries_in parts) (each part good.0) (every-reply seed P each parts good.1)
