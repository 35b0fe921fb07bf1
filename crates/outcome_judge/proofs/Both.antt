-- The conditions of a sound reply, taken together.
use Rattle.std.proofs.Common.{◌≡◌, Bool, true, false, ◌&&◌, refl, sym, ap}
use Rattle.outcome_spec.specs.Answers.{reads_hold, writes_hold}
use Rattle.outcome_spec.specs.Conflicts.{conflicts_hold}
use Rattle.outcome_spec.specs.Entries.{Entry}
use Rattle.outcome_spec.specs.Explained.{is_sound}
use Rattle.outcome_spec.specs.Numbers.{commit_numbers_hold, snapshot_numbers_hold}
use Rattle.outcome_spec.specs.Runs.{Run}
use Rattle.outcome_spec.specs.Stale.{reads_last}
use Rattle.outcome_spec.specs.Upkeep.{exports_hold, freezing_holds, full_holds, upkeep_holds}
use Rattle.outcome_judge.specs.Judged.{accesses_hold, conflicts_and_views_hold, counts_hold, views_hold}

-- false is not true
pub never : false ≡ true → ⊥
never h = let n : ⊥ = cc in n

-- ---- the conditions by counts, one after the other

-- where the first condition fails, not all hold
pub first-fails : (a b c d e : Bool) → false ≡ a → false ≡ (a && b && c && d && e)
first-fails false b c d e h = refl
first-fails true b c d e h = absurd (never h)

-- where the second condition fails, behind one that holds, not all hold
pub second-fails : (a b c d e : Bool) → true ≡ a → false ≡ b → false ≡ (a && b && c && d && e)
second-fails true false c d e g h = refl
second-fails true true c d e g h = absurd (never h)
second-fails false b c d e g h = absurd (never (sym g))

-- where the third condition fails, behind those that hold, not all hold
pub third-fails : (a b c d e : Bool) → true ≡ a → true ≡ b → false ≡ c → false ≡ (a && b && c && d && e)
third-fails true true false d e f g h = refl
third-fails true true true d e f g h = absurd (never h)
third-fails true false c d e f g h = absurd (never (sym g))
third-fails false b c d e f g h = absurd (never (sym f))

-- where the fourth condition fails, behind those that hold, not all hold
pub fourth-fails : (a b c d e : Bool) → true ≡ a → true ≡ b → true ≡ c → false ≡ d → false ≡ (a && b && c && d && e)
fourth-fails true true true false e k f g h = refl
fourth-fails true true true true e k f g h = absurd (never h)
fourth-fails true true false d e k f g h = absurd (never (sym g))
fourth-fails true false c d e k f g h = absurd (never (sym f))
fourth-fails false b c d e k f g h = absurd (never (sym k))

-- where the first four conditions hold, all hold exactly where the last does
pub last-is : (a b c d e v : Bool) → true ≡ a → true ≡ b → true ≡ c → true ≡ d → v ≡ e → v ≡ (a && b && c && d && e)
last-is true true true true e v j k f g h = h
last-is true true true false e v j k f g h = absurd (never (sym g))
last-is true true false d e v j k f g h = absurd (never (sym f))
last-is true false c d e v j k f g h = absurd (never (sym k))
last-is false b c d e v j k f g h = absurd (never (sym j))

-- ---- the conditions by views, in two parts

-- The condition of exports in front of those of reads and writes holds as behind them.
exports-first : (r w x : Bool) → (x && (r && w)) ≡ (r && w && x)
exports-first false w false = refl
exports-first false w true = refl
exports-first true false false = refl
exports-first true false true = refl
exports-first true true false = refl
exports-first true true true = refl

-- the conditions by views are those of exports, and those of reads and writes
pub views-in-parts : (run : Run) (entry : Entry) → (exports_hold run entry && accesses_hold run entry) ≡ views_hold run entry
views-in-parts run entry = exports-first (reads_hold run entry) (writes_hold run entry) (exports_hold run entry)

-- where the first of two fails, they do not both hold
pub fails-first : (a b : Bool) → false ≡ a → false ≡ (a && b)
fails-first false b h = refl
fails-first true b h = absurd (never h)

-- where the first of two holds, both do exactly where the last does
pub is-last : (a b v : Bool) → true ≡ a → v ≡ b → v ≡ (a && b)
is-last true b v g h = h
is-last false b v g h = absurd (never (sym g))

-- ---- five in turn

-- five that hold in turn hold however they are paired
pub five-in-turn : (a b c d e : Bool) → (a && ((b && c) && (d && e))) ≡ (((a && b) && d) && (c && e))
five-in-turn false b c d e = refl
five-in-turn true false c d e = refl
five-in-turn true true false false e = refl
five-in-turn true true false true e = refl
five-in-turn true true true d e = refl

-- ---- all of them, in the order of the three parts and in that of the definition

-- The ten conditions, taken together in another order.
in-order : (a f u p k l r w x : Bool) → ((((a && f) && u) && p) && ((k && l) && ((r && w) && x))) ≡ ((((((((a && r) && w) && k) && f) && u) && x) && p) && l)
in-order false f u p k l r w x = refl
in-order true f u p k l r w x = by f u p k l r w x
  where
    no : (b : Bool) → (b && false) ≡ false
    no true = refl
    no false = refl

    by : (f u p k l r w x : Bool) → (((f && u) && p) && ((k && l) && ((r && w) && x))) ≡ (((((((r && w) && k) && f) && u) && x) && p) && l)
    by false u p k l r w x = sym (ap (λ (b : Bool). ((((b && u) && x) && p) && l)) (no ((r && w) && k)))
    by true false p k l r w x = sym (ap (λ (b : Bool). (((b && x) && p) && l)) (no (((r && w) && k) && true)))
    by true true false k l r w x = sym (ap (λ (b : Bool). b && l) (no (((((r && w) && k) && true) && true) && x)))
    by true true true false l r w x = sym (ap (λ (b : Bool). (((((b && true) && true) && x) && true) && l)) (no (r && w)))
    by true true true true false r w x = sym (no (((((((r && w) && true) && true) && true) && x) && true)))
    by true true true true true false w x = refl
    by true true true true true true false x = refl
    by true true true true true true true false = refl
    by true true true true true true true true = refl

-- a reply is sound exactly where the conditions of the three parts hold
pub sound-in-order : (run : Run) (entry : Entry) → (counts_hold run entry && conflicts_and_views_hold run entry) ≡ is_sound run entry
sound-in-order run entry =
    in-order (commit_numbers_hold run entry && snapshot_numbers_hold run entry) (freezing_holds run entry) (full_holds run entry) (upkeep_holds run entry) (conflicts_hold run entry) (reads_last run entry)
    (reads_hold run entry) (writes_hold run entry) (exports_hold run entry)
