-- What a hall knows of the core that it was built of, as plain data.
use Rattle.std.specs.Prelude.{◌≡◌, ◌≢◌, ℕ, ◌<◌, ◌^◌, Bool, List, Option, Some, false, length}
use Rattle.std.specs.Prelude.{slice_get}
use Rattle.hall_rule.specs.Hands.{Agrees, Covers, OnlyHeld}
use Rattle.hall_rule.specs.Heads.{Turns, head_of}
use Rattle.hall_rule.specs.declared.parts.Parts.{Ghosts}
use Rattle.hall_rule.specs.declared.rule.Plan.{Plan}

-- The parts at the start, and what events mean, over parts P, events E, transactions T and lasting
-- facts F.
pub record Meaning (P E T F : Type 0) : Type 1 where
  pub start : List P
  pub sound : List P → Type 0
  pub touching : E → List (Option P) → ℕ → Bool
  pub names : E → Option ℕ
  pub stands : E → List P → Type 0
  pub fits : E → List P → Type 0
  pub effect : E → List P → List P
  pub takes_memory : E → Bool
  pub transaction : List P → ℕ → Option T
  pub fact : F → List P → Type 0
  -- the head that the word of a part follows, the part that an event thaws, and whether an event
  -- may turn a word
  pub head : P → ℕ
  pub thaws : E → Option ℕ
  pub turning : E → Bool
  -- for how many passes the hall was made
  pub passes : ℕ

-- What a core means to a hall that is made for a number of passes.
abbrev pub meaning : {C P E R S T F : Type 0} → Ghosts C P E R S T F → C → ℕ → Meaning P E T F
meaning core_type core passes = let shape = core_type.shape_of core in record {
  start = core_type.state_of core;
  sound = core_type.sound shape;
  touching = core_type.touching shape;
  names = core_type.names;
  stands = core_type.stands shape;
  fits = core_type.fits shape;
  effect = core_type.effect shape;
  takes_memory = core_type.takes_memory;
  transaction = core_type.transaction shape;
  fact = core_type.fact shape;
  head = λ part. head_of (core_type.wears part);
  thaws = core_type.thaws shape;
  turning = core_type.turning;
  passes = passes;
}

-- The same of what a hall was built of.
abbrev pub planned : {C P E R S T F : Type 0} → Ghosts C P E R S T F → Plan C → Meaning P E T F
planned core_type plan = meaning core_type plan.core.value plan.passes

-- The laws that the trait's laws give.
pub record Laws {P E T F : Type 0} (M : Meaning P E T F) : Type 0 where
  pub keeps : (e : E) (s : List P) → M.sound s → M.stands e s → M.fits e s → M.sound (M.effect e s)
  pub frame : (e : E) (h : List (Option P)) (s : List P) → M.sound s → Covers (M.touching e) h
      → Agrees h s → M.stands e s → M.fits e s → OnlyHeld h s (M.effect e s)
  pub room : (e : E) (s : List P) → M.sound s → length (M.effect e s) ≡ length s
  pub local : (e : E) (h : List (Option P)) (s t : List P) → M.sound s → M.sound t
      → Covers (M.touching e) h → Agrees h s → Agrees h t → M.stands e s → M.fits e s → M.fits e t
  pub depends : (e : E) (s t : List P) → M.sound s → M.sound t
      → ((q : ℕ) → M.names e ≡ Some q → M.transaction t q ≡ M.transaction s q)
      → ((f : F) → M.fact f s → M.fact f t) → M.stands e s → M.stands e t
  pub leaves : (e : E) (s : List P) (q : ℕ) → M.sound s → M.stands e s → M.fits e s → M.names e
      ≢ Some q → M.transaction (M.effect e s) q ≡ M.transaction s q
  pub outlives : (e : E) (f : F) (s : List P) → M.sound s → M.stands e s → M.fits e s → M.fact f s
      → M.fact f (M.effect e s)
  pub small : (s : List P) (k : ℕ) (p : P) → M.sound s → slice_get s k ≡ Some p → M.head p < 2 ^ 32
  pub turns : (e : E) (s : List P) (k : ℕ) (p q : P) → M.sound s → M.stands e s → M.fits e s
      → slice_get s k ≡ Some p → slice_get (M.effect e s) k ≡ Some q
      → Turns (M.thaws e ≡ Some k) (M.head p) (M.head q)
  pub still : (e : E) (s : List P) (k : ℕ) (p q : P) → M.sound s → M.stands e s → M.fits e s
      → M.turning e ≡ false → slice_get s k ≡ Some p → slice_get (M.effect e s) k ≡ Some q
      → M.head q ≡ M.head p
