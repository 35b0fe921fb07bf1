-- The laws of a meaning, from those of the trait.
use Rattle.std.proofs.Common.{◌≡◌, ◌≢◌, ℕ, List, Option, Some, length}
use Rattle.std.specs.Prelude.{◌<◌, ◌^◌, false, slice_get}
use Rattle.hall_rule.specs.Hands.{Agrees, Covers, OnlyHeld}
use Rattle.hall_rule.specs.Heads.{Turns, head_of}
use Rattle.hall_rule.specs.Meaning.{Laws, meaning}
use Rattle.hall_rule.specs.declared.parts.Parts.{Ghosts}

module _ {C P E R S T F : Type 0} (t : Ghosts C P E R S T F) where
  -- What a core's trait says of its events are the laws that a hall needs of their meaning.
  pub laws_of : ((sh : S) (e : E) (s : List P) → t.sound sh s → t.stands sh e s → t.fits sh e s → t.sound sh (t.effect sh e s))
      → ((sh : S) (e : E) (h : List (Option P)) (s : List P) → t.sound sh s → Covers (t.touching sh e) h → Agrees h s → t.stands sh e s → t.fits sh e s → OnlyHeld h s (t.effect sh e s))
      → ((sh : S) (e : E) (s : List P) → t.sound sh s → length (t.effect sh e s) ≡ length s)
      → ((sh : S) (e : E) (h : List (Option P)) (s s' : List P) → t.sound sh s → t.sound sh s' → Covers (t.touching sh e) h → Agrees h s → Agrees h s' → t.stands sh e s → t.fits sh e s → t.fits sh e s')
      → ((sh : S) (e : E) (s s' : List P) → t.sound sh s → t.sound sh s' → ((q : ℕ) → t.names e ≡ Some q → t.transaction sh s' q ≡ t.transaction sh s q) → ((f : F) → t.fact sh f s → t.fact sh f s') → t.stands sh e s → t.stands sh e s')
      → ((sh : S) (e : E) (s : List P) (q : ℕ) → t.sound sh s → t.stands sh e s → t.fits sh e s → t.names e ≢ Some q → t.transaction sh (t.effect sh e s) q ≡ t.transaction sh s q)
      → ((sh : S) (e : E) (f : F) (s : List P) → t.sound sh s → t.stands sh e s → t.fits sh e s → t.fact sh f s → t.fact sh f (t.effect sh e s))
      → ((sh : S) (s : List P) (k : ℕ) (p : P) → t.sound sh s → slice_get s k ≡ Some p → head_of (t.wears p) < 2 ^ 32)
      → ((sh : S) (e : E) (s : List P) (k : ℕ) (p q : P) → t.sound sh s → t.stands sh e s → t.fits sh e s → slice_get s k ≡ Some p → slice_get (t.effect sh e s) k ≡ Some q → Turns (t.thaws sh e ≡ Some k) (head_of (t.wears p)) (head_of (t.wears q)))
      → ((sh : S) (e : E) (s : List P) (k : ℕ) (p q : P) → t.sound sh s → t.stands sh e s → t.fits sh e s → t.turning e ≡ false → slice_get s k ≡ Some p → slice_get (t.effect sh e s) k ≡ Some q → head_of (t.wears q) ≡ head_of (t.wears p))
      → (core : C) (passes : ℕ) → Laws (meaning t core passes)
  laws_of keeps frame room local depends leaves outlives small turns still core passes = record {
    keeps = keeps (t.shape_of core);
    frame = frame (t.shape_of core);
    room = room (t.shape_of core);
    local = local (t.shape_of core);
    depends = depends (t.shape_of core);
    leaves = leaves (t.shape_of core);
    outlives = outlives (t.shape_of core);
    small = small (t.shape_of core);
    turns = turns (t.shape_of core);
    still = still (t.shape_of core);
  }
