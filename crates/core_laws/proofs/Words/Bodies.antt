-- What becomes of a body's word where its phase, its cooling or its stamp changes.
use Rattle.std.proofs.Common.{◌≡◌, ◌⊎◌, ℕ, ◌+◌, ◌*◌, ◌^◌, ◌<◌, Bool, true, false, cond, ◌&&◌, ◌||◌, ◌==◌, refl, sym, ap, ◌∙◌, arith, subst}
use mathlib.Core.Logic.{inl, inr}
use Rattle.block_spec.specs.Bodies.{Body, imaged, imaged_phase, is_imaged, is_loose, last_stamp, observed, sealed, thawed, turns, with_slot}
use Rattle.block_spec.specs.declared.phase.Phase.{Phase}
use Rattle.block_spec.specs.declared.phase.Phase.TheVariants.{Loose, Sealed, Imaged}
use Rattle.block_spec.specs.Slots.{Slot}
use Rattle.core_laws.proofs.Events.Slots.{num, num_refl}
use Rattle.core_laws.proofs.Sound.Held.{stamp_left}
use Rattle.core_laws.specs.Words.Words.{state_of, word_of}
use Rattle.event_spec.specs.declared.part.Part.TheVariants as part
use Rattle.event_spec.specs.Effects.{at_both}
use Rattle.hall_rule.specs.Heads.{IsFrozen, TurnsOn, head_of}

-- the head of the word of a body
abbrev pub head_by : Body → ℕ
head_by x = head_of (word_of (part.Body x))

-- No test both holds and fails.
never : true ≡ false → ⊥
never e = cc

-- ---- a change that leaves a block's freeze

-- phase and stamp stay; and so does whether it is cooling, but a loose body may turn hot
pub record Warms (x y : Body) : Type 0 where
  pub phase : y.phase ≡ x.phase
  pub last : y.last ≡ x.last
  pub cooling : (y.cooling ≡ x.cooling) ⊎ ((is_loose x.phase ≡ true) × (y.cooling ≡ false))

-- a body that stays
pub warms_same : (x : Body) → Warms x x
warms_same x = record { phase = refl; last = refl; cooling = inl refl }

-- one such change after another
pub warms_twice : (x y z : Body) → Warms x y → Warms y z → Warms x z
warms_twice x y z a b = record { phase = b.phase ∙ a.phase; last = b.last ∙ a.last; cooling = go a.cooling b.cooling }
  where
    go : (y.cooling ≡ x.cooling) ⊎ ((is_loose x.phase ≡ true) × (y.cooling ≡ false)) → (z.cooling ≡ y.cooling) ⊎ ((is_loose y.phase ≡ true) × (z.cooling ≡ false))
        → (z.cooling ≡ x.cooling) ⊎ ((is_loose x.phase ≡ true) × (z.cooling ≡ false))
    go (inl e) (inl f) = inl (f ∙ e)
    go (inr e) (inl f) = inr (e.0, f ∙ e.1)
    go p (inr f) = inr (sym (ap is_loose a.phase) ∙ f.0, f.1)

-- a write to a slot of a loose body
pub warms_slot : (j : ℕ) (g : Slot → Slot) (x : Body) → is_loose x.phase ≡ true → Warms x (with_slot j g x)
warms_slot j g x loose = record { phase = refl; last = refl; cooling = inr (loose, refl) }

-- a change where two numbers are the same
pub warms_where : (m n : ℕ) (g : Body → Body) (x : Body) → (m ≡ n → Warms x (g x)) → Warms x (cond (m == n) (g x) x)
warms_where m n g x each = go (m == n) refl
  where
    go : (b : Bool) → (m == n) ≡ b → Warms x (cond (m == n) (g x) x)
    go true e = subst (λ b. Warms x (cond b (g x) x)) (sym e) (each (num m n e))
    go false e = subst (λ b. Warms x (cond b (g x) x)) (sym e) (warms_same x)

-- what a change of one body makes of a body: it is this one, or it stays
pub at_one : (P : Body → Type 0) (t b : ℕ) (g : Body → Body) (u c : ℕ) (x : Body) → (u ≡ t → c ≡ b → P (g x)) → ((u ≡ t → c ≡ b → ⊥) → P x) → P (at_both t b g u c x)
at_one P t b g u c x here else = go (u == t) (c == b) refl refl
  where
    apart : (m n : ℕ) → (m == n) ≡ false → m ≡ n → ⊥
    apart m n e is = never (sym (num_refl n) ∙ sym (ap (λ k. k == n) is) ∙ e)

    go : (m n : Bool) → (u == t) ≡ m → (c == b) ≡ n → P (cond ((u == t) && (c == b)) (g x) x)
    go true true m n = subst (λ e. P (cond (e && (c == b)) (g x) x)) (sym m) (subst (λ e. P (cond e (g x) x)) (sym n) (here (num u t m) (num c b n)))
    go true false m n = subst (λ e. P (cond (e && (c == b)) (g x) x)) (sym m) (subst (λ e. P (cond e (g x) x)) (sym n) (else (λ e f. apart c b n f)))
    go false n' m n = subst (λ e. P (cond (e && (c == b)) (g x) x)) (sym m) (else (λ e f. apart u t m e))

-- ---- the heads

-- A word with this phase, this cooling and this stamp.
abbrev head : Phase → Bool → ℕ → ℕ
head p c n = state_of p c * 2 ^ 30 + n

-- a loose word that may turn hot
warmed : (p : Phase) (c d : Bool) (n m : ℕ) → n < 2 ^ 30 → m ≡ n → (d ≡ c) ⊎ ((is_loose p ≡ true) × (d ≡ false)) → (head p d m ≡ head p c n) ⊎ TurnsOn (head p c n) (head p d m)
warmed p c d n m small same (inl e) = inl (let f = ap (state_of p) e in omega (arith, f, same))
warmed Loose true true n m small same (inr e) = absurd (never e.1)
warmed Loose true false n m small same (inr e) = inr (inr (inl ((omega (arith, small), omega (arith, small)), omega (arith, same))))
warmed Loose false true n m small same (inr e) = absurd (never e.1)
warmed Loose false false n m small same (inr e) = inl (omega (arith, same))
warmed (Sealed g) c d n m small same (inr e) = absurd (never (sym e.0))
warmed (Imaged g) c d n m small same (inr e) = absurd (never (sym e.0))

-- a word after such a change
pub turned_warm : (x y : Body) → x.last < 2 ^ 30 → Warms x y → (head_by y ≡ head_by x) ⊎ TurnsOn (head_by x) (head_by y)
turned_warm x y small w = subst (λ p. (head p y.cooling y.last ≡ head_by x) ⊎ TurnsOn (head_by x) (head p y.cooling y.last)) (sym w.phase) (warmed x.phase x.cooling y.cooling x.last y.last small w.last w.cooling)

-- the word of a body that is observed
pub turned_observed : (first : Bool) (x : Body) → x.last < 2 ^ 30 → (head_by (observed first x) ≡ head_by x) ⊎ TurnsOn (head_by x) (head_by (observed first x))
turned_observed first x small = go x.phase x.cooling (turns first x)
  where
    go : (p : Phase) (c d : Bool) → (head p (c || d) x.last ≡ head p c x.last) ⊎ TurnsOn (head p c x.last) (head p (c || d) x.last)
    go Loose true d = inl refl
    go Loose false true = inr (inl (omega (arith, small), omega arith))
    go Loose false false = inl refl
    go (Sealed g) c d = inl refl
    go (Imaged g) c d = inl refl

-- the word of a body that is sealed
pub turned_sealed : (x : Body) → x.last < 2 ^ 30 → is_loose x.phase ≡ true → x.cooling ≡ true → (x.last == last_stamp) ≡ false → TurnsOn (head_by x) (head_by (sealed x))
turned_sealed x small loose cold left = go x.phase x.cooling loose cold
  where
    go : (p : Phase) (c : Bool) → is_loose p ≡ true → c ≡ true → TurnsOn (head p c x.last) (2 * 2 ^ 30 + (x.last + 1))
    go Loose true l e =
        let next = stamp_left x.last small left in
        inr (inr (inl ((omega (arith, small), omega (arith, small)), omega arith, (omega arith, omega (arith, next)))))
    go Loose false l e = absurd (never (sym e))
    go (Sealed g) c l e = absurd (never (sym l))
    go (Imaged g) c l e = absurd (never (sym l))

-- the word of a body that is handed its image
pub turned_imaged : (x : Body) → x.last < 2 ^ 30 → (head_by (imaged x) ≡ head_by x) ⊎ TurnsOn (head_by x) (head_by (imaged x))
turned_imaged x small = go x.phase x.cooling
  where
    go : (p : Phase) (c : Bool) → (head (imaged_phase p) c x.last ≡ head p c x.last) ⊎ TurnsOn (head p c x.last) (head (imaged_phase p) c x.last)
    go Loose c = inl refl
    go (Sealed g) c = inr (inr (inr (inr ((omega (arith, small), omega (arith, small)), omega arith))))
    go (Imaged g) c = inl refl

-- the word of a body that is thawed
pub turned_thawed : (x : Body) → x.last < 2 ^ 30 → is_imaged x.phase ≡ true → IsFrozen (head_by x) × (head_by (thawed x) + 3 * 2 ^ 30 ≡ head_by x)
turned_thawed x small image = go x.phase x.cooling image
  where
    go : (p : Phase) (c : Bool) → is_imaged p ≡ true → IsFrozen (head p c x.last) × (0 * 2 ^ 30 + x.last + 3 * 2 ^ 30 ≡ head p c x.last)
    go Loose c i = absurd (never (sym i))
    go (Sealed g) c i = absurd (never (sym i))
    go (Imaged g) c i = ((omega (arith, small), omega (arith, small)), omega arith)

-- a body's word has room for its stamp
pub has_room : (x : Body) → x.last < 2 ^ 30 → head_by x < 2 ^ 32
has_room x small = go x.phase x.cooling
  where
    go : (p : Phase) (c : Bool) → head p c x.last < 2 ^ 32
    go Loose true = omega (arith, small)
    go Loose false = omega (arith, small)
    go (Sealed g) c = omega (arith, small)
    go (Imaged g) c = omega (arith, small)

-- a body's word is frozen where the body is imaged
pub frozen_where : (x : Body) → x.last < 2 ^ 30 → is_imaged x.phase ≡ true → IsFrozen (head_by x)
frozen_where x small image = (turned_thawed x small image).0

-- and nowhere else
pub imaged_where : (x : Body) → x.last < 2 ^ 30 → IsFrozen (head_by x) → is_imaged x.phase ≡ true
imaged_where x small frozen = go x.phase x.cooling frozen
  where
    go : (p : Phase) (c : Bool) → IsFrozen (head p c x.last) → is_imaged p ≡ true
    go Loose true f = let low = f.0 in absurd (omega (arith, small, low))
    go Loose false f = let low = f.0 in absurd (omega (arith, small, low))
    go (Sealed g) c f = let low = f.0 in absurd (omega (arith, small, low))
    go (Imaged g) c f = refl

-- the word of an imaged body has its stamp
pub imaged_head : (x : Body) (g : ℕ) → x.phase ≡ Imaged g → g ≡ x.last → head_by x ≡ 3 * 2 ^ 30 + g
imaged_head x g is last = ap (λ p. head p x.cooling x.last) is ∙ ap (λ n. 3 * 2 ^ 30 + n) (sym last)
