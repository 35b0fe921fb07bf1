-- What holds of a body after each change of it.
use Rattle.std.proofs.Common.{◌≡◌, ◌≢◌, ℕ, ◌+◌, ◌-◌, ◌<◌, ◌^◌, Bool, true, false, cond, not, ◌&&◌, ◌||◌, ◌==◌, map, Option, None, Some, min, refl, sym, ap, ◌∙◌, arith}
use Rattle.std.specs.Prelude.{All}
use Rattle.std.proofs.lemmas.Bool.Decides.{nat_tests}
use Rattle.std.proofs.lemmas.List.{length-set, length-map}
use Rattle.std.proofs.lemmas.List.Elements.{All-set}
use Rattle.std.proofs.lemmas.Bool.{and_parts}
use Rattle.block_spec.specs.Bodies.{Body, has_row, imaged, imaged_phase, is_front, is_loose, is_quiet, last_stamp, modified, observed, seal_fault, sealed, slot_in, thawed, turns, with_slot}
use Rattle.block_spec.specs.declared.phase.Phase.{Phase}
use Rattle.block_spec.specs.declared.phase.Phase.TheVariants.{Loose, Sealed, Imaged}
use Rattle.block_spec.specs.declared.phase.SealFault.{SealFault}
use Rattle.block_spec.specs.declared.phase.SealFault.TheVariants as fault
use Rattle.block_spec.specs.Slots.{Slot, has_none}
use Rattle.event_spec.specs.Parts.{Shape}
use Rattle.event_spec.specs.Replay.{columns_in}
use Rattle.event_spec.specs.SlotSound.{VersionsFit}
use Rattle.event_spec.specs.Sound.{BodyHolds}
use Rattle.core_laws.proofs.Sound.Bodies.{true_false, map_dense, map_quiet, map_row}

-- all versions of the slot's row fit the table's columns
abbrev pub SlotFits : Shape → ℕ → Slot → Type 0
SlotFits sh t slot = VersionsFit (columns_in sh t) slot.row slot.entries

-- the reasons against a seal, one after another
abbrev judged : Bool → Bool → Bool → Bool → Bool → Bool → Bool → Option SealFault
judged loose head row front quiet cooling last =
    cond (not loose) (Some fault.Phase) (cond head (Some fault.Head) (cond (not row) (Some fault.Empty) (cond (not front) (Some fault.Gaps)
    (cond (not quiet) (Some fault.Versions) (cond (not cooling) (Some fault.Hot) (cond last (Some fault.Last) None))))))

-- nothing is against it
pub record IsFine (l h r f q c e : Bool) : Type 0 where
  pub phase : l ≡ true
  pub other : h ≡ false
  pub row : r ≡ true
  pub front : f ≡ true
  pub quiet : q ≡ true
  pub cold : c ≡ true
  pub stamp : e ≡ false

-- behind a stamp that is not the last there is one more
pub stamp_left : (n : ℕ) → n < 2 ^ 30 → (n == last_stamp) ≡ false → n + 1 < 2 ^ 30
stamp_left n less ne = let apart : n ≢ 2 ^ 30 - 1 = differ n (2 ^ 30 - 1) ne in below n less apart
  where
    differ : (a b : ℕ) → (a == b) ≡ false → a ≢ b
    differ a b ne e = absurd (grind (arith, nat_tests))

    below : (n : ℕ) → n < 2 ^ 30 → n ≢ 2 ^ 30 - 1 → n + 1 < 2 ^ 30
    below n less ne = omega (arith, less, ne)

-- where no reason is found against a seal, each of them is absent
pub none_by : (loose head row front quiet cooling last : Bool) → judged loose head row front quiet cooling last ≡ None → IsFine loose head row front quiet cooling last
none_by false head row front quiet cooling last n = cc
none_by true true row front quiet cooling last n = cc
none_by true false false front quiet cooling last n = cc
none_by true false true false quiet cooling last n = cc
none_by true false true true false cooling last n = cc
none_by true false true true true false last n = cc
none_by true false true true true true true n = cc
none_by true false true true true true false n = record { phase = refl; other = refl; row = refl; front = refl; quiet = refl; cold = refl; stamp = refl }

module _ (sh : Shape) (t : ℕ) (x : Body) (old : BodyHolds sh t x) where
  -- one slot is changed, and the body is loose
  pub slot_holds : (j : ℕ) (g : Slot → Slot) → is_loose x.phase ≡ true → SlotFits sh t (g (slot_in x j)) → BodyHolds sh t (with_slot j g x)
  slot_holds j g loose fit = record {
    columns = old.columns;
    slots = length-set x.slots j (g (slot_in x j)) ∙ old.slots;
    versions = All-set (SlotFits sh t) x.slots j (g (slot_in x j)) fit old.versions;
    cooling = λ is. absurd (true_false (sym is));
    rested = λ is. absurd (true_false (sym is));
    quiet = λ l. absurd (true_false (sym loose ∙ l));
    dense = λ l. absurd (true_false (sym loose ∙ l));
    sealed = old.sealed;
    imaged = old.imaged;
    rounds = omega arith;
    last = old.last;
  }

  -- each slot is changed, no row and no emptiness of a chain
  pub map_holds : (f : Slot → Slot) → ((slot : Slot) → (f slot).row ≡ slot.row) → ((slot : Slot) → has_none slot.entries ≡ true → has_none (f slot).entries ≡ true)
      → All (SlotFits sh t) (map f x.slots) → BodyHolds sh t (record x { slots = map f x.slots })
  map_holds f row none fit = record {
    columns = old.columns;
    slots = length-map x.slots f ∙ old.slots;
    versions = fit;
    cooling = λ is. map_row f row x.slots ∙ old.cooling is;
    rested = old.rested;
    quiet = λ l. map_quiet f none x.slots (old.quiet l);
    dense = λ l. map_dense f row x ∙ old.dense l;
    sealed = old.sealed;
    imaged = old.imaged;
    rounds = old.rounds;
    last = old.last;
  }

  -- each slot is changed, and the body is loose
  pub modified_holds : (f : Slot → Slot) → is_loose x.phase ≡ true → All (SlotFits sh t) (map f x.slots) → BodyHolds sh t (record (modified x) { slots = map f x.slots })
  modified_holds f loose fit = record {
    columns = old.columns;
    slots = length-map x.slots f ∙ old.slots;
    versions = fit;
    cooling = λ is. absurd (true_false (sym is));
    rested = λ is. absurd (true_false (sym is));
    quiet = λ l. absurd (true_false (sym loose ∙ l));
    dense = λ l. absurd (true_false (sym loose ∙ l));
    sealed = old.sealed;
    imaged = old.imaged;
    rounds = omega arith;
    last = old.last;
  }

  -- an observe keeps what holds of a body
  pub observed_holds : (head : Bool) → BodyHolds sh t (observed head x)
  observed_holds head = record {
    columns = old.columns;
    slots = old.slots;
    versions = old.versions;
    cooling = λ is. go x.cooling refl is;
    rested = λ is. rest x.cooling refl is;
    quiet = old.quiet;
    dense = old.dense;
    sealed = old.sealed;
    imaged = old.imaged;
    rounds = omega arith;
    last = old.last;
  }
    where
      go : (b : Bool) → x.cooling ≡ b → (x.cooling || turns head x) ≡ true → has_row x ≡ true
      go true c is = old.cooling c
      go false c is =
          let turns' : turns head x ≡ true = sym (ap (λ b. b || turns head x) c) ∙ is in
          (and_parts (is_loose x.phase && not x.cooling && not head) (has_row x)
          (and_parts (is_loose x.phase && not x.cooling && not head && has_row x) (min (x.rounds + 1) 2 == 2) turns').0).1

      is_two : (n : ℕ) → (n == 2) ≡ true → n ≡ 2
      is_two n e = grind (arith, nat_tests)

      rest : (b : Bool) → x.cooling ≡ b → (x.cooling || turns head x) ≡ true → min (x.rounds + 1) 2 ≡ 2
      rest true c is = let two = old.rested c in omega (arith, two)
      rest false c is =
          let turns' : turns head x ≡ true = sym (ap (λ b. b || turns head x) c) ∙ is in
          is_two (min (x.rounds + 1) 2) (and_parts (is_loose x.phase && not x.cooling && not head && has_row x) (min (x.rounds + 1) 2 == 2) turns').1

  -- a thaw keeps what holds of a body
  pub thawed_holds : BodyHolds sh t (thawed x)
  thawed_holds = record {
    columns = old.columns;
    slots = old.slots;
    versions = old.versions;
    cooling = λ is. absurd (true_false (sym is));
    rested = λ is. absurd (true_false (sym is));
    quiet = λ l. absurd (true_false l);
    dense = λ l. absurd (true_false l);
    sealed = λ stamp is. cc;
    imaged = λ stamp is. cc;
    rounds = old.rounds;
    last = old.last;
  }

  -- an image that is laid keeps what holds of a body
  pub imaged_holds : BodyHolds sh t (imaged x)
  imaged_holds = record {
    columns = old.columns;
    slots = old.slots;
    versions = old.versions;
    cooling = old.cooling;
    rested = old.rested;
    quiet = λ l. old.quiet (same x.phase refl l);
    dense = λ l. old.dense (same x.phase refl l);
    sealed = λ stamp is. sealed' x.phase refl stamp is;
    imaged = λ stamp is. imaged' x.phase refl stamp is;
    rounds = old.rounds;
    last = old.last;
  }
    where
      same : (phase : Phase) → x.phase ≡ phase → is_loose (imaged_phase x.phase) ≡ false → is_loose x.phase ≡ false
      same Loose is l = sym (ap (λ p. is_loose (imaged_phase p)) is ∙ sym (ap is_loose is)) ∙ l
      same (Sealed g) is l = ap is_loose is
      same (Imaged g) is l = ap is_loose is

      sealed' : (phase : Phase) → x.phase ≡ phase → (stamp : ℕ) → imaged_phase x.phase ≡ Sealed stamp → stamp ≡ x.last
      sealed' Loose is stamp e = let never : Loose ≡ Sealed stamp = sym (ap imaged_phase is) ∙ e in cc
      sealed' (Sealed g) is stamp e = let never : Imaged g ≡ Sealed stamp = sym (ap imaged_phase is) ∙ e in cc
      sealed' (Imaged g) is stamp e = let never : Imaged g ≡ Sealed stamp = sym (ap imaged_phase is) ∙ e in cc

      imaged_same : (g stamp : ℕ) → Imaged g ≡ Imaged stamp → g ≡ stamp
      imaged_same g stamp e = cc

      imaged' : (phase : Phase) → x.phase ≡ phase → (stamp : ℕ) → imaged_phase x.phase ≡ Imaged stamp → stamp ≡ x.last
      imaged' Loose is stamp e = let never : Loose ≡ Imaged stamp = sym (ap imaged_phase is) ∙ e in cc
      imaged' (Sealed g) is stamp e = sym (imaged_same g stamp (sym (ap imaged_phase is) ∙ e)) ∙ old.sealed g is
      imaged' (Imaged g) is stamp e = sym (imaged_same g stamp (sym (ap imaged_phase is) ∙ e)) ∙ old.imaged g is

  -- what a seal asks for gives what holds of a sealed body
  pub sealed_holds : (head : Bool) → seal_fault head x ≡ None → BodyHolds sh t (sealed x)
  sealed_holds head fine =
      let all = none_by (is_loose x.phase) head (has_row x) (is_front x.slots) (is_quiet x) x.cooling (x.last == last_stamp) fine in
      record {
        columns = old.columns;
        slots = old.slots;
        versions = old.versions;
        cooling = old.cooling;
        rested = old.rested;
        quiet = λ l. all.quiet;
        dense = λ l. ap (λ b. b && is_front x.slots) all.row ∙ all.front;
        sealed = λ stamp is. sym (same_stamp (x.last + 1) stamp is);
        imaged = λ stamp is. cc;
        rounds = old.rounds;
        last = stamp_left x.last old.last all.stamp;
      }
    where
      same_stamp : (g stamp : ℕ) → Sealed g ≡ Sealed stamp → g ≡ stamp
      same_stamp g stamp e = cc
