-- How the calls of a disk in memory go on.
use Rattle.std.proofs.Common.{◌≡◌, ◌⊎◌, inl, inr, ⊎_elim, ℕ, zero, suc, ◌≤◌, List, [], ◌∷◌, ◌++◌}
use Rattle.std.proofs.Common.{length, drop, map, refl, sym, ◌∙◌, ap, subst, arith}
use Rattle.std.proofs.lemmas.List.{reverse-append}
use Rattle.std.specs.Prelude.{reverse}
use Rattle.byte_ports.specs.FaultPlan.{Plan}
use Rattle.disk_ports.specs.Crashes.{Elapses, Leaves, LeavesJust, NoMore}
use Rattle.disk_ports.specs.FileSteps.{Lays, Tears, TearsWithin}
use Rattle.disk_ports.specs.Memory.{Held, HeldAt, Step, Asked, Wrote, Synced, Goes, Waits, outcomes}
use Rattle.disk_ports.specs.Memory.{may_hold, held_since, step_of}
use Rattle.disk_ports.specs.declared.memory.Call.{Call}
use Rattle.disk_ports.proofs.Laying.{tears_laid, tears_same}

-- a call that is kept behind the others is the newest
pub past_push : (calls : List Call) (call : Call)
    → map step_of (reverse (calls ++ call ∷ [])) ≡ step_of call ∷ map step_of (reverse calls)
past_push calls call = ap (λ (l : List Call). map step_of l) (reverse-append calls (call ∷ []))

module _ (old new : Held) (waits : Waits old new) where
  back_to : (back : ℕ) (c : List ℕ) → outcomes new.first (drop back new.past) c
      → outcomes old.first (drop back old.past) c
  back_to back c left =
      subst (λ (p : List Step). outcomes old.first (drop back p) c) waits.past
      (subst (λ f. outcomes f (drop back new.past) c) waits.first left)

  pub no_more_waits : NoMore (may_hold old) (may_hold new)
  no_more_waits c (inl now) = inl (now ∙ waits.bytes)
  no_more_waits c (inr left) = inr (back_to 0 c left)

  pub leaves_waits : (at count : ℕ) → Leaves at count (may_hold old) (may_hold new)
  leaves_waits at count c now = (c, no_more_waits c now, tears_same at count c)

  pub elapses_waits : Elapses (length old.past) (length new.past) (held_since old) (held_since new) (may_hold new)
  elapses_waits = record {
    later = omega (arith, ap length waits.past);
    nothing_else = λ t c le left. ⊎_elim (λ now. inl (inl (now ∙ waits.bytes)))
        (λ was. inl (inr (record {
          back = was.back;
          from = subst (λ (p : List Step). t ≤ length (drop was.back p)) waits.past was.from;
          left = back_to was.back c was.left;
        }))) left;
    keeps = λ t c le left. ⊎_elim (λ now. inl (now ∙ sym waits.bytes))
        (λ was. inr (record {
          back = was.back;
          from = subst (λ (p : List Step). t ≤ length (drop was.back p)) (sym waits.past) was.from;
          left = subst (λ (p : List Step). outcomes new.first (drop was.back p) c) (sym waits.past)
              (subst (λ f. outcomes f (drop was.back old.past) c) (sym waits.first) was.left);
        })) left;
  }

module _ (step : Step) (old new : Held) (goes : Goes step old new) where
  onto : (back : ℕ) (c : List ℕ) → outcomes old.first (drop back (step ∷ old.past)) c
      → outcomes new.first (drop back new.past) c
  onto back c left =
      subst (λ (p : List Step). outcomes new.first (drop back p) c) (sym goes.past)
      (subst (λ f. outcomes f (drop back (step ∷ old.past)) c) (sym goes.first) left)

  pub from_new : (back : ℕ) (c : List ℕ) → outcomes new.first (drop back new.past) c
      → outcomes old.first (drop back (step ∷ old.past)) c
  from_new back c left =
      subst (λ (p : List Step). outcomes old.first (drop back p) c) goes.past
      (subst (λ f. outcomes f (drop back new.past) c) goes.first left)

  parted : (t : ℕ) (c : List ℕ) (back : ℕ) → t ≤ length (drop back (step ∷ old.past))
      → outcomes old.first (drop back (step ∷ old.past)) c → held_since old t c ⊎ may_hold new c
  parted t c zero le left = inr (inr (onto 0 c left))
  parted t c (suc back) le left = inl (inr (record { back = back; from = le; left = left }))

  kept : (t : ℕ) (c : List ℕ) (back : ℕ) → t ≤ length (drop back old.past)
      → outcomes old.first (drop back old.past) c → HeldAt new t c
  kept t c back le left = record {
    back = suc back;
    from = subst (λ (p : List Step). t ≤ length (drop (suc back) p)) (sym goes.past) le;
    left = onto (suc back) c left;
  }

  pub elapses_goes : Elapses (length old.past) (length new.past) (held_since old) (held_since new) (may_hold new)
  elapses_goes = record {
    later = omega (arith, ap length goes.past);
    nothing_else = λ t c le left. ⊎_elim (λ now. inr (inl now))
        (λ was. parted t c was.back
        (subst (λ (p : List Step). t ≤ length (drop was.back p)) goes.past was.from)
        (from_new was.back c was.left)) left;
    keeps = λ t c le left. inr (⊎_elim
        (λ now. kept t c zero le (subst (outcomes old.first old.past) (sym now) goes.was))
        (λ was. kept t c was.back was.from was.left) left);
  }

pub no_more_asked : (old new : Held) → Goes Asked old new → new.bytes ≡ old.bytes
    → NoMore (may_hold old) (may_hold new)
no_more_asked old new goes same c (inl now) = inl (now ∙ same)
no_more_asked old new goes same c (inr left) = inr (from_new Asked old new goes 0 c left)

-- a call that was counted first
pub goes_counted : (step : Held → Step) (old mid new : Held) (plan : Plan)
    → mid ≡ record old { plan = plan } → Goes (step mid) mid new
    → Goes (step (record old { plan = plan })) old new
goes_counted step old mid new plan counted goes =
    let g : Goes (step (record old { plan = plan })) (record old { plan = plan }) new =
    subst (λ h. Goes (step h) h new) counted goes in
    record { first = g.first; past = g.past; was = g.was }

-- a call that was counted and then found no memory
pub waits_refused : (old counted found new : Held) (plan after : Plan)
    → counted ≡ record old { plan = plan } → found ≡ counted
    → new ≡ record found { plan = after } → Waits old new
waits_refused old counted found new plan after count same refused = record {
  first = ap (λ (h : Held). h.first) refused ∙ ap (λ (h : Held). h.first) same
      ∙ ap (λ (h : Held). h.first) count;
  bytes = ap (λ (h : Held). h.bytes) refused ∙ ap (λ (h : Held). h.bytes) same
      ∙ ap (λ (h : Held). h.bytes) count;
  past = ap (λ (h : Held). h.past) refused ∙ ap (λ (h : Held). h.past) same
      ∙ ap (λ (h : Held). h.past) count;
}

-- nothing changed
pub waits_same : (old new : Held) → new ≡ old → Waits old new
waits_same old new same = record {
  first = ap (λ (h : Held). h.first) same;
  bytes = ap (λ (h : Held). h.bytes) same;
  past = ap (λ (h : Held). h.past) same;
}

-- the newest call is a write, by which the bytes were torn
pub leaves_wrote : (at : ℕ) (piece : List ℕ) (old new : Held) → Goes (Wrote at piece) old new
    → Tears at (length piece) old.bytes new.bytes
    → Leaves at (length piece) (may_hold old) (may_hold new)
leaves_wrote at piece old new goes torn c (inl now) =
    (old.bytes, inl refl, subst (Tears at (length piece) old.bytes) (sym now) torn)
leaves_wrote at piece old new goes torn c (inr left) =
    let from = from_new (Wrote at piece) old new goes 0 c left in
    (from.0, inr from.1, from.2)

-- the newest call is a sync of the bytes
pub just_synced : (old new : Held) → Goes (Synced old.bytes) old new → new.bytes ≡ old.bytes
    → LeavesJust (may_hold new) old.bytes
just_synced old new goes same c (inl now) = now ∙ same
just_synced old new goes same c (inr left) = from_new (Synced old.bytes) old new goes 0 c left

pub no_more_synced : (old new : Held) → Goes (Synced old.bytes) old new → new.bytes ≡ old.bytes
    → NoMore (may_hold old) (may_hold new)
no_more_synced old new goes same c now = inl (just_synced old new goes same c now)

-- a call that was kept
pub goes_kept : (step : Step) (old new : Held) → new ≡ record old { past = step ∷ old.past }
    → outcomes old.first old.past old.bytes → Goes step old new
goes_kept step old new kept was = record {
  first = ap (λ (h : Held). h.first) kept;
  past = ap (λ (h : Held). h.past) kept;
  was = was;
}

-- a write that was kept and changed no byte
pub leaves_kept : (at : ℕ) (kept piece : List ℕ) (old new : Held) → kept ≡ piece
    → Goes (Wrote at kept) old new → new.bytes ≡ old.bytes
    → Leaves at (length piece) (may_hold old) (may_hold new)
leaves_kept at kept piece old new is goes same =
    leaves_wrote at piece old new (subst (λ p. Goes (Wrote at p) old new) is goes)
    (subst (Tears at (length piece) old.bytes) (sym same) (tears_same at (length piece) old.bytes))

pub leaves_same : (at count : ℕ) (held : Held) → Leaves at count (may_hold held) (may_hold held)
leaves_same at count held c now = (c, now, tears_same at count c)

pub torn_same : (at count : ℕ) (old new : List ℕ) → new ≡ old → TearsWithin at count old new
torn_same at count old new same = record {
  tears = subst (Tears at count old) (sym same) (tears_same at count old);
  within = omega (arith, ap length same);
}

-- what a crash may leave behind a write that was laid
pub laid_outcomes : (old : Held) (first new : List ℕ) (past : List Step) (at : ℕ)
    (kept piece : List ℕ) → first ≡ old.first → past ≡ Wrote at kept ∷ old.past → kept ≡ piece
    → outcomes old.first old.past old.bytes → Lays at piece old.bytes new → outcomes first past new
laid_outcomes old first new past at kept piece first_is past_is is was laid =
    subst (λ (p : List Step). outcomes first p new) (sym past_is) (
      old.bytes,
      subst (λ f. outcomes f old.past old.bytes) (sym first_is) was,
      subst (λ k. Tears at (length k) old.bytes new) (sym is)
          (tears_laid at piece old.bytes new laid),
    )
