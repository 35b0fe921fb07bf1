-- What a work that is flushed, or has no log, tells of one.
use Rattle.std.proofs.Common.{◌≡◌, ℕ, true, ap, refl, subst, sym, ◌∙◌, inl, inr}
use Rattle.program.specs.Flushed.{FlushEnds}
use Rattle.program.specs.Outcome.{Outside, TellsFaults, has_read}
use Rattle.program.specs.declared.status.Status.{Status}
use Rattle.program.specs.declared.status.Status.TheVariants as status

-- What holds behind a log that was read holds where the flush is done too.
pub stays_flushed : (worked ended : Status) (before now : ℕ) (P : Type 0)
    → FlushEnds worked ended before now → (has_read worked ≡ true → P) → has_read ended ≡ true → P
stays_flushed worked ended before now P (inl stands) stays is =
    stays (ap has_read (sym stands.same) ∙ is)
stays_flushed worked ended before now P (inr turns) stays is =
    absurd (
    let fault : has_read status.OutFault ≡ true = ap has_read (sym turns.told) ∙ is in
    let never : ⊥ = cc in
    never
    )

-- A work that never ends with a fault of the log tells none.
pub no_log_fault : (Ends : Status → Outside → Outside → Type 0)
    → ((before now : Outside) → Ends status.LogFault before now → ⊥)
    → (ended : Status) (before now : Outside) → Ends ended before now
    → (faults : ℕ) → TellsFaults status.LogFault ended faults faults
no_log_fault Ends never ended before now ends faults = record {
  told = λ is. absurd (never before now (subst (λ s. Ends s before now) is ends));
  kept = λ other. refl;
}
