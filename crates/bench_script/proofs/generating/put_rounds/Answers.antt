use Rattle.std.proofs.Common.{◌≡◌, ℕ, ◌%◌, ◌++◌, ◌∷◌, [], List, Bool, true, false, ap, ap₂, sym, ◌∙◌, append_assoc, arith}
use Rattle.std.specs.Prelude.{◌==◌, if◌then◌else◌}
use Rattle.std.proofs.lemmas.Bool.{eq-eqb}
use Rattle.std.proofs.lemmas.Bool.Decides.{nat_tests}
use Rattle.workload_spec.specs.declared.script.Line.{Line}
use Rattle.bench_spec.specs.Generated.{rounds_at, upkeep_round, write_round}
use Rattle.bench_script.proofs.generating.put_rounds.Goals as goal

-- the rounds, by the test whether there is upkeep
rounds_by : (seed round : ℕ) (b : Bool) → (round % 16 == 0) ≡ b → write_round seed round ∷ (if b then upkeep_round round ∷ [] else []) ≡ rounds_at seed round
rounds_by seed round b is = ap (λ (c : Bool). write_round seed round ∷ (if c then upkeep_round round ∷ [] else [])) (sym is)

no_rest : (n : ℕ) → (n ≡ 0 → ⊥) → (n == 0) ≡ false
no_rest n other = grind (arith, nat_tests)

pub returns-in_ok-push-2-clause-rounds : goal.returns-in_ok-push-2-clause-rounds
returns-in_ok-push-2-clause-rounds c =
    let seed = c.args.draws.now.seed in
    let round = c.args.round in
    let old = c.args.out.now.items in
    c.in_ok-push-2.ensures.items
    ∙ ap₂ (λ (rounds : List (List Line)) (upkeep : List Line). rounds ++ upkeep ∷ []) (c.in_ok-push.ensures.items ∙ ap (λ (lines : List Line). old ++ lines ∷ []) c.in_ok-write_round.ensures.lines) c.in_ok-upkeep_round.ensures
    ∙ append_assoc old (write_round seed round ∷ []) (upkeep_round round ∷ [])
    ∙ ap (λ (rounds : List (List Line)). old ++ rounds) (rounds_by seed round true (eq-eqb (round % 16) 0 c.if-round-eq0.true))

pub returns-else-round-eq0-clause-rounds : goal.returns-else-round-eq0-clause-rounds
returns-else-round-eq0-clause-rounds c =
    let seed = c.args.draws.now.seed in
    let round = c.args.round in
    let old = c.args.out.now.items in
    c.in_ok-push.ensures.items ∙ ap (λ (lines : List Line). old ++ lines ∷ []) c.in_ok-write_round.ensures.lines
    ∙ ap (λ (rounds : List (List Line)). old ++ rounds) (rounds_by seed round false (no_rest (round % 16) c.if-round-eq0.false))
