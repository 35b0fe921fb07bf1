use Rattle.std.proofs.Common.{◌≡◌, ◌∙◌, ℕ, List, ap, subst, sym, map, length, arith}
use Rattle.isolation_spec.specs.Contents.{WriteSet}
use Rattle.isolation_spec.specs.Machine.{Transaction}
use Rattle.timeline_laws.proofs.Machine.{begun}
use Rattle.si_machine.specs.Kept.{Belongs, machine_in, transaction_in}
use Rattle.si_machine.proofs.Parts.{map-push, length-kept}
use Rattle.si_machine.proofs.Steps.{belongs-begun, machine_with}
use Rattle.si_machine.proofs.ledger.Ledger.begin.Goals as goal

pub returns-clause-kept : goal.returns-clause-kept
returns-clause-kept c =
    let before = c.args.self.now in
    let seen : c.len-snapshot.result ≡ length (machine_in before).history = omega (arith, c.len-snapshot.ensures, before.commits.ok.0, length-kept (λ writes. writes.entries) before.commits.items) in
    let more : map transaction_in c.push.new.self.items ≡ (begun c.args.session (machine_in before)).open_transactions =
    ap (map transaction_in) c.in_ok-push.ensures.items ∙ map-push transaction_in before.transactions.items _
    ∙ ap (λ (n : ℕ). (machine_with (machine_in before) c.args.session n c.new.result.entries).open_transactions) seen
    ∙ ap (λ (own : WriteSet). (machine_with (machine_in before) c.args.session (length (machine_in before).history) own).open_transactions) c.new.ensures.empty in
    subst (λ (ts : List Transaction). Belongs (record (machine_in before) { open_transactions = ts }) before.writers) (sym more)
    (belongs-begun c.args.session (machine_in before) before.writers c.requires.none c.requires.kept)
