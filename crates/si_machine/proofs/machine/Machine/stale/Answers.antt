use Rattle.std.proofs.Common.{◌≡◌, ◌∙◌, ℕ, eqb, List, None, Option, Some, ap, sym}
use Rattle.std.specs.Prelude.{option_map, position}
use Rattle.isolation_spec.specs.Checked.{CheckedMachine, Reading, reads_of, stale_of}
use Rattle.isolation_spec.specs.declared.command.Act.TheVariants as act
use Rattle.isolation_spec.specs.declared.read.Read.{Read}
use Rattle.isolation_laws.proofs.Checked.{plain-stands}
use Rattle.si_machine.specs.declared.reads.Reading.{Reading as KeptReading}
use Rattle.si_machine.specs.Kept.{machine_in}
use Rattle.si_machine.specs.Readings.{reading_in}
use Rattle.si_machine.proofs.Readings.{found-kept, missed-kept}
use Rattle.si_machine.proofs.machine.Machine.stale.Goals as goal

-- Why the session's commit is refused where these are its reads.
abbrev refused_in : ℕ → CheckedMachine → Option (Read × ℕ)
refused_in session checked = stale_of checked.machine (reads_of session checked) session act.Commit

pub returns-in_err-at : goal.returns-in_err-at
returns-in_err-at c =
    let machine = machine_in c.self.inside.ledger in
    let items : List KeptReading = c.self.inside.readings.items in
    let told : c.reading_of.result ≡ position (λ (r : KeptReading). eqb r.session c.args.session) c.deref.result.now = c.reading_of.ensures in
    let none : position (λ (r : KeptReading). eqb r.session c.args.session) items ≡ None =
    ap (position (λ (r : KeptReading). eqb r.session c.args.session)) (sym c.deref.ensures.value) ∙ sym told ∙ c.in_err-at.was in
    c.from_residual.ensures
    ∙ sym
    (ap (refused_in c.args.session) (sym c.self.view_is)
    ∙ ap (λ (found : Option Reading). stale_of machine (option_map (λ (r : Reading). r.reads) found) c.args.session act.Commit) (missed-kept c.args.session items none)
    ∙ plain-stands machine c.args.session)

pub returns : goal.returns
returns c =
    let machine = machine_in c.self.inside.ledger in
    let items : List KeptReading = c.self.inside.readings.items in
    let reading : KeptReading = c.index.result.now in
    let told : c.reading_of.result ≡ position (λ (r : KeptReading). eqb r.session c.args.session) c.deref.result.now = c.reading_of.ensures in
    let some : position (λ (r : KeptReading). eqb r.session c.args.session) items ≡ Some c.in_ok-at.at =
    ap (position (λ (r : KeptReading). eqb r.session c.args.session)) (sym c.deref.ensures.value) ∙ sym told ∙ c.in_ok-at.was in
    let judged : c.stale.result ≡ stale_of machine (Some reading.reads) c.args.session act.Commit = c.stale.ensures in
    judged
    ∙ sym
    (ap (refused_in c.args.session) (sym c.self.view_is)
    ∙ ap (λ (found : Option Reading). stale_of machine (option_map (λ (r : Reading). r.reads) found) c.args.session act.Commit)
    ((found-kept c.args.session items c.in_ok-at.at reading some).0 ∙ ap (λ (r : KeptReading). Some (reading_in r)) (sym c.index.ensures)))
