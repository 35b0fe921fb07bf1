use Rattle.std.proofs.Common.{◌≡◌, ℕ, Bool, true, cond, is_some, length, ap, ◌∙◌, arith}
use Rattle.isolation_spec.specs.Contents.{at_place}
use Rattle.shared_store.specs.KeptCommits.{WritesView}
use Rattle.shared_store.proofs.session_writes.SessionWrites.lay.Goals as goal

pub invariant_of-self : goal.invariant_of-self
invariant_of-self c =
    let room = c.self.invariant in
    let there : is_some c.in-Ok.field-0 ≡ true =
    ap is_some c.in-Ok.ensures.old ∙ ap (λ (w : WritesView). is_some (at_place w.own c.args.place)) c.self.view_is ∙ c.requires in
    let one = ap (λ (b : Bool). cond {A = ℕ} b 0 1) there in
    let len = c.in-Ok.ensures.len in
    let same : length c.insert.new.self.entries ≡ length c.self.inside.own.entries = omega (arith, len, one) in
    let writes = room.2.writes in (
      room.0,
      room.1,
      record {
        writes = omega (arith, writes, same);
        commit = λ some. room.2.commit (omega (arith, some, same));
        next = λ some behind. room.2.next (omega (arith, some, same)) behind;
      },
    )
