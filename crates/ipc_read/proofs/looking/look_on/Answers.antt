use Rattle.std.proofs.Common.{◌≡◌, [], sym, ◌∙◌, length, vec_len}
use Rattle.std.proofs.lemmas.Bool.{eqb-true}
use Rattle.std.proofs.lemmas.List.{nil_from_length}
use Rattle.ipc_read.proofs.looking.look_on.Goals as goal

pub returns-then-is_empty-clause-found : goal.returns-then-is_empty-clause-found
returns-then-is_empty-clause-found g c =
    let begun = c.args.begun.now in
    let long : vec_len begun ≡ length begun.items = begun.ok.0 in
    let empty : vec_len begun ≡ 0 =
    eqb-true (vec_len begun) 0 (sym c.is_empty.ensures ∙ c.if-is_empty.true) in
    let none : begun.items ≡ [] = nil_from_length begun.items (sym long ∙ empty) in
    rw none c.look_at.ensures.found
