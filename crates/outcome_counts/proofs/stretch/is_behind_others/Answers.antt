use Rattle.std.proofs.Common.{◌≡◌, ◌-◌, suc, ℕ, List, Bool, true, take, subst, arith}
use Rattle.std.specs.List.{list_all}
use Rattle.order_laws.specs.Sides.{is_past}
use Rattle.order_laws.proofs.Pieces.{Parted}
use Rattle.order_laws.proofs.Places.{past-parts}
use Rattle.output_read.specs.Kept.{entries_of, entry_of}
use Rattle.output_read.specs.declared.kept.KeptReply.{KeptReply as Kept}
use Rattle.outcome_counts.proofs.Near.{front-passes}
use Rattle.outcome_counts.proofs.Parts.{parted-map}
use Rattle.outcome_counts.proofs.stretch.is_behind_others.Goals as goal

pub returns : goal.returns
returns c = λ past.
    let xs : List Kept = c.args.replies.now in
    let p : Kept → Bool = λ k. is_past (entry_of c.args.reply.now) (entry_of k) in
    let parted : Parted p xs = parted-map entry_of (is_past (entry_of c.args.reply.now)) xs (past-parts (entry_of c.args.reply.now) (entries_of xs) c.requires.rises) in
    let e : suc (c.args.place - 1) ≡ c.args.place = omega (arith, c.if-place-eq0.false) in
    subst (λ (n : ℕ). list_all p (take n xs) ≡ true) e
    (front-passes p xs (c.args.place - 1) c.index-replies-place.result parted (omega (arith, c.requires.inside, c.if-place-eq0.false)) past)
