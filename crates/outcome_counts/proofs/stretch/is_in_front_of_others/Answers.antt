use Rattle.std.proofs.Common.{◌≡◌, ◌<◌, ℕ, List, Bool, false, nat_le, length, get_or, arith}
use Rattle.std.proofs.lemmas.Bool.Decides.{nat_tests}
use Rattle.order_laws.proofs.Pieces.{Parted}
use Rattle.order_laws.proofs.Places.{round-parts}
use Rattle.outcome_spec.specs.Entries.{Entry}
use Rattle.output_read.specs.Kept.{entries_of, entry_of}
use Rattle.output_read.specs.declared.kept.KeptReply.{KeptReply as Kept}
use Rattle.outcome_counts.proofs.Near.{back-fails}
use Rattle.outcome_counts.proofs.Parts.{parted-map}
use Rattle.outcome_counts.proofs.stretch.is_in_front_of_others.Goals as goal

pub returns : goal.returns
returns c = λ past.
    let xs : List Kept = c.args.replies.now in
    let round : ℕ = c.args.reply.now.round in
    let p : Kept → Bool = λ k. nat_le k.round round in
    let parted : Parted p xs = parted-map entry_of (λ (e : Entry). nat_le e.reply.round round) xs (round-parts (entry_of c.args.reply.now) (entries_of xs) c.requires.rises) in
    let at : Kept = get_or xs c.args.place c.index-replies-place.result in
    let fails : nat_le at.round round ≡ false = grind (arith, nat_tests, past) in
    let inside : c.args.place < length xs = omega (arith, c.requires.inside, c.if-place-replies.false) in
    back-fails p xs c.args.place c.index-replies-place.result parted inside fails
