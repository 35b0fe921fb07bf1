use Rattle.std.proofs.Common.{◌≡◌, ◌^◌, ◌≤◌, ◌∙◌, List, ℕ, length, take, sym, ap, subst, arith, vec_len}
use Rattle.std.proofs.Common.{length-append}
use Rattle.std.proofs.lemmas.List.{take_at}
use Rattle.std.specs.Io.KnownBytes.{Consumes}
use Rattle.std.proofs.KnownBytes.{Consumes-trans}
use Rattle.program.proofs.Shown.{ends-at-once, ends-too-long, ends-with-fault, ends-with-input}
use Rattle.program.proofs.Shown.{ends-with-piece, nothing-more, shown-next, shows-open}
use Rattle.program.proofs.showing.show.Goals as goal

pub returns-in_default-clause-ends : goal.returns-in_default-clause-ends
returns-in_default-clause-ends g c = λ exported started.
    ends-at-once (g.S.Source.left c.args.source.now) (g.O.Sink.written c.args.out.now) exported
    started

pub returns-in-Err-clause-ends : goal.returns-in-Err-clause-ends
returns-in-Err-clause-ends g c = λ exported started.
    let before = g.O.Sink.written c.args.out.now in
    let printed = g.O.Sink.written c.loop-total.out in
    let so = c.loop-total.invariant.shown in
    ends-with-fault (g.S.Source.left c.args.source.now) (g.S.Source.left c.read.new.self) before
    printed exported started so.fed (shows-open before so.fed c.loop-total.showing printed so.from)
    (g.S.Source.left c.loop-total.source) so.read c.in-Err.ensures.bytes so.from.grown

pub returns-then-count-eq0-clause-ends : goal.returns-then-count-eq0-clause-ends
returns-then-count-eq0-clause-ends g c = λ exported started.
    let before = g.O.Sink.written c.args.out.now in
    let left = g.S.Source.left c.args.source.now in
    let then = g.S.Source.left c.loop-total.source in
    let end = g.S.Source.left c.read.new.self in
    let printed = g.O.Sink.written c.loop-total.out in
    let so = c.loop-total.invariant.shown in
    ends-with-input left end before (g.O.Sink.written c.show_end.new.out) exported started so.fed
    (shows-open before so.fed c.loop-total.showing printed so.from) c.show_end.result
    (nothing-more left then end so.fed _ _ c.if-count-eq0.true so.read c.in-Ok-read.ensures.bytes.0)
    (c.in-Ok-read.ensures.bytes.1 c.if-count-eq0.true
    (omega (arith, c.loop-total.invariant.room, c.as_mut_slice.ensures.len, c.read.auto.buf)))
    (omega (arith, so.total_is, c.loop-total-test.true))
    (c.show_end.ensures.ends before so.fed so.from)

pub returns-in-Some-clause-ends : goal.returns-in-Some-clause-ends
returns-in-Some-clause-ends g c = λ exported started.
    let before = g.O.Sink.written c.args.out.now in
    let left = g.S.Source.left c.args.source.now in
    let then = g.S.Source.left c.loop-total.source in
    let rest = g.S.Source.left c.read.new.self in
    let printed = g.O.Sink.written c.loop-total.out in
    let so = c.loop-total.invariant.shown in
    let piece = c.split_at.result.0.now in
    let filled : length c.read.new.buf ≡ vec_len c.loop-total.piece =
    omega (arith, c.read.auto.buf, c.as_mut_slice.ensures.len) in
    let front : piece ≡ take c.in-Ok-read.count c.read.new.buf =
    c.split_at.ensures.front
    ∙ ap (λ (all : List ℕ). take c.in-Ok-read.count all)
    (c.deref.ensures.value ∙ take_at c.read.new.buf _ _ filled) in
    let small : length piece ≤ 2 ^ 16 =
    omega (
      arith,
      c.split_at.ensures.front_len,
      c.in-Ok-read.ensures.bound,
      c.loop-total.invariant.room,
      c.as_mut_slice.ensures.len,
      c.read.auto.buf,
    ) in
    ends-with-piece left rest before (g.O.Sink.written c.show_piece.new.out) exported started so.fed
    (shows-open before so.fed c.loop-total.showing printed so.from) piece c.in-Some.ended
    (Consumes-trans left then rest so.fed piece so.read
    (subst (λ (p : List ℕ). Consumes then rest p) (sym front) c.in-Ok-read.ensures.bytes.0))
    small
    (omega (arith, small, so.total_is, c.loop-total-test.true, length-append so.fed piece))
    (c.in-Some.ensures.ends before so.fed so.from)

pub loop-total-preserved : goal.loop-total-preserved
loop-total-preserved g c =
    let before = g.O.Sink.written c.args.out.now in
    let left = g.S.Source.left c.args.source.now in
    let then = g.S.Source.left c.loop-total.source in
    let rest = g.S.Source.left c.read.new.self in
    let printed = g.O.Sink.written c.loop-total.out in
    let so = c.loop-total.invariant.shown in
    let piece = c.split_at.result.0.now in
    let filled : length c.read.new.buf ≡ vec_len c.loop-total.piece =
    omega (arith, c.read.auto.buf, c.as_mut_slice.ensures.len) in
    let front : piece ≡ take c.in-Ok-read.count c.read.new.buf =
    c.split_at.ensures.front
    ∙ ap (λ (all : List ℕ). take c.in-Ok-read.count all)
    (c.deref.ensures.value ∙ take_at c.read.new.buf _ _ filled) in
    let none = c.in_default-show_piece.is in
    record {
      room = c.loop-total.invariant.room;
      shown = shown-next left then rest before printed (g.O.Sink.written c.show_piece.new.out)
          c.loop-total.showing c.show_piece.new.showing c.loop-total.total c.in-Ok-read.count piece
          so
          (subst (λ (p : List ℕ). Consumes then rest p) (sym front) c.in-Ok-read.ensures.bytes.0)
          (c.show_piece.ensures.goes_on before so.fed so.from none)
          (c.show_piece.ensures.rows none)
          c.split_at.ensures.front_len
          (omega (arith, c.if-count-eq0.false));
      read_faults = c.in-Ok-read.ensures.kept ∙ c.loop-total.invariant.read_faults;
      out_faults = c.show_piece.ensures.kept none ∙ c.loop-total.invariant.out_faults;
    }

pub returns-clause-ends : goal.returns-clause-ends
returns-clause-ends g c = λ exported started.
    let before = g.O.Sink.written c.args.out.now in
    let printed = g.O.Sink.written c.loop-total.out in
    let so = c.loop-total.invariant.shown in
    ends-too-long (g.S.Source.left c.args.source.now) (g.S.Source.left c.loop-total.source) before
    printed exported started so.fed (shows-open before so.fed c.loop-total.showing printed so.from)
    so.read (omega (arith, so.total_is, c.loop-total-test.false)) so.from.grown
