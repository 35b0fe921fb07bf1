use Rattle.std.proofs.Common.{refl, sym, ap, ◌∙◌, Option, Some, List, ℕ, length, subst, arith}
use Rattle.std.specs.Prelude.{option_map}
use Rattle.output_read.specs.declared.reader.Front.{Front}
use Rattle.output_read.specs.declared.reader.Heading.{Heading}
use Rattle.output_read.specs.Fronts.{said_first}
use Rattle.outcome_spec.specs.Lines.{lines_of}
use Rattle.output_read.specs.Readers.{lines_left}
use Rattle.output_read.specs.Threads.{ThreadGoes}
use Rattle.output_read.proofs.SessionReplies.{heading-low, nothing-fails, other-fails, single-goes}
use Rattle.output_read.proofs.reader.Reader.single_reply.Goals as goal

pub returns-in_default-clause-failed : goal.returns-in_default-clause-failed
returns-in_default-clause-failed c =
    nothing-fails c.args.self.now c.args.thread c.args.command.now c.requires.tables c.requires.reading c.requires.thread c.requires.command
    (sym (ap (λ (f : Option Front). option_map (λ x. x.said) f) c.in_default.is) ∙ c.in_ok-front.ensures.said ∙ ap (λ (h : Heading). said_first c.args.self.now.tables.now h.round h.who h.index (lines_left c.args.self.now)) c.next_heading-heading.ensures)
    c.requires.count

pub returns-then-not-answers-clause-failed : goal.returns-then-not-answers-clause-failed
returns-then-not-answers-clause-failed c =
    other-fails c.args.self.now c.args.thread c.args.command.now c.requires.tables c.requires.reading c.requires.thread c.requires.command c.in-Some.front.said
    (sym (ap (λ (f : Option Front). option_map (λ x. x.said) f) c.in-Some.is) ∙ c.in_ok-front.ensures.said ∙ ap (λ (h : Heading). said_first c.args.self.now.tables.now h.round h.who h.index (lines_left c.args.self.now)) c.next_heading-heading.ensures)
    c.requires.count (sym c.if-not-answers.ensures)

pub keep-requires : goal.keep-requires
keep-requires c =
    let a = c.requires.reading.room in
    let b = rw c.in-Some.is at c.in_ok-front.ensures.shorter in
    let d = heading-low c.args.self.now c.args.thread c.args.command.now c.requires.tables c.requires.reading c.requires.thread c.requires.command in
    let e = ap (λ (h : Heading). h.index) c.next_heading-heading.ensures in
    record { room = omega (arith, a, b); number = omega (arith, a, b); index = omega (arith, a, b, d, e) }

pub returns-clause-read : goal.returns-clause-read
returns-clause-read c =
    let h = c.next_heading-heading.ensures in
    let said_is = sym (ap (λ (f : Option Front). option_map (λ x. x.said) f) c.in-Some.is) ∙ c.in_ok-front.ensures.said ∙ ap (λ (h : Heading). said_first c.args.self.now.tables.now h.round h.who h.index (lines_left c.args.self.now)) h in
    let behind_is = rw c.in-Some.is at c.in_ok-front.ensures.behind in
    let shorter_is = rw c.in-Some.is at c.in_ok-front.ensures.shorter in
    let rest_is = c.in_ok-keep.ensures.rest in
    let goes = single-goes c.args.self.now c.args.thread c.args.command.now c.requires.tables c.requires.reading c.requires.thread c.requires.command
    c.keep.new.self _ c.in-Some.front.said c.within_behind-within.result
    (record {
      tables = c.keep.ensures.tables;
      items = c.in_ok-keep.ensures.kept;
      line = c.in_ok-keep.ensures.line;
      rest = ap lines_of rest_is ∙ sym behind_is;
      shorter = let e = ap (λ (xs : List ℕ). length xs) rest_is in omega (arith, e, shorter_is);
      some = omega arith;
    })
    (ap (λ (x : Heading). record { number = c.args.self.now.line; command = Some c.args.command; round = x.round; who = x.who; index = x.index; told = c.in_ok-told.told }) h)
    refl c.in_ok-told.ensures.said c.in_ok-told.ensures.told c.within_behind-within.ensures said_is (sym c.if-not-answers.ensures) in
    subst (λ (x : Heading). ThreadGoes c.args.self.now c.keep.new.self c.args.thread (record { round = c.args.thread.round; session = c.args.thread.session; index = x.index; within = c.within_behind-within.result }) c.args.command.now) (sym h) goes
